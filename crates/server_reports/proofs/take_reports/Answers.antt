use Rattle.lists.proofs.EntryLaws.{no_entry}
use Rattle.std.proofs.Common.{Err, arith, sym, ap, ◌∙◌}
use Rattle.std.proofs.lemmas.Result.{err_from_is_err_and}
use Rattle.terms.proofs.RefusalLaws.{refused_for}
use Rattle.server_reports.specs.Step1.{report, report_fits}
use Rattle.server_reports.proofs.Cases.{up_to_next, up_to_all, up_to_unfit}
use Rattle.server_reports.proofs.take_reports.Goals as goal

pub loop-r-preserved : goal.loop-r-preserved
loop-r-preserved c = up_to_next report_fits report _ _ c.loop-r.invariant no_entry _ _ (omega arith) (sym c.take_report.ensures.said ∙ c.in_ok-take_report.was) c.take_report.ensures.records

pub returns-in_err-take_report : goal.returns-in_err-take_report
returns-in_err-take_report c =
    let none = up_to_unfit report_fits report _ _ c.loop-r.invariant no_entry _ _ (omega arith) (sym c.take_report.ensures.said ∙ c.in_err-take_report.was) in
    let p = err_from_is_err_and c.from_residual.result c.from_residual.ensures.1 in
    record { said = p.1 ∙ ap Err (p.2 ∙ refused_for _ _ _ (sym c.take_report.ensures.said ∙ c.in_err-take_report.was)) ∙ none.said; records = none.records }

pub returns : goal.returns
returns c = let all = up_to_all report_fits report _ _ c.loop-r.invariant (omega arith) in record { said = all.said; records = all.records }
