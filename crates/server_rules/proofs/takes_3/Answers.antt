use Prim.Native.Nat.{ℕ, ◌≤◌}
use Rattle.std.proofs.Common.{Ok, Err}
use Rattle.std.proofs.lemmas.Result.{err_from_is_err_and}
use mathlib.Core.Path.{◌≡◌, sym, ap, ◌∙◌}
use mathlib.Core.List.{List}
use Rattle.terms.specs.declared.Refusal.{Refusal}
use Rattle.terms.specs.declared.Check.TheVariants.{Pass, Fail}
use Rattle.terms.proofs.CheckLaws.{goes_on, stops}
use Rattle.terms.proofs.RefusalLaws.{goes_on_ok, stops_err, refused_for, passed_ok}
use Rattle.lists.specs.declared.Entry.{Entry}
use Rattle.records.specs.declared.Records.{Records}
use Rattle.records.specs.declared.Server.{Server}
use Rattle.packages.specs.Package.{answers_in}
use Rattle.server_judges.specs.Lawful.{lawful3}
use Rattle.server_judges.proofs.LawfulLaws.{lawful_counts}
use Rattle.server_reports.specs.Step1.{report, report_fits, reported}
use Rattle.server_rules.specs.Took.{Took, refused, said_of, server_with}
use Rattle.server_rules.specs.Pkg3.{merges, server_takes3}
use Rattle.server_rules.proofs.SaidLaws.{answer_of, went_on, was_refused, refused_as, as_they_were}
use Rattle.server_rules.proofs.takes_3.Goals as goal

pub returns-in_err-check_3 : goal.returns-in_err-check_3
unfolding server_takes3
returns-in_err-check_3 c =
    let no = sym c.check_3.ensures ∙ c.in_err-check_3.was in
    let all : server_takes3 c.args.mode c.args.server.now c.args.p.now ≡ refused c.args.server.now = stops_err _ _ _ _ _ no in
    let p = err_from_is_err_and c.from_residual.result c.from_residual.ensures.1 in
    record { said = p.1 ∙ ap Err (p.2 ∙ refused_for _ _ _ no) ∙ sym (ap said_of all); side = sym (ap (λ (t : Took). t.server) all) }

pub returns-in_err-take_reports : goal.returns-in_err-take_reports
unfolding server_takes3
returns-in_err-take_reports c =
    let s = c.args.server.now in
    let rs = answers_in c.args.p.now in
    let said : answer_of (reported rs s.records).check Refusal.Unlawful ≡ Err c.in_err-take_reports.field-0.0 =
    sym (c.take_reports.ensures.said ∙ ap (λ (xs : List Entry). answer_of (reported xs s.records).check Refusal.Unlawful) c.answers.ensures.kept) ∙ c.in_err-take_reports.was in
    let fail : (reported rs s.records).check ≡ Fail = was_refused _ _ _ said in
    let all : server_takes3 c.args.mode s c.args.p.now ≡ refused s = goes_on_ok _ _ _ _ _ (sym c.check_3.ensures ∙ c.in_ok-check_3.was) ∙ stops _ _ _ fail in
    let kept : c.take_reports.new.s ≡ s.records = c.take_reports.ensures.records ∙ ap (λ (xs : List Entry). (reported xs s.records).records) c.answers.ensures.kept ∙ as_they_were report_fits report rs s.records fail in
    let p = err_from_is_err_and c.from_residual-in_err-take_reports.result c.from_residual-in_err-take_reports.ensures.1 in
    record {
      said = p.1 ∙ ap Err (p.2 ∙ refused_as _ _ _ said) ∙ sym (ap said_of all);
      side = ap (λ (r : Records). server_with s.rule r s.link.anchor s.link.session s.link.awaits) kept ∙ sym (ap (λ (t : Took). t.server) all);
    }

pub merge_all-requires-clause-answered : goal.merge_all-requires-clause-answered
merge_all-requires-clause-answered c = (lawful_counts c.args.mode c.args.p.now (passed_ok _ _ _ (sym c.check_3.ensures ∙ c.in_ok-check_3.was))).0

pub merge_all-requires-clause-commanded : goal.merge_all-requires-clause-commanded
merge_all-requires-clause-commanded c = (lawful_counts c.args.mode c.args.p.now (passed_ok _ _ _ (sym c.check_3.ensures ∙ c.in_ok-check_3.was))).1

pub returns : goal.returns
unfolding server_takes3
returns c =
    let m = c.args.mode in
    let s = c.args.server.now in
    let x = c.args.p.now in
    let rs = answers_in x in
    let said : answer_of (reported rs s.records).check Refusal.Unlawful ≡ Ok c.in_ok-take_reports.field-0 =
    sym (c.take_reports.ensures.said ∙ ap (λ (xs : List Entry). answer_of (reported xs s.records).check Refusal.Unlawful) c.answers.ensures.kept) ∙ c.in_ok-take_reports.was in
    let pass : (reported rs s.records).check ≡ Pass = went_on _ _ _ said in
    let all : server_takes3 m s x ≡ merges m s x (reported rs s.records).records = goes_on_ok _ _ _ _ _ (sym c.check_3.ensures ∙ c.in_ok-check_3.was) ∙ goes_on _ _ _ pass in
    let done = c.merge_all.ensures ∙ ap (λ (r : Records). merges m s x r) (c.take_reports.ensures.records ∙ ap (λ (xs : List Entry). (reported xs s.records).records) c.answers.ensures.kept) ∙ sym all in
    record { said = ap said_of done; side = ap (λ (t : Took). t.server) done }
