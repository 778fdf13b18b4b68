use Rattle.std.proofs.Common.{Some, None}
use mathlib.Core.Path.{◌≡◌, sym, ap, ◌∙◌}
use mathlib.Core.Bool.{Bool, true, false}
use Rattle.terms.specs.declared.Refusal.{Refusal}
use Rattle.terms.specs.Refusal.{required}
use Rattle.records.specs.declared.Record.{Record}
use Rattle.record_moves.specs.Named.{place_of, with_table, with_record}
use Rattle.server_reports.specs.Step1.{named_by, report_fits}
use Rattle.server_reports.proofs.ReportLaws.{fits_found, unfit, fit_none, fit_some}
use Rattle.server_reports.proofs.take_report.Goals as goal
use Rattle.server_reports.proofs.take_report.Goals.{In-Some}

found : (c : In-Some) → place_of c.args.s.now (named_by c.args.r.now) ≡ Some c.in-Some.i
found c = sym c.place_of.ensures.found ∙ c.in-Some.is

pub returns-then-not-fits : goal.returns-then-not-fits
returns-then-not-fits c =
    let is : report_fits c.args.r.now c.args.s.now ≡ false = fits_found _ _ _ (found (goal.at.returns-then-not-fits c).In-Some) ∙ sym c.fits.ensures ∙ c.if-not-fits.true in
    record { said = ap (λ (b : Bool). required b Refusal.Unlawful) (sym is); records = unfit _ _ is }

pub returns-else-not-fits : goal.returns-else-not-fits
returns-else-not-fits c =
    let here = found (goal.at.returns-else-not-fits c).In-Some in
    let is : report_fits c.args.r.now c.args.s.now ≡ true = fits_found _ _ _ here ∙ sym c.fits.ensures ∙ c.if-not-fits.false in
    record {
      said = ap (λ (b : Bool). required b Refusal.Unlawful) (sym is);
      records = ap (with_table c.args.s.now) c.put.ensures ∙ ap (λ (y : Record). with_record c.args.s.now c.in-Some.i y) c.tell.ensures ∙ fit_some _ _ _ here is;
    }

pub returns-in_default : goal.returns-in_default
returns-in_default c =
    let none : place_of c.args.s.now (named_by c.args.r.now) ≡ None = sym c.place_of.ensures.found ∙ c.in_default.is in
    record { said = ap (λ (b : Bool). required b Refusal.Unlawful) (sym (fits_found _ _ _ none)); records = fit_none _ _ none }
