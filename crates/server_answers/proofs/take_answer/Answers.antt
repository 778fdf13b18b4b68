use Rattle.std.proofs.Common.{Some, None}
use mathlib.Core.Path.{◌≡◌, sym, ap, ◌∙◌}
use mathlib.Core.Bool.{Bool, true, false}
use Rattle.records.specs.declared.Record.{Record}
use Rattle.places.specs.Act.{Slot, put_at}
use Rattle.terms.specs.declared.Refusal.{Refusal}
use Rattle.terms.specs.Refusal.{required}
use Rattle.record_moves.specs.Named.{table_of, with_table, place_of}
use Rattle.server_answers.specs.Answer.{offered_in, answer_fits}
use Rattle.server_answers.proofs.AnswerLaws.{fits_found, fits_none, unfit, fit_none, fit_some}
use Rattle.server_answers.proofs.take_answer.Goals as goal
use Rattle.server_answers.proofs.take_answer.Goals.{In-Some}

found : (c : In-Some) → place_of c.args.s.now (offered_in c.args.o.now) ≡ Some c.in-Some.i
found c = sym c.with_guid.ensures.found ∙ c.in-Some.is

pub returns-then-not-fits : goal.returns-then-not-fits
returns-then-not-fits c =
    let is : answer_fits (c.args.o.now, c.args.a.now) c.args.s.now ≡ false = fits_found _ _ _ _ c.of-name.ensures (found (goal.at.returns-then-not-fits c).In-Some) ∙ sym c.fits.ensures ∙ c.if-not-fits.true in
    record { said = ap (λ (b : Bool). required b Refusal.Unlawful) (sym is); records = unfit _ _ is }

pub returns-else-not-fits : goal.returns-else-not-fits
returns-else-not-fits c =
    let here = found (goal.at.returns-else-not-fits c).In-Some in
    let is : answer_fits (c.args.o.now, c.args.a.now) c.args.s.now ≡ true = fits_found _ _ _ _ c.of-name.ensures here ∙ sym c.fits.ensures ∙ c.if-not-fits.false in
    record {
      said = ap (λ (b : Bool). required b Refusal.Unlawful) (sym is);
      records =
          ap (with_table c.args.s.now) (c.put.ensures ∙ ap (λ (y : Slot Record). put_at (table_of c.args.s.now) c.in-Some.i y) c.after_answer.ensures)
          ∙ fit_some _ _ _ _ c.of-name.ensures here is;
    }

pub returns-in_default : goal.returns-in_default
returns-in_default c =
    let none : place_of c.args.s.now (offered_in c.args.o.now) ≡ None = sym c.with_guid.ensures.found ∙ c.in_default.is in
    record { said = ap (λ (b : Bool). required b Refusal.Unlawful) (sym (fits_none (c.args.o.now, c.args.a.now) c.args.s.now none)); records = fit_none _ _ none }
