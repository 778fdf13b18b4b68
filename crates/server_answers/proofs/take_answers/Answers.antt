use borrow.Author.Rules.{rules}
use Prim.Native.Nat.{ℕ, ◌+◌, ◌<◌, ◌≤◌, min}
use lib.ListN.{length, get_or}
use Rattle.std.proofs.Common.{◌≡◌, Err, arith, refl, sym, ap, ap₂, ◌∙◌}
use Rattle.std.proofs.lemmas.Result.{err_from_is_err_and}
use Rattle.std.proofs.lemmas.List.{length_push}
use Rattle.std.proofs.lemmas.Slice.Zip.{zip_turn, zip_end}
use Rattle.lists.specs.declared.Entry.{Entry}
use Rattle.lists.proofs.EntryLaws.{no_entry}
use Rattle.records.specs.declared.Records.{Records}
use Rattle.terms.specs.declared.Refusal.{Refusal}
use Rattle.terms.specs.Refusal.{required}
use Rattle.server_reports.specs.Step1.{taken_if}
use Rattle.terms.proofs.RefusalLaws.{refused_for}
use Rattle.places.specs.Act.{with_answers}
use Rattle.server_answers.specs.Answer.{answer, answer_fits}
use Rattle.server_reports.proofs.Cases.{UpTo, up_to_next, up_to_all, up_to_unfit}
use Rattle.server_answers.proofs.AnswerLaws.{with_length, with_at}
use Rattle.server_answers.proofs.take_answers.Goals as goal
use Rattle.server_answers.proofs.take_answers.Goals.{In-Some}

-- the offer of this turn with its answer
record Turn (c : In-Some) : Type 0 where
  there : length c.loop-o.yielded < length (with_answers c.args.offers.now c.args.answers.now)
  is : (c.in-Some.o.now, c.in-Some.a.now) ≡ get_or (with_answers c.args.offers.now c.args.answers.now) (length c.loop-o.yielded) (no_entry, no_entry)

turn : (c : In-Some) → Turn c
turn c =
    let a = c.args in
    let t = zip_turn a.offers.now a.answers.now c.loop-o.yielded c.into_iter-o-iterator.result c.loop-o.o-iterator c.next.new.self _ (search rules) (search rules) c.loop-o.yielded_by _ c.in-Some.is c.next.ensures.steps in
    record {
      there = omega (arith, with_length a.offers.now a.answers.now, t.0, t.1);
      is = ap₂ (λ (x y : Entry). (x, y)) (t.2 no_entry) (t.3 no_entry) ∙ sym (with_at a.offers.now a.answers.now (length c.loop-o.yielded) no_entry no_entry t.0 t.1);
    }

pub loop-o-preserved : goal.loop-o-preserved
loop-o-preserved c =
    let t = turn (goal.at.loop-o-preserved c).In-Some in
    rw (length_push c.loop-o.yielded (c.in-Some.o, c.in-Some.a))
    (up_to_next answer_fits answer _ _ c.loop-o.invariant (no_entry, no_entry) Refusal.Unlawful _ t.there
    (ap (λ (p : Entry × Entry). required (answer_fits p c.loop-o.now) Refusal.Unlawful) (sym t.is) ∙ sym c.take_answer.ensures.said ∙ c.in_ok-take_answer.was)
    (c.take_answer.ensures.records ∙ ap (λ (p : Entry × Entry). taken_if answer_fits answer p c.loop-o.now) t.is))

pub returns-in_err-take_answer : goal.returns-in_err-take_answer
returns-in_err-take_answer c =
    let t = turn (goal.at.returns-in_err-take_answer c).In-Some in
    let none = up_to_unfit answer_fits answer _ _ c.loop-o.invariant (no_entry, no_entry) Refusal.Unlawful _ t.there
    (ap (λ (p : Entry × Entry). required (answer_fits p c.loop-o.now) Refusal.Unlawful) (sym t.is) ∙ sym c.take_answer.ensures.said ∙ c.in_err-take_answer.was) in
    let p = err_from_is_err_and c.from_residual.result c.from_residual.ensures.1 in
    record { said = p.1 ∙ ap Err (p.2 ∙ refused_for _ _ _ (sym c.take_answer.ensures.said ∙ c.in_err-take_answer.was)) ∙ none.said; records = none.records }

pub returns : goal.returns
returns c =
    let a = c.args in
    let end : length c.loop-o.yielded ≡ min (length a.offers.now) (length a.answers.now) = zip_end a.offers.now a.answers.now c.loop-o.yielded c.into_iter-o-iterator.result c.loop-o.o-iterator c.next.new.self _ (search rules) (search rules) c.loop-o.yielded_by c.in-None.is c.next.ensures.steps in
    let all = up_to_all answer_fits answer _ _ c.loop-o.invariant (omega (arith, end, with_length a.offers.now a.answers.now)) in
    record { said = all.said; records = all.records }
