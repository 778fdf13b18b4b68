-- One offer with its answer, by the place of the record that was offered; and an offer with its answer among all. Assumes nothing.
use Rattle.std.proofs.Common.{Option, Some, None}
use Prim.Native.Nat.{ℕ, zero, suc, ◌<◌, min}
use mathlib.Core.Path.{◌≡◌, refl, sym, ap, ◌∙◌}
use mathlib.Core.Bool.{Bool, true, false, cond}
use mathlib.Core.List.{List, [], ◌∷◌}
use native.Mathlib.Omega.{arith}
use lib.ListN.{length, get_or}
use Rattle.lists.specs.declared.Entry.{Entry}
use Rattle.records.specs.declared.Records.{Records}
use Rattle.records.specs.Server.{no_record}
use Rattle.places.specs.Act.{put_at, with_answers}
use Rattle.places.proofs.Choice.{chosen, passed}
use Rattle.statuses.specs.declared.Name.{Name}
use Rattle.statuses.specs.Status.{name_of}
use Rattle.record_moves.specs.Named.{table_of, with_table, place_of}
use Rattle.record_moves.proofs.NamedLaws.{acted}
use Rattle.server_reports.specs.Step1.{taken_if}
use Rattle.server_answers.specs.Answer.{offered_in, answered_by, answer, gives, given_at, answer_fits}

either_way : (b : Bool) → cond b true true ≡ true
either_way true = refl
either_way false = refl

module _ (p : Entry × Entry) (s : Records) where
  pub fits_found : (w : Option ℕ) (m : Name) → m ≡ name_of p.0.fields.kind → place_of s (offered_in p.0) ≡ w → answer_fits p s ≡ cond (gives m p.1) (given_at p.1 s w) true
  unfolding answer_fits
  fits_found w m n e =
      ap (λ (f : Option ℕ). cond (gives (name_of p.0.fields.kind) p.1) (given_at p.1 s f) true) e
      ∙ sym (ap (λ (o : Name). cond (gives o p.1) (given_at p.1 s w) true) n)

  pub fits_none : place_of s (offered_in p.0) ≡ None → answer_fits p s ≡ true
  fits_none e = fits_found None (name_of p.0.fields.kind) refl e ∙ either_way (gives (name_of p.0.fields.kind) p.1)

  pub unfit : answer_fits p s ≡ false → s ≡ taken_if answer_fits answer p s
  unfit e = sym (passed (answer_fits p s) (answer p s) s e)

  pub fit_none : place_of s (offered_in p.0) ≡ None → s ≡ taken_if answer_fits answer p s
  unfolding answer
  fit_none e = sym (chosen (answer_fits p s) (answer p s) s (fits_none e) ∙ acted s (offered_in p.0) (answered_by (name_of p.0.fields.kind) p.1) None e)

  pub fit_some : (i : ℕ) (m : Name) → m ≡ name_of p.0.fields.kind → place_of s (offered_in p.0) ≡ Some i → answer_fits p s ≡ true
      → with_table s (put_at (table_of s) i (answered_by m p.1 (get_or s.places i no_record))) ≡ taken_if answer_fits answer p s
  unfolding answer
  fit_some i m n e fit =
      ap (λ (o : Name). with_table s (put_at (table_of s) i (answered_by o p.1 (get_or s.places i no_record)))) n
      ∙ sym (chosen (answer_fits p s) (answer p s) s fit ∙ acted s (offered_in p.0) (answered_by (name_of p.0.fields.kind) p.1) (Some i) e)

-- as many pairs as both lists have, and what each is
pub with_length : {A B : Type 0} (xs : List A) (ys : List B) → length (with_answers xs ys) ≡ min (length xs) (length ys)
unfolding with_answers
with_length [] ys = omega arith
with_length (x ∷ xs) [] = omega arith
with_length (x ∷ xs) (y ∷ ys) = omega (arith, with_length xs ys)

pub with_at : {A B : Type 0} (xs : List A) (ys : List B) (i : ℕ) (d : A) (e : B) → i < length xs → i < length ys → get_or (with_answers xs ys) i (d, e) ≡ (get_or xs i d, get_or ys i e)
unfolding with_answers
with_at [] ys i d e h k = absurd (omega arith)
with_at (x ∷ xs) [] i d e h k = absurd (omega arith)
with_at (x ∷ xs) (y ∷ ys) zero d e h k = refl
with_at (x ∷ xs) (y ∷ ys) (suc i) d e h k = with_at xs ys i d e (omega arith) (omega arith)
