-- What is taken one after the other: one turn, and the two outcomes, where each fits or one does not. Assumes nothing.
use Rattle.std.proofs.Common.{Result, Ok, Err}
use Prim.Native.Nat.{ℕ, ◌+◌, ◌<◌, ◌≤◌}
use mathlib.Core.Path.{◌≡◌, refl, sym, ap, ◌∙◌}
use native.Mathlib.Omega.{arith}
use mathlib.Core.Bool.{Bool, true, false, cond}
use mathlib.Core.List.{List}
use lib.ListN.{length, get_or, drop}
use Rattle.terms.specs.Check.{checked, or_refuse}
use Rattle.terms.specs.declared.Refusal.{Refusal}
use Rattle.terms.specs.Refusal.{required}
use Rattle.terms.proofs.RefusalLaws.{passed_ok, failed_err}
use Rattle.terms.specs.declared.Check.TheVariants.{Pass, Fail}
use Rattle.records.specs.declared.Records.{Records}
use Rattle.places.specs.Act.{in_order, all_pass}
use Rattle.places.proofs.KeptLaws.{passed_keeps}
use Rattle.places.proofs.Choice.{chosen}
use Rattle.places.proofs.Turns.{next_of_lem, end_of, in_order_step, in_order_end, all_pass_step, all_pass_stop, all_pass_end}
use Rattle.record_moves.specs.Named.{Safe}
use Rattle.server_reports.specs.Step1.{InTurn, all_or_none, taken_if}

module _ {A : Type 0} (fits : A → Records → Bool) (take : A → Records → Records) (xs : List A) (s : Records) where
  abbrev outcome : Bool → InTurn
  outcome b = record { check = checked b; records = cond b (in_order take xs s) s }

  each_fits : all_pass fits take xs s ≡ true → all_or_none fits take xs s ≡ record { check = Pass; records = in_order take xs s }
  unfolding all_or_none
  each_fits e = ap outcome e

  one_unfit : all_pass fits take xs s ≡ false → all_or_none fits take xs s ≡ record { check = Fail; records = s }
  unfolding all_or_none
  one_unfit e = ap outcome e

  -- what the code answers of them, and leaves
  pub record Taken (answer : Result Unit Refusal) (t : Records) : Type 0 where
    pub said : answer ≡ or_refuse (all_or_none fits take xs s).check (Err Refusal.Unlawful) (Ok tt)
    pub records : t ≡ (all_or_none fits take xs s).records

  -- each has been taken up to number i
  pub record UpTo (i : ℕ) (t : Records) : Type 0 where
    pub inside : i ≤ length xs
    pub passes : all_pass fits take (drop i xs) t ≡ all_pass fits take xs s
    pub leads : in_order take (drop i xs) t ≡ in_order take xs s

  pub up_to_none : UpTo 0 s
  up_to_none = record { inside = omega arith; passes = refl; leads = refl }

  module _ {i : ℕ} {t : Records} (so_far : UpTo i t) where
    pub up_to_next : (d : A) (r : Refusal) (u : Unit) {t' : Records} → i < length xs → required (fits (get_or xs i d) t) r ≡ Ok u → t' ≡ taken_if fits take (get_or xs i d) t → UpTo (i + 1) t'
    up_to_next d r u {t'} h ok is =
        let fit : fits (get_or xs i d) t ≡ true = passed_ok _ r u ok in
        let next : t' ≡ take (get_or xs i d) t = is ∙ chosen _ _ _ fit in
        record {
          inside = omega arith;
          passes = ap (all_pass fits take (drop (i + 1) xs)) next ∙ all_pass_step fits take (drop i xs) t _ _ (next_of_lem xs i d h) fit ∙ so_far.passes;
          leads = ap (in_order take (drop (i + 1) xs)) next ∙ in_order_step take (drop i xs) t _ _ (next_of_lem xs i d h) ∙ so_far.leads;
        }

    pub up_to_all : length xs ≤ i → Taken (Ok tt) t
    up_to_all h =
        let all = each_fits (sym so_far.passes ∙ all_pass_end fits take (drop i xs) t (end_of xs i h)) in
        record {
          said = sym (ap (λ (z : InTurn). or_refuse z.check (Err Refusal.Unlawful) (Ok tt)) all);
          records = sym (ap (λ (z : InTurn). z.records) all ∙ sym so_far.leads ∙ in_order_end take (drop i xs) t (end_of xs i h));
        }

    pub up_to_unfit : (d : A) (r e : Refusal) → i < length xs → required (fits (get_or xs i d) t) r ≡ Err e → Taken (Err Refusal.Unlawful) s
    up_to_unfit d r e h unfit =
        let none = one_unfit (sym so_far.passes ∙ all_pass_stop fits take (drop i xs) t _ _ (next_of_lem xs i d h) (failed_err _ r e unfit)) in
        record {
          said = sym (ap (λ (z : InTurn). or_refuse z.check (Err Refusal.Unlawful) (Ok tt)) none);
          records = sym (ap (λ (z : InTurn). z.records) none);
        }

  -- what keeps the table safe where it fits, keeps it safe
  pub safe_or_none : ((x : A) (t : Records) → fits x t ≡ true → Safe t → Safe (take x t)) → Safe s → Safe (all_or_none fits take xs s).records
  unfolding all_or_none
  safe_or_none k h = go (all_pass fits take xs s) refl
    where
      go : (b : Bool) → all_pass fits take xs s ≡ b → Safe (cond b (in_order take xs s) s)
      go false e = h
      go true e = passed_keeps take Safe fits k xs s e h
