-- Answers keep the server's table safe, whatever they say. Assumes nothing.
use Rattle.std.proofs.Common.{Option, Some, None}
use Prim.Native.Nat.{ℕ, ◌<◌}
use mathlib.Core.Path.{◌≡◌, refl}
use mathlib.Core.Bool.{Bool, true, false, cond}
use mathlib.Core.List.{List}
use native.Mathlib.Omega.{arith}
use lib.Dec.{eqb, ltb}
use lib.ListN.{get_or}
use Rattle.places.specs.Set.{all_places, in_use}
use Rattle.places.proofs.Choice.{and_second}
use Rattle.records.specs.declared.Records.{Records}
use Rattle.records.specs.Server.{no_record}
use Rattle.lists.specs.declared.Entry.{Entry}
use Rattle.places.specs.Act.{holds, put_at, act_at, act, with_answers}
use Rattle.places.proofs.KeptLaws.{find_hit}
use Rattle.statuses.specs.declared.Name.{Name}
use Rattle.statuses.specs.declared.Name.TheVariants.{Delete, Replace, Add}
use Rattle.statuses.specs.Status.{name_of}
use Rattle.record_moves.specs.Named.{table_of, with_table, is_named, place_of, may_have, Safe}
use Rattle.record_moves.proofs.SafeLaws.{alone_same, alone_given, safe_put, safe_free}
use Rattle.server_reports.proofs.Cases.{safe_or_none}
use Rattle.server_answers.specs.Answer.{recorded, dirty_again, answered_by, offered_in, answer, gives, given_at, answer_fits, answered}

module _ (a : Entry) (s : Records) (h : Safe s) (i : ℕ) (inside : i < all_places) (u : in_use s.used i ≡ true) where
  -- 200 to Replace or Add, and every other code
  settled_safe : (b : Bool) → (b ≡ true → given_at a s (Some i) ≡ true)
      → Safe (with_table s (put_at (table_of s) i (holds (cond b (recorded a (get_or s.places i no_record)) (dirty_again (get_or s.places i no_record))))))
  settled_safe false e = safe_put s i h inside u (dirty_again (get_or s.places i no_record)) refl (h.formed.records i u) (alone_same s i (dirty_again (get_or s.places i no_record)) h.once u refl)
  settled_safe true e =
      let x = get_or s.places i no_record in
      let may : may_have a.fields.luid x s ≡ true = and_second (ltb x.pairing.known a.fields.fp) (may_have a.fields.luid x s) (e refl) in
      safe_put s i h inside u (recorded a x) refl (h.formed.records i u) (alone_given s i (recorded a x) h.formed u may)

  by_name : (m : Name) → (gives m a ≡ true → given_at a s (Some i) ≡ true) → Safe (with_table s (put_at (table_of s) i (answered_by m a (get_or s.places i no_record))))
  by_name Delete e = safe_free s i h inside u
  by_name Replace e = settled_safe (eqb a.fields.code 200) e
  by_name Add e = settled_safe (eqb a.fields.code 200) e

where_given : (b r : Bool) → cond b r true ≡ true → b ≡ true → r ≡ true
where_given true r e q = e
where_given false r e q = let z : ◌≡◌ {A = ℕ} 0 1 = cc in absurd (omega arith)

pub answer_safe : (p : Entry × Entry) (s : Records) → answer_fits p s ≡ true → Safe s → Safe (answer p s)
unfolding answer answer_fits act
answer_safe p s e h = go (place_of s (offered_in p.0)) refl (where_given (gives (name_of p.0.fields.kind) p.1) (given_at p.1 s (place_of s (offered_in p.0))) e)
  where
    go : (f : Option ℕ) → place_of s (offered_in p.0) ≡ f → (gives (name_of p.0.fields.kind) p.1 ≡ true → given_at p.1 s f ≡ true)
        → Safe (with_table s (act_at no_record (answered_by (name_of p.0.fields.kind) p.1) (table_of s) f))
    go None q k = h
    go (Some i) q k =
        let w = find_hit no_record (is_named (offered_in p.0)) (table_of s) i q in
        by_name p.1 s h i (omega (arith, w.inside, h.formed.guids.long)) w.used (name_of p.0.fields.kind) k

pub answers_safe : (os xs : List Entry) (s : Records) → Safe s → Safe (answered os xs s).records
answers_safe os xs s h = safe_or_none answer_fits answer (with_answers os xs) s answer_safe h
