-- Reports keep the server's table safe, whatever they say: well-formed, and no LUID in two records. Assumes nothing.
use Rattle.std.proofs.Common.{Option, Some, None}
use Prim.Native.Nat.{ℕ, ◌<◌}
use mathlib.Core.Path.{◌≡◌, refl}
use mathlib.Core.Bool.{Bool, true, false, cond, ◌||◌}
use mathlib.Core.List.{List}
use native.Mathlib.Omega.{arith}
use lib.ListN.{get_or}
use Rattle.places.specs.Set.{all_places}
use Rattle.records.specs.declared.Records.{Records}
use Rattle.records.specs.Server.{no_record, FineRecord}
use Rattle.lists.specs.declared.Entry.{Entry}
use Rattle.places.specs.Act.{holds, put_at, act_at, act}
use Rattle.places.proofs.KeptLaws.{Hit, find_hit}
use Rattle.record_moves.specs.Named.{table_of, with_table, is_named, place_of, may_have, Safe}
use Rattle.record_moves.proofs.SafeLaws.{alone_same, alone_given, safe_put}
use Rattle.server_reports.specs.Step1.{named_by, is_late, counted, told, report, fits_at, report_fits, reported}
use Rattle.server_reports.proofs.Cases.{safe_or_none}

module _ (r : Entry) (s : Records) (h : Safe s) where
  told_safe : (i : ℕ) → Hit no_record (is_named (named_by r)) (table_of s) i → fits_at r s (Some i) ≡ true → Safe (with_table s (put_at (table_of s) i (holds (told r (get_or s.places i no_record)))))
  unfolding told
  told_safe i w e = go (is_late r (get_or s.places i no_record)) e
    where
      inside : i < all_places
      inside = omega (arith, w.inside, h.formed.guids.long)

      fine : FineRecord (get_or s.places i no_record)
      fine = h.formed.records i w.used

      go : (late : Bool) → (late || may_have r.fields.luid (get_or s.places i no_record) s) ≡ true
          → Safe (with_table s (put_at (table_of s) i (holds (cond late (get_or s.places i no_record) (counted r (get_or s.places i no_record))))))
      go true q = safe_put s i h inside w.used (get_or s.places i no_record) refl fine (alone_same s i (get_or s.places i no_record) h.once w.used refl)
      go false q = safe_put s i h inside w.used (counted r (get_or s.places i no_record)) refl fine (alone_given s i (counted r (get_or s.places i no_record)) h.formed w.used q)

  pub report_safe : report_fits r s ≡ true → Safe (report r s)
  unfolding report report_fits act
  report_safe e = go (place_of s (named_by r)) refl e
    where
      go : (f : Option ℕ) → place_of s (named_by r) ≡ f → fits_at r s f ≡ true → Safe (with_table s (act_at no_record (λ x. holds (told r x)) (table_of s) f))
      go None q w = h
      go (Some i) q w = told_safe i (find_hit no_record (is_named (named_by r)) (table_of s) i q) w

pub reports_safe : (rs : List Entry) (s : Records) → Safe s → Safe (reported rs s).records
reports_safe rs s h = safe_or_none report_fits report rs s (λ r t e k. report_safe r t k e) h
