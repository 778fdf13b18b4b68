-- One report, by the place of the record that it names. Assumes nothing.
use Rattle.std.proofs.Common.{Option, Some, None}
use Prim.Native.Nat.{ℕ}
use mathlib.Core.Path.{◌≡◌, sym, ap, ◌∙◌}
use mathlib.Core.Bool.{Bool, true, false}
use lib.ListN.{get_or}
use Rattle.lists.specs.declared.Entry.{Entry}
use Rattle.records.specs.declared.Records.{Records}
use Rattle.records.specs.Server.{no_record}
use Rattle.places.specs.Act.{holds}
use Rattle.places.proofs.Choice.{chosen, passed}
use Rattle.record_moves.specs.Named.{place_of, with_record}
use Rattle.record_moves.proofs.NamedLaws.{acted}
use Rattle.server_reports.specs.Step1.{named_by, fits_at, told, report, report_fits, taken_if}

module _ (r : Entry) (s : Records) where
  pub fits_found : (w : Option ℕ) → place_of s (named_by r) ≡ w → report_fits r s ≡ fits_at r s w
  unfolding report_fits
  fits_found w e = ap (fits_at r s) e

  pub unfit : report_fits r s ≡ false → s ≡ taken_if report_fits report r s
  unfit e = sym (passed (report_fits r s) (report r s) s e)

  pub fit_none : place_of s (named_by r) ≡ None → s ≡ taken_if report_fits report r s
  unfolding report
  fit_none e = sym (chosen (report_fits r s) (report r s) s (fits_found None e) ∙ acted s (named_by r) (λ x. holds (told r x)) None e)

  pub fit_some : (i : ℕ) → place_of s (named_by r) ≡ Some i → report_fits r s ≡ true → with_record s i (told r (get_or s.places i no_record)) ≡ taken_if report_fits report r s
  unfolding report
  fit_some i e fit = sym (chosen (report_fits r s) (report r s) s fit ∙ acted s (named_by r) (λ x. holds (told r x)) (Some i) e)
