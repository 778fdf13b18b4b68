-- The server's commands in Pkg 4: at most 32; of each record that is due once, by rising GUID, and of no others. Assumes nothing.
use Prim.Native.Nat.{ℕ, ◌+◌, ◌<◌, ◌≤◌}
use mathlib.Core.Path.{◌≡◌, refl, sym, ap, ◌∙◌}
use mathlib.Core.Bool.{Bool, true, false, cond, not, ◌&&◌}
use mathlib.Core.List.{List, ◌++◌, Memᴰ}
use native.Mathlib.Omega.{arith}
use lib.ListN.{length, get_or, set, length-append, length-map}
use lib.Seq.{set-get_or}
use Rattle.lists.specs.Lists.{most_listed}
use Rattle.places.specs.Set.{all_places, in_use}
use Rattle.records.specs.declared.Mark.{Mark}
use Rattle.records.specs.declared.Record.{Record}
use Rattle.records.specs.declared.Records.{Records}
use Rattle.records.specs.Server.{no_record, is_live, guid_of, WellFormed}
use Rattle.lists.specs.declared.Entry.{Entry}
use Rattle.places.specs.Act.{hit, holds, put_at}
use Rattle.places.proofs.Choice.{chosen, passed, and_chosen, and_both}
use Rattle.places.proofs.Every.{Every, Pairs}
use Rattle.places.proofs.KeptLaws.{Hit, taken_same}
use Rattle.statuses.specs.declared.Name.{Name}
use Rattle.listing.specs.Listing.{by_guid}
use Rattle.listing.proofs.ToldLaws.{three_fit, told_are, told_all, told_rising}
use Rattle.record_moves.specs.Named.{table_of, with_table, is_paired}
use Rattle.server_offers.specs.Offer.{is_waiting, is_offered_as, offer, offers_of, offers, command_of, command, commands, dirty_here, offered_now}

-- ---- how many: no record has two commands
one_command : (m : Mark) (b : Bool)
    → ((not (is_live m) && (is_waiting m && b)) ≡ false) × ((not (is_live m) && (is_waiting m && not b)) ≡ false) × ((is_waiting m && b && (is_waiting m && not b)) ≡ false)
one_command Mark.Clean b = (refl, refl, refl)
one_command Mark.Dirty true = (refl, refl, refl)
one_command Mark.Dirty false = (refl, refl, refl)
one_command Mark.Offered true = (refl, refl, refl)
one_command Mark.Offered false = (refl, refl, refl)
one_command Mark.Deleted b = (refl, refl, refl)

module _ (s : Records) (long : length s.places ≡ all_places) where
  pub three_most : length (offers_of Name.Delete s) + length (offers_of Name.Replace s) + length (offers_of Name.Add s) ≤ most_listed
  unfolding offers_of
  three_most =
      omega (
        arith,
        three_fit no_record by_guid (table_of s) (is_offered_as Name.Delete) (is_offered_as Name.Replace) (is_offered_as Name.Add) (offer Name.Delete) (offer Name.Replace) (offer Name.Add)
            (λ x. one_command x.pairing.mark (is_paired x)),
      )

  pub offers_most : length (offers s) ≤ most_listed
  unfolding offers
  offers_most =
      omega (
        arith,
        three_most,
        length-append (offers_of Name.Delete s) (offers_of Name.Replace s ++ offers_of Name.Add s),
        length-append (offers_of Name.Replace s) (offers_of Name.Add s),
      )

  pub commands_most : length (commands s) ≤ most_listed
  unfolding commands
  commands_most = omega (arith, offers_most, length-map (offers s) command)

-- ---- which: place j is in use and its record is due
module _ (m : Name) (s : Records) where
  abbrev pub IsDue : ℕ → Type 0
  IsDue = Hit no_record (is_offered_as m) (table_of s)

  abbrev pub offer_at : ℕ → Entry
  offer_at j = offer m (get_or s.places j no_record)

  -- nothing else is offered
  pub offered_only : Every (λ e. (j : ℕ) × IsDue j × (e ≡ offer_at j)) (offers_of m s)
  unfolding offers_of
  offered_only = told_are no_record (is_offered_as m) by_guid (offer m) (table_of s)

  -- all of it is offered
  pub offered_each : (j : ℕ) → IsDue j → Memᴰ (offer_at j) (offers_of m s)
  unfolding offers_of
  offered_each = told_all no_record (is_offered_as m) by_guid (offer m) (table_of s)

  -- once, by rising GUID
  pub offered_once : WellFormed s → Pairs (λ d e. d.fields.guid.0 < e.fields.guid.0) (offers_of m s)
  unfolding offers_of
  offered_once f = told_rising no_record (is_offered_as m) by_guid (offer m) (table_of s) guid_of s.guid f.guids (λ j h. refl)

-- ---- the command of an offer is the one that it was offered for
pub command_same : (m : Name) (x : Record) → command (offer m x) ≡ command_of m (offer m x)
command_same Name.Delete x = refl
command_same Name.Replace x = refl
command_same Name.Add x = refl

-- ---- all dirty become offered: the record in place i, where the place is in use
module _ (s : Records) (i : ℕ) where
  abbrev before : Record
  before = get_or s.places i no_record

  abbrev pub with_record_at : Record → Records
  with_record_at x = record { used = s.used; places = set s.places i x; guid = s.guid }

  pub offered_place : in_use s.used i ≡ true
      → with_record_at (cond (dirty_here before) (offered_now before) before)
      ≡ with_table s (cond (hit s.used dirty_here i before) (put_at (table_of s) i (holds (offered_now before))) (table_of s))
  offered_place u = go (dirty_here before) refl
    where
      go : (b : Bool) → dirty_here before ≡ b
          → with_record_at (cond (dirty_here before) (offered_now before) before)
          ≡ with_table s (cond (hit s.used dirty_here i before) (put_at (table_of s) i (holds (offered_now before))) (table_of s))
      go true e =
          ap with_record_at (chosen _ _ _ e)
          ∙ ap (λ (n : ℕ). record { used = n; places = set s.places i (offered_now before); guid = s.guid }) (sym (taken_same s.used i u))
          ∙ sym (ap (with_table s) (chosen _ _ _ (and_both _ _ u e)))
      go false e =
          ap with_record_at (passed _ _ _ e)
          ∙ ap (λ (l : List Record). record { used = s.used; places = l; guid = s.guid }) (set-get_or s.places i no_record)
          ∙ sym (ap (with_table s) (passed _ _ _ (and_chosen _ _ u ∙ e)))
