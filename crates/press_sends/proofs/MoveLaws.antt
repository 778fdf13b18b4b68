-- The numbers of the press's table stay in range by each change of it.
-- Assumes nothing.
use Prim.Native.Nat.{ℕ, ◌+◌, ◌<◌, ◌≤◌}
use mathlib.Core.Path.{◌≡◌, refl}
use mathlib.Core.Bool.{Bool, true, false, false≢true}
use lib.ListN.{set}
use Rattle.places.specs.Set.{all_places, in_use, with_place}
use Rattle.places.proofs.TableLaws.{each_new, each_change}
use Rattle.cards.specs.declared.Card.{Card}
use Rattle.cards.specs.declared.Cards.{Cards}
use Rattle.cards.specs.Press.{no_card, luid_of, WellFormed}
use Rattle.places.specs.Act.{Slot, holds, act, each}
use Rattle.places.proofs.KeptLaws.{Fine, Fair, freed_was, each_put, act_fine, each_fine}
use Rattle.card_moves.specs.Moves.{table_of, with_table, without_card, any_entry, with_bare, without_reports, is_delete_mark, freed, without_delete_marks}
use Rattle.press_sends.specs.InRange.{ReportInRange, CardsInRange}

module _ (c : Cards) (w : WellFormed c) (h : CardsInRange c) where
  -- ---- the LUIDs and the fingerprints that were given stay the same: reports stay in range
  module _ (q : Card → Bool) (f : Card → Slot Card) (fair : Fair luid_of no_card c.luid ReportInRange q f) where
    fine : Fine luid_of no_card c.luid ReportInRange (table_of c)
    fine = record { sound = w.luids; each = h.reports }

    pub act_ranged : CardsInRange (with_table c (act no_card q f (table_of c)))
    act_ranged = record { luid = h.luid; fp = h.fp; reports = (act_fine luid_of no_card c.luid ReportInRange q f fair (table_of c) fine).each }

    pub each_ranged : CardsInRange (with_table c (each no_card q f (table_of c)))
    each_ranged = record { luid = h.luid; fp = h.fp; reports = (each_fine luid_of no_card c.luid ReportInRange q f fair (table_of c) fine).each }

  pub bare_ranged : CardsInRange (without_reports c)
  unfolding without_reports
  bare_ranged = each_ranged any_entry with_bare (record { same = λ x. refl; fine = λ x e r q. absurd (false≢true q) })

  pub unmarked_ranged : CardsInRange (without_delete_marks c)
  unfolding without_delete_marks
  unmarked_ranged = each_ranged is_delete_mark freed (record { same = λ x. tt; fine = λ x e r. tt })

  pub freed_ranged : (i : ℕ) → CardsInRange (without_card c i)
  freed_ranged i = record { luid = h.luid; fp = h.fp; reports = λ j e. h.reports j (freed_was c.used i j e) }

  -- ---- a card in place i, whose report is in range if it has one; last and n are the last LUID and fingerprint given
  module _ (i : ℕ) (inside : i < all_places) (y : Card) (report : ReportInRange y) (last n : ℕ) (luid : last ≤ 65535) (fp : n ≤ 4294967295) where
    -- it stood there
    pub changed_ranged : CardsInRange (record { used = c.used; places = set c.places i y; luid = last; fp = n; station = c.station })
    changed_ranged =
        record {
          luid = luid;
          fp = fp;
          reports = each_change luid_of no_card c.used c.places c.luid w.luids i inside y ReportInRange ReportInRange (λ x r. r) report h.reports;
        }

    pub replaced_ranged : in_use c.used i ≡ true → CardsInRange (record { used = with_place c.used i; places = set c.places i y; luid = last; fp = n; station = c.station })
    replaced_ranged u = record { luid = luid; fp = fp; reports = each_put luid_of no_card c.luid ReportInRange (table_of c) i inside u (holds y) report w.luids h.reports }

    -- it is new
    pub new_ranged : in_use c.used i ≡ false → luid_of y ≡ c.luid + 1 → CardsInRange (record { used = with_place c.used i; places = set c.places i y; luid = last; fp = n; station = c.station })
    new_ranged free next =
        record {
          luid = luid;
          fp = fp;
          reports = each_new luid_of no_card c.used c.places c.luid w.luids i inside y free next ReportInRange ReportInRange (λ x r. r) report h.reports;
        }
