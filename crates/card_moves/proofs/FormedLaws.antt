-- A place put or freed, and what happens to all entries at once, keep the press's table well-formed. Assumes nothing.
use Prim.Native.Nat.{ℕ, ◌+◌, ◌<◌}
use mathlib.Core.Path.{◌≡◌, refl, sym, ap, subst}
use mathlib.Core.Bool.{Bool, true, false, false≢true}
use native.Mathlib.Omega.{arith}
use lib.ListN.{get_or, set}
use Rattle.places.specs.Set.{all_places, in_use, with_place}
use Rattle.places.proofs.TableLaws.{sound_change, sound_new, each_change, each_new}
use Rattle.cards.specs.declared.Card.{Card}
use Rattle.cards.specs.declared.Cards.{Cards}
use Rattle.cards.specs.Press.{no_card, luid_of, FineCard, WellFormed}
use Rattle.places.specs.Act.{Table, Slot, free, put_at, act, each}
use Rattle.places.proofs.KeptLaws.{sound_put, each_put, taken_same, Fine, Fair, act_fine, each_fine}
use Rattle.card_moves.specs.Moves.{table_of, with_table, any_entry, with_bare, without_reports, is_delete_mark, freed, without_delete_marks}

module _ (c : Cards) (h : WellFormed c) where
  abbrev FineTable : Table Card → Type 0
  FineTable t = Fine luid_of no_card c.luid (FineCard c.fp) t

  fine : FineTable (table_of c)
  fine = record { sound = h.luids; each = h.cards }

  formed : (t : Table Card) → FineTable t → WellFormed (with_table c t)
  formed t w = record { station = h.station; luids = w.sound; cards = w.each }

  module _ (q : Card → Bool) (f : Card → Slot Card) (w : Fair luid_of no_card c.luid (FineCard c.fp) q f) where
    pub act_formed : WellFormed (with_table c (act no_card q f (table_of c)))
    act_formed = formed _ (act_fine luid_of no_card c.luid (FineCard c.fp) q f w (table_of c) fine)

    pub each_formed : WellFormed (with_table c (each no_card q f (table_of c)))
    each_formed = formed _ (each_fine luid_of no_card c.luid (FineCard c.fp) q f w (table_of c) fine)

  pub free_formed : (i : ℕ) → i < all_places → in_use c.used i ≡ true → WellFormed (with_table c (put_at (table_of c) i free))
  free_formed i b u =
      record {
        station = h.station;
        luids = sound_put luid_of no_card c.luid (table_of c) i b u free tt h.luids;
        cards = each_put luid_of no_card c.luid (FineCard c.fp) (table_of c) i b u free tt h.luids h.cards;
      }

  -- a fingerprint that was given stays given when the next one is
  raised : (x : Card) → FineCard c.fp x → FineCard (c.fp + 1) x
  raised x p = (p.0, omega (arith, p.1), p.2, p.3)

  -- a card that keeps its LUID, with the next fingerprint
  pub newer_formed : (i : ℕ) → i < all_places → in_use c.used i ≡ true → (y : Card) → y.luid ≡ (get_or c.places i no_card).luid → FineCard (c.fp + 1) y
      → WellFormed (record { used = with_place c.used i; places = set c.places i y; luid = c.luid; fp = c.fp + 1; station = c.station })
  newer_formed i b u y e p =
      subst (λ (v : ℕ). WellFormed (record { used = v; places = set c.places i y; luid = c.luid; fp = c.fp + 1; station = c.station })) (sym (taken_same c.used i u))
      (record {
        station = h.station;
        luids = sound_change luid_of no_card c.used c.places c.luid h.luids i b y (ap (λ (l : _). l.0) e);
        cards = each_change luid_of no_card c.used c.places c.luid h.luids i b y (FineCard c.fp) (FineCard (c.fp + 1)) raised p h.cards;
      })

  -- a new card with the next LUID and the next fingerprint, in a free place
  pub new_formed : (i : ℕ) → i < all_places → in_use c.used i ≡ false → (y : Card) → y.luid.0 ≡ c.luid + 1 → FineCard (c.fp + 1) y
      → WellFormed (record { used = with_place c.used i; places = set c.places i y; luid = c.luid + 1; fp = c.fp + 1; station = c.station })
  new_formed i b u y e p =
      record {
        station = h.station;
        luids = sound_new luid_of no_card c.used c.places c.luid h.luids i b y u e;
        cards = each_new luid_of no_card c.used c.places c.luid h.luids i b y u e (FineCard c.fp) (FineCard (c.fp + 1)) raised p h.cards;
      }

  pub bare_formed : WellFormed (without_reports c)
  unfolding without_reports
  bare_formed = each_formed any_entry with_bare (record { same = λ x. refl; fine = λ x e p. (p.0, p.1, p.2, λ q. absurd (false≢true q)) })

  pub unmarked_formed : WellFormed (without_delete_marks c)
  unfolding without_delete_marks
  unmarked_formed = each_formed is_delete_mark freed (record { same = λ x. tt; fine = λ x e p. tt })
