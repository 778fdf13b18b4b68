-- What the press tells in Pkg 3: at most 32 reports and 32 commands; of each entry that is told of once, by rising LUID, and of no others. Assumes nothing.
use Prim.Native.Nat.{ℕ, ◌+◌, ◌<◌, ◌≤◌}
use mathlib.Core.Path.{◌≡◌, refl, ap}
use mathlib.Core.Bool.{false, not, ◌&&◌}
use mathlib.Core.List.{List, ◌++◌, map, Memᴰ}
use native.Mathlib.Omega.{arith}
use lib.ListN.{length, get_or, length-append}
use Rattle.lists.specs.Lists.{most_listed}
use Rattle.places.specs.Set.{all_places}
use Rattle.terms.specs.declared.Mode.{Mode}
use Rattle.terms.specs.declared.Mode.TheVariants.{Normal, Recovery}
use Rattle.terms.specs.declared.Luid.{Luid}
use Rattle.cards.specs.declared.Mark.{Mark}
use Rattle.cards.specs.declared.Card.{Card}
use Rattle.cards.specs.declared.Cards.{Cards}
use Rattle.cards.specs.Press.{no_card, is_live, luid_of, WellFormed}
use Rattle.lists.specs.declared.Entry.{Entry}
use Rattle.places.specs.Act.{Table}
use Rattle.places.proofs.Every.{Every, Pairs}
use Rattle.places.proofs.KeptLaws.{Hit}
use Rattle.listing.specs.Listing.{by_luid}
use Rattle.listing.proofs.ToldLaws.{told_fit, three_fit, told_are, told_all, told_rising}
use Rattle.press_tells.specs.Tell.{Tell}
use Rattle.listing.specs.declared.Row.{Row}
use Rattle.listing.specs.declared.Listing.{Listing}
use Rattle.listing.specs.Listing.{items_of, holding}
use Rattle.listing.specs.Row.{codes_in, told_at}
use Rattle.press_tells.specs.Tell.{StandsFor, is_changed, is_added, tells, words_of, told_of, reports, commands}

abbrev table_of : Cards → Table Card
table_of c = record { used = c.used; places = c.places }

-- ---- how many: no entry has two commands
one_command : (m : Mark) → ((not (is_live m) && is_changed m) ≡ false) × ((not (is_live m) && is_added m) ≡ false) × ((is_changed m && is_added m) ≡ false)
one_command Mark.Clean = (refl, refl, refl)
one_command Mark.Added = (refl, refl, refl)
one_command Mark.Changed = (refl, refl, refl)
one_command Mark.Deleted = (refl, refl, refl)

module _ (c : Cards) (long : length c.places ≡ all_places) where
  pub told_most : (k : Tell) → length (told_of k c) ≤ most_listed
  unfolding told_of
  told_most k = omega (arith, told_fit no_card (tells k) by_luid (words_of k) (table_of c))

  pub three_most : length (told_of Tell.Deletes c) + length (told_of Tell.Replaces c) + length (told_of Tell.Adds c) ≤ most_listed
  unfolding told_of
  three_most =
      omega (
        arith,
        three_fit no_card by_luid (table_of c) (tells Tell.Deletes) (tells Tell.Replaces) (tells Tell.Adds) (words_of Tell.Deletes) (words_of Tell.Replaces) (words_of Tell.Adds)
            (λ x. one_command x.mark),
      )

  pub reports_most : length (reports c) ≤ most_listed
  reports_most = told_most Tell.Reports

  pub commands_most : (m : Mode) → length (commands m c) ≤ most_listed
  unfolding commands
  commands_most Normal =
      omega (
        arith,
        three_most,
        length-append (told_of Tell.Deletes c) (told_of Tell.Replaces c ++ told_of Tell.Adds c),
        length-append (told_of Tell.Replaces c) (told_of Tell.Adds c),
      )
  commands_most Recovery = told_most Tell.AllCards

-- ---- which: place j is in use and told of
module _ (k : Tell) (c : Cards) where
  abbrev pub IsTold : ℕ → Type 0
  IsTold = Hit no_card (tells k) (table_of c)

  abbrev pub words : ℕ → Entry
  words j = words_of k (get_or c.places j no_card)

  -- nothing else is told
  pub told_only : Every (λ e. (j : ℕ) × IsTold j × (e ≡ words j)) (told_of k c)
  unfolding told_of
  told_only = told_are no_card (tells k) by_luid (words_of k) (table_of c)

  -- all of it is told
  pub told_each : (j : ℕ) → IsTold j → Memᴰ (words j) (told_of k c)
  unfolding told_of
  told_each = told_all no_card (tells k) by_luid (words_of k) (table_of c)

-- once, by rising LUID
pub told_once : (k : Tell) (c : Cards) → WellFormed c → Pairs (λ d e. d.fields.luid.0 < e.fields.luid.0) (told_of k c)
unfolding told_of
told_once k c f = told_rising no_card (tells k) by_luid (words_of k) (table_of c) luid_of c.luid f.luids (by_luid_lem k)
  where
    by_luid_lem : (k : Tell) (j : ℕ) → IsTold k c j → (words k c j).fields.luid.0 ≡ (get_or c.places j no_card).luid.0
    by_luid_lem Tell.Reports j h = ap (λ (l : Luid). l.0) ((f.cards j h.used).3 h.passes)
    by_luid_lem Tell.Deletes j h = refl
    by_luid_lem Tell.Replaces j h = refl
    by_luid_lem Tell.Adds j h = refl
    by_luid_lem Tell.AllCards j h = refl

-- ---- the places in a row are those that are told of
module _ (k : Tell) (c : Cards) (row : Row) (s : StandsFor row k c) where
  pub row_count : row.n ≡ length (told_of k c)
  unfolding told_of
  row_count = s.count

  -- what is told there comes to the end of a list
  pub row_made : (l : Listing) → holding (items_of l ++ map (told_at no_card (words_of k) c.places) (codes_in row)) l ≡ holding (items_of l ++ told_of k c) l
  unfolding told_of
  row_made l = ap (λ (xs : List Entry). holding (items_of l ++ xs) l) s.made
