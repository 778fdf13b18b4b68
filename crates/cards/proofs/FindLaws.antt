-- What the place of a card tells. Assumes nothing.
use Rattle.std.proofs.Common.{Some}
use Prim.Native.Nat.{ℕ}
use mathlib.Core.Path.{◌≡◌}
use mathlib.Core.Bool.{Bool}
use Rattle.places.proofs.TableLaws.{Stands, stands}
use Rattle.terms.specs.declared.Luid.{Luid}
use Rattle.cards.specs.declared.Card.{Card}
use Rattle.cards.specs.declared.Cards.{Cards}
use Rattle.cards.specs.Press.{no_card, is_live, find_card, luid_of, WellFormed}

abbrev pub live : Card → Bool
live x = is_live x.mark

abbrev pub CardAt : Cards → Luid → ℕ → Type 0
CardAt c l i = Stands luid_of live no_card c.used c.places l.0 i

pub card_at_lem : (c : Cards) → WellFormed c → (l : Luid) (i : ℕ) → find_card c l ≡ Some i → CardAt c l i
unfolding find_card
card_at_lem c w l i = stands luid_of no_card c.used c.places c.luid w.luids live l.0 i
