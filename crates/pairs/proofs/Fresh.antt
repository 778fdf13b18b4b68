-- Two fresh sides satisfy the invariant. Assumes nothing.
use Prim.Native.Nat.{ℕ, ◌≤◌}
use mathlib.Core.Path.{◌≡◌}
use Rattle.places.proofs.TableLaws.{none_in}
use Rattle.places.specs.Act.{holds}
use Rattle.places.proofs.Views.{holds_used}
use Rattle.text.specs.Wording.{last_station}
use Rattle.cards.specs.declared.Card.{Card}
use Rattle.cards.specs.Press.{no_card, fresh_press}
use Rattle.records.specs.declared.Record.{Record}
use Rattle.records.specs.Server.{no_record, fresh_server}
use Rattle.record_moves.specs.Named.{table_of}
use Rattle.card_moves.specs.Moves as moves
use Rattle.server_each.proofs.EachRecord.{record_at}
use Rattle.server_sends.proofs.EditLaws as server
use Rattle.press_sends.proofs.EditLaws as press
use Rattle.pairs.proofs.Invariant.{card_at, Invariant}

no_card_lem : {A : Type 0} (station i : ℕ) (x : Card) → card_at (fresh_press station).cards i ≡ holds x → A
no_card_lem station i x e = absurd (none_in i (holds_used no_card (moves.table_of (fresh_press station).cards) i x e))

no_record_lem : {A : Type 0} (j : ℕ) (y : Record) → record_at fresh_server.records j ≡ holds y → A
no_record_lem j y e = absurd (none_in j (holds_used no_record (table_of fresh_server.records) j y e))

pub fresh_inv : (station : ℕ) → station ≤ last_station → Invariant (fresh_press station).cards fresh_server.records
fresh_inv station h =
    record {
      formed = (press.fresh_in_range station h).formed;
      safe = (server.fresh_in_range).records.safe;
      entries = λ i x e. no_card_lem station i x e;
      records = λ j y e. no_record_lem j y e;
      pairs = λ i x e. no_card_lem station i x e;
      guids = λ i k x z e. no_card_lem station i x e;
      recorded = λ i x e. no_card_lem station i x e;
      owned = λ j y e. no_record_lem j y e;
    }
