-- What demand 3 needs of each package of a session, on the two tables alone. Definitions only: what follows takes them as given, and broken_sessions proves them.
use Prim.Native.Nat.{ℕ, ◌<◌}
use mathlib.Core.Path.{◌≡◌}
use mathlib.Core.Bool.{true, false}
use lib.ListN.{length}
use Rattle.places.specs.Act.{holds}
use Rattle.places.proofs.Every.{Every}
use Rattle.terms.specs.declared.Check.TheVariants.{Pass}
use Rattle.terms.specs.declared.Mode.{Mode}
use Rattle.cards.specs.declared.Card.{Card}
use Rattle.cards.specs.declared.Cards.{Cards}
use Rattle.cards.specs.declared.Press.{Press}
use Rattle.cards.specs.Press as press
use Rattle.records.specs.declared.Record.{Record}
use Rattle.records.specs.declared.Records.{Records}
use Rattle.records.specs.declared.Rule.{Rule}
use Rattle.records.specs.Server as server
use Rattle.record_moves.specs.Named.{is_paired, has_luid}
use Rattle.server_offers.specs.Offer.{offers}
use Rattle.server_answers.specs.Answer.{answered}
use Rattle.server_judges.specs.Lawful.{lawful3}
use Rattle.server_rules.specs.Pkg5.{fits5}
use Rattle.server_each.proofs.EachRecord.{record_at}
use Rattle.press_tells.specs.Tell.{is_added, commands}
use Rattle.press_judges.specs.Lawful.{lawful4}
use Rattle.demand3.specs.Demand3.{Missing, any_room_refused}
use Rattle.own_packages.proofs.Own.{pkg3, statuses4, pkg4, press_at5, answers5, pkg5, server6, press_at7, server4}
use Rattle.pairs.proofs.Invariant.{card_at, Invariant}
use Rattle.server_pairs.proofs.Later.{Told}

-- no 420 in a session of mode m under a rule from the tables c and s
pub record Roomy (rule : Rule) (m : Mode) (c : Cards) (s : Records) : Type 0 where
  pub at_server : any_room_refused (statuses4 rule m c s) ≡ false
  pub at_press : any_room_refused (answers5 rule m c s) ≡ false

-- both tables hold the same, place by place
pub record Same (c : Cards) (s : Records) (c' : Cards) (s' : Records) : Type 0 where
  pub cards : (i : ℕ) → card_at c i ≡ card_at c' i
  pub records : (j : ℕ) → record_at s j ≡ record_at s' j

-- ---- the last sentence of demand 3, place by place
pub record HasRecord (s : Records) (x : Card) : Type 0 where
  pub place : ℕ
  pub record' : Record
  pub here : record_at s place ≡ holds record'
  pub luid : record'.pairing.luid ≡ x.luid
  pub wording : record'.wording ≡ x.wording

pub record HasCard (c : Cards) (y : Record) : Type 0 where
  pub place : ℕ
  pub card : Card
  pub here : card_at c place ≡ holds card
  pub luid : card.luid ≡ y.pairing.luid
  pub wording : card.wording ≡ y.wording

pub record Even (c : Cards) (s : Records) : Type 0 where
  pub live_card_lem : (i : ℕ) (x : Card) → card_at c i ≡ holds x → press.is_live x.mark ≡ true
  pub live_record_lem : (j : ℕ) (y : Record) → record_at s j ≡ holds y → server.is_live y.pairing.mark ≡ true
  pub has_record : (i : ℕ) (x : Card) → card_at c i ≡ holds x → HasRecord s x
  pub has_card : (j : ℕ) (y : Record) → record_at s j ≡ holds y → HasCard c y

-- ---- what one side alone has is kept, place by place (c and s before, e and f after)
-- the card stands as before, and a record with its LUID is new
pub record CardKept (s : Records) (e : Cards) (f : Records) (x : Card) : Type 0 where
  pub place : ℕ
  pub card : Card
  pub here : card_at e place ≡ holds card
  pub luid : card.luid ≡ x.luid
  pub wording : card.wording ≡ x.wording
  pub new : (j : ℕ) (y : Record) → record_at f j ≡ holds y → y.pairing.luid ≡ x.luid → s.guid < y.guid.0

-- the record stands as before, with a LUID that is new
pub record RecordKept (c : Cards) (f : Records) (y : Record) : Type 0 where
  pub place : ℕ
  pub record' : Record
  pub here : record_at f place ≡ holds record'
  pub guid : record'.guid ≡ y.guid
  pub wording : record'.wording ≡ y.wording
  pub new : c.luid < record'.pairing.luid.0

pub record Kept (c : Cards) (s : Records) (e : Cards) (f : Records) : Type 0 where
  pub cards : (i : ℕ) (x : Card) → card_at c i ≡ holds x → is_added x.mark ≡ true → ((j : ℕ) (y : Record) → record_at s j ≡ holds y → has_luid x.luid y ≡ false) → CardKept s e f x
  pub records : (j : ℕ) (y : Record) → record_at s j ≡ holds y → server.is_live y.pairing.mark ≡ true → is_paired y ≡ false
      → ((i : ℕ) (x : Card) → card_at c i ≡ holds x → x.report.on ≡ true → x.report.guid ≡ y.guid → ⊥) → RecordKept c f y

-- ---- the packages, under a rule
-- Near c s e f: nothing is left to do between c and s but what a session does in either mode, and then they hold what e and f hold
pub record PackageLaws (rule : Rule) (Near : Cards → Records → Cards → Records → Type 0) : Type 0 where
  -- no package is refused 8
  pub lawful_3 : (n : ℕ) (m : Mode) (c : Cards) (s : Records) → Invariant c s → lawful3 m (pkg3 n m c) ≡ true
  pub lawful_4 : (m : Mode) (p : Press) (s : Records) → Invariant p.cards s → lawful4 m p (pkg4 rule p.session m p.cards s) ≡ true
  pub fits_5 : (n : ℕ) (m : Mode) (c : Cards) (s : Records) → Invariant c s → fits5 (length (commands m c)) (offers (server4 rule m c s)) (pkg5 rule n m c s) ≡ true
  pub answers_fit : (m : Mode) (c : Cards) (s : Records) → Invariant c s → (answered (offers (server4 rule m c s)) (answers5 rule m c s) (server4 rule m c s)).check ≡ Pass
  -- the invariant (after Pkg 3 it is `pkg3_told`)
  pub none_missing : (m : Mode) (c : Cards) (s : Records) → Invariant c s → Every (λ a. Missing a → ⊥) (answers5 rule m c s)
  pub inv_5 : (m : Mode) (c : Cards) (s : Records) → Invariant c s → Invariant (press_at5 rule m c s) (server4 rule m c s)
  pub told_6 : (m : Mode) (c : Cards) (s : Records) → Invariant c s → Told (press_at5 rule m c s) (server6 rule m c s)
  -- the same Pkg 3 again
  pub again_4 : (m : Mode) (c : Cards) (s : Records) → Invariant c s → Roomy rule m c s → server4 rule m c (server4 rule m c s) ≡ server4 rule m c s
  pub again_5 : (m : Mode) (c : Cards) (s : Records) → Invariant c s → Roomy rule m c s → press_at5 rule m c (server4 rule m c s) ≡ press_at5 rule m c s
  pub again_6 : (m : Mode) (c : Cards) (s : Records) → Invariant c s → Roomy rule m c s → server6 rule m c (server4 rule m c s) ≡ server6 rule m c s
  -- near from Pkg 4 on
  pub nears_5 : (m : Mode) (c : Cards) (s : Records) → Invariant c s → Roomy rule m c s → Near (press_at5 rule m c s) (server4 rule m c s) (press_at7 rule m c s) (server6 rule m c s)
  pub nears_6 : (m : Mode) (c : Cards) (s : Records) → Invariant c s → Roomy rule m c s → Near (press_at5 rule m c s) (server6 rule m c s) (press_at7 rule m c s) (server6 rule m c s)
  pub nears_7 : (m : Mode) (c : Cards) (s : Records) → Invariant c s → Roomy rule m c s → Near (press_at7 rule m c s) (server6 rule m c s) (press_at7 rule m c s) (server6 rule m c s)
  -- and near it stays
  pub near_4 : (m : Mode) (c : Cards) (s : Records) (e : Cards) (f : Records) → Invariant c s → Near c s e f → Near c (server4 rule m c s) e f
  pub near_5 : (m : Mode) (c : Cards) (s : Records) (e : Cards) (f : Records) → Invariant c s → Near c s e f → Near (press_at5 rule m c s) (server4 rule m c s) e f
  pub near_6 : (m : Mode) (c : Cards) (s : Records) (e : Cards) (f : Records) → Invariant c s → Near c s e f → Near (press_at5 rule m c s) (server6 rule m c s) e f
  pub near_7 : (m : Mode) (c : Cards) (s : Records) (e : Cards) (f : Records) → Invariant c s → Near c s e f → Near (press_at7 rule m c s) (server6 rule m c s) e f
  -- the end
  pub ends : (m : Mode) (c : Cards) (s : Records) (e : Cards) (f : Records) → Invariant c s → Near c s e f → Same (press_at7 rule m c s) (server6 rule m c s) e f
  pub even : (m : Mode) (c : Cards) (s : Records) → Invariant c s → Roomy rule m c s → Even (press_at7 rule m c s) (server6 rule m c s)
  pub kept : (m : Mode) (c : Cards) (s : Records) → Invariant c s → Roomy rule m c s → Kept c s (press_at7 rule m c s) (server6 rule m c s)
