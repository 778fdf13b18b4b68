-- A good world: Q holds of its anchors and tables, and of what they will be when the message on its way is taken. Q is what every package of a session keeps.
use Prim.Native.Nat.{ℕ, ◌≤◌}
use mathlib.Core.Path.{◌≡◌}
use mathlib.Core.Bool.{true, false}
use mathlib.Core.Logic.{◌⊎◌}
use lib.Dec.{ltb}
use lib.ListN.{length}
use Rattle.places.proofs.Every.{Every}
use Rattle.message.specs.declared.Content.{Content}
use Rattle.terms.specs.declared.Mode.{Mode}
use Rattle.cards.specs.declared.Awaits as cards
use Rattle.cards.specs.declared.Cards.{Cards}
use Rattle.cards.specs.declared.Press.{Press}
use Rattle.records.specs.declared.Awaits as records
use Rattle.records.specs.declared.Records.{Records}
use Rattle.records.specs.declared.Rule.{Rule}
use Rattle.records.specs.declared.Server.{Server}
use Rattle.card_moves.specs.Moves.{without_reports}
use Rattle.server_rules.specs.Pkg1.{mode_for}
use Rattle.press_tells.specs.Tell.{commands}
use Rattle.calls.specs.Due.{is_kind}
use Rattle.course.specs.Course.{World, Wire, clear, to_server, to_press}
use Rattle.demand3.specs.Demand3.{NoneMissing}
use Rattle.own_packages.proofs.Own.{pkg1, pkg2, pkg3, pkg4, press_at5, pkg5, server6, pkg6, press_at7, server4}
use Rattle.pairs.proofs.Invariant.{Invariant}

-- the mode of a session between the two
abbrev pub mode_of : Press → Server → Mode
mode_of p s = mode_for p.anchor s.link.anchor

-- what is said of the server's rule; and of the anchors (the press's, the server's) and the two tables
pub record Kind : Type 1 where
  pub rules : Rule → Type 0
  pub tables : ℕ → ℕ → Cards → Records → Type 0

-- ---- every package keeps it, under each rule of which it is said; n is the session's number
pub record Kept (Q : Kind) : Type 0 where
  pub inv : (a b : ℕ) (c : Cards) (s : Records) → Q.tables a b c s → Invariant c s
  pub at_4 : (rule : Rule) → Q.rules rule → (a b : ℕ) (c : Cards) (s : Records) → Q.tables a b c s → Q.tables a b c (server4 rule (mode_for a b) c s)
  pub at_5 : (rule : Rule) → Q.rules rule → (a b : ℕ) (c : Cards) (s : Records) → Q.tables a b c s → Q.tables a b (press_at5 rule (mode_for a b) c s) (server4 rule (mode_for a b) c s)
  pub at_6 : (rule : Rule) → Q.rules rule → (n a b : ℕ) (c : Cards) (s : Records) → Q.tables a b c s → Q.tables a n (press_at5 rule (mode_for a b) c s) (server6 rule (mode_for a b) c s)
  pub at_7 : (rule : Rule) → Q.rules rule → (n a b : ℕ) (c : Cards) (s : Records) → Q.tables a b c s → Q.tables n n (press_at7 rule (mode_for a b) c s) (server6 rule (mode_for a b) c s)

-- ---- the message on its way: the side that wrote it waits for the answer, with the tables that it had, or has given up
module _ (Q : Kind) (p : Press) (s : Server) (x : Content) where
  pub record First : Type 0 where
    pub is : x ≡ pkg1 p.session p.anchor
    pub above : ltb s.link.session p.session ≡ true
    pub press : (p.awaits ≡ cards.Awaits.Two) ⊎ (p.awaits ≡ cards.Awaits.Nothing)

  pub record Second : Type 0 where
    pub is : x ≡ pkg2 p.session s.link.anchor (mode_of p s)
    pub awaits : p.awaits ≡ cards.Awaits.Two
    pub server : ((s.link.awaits ≡ records.Awaits.Three (mode_of p s)) × (s.link.session ≡ p.session)) ⊎ (s.link.awaits ≡ records.Awaits.Nothing)

  pub record Third : Type 0 where
    pub cards' : Cards
    pub is : x ≡ pkg3 s.link.session (mode_of p s) cards'
    pub awaits : s.link.awaits ≡ records.Awaits.Three (mode_of p s)
    pub number : s.link.session ≡ p.session
    pub before : Q.tables p.anchor s.link.anchor cards' s.records
    -- (whatever rule the server has when it takes it)
    pub after : (rule : Rule) → Q.rules rule → Q.tables p.anchor s.link.anchor p.cards (server4 rule (mode_of p s) cards' s.records)
    pub press : ((p.awaits ≡ cards.Awaits.Four (mode_of p s)) × (p.cards ≡ cards')) ⊎ (p.awaits ≡ cards.Awaits.Nothing)

  -- (rule': the server's when it took Pkg 3)
  pub record Fourth : Type 0 where
    pub records' : Records
    pub rule' : Rule
    pub said : Q.rules rule'
    pub is : x ≡ pkg4 rule' p.session (mode_of p s) p.cards records'
    pub awaits : p.awaits ≡ cards.Awaits.Four (mode_of p s)
    pub before : Q.tables p.anchor s.link.anchor p.cards records'
    pub after : Q.tables p.anchor s.link.anchor (press_at5 rule' (mode_of p s) p.cards records') s.records
    pub server : ((s.link.awaits ≡ records.Awaits.Five (length (commands (mode_of p s) p.cards))) × (s.link.session ≡ p.session) × (s.records ≡ server4 rule' (mode_of p s) p.cards records')) ⊎ (s.link.awaits ≡ records.Awaits.Nothing)

  pub record Fifth : Type 0 where
    pub cards' : Cards
    pub records' : Records
    pub rule' : Rule
    pub said : Q.rules rule'
    pub is : x ≡ pkg5 rule' s.link.session (mode_of p s) cards' records'
    pub awaits : s.link.awaits ≡ records.Awaits.Five (length (commands (mode_of p s) cards'))
    pub number : s.link.session ≡ p.session
    pub table : s.records ≡ server4 rule' (mode_of p s) cards' records'
    pub before : Q.tables p.anchor s.link.anchor cards' records'
    pub after : Q.tables p.anchor s.link.session p.cards (server6 rule' (mode_of p s) cards' records')
    pub press : ((p.awaits ≡ cards.Awaits.Six) × (p.cards ≡ press_at5 rule' (mode_of p s) cards' records')) ⊎ (p.awaits ≡ cards.Awaits.Nothing)

  pub record Sixth : Type 0 where
    pub is : x ≡ pkg6 p.session
    pub awaits : p.awaits ≡ cards.Awaits.Six
    pub after : Q.tables p.session s.link.anchor (without_reports p.cards) s.records

  -- a message to a side that is closed is refused; but a closed server takes Pkg 1
  pub data ToServer : Type 0 where
    first : First → ToServer
    third : Third → ToServer
    fifth : Fifth → ToServer
    late : s.link.awaits ≡ records.Awaits.Nothing → is_kind 1 1 x.head ≡ false → ToServer

  pub data ToPress : Type 0 where
    second : Second → ToPress
    fourth : Fourth → ToPress
    sixth : Sixth → ToPress
    shut : p.awaits ≡ cards.Awaits.Nothing → ToPress

abbrev pub OnWire : Kind → Press → Server → Wire Content → Type 0
OnWire Q p s clear = Unit {0}
OnWire Q p s (to_server x) = ToServer Q p s x
OnWire Q p s (to_press x) = ToPress Q p s x

pub record Good (Q : Kind) (w : World Content) : Type 0 where
  pub now : Q.tables w.press.anchor w.server.link.anchor w.press.cards w.server.records
  pub rule : Q.rules w.server.rule
  pub numbers : w.server.link.session ≤ w.press.session
  pub wire : OnWire Q w.press w.server w.wire
  pub written : Every NoneMissing w.written
