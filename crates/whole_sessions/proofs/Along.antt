-- With no further edits: a world has the tables that it began with, or those after Pkg 3, or some that are near their end; from each a session that runs through ends in the same tables. Assumes nothing.
use Prim.Native.Nat.{ℕ}
use mathlib.Core.Path.{◌≡◌, refl, sym, ap, ◌∙◌, subst}
use mathlib.Core.Bool.{true, false≢true}
use Rattle.message.specs.declared.Content.{Content}
use Rattle.terms.specs.declared.Mode.{Mode}
use Rattle.cards.specs.declared.Awaits as cards
use Rattle.cards.specs.declared.Cards.{Cards}
use Rattle.cards.specs.Press as press
use Rattle.records.specs.declared.Awaits as records
use Rattle.records.specs.declared.Records.{Records}
use Rattle.records.specs.declared.Rule.{Rule}
use Rattle.records.specs.Server as server
use Rattle.card_moves.specs.Moves.{without_reports}
use Rattle.server_rules.specs.Pkg1.{mode_for}
use Rattle.course.specs.Course.{World, Wire, clear, to_server, to_press}
use Rattle.demand3.specs.Demand3.{PressClosed, ServerClosed, NoSession, both_closed, message_lost}
use Rattle.own_packages.proofs.Own.{press_at5, server6, press_at7, server4}
use Rattle.pairs.proofs.Invariant.{Invariant}
use Rattle.whole_sessions.proofs.PackageLaws.{Roomy, Same, PackageLaws}
use Rattle.whole_sessions.proofs.Good.{Kind, Kept, ToServer, ToPress, first, second, third, fourth, fifth, sixth, late, shut, OnWire, Good}
use Rattle.whole_sessions.proofs.Reached.{InvariantHolds, inv_kept}

-- anchors and tables
abbrev State : Type 0
State = ℕ × ℕ × Cards × Records

-- the tables after each package, and after a whole session, under a rule
abbrev mode_in : State → Mode
mode_in t = mode_for t.0 t.1

abbrev s4 : Rule → State → Records
s4 rule t = server4 rule (mode_in t) t.2 t.3

abbrev c5 : Rule → State → Cards
c5 rule t = press_at5 rule (mode_in t) t.2 t.3

abbrev s6 : Rule → State → Records
s6 rule t = server6 rule (mode_in t) t.2 t.3

abbrev c7 : Rule → State → Cards
c7 rule t = press_at7 rule (mode_in t) t.2 t.3

-- Pkg 3 was taken, and nothing else
abbrev taken3 : Rule → State → State
taken3 rule t = (t.0, t.1, t.2, s4 rule t)

module _ (Near : Cards → Records → Cards → Records → Type 0) (st : (rule : Rule) → PackageLaws rule Near) (rule : Rule) (o : State) (h : Invariant o.2 o.3) (r : Roomy rule (mode_in o) o.2 o.3) where
  -- where a session from o ends
  abbrev e : Cards
  e = c7 rule o

  abbrev f : Records
  f = s6 rule o

  pub data Place (t : State) : Type 0 where
    same : t ≡ o → Place t
    heard : t ≡ taken3 rule o → Place t
    near : Near t.2 t.3 e f → Place t

  pub record Along (a b : ℕ) (c : Cards) (s : Records) : Type 0 where
    pub inv : Invariant c s
    pub place : Place (a, b, c, s)

  -- what holds of the tables that a session from o makes holds of those that it makes once Pkg 3 was taken
  again : (P : Cards → Records → Type 0) → P (c5 rule o) (s6 rule o) → P (c5 rule (taken3 rule o)) (s6 rule (taken3 rule o))
  again P k = subst (λ (c : Cards). P c (s6 rule (taken3 rule o))) (sym ((st rule).again_5 (mode_in o) o.2 o.3 h r)) (subst (P (c5 rule o)) (sym ((st rule).again_6 (mode_in o) o.2 o.3 h r)) k)

  at_4 : (t : State) → Invariant t.2 t.3 → Place t → Place (taken3 rule t)
  at_4 t i (same q) = heard (ap (taken3 rule) q)
  at_4 t i (heard q) = heard (ap (taken3 rule) q ∙ ap (λ (s : Records). (o.0, o.1, o.2, s)) ((st rule).again_4 (mode_in o) o.2 o.3 h r))
  at_4 t i (near n) = near ((st rule).near_4 (mode_in t) t.2 t.3 e f i n)

  at_5 : (t : State) → Invariant t.2 t.3 → Place t → Near (c5 rule t) (s4 rule t) e f
  at_5 t i (same q) = subst (λ (z : State). Near (c5 rule z) (s4 rule z) e f) (sym q) ((st rule).nears_5 (mode_in o) o.2 o.3 h r)
  at_5 t i (heard q) =
      subst (λ (z : State). Near (c5 rule z) (s4 rule z) e f) (sym q)
      (subst (λ (c : Cards). Near c (s4 rule (taken3 rule o)) e f) (sym ((st rule).again_5 (mode_in o) o.2 o.3 h r))
      (subst (λ (s : Records). Near (c5 rule o) s e f) (sym ((st rule).again_4 (mode_in o) o.2 o.3 h r)) ((st rule).nears_5 (mode_in o) o.2 o.3 h r)))
  at_5 t i (near n) = (st rule).near_5 (mode_in t) t.2 t.3 e f i n

  at_6 : (t : State) → Invariant t.2 t.3 → Place t → Near (c5 rule t) (s6 rule t) e f
  at_6 t i (same q) = subst (λ (z : State). Near (c5 rule z) (s6 rule z) e f) (sym q) ((st rule).nears_6 (mode_in o) o.2 o.3 h r)
  at_6 t i (heard q) = subst (λ (z : State). Near (c5 rule z) (s6 rule z) e f) (sym q) (again (λ c s. Near c s e f) ((st rule).nears_6 (mode_in o) o.2 o.3 h r))
  at_6 t i (near n) = (st rule).near_6 (mode_in t) t.2 t.3 e f i n

  at_7 : (t : State) → Invariant t.2 t.3 → Place t → Near (c7 rule t) (s6 rule t) e f
  at_7 t i (same q) = subst (λ (z : State). Near (c7 rule z) (s6 rule z) e f) (sym q) ((st rule).nears_7 (mode_in o) o.2 o.3 h r)
  at_7 t i (heard q) = subst (λ (z : State). Near (c7 rule z) (s6 rule z) e f) (sym q) (again (λ c s. Near (without_reports c) s e f) ((st rule).nears_7 (mode_in o) o.2 o.3 h r))
  at_7 t i (near n) = (st rule).near_7 (mode_in t) t.2 t.3 e f i n

  -- while the rule stays
  abbrev pub AlongKind : Kind
  AlongKind = record { rules = λ k. k ≡ rule; tables = Along }

  pub along_kept : Kept AlongKind
  along_kept =
      let v = inv_kept Near st in
      record {
        inv = λ a b c s k. k.inv;
        at_4 = λ u e a b c s k. subst (λ (z : Rule). Along a b c (server4 z (mode_for a b) c s)) (sym e) (record { inv = v.at_4 rule tt a b c s k.inv; place = at_4 (a, b, c, s) k.inv k.place });
        at_5 = λ u e a b c s k. subst (λ (z : Rule). Along a b (press_at5 z (mode_for a b) c s) (server4 z (mode_for a b) c s)) (sym e) (record { inv = v.at_5 rule tt a b c s k.inv; place = near (at_5 (a, b, c, s) k.inv k.place) });
        at_6 = λ u e n a b c s k. subst (λ (z : Rule). Along a n (press_at5 z (mode_for a b) c s) (server6 z (mode_for a b) c s)) (sym e) (record { inv = v.at_6 rule tt n a b c s k.inv; place = near (at_6 (a, b, c, s) k.inv k.place) });
        at_7 = λ u e n a b c s k. subst (λ (z : Rule). Along n n (press_at7 z (mode_for a b) c s) (server6 z (mode_for a b) c s)) (sym e) (record { inv = v.at_7 rule tt n a b c s k.inv; place = near (at_7 (a, b, c, s) k.inv k.place) });
      }

  -- a whole session from there
  pub along_ends : (a b : ℕ) (c : Cards) (s : Records) → Along a b c s → Same (press_at7 rule (mode_for a b) c s) (server6 rule (mode_for a b) c s) e f
  along_ends a b c s k = go k.place
    where
      itself : Same e f e f
      itself = record { cards = λ i. refl; records = λ j. refl }

      go : Place (a, b, c, s) → Same (c7 rule (a, b, c, s)) (s6 rule (a, b, c, s)) e f
      go (same q) = subst (λ (z : State). Same (c7 rule z) (s6 rule z) e f) (sym q) itself
      go (heard q) = subst (λ (z : State). Same (c7 rule z) (s6 rule z) e f) (sym q) (again (λ c s. Same (without_reports c) s e f) itself)
      go (near n) = (st rule).ends (mode_for a b) c s e f k.inv n

-- ---- a good world with no session open is along its own tables
abbrev pub state_of : World Content → State
state_of w = (w.press.anchor, w.server.link.anchor, w.press.cards, w.server.records)

module _ (Near : Cards → Records → Cards → Records → Type 0) (st : (rule : Rule) → PackageLaws rule Near) (w : World Content) (g : Good InvariantHolds w) (r : Roomy w.server.rule (mode_in (state_of w)) w.press.cards w.server.records) where
  abbrev pub AlongOf : Kind
  AlongOf = AlongKind Near st w.server.rule (state_of w) g.now r

  open_press : {A : Type 0} → PressClosed w → (a : cards.Awaits) → press.is_open a ≡ true → w.press.awaits ≡ a → A
  open_press c a o e = absurd (false≢true (sym (sym o ∙ (ap press.is_open (sym e) ∙ c))))

  open_server : {A : Type 0} → ServerClosed w → (a : records.Awaits) → server.is_open a ≡ true → w.server.link.awaits ≡ a → A
  open_server c a o e = absurd (false≢true (sym (sym o ∙ (ap server.is_open (sym e) ∙ c))))

  pub begins_along : NoSession w → Good AlongOf w
  begins_along n = record { now = record { inv = g.now; place = same refl }; rule = refl; numbers = g.numbers; wire = wire n; written = g.written }
    where
      to_server_lem : ServerClosed w → (x : Content) → ToServer InvariantHolds w.press w.server x → ToServer AlongOf w.press w.server x
      to_server_lem c x (first k) = first (record { is = k.is; above = k.above; press = k.press })
      to_server_lem c x (third k) = open_server c _ refl k.awaits
      to_server_lem c x (fifth k) = open_server c _ refl k.awaits
      to_server_lem c x (late q i) = late q i

      to_press_lem : PressClosed w → (x : Content) → ToPress InvariantHolds w.press w.server x → ToPress AlongOf w.press w.server x
      to_press_lem c x (second k) = open_press c _ refl k.awaits
      to_press_lem c x (fourth k) = open_press c _ refl k.awaits
      to_press_lem c x (sixth k) = open_press c _ refl k.awaits
      to_press_lem c x (shut q) = shut q

      both : PressClosed w → ServerClosed w → (x : Wire Content) → OnWire InvariantHolds w.press w.server x → OnWire AlongOf w.press w.server x
      both c d clear k = tt
      both c d (to_server x) k = to_server_lem d x k
      both c d (to_press x) k = to_press_lem c x k

      wire : NoSession w → OnWire AlongOf w.press w.server w.wire
      wire (both_closed c d) = both c d w.wire g.wire
      wire (message_lost c q) = subst (OnWire AlongOf w.press w.server) (sym q) tt
