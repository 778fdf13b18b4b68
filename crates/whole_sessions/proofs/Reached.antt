-- Every world that edits and sessions reach from two fresh sides is good: the invariant holds of its tables.
use Prim.Native.Nat.{ℕ, ◌≤◌}
use mathlib.Core.Path.{◌≡◌, refl, sym, ap, ◌∙◌, subst}
use mathlib.Core.Bool.{Bool, true, false, not, false≢true}
use mathlib.Core.Logic.{inr}
use native.Mathlib.Omega.{arith}
use Rattle.text.specs.Wording.{last_station}
use Rattle.message.specs.declared.Content.{Content}
use Rattle.terms.specs.declared.Check.TheVariants.{Fail}
use Rattle.terms.specs.Check.{checked}
use Rattle.cards.specs.declared.Awaits as cards
use Rattle.cards.specs.declared.Cards.{Cards}
use Rattle.cards.specs.declared.Press.{Press}
use Rattle.cards.specs.Press as press
use Rattle.records.specs.declared.Awaits as records
use Rattle.records.specs.declared.Records.{Records}
use Rattle.records.specs.declared.Rule.{Rule}
use Rattle.records.specs.declared.Server.{Server}
use Rattle.records.specs.Server as server
use Rattle.press_edits.specs.Edited as press_edited
use Rattle.press_edits.specs.Edit as atPress
use Rattle.press_edits.proofs.Cases as pressCases
use Rattle.server_edits.specs.Edited as server_edited
use Rattle.server_edits.specs.Edit as atServer
use Rattle.server_edits.proofs.Cases as serverCases
use Rattle.server_rules.specs.Pkg1.{mode_for}
use Rattle.course.specs.Course.{hand_made, World, fresh_world, Wire, clear, to_server, to_press, with_press, with_server, at_the_press, at_the_server, Step, press_adds, press_edits, press_deletes, server_adds, server_edits, server_deletes, set_rule, start, step, lose, press_give_up, server_give_up, handed, does}
use Rattle.course.specs.OnContent.{on_content}
use Rattle.course.proofs.AlongLaws.{goes_keep}
use Rattle.demand3.specs.Demand3.{Reached, room_refused}
use Rattle.own_packages.proofs.Own.{press_at5, server6}
use Rattle.pairs.proofs.Invariant.{Invariant}
use Rattle.pairs.proofs.Fresh.{fresh_inv}
use Rattle.pairs.proofs.PressEdits.{press_add_inv, press_edit_inv, press_delete_inv}
use Rattle.pairs.proofs.ServerEdits.{server_add_inv, server_edit_inv, server_delete_inv}
use Rattle.server_pairs.proofs.Pkg3.{pkg3_told}
use Rattle.press_pairs.proofs.Bare.{bare_told}
use Rattle.whole_sessions.proofs.PackageLaws.{PackageLaws}
use Rattle.whole_sessions.proofs.Good.{Kind, Kept, ToServer, ToPress, first, second, third, fourth, fifth, sixth, late, shut, OnWire, Good}
use Rattle.whole_sessions.proofs.Hands.{step_good}

-- ---- a closed side is edited
module _ (Q : Kind) (w : World Content) (g : Good Q w) where
  abbrev p : Press
  p = w.press

  abbrev s : Server
  s = w.server

  abbrev edited : Cards → Press
  edited c = atPress.with_cards p c

  pub press_edited_lem : p.awaits ≡ cards.Awaits.Nothing → (c : Cards) → ((a b : ℕ) (r : Records) → Q.tables a b p.cards r → Q.tables a b c r) → Good Q (with_press w (edited c))
  press_edited_lem shut' c keep = record { now = keep p.anchor s.link.anchor s.records g.now; rule = g.rule; numbers = g.numbers; wire = go w.wire g.wire; written = g.written }
    where
      to : (x : Content) → ToServer Q p s x → ToServer Q (edited c) s x
      to x (first f) = first (record { is = f.is; above = f.above; press = f.press })
      to x (third f) = third (record { cards' = f.cards'; is = f.is; awaits = f.awaits; number = f.number; before = f.before; after = λ rule said. keep _ _ _ (f.after rule said); press = inr shut' })
      to x (fifth f) = fifth (record { cards' = f.cards'; records' = f.records'; rule' = f.rule'; said = f.said; is = f.is; awaits = f.awaits; number = f.number; table = f.table; before = f.before; after = keep _ _ _ f.after; press = inr shut' })
      to x (late e i) = late e i

      go : (x : Wire Content) → OnWire Q p s x → OnWire Q (edited c) s x
      go clear f = tt
      go (to_server x) f = to x f
      go (to_press x) f = shut shut'

  abbrev changed : Records → Server
  changed r = record { records = r; link = s.link; rule = s.rule }

  pub server_edited_lem : s.link.awaits ≡ records.Awaits.Nothing → (r : Records) → ((a b : ℕ) (c : Cards) → Q.tables a b c s.records → Q.tables a b c r) → Good Q (with_server w (changed r))
  server_edited_lem shut' r keep = record { now = keep p.anchor s.link.anchor p.cards g.now; rule = g.rule; numbers = g.numbers; wire = go w.wire g.wire; written = g.written }
    where
      open' : {A : Type 0} (a : records.Awaits) → server.is_open a ≡ true → s.link.awaits ≡ a → A
      open' a o e = absurd (false≢true (sym (sym o ∙ ap server.is_open (sym e ∙ shut'))))

      to : (x : Content) → ToServer Q p s x → ToServer Q p (changed r) x
      to x (first f) = first (record { is = f.is; above = f.above; press = f.press })
      to x (third f) = open' _ refl f.awaits
      to x (fifth f) = open' _ refl f.awaits
      to x (late e i) = late e i

      back : (x : Content) → ToPress Q p s x → ToPress Q p (changed r) x
      back x (second f) = second (record { is = f.is; awaits = f.awaits; server = inr shut' })
      back x (fourth f) = fourth (record { records' = f.records'; rule' = f.rule'; said = f.said; is = f.is; awaits = f.awaits; before = f.before; after = keep _ _ _ f.after; server = inr shut' })
      back x (sixth f) = sixth (record { is = f.is; awaits = f.awaits; after = keep _ _ _ f.after })
      back x (shut e) = shut e

      go : (x : Wire Content) → OnWire Q p s x → OnWire Q p (changed r) x
      go clear f = tt
      go (to_server x) f = to x f
      go (to_press x) f = back x f

-- ---- the rule is set, whatever is on its way
module _ (Q : Kind) (w : World Content) (g : Good Q w) (rule : Rule) (said : Q.rules rule) where
  abbrev under : Server
  under = server.server_goes_by rule w.server

  pub rule_set : Good Q (with_server w under)
  rule_set = record { now = g.now; rule = said; numbers = g.numbers; wire = go w.wire g.wire; written = g.written }
    where
      to : (x : Content) → ToServer Q w.press w.server x → ToServer Q w.press under x
      to x (first f) = first (record { is = f.is; above = f.above; press = f.press })
      to x (third f) = third (record { cards' = f.cards'; is = f.is; awaits = f.awaits; number = f.number; before = f.before; after = f.after; press = f.press })
      to x (fifth f) = fifth (record { cards' = f.cards'; records' = f.records'; rule' = f.rule'; said = f.said; is = f.is; awaits = f.awaits; number = f.number; table = f.table; before = f.before; after = f.after; press = f.press })
      to x (late e i) = late e i

      back : (x : Content) → ToPress Q w.press w.server x → ToPress Q w.press under x
      back x (second f) = second (record { is = f.is; awaits = f.awaits; server = f.server })
      back x (fourth f) = fourth (record { records' = f.records'; rule' = f.rule'; said = f.said; is = f.is; awaits = f.awaits; before = f.before; after = f.after; server = f.server })
      back x (sixth f) = sixth (record { is = f.is; awaits = f.awaits; after = f.after })
      back x (shut e) = shut e

      go : (x : Wire Content) → OnWire Q w.press w.server x → OnWire Q w.press under x
      go clear f = tt
      go (to_server x) f = to x f
      go (to_press x) f = back x f

-- ---- the invariant is kept by every package, under any rule
abbrev pub InvariantHolds : Kind
InvariantHolds = record { rules = λ rule. Unit {0}; tables = λ a b c s. Invariant c s }

module _ (Near : Cards → Records → Cards → Records → Type 0) (st : (rule : Rule) → PackageLaws rule Near) where
  pub inv_kept : Kept InvariantHolds
  inv_kept =
      record {
        inv = λ a b c s h. h;
        at_4 = λ rule q a b c s h. (pkg3_told rule (mode_for a b) c s h).inv;
        at_5 = λ rule q a b c s h. (st rule).inv_5 (mode_for a b) c s h;
        at_6 = λ rule q n a b c s h. ((st rule).told_6 (mode_for a b) c s h).inv;
        at_7 = λ rule q n a b c s h. (bare_told (press_at5 rule (mode_for a b) c s) (server6 rule (mode_for a b) c s) ((st rule).told_6 (mode_for a b) c s h)).inv;
      }

  -- ---- and by the edits: a side that is open refuses them
  press_closed : (a : cards.Awaits) → press.is_open a ≡ false → a ≡ cards.Awaits.Nothing
  press_closed cards.Awaits.Nothing e = refl
  press_closed cards.Awaits.Two e = absurd (false≢true (sym e))
  press_closed (cards.Awaits.Four m) e = absurd (false≢true (sym e))
  press_closed cards.Awaits.Six e = absurd (false≢true (sym e))

  server_closed : (a : records.Awaits) → server.is_open a ≡ false → a ≡ records.Awaits.Nothing
  server_closed records.Awaits.Nothing e = refl
  server_closed (records.Awaits.Three m) e = absurd (false≢true (sym e))
  server_closed (records.Awaits.Five n) e = absurd (false≢true (sym e))

  module _ (w : World Content) (g : Good InvariantHolds w) where
    abbrev By : press_edited.Edited → Type 0
    By e = Good InvariantHolds (at_the_press w e).world

    at_press : (e : press_edited.Edited) → (checked (not (press.is_open w.press.awaits)) ≡ Fail → e ≡ atPress.refusal 1 w.press) → e.press ≡ atPress.with_cards w.press e.press.cards
        → ((r : Records) → Invariant w.press.cards r → Invariant e.press.cards r) → By e
    at_press e refused same keep = go (press.is_open w.press.awaits) refl
      where
        go : (b : Bool) → press.is_open w.press.awaits ≡ b → By e
        go true q = subst By (sym (refused (ap (λ (b : Bool). checked (not b)) q))) (record { now = g.now; rule = g.rule; numbers = g.numbers; wire = g.wire; written = g.written })
        go false q = subst (λ (z : Press). Good InvariantHolds (with_press w z)) (sym same) (press_edited_lem InvariantHolds w g (press_closed w.press.awaits q) e.press.cards (λ a b r h. keep r h))

    abbrev ByServer : server_edited.Edited → Type 0
    ByServer e = Good InvariantHolds (at_the_server w e).world

    at_server : (e : server_edited.Edited) → (checked (not (server.is_open w.server.link.awaits)) ≡ Fail → e ≡ atServer.refusal 1 w.server) → e.server ≡ record { records = e.server.records; link = w.server.link; rule = w.server.rule }
        → ((c : Cards) → Invariant c w.server.records → Invariant c e.server.records) → ByServer e
    at_server e refused same keep = go (server.is_open w.server.link.awaits) refl
      where
        go : (b : Bool) → server.is_open w.server.link.awaits ≡ b → ByServer e
        go true q = subst ByServer (sym (refused (ap (λ (b : Bool). checked (not b)) q))) (record { now = g.now; rule = g.rule; numbers = g.numbers; wire = g.wire; written = g.written })
        go false q = subst (λ (z : Server). Good InvariantHolds (with_server w z)) (sym same) (server_edited_lem InvariantHolds w g (server_closed w.server.link.awaits q) e.server.records (λ a b c h. keep c h))

    ours_good : (x : Step) → hand_made x ≡ false → Good InvariantHolds (does on_content x w).world
    ours_good (press_adds t) e =
        at_press (atPress.press_add w.press t) (pressCases.add_open w.press t)
        (pressCases.add_all w.press t (λ r. r.press ≡ atPress.with_cards w.press r.press.cards) (λ n. refl) (λ i a b. refl)) (λ r h. press_add_inv w.press r h t)
    ours_good (press_edits l t) e =
        at_press (atPress.press_edit w.press l t) (pressCases.edit_open w.press l t)
        (pressCases.edit_all w.press l t (λ r. r.press ≡ atPress.with_cards w.press r.press.cards) (λ n. refl) (λ i a b c. refl)) (λ r h. press_edit_inv w.press r h l t)
    ours_good (press_deletes l) e =
        at_press (atPress.press_delete w.press l) (pressCases.delete_open w.press l)
        (pressCases.delete_all w.press l (λ r. r.press ≡ atPress.with_cards w.press r.press.cards) (λ n. refl) (λ i a. refl)) (λ r h. press_delete_inv w.press r h l)
    ours_good (server_adds t) e =
        at_server (atServer.server_add w.server t) (serverCases.add_open w.server t)
        (serverCases.add_all w.server t (λ r. r.server ≡ record { records = r.server.records; link = w.server.link; rule = w.server.rule }) (λ n. refl) (λ i a b. refl)) (λ c h. server_add_inv c w.server h t)
    ours_good (server_edits i t) e =
        at_server (atServer.server_edit w.server i t) (serverCases.edit_open w.server i t)
        (serverCases.edit_all w.server i t (λ r. r.server ≡ record { records = r.server.records; link = w.server.link; rule = w.server.rule }) (λ n. refl) (λ j a b. refl)) (λ c h. server_edit_inv c w.server h i t)
    ours_good (server_deletes i) e =
        at_server (atServer.server_delete w.server i) (serverCases.delete_open w.server i)
        (serverCases.delete_all w.server i (λ r. r.server ≡ record { records = r.server.records; link = w.server.link; rule = w.server.rule }) (λ n. refl) (λ j a. refl)) (λ c h. server_delete_inv c w.server h i)
    ours_good (set_rule rule) e = rule_set InvariantHolds w g rule tt
    ours_good (handed x) e = absurd (false≢true (sym e))
    ours_good start e = step_good Near st InvariantHolds inv_kept start refl w g
    ours_good step e = step_good Near st InvariantHolds inv_kept step refl w g
    ours_good lose e = step_good Near st InvariantHolds inv_kept lose refl w g
    ours_good press_give_up e = step_good Near st InvariantHolds inv_kept press_give_up refl w g
    ours_good server_give_up e = step_good Near st InvariantHolds inv_kept server_give_up refl w g

  fresh_good : (station : ℕ) → station ≤ last_station → Good InvariantHolds (fresh_world station)
  fresh_good station h = record { now = fresh_inv station h; rule = tt; numbers = omega arith; wire = tt; written = tt }

  pub reached_good : (w : World Content) → Reached on_content room_refused w → Good InvariantHolds w
  reached_good w r = subst (Good InvariantHolds) r.there (goes_keep on_content (λ x. hand_made x ≡ false) (Good InvariantHolds) (λ x e v g. ours_good v g x e) r.course r.ours (fresh_world r.station) (fresh_good r.station r.numbered))
