-- Pkg 5: each answer 200 to a Replace or Add is what an entry of the press reports when all commands are taken. Assumes nothing.
use Rattle.std.proofs.Common.{Option, Some, None}
use Prim.Native.Nat.{ℕ, suc, ◌+◌}
use mathlib.Core.Path.{◌≡◌, refl, sym, ap, ◌∙◌, subst}
use mathlib.Core.Bool.{Bool, true, false, cond, false≢true}
use mathlib.Core.List.{List, [], ◌∷◌}
use mathlib.Core.Logic.{◌⊎◌, inl, inr}
use native.Mathlib.Omega.{arith}
use lib.ListN.{get_or}
use Rattle.places.specs.Set.{in_use}
use Rattle.places.proofs.Choice.{never}
use Rattle.places.specs.Act.{free, holds, in_order, replies, with_answers}
use Rattle.places.proofs.Views.{view_here, view_other, holds_used}
use Rattle.places.proofs.Every.{Every, every, Pairs}
use Rattle.places.proofs.Held.{holds_is}
use Rattle.text.specs.Wording.{IsWording}
use Rattle.lists.specs.declared.Entry.{Entry}
use Rattle.terms.specs.Number.{luid, no_guid}
use Rattle.cards.specs.declared.Card.{Card}
use Rattle.cards.specs.declared.Cards.{Cards}
use Rattle.cards.specs.Press.{no_card, find_card, WellFormed}
use Rattle.cards.proofs.FindLaws.{card_at_lem}
use Rattle.press_edits.specs.Edit.{room_for}
use Rattle.press_edits.proofs.RoomLaws.{room_at}
use Rattle.statuses.specs.declared.Name.{Name}
use Rattle.statuses.specs.Status.{name_of, empty_status, replaced}
use Rattle.card_moves.specs.Moves as moves
use Rattle.press_replies.specs.Reply.{no_fingerprint, replace_answer, add_answer, answering_by, answering}
use Rattle.press_takes.specs.Take.{delete_at, taken_card, with_replaced, replace_at, add_at, after_command_by, after_command}
use Rattle.press_takes.proofs.FormedTakes.{taking_formed}
use Rattle.pairs.proofs.Invariant.{card_at}

-- an entry reports GUID (0: none), LUID and fingerprint, as its own
pub record Says (c : Cards) (g l f : ℕ) : Type 0 where
  pub place : ℕ
  pub card : Card
  pub here : card_at c place ≡ holds card
  pub on : card.report.on ≡ true
  pub guid : card.report.guid.0 ≡ g
  pub told : card.report.luid.0 ≡ l
  pub luid : card.luid.0 ≡ l
  pub fp : card.report.fp ≡ f

-- ---- a command that is an Add, or of another LUID, leaves an entry as it is
abbrev pub Leaves : ℕ → Entry → Type 0
Leaves l o = (name_of o.fields.kind ≡ Name.Add) ⊎ (o.fields.luid.0 ≡ l → ⊥)

module _ (o : Entry) (c : Cards) (w : WellFormed c) (k : ℕ) (x : Card) (e : card_at c k ≡ holds x) where
  not_there : (o.fields.luid.0 ≡ x.luid.0 → ⊥) → (i : ℕ) → find_card c o.fields.luid ≡ Some i → k ≡ i → ⊥
  not_there ne i f q =
      let s = card_at_lem c w o.fields.luid i f in
      let is : get_or c.places i no_card ≡ x = ap (λ (n : ℕ). get_or c.places n no_card) (sym q) ∙ holds_is no_card (moves.table_of c) k x e in
      ne (sym s.number ∙ ap (λ (z : Card). z.luid.0) is)

  delete_leaves : (o.fields.luid.0 ≡ x.luid.0 → ⊥) → (r : Option ℕ) → find_card c o.fields.luid ≡ r → card_at (delete_at c r) k ≡ holds x
  delete_leaves ne None f = e
  delete_leaves ne (Some i) f = view_other no_card (moves.table_of c) i free k (not_there ne i f) ∙ e

  replace_leaves : (o.fields.luid.0 ≡ x.luid.0 → ⊥) → (r : Option ℕ) → find_card c o.fields.luid ≡ r → card_at (replace_at o c r) k ≡ holds x
  replace_leaves ne None f = e
  replace_leaves ne (Some i) f = go (no_fingerprint c)
    where
      go : (b : Bool) → card_at (cond b c (with_replaced o c i)) k ≡ holds x
      go true = e
      go false = view_other no_card (moves.table_of c) i (holds (taken_card no_guid (get_or c.places i no_card).luid (c.fp + 1) o.wording)) k (not_there ne i f) ∙ e

  add_leaves : (r : Option ℕ) → room_for c ≡ r → card_at (add_at o c r) k ≡ holds x
  add_leaves None f = e
  add_leaves (Some i) f =
      view_other no_card (moves.table_of c) i (holds (taken_card o.fields.guid (luid (c.luid + 1)) (c.fp + 1) o.wording)) k
      (λ q. false≢true (sym (room_at c i f).free ∙ subst (λ (n : ℕ). in_use c.used n ≡ true) q (holds_used no_card (moves.table_of c) k x e)))
      ∙ e

  pub leaves : Leaves x.luid.0 o → card_at (after_command o c) k ≡ holds x
  unfolding after_command
  leaves a = go (name_of o.fields.kind) a
    where
      other : {A : Type 0} (n : Name) → (n ≡ Name.Add → ⊥) → ((n ≡ Name.Add) ⊎ A) → A
      other n ne (inl e) = absurd (ne e)
      other n ne (inr x) = x

      go : (n : Name) → ((n ≡ Name.Add) ⊎ (o.fields.luid.0 ≡ x.luid.0 → ⊥)) → card_at (after_command_by n o c) k ≡ holds x
      go Name.Delete b = delete_leaves (other Name.Delete (λ e. never (cc)) b) (find_card c o.fields.luid) refl
      go Name.Replace b = replace_leaves (other Name.Replace (λ e. never (cc)) b) (find_card c o.fields.luid) refl
      go Name.Add b = add_leaves (room_for c) refl

pub all_leave : (os : List Entry) → Every (λ o. IsWording o.wording) os → (c : Cards) → WellFormed c → (k : ℕ) (x : Card) → card_at c k ≡ holds x → Every (Leaves x.luid.0) os → card_at (in_order after_command os c) k ≡ holds x
unfolding in_order
all_leave [] t c w k x e a = e
all_leave (o ∷ os) t c w k x e a = all_leave os t.1 (after_command o c) (taking_formed o t.0 c w) k x (leaves o c w k x e a.0) a.1

-- ---- a command that is answered 200 makes it so
-- by its name: a Replace reports its own LUID and no GUID, an Add a LUID above the last and its GUID; a Delete reports nothing
abbrev pub SaidBy : Name → Cards → Entry → Entry → Type 0
SaidBy Name.Delete c o a = Unit {0}
SaidBy Name.Replace c o a = a.fields.code ≡ 200 → Says c 0 a.fields.luid.0 a.fields.fp × (a.fields.luid.0 ≡ o.fields.luid.0)
SaidBy Name.Add c o a = a.fields.code ≡ 200 → Says c o.fields.guid.0 a.fields.luid.0 a.fields.fp

module _ (ref : ℕ) (o : Entry) (c : Cards) (w : WellFormed c) where
  replace_says : (r : Option ℕ) → find_card c o.fields.luid ≡ r → SaidBy Name.Replace (replace_at o c r) o (replace_answer ref o c r)
  replace_says None e q = let z : ◌≡◌ {A = ℕ} 404 200 = q in absurd (omega arith)
  replace_says (Some i) e q = go (no_fingerprint c) q
    where
      go : (b : Bool) → (cond b (empty_status ref Name.Replace 420) (replaced ref o.fields.luid (c.fp + 1))).fields.code ≡ 200
          → Says (cond b c (with_replaced o c i)) 0 (cond b (empty_status ref Name.Replace 420) (replaced ref o.fields.luid (c.fp + 1))).fields.luid.0 (cond b (empty_status ref Name.Replace 420) (replaced ref o.fields.luid (c.fp + 1))).fields.fp
          × ((cond b (empty_status ref Name.Replace 420) (replaced ref o.fields.luid (c.fp + 1))).fields.luid.0 ≡ o.fields.luid.0)
      go true q = let z : ◌≡◌ {A = ℕ} 420 200 = q in absurd (omega arith)
      go false q =
          let s = card_at_lem c w o.fields.luid i e in
          let x = taken_card no_guid (get_or c.places i no_card).luid (c.fp + 1) o.wording in
          (record { place = i; card = x; here = view_here no_card (moves.table_of c) i (holds x) (omega (arith, s.inside, w.luids.long)); on = refl; guid = refl; told = s.number; luid = s.number; fp = refl }, refl)

  add_says : (r : Option ℕ) → room_for c ≡ r → SaidBy Name.Add (add_at o c r) o (add_answer ref o c r)
  add_says None e q = let z : ◌≡◌ {A = ℕ} 420 200 = q in absurd (omega arith)
  add_says (Some i) e q =
      let s = room_at c i e in
      let x = taken_card o.fields.guid (luid (c.luid + 1)) (c.fp + 1) o.wording in
      record { place = i; card = x; here = view_here no_card (moves.table_of c) i (holds x) (omega (arith, s.inside, w.luids.long)); on = refl; guid = refl; told = refl; luid = refl; fp = refl }

  pub taking_says : SaidBy (name_of o.fields.kind) (after_command o c) o (answering ref o c)
  unfolding after_command answering
  taking_says = go (name_of o.fields.kind)
    where
      go : (n : Name) → SaidBy n (after_command_by n o c) o (answering_by n ref o c)
      go Name.Delete = tt
      go Name.Replace = replace_says (find_card c o.fields.luid) refl
      go Name.Add = add_says (room_for c) refl

-- ---- all commands: after an Add there are only Adds, and no LUID stands twice
abbrev pub Before : Entry → Entry → Type 0
Before o q = (name_of q.fields.kind ≡ Name.Add) ⊎ ((name_of o.fields.kind ≡ Name.Add → ⊥) × (q.fields.luid.0 ≡ o.fields.luid.0 → ⊥))

-- what was said stays said
stay : (os : List Entry) → Every (λ o. IsWording o.wording) os → (c : Cards) → WellFormed c → (g l f : ℕ) → Every (Leaves l) os → Says c g l f → Says (in_order after_command os c) g l f
stay os t c w g l f a k =
    record {
      place = k.place;
      card = k.card;
      here = all_leave os t c w k.place k.card k.here (subst (λ (n : ℕ). Every (Leaves n) os) (sym k.luid) a);
      on = k.on;
      guid = k.guid;
      told = k.told;
      luid = k.luid;
      fp = k.fp;
    }

abbrev pub Said : Cards → Entry × Entry → Type 0
Said c p = SaidBy (name_of p.0.fields.kind) c p.0 p.1

pub all_said : (os : List Entry) → Every (λ o. IsWording o.wording) os → Pairs Before os → (ref : ℕ) (c : Cards) → WellFormed c → Every (Said (in_order after_command os c)) (with_answers os (replies answering after_command ref os c))
unfolding in_order replies with_answers
all_said [] t b ref c w = tt
all_said (o ∷ os) t b ref c w =
    let w' = taking_formed o t.0 c w in
    (go (name_of o.fields.kind) refl (taking_says ref o c w), all_said os t.1 b.1 (suc ref) (after_command o c) w')
  where
    last : (g l f : ℕ) → Every (Leaves l) os → Says (after_command o c) g l f → Says (in_order after_command os (after_command o c)) g l f
    last g l f k s = stay os t.1 (after_command o c) (taking_formed o t.0 c w) g l f k s

    given : ℕ
    given = (answering ref o c).fields.luid.0

    both : (m : given ≡ o.fields.luid.0) (z : Entry) → Before o z → Leaves given z
    both m z (inl x) = inl x
    both m z (inr x) = inr (λ q. x.1 (q ∙ m))

    only : name_of o.fields.kind ≡ Name.Add → (z : Entry) → Before o z → Leaves given z
    only e z (inl x) = inl x
    only e z (inr x) = absurd (x.0 e)

    go : (n : Name) → name_of o.fields.kind ≡ n → SaidBy n (after_command o c) o (answering ref o c) → SaidBy n (in_order after_command os (after_command o c)) o (answering ref o c)
    go Name.Delete e k = tt
    go Name.Replace e k = λ q. let r = k q in (last 0 given (answering ref o c).fields.fp (every (Before o) (Leaves given) (both r.1) os b.0) r.0, r.1)
    go Name.Add e k = λ q. last o.fields.guid.0 given (answering ref o c).fields.fp (every (Before o) (Leaves given) (only e) os b.0) (k q)
