-- A Replace of a card that is there, and an Add, are answered 200 or 420, a Delete 200 or 211: never 404. Assumes nothing.
use Rattle.std.proofs.Common.{Option, Some, None}
use Prim.Native.Nat.{ℕ, suc, ◌+◌}
use mathlib.Core.Path.{◌≡◌, refl, sym, ap, ◌∙◌, subst}
use mathlib.Core.Bool.{Bool, true, false, cond}
use mathlib.Core.List.{List, [], ◌∷◌}
use mathlib.Core.Logic.{◌⊎◌, inl, inr}
use native.Mathlib.Omega.{arith}
use lib.Dec.{eqb}
use borrow.Author.Tests.{eqb-false}
use Rattle.places.specs.Table.{entry_found}
use Rattle.places.proofs.Choice.{never}
use Rattle.places.specs.Act.{holds, replies, with_answers}
use Rattle.places.proofs.Every.{Every, every2, Pairs}
use Rattle.text.specs.Wording.{IsWording}
use Rattle.lists.specs.declared.Entry.{Entry}
use Rattle.cards.specs.declared.Card.{Card}
use Rattle.cards.specs.declared.Cards.{Cards}
use Rattle.cards.specs.Press.{no_card, is_live, find_card, WellFormed}
use Rattle.press_edits.specs.Edit.{room_for}
use Rattle.statuses.specs.declared.Name.{Name}
use Rattle.statuses.specs.Status.{name_of, empty_status, replaced}
use Rattle.press_replies.specs.Reply.{no_fingerprint, delete_answer, replace_answer, add_answer, answering_by, answering}
use Rattle.press_takes.specs.Take.{after_command}
use Rattle.press_takes.proofs.FormedTakes.{taking_formed}
use Rattle.pairs.proofs.Invariant.{card_at}
use Rattle.pairs.proofs.Numbers.{card_gives}
use Rattle.press_pairs.proofs.Says.{Leaves, leaves, Before}

-- the card with LUID l
pub record Present (c : Cards) (l : ℕ) : Type 0 where
  pub place : ℕ
  pub card : Card
  pub here : card_at c place ≡ holds card
  pub luid : card.luid.0 ≡ l
  pub live : is_live card.mark ≡ true

-- a command of another card leaves it
present_stays : (o : Entry) (c : Cards) → WellFormed c → (l : ℕ) → Present c l → Leaves l o → Present (after_command o c) l
present_stays o c w l k a =
    record {
      place = k.place;
      card = k.card;
      here = leaves o c w k.place k.card k.here (subst (λ (n : ℕ). Leaves n o) (sym k.luid) a);
      luid = k.luid;
      live = k.live;
    }

-- ---- the answers: 200, or for a Delete 211, for a Replace or Add 420
abbrev pub Either : ℕ → Entry → Type 0
Either n a = (a.fields.code ≡ 200) ⊎ (a.fields.code ≡ n)

abbrev pub GrantedBy : Name → Entry → Type 0
GrantedBy Name.Delete a = Either 211 a
GrantedBy Name.Replace a = Either 420 a
GrantedBy Name.Add a = Either 420 a

abbrev pub Granted : Entry × Entry → Type 0
Granted p = GrantedBy (name_of p.0.fields.kind) p.1

-- not 420, so 200
pub then_200 : (a : Entry) → Either 420 a → eqb a.fields.code 420 ≡ false → a.fields.code ≡ 200
then_200 a (inl e) q = e
then_200 a (inr e) q = absurd (eqb-false a.fields.code 420 q e)

-- never 404
pub never_404 : (n : Name) (a : Entry) → GrantedBy n a → a.fields.code ≡ 404 → ⊥
never_404 n a g e = go n g
  where
    no : (k : ℕ) → (k ≡ 404 → ⊥) → Either k a → ⊥
    no k ne (inl q) = omega (arith, q, e)
    no k ne (inr q) = ne (sym q ∙ e)

    go : (n : Name) → GrantedBy n a → ⊥
    go Name.Delete g = no 211 (λ q. omega (arith, q)) g
    go Name.Replace g = no 420 (λ q. omega (arith, q)) g
    go Name.Add g = no 420 (λ q. omega (arith, q)) g

abbrev pub Replacing : (ℕ → Type 0) → Entry → Type 0
Replacing P o = name_of o.fields.kind ≡ Name.Replace → P o.fields.luid.0

one_granted : (ref : ℕ) (o : Entry) (c : Cards) → WellFormed c → Replacing (Present c) o → Granted (o, answering ref o c)
unfolding answering
one_granted ref o c w k = go (name_of o.fields.kind) refl
  where
    gone : (r : Option ℕ) → Either 211 (delete_answer ref c r)
    gone None = inr refl
    gone (Some i) = inl refl

    new : (r : Option ℕ) → Either 420 (add_answer ref o c r)
    new None = inr refl
    new (Some i) = inl refl

    room : (b : Bool) → Either 420 (cond b (empty_status ref Name.Replace 420) (replaced ref o.fields.luid (c.fp + 1)))
    room true = inr refl
    room false = inl refl

    rep : Present c o.fields.luid.0 → (r : Option ℕ) → find_card c o.fields.luid ≡ r → Either 420 (replace_answer ref o c r)
    rep p None e = let v = sym (ap (entry_found no_card c.places) e) ∙ card_gives c o.fields.luid w p.card (record { place = p.place; here = p.here; live' = p.live; number = p.luid }) in never (cc)
    rep p (Some i) e = room (no_fingerprint c)

    go : (n : Name) → name_of o.fields.kind ≡ n → GrantedBy n (answering_by n ref o c)
    go Name.Delete e = gone (find_card c o.fields.luid)
    go Name.Replace e = rep (k e) (find_card c o.fields.luid) refl
    go Name.Add e = new (room_for c)

pub all_granted : (os : List Entry) → Every (λ o. IsWording o.wording) os → Pairs Before os → (ref : ℕ) (c : Cards) → WellFormed c → Every (Replacing (Present c)) os → Every Granted (with_answers os (replies answering after_command ref os c))
unfolding replies with_answers
all_granted [] t b ref c w k = tt
all_granted (o ∷ os) t b ref c w k = (
  one_granted ref o c w k.0,
  all_granted os t.1 b.1 (suc ref) (after_command o c) (taking_formed o t.0 c w) (every2 (Before o) (Replacing (Present c)) (Replacing (Present (after_command o c))) (λ q d f e. present_stays o c w q.fields.luid.0 (f e) (leave q e d)) os b.0 k.1),
)
  where
    leave : (q : Entry) → name_of q.fields.kind ≡ Name.Replace → Before o q → Leaves q.fields.luid.0 o
    leave q e (inl a) = never (cc)
    leave q e (inr a) = inr (λ d. a.1 (sym d))
