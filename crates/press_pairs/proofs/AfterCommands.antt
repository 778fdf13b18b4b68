-- The press takes the server's commands: where its reports come from, what a Delete leaves, and that its numbers rise. Assumes nothing.
use Rattle.std.proofs.Common.{Option, Some, None}
use Prim.Native.Nat.{ℕ, suc, ◌+◌, ◌≤◌, ◌<◌}
use mathlib.Core.Path.{◌≡◌, refl, sym, ap, ◌∙◌, subst}
use mathlib.Core.Bool.{Bool, true, false, cond}
use mathlib.Core.List.{List, [], ◌∷◌}
use native.Mathlib.Omega.{arith}
use lib.ListN.{get_or, length}
use Rattle.places.specs.Set.{all_places}
use Rattle.places.specs.Table.{entry_found}
use Rattle.places.proofs.Choice.{never}
use Rattle.places.specs.Act.{free, holds, in_order, replies, with_answers}
use Rattle.places.proofs.Views.{view_here, view_other, holds_used}
use Rattle.places.proofs.Every.{Every, every}
use Rattle.places.proofs.Held.{holds_is, of_each, put_all, used_holds}
use Rattle.text.specs.Wording.{IsWording}
use Rattle.lists.specs.declared.Entry.{Entry}
use Rattle.terms.specs.Number.{luid, no_guid}
use Rattle.cards.specs.declared.Card.{Card}
use Rattle.cards.specs.declared.Cards.{Cards}
use Rattle.cards.specs.Press.{no_card, is_live, find_card, card_of, WellFormed}
use Rattle.cards.proofs.FindLaws.{card_at_lem}
use Rattle.press_edits.specs.Edit.{room_for}
use Rattle.press_edits.proofs.RoomLaws.{room_at}
use Rattle.statuses.specs.declared.Name.{Name}
use Rattle.statuses.specs.Status.{name_of, empty_status, replaced}
use Rattle.card_moves.specs.Moves as moves
use Rattle.card_moves.specs.Moves.{without_card}
use Rattle.press_replies.specs.Reply.{no_fingerprint, replace_answer, add_answer, answering_by, answering}
use Rattle.press_takes.specs.Take.{delete_at, taken_card, with_replaced, replace_at, add_at, after_command_by, after_command}
use Rattle.press_takes.proofs.FormedTakes.{taking_formed}
use Rattle.pairs.proofs.Invariant.{card_at, FromServer}
use Rattle.pairs.proofs.Numbers.{card_gives}

-- ---- one command
module _ (o : Entry) (c : Cards) (w : WellFormed c) where
  abbrev long : length c.places ≡ all_places
  long = w.luids.long

  -- the card that is there, replaced; a card that is added
  abbrev pub swapped : ℕ → Card
  swapped i = taken_card no_guid (get_or c.places i no_card).luid (c.fp + 1) o.wording

  abbrev pub fresh : Card
  fresh = taken_card o.fields.guid (luid (c.luid + 1)) (c.fp + 1) o.wording

  -- what holds of all entries and of what a command makes holds of all entries after it
  module _ (P : Card → Type 0) (old : (i : ℕ) (x : Card) → card_at c i ≡ holds x → P x)
      (swap : name_of o.fields.kind ≡ Name.Replace → (i : ℕ) → find_card c o.fields.luid ≡ Some i → no_fingerprint c ≡ false → P (swapped i))
      (add : name_of o.fields.kind ≡ Name.Add → (i : ℕ) → room_for c ≡ Some i → P fresh) where
    delete_all : (r : Option ℕ) → find_card c o.fields.luid ≡ r → (n : ℕ) (x : Card) → card_at (delete_at c r) n ≡ holds x → P x
    delete_all None e = old
    delete_all (Some i) e =
        let k = card_at_lem c w o.fields.luid i e in
        put_all no_card P (moves.table_of c) i free (omega (arith, k.inside, long)) old tt

    replace_all : name_of o.fields.kind ≡ Name.Replace → (r : Option ℕ) → find_card c o.fields.luid ≡ r → (n : ℕ) (x : Card) → card_at (replace_at o c r) n ≡ holds x → P x
    replace_all m None e = old
    replace_all m (Some i) e = go (no_fingerprint c) refl
      where
        go : (b : Bool) → no_fingerprint c ≡ b → (n : ℕ) (x : Card) → card_at (cond b c (with_replaced o c i)) n ≡ holds x → P x
        go true q = old
        go false q =
            let k = card_at_lem c w o.fields.luid i e in
            put_all no_card P (moves.table_of c) i (holds (swapped i)) (omega (arith, k.inside, long)) old (swap m i e q)

    add_all : name_of o.fields.kind ≡ Name.Add → (r : Option ℕ) → room_for c ≡ r → (n : ℕ) (x : Card) → card_at (add_at o c r) n ≡ holds x → P x
    add_all m None e = old
    add_all m (Some i) e =
        let k = room_at c i e in
        put_all no_card P (moves.table_of c) i (holds fresh) (omega (arith, k.inside, long)) old (add m i e)

    pub taking_all : (n : ℕ) (x : Card) → card_at (after_command o c) n ≡ holds x → P x
    unfolding after_command
    taking_all = go (name_of o.fields.kind) refl
      where
        go : (m : Name) → name_of o.fields.kind ≡ m → (n : ℕ) (x : Card) → card_at (after_command_by m o c) n ≡ holds x → P x
        go Name.Delete m = delete_all (find_card c o.fields.luid) refl
        go Name.Replace m = replace_all m (find_card c o.fields.luid) refl
        go Name.Add m = add_all m (room_for c) refl

  -- its numbers rise
  taking_up : (c.luid ≤ (after_command o c).luid) × (c.fp ≤ (after_command o c).fp)
  unfolding after_command
  taking_up = go (name_of o.fields.kind)
    where
      del : (r : Option ℕ) → (c.luid ≤ (delete_at c r).luid) × (c.fp ≤ (delete_at c r).fp)
      del None = (omega arith, omega arith)
      del (Some i) = (omega arith, omega arith)

      by : (i : ℕ) (b : Bool) → (c.luid ≤ (cond b c (with_replaced o c i)).luid) × (c.fp ≤ (cond b c (with_replaced o c i)).fp)
      by i true = (omega arith, omega arith)
      by i false = (omega arith, omega arith)

      rep : (r : Option ℕ) → (c.luid ≤ (replace_at o c r).luid) × (c.fp ≤ (replace_at o c r).fp)
      rep None = (omega arith, omega arith)
      rep (Some i) = by i (no_fingerprint c)

      new : (r : Option ℕ) → (c.luid ≤ (add_at o c r).luid) × (c.fp ≤ (add_at o c r).fp)
      new None = (omega arith, omega arith)
      new (Some i) = (omega arith, omega arith)

      go : (m : Name) → (c.luid ≤ (after_command_by m o c).luid) × (c.fp ≤ (after_command_by m o c).fp)
      go Name.Delete = del (find_card c o.fields.luid)
      go Name.Replace = rep (find_card c o.fields.luid)
      go Name.Add = new (room_for c)

-- ---- the report of x is what the answer a to the command o says
abbrev pub AnsweredBy : Name → Entry → Card → Type 0
AnsweredBy Name.Delete o x = ⊥
AnsweredBy Name.Replace o x = (x.report.guid.0 ≡ 0) × (o.fields.luid.0 ≡ x.report.luid.0)
AnsweredBy Name.Add o x = x.report.guid.0 ≡ o.fields.guid.0

pub record Answered (x : Card) (p : Entry × Entry) : Type 0 where
  pub on : x.report.on ≡ true
  pub code : p.1.fields.code ≡ 200
  pub luid : p.1.fields.luid.0 ≡ x.report.luid.0
  pub fp : p.1.fields.fp ≡ x.report.fp
  pub by : AnsweredBy (name_of p.0.fields.kind) p.0 x

abbrev pub Reporting : (Card → Type 0) → Cards → Type 0
Reporting G c = (i : ℕ) (x : Card) → card_at c i ≡ holds x → x.report.on ≡ true → G x

module _ (G : Card → Type 0) where
  one_from : (ref : ℕ) (o : Entry) (c : Cards) → WellFormed c → Reporting G c → ((x : Card) → Answered x (o, answering ref o c) → G x) → Reporting G (after_command o c)
  unfolding answering
  one_from ref o c w old new =
      taking_all o c w (λ x. x.report.on ≡ true → G x) old
      (λ m i e q on.
      let k = card_at_lem c w o.fields.luid i e in
      let is : answering_by (name_of o.fields.kind) ref o c ≡ replaced ref o.fields.luid (c.fp + 1) =
      ap (λ (n : Name). answering_by n ref o c) m ∙ (ap (replace_answer ref o c) e ∙ ap (λ (b : Bool). cond b (empty_status ref Name.Replace 420) (replaced ref o.fields.luid (c.fp + 1))) q) in
      new (swapped o c w i)
      (record {
        on = refl;
        code = ap (λ (a : Entry). a.fields.code) is;
        luid = ap (λ (a : Entry). a.fields.luid.0) is ∙ sym k.number;
        fp = ap (λ (a : Entry). a.fields.fp) is;
        by = subst (λ (n : Name). AnsweredBy n o (swapped o c w i)) (sym m) (refl, sym k.number);
      }))
      (λ m i e on.
      let is : answering_by (name_of o.fields.kind) ref o c ≡ add_answer ref o c (Some i) = ap (λ (n : Name). answering_by n ref o c) m ∙ ap (add_answer ref o c) e in
      new (fresh o c w)
      (record {
        on = refl;
        code = ap (λ (a : Entry). a.fields.code) is;
        luid = ap (λ (a : Entry). a.fields.luid.0) is;
        fp = ap (λ (a : Entry). a.fields.fp) is;
        by = subst (λ (n : Name). AnsweredBy n o (fresh o c w)) (sym m) refl;
      }))

  -- every report after all commands was there before, or is what an answer says
  pub reports_from : (os : List Entry) → Every (λ o. IsWording o.wording) os → (ref : ℕ) (c : Cards) → WellFormed c → Reporting G c
      → Every (λ p. (x : Card) → Answered x p → G x) (with_answers os (replies answering after_command ref os c)) → Reporting G (in_order after_command os c)
  unfolding in_order replies with_answers
  reports_from [] t ref c w old new = old
  reports_from (o ∷ os) t ref c w old new = reports_from os t.1 (suc ref) (after_command o c) (taking_formed o t.0 c w) (one_from ref o c w old new.0) new.1

-- ---- an answer 200 to a Replace or Add has a fingerprint above those that were given
abbrev AboveBy : Name → ℕ → Entry → Type 0
AboveBy Name.Delete f a = Unit {0}
AboveBy Name.Replace f a = a.fields.code ≡ 200 → f < a.fields.fp
AboveBy Name.Add f a = a.fields.code ≡ 200 → f < a.fields.fp

abbrev pub Above : ℕ → Entry × Entry → Type 0
Above f p = AboveBy (name_of p.0.fields.kind) f p.1

answer_above : (f ref : ℕ) (o : Entry) (c : Cards) → f ≤ c.fp → Above f (o, answering ref o c)
unfolding answering
answer_above f ref o c l = go (name_of o.fields.kind)
  where
    by : (b : Bool) → (cond b (empty_status ref Name.Replace 420) (replaced ref o.fields.luid (c.fp + 1))).fields.code ≡ 200 → f < (cond b (empty_status ref Name.Replace 420) (replaced ref o.fields.luid (c.fp + 1))).fields.fp
    by true q = let z : ◌≡◌ {A = ℕ} 420 200 = q in absurd (omega arith)
    by false q = omega (arith, l)

    rep : (r : Option ℕ) → (replace_answer ref o c r).fields.code ≡ 200 → f < (replace_answer ref o c r).fields.fp
    rep None q = let z : ◌≡◌ {A = ℕ} 404 200 = q in absurd (omega arith)
    rep (Some i) q = by (no_fingerprint c) q

    new : (r : Option ℕ) → (add_answer ref o c r).fields.code ≡ 200 → f < (add_answer ref o c r).fields.fp
    new None q = let z : ◌≡◌ {A = ℕ} 420 200 = q in absurd (omega arith)
    new (Some i) q = omega (arith, l)

    go : (n : Name) → AboveBy n f (answering_by n ref o c)
    go Name.Delete = tt
    go Name.Replace = rep (find_card c o.fields.luid)
    go Name.Add = new (room_for c)

pub answers_above : (f : ℕ) (os : List Entry) → Every (λ o. IsWording o.wording) os → (ref : ℕ) (c : Cards) → WellFormed c → f ≤ c.fp → Every (Above f) (with_answers os (replies answering after_command ref os c))
unfolding replies with_answers
answers_above f [] t ref c w l = tt
answers_above f (o ∷ os) t ref c w l =
    (answer_above f ref o c l, answers_above f os t.1 (suc ref) (after_command o c) (taking_formed o t.0 c w) (let u = (taking_up o c w).1 in omega (arith, l, u)))

-- ---- a card that reports a GUID was added: its LUID is above those that were given
pub added_above : (n : ℕ) (os : List Entry) → Every (λ o. IsWording o.wording) os → (c : Cards) → WellFormed c → n ≤ c.luid → ((i : ℕ) (x : Card) → card_at c i ≡ holds x → FromServer x → n < x.luid.0)
    → (i : ℕ) (x : Card) → card_at (in_order after_command os c) i ≡ holds x → FromServer x → n < x.luid.0
unfolding in_order
added_above n [] t c w b k = k
added_above n (o ∷ os) t c w b k =
    added_above n os t.1 (after_command o c) (taking_formed o t.0 c w) (let u = (taking_up o c w).0 in omega (arith, b, u))
    (taking_all o c w (λ x. FromServer x → n < x.luid.0) k (λ m i e q f. absurd (f.given refl)) (λ m i e f. omega (arith, b)))

-- ---- a LUID that was given, and that no delete mark has; and one that no entry has
pub record Live (c : Cards) (l : ℕ) : Type 0 where
  pub live : (i : ℕ) (x : Card) → card_at c i ≡ holds x → x.luid.0 ≡ l → is_live x.mark ≡ true
  pub given : l ≤ c.luid

pub record Absent (c : Cards) (l : ℕ) : Type 0 where
  pub absent : (i : ℕ) (x : Card) → card_at c i ≡ holds x → x.luid.0 ≡ l → ⊥
  pub given : l ≤ c.luid

module _ (o : Entry) (c : Cards) (w : WellFormed c) (l : ℕ) where
  live_stays : Live c l → Live (after_command o c) l
  live_stays k =
      record {
        live = taking_all o c w (λ x. x.luid.0 ≡ l → is_live x.mark ≡ true) k.live (λ m i e q z. refl) (λ m i e z. refl);
        given = let u = (taking_up o c w).0 in let g = k.given in omega (arith, g, u);
      }

  absent_stays : Absent c l → Absent (after_command o c) l
  absent_stays k =
      record {
        absent = taking_all o c w (λ x. x.luid.0 ≡ l → ⊥) k.absent
            (λ m i e q z. let s = card_at_lem c w o.fields.luid i e in k.absent i (get_or c.places i no_card) (used_holds no_card (moves.table_of c) i w.luids.long s.inside s.taken) z)
            (λ m i e z. let g = k.given in omega (arith, g, z));
        given = let u = (taking_up o c w).0 in let g = k.given in omega (arith, g, u);
      }

  -- a Delete of it
  delete_absent : name_of o.fields.kind ≡ Name.Delete → o.fields.luid.0 ≡ l → Live c l → Absent (after_command o c) l
  unfolding after_command
  delete_absent m q k = subst (λ (n : Name). Absent (after_command_by n o c) l) (sym m) (go (find_card c o.fields.luid) refl)
    where
      stood : (n : ℕ) (x : Card) → card_at c n ≡ holds x → x.luid.0 ≡ l → card_of c o.fields.luid ≡ Some x
      stood n x e z = card_gives c o.fields.luid w x (record { place = n; here = e; live' = k.live n x e z; number = z ∙ sym q })

      go : (r : Option ℕ) → find_card c o.fields.luid ≡ r → Absent (delete_at c r) l
      go None e =
          record {
            absent = λ n x u z. let v = sym (ap (entry_found no_card c.places) e) ∙ stood n x u z in never (cc);
            given = k.given;
          }
      go (Some i) e =
          let s = card_at_lem c w o.fields.luid i e in
          record {
            absent = of_each no_card (moves.table_of c) (moves.table_of (without_card c i)) i free (view_here no_card (moves.table_of c) i free (omega (arith, s.inside, w.luids.long))) (λ n q. view_other no_card (moves.table_of c) i free n q) (λ n x. x.luid.0 ≡ l → ⊥)
                (λ n x ne u z.
                let is : get_or c.places n no_card ≡ x = holds_is no_card (moves.table_of c) n x u in
                ne (w.luids.apart n i (holds_used no_card (moves.table_of c) n x u) s.taken (ap (λ (y : Card). y.luid.0) is ∙ (z ∙ (sym q ∙ sym s.number))))) tt;
            given = k.given;
          }

absent_all : (os : List Entry) → Every (λ o. IsWording o.wording) os → (c : Cards) → WellFormed c → (l : ℕ) → Absent c l → Absent (in_order after_command os c) l
unfolding in_order
absent_all [] t c w l k = k
absent_all (o ∷ os) t c w l k = absent_all os t.1 (after_command o c) (taking_formed o t.0 c w) l (absent_stays o c w l k)

-- what is deleted is gone at the end
abbrev pub Deleting : (ℕ → Type 0) → Entry → Type 0
Deleting P o = name_of o.fields.kind ≡ Name.Delete → P o.fields.luid.0

pub deletes_absent : (os : List Entry) → Every (λ o. IsWording o.wording) os → (c : Cards) → WellFormed c → Every (Deleting (Live c)) os → Every (Deleting (Absent (in_order after_command os c))) os
unfolding in_order
deletes_absent [] t c w k = tt
deletes_absent (o ∷ os) t c w k =
    let v = taking_formed o t.0 c w in (
      (λ m. absent_all os t.1 (after_command o c) v o.fields.luid.0 (delete_absent o c w o.fields.luid.0 m refl (k.0 m))),
      deletes_absent os t.1 (after_command o c) v (every (Deleting (Live c)) (Deleting (Live (after_command o c))) (λ q f m. live_stays o c w q.fields.luid.0 (f m)) os k.1),
    )
