-- A call on what a side's slots hold, whole or cut short, goes as the turn of a course, whichever the side. Assumes nothing.
use Prim.Native.Nat.{ℕ, zero, suc}
use mathlib.Core.Path.{◌≡◌, refl, sym, ap, subst, ◌∙◌}
use mathlib.Core.Bool.{Bool, cond}
use mathlib.Core.List.{List, [], ◌∷◌, ◌++◌}
use lib.Dec.{eqb}
use lib.ListN.{length, take}
use native.Mathlib.Omega.{arith}
use borrow.Author.Tests.{ne_eqb}
use Rattle.calls.specs.Reply.{Reply}
use Rattle.calls.specs.Says.{Says, sends, done, refuses, Called}
use Rattle.calls.specs.After.{After}
use Rattle.image.specs.OnImage.{Result, did, refused, replied, output_in}
use Rattle.course.specs.Course.{World, Turn, turn, Step, said_refusal, does}
use Rattle.course.specs.OnBytes.{heard_in, heard, on_bytes}
use Rattle.course.proofs.LengthLaws.{on_bytes_by_length}
use Rattle.power.specs.Power.{store_first, Caller, caller_of, boots, at_work, moments, cut_in}
use Rattle.stored_courses.specs.OnStores.{Stands, Line, line, silent, Part, Call, quiet, answers, line_after, line_at, Goes, while_working, CutShort}
use Rattle.stored_courses.specs.Run.{Plant, line_of, Holds}
use Rattle.stored_courses.proofs.StoreLaws as store
use Rattle.stored_courses.proofs.StoreLaws.{number_of, side_after, side_at, found, works_called, slots_stand, gave_up}
use Rattle.stored_courses.proofs.HonestLaws.{HonestReply, Honest}

-- ---- what a call comes to, as a course has it: the number given back, the side, and the line
pub record Comes (S : Type 0) : Type 0 where
  pub number : ℕ
  pub side : S
  pub line : Line

abbrev pub said_line : {S : Type 0} → Part S → Says (List ℕ) → Line → Line
said_line a (sends m) l = line (a.sends m) (l.written ++ (m ∷ []))
said_line a done l = silent l
said_line a (refuses n) l = l

abbrev said_to : {S : Type 0} → Part S → Called S (List ℕ) → Line → Comes S
said_to a c l = record { number = said_refusal c.says; side = c.side; line = said_line a c.says l }

abbrev pub comes_to : {S : Type 0} → Part S → Call S → List ℕ → S → Line → Comes S
comes_to a (quiet f) out p l = record { number = number_of (f p); side = side_after p (f p); line = l }
comes_to a (answers f) out p l = said_to a (heard (f out p)) l

abbrev pub HonestCall : {S : Type 0} → Call S → List ℕ → S → Type 0
HonestCall (quiet f) out p = Unit {0}
HonestCall (answers f) out p = Honest p (f out p)

-- ---- where nothing changes
pub still_line : (n k : ℕ) (l : Line) → line_at n k l l ≡ l
still_line zero zero l = refl
still_line zero (suc zero) l = refl
still_line zero (suc (suc k)) l = refl
still_line (suc n) k l = refl

still_side : {S : Type 0} (n k : ℕ) (p : S) → side_at n k p p ≡ p
still_side zero zero p = refl
still_side zero (suc k) p = refl
still_side (suc n) k p = refl

refused_line : (n k : ℕ) (v x w : Line) → (n ≡ 0 → ⊥) → line_at n k v w ≡ line_at n k x w
refused_line zero k v x w h = absurd (h refl)
refused_line (suc n) k v x w h = refl

-- ---- a call on slots comes to that
module _ {S : Type 0} (a : Part S) where
  pub record Went (k n : ℕ) (o : Comes S) (p : S) (w : Line) (slots' : List ℕ) (l' : Line) : Type 0 where
    pub number : n ≡ o.number
    pub stands : Stands a.keeping slots' (side_at n k o.side p)
    pub line : l' ≡ line_at n k o.line w

  sent_line : (f : List ℕ → S → After S) (n : ℕ) (out : List ℕ) (l : Line) → (n ≡ 0 → ⊥) → line_after a (answers f) n out l ≡ said_line a (sends (take n out)) l
  sent_line f zero out l h = absurd (h refl)
  sent_line f (suc n) out l h = refl

  -- as its reply is heard
  replied_went : (f : List ℕ → S → After S) (k n told told' : ℕ) (p : S) (image' out' slots' : List ℕ) (l w l' : Line) (x : After S)
      → Honest p x → store.Called a.keeping (replied x.reply x.side) p told n image' told' → out' ≡ x.output
      → Stands a.keeping slots' (side_at n k (side_after p (replied x.reply x.side)) p) → l' ≡ line_at n k (line_after a (answers f) told' out' l) w
      → Went k n (said_to a (heard x) l) p w slots' l'
  replied_went f k n told told' p image' out' slots' l w l' x = go x.reply
    where
      go : (r : Reply) → HonestReply p x.side r → store.Called a.keeping (replied r x.side) p told n image' told' → out' ≡ x.output
          → Stands a.keeping slots' (side_at n k (side_after p (replied r x.side)) p) → l' ≡ line_at n k (line_after a (answers f) told' out' l) w
          → Went k n (said_to a (record { side = x.side; says = heard_in x.output r }) l) p w slots' l'
      go (Reply.Written m) h c o s e =
          record {
            number = c.number;
            stands = s;
            line = e ∙ (λ i. line_at n k (line_after a (answers f) (c.tells i) (o i) l) w) ∙ ap (λ (v : Line). line_at n k v w) (sent_line f m x.output l h);
          }
      go Reply.Done h c o s e = record { number = c.number; stands = s; line = e ∙ ap (λ (t : ℕ). line_at n k (line_after a (answers f) t out' l) w) c.tells }
      go (Reply.Refused j) h c o s e =
          record {
            number = c.number;
            stands = subst (λ (q : S). Stands a.keeping slots' (side_at n k q p)) (sym h.1) s;
            line = e ∙ refused_line n k (line_after a (answers f) told' out' l) l w (λ z. h.0 (sym c.number ∙ z));
          }

  pub went : (size : ℕ) (c : Call S) (k n : ℕ) (p : S) (slots slots' : List ℕ) (w l l' : Line) → Stands a.keeping slots p
      → (g : Goes a size c k n w slots l slots' l') → HonestCall c g.works.out p → Went k n (comes_to a c g.works.out p l) p w slots' l'
  went size (quiet f) k n p slots slots' w l l' st g h =
      let x = works_called a.keeping g.works p st in
      record { number = x.number; stands = slots_stand a.keeping slots g.works.image' slots' p (side_after p (f p)) x.stands st n k g.stored; line = g.sent }
  went size (answers f) k n p slots slots' w l l' st g h =
      let y = g.works in
      let x = works_called a.keeping y p st in
      let r = f y.out p in
      replied_went f k n y.told y.told' p y.image' y.out' slots' l w l' r h x
      (y.promised.1 ∙ ap (λ (s : _). output_in (f y.out) s y.out) (found a.keeping y p st))
      (slots_stand a.keeping slots y.image' slots' p (side_after p (replied r.reply r.side)) x.stands st n k g.stored) g.sent

  -- after both moments the side is the one after the call
  settled : (c : Call S) (out : List ℕ) (p : S) (l : Line) → HonestCall c out p → side_at (comes_to a c out p l).number 2 (comes_to a c out p l).side p ≡ (comes_to a c out p l).side
  settled (quiet f) out p l h = go (f p)
    where
      go : (r : Result S) → side_at (number_of r) 2 (side_after p r) p ≡ side_after p r
      go (did n q) = refl
      go (refused n) = still_side n 2 p
  settled (answers f) out p l h = go (f out p).reply h
    where
      go : (r : Reply) → HonestReply p (f out p).side r → side_at (said_refusal (heard_in (f out p).output r)) 2 (f out p).side p ≡ (f out p).side
      go (Reply.Written n) i = refl
      go Reply.Done i = refl
      go (Reply.Refused n) i = ap (λ (q : S). side_at n 2 q p) i.1 ∙ still_side n 2 p ∙ sym i.1

-- ---- where a side has its place in a plant and in a world, and that both change alike
pub record Seat (S : Type 0) : Type 0 where
  pub part : Part S
  pub slots : Plant → List ℕ
  pub other : Plant → List ℕ
  pub side : World (List ℕ) → S
  pub put : World (List ℕ) → S → Line → World (List ℕ)
  pub caller : Caller
  pub stands : (p : Plant) (w : World (List ℕ)) → Holds p w → Stands part.keeping (slots p) (side w)
  pub holds : (p q : Plant) (w : World (List ℕ)) (s : S) (l : Line) → Holds p w → Stands part.keeping (slots q) s → other q ≡ other p → q.line ≡ l → Holds q (put w s l)
  pub again : (s : S) → part.gives_up (part.gives_up s) ≡ part.gives_up s
  pub booted : (w : World (List ℕ)) (s : S) (l : Line) → boots caller (put w s l) ≡ put w (part.gives_up s) l
  pub passed : (k : ℕ) (w : World (List ℕ)) (s t : S) (v l : Line) → moments (put w s v) (take k store_first) (put w t l) ≡ put w (side_at zero k s t) (line_at zero k v l)

still_world : (k : ℕ) (w : World (List ℕ)) → moments w (take k store_first) w ≡ w
still_world zero w = refl
still_world (suc zero) w = refl
still_world (suc (suc zero)) w = refl
still_world (suc (suc (suc k))) w = refl

module _ {S : Type 0} (t : Seat S) (c : Call S) where
  abbrev pub comes : List ℕ → World (List ℕ) → Comes S
  comes out w = comes_to t.part c out (t.side w) (line_of w)

  abbrev pub turn_of : List ℕ → World (List ℕ) → Turn (List ℕ)
  turn_of out w = turn (t.put w (comes out w).side (line_at (comes out w).number 2 (comes out w).line (line_of w))) (comes out w).number

  -- a small step is the call c
  pub record IsCall (size : ℕ) (x : Step) (w : World (List ℕ)) : Type 0 where
    pub honest : (out : List ℕ) → HonestCall c out (t.side w)
    pub turned : (out : List ℕ) → length out ≡ size → does (on_bytes out) x w ≡ turn_of out w

  -- in which the power may be cut
  pub record MayBeCut (x : Step) (w : World (List ℕ)) : Type 0 where
    pub working : at_work x w ≡ t.put w (t.side w) (while_working c (line_of w))
    pub called : caller_of x w.wire ≡ t.caller

  module _ (out : List ℕ) (x : Step) (p q : Plant) (w : World (List ℕ)) (is : IsCall (length out) x w) (h : Holds p w) (same : t.other q ≡ t.other p) where
    pub goes_holds : (n : ℕ) → Goes t.part (length out) c 2 n p.line (t.slots p) p.line (t.slots q) q.line → (n ≡ (does (on_bytes out) x w).refusal) × Holds q (does (on_bytes out) x w).world
    goes_holds n g = go (subst (λ (l : Line). Goes t.part (length out) c 2 n l (t.slots p) l (t.slots q) q.line) h.line g)
      where
        go : Goes t.part (length out) c 2 n (line_of w) (t.slots p) (line_of w) (t.slots q) q.line → (n ≡ (does (on_bytes out) x w).refusal) × Holds q (does (on_bytes out) x w).world
        go f =
            let lent = f.works.out in
            let o = comes lent w in
            let y = went t.part (length out) c 2 n (t.side w) (t.slots p) (t.slots q) (line_of w) (line_of w) q.line (t.stands p w h) f (is.honest lent) in
            let side : side_at n 2 o.side (t.side w) ≡ o.side = ap (λ (j : ℕ). side_at j 2 o.side (t.side w)) y.number ∙ settled t.part c lent (t.side w) (line_of w) (is.honest lent) in
            let held : Holds q (turn_of lent w).world = t.holds p q w o.side (line_at o.number 2 o.line (line_of w)) h (subst (Stands t.part.keeping (t.slots q)) side y.stands) same (y.line ∙ ap (λ (j : ℕ). line_at j 2 o.line (line_of w)) y.number) in
            let e : turn_of lent w ≡ does (on_bytes out) x w = sym (is.turned lent f.works.room) ∙ (λ i. does (on_bytes_by_length lent out f.works.room i) x w) in
            let both : (n ≡ (does (on_bytes out) x w).refusal) × Holds q (does (on_bytes out) x w).world = (y.number ∙ ap (λ (z : Turn (List ℕ)). z.refusal) e, subst (λ (z : Turn (List ℕ)). Holds q z.world) e held) in
            both

    module _ (may : MayBeCut x w) where
      cut_world : (k : ℕ) (lent : List ℕ) → length lent ≡ length out
          → cut_in (on_bytes out) store_first k x w
          ≡ t.put w (t.part.gives_up (side_at (comes lent w).number k (comes lent w).side (t.side w))) (line_at (comes lent w).number k (comes lent w).line (while_working c (line_of w)))
      cut_world k lent room = along ∙ go (comes lent w).number
        where
          o : Comes S
          o = comes lent w

          idle : World (List ℕ)
          idle = t.put w (t.side w) (while_working c (line_of w))

          whole : ℕ → Line
          whole n = line_at n 2 o.line (line_of w)

          turned : does (on_bytes out) x w ≡ turn_of lent w
          turned = sym (λ i. does (on_bytes_by_length lent out room i) x w) ∙ is.turned lent room

          along : cut_in (on_bytes out) store_first k x w ≡ boots t.caller (moments (cond (eqb (turn_of lent w).refusal 0) (turn_of lent w).world idle) (take k store_first) idle)
          along = λ i. boots (may.called i) (moments (cond (eqb (turned i).refusal 0) (turned i).world (may.working i)) (take k store_first) (may.working i))

          go : (n : ℕ) → boots t.caller (moments (cond (eqb n 0) (t.put w o.side (whole n)) idle) (take k store_first) idle) ≡ t.put w (t.part.gives_up (side_at n k o.side (t.side w))) (line_at n k o.line (while_working c (line_of w)))
          go zero = ap (boots t.caller) (t.passed k w o.side (t.side w) o.line (while_working c (line_of w))) ∙ t.booted w (side_at zero k o.side (t.side w)) (line_at zero k o.line (while_working c (line_of w)))
          go (suc n) =
              ap (λ (b : Bool). boots t.caller (moments (cond b (t.put w o.side (whole (suc n))) idle) (take k store_first) idle)) (ne_eqb (suc n) 0 (λ z. omega (arith, z)))
              ∙ ap (boots t.caller) (still_world k idle)
              ∙ t.booted w (t.side w) (while_working c (line_of w))

      pub cut_holds : (k : ℕ) → CutShort t.part (length out) c k (t.slots p) p.line (t.slots q) q.line → Holds q (cut_in (on_bytes out) store_first k x w)
      cut_holds k g = go (subst (λ (l : Line). CutShort t.part (length out) c k (t.slots p) l (t.slots q) q.line) h.line g)
        where
          go : CutShort t.part (length out) c k (t.slots p) (line_of w) (t.slots q) q.line → Holds q (cut_in (on_bytes out) store_first k x w)
          go f =
              let lent = f.goes.works.out in
              let n = f.number in
              let o = comes lent w in
              let y = went t.part (length out) c k n (t.side w) (t.slots p) f.left (while_working c (line_of w)) (line_of w) q.line (t.stands p w h) f.goes (is.honest lent) in
              let up = gave_up t.part t.again f.left (t.slots q) (side_at n k o.side (t.side w)) y.stands f.boots in
              let held = t.holds p q w (t.part.gives_up (side_at n k o.side (t.side w))) (line_at n k o.line (while_working c (line_of w))) h up same y.line in
              let to : ℕ → World (List ℕ) = λ j. t.put w (t.part.gives_up (side_at j k o.side (t.side w))) (line_at j k o.line (while_working c (line_of w))) in
              subst (Holds q) (ap to y.number ∙ sym (cut_world k lent f.goes.works.room)) held
