-- Where no 420 is answered, all marks end: the press then has clean cards only, and each card is still there. Assumes nothing.
use Prim.Native.Nat.{ℕ}
use mathlib.Core.Path.{◌≡◌, refl, sym, ap, ◌∙◌, subst}
use mathlib.Core.Bool.{Bool, true, false, cond, not}
use mathlib.Core.List.{List, [], ◌∷◌, ◌++◌}
use mathlib.Core.Logic.{◌⊎◌, inl, inr}
use lib.Dec.{eqb}
use lib.ListN.{get_or, length}
use borrow.Author.Tests.{eqb-true, eqb-false, not-false}
use Rattle.places.specs.Set.{all_places}
use Rattle.places.proofs.Choice.{passed, or_neither}
use Rattle.places.specs.Act.{Slot, free, holds, act, in_order, with_answers}
use Rattle.places.proofs.KeptLaws.{Hit, order_keeps, Holds}
use Rattle.places.proofs.Views.{on, act_view, each_view, order_view}
use Rattle.places.proofs.Every.{Every, every_left, every_right, every_in}
use Rattle.places.proofs.OrderLaws.{answers_known}
use Rattle.places.proofs.Held.{holds_hit, holds_is, on_each}
use Rattle.places.proofs.WithAnswers.{with_back}
use Rattle.lists.specs.declared.Entry.{Entry}
use Rattle.terms.specs.declared.Mode.{Mode}
use Rattle.terms.specs.declared.Mode.TheVariants.{Normal, Recovery}
use Rattle.cards.specs.declared.Mark as card
use Rattle.cards.specs.declared.Card.{Card}
use Rattle.cards.specs.declared.Cards.{Cards}
use Rattle.cards.specs.Press.{no_card, is_live, WellFormed}
use Rattle.card_moves.specs.Moves as moves
use Rattle.card_moves.specs.Moves.{is_entry, is_delete_mark, freed, any_entry, bare, with_bare, without_reports, without_delete_marks}
use Rattle.card_moves.proofs.FormedLaws.{bare_formed}
use Rattle.press_tells.specs.Tell.{Tell}
use Rattle.press_tells.specs.Tell.{is_added, is_changed, tells, words_of, told_of, commands}
use Rattle.press_tells.proofs.TellLaws.{IsTold, words, told_each}
use Rattle.press_ends.specs.End.{keeps_mark, cleaned, ended, end_mark, ends, marks_end}
use Rattle.press_ends.proofs.FormedEnds.{end_formed}
use Rattle.demand3.specs.Demand3.{any_room_refused}
use Rattle.pairs.proofs.Invariant.{card_at}
use Rattle.press_pairs.proofs.Bared.{bare_view, bare_of}

-- ---- no 420 in any of them
pub codes_roomy : (xs : List Entry) → any_room_refused xs ≡ false → Every (λ x. eqb x.fields.code 420 ≡ false) xs
unfolding any_room_refused
codes_roomy [] e = tt
codes_roomy (x ∷ xs) e = let p = or_neither (eqb x.fields.code 420) (any_room_refused xs) e in (p.0, codes_roomy xs p.1)

-- ---- one status
module _ (p : Entry × Entry) (c : Cards) (w : WellFormed c) (k : keeps_mark p.1.fields.code ≡ false) where
  end_view : (j : ℕ) → card_at (end_mark p c) j ≡ on (is_entry p.0.fields.luid) ended (card_at c j)
  unfolding end_mark
  end_view j =
      ap (λ (d : Cards). card_at d j) (passed (keeps_mark p.1.fields.code) c (moves.with_table c (act no_card (is_entry p.0.fields.luid) ended (moves.table_of c))) k)
      ∙ act_view no_card (is_entry p.0.fields.luid) ended (moves.table_of c) (λ i j a b. w.luids.apart i j a.used b.used (luid i a ∙ sym (luid j b))) j
    where
      luid : (i : ℕ) → Hit no_card (is_entry p.0.fields.luid) (moves.table_of c) i → (get_or c.places i no_card).luid.0 ≡ p.0.fields.luid.0
      luid i a = eqb-true (get_or c.places i no_card).luid.0 p.0.fields.luid.0 a.passes

  -- an entry is then as it was and another one, or clean
  end_cases : (j : ℕ) (z : Card) → card_at (end_mark p c) j ≡ holds z → ((card_at c j ≡ holds z) × (z.luid.0 ≡ p.0.fields.luid.0 → ⊥)) ⊎ (z.mark ≡ card.Mark.Clean)
  end_cases =
      on_each no_card (is_entry p.0.fields.luid) ended (moves.table_of c) (moves.table_of (end_mark p c)) end_view Ending
      (λ j x u e. clean j x (is_live x.mark)) (λ j x u e. inl (u, eqb-false x.luid.0 p.0.fields.luid.0 e))
    where
      Ending : ℕ → Card → Type 0
      Ending j z = ((card_at c j ≡ holds z) × (z.luid.0 ≡ p.0.fields.luid.0 → ⊥)) ⊎ (z.mark ≡ card.Mark.Clean)

      clean : (j : ℕ) (x : Card) (b : Bool) → Holds (Ending j) (cond b (holds (cleaned x)) free)
      clean j x true = inr refl
      clean j x false = tt

-- ---- all statuses
abbrev CleanAt : Cards → ℕ → Type 0
CleanAt c l = (i : ℕ) (z : Card) → card_at c i ≡ holds z → z.luid.0 ≡ l → z.mark ≡ card.Mark.Clean

abbrev Ended : Entry × Entry → Type 0
Ended p = keeps_mark p.1.fields.code ≡ false

from_first : (ps : List (Entry × Entry)) → Every Ended ps → (c : Cards) → WellFormed c → (i : ℕ) (z : Card) → card_at (in_order end_mark ps c) i ≡ holds z → (card_at c i ≡ holds z) ⊎ (z.mark ≡ card.Mark.Clean)
unfolding in_order
from_first [] k c w i z q = inl q
from_first (p ∷ ps) k c w i z q = go (from_first ps k.1 (end_mark p c) (end_formed p c w) i z q)
  where
    go : ((card_at (end_mark p c) i ≡ holds z) ⊎ (z.mark ≡ card.Mark.Clean)) → (card_at c i ≡ holds z) ⊎ (z.mark ≡ card.Mark.Clean)
    go (inr m) = inr m
    go (inl u) = by (end_cases p c w k.0 i z u)
      where
        by : ((card_at c i ≡ holds z) × (z.luid.0 ≡ p.0.fields.luid.0 → ⊥)) ⊎ (z.mark ≡ card.Mark.Clean) → (card_at c i ≡ holds z) ⊎ (z.mark ≡ card.Mark.Clean)
        by (inl v) = inl v.0
        by (inr m) = inr m

clean_stays : (ps : List (Entry × Entry)) → Every Ended ps → (c : Cards) → WellFormed c → (l : ℕ) → CleanAt c l → CleanAt (in_order end_mark ps c) l
clean_stays ps k c w l d i z q e = go (from_first ps k c w i z q)
  where
    go : ((card_at c i ≡ holds z) ⊎ (z.mark ≡ card.Mark.Clean)) → z.mark ≡ card.Mark.Clean
    go (inl u) = d i z u e
    go (inr m) = m

each_clean : (ps : List (Entry × Entry)) → Every Ended ps → (c : Cards) → WellFormed c → Every (λ p. CleanAt (in_order end_mark ps c) p.0.fields.luid.0) ps
unfolding in_order
each_clean [] k c w = tt
each_clean (p ∷ ps) k c w = (clean_stays ps k.1 (end_mark p c) (end_formed p c w) p.0.fields.luid.0 own, each_clean ps k.1 (end_mark p c) (end_formed p c w))
  where
    own : CleanAt (end_mark p c) p.0.fields.luid.0
    own i z q e = go (end_cases p c w k.0 i z q)
      where
        go : ((card_at c i ≡ holds z) × (z.luid.0 ≡ p.0.fields.luid.0 → ⊥)) ⊎ (z.mark ≡ card.Mark.Clean) → z.mark ≡ card.Mark.Clean
        go (inl u) = absurd (u.1 e)
        go (inr m) = m

-- ---- the press after all statuses
module _ (c : Cards) (w : WellFormed c) (m : Mode) (xs : List Entry) (many : length xs ≡ length (commands m c)) (roomy : any_room_refused xs ≡ false) where
  abbrev c0 : Cards
  c0 = without_reports c

  abbrev ps : List (Entry × Entry)
  ps = with_answers (commands m c) xs

  abbrev c' : Cards
  c' = in_order end_mark ps c0

  all_ended : Every Ended ps
  all_ended = answers_known (λ x. keeps_mark x.fields.code ≡ false) (commands m c) xs (codes_roomy xs roomy)

  named_clean : Every (λ d. CleanAt c' d.fields.luid.0) (commands m c)
  named_clean = with_back (λ d. CleanAt c' d.fields.luid.0) (commands m c) xs many (each_clean ps all_ended c0 (bare_formed c w))

  -- an entry that a command names
  by_told : (k : Tell) → Every (λ d. CleanAt c' d.fields.luid.0) (told_of k c) → ((x : Card) → (words_of k x).fields.luid.0 ≡ x.luid.0) → (i : ℕ) (x : Card) → card_at c i ≡ holds x → tells k x ≡ true → card_at c' i ≡ holds (bare x) → x.mark ≡ card.Mark.Clean
  by_told k f own i x e t q =
      let told : IsTold k c i = holds_hit no_card (tells k) (moves.table_of c) i x e t in
      let is : get_or c.places i no_card ≡ x = holds_is no_card (moves.table_of c) i x e in
      every_in (λ d. CleanAt c' d.fields.luid.0) (words k c i) (told_of k c) (told_each k c i told) f i (bare x) q (sym (ap (λ (y : Card). (words_of k y).fields.luid.0) is ∙ own x))

  normal_clean : m ≡ Normal → (i : ℕ) (z : Card) → card_at c' i ≡ holds z → z.mark ≡ card.Mark.Clean
  unfolding commands
  normal_clean e i z q = go (from_first ps all_ended c0 (bare_formed c w) i z q)
    where
      all : Every (λ d. CleanAt c' d.fields.luid.0) (told_of Tell.Deletes c ++ (told_of Tell.Replaces c ++ told_of Tell.Adds c))
      all = subst (λ (n : Mode). Every (λ d. CleanAt c' d.fields.luid.0) (commands n c)) e named_clean

      of_mark : (i : ℕ) (x : Card) → card_at c i ≡ holds x → card_at c' i ≡ holds (bare x) → (k : card.Mark) → x.mark ≡ k → x.mark ≡ card.Mark.Clean
      of_mark i x u v card.Mark.Clean k = k
      of_mark i x u v card.Mark.Changed k =
          by_told Tell.Replaces (every_left (λ d. CleanAt c' d.fields.luid.0) (told_of Tell.Adds c) (told_of Tell.Replaces c) (every_right (λ d. CleanAt c' d.fields.luid.0) (told_of Tell.Replaces c ++ told_of Tell.Adds c) (told_of Tell.Deletes c) all)) (λ y. refl) i x u (ap is_changed k) v
      of_mark i x u v card.Mark.Added k =
          by_told Tell.Adds (every_right (λ d. CleanAt c' d.fields.luid.0) (told_of Tell.Adds c) (told_of Tell.Replaces c) (every_right (λ d. CleanAt c' d.fields.luid.0) (told_of Tell.Replaces c ++ told_of Tell.Adds c) (told_of Tell.Deletes c) all)) (λ y. refl) i x u (ap is_added k) v
      of_mark i x u v card.Mark.Deleted k =
          by_told Tell.Deletes (every_left (λ d. CleanAt c' d.fields.luid.0) (told_of Tell.Replaces c ++ told_of Tell.Adds c) (told_of Tell.Deletes c) all) (λ y. refl) i x u (ap (λ (n : card.Mark). not (is_live n)) k) v

      go : ((card_at c0 i ≡ holds z) ⊎ (z.mark ≡ card.Mark.Clean)) → z.mark ≡ card.Mark.Clean
      go (inr k) = k
      go (inl u) = bare_of c w.luids.long (λ i z. card_at c' i ≡ holds z → z.mark ≡ card.Mark.Clean) (λ i x v r. of_mark i x v r x.mark refl) i z u q

  live_clean : m ≡ Recovery → (i : ℕ) (z : Card) → card_at c' i ≡ holds z → is_live z.mark ≡ true → z.mark ≡ card.Mark.Clean
  unfolding commands
  live_clean e i z q l = go (from_first ps all_ended c0 (bare_formed c w) i z q)
    where
      all : Every (λ d. CleanAt c' d.fields.luid.0) (told_of Tell.AllCards c)
      all = subst (λ (n : Mode). Every (λ d. CleanAt c' d.fields.luid.0) (commands n c)) e named_clean

      go : ((card_at c0 i ≡ holds z) ⊎ (z.mark ≡ card.Mark.Clean)) → z.mark ≡ card.Mark.Clean
      go (inr k) = k
      go (inl u) = bare_of c w.luids.long (λ i z. card_at c' i ≡ holds z → is_live z.mark ≡ true → z.mark ≡ card.Mark.Clean) (λ i x v r l. by_told Tell.AllCards all (λ y. refl) i x v l r) i z u q l

ends_formed : (ps : List (Entry × Entry)) (c : Cards) → WellFormed c → WellFormed (in_order end_mark ps c)
unfolding in_order
ends_formed [] c w = w
ends_formed (p ∷ ps) c w = ends_formed ps (end_mark p c) (end_formed p c w)

pub marks_clean : (m : Mode) (c : Cards) → WellFormed c → (xs : List Entry) → length xs ≡ length (commands m c) → any_room_refused xs ≡ false → (i : ℕ) (z : Card) → card_at (marks_end m (commands m c) xs c) i ≡ holds z → z.mark ≡ card.Mark.Clean
unfolding marks_end ends without_delete_marks
marks_clean Normal c w xs many roomy = normal_clean c w Normal xs many roomy refl
marks_clean Recovery c w xs many roomy =
    on_each no_card is_delete_mark freed (moves.table_of c2) (moves.table_of (without_delete_marks c2)) (λ i. each_view no_card is_delete_mark freed (moves.table_of c2) long i) (λ i z. z.mark ≡ card.Mark.Clean) (λ i x u q. tt)
    (λ i x u q. live_clean c w Recovery xs many roomy refl i x u (not-false (is_live x.mark) q))
  where
    c2 : Cards
    c2 = in_order end_mark (with_answers (commands Recovery c) xs) (without_reports c)

    long : length c2.places ≡ all_places
    long = (ends_formed (with_answers (commands Recovery c) xs) (without_reports c) (bare_formed c w)).luids.long

-- ---- a card that is there stays, with its LUID and text
abbrev end_here : Entry × Entry → Slot Card → Slot Card
end_here p = on (is_entry p.0.fields.luid) ended

ends_view : (ps : List (Entry × Entry)) → Every Ended ps → (c : Cards) → WellFormed c → (j : ℕ) → card_at (in_order end_mark ps c) j ≡ in_order end_here ps (card_at c j)
ends_view ps k c w j =
    order_view end_mark end_here (λ (d : Cards). card_at d j) (λ l d. Every Ended l × WellFormed d)
    (λ p l d g. end_view p d g.1 g.0.0 j) (λ p l d g. (g.0.1, end_formed p d g.1)) ps c (k, w)

-- x, or x with its mark ended
abbrev pub Still : Card → Slot Card → Type 0
Still x v = (v ≡ holds x) ⊎ (v ≡ holds (cleaned x))

module _ (x : Card) (live : is_live x.mark ≡ true) where
  end_still : (p : Entry × Entry) (v : Slot Card) → Still x v → Still x (end_here p v)
  end_still p v (inl e) = go (is_entry p.0.fields.luid x) (ap (end_here p) e)
    where
      go : (b : Bool) → end_here p v ≡ cond b (ended x) (holds x) → Still x (end_here p v)
      go true q = inr (q ∙ ap (λ (b : Bool). cond b (holds (cleaned x)) free) live)
      go false q = inl q
  end_still p v (inr e) = go (is_entry p.0.fields.luid x) (ap (end_here p) e)
    where
      go : (b : Bool) → end_here p v ≡ cond b (holds (cleaned x)) (holds (cleaned x)) → Still x (end_here p v)
      go true q = inr q
      go false q = inr q

  unmarked_still : (v : Slot Card) → Still x v → Still x (on is_delete_mark freed v)
  unmarked_still v (inl e) = inl (ap (on is_delete_mark freed) e ∙ ap (λ (b : Bool). cond (not b) free (holds x)) live)
  unmarked_still v (inr e) = inr (ap (on is_delete_mark freed) e)

pub marks_stand : (m : Mode) (cs xs : List Entry) → any_room_refused xs ≡ false → (c : Cards) → WellFormed c → (i : ℕ) (x : Card) → card_at c i ≡ holds x → is_live x.mark ≡ true → Still (bare x) (card_at (marks_end m cs xs c) i)
unfolding marks_end ends without_delete_marks
marks_stand m cs xs roomy c w i x e live = go m
  where
    ps : List (Entry × Entry)
    ps = with_answers cs xs

    c2 : Cards
    c2 = in_order end_mark ps (without_reports c)

    stands : Still (bare x) (card_at c2 i)
    stands =
        subst (Still (bare x)) (sym (ends_view ps (answers_known (λ x. keeps_mark x.fields.code ≡ false) cs xs (codes_roomy xs roomy)) (without_reports c) (bare_formed c w) i))
        (order_keeps end_here (Still (bare x)) (end_still (bare x) live) ps (card_at (without_reports c) i) (inl (bare_view c w.luids.long i ∙ ap (on any_entry with_bare) e)))

    go : (m : Mode) → Still (bare x) (card_at (marks_end m cs xs c) i)
    go Normal = stands
    go Recovery =
        subst (Still (bare x)) (sym (each_view no_card is_delete_mark freed (moves.table_of c2) (ends_formed ps (without_reports c) (bare_formed c w)).luids.long i))
        (unmarked_still (bare x) live (card_at c2 i) stands)

-- no LUID is given
pub marks_luid : (m : Mode) (cs xs : List Entry) (c : Cards) → (marks_end m cs xs c).luid ≡ c.luid
unfolding marks_end ends without_delete_marks without_reports end_mark
marks_luid m cs xs c = go m
  where
    one : (p : Entry × Entry) (d : Cards) → d.luid ≡ c.luid → (end_mark p d).luid ≡ c.luid
    one p d e = by (keeps_mark p.1.fields.code)
      where
        by : (b : Bool) → (cond b d (moves.with_table d (act no_card (is_entry p.0.fields.luid) ended (moves.table_of d)))).luid ≡ c.luid
        by true = e
        by false = e

    all : (in_order end_mark (with_answers cs xs) (without_reports c)).luid ≡ c.luid
    all = order_keeps end_mark (λ (d : Cards). d.luid ≡ c.luid) one (with_answers cs xs) (without_reports c) refl

    go : (m : Mode) → (marks_end m cs xs c).luid ≡ c.luid
    go Normal = all
    go Recovery = all
