-- How long a message that a side writes is at most: by the fields of each line, in a test computed for each of the six packages.
-- Assumes nothing.
use Prim.Native.Nat.{ℕ, zero, suc, ◌+◌, ◌/◌, ◌≤◌, ◌<◌, max}
use mathlib.Core.Path.{◌≡◌, refl, sym, subst}
use mathlib.Core.Bool.{Bool, true, false, cond}
use mathlib.Core.List.{List, [], ◌∷◌, ◌++◌}
use native.Mathlib.Nat.{le-max_left}
use native.Mathlib.Omega.{arith}
use lib.ListN.{length, length-append}
use lib.Dec.{leb, eqb}
use borrow.Author.Tests.{leb-true, leb-false, eqb-true, eqb-false}
use Rattle.places.proofs.Every.{Every}
use Rattle.text.proofs.TextLaws.{good_parts}
use Rattle.spelling.proofs.DataLaws.{most_data, data_most}
use Rattle.token.specs.Number.{digits, digits_f}
use Rattle.token.specs.Texts.{pick}
use Rattle.token.proofs.LengthLaws.{length_last, length_more, length_pos}
use Rattle.words.specs.Words.{dictionary, word_of}
use Rattle.grammar.specs.Numbered.{write_all, GoodAll, numbered}
use Rattle.shape.specs.Row.{Row, num_of}
use Rattle.shape.specs.Marks.{due, exactly, Field, byte, fixed, num, word, text, field_of, slot_msg_iD, slot_header_ref, slot_msg_ref, slot_cmd_ref, slot_changes}
use Rattle.shape.specs.Shape.{fixed_at, write_one, GoodOne, write_shape, GoodShape}
use Rattle.page.specs.Page.{page, shape}
use Rattle.page.specs.declared.Kinds.{Kinds}
use Rattle.elements.specs.declared.Head.{Head}
use Rattle.elements.specs.declared.End.{End}
use Rattle.elements.specs.Element.{Element, of_head, head_c, of_element, element_c, of_end, end_c}
use Rattle.lists.specs.Lists.{most_listed}
use Rattle.message.specs.Message.{Message, form_of, answers_c, commands_c, message_c}
use Rattle.sendable.specs.Sendable.{OwnHead, own1, own2, own3, own4, own5, own6, longest_sent}

-- ---- a smaller number has no more digits
-- (with `fuel` at least the greater)
digits_within : (fuel n m : ℕ) → n ≤ fuel → m ≤ n → length (digits m) ≤ length (digits n)
digits_within zero n m f h = omega (arith, length_last m (omega arith), length_pos n)
digits_within (suc fuel) n m f h = go (digits_within fuel (n / 10) (m / 10) (omega arith) (omega arith)) (leb 10 m) refl
  where
    go : length (digits (m / 10)) ≤ length (digits (n / 10)) → (x : Bool) → leb 10 m ≡ x → length (digits m) ≤ length (digits n)
    go ih true e = let a = leb-true 10 m e in omega (arith, length_more m a, length_more n (omega arith))
    go ih false e = omega (arith, length_last m (leb-false 10 m e), length_pos n)

digits_most : (n m : ℕ) → m ≤ n → length (digits m) ≤ length (digits n)
digits_most n m h = digits_within n n m (omega arith) h

-- ---- what is known of a row's numbers: slots, and the greatest number that each can have
abbrev Known : Row → List (ℕ × ℕ) → Type 0
Known r l = Every (λ x. num_of r x.0 ≤ x.1) l

-- the greatest number of slot k, whose range ends at hi
abbrev greatest : List (ℕ × ℕ) → ℕ → ℕ → ℕ
greatest [] k hi = hi
greatest (x ∷ l) k hi = cond (eqb k x.0) x.1 (greatest l k hi)

module _ (r : Row) (k hi : ℕ) (h : num_of r k ≤ hi) where
  number_most : (l : List (ℕ × ℕ)) → Known r l → num_of r k ≤ greatest l k hi
  number_most [] e = h
  number_most (x ∷ l) e = go (number_most l e.1) (eqb k x.0) refl
    where
      go : num_of r k ≤ greatest l k hi → (v : Bool) → eqb k x.0 ≡ v → num_of r k ≤ cond v x.1 (greatest l k hi)
      go ih true q = subst (λ j. num_of r j ≤ x.1) (sym (eqb-true k x.0 q)) e.0
      go ih false q = ih

-- ---- the most bytes of a word
abbrev most_word : List (List ℕ) → ℕ
most_word [] = 0
most_word (w ∷ l) = max (length w) (most_word l)

pick_most : (l : List (List ℕ)) (k : ℕ) → length (pick l k) ≤ most_word l
pick_most [] k = omega arith
pick_most (w ∷ l) zero = omega arith
pick_most (w ∷ l) (suc k) = let h = pick_most l k in omega arith

word_most : (k : ℕ) → length (word_of k) ≤ most_word dictionary
unfolding word_of
word_most k = pick_most dictionary k

-- ---- the most bytes of a field, and of a line, where the CmdID is at most id
abbrev most_one : List (ℕ × ℕ) → ℕ → Field → ℕ
most_one known id (byte b) = 1
most_one known id (fixed w) = length (digits (fixed_at id w))
most_one known id (num k lo hi) = length (digits (greatest known k hi))
most_one known id (word k n from) = most_word dictionary
most_one known id text = most_data

abbrev most : List (ℕ × ℕ) → ℕ → List Field → ℕ
most known id [] = 0
most known id (f ∷ l) = most_one known id f + most known id l

module _ (known : List (ℕ × ℕ)) (id top : ℕ) (small : id ≤ top) (r : Row) (k : Known r known) where
  one_most : (f : Field) → GoodOne id r f → length (write_one id r f) ≤ most_one known top f
  one_most (byte b) g = omega arith
  one_most (fixed due) g = digits_most top id small
  one_most (fixed (exactly n)) g = omega arith
  one_most (num j lo hi) g = digits_most (greatest known j hi) (num_of r j) (number_most r j hi g.1 known k)
  one_most (word j n from) g = word_most (num_of r j)
  one_most text g = data_most r.text (good_parts r.text g).0

  shape_most : (l : List Field) → GoodShape id r l → length (write_shape id r l) ≤ most known top l
  shape_most [] g = omega arith
  shape_most (f ∷ l) g =
      let h = one_most f g.0 in
      let m = shape_most l g.1 in
      omega (arith, length-append (write_one id r f) (write_shape id r l))

-- ---- the lines of the n kinds from k on, and the most bytes of one of some lines
abbrev shapes : ℕ → ℕ → List (List Field)
shapes zero k = []
shapes (suc n) k = shape k ∷ shapes n (suc k)

abbrev longest_of : ℕ → List (List Field) → ℕ
longest_of id [] = 0
longest_of id (l ∷ ls) = max (most [] id l) (longest_of id ls)

kind_most : (id n k j : ℕ) → k ≤ j → j < k + n → most [] id (shape j) ≤ longest_of id (shapes n k)
kind_most id zero k j a b = absurd (omega arith)
kind_most id (suc n) k j a b = go (λ c d. kind_most id n (suc k) j c d) (eqb k j) refl
  where
    go : (suc k ≤ j → j < suc k + n → most [] id (shape j) ≤ longest_of id (shapes n (suc k))) → (v : Bool) → eqb k j ≡ v → most [] id (shape j) ≤ longest_of id (shapes (suc n) k)
    go ih true q = subst (λ y. most [] id (shape y) ≤ longest_of id (shapes (suc n) k)) (eqb-true k j q) (le-max_left (most [] id (shape k)) (longest_of id (shapes n (suc k))))
    go ih false q = let ne = eqb-false k j q in omega (arith, ih (omega (arith, ne)) (omega arith))

-- ---- n elements of some lines, whose CmdIDs are at most id, id + 1 and so on (the lines are computed once)
unfoldable most_all : List (List Field) → ℕ → ℕ → ℕ
most_all ls id zero = 0
most_all ls id (suc n) = longest_of id ls + most_all ls (suc id) n

module _ (k : Kinds) where
  all_most : (id top n : ℕ) (l : List Element) → id ≤ top → length l ≤ n → GoodAll id (element_c k) l → length (write_all id (element_c k) l) ≤ most_all (shapes k.count k.from) top n
  unfolding most_all
  all_most id top n [] a b g = omega arith
  all_most id top zero (e ∷ l) a b g = absurd (omega arith)
  all_most id top (suc n) (e ∷ l) a b g =
      let kind = e.fields.kind in
      let w = (element_c k id).write e in
      let h : length w ≤ most [] top (shape kind) = shape_most [] id top a (of_element e).1 tt (shape kind) g.0.1.0 in
      let j = kind_most top k.count k.from kind g.0.0.0 g.0.0.1 in
      let m = all_most (id + 1) (suc top) n l (omega arith) (omega arith) g.1 in
      omega (arith, length-append w (write_all (id + 1) (element_c k) l))

-- ---- a list of at most 32 elements with what ends it: a Sync that begins has at most 32 changes
abbrev end_known : List (ℕ × ℕ)
end_known = (slot_changes, most_listed) ∷ []

abbrev most_list : Kinds → ℕ → ℕ → ℕ
most_list k z id = most_all (shapes k.count k.from) id most_listed + most end_known (id + most_listed) (shape z)

list_most : (k : Kinds) (z id top : ℕ) (l : List Element) (b : End) → id ≤ top → length l ≤ most_listed → b.changes ≤ most_listed
    → (numbered id (element_c k) (end_c z)).good (l, b) → length ((numbered id (element_c k) (end_c z)).write (l, b)) ≤ most_list k z top
list_most k z id top l b a n c g =
    let e = (end_c z (id + length l)).write b in
    let h : length e ≤ most end_known (top + most_listed) (shape z) = shape_most end_known (id + length l) (top + most_listed) (omega arith) (of_end b) (c, tt) (shape z) g.1.0 in
    let m = all_most k id top most_listed l a n g.0 in
    omega (arith, length-append (write_all id (element_c k) l) e)

-- ---- the head of package k: MsgID is 1, 2, 3 on each side, and Pkg 3 answers the SyncAlert, command 3 of Pkg 2
abbrev head_known : ℕ → List (ℕ × ℕ)
head_known k = (slot_msg_iD, 3) ∷ (slot_header_ref, 3) ∷ (slot_msg_ref, 3) ∷ cond (eqb k 3) ((slot_cmd_ref, 3) ∷ []) []

head_known_lem : (h : Head) → OwnHead h → Known (of_head h).1 (head_known h.pkg)
head_known_lem h (own1 session anchor) = (omega arith, (omega arith, (omega arith, tt)))
head_known_lem h (own2 session anchor mode) = (omega arith, (omega arith, (omega arith, tt)))
head_known_lem h (own3 session) = (omega arith, (omega arith, (omega arith, (omega arith, tt))))
head_known_lem h (own4 session ref) = (omega arith, (omega arith, (omega arith, tt)))
head_known_lem h (own5 session ref) = (omega arith, (omega arith, (omega arith, tt)))
head_known_lem h (own6 session) = (omega arith, (omega arith, (omega arith, tt)))

-- ---- package k: its head and its two lists; the answers have the CmdIDs from 3 on, and the commands those after the Sync's
abbrev most_package : ℕ → ℕ
most_package k =
    let f = form_of k in
    most (head_known k) 0 (shape k) + (most_list f.answers f.answersend 3 + most_list f.commands f.commandsend (4 + most_listed))

-- computed for each
own_short : (h : Head) → OwnHead h → leb (most_package h.pkg) longest_sent ≡ true
unfolding page shape field_of form_of digits digits_f most_all
own_short h (own1 session anchor) = refl
own_short h (own2 session anchor mode) = refl
own_short h (own3 session) = refl
own_short h (own4 session ref) = refl
own_short h (own5 session ref) = refl
own_short h (own6 session) = refl

pub message_most : (m : Message) → message_c.good m → OwnHead m.head → length m.answers ≤ most_listed → length m.commands ≤ most_listed
    → m.answersend.changes ≤ most_listed → m.commandsend.changes ≤ most_listed → length (message_c.write m) ≤ longest_sent
unfolding message_c
message_most m g o a c x y =
    let k = m.head.pkg in
    let f = form_of k in
    let n = length m.answers in
    let u = head_c.write m.head in
    let v = (answers_c k).write (m.answers, m.answersend) in
    let w = (commands_c k n).write (m.commands, m.commandsend) in
    let hu : length u ≤ most (head_known k) 0 (shape k) = shape_most (head_known k) 0 0 (omega arith) (of_head m.head).1 (head_known_lem m.head o) (shape k) g.0.1.0 in
    let hv : length v ≤ most_list f.answers f.answersend 3 = list_most f.answers f.answersend 3 3 m.answers m.answersend (omega arith) a x g.1.0 in
    let hw : length w ≤ most_list f.commands f.commandsend (4 + most_listed) = list_most f.commands f.commandsend (4 + n) (4 + most_listed) m.commands m.commandsend (omega arith) c y g.1.1 in
    let t = leb-true (most_package k) longest_sent (own_short m.head o) in
    omega (arith, length-append u (v ++ w), length-append v w)
