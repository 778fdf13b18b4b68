-- What is read of a message has values in their ranges; a package that is sent is read as it was.
-- Assumes nothing.
use Prim.Native.Nat.{ℕ, ◌+◌, ◌-◌}
use mathlib.Core.Path.{◌≡◌, refl, sym, ap, ◌∙◌, subst}
use mathlib.Core.Bool.{Bool, true, false}
use mathlib.Core.List.{List, [], ◌∷◌, ◌++◌, map, append-nil}
use native.Mathlib.Omega.{arith}
use lib.Dec.{leb}
use lib.ListN.{length, take, replicate, length-map, length-take}
use lib.Seq.{take_all, take-append_seam}
use borrow.Author.Tests.{leb-true, leb-false}
use Rattle.token.specs.Ans.{got}
use Rattle.token.proofs.LengthLaws.{spellable}
use Rattle.token.specs.Texts.{pick}
use Rattle.text.specs.Wording.{signed_by, IsWording}
use Rattle.text.proofs.WordingLaws.{signed_well}
use Rattle.grammar.specs.Numbered.{GoodAll}
use Rattle.shape.proofs.CopyLaws.{row_text, row_anew}
use Rattle.shape.proofs.StationLaws.{row_station}
use Rattle.page.specs.Page.{page, shape}
use Rattle.page.specs.declared.Kinds.{Kinds}
use Rattle.elements.specs.Element.{Element, of_element, element_c}
use Rattle.lists.specs.declared.Entry.{Entry}
use Rattle.lists.specs.Lists.{kept_listed, by_itself, blank_entry, no_end, array}
use Rattle.message.specs.declared.Content.{Content}
use Rattle.message.specs.Message.{Message, form_of, message_c, read_message}
use Rattle.message.specs.Answer.{content_for, message_of}
use Rattle.message.proofs.MessageLaws.{reads_good}
use Rattle.lists.proofs.EntryLaws.{own_entry}
use Rattle.message.proofs.KeptLaws.{KeptTexts, kept_texts, content_kept}
use Rattle.places.proofs.Every.{Every, every, every_take}
use Rattle.listing.proofs.ListingLaws.{listing_items}
use Rattle.packages.specs.Package.{changes_of, answers_in, commands_in}
use Rattle.sendable.specs.Sendable.{Sendable, SendablePackage, Readable}

-- ---- a package that is sent
texts : (k : Kinds) (xs : List Entry) → Every (Sendable k) xs → KeptTexts xs
texts k xs h = kept_texts xs (every (Sendable k) (λ e. IsWording e.wording) (λ e g. g.1) xs h)

module _ (c : Content) (s : SendablePackage c) where
  -- its lists are those it was made of
  pub sent_readable : Readable c
  sent_readable =
      record {
        head = s.head;
        answers = subst (Every (Sendable (form_of c.head.pkg).answers)) (sym (ap answers_in s.kept ∙ listing_items s.answers)) s.answers_good;
        commands = subst (Every (Sendable (form_of c.head.pkg).commands)) (sym (ap commands_in s.kept ∙ listing_items s.commands)) s.commands_good;
      }

  -- what is read of it is the package
  pub sent_kept : content_for (message_of c) ≡ c
  sent_kept =
      let f = form_of c.head.pkg in
      ap (λ (x : Content). content_for (message_of x)) s.kept
      ∙ content_kept c.head s.answers (changes_of (length s.commands)) s.commands no_end
      (texts f.answers s.answers s.answers_good) (omega (arith, s.answers_fit))
      (texts f.commands s.commands s.commands_good) (omega (arith, s.commands_fit))
      ∙ sym s.kept

-- ---- an element that is read is, by itself, in the written form, whatever its CmdID
module _ (k : Kinds) where
  -- its text keeps the text rule, and its station is one
  said : (id : ℕ) (e : Element) → (element_c k id).good e → IsWording (signed_by e.station e.text)
  unfolding shape
  said id e g =
      let row = (of_element e).1 in
      signed_well e.station e.text (row_station (pick page e.fields.kind) id row g.1) (row_text (shape e.fields.kind) id row g.1)

  one_readable : (id : ℕ) (e : Element) → (element_c k id).good e → Sendable k (by_itself e)
  one_readable id e g =
      (λ n h. subst (λ (x : Element). (element_c k n).good x) (sym (own_entry k id e g)) (g.0, row_anew (shape e.fields.kind) id n (of_element e).1 (spellable n h.1) g.1), said id e g)

  all_readable : (id : ℕ) (l : List Element) → GoodAll id (element_c k) l → Every (Sendable k) (map by_itself l)
  all_readable id [] g = tt
  all_readable id (e ∷ l) g = (one_readable id e g.0, all_readable (id + 1) l g.1)

-- ---- an array and a count say the first 33
array_first : (xs : List Entry) → take (length xs) (array xs) ≡ take kept_listed xs
array_first xs = go (leb (length xs) kept_listed) refl
  where
    go : (b : Bool) → leb (length xs) kept_listed ≡ b → take (length xs) (array xs) ≡ take kept_listed xs
    go true q =
        let n : length xs ≡ length (take kept_listed xs) = omega (arith, leb-true (length xs) kept_listed q, length-take kept_listed xs) in
        ap (λ (m : ℕ). take m (array xs)) n ∙ take-append_seam (take kept_listed xs) (replicate (kept_listed - length (take kept_listed xs)) blank_entry)
    go false q =
        let h = leb-false (length xs) kept_listed q in
        let none : kept_listed - length (take kept_listed xs) ≡ 0 = omega (arith, h, length-take kept_listed xs) in
        ap (take (length xs)) (ap (λ (n : ℕ). take kept_listed xs ++ replicate n blank_entry) none ∙ append-nil (take kept_listed xs))
        ∙ take_all (length xs) (take kept_listed xs) (omega (arith, h, length-take kept_listed xs))

read_list_lem : (k : Kinds) (id : ℕ) (l : List Element) → GoodAll id (element_c k) l → Every (Sendable k) (take (length l) (array (map by_itself l)))
read_list_lem k id l g =
    let xs : List Entry = map by_itself l in
    let said : take kept_listed xs ≡ take (length l) (array xs) = sym (array_first xs) ∙ ap (λ (n : ℕ). take n (array xs)) (length-map l by_itself) in
    subst (Every (Sendable k)) said (every_take (Sendable k) kept_listed xs (all_readable k id l g))

-- ---- a message that is read
pub read_readable : (s : List ℕ) (m : Message) (p : ℕ) → read_message s ≡ got m p → Readable (content_for m)
unfolding message_c
read_readable s m p e =
    let g = reads_good s m p e in
    let f = form_of m.head.pkg in
    record { head = g.0; answers = read_list_lem f.answers 3 m.answers g.1.0.0; commands = read_list_lem f.commands (4 + length m.answers) m.commands g.1.1.0 }
