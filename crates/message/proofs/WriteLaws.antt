-- What is written of a message, part by part.
-- Assumes nothing.
use Prim.Native.Nat.{ℕ, ◌+◌, ◌≤◌, ◌<◌}
use mathlib.Core.Path.{◌≡◌, refl, sym, ap, ap₂, ◌∙◌}
use mathlib.Core.List.{List, [], ◌∷◌, ◌++◌, map}
use native.Mathlib.Omega.{arith}
use lib.ListN.{length, take, length-map, length-append}
use borrow.Author.Tests.{le-leb, lt-leb}
use Rattle.token.specs.Put.{Put}
use Rattle.grammar.specs.Numbered.{write_all}
use Rattle.page.specs.declared.Kinds.{Kinds}
use Rattle.elements.specs.Element.{head_c, Element, element_c, end_c}
use Rattle.lists.specs.Lists.{entry_of, any_kinds, write_list}
use Rattle.lists.specs.declared.Entry.{Entry}
use Rattle.message.specs.declared.Form.{Form}
use Rattle.message.specs.declared.Content.{Content}
use Rattle.message.specs.Message.{form_of, Message, message_c}
use Rattle.message.specs.Answer.{message_of, Written, Refused, answer_to, output_to}

-- what is written of a list does not go by its kinds
same_writes : (k : Kinds) (id : ℕ) (l : List Element) → write_all id (element_c k) l ≡ write_all id (element_c any_kinds) l
same_writes k id [] = refl
same_writes k id (e ∷ l) = ap (λ (w : List ℕ). (element_c k id).write e ++ w) (same_writes k (id + 1) l)

-- the head and the two lists; `f` is the form of the package and n the number of answers
pub written_parts : (m : Message) (f : Form) (n : ℕ) → f ≡ form_of m.head.pkg → n ≡ length m.answers
    → message_c.write m ≡ head_c.write m.head ++ (write_list 3 f.answersend m.answers m.answersend ++ write_list (4 + n) f.commandsend m.commands m.commandsend)
unfolding message_c
written_parts m f n e h =
    let g = form_of m.head.pkg in
    let k = length m.answers in
    ap (λ (w : List ℕ). head_c.write m.head ++ w)
    (ap₂ (λ (u v : List ℕ). (u ++ (end_c g.answersend (3 + k)).write m.answersend) ++ (v ++ (end_c g.commandsend (4 + k + length m.commands)).write m.commandsend)) (same_writes g.answers 3 m.answers) (same_writes g.commands (4 + k) m.commands)
    ∙ ap₂ (λ (x : Form) (i : ℕ). write_list 3 x.answersend m.answers m.answersend ++ write_list (4 + i) x.commandsend m.commands m.commandsend) (sym e) (sym h))

-- the same of a content, by the lists that it lends
module _ (c : Content) (f : Form) (xs cs : List Entry) (n : ℕ) (fe : f ≡ form_of c.head.pkg) (ex : xs ≡ take c.answered c.answers) (ec : cs ≡ take c.commanded c.commands) (en : n ≡ length xs) where
  pub content_parts : message_c.write (message_of c) ≡ head_c.write c.head ++ (write_list 3 f.answersend (map entry_of xs) c.answersend ++ write_list (4 + n) f.commandsend (map entry_of cs) c.commandsend)
  content_parts =
      written_parts (message_of c) f n fe (en ∙ ap length ex ∙ sym (length-map (take c.answered c.answers) entry_of))
      ∙ ap₂ (λ (l m : List Entry). head_c.write c.head ++ (write_list 3 f.answersend (map entry_of l) c.answersend ++ write_list (4 + n) f.commandsend (map entry_of m) c.commandsend)) (sym ex) (sym ec)

  -- and its length
  pub content_long : (a b d : ℕ) → a ≡ length (head_c.write c.head) → b ≡ length (write_list 3 f.answersend (map entry_of xs) c.answersend) → d ≡ length (write_list (4 + n) f.commandsend (map entry_of cs) c.commandsend)
      → a + b + d ≡ length (message_c.write (message_of c))
  content_long a b d p q r =
      let u = head_c.write c.head in
      let v = write_list 3 f.answersend (map entry_of xs) c.answersend in
      let w = write_list (4 + n) f.commandsend (map entry_of cs) c.commandsend in
      omega (arith, length-append u (v ++ w), length-append v w, ap length content_parts)

-- ---- an answer w in an output: it fits, or it does not
pub fits : (out after w : List ℕ) (n p : ℕ) → n ≡ length w → n ≤ length out → Put out after 0 p w → (Written n ≡ answer_to out w) × (after ≡ output_to out w)
fits out after w n p e h x =
    let k : length w ≤ length out = omega arith in
    (rw (le-leb (length w) (length out) k) (ap Written e), rw (le-leb (length w) (length out) k) x.bytes)

pub too_long_for : (out w : List ℕ) (n : ℕ) → n ≡ length w → length out < n → (Refused 9 ≡ answer_to out w) × (out ≡ output_to out w)
too_long_for out w n e h = let k : length out < length w = omega arith in (rw (lt-leb (length w) (length out) k), rw (lt-leb (length w) (length out) k))
