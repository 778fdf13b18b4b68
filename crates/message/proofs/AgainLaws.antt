-- A message that reads, written again part by part.
-- Assumes nothing.
use Prim.Native.Nat.{ℕ, ◌+◌, ◌≤◌, ◌<◌}
use mathlib.Core.Path.{◌≡◌, refl, sym, ap, ap₂, ◌∙◌, subst}
use mathlib.Core.List.{List, ◌++◌}
use native.Mathlib.Omega.{arith}
use lib.ListN.{length, length-append}
use Rattle.token.specs.Limit.{limit}
use Rattle.token.specs.Ans.{Ans, got, bad}
use Rattle.token.specs.Put.{Put}
use Rattle.token.proofs.PutLaws.{put_seq}
use Rattle.token.proofs.StandsLaws.{kept}
use Rattle.grammar.specs.Codec.{seq_by}
use Rattle.grammar.specs.Numbered.{read_list, numbered}
use Rattle.grammar.proofs.CodecLaws.{value, place, parts}
use Rattle.grammar.proofs.NumberedLaws.{never, few_elements}
use Rattle.elements.specs.declared.Head.{Head}
use Rattle.elements.specs.declared.End.{End}
use Rattle.elements.specs.Element.{head_c, Element, element_c, end_c}
use Rattle.page.specs.declared.Kinds.{Kinds}
use Rattle.lists.specs.declared.Copied.{Copied}
use Rattle.lists.specs.Lists.{write_list, elements_from, write_on, place_in, copied_as}
use Rattle.message.specs.declared.Form.{Form}
use Rattle.message.specs.declared.Content.{Content}
use Rattle.token.specs.declared.Misread.{Misread}
use Rattle.std.specs.Prelude.{Ok, Err}
use Rattle.message.specs.Message.{form_of, Message, answers_c, commands_c, parts_c, of_message, message_c, read_message}
use Rattle.message.specs.Answer.{taken_as, Written, Refused, again, reread_to, reoutput_to}
use Rattle.message.proofs.MessageLaws as laws
use Rattle.message.proofs.ReadLaws.{moves_answers, message_refused}
use Rattle.message.proofs.WriteLaws.{written_parts, fits, too_long_for}

-- the parts of a message that reads
pub record Parts (s : List ℕ) (m : Message) (p : ℕ) : Type 0 where
  pub one : ℕ
  pub two : ℕ
  pub head : head_c.read s 0 ≡ got m.head one
  pub answers : (answers_c m.head.pkg).read s one ≡ got (m.answers, m.answersend) two
  pub commands : (commands_c m.head.pkg (length m.answers)).read s two ≡ got (m.commands, m.commandsend) p

pub message_parts : (s : List ℕ) (m : Message) (p : ℕ) → message_c.read s 0 ≡ got m p → Parts s m p
unfolding message_c
message_parts s m p e =
    let r = kept (parts_c.read s 0) _ m p e in
    let x : parts_c.read s 0 ≡ got (of_message m) p = r.2 ∙ ap₂ got (ap of_message (value r.3)) (place r.3) in
    let b = parts head_c (λ h. seq_by (answers_c h.pkg) (λ y. commands_c h.pkg (length y.0))) s 0 (of_message m) p x in
    let d = parts (answers_c m.head.pkg) (λ y. commands_c m.head.pkg (length y.0)) s b.mid (of_message m).1 p b.other in
    record { one = b.mid; two = d.mid; head = b.one; answers = d.one; commands = d.other }

-- ---- what the two walks over the lists come to: `f` is the form of the package, `a` and `b` the answers of the code
module _ (s : List ℕ) (h : Head) (at : ℕ) (f : Form) (fe : f ≡ form_of h.pkg) where
  abbrev answers_from : List Element × Ans End
  answers_from = elements_from f.answers f.answersend 3 s at

  abbrev commands_from : ℕ → ℕ → List Element × Ans End
  commands_from first p = elements_from f.commands f.commandsend first s p

  -- the answers are fewer than the bytes
  pub few_copied : (a : Copied) (next : ℕ) → a ≡ copied_as 3 answers_from next → a.due ≤ 3 + length s
  few_copied a next e =
      let n : a.due ≡ 3 + length answers_from.0 = ap (λ (x : Copied). x.due) e in
      omega (arith, few_elements (element_c f.answers) (end_c f.answersend) (moves_answers f h.pkg fe) s 3 at)

  again_parts : (a : Copied) (next : ℕ) → a ≡ copied_as 3 answers_from next
      → again s h at ≡ head_c.write h ++ (write_on 3 f.answersend answers_from ++ write_on (a.due + 1) f.commandsend (commands_from (a.due + 1) a.place))
  unfolding again
  again_parts a next e =
      let n : 4 + length answers_from.0 ≡ a.due + 1 = omega (arith, ap (λ (x : Copied). x.due) e) in
      let p : place_in answers_from.1 ≡ a.place = sym (ap (λ (x : Copied). x.place) e) in
      sym (ap (λ (g : Form). let y = elements_from g.answers g.answersend 3 s at in let i = 4 + length y.0 in head_c.write h ++ (write_on 3 g.answersend y ++ write_on i g.commandsend (elements_from g.commands g.commandsend i s (place_in y.1)))) fe)
      ∙ ap₂ (λ (i q : ℕ). head_c.write h ++ (write_on 3 f.answersend answers_from ++ write_on i f.commandsend (commands_from i q))) n p

  pub again_long : (a b : Copied) → a ≡ copied_as 3 answers_from (length (write_on 3 f.answersend answers_from))
      → b ≡ copied_as (a.due + 1) (commands_from (a.due + 1) a.place) (length (write_on (a.due + 1) f.commandsend (commands_from (a.due + 1) a.place)))
      → (n : ℕ) → n ≡ length (head_c.write h) → n + a.next + b.next ≡ length (again s h at)
  again_long a b ea eb n en =
      let u = head_c.write h in
      let v = write_on 3 f.answersend answers_from in
      let w = write_on (a.due + 1) f.commandsend (commands_from (a.due + 1) a.place) in
      let na : a.next ≡ length v = ap (λ (x : Copied). x.next) ea in
      let nb : b.next ≡ length w = ap (λ (x : Copied). x.next) eb in
      omega (arith, length-append u (v ++ w), length-append v w, ap length (again_parts a (length v) ea))

  pub again_put : (x y z w : List ℕ) (q t : ℕ) (a : Copied) → Put x y 0 q (head_c.write h) → a ≡ copied_as 3 answers_from a.next → Put y z q a.next (write_on 3 f.answersend answers_from)
      → Put z w a.next t (write_on (a.due + 1) f.commandsend (commands_from (a.due + 1) a.place)) → Put x w 0 t (again s h at)
  again_put x y z w q t a u ea v o = rw (again_parts a a.next ea) (put_seq u (put_seq v o))

-- ---- a message that reads is written again, each number in the writer's spelling
from_list : (kinds : Kinds) (end id : ℕ) (s : List ℕ) (at : ℕ) (l : List Element) (b : End) (p : ℕ) → (numbered id (element_c kinds) (end_c end)).read s at ≡ got (l, b) p → elements_from kinds end id s at ≡ (l, got b p)
unfolding read_list
from_list kinds end id s at l b p e =
    let x = elements_from kinds end id s at in
    let k = kept x.1 _ (l, b) p e in
    let v : ◌≡◌ {A = List Element × End} (x.0, k.0) (l, b) = value k.3 in
    ap₂ (λ (y : List Element) (z : Ans End). (y, z)) (ap (λ (y : List Element × End). y.0) v) (k.2 ∙ ap₂ got (ap (λ (y : List Element × End). y.1) v) (place k.3))

pub again_whole : (s : List ℕ) (m : Message) (p : ℕ) → message_c.read s 0 ≡ got m p → (h : Head) (at : ℕ) → head_c.read s 0 ≡ got h at → again s h at ≡ message_c.write m
unfolding again
again_whole s m p e h at i =
    let P = message_parts s m p e in
    let g = form_of m.head.pkg in
    let n = length m.answers in
    sym (ap₂ (λ (x : Head) (k : ℕ). again s x k) (value (sym P.head ∙ i)) (place (sym P.head ∙ i)))
    ∙ ap (λ a. head_c.write m.head ++ (write_on 3 g.answersend a ++ write_on (4 + length a.0) g.commandsend (elements_from g.commands g.commandsend (4 + length a.0) s (place_in a.1)))) (from_list _ _ 3 s P.one m.answers m.answersend P.two P.answers)
    ∙ ap (λ b. head_c.write m.head ++ (write_list 3 g.answersend m.answers m.answersend ++ write_on (4 + n) g.commandsend b)) (from_list _ _ (4 + n) s P.two m.commands m.commandsend p P.commands)
    ∙ sym (written_parts m g n refl refl)

-- ---- what the answer of `read` says of the whole message
pub record Taken (s : List ℕ) : Type 0 where
  pub message : Message
  pub end : ℕ
  pub reads : read_message s ≡ got message end

pub taken_no : (s : List ℕ) (m : Misread) → Err m ≡ taken_as (read_message s) → read_message s ≡ bad 7 m.place
taken_no s m e = go (read_message s) refl e
  where
    go : (x : Ans Message) → read_message s ≡ x → Err m ≡ taken_as x → read_message s ≡ bad 7 m.place
    go (got n p) i h = cc
    go (bad k p) i h =
        let v : m ≡ record { place = p } = cc in
        i ∙ ap₂ bad (message_refused s k p i) (ap (λ (z : Misread). z.place) (sym v))

pub taken_yes : (s : List ℕ) (c : Content) → Ok c ≡ taken_as (read_message s) → Taken s
taken_yes s c e = go (read_message s) refl e
  where
    go : (x : Ans Message) → read_message s ≡ x → Ok c ≡ taken_as x → Taken s
    go (got m p) i h = record { message = m; end = p; reads = i }
    go (bad k p) i h = cc

module _ (s : List ℕ) (t : Taken s) where
  abbrev W : laws.Whole s t.message t.end
  W = laws.whole s t.message t.end t.reads

  pub limited : length s ≤ limit
  limited = W.short

  -- it has a head
  pub headed : (k q : ℕ) → head_c.read s 0 ≡ bad k q → ⊥
  headed k q b = never (sym b ∙ (message_parts s t.message t.end W.reads).head)

  -- what is answered, where `len` is what was measured
  module _ (h : Head) (at : ℕ) (i : head_c.read s 0 ≡ got h at) (len : ℕ) (le : len ≡ length (again s h at)) where
    same : again s h at ≡ message_c.write t.message
    same = again_whole s t.message t.end W.reads h at i

    pub no_room : (out : List ℕ) → length out < len → (Refused 9 ≡ reread_to out (read_message s)) × (out ≡ reoutput_to out (read_message s))
    no_room out k = rw t.reads (too_long_for out (message_c.write t.message) len (le ∙ ap length same) k)

    pub done : (out after : List ℕ) (q : ℕ) → len ≤ length out → Put out after 0 q (again s h at) → (Written len ≡ reread_to out (read_message s)) × (after ≡ reoutput_to out (read_message s))
    done out after q k x = rw t.reads (fits out after (message_c.write t.message) len q (le ∙ ap length same) k (subst (λ (w : List ℕ). Put out after 0 q w) same x))

pub not_taken : (s : List ℕ) (m : Misread) → Err m ≡ taken_as (read_message s) → (out : List ℕ) → (Refused 7 ≡ reread_to out (read_message s)) × (out ≡ reoutput_to out (read_message s))
not_taken s m e out = rw (taken_no s m e) (refl, refl)
