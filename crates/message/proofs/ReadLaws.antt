-- What the steps of reading a whole message come to.
-- Assumes nothing.
use Prim.Native.Nat.{ℕ, ◌+◌, ◌≤◌, ◌<◌}
use mathlib.Core.Path.{◌≡◌, refl, sym, ap, ap₂, ◌∙◌, subst}
use mathlib.Core.Bool.{Bool, true, false}
use mathlib.Core.List.{List, map}
use native.Mathlib.Omega.{arith}
use lib.ListN.{length}
use Rattle.std.specs.Prelude.{Result, Ok, Err}
use Rattle.token.specs.declared.Cursor.{Cursor}
use Rattle.token.specs.declared.Misread.{Misread}
use lib.Dec.{leb, eqb}
use borrow.Author.Tests.{le-leb, lt-leb, eq-eqb, ne_eqb, leb-true, leb-false, eqb-true, eqb-false}
use Rattle.token.specs.Limit.{limit}
use Rattle.token.specs.Ans.{Ans, got, bad}
use Rattle.grammar.specs.Codec.{Moves}
use Rattle.grammar.specs.Numbered.{numbered}
use Rattle.grammar.proofs.NumberedLaws.{never, numbered_long}
use Rattle.elements.specs.declared.Head.{Head}
use Rattle.elements.specs.declared.End.{End}
use Rattle.elements.specs.Element.{head_c, Element, element_c, end_c}
use Rattle.elements.proofs.NameLaws.{head_bad}
use Rattle.message.specs.Message.{form_of, Message, answers_c, commands_c, message_c, limit, to_the_end, read_message}
use Rattle.lists.specs.declared.Listed.{Listed}
use Rattle.lists.specs.declared.Entry.{Entry}
use Rattle.lists.specs.Lists.{by_itself, array, listed_as}
use Rattle.lists.proofs.ListedLaws.{IsListed, listed_got, listed_bad, number, list_refused}
use Rattle.message.specs.declared.Form.{Form}
use Rattle.message.specs.Answer.{taken_as}
use Rattle.message.proofs.PageTests.{answers_ok, commands_ok}
use Rattle.message.proofs.MessageLaws.{each_moves, ends_move}

-- ---- a message is read part by part
module _ (s : List ℕ) where
  pub bad_head : (k p : ℕ) → head_c.read s 0 ≡ bad k p → message_c.read s 0 ≡ bad k p
  unfolding message_c
  bad_head k p e = rw e

  module _ (h : Head) (p : ℕ) (e : head_c.read s 0 ≡ got h p) where
    pub bad_answers : (k q : ℕ) → (answers_c h.pkg).read s p ≡ bad k q → message_c.read s 0 ≡ bad k q
    unfolding message_c
    bad_answers k q f = rw (e, f)

    module _ (l : List Element) (a : End) (q : ℕ) (f : (answers_c h.pkg).read s p ≡ got (l, a) q) where
      pub bad_commands : (k r : ℕ) → (commands_c h.pkg (length l)).read s q ≡ bad k r → message_c.read s 0 ≡ bad k r
      unfolding message_c
      bad_commands k r g = rw (e, f, g)

      pub all_parts : (m : List Element) (c : End) (r : ℕ) → (commands_c h.pkg (length l)).read s q ≡ got (m, c) r → message_c.read s 0 ≡ got (record { head = h; answers = l; answersend = a; commands = m; commandsend = c }) r
      unfolding message_c
      all_parts m c r g = rw (e, f, g)

  -- ---- and has to end where the text does
  pub long : limit < length s → read_message s ≡ bad 7 limit
  unfolding read_message
  long h = rw (lt-leb (length s) limit h)

  module _ (h : length s ≤ limit) where
    short : read_message s ≡ to_the_end (length s) (message_c.read s 0)
    unfolding read_message
    short = rw (le-leb (length s) limit h)

    pub not_read : (k p : ℕ) → message_c.read s 0 ≡ bad k p → read_message s ≡ bad k p
    not_read k p e = short ∙ ap (to_the_end (length s)) e

    pub not_all : (m : Message) (p : ℕ) → message_c.read s 0 ≡ got m p → (p ≡ length s → ⊥) → read_message s ≡ bad 7 p
    not_all m p e n = short ∙ ap (to_the_end (length s)) e ∙ rw (ne_eqb p (length s) n)

    pub is_all : (m : Message) (p : ℕ) → message_c.read s 0 ≡ got m p → p ≡ length s → read_message s ≡ got m p
    is_all m p e n = short ∙ ap (to_the_end (length s)) e ∙ rw (eq-eqb p (length s) n)

-- ---- a message is refused 7, and nothing else
module _ (s : List ℕ) (k p : ℕ) (e : message_c.read s 0 ≡ bad k p) where
  module _ (h : Head) (q : ℕ) (i : head_c.read s 0 ≡ got h q) where
    refused_commands : (l : List Element) (a : End) (r : ℕ) → (answers_c h.pkg).read s q ≡ got (l, a) r → (z : Ans (List Element × End)) → (commands_c h.pkg (length l)).read s r ≡ z → k ≡ 7
    refused_commands l a r f (got m t) g = never (sym e ∙ all_parts s h q i l a r f m.0 m.1 t g)
    refused_commands l a r f (bad j t) g = number (sym e ∙ bad_commands s h q i l a r f j t g) ∙ list_refused _ _ s _ r j t g

    refused_answers : (y : Ans (List Element × End)) → (answers_c h.pkg).read s q ≡ y → k ≡ 7
    refused_answers (got l r) f = refused_commands l.0 l.1 r f ((commands_c h.pkg (length l.0)).read s r) refl
    refused_answers (bad j r) f = number (sym e ∙ bad_answers s h q i j r f) ∙ list_refused _ _ s _ q j r f

  refused_parts : (x : Ans Head) → head_c.read s 0 ≡ x → k ≡ 7
  refused_parts (got h q) i = refused_answers h q i ((answers_c h.pkg).read s q) refl
  refused_parts (bad j q) i = number (sym e ∙ bad_head s j q i) ∙ (head_bad s j q i).0

pub message_refused : (s : List ℕ) (k p : ℕ) → read_message s ≡ bad k p → k ≡ 7
message_refused s k p e = fits (leb (length s) limit) refl
  where
    ends : length s ≤ limit → (m : Message) (q : ℕ) → message_c.read s 0 ≡ got m q → (b : Bool) → eqb q (length s) ≡ b → k ≡ 7
    ends h m q i true t = never (sym e ∙ is_all s h m q i (eqb-true q (length s) t))
    ends h m q i false t = number (sym e ∙ not_all s h m q i (eqb-false q (length s) t))

    parts : length s ≤ limit → (x : Ans Message) → message_c.read s 0 ≡ x → k ≡ 7
    parts h (got m q) i = ends h m q i (eqb q (length s)) refl
    parts h (bad j q) i = number (sym e ∙ not_read s h j q i) ∙ refused_parts s j q i (head_c.read s 0) refl

    fits : (b : Bool) → leb (length s) limit ≡ b → k ≡ 7
    fits true t = parts (leb-true (length s) limit t) (message_c.read s 0) refl
    fits false t = number (sym e ∙ long s (leb-false (length s) limit t))

-- ---- what the code answers
-- a refusal
pub says_no : {x : Ans Message} {k p : ℕ} → x ≡ bad k p → Err (record { place = p }) ≡ taken_as x
says_no e = sym (ap taken_as e)

-- the lists that were kept, their counts, and what ends them
says_yes : (h : Head) (p : ℕ) (l m : List Element) (a c : End) {n k : ℕ} {xs ys : List Entry} → n ≡ length l → xs ≡ array (map by_itself l) → k ≡ length m → ys ≡ array (map by_itself m)
    → {x : Ans Message} → x ≡ got (record { head = h; answers = l; answersend = a; commands = m; commandsend = c }) p
    → Ok (record { head = h; answered = n; answers = xs; answersend = a; commanded = k; commands = ys; commandsend = c }) ≡ taken_as x
says_yes h p l m a c nl el nm em e = rw (nl, el, nm, em) (sym (ap taken_as e))

-- the answers are fewer than the bytes
pub few_answers : (s : List ℕ) (k p : ℕ) (l : List Element) (a : End) (q : ℕ) → (answers_c k).read s p ≡ got (l, a) q → length l ≤ length s
few_answers s k p l a q e =
    let o = answers_ok k in
    let n = numbered_long (element_c (form_of k).answers) (end_c (form_of k).answersend) (each_moves _ _ o) (ends_move _ _ o) s l a 3 p q e in
    omega (arith, n.0, n.1)

-- ---- the two lists of the code, one after the other: `f` is the form that the code has of the package
pub moves_answers : (f : Form) (k : ℕ) → f ≡ form_of k → (i : ℕ) → Moves (element_c f.answers i)
moves_answers f k e i = subst (λ (g : Form). Moves (element_c g.answers i)) (sym e) (each_moves _ _ (answers_ok k) i)

pub moves_commands : (f : Form) (k : ℕ) → f ≡ form_of k → (i : ℕ) → Moves (element_c f.commands i)
moves_commands f k e i = subst (λ (g : Form). Moves (element_c g.commands i)) (sym e) (each_moves _ _ (commands_ok k) i)

module _ (s : List ℕ) where
  pub no_room : limit < length s → Err (record { place = limit }) ≡ taken_as (read_message s)
  no_room h = says_no (long s h)

  module _ (short : length s ≤ limit) where
    pub no_head : {p : ℕ} → head_c.read s 0 ≡ bad 7 p → Err (record { place = p }) ≡ taken_as (read_message s)
    no_head e = says_no (not_read s short 7 _ (bad_head s 7 _ e))

    module _ (h : Head) (p : ℕ) (e : head_c.read s 0 ≡ got h p) (f : Form) (fe : f ≡ form_of h.pkg) where
      module _ (r : Result (Listed × Cursor) Misread) (er : r ≡ listed_as ((numbered 3 (element_c f.answers) (end_c f.answersend)).read s p)) where
        first_list : r ≡ listed_as ((answers_c h.pkg).read s p)
        first_list = er ∙ ap (λ (g : Form). listed_as ((numbered 3 (element_c g.answers) (end_c g.answersend)).read s p)) fe

        pub no_answers : (m : Misread) → r ≡ Err m → Err m ≡ taken_as (read_message s)
        no_answers m n =
            let x = listed_bad ((answers_c h.pkg).read s p) m (sym n ∙ first_list) in
            says_no (not_read s short x.0 m.place (bad_answers s h p e x.0 m.place x.1))

        module _ (a : Listed) (c : Cursor) (y : r ≡ Ok (a, c)) where
          some_answers : IsListed ((answers_c h.pkg).read s p) a c.at
          some_answers = listed_got ((answers_c h.pkg).read s p) a c (sym y ∙ first_list)

          abbrev l : List Element
          l = some_answers.all

          pub few : a.n ≤ limit
          few = omega (arith, few_answers s h.pkg p l a.end c.at some_answers.reads, some_answers.count)

          module _ (t : Result (Listed × Cursor) Misread) (et : t ≡ listed_as ((numbered (4 + a.n) (element_c f.commands) (end_c f.commandsend)).read s c.at)) where
            second_list : t ≡ listed_as ((commands_c h.pkg (length l)).read s c.at)
            second_list =
                et
                ∙ ap₂ (λ (g : Form) (n : ℕ). listed_as ((numbered (4 + n) (element_c g.commands) (end_c g.commandsend)).read s c.at)) fe some_answers.count

            pub no_commands : (m : Misread) → t ≡ Err m → Err m ≡ taken_as (read_message s)
            no_commands m n =
                let x = listed_bad ((commands_c h.pkg (length l)).read s c.at) m (sym n ∙ second_list) in
                says_no (not_read s short x.0 m.place (bad_commands s h p e l a.end c.at some_answers.reads x.0 m.place x.1))

            module _ (b : Listed) (d : Cursor) (z : t ≡ Ok (b, d)) where
              some_commands : IsListed ((commands_c h.pkg (length l)).read s c.at) b d.at
              some_commands = listed_got ((commands_c h.pkg (length l)).read s c.at) b d (sym z ∙ second_list)

              message_reads : message_c.read s 0 ≡ got (record { head = h; answers = l; answersend = a.end; commands = some_commands.all; commandsend = b.end }) d.at
              message_reads = all_parts s h p e l a.end c.at some_answers.reads some_commands.all b.end d.at some_commands.reads

              pub left_over : (d.at ≡ length s → ⊥) → Err (record { place = d.at }) ≡ taken_as (read_message s)
              left_over n = says_no (not_all s short _ d.at message_reads n)

              pub whole_message : d.at ≡ length s
                  → Ok (record { head = h; answered = a.n; answers = a.items; answersend = a.end; commanded = b.n; commands = b.items; commandsend = b.end }) ≡ taken_as (read_message s)
              whole_message n =
                  says_yes h d.at l some_commands.all a.end b.end some_answers.count some_answers.items some_commands.count some_commands.items
                  (is_all s short _ d.at message_reads n)
