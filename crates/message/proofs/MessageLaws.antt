-- Reading undoes writing: every message that has a written form reads back; what reads, however it was spelled, has one, and it is no longer.
-- Assumes nothing.
use Prim.Native.Nat.{ℕ, ◌+◌, ◌≤◌}
use mathlib.Core.Path.{◌≡◌, refl, sym, ap, ◌∙◌}
use mathlib.Core.Bool.{Bool, true, false, cond}
use mathlib.Core.List.{List, ◌++◌, append-nil}
use native.Mathlib.Omega.{arith}
use lib.ListN.{length, drop_of_length-le}
use lib.Dec.{leb, eqb}
use borrow.Author.Tests.{le-leb, leb-true, eq-eqb, eqb-true}
use Rattle.token.specs.Ans.{Ans, got, bad, Stands}
use Rattle.grammar.specs.Codec.{Codec, There, Moves, seq_by}
use Rattle.grammar.specs.Numbered.{numbered}
use Rattle.grammar.proofs.CodecLaws.{place, again, named_there, named_moves, seq_by_there, seq_by_moves}
use Rattle.grammar.proofs.NumberedLaws.{never, numbered_there, numbered_moves}
use Rattle.page.specs.declared.Kinds.{Kinds}
use Rattle.elements.specs.declared.End.{End}
use Rattle.elements.specs.Element.{head_c, Element, element_c, end_c}
use Rattle.message.specs.Message.{Message, answers_c, commands_c, parts_c, to_message, of_message, message_c, limit, to_the_end, read_message}
use Rattle.elements.proofs.NameLaws.{head_there, head_moves, element_there, element_moves, element_apart, end_there, end_moves}
use Rattle.message.proofs.PageTests.{ListOk, heads_told, heads_named, answers_ok, commands_ok}

-- ---- a list of the written form
module _ (k : Kinds) (z : ℕ) (o : ListOk k z) where
  pub each_moves : (id : ℕ) → Moves (element_c k id)
  each_moves id = element_moves k id o.told_apart o.named

  pub ends_move : (id : ℕ) → Moves (end_c z id)
  ends_move id = end_moves z id o.end_sound o.end_named

  list_there : (id : ℕ) → There (numbered id (element_c k) (end_c z))
  list_there =
      numbered_there (element_c k) (end_c z) each_moves (λ id. element_there k id o.told_apart o.named) (λ id. end_there z id o.end_sound o.end_named)
      (λ id. element_apart k id o.told_apart o.named z o.parted)

  list_moves : (id : ℕ) → Moves (numbered id (element_c k) (end_c z))
  list_moves = numbered_moves (element_c k) (end_c z) each_moves ends_move

-- ---- the two lists of a package
abbrev lists_c : ℕ → Codec ((List Element × End) × (List Element × End))
lists_c k = seq_by (answers_c k) (λ x. commands_c k (length x.0))

lists_there : (k : ℕ) → There (lists_c k)
lists_there k = seq_by_there (answers_c k) (λ x. commands_c k (length x.0)) (list_there _ _ (answers_ok k) 3) (λ x g. list_there _ _ (commands_ok k) (4 + length x.0))

lists_moves : (k : ℕ) → Moves (lists_c k)
lists_moves k = seq_by_moves (answers_c k) (λ x. commands_c k (length x.0)) (list_moves _ _ (answers_ok k) 3) (λ x g. list_moves _ _ (commands_ok k) (4 + length x.0))

-- ---- the two laws of messages
parts_moves : Moves parts_c
parts_moves = seq_by_moves head_c (λ h. lists_c h.pkg) (head_moves heads_told heads_named) (λ h g. lists_moves h.pkg)

pub message_there : There message_c
unfolding message_c
message_there =
    named_there to_message of_message parts_c (λ b g. refl) (seq_by_there head_c (λ h. lists_c h.pkg) (head_there heads_told heads_named) (λ h g. lists_there h.pkg))

pub message_moves : Moves message_c
unfolding message_c
message_moves = named_moves to_message of_message parts_c (λ a g. refl) parts_moves

-- ---- a whole text stands at its own start
all_stands : (s : List ℕ) → Stands s 0 s (length s)
all_stands s =
    let h : length s ≤ length s = omega arith in
    record { text = sym (ap (λ (l : List ℕ). s ++ l) (drop_of_length-le s h) ∙ append-nil s); next = omega arith; within = h }

-- a text that keeps to the limit and is read to its end is read as a message
to_the_end_lem : (s : List ℕ) (m : Message) → length s ≤ limit → message_c.read s 0 ≡ got m (length s) → read_message s ≡ got m (length s)
unfolding read_message
to_the_end_lem s m h e = rw (le-leb (length s) limit h, e, eq-eqb (length s) (length s) refl)

-- what is written reads back: every message in the form that keeps to the limit
pub reads_back : (m : Message) → message_c.good m → length (message_c.write m) ≤ limit → read_message (message_c.write m) ≡ got m (length (message_c.write m))
reads_back m g h = let w = message_c.write m in to_the_end_lem w m h (message_there w 0 m (length w) g (all_stands w))

-- what a reading of a whole message says
pub record Whole (s : List ℕ) (m : Message) (p : ℕ) : Type 0 where
  pub short : length s ≤ limit
  pub reads : message_c.read s 0 ≡ got m p
  pub all : p ≡ length s

pub whole : (s : List ℕ) (m : Message) (p : ℕ) → read_message s ≡ got m p → Whole s m p
unfolding read_message
whole s m p e = go (leb (length s) limit) refl e
  where
    over : (x : Ans Message) → message_c.read s 0 ≡ x → length s ≤ limit → to_the_end (length s) x ≡ got m p → Whole s m p
    over (bad k q) i h f = never f
    over (got a q) i h f = here (eqb q (length s)) refl f
      where
        here : (t : Bool) → eqb q (length s) ≡ t → cond t (got a q) (bad 7 q) ≡ got m p → Whole s m p
        here true j f = record { short = h; reads = i ∙ f; all = sym (place f) ∙ eqb-true q (length s) j }
        here false j f = never f

    go : (t : Bool) → leb (length s) limit ≡ t → cond t (to_the_end (length s) (message_c.read s 0)) (bad 7 limit) ≡ got m p → Whole s m p
    go true i f = over (message_c.read s 0) refl (leb-true (length s) limit i) f
    go false i f = never f

-- what reads is in the form, however it was spelled
pub reads_good : (s : List ℕ) (m : Message) (p : ℕ) → read_message s ≡ got m p → message_c.good m
reads_good s m p e = (message_moves s 0 m p (whole s m p e).reads).good

-- reading, writing and reading again gives the same message, if what is written keeps to the limit
pub reads_again : (s : List ℕ) (m : Message) (p : ℕ) → read_message s ≡ got m p → length (message_c.write m) ≤ limit → read_message (message_c.write m) ≡ got m (length (message_c.write m))
reads_again s m p e h = let w = message_c.write m in to_the_end_lem w m h (again message_c message_there message_moves s 0 m p (whole s m p e).reads w 0 (length w) (all_stands w))

-- above the limit nothing is read
pub too_long : (s : List ℕ) (m : Message) (p : ℕ) → read_message s ≡ got m p → length s ≤ limit
too_long s m p e = (whole s m p e).short
