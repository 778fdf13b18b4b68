-- The page passes the tests: its kinds are sound and told apart, and so is the end of each list from its elements. Each test is computed once.
-- Assumes nothing.
use Prim.Native.Nat.{ℕ, zero, suc}
use mathlib.Core.Path.{◌≡◌, refl}
use mathlib.Core.Bool.{Bool, true, ◌&&◌}
use mathlib.Core.List.{List, [], ◌∷◌}
use lib.ListN.{get_or}
use Rattle.token.specs.Literal.{begins}
use Rattle.token.proofs.NumberLaws.{both}
use Rattle.words.specs.Words.{word_of}
use Rattle.words.proofs.WordTests.{finds, plain, told_apart}
use Rattle.shape.specs.Marks.{field_of}
use Rattle.shape.proofs.LeftOut.{lacks}
use Rattle.shape.proofs.Sound.{sound, apart}
use Rattle.page.specs.Page.{page, shape, second}
use Rattle.page.specs.declared.Kinds.{Kinds}
use Rattle.message.specs.declared.Form.{Form}
use Rattle.message.specs.Message.{forms, form_of, no_lists}
use Rattle.page.proofs.KindLaws.{before, told}
use Rattle.elements.proofs.NameLaws.{each, head_like, element_like, end_like}

-- a list's kinds and its end
abbrev list_ok : Kinds → ℕ → Bool
list_ok k z = told k.count k.from && each element_like k.count k.from && before z k.count k.from && sound (shape z) && end_like (shape z)

abbrev form_ok : Form → Bool
form_ok f = list_ok f.answers f.answersend && list_ok f.commands f.commandsend

abbrev all_ok : List Form → Bool
all_ok [] = true
all_ok (f ∷ l) = form_ok f && all_ok l

ok_at : (l : List Form) (d : Form) → all_ok l ≡ true → form_ok d ≡ true → (k : ℕ) → form_ok (get_or l k d) ≡ true
ok_at [] d e h k = h
ok_at (f ∷ l) d e h zero = (both (form_ok f) (all_ok l) e).0
ok_at (f ∷ l) d e h (suc k) = ok_at l d (both (form_ok f) (all_ok l) e).1 h k

-- ---- computed
pub heads_told : told 6 1 ≡ true
unfolding told before shape page second lacks field_of apart told_apart finds plain word_of begins
heads_told = refl

pub heads_named : each head_like 6 1 ≡ true
unfolding shape page field_of
heads_named = refl

all_ok_lem : all_ok forms ≡ true
unfolding told before shape page second lacks field_of apart told_apart finds plain word_of begins
all_ok_lem = refl

none_ok : form_ok no_lists ≡ true
unfolding told before shape page second lacks field_of apart told_apart finds plain word_of begins
none_ok = refl

-- ---- what the tests say of each list
pub record ListOk (k : Kinds) (z : ℕ) : Type 0 where
  pub told_apart : told k.count k.from ≡ true
  pub named : each element_like k.count k.from ≡ true
  pub parted : before z k.count k.from ≡ true
  pub end_sound : sound (shape z) ≡ true
  pub end_named : end_like (shape z) ≡ true

list_ok_lem : (k : Kinds) (z : ℕ) → list_ok k z ≡ true → ListOk k z
list_ok_lem k z e =
    let a = both (told k.count k.from && each element_like k.count k.from && before z k.count k.from && sound (shape z)) (end_like (shape z)) e in
    let b = both (told k.count k.from && each element_like k.count k.from && before z k.count k.from) (sound (shape z)) a.0 in
    let c = both (told k.count k.from && each element_like k.count k.from) (before z k.count k.from) b.0 in
    let d = both (told k.count k.from) (each element_like k.count k.from) c.0 in
    record { told_apart = d.0; named = d.1; parted = c.1; end_sound = b.1; end_named = a.1 }

ok : (k : ℕ) → form_ok (form_of k) ≡ true
unfolding form_of
ok k = ok_at forms no_lists all_ok_lem none_ok k

pub answers_ok : (k : ℕ) → ListOk (form_of k).answers (form_of k).answersend
answers_ok k = list_ok_lem _ _ (both (list_ok (form_of k).answers (form_of k).answersend) _ (ok k)).0

pub commands_ok : (k : ℕ) → ListOk (form_of k).commands (form_of k).commandsend
commands_ok k = list_ok_lem _ _ (both (list_ok (form_of k).answers (form_of k).answersend) (list_ok (form_of k).commands (form_of k).commandsend) (ok k)).1
