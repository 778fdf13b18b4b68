-- Both conditions of request 10 are needed: without either the right sides do not go the same way. Assumes nothing.
use Prim.Native.Nat.{ℕ, ◌+◌}
use mathlib.Core.Path.{◌≡◌, refl}
use mathlib.Core.Bool.{true}
use mathlib.Core.List.{List, [], ◌∷◌, map}
use native.Mathlib.Omega.{arith}
use lib.ListN.{replicate}
use Rattle.places.specs.Set.{lowest_free, free_from, with_place}
use Rattle.places.specs.First.{first_from}
use Rattle.places.specs.Act.{find}
use Rattle.places.specs.Rising.{those, insert, rising}
use Rattle.token.specs.Digit.{digit_of}
use Rattle.token.specs.Literal.{begins, literal_at}
use Rattle.token.specs.Number.{digits_f, digits, count, value, sign, spelled, lawful, number_at}
use Rattle.words.specs.Words.{word_of, word_at}
use Rattle.grammar.specs.Numbered.{list_at, list_from, read_list}
use Rattle.text.specs.Text.{text_ok, all_ok}
use Rattle.spelling.specs.Spelling.{spell, spelled as spelledText, reference_at, plain_here, byte_at, text_at}
use Rattle.spelling.specs.Data.{write_data, data_at}
use Rattle.shape.specs.Marks.{field_of}
use Rattle.shape.specs.Shape.{one_at}
use Rattle.page.specs.Page.{page, shape, second}
use Rattle.page.specs.Kind.{first_of}
use Rattle.message.specs.declared.Content.{Content}
use Rattle.message.specs.Message.{form_of, message_c, read_message}
use Rattle.press_edits.specs.Edit.{press_add, room_for as pressRoom}
use Rattle.press_tells.specs.Tell.{told_of, commands}
use Rattle.press_rules.specs.Pkg1.{press_starts}
use Rattle.press_rules.specs.Pkg2.{press_takes2}
use Rattle.press_calls.specs.Call.{press_start, press_takes}
use Rattle.server_rules.specs.Pkg1.{server_takes1}
use Rattle.server_calls.specs.Call.{server_takes}
use Rattle.course.specs.Course.{press_adds, start, step, Turn, Doing, alone, tries, fresh_world}
use Rattle.course.specs.OnContent.{on_content}
use Rattle.course.specs.OnBytes.{on_bytes}
use Rattle.reworded.specs.Reworded.{reword_content}
use Rattle.shut_out.specs.Faults.{brown}
use Rattle.shut_out.proofs.Tests.{none_of, none_inside, apart, apart_law}
use Rattle.texts.specs.Texts.{SameButTexts, points, textless, reword_turn, Compared, textless_bytes}
use Rattle.texts_shut_out.specs.Needed.{AnyTexts, Lent}
use Rattle.texts_shut_out.proofs.Tests.{lawful_law}

-- the refusals of all points, as one number
refusals : {M : Type 0} → List (Turn M) → ℕ
refusals [] = 0
refusals (t ∷ ts) = t.refusal + refusals ts

-- ---- a text of 25 bytes is refused 4, the empty one is not
abbrev adds : List ℕ → List Doing
adds t = alone (press_adds t) ∷ []

abbrev added : List ℕ → List (Turn Content)
added t = map (reword_turn textless (reword_content textless)) (points on_content (adds t) (fresh_world 1))

too_long : apart refusals (added (replicate 25 65)) (added []) ≡ true
unfolding refusals points tries text_ok all_ok lowest_free free_from with_place press_add pressRoom
too_long = refl

pub lawful_needed : AnyTexts → ⊥
lawful_needed d = apart_law refusals (added (replicate 25 65)) (added []) too_long (d (adds (replicate 25 65)) (adds []) refl)

-- ---- 570 bytes have room for a Pkg 3 with an empty text, and not for one with "Brown", which is refused 9
abbrev until_pkg3 : List ℕ → List Doing
until_pkg3 t = alone (press_adds t) ∷ (start ∷ step ∷ step ∷ []) ∷ []

abbrev in_short : List ℕ → List (Turn Compared)
in_short t = map (reword_turn textless textless_bytes) (points (on_bytes (replicate 570 0)) (until_pkg3 t) (fresh_world 1))

too_short : apart refusals (in_short []) (in_short brown) ≡ true
unfolding refusals points tries lowest_free free_from with_place first_from find those insert rising digit_of begins literal_at digits_f digits count value sign spelled lawful number_at word_of word_at list_at list_from read_list text_ok all_ok spell spelledText reference_at plain_here byte_at text_at write_data data_at field_of one_at page shape first_of form_of message_c read_message press_add pressRoom told_of commands press_starts press_takes2 press_start press_takes server_takes1 server_takes second
too_short = refl

same_until : SameButTexts (until_pkg3 []) (until_pkg3 brown)
unfolding none_inside none_of text_ok all_ok
same_until = record { same = refl; lawful = (lawful_law (until_pkg3 []) refl, lawful_law (until_pkg3 brown) refl) }

pub full_output_needed : Lent 570 → ⊥
full_output_needed d = apart_law refusals (in_short []) (in_short brown) too_short (d 1 (omega arith) (until_pkg3 []) (until_pkg3 brown) same_until)
