-- The codes of the statuses of the press's commands: a Delete is never answered 420; where no 420 is answered, any codes end the same marks. Assumes nothing.
use Rattle.std.proofs.Common.{Option, Some, None}
use Prim.Native.Nat.{ℕ, suc, ◌+◌}
use mathlib.Core.Path.{◌≡◌, refl, sym, ap, ◌∙◌}
use mathlib.Core.Bool.{Bool, false, cond, ◌||◌}
use mathlib.Core.List.{List, [], ◌∷◌, ◌++◌}
use native.Mathlib.Omega.{arith}
use lib.Dec.{eqb}
use lib.ListN.{length, get_or}
use borrow.Author.Tests.{eqb-false}
use Rattle.places.proofs.Choice.{or_neither}
use Rattle.places.specs.Act.{act, in_order, replies, with_answers}
use Rattle.lists.specs.declared.Entry.{Entry}
use Rattle.terms.specs.declared.Mode.{Mode}
use Rattle.terms.specs.declared.Mode.TheVariants.{Normal, Recovery}
use Rattle.cards.specs.declared.Cards.{Cards}
use Rattle.cards.specs.Press.{no_card}
use Rattle.records.specs.declared.Mark.{Mark}
use Rattle.records.specs.declared.Records.{Records}
use Rattle.records.specs.declared.Rule.{Rule}
use Rattle.records.specs.Server.{no_record}
use Rattle.record_moves.specs.Named.{place_of}
use Rattle.card_moves.specs.Moves as moves
use Rattle.card_moves.specs.Moves.{without_reports, without_delete_marks}
use Rattle.server_deletes.specs.Step2.{lost_code, deleted, delete, delete_code_at, delete_status, deletes_in, deletes_of}
use Rattle.server_changes.specs.Step4.{paired, change, change_code_at, change_status}
use Rattle.server_merge.specs.Merge.{changes_of, up_to3, statuses_for}
use Rattle.press_ends.specs.End.{end_mark, ends, marks_end, ended}
use Rattle.demand3.specs.Demand3.{any_room_refused}
use Rattle.server_pairs.proofs.AfterPkg3 as facts

-- ---- 420 in a list of statuses
none_left : (xs ys : List Entry) → any_room_refused (xs ++ ys) ≡ false → any_room_refused ys ≡ false
unfolding any_room_refused
none_left [] ys e = e
none_left (x ∷ xs) ys e = none_left xs ys (or_neither (eqb x.fields.code 420) (any_room_refused (xs ++ ys)) e).1

none_both : (xs ys : List Entry) → any_room_refused xs ≡ false → any_room_refused ys ≡ false → any_room_refused (xs ++ ys) ≡ false
unfolding any_room_refused
none_both [] ys e f = f
none_both (x ∷ xs) ys e f = let p = or_neither (eqb x.fields.code 420) (any_room_refused xs) e in ap (λ (b : Bool). b || any_room_refused (xs ++ ys)) p.0 ∙ none_both xs ys p.1 f

-- ---- a Delete is never answered 420
delete_code : (s : Records) (f : Option ℕ) → eqb (delete_code_at s f) 420 ≡ false
delete_code s None = refl
delete_code s (Some i) = go (get_or s.places i no_record).pairing.mark
  where
    go : (m : Mark) → eqb (lost_code m) 420 ≡ false
    go Mark.Clean = refl
    go Mark.Dirty = refl
    go Mark.Offered = refl
    go Mark.Deleted = refl

pub deletes_roomy : (n : ℕ) (ds : List Entry) (s : Records) → any_room_refused (replies delete_status delete n ds s) ≡ false
unfolding any_room_refused replies delete_status
deletes_roomy n [] s = refl
deletes_roomy n (d ∷ ds) s = ap (λ (b : Bool). b || any_room_refused (replies delete_status delete (suc n) ds (delete d s))) (delete_code s (place_of s (deleted d))) ∙ deletes_roomy (suc n) ds (delete d s)

-- ---- no 420 to the changes: each finds its record, or room
changes_roomy : (rule : Rule) (n : ℕ) (ds : List Entry) (s : Records) → any_room_refused (replies (change_status rule) (change rule) n ds s) ≡ false → facts.Roomy rule ds s
unfolding any_room_refused replies change_status
changes_roomy rule n [] s e = tt
changes_roomy rule n (d ∷ ds) s e =
    let p = or_neither (eqb (change_code_at rule d s (place_of s (paired d))) 420) (any_room_refused (replies (change_status rule) (change rule) (suc n) ds (change rule d s))) e in
    (eqb-false (change_code_at rule d s (place_of s (paired d))) 420 p.0, changes_roomy rule (suc n) ds (change rule d s) p.1)

pub roomy_changes : (rule : Rule) (m : Mode) (n : ℕ) (cs : List Entry) (s : Records) → any_room_refused (statuses_for rule m n cs s) ≡ false → facts.Roomy rule (changes_of cs) (up_to3 m cs s)
unfolding statuses_for
roomy_changes rule m n cs s e = changes_roomy rule (n + deletes_in cs) (changes_of cs) (up_to3 m cs s) (none_left (replies delete_status delete n (deletes_of cs) s) (replies (change_status rule) (change rule) (n + deletes_in cs) (changes_of cs) (up_to3 m cs s)) e)

-- what the changes are answered decides
pub statuses_roomy : (rule : Rule) (m : Mode) (n : ℕ) (cs : List Entry) (s : Records) → any_room_refused (replies (change_status rule) (change rule) (n + deletes_in cs) (changes_of cs) (up_to3 m cs s)) ≡ false → any_room_refused (statuses_for rule m n cs s) ≡ false
unfolding statuses_for
statuses_roomy rule m n cs s e = none_both (replies delete_status delete n (deletes_of cs) s) (replies (change_status rule) (change rule) (n + deletes_in cs) (changes_of cs) (up_to3 m cs s)) (deletes_roomy n (deletes_of cs) s) e

-- ---- any codes but 420 end the same marks
ends_same : (cs xs ys : List Entry) → length xs ≡ length ys → any_room_refused xs ≡ false → any_room_refused ys ≡ false → (c : Cards) → in_order end_mark (with_answers cs xs) c ≡ in_order end_mark (with_answers cs ys) c
unfolding in_order with_answers any_room_refused end_mark
ends_same [] xs ys l e f c = refl
ends_same (d ∷ cs) [] [] l e f c = refl
ends_same (d ∷ cs) [] (y ∷ ys) l e f c = absurd (omega (arith, l))
ends_same (d ∷ cs) (x ∷ xs) [] l e f c = absurd (omega (arith, l))
ends_same (d ∷ cs) (x ∷ xs) (y ∷ ys) l e f c =
    let p = or_neither (eqb x.fields.code 420) (any_room_refused xs) e in
    let q = or_neither (eqb y.fields.code 420) (any_room_refused ys) f in
    let same : end_mark (d, x) c ≡ end_mark (d, y) c = ap (λ (b : Bool). cond b c (moves.with_table c (act no_card (moves.is_entry d.fields.luid) ended (moves.table_of c)))) (p.0 ∙ sym q.0) in
    ap (in_order end_mark (with_answers cs xs)) same ∙ ends_same cs xs ys (omega (arith, l)) p.1 q.1 (end_mark (d, y) c)

pub marks_same : (m : Mode) (cs xs ys : List Entry) → length xs ≡ length ys → any_room_refused xs ≡ false → any_room_refused ys ≡ false → (c : Cards) → marks_end m cs xs c ≡ marks_end m cs ys c
unfolding marks_end ends
marks_same Normal cs xs ys l e f c = ends_same cs xs ys l e f (without_reports c)
marks_same Recovery cs xs ys l e f c = ap without_delete_marks (ends_same cs xs ys l e f (without_reports c))
