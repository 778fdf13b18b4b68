-- Steps 4 and 5 of the server at Pkg 3 are taken in one pass over the commands. Where no LUID stands twice among them, that is 01's order:
-- first all of a paired LUID (step 4), then all of an unpaired one (step 5), with the same records and the same statuses, 420 too. Assumes nothing.
use Rattle.std.proofs.Common.{Option, Some, None}
use Prim.Native.Nat.{ℕ, zero, suc, ◌+◌, ◌<◌}
use mathlib.Core.Path.{◌≡◌, refl, sym, ap, ap₂, ◌∙◌}
use mathlib.Core.Bool.{Bool, true, false, cond, not, ◌&&◌, ◌||◌, or-true, false≢true}
use native.Mathlib.Nat.{zero-add}
use native.Mathlib.Omega.{arith}
use mathlib.Core.List.{List, [], ◌∷◌, ◌++◌}
use lib.Dec.{eqb, leb}
use lib.ListN.{length, get_or, set, drop, length-set}
use lib.Seq.{get_or-set_same, get_or-set_other, set_comm}
use borrow.Author.Tests.{eqb-false, ne_eqb}
use Rattle.places.specs.Set.{in_use, with_place, lowest_free}
use Rattle.places.proofs.Choice.{and_passed}
use Rattle.places.proofs.First.{first_same}
use Rattle.places.proofs.TableLaws.{by_place}
use Rattle.places.proofs.Bits.{taken_in}
use Rattle.terms.specs.declared.Luid.{Luid}
use Rattle.terms.specs.declared.Mode.{Mode}
use Rattle.records.specs.declared.Record.{Record}
use Rattle.records.specs.declared.Records.{Records}
use Rattle.records.specs.declared.Rule.{Rule}
use Rattle.records.specs.Server.{no_record}
use Rattle.lists.specs.declared.Entry.{Entry}
use Rattle.places.specs.Act.{Table, hit, holds, find, put_at, act_at, act, in_order, replies}
use Rattle.places.proofs.Every.{Every, Pairs}
use Rattle.places.proofs.KeptLaws.{find_hit, taken_same}
use Rattle.places.proofs.Views.{act_finds}
use Rattle.statuses.specs.Status.{name_of, empty_status}
use Rattle.ranks.specs.Rank.{luids_once}
use Rattle.ranks.proofs.RankLaws.{OtherLuid, luids_differ}
use Rattle.record_moves.specs.Named.{table_of, with_table, is_named, place_of}
use Rattle.server_edits.specs.Edit.{room_for}
use Rattle.server_edits.proofs.RoomLaws.{room_at}
use Rattle.server_deletes.specs.Step2.{delete, delete_status, deletes_in, deletes_of}
use Rattle.server_changes.specs.Step4.{changed, changed_code, made, with_made, make_at, make_code, paired, change_at, change, change_code_at, change_status, change4_at, change5_at, change4, change5, step4, step5, code_at, statuses45}
use Rattle.server_changes.proofs.SafeChanges.{changed_same}
use Rattle.server_merge.specs.Merge.{changes_of, up_to3, merged, statuses_for}

-- the place of a command's LUID
abbrev its : Entry → Records → Option ℕ
its c s = place_of s (paired c)

-- ---- an entry that a search does not look for, put into a free place, is not found
module _ {A : Type 0} (d : A) (q : A → Bool) (t : Table A) (i : ℕ) (x : A) (free : in_use t.used i ≡ false) (other : q x ≡ false) where
  and_false : (b : Bool) → (b && false) ≡ false
  and_false true = refl
  and_false false = refl

  pub find_beside : find q (put_at t i (holds x)) ≡ find q t
  unfolding find
  find_beside =
      first_same (hit (with_place t.used i) q) (hit t.used q) d (set t.places i x) t.places 0 (length-set t.places i x)
      (by_place i (λ k. k < length (set t.places i x) → hit (with_place t.used i) q (0 + k) (get_or (set t.places i x) k d) ≡ hit t.used q (0 + k) (get_or t.places k d))
      here there)
    where
      here : i < length (set t.places i x) → hit (with_place t.used i) q (0 + i) (get_or (set t.places i x) i d) ≡ hit t.used q (0 + i) (get_or t.places i d)
      here h =
          ap (λ (y : A). in_use (with_place t.used i) (0 + i) && q y) (get_or-set_same t.places i x d (omega (arith, length-set t.places i x)))
          ∙ ap (λ (b : Bool). in_use (with_place t.used i) (0 + i) && b) other
          ∙ and_false (in_use (with_place t.used i) (0 + i))
          ∙ sym (and_passed (in_use t.used (0 + i)) (q (get_or t.places i d)) (ap (in_use t.used) (zero-add i) ∙ free))

      there : (k : ℕ) → (k ≡ i → ⊥) → k < length (set t.places i x) → hit (with_place t.used i) q (0 + k) (get_or (set t.places i x) k d) ≡ hit t.used q (0 + k) (get_or t.places k d)
      there k ne h =
          let away : eqb i (0 + k) ≡ false = ne_eqb i (0 + k) (λ (e : i ≡ 0 + k). ne (sym (e ∙ zero-add k))) in
          ap₂ (λ (b : Bool) (y : A). b && q y) (taken_in t.used i (0 + k) ∙ ap (λ (b : Bool). b || in_use t.used (0 + k)) away) (get_or-set_other t.places i k x d ne)

-- ---- what holds of every two of a list
pub pairs_drop : {A : Type 0} (R : A → A → Type 0) (n : ℕ) (xs : List A) → Pairs R xs → Pairs R (drop n xs)
pairs_drop R zero xs p = p
pairs_drop R (suc n) [] p = p
pairs_drop R (suc n) (x ∷ xs) p = pairs_drop R n xs p.1

module _ (rule : Rule) where
  -- ---- step 4 for one command: it keeps places, LUIDs and GUIDs
  module _ (d : Entry) (s : Records) where
    four_is : change4 rule d s ≡ with_table s (act no_record (is_named (paired d)) (λ x. holds (changed rule d x)) (table_of s))
    unfolding change4 act
    four_is = go (its d s)
      where
        go : (w : Option ℕ) → change4_at rule d s w ≡ with_table s (act_at no_record (λ x. holds (changed rule d x)) (table_of s) w)
        go None = refl
        go (Some j) = refl

    four_finds : (c : Entry) → its c (change4 rule d s) ≡ its c s
    four_finds c =
        ap (its c) four_is
        ∙ act_finds no_record (is_named (paired c)) (is_named (paired d)) (changed rule d)
        (λ x. ap (λ (l : Luid). not (eqb l.0 0) && eqb l.0 c.fields.luid.0) (changed_same rule d x).luid) (table_of s)

    four_room : room_for (change4 rule d s) ≡ room_for s
    unfolding change4 room_for
    four_room = go (its d s) refl
      where
        go : (w : Option ℕ) → its d s ≡ w → room_for (change4_at rule d s w) ≡ room_for s
        go None e = refl
        go (Some j) e = ap (λ (u : ℕ). cond (leb 65535 s.guid) None (lowest_free u)) (taken_same s.used j (find_hit no_record (is_named (paired d)) (table_of s) j e).used)

  -- all of step 4
  step4_finds : (c : Entry) (ds : List Entry) (s : Records) → its c (step4 rule ds s) ≡ its c s
  unfolding in_order
  step4_finds c [] s = refl
  step4_finds c (d ∷ ds) s = step4_finds c ds (change4 rule d s) ∙ four_finds d s c

  step4_room : (ds : List Entry) (s : Records) → room_for (step4 rule ds s) ≡ room_for s
  unfolding in_order
  step4_room [] s = refl
  step4_room (d ∷ ds) s = step4_room ds (change4 rule d s) ∙ four_room d s

  -- ---- step 5 for a command of a new LUID c, and step 4 for a command of another LUID d: either may come first
  abbrev records_of : ℕ → List Record → ℕ → Records
  records_of used places guid = record { used = used; places = places; guid = guid }

  module _ (c : Entry) (s : Records) (new : its c s ≡ None) (d : Entry) (other : OtherLuid c d) where
    -- the new record is not d's
    not_its : is_named (paired d) (made c s) ≡ false
    not_its = go (eqb c.fields.luid.0 0) refl
      where
        go : (b : Bool) → eqb c.fields.luid.0 0 ≡ b → (not b && eqb c.fields.luid.0 d.fields.luid.0) ≡ false
        go true e = refl
        go false e = ne_eqb c.fields.luid.0 d.fields.luid.0 (other (eqb-false c.fields.luid.0 0 e))

    -- it takes a free place, and d's record stands in another
    module _ (i : ℕ) (e : room_for s ≡ Some i) where
      made_finds : its d (with_made c s i) ≡ its d s
      made_finds = find_beside no_record (is_named (paired d)) (table_of s) i (made c s) (room_at s i e).free not_its

      module _ (j : ℕ) (found : its d s ≡ Some j) where
        used : in_use s.used j ≡ true
        used = (find_hit no_record (is_named (paired d)) (table_of s) j found).used

        elsewhere : j ≡ i → ⊥
        elsewhere same = false≢true (sym (room_at s i e).free ∙ ap (in_use s.used) (sym same) ∙ used)

        made_keeps : get_or (with_made c s i).places j no_record ≡ get_or s.places j no_record
        made_keeps = get_or-set_other s.places i j (made c s) no_record elsewhere

        made_changed : change_at rule d (with_made c s i) (Some j) ≡ with_made c (change_at rule d s (Some j)) i
        made_changed =
            let y = changed rule d (get_or s.places j no_record) in
            let both : in_use (with_place s.used i) j ≡ true = taken_in s.used i j ∙ ap (λ (b : Bool). eqb i j || b) used ∙ or-true (eqb i j) in
            ap₂ (λ (u : ℕ) (l : List Record). records_of u l (s.guid + 1))
            (taken_same (with_place s.used i) j both ∙ ap (λ (u : ℕ). with_place u i) (sym (taken_same s.used j used)))
            (ap (λ (x : Record). set (set s.places i (made c s)) j (changed rule d x)) made_keeps ∙ set_comm s.places i j (made c s) y (λ same. elsewhere (sym same)))

      made_moved : (w : Option ℕ) → its d s ≡ w → change4_at rule d (with_made c s i) w ≡ with_made c (change4_at rule d s w) i
      made_moved None found = refl
      made_moved (Some j) found = made_changed j found

    five_makes : change5 c s ≡ make_at c s (room_for s)
    unfolding change5
    five_makes = ap (change5_at c s) new

    five_finds : its d (change5 c s) ≡ its d s
    five_finds = ap (its d) five_makes ∙ go (room_for s) refl
      where
        go : (r : Option ℕ) → room_for s ≡ r → its d (make_at c s r) ≡ its d s
        go None e = refl
        go (Some i) e = made_finds i e

    five_keeps : (j : ℕ) → its d s ≡ Some j → get_or (change5 c s).places j no_record ≡ get_or s.places j no_record
    five_keeps j found = ap (λ (t : Records). get_or t.places j no_record) five_makes ∙ go (room_for s) refl
      where
        go : (r : Option ℕ) → room_for s ≡ r → get_or (make_at c s r).places j no_record ≡ get_or s.places j no_record
        go None e = refl
        go (Some i) e = made_keeps i e j found

    either_first : change4 rule d (change5 c s) ≡ change5 c (change4 rule d s)
    unfolding change4 change5
    either_first = ap (change4 rule d) five_makes ∙ go (room_for s) refl ∙ sym later
      where
        go : (r : Option ℕ) → room_for s ≡ r → change4 rule d (make_at c s r) ≡ make_at c (change4 rule d s) r
        go None e = refl
        go (Some i) e = ap (change4_at rule d (with_made c s i)) (made_finds i e) ∙ made_moved i e (its d s) refl

        later : change5 c (change4 rule d s) ≡ make_at c (change4 rule d s) (room_for s)
        later = ap (change5_at c (change4 rule d s)) (four_finds d s c ∙ new) ∙ ap (make_at c (change4 rule d s)) (four_room d s)

  five_later : (c : Entry) (ds : List Entry) (s : Records) → its c s ≡ None → Every (OtherLuid c) ds → step4 rule ds (change5 c s) ≡ change5 c (step4 rule ds s)
  unfolding in_order
  five_later c [] s new others = refl
  five_later c (d ∷ ds) s new others = ap (step4 rule ds) (either_first c s new d others.0) ∙ five_later c ds (change4 rule d s) (four_finds d s c ∙ new) others.1

  -- ---- one command of the pass is step 4 or step 5 of it
  module _ (c : Entry) (s : Records) where
    of_new : its c s ≡ None → (change rule c s ≡ change5 c s) × (change4 rule c s ≡ s)
    unfolding change change4 change5
    of_new e = (ap (change_at rule c s) e ∙ sym (ap (change5_at c s) e), ap (change4_at rule c s) e)

    of_paired : (i : ℕ) → its c s ≡ Some i → (change rule c s ≡ change4 rule c s) × (change5 c s ≡ s)
    unfolding change change4 change5
    of_paired i e = (ap (change_at rule c s) e ∙ sym (ap (change4_at rule c s) e), ap (change5_at c s) e)

  parted : (c : Entry) (s : Records) (ds : List Entry) → Every (OtherLuid c) ds → step4 rule ds (change rule c s) ≡ change5 c (step4 rule ds (change4 rule c s))
  parted c s ds others = go (its c s) refl
    where
      go : (w : Option ℕ) → its c s ≡ w → step4 rule ds (change rule c s) ≡ change5 c (step4 rule ds (change4 rule c s))
      go None e =
          ap (step4 rule ds) (of_new c s e).0 ∙ five_later c ds s e others ∙ ap (λ (t : Records). change5 c (step4 rule ds t)) (sym (of_new c s e).1)
      go (Some i) e =
          ap (step4 rule ds) (of_paired c s i e).0
          ∙ sym (of_paired c (step4 rule ds (change4 rule c s)) i (step4_finds c ds (change4 rule c s) ∙ four_finds c s c ∙ e)).1

  -- ---- the one pass is step 4 and then step 5: the records
  pub one_pass : (cs : List Entry) (s : Records) → Pairs OtherLuid cs → in_order (change rule) cs s ≡ step5 cs (step4 rule cs s)
  unfolding in_order
  one_pass [] s p = refl
  one_pass (c ∷ cs) s p = one_pass cs (change rule c s) p.1 ∙ ap (step5 cs) (parted c s cs p.0)

  -- a record of another LUID changes no code of step 4
  codes_beside : (ref : ℕ) (c : Entry) (ds : List Entry) (s t : Records) → its c s ≡ None → Every (OtherLuid c) ds → statuses45 rule ref ds (change5 c s) t ≡ statuses45 rule ref ds s t
  unfolding statuses45
  codes_beside ref c [] s t new others = refl
  codes_beside ref c (d ∷ ds) s t new others =
      ap₂ (λ (code : ℕ) (l : List Entry). empty_status ref (name_of d.fields.kind) code ∷ l)
      (ap (code_at rule d (change5 c s) t) (five_finds c s new d others.0) ∙ go (its d s) refl)
      (ap (λ (u : Records). statuses45 rule (suc ref) ds u (change5 d t)) (either_first c s new d others.0)
      ∙ codes_beside (suc ref) c ds (change4 rule d s) (change5 d t) (four_finds d s c ∙ new) others.1)
    where
      go : (w : Option ℕ) → its d s ≡ w → code_at rule d (change5 c s) t w ≡ code_at rule d s t w
      go None e = refl
      go (Some j) e = ap (changed_code rule d) (five_keeps c s new d others.0 j e)

  -- and the statuses
  pub one_pass_told : (ref : ℕ) (cs : List Entry) (s : Records) → Pairs OtherLuid cs → replies (change_status rule) (change rule) ref cs s ≡ statuses45 rule ref cs s (step4 rule cs s)
  unfolding replies statuses45 change_status in_order
  one_pass_told ref [] s p = refl
  one_pass_told ref (c ∷ cs) s p =
      ap₂ (λ (code : ℕ) (l : List Entry). empty_status ref (name_of c.fields.kind) code ∷ l)
      (code (its c s))
      (one_pass_told (suc ref) cs (change rule c s) p.1 ∙ ap (statuses45 rule (suc ref) cs (change rule c s)) (parted c s cs p.0) ∙ rest (its c s) refl)
    where
      t : Records
      t = change5 c (step4 rule cs (change4 rule c s))

      code : (w : Option ℕ) → change_code_at rule c s w ≡ code_at rule c s (step4 rule cs (change4 rule c s)) w
      code None = ap make_code (sym (step4_room cs (change4 rule c s) ∙ four_room c s))
      code (Some i) = refl

      rest : (w : Option ℕ) → its c s ≡ w → statuses45 rule (suc ref) cs (change rule c s) t ≡ statuses45 rule (suc ref) cs (change4 rule c s) t
      rest None e =
          ap (λ (u : Records). statuses45 rule (suc ref) cs u t) (of_new c s e).0
          ∙ codes_beside (suc ref) c cs s t e p.0
          ∙ ap (λ (u : Records). statuses45 rule (suc ref) cs u t) (sym (of_new c s e).1)
      rest (Some i) e = ap (λ (u : Records). statuses45 rule (suc ref) cs u t) (of_paired c s i e).0

  -- ---- so the server's merge goes by 01's steps 2, 3, 4, 5, for commands among which no LUID stands twice
  module _ (m : Mode) (cs : List Entry) (once : luids_once cs ≡ true) (s : Records) where
    apart : Pairs OtherLuid (changes_of cs)
    apart = pairs_drop OtherLuid (deletes_in cs) cs (luids_differ cs once)

    pub merged_in_steps : merged rule m cs s ≡ step5 (changes_of cs) (step4 rule (changes_of cs) (up_to3 m cs s))
    unfolding merged
    merged_in_steps = one_pass (changes_of cs) (up_to3 m cs s) apart

    pub statuses_in_steps : (ref : ℕ)
        → statuses_for rule m ref cs s
        ≡ replies delete_status delete ref (deletes_of cs) s ++ statuses45 rule (ref + deletes_in cs) (changes_of cs) (up_to3 m cs s) (step4 rule (changes_of cs) (up_to3 m cs s))
    unfolding statuses_for
    statuses_in_steps ref = ap (λ (l : List Entry). replies delete_status delete ref (deletes_of cs) s ++ l) (one_pass_told (ref + deletes_in cs) (changes_of cs) (up_to3 m cs s) apart)
