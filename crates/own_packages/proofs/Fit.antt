-- The statuses that each side makes fit the commands that they answer: one for each in order, with its references, its name and an allowed code. Assumes nothing.
use Rattle.std.proofs.Common.{Option, Some, None}
use Prim.Native.Nat.{ℕ, suc, ◌+◌}
use mathlib.Core.Path.{◌≡◌, refl, sym, ap₂, ◌∙◌, subst}
use mathlib.Core.Bool.{Bool, true, false, cond, ◌&&◌, false≢true}
use mathlib.Core.List.{List, [], ◌∷◌, ◌++◌, map}
use native.Mathlib.Nat.{add-zero}
use native.Mathlib.Omega.{arith}
use lib.Dec.{eqb}
use lib.ListN.{length, get_or, drop, take, length-take, take-append-drop}
use borrow.Author.Tests.{eq-eqb}
use Rattle.places.proofs.Choice.{and_first, and_second, and_both}
use Rattle.places.specs.Act.{replies}
use Rattle.places.proofs.Every.{Every}
use Rattle.lists.specs.declared.Entry.{Entry}
use Rattle.terms.specs.declared.Mode.{Mode}
use Rattle.cards.specs.declared.Cards.{Cards}
use Rattle.cards.specs.Press.{find_card}
use Rattle.records.specs.declared.Mark.{Mark}
use Rattle.records.specs.declared.Records.{Records}
use Rattle.records.specs.declared.Rule.{Rule}
use Rattle.records.specs.Server.{no_record}
use Rattle.press_edits.specs.Edit as press
use Rattle.server_edits.specs.Edit.{room_for}
use Rattle.statuses.specs.declared.Name.{Name}
use Rattle.statuses.specs.declared.Side.{Side}
use Rattle.statuses.specs.Code.{codes_for, is_one_of}
use Rattle.statuses.specs.Status.{name_of, cmd_of, empty_status, replaced, item_for, answers, item_due, fits, all_fit}
use Rattle.ranks.specs.declared.Row.TheVariants.{PressCommands}
use Rattle.ranks.specs.Rank.{name_in, ranked}
use Rattle.ranks.proofs.RankLaws as rank
use Rattle.record_moves.specs.Named.{place_of}
use Rattle.server_reports.specs.Step1.{is_late}
use Rattle.server_deletes.specs.Step2.{lost_code, deleted, delete, delete_code_at, delete_status, is_delete, deletes_in, deletes_of}
use Rattle.server_deletes.proofs.StepLaws.{deletes_most}
use Rattle.server_changes.proofs.RuleLaws.{newer_code_all}
use Rattle.server_changes.specs.Step4.{newer_code, make_code, paired, change, change_code_at, change_status}
use Rattle.server_merge.specs.Merge.{changes_of, up_to3, statuses_for}
use Rattle.server_offers.specs.Offer.{command_of, command}
use Rattle.press_replies.specs.Reply.{no_fingerprint, delete_answer, replace_answer, add_answer, answering_by, answering}
use Rattle.press_takes.specs.Take.{after_command}

-- ---- two lists of statuses after one another
fit_append : (s : Side) (ref : ℕ) (cs xs ds ys : List Entry) → all_fit s ref cs xs ≡ true → all_fit s (ref + length cs) ds ys ≡ true → all_fit s ref (cs ++ ds) (xs ++ ys) ≡ true
unfolding all_fit
fit_append s ref [] [] ds ys a b = rw add-zero at b
fit_append s ref [] (x ∷ xs) ds ys a b = absurd (false≢true a)
fit_append s ref (c ∷ cs) [] ds ys a b = absurd (false≢true a)
fit_append s ref (c ∷ cs) (x ∷ xs) ds ys a b =
    let next : ref + suc (length cs) ≡ suc ref + length cs = omega arith in
    and_both (fits s ref c x) (all_fit s (suc ref) (cs ++ ds) (xs ++ ys)) (and_first (fits s ref c x) (all_fit s (suc ref) cs xs) a)
    (fit_append s (suc ref) cs xs ds ys (and_second (fits s ref c x) (all_fit s (suc ref) cs xs) a) (subst (λ (n : ℕ). all_fit s n ds ys ≡ true) next b))

-- ---- a code that no command may be answered with
pub fit_codes : (s : Side) (k : ℕ) → ((m : Name) → is_one_of (codes_for s m) k ≡ false) → (ref : ℕ) (cs xs : List Entry) → all_fit s ref cs xs ≡ true → Every (λ x. x.fields.code ≡ k → ⊥) xs
unfolding all_fit
fit_codes s k none ref [] [] e = tt
fit_codes s k none ref [] (x ∷ xs) e = absurd (false≢true e)
fit_codes s k none ref (c ∷ cs) [] e = absurd (false≢true e)
fit_codes s k none ref (c ∷ cs) (x ∷ xs) e =
    let here = and_first (fits s ref c x) (all_fit s (suc ref) cs xs) e in
    let named = and_first (answers s ref c x) (item_due s c x) here in
    let allowed = and_second (eqb x.fields.msgref 2 && eqb x.fields.cmdref ref && eqb x.fields.cmd (cmd_of (name_in c))) (is_one_of (codes_for s (name_in c)) x.fields.code) named in
    ((λ q. false≢true (sym (none (name_in c)) ∙ subst (λ (n : ℕ). is_one_of (codes_for s (name_in c)) n ≡ true) q allowed)), fit_codes s k none (suc ref) cs xs (and_second (fits s ref c x) (all_fit s (suc ref) cs xs) e))

-- ---- what a status says of a command of the press by its name
abbrev says_of : Name → ℕ → Entry → Bool
says_of m ref x = eqb x.fields.msgref 2 && eqb x.fields.cmdref ref && eqb x.fields.cmd (cmd_of m) && is_one_of (codes_for Side.Press m) x.fields.code && true

empty_says : (m : Name) (ref code : ℕ) → is_one_of (codes_for Side.Press m) code ≡ true → says_of m ref (empty_status ref m code) ≡ true
empty_says m ref code e = rw (eq-eqb ref ref refl, eq-eqb (cmd_of m) (cmd_of m) refl, e)

-- ---- a Delete of the press
delete_code : (s : Records) (r : Option ℕ) → is_one_of (codes_for Side.Press Name.Delete) (delete_code_at s r) ≡ true
unfolding is_one_of
delete_code s None = refl
delete_code s (Some i) = go (get_or s.places i no_record).pairing.mark
  where
    go : (m : Mark) → is_one_of (codes_for Side.Press Name.Delete) (lost_code m) ≡ true
    go Mark.Clean = refl
    go Mark.Dirty = refl
    go Mark.Offered = refl
    go Mark.Deleted = refl

delete_fits : (n : ℕ) (c : Entry) (s : Records) → rank.is_delete (name_in c) ≡ true → fits Side.Press n c (delete_status n c s) ≡ true
unfolding delete_status
delete_fits n c s q = go (name_in c) q
  where
    go : (m : Name) → rank.is_delete m ≡ true → says_of m n (empty_status n Name.Delete (delete_code_at s (place_of s (deleted c)))) ≡ true
    go Name.Delete e = empty_says Name.Delete n (delete_code_at s (place_of s (deleted c))) (delete_code s (place_of s (deleted c)))
    go Name.Replace e = absurd (false≢true e)
    go Name.Add e = absurd (false≢true e)

-- ---- a Replace or Add of the press
change_code : (rule : Rule) (c : Entry) (s : Records) (r : Option ℕ) → is_one_of (codes_for Side.Press Name.Replace) (change_code_at rule c s r) ≡ true
unfolding is_one_of
change_code rule c s None = go (room_for s)
  where
    go : (r : Option ℕ) → is_one_of (codes_for Side.Press Name.Replace) (make_code r) ≡ true
    go None = refl
    go (Some i) = refl
change_code rule c s (Some i) = go (is_late c (get_or s.places i no_record)) (get_or s.places i no_record).pairing.mark
  where
    go : (b : Bool) (m : Mark) → is_one_of (codes_for Side.Press Name.Replace) (cond b 200 (newer_code rule m)) ≡ true
    go true m = refl
    go false m = newer_code_all rule (λ n. is_one_of (codes_for Side.Press Name.Replace) n ≡ true) refl refl refl m

change_fits : (rule : Rule) (n : ℕ) (c : Entry) (s : Records) → rank.is_delete (name_in c) ≡ false → fits Side.Press n c (change_status rule n c s) ≡ true
unfolding change_status
change_fits rule n c s q = go (name_in c) q
  where
    go : (m : Name) → rank.is_delete m ≡ false → says_of m n (empty_status n m (change_code_at rule c s (place_of s (paired c)))) ≡ true
    go Name.Delete e = absurd (false≢true (sym e))
    go Name.Replace e = empty_says Name.Replace n (change_code_at rule c s (place_of s (paired c))) (change_code rule c s (place_of s (paired c)))
    go Name.Add e = empty_says Name.Add n (change_code_at rule c s (place_of s (paired c))) (change_code rule c s (place_of s (paired c)))

-- ---- the statuses of Pkg 4
replies_fit : (r : ℕ → Entry → Records → Entry) (f : Entry → Records → Records) (Q : Entry → Type 0) → ((n : ℕ) (c : Entry) (s : Records) → Q c → fits Side.Press n c (r n c s) ≡ true)
    → (n : ℕ) (cs : List Entry) (s : Records) → Every Q cs → all_fit Side.Press n cs (replies r f n cs s) ≡ true
unfolding all_fit replies
replies_fit r f Q one n [] s q = refl
replies_fit r f Q one n (c ∷ cs) s q = and_both (fits Side.Press n c (r n c s)) (all_fit Side.Press (suc n) cs (replies r f (suc n) cs (f c s))) (one n c s q.0) (replies_fit r f Q one (suc n) cs (f c s) q.1)

-- (both count the Deletes in front)
deletes_same : (cs : List Entry) → rank.deletes cs ≡ deletes_in cs
unfolding deletes_in rank.deletes
deletes_same [] = refl
deletes_same (c ∷ cs) = ap₂ (λ (b : Bool) (n : ℕ). cond b (suc n) 0) (go (name_in c)) (deletes_same cs)
  where
    go : (m : Name) → rank.is_delete m ≡ is_delete m
    go Name.Delete = refl
    go Name.Replace = refl
    go Name.Add = refl

pub statuses4_fit : (rule : Rule) (m : Mode) (ref : ℕ) (cs : List Entry) (s : Records) → ranked PressCommands cs ≡ true → all_fit Side.Press ref cs (statuses_for rule m ref cs s) ≡ true
unfolding statuses_for
statuses4_fit rule m ref cs s e =
    let n = deletes_in cs in
    let front = subst (λ (k : ℕ). rank.DeletesAre true (take k cs)) (deletes_same cs) (rank.deletes_front cs) in
    let rest = subst (λ (k : ℕ). rank.DeletesAre false (drop k cs)) (deletes_same cs) (rank.deletes_rest cs e) in
    let long : length (deletes_of cs) ≡ n = omega (arith, length-take n cs, deletes_most cs) in
    let xs = replies delete_status delete ref (deletes_of cs) s in
    let ys = replies (change_status rule) (change rule) (ref + n) (changes_of cs) (up_to3 m cs s) in
    subst (λ (l : List Entry). all_fit Side.Press ref l (xs ++ ys) ≡ true) (take-append-drop n cs)
    (fit_append Side.Press ref (deletes_of cs) xs (changes_of cs) ys (replies_fit delete_status delete (λ c. rank.is_delete (name_in c) ≡ true) delete_fits ref (deletes_of cs) s front)
    (subst (λ (k : ℕ). all_fit Side.Press (ref + k) (changes_of cs) ys ≡ true) (sym long)
    (replies_fit (change_status rule) (change rule) (λ c. rank.is_delete (name_in c) ≡ false) (change_fits rule) (ref + n) (changes_of cs) (up_to3 m cs s) rest)))

-- ---- what an answer says of an offer of the server by its name
abbrev answers_to : Name → ℕ → Entry → Entry → Bool
answers_to m ref o x =
    eqb x.fields.msgref 2 && eqb x.fields.cmdref ref && eqb x.fields.cmd (cmd_of m) && is_one_of (codes_for Side.Server m) x.fields.code
    && (eqb x.fields.kind (item_for m x.fields.code) && cond (eqb x.fields.kind 11) (eqb x.fields.guid.0 o.fields.guid.0) true)

module _ (n : ℕ) (o : Entry) (c : Cards) where
  delete_answers : (r : Option ℕ) → answers_to Name.Delete n o (delete_answer n c r) ≡ true
  unfolding is_one_of
  delete_answers None = rw (eq-eqb n n refl)
  delete_answers (Some i) = rw (eq-eqb n n refl)

  replace_answers : (q : Entry) (r : Option ℕ) → answers_to Name.Replace n o (replace_answer n q c r) ≡ true
  unfolding is_one_of
  replace_answers q None = rw (eq-eqb n n refl)
  replace_answers q (Some i) = go (no_fingerprint c)
    where
      go : (b : Bool) → answers_to Name.Replace n o (cond b (empty_status n Name.Replace 420) (replaced n q.fields.luid (c.fp + 1))) ≡ true
      go true = rw (eq-eqb n n refl)
      go false = rw (eq-eqb n n refl)

  add_answers : (r : Option ℕ) → answers_to Name.Add n o (add_answer n (command_of Name.Add o) c r) ≡ true
  unfolding is_one_of
  add_answers None = rw (eq-eqb n n refl)
  add_answers (Some i) = rw (eq-eqb n n refl, eq-eqb o.fields.guid.0 o.fields.guid.0 refl)

  answer_fits_lem : fits Side.Server n o (answering n (command o) c) ≡ true
  unfolding answering
  answer_fits_lem = go (name_of o.fields.kind)
    where
      go : (m : Name) → answers_to m n o (answering_by (name_of (command_of m o).fields.kind) n (command_of m o) c) ≡ true
      go Name.Delete = delete_answers (find_card c (command_of Name.Delete o).fields.luid)
      go Name.Replace = replace_answers (command_of Name.Replace o) (find_card c (command_of Name.Replace o).fields.luid)
      go Name.Add = add_answers (press.room_for c)

-- ---- the statuses of Pkg 5: the press takes the commands of the offers os
pub statuses5_fit : (n : ℕ) (os : List Entry) (c : Cards) → all_fit Side.Server n os (replies answering after_command n (map command os) c) ≡ true
unfolding all_fit replies
statuses5_fit n [] c = refl
statuses5_fit n (o ∷ os) c =
    and_both (fits Side.Server n o (answering n (command o) c)) (all_fit Side.Server (suc n) os (replies answering after_command (suc n) (map command os) (after_command (command o) c)))
    (answer_fits_lem n o c) (statuses5_fit (suc n) os (after_command (command o) c))
