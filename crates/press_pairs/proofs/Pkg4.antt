-- The press takes the server's own Pkg 4, in either mode and whatever was answered: each status that ends a mark is of a card that the server knows, so the invariant stays. Assumes nothing.
use Prim.Native.Nat.{ℕ, suc, ◌+◌, ◌≤◌}
use mathlib.Core.Path.{◌≡◌, sym, ◌∙◌, subst, ap}
use mathlib.Core.Bool.{true, false, false≢true}
use mathlib.Core.List.{List, [], ◌∷◌, ◌++◌}
use native.Mathlib.Omega.{arith}
use lib.ListN.{length, take-append-drop}
use borrow.Author.Tests.{eqb-false}
use Rattle.places.specs.Act.{in_order, with_answers, replies}
use Rattle.places.proofs.Every.{Every, every, every2, every_append, every_of}
use Rattle.places.proofs.Turns.{replies_length}
use Rattle.places.proofs.WithAnswers.{with_append, with_first}
use Rattle.lists.specs.declared.Entry.{Entry}
use Rattle.terms.specs.declared.Mode.{Mode}
use Rattle.terms.specs.declared.Mode.TheVariants.{Normal, Recovery}
use Rattle.cards.specs.declared.Card.{Card}
use Rattle.cards.specs.declared.Cards.{Cards}
use Rattle.cards.specs.Press as press
use Rattle.records.specs.declared.Records.{Records}
use Rattle.records.specs.declared.Rule.{Rule}
use Rattle.record_moves.specs.Named.{Safe, place_of}
use Rattle.card_moves.specs.Moves.{without_reports}
use Rattle.server_deletes.specs.Step2.{delete, delete_status, deletes_in, deletes_of}
use Rattle.server_changes.specs.Step4.{paired, change, change_code_at, change_status}
use Rattle.server_changes.proofs.SafeChanges.{change_safe}
use Rattle.server_merge.specs.Merge.{merged, changes_of, up_to3, statuses_for}
use Rattle.press_tells.specs.Tell as tell
use Rattle.press_ends.specs.End.{keeps_mark, end_mark, ends, marks_end}
use Rattle.own_packages.proofs.Own.{statuses4, press_at5, commands4, heard_all, merged_of, server4, unmarked}
use Rattle.pairs.proofs.Invariant.{Invariant}
use Rattle.pairs.proofs.Once.{luid_least, one_entry}
use Rattle.server_pairs.proofs.Pkg3.{pkg3_told, own_changes, deletes_are, safe_merged}
use Rattle.server_pairs.proofs.AfterPkg3.{done_own, changes_keep, done_offered, merged_there, safe3, server4_unasked}
use Rattle.server_pairs.proofs.Merge.{IsDelete, IsChange}
use Rattle.server_pairs.proofs.Settled.{Done}
use Rattle.press_pairs.proofs.Commands.{Unreported, takings_inv, Asked}
use Rattle.press_pairs.proofs.Ends.{Bared, EndsAt, ends_bared, unmarked_bared, Knows}
use Rattle.press_pairs.proofs.Bared.{bared, bare_of, may_end}
use Rattle.press_pairs.proofs.Offered.{all_asked, all_apart}

-- each status that ends a mark is of a card that the server knows
abbrev Ending : Records → Cards → List (Entry × Entry) → Type 0
Ending s c ps = Every (λ p. keeps_mark p.1.fields.code ≡ false → EndsAt s (without_reports c) p.0) ps

marks_bared : (m : Mode) (cs xs : List Entry) (c : Cards) (s : Records) → Bared (without_reports c) s → Ending s c (with_answers cs xs) → Bared (marks_end m cs xs c) s
unfolding marks_end ends
marks_bared Normal cs xs c s h k = ends_bared s (with_answers cs xs) (without_reports c) k h
marks_bared Recovery cs xs c s h k = unmarked_bared (in_order end_mark (with_answers cs xs) (without_reports c)) s (ends_bared s (with_answers cs xs) (without_reports c) k h)

module _ (c : Cards) (f : press.WellFormed c) where
  -- ---- a Delete is of no card
  delete_ends : (s : Records) (d : Entry) → IsDelete c d → EndsAt s (without_reports c) d
  delete_ends s d w =
      bare_of c f.luids.long (λ i z. z.luid.0 ≡ d.fields.luid.0 → press.is_live z.mark ≡ true → Knows s z)
      (λ i x e l live.
      let same : w.1 ≡ x = one_entry c f w.0 i w.1 x w.2 e (sym w.4 ∙ sym l) in
      absurd (false≢true (sym w.3 ∙ subst (λ (z : Card). press.is_live z.mark ≡ true) (sym same) live)))

  -- ---- a change that is not answered 420 is known then, and to the end
  abbrev DoneIf : Records → Entry × Entry → Type 0
  DoneIf s p = keeps_mark p.1.fields.code ≡ false → Done s p.0

  changes_known : (rule : Rule) (n : ℕ) (ds : List Entry) → Every (IsChange c) ds → (s : Records) → Safe s → Every (DoneIf (in_order (change rule) ds s)) (with_answers ds (replies (change_status rule) (change rule) n ds s))
  unfolding in_order replies with_answers change_status
  changes_known rule n [] k s h = tt
  changes_known rule n (d ∷ ds) k s h =
      let safe = change_safe rule d k.0.fine s h in
      let w = k.0 in
      let low : 1 ≤ d.fields.luid.0 = omega (arith, w.luid, luid_least c f w.place w.card w.here) in
      ((λ q. changes_keep rule c ds k.1 (change rule d s) safe d (done_own rule d s h low (eqb-false (change_code_at rule d s (place_of s (paired d))) 420 q))), changes_known rule (suc n) ds k.1 (change rule d s) safe)

-- ---- all statuses of Pkg 4
module _ (rule : Rule) (m : Mode) (c : Cards) (s : Records) (h : Invariant c s) where
  abbrev cs : List Entry
  cs = tell.commands m c

  abbrev s1 : Records
  s1 = heard_all c s

  abbrev EndsIf : Entry × Entry → Type 0
  EndsIf p = keeps_mark p.1.fields.code ≡ false → EndsAt (server4 rule m c s) (without_reports c) p.0

  ending : Ending (server4 rule m c s) c (with_answers cs (statuses4 rule m c s))
  unfolding statuses_for merged
  ending =
      let n = 4 + length (tell.reports c) in
      let ds = deletes_of cs in
      let us = changes_of cs in
      let xs = replies delete_status delete n ds s1 in
      let ys = replies (change_status rule) (change rule) (n + deletes_in cs) us (up_to3 m cs s1) in
      let split : with_answers cs (statuses4 rule m c s) ≡ with_answers ds xs ++ with_answers us ys = ap (λ (l : List Entry). with_answers l (xs ++ ys)) (sym (take-append-drop (deletes_in cs) cs)) ∙ with_append ds us xs ys (sym (replies_length delete_status delete n ds s1)) in
      let known = changes_known c h.formed rule (n + deletes_in cs) us (own_changes c h.formed m) (up_to3 m cs s1) (safe3 rule m c s h) in
      let changes = with_first (IsChange c) us ys (own_changes c h.formed m) in
      subst (Every EndsIf) (sym split)
      (every_append EndsIf (with_answers us ys) (with_answers ds xs)
      (every (λ p. IsDelete c p.0) EndsIf (λ p k q. delete_ends c h.formed (server4 rule m c s) p.0 k) (with_answers ds xs) (with_first (IsDelete c) ds xs (deletes_are c h.formed m)))
      (every2 (λ p. IsChange c p.0) (DoneIf c h.formed (merged_of rule m c s)) EndsIf
      (λ p k g q. may_end c h.formed (server4 rule m c s) p.0 k (done_offered (merged_of rule m c s) (safe_merged rule m c s h) p.0 (g q))) (with_answers us ys) changes known))

  -- once all marks have ended there are no reports; what is offered is of records that the press may take
  pub unmarked_own : Bared (unmarked rule m c s) (server4 rule m c s)
  unmarked_own = marks_bared m cs (statuses4 rule m c s) c (server4 rule m c s) (bared m c (server4 rule m c s) (pkg3_told rule m c s h) (server4_unasked rule m c s h)) ending

  pub asked_own : Every (Asked (server4 rule m c s)) (commands4 rule m c s)
  asked_own = all_asked (merged_of rule m c s) (safe_merged rule m c s h) (merged_there rule m c s h)

  pub inv_5 : Invariant (press_at5 rule m c s) (server4 rule m c s)
  inv_5 =
      takings_inv (commands4 rule m c s) (server4 rule m c s) asked_own (all_apart (merged_of rule m c s) (safe_merged rule m c s h) (merged_there rule m c s h)) (unmarked rule m c s)
      (every_of (Unreported (unmarked rule m c s)) (λ o i x e g q. false≢true (sym (unmarked_own.bare i x e) ∙ g.on)) (commands4 rule m c s)) unmarked_own.inv
