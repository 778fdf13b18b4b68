-- Every card that the server replaces is there when the press takes Pkg 4, whatever was answered: 404 is never answered. Assumes nothing.
use Prim.Native.Nat.{◌+◌}
use mathlib.Core.Path.{◌≡◌, refl, subst}
use mathlib.Core.Bool.{Bool, true, false}
use mathlib.Core.List.{List}
use lib.ListN.{length}
use Rattle.places.proofs.Choice.{never}
use Rattle.places.specs.Act.{with_answers}
use Rattle.places.proofs.Turns.{replies_length}
use Rattle.places.proofs.Every.{Every, every}
use Rattle.places.proofs.WithAnswers.{of_answers}
use Rattle.lists.specs.declared.Entry.{Entry}
use Rattle.terms.specs.declared.Mode.{Mode}
use Rattle.cards.specs.declared.Cards.{Cards}
use Rattle.cards.specs.Press.{is_live}
use Rattle.records.specs.declared.Records.{Records}
use Rattle.records.specs.declared.Rule.{Rule}
use Rattle.statuses.specs.declared.Name.{Name}
use Rattle.statuses.specs.Status.{name_of}
use Rattle.record_moves.proofs.HasLaws.{has_paired, has_same}
use Rattle.press_replies.specs.Reply.{answering}
use Rattle.press_takes.specs.Take.{after_command}
use Rattle.own_packages.proofs.Own.{statuses4, commands4, unmarked, answers5, server4}
use Rattle.pairs.proofs.Invariant.{Invariant}
use Rattle.press_pairs.proofs.Commands.{AskedBy, Asked}
use Rattle.press_pairs.proofs.Pkg4.{asked_own, unmarked_own}
use Rattle.press_pairs.proofs.Granted.{Present, Granted, Replacing, never_404, all_granted}
use Rattle.press_pairs.proofs.Pkg5 as five

module _ (rule : Rule) (m : Mode) (c : Cards) (s : Records) (h : Invariant c s) where
  abbrev t : Records
  t = server4 rule m c s

  abbrev c4 : Cards
  c4 = unmarked rule m c s

  abbrev cs : List Entry
  cs = commands4 rule m c s

  -- the record that is offered has an entry, and that is no delete mark: of those the server has lost the LUID
  present : Every (Replacing (Present c4)) cs
  present = every (Asked t) (Replacing (Present c4)) (λ o k q. there o (subst (λ (n : Name). AskedBy n t o) q k.of)) cs (asked_own rule m c s h)
    where
      live : (v : Bool) → (v ≡ false → ⊥) → v ≡ true
      live true ne = refl
      live false ne = absurd (ne refl)

      there : (o : Entry) → AskedBy Name.Replace t o → Present c4 o.fields.luid.0
      there o k =
          let b = unmarked_own rule m c s h in
          let y = k.record' in
          let w = b.inv.owned k.place y k.here (has_paired o.fields.luid y k.is.1) (let q = k.is.0.offered' in λ d. never (cc)) in
          let dead : is_live w.card.mark ≡ false → ⊥ = λ e. b.lost w.place w.card w.here e k.place y k.here w.is in
          record { place = w.place; card = w.card; here = w.here; luid = has_same w.card.luid o.fields.luid y w.is k.is.1; live = live (is_live w.card.mark) dead }

  -- each command is answered 200, a Delete or 211, a Replace or Add or 420
  pub all_answered : Every Granted (with_answers cs (answers5 rule m c s))
  all_answered = all_granted cs (five.texts rule m c s h) (five.befores rule m c s h) (4 + length (statuses4 rule m c s)) c4 (unmarked_own rule m c s h).inv.formed present

  pub none_missing : Every (λ a. a.fields.code ≡ 404 → ⊥) (answers5 rule m c s)
  none_missing =
      of_answers (λ a. a.fields.code ≡ 404 → ⊥) cs (answers5 rule m c s) (replies_length answering after_command (4 + length (statuses4 rule m c s)) cs c4)
      (every Granted (λ p. p.1.fields.code ≡ 404 → ⊥) (λ p g. never_404 (name_of p.0.fields.kind) p.1 g) (with_answers cs (answers5 rule m c s)) all_answered)
