-- The press's own number is fixed when it is fresh (02, 5): no edit and no package changes it, lawful or not. Assumes nothing.
use Rattle.std.proofs.Common.{Option, Some, None}
use Prim.Native.Nat.{ℕ}
use mathlib.Core.Path.{◌≡◌, refl}
use mathlib.Core.Bool.{Bool, true, false, cond}
use mathlib.Core.List.{List}
use Rattle.places.specs.Act.{act, with_answers}
use Rattle.places.proofs.KeptLaws.{order_keeps}
use Rattle.terms.specs.Check.{checked}
use Rattle.terms.specs.declared.Luid.{Luid}
use Rattle.terms.specs.declared.Mode.{Mode}
use Rattle.terms.specs.declared.Mode.TheVariants.{Normal, Recovery}
use Rattle.terms.proofs.CheckLaws.{of_either}
use Rattle.cards.specs.declared.Cards.{Cards}
use Rattle.cards.specs.declared.Press.{Press}
use Rattle.cards.specs.Press.{no_card}
use Rattle.lists.specs.declared.Entry.{Entry}
use Rattle.message.specs.declared.Content.{Content}
use Rattle.packages.specs.Package.{head6, answers_in, commands_in, refs_fit}
use Rattle.statuses.specs.declared.Name.{Name}
use Rattle.statuses.specs.declared.Name.TheVariants.{Delete, Replace, Add}
use Rattle.statuses.specs.Status.{name_of}
use Rattle.card_moves.specs.Moves.{table_of, with_table, is_entry, without_reports, without_delete_marks}
use Rattle.press_edits.specs.Edited.{Edited}
use Rattle.press_edits.specs.Edit.{press_add, press_edit, press_delete}
use Rattle.press_edits.proofs.Cases.{add_all, edit_all, delete_all}
use Rattle.press_tells.specs.Tell.{commands}
use Rattle.press_ends.specs.End.{keeps_mark, ended, end_mark, ends, marks_end}
use Rattle.press_replies.specs.Reply.{no_fingerprint, with_replaced, delete_at, replace_at, add_at, place_for, after_command_by, after_command}
use Rattle.press_takes.specs.Take.{taken_all}
use Rattle.press_judges.specs.Lawful.{lawful4}
use Rattle.press_rules.specs.Took.{Took}
use Rattle.press_rules.specs.Took.{refused}
use Rattle.press_rules.specs.Pkg2.{lawful2, mode_in, sends_pkg3, press_takes2}
use Rattle.press_rules.specs.Pkg4.{taken_from, sends_pkg5, press_takes4}
use Rattle.press_rules.specs.Pkg6.{closed, press_takes6}

module _ (n : ℕ) where
  abbrev Own : Cards → Type 0
  Own c = c.station ≡ n

  end_own : (p : Entry × Entry) (c : Cards) → Own c → Own (end_mark p c)
  unfolding end_mark
  end_own p c e = go (keeps_mark p.1.fields.code)
    where
      go : (b : Bool) → Own (cond b c (with_table c (act no_card (is_entry p.0.fields.luid) ended (table_of c))))
      go true = e
      go false = e

  marks_own : (m : Mode) (cs xs : List Entry) (c : Cards) → Own c → Own (marks_end m cs xs c)
  unfolding marks_end ends without_reports without_delete_marks
  marks_own Normal cs xs c e = order_keeps end_mark Own end_own (with_answers cs xs) (without_reports c) e
  marks_own Recovery cs xs c e = order_keeps end_mark Own end_own (with_answers cs xs) (without_reports c) e

  taking_own : (o : Entry) (c : Cards) → Own c → Own (after_command o c)
  unfolding after_command
  taking_own o c e = by_name (name_of o.fields.kind)
    where
      delete_own : (f : Option ℕ) → Own (delete_at c f)
      delete_own None = e
      delete_own (Some i) = e

      replace_own : (f : Option ℕ) → Own (replace_at o c f)
      replace_own None = e
      replace_own (Some i) = go (no_fingerprint c)
        where
          go : (b : Bool) → Own (cond b c (with_replaced o c i))
          go true = e
          go false = e

      add_own : (f : Option ℕ) → Own (add_at o c f)
      add_own None = e
      add_own (Some i) = e

      by_name : (m : Name) → Own (after_command_by m o c)
      by_name Delete = delete_own (place_for Delete o c)
      by_name Replace = replace_own (place_for Replace o c)
      by_name Add = add_own (place_for Add o c)

module _ (p : Press) where
  -- ---- edits
  abbrev OwnEdited : Edited → Type 0
  OwnEdited r = r.press.cards.station ≡ p.cards.station

  pub add_own : (s : List ℕ) → OwnEdited (press_add p s)
  add_own s = add_all p s OwnEdited (λ n. refl) (λ i ok e. refl)

  pub edit_own : (l : Luid) (s : List ℕ) → OwnEdited (press_edit p l s)
  edit_own l s = edit_all p l s OwnEdited (λ n. refl) (λ i e ok left. refl)

  pub delete_own : (l : Luid) → OwnEdited (press_delete p l)
  delete_own l = delete_all p l OwnEdited (λ n. refl) (λ i e. refl)

  -- ---- packages
  abbrev OwnTook : Took → Type 0
  OwnTook t = t.press.cards.station ≡ p.cards.station

  module _ (x : Content) where
    pub takes_2_own : OwnTook (press_takes2 p x)
    unfolding press_takes2
    takes_2_own = of_either (checked (lawful2 p x.head)) (refused p) (sends_pkg3 p (mode_in x.head)) OwnTook refl refl

    pub takes_4_own : (m : Mode) → OwnTook (press_takes4 m p x)
    unfolding press_takes4 taken_all
    takes_4_own m =
        let n = p.cards.station in
        of_either (checked (lawful4 m p x)) (refused p) (sends_pkg5 p x (taken_from m p.cards x)) OwnTook refl
        (order_keeps after_command (Own n) (taking_own n) (commands_in x) (marks_end m (commands m p.cards) (answers_in x) p.cards) (marks_own n m (commands m p.cards) (answers_in x) p.cards refl))

    pub takes_6_own : OwnTook (press_takes6 p x)
    unfolding press_takes6 without_reports
    takes_6_own = of_either (checked (refs_fit (head6 p.session) x.head)) (refused p) (closed p) OwnTook refl refl
