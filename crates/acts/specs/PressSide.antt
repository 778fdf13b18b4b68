-- The press as a side of the bench.
use Rattle.std.specs.Prelude.{Bool}
use Rattle.terms.specs.Number.{luid}
use Rattle.cards.specs.declared.Press.{Press}
use Rattle.cards.specs.Press.{press_gives_up}
use Rattle.press_edits.specs.Edited.{Outcome}
use Rattle.press_edits.specs.Edited.{Edited}
use Rattle.press_edits.specs.Edit.{press_add, press_edit, press_delete}
use Rattle.press_calls.specs.Call.{press_takes}
use Rattle.answers.specs.Said.{Said}
use Rattle.press_block.specs.Block.{press_block}
use Rattle.desk.specs.Desk.{with_press}
use Rattle.acts.specs.Acts.{Edit, Side, done_said}

abbrev pub press_said : Outcome → Bool → Said
press_said (Outcome.Done n) add = done_said n.0 add
press_said (Outcome.Refused n) add = Said.Refused n

abbrev pub press_edited : Edited → Edit Press
press_edited e = record { said = press_said e.outcome; side = e.press }

-- a command to the press leaves the wire as it was
abbrev pub press_side : Side Press
press_side =
    record {
      here = λ d. d.press;
      back = λ d s. with_press d s d.wire;
      adds = λ s t. press_edited (press_add s t);
      edits = λ s n t. press_edited (press_edit s (luid n) t);
      deletes = λ s n. press_edited (press_delete s (luid n));
      gives_up = press_gives_up;
      takes = press_takes;
      block = press_block;
    }
