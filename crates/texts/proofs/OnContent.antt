-- Texts decide nothing, on content: of opaque sides both courses are one when their texts are taken out, and ours are opaque. Assumes nothing.
use Prim.Native.Nat.{ℕ}
use mathlib.Core.Path.{◌≡◌, sym, ap, ◌∙◌}
use mathlib.Core.List.{List, [], map}
use Rattle.places.specs.Every.{Every}
use Rattle.message.specs.declared.Content.{Content}
use Rattle.reworded.specs.Reworded.{reword_content}
use Rattle.press_reworded.proofs.PressLaws.{press_begins_reworded, press_judges_reworded}
use Rattle.server_reworded.proofs.ServerLaws.{server_judges_reworded}
use Rattle.course.specs.Course.{Sides, fresh_world, Doing}
use Rattle.course.specs.OnContent.{on_content}
use Rattle.texts.specs.Opaque.{Opaque}
use Rattle.texts.specs.Texts.{textless_step, Lawful, points, textless, TextsDecideNothing, TextsOnContent}
use Rattle.texts.proofs.TextlessLaws.{rewords_to_empty}
use Rattle.texts.proofs.CourseLaws.{other_turn, fresh_reworded, points_reworded}

pub ours_opaque : Opaque on_content
ours_opaque = record { starts = press_begins_reworded; press_takes_lem = press_judges_reworded; server_takes_lem = server_judges_reworded }

module _ (s : Sides Content) (o : Opaque s) where
  -- a course, and the course without its texts
  without_texts : (station : ℕ) (ds : List Doing) → Every (Every Lawful) ds
      → points s (map (map textless_step) ds) (fresh_world station) ≡ map (other_turn textless) (points s ds (fresh_world station))
  without_texts station ds h =
      ap (points s (map (map textless_step) ds)) (sym (fresh_reworded textless station))
      ∙ points_reworded textless s o (λ t. []) rewords_to_empty ds h (fresh_world station)

  pub opaque_texts : TextsDecideNothing s (reword_content textless)
  opaque_texts station n ds es e =
      sym (without_texts station ds e.lawful.0) ∙ ap (λ (k : List Doing). points s k (fresh_world station)) e.same ∙ without_texts station es e.lawful.1

pub texts_on_content : TextsOnContent
texts_on_content = opaque_texts on_content ours_opaque
