-- What request 10 asks of the two courses, left out: that the texts are lawful, and that the full message limit is lent.
use Rattle.std.specs.Prelude.{ℕ, ◌≡◌, List, map, replicate}
use Rattle.course.specs.Course.{fresh_world, Doing}
use Rattle.course.specs.OnContent.{on_content}
use Rattle.course.specs.OnBytes.{on_bytes}
use Rattle.reworded.specs.Reworded.{reword_content}
use Rattle.texts.specs.Texts.{textless_step, points, textless, reword_turn, textless_bytes, TextsDecideNothing}

-- two courses that differ only in the texts, lawful or not
abbrev pub AnyTexts : Type 0
AnyTexts =
    (ds es : List Doing) → map (map textless_step) ds ≡ map (map textless_step) es
    → map (reword_turn textless (reword_content textless)) (points on_content ds (fresh_world 1)) ≡ map (reword_turn textless (reword_content textless)) (points on_content es (fresh_world 1))

-- so many bytes lent at each call
abbrev pub Lent : ℕ → Type 0
Lent n = TextsDecideNothing (on_bytes (replicate n 0)) textless_bytes
