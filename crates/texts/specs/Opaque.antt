-- "The text is opaque and decides nothing" (01, "The two tables"), for two sides on content: whatever becomes of the wordings in a table and in a message, the
-- side does what it did, says what it said and refuses what it refused, with those wordings.
use Rattle.std.specs.Prelude.{◌≡◌}
use Rattle.cards.specs.declared.Press.{Press}
use Rattle.records.specs.declared.Server.{Server}
use Rattle.message.specs.declared.Content.{Content}
use Rattle.reworded.specs.Reworded.{Rewording, reword_press, reword_server, reword_content, reword_called_press, reword_called_server}
use Rattle.course.specs.Course.{Sides}

pub record Opaque (s : Sides Content) : Type 0 where
  pub starts : (r : Rewording) (p : Press) → s.start (reword_press r p) ≡ reword_called_press r (s.start p)
  pub press_takes_lem : (r : Rewording) (p : Press) (x : Content) → s.press_takes (reword_press r p) (reword_content r x) ≡ reword_called_press r (s.press_takes p x)
  pub server_takes_lem : (r : Rewording) (q : Server) (x : Content) → s.server_takes (reword_server r q) (reword_content r x) ≡ reword_called_server r (s.server_takes q x)
