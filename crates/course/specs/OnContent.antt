-- The two sides, where a message is a content.
use Rattle.message.specs.declared.Content.{Content}
use Rattle.press_awaits.specs.OnContent.{press_begins, press_judges}
use Rattle.server_awaits.specs.OnContent.{server_judges}
use Rattle.course.specs.Course.{Sides}

abbrev pub on_content : Sides Content
on_content = record { start = press_begins; press_takes = press_judges; server_takes = server_judges; by_hand = λ x. x }
