-- What an edit at the press, and a press made fresh, come to on an image: of an edit the card's number is told.
use Rattle.cards.specs.declared.Press.{Press}
use Rattle.cards.specs.Made as fresh
use Rattle.cards.specs.Made.{Fresh}
use Rattle.press_edits.specs.Edited.{Outcome}
use Rattle.press_edits.specs.Edited.{Done, Refused}
use Rattle.press_edits.specs.Edited.{Edited}
use Rattle.image.specs.OnImage.{Result, did, refused}

abbrev pub edited_as : Outcome → Press → Result Press
edited_as (Done l) p = did l.0 p
edited_as (Refused n) p = refused n

abbrev pub edited : Edited → Result Press
edited e = edited_as e.outcome e.press

abbrev pub made_as : fresh.Made → Press → Result Press
made_as fresh.Made.Done p = did 0 p
made_as (fresh.Made.Refused n) p = refused n

abbrev pub made : Fresh → Result Press
made f = made_as f.outcome f.press
