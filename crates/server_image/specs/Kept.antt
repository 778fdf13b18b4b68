-- What an edit at the server comes to on its image: the record's number is told.
use Rattle.records.specs.declared.Server.{Server}
use Rattle.server_edits.specs.Edited.{Outcome}
use Rattle.server_edits.specs.Edited.{Done, Refused}
use Rattle.server_edits.specs.Edited.{Edited}
use Rattle.image.specs.OnImage.{Result, did, refused}

abbrev pub edited_as : Outcome → Server → Result Server
edited_as (Done g) p = did g.0 p
edited_as (Refused n) p = refused n

abbrev pub edited : Edited → Result Server
edited e = edited_as e.outcome e.server
