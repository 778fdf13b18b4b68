-- The server as a side of the bench.
use Rattle.std.specs.Prelude.{Bool}
use Rattle.terms.specs.Number.{guid}
use Rattle.records.specs.declared.Rule.{Rule}
use Rattle.records.specs.declared.Server.{Server}
use Rattle.records.specs.Server.{server_gives_up, server_goes_by}
use Rattle.server_edits.specs.Edited.{Outcome}
use Rattle.server_edits.specs.Edited.{Edited}
use Rattle.server_edits.specs.Edit.{server_add, server_edit, server_delete}
use Rattle.server_calls.specs.Call.{server_takes}
use Rattle.answers.specs.Said.{Said}
use Rattle.server_block.specs.Block.{server_block}
use Rattle.desk.specs.declared.Desk.{Desk}
use Rattle.desk.specs.Desk.{Told}
use Rattle.desk.specs.Desk.{with_server, saying}
use Rattle.acts.specs.Acts.{Edit, Side, done_said}

abbrev pub server_said : Outcome → Bool → Said
server_said (Outcome.Done n) add = done_said n.0 add
server_said (Outcome.Refused n) add = Said.Refused n

abbrev pub server_edited : Edited → Edit Server
server_edited e = record { said = server_said e.outcome; side = e.server }

-- a command to the server leaves the wire as it was
abbrev pub server_side : Side Server
server_side =
    record {
      here = λ d. d.server;
      back = λ d s. with_server d s d.wire;
      adds = λ s t. server_edited (server_add s t);
      edits = λ s n t. server_edited (server_edit s (guid n) t);
      deletes = λ s n. server_edited (server_delete s (guid n));
      gives_up = server_gives_up;
      takes = server_takes;
      block = server_block;
    }

-- `rule press`, `rule server`: the server has it from now on, open or not (02, 7)
abbrev pub rule_told : Desk → Rule → Told
rule_told d rule = saying (with_server d (server_goes_by rule d.server) d.wire) Said.Yes
