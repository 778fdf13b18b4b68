-- The server's block (docs/BENCH.md): a line for the server, a line for each place in use by place from 0, then `end`.
use Rattle.std.specs.Prelude.{ℕ, List, [], ◌∷◌, ◌++◌}
use Rattle.token.specs.Text.{bytes}
use Rattle.records.specs.declared.Mark.{Mark}
use Rattle.records.specs.declared.Mark.TheVariants.{Clean, Dirty, Offered, Deleted}
use Rattle.records.specs.declared.Pairing.{Pairing}
use Rattle.records.specs.declared.Record.{Record}
use Rattle.records.specs.declared.Records.{Records}
use Rattle.records.specs.declared.Awaits.{Awaits}
use Rattle.records.specs.declared.Rule.{Rule}
use Rattle.records.specs.declared.Rule.TheVariants.{PressWins, ServerWins}
use Rattle.records.specs.declared.Server.{Server}
use Rattle.answers.specs.Words.{number_or}
use Rattle.answers.specs.Block.{field, link_text, wording_text, lines_from}

-- closed, or the number of the package awaited
abbrev pub opened : Awaits → List ℕ
opened Awaits.Nothing = bytes "closed"
opened (Awaits.Three m) = bytes "3"
opened (Awaits.Five n) = bytes "5"

abbrev pub marked : Mark → List ℕ
marked Clean = bytes "clean"
marked Dirty = bytes "dirty"
marked Offered = bytes "offered"
marked Deleted = bytes "deleted"

-- whose text wins when both sides edited a card (02, 7)
abbrev pub ruled : Rule → List ℕ
ruled PressWins = bytes " rule=press"
ruled ServerWins = bytes " rule=server"

-- the press's number, or none
abbrev pub pairing_text : Pairing → List ℕ
pairing_text x = bytes " luid=" ++ (number_or (bytes "none") x.luid.0 ++ (field " known=" x.known ++ (bytes " mark=" ++ marked x.mark)))

abbrev pub record_text : Record → List ℕ
record_text x = field " record " x.guid.0 ++ (pairing_text x.pairing ++ wording_text x.wording)

abbrev pub place_line : ℕ → Record → List ℕ
place_line i x = field "place " i ++ (record_text x ++ (10 ∷ []))

unfoldable pub place_lines : Records → List ℕ
place_lines c = lines_from place_line c.used 0 c.places

abbrev pub side_line : Server → List ℕ
side_line p =
    link_text (bytes "server open=") (opened p.link.awaits) p.link.anchor p.link.session
    ++ (field " guid=" p.records.guid ++ (ruled p.rule ++ (10 ∷ [])))

-- the block, without its last line feed
abbrev pub server_block : Server → List ℕ
server_block p = side_line p ++ (place_lines p.records ++ bytes "end")
