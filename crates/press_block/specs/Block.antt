-- The press's block (docs/BENCH.md): a line for the press, a line for each place in use by place from 0, then `end`.
use Rattle.std.specs.Prelude.{ℕ, cond, List, [], ◌∷◌, ◌++◌}
use Rattle.token.specs.Text.{bytes}
use Rattle.cards.specs.declared.Mark.{Mark}
use Rattle.cards.specs.declared.Mark.TheVariants.{Clean, Added, Changed, Deleted}
use Rattle.cards.specs.declared.Report.{Report}
use Rattle.cards.specs.declared.Card.{Card}
use Rattle.cards.specs.declared.Cards.{Cards}
use Rattle.cards.specs.declared.Awaits.{Awaits}
use Rattle.cards.specs.declared.Press.{Press}
use Rattle.cards.specs.Press.{is_live}
use Rattle.answers.specs.Words.{number_or}
use Rattle.answers.specs.Block.{field, link_text, wording_text, lines_from}

-- closed, or the number of the package awaited
abbrev pub opened : Awaits → List ℕ
opened Awaits.Nothing = bytes "closed"
opened Awaits.Two = bytes "2"
opened (Awaits.Four m) = bytes "4"
opened Awaits.Six = bytes "6"

abbrev pub marked : Mark → List ℕ
marked Clean = bytes "clean"
marked Added = bytes "added"
marked Changed = bytes "changed"
marked Deleted = bytes "deleted"

-- the server's number, or a dash where there is none; the press's, and the fingerprint
abbrev pub reported : Report → List ℕ
reported r = cond r.on (number_or (bytes "-") r.guid.0 ++ (field ":" r.luid.0 ++ field ":" r.fp)) (bytes "none")

abbrev pub report_field : Report → List ℕ
report_field r = bytes " report=" ++ reported r

abbrev pub card_text : Card → List ℕ
card_text x =
    field " card " x.luid.0
    ++ (field " fp=" x.fp ++ (bytes " mark=" ++ (marked x.mark ++ (report_field x.report ++ wording_text x.wording))))

abbrev pub deleted_text : Card → List ℕ
deleted_text x = field " deleted " x.luid.0 ++ report_field x.report

-- a card or a delete mark
abbrev pub held_text : Card → List ℕ
held_text x = cond (is_live x.mark) (card_text x) (deleted_text x)

abbrev pub place_line : ℕ → Card → List ℕ
place_line i x = field "place " i ++ (held_text x ++ (10 ∷ []))

unfoldable pub place_lines : Cards → List ℕ
place_lines c = lines_from place_line c.used 0 c.places

abbrev pub side_line : Press → List ℕ
side_line p =
    link_text (bytes "press open=") (opened p.awaits) p.anchor p.session
    ++ (field " fp=" p.cards.fp ++ (field " luid=" p.cards.luid ++ (field " station=" p.cards.station ++ (10 ∷ []))))

-- the block, without its last line feed
abbrev pub press_block : Press → List ℕ
press_block p = side_line p ++ (place_lines p.cards ++ bytes "end")
