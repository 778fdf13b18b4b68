-- The press at Pkg 4, first part: old reports go, and the statuses of its commands end marks (01, "The six packages").
use Rattle.std.specs.Prelude.{ℕ, Bool, cond, List, eqb}
use Rattle.terms.specs.declared.Mode.{Mode}
use Rattle.terms.specs.declared.Mode.TheVariants.{Normal, Recovery}
use Rattle.cards.specs.declared.Mark.TheVariants.{Clean}
use Rattle.cards.specs.declared.Card.{Card}
use Rattle.cards.specs.declared.Cards.{Cards}
use Rattle.cards.specs.Press.{no_card, is_live}
use Rattle.lists.specs.declared.Entry.{Entry}
use Rattle.places.specs.Act.{Slot, free, holds, act, in_order, with_answers}
use Rattle.card_moves.specs.Moves.{table_of, with_table, is_entry, without_reports, without_delete_marks}

-- ---- 200, 208, 211 and 419 end a mark or delete mark, 420 keeps it (8 has seen to it that there is no other code)
abbrev pub keeps_mark : ℕ → Bool
keeps_mark code = eqb code 420

abbrev pub cleaned : Card → Card
cleaned x = record { mark = Clean; luid = x.luid; fp = x.fp; report = x.report; wording = x.wording }

-- a delete mark that ends frees its place
abbrev pub ended : Card → Slot Card
ended x = cond (is_live x.mark) (holds (cleaned x)) free

-- a command of the press with its status
unfoldable pub end_mark : Entry × Entry → Cards → Cards
end_mark p c = cond (keeps_mark p.1.fields.code) c (with_table c (act no_card (is_entry p.0.fields.luid) ended (table_of c)))

-- ---- all old reports go; each command's status in order; in recovery all delete marks end
unfoldable pub ends : List Entry → List Entry → Cards → Cards
ends cs xs c = in_order end_mark (with_answers cs xs) (without_reports c)

unfoldable pub marks_end : Mode → List Entry → List Entry → Cards → Cards
marks_end Normal cs xs c = ends cs xs c
marks_end Recovery cs xs c = without_delete_marks (ends cs xs c)
