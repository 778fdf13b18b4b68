-- A place of the press's table put or freed; the entry with a LUID; and what happens to all entries at once (01, "Press at Pkg 4").
use Rattle.std.specs.Prelude.{Option}
use Rattle.std.specs.Prelude.{ℕ, Bool, true, not, eqb}
use Rattle.terms.specs.declared.Luid.{Luid}
use Rattle.cards.specs.declared.Card.{Card}
use Rattle.cards.specs.declared.Cards.{Cards}
use Rattle.cards.specs.Press.{no_report, no_card, is_live}
use Rattle.places.specs.Act.{Table, Slot, free, holds, find, put_at, each}

abbrev pub table_of : Cards → Table Card
table_of c = record { used = c.used; places = c.places }

abbrev pub with_table : Cards → Table Card → Cards
with_table c t = record { used = t.used; places = t.places; luid = c.luid; fp = c.fp; station = c.station }

-- place i so
abbrev pub with_slot : Cards → ℕ → Slot Card → Cards
with_slot c i x = with_table c (put_at (table_of c) i x)

abbrev pub with_card : Cards → ℕ → Card → Cards
with_card c i x = with_slot c i (holds x)

abbrev pub without_card : Cards → ℕ → Cards
without_card c i = with_slot c i free

-- ---- the card or delete mark with a LUID
abbrev pub is_entry : Luid → Card → Bool
is_entry l x = eqb x.luid.0 l.0

abbrev pub entry_place : Cards → Luid → Option ℕ
entry_place c l = find (is_entry l) (table_of c)

-- ---- each entry that passes a test becomes f of it
abbrev pub each_card : (Card → Bool) → (Card → Slot Card) → Cards → Cards
each_card q f c = with_table c (each no_card q f (table_of c))

-- ---- all reports go
abbrev pub any_entry : Card → Bool
any_entry x = true

abbrev pub bare : Card → Card
bare x = record { mark = x.mark; luid = x.luid; fp = x.fp; report = no_report; wording = x.wording }

abbrev pub with_bare : Card → Slot Card
with_bare x = holds (bare x)

unfoldable pub without_reports : Cards → Cards
without_reports c = each_card any_entry with_bare c

-- ---- all delete marks end: their places are free
abbrev pub is_delete_mark : Card → Bool
is_delete_mark x = not (is_live x.mark)

abbrev pub freed : Card → Slot Card
freed x = free

unfoldable pub without_delete_marks : Cards → Cards
without_delete_marks c = each_card is_delete_mark freed c
