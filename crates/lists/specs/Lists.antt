-- Lists of elements as the code keeps them.
use Rattle.std.specs.Prelude.{ℕ, ◌+◌, ◌-◌, Result, Ok, Err, List, [], ◌++◌, map, length, take, replicate}
use Rattle.token.specs.Ans.{Ans, got, bad}
use Rattle.token.specs.declared.Cursor.{Cursor}
use Rattle.token.specs.declared.Misread.{Misread}
use Rattle.text.specs.Wording.{signed_by, no_wording}
use Rattle.grammar.specs.Numbered.{list_from, write_all}
use Rattle.page.specs.declared.Kinds.{Kinds}
use Rattle.terms.specs.Number.{no_luid, no_guid}
use Rattle.elements.specs.declared.End.{End}
use Rattle.elements.specs.Element.{Element, element_c, element_with, end_c}
use Rattle.lists.specs.declared.Entry.{Entry}
use Rattle.lists.specs.declared.Listed.{Listed}
use Rattle.lists.specs.declared.Copied.{Copied}

-- the most reports and the most commands that a package may have (01, row 8); of each list one more is kept, which tells that there are too many
abbrev pub most_listed : ℕ
most_listed = 32

abbrev pub kept_listed : ℕ
kept_listed = most_listed + 1

-- an element by itself
abbrev pub by_itself : Element → Entry
by_itself e = record { fields = e.fields; wording = signed_by e.station e.text }

-- what an element by itself says
abbrev pub entry_of : Entry → Element
entry_of x = element_with x.fields x.wording

-- an element that says nothing
abbrev pub blank_entry : Entry
blank_entry =
    record {
      fields = record { kind = 0; msgref = 0; cmdref = 0; cmd = 0; code = 0; guid = no_guid; luid = no_luid; fp = 0 };
      wording = no_wording;
    }

-- an end of a list that says nothing
abbrev pub no_end : End
no_end = record { changes = 0 }

-- what an array and a count say: the first n
abbrev pub entries : List Entry → ℕ → List Element
entries items n = map entry_of (take n items)

-- an array has as many of a list as are kept, and blanks after them
abbrev pub array : List Entry → List Entry
array xs = take kept_listed xs ++ replicate (kept_listed - length (take kept_listed xs)) blank_entry

-- what the code gives of a list: the elements that are kept, how many there are, what its end says, and the place after it; or the place where it is refused
abbrev pub listed_as : Ans (List Element × End) → Result (Listed × Cursor) Misread
listed_as (got x p) = Ok (record { n = length x.0; items = array (map by_itself x.0); end = x.1 }, record { at = p })
listed_as (bad k p) = Err (record { place = p })

-- ---- what is written of a list, whatever its kinds: its elements numbered from id on, and line `end` of the page, which says `last`
abbrev pub any_kinds : Kinds
any_kinds = record { from = 0; count = 0 }

abbrev pub write_list : ℕ → ℕ → List Element → End → List ℕ
write_list id end l last = write_all id (element_c any_kinds) l ++ (end_c end (id + length l)).write last

-- ---- a list written on as far as it reads: its elements, and its end if it has one
abbrev pub elements_from : Kinds → ℕ → ℕ → List ℕ → ℕ → List Element × Ans End
elements_from kinds end id s at = list_from id (element_c kinds) (end_c end) s at

abbrev pub write_end : ℕ → ℕ → Ans End → List ℕ
write_end end id (got last p) = (end_c end id).write last
write_end end id (bad k p) = []

abbrev pub write_on : ℕ → ℕ → List Element × Ans End → List ℕ
write_on id end x = write_all id (element_c any_kinds) x.0 ++ write_end end (id + length x.0) x.1

-- the place after what was read, or that of the refusal
abbrev pub place_in : {A : Type 0} → Ans A → ℕ
place_in (got a p) = p
place_in (bad k p) = p

-- what the code answers: where it ends in the message, the number that is due then, and where it ends in the output
abbrev pub copied_as : ℕ → List Element × Ans End → ℕ → Copied
copied_as id x next = record { place = place_in x.1; due = id + length x.0; next = next }
