-- A list of reports, statuses or commands as the code keeps it: at most 33, with blanks after them.
use Rattle.std.specs.Prelude.{ℕ, ◌-◌, List, ◌++◌, length, take, drop, replicate}
use Rattle.lists.specs.declared.Entry.{Entry}
use Rattle.lists.specs.Lists.{kept_listed, blank_entry}
use Rattle.listing.specs.declared.Listing.{Listing}

-- (of a list of at most 33)
abbrev pub listing : List Entry → Listing
listing xs = record { n = length xs; items = xs ++ replicate (kept_listed - length xs) blank_entry }

-- the items of such a list: the first n
abbrev pub items_of : Listing → List Entry
items_of l = take l.n l.items

-- l with these items instead; what stands past them stays
unfoldable pub holding : List Entry → Listing → Listing
holding xs l = record { n = length xs; items = xs ++ drop (length xs) l.items }

-- the number by which a list rises: the press's lists by LUID, the server's by GUID (01, "Pkg 3", "Pkg 4")
abbrev pub by_luid : Entry → ℕ
by_luid e = e.fields.luid.0

abbrev pub by_guid : Entry → ℕ
by_guid e = e.fields.guid.0
