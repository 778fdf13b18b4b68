-- What the press tells in Pkg 3: its reports and its commands (01, "The six packages").
use Rattle.std.specs.Prelude.{ℕ, ◌+◌, ◌≤◌, ◌≡◌, length, Bool, true, false, cond, not, List, ◌++◌, map, eqb}
use Rattle.elements.specs.Kinds.{report_with_guid, report_without_guid, press_delete_kind, press_replace_kind, press_add_kind}
use Rattle.text.specs.declared.Wording.{Wording}
use Rattle.text.specs.Wording.{no_wording}
use Rattle.terms.specs.declared.Luid.{Luid}
use Rattle.terms.specs.declared.Guid.{Guid}
use Rattle.terms.specs.Number.{no_guid}
use Rattle.terms.specs.declared.Mode.{Mode}
use Rattle.terms.specs.declared.Mode.TheVariants.{Normal, Recovery}
use Rattle.cards.specs.declared.Mark.{Mark}
use Rattle.cards.specs.declared.Report.{Report}
use Rattle.cards.specs.declared.Card.{Card}
use Rattle.cards.specs.declared.Cards.{Cards}
use Rattle.cards.specs.Press.{no_card, is_live}
use Rattle.lists.specs.declared.Entry.{Entry}
use Rattle.places.specs.Act.{hit, table}
use Rattle.places.specs.Rising.{those, rising}
use Rattle.lists.specs.Lists.{kept_listed}
use Rattle.places.specs.Set.{all_places}
use Rattle.listing.specs.declared.Listing.{Listing}
use Rattle.listing.specs.declared.Row.{Row}
use Rattle.listing.specs.Listing.{by_luid}
use Rattle.listing.specs.Row.{Stands}

-- what is told: reports, Deletes of delete marks, Replaces of changed cards, Adds of added ones, or a Replace of every card
pub data Tell : Type 0 where
  Reports : Tell
  Deletes : Tell
  Replaces : Tell
  Adds : Tell
  AllCards : Tell

-- ---- which entries: those with a report; delete marks; changed; added; every card
abbrev pub is_changed : Mark → Bool
is_changed Mark.Clean = false
is_changed Mark.Added = false
is_changed Mark.Changed = true
is_changed Mark.Deleted = false

abbrev pub is_added : Mark → Bool
is_added Mark.Clean = false
is_added Mark.Added = true
is_added Mark.Changed = false
is_added Mark.Deleted = false

abbrev pub tells : Tell → Card → Bool
tells Tell.Reports x = x.report.on
tells Tell.Deletes x = not (is_live x.mark)
tells Tell.Replaces x = is_changed x.mark
tells Tell.Adds x = is_added x.mark
tells Tell.AllCards x = is_live x.mark

-- ---- what is told of an entry: a report with GUID (kind 7) or without (kind 8), a Delete (12), a Replace (13) or an Add (14) with fingerprint, text and station, as the card has them (02, 5)
abbrev pub worded_as : ℕ → Guid → Luid → ℕ → Wording → Entry
worded_as kind guid luid fp w =
    record {
      fields = record { kind = kind; msgref = 0; cmdref = 0; cmd = 0; code = 0; guid = guid; luid = luid; fp = fp };
      wording = w;
    }

abbrev pub report_of : Report → Entry
report_of r = worded_as (cond (eqb r.guid.0 0) report_without_guid report_with_guid) r.guid r.luid r.fp no_wording

abbrev pub words_of : Tell → Card → Entry
words_of Tell.Reports x = report_of x.report
words_of Tell.Deletes x = worded_as press_delete_kind no_guid x.luid 0 no_wording
words_of Tell.Replaces x = worded_as press_replace_kind no_guid x.luid x.fp x.wording
words_of Tell.Adds x = worded_as press_add_kind no_guid x.luid x.fp x.wording
words_of Tell.AllCards x = worded_as press_replace_kind no_guid x.luid x.fp x.wording

-- each by rising LUID
unfoldable pub told_of : Tell → Cards → List Entry
told_of k c = rising by_luid (map (words_of k) (those (hit c.used (tells k)) 0 c.places))

-- the places in a row are theirs
abbrev pub StandsFor : Row → Tell → Cards → Type 0
StandsFor row k c = Stands row no_card (tells k) by_luid (words_of k) (table c.used c.places)

-- a list has room for what is told (of the 32 places)
abbrev pub HasRoom : Listing → Tell → Cards → Type 0
HasRoom l k c = length c.places ≡ all_places → l.n + length (told_of k c) ≤ kept_listed

-- ---- all reports; and the commands: normal, Delete for delete marks, Replace for changed, Add for added; in recovery a Replace for every card
abbrev pub reports : Cards → List Entry
reports c = told_of Tell.Reports c

unfoldable pub commands : Mode → Cards → List Entry
commands Normal c = told_of Tell.Deletes c ++ (told_of Tell.Replaces c ++ told_of Tell.Adds c)
commands Recovery c = told_of Tell.AllCards c
