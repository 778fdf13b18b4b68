-- The wrong sides in one table, each with what shows it: a course of edits and sessions from fresh, and what demand 3 says of it that is not so.
use Rattle.std.specs.Prelude.{ℕ, List, [], ◌∷◌}
use Rattle.token.specs.Text.{bytes}
use Rattle.message.specs.declared.Content.{Content}
use Rattle.terms.specs.declared.Guid.{Guid}
use Rattle.terms.specs.Number.{luid, guid}
use Rattle.records.specs.declared.Rule.TheVariants.{ServerWins}
use Rattle.course.specs.Course.{Sides, press_adds, press_edits, server_adds, server_edits, server_deletes, set_rule, Doing, alone, halted, lost_at}
use Rattle.shut_out.specs.Nods.{press_refuses_all, server_refuses_all, idle, nods_at4, nods_at5, nods_at4_and5, same_pkg3, same_pkg4}
use Rattle.shut_out.specs.Miscounts.{counts_reports, counts_others}
use Rattle.shut_out.specs.Shortcuts.{pairs_by_text, joins_by_text, joins_by_order, press_pairs_by_text, pairs_by_order, pairs_by_order_blindly, takes_late_reports, forgets_at_once}
use Rattle.shut_out.specs.Wipes.{wipes}

pub data Fault : Type 0 where
  -- after the course a session does not run through
  stuck : List Doing → Fault
  -- after the course and one session the record with this GUID has no card of its text at the press
  stray_at_once : List Doing → Guid → Fault
  -- .. after the course, these sessions and one more
  stray_after : List Doing → List Doing → Guid → Fault
  -- after the course: these sessions and one more leave another record with this GUID than one session at once
  differs : List Doing → List Doing → Guid → Fault
  -- after the course the records in these two places have one LUID
  paired_twice : List Doing → ℕ → ℕ → Fault
  -- after the course the server alone has the record with this GUID, and after one session it is not paired with a new card
  unkept : List Doing → Guid → Fault

pub record Wrong : Type 0 where
  pub sides : Sides Content
  pub fault : Fault

abbrev pub wrong : Sides Content → Fault → Wrong
wrong s f = record { sides = s; fault = f }

-- ---- short words
abbrev pub brown : List ℕ
brown = bytes "Brown"

abbrev pub blue : List ℕ
blue = bytes "Blue"

abbrev pub black : List ℕ
black = bytes "Black"

-- the server adds a card; and the press has taken it, but the server has not heard
abbrev pub added : List Doing
added = alone (server_adds brown) ∷ []

abbrev pub unheard : List Doing → List Doing
unheard ds = alone (server_adds brown) ∷ lost_at 5 ∷ ds

-- ---- the table
abbrev pub wrong_sides : List Wrong
wrong_sides =
    -- already from fresh no session runs through
    wrong press_refuses_all (stuck [])
    ∷ wrong server_refuses_all (stuck [])
    -- the server's card stands nowhere at the press, or stays unpaired
    ∷ wrong idle (stray_at_once added (guid 1))
    ∷ wrong nods_at4 (stray_at_once added (guid 1))
    ∷ wrong nods_at5 (stray_at_once added (guid 1))
    ∷ wrong nods_at4_and5 (stray_at_once added (guid 1))
    -- the other package does not fit it, and is refused
    ∷ wrong same_pkg3 (stuck (alone (press_adds brown) ∷ []))
    ∷ wrong same_pkg4 (stuck added)
    -- so is a package with another number of changes than it has commands
    ∷ wrong counts_reports (stuck (alone (press_adds brown) ∷ []))
    ∷ wrong counts_others (stuck added)
    -- with Pkg 5 lost the card is made a second time, and the record's pair is another one
    ∷ wrong pairs_by_text (differs added (lost_at 5 ∷ []) (guid 1))
    -- two cards of equal text, or one card on each side, are taken for one
    ∷ wrong press_pairs_by_text (stuck (alone (server_adds brown) ∷ added))
    ∷ wrong joins_by_text (unkept (alone (press_adds brown) ∷ added) (guid 1))
    ∷ wrong joins_by_order (unkept (alone (press_adds blue) ∷ added) (guid 1))
    -- with the first of two leftovers deleted the second is given its LUID; and where nobody looks, two records have one LUID
    ∷ wrong pairs_by_order (stray_at_once (alone (server_adds brown) ∷ alone (server_adds blue) ∷ lost_at 5 ∷ alone (server_deletes (guid 1)) ∷ []) (guid 2))
    ∷ wrong pairs_by_order_blindly (paired_twice (unheard (alone (server_adds blue) ∷ lost_at 4 ∷ halted 4 ∷ [])) 0 1)
    -- what the server has offered since is never sent again; and where a newer fingerprint is known, an edit at the server is gone (where the server wins)
    ∷ wrong takes_late_reports (stray_after (unheard (alone (server_edits (guid 1) blue) ∷ [])) (lost_at 4 ∷ []) (guid 1))
    ∷ wrong takes_late_reports (differs (unheard (alone (set_rule ServerWins) ∷ alone (press_edits (luid 1) black) ∷ lost_at 4 ∷ alone (server_edits (guid 1) blue) ∷ [])) (lost_at 4 ∷ []) (guid 1))
    -- its card comes back after Pkg 6 was lost
    ∷ wrong forgets_at_once (differs (unheard (alone (server_deletes (guid 1)) ∷ [])) (lost_at 6 ∷ []) (guid 2))
    -- an empty merge: the server's only card is gone
    ∷ wrong wipes (unkept added (guid 1))
    ∷ []
