-- A package that may be sent and has exactly as many bytes as one has at most.
-- Assumes nothing.
use Prim.Native.Nat.{ℕ, zero, suc}
use mathlib.Core.Path.{◌≡◌, refl}
use mathlib.Core.List.{List}
use native.Mathlib.Omega.{arith}
use lib.ListN.{length, replicate}
use Rattle.token.specs.Number.{digits, digits_f}
use Rattle.text.specs.Text.{longest, GoodText, all_ok, text_ok}
use Rattle.text.specs.Wording.{last_station, signed_by, no_wording}
use Rattle.text.proofs.WordingLaws.{signed_well}
use Rattle.spelling.specs.Spelling.{spell, spelled}
use Rattle.spelling.specs.Data.{write_data}
use Rattle.shape.specs.Marks.{field_of}
use Rattle.page.specs.Page.{page, shape}
use Rattle.terms.specs.Number.{luid, guid, no_guid}
use Rattle.elements.specs.Kinds.{report_with_guid, press_replace_kind}
use Rattle.lists.specs.declared.Entry.{Entry}
use Rattle.lists.specs.Lists.{most_listed}
use Rattle.message.specs.declared.Content.{Content}
use Rattle.message.specs.Message.{form_of, message_c, report_kinds, press_commands}
use Rattle.message.specs.Answer.{message_of}
use Rattle.places.proofs.Every.{Every}
use Rattle.packages.specs.Package.{packed, head3}
use Rattle.sendable.specs.Sendable.{fields_with, entry_with, Sendable, SendablePackage, longest_sent}
use Rattle.sendable.proofs.ElementLaws.{report_with_guid_lem, press_replace}
use Rattle.sendable.proofs.PackageLaws.{pkg3_sendable}

-- ---- Pkg 3 with the greatest numbers and stations, and texts of 24 &
abbrev ands : List ℕ
ands = replicate longest 38

abbrev report : Entry
report = entry_with (fields_with report_with_guid 0 0 0 0 (guid 65535) (luid 65535) 4294967295) no_wording

abbrev replace : Entry
replace = entry_with (fields_with press_replace_kind 0 0 0 0 no_guid (luid 65535) 4294967295) (signed_by last_station ands)

abbrev longest_package : Content
longest_package = packed (head3 4294967295) (replicate most_listed report) (replicate most_listed replace)

-- ---- it may be sent
all_same : (P : Entry → Type 0) (x : Entry) → P x → (n : ℕ) → Every P (replicate n x)
all_same P x h zero = tt
all_same P x h (suc n) = (h, all_same P x h n)

is_text : GoodText ands
unfolding all_ok text_ok
is_text = refl

pub longest_sendable : SendablePackage longest_package
longest_sendable =
    pkg3_sendable 4294967295 (omega arith, omega arith) (replicate most_listed report) (omega arith) (replicate most_listed replace) (omega arith)
    (all_same (Sendable report_kinds) report (report_with_guid_lem (luid 65535) 4294967295 (omega arith, omega arith) (omega arith, omega arith) (guid 65535) (omega arith, omega arith)) most_listed)
    (all_same (Sendable press_commands) replace (press_replace (luid 65535) (omega arith, omega arith) 4294967295 (signed_by last_station ands) (omega arith, omega arith) (signed_well last_station ands (omega arith) is_text)) most_listed)

-- ---- its bytes, counted
pub longest_reached : length (message_c.write (message_of longest_package)) ≡ longest_sent
unfolding message_c page shape field_of form_of digits digits_f spell spelled write_data
longest_reached = refl
