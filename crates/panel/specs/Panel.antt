-- What `changes` answers (docs/BENCH.md): which package is on the wire, and how many changes it has.
use Rattle.std.specs.Prelude.{ℕ, List, ◌++◌, take}
use Rattle.token.specs.Text.{bytes}
use Rattle.message.specs.Message.{read_message}
use Rattle.message_changes.specs.Shown.{Shown}
use Rattle.message_changes.specs.Shown.{Changes, Package, Refused}
use Rattle.message_changes.specs.Shown.{shown_of}
use Rattle.answers.specs.Block.{field}
use Rattle.desk.specs.declared.Wire.{Wire}
use Rattle.desk.specs.declared.Wire.TheVariants.{Empty, ToPress, ToServer}

abbrev pub package_text : ℕ → List ℕ
package_text pkg = field "package " pkg ++ bytes " of 6"

abbrev pub panel_text : Shown → List ℕ
panel_text (Changes pkg n) = package_text pkg ++ (field ", " n ++ bytes " changes")
panel_text (Package pkg) = package_text pkg
panel_text (Refused n) = field "refused " n

-- of the bytes of a message
abbrev pub message_text : List ℕ → List ℕ
message_text s = panel_text (shown_of (read_message s))

-- of the wire, whose buffer is b
abbrev pub wire_text : Wire → List ℕ → List ℕ
wire_text Empty b = bytes "none"
wire_text (ToPress n) b = message_text (take n b)
wire_text (ToServer n) b = message_text (take n b)
