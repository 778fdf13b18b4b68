-- The server at Pkg 1, and Pkg 2 (01, "The six packages").
use Rattle.std.specs.Prelude.{ℕ, Bool, cond, ◌&&◌, [], eqb}
use Rattle.terms.specs.Check.{checked, or_refuse}
use Rattle.terms.specs.declared.Mode.{Mode}
use Rattle.terms.specs.declared.Mode.TheVariants.{Normal, Recovery}
use Rattle.records.specs.declared.Awaits.{Awaits}
use Rattle.records.specs.declared.Server.{Server}
use Rattle.elements.specs.declared.Head.{Head}
use Rattle.elements.specs.Kinds.{is_true}
use Rattle.message.specs.declared.Content.{Content}
use Rattle.packages.specs.Package.{head2, packed}
use Rattle.server_rules.specs.Took.{Took}
use Rattle.server_rules.specs.Took.{refused, taken, server_with}

-- 8: ChangeLogValidity false, or a Next that is not the session number
abbrev pub lawful1 : Head → Bool
lawful1 h = eqb h.valid is_true && eqb h.next h.session

-- the press's Last equals the server's anchor: normal; otherwise recovery
abbrev pub mode_for : ℕ → ℕ → Mode
mode_for last anchor = cond (eqb last anchor) Normal Recovery

-- it remembers the session number and is open; Pkg 2 has its anchor and the session number
abbrev pub opens : Server → Head → Mode → Took
opens s h m = taken (server_with s.rule s.records s.link.anchor h.session (Awaits.Three m)) (packed (head2 h.session s.link.anchor m) [] [])

unfoldable pub server_takes1 : Server → Content → Took
server_takes1 s p = or_refuse (checked (lawful1 p.head)) (refused s) (opens s p.head (mode_for p.head.last s.link.anchor))
