-- Demand 3 with power cuts holds, the store first: on content, and by the public calls on bytes, with 32768 bytes or more lent. Assumes nothing.
use Prim.Native.Nat.{ℕ, ◌≤◌}
use mathlib.Core.List.{List}
use lib.ListN.{length}
use Rattle.message.specs.Message.{limit}
use Rattle.course.specs.OnContent.{on_content}
use Rattle.course.specs.OnBytes.{on_bytes}
use Rattle.demand3.specs.Demand3.{room_refused, room_refused_in}
use Rattle.broken_sessions.proofs.Demand3.{demand3_on_content, demand3_on_bytes}
use Rattle.power.specs.Power.{store_first}
use Rattle.power.specs.WithCuts.{Demand3WithCuts}
use Rattle.power.proofs.PowerLaws.{with_cuts}

pub with_cuts_on_content : Demand3WithCuts on_content store_first room_refused
with_cuts_on_content = with_cuts on_content room_refused demand3_on_content

pub with_cuts_on_bytes : (out : List ℕ) → limit ≤ length out → Demand3WithCuts (on_bytes out) store_first room_refused_in
with_cuts_on_bytes out room = with_cuts (on_bytes out) room_refused_in (demand3_on_bytes out room)
