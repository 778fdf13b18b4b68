-- The server's call: what it says of the side and of the output. Assumes nothing.
use Prim.Native.Nat.{ℕ}
use mathlib.Core.Path.{◌≡◌, sym}
use mathlib.Core.List.{List}
use Rattle.std.proofs.Common.{Ok, Err}
use Rattle.token.specs.declared.Misread.{Misread}
use Rattle.records.specs.declared.Server.{Server}
use Rattle.message.specs.declared.Content.{Content}
use Rattle.message.specs.Message.{read_message}
use Rattle.message.specs.Answer.{taken_as}
use Rattle.calls.specs.After.{refused_with, answered_in}
use Rattle.calls.proofs.ReplyLaws.{reads, reads_not}
use Rattle.server_awaits.specs.OnContent.{server_judges}
use Rattle.server_calls.specs.Call.{server_hears, server_takes}

module _ (s : Server) (m out : List ℕ) where
  pub takes_not : {e : Misread} → taken_as (read_message m) ≡ Err e → refused_with 7 s out ≡ server_takes s m out
  unfolding server_takes
  takes_not {e} i = sym (reads_not (refused_with 7 s out) (server_hears s out) (read_message m) e i)

  pub takes_is : {x : Content} → taken_as (read_message m) ≡ Ok x → answered_in s out (server_judges s x) ≡ server_takes s m out
  unfolding server_takes
  takes_is {x} i = sym (reads (refused_with 7 s out) (server_hears s out) (read_message m) x i)
