-- Spelling decides nothing: two texts that are read as one message do the same at a side, the same reply, table and output.
-- Assumes nothing.
use Prim.Native.Nat.{ℕ}
use mathlib.Core.Path.{◌≡◌, sym, ap, ◌∙◌}
use mathlib.Core.List.{List}
use Rattle.token.specs.Ans.{Ans, got}
use Rattle.cards.specs.declared.Press.{Press}
use Rattle.records.specs.declared.Server.{Server}
use Rattle.message.specs.declared.Content.{Content}
use Rattle.message.specs.Message.{Message, read_message}
use Rattle.calls.specs.After.{After, refused_with, if_read}
use Rattle.press_calls.specs.Call.{press_hears, press_takes}
use Rattle.server_calls.specs.Call.{server_hears, server_takes}

module _ (s t : List ℕ) (m : Message) (p q : ℕ) (e : read_message s ≡ got m p) (f : read_message t ≡ got m q) where
  any_spelling : {S : Type 0} (r : After S) (h : Content → After S) → if_read (read_message s) r h ≡ if_read (read_message t) r h
  any_spelling r h = ap (λ (a : Ans Message). if_read a r h) e ∙ sym (ap (λ (a : Ans Message). if_read a r h) f)

  pub press_any_spelling : (press : Press) (out : List ℕ) → press_takes press s out ≡ press_takes press t out
  unfolding press_takes
  press_any_spelling press out = any_spelling (refused_with 7 press out) (press_hears press out)

  pub server_any_spelling : (server : Server) (out : List ℕ) → server_takes server s out ≡ server_takes server t out
  unfolding server_takes
  server_any_spelling server out = any_spelling (refused_with 7 server out) (server_hears server out)
