-- The cases of the press's calls: what each says of the side and of the output. Assumes nothing.
use Prim.Native.Nat.{ℕ}
use mathlib.Core.Path.{◌≡◌, refl, sym, ap}
use mathlib.Core.List.{List}
use Rattle.std.proofs.Common.{Ok, Err}
use Rattle.token.specs.declared.Misread.{Misread}
use Rattle.cards.specs.declared.Press.{Press}
use Rattle.message.specs.declared.Content.{Content}
use Rattle.message.specs.Message.{read_message}
use Rattle.message.specs.Answer.{taken_as}
use Rattle.calls.specs.Says.{sending, refusing}
use Rattle.calls.specs.After.{refused_with, answered_in}
use Rattle.calls.proofs.ReplyLaws.{reads, reads_not}
use Rattle.press_rules.specs.Pkg1.{Start, Started, not_started, press_starts}
use Rattle.press_awaits.specs.OnContent.{started_as, press_begins, press_judges}
use Rattle.press_calls.specs.Call.{press_start, press_hears, press_takes}

-- ---- a start
module _ (p : Press) where
  begins : {t : Started} → t ≡ press_starts p → started_as p t.start t ≡ press_begins p
  begins e = ap (λ (t : Started). started_as p t.start t) e

  pub begins_not : {q : Press} {n : ℕ} → not_started n q ≡ press_starts p → refusing n p ≡ press_begins p
  begins_not e = begins e

  pub begins_sent : {q : Press} {x : Content} → record { start = Start.Open; press = q; answer = x } ≡ press_starts p → sending q x ≡ press_begins p
  begins_sent e = begins e

  pub start_is : (out : List ℕ) → answered_in p out (press_begins p) ≡ press_start p out
  unfolding press_start
  start_is out = refl

-- ---- a message
module _ (p : Press) (m out : List ℕ) where
  pub takes_not : {e : Misread} → taken_as (read_message m) ≡ Err e → refused_with 7 p out ≡ press_takes p m out
  unfolding press_takes
  takes_not {e} i = sym (reads_not (refused_with 7 p out) (press_hears p out) (read_message m) e i)

  pub takes_is : {x : Content} → taken_as (read_message m) ≡ Ok x → answered_in p out (press_judges p x) ≡ press_takes p m out
  unfolding press_takes
  takes_is {x} i = sym (reads (refused_with 7 p out) (press_hears p out) (read_message m) x i)
