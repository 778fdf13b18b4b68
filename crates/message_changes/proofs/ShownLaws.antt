-- What the code reads of a message is what is shown of it.
-- Assumes nothing.
use Prim.Native.Nat.{ℕ, ◌<◌}
use mathlib.Core.Path.{◌≡◌, refl, ap}
use Rattle.std.specs.Prelude.{Ok}
use mathlib.Core.List.{List}
use native.Mathlib.Omega.{arith}
use Rattle.token.specs.Ans.{Ans, got, bad}
use Rattle.message.specs.declared.Content.{Content}
use Rattle.message.specs.Message.{Message, message_c, read_message}
use Rattle.message.specs.Answer.{content_for, taken_as}
use Rattle.message.proofs.MessageLaws.{reads_good}
use Rattle.message_changes.specs.Shown.{shown, shown_of}

module _ (s : List ℕ) (c : Content) (e : Ok c ≡ taken_as (read_message s)) where
  -- there are six packages
  pub few_packages : c.head.pkg < 7
  unfolding message_c
  few_packages = go (read_message s) refl e
    where
      go : (x : Ans Message) → read_message s ≡ x → Ok c ≡ taken_as x → c.head.pkg < 7
      go (got m p) i h = let v : c ≡ content_for m = cc in omega (arith, ap (λ (w : Content). w.head.pkg) v, (reads_good s m p i).0.0.1)
      go (bad k p) i h = cc

  pub shown_read : shown c.head c.answersend ≡ shown_of (read_message s)
  shown_read = go (read_message s) e
    where
      go : (x : Ans Message) → Ok c ≡ taken_as x → shown c.head c.answersend ≡ shown_of x
      go (got m p) h = let v : c ≡ content_for m = cc in ap (λ (w : Content). shown w.head w.answersend) v
      go (bad k p) h = cc
