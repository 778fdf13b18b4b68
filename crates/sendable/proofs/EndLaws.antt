-- What ends the lists of the packages is in the written form.
-- Assumes nothing.
use Prim.Native.Nat.{ℕ, ◌≤◌}
use mathlib.Core.Path.{◌≡◌, refl}
use native.Mathlib.Omega.{arith}
use Rattle.shape.specs.Row.{blank}
use Rattle.shape.specs.Marks.{field_of}
use Rattle.shape.specs.Shape.{GoodShape, copy_shape}
use Rattle.page.specs.Page.{page, shape}
use Rattle.elements.specs.declared.End.{End}
use Rattle.elements.specs.Element.{of_end}
use Rattle.elements.specs.Kinds.{sync_to_server, sync_to_press, sync_ends, statuses_end, body_ends, message_ends}
use Rattle.lists.specs.Lists.{most_listed, no_end}
use Rattle.packages.specs.Package.{changes_of}
use Rattle.sendable.specs.Sendable.{SendableEnd}
use Rattle.sendable.proofs.MarkLaws.{marks, by_marks}

-- by the marks of its line
good_end : (z : ℕ) (e : End) → ((id : ℕ) → GoodShape id (of_end e) (marks (shape z))) → copy_shape (of_end e) (marks (shape z)) blank ≡ of_end e → SendableEnd z e
good_end z e g c id n = by_marks (shape z) id (of_end e) n.1 (g id) c

-- ---- the Sync begins, with at most 32 changes
module _ (n : ℕ) (h : n ≤ most_listed) where
  pub server_sync : SendableEnd sync_to_server (changes_of n)
  unfolding shape page field_of
  server_sync = good_end sync_to_server (changes_of n) (λ id. ((omega arith, omega arith), tt)) refl

  pub press_sync : SendableEnd sync_to_press (changes_of n)
  unfolding shape page field_of
  press_sync = good_end sync_to_press (changes_of n) (λ id. ((omega arith, omega arith), tt)) refl

-- ---- the other ends say nothing
pub sync_over : SendableEnd sync_ends no_end
unfolding shape page field_of
sync_over = good_end sync_ends no_end (λ id. tt) refl

pub statuses_over : SendableEnd statuses_end no_end
unfolding shape page field_of
statuses_over = good_end statuses_end no_end (λ id. tt) refl

pub body_over : SendableEnd body_ends no_end
unfolding shape page field_of
body_over = good_end body_ends no_end (λ id. tt) refl

pub message_over : SendableEnd message_ends no_end
unfolding shape page field_of
message_over = good_end message_ends no_end (λ id. tt) refl
