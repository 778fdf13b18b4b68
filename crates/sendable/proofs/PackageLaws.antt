-- The six packages in the written form, from their heads and lists.
-- Assumes nothing.
use Prim.Native.Nat.{ℕ, ◌≤◌}
use mathlib.Core.Path.{refl}
use mathlib.Core.List.{List, []}
use native.Mathlib.Omega.{arith}
use lib.ListN.{length}
use Rattle.lists.specs.Lists.{most_listed, no_end}
use Rattle.terms.specs.declared.Mode.{Mode}
use Rattle.elements.specs.declared.Head.{Head}
use Rattle.elements.specs.Element.{head_c}
use Rattle.lists.specs.declared.Entry.{Entry}
use Rattle.message.specs.Message.{form_of, report_kinds, empty_statuses, statuses, press_commands, server_commands}
use Rattle.places.proofs.Every.{Every}
use Rattle.packages.specs.Package.{changes_of, packed, head1, head2, head3, head4, head5, head6}
use Rattle.sendable.specs.Sendable.{Number, CmdRef, Sendable, SendableEnd, OwnHead, own1, own2, own3, own4, own5, own6, SendablePackage}
use Rattle.sendable.proofs.HeadLaws.{good_head1, good_head2, good_head3, good_head4, good_head5, good_head6}
use Rattle.sendable.proofs.EndLaws.{server_sync, press_sync, sync_over, statuses_over, body_over, message_over}

-- a package of its parts
sendable : (h : Head) → head_c.good h → OwnHead h → (xs : List Entry) → length xs ≤ most_listed → Every (Sendable (form_of h.pkg).answers) xs
    → (cs : List Entry) → length cs ≤ most_listed → Every (Sendable (form_of h.pkg).commands) cs
    → SendableEnd (form_of h.pkg).answersend (changes_of (length cs)) → SendableEnd (form_of h.pkg).commandsend no_end → SendablePackage (packed h xs cs)
sendable h g o xs n a cs m c s e =
    record { head = g; own = o; answers = xs; commands = cs; kept = refl; answers_fit = n; commands_fit = m; answers_good = a; commands_good = c; answers_end = s; commands_end = e }

-- and one that is its head alone
bare : (h : Head) → head_c.good h → OwnHead h → SendableEnd (form_of h.pkg).answersend no_end → SendableEnd (form_of h.pkg).commandsend no_end → SendablePackage (packed h [] [])
bare h g o s e = sendable h g o [] (omega arith) tt [] (omega arith) tt s e

module _ (session : ℕ) (s : Number session) where
  pub pkg1_sendable : (anchor : ℕ) → Number anchor → SendablePackage (packed (head1 session anchor) [] [])
  unfolding form_of
  pkg1_sendable anchor a = bare (head1 session anchor) (good_head1 session s anchor a) (own1 session anchor) body_over message_over

  pub pkg2_sendable : (anchor : ℕ) (mode : Mode) → Number anchor → SendablePackage (packed (head2 session anchor mode) [] [])
  unfolding form_of
  pkg2_sendable anchor mode a = bare (head2 session anchor mode) (good_head2 session s anchor mode a) (own2 session anchor mode) body_over message_over

  module _ (xs : List Entry) (n : length xs ≤ most_listed) where
    module _ (cs : List Entry) (m : length cs ≤ most_listed) where
      pub pkg3_sendable : Every (Sendable report_kinds) xs → Every (Sendable press_commands) cs → SendablePackage (packed (head3 session) xs cs)
      unfolding form_of
      pkg3_sendable a c = sendable (head3 session) (good_head3 session s) (own3 session) xs n a cs m c (server_sync (length cs) m) sync_over

      pub pkg4_sendable : (ref : ℕ) → CmdRef ref → Every (Sendable empty_statuses) xs → Every (Sendable server_commands) cs → SendablePackage (packed (head4 session ref) xs cs)
      unfolding form_of
      pkg4_sendable ref r a c = sendable (head4 session ref) (good_head4 session s ref r) (own4 session ref) xs n a cs m c (press_sync (length cs) m) sync_over

    pub pkg5_sendable : (ref : ℕ) → CmdRef ref → Every (Sendable statuses) xs → SendablePackage (packed (head5 session ref) xs [])
    unfolding form_of
    pkg5_sendable ref r a = sendable (head5 session ref) (good_head5 session s ref r) (own5 session ref) xs n a [] (omega arith) tt statuses_over message_over

  pub pkg6_sendable : SendablePackage (packed (head6 session) [] [])
  unfolding form_of
  pkg6_sendable = bare (head6 session) (good_head6 session s) (own6 session) body_over message_over
