-- A package in the written form keeps to the limit, and reads back as it was.
-- Assumes nothing.
use Prim.Native.Nat.{ℕ, ◌+◌, ◌≤◌}
use mathlib.Core.Path.{◌≡◌, sym, ap, ap₂, ◌∙◌, subst}
use mathlib.Core.List.{List, [], ◌∷◌, map}
use native.Mathlib.Omega.{arith}
use lib.ListN.{length, length-map}
use Rattle.token.specs.Ans.{got}
use Rattle.grammar.specs.Numbered.{GoodAll, numbered}
use Rattle.page.specs.declared.Kinds.{Kinds}
use Rattle.elements.specs.declared.End.{End}
use Rattle.elements.specs.Element.{Element, element_c, end_c}
use Rattle.lists.specs.declared.Entry.{Entry}
use Rattle.lists.specs.Lists.{most_listed, entry_of}
use Rattle.message.specs.declared.Content.{Content}
use Rattle.message.specs.Message.{Message, form_of, message_c, limit, read_message}
use Rattle.message.specs.Answer.{message_of}
use Rattle.message.proofs.MessageLaws.{reads_back}
use Rattle.places.proofs.Every.{Every}
use Rattle.listing.proofs.ListingLaws.{listing_items}
use Rattle.packages.specs.Package.{answers_in, commands_in}
use Rattle.sendable.specs.Sendable.{Sendable, SendableEnd, SendablePackage, longest_sent}
use Rattle.sendable.proofs.MostLaws.{message_most}

-- ---- its message has a written form
all_good : (k : Kinds) (id : ℕ) (xs : List Entry) → 1 ≤ id → id + length xs ≤ 4294967295 → Every (Sendable k) xs → GoodAll id (element_c k) (map entry_of xs)
all_good k id [] a b h = tt
all_good k id (x ∷ xs) a b h = (h.0.0 id (a, omega arith), all_good k (id + 1) xs (omega arith) (omega arith) h.1)

list_good : (k : Kinds) (z id : ℕ) (xs : List Entry) (e : End) → 1 ≤ id → id + length xs ≤ 4294967295 → Every (Sendable k) xs → SendableEnd z e → (numbered id (element_c k) (end_c z)).good (map entry_of xs, e)
list_good k z id xs e a b h s = (all_good k id xs a b h, s (id + length (map entry_of xs)) (omega arith, omega (arith, length-map xs entry_of)))

-- at most 32 elements stay at most 32
few : (xs : List Entry) → length xs ≤ most_listed → length (map entry_of xs) ≤ most_listed
few xs h = omega (arith, length-map xs entry_of)

module _ (c : Content) (s : SendablePackage c) where
  abbrev message_with : List Element → List Element → Message
  message_with xs cs = record { head = c.head; answers = xs; answersend = c.answersend; commands = cs; commandsend = c.commandsend }

  abbrev sent : Message
  sent = message_with (map entry_of s.answers) (map entry_of s.commands)

  says : message_of c ≡ sent
  says = ap₂ (λ (xs cs : List Entry). message_with (map entry_of xs) (map entry_of cs)) (ap answers_in s.kept ∙ listing_items s.answers) (ap commands_in s.kept ∙ listing_items s.commands)

  good : message_c.good sent
  unfolding message_c
  good =
      let f = form_of c.head.pkg in (
        s.head,
        (
          list_good f.answers f.answersend 3 s.answers c.answersend (omega arith) (omega (arith, s.answers_fit)) s.answers_good s.answers_end,
          list_good f.commands f.commandsend (4 + length (map entry_of s.answers)) s.commands c.commandsend (omega arith) (omega (arith, s.commands_fit, few s.answers s.answers_fit)) s.commands_good s.commands_end,
        ),
      )

  pub sent_good : message_c.good (message_of c)
  sent_good = subst message_c.good (sym says) good

  -- ---- how long it is at most: a Sync begins with as many changes as it has commands
  few_changes : (c.answersend.changes ≤ most_listed) × (c.commandsend.changes ≤ most_listed)
  few_changes = subst (λ (x : Content). (x.answersend.changes ≤ most_listed) × (x.commandsend.changes ≤ most_listed)) (sym s.kept) (s.commands_fit, omega arith)

  pub sent_short : length (message_c.write (message_of c)) ≤ longest_sent
  sent_short =
      let h = message_most sent good s.own (few s.answers s.answers_fit) (few s.commands s.commands_fit) few_changes.0 few_changes.1 in
      subst (λ (m : Message). length (message_c.write m) ≤ longest_sent) (sym says) h

  -- so it keeps to the limit of a message
  pub sent_fits : length (message_c.write (message_of c)) ≤ limit
  sent_fits = omega (arith, sent_short)

  -- ---- the reader takes what the writer writes
  pub sent_reads_back : read_message (message_c.write (message_of c)) ≡ got (message_of c) (length (message_c.write (message_of c)))
  sent_reads_back = reads_back (message_of c) sent_good sent_fits
