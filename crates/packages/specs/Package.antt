-- The content of the six packages, as the two sides write them (01, "The six packages" and "Written form").
use Rattle.std.specs.Prelude.{ℕ, Bool, ◌&&◌, List, [], eqb, leb, take}
use Rattle.terms.specs.declared.Mode.{Mode}
use Rattle.terms.specs.declared.Mode.TheVariants.{Normal, Recovery}
use Rattle.elements.specs.declared.Head.{Head}
use Rattle.elements.specs.declared.End.{End}
use Rattle.elements.specs.Kinds.{is_false, is_true}
use Rattle.lists.specs.declared.Entry.{Entry}
use Rattle.lists.specs.Lists.{most_listed, no_end}
use Rattle.message.specs.declared.Content.{Content}
use Rattle.listing.specs.declared.Listing.{Listing}
use Rattle.listing.specs.Listing.{listing}

-- ---- heads: package, session number, message number; MsgRef of the header status; MsgRef and CmdRef of the SyncAlert's or Sync's status; anchors Last and Next, ChangeLogValidity
abbrev pub head_with : ℕ → ℕ → ℕ → ℕ → ℕ → ℕ → ℕ → ℕ → ℕ → Head
head_with pkg session message headerref msgref cmdref last next valid =
    record {
      pkg = pkg;
      session = session;
      message = message;
      headerref = headerref;
      msgref = msgref;
      cmdref = cmdref;
      last = last;
      next = next;
      valid = valid;
    }

-- ChangeLogValidity: true in a normal session, false in recovery
abbrev pub valid_in : Mode → ℕ
valid_in Normal = is_true
valid_in Recovery = is_false

-- MsgID is 1, 2, 3 on each side. The SyncAlert is command 1 of Pkg 1 and command 3 of Pkg 2; ref is the CmdID of the Sync that is answered
abbrev pub head1 : ℕ → ℕ → Head
head1 session anchor = head_with 1 session 1 0 0 0 anchor session 1

abbrev pub head2 : ℕ → ℕ → Mode → Head
head2 session anchor mode = head_with 2 session 1 1 1 1 anchor session (valid_in mode)

abbrev pub head3 : ℕ → Head
head3 session = head_with 3 session 2 1 1 3 0 0 0

abbrev pub head4 : ℕ → ℕ → Head
head4 session ref = head_with 4 session 2 2 2 ref 0 0 0

abbrev pub head5 : ℕ → ℕ → Head
head5 session ref = head_with 5 session 3 2 2 ref 0 0 0

abbrev pub head6 : ℕ → Head
head6 session = head_with 6 session 3 3 0 0 0 0 0

-- ---- a package: its head, its reports or statuses of commands, and its commands
-- the number of changes is the number of Add, Replace and Delete commands in the package, 0 if there are none (02, 1)
abbrev pub changes_of : ℕ → End
changes_of n = record { changes = n }

abbrev pub listed : Head → Listing → Listing → Content
listed h a c =
    record {
      head = h;
      answered = a.n;
      answers = a.items;
      answersend = changes_of c.n;
      commanded = c.n;
      commands = c.items;
      commandsend = no_end;
    }

abbrev pub packed : Head → List Entry → List Entry → Content
packed h xs cs = listed h (listing xs) (listing cs)

-- no package (what stands beside a refusal)
abbrev pub no_package : Content
no_package = packed (head_with 0 0 0 0 0 0 0 0 0) [] []

-- what a content says: as many of each as it counts, as far as it keeps them (33)
abbrev pub answers_in : Content → List Entry
answers_in p = take p.answered p.answers

abbrev pub commands_in : Content → List Entry
commands_in p = take p.commanded p.commands

-- ---- 8: the fixed statuses have the MsgRefs and CmdRef of what they answer, as the head that is due has them
abbrev pub refs_fit : Head → Head → Bool
refs_fit due h = eqb h.headerref due.headerref && (eqb h.msgref due.msgref && eqb h.cmdref due.cmdref)

-- 8: above 32 reports or statuses, above 32 commands, or a number of changes that is not the number of commands (02, 1)
abbrev pub counts_fit : ℕ → ℕ → End → Bool
counts_fit answered commanded sync = leb answered most_listed && (leb commanded most_listed && eqb sync.changes commanded)
