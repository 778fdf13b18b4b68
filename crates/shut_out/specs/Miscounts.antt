-- Sides that miscount (02, 1): each is the two right sides, but one sends a package with another number of changes than it has commands.
use Rattle.std.specs.Prelude.{ℕ, cond, eqb}
use Rattle.message.specs.declared.Content.{Content}
use Rattle.packages.specs.Package.{changes_of}
use Rattle.calls.specs.Says.{Called, Says, sends, done, refuses}
use Rattle.course.specs.Course.{Sides}
use Rattle.course.specs.OnContent.{on_content}

-- the number of reports, or of statuses, which are as many as the commands of the package before
abbrev pub miscount : Content → ℕ
miscount x = x.answered

abbrev pub with_changes : ℕ → Content → Content
with_changes n x =
    record {
      head = x.head;
      answered = x.answered;
      answers = x.answers;
      answersend = changes_of n;
      commanded = x.commanded;
      commands = x.commands;
      commandsend = x.commandsend;
    }

abbrev pub miscounted : Says Content → Says Content
miscounted (sends x) = sends (with_changes (miscount x) x)
miscounted done = done
miscounted (refuses n) = refuses n

abbrev pub miscounting : {S : Type 0} → Called S Content → Called S Content
miscounting c = record { side = c.side; says = miscounted c.says }

-- the press counts the reports of Pkg 3 (it answers Pkg 2)
abbrev pub counts_reports : Sides Content
counts_reports =
    record {
      start = on_content.start;
      press_takes = λ p x. cond (eqb x.head.pkg 2) (miscounting (on_content.press_takes p x)) (on_content.press_takes p x);
      server_takes = on_content.server_takes;
      by_hand = λ x. x;
    }

-- the server counts the commands of Pkg 3 in Pkg 4 (it answers Pkg 3)
abbrev pub counts_others : Sides Content
counts_others =
    record {
      start = on_content.start;
      press_takes = on_content.press_takes;
      server_takes = λ s x. cond (eqb x.head.pkg 3) (miscounting (on_content.server_takes s x)) (on_content.server_takes s x);
      by_hand = λ x. x;
    }
