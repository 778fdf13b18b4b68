-- Commands to one side (docs/BENCH.md): what each leaves, whichever side it is.
use Rattle.std.specs.Prelude.{◌≡◌, ℕ, min, Bool, true, false, List, length, drop, Result}
use Rattle.std.proofs.lemmas.List.Edits.{sets}
use Rattle.calls.specs.After.{After}
use Rattle.script.specs.declared.Act.{Act}
use Rattle.terms.specs.declared.Refusal.{Refusal}
use Rattle.answers.specs.declared.Answer.{Answer}
use Rattle.answers.specs.Said.{Said, said_as}
use Rattle.desk.specs.declared.Desk.{Desk}
use Rattle.desk.specs.Desk.{Told, saying}
use Rattle.desk.specs.Lent.{within, said_of}

-- what a command leaves: its answer with the state, and the output's bytes
pub record Left : Type 0 where
  pub told : Told
  pub out : List ℕ

abbrev pub left : Told → List ℕ → Left
left t o = record { told = t; out = o }

-- ---- a side, as its commands see it: where it stands on the desk, its edits, its call on bytes, and its block
-- an edit leaves the side, and answers by whether it is an add
pub record Edit (S : Type 0) : Type 0 where
  pub said : Bool → Said
  pub side : S

pub record Side (S : Type 0) : Type 0 where
  pub here : Desk → S
  pub back : Desk → S → Desk
  pub adds : S → List ℕ → Edit S
  pub edits : S → ℕ → List ℕ → Edit S
  pub deletes : S → ℕ → Edit S
  pub gives_up : S → S
  pub takes : S → List ℕ → List ℕ → After S
  pub block : S → List ℕ

-- what the code's edit answers and leaves is what the edit says
abbrev pub Answers : {S : Type 0} → Edit S → Bool → Result Answer Refusal → S → Type 0
Answers e add r s = (s ≡ e.side) × (said_as r ≡ e.said add)

-- ---- what a command does to it
-- an edit that was done answers `ok`, an add with the number given
abbrev pub done_said : ℕ → Bool → Said
done_said n true = Said.Number n
done_said n false = Said.Yes

abbrev pub edit_told : {S : Type 0} → Side S → Desk → Edit S → Bool → Told
edit_told x d e add = saying (x.back d e.side) (e.said add)

-- a message by hand
abbrev pub heard : {S : Type 0} → Side S → Desk → After S → Left
heard x d a = left (saying (x.back d a.side) (said_of a.reply)) a.output

unfoldable pub hears : {S : Type 0} → Side S → Desk → List ℕ → List ℕ → Left
hears x d m o = heard x d (within (x.takes (x.here d) m) d.lent o)

-- these bytes stand at the output's start, as far as there is room
abbrev pub shown : Desk → List ℕ → List ℕ → Left
shown d b o = left (saying d (Said.Standing (min (length b) (length o)))) (sets o 0 b)

unfoldable pub shows : {S : Type 0} → Side S → Desk → List ℕ → Left
shows x d o = shown d (x.block (x.here d)) o

unfoldable pub acts : {S : Type 0} → Side S → Desk → Act → List ℕ → List ℕ → Left
acts x d (Act.Add at) line o = left (edit_told x d (x.adds (x.here d) (drop at line)) true) o
acts x d (Act.Edit n at) line o = left (edit_told x d (x.edits (x.here d) n (drop at line)) false) o
acts x d (Act.Delete n) line o = left (edit_told x d (x.deletes (x.here d) n) false) o
acts x d (Act.Message at) line o = hears x d (drop at line) o
acts x d Act.GiveUp line o = left (saying (x.back d (x.gives_up (x.here d))) Said.Yes) o
acts x d Act.Tables line o = shows x d o
acts x d Act.Unknown line o = left (saying d Said.Unknown) o
