-- The statuses of the press's commands keep its table well-formed. Assumes nothing.
use Prim.Native.Nat.{ℕ}
use mathlib.Core.Path.{refl}
use mathlib.Core.Bool.{Bool, true, false, cond}
use mathlib.Core.List.{List}
use Rattle.terms.specs.declared.Mode.{Mode}
use Rattle.terms.specs.declared.Mode.TheVariants.{Normal, Recovery}
use Rattle.cards.specs.declared.Card.{Card}
use Rattle.cards.specs.declared.Cards.{Cards}
use Rattle.cards.specs.Press.{no_card, is_live, luid_of, FineCard, WellFormed}
use Rattle.lists.specs.declared.Entry.{Entry}
use Rattle.places.specs.Act.{free, holds, act, with_answers}
use Rattle.places.proofs.KeptLaws.{SameNumber, Holds, Fair, order_keeps}
use Rattle.card_moves.specs.Moves.{table_of, with_table, is_entry, without_reports}
use Rattle.card_moves.proofs.FormedLaws.{act_formed, bare_formed, unmarked_formed}
use Rattle.press_ends.specs.End.{keeps_mark, cleaned, ended, end_mark, ends, marks_end}

-- a mark that ends keeps the LUID, or frees the place; what it keeps besides (P) stays
pub ended_fair : (last : ℕ) (P : Card → Type 0) → ((x : Card) → P x → P (cleaned x)) → (q : Card → Bool) → Fair luid_of no_card last P q ended
ended_fair last P stays q = record { same = λ x. same (is_live x.mark) x; fine = λ x e p. fine (is_live x.mark) x p }
  where
    same : (live : Bool) (x : Card) → SameNumber luid_of x (cond live (holds (cleaned x)) free)
    same true x = refl
    same false x = tt

    fine : (live : Bool) (x : Card) → P x → Holds P (cond live (holds (cleaned x)) free)
    fine true x p = stays x p
    fine false x p = tt

pub end_formed : (p : Entry × Entry) (c : Cards) → WellFormed c → WellFormed (end_mark p c)
unfolding end_mark
end_formed p c h = go (keeps_mark p.1.fields.code)
  where
    go : (b : Bool) → WellFormed (cond b c (with_table c (act no_card (is_entry p.0.fields.luid) ended (table_of c))))
    go true = h
    go false = act_formed c h (is_entry p.0.fields.luid) ended (ended_fair c.luid (FineCard c.fp) (λ x f. f) (is_entry p.0.fields.luid))

ends_formed : (cs xs : List Entry) (c : Cards) → WellFormed c → WellFormed (ends cs xs c)
unfolding ends
ends_formed cs xs c h = order_keeps end_mark WellFormed end_formed (with_answers cs xs) (without_reports c) (bare_formed c h)

pub marks_formed : (m : Mode) (cs xs : List Entry) (c : Cards) → WellFormed c → WellFormed (marks_end m cs xs c)
unfolding marks_end
marks_formed Normal cs xs c h = ends_formed cs xs c h
marks_formed Recovery cs xs c h = unmarked_formed (ends cs xs c) (ends_formed cs xs c h)
