-- A record once the server has heard the report of an entry: as it was where the report does not name it, and no other the second time. Assumes nothing.
use Prim.Native.Nat.{◌<◌}
use mathlib.Core.Path.{◌≡◌, refl, ap, ◌∙◌}
use mathlib.Core.Bool.{Bool, true, false, cond, ◌&&◌}
use native.Mathlib.Omega.{arith}
use borrow.Author.Tests.{le-leb, lt-leb}
use Rattle.places.proofs.Choice.{chosen, passed}
use Rattle.lists.specs.declared.Entry.{Entry}
use Rattle.cards.specs.declared.Card.{Card}
use Rattle.records.specs.declared.Record.{Record}
use Rattle.record_moves.specs.Named.{is_named}
use Rattle.server_reports.specs.Step1.{named_by, is_late, counted, told}
use Rattle.pairs.proofs.Invariant.{report_in, tells_of, heard}

-- a record that x does not name
pub unheard : (x : Card) (y : Record) → tells_of x y ≡ false → heard x y ≡ y
unfolding heard
unheard x y e = passed (tells_of x y) (told (report_in x) y) y e

pub no_report_lem : (x : Card) → x.report.on ≡ false → (y : Record) → heard x y ≡ y
unfolding tells_of
no_report_lem x e y = unheard x y (ap (λ (b : Bool). b && is_named (named_by (report_in x)) y) e)

-- one that it names; and one that it has news of
pub heard_told : (x : Card) (y : Record) → tells_of x y ≡ true → heard x y ≡ told (report_in x) y
unfolding heard
heard_told x y t = chosen (tells_of x y) (told (report_in x) y) y t

pub heard_counted : (x : Card) (y : Record) → tells_of x y ≡ true → y.pairing.known < x.report.fp → heard x y ≡ counted (report_in x) y
unfolding told
heard_counted x y t new = heard_told x y t ∙ passed (is_late (report_in x) y) y (counted (report_in x) y) (lt-leb x.report.fp y.pairing.known new)

-- ---- a report that was heard is late
told_again : (r : Entry) (y : Record) → told r (told r y) ≡ told r y
unfolding told
told_again r y = go (is_late r y) refl
  where
    go : (b : Bool) → is_late r y ≡ b → cond (is_late r (cond b y (counted r y))) (cond b y (counted r y)) (counted r (cond b y (counted r y))) ≡ cond b y (counted r y)
    go true e = ap (λ (t : Bool). cond t y (counted r y)) e
    go false e = ap (λ (t : Bool). cond t (counted r y) (counted r (counted r y))) (le-leb r.fields.fp r.fields.fp (omega arith))

pub heard_again : (x : Card) (y : Record) → heard x (heard x y) ≡ heard x y
unfolding heard
heard_again x y = go (tells_of x y) refl
  where
    go : (b : Bool) → tells_of x y ≡ b
        → cond (tells_of x (cond b (told (report_in x) y) y)) (told (report_in x) (cond b (told (report_in x) y) y)) (cond b (told (report_in x) y) y) ≡ cond b (told (report_in x) y) y
    go false e = ap (λ (t : Bool). cond t (told (report_in x) y) y) e
    go true e = either (tells_of x (told (report_in x) y))
      where
        either : (t : Bool) → cond t (told (report_in x) (told (report_in x) y)) (told (report_in x) y) ≡ told (report_in x) y
        either true = told_again (report_in x) y
        either false = refl
