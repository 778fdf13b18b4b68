-- Demand 3, "No server card is ever paired with two press cards, nor the reverse": of every world whose press is well-formed and whose server is safe, and so of every one reached. Assumes nothing.
use Prim.Native.Nat.{ℕ}
use mathlib.Core.Path.{◌≡◌, sym, ap, ◌∙◌, subst}
use mathlib.Core.Bool.{true, not, ◌&&◌}
use native.Mathlib.Omega.{arith}
use lib.Dec.{eqb}
use lib.ListN.{get_or}
use Rattle.terms.specs.declared.Luid.{Luid}
use Rattle.terms.specs.declared.Guid.{Guid}
use Rattle.cards.specs.Press.{WellFormed}
use Rattle.records.specs.declared.Record.{Record}
use Rattle.records.specs.Server.{no_record}
use Rattle.record_moves.specs.Named.{has_luid, Safe}
use Rattle.record_moves.proofs.HasLaws.{has_own}
use Rattle.course.specs.Course.{World}
use Rattle.demand3.specs.Demand3.{OnePair}

module _ {M : Type 0} (w : World M) (formed : WellFormed w.press.cards) (safe : Safe w.server.records) where
  abbrev at : ℕ → Record
  at i = get_or w.server.records.places i no_record

  pub one_pair : OnePair w
  one_pair =
      record {
        one_press_card = λ g l k a b.
            let e : a.place ≡ b.place = safe.formed.guids.apart a.place b.place a.used b.used (ap (λ (z : Guid). z.0) (a.guid ∙ sym b.guid)) in
            sym a.luid ∙ (ap (λ (i : ℕ). (at i).pairing.luid) e ∙ b.luid);
        one_server_card = λ g h l a b.
            let here : has_luid l (at b.place) ≡ true = subst (λ (z : Luid). (not (eqb z.0 0) && eqb z.0 l.0) ≡ true) (sym b.luid) (has_own l (let given = b.given in omega (arith, given))) in
            let e : a.place ≡ b.place = safe.once a.place b.place a.used b.used (subst (λ (z : Luid). has_luid z (at b.place) ≡ true) (sym a.luid) here) in
            sym a.guid ∙ (ap (λ (i : ℕ). (at i).guid) e ∙ b.guid);
        one_place = λ l i j a b. formed.luids.apart i j a.used b.used (ap (λ (z : Luid). z.0) (a.luid ∙ sym b.luid));
        one_record = λ g i j a b. safe.formed.guids.apart i j a.used b.used (ap (λ (z : Guid). z.0) (a.guid ∙ sym b.guid));
      }
