-- The press drops its reports, at Pkg 4 and at Pkg 6: where the server has nothing new to hear, the invariant stays. Assumes nothing.
use Prim.Native.Nat.{ℕ}
use mathlib.Core.Path.{◌≡◌, refl, sym, ◌∙◌, subst}
use mathlib.Core.Bool.{true, false≢true}
use native.Mathlib.Omega.{arith}
use lib.ListN.{get_or}
use Rattle.places.specs.Act.{Table, holds, put_at}
use Rattle.places.proofs.KeptLaws.{Hit, each_keeps, sound_put, each_put}
use Rattle.places.proofs.Views.{view_here, view_other}
use Rattle.places.proofs.Held.{hit_holds, holds_one, put_all}
use Rattle.cards.specs.declared.Card.{Card}
use Rattle.cards.specs.declared.Cards.{Cards}
use Rattle.cards.specs.Press as press
use Rattle.cards.specs.Press.{no_card}
use Rattle.records.specs.declared.Record.{Record}
use Rattle.records.specs.declared.Records.{Records}
use Rattle.record_moves.specs.Named.{has_luid}
use Rattle.card_moves.specs.Moves as moves
use Rattle.card_moves.specs.Moves.{any_entry, bare, with_bare, without_reports}
use Rattle.server_each.proofs.EachRecord.{record_at}
use Rattle.pairs.proofs.Invariant.{card_at, heard, Agrees, FromServer}
use Rattle.pairs.proofs.Heard.{no_report_lem}
use Rattle.pairs.proofs.EntryPut.{FitsHere, entry_put}
use Rattle.server_pairs.proofs.Later.{Told}
use Rattle.server_pairs.proofs.Merge.{agreed}

module _ (c : Cards) (s : Records) (h : Told c s) (i : ℕ) (x : Card) (e : card_at c i ≡ holds x) where
  no_from : FromServer (bare x) → ⊥
  no_from f = false≢true f.on

  unheard_bare : (y : Record) → heard (bare x) y ≡ y
  unheard_bare y = no_report_lem (bare x) refl y

  pub bare_fits : FitsHere c s i (holds (bare x))
  bare_fits =
      record {
        ok = record { bare = λ a. refl; older = λ on. absurd (false≢true on); known = λ on. absurd (false≢true on) };
        pairs = λ j y w.
            record {
              own = λ f. absurd (no_from f);
              sole = λ f. absurd (no_from f);
              agrees = λ live k.
                  let has : has_luid x.luid y ≡ true = subst (λ (u : Record). has_luid x.luid u ≡ true) (unheard_bare y) k in
                  let a = agreed c s h i x e live j y w has in
                  subst (Agrees (bare x)) (sym (unheard_bare y)) (record { below = a.below; clean = a.clean; wording = a.wording });
            };
        sole = λ f. absurd (no_from f);
        recorded = λ live old.
            let r = h.inv.recorded i x e live old in
            record {
              place = r.place;
              record' = r.record';
              here = r.here;
              is = subst (λ (u : Record). has_luid x.luid u ≡ true) (h.quiet i x e r.place r.record' r.here ∙ sym (unheard_bare r.record')) r.is;
            };
        still = λ j y w p d v g k. subst (λ (u : Card). has_luid u.luid y ≡ true) (sym (holds_one x v (sym e ∙ g))) k;
      }

-- ---- all of them
pub bare_told : (c : Cards) (s : Records) → Told c s → Told (without_reports c) s
unfolding without_reports
bare_told c s h = (each_keeps no_card any_entry with_bare State one (λ t k. k.0.inv.formed.luids.long) (moves.table_of c) (h, h.inv.formed)).0
  where
    State : Table Card → Type 0
    State t = Told (moves.with_table c t) s × press.WellFormed (moves.with_table c t)

    one : (t : Table Card) (i : ℕ) → Hit no_card any_entry t i → State t → State (put_at t i (with_bare (get_or t.places i no_card)))
    one t i hit k =
        let c1 = moves.with_table c t in
        let x = get_or t.places i no_card in
        let e : card_at c1 i ≡ holds x = hit_holds no_card any_entry t i hit in
        let here = view_here no_card t i (holds (bare x)) hit.inside in
        let c2 = moves.with_table c (put_at t i (holds (bare x))) in
        let other : (n : ℕ) → (n ≡ i → ⊥) → card_at c2 n ≡ card_at c1 n = λ n ne. view_other no_card t i (holds (bare x)) n ne in
        let formed : press.WellFormed c2 =
        record {
          station = k.1.station;
          luids = sound_put press.luid_of no_card c.luid t i (omega (arith, hit.inside, k.1.luids.long)) hit.used (holds (bare x)) refl k.1.luids;
          cards = each_put press.luid_of no_card c.luid (press.FineCard c.fp) t i (omega (arith, hit.inside, k.1.luids.long)) hit.used (holds (bare x))
              (let f = k.1.cards i hit.used in (f.0, f.1, f.2, λ on. absurd (false≢true on))) k.1.luids k.1.cards;
        } in (
          record {
            inv = entry_put c1 c2 s i (holds (bare x)) here other formed (omega arith) (omega arith) (bare_fits c1 s k.0 i x e) k.0.inv;
            quiet = put_all no_card (λ z. (j : ℕ) (y : Record) → record_at s j ≡ holds y → heard z y ≡ y) t i (holds (bare x)) hit.inside k.0.quiet (λ j y w. no_report_lem (bare x) refl y);
          },
          formed,
        )
