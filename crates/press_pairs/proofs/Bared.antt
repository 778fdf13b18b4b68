-- The press before it takes the server's commands: its reports gone, what the server knows of each command, and what it has lost. Assumes nothing.
use Prim.Native.Nat.{ℕ}
use mathlib.Core.Path.{◌≡◌, refl, sym, ap, ◌∙◌, subst}
use mathlib.Core.Bool.{Bool, true, false, not, ◌&&◌, ◌||◌, false≢true}
use mathlib.Core.List.{List, [], ◌∷◌, Memᴰ}
use native.Mathlib.Omega.{arith}
use lib.Dec.{eqb}
use lib.ListN.{get_or, length}
use borrow.Author.Tests.{eqb-true, leb-true}
use Rattle.places.specs.Set.{all_places}
use Rattle.places.specs.Act.{holds}
use Rattle.places.proofs.Views.{on, each_view}
use Rattle.places.proofs.Every.{Every, every_in}
use Rattle.places.proofs.Held.{holds_hit, holds_is, on_each}
use Rattle.lists.specs.declared.Entry.{Entry}
use Rattle.terms.specs.declared.Luid.{Luid}
use Rattle.terms.specs.declared.Mode.{Mode}
use Rattle.terms.specs.declared.Mode.TheVariants.{Normal, Recovery}
use Rattle.cards.specs.declared.Card.{Card}
use Rattle.cards.specs.declared.Cards.{Cards}
use Rattle.cards.specs.Press as press
use Rattle.cards.specs.Press.{no_card}
use Rattle.records.specs.declared.Record.{Record}
use Rattle.records.specs.declared.Records.{Records}
use Rattle.record_moves.specs.Named.{is_paired, has_luid}
use Rattle.record_moves.proofs.HasLaws.{has_as, has_number_lem, has_paired}
use Rattle.card_moves.specs.Moves as moves
use Rattle.card_moves.specs.Moves.{any_entry, bare, with_bare, without_reports}
use Rattle.server_deletes.specs.Step2.{names_luid, left_out}
use Rattle.server_each.proofs.EachRecord.{record_at}
use Rattle.press_tells.specs.Tell.{Tell}
use Rattle.press_tells.specs.Tell.{tells, told_of, commands}
use Rattle.press_tells.proofs.TellLaws.{IsTold, words, told_each}
use Rattle.pairs.proofs.Invariant.{card_at}
use Rattle.pairs.proofs.Once.{one_entry}
use Rattle.server_pairs.proofs.Later.{Told}
use Rattle.server_pairs.proofs.Merge.{IsChange}
use Rattle.server_pairs.proofs.Pkg3.{own_changes, normal_deletes, all_changes}
use Rattle.server_pairs.proofs.Settled.{Done, Unasked}
use Rattle.press_pairs.proofs.Bare.{bare_told}
use Rattle.press_pairs.proofs.Ends.{Knows, Lost, Bared, EndsAt}

-- ---- the entries of the press without its reports
module _ (c : Cards) (long : length c.places ≡ all_places) where
  pub bare_view : (i : ℕ) → card_at (without_reports c) i ≡ on any_entry with_bare (card_at c i)
  unfolding without_reports
  bare_view i = each_view no_card any_entry with_bare (moves.table_of c) long i

  -- each is an entry of the press, bare
  pub bare_of : (P : ℕ → Card → Type 0) → ((i : ℕ) (x : Card) → card_at c i ≡ holds x → P i (bare x)) → (i : ℕ) (z : Card) → card_at (without_reports c) i ≡ holds z → P i z
  bare_of P k = on_each no_card any_entry with_bare (moves.table_of c) (moves.table_of (without_reports c)) bare_view P (λ i x e q. k i x e) (λ i x e q. absurd (false≢true (sym q)))

-- ---- what the server has lost
names_some : (cs : List Entry) (l : Luid) → names_luid cs l ≡ true → (e : Entry) × Memᴰ e cs × (e.fields.luid.0 ≡ l.0)
unfolding names_luid
names_some [] l q = absurd (false≢true q)
names_some (c ∷ cs) l q = go (eqb c.fields.luid.0 l.0) refl q (names_some cs l)
  where
    go : (b : Bool) → eqb c.fields.luid.0 l.0 ≡ b → (b || names_luid cs l) ≡ true → (names_luid cs l ≡ true → (e : Entry) × Memᴰ e cs × (e.fields.luid.0 ≡ l.0)) → (e : Entry) × Memᴰ e (c ∷ cs) × (e.fields.luid.0 ≡ l.0)
    go true t w rest = (c, Memᴰ.head refl, eqb-true c.fields.luid.0 l.0 t)
    go false t w rest = let r = rest w in (r.0, Memᴰ.tail r.1, r.2)

marks_lost : (n : Mode) (c : Cards) → press.WellFormed c → (s : Records) → ((j : ℕ) (y : Record) → record_at s j ≡ holds y → Unasked n (commands n c) y)
    → (i : ℕ) (x : Card) → card_at c i ≡ holds x → press.is_live x.mark ≡ false → Lost s x
unfolding left_out
marks_lost Normal c f s u i x e dead j y w has =
    let told : IsTold Tell.Deletes c i = holds_hit no_card (tells Tell.Deletes) (moves.table_of c) i x e (ap not dead) in
    let is : get_or c.places i no_card ≡ x = holds_is no_card (moves.table_of c) i x e in
    let k : Every (λ d. has_luid d.fields.luid y ≡ false) (told_of Tell.Deletes c) = subst (Every (λ d. has_luid d.fields.luid y ≡ false)) (normal_deletes c f) (u j y w) in
    let not_has = every_in (λ d. has_luid d.fields.luid y ≡ false) (words Tell.Deletes c i) (told_of Tell.Deletes c) (told_each Tell.Deletes c i told) k in
    false≢true (sym not_has ∙ subst (λ (z : Card). has_luid z.luid y ≡ true) (sym is) has)
marks_lost Recovery c f s u i x e dead j y w has =
    let p = has_paired x.luid y has in
    let named : names_luid (commands Recovery c) y.pairing.luid ≡ true = back (is_paired y) (names_luid (commands Recovery c) y.pairing.luid) p (u j y w) in
    let r = names_some (commands Recovery c) y.pairing.luid named in
    let k : IsChange c r.0 = every_in (IsChange c) r.0 (commands Recovery c) r.1 (subst (Every (IsChange c)) (all_changes c f) (own_changes c f Recovery)) in
    let same : k.card ≡ x = one_entry c f k.place i k.card x k.here e (sym k.luid ∙ (r.2 ∙ has_number_lem x.luid y has)) in
    false≢true (sym dead ∙ subst (λ (z : Card). press.is_live z.mark ≡ true) same k.live)
  where
    back : (a b : Bool) → a ≡ true → (a && not b) ≡ false → b ≡ true
    back true true p q = refl
    back true false p q = absurd (false≢true (sym q))
    back false b p q = absurd (false≢true p)

-- ---- the press before the statuses
pub bared : (n : Mode) (c : Cards) (s : Records) → Told c s → ((j : ℕ) (y : Record) → record_at s j ≡ holds y → Unasked n (commands n c) y) → Bared (without_reports c) s
bared n c s h u =
    let long = h.inv.formed.luids.long in
    record {
      inv = (bare_told c s h).inv;
      bare = bare_of c long (λ i z. z.report.on ≡ false) (λ i x e. refl);
      lost = bare_of c long (λ i z. press.is_live z.mark ≡ false → Lost s z) (λ i x e dead. marks_lost n c h.inv.formed s u i x e dead);
    }

-- a change that the server knows may end its mark
pub may_end : (c : Cards) → press.WellFormed c → (s : Records) (d : Entry) → IsChange c d → Done s d → EndsAt s (without_reports c) d
may_end c f s d k g =
    bare_of c f.luids.long (λ i z. z.luid.0 ≡ d.fields.luid.0 → press.is_live z.mark ≡ true → Knows s z)
    (λ i x e l live.
    let same : k.card ≡ x = one_entry c f k.place i k.card x k.here e (sym k.luid ∙ sym l) in
    let fp : x.fp ≡ d.fields.fp = sym (ap (λ (z : Card). z.fp) same) ∙ sym k.fp in
    record {
      place = g.place;
      record' = g.record';
      here = g.here;
      has = has_as d.fields.luid g.record' x.luid l g.has;
      all = let b = leb-true d.fields.fp g.record'.pairing.known g.late in omega (arith, fp, b);
    })
