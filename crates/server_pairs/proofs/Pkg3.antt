-- The server takes the press's own Pkg 3, in either mode: the invariant stays, and there is nothing new to hear. Assumes nothing.
use Prim.Native.Nat.{ℕ, suc}
use mathlib.Core.Path.{◌≡◌, refl, sym, ap, ◌∙◌, subst}
use mathlib.Core.Bool.{Bool, true, false, cond, not, ◌||◌, or-true, false≢true}
use mathlib.Core.List.{List, [], ◌∷◌, ◌++◌, Memᴰ}
use lib.Dec.{eqb}
use lib.ListN.{get_or, take, drop}
use borrow.Author.Tests.{eq-eqb, not-true}
use Rattle.places.specs.Set.{in_use}
use Rattle.places.proofs.Choice.{chosen, passed, and_second}
use Rattle.places.specs.Act.{holds}
use Rattle.places.proofs.Every.{Every, every, every_append}
use Rattle.places.proofs.Held.{hit_holds, holds_hit, holds_is}
use Rattle.text.specs.Wording.{IsWording}
use Rattle.lists.specs.declared.Entry.{Entry}
use Rattle.terms.specs.declared.Luid.{Luid}
use Rattle.terms.specs.declared.Mode.{Mode}
use Rattle.terms.specs.declared.Mode.TheVariants.{Normal, Recovery}
use Rattle.cards.specs.declared.Mark as card
use Rattle.cards.specs.declared.Card.{Card}
use Rattle.cards.specs.declared.Cards.{Cards}
use Rattle.cards.specs.Press as press
use Rattle.cards.specs.Press.{no_card}
use Rattle.records.specs.declared.Record.{Record}
use Rattle.records.specs.declared.Records.{Records}
use Rattle.records.specs.declared.Rule.{Rule}
use Rattle.statuses.specs.Status.{name_of}
use Rattle.record_moves.specs.Named.{is_paired, Safe}
use Rattle.record_moves.proofs.HasLaws.{has_number_lem}
use Rattle.card_moves.specs.Moves as moves
use Rattle.server_deletes.specs.Step2.{is_delete, deletes_in, deletes_of, names_luid, left_out, step2}
use Rattle.server_merge.specs.Merge.{changes_of, up_to3, merged}
use Rattle.press_tells.specs.Tell.{Tell}
use Rattle.press_tells.specs.Tell.{is_added, is_changed, tells, words_of, told_of, commands}
use Rattle.press_tells.proofs.TellLaws.{IsTold, words, told_only, told_each}
use Rattle.own_packages.proofs.Own.{heard_all, merged_of, server4}
use Rattle.pairs.proofs.Invariant.{card_at, Invariant}
use Rattle.server_pairs.proofs.Step1.{step1_inv, step1_quiet}
use Rattle.server_pairs.proofs.Later.{Told}
use Rattle.server_pairs.proofs.Merge.{NoCard, IsDelete, IsChange, deletes_told, left_told, step3_told, changes_told, offered_told}

-- ---- the Deletes stand first
abbrev Deletes : Entry → Type 0
Deletes e = is_delete (name_of e.fields.kind) ≡ true

abbrev Changes : Entry → Type 0
Changes e = is_delete (name_of e.fields.kind) ≡ false

no_deletes : (xs : List Entry) → Every Changes xs → deletes_in xs ≡ 0
unfolding deletes_in
no_deletes [] f = refl
no_deletes (x ∷ xs) f = passed (is_delete (name_of x.fields.kind)) (suc (deletes_in xs)) 0 f.0

parts : (ds xs : List Entry) → Every Deletes ds → Every Changes xs → (deletes_of (ds ++ xs) ≡ ds) × (changes_of (ds ++ xs) ≡ xs)
unfolding deletes_in
parts [] xs f g = (ap (λ (n : ℕ). take n xs) (no_deletes xs g), ap (λ (n : ℕ). drop n xs) (no_deletes xs g))
parts (d ∷ ds) xs f g =
    let r = parts ds xs f.1 g in
    let n : cond (is_delete (name_of d.fields.kind)) (suc (deletes_in (ds ++ xs))) 0 ≡ suc (deletes_in (ds ++ xs)) = chosen (is_delete (name_of d.fields.kind)) (suc (deletes_in (ds ++ xs))) 0 f.0 in
    (ap (λ (k : ℕ). take k (d ∷ (ds ++ xs))) n ∙ ap (λ (l : List Entry). d ∷ l) r.0, ap (λ (k : ℕ). drop k (d ∷ (ds ++ xs))) n ∙ r.1)

names_in : (cs : List Entry) (e : Entry) (l : Luid) → Memᴰ e cs → e.fields.luid.0 ≡ l.0 → names_luid cs l ≡ true
unfolding names_luid
names_in [] e l x'' w = elim x'' [ ]
names_in (c ∷ cs) e l (Memᴰ.head q) w = ap (λ (b : Bool). b || names_luid cs l) (eq-eqb c.fields.luid.0 l.0 (ap (λ (x : Entry). x.fields.luid.0) (sym q) ∙ w))
names_in (c ∷ cs) e l (Memᴰ.tail m) w = ap (λ (b : Bool). eqb c.fields.luid.0 l.0 || b) (names_in cs e l m w) ∙ or-true (eqb c.fields.luid.0 l.0)

-- ---- the press's own commands
module _ (c : Cards) (f : press.WellFormed c) where
  -- what is told of kind k
  told_are : (k : Tell) (P : Entry → Type 0) → ((j : ℕ) → IsTold k c j → P (words k c j)) → Every P (told_of k c)
  told_are k P g = every (λ e. (j : ℕ) × IsTold k c j × (e ≡ words k c j)) P (λ e t. subst P (sym t.2) (g t.0 t.1)) (told_of k c) (told_only k c)

  abbrev at : ℕ → Card
  at j = get_or c.places j no_card

  here : (k : Tell) (j : ℕ) → IsTold k c j → card_at c j ≡ holds (at j)
  here k j t = hit_holds no_card (tells k) (moves.table_of c) j t

  text_fine : (j : ℕ) → in_use c.used j ≡ true → IsWording (at j).wording
  text_fine j u = (f.cards j u).2

  -- a Replace or Add of a live card
  change_of : (k : Tell) → ((x : Card) → tells k x ≡ true → press.is_live x.mark ≡ true) → ((x : Card) → ((words_of k x).fields.luid.0 ≡ x.luid.0) × ((words_of k x).fields.fp ≡ x.fp) × ((words_of k x).wording ≡ x.wording))
      → Every (IsChange c) (told_of k c)
  change_of k live same =
      told_are k (IsChange c)
      (λ j t.
      let w = same (at j) in
      record {
        place = j;
        card = at j;
        here = here k j t;
        live = live (at j) t.passes;
        luid = w.0;
        fp = w.1;
        wording = w.2;
        fine = subst IsWording (sym w.2) (text_fine j t.used);
      })

  changed_live : (m : card.Mark) → is_changed m ≡ true → press.is_live m ≡ true
  changed_live card.Mark.Clean e = absurd (false≢true e)
  changed_live card.Mark.Added e = absurd (false≢true e)
  changed_live card.Mark.Changed e = refl
  changed_live card.Mark.Deleted e = absurd (false≢true e)

  added_live : (m : card.Mark) → is_added m ≡ true → press.is_live m ≡ true
  added_live card.Mark.Clean e = absurd (false≢true e)
  added_live card.Mark.Added e = refl
  added_live card.Mark.Changed e = absurd (false≢true e)
  added_live card.Mark.Deleted e = absurd (false≢true e)

  pub own_deletes : Every (IsDelete c) (told_of Tell.Deletes c)
  own_deletes = told_are Tell.Deletes (IsDelete c) (λ j t. (j, at j, here Tell.Deletes j t, not-true (press.is_live (at j).mark) t.passes, refl))

  normal_parts : (deletes_of (told_of Tell.Deletes c ++ (told_of Tell.Replaces c ++ told_of Tell.Adds c)) ≡ told_of Tell.Deletes c)
      × (changes_of (told_of Tell.Deletes c ++ (told_of Tell.Replaces c ++ told_of Tell.Adds c)) ≡ told_of Tell.Replaces c ++ told_of Tell.Adds c)
  normal_parts =
      parts (told_of Tell.Deletes c) (told_of Tell.Replaces c ++ told_of Tell.Adds c) (told_are Tell.Deletes Deletes (λ j t. refl))
      (every_append Changes (told_of Tell.Adds c) (told_of Tell.Replaces c) (told_are Tell.Replaces Changes (λ j t. refl)) (told_are Tell.Adds Changes (λ j t. refl)))

  pub all_parts : (deletes_of (told_of Tell.AllCards c) ≡ []) × (changes_of (told_of Tell.AllCards c) ≡ told_of Tell.AllCards c)
  all_parts = parts [] (told_of Tell.AllCards c) tt (told_are Tell.AllCards Changes (λ j t. refl))

  pub own_changes : (m : Mode) → Every (IsChange c) (changes_of (commands m c))
  unfolding commands
  own_changes Normal =
      subst (Every (IsChange c)) (sym normal_parts.1)
      (every_append (IsChange c) (told_of Tell.Adds c) (told_of Tell.Replaces c)
      (change_of Tell.Replaces (λ x e. changed_live x.mark e) (λ x. (refl, refl, refl))) (change_of Tell.Adds (λ x e. added_live x.mark e) (λ x. (refl, refl, refl))))
  own_changes Recovery = subst (Every (IsChange c)) (sym all_parts.1) (change_of Tell.AllCards (λ x e. e) (λ x. (refl, refl, refl)))

  pub normal_deletes : deletes_of (commands Normal c) ≡ told_of Tell.Deletes c
  unfolding commands
  normal_deletes = normal_parts.0

  pub deletes_are : (m : Mode) → Every (IsDelete c) (deletes_of (commands m c))
  unfolding commands
  deletes_are Normal = subst (Every (IsDelete c)) (sym normal_parts.0) own_deletes
  deletes_are Recovery = subst (Every (IsDelete c)) (sym all_parts.0) tt

  pub all_changes : changes_of (commands Recovery c) ≡ commands Recovery c
  unfolding commands
  all_changes = all_parts.1

  -- in recovery the LUID of each of the changes is named
  pub own_names : (d : Entry) → IsChange c d → names_luid (commands Recovery c) d.fields.luid ≡ true
  unfolding commands
  own_names d k =
      let told : IsTold Tell.AllCards c k.place = holds_hit no_card (tells Tell.AllCards) (moves.table_of c) k.place k.card k.here k.live in
      let is : at k.place ≡ k.card = holds_is no_card (moves.table_of c) k.place k.card k.here in
      names_in (told_of Tell.AllCards c) (words Tell.AllCards c k.place) d.fields.luid (told_each Tell.AllCards c k.place told) (ap (λ (z : Card). z.luid.0) is ∙ sym k.luid)

  -- in recovery: a record that is left out has no card
  pub left_out_lem : (y : Record) → left_out (commands Recovery c) y ≡ true → NoCard c y
  unfolding left_out commands
  left_out_lem y q i x e one a =
      let told : IsTold Tell.AllCards c i = holds_hit no_card (tells Tell.AllCards) (moves.table_of c) i x e one.live in
      let is : at i ≡ x = holds_is no_card (moves.table_of c) i x e in
      let same : (words Tell.AllCards c i).fields.luid.0 ≡ y.pairing.luid.0 = ap (λ (z : Card). z.luid.0) is ∙ sym (has_number_lem x.luid y a) in
      let named : names_luid (told_of Tell.AllCards c) y.pairing.luid ≡ true = names_in (told_of Tell.AllCards c) (words Tell.AllCards c i) y.pairing.luid (told_each Tell.AllCards c i told) same in
      false≢true (ap not (sym named) ∙ and_second (is_paired y) (not (names_luid (told_of Tell.AllCards c) y.pairing.luid)) q)

  pub step2_told : (m : Mode) (s : Records) → Told c s → Told c (step2 m (commands m c) s)
  unfolding step2 commands
  step2_told Normal s h = deletes_told c (deletes_of (commands Normal c)) (deletes_are Normal) s h
  step2_told Recovery s h = left_told c (left_out (commands Recovery c)) left_out_lem s h

  pub merged_told : (rule : Rule) (m : Mode) (s : Records) → Told c s → Told c (merged rule m (commands m c) s)
  unfolding merged
  merged_told rule m s h = changes_told rule c (changes_of (commands m c)) (own_changes m) (up_to3 m (commands m c) s) (step3_told c (step2 m (commands m c) s) (step2_told m s h))

-- ---- the whole of Pkg 3
-- after step 1, after step 5, and once all dirty records are offered
pub told_heard : (c : Cards) (s : Records) → Invariant c s → Told c (heard_all c s)
told_heard c s h = record { inv = step1_inv c s h; quiet = step1_quiet c s h }

module _ (rule : Rule) (m : Mode) (c : Cards) (s : Records) (h : Invariant c s) where
  pub told_merged : Told c (merged_of rule m c s)
  told_merged = merged_told c h.formed rule m (heard_all c s) (told_heard c s h)

  pub pkg3_told : Told c (server4 rule m c s)
  pkg3_told = offered_told c (merged_of rule m c s) told_merged

  pub safe_merged : Safe (merged_of rule m c s)
  safe_merged = told_merged.inv.safe
