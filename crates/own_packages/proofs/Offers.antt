-- The server's commands in Pkg 4 are in the order that the press asks for, with no LUID twice; and what it has offered it would offer again. Assumes nothing.
use Prim.Native.Nat.{ℕ, zero, suc, ◌+◌, ◌<◌}
use mathlib.Core.Path.{◌≡◌, refl, sym, ap, ap₂, ◌∙◌, subst}
use mathlib.Core.Bool.{Bool, true, false, cond, not, ◌&&◌, false≢true}
use mathlib.Core.List.{List, [], ◌∷◌, ◌++◌, map}
use native.Mathlib.Nat.{add-zero}
use native.Mathlib.Omega.{arith}
use lib.Dec.{eqb}
use lib.ListN.{length, get_or, set, length-set}
use borrow.Author.Tests.{eq-eqb, ne_eqb, lt-ltb}
use Rattle.places.specs.Set.{all_places}
use Rattle.places.proofs.Choice.{and_chosen}
use Rattle.places.specs.Act.{Table, holds, hit, put_at}
use Rattle.places.specs.Rising.{those, rising}
use Rattle.places.proofs.Every.{Pairs, pairs_map}
use Rattle.places.proofs.KeptLaws.{Hit, each_keeps, taken_same}
use Rattle.lists.specs.declared.Entry.{Entry}
use Rattle.records.specs.declared.Mark.{Mark}
use Rattle.records.specs.declared.Record.{Record}
use Rattle.records.specs.declared.Records.{Records}
use Rattle.records.specs.Server.{no_record, is_live}
use Rattle.listing.specs.Listing.{by_guid}
use Rattle.statuses.specs.declared.Name.{Name}
use Rattle.ranks.specs.declared.Row.TheVariants.{ServerCommands}
use Rattle.ranks.specs.Rank.{rank_of, rank_in, same_name, same_luid}
use Rattle.record_moves.specs.Named.{table_of, is_paired, Safe}
use Rattle.server_offers.specs.Offer.{is_waiting, is_offered_as, offer, offers_of, offers, command, commands, is_dirty, offered_now, dirty_here, offered}
use Rattle.server_offers.proofs.OfferLaws.{IsDue, offer_at, offered_only, offered_once}
use Rattle.own_packages.proofs.Rows.{Ordered, lower_name, same_name_lem, apart_if, with_each, three_lists}

-- ---- the command of an offer: its name, its LUID (an Add has none), its GUID
rank_offer : (m : Name) (x : Record) → rank_in ServerCommands (command (offer m x)) ≡ rank_of m
rank_offer Name.Delete x = refl
rank_offer Name.Replace x = refl
rank_offer Name.Add x = refl

luid_offer : (m : Name) (x : Record) → ((command (offer m x)).fields.luid.0 ≡ 0 → ⊥) → (command (offer m x)).fields.luid.0 ≡ x.pairing.luid.0
luid_offer Name.Delete x e = refl
luid_offer Name.Replace x e = refl
luid_offer Name.Add x e = absurd (e refl)

same_offer : (m : Name) (x y : Record) → x.guid.0 < y.guid.0 → same_name ServerCommands (command (offer m x)) (command (offer m y)) ≡ true
same_offer Name.Delete x y h = refl
same_offer Name.Replace x y h = refl
same_offer Name.Add x y h = lt-ltb x.guid.0 y.guid.0 h

-- a record is due under one name
pub due_once : (m n : Name) → rank_of m < rank_of n → (x : Record) → (is_offered_as m x && is_offered_as n x) ≡ false
due_once m n low x = go m n low
  where
    gone_waits : (k : Mark) (b : Bool) → (not (is_live k) && (is_waiting k && b)) ≡ false
    gone_waits Mark.Clean b = refl
    gone_waits Mark.Dirty b = refl
    gone_waits Mark.Offered b = refl
    gone_waits Mark.Deleted b = refl

    paired_not : (a b : Bool) → (a && b && (a && not b)) ≡ false
    paired_not true true = refl
    paired_not true false = refl
    paired_not false b = refl

    go : (m n : Name) → rank_of m < rank_of n → (is_offered_as m x && is_offered_as n x) ≡ false
    go Name.Delete Name.Replace l = gone_waits x.pairing.mark (is_paired x)
    go Name.Delete Name.Add l = gone_waits x.pairing.mark (not (is_paired x))
    go Name.Replace Name.Add l = paired_not (is_waiting x.pairing.mark) (is_paired x)
    go Name.Delete Name.Delete l = absurd (omega (arith, l))
    go Name.Replace Name.Delete l = absurd (omega (arith, l))
    go Name.Replace Name.Replace l = absurd (omega (arith, l))
    go Name.Add Name.Delete l = absurd (omega (arith, l))
    go Name.Add Name.Replace l = absurd (omega (arith, l))
    go Name.Add Name.Add l = absurd (omega (arith, l))

module _ (s : Records) (h : Safe s) where
  abbrev at : ℕ → Record
  at j = get_or s.places j no_record

  abbrev Due : Name → Entry → Type 0
  Due m e = (j : ℕ) × IsDue m s j × (e ≡ offer_at m s j)

  -- as the press gets them
  abbrev InRow : Entry → Entry → Type 0
  InRow d e = Ordered ServerCommands (command d) (command e)

  rank_due : (m : Name) (e : Entry) → Due m e → rank_in ServerCommands (command e) ≡ rank_of m
  rank_due m e t = ap (λ (x : Entry). rank_in ServerCommands (command x)) t.2 ∙ rank_offer m (at t.0)

  luid_due : (m : Name) (e : Entry) (t : Due m e) → ((command e).fields.luid.0 ≡ 0 → ⊥) → (command e).fields.luid.0 ≡ (at t.0).pairing.luid.0
  luid_due m e t has =
      let same : (command e).fields.luid.0 ≡ (command (offer_at m s t.0)).fields.luid.0 = ap (λ (x : Entry). (command x).fields.luid.0) t.2 in
      same ∙ luid_offer m (at t.0) (λ q. has (same ∙ q))

  -- commands of two records have not one LUID
  two_records : (m n : Name) (d e : Entry) (t : Due m d) (u : Due n e) → (t.0 ≡ u.0 → ⊥) → same_luid (command d) (command e) ≡ false
  two_records m n d e t u ne =
      apart_if (command d) (command e)
      (λ has q.
      let l = luid_due m d t has in
      let k = luid_due n e u (λ z. has (q ∙ z)) in
      let own : (at u.0).pairing.luid.0 ≡ (at t.0).pairing.luid.0 = sym k ∙ (sym q ∙ l) in
      let given : eqb (at u.0).pairing.luid.0 0 ≡ false = ne_eqb (at u.0).pairing.luid.0 0 (λ z. has (q ∙ (k ∙ z))) in
      ne (h.once t.0 u.0 t.1.used u.1.used (and_chosen (is_paired (at u.0)) (eqb (at u.0).pairing.luid.0 (at t.0).pairing.luid.0) (ap not given) ∙ eq-eqb (at u.0).pairing.luid.0 (at t.0).pairing.luid.0 own)))

  -- of one name
  one_name : (m : Name) → Pairs InRow (offers_of m s)
  one_name m =
      with_each (Due m) (λ d e. d.fields.guid.0 < e.fields.guid.0) InRow
      (λ d e t u low.
      let less : (at t.0).guid.0 < (at u.0).guid.0 = omega (arith, low, ap (λ (x : Entry). x.fields.guid.0) t.2, ap (λ (x : Entry). x.fields.guid.0) u.2) in
      record {
        placed = same_name_lem ServerCommands (command d) (command e) (rank_due m d t ∙ sym (rank_due m e u)) (ap₂ (λ (x y : Entry). same_name ServerCommands (command x) (command y)) t.2 u.2 ∙ same_offer m (at t.0) (at u.0) less);
        apart = two_records m m d e t u (λ q. let z : (at t.0).guid.0 ≡ (at u.0).guid.0 = ap (λ (j : ℕ). (at j).guid.0) q in omega arith);
      })
      (offers_of m s) (offered_only m s) (offered_once m s h.formed)

  -- of two
  two_names : (m n : Name) → rank_of m < rank_of n → (d e : Entry) → Due m d → Due n e → InRow d e
  two_names m n low d e t u =
      record {
        placed = lower_name ServerCommands (command d) (command e) (omega (arith, rank_due m d t, rank_due n e u));
        apart = two_records m n d e t u (λ q.
            let x = at u.0 in
            let p : is_offered_as m x ≡ true = subst (λ (j : ℕ). is_offered_as m (at j) ≡ true) q t.1.passes in
            false≢true (sym (due_once m n low x) ∙ (and_chosen (is_offered_as m x) (is_offered_as n x) p ∙ u.1.passes)));
      }

  pub commands_ordered : Pairs (Ordered ServerCommands) (commands s)
  unfolding commands offers
  commands_ordered =
      pairs_map command (Ordered ServerCommands) (offers_of Name.Delete s ++ (offers_of Name.Replace s ++ offers_of Name.Add s))
      (three_lists InRow (Due Name.Delete) (Due Name.Replace) (Due Name.Add)
      (two_names Name.Delete Name.Replace (omega arith)) (two_names Name.Delete Name.Add (omega arith)) (two_names Name.Replace Name.Add (omega arith))
      (offers_of Name.Delete s) (offers_of Name.Replace s) (offers_of Name.Add s)
      (offered_only Name.Delete s) (offered_only Name.Replace s) (offered_only Name.Add s)
      (one_name Name.Delete) (one_name Name.Replace) (one_name Name.Add))

-- ---- a place that changes, and not in what is told of it
module _ {A B : Type 0} (w : A → B) (d : A) (t : ℕ → A → Bool) where
  same_told : (xs : List A) (i k : ℕ) (y : A) → t (k + i) y ≡ t (k + i) (get_or xs i d) → w y ≡ w (get_or xs i d) → map w (those t k (set xs i y)) ≡ map w (those t k xs)
  unfolding those
  same_told [] i k y e f = refl
  same_told (x ∷ xs) zero k y e f =
      ap (λ (b : Bool). map w (cond b (y ∷ those t (suc k) xs) (those t (suc k) xs))) (rw add-zero at e) ∙ go (t k x)
    where
      go : (b : Bool) → map w (cond b (y ∷ those t (suc k) xs) (those t (suc k) xs)) ≡ map w (cond b (x ∷ those t (suc k) xs) (those t (suc k) xs))
      go true = ap (λ (z : B). z ∷ map w (those t (suc k) xs)) f
      go false = refl
  same_told (x ∷ xs) (suc i) k y e f =
      go (t k x) (same_told xs i (suc k) y (let next : k + suc i ≡ suc k + i = omega arith in rw next at e) f)
    where
      go : (b : Bool) → map w (those t (suc k) (set xs i y)) ≡ map w (those t (suc k) xs) → map w (cond b (x ∷ those t (suc k) (set xs i y)) (those t (suc k) (set xs i y))) ≡ map w (cond b (x ∷ those t (suc k) xs) (those t (suc k) xs))
      go true r = ap (λ (l : List B). w x ∷ l) r
      go false r = r

-- ---- all dirty become offered: each is due as it was
due_still : (m : Name) (x : Record) → dirty_here x ≡ true → is_offered_as m (offered_now x) ≡ is_offered_as m x
due_still m x e = go m x.pairing.mark refl e
  where
    go : (m : Name) (k : Mark) → x.pairing.mark ≡ k → is_dirty k ≡ true → is_offered_as m (offered_now x) ≡ is_offered_as m x
    go m Mark.Clean q z = absurd (false≢true z)
    go m Mark.Offered q z = absurd (false≢true z)
    go m Mark.Deleted q z = absurd (false≢true z)
    go Name.Delete Mark.Dirty q z = ap (λ (k : Mark). not (is_live k)) (sym q)
    go Name.Replace Mark.Dirty q z = ap (λ (k : Mark). is_waiting k && is_paired x) (sym q)
    go Name.Add Mark.Dirty q z = ap (λ (k : Mark). is_waiting k && not (is_paired x)) (sym q)

module _ (m : Name) where
  abbrev listed : Table Record → List Entry
  listed t = map (offer m) (those (hit t.used (is_offered_as m)) 0 t.places)

  abbrev Still : List Entry → Table Record → Type 0
  Still l t = (length t.places ≡ all_places) × (listed t ≡ l)

  one_still : (l : List Entry) (t : Table Record) (i : ℕ) → Hit no_record dirty_here t i → Still l t → Still l (put_at t i (holds (offered_now (get_or t.places i no_record))))
  one_still l t i k h =
      let x = get_or t.places i no_record in (
        length-set t.places i (offered_now x) ∙ h.0,
        ap (λ (u : ℕ). map (offer m) (those (hit u (is_offered_as m)) 0 (set t.places i (offered_now x)))) (taken_same t.used i k.used)
            ∙ (same_told (offer m) no_record (hit t.used (is_offered_as m)) t.places i 0 (offered_now x) (ap (λ (b : Bool). hit t.used (λ (z : Record). b) (0 + i) x) (due_still m x k.passes)) refl ∙ h.1),
      )

  offered_same : (s : Records) → length s.places ≡ all_places → offers_of m (offered s) ≡ offers_of m s
  unfolding offers_of offered
  offered_same s long = ap (rising by_guid) (each_keeps no_record dirty_here (λ x. holds (offered_now x)) (Still (listed (table_of s))) (one_still (listed (table_of s))) (λ t h. h.0) (table_of s) (long, refl)).1

pub offers_same : (s : Records) → length s.places ≡ all_places → offers (offered s) ≡ offers s
unfolding offers
offers_same s long = ap₂ ◌++◌ (offered_same Name.Delete s long) (ap₂ ◌++◌ (offered_same Name.Replace s long) (offered_same Name.Add s long))

-- so the same commands
pub commands_same : (s : Records) → length s.places ≡ all_places → commands (offered s) ≡ commands s
unfolding commands
commands_same s long = ap (map command) (offers_same s long)
