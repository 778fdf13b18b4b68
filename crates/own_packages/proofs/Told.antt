-- What the press tells in Pkg 3 is in the order that the server asks for: reports by rising LUID, commands by name and LUID, no LUID twice. Assumes nothing.
use Prim.Native.Nat.{ℕ, ◌<◌}
use mathlib.Core.Path.{◌≡◌, refl, sym, ap, ◌∙◌, subst}
use mathlib.Core.Bool.{true, false, not, ◌&&◌, false≢true}
use mathlib.Core.List.{◌++◌}
use native.Mathlib.Omega.{arith}
use lib.ListN.{get_or}
use borrow.Author.Tests.{lt-ltb}
use Rattle.places.specs.Set.{in_use}
use Rattle.places.proofs.Choice.{and_chosen}
use Rattle.places.proofs.Every.{Every, Pairs, every, every_append, pairs}
use Rattle.text.specs.Wording.{IsWording}
use Rattle.text.proofs.WordingLaws.{nothing_said}
use Rattle.lists.specs.declared.Entry.{Entry}
use Rattle.terms.specs.declared.Mode.{Mode}
use Rattle.terms.specs.declared.Mode.TheVariants.{Normal, Recovery}
use Rattle.cards.specs.declared.Mark.{Mark}
use Rattle.cards.specs.declared.Card.{Card}
use Rattle.cards.specs.declared.Cards.{Cards}
use Rattle.cards.specs.Press.{no_card, is_live, WellFormed}
use Rattle.ranks.specs.declared.Row.TheVariants.{Reports, PressCommands}
use Rattle.ranks.specs.Rank.{name_in, rank_in, is_replace}
use Rattle.press_tells.specs.Tell.{Tell}
use Rattle.press_tells.specs.Tell.{is_changed, is_added, tells, words_of, told_of, reports, commands}
use Rattle.press_tells.proofs.TellLaws.{IsTold, words, told_only, told_once}
use Rattle.own_packages.proofs.Rows.{Ordered, lower_name, same_name_lem, apart_if, with_each, three_lists}

-- the place of a name in Pkg 3: Delete, Replace, Add
abbrev Ranked : Tell → ℕ → Type 0
Ranked k n = (x : Card) → rank_in PressCommands (words_of k x) ≡ n

module _ (c : Cards) (f : WellFormed c) where
  abbrev Told : Tell → Entry → Type 0
  Told k e = (j : ℕ) × IsTold k c j × (e ≡ words k c j)

  rank_told : (k : Tell) (n : ℕ) → Ranked k n → (e : Entry) → Told k e → rank_in PressCommands e ≡ n
  rank_told k n r e t = ap (rank_in PressCommands) t.2 ∙ r (get_or c.places t.0 no_card)

  pub reports_ordered : Pairs (Ordered Reports) (reports c)
  reports_ordered =
      pairs (λ d e. d.fields.luid.0 < e.fields.luid.0) (Ordered Reports)
      (λ d e h. record { placed = lt-ltb d.fields.luid.0 e.fields.luid.0 h; apart = apart_if d e (λ n q. omega arith) }) (reports c) (told_once Tell.Reports c f)

  -- commands of one name
  one_name : (k : Tell) (n : ℕ) → Ranked k n → Pairs (Ordered PressCommands) (told_of k c)
  one_name k n r =
      with_each (Told k) (λ d e. d.fields.luid.0 < e.fields.luid.0) (Ordered PressCommands)
      (λ d e s t h.
      record {
        placed = same_name_lem PressCommands d e (rank_told k n r d s ∙ sym (rank_told k n r e t)) (lt-ltb d.fields.luid.0 e.fields.luid.0 h);
        apart = apart_if d e (λ z q. omega arith);
      })
      (told_of k c) (told_only k c) (told_once k c f)

  -- commands of two names are of two entries
  module _ (k l : Tell) (m n : ℕ) (a : Ranked k m) (b : Ranked l n) (low : m < n)
      (own : (x : Card) → (words_of k x).fields.luid.0 ≡ x.luid.0) (its : (x : Card) → (words_of l x).fields.luid.0 ≡ x.luid.0)
      (never : (x : Card) → (tells k x && tells l x) ≡ false) where
    two_names : (d e : Entry) → Told k d → Told l e → Ordered PressCommands d e
    two_names d e s t =
        record {
          placed = lower_name PressCommands d e (omega (arith, rank_told k m a d s, rank_told l n b e t));
          apart = apart_if d e (λ z q. clash (one_place q));
        }
      where
        one_place : d.fields.luid.0 ≡ e.fields.luid.0 → s.0 ≡ t.0
        one_place q =
            f.luids.apart s.0 t.0 s.1.used t.1.used
            (sym (ap (λ (x : Entry). x.fields.luid.0) s.2 ∙ own (get_or c.places s.0 no_card)) ∙ (q ∙ (ap (λ (x : Entry). x.fields.luid.0) t.2 ∙ its (get_or c.places t.0 no_card))))

        clash : s.0 ≡ t.0 → ⊥
        clash q =
            let x = get_or c.places t.0 no_card in
            let p : tells k x ≡ true = subst (λ (j : ℕ). tells k (get_or c.places j no_card) ≡ true) q s.1.passes in
            false≢true (sym (never x) ∙ (and_chosen (tells k x) (tells l x) p ∙ t.1.passes))

  pub commands_ordered : (m : Mode) → Pairs (Ordered PressCommands) (commands m c)
  unfolding commands
  commands_ordered Normal =
      three_lists (Ordered PressCommands) (Told Tell.Deletes) (Told Tell.Replaces) (Told Tell.Adds)
      (two_names Tell.Deletes Tell.Replaces 0 1 (λ x. refl) (λ x. refl) (omega arith) (λ x. refl) (λ x. refl) (λ x. gone_changed x.mark))
      (two_names Tell.Deletes Tell.Adds 0 2 (λ x. refl) (λ x. refl) (omega arith) (λ x. refl) (λ x. refl) (λ x. gone_added x.mark))
      (two_names Tell.Replaces Tell.Adds 1 2 (λ x. refl) (λ x. refl) (omega arith) (λ x. refl) (λ x. refl) (λ x. changed_added x.mark))
      (told_of Tell.Deletes c) (told_of Tell.Replaces c) (told_of Tell.Adds c)
      (told_only Tell.Deletes c) (told_only Tell.Replaces c) (told_only Tell.Adds c)
      (one_name Tell.Deletes 0 (λ x. refl)) (one_name Tell.Replaces 1 (λ x. refl)) (one_name Tell.Adds 2 (λ x. refl))
    where
      gone_changed : (m : Mark) → (not (is_live m) && is_changed m) ≡ false
      gone_changed Mark.Clean = refl
      gone_changed Mark.Added = refl
      gone_changed Mark.Changed = refl
      gone_changed Mark.Deleted = refl

      gone_added : (m : Mark) → (not (is_live m) && is_added m) ≡ false
      gone_added Mark.Clean = refl
      gone_added Mark.Added = refl
      gone_added Mark.Changed = refl
      gone_added Mark.Deleted = refl

      changed_added : (m : Mark) → (is_changed m && is_added m) ≡ false
      changed_added Mark.Clean = refl
      changed_added Mark.Added = refl
      changed_added Mark.Changed = refl
      changed_added Mark.Deleted = refl
  commands_ordered Recovery = one_name Tell.AllCards 1 (λ x. refl)

  -- in recovery there are Replaces only
  pub recovery_replaces : Every (λ e. is_replace (name_in e) ≡ true) (commands Recovery c)
  unfolding commands
  recovery_replaces =
      every (Told Tell.AllCards) (λ e. is_replace (name_in e) ≡ true) (λ e t. ap (λ (x : Entry). is_replace (name_in x)) t.2) (told_of Tell.AllCards c) (told_only Tell.AllCards c)

  -- their texts and stations keep their rules
  texts_of : (k : Tell) → Every (λ e. IsWording e.wording) (told_of k c)
  texts_of k = every (Told k) (λ e. IsWording e.wording) (λ e t. subst (λ (x : Entry). IsWording x.wording) (sym t.2) (go k t.0 t.1.used)) (told_of k c) (told_only k c)
    where
      go : (k : Tell) (j : ℕ) → in_use c.used j ≡ true → IsWording (words k c j).wording
      go Tell.Reports j u = nothing_said
      go Tell.Deletes j u = nothing_said
      go Tell.Replaces j u = (f.cards j u).2
      go Tell.Adds j u = (f.cards j u).2
      go Tell.AllCards j u = (f.cards j u).2

  pub commands_texts : (m : Mode) → Every (λ e. IsWording e.wording) (commands m c)
  unfolding commands
  commands_texts Normal =
      every_append (λ e. IsWording e.wording) (told_of Tell.Replaces c ++ told_of Tell.Adds c) (told_of Tell.Deletes c) (texts_of Tell.Deletes)
      (every_append (λ e. IsWording e.wording) (told_of Tell.Adds c) (told_of Tell.Replaces c) (texts_of Tell.Replaces) (texts_of Tell.Adds))
  commands_texts Recovery = texts_of Tell.AllCards
