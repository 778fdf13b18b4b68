-- Lists of reports, statuses and commands with other wordings: in the same order, with the same numbers and codes, and packed as they were. Assumes nothing.
use Prim.Native.Nat.{ℕ, suc, ◌-◌}
use mathlib.Core.Path.{◌≡◌, refl, sym, ap, ap₂, ◌∙◌}
use mathlib.Core.Bool.{Bool, not, ◌&&◌, ◌||◌}
use mathlib.Core.List.{List, [], ◌∷◌, ◌++◌}
use lib.ListN.{length, replicate, length-map}
use Rattle.places.proofs.MapLaws.{take_map, replicate_map, append_map}
use Rattle.text.specs.Wording.{no_wording}
use Rattle.elements.specs.declared.Fields.{Fields}
use Rattle.elements.specs.declared.Head.{Head}
use Rattle.lists.specs.declared.Entry.{Entry}
use Rattle.lists.specs.Lists.{kept_listed, blank_entry}
use Rattle.message.specs.declared.Content.{Content}
use Rattle.statuses.specs.declared.Side.{Side}
use Rattle.statuses.specs.Status.{fits, all_fit}
use Rattle.ranks.specs.declared.Row.{Row}
use Rattle.ranks.specs.declared.Row.TheVariants.{Reports, PressCommands, ServerCommands}
use Rattle.ranks.specs.Rank.{name_in, is_replace, before, ranked, same_luid, some_same, luids_once, only_replaces}
use Rattle.listing.specs.declared.Listing.{Listing}
use Rattle.listing.specs.Listing.{listing}
use Rattle.packages.specs.Package.{head_with, listed, packed, no_package, answers_in, commands_in}
use Rattle.reworded.specs.Reworded.{Rewording, reword_entry, reword_entries, reword_content}

module _ (r : Rewording) where
  -- ---- an element without a text: a report, a status, a Delete, a blank of a list
  pub unworded : (f : Fields) → record { fields = f; wording = no_wording } ≡ reword_entry r (record { fields = f; wording = no_wording })
  unworded f = λ i. record { fields = f; wording = sym r.blank i }

  -- ---- order and codes
  same_before : (k : Row) (x y : Entry) → before k (reword_entry r x) (reword_entry r y) ≡ before k x y
  same_before Reports x y = refl
  same_before PressCommands x y = refl
  same_before ServerCommands x y = refl

  pub same_ranked : (k : Row) (xs : List Entry) → ranked k (reword_entries r xs) ≡ ranked k xs
  unfolding ranked
  same_ranked k [] = refl
  same_ranked k (x ∷ []) = refl
  same_ranked k (x ∷ (y ∷ ys)) = ap₂ (λ (a b : Bool). a && b) (same_before k x y) (same_ranked k (y ∷ ys))

  same_some : (x : Entry) (ys : List Entry) → some_same (reword_entry r x) (reword_entries r ys) ≡ some_same x ys
  unfolding some_same
  same_some x [] = refl
  same_some x (y ∷ ys) = ap (λ (b : Bool). same_luid x y || b) (same_some x ys)

  pub same_once : (xs : List Entry) → luids_once (reword_entries r xs) ≡ luids_once xs
  unfolding luids_once
  same_once [] = refl
  same_once (x ∷ xs) = ap₂ (λ (a b : Bool). not a && b) (same_some x xs) (same_once xs)

  pub same_replaces : (xs : List Entry) → only_replaces (reword_entries r xs) ≡ only_replaces xs
  unfolding only_replaces
  same_replaces [] = refl
  same_replaces (x ∷ xs) = ap (λ (b : Bool). is_replace (name_in x) && b) (same_replaces xs)

  same_fits : (s : Side) (ref : ℕ) (c x : Entry) → fits s ref (reword_entry r c) (reword_entry r x) ≡ fits s ref c x
  same_fits Side.Press ref c x = refl
  same_fits Side.Server ref c x = refl

  pub same_fit : (s : Side) (ref : ℕ) (cs xs : List Entry) → all_fit s ref (reword_entries r cs) (reword_entries r xs) ≡ all_fit s ref cs xs
  unfolding all_fit
  same_fit s ref [] [] = refl
  same_fit s ref [] (x ∷ xs) = refl
  same_fit s ref (c ∷ cs) [] = refl
  same_fit s ref (c ∷ cs) (x ∷ xs) = ap₂ (λ (a b : Bool). a && b) (same_fits s ref c x) (same_fit s (suc ref) cs xs)

  -- ---- packages
  abbrev pub reword_listing : Listing → Listing
  reword_listing l = record { n = l.n; items = reword_entries r l.items }

  pub listing_reworded : (xs : List Entry) → listing (reword_entries r xs) ≡ reword_listing (listing xs)
  listing_reworded xs =
      let n = length-map xs (reword_entry r) in
      let blanks : replicate (kept_listed - length xs) blank_entry ≡ reword_entries r (replicate (kept_listed - length xs) blank_entry) =
      ap (replicate (kept_listed - length xs)) (unworded blank_entry.fields) ∙ replicate_map (reword_entry r) (kept_listed - length xs) blank_entry in
      ap (λ (k : ℕ). record { n = k; items = reword_entries r xs ++ replicate (kept_listed - k) blank_entry }) n
      ∙ ap (λ (l : List Entry). record { n = length xs; items = l }) (append_map (reword_entry r) xs (replicate (kept_listed - length xs) blank_entry) refl blanks)

  pub packed_reworded : (h : Head) (xs cs : List Entry) → packed h (reword_entries r xs) (reword_entries r cs) ≡ reword_content r (packed h xs cs)
  packed_reworded h xs cs = ap₂ (listed h) (listing_reworded xs) (listing_reworded cs)

  pub no_package_lem : no_package ≡ reword_content r no_package
  no_package_lem = packed_reworded (head_with 0 0 0 0 0 0 0 0 0) [] []

  pub answers_reworded : (x : Content) → answers_in (reword_content r x) ≡ reword_entries r (answers_in x)
  answers_reworded x = take_map (reword_entry r) x.answered x.answers

  pub commands_reworded : (x : Content) → commands_in (reword_content r x) ≡ reword_entries r (commands_in x)
  commands_reworded x = take_map (reword_entry r) x.commanded x.commands
