-- What is written of the first elements of an array: one more of them, and the whole list.
-- Assumes nothing.
use Prim.Native.Nat.{ℕ, ◌+◌, ◌<◌}
use mathlib.Core.Path.{◌≡◌, sym, ap, ap₂, ◌∙◌}
use mathlib.Core.List.{List, ◌++◌, map, map-append}
use native.Mathlib.Omega.{arith}
use native.Mathlib.Numerals.{add-one}
use lib.ListN.{length, take, get_or, length-map}
use lib.Seq.{take-suc, take_all, length-take-le}
use Rattle.token.specs.Put.{Put}
use Rattle.token.proofs.PutLaws.{put_seq}
use Rattle.grammar.specs.Numbered.{write_all}
use Rattle.grammar.proofs.LoopLaws.{write_all_snoc}
use Rattle.elements.specs.declared.End.{End}
use Rattle.elements.specs.Element.{element_c, end_c, write_element}
use Rattle.lists.specs.declared.Entry.{Entry}
use Rattle.lists.specs.Lists.{entry_of, entries, any_kinds, write_list}

-- what is written of the first n of an array
abbrev pub written : ℕ → List Entry → ℕ → List ℕ
written id items n = write_all id (element_c any_kinds) (entries items n)

module _ (id : ℕ) (items : List Entry) where
  -- one more
  pub written_more : (i : ℕ) (z : Entry) → i < length items → written id items (i + 1) ≡ written id items i ++ write_element (id + i) (entry_of (get_or items i z))
  written_more i z h =
      let n : length (entries items i) ≡ i = length-map (take i items) entry_of ∙ length-take-le i items (omega arith) in
      rw (add-one i, take-suc items i z h, map-append)
      (write_all_snoc id (element_c any_kinds) (entries items i) (entry_of (get_or items i z))
      ∙ ap (λ (k : ℕ). written id items i ++ write_element (id + k) (entry_of (get_or items i z))) n)

  pub put_written : {before mid after : List ℕ} {at p q : ℕ} (i : ℕ) (z : Entry) → i < length items → Put before mid at p (written id items i) → Put mid after p q (write_element (id + i) (entry_of (get_or items i z)))
      → Put before after at q (written id items (i + 1))
  put_written i z h v w = rw (written_more i z h) (put_seq v w)

  -- and all of them
  pub written_whole : (end n : ℕ) (last : End) → n ≡ length items → write_list id end (map entry_of items) last ≡ written id items n ++ (end_c end (id + n)).write last
  written_whole end n last e =
      let t : items ≡ take n items = sym (take_all n items (omega arith)) in
      ap₂
      (λ (x : List Entry) (k : ℕ). write_all id (element_c any_kinds) (map entry_of x) ++ (end_c end (id + k)).write last)
      t
      (length-map items entry_of ∙ sym e)
