-- What the answer to reading a list says of the list.
-- Assumes nothing.
use Prim.Native.Nat.{ℕ, zero, suc, ◌+◌}
use mathlib.Core.Path.{◌≡◌, refl, sym, ap, ◌∙◌}
use Rattle.std.specs.Prelude.{Ok, Err}
use Rattle.token.specs.declared.Cursor.{Cursor}
use Rattle.token.specs.declared.Misread.{Misread}
use mathlib.Core.List.{List, map}
use lib.ListN.{length}
use Rattle.token.specs.Ans.{Ans, got, bad, keep}
use Rattle.grammar.specs.Numbered.{list_step, list_at, list_from, read_list, numbered}
use Rattle.grammar.proofs.NumberedLaws.{never}
use Rattle.page.specs.declared.Kinds.{Kinds}
use Rattle.elements.specs.declared.End.{End}
use Rattle.elements.specs.Element.{Element, element_c, end_c}
use Rattle.elements.proofs.NameLaws.{element_bad}
use Rattle.lists.specs.declared.Listed.{Listed}
use Rattle.lists.specs.Lists.{by_itself, array, listed_as}

-- ---- a list that was read up to p, and what is kept of it
pub record IsListed (x : Ans (List Element × End)) (a : Listed) (p : ℕ) : Type 0 where
  pub all : List Element
  pub reads : x ≡ got (all, a.end) p
  pub count : a.n ≡ length all
  pub items : a.items ≡ array (map by_itself all)

pub listed_got : (x : Ans (List Element × End)) (a : Listed) (c : Cursor) → Ok (a, c) ≡ listed_as x → IsListed x a c.at
listed_got (got y p) a c e =
    let v : (a, c) ≡ (record { n = length y.0; items = array (map by_itself y.0); end = y.1 }, record { at = p }) = cc in
    record {
      all = y.0;
      reads = ap (λ (l : Listed × Cursor). got (y.0, l.0.end) l.1.at) (sym v);
      count = ap (λ (l : Listed × Cursor). l.0.n) v;
      items = ap (λ (l : Listed × Cursor). l.0.items) v;
    }
listed_got (bad k p) a c e = cc

-- one that was refused
pub listed_bad : (x : Ans (List Element × End)) (m : Misread) → Err m ≡ listed_as x → (k : ℕ) × (x ≡ bad k m.place)
listed_bad (got y p) m e = cc
listed_bad (bad k p) m e = let v : m ≡ record { place = p } = cc in (k, ap (λ (z : Misread). bad k z.place) (sym v))

-- ---- a list is refused 7, and nothing else
pub number : {A : Type 0} {j k p q : ℕ} → ◌≡◌ {A = Ans A} (bad j p) (bad k q) → j ≡ k
number e = cc

module _ (kinds : Kinds) (end : ℕ) (s : List ℕ) where
  refused_at : (fuel id at k p : ℕ) → (list_at fuel id (element_c kinds) (end_c end) s at).1 ≡ bad k p → k ≡ 7
  unfolding list_at
  refused_at zero id at k p e = sym (number e)
  refused_at (suc fuel) id at k p e = go (λ q h. refused_at fuel (id + 1) q k p h) ((end_c end id).read s at) ((element_c kinds id).read s at) refl e
    where
      go : ((q : ℕ) → (list_at fuel (id + 1) (element_c kinds) (end_c end) s q).1 ≡ bad k p → k ≡ 7) → (x : Ans End) (y : Ans Element) → (element_c kinds id).read s at ≡ y
          → (list_step x y (λ q. list_at fuel (id + 1) (element_c kinds) (end_c end) s q)).1 ≡ bad k p → k ≡ 7
      go ih (got u q) y i h = never (sym h)
      go ih (bad j q) (got a r) i h = ih r h
      go ih (bad j q) (bad m r) i h = sym (number h) ∙ (element_bad kinds id s at m r i).0

  pub list_refused : (id at k p : ℕ) → (numbered id (element_c kinds) (end_c end)).read s at ≡ bad k p → k ≡ 7
  unfolding read_list list_from
  list_refused id at k p e = go (list_from id (element_c kinds) (end_c end) s at).1 refl e
    where
      go : (x : Ans End) → (list_from id (element_c kinds) (end_c end) s at).1 ≡ x → keep {B = List Element × End} x (λ b q. got ((list_from id (element_c kinds) (end_c end) s at).0, b) q) ≡ bad k p → k ≡ 7
      go (got u q) i h = never (sym h)
      go (bad j q) i h = sym (number h) ∙ refused_at (suc (length s)) id at j q i
