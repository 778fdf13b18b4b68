-- The heads of the six packages are in the written form, if session number, anchor and CmdRef have their ranges.
-- Assumes nothing.
use Prim.Native.Nat.{ℕ, ◌≤◌, ◌<◌}
use mathlib.Core.Path.{◌≡◌, refl}
use native.Mathlib.Omega.{arith}
use Rattle.shape.specs.Marks.{field_of}
use Rattle.shape.specs.Row.{Row, blank}
use Rattle.shape.specs.Shape.{GoodShape, copy_shape}
use Rattle.page.specs.Page.{page, shape}
use Rattle.terms.specs.declared.Mode.{Mode}
use Rattle.terms.specs.declared.Mode.TheVariants.{Normal, Recovery}
use Rattle.elements.specs.declared.Head.{Head}
use Rattle.elements.specs.Element.{of_head, head_c}
use Rattle.packages.specs.Package.{valid_in, head1, head2, head3, head4, head5, head6}
use Rattle.sendable.specs.Sendable.{Number, CmdRef}
use Rattle.sendable.proofs.MarkLaws.{marks, by_marks}

abbrev row : Head → Row
row h = (of_head h).1

good_head : (h : Head) → 1 ≤ h.pkg → h.pkg < 7 → GoodShape 0 (row h) (marks (shape h.pkg)) → copy_shape (row h) (marks (shape h.pkg)) blank ≡ row h → head_c.good h
good_head h a b g c = ((a, b), by_marks (shape h.pkg) 0 (row h) (omega arith) g c)

valid_word : (mode : Mode) → (0 ≤ valid_in mode) × (valid_in mode < 2)
valid_word Normal = (omega arith, omega arith)
valid_word Recovery = (omega arith, omega arith)

one : Number 1
one = (omega arith, omega arith)

two : Number 2
two = (omega arith, omega arith)

three : Number 3
three = (omega arith, omega arith)

module _ (session : ℕ) (s : Number session) where
  pub good_head1 : (anchor : ℕ) → Number anchor → head_c.good (head1 session anchor)
  unfolding shape page field_of
  good_head1 anchor a = good_head (head1 session anchor) (omega arith) (omega arith)
      (s, (one, (a, (s, (valid_word Normal, tt))))) refl

  pub good_head2 : (anchor : ℕ) (mode : Mode) → Number anchor → head_c.good (head2 session anchor mode)
  unfolding shape page field_of
  good_head2 anchor mode a = good_head (head2 session anchor mode) (omega arith) (omega arith)
      (s, (one, (one, (one, ((omega arith, omega arith), (a, (s, (valid_word mode, tt)))))))) refl

  pub good_head3 : head_c.good (head3 session)
  unfolding shape page field_of
  good_head3 = good_head (head3 session) (omega arith) (omega arith)
      (s, (two, (one, (one, ((omega arith, omega arith), tt))))) refl

  module _ (ref : ℕ) (r : CmdRef ref) where
    pub good_head4 : head_c.good (head4 session ref)
    unfolding shape page field_of
    good_head4 = good_head (head4 session ref) (omega arith) (omega arith)
        (s, (two, (two, (two, (r, tt))))) refl

    pub good_head5 : head_c.good (head5 session ref)
    unfolding shape page field_of
    good_head5 = good_head (head5 session ref) (omega arith) (omega arith)
        (s, (three, (two, (two, (r, tt))))) refl

  pub good_head6 : head_c.good (head6 session)
  unfolding shape page field_of
  good_head6 = good_head (head6 session) (omega arith) (omega arith) (s, (three, (three, tt))) refl
