-- How a message spells the bytes of a text (02, 4): by XML 1.0's references (4.6), or each by itself (2.4).
use Rattle.std.specs.Prelude.{ℕ, zero, suc, ◌+◌, Bool, false, cond, ◌&&◌, not, List, [], ◌∷◌, ◌++◌, drop, get_or, take, eqb}
use Rattle.token.specs.Ans.{Ans, got, bad, keep, pick_first}
use Rattle.token.specs.Text.{bytes}
use Rattle.token.specs.Literal.{begins, literal_at}
use Rattle.text.specs.Text.{ok_byte}

-- the references, each with the byte that it stands for: & < > " ' (the writer uses the first three)
abbrev pub references : List (ℕ × List ℕ)
references = (38, bytes "&amp;") ∷ (60, bytes "&lt;") ∷ (62, bytes "&gt;") ∷ (34, bytes "&quot;") ∷ (39, bytes "&apos;") ∷ []

-- the reference that stands for a byte, of those that have one
abbrev pub reference_by : List (ℕ × List ℕ) → ℕ → List ℕ
reference_by [] b = []
reference_by (x ∷ []) b = x.1
reference_by (x ∷ y ∷ l) b = cond (eqb b x.0) x.1 (reference_by (y ∷ l) b)

unfoldable pub reference_to : ℕ → List ℕ
reference_to b = reference_by references b

-- ---- written: & < > by their references, every other byte by itself
abbrev pub spell_by : List (ℕ × List ℕ) → ℕ → List ℕ
spell_by [] b = b ∷ []
spell_by (x ∷ l) b = cond (eqb b x.0) x.1 (spell_by l b)

unfoldable pub spell : ℕ → List ℕ
spell b = spell_by (take 3 references) b

unfoldable pub spelled : List ℕ → List ℕ
spelled [] = []
spelled (b ∷ l) = spell b ++ spelled l

-- ---- read: the first of some references that stands at a place
abbrev pub first_reference : List (ℕ × List ℕ) → List ℕ → ℕ → Ans ℕ
first_reference [] s at = bad 7 at
first_reference (x ∷ l) s at = pick_first (literal_at s at x.1) x.0 (first_reference l s at)

unfoldable pub reference_at : List ℕ → ℕ → Ans ℕ
reference_at s at = first_reference references s at

-- a byte that stands for itself: one that a text may hold, but no & and no <; and nowhere stands ]]>, so no ] with which that begins
unfoldable pub plain_here : List ℕ → Bool
plain_here [] = false
plain_here (b ∷ l) = ok_byte b && not (eqb b 38) && not (eqb b 60) && not (begins (bytes "]]>") (b ∷ l))

-- the byte of a text that is spelled at a place
unfoldable pub byte_at : List ℕ → ℕ → Ans ℕ
byte_at s at = cond (plain_here (drop at s)) (got (get_or s at 0) (at + 1)) (reference_at s at)

-- one byte more of a text, and then the rest; where none is spelled the text is over
abbrev pub one_more : Ans ℕ → ℕ → (ℕ → Ans (List ℕ)) → Ans (List ℕ)
one_more (got b p) at rest = keep (rest p) (λ l q. got (b ∷ l) q)
one_more (bad k p) at rest = got [] at

-- the text that is spelled at a place, of at most n bytes: the bytes of the text are counted, not those that spell them
unfoldable pub text_at : ℕ → List ℕ → ℕ → Ans (List ℕ)
text_at zero s at = one_more (byte_at s at) at (λ p. bad 7 at)
text_at (suc n) s at = one_more (byte_at s at) at (text_at n s)
