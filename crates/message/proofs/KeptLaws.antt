-- A content whose lists fit their arrays is the content of its own message.
-- Assumes nothing.
use Prim.Native.Nat.{ℕ, ◌-◌, ◌≤◌}
use mathlib.Core.Path.{◌≡◌, refl, sym, ap, ap₂, ◌∙◌}
use mathlib.Core.List.{List, [], ◌∷◌, ◌++◌, map}
use native.Mathlib.Omega.{arith}
use lib.ListN.{length, take, replicate, length-map}
use lib.Seq.{take-take, take_all, take-append_seam}
use Rattle.text.specs.declared.Text.{Text}
use Rattle.text.specs.Text.{longest, kept, bytes_of}
use Rattle.text.specs.Wording.{IsWording}
use Rattle.places.proofs.Every.{Every, every}
use Rattle.elements.specs.declared.Head.{Head}
use Rattle.elements.specs.declared.End.{End}
use Rattle.elements.specs.Element.{Element}
use Rattle.lists.specs.declared.Entry.{Entry}
use Rattle.lists.specs.Lists.{kept_listed, by_itself, entry_of, blank_entry, array, entries}
use Rattle.message.specs.declared.Content.{Content}
use Rattle.message.specs.Answer.{content_for, message_of}

-- ---- a text as it is kept: of at most 24 bytes, whatever they are
abbrev pub IsKept : Text → Type 0
IsKept t = (l : List ℕ) × (t ≡ kept l)

abbrev pub KeptTexts : List Entry → Type 0
KeptTexts = Every (λ e. IsKept e.wording.text)

pub kept_texts : (xs : List Entry) → Every (λ e. IsWording e.wording) xs → KeptTexts xs
kept_texts xs t = every (λ e. IsWording e.wording) (λ e. IsKept e.wording.text) (λ e h. (h.text.0, h.text.2)) xs t

kept_again : (t : Text) → IsKept t → kept (bytes_of t) ≡ t
kept_again t k =
    let l : List ℕ = k.0 in
    let b : bytes_of t ≡ take longest l = ap bytes_of k.1 ∙ take-append_seam (take longest l) (replicate (longest - length (take longest l)) 0) in
    ap kept b ∙ ap (λ (x : List ℕ). record { len = length x; bytes = x ++ replicate (longest - length x) 0 }) (take-take longest longest l (omega arith)) ∙ sym k.1

-- ---- so elements by themselves are kept as they are
kept_entries : (xs : List Entry) → KeptTexts xs → map by_itself (map entry_of xs) ≡ xs
kept_entries [] k = refl
kept_entries (x ∷ xs) k =
    ap₂ (λ (t : Text) (l : List Entry). record { fields = x.fields; wording = record { text = t; station = x.wording.station } } ∷ l) (kept_again x.wording.text k.0) (kept_entries xs k.1)

-- ---- a list that fits, with blanks after it
abbrev pub blanks_after : List Entry → List Entry
blanks_after xs = xs ++ replicate (kept_listed - length xs) blank_entry

module _ (xs : List Entry) where
  said : entries (blanks_after xs) (length xs) ≡ map entry_of xs
  said = ap (map entry_of) (take-append_seam xs (replicate (kept_listed - length xs) blank_entry))

  kept_count : length (entries (blanks_after xs) (length xs)) ≡ length xs
  kept_count = ap length said ∙ length-map xs entry_of

  kept_items : KeptTexts xs → length xs ≤ kept_listed → array (map by_itself (entries (blanks_after xs) (length xs))) ≡ blanks_after xs
  kept_items k h = ap (λ (l : List Element). array (map by_itself l)) said ∙ ap array (kept_entries xs k) ∙ ap blanks_after (take_all kept_listed xs h)

-- ---- and the content of a head and two such lists with their ends is that of its message
abbrev content_of : Head → End → End → ℕ → List Entry → ℕ → List Entry → Content
content_of h a c n xs m cs = record { head = h; answered = n; answers = xs; answersend = a; commanded = m; commands = cs; commandsend = c }

abbrev pub content_with : Head → List Entry → End → List Entry → End → Content
content_with h xs a cs c = content_of h a c (length xs) (blanks_after xs) (length cs) (blanks_after cs)

pub content_kept : (h : Head) (xs : List Entry) (a : End) (cs : List Entry) (c : End) → KeptTexts xs → length xs ≤ kept_listed → KeptTexts cs → length cs ≤ kept_listed
    → content_for (message_of (content_with h xs a cs c)) ≡ content_with h xs a cs c
content_kept h xs a cs c kx nx kc nc =
    ap₂ (λ (n : ℕ) (l : List Entry). content_of h a c n l (length (entries (blanks_after cs) (length cs))) (array (map by_itself (entries (blanks_after cs) (length cs))))) (kept_count xs) (kept_items xs kx nx)
    ∙ ap₂ (λ (n : ℕ) (l : List Entry). content_of h a c (length xs) (blanks_after xs) n l) (kept_count cs) (kept_items cs kc nc)
