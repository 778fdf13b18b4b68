-- A call as a program in C or Rust makes it: on the newest image in a side's two slots, with what the call promises; then the image is sealed and stored, and the answer sent.
use Rattle.std.specs.Prelude.{Some}
use Rattle.std.specs.Prelude.{ℕ, zero, suc, ◌≡◌, Bool, true, false, List, [], ◌∷◌, ◌++◌, length, take}
use Rattle.calls.specs.After.{After}
use Rattle.cards.specs.declared.Press.{Press}
use Rattle.cards.specs.Press.{press_gives_up}
use Rattle.records.specs.declared.Server.{Server}
use Rattle.records.specs.Server.{server_gives_up}
use Rattle.image.specs.Keeping.{Keeping, standing}
use Rattle.image.specs.OnImage.{Result, did, Calls, CallsIn}
use Rattle.press_image.specs.Image.{press_keeping}
use Rattle.server_image.specs.Image.{server_keeping}
use Rattle.lilmorask_store.specs.Store.{given, newest_image, seals_image}
use Rattle.lilmorask_store.specs.Torn.{Cut, early, within, late, slots_left}
use Rattle.course.specs.Course.{Wire, clear, to_server, to_press}

-- ---- a side stands in slots: lil_slots_newest gives the image in which it stands
pub record Stands {S : Type 0} (k : Keeping S) (slots : List ℕ) (side : S) : Type 0 where
  pub image : List ℕ
  pub newest : (lent : List ℕ) → length lent ≡ k.size → newest_image slots lent ≡ given 0 image
  pub stands : standing k image ≡ Some side

-- ---- the line between the sides: the wire with the message on its way, and all messages written so far
pub record Line : Type 0 where
  pub wire : Wire (List ℕ)
  pub written : List (List ℕ)

abbrev pub line : Wire (List ℕ) → List (List ℕ) → Line
line x ms = record { wire = x; written = ms }

abbrev pub silent : Line → Line
silent l = line clear l.written

-- ---- what is a side's own: how it is kept, how it gives up, and the way of what it sends
pub record Part (S : Type 0) : Type 0 where
  pub keeping : Keeping S
  pub gives_up : S → S
  pub sends : List ℕ → Wire (List ℕ)

abbrev pub press_part : Part Press
press_part = record { keeping = press_keeping; gives_up = press_gives_up; sends = to_server }

abbrev pub server_part : Part Server
server_part = record { keeping = server_keeping; gives_up = server_gives_up; sends = to_press }

-- ---- a call: one that sends nothing, or one that answers in a lent output
pub data Call (S : Type 0) : Type 0 where
  quiet : (S → Result S) → Call S
  answers : (List ℕ → S → After S) → Call S

-- giving up
abbrev pub closing : {S : Type 0} → Part S → Call S
closing a = quiet (λ p. did 0 (a.gives_up p))

-- what its contract promises, of what was lent (an image, where it tells, an output) and what it left there, with the number n
abbrev pub Promised : {S : Type 0} → Keeping S → Call S → List ℕ → ℕ → List ℕ → ℕ → List ℕ → ℕ → List ℕ → Type 0
Promised k (quiet f) image told out n image' told' out' = Calls k f image told n image' told'
Promised k (answers f) image told out n image' told' out' = CallsIn k (f out) image told out n image' told' out'

-- the newest image is taken out of the slots, and the call works on it, with an output of so many bytes lent: whatever stood in what was lent
pub record Works {S : Type 0} (k : Keeping S) (size : ℕ) (c : Call S) (slots : List ℕ) (n : ℕ) : Type 0 where
  pub lent : List ℕ
  pub image : List ℕ
  pub long : length lent ≡ k.size
  pub newest : newest_image slots lent ≡ given 0 image
  pub told : ℕ
  pub out : List ℕ
  pub room : length out ≡ size
  pub image' : List ℕ
  pub told' : ℕ
  pub out' : List ℕ
  pub promised : Promised k c image told out n image' told' out'

-- ---- the image is sealed, and the sealed slot stored: all of it (late), or as much as a cut leaves
pub record Stored (slots image : List ℕ) (c : Cut (length image)) (slots' : List ℕ) : Type 0 where
  pub at : ℕ
  pub sealed : (seals_image slots image at).number ≡ 0
  pub left : slots' ≡ slots_left (length image) c slots (seals_image slots image at)

-- whether the slot's mark came on
abbrev pub mark_on : {m : ℕ} → Cut m → Bool
mark_on early = false
mark_on (within body mark long off) = false
mark_on late = true

-- whether the store is among the first k moments of a call (0, 1 or 2): the store comes first
abbrev pub is_stored : ℕ → Bool
is_stored zero = false
is_stored (suc k) = true

pub record StoredAfter (k : ℕ) (image slots slots' : List ℕ) : Type 0 where
  pub cut : Cut (length image)
  pub moment : mark_on cut ≡ is_stored k
  pub stored : Stored slots image cut slots'

-- what the first k moments of a call that gave back n leave in the slots: beside a number nothing is stored
abbrev pub SlotsAfter : ℕ → ℕ → List ℕ → List ℕ → List ℕ → Type 0
SlotsAfter zero k image slots slots' = StoredAfter k image slots slots'
SlotsAfter (suc n) k image slots slots' = slots' ≡ slots

-- ---- the line after a call that told n and left its answer in the output: so many bytes of it are sent, and none where 0 is told
abbrev pub line_after : {S : Type 0} → Part S → Call S → ℕ → List ℕ → Line → Line
line_after a (quiet f) n out l = l
line_after a (answers f) zero out l = silent l
line_after a (answers f) (suc n) out l = line (a.sends (take (suc n) out)) (l.written ++ (take (suc n) out ∷ []))

-- and after its first k moments, where w is the line while it works, and v that after the whole call: beside a number nothing is sent
abbrev pub line_at : ℕ → ℕ → Line → Line → Line
line_at zero zero v w = w
line_at zero (suc zero) v w = line w.wire v.written
line_at zero (suc (suc k)) v w = v
line_at (suc n) k v w = w

-- ---- a call that gave back n, up to its first k moments
pub record Goes {S : Type 0} (a : Part S) (size : ℕ) (c : Call S) (k n : ℕ) (w : Line) (slots : List ℕ) (l : Line) (slots' : List ℕ) (l' : Line) : Type 0 where
  pub works : Works a.keeping size c slots n
  pub stored : SlotsAfter n k works.image' slots slots'
  pub sent : l' ≡ line_at n k (line_after a c works.told' works.out' l) w

-- ---- a side gives up; where the power goes in that, after so many moments, it boots with the slots that are left, and gives up again
pub record Closes {S : Type 0} (a : Part S) (k : ℕ) (slots slots' : List ℕ) : Type 0 where
  pub works : Works a.keeping 0 (closing a) slots 0
  pub stored : StoredAfter k works.image' slots slots'

abbrev pub ClosesAfter : {S : Type 0} → Part S → List (ℕ × List ℕ) → List ℕ → List ℕ → Type 0
ClosesAfter a [] slots slots' = Closes a 2 slots slots'
ClosesAfter a (x ∷ xs) slots slots' = Closes a x.0 slots x.1 × ClosesAfter a xs x.1 slots'

pub record GaveUp {S : Type 0} (a : Part S) (slots slots' : List ℕ) : Type 0 where
  pub cuts : List (ℕ × List ℕ)
  pub closed : ClosesAfter a cuts slots slots'

-- ---- the power is cut in a call after its first k moments; then the side boots, and gives up
-- (the wire while it works: with a call that answers it is empty, and the message that was taken is gone)
abbrev pub while_working : {S : Type 0} → Call S → Line → Line
while_working (quiet f) l = l
while_working (answers f) l = silent l

pub record CutShort {S : Type 0} (a : Part S) (size : ℕ) (c : Call S) (k : ℕ) (slots : List ℕ) (l : Line) (slots' : List ℕ) (l' : Line) : Type 0 where
  pub number : ℕ
  pub left : List ℕ
  pub goes : Goes a size c k number (while_working c l) slots l left l'
  pub boots : GaveUp a left slots'
