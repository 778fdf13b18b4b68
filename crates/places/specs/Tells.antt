-- What a caller hands in: a test, and what it tells; a rule, and what it makes.
use Rattle.std.specs.Prelude.{◌≡◌, Bool}
use Rattle.std.specs.Fn.{Shared}
use denote.Ref.{Bor}

-- each call of f says what q says of the entry
abbrev pub Tells : {F T : Type 0} → Shared F (Bor T × Unit {0}) Bool → F → (T → Bool) → Type 0
Tells g f q = (x : Bor _) (r : Bool) → g.post f (x, tt) r → r ≡ q x.now

-- each call of f gives what g says of the entry
abbrev pub Makes : {F T R : Type 0} → Shared F (Bor T × Unit {0}) R → F → (T → R) → Type 0
Makes d f g = (x : Bor _) (r : _) → d.post f (x, tt) r → r ≡ g x.now
