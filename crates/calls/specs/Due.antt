-- Whether a package is the one awaited (01, "Refusal numbers", row 5).
use Rattle.std.specs.Prelude.{ℕ, Bool, ◌&&◌, eqb}
use Rattle.elements.specs.declared.Head.{Head}

-- of this kind, with this message number
abbrev pub is_kind : ℕ → ℕ → Head → Bool
is_kind pkg message h = eqb h.pkg pkg && eqb h.message message

-- and with this session number
abbrev pub is_due : ℕ → ℕ → ℕ → Head → Bool
is_due pkg message session h = is_kind pkg message h && eqb h.session session
