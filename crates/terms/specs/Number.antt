-- The two kinds of card numbers: the press's (LUID) and the server's (GUID). 0 stands for none (01, "The two tables").
use Rattle.std.specs.Prelude.{ℕ}
use Rattle.terms.specs.declared.Luid.{Luid}
use Rattle.terms.specs.declared.Guid.{Guid}

abbrev pub luid : ℕ → Luid
luid n = record { 0 = n }

abbrev pub guid : ℕ → Guid
guid n = record { 0 = n }

abbrev pub no_luid : Luid
no_luid = luid 0

abbrev pub no_guid : Guid
no_guid = guid 0
