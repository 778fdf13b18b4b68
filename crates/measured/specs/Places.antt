-- What the functions for C say: a place, 0 for a refusal; a number out of a message's content.
use Rattle.std.specs.Prelude.{ℕ, get_or}
use Rattle.token.specs.Ans.{Ans, got, bad}
use Rattle.page.specs.declared.Kinds.{Kinds}
use Rattle.lists.specs.Lists.{blank_entry}
use Rattle.message.specs.declared.Content.{Content}
use Rattle.message.specs.Message.{Message}
use Rattle.message.specs.Answer.{content_for}

abbrev pub place_read : {A : Type 0} → Ans A → ℕ
place_read (got a p) = p
place_read (bad k p) = 0

abbrev pub kinds_of : ℕ → ℕ → Kinds
kinds_of from count = record { from = from; count = count }

-- the LUID of the i-th of the commands that are kept, or 0
abbrev pub luid_read : ℕ → Content → ℕ
luid_read i c = (get_or c.commands i blank_entry).fields.luid.0

-- the same of a message; 0 where there is none
abbrev pub luid_in : ℕ → Ans Message → ℕ
luid_in i (got m p) = luid_read i (content_for m)
luid_in i (bad k p) = 0
