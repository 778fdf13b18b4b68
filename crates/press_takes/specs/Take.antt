-- The press at Pkg 4, second part: the server's commands, one after the other (01, "Press at Pkg 4"). What one does is in press_replies, beside its answer.
use Rattle.std.specs.Prelude.{ℕ, List}
use Rattle.cards.specs.declared.Cards.{Cards}
use Rattle.lists.specs.declared.Entry.{Entry}
use Rattle.places.specs.Act.{in_order, replies}
use Rattle.listing.specs.declared.Listing.{Listing}
use Rattle.listing.specs.Listing.{listing}
use Rattle.press_replies.specs.Reply.{answering}
pub use Rattle.press_replies.specs.Reply.{taken_card, delete_at, with_replaced, replace_at, with_added, add_at, after_command_by}
unfoldable pub use Rattle.press_replies.specs.Reply.{after_command}

-- the cards after the server's commands, and the answers
pub record Taken : Type 0 where
  pub cards : Cards
  pub statuses : Listing

abbrev pub taken : Cards → Listing → Taken
taken c l = record { cards = c; statuses = l }

-- with the answers, of which the first has number ref
unfoldable pub taken_all : ℕ → List Entry → Cards → Taken
taken_all ref os c = record { cards = in_order after_command os c; statuses = listing (replies answering after_command ref os c) }
