-- Edits by people at the press (01, "Edits by people, between sessions"; refusals 1, 3, 4, 2 as far as each applies).
use Rattle.std.specs.Prelude.{Option, Some, None}
use Rattle.std.specs.Prelude.{ℕ, ◌+◌, ◌<◌, cond, not, ◌||◌, List, get_or, set, eqb, leb}
use Rattle.text.specs.Text.{text_ok}
use Rattle.text.specs.declared.Wording.{Wording}
use Rattle.text.specs.Wording.{signed_by}
use Rattle.places.specs.Set.{all_places, lowest_free, with_place}
use Rattle.terms.specs.Check.{checked, or_refuse}
use Rattle.terms.specs.declared.Luid.{Luid}
use Rattle.terms.specs.Number.{luid}
use Rattle.cards.specs.declared.Mark.{Mark}
use Rattle.cards.specs.declared.Mark.TheVariants.{Clean, Added, Changed, Deleted}
use Rattle.cards.specs.declared.Card.{Card}
use Rattle.cards.specs.declared.Cards.{Cards}
use Rattle.cards.specs.declared.Press.{Press}
use Rattle.cards.specs.Press.{no_report, no_card, is_open, find_card}
use Rattle.press_edits.specs.Edited.{Done, Refused}
use Rattle.press_edits.specs.Edited.{Edited}

-- ---- refused with a number, and the press as it was
abbrev pub refusal : ℕ → Press → Edited
refusal n p = record { outcome = Refused n; press = p }

-- done, with the table c in the press
abbrev pub with_cards : Press → Cards → Press
with_cards p c = record { cards = c; anchor = p.anchor; session = p.session; awaits = p.awaits }

abbrev pub done : Press → Luid → Cards → Edited
done p l c = record { outcome = Done l; press = with_cards p c }

-- ---- add: a new card with the next LUID and fingerprint, mark added, no report, in the lowest free place; the press's number is its station (02, 5)
abbrev pub new_card : Cards → List ℕ → Card
new_card c s = record { mark = Added; luid = luid (c.luid + 1); fp = c.fp + 1; report = no_report; wording = signed_by c.station s }

abbrev pub with_new : Cards → ℕ → List ℕ → Cards
with_new c i s = record { used = with_place c.used i; places = set c.places i (new_card c s); luid = c.luid + 1; fp = c.fp + 1; station = c.station }

-- the lowest free place, where a LUID and a fingerprint are left
unfoldable pub room_for : Cards → Option ℕ
room_for c = cond (leb 65535 c.luid || eqb c.fp 4294967295) None (lowest_free c.used)

-- a place, a LUID and a fingerprint are left
abbrev pub Left : Cards → ℕ → Type 0
Left c i = (i < all_places) × (c.luid < 65535) × (c.fp < 4294967295)

abbrev pub add_if_room : Press → List ℕ → Option ℕ → Edited
add_if_room p s None = refusal 2 p
add_if_room p s (Some i) = done p (luid (p.cards.luid + 1)) (with_new p.cards i s)

-- 1 while the press is open, 4 by the text rule, 2 where place or number is spent
unfoldable pub press_add : Press → List ℕ → Edited
press_add p s = or_refuse (checked (not (is_open p.awaits))) (refusal 1 p) (or_refuse (checked (text_ok s)) (refusal 4 p) (add_if_room p s (room_for p.cards)))

-- ---- edit: new text, signed by this press, and new fingerprint; added stays added, clean becomes changed; an equal text is an edit too
abbrev pub edited : Mark → Mark
edited Clean = Changed
edited Added = Added
edited Changed = Changed
edited Deleted = Deleted

abbrev pub edited_card : Card → ℕ → Wording → Card
edited_card x n w = record { mark = edited x.mark; luid = x.luid; fp = n; report = x.report; wording = w }

abbrev pub with_edit : Cards → ℕ → List ℕ → Cards
with_edit c i s = record { used = c.used; places = set c.places i (edited_card (get_or c.places i no_card) (c.fp + 1) (signed_by c.station s)); luid = c.luid; fp = c.fp + 1; station = c.station }

abbrev pub edit_if_found : Press → Luid → List ℕ → Option ℕ → Edited
edit_if_found p l s None = refusal 3 p
edit_if_found p l s (Some i) = or_refuse (checked (text_ok s)) (refusal 4 p) (or_refuse (checked (not (eqb p.cards.fp 4294967295))) (refusal 2 p) (done p l (with_edit p.cards i s)))

-- 1 while the press is open, 3 where there is no such card, 4 by the text rule, 2 where no fingerprint is left
unfoldable pub press_edit : Press → Luid → List ℕ → Edited
press_edit p l s = or_refuse (checked (not (is_open p.awaits))) (refusal 1 p) (edit_if_found p l s (find_card p.cards l))

-- ---- delete: the card becomes a delete mark, keeping LUID and report
abbrev pub deleted_card : Card → Card
deleted_card x = record { mark = Deleted; luid = x.luid; fp = x.fp; report = x.report; wording = x.wording }

abbrev pub with_delete : Cards → ℕ → Cards
with_delete c i = record { used = c.used; places = set c.places i (deleted_card (get_or c.places i no_card)); luid = c.luid; fp = c.fp; station = c.station }

abbrev pub delete_if_found : Press → Luid → Option ℕ → Edited
delete_if_found p l None = refusal 3 p
delete_if_found p l (Some i) = done p l (with_delete p.cards i)

-- 1 while the press is open, 3 where there is no such card
unfoldable pub press_delete : Press → Luid → Edited
press_delete p l = or_refuse (checked (not (is_open p.awaits))) (refusal 1 p) (delete_if_found p l (find_card p.cards l))
