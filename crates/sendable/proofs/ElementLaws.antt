-- Which elements of lists are in the written form: a law for each kind.
-- Assumes nothing.
use Prim.Native.Nat.{ℕ, ◌≤◌, ◌<◌, ◌+◌}
use mathlib.Core.Path.{◌≡◌, refl, sym, ap, ◌∙◌, subst}
use native.Mathlib.Omega.{arith}
use Rattle.text.specs.declared.Wording.{Wording}
use Rattle.text.specs.Text.{bytes_of, GoodText}
use Rattle.text.specs.Wording.{no_wording, IsWording}
use Rattle.text.proofs.TextLaws.{good_parts}
use Rattle.text.proofs.KeptLaws.{kept_bytes}
use Rattle.text.proofs.WordingLaws.{nothing_said}
use Rattle.shape.specs.Marks.{field_of}
use Rattle.shape.specs.Row.{Row, blank}
use Rattle.shape.specs.Shape.{GoodShape, copy_shape}
use Rattle.page.specs.Page.{page, shape}
use Rattle.page.specs.declared.Kinds.{Kinds}
use Rattle.terms.specs.declared.Luid.{Luid}
use Rattle.terms.specs.declared.Guid.{Guid}
use Rattle.terms.specs.Number.{no_luid, no_guid}
use Rattle.elements.specs.Element.{of_element}
use Rattle.lists.specs.declared.Entry.{Entry}
use Rattle.lists.specs.Lists.{entry_of}
use Rattle.message.specs.Message.{report_kinds, empty_statuses, statuses, press_commands, server_commands}
use Rattle.sendable.specs.Sendable.{InRange, CardNumber, Fingerprint, Code, Number, CmdRef, Cmd, fields_with, entry_with, Sendable}
use Rattle.sendable.proofs.MarkLaws.{marks, by_marks}

-- ---- what is said has its form: the text keeps the text rule, the station has its range
pub good_text : (w : Wording) → IsWording w → GoodText (bytes_of w.text)
good_text w h =
    let t = h.text in
    let l = t.0 in
    subst GoodText (sym (ap bytes_of t.2 ∙ kept_bytes l (good_parts l t.1).0)) t.1

good_station : (w : Wording) → IsWording w → InRange 0 255 w.station
good_station w h = (omega arith, h.station)

-- ---- an element is in the form by the marks of its line: each value has its range, and there are no others
abbrev row : Entry → Row
row e = (of_element (entry_of e)).1

sendable : (k : Kinds) (e : Entry) → k.from ≤ e.fields.kind → e.fields.kind < k.from + k.count → ((id : ℕ) → GoodShape id (row e) (marks (shape e.fields.kind)))
    → copy_shape (row e) (marks (shape e.fields.kind)) blank ≡ row e → IsWording e.wording → Sendable k e
sendable k e a b g c t = (λ id n. ((a, b), by_marks (shape e.fields.kind) id (row e) n.1 (g id) c), t)

-- ---- reports, with GUID and without
module _ (luid : Luid) (fp : ℕ) (l : CardNumber luid.0) (f : Fingerprint fp) where
  pub report_with_guid_lem : (guid : Guid) → CardNumber guid.0 → Sendable report_kinds (entry_with (fields_with 7 0 0 0 0 guid luid fp) no_wording)
  unfolding shape page field_of
  report_with_guid_lem guid g = sendable report_kinds (entry_with (fields_with 7 0 0 0 0 guid luid fp) no_wording) (omega arith) (omega arith) (λ id. (g, (f, (l, tt)))) refl nothing_said

  pub report_without_guid_lem : Sendable report_kinds (entry_with (fields_with 8 0 0 0 0 no_guid luid fp) no_wording)
  unfolding shape page field_of
  report_without_guid_lem = sendable report_kinds (entry_with (fields_with 8 0 0 0 0 no_guid luid fp) no_wording) (omega arith) (omega arith) (λ id. (f, (l, tt))) refl nothing_said

-- ---- statuses of commands
module _ (msgref cmdref cmd code : ℕ) (m : Number msgref) (r : CmdRef cmdref) (n : Cmd cmd) (c : Code code) where
  in_words : (2 ≤ cmd) × (cmd < 2 + 3)
  in_words = (n.0, omega (arith, n.1))

  -- empty, in a list that holds such statuses
  empty_in : (k : Kinds) → k.from ≤ 9 → 9 < k.from + k.count → Sendable k (entry_with (fields_with 9 msgref cmdref cmd code no_guid no_luid 0) no_wording)
  unfolding shape page field_of
  empty_in k a b = sendable k (entry_with (fields_with 9 msgref cmdref cmd code no_guid no_luid 0) no_wording) a b (λ id. (m, (r, (in_words, (c, tt))))) refl nothing_said

  -- in Pkg 4
  pub empty_status_lem : Sendable empty_statuses (entry_with (fields_with 9 msgref cmdref cmd code no_guid no_luid 0) no_wording)
  empty_status_lem = empty_in empty_statuses (omega arith) (omega arith)

  -- in Pkg 5: without a StatusItem, with a LUID, with GUID and LUID
  pub status_without_item : Sendable statuses (entry_with (fields_with 9 msgref cmdref cmd code no_guid no_luid 0) no_wording)
  status_without_item = empty_in statuses (omega arith) (omega arith)

  module _ (luid : Luid) (fp : ℕ) (l : CardNumber luid.0) (f : Fingerprint fp) where
    pub status_with_luid : Sendable statuses (entry_with (fields_with 10 msgref cmdref cmd code no_guid luid fp) no_wording)
    unfolding shape page field_of
    status_with_luid =
        sendable statuses (entry_with (fields_with 10 msgref cmdref cmd code no_guid luid fp) no_wording) (omega arith) (omega arith) (λ id. (m, (r, (in_words, (c, (f, (l, tt))))))) refl nothing_said

    pub status_with_guid : (guid : Guid) → CardNumber guid.0 → Sendable statuses (entry_with (fields_with 11 msgref cmdref cmd code guid luid fp) no_wording)
    unfolding shape page field_of
    status_with_guid guid g =
        sendable statuses (entry_with (fields_with 11 msgref cmdref cmd code guid luid fp) no_wording) (omega arith) (omega arith) (λ id. (m, (r, (in_words, (c, (g, (f, (l, tt)))))))) refl nothing_said

-- ---- the press's commands
module _ (luid : Luid) (l : CardNumber luid.0) where
  pub press_delete_lem : Sendable press_commands (entry_with (fields_with 12 0 0 0 0 no_guid luid 0) no_wording)
  unfolding shape page field_of
  press_delete_lem = sendable press_commands (entry_with (fields_with 12 0 0 0 0 no_guid luid 0) no_wording) (omega arith) (omega arith) (λ id. (l, tt)) refl nothing_said

  module _ (fp : ℕ) (w : Wording) (f : Fingerprint fp) (h : IsWording w) where
    pub press_replace : Sendable press_commands (entry_with (fields_with 13 0 0 0 0 no_guid luid fp) w)
    unfolding shape page field_of
    press_replace = sendable press_commands (entry_with (fields_with 13 0 0 0 0 no_guid luid fp) w) (omega arith) (omega arith) (λ id. (f, (l, (good_station w h, (good_text w h, tt))))) refl h

    pub press_add_lem : Sendable press_commands (entry_with (fields_with 14 0 0 0 0 no_guid luid fp) w)
    unfolding shape page field_of
    press_add_lem = sendable press_commands (entry_with (fields_with 14 0 0 0 0 no_guid luid fp) w) (omega arith) (omega arith) (λ id. (f, (l, (good_station w h, (good_text w h, tt))))) refl h

-- ---- the server's commands
module _ (luid : Luid) (l : CardNumber luid.0) where
  pub server_delete_lem : Sendable server_commands (entry_with (fields_with 15 0 0 0 0 no_guid luid 0) no_wording)
  unfolding shape page field_of
  server_delete_lem = sendable server_commands (entry_with (fields_with 15 0 0 0 0 no_guid luid 0) no_wording) (omega arith) (omega arith) (λ id. (l, tt)) refl nothing_said

  pub server_replace : (w : Wording) → IsWording w → Sendable server_commands (entry_with (fields_with 16 0 0 0 0 no_guid luid 0) w)
  unfolding shape page field_of
  server_replace w h = sendable server_commands (entry_with (fields_with 16 0 0 0 0 no_guid luid 0) w) (omega arith) (omega arith) (λ id. (l, (good_station w h, (good_text w h, tt)))) refl h

pub server_add_lem : (guid : Guid) (w : Wording) → CardNumber guid.0 → IsWording w → Sendable server_commands (entry_with (fields_with 17 0 0 0 0 guid no_luid 0) w)
unfolding shape page field_of
server_add_lem guid w g h = sendable server_commands (entry_with (fields_with 17 0 0 0 0 guid no_luid 0) w) (omega arith) (omega arith) (λ id. (g, (good_station w h, (good_text w h, tt)))) refl h
