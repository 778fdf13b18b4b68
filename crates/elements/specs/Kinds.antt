-- The names of the numbers in an element's fields: its kind is the line of the page that it is, Cmd and ChangeLogValidity are words.
use Rattle.std.specs.Prelude.{ℕ}

-- ---- reports
abbrev pub report_with_guid : ℕ
report_with_guid = 7

abbrev pub report_without_guid : ℕ
report_without_guid = 8

-- ---- statuses of commands: empty, with a LUID, with GUID and LUID
abbrev pub empty_kind : ℕ
empty_kind = 9

abbrev pub luid_kind : ℕ
luid_kind = 10

abbrev pub guid_kind : ℕ
guid_kind = 11

-- ---- the press's commands, and the server's
abbrev pub press_delete_kind : ℕ
press_delete_kind = 12

abbrev pub press_replace_kind : ℕ
press_replace_kind = 13

abbrev pub press_add_kind : ℕ
press_add_kind = 14

abbrev pub server_delete_kind : ℕ
server_delete_kind = 15

abbrev pub server_replace_kind : ℕ
server_replace_kind = 16

abbrev pub server_add_kind : ℕ
server_add_kind = 17

-- ---- what ends a list: the Sync begins, to the server or to the press; the Sync ends, and the message; a body without a Sync ends after its
-- statuses, or after its head; the message ends
abbrev pub sync_to_server : ℕ
sync_to_server = 18

abbrev pub sync_to_press : ℕ
sync_to_press = 19

abbrev pub sync_ends : ℕ
sync_ends = 20

abbrev pub statuses_end : ℕ
statuses_end = 21

abbrev pub body_ends : ℕ
body_ends = 22

abbrev pub message_ends : ℕ
message_ends = 23

-- ---- the words of Cmd and of ChangeLogValidity
abbrev pub cmd_add : ℕ
cmd_add = 2

abbrev pub cmd_replace : ℕ
cmd_replace = 3

abbrev pub cmd_delete : ℕ
cmd_delete = 4

abbrev pub is_false : ℕ
is_false = 0

abbrev pub is_true : ℕ
is_true = 1
