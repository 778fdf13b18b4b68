-- The marks of a shape. Each stands for one field of an element; any other byte stands for itself.
use Rattle.std.specs.Prelude.{ℕ, cond, List, [], ◌∷◌, eqb}
use Rattle.text.specs.Wording.{last_station}

-- a number that can be only one
pub data Fixed : Type 0 where
  -- the CmdID that is due
  due : Fixed
  -- this number
  exactly : ℕ → Fixed

pub data Field : Type 0 where
  -- this byte
  byte : ℕ → Field
  -- a number that can be only one
  fixed : Fixed → Field
  -- a number: its slot, the least and the greatest that it can be
  num : ℕ → ℕ → ℕ → Field
  -- a word: its slot, how many words there are to choose from, and the first of them
  word : ℕ → ℕ → ℕ → Field
  -- a card's text, as its whole Data element
  text : Field

-- ---- the slots: where a row has the number of a field
abbrev pub slot_session_iD : ℕ
slot_session_iD = 0

abbrev pub slot_msg_iD : ℕ
slot_msg_iD = 1

abbrev pub slot_header_ref : ℕ
slot_header_ref = 2

abbrev pub slot_msg_ref : ℕ
slot_msg_ref = 3

abbrev pub slot_cmd_ref : ℕ
slot_cmd_ref = 4

abbrev pub slot_last : ℕ
slot_last = 5

abbrev pub slot_next : ℕ
slot_next = 6

abbrev pub slot_validity : ℕ
slot_validity = 7

abbrev pub slot_cmd : ℕ
slot_cmd = 8

abbrev pub slot_code : ℕ
slot_code = 9

abbrev pub slot_guid : ℕ
slot_guid = 10

abbrev pub slot_luid : ℕ
slot_luid = 11

abbrev pub slot_fp : ℕ
slot_fp = 12

abbrev pub slot_changes : ℕ
slot_changes = 13

abbrev pub slot_station : ℕ
slot_station = 14

-- ---- the marks: the bytes # $ : - ( ) [ ] ? * % @ ^ + ! & ~ and, for the fixed numbers 0, 1, 2, 3 and 200, the bytes _ ' , { |
abbrev pub mark_cmd_iD : ℕ
mark_cmd_iD = 35

abbrev pub mark_session_iD : ℕ
mark_session_iD = 36

abbrev pub mark_msg_iD : ℕ
mark_msg_iD = 58

abbrev pub mark_header_ref : ℕ
mark_header_ref = 45

abbrev pub mark_msg_ref : ℕ
mark_msg_ref = 40

abbrev pub mark_cmd_ref : ℕ
mark_cmd_ref = 41

abbrev pub mark_last : ℕ
mark_last = 91

abbrev pub mark_next : ℕ
mark_next = 93

abbrev pub mark_validity : ℕ
mark_validity = 63

abbrev pub mark_cmd : ℕ
mark_cmd = 42

abbrev pub mark_code : ℕ
mark_code = 37

abbrev pub mark_guid : ℕ
mark_guid = 64

abbrev pub mark_luid : ℕ
mark_luid = 94

abbrev pub mark_fp : ℕ
mark_fp = 43

abbrev pub mark_changes : ℕ
mark_changes = 33

abbrev pub mark_station : ℕ
mark_station = 38

abbrev pub mark_data : ℕ
mark_data = 126

abbrev pub mark0 : ℕ
mark0 = 95

abbrev pub mark1 : ℕ
mark1 = 39

abbrev pub mark2 : ℕ
mark2 = 44

abbrev pub mark3 : ℕ
mark3 = 123

abbrev pub mark200 : ℕ
mark200 = 124

-- # CmdID            $ SessionID          : MsgID              - MsgRef of the header's status
-- ( MsgRef           ) CmdRef             [ Last               ] Next
-- ? ChangeLogValidity * Cmd of a command  % Code               @ GUID
-- ^ LUID             + FP                 ! NumberOfChanges    & station            ~ Data
-- _ the number 0     ' the number 1       , the number 2       { the number 3       | the number 200
-- Card numbers and fingerprints have their ranges, codes 100 to 999, all other numbers 1 to 4294967295, CmdRef also 0 (01, "Written form"), and so NumberOfChanges (02, 1); stations 0 to 255 (02, 5)
abbrev pub mark_table : List (ℕ × Field)
mark_table =
    (mark_cmd_iD, fixed due)
    ∷ (mark_session_iD, num slot_session_iD 1 4294967295)
    ∷ (mark_msg_iD, num slot_msg_iD 1 4294967295)
    ∷ (mark_header_ref, num slot_header_ref 1 4294967295)
    ∷ (mark_msg_ref, num slot_msg_ref 1 4294967295)
    ∷ (mark_cmd_ref, num slot_cmd_ref 0 4294967295)
    ∷ (mark_last, num slot_last 1 4294967295)
    ∷ (mark_next, num slot_next 1 4294967295)
    ∷ (mark_validity, word slot_validity 2 0)
    ∷ (mark_cmd, word slot_cmd 3 2)
    ∷ (mark_code, num slot_code 100 999)
    ∷ (mark_guid, num slot_guid 1 65535)
    ∷ (mark_luid, num slot_luid 1 65535)
    ∷ (mark_fp, num slot_fp 1 4294967295)
    ∷ (mark_changes, num slot_changes 0 4294967295)
    ∷ (mark_station, num slot_station 0 last_station)
    ∷ (mark_data, text)
    ∷ (mark0, fixed (exactly 0))
    ∷ (mark1, fixed (exactly 1))
    ∷ (mark2, fixed (exactly 2))
    ∷ (mark3, fixed (exactly 3))
    ∷ (mark200, fixed (exactly 200))
    ∷ []

-- what a byte of a line stands for: its field in the table, or itself
abbrev pub field_in : List (ℕ × Field) → ℕ → Field
field_in [] t = byte t
field_in (x ∷ l) t = cond (eqb t x.0) x.1 (field_in l t)

unfoldable pub field_of : ℕ → Field
field_of t = field_in mark_table t

abbrev pub fields : List ℕ → List Field
fields [] = []
fields (t ∷ l) = field_of t ∷ fields l
