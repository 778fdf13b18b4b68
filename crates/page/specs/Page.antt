-- The written form, as a page of shapes (01, "Written form"; element names and their order follow document 001). Marks.antt has the marks.
use Rattle.std.specs.Prelude.{ℕ, cond, List, [], ◌∷◌, ◌++◌, eqb}
use Rattle.token.specs.Text.{bytes}
use Rattle.token.specs.Texts.{pick}
use Rattle.shape.specs.Marks.{Field, fields}

-- ---- header: session number, message number, and the addresses of the direction
abbrev pub to_server : List ℕ
to_server = bytes "<SyncML Version=\"2.0\"><SyncHdr SessionID=\"$\" MsgID=\":\"><TargetServerURI>./plant</TargetServerURI><SourceClientURI>./press</SourceClientURI></SyncHdr><SyncBody>"

abbrev pub to_press : List ℕ
to_press = bytes "<SyncML Version=\"2.0\"><SyncHdr SessionID=\"$\" MsgID=\":\"><TargetClientURI>./press</TargetClientURI><SourceServerURI>./plant</SourceServerURI></SyncHdr><SyncBody>"

-- ---- the fixed statuses: header status with CmdID 1 and CmdRef 0, status of the SyncAlert, status of the Sync with CmdID 2; all of Code 200.
-- Numbers that can be only one are marks too, so that they are read in any spelling: _ 0, ' 1, , 2, { 3, | 200 (02, 2)
abbrev pub header_status : List ℕ
header_status = bytes "<Status CmdID=\"'\" MsgRef=\"-\" CmdRef=\"_\" Cmd=\"SyncHdr\" Code=\"|\"/>"

abbrev pub alert_status : List ℕ
alert_status = bytes "<Status CmdID=\",\" MsgRef=\"(\" CmdRef=\")\" Cmd=\"SyncAlert\" Code=\"|\"/>"

abbrev pub sync_status : List ℕ
sync_status = bytes "<Status CmdID=\",\" MsgRef=\"(\" CmdRef=\")\" Cmd=\"Sync\" Code=\"|\"/>"

-- ---- SyncAlert: anchors, datastore on both sides, two-way, Preserve, IDValidity true
abbrev pub anchor : List ℕ
anchor = bytes "<Anchor Last=\"[\" Next=\"]\"/>"

abbrev pub cards_of_server : List ℕ
cards_of_server = bytes "<TargetServerURI>./cards</TargetServerURI><SourceClientURI>./cards</SourceClientURI>"

abbrev pub cards_of_press : List ℕ
cards_of_press = bytes "<TargetClientURI>./cards</TargetClientURI><SourceServerURI>./cards</SourceServerURI>"

abbrev pub sync_type : List ℕ
sync_type = bytes "<SyncType Direction=\"twoWay\" Behaviour=\"Preserve\" IDValidity=\"true\" ChangeLogValidity=\"?\"/>"

-- ---- a status of a command up to its end, and the StatusItem: ServerURI if there is a GUID, then ClientURI
abbrev pub command_status : List ℕ
command_status = bytes "<Status CmdID=\"#\" MsgRef=\"(\" CmdRef=\")\" Cmd=\"*\" Code=\"%\""

abbrev pub with_luid : List ℕ
with_luid = bytes "><StatusItem><ClientURI FP=\"+\">^</ClientURI></StatusItem></Status>"

abbrev pub with_guid : List ℕ
with_guid = bytes "><StatusItem><ServerURI>@</ServerURI><ClientURI FP=\"+\">^</ClientURI></StatusItem></Status>"

-- ---- the Sync as it begins, up to the addresses
abbrev pub sync_begins : List ℕ
sync_begins = bytes "<Sync CmdID=\"#\" NumberOfChanges=\"!\">"

-- ---- the commands that have a text, up to the card's number and from the text on; between the two stands the station (02, 5)
abbrev pub press_replaces : List ℕ
press_replaces = bytes "<Replace CmdID=\"#\"><Item><SourceClientURI FP=\"+\">^</SourceClientURI>"

abbrev pub press_adds : List ℕ
press_adds = bytes "<Add CmdID=\"#\"><Item><SourceClientURI FP=\"+\">^</SourceClientURI>"

abbrev pub server_replaces : List ℕ
server_replaces = bytes "<Replace CmdID=\"#\"><Item><TargetClientURI>^</TargetClientURI>"

abbrev pub server_adds : List ℕ
server_adds = bytes "<Add CmdID=\"#\"><Item><SourceServerURI>@</SourceServerURI>"

abbrev pub station : List ℕ
station = bytes "<Meta Type=\"text/plain;station=&\"/>"

abbrev pub replace_ends : List ℕ
replace_ends = bytes "~</Item></Replace>"

abbrev pub add_ends : List ℕ
add_ends = bytes "~</Item></Add>"

-- ---- the page: the line in which each kind of element is written; and lines in which a kind is read too
unfoldable pub page : List (List ℕ)
page =
    []
    -- 1 to 6: the packages up to their lists. Pkg 1: a SyncAlert
    ∷ (to_server ++ (bytes "<SyncAlert CmdID=\"'\">" ++ (anchor ++ (cards_of_server ++ (sync_type ++ bytes "</SyncAlert><Final/>")))))
    -- Pkg 2: header status, status of the SyncAlert, a SyncAlert
    ∷ (to_press ++ (header_status ++ (alert_status ++ (bytes "<SyncAlert CmdID=\"{\">" ++ (anchor ++ (cards_of_press ++ (sync_type ++ bytes "</SyncAlert><Final/>")))))))
    -- Pkg 3: the same two statuses; then reports, and a Sync with commands
    ∷ (to_server ++ (header_status ++ alert_status))
    -- Pkg 4: header status, status of the Sync; then a status for each command, and a Sync with commands
    ∷ (to_press ++ (header_status ++ sync_status))
    -- Pkg 5: header status, status of the Sync; then a status for each command
    ∷ (to_server ++ (header_status ++ sync_status))
    -- Pkg 6: header status
    ∷ (to_press ++ (header_status ++ bytes "<Final/>"))
    -- 7, 8: reports, of Cmd Add with GUID or Replace without, MsgRef 1, CmdRef 1, Code 200
    ∷ (bytes "<Status CmdID=\"#\" MsgRef=\"'\" CmdRef=\"'\" Cmd=\"Add\" Code=\"|\"" ++ with_guid)
    ∷ (bytes "<Status CmdID=\"#\" MsgRef=\"'\" CmdRef=\"'\" Cmd=\"Replace\" Code=\"|\"" ++ with_luid)
    -- 9 to 11: statuses of commands: empty, with a LUID, with GUID and LUID
    ∷ (command_status ++ bytes "/>")
    ∷ (command_status ++ with_luid)
    ∷ (command_status ++ with_guid)
    -- 12 to 14: the press's commands name SourceClientURI; Replace and Add have fingerprint, station and text
    ∷ bytes "<Delete CmdID=\"#\"><Item><SourceClientURI>^</SourceClientURI></Item></Delete>"
    ∷ (press_replaces ++ (station ++ replace_ends))
    ∷ (press_adds ++ (station ++ add_ends))
    -- 15 to 17: the server's name TargetClientURI, its Add SourceServerURI; Replace and Add have station and text
    ∷ bytes "<Delete CmdID=\"#\"><Item><TargetClientURI>^</TargetClientURI></Item></Delete>"
    ∷ (server_replaces ++ (station ++ replace_ends))
    ∷ (server_adds ++ (station ++ add_ends))
    -- 18, 19: the Sync begins with its number of changes (02, 1), to the server and to the press
    ∷ (sync_begins ++ cards_of_server)
    ∷ (sync_begins ++ cards_of_press)
    -- 20: the Sync and the message end; 21 to 23: a body without a Sync ends, and the message
    ∷ bytes "</Sync><Final/></SyncBody></SyncML>"
    ∷ bytes "<Final/></SyncBody>"
    ∷ bytes "</SyncBody>"
    ∷ bytes "</SyncML>"
    -- 24 to 27: read and never written: kinds 13, 14, 16 and 17 without a station, which is 0 then
    ∷ (press_replaces ++ replace_ends)
    ∷ (press_adds ++ add_ends)
    ∷ (server_replaces ++ replace_ends)
    ∷ (server_adds ++ add_ends)
    ∷ []

-- the shape of a line; a kind is written by the line of its number
unfoldable pub shape : ℕ → List Field
shape k = fields (pick page k)

-- ---- the kinds that have a second line, and the second line of each kind; of one that has none it is the first again
abbrev pub seconds : List (ℕ × ℕ)
seconds = (13, 24) ∷ (14, 25) ∷ (16, 26) ∷ (17, 27) ∷ []

abbrev pub second_in : List (ℕ × ℕ) → ℕ → ℕ
second_in [] k = k
second_in (x ∷ l) k = cond (eqb k x.0) x.1 (second_in l k)

unfoldable pub second : ℕ → ℕ
second k = second_in seconds k
