-- The bench table of 01, row by row, and three rows more: a course from fresh, and all that can be seen after it. A server is fresh with press wins (02, 7).
use Rattle.std.specs.Prelude.{ℕ, zero, suc, ◌≡◌, List, [], ◌∷◌, ◌++◌, map, take, replicate}
use Rattle.token.specs.Text.{bytes}
use Rattle.text.specs.declared.Wording.{Wording}
use Rattle.terms.specs.declared.Luid.{Luid}
use Rattle.terms.specs.declared.Guid.{Guid}
use Rattle.terms.specs.Number.{luid, guid, no_luid}
use Rattle.cards.specs.declared.Mark as card
use Rattle.cards.specs.declared.Awaits as press
use Rattle.cards.specs.declared.Card.{Card}
use Rattle.cards.specs.declared.Press.{Press}
use Rattle.cards.specs.Press.{no_report}
use Rattle.records.specs.declared.Mark as rec
use Rattle.records.specs.declared.Awaits as server
use Rattle.records.specs.declared.Record.{Record}
use Rattle.records.specs.declared.Rule.TheVariants.{PressWins, ServerWins}
use Rattle.records.specs.declared.Server.{Server}
use Rattle.records.specs.Server.{server_goes_by}
use Rattle.message.specs.declared.Content.{Content}
use Rattle.statuses.specs.declared.Name.TheVariants.{Delete, Replace, Add}
use Rattle.statuses.specs.Status.{empty_status, replaced, added}
use Rattle.packages.specs.Package.{head5, packed}
use Rattle.press_rules.specs.Took.{press_with}
use Rattle.server_rules.specs.Took.{server_with}
use Rattle.course.specs.Course.{Sides, fresh_world, Step, press_adds, press_edits, press_deletes, server_adds, server_edits, server_deletes, set_rule, handed, Doing, alone, full, halted, lost_at, Went, goes}
use Rattle.bench_table.specs.Tables.{press_station, by_press, by_server, cards_are, records_are, card_with, report_with, record_with, deletes, replaces, adds, tells_report, replaces_at_press, adds_at_press, normal, recovery}

pub record Row : Type 0 where
  -- what is done from fresh
  pub course : List Doing
  -- what each doing is answered: 0, or the number of its refusal
  pub answers : List ℕ
  -- both sides after it
  pub press : Press
  pub server : Server
  -- all packages that were written
  pub written : List Content

-- ---- what can be seen of a course, and that it is what the row says
pub record Seen (M : Type 0) : Type 0 where
  pub answers : List ℕ
  pub press : Press
  pub server : Server
  pub written : List M

abbrev pub seen : {M : Type 0} → Went M → Seen M
seen x = record { answers = x.answers; press = x.world.press; server = x.world.server; written = x.world.written }

abbrev pub said_by : {M : Type 0} → Sides M → Row → Seen M
said_by s r = record { answers = r.answers; press = r.press; server = r.server; written = map s.by_hand r.written }

abbrev pub Holds : {M : Type 0} → Sides M → Row → Type 0
Holds s r = seen (goes s r.course (fresh_world press_station)) ≡ said_by s r

-- ---- short words of the rows
abbrev pub brown : List ℕ
brown = bytes "Brown"

abbrev pub beige : List ℕ
beige = bytes "Beige"

abbrev pub black : List ℕ
black = bytes "Black"

abbrev pub blue : List ℕ
blue = bytes "Blue"

-- a card without mark or report; a clean record
abbrev pub clean : Luid → ℕ → Wording → Card
clean l fp w = card_with card.Mark.Clean l fp no_report w

abbrev pub paired : Guid → Luid → ℕ → Wording → Record
paired g l known w = record_with rec.Mark.Clean g l known w

-- closed after session n, which both anchors say: last LUID and fingerprint given, cards; last GUID given, records; the rule of a fresh server
abbrev pub press_after : ℕ → ℕ → ℕ → List Card → Press
press_after n l fp xs = press_with (cards_are l fp xs) n n press.Awaits.Nothing

abbrev pub server_after : ℕ → ℕ → List Record → Server
server_after n g xs = server_with PressWins (records_are g xs) n n server.Awaits.Nothing

-- ---- row 1: fresh, full session 2: no commands, both anchors 2
abbrev pub row1 : Row
row1 =
    record {
      course = full ∷ [];
      answers = 0 ∷ [];
      press = press_after 2 0 0 [];
      server = server_after 2 0 [];
      written = normal 2 1 [] [] [] [] [];
    }

-- ---- row 2: press adds "Brown" (LUID 1, FP 1), full: GUID 1, known 1
abbrev pub brown_goes : List Content
brown_goes = normal 2 1 [] (adds (luid 1) 1 (by_press brown) ∷ []) (empty_status 4 Add 200 ∷ []) [] []

abbrev pub row2 : Row
row2 =
    record {
      course = alone (press_adds brown) ∷ full ∷ [];
      answers = 0 ∷ 0 ∷ [];
      press = press_after 2 1 1 (clean (luid 1) 1 (by_press brown) ∷ []);
      server = server_after 2 1 (paired (guid 1) (luid 1) 1 (by_press brown) ∷ []);
      written = brown_goes;
    }

-- ---- row 3: then server adds "Beige" (GUID 2), full: LUID 2, FP 2
abbrev pub beige_comes : List Content
beige_comes = normal 3 2 [] [] [] (adds_at_press (guid 2) (by_server beige) ∷ []) (added 4 (guid 2) (luid 2) 2 ∷ [])

abbrev pub row3 : Row
row3 =
    record {
      course = alone (press_adds brown) ∷ full ∷ alone (server_adds beige) ∷ full ∷ [];
      answers = 0 ∷ 0 ∷ 0 ∷ 0 ∷ [];
      press = press_after 3 2 2 (clean (luid 1) 1 (by_press brown) ∷ clean (luid 2) 2 (by_server beige) ∷ []);
      server = server_after 3 2 (paired (guid 1) (luid 1) 1 (by_press brown) ∷ paired (guid 2) (luid 2) 2 (by_server beige) ∷ []);
      written = brown_goes ++ beige_comes;
    }

-- ---- row 4: row 2 with Pkg 4 lost, then full: still one card, GUID 1
abbrev pub row4 : Row
row4 =
    record {
      course = alone (press_adds brown) ∷ lost_at 4 ∷ full ∷ [];
      answers = 0 ∷ 0 ∷ 0 ∷ [];
      press = press_after 3 1 1 (clean (luid 1) 1 (by_press brown) ∷ []);
      server = server_after 3 1 (paired (guid 1) (luid 1) 1 (by_press brown) ∷ []);
      written = take 4 brown_goes ++ normal 3 1 [] (adds (luid 1) 1 (by_press brown) ∷ []) (empty_status 4 Add 200 ∷ []) [] [];
    }

-- ---- row 5: row 3 with Pkg 5 lost, then full: one Beige, LUID 2, FP 2
abbrev pub row5 : Row
row5 =
    record {
      course = alone (press_adds brown) ∷ full ∷ alone (server_adds beige) ∷ lost_at 5 ∷ full ∷ [];
      answers = 0 ∷ 0 ∷ 0 ∷ 0 ∷ 0 ∷ [];
      press = press_after 4 2 2 (clean (luid 1) 1 (by_press brown) ∷ clean (luid 2) 2 (by_server beige) ∷ []);
      server = server_after 4 2 (paired (guid 1) (luid 1) 1 (by_press brown) ∷ paired (guid 2) (luid 2) 2 (by_server beige) ∷ []);
      written = brown_goes ++ (take 5 beige_comes ++ normal 4 2 (tells_report (guid 2) (luid 2) 2 ∷ []) [] [] [] []);
    }

-- ---- B: after rows 2 and 3; each doing of a row from B is answered 0
abbrev pub from_b : List Doing → List Doing
from_b ds = alone (press_adds brown) ∷ full ∷ alone (server_adds beige) ∷ full ∷ ds

abbrev pub written_to_b : List Content
written_to_b = brown_goes ++ beige_comes

-- ---- row 6: from B, both change card 1: 419, press takes server text, FP 4. That is server wins, which it names (02, 7)
abbrev pub both_change : List Doing
both_change = alone (press_edits (luid 1) black) ∷ alone (server_edits (guid 1) blue) ∷ full ∷ []

abbrev pub row6 : Row
row6 =
    record {
      course = from_b (alone (set_rule ServerWins) ∷ both_change);
      answers = replicate 8 0;
      press = press_after 4 2 4 (clean (luid 1) 4 (by_server blue) ∷ clean (luid 2) 2 (by_server beige) ∷ []);
      server = server_goes_by ServerWins (server_after 4 2 (paired (guid 1) (luid 1) 4 (by_server blue) ∷ paired (guid 2) (luid 2) 2 (by_server beige) ∷ []));
      written =
          written_to_b
          ++ normal 4 3 [] (replaces (luid 1) 3 (by_press black) ∷ []) (empty_status 4 Replace 419 ∷ []) (replaces_at_press (luid 1) (by_server blue) ∷ []) (replaced 5 (luid 1) 4 ∷ []);
    }

-- ---- row 6 as a fresh server has it, press wins (02, 7): 208, server takes press text, FP 3, and no command goes down
abbrev pub row6_press : Row
row6_press =
    record {
      course = from_b both_change;
      answers = replicate 7 0;
      press = press_after 4 2 3 (clean (luid 1) 3 (by_press black) ∷ clean (luid 2) 2 (by_server beige) ∷ []);
      server = server_after 4 2 (paired (guid 1) (luid 1) 3 (by_press black) ∷ paired (guid 2) (luid 2) 2 (by_server beige) ∷ []);
      written = written_to_b ++ normal 4 3 [] (replaces (luid 1) 3 (by_press black) ∷ []) (empty_status 4 Replace 208 ∷ []) [] [];
    }

-- ---- the same where the server's change was offered before, and Pkg 4 lost: offered is an edit too
abbrev pub row6_offered : Row
row6_offered =
    record {
      course = from_b (alone (server_edits (guid 1) blue) ∷ lost_at 4 ∷ alone (press_edits (luid 1) black) ∷ full ∷ []);
      answers = replicate 8 0;
      press = press_after 5 2 3 (clean (luid 1) 3 (by_press black) ∷ clean (luid 2) 2 (by_server beige) ∷ []);
      server = server_after 5 2 (paired (guid 1) (luid 1) 3 (by_press black) ∷ paired (guid 2) (luid 2) 2 (by_server beige) ∷ []);
      written =
          written_to_b
          ++ (take 4 (normal 4 3 [] [] [] (replaces_at_press (luid 1) (by_server blue) ∷ []) [])
          ++ normal 5 3 [] (replaces (luid 1) 3 (by_press black) ∷ []) (empty_status 4 Replace 208 ∷ []) [] []);
    }

-- ---- row 7: from B, press deletes 1, server changes it: returns as LUID 3, FP 3
abbrev pub row7 : Row
row7 =
    record {
      course = from_b (alone (press_deletes (luid 1)) ∷ alone (server_edits (guid 1) blue) ∷ full ∷ []);
      answers = replicate 7 0;
      press = press_after 4 3 3 (clean (luid 3) 3 (by_server blue) ∷ clean (luid 2) 2 (by_server beige) ∷ []);
      server = server_after 4 2 (paired (guid 1) (luid 3) 3 (by_server blue) ∷ paired (guid 2) (luid 2) 2 (by_server beige) ∷ []);
      written = written_to_b ++ normal 4 3 [] (deletes (luid 1) ∷ []) (empty_status 4 Delete 419 ∷ []) (adds_at_press (guid 1) (by_server blue) ∷ []) (added 5 (guid 1) (luid 3) 3 ∷ []);
    }

-- ---- row 8: from B, server deletes GUID 2, press changes LUID 2: 208, kept on both
abbrev pub row8 : Row
row8 =
    record {
      course = from_b (alone (server_deletes (guid 2)) ∷ alone (press_edits (luid 2) black) ∷ full ∷ []);
      answers = replicate 7 0;
      press = press_after 4 2 3 (clean (luid 1) 1 (by_press brown) ∷ clean (luid 2) 3 (by_press black) ∷ []);
      server = server_after 4 2 (paired (guid 1) (luid 1) 1 (by_press brown) ∷ paired (guid 2) (luid 2) 3 (by_press black) ∷ []);
      written = written_to_b ++ normal 4 3 [] (replaces (luid 2) 3 (by_press black) ∷ []) (empty_status 4 Replace 208 ∷ []) [] [];
    }

-- ---- row 9: from B, press renames 1 "Beige", 2 "Brown": pairs stay 1-1, 2-2
abbrev pub row9 : Row
row9 =
    record {
      course = from_b (alone (press_edits (luid 1) beige) ∷ alone (press_edits (luid 2) brown) ∷ full ∷ []);
      answers = replicate 7 0;
      press = press_after 4 2 4 (clean (luid 1) 3 (by_press beige) ∷ clean (luid 2) 4 (by_press brown) ∷ []);
      server = server_after 4 2 (paired (guid 1) (luid 1) 3 (by_press beige) ∷ paired (guid 2) (luid 2) 4 (by_press brown) ∷ []);
      written =
          written_to_b
          ++ normal 4 3 [] (replaces (luid 1) 3 (by_press beige) ∷ replaces (luid 2) 4 (by_press brown) ∷ []) (empty_status 4 Replace 200 ∷ empty_status 5 Replace 200 ∷ []) [] [];
    }

-- ---- row 10: row 3 with Pkg 6 lost: next is recovery, no card number used (LUID 2, FP 2 and GUID 2 stay the last ones given)
abbrev pub row10 : Row
row10 =
    record {
      course = alone (press_adds brown) ∷ full ∷ alone (server_adds beige) ∷ lost_at 6 ∷ full ∷ [];
      answers = replicate 5 0;
      press = press_after 4 2 2 (clean (luid 1) 1 (by_press brown) ∷ clean (luid 2) 2 (by_server beige) ∷ []);
      server = server_after 4 2 (paired (guid 1) (luid 1) 1 (by_press brown) ∷ paired (guid 2) (luid 2) 2 (by_server beige) ∷ []);
      written =
          written_to_b
          ++ recovery 4 2 3 (tells_report (guid 2) (luid 2) 2 ∷ []) (replaces (luid 1) 1 (by_press brown) ∷ replaces (luid 2) 2 (by_server beige) ∷ []) (empty_status 5 Replace 200 ∷ empty_status 6 Replace 200 ∷ []) [] [];
    }

-- ---- row 11: text of 24 taken, 25 refused 4; 32 cards taken, 33rd refused 2; the same at the server
-- (the first card has 24 letters, those after it one)
abbrev pub letters : ℕ → List ℕ
letters n = replicate n 66

unfoldable pub added_from : ℕ → ℕ → List Card
added_from l zero = []
added_from l (suc n) = card_with card.Mark.Added (luid l) l no_report (by_press (letters 1)) ∷ added_from (suc l) n

unfoldable pub dirty_from : ℕ → ℕ → List Record
dirty_from g zero = []
dirty_from g (suc n) = record_with rec.Mark.Dirty (guid g) no_luid 0 (by_server (letters 1)) ∷ dirty_from (suc g) n

abbrev pub limits : (List ℕ → Step) → List Doing
limits adds = alone (adds (letters 24)) ∷ alone (adds (letters 25)) ∷ replicate 32 (alone (adds (letters 1)))

abbrev pub at_limits : List ℕ
at_limits = 0 ∷ 4 ∷ (replicate 31 0 ++ (2 ∷ []))

abbrev pub row11 : Row
row11 =
    record {
      course = limits press_adds ++ limits server_adds;
      answers = at_limits ++ at_limits;
      press = press_after 1 32 32 (card_with card.Mark.Added (luid 1) 1 no_report (by_press (letters 24)) ∷ added_from 2 31);
      server = server_after 1 32 (record_with rec.Mark.Dirty (guid 1) no_luid 0 (by_server (letters 24)) ∷ dirty_from 2 31);
      written = [];
    }

-- ---- row 12: Pkg 5 gives LUID 1 to GUID 2 beside pair 1-1: refused 8
-- (in row 3's session the press has written its Pkg 5, and the server is handed another one, with LUID 1 for 2; both sides stay as they are)
abbrev pub row12 : Row
row12 =
    record {
      course = alone (press_adds brown) ∷ full ∷ alone (server_adds beige) ∷ halted 5 ∷ alone (handed (packed (head5 3 3) (added 4 (guid 2) (luid 1) 2 ∷ []) [])) ∷ [];
      answers = 0 ∷ 0 ∷ 0 ∷ 0 ∷ 8 ∷ [];
      press =
          press_with (cards_are 2 2 (clean (luid 1) 1 (by_press brown) ∷ card_with card.Mark.Clean (luid 2) 2 (report_with (guid 2) (luid 2) 2) (by_server beige) ∷ [])) 2 3 press.Awaits.Six;
      server = server_with PressWins (records_are 2 (paired (guid 1) (luid 1) 1 (by_press brown) ∷ record_with rec.Mark.Offered (guid 2) no_luid 0 (by_server beige) ∷ [])) 2 3 (server.Awaits.Five 0);
      written = brown_goes ++ take 5 beige_comes;
    }

-- ---- row 13, beside those of 01: press and server each add "Brown" before one session, and both cards stand on both sides
abbrev pub row13 : Row
row13 =
    record {
      course = alone (press_adds brown) ∷ alone (server_adds brown) ∷ full ∷ [];
      answers = 0 ∷ 0 ∷ 0 ∷ [];
      press = press_after 2 2 2 (clean (luid 1) 1 (by_press brown) ∷ clean (luid 2) 2 (by_server brown) ∷ []);
      server = server_after 2 2 (paired (guid 1) (luid 2) 2 (by_server brown) ∷ paired (guid 2) (luid 1) 1 (by_press brown) ∷ []);
      written =
          normal 2 1 [] (adds (luid 1) 1 (by_press brown) ∷ []) (empty_status 4 Add 200 ∷ []) (adds_at_press (guid 1) (by_server brown) ∷ []) (added 5 (guid 1) (luid 2) 2 ∷ []);
    }

-- ---- the table
abbrev pub rows : List Row
rows = row1 ∷ row2 ∷ row3 ∷ row4 ∷ row5 ∷ row6 ∷ row6_press ∷ row6_offered ∷ row7 ∷ row8 ∷ row9 ∷ row10 ∷ row11 ∷ row12 ∷ row13 ∷ []
