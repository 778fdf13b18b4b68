-- What the packages say, free of spelling: the head of a package, the elements of its lists, and what ends a list.
use Rattle.std.specs.Prelude.{ℕ, List, [], ◌∷◌}
use Rattle.token.specs.Ans.{Ans, got, keep}
use Rattle.text.specs.declared.Wording.{Wording}
use Rattle.text.specs.Text.{bytes_of}
use Rattle.spelling.specs.Part.{text_in}
use Rattle.grammar.specs.Codec.{Codec, named}
use Rattle.shape.specs.Marks.{slot_session_iD, slot_msg_iD, slot_header_ref, slot_msg_ref, slot_cmd_ref, slot_last, slot_next, slot_validity, slot_cmd, slot_code, slot_guid, slot_luid, slot_fp, slot_changes, slot_station}
use Rattle.shape.specs.Row.{RowOf, Row, PartRow, num_of, nums_with}
use Rattle.shape.specs.Shape.{shape_c}
use Rattle.page.specs.Page.{shape}
use Rattle.page.specs.Kind.{kind_c, kind_row_at}
use Rattle.page.specs.declared.Kinds.{Kinds}
use Rattle.terms.specs.Number.{luid, guid}
use Rattle.elements.specs.declared.Head.{Head}
use Rattle.elements.specs.declared.Fields.{Fields}
use Rattle.elements.specs.declared.Placed.{Placed}
use Rattle.elements.specs.declared.End.{End}

-- ---- the head: all that stands before a package's lists. What a package does not have is 0:
-- the header status's MsgRef (headerref) in Pkg 1; MsgRef and CmdRef of the SyncAlert's or Sync's status (msgref, cmdref) in Pkg 1 and 6;
-- the anchors (last, next) and ChangeLogValidity in Pkg 3 to 6
abbrev pub to_head : {T : Type 0} → ℕ × RowOf T → Head
to_head x =
    record {
      pkg = x.0;
      session = num_of x.1 slot_session_iD;
      message = num_of x.1 slot_msg_iD;
      headerref = num_of x.1 slot_header_ref;
      msgref = num_of x.1 slot_msg_ref;
      cmdref = num_of x.1 slot_cmd_ref;
      last = num_of x.1 slot_last;
      next = num_of x.1 slot_next;
      valid = num_of x.1 slot_validity;
    }

abbrev pub of_head : Head → ℕ × Row
of_head h = (
  h.pkg,
  record {
    nums =
        nums_with
        ((slot_session_iD, h.session)
        ∷ (slot_msg_iD, h.message)
        ∷ (slot_header_ref, h.headerref)
        ∷ (slot_msg_ref, h.msgref)
        ∷ (slot_cmd_ref, h.cmdref)
        ∷ (slot_last, h.last)
        ∷ (slot_next, h.next)
        ∷ (slot_validity, h.valid)
        ∷ []);
    text = [];
  },
)

abbrev pub head_c : Codec Head
head_c = named to_head of_head (kind_c 6 1 0)

-- ---- an element of a list: a report, a status of a command, or a command. What its kind does not have is 0, or empty.
-- kind 7, 8: report with GUID, without; 9, 10, 11: status of a command, empty, with LUID, with GUID and LUID;
-- 12, 13, 14: the press's Delete, Replace, Add; 15, 16, 17: the server's. cmd, what a status answers: 2 Add, 3 Replace, 4 Delete
pub record Element : Type 0 where
  pub fields : Fields
  pub station : ℕ
  pub text : List ℕ

abbrev pub to_fields : {T : Type 0} → ℕ → RowOf T → Fields
to_fields k r =
    record {
      kind = k;
      msgref = num_of r slot_msg_ref;
      cmdref = num_of r slot_cmd_ref;
      cmd = num_of r slot_cmd;
      code = num_of r slot_code;
      guid = guid (num_of r slot_guid);
      luid = luid (num_of r slot_luid);
      fp = num_of r slot_fp;
    }

abbrev pub of_fields : Fields → ℕ → List ℕ
of_fields f station =
    nums_with
    ((slot_msg_ref, f.msgref)
    ∷ (slot_cmd_ref, f.cmdref)
    ∷ (slot_cmd, f.cmd)
    ∷ (slot_code, f.code)
    ∷ (slot_guid, f.guid.0)
    ∷ (slot_luid, f.luid.0)
    ∷ (slot_fp, f.fp)
    ∷ (slot_station, station)
    ∷ [])

abbrev pub to_element : ℕ × Row → Element
to_element x = record { fields = to_fields x.0 x.1; station = num_of x.1 slot_station; text = x.1.text }

abbrev pub of_element : Element → ℕ × Row
of_element e = (e.fields.kind, record { nums = of_fields e.fields e.station; text = e.text })

abbrev pub element_c : Kinds → ℕ → Codec Element
element_c k id = named to_element of_element (kind_c k.count k.from id)

-- ---- what ends a list: where a Sync begins, its number of changes (02, 1). What the line does not have is 0
abbrev pub to_end : {T : Type 0} → RowOf T → End
to_end r = record { changes = num_of r slot_changes }

abbrev pub of_end : End → Row
of_end e = record { nums = nums_with ((slot_changes, e.changes) ∷ []); text = [] }

abbrev pub end_c : ℕ → ℕ → Codec End
end_c k id = named to_end of_end (shape_c (shape k) id)

-- the element as it stands in s: of its text the code has where s spells it
abbrev pub to_placed : ℕ × PartRow → Placed
to_placed x = record { fields = to_fields x.0 x.1; station = num_of x.1 slot_station; text = x.1.text }

unfoldable pub placed_at : Kinds → ℕ → List ℕ → ℕ → Ans Placed
placed_at k id s at = keep (kind_row_at k.count k.from id s at) (λ x p. got (to_placed x) p)

-- the element that it is
abbrev pub element_in : List ℕ → Placed → Element
element_in s x = record { fields = x.fields; station = x.station; text = text_in s x.text }

-- the element of these fields that says this: text and station go together
abbrev pub element_with : Fields → Wording → Element
element_with f w = record { fields = f; station = w.station; text = bytes_of w.text }

-- what is written of an element, whatever the list
abbrev pub write_element : ℕ → Element → List ℕ
write_element id e = (shape_c (shape e.fields.kind) id).write (of_element e).1
