-- A call that is refused leaves the side as it was and gives a number that is not 0, and an answer has at least one byte: so 0, where it is told, means that there is none. Assumes nothing.
use Rattle.std.proofs.Common.{Option, Some, None}
use Prim.Native.Nat.{ℕ}
use mathlib.Core.Path.{◌≡◌, refl}
use mathlib.Core.Bool.{not}
use mathlib.Core.List.{List}
use native.Mathlib.Omega.{arith}
use lib.Dec.{eqb, leb}
use lib.ListN.{length}
use lib.Seq.{sets}
use Rattle.token.specs.Ans.{Ans, got, bad}
use Rattle.text.specs.Text.{text_ok}
use Rattle.terms.specs.declared.Luid.{Luid}
use Rattle.terms.specs.declared.Guid.{Guid}
use Rattle.terms.specs.declared.Check.{Check}
use Rattle.terms.specs.Check.{checked, or_refuse}
use Rattle.terms.proofs.CheckLaws.{of_either}
use Rattle.cards.specs.declared.Press.{Press}
use Rattle.cards.specs.Press as press
use Rattle.records.specs.declared.Server.{Server}
use Rattle.records.specs.Server as server
use Rattle.message.specs.declared.Content.{Content}
use Rattle.message.specs.Message.{Message, read_message}
use Rattle.message.specs.Answer.{message_of, content_for}
use Rattle.message.proofs.MessageLaws.{message_moves, whole}
use Rattle.calls.specs.Reply.{Reply}
use Rattle.calls.specs.Says.{Says, sends, done, refuses, Called}
use Rattle.calls.specs.After.{After, after, refused_with, if_read, bytes_for, says_in, answered_in}
use Rattle.sendable.specs.Sendable.{SendablePackage, Readable}
use Rattle.sendable.proofs.SentLaws.{sent_reads_back}
use Rattle.sendable.proofs.ReadLaws.{read_readable}
use Rattle.press_edits.specs.Edited as press_edited
use Rattle.press_edits.specs.Edit as press_edits
use Rattle.server_edits.specs.Edited as server_edited
use Rattle.server_edits.specs.Edit as server_edits
use Rattle.press_awaits.specs.OnContent.{press_begins, press_judges}
use Rattle.press_calls.specs.Call.{press_start, press_takes}
use Rattle.press_sends.specs.InRange.{PressInRange}
use Rattle.server_awaits.specs.OnContent.{server_judges}
use Rattle.server_calls.specs.Call.{server_takes}
use Rattle.server_sends.specs.InRange.{ServerInRange}
use Rattle.image.specs.OnImage.{Result, replied}
use Rattle.press_image.specs.Kept as atPress
use Rattle.server_image.specs.Kept as atServer
use Rattle.course.specs.Course.{press_refusal, server_refusal, said_refusal}
use Rattle.course.specs.OnBytes.{heard_in, heard}
use Rattle.course.proofs.WellLaws.{SentWell, begins_well, press_judges_well, server_judges_well}
use Rattle.course.proofs.RefusalLaws.{RefusesAs, Refuses, begins_refuses, press_refuses, server_refuses}
use Rattle.stored_courses.proofs.StoreLaws.{number_of, side_after}

-- ---- a call that answers: its reply, and the side q that it leaves of the side p
abbrev pub HonestReply : {S : Type 0} → S → S → Reply → Type 0
HonestReply p q (Reply.Written n) = n ≡ 0 → ⊥
HonestReply p q Reply.Done = Unit {0}
HonestReply p q (Reply.Refused n) = (n ≡ 0 → ⊥) × (q ≡ p)

abbrev pub Honest : {S : Type 0} → S → After S → Type 0
Honest p a = HonestReply p a.side a.reply

-- a message is read from at least one byte
some_bytes : (x : Content) → SendablePackage x → length (bytes_for x) ≡ 0 → ⊥
some_bytes x k z =
    let m = bytes_for x in
    let reads = (whole m (message_of x) (length m) (sent_reads_back x k)).reads in
    omega (arith, (message_moves m 0 (message_of x) (length m) reads).forward, z)

module _ {S : Type 0} (p : S) (out : List ℕ) where
  said : (c : Called S Content) → SentWell c.says → Refuses p c → Honest p (answered_in p out c)
  said c = go c.says
    where
      go : (m : Says Content) → SentWell m → RefusesAs p c.side m → Honest p (says_in p c.side out m)
      go (sends x) w r =
          let b = bytes_for x in
          of_either (checked (leb (length b) (length out))) (refused_with 9 p out) (after (Reply.Written (length b)) c.side (sets out 0 b)) (Honest p) ((λ z. omega (arith, z)), refl) (some_bytes x w)
      go done w r = tt
      go (refuses n) w r = (r.not_0, r.as_was)

  read : (f : Content → Called S Content) → ((x : Content) → Readable x → SentWell (f x).says) → ((x : Content) → Refuses p (f x)) → (m : List ℕ) → Honest p (if_read (read_message m) (refused_with 7 p out) (λ x. answered_in p out (f x)))
  read f w r m = go (read_message m) refl
    where
      go : (a : Ans Message) → read_message m ≡ a → Honest p (if_read a (refused_with 7 p out) (λ x. answered_in p out (f x)))
      go (bad k q) e = ((λ z. omega (arith, z)), refl)
      go (got x q) e = said (f (content_for x)) (w (content_for x) (read_readable m x q e)) (r (content_for x))

module _ (p : Press) (h : PressInRange p) (out : List ℕ) where
  pub start_honest : Honest p (press_start p out)
  unfolding press_start
  start_honest = said p out (press_begins p) (begins_well p h).1 (begins_refuses p)

  pub press_honest : (m : List ℕ) → Honest p (press_takes p m out)
  unfolding press_takes
  press_honest m = read p out (press_judges p) (λ x r. (press_judges_well p h x r).1) (press_refuses p) m

pub server_honest : (s : Server) → ServerInRange s → (out m : List ℕ) → Honest s (server_takes s m out)
unfolding server_takes
server_honest s h out m = read s out (server_judges s) (λ x r. (server_judges_well s h x r).1) (server_refuses s) m

-- ---- a call on an image gives back the number n of a course, and leaves its side s of the side p
abbrev pub AsTold : {S : Type 0} → S → Result S → ℕ → S → Type 0
AsTold p r n s = (n ≡ number_of r) × (s ≡ side_after p r)

pub told_heard : {S : Type 0} (p : S) (a : After S) → Honest p a → AsTold p (replied a.reply a.side) (said_refusal (heard a).says) a.side
told_heard p a = go a.reply
  where
    go : (r : Reply) → HonestReply p a.side r → AsTold p (replied r a.side) (said_refusal (heard_in a.output r)) a.side
    go (Reply.Written n) h = (refl, refl)
    go Reply.Done h = (refl, refl)
    go (Reply.Refused n) h = (refl, h.1)

-- an edit at the press
module _ (p : Press) where
  abbrev pub PressTold : press_edited.Edited → Type 0
  PressTold e = AsTold p (atPress.edited e) (press_refusal e.outcome) e.press

  press_unless : (k : Check) (n : ℕ) (e : press_edited.Edited) → PressTold e → PressTold (or_refuse k (press_edits.refusal n p) e)
  press_unless k n e h = of_either k (press_edits.refusal n p) e PressTold (refl, refl) h

  press_closed : (e : press_edited.Edited) → PressTold e → PressTold (or_refuse (checked (not (press.is_open p.awaits))) (press_edits.refusal 1 p) e)
  press_closed e h = press_unless (checked (not (press.is_open p.awaits))) 1 e h

  pub add_told : (t : List ℕ) → PressTold (press_edits.press_add p t)
  unfolding press_edits.press_add
  add_told t =
      let added = press_edits.add_if_room p t (press_edits.room_for p.cards) in
      press_closed (or_refuse (checked (text_ok t)) (press_edits.refusal 4 p) added) (press_unless (checked (text_ok t)) 4 added (go (press_edits.room_for p.cards)))
    where
      go : (r : Option ℕ) → PressTold (press_edits.add_if_room p t r)
      go None = (refl, refl)
      go (Some i) = (refl, refl)

  pub edit_told_lem : (l : Luid) (t : List ℕ) → PressTold (press_edits.press_edit p l t)
  unfolding press_edits.press_edit
  edit_told_lem l t = press_closed (press_edits.edit_if_found p l t (press.find_card p.cards l)) (go (press.find_card p.cards l))
    where
      go : (r : Option ℕ) → PressTold (press_edits.edit_if_found p l t r)
      go None = (refl, refl)
      go (Some i) =
          let whole = press_edits.done p l (press_edits.with_edit p.cards i t) in
          let left = checked (not (eqb p.cards.fp 4294967295)) in
          press_unless (checked (text_ok t)) 4 (or_refuse left (press_edits.refusal 2 p) whole) (press_unless left 2 whole (refl, refl))

  pub delete_told : (l : Luid) → PressTold (press_edits.press_delete p l)
  unfolding press_edits.press_delete
  delete_told l = press_closed (press_edits.delete_if_found p l (press.find_card p.cards l)) (go (press.find_card p.cards l))
    where
      go : (r : Option ℕ) → PressTold (press_edits.delete_if_found p l r)
      go None = (refl, refl)
      go (Some i) = (refl, refl)

-- an edit at the server
module _ (s : Server) where
  abbrev pub ServerTold : server_edited.Edited → Type 0
  ServerTold e = AsTold s (atServer.edited e) (server_refusal e.outcome) e.server

  server_unless : (k : Check) (n : ℕ) (e : server_edited.Edited) → ServerTold e → ServerTold (or_refuse k (server_edits.refusal n s) e)
  server_unless k n e h = of_either k (server_edits.refusal n s) e ServerTold (refl, refl) h

  server_closed : (e : server_edited.Edited) → ServerTold e → ServerTold (or_refuse (checked (not (server.is_open s.link.awaits))) (server_edits.refusal 1 s) e)
  server_closed e h = server_unless (checked (not (server.is_open s.link.awaits))) 1 e h

  pub record_add_told : (t : List ℕ) → ServerTold (server_edits.server_add s t)
  unfolding server_edits.server_add
  record_add_told t =
      let added = server_edits.add_if_room s t (server_edits.room_for s.records) in
      server_closed (or_refuse (checked (text_ok t)) (server_edits.refusal 4 s) added) (server_unless (checked (text_ok t)) 4 added (go (server_edits.room_for s.records)))
    where
      go : (r : Option ℕ) → ServerTold (server_edits.add_if_room s t r)
      go None = (refl, refl)
      go (Some i) = (refl, refl)

  pub record_edit_told : (g : Guid) (t : List ℕ) → ServerTold (server_edits.server_edit s g t)
  unfolding server_edits.server_edit
  record_edit_told g t = server_closed (server_edits.edit_if_found s g t (server.find_record s.records g)) (go (server.find_record s.records g))
    where
      go : (r : Option ℕ) → ServerTold (server_edits.edit_if_found s g t r)
      go None = (refl, refl)
      go (Some i) = server_unless (checked (text_ok t)) 4 (server_edits.done s g (server_edits.with_edit s.records i t)) (refl, refl)

  pub record_delete_told : (g : Guid) → ServerTold (server_edits.server_delete s g)
  unfolding server_edits.server_delete
  record_delete_told g = server_closed (server_edits.delete_if_found s g (server.find_record s.records g)) (go (server.find_record s.records g))
    where
      go : (r : Option ℕ) → ServerTold (server_edits.delete_if_found s g r)
      go None = (refl, refl)
      go (Some i) = (refl, refl)
