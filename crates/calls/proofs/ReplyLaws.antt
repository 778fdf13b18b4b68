-- What the steps of a call come to, whichever the side. Assumes nothing.
use Prim.Native.Nat.{ℕ}
use mathlib.Core.Path.{◌≡◌, refl, sym, ap, ◌∙◌}
use mathlib.Core.Bool.{Bool, true, false, cond}
use mathlib.Core.List.{List}
use lib.Dec.{leb}
use lib.ListN.{length}
use lib.Seq.{sets}
use Rattle.std.proofs.Common.{Ok, Err}
use Rattle.token.specs.Ans.{Ans, got, bad}
use Rattle.token.specs.declared.Misread.{Misread}
use Rattle.terms.specs.Check.{checked, or_refuse}
use Rattle.message.specs.declared.Content.{Content}
use Rattle.message.specs.Message.{Message}
use Rattle.message.specs.Answer.{Answer, taken_as, answer_to, output_to}
use Rattle.calls.specs.Reply.{Written, Done, Refused}
use Rattle.calls.specs.Says.{done, Called, sending, refusing}
use Rattle.calls.specs.After.{After, after, refused_with, if_read, bytes_for, sent, answered_in}

-- ---- 7: the message was read, or not
module _ {S : Type 0} (refusal : After S) (f : Content → After S) where
  pub reads : (a : Ans Message) (x : Content) → taken_as a ≡ Ok x → if_read a refusal f ≡ f x
  reads (got m p) x e = ap f (cc)
  reads (bad k p) x e = cc

  pub reads_not : (a : Ans Message) (m : Misread) → taken_as a ≡ Err m → if_read a refusal f ≡ refusal
  reads_not (got x p) m e = cc
  reads_not (bad k p) m e = refl

-- ---- 9: the answer was written, or not
module _ {S : Type 0} (old new : S) (out w : List ℕ) where
  -- by whether there is room for it
  abbrev sent_if : Bool → After S
  sent_if b = or_refuse (checked b) (refused_with 9 old out) (after (Written (length w)) new (sets out 0 w))

  abbrev told : Bool → Answer
  told b = cond b (Answer.Written (length w)) (Answer.Refused 9)

  abbrev left : Bool → List ℕ
  left b = cond b (sets out 0 w) out

  pub written : (n : ℕ) → answer_to out w ≡ Answer.Written n → after (Written n) new (output_to out w) ≡ sent old new out w
  written n e = go (leb (length w) (length out)) e
    where
      go : (b : Bool) → told b ≡ Answer.Written n → after (Written n) new (left b) ≡ sent_if b
      go true i = ap (λ (k : ℕ). after (Written k) new (sets out 0 w)) (cc)
      go false i = cc

  pub written_not : (k : ℕ) → answer_to out w ≡ Answer.Refused k → after (Refused k) old (output_to out w) ≡ sent old new out w
  written_not k e = go (leb (length w) (length out)) e
    where
      go : (b : Bool) → told b ≡ Answer.Refused k → after (Refused k) old (left b) ≡ sent_if b
      go true i = cc
      go false i = ap (λ (j : ℕ). after (Refused j) old out) (cc)

-- ---- what is answered of a content: q is the side that it leaves, o the output
module _ {S : Type 0} (p : S) (out : List ℕ) {q : S} {c : Called S Content} where
  module _ {x : Content} {o : List ℕ} (said : sending q x ≡ c) (left : o ≡ output_to out (bytes_for x)) where
    pub says_sent : {n : ℕ} → Answer.Written n ≡ answer_to out (bytes_for x) → after (Written n) q o ≡ answered_in p out c
    says_sent {n} e = ap (after (Written n) q) left ∙ written p q out (bytes_for x) n (sym e) ∙ ap (answered_in p out) said

    pub says_not_sent : {k : ℕ} → Answer.Refused k ≡ answer_to out (bytes_for x) → after (Refused k) p o ≡ answered_in p out c
    says_not_sent {k} e = ap (after (Refused k) p) left ∙ written_not p q out (bytes_for x) k (sym e) ∙ ap (answered_in p out) said

  pub says_refused : {n : ℕ} → refusing n q ≡ c → q ≡ p → refused_with n p out ≡ answered_in p out c
  says_refused {n} said keeps = ap (λ (s : S). refused_with n s out) (sym keeps) ∙ ap (answered_in p out) said

  pub says_done : ◌≡◌ {A = Called S Content} (record { side = q; says = done }) c → after Done q out ≡ answered_in p out c
  says_done said = ap (answered_in p out) said
