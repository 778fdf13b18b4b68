-- Whatever was read, each side's call on content keeps its numbers in range, and what it sends is in the written form. Assumes nothing.
use Prim.Native.Nat.{ℕ}
use mathlib.Core.Path.{◌≡◌, refl, sym, ◌∙◌, subst}
use mathlib.Core.Bool.{Bool, true, false, cond, false≢true}
use lib.Dec.{eqb}
use borrow.Author.Tests.{eqb-true}
use Rattle.places.proofs.Choice.{and_first}
use Rattle.terms.specs.declared.Check.{Check}
use Rattle.terms.specs.declared.Check.TheVariants.{Pass, Fail}
use Rattle.terms.specs.Check.{checked, or_refuse}
use Rattle.cards.specs.declared.Awaits as card
use Rattle.cards.specs.declared.Press.{Press}
use Rattle.records.specs.declared.Awaits as rec
use Rattle.records.specs.declared.Server.{Server}
use Rattle.message.specs.declared.Content.{Content}
use Rattle.message.specs.Message.{form_of}
use Rattle.packages.specs.Package.{commands_in}
use Rattle.places.proofs.Every.{Every}
use Rattle.sendable.specs.Sendable.{Sendable, SendablePackage, Readable}
use Rattle.press_rules.specs.Pkg1.{Start}
use Rattle.press_rules.specs.Took as atPress
use Rattle.press_rules.specs.Pkg1.{press_starts}
use Rattle.press_awaits.specs.Awaited as press
use Rattle.press_sends.specs.InRange.{PressInRange}
use Rattle.press_sends.proofs.PressLaws.{starts_in_range, takes_2_in_range, takes_4_in_range, takes_6_in_range}
use Rattle.press_sends.proofs.SentLaws.{sends_1, sends_3, sends_5}
use Rattle.server_rules.specs.Took as atServer
use Rattle.server_rules.specs.Pkg1.{server_takes1}
use Rattle.server_awaits.specs.Awaited as server
use Rattle.server_sends.specs.InRange.{ServerInRange}
use Rattle.server_sends.proofs.ServerLaws.{takes_1_in_range, takes_3_in_range, takes_5_in_range}
use Rattle.server_sends.proofs.SentLaws.{sends_2, sends_4, sends_6}
use Rattle.calls.specs.Says.{Says, sends, done, refuses, Called, refusing}
use Rattle.press_awaits.specs.OnContent.{started_as, press_begins, press_replies, press_ruled, press_judges}
use Rattle.server_awaits.specs.OnContent.{server_ruled, server_judges}

-- ---- a call on content that went well
abbrev pub SentWell : Says Content → Type 0
SentWell (sends x) = SendablePackage x
SentWell done = Unit {0}
SentWell (refuses n) = Unit {0}

abbrev pub CalledWell : {S : Type 0} → (S → Type 0) → Called S Content → Type 0
CalledWell In c = In c.side × SentWell c.says

-- ---- the press
module _ (p : Press) (h : PressInRange p) where
  pub begins_well : CalledWell PressInRange (press_begins p)
  begins_well = go (press_starts p).start refl
    where
      go : (s : Start) → (press_starts p).start ≡ s → CalledWell PressInRange (started_as p s (press_starts p))
      go (Start.Refused n) e = (h, tt)
      go Start.Open e = (starts_in_range p h, sends_1 p h e)

  module _ (x : Content) (r : Readable x) where
    -- taken, with an answer unless it is Pkg 6
    abbrev PressTookWell : atPress.Took → Type 0
    PressTookWell t = PressInRange t.press × (eqb x.head.pkg 6 ≡ false → t.check ≡ Pass → SendablePackage t.answer)

    does_well : (a : card.Awaits) → press.awaited a p.session x.head ≡ true → PressTookWell (press.press_does a p x)
    does_well card.Awaits.Nothing e = absurd (false≢true e)
    does_well card.Awaits.Two e = (takes_2_in_range p h x, λ i. sends_3 p h x)
    does_well (card.Awaits.Four m) e =
        let four : x.head.pkg ≡ 4 = eqb-true x.head.pkg 4 (and_first _ _ (and_first _ _ e)) in
        let read : Every (Sendable (form_of 4).commands) (commands_in x) = subst (λ (k : ℕ). Every (Sendable (form_of k).commands) (commands_in x)) four r.commands in
        (takes_4_in_range p h x m read, λ i. sends_5 p h x m read)
    does_well card.Awaits.Six e = (takes_6_in_range p h x, λ i. absurd (false≢true (sym i ∙ and_first _ _ (and_first _ _ e))))

    replies_well : (t : atPress.Took) → PressTookWell t → t.check ≡ Pass → CalledWell PressInRange (press_replies x.head.pkg t)
    replies_well t w e = go (eqb x.head.pkg 6) refl
      where
        go : (b : Bool) → eqb x.head.pkg 6 ≡ b → CalledWell PressInRange (cond b (record { side = t.press; says = done }) (record { side = t.press; says = sends t.answer }))
        go true i = (w.0, tt)
        go false i = (w.0, w.1 i e)

    ruled_well : (t : atPress.Took) → PressTookWell t → CalledWell PressInRange (press_ruled p x.head.pkg t)
    ruled_well t w = go t.check refl
      where
        go : (k : Check) → t.check ≡ k → CalledWell PressInRange (or_refuse k (refusing 8 p) (press_replies x.head.pkg t))
        go Fail i = (h, tt)
        go Pass i = replies_well t w i

    pub press_judges_well : CalledWell PressInRange (press_judges p x)
    press_judges_well = go (press.awaited p.awaits p.session x.head) refl
      where
        go : (b : Bool) → press.awaited p.awaits p.session x.head ≡ b
            → CalledWell PressInRange (or_refuse (checked b) (refusing 5 p) (press_ruled p x.head.pkg (press.press_does p.awaits p x)))
        go false e = (h, tt)
        go true e = ruled_well (press.press_does p.awaits p x) (does_well p.awaits e)

-- ---- the server
module _ (s : Server) (h : ServerInRange s) (x : Content) (r : Readable x) where
  abbrev ServerTookWell : atServer.Took → Type 0
  ServerTookWell t = ServerInRange t.server × (t.check ≡ Pass → SendablePackage t.answer)

  opens_well : ServerTookWell (server_takes1 s x)
  opens_well = (takes_1_in_range s h x r.head, sends_2 s h x r.head)

  later_well : (a : rec.Awaits) → ServerTookWell (server.later_does a s x)
  later_well rec.Awaits.Nothing = opens_well
  later_well (rec.Awaits.Three m) = (takes_3_in_range s h x _ r.answers _ r.commands m, sends_4 s h x _ _ r.answers r.commands m)
  later_well (rec.Awaits.Five n) = (takes_5_in_range s h x _ r.answers n, sends_6 s h x n)

  server_does_well : (a : rec.Awaits) (b : Bool) → ServerTookWell (cond b (server_takes1 s x) (server.later_does a s x))
  server_does_well a true = opens_well
  server_does_well a false = later_well a

  server_ruled_well : (t : atServer.Took) → ServerTookWell t → CalledWell ServerInRange (server_ruled s t)
  server_ruled_well t w = go t.check refl
    where
      go : (k : Check) → t.check ≡ k → CalledWell ServerInRange (or_refuse k (refusing 8 s) (record { side = t.server; says = sends t.answer }))
      go Fail i = (h, tt)
      go Pass i = (w.0, w.1 i)

  pub server_judges_well : CalledWell ServerInRange (server_judges s x)
  server_judges_well =
      go (checked (server.awaited s.link.awaits s.link.session x.head)) (checked (server.is_new s.link.session x.head))
    where
      go : (k l : Check)
          → CalledWell ServerInRange (or_refuse k (refusing 5 s) (or_refuse l (refusing 6 s) (server_ruled s (server.server_does s.link.awaits s x))))
      go Fail l = (h, tt)
      go Pass Fail = (h, tt)
      go Pass Pass = server_ruled_well (server.server_does s.link.awaits s x) (server_does_well s.link.awaits (eqb x.head.pkg 1))
