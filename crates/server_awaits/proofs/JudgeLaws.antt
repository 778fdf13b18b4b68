-- What the server's answer comes to, by what the rules said. Assumes nothing.
use Prim.Native.Nat.{ℕ}
use mathlib.Core.Path.{◌≡◌, refl, sym, ap, ap₂, ◌∙◌}
use mathlib.Core.Bool.{Bool, true}
use Rattle.std.proofs.Common.{Result, Ok, Err}
use Rattle.terms.specs.declared.Check.{Check}
use Rattle.terms.specs.declared.Check.TheVariants.{Pass, Fail}
use Rattle.terms.specs.declared.Mode.{Mode}
use Rattle.terms.specs.declared.Refusal.{Refusal}
use Rattle.terms.specs.Check.{checked, or_refuse}
use Rattle.terms.proofs.CheckLaws.{of_either}
use Rattle.records.specs.declared.Server.{Server}
use Rattle.message.specs.declared.Content.{Content}
use Rattle.calls.specs.Says.{Says, Called, sends, refuses, sending, refusing, sent_as}
use Rattle.server_rules.specs.Took.{Took, refused, taken, said_of}
use Rattle.packages.specs.Package.{answers_in}
use Rattle.server_judges.specs.Lawful.{lawful3}
use Rattle.server_reports.specs.Step1.{reported}
use Rattle.server_offers.specs.Offer.{offers}
use Rattle.server_answers.specs.Answer.{answered}
use Rattle.server_rules.specs.Pkg1.{lawful1, mode_for, opens, server_takes1}
use Rattle.server_rules.specs.Pkg3.{merges, server_takes3}
use Rattle.server_rules.specs.Pkg5.{fits5, closes, server_takes5}
use Rattle.server_awaits.specs.Awaited.{awaited, is_new, server_does}
use Rattle.server_awaits.specs.OnContent.{server_ruled, server_judges}

-- ---- against the rules the server stays as it was
pub record Stays (s : Server) (t : Took) : Type 0 where
  pub same : t.check ≡ Fail → t.server ≡ s

kept : (s : Server) (t : Took) → t.check ≡ Pass → Stays s t
kept s t passes = record { same = λ e. fails (sym passes ∙ e) }
  where
    fails : {A : Type 0} → Pass ≡ Fail → A
    fails e = cc

stays : (k : Check) (s : Server) (t : Took) → Stays s t → Stays s (or_refuse k (refused s) t)
stays Pass s t h = h
stays Fail s t h = record { same = λ e. refl }

pub stays_1 : (s : Server) (x : Content) → Stays s (server_takes1 s x)
unfolding server_takes1
stays_1 s x =
    let t = opens s x.head (mode_for x.head.last s.link.anchor) in
    stays (checked (lawful1 x.head)) s t (kept s t refl)

pub stays_3 : (m : Mode) (s : Server) (x : Content) → Stays s (server_takes3 m s x)
unfolding server_takes3
stays_3 m s x =
    let r = reported (answers_in x) s.records in
    let t = merges m s x r.records in
    stays (checked (lawful3 m x)) s (or_refuse r.check (refused s) t) (stays r.check s t (kept s t refl))

pub stays_5 : (n : ℕ) (s : Server) (x : Content) → Stays s (server_takes5 n s x)
unfolding server_takes5
stays_5 n s x =
    let r = answered (offers s.records) (answers_in x) s.records in
    let t = closes s r.records in
    stays (checked (fits5 n (offers s.records) x)) s (or_refuse r.check (refused s) t) (stays r.check s t (kept s t refl))

-- ---- what the rules make of a package that is awaited and not old is answered: t is what they make of it
module _ (s : Server) (x : Content) where
  as_ruled : (t : Took) → Stays s t → sent_as (said_of t) t.server ≡ server_ruled s t
  as_ruled t keeps = go t.check refl
    where
      go : (k : Check) → t.check ≡ k → sent_as (or_refuse k (Err Refusal.Unlawful) (Ok t.answer)) t.server ≡ or_refuse k (refusing 8 s) (sending t.server t.answer)
      go Pass e = refl
      go Fail e = ap (λ (q : Server). refusing 8 q) (keeps.same e)

  module _ (due : awaited s.link.awaits s.link.session x.head ≡ true) (new : is_new s.link.session x.head ≡ true) where
    pub judged : {t : Took} {r : Result Content Refusal} {q : Server} → t ≡ server_does s.link.awaits s x → Stays s t → r ≡ said_of t → q ≡ t.server → sent_as r q ≡ server_judges s x
    judged {t} rules keeps said left =
        ap₂ sent_as said left
        ∙ as_ruled t keeps
        ∙ ap (server_ruled s) rules
        ∙ sym
        (ap₂ (λ (b c : Bool). or_refuse (checked b) (refusing 5 s) (or_refuse (checked c) (refusing 6 s) (server_ruled s (server_does s.link.awaits s x)))) due new)

-- ---- a server that refuses a package stays as it was
abbrev Keeps : (s q : Server) (n : ℕ) → Called Server Content → Type 0
Keeps s q n c = refusing n q ≡ c → q ≡ s

refused_same : (s q : Server) (m n : ℕ) → Keeps s q n (refusing m s)
refused_same s q m n e = ap (λ (c : Called Server Content). c.side) e

sent_same : (s q : Server) (n : ℕ) (t : Took) → Keeps s q n (sending t.server t.answer)
sent_same s q n t e = let said : ◌≡◌ {A = Says Content} (refuses n) (sends t.answer) = ap (λ (c : Called Server Content). c.says) e in cc

pub judged_keeps : (s : Server) (x : Content) {q : Server} {n : ℕ} → refusing n q ≡ server_judges s x → q ≡ s
judged_keeps s x {q} {n} =
    let t = server_does s.link.awaits s x in
    let ruled = server_ruled s t in
    of_either (checked (awaited s.link.awaits s.link.session x.head)) (refusing 5 s) (or_refuse (checked (is_new s.link.session x.head)) (refusing 6 s) ruled) (Keeps s q n)
    (refused_same s q 5 n)
    (of_either (checked (is_new s.link.session x.head)) (refusing 6 s) ruled (Keeps s q n)
    (refused_same s q 6 n)
    (of_either t.check (refusing 8 s) (sending t.server t.answer) (Keeps s q n) (refused_same s q 8 n) (sent_same s q n t)))
