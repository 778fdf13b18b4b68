-- What each call does with the package that the other side has just written, as functions of the two tables. Assumes nothing.
use Prim.Native.Nat.{ℕ, ◌+◌}
use mathlib.Core.Path.{◌≡◌, refl, ap, ◌∙◌}
use mathlib.Core.Bool.{Bool, true, false, cond, not, ◌||◌}
use mathlib.Core.List.{List}
use lib.Dec.{eqb, ltb}
use lib.ListN.{length}
use borrow.Author.Tests.{eq-eqb}
use Rattle.lists.specs.declared.Entry.{Entry}
use Rattle.message.specs.declared.Content.{Content}
use Rattle.terms.specs.declared.Mode.{Mode}
use Rattle.terms.specs.declared.Mode.TheVariants.{Normal, Recovery}
use Rattle.terms.specs.declared.Check.{Check}
use Rattle.terms.specs.declared.Check.TheVariants.{Pass}
use Rattle.terms.specs.Check.{checked, or_refuse}
use Rattle.cards.specs.declared.Awaits as cards
use Rattle.cards.specs.declared.Cards.{Cards}
use Rattle.cards.specs.declared.Press.{Press}
use Rattle.cards.specs.Press.{is_open}
use Rattle.records.specs.declared.Awaits as records
use Rattle.records.specs.declared.Records.{Records}
use Rattle.records.specs.declared.Rule.{Rule}
use Rattle.records.specs.declared.Server.{Server}
use Rattle.listing.proofs.ListingLaws.{listing_items}
use Rattle.packages.specs.Package.{head4, packed, answers_in}
use Rattle.card_moves.specs.Moves.{without_reports}
use Rattle.server_reports.specs.Step1.{InTurn}
use Rattle.server_reports.specs.Step1.{all_or_none, reported}
use Rattle.server_merge.specs.Merge.{merged, statuses_for}
use Rattle.server_offers.specs.Offer as offer
use Rattle.server_answers.specs.Answer.{answered}
use Rattle.server_judges.specs.Lawful.{lawful3}
use Rattle.server_rules.specs.Took as server
use Rattle.server_rules.specs.Pkg1.{mode_for, server_takes1}
use Rattle.server_rules.specs.Pkg3.{merges, server_takes3}
use Rattle.server_rules.specs.Pkg5.{fits5, closes, server_takes5}
use Rattle.press_tells.specs.Tell.{reports, commands}
use Rattle.press_ends.specs.End.{marks_end}
use Rattle.press_takes.specs.Take.{taken_all}
use Rattle.press_judges.specs.Lawful.{lawful4}
use Rattle.press_rules.specs.Pkg1.{Started}
use Rattle.press_rules.specs.Took as press
use Rattle.press_rules.specs.Pkg2.{sends_pkg3, press_takes2}
use Rattle.press_rules.specs.Pkg4.{taken_from, sends_pkg5, press_takes4}
use Rattle.press_rules.specs.Pkg6.{closed, press_takes6}
use Rattle.press_rules.proofs.Cases.{start_done}
use Rattle.calls.specs.Due.{is_kind}
use Rattle.press_awaits.specs.Awaited as pressCall
use Rattle.server_awaits.specs.Awaited as serverCall
use Rattle.calls.specs.Says.{done, sending, refusing}
use Rattle.press_awaits.specs.OnContent.{started_as, press_begins, press_ruled, press_judges}
use Rattle.server_awaits.specs.OnContent.{server_ruled, server_judges}
use Rattle.own_packages.proofs.Own.{pkg1, pkg2, pkg3, statuses4, commands4, pkg4, press_at5, answers5, pkg5, server6, pkg6, heard_all, server4}
use Rattle.pairs.proofs.Invariant.{Invariant}
use Rattle.server_pairs.proofs.Step1.{step1_passes}

-- ---- the press
module _ (p : Press) where
  pub begins : is_open p.awaits ≡ false → eqb p.session 4294967295 ≡ false
      → press_begins p ≡ sending (press.press_with p.cards p.anchor (p.session + 1) cards.Awaits.Two) (pkg1 (p.session + 1) p.anchor)
  begins e f =
      ap (λ (t : Started). started_as p t.start t) (start_done p (ap (λ (b : Bool). checked (not b)) e) (ap (λ (b : Bool). checked (not b)) f))

  -- a package of the kind awaited
  judged : (x : Content) (a : cards.Awaits) → p.awaits ≡ a → pressCall.awaited a p.session x.head ≡ true → (t : press.Took) → pressCall.press_does a p x ≡ t → press_judges p x ≡ press_ruled p x.head.pkg t
  judged x a e due t d =
      ap (λ (k : cards.Awaits). or_refuse (checked (pressCall.awaited k p.session x.head)) (refusing 5 p) (press_ruled p x.head.pkg (pressCall.press_does k p x))) e
      ∙ (ap (λ (b : Bool). or_refuse (checked b) (refusing 5 p) (press_ruled p x.head.pkg (pressCall.press_does a p x))) due
      ∙ ap (press_ruled p x.head.pkg) d)

  own : eqb p.session p.session ≡ true
  own = eq-eqb p.session p.session refl

  told : (b : ℕ) (m : Mode) → press_takes2 p (pkg2 p.session b m) ≡ sends_pkg3 p m
  unfolding press_takes2
  told b Normal = ap (λ (v : Bool). or_refuse (checked v) (press.refused p) (sends_pkg3 p Normal)) own
  told b Recovery = ap (λ (v : Bool). or_refuse (checked v) (press.refused p) (sends_pkg3 p Recovery)) own

  pub takes_2 : p.awaits ≡ cards.Awaits.Two → (b : ℕ) (m : Mode)
      → press_judges p (pkg2 p.session b m) ≡ sending (press.press_with p.cards p.anchor p.session (cards.Awaits.Four m)) (pkg3 p.session m p.cards)
  takes_2 e b m = judged (pkg2 p.session b m) cards.Awaits.Two e own (sends_pkg3 p m) (told b m)

  module _ (rule : Rule) (m : Mode) (s : Records) where
    abbrev x4 : Content
    x4 = pkg4 rule p.session m p.cards s

    abbrev answer4 : press.Took
    answer4 = press.taken (press.press_with (press_at5 rule m p.cards s) p.anchor p.session cards.Awaits.Six) (pkg5 rule p.session m p.cards s)

    answered4 : sends_pkg5 p x4 (taken_from m p.cards x4) ≡ answer4
    unfolding taken_all
    answered4 =
        ap (λ (l : List Entry). sends_pkg5 p x4 (taken_all (4 + length (statuses4 rule m p.cards s)) l (marks_end m (commands m p.cards) (answers_in x4) p.cards))) (listing_items (commands4 rule m p.cards s))
        ∙ ap (λ (l : List Entry). sends_pkg5 p x4 (taken_all (4 + length (statuses4 rule m p.cards s)) (commands4 rule m p.cards s) (marks_end m (commands m p.cards) l p.cards))) (listing_items (statuses4 rule m p.cards s))

    taken4 : lawful4 m p x4 ≡ true → press_takes4 m p x4 ≡ answer4
    unfolding press_takes4
    taken4 lawful = ap (λ (v : Bool). or_refuse (checked v) (press.refused p) (sends_pkg5 p x4 (taken_from m p.cards x4))) lawful ∙ answered4

    pub takes_4 : p.awaits ≡ cards.Awaits.Four m → lawful4 m p x4 ≡ true
        → press_judges p x4 ≡ sending (press.press_with (press_at5 rule m p.cards s) p.anchor p.session cards.Awaits.Six) (pkg5 rule p.session m p.cards s)
    takes_4 e lawful = judged x4 (cards.Awaits.Four m) e own answer4 (taken4 lawful)

  pub takes_6 : p.awaits ≡ cards.Awaits.Six
      → press_judges p (pkg6 p.session) ≡ record { side = press.press_with (without_reports p.cards) p.session p.session cards.Awaits.Nothing; says = done }
  unfolding press_takes6
  takes_6 e = judged (pkg6 p.session) cards.Awaits.Six e own (closed p) refl

  -- a closed press takes nothing
  pub closed_5 : (x : Content) → p.awaits ≡ cards.Awaits.Nothing → press_judges p x ≡ refusing 5 p
  closed_5 x e =
      ap (λ (k : cards.Awaits). or_refuse (checked (pressCall.awaited k p.session x.head)) (refusing 5 p) (press_ruled p x.head.pkg (pressCall.press_does k p x))) e

-- ---- the server
module _ (s : Server) where
  abbrev anchor : ℕ
  anchor = s.link.anchor

  abbrev session : ℕ
  session = s.link.session

  judged_by : (x : Content) (a : records.Awaits) → s.link.awaits ≡ a → serverCall.awaited a session x.head ≡ true → serverCall.is_new session x.head ≡ true
      → (t : server.Took) → serverCall.server_does a s x ≡ t → server_judges s x ≡ server_ruled s t
  judged_by x a e due new t d =
      ap (λ (k : records.Awaits). or_refuse (checked (serverCall.awaited k session x.head)) (refusing 5 s) (or_refuse (checked (serverCall.is_new session x.head)) (refusing 6 s) (server_ruled s (serverCall.server_does k s x)))) e
      ∙ (ap (λ (b : Bool). or_refuse (checked b) (refusing 5 s) (or_refuse (checked (serverCall.is_new session x.head)) (refusing 6 s) (server_ruled s (serverCall.server_does a s x)))) due
      ∙ (ap (λ (b : Bool). or_refuse (checked b) (refusing 6 s) (server_ruled s (serverCall.server_does a s x))) new ∙ ap (server_ruled s) d))

  self : eqb session session ≡ true
  self = eq-eqb session session refl

  -- Pkg 1 opens a session, whatever the server awaits
  module _ (n a : ℕ) (above : ltb session n ≡ true) where
    abbrev mode : Mode
    mode = mode_for a anchor

    abbrev answer2 : server.Took
    answer2 = server.taken (server.server_with s.rule s.records anchor n (records.Awaits.Three mode)) (pkg2 n anchor mode)

    opened : server_takes1 s (pkg1 n a) ≡ answer2
    unfolding server_takes1
    opened = ap (λ (v : Bool). or_refuse (checked v) (server.refused s) answer2) (eq-eqb n n refl)

    due : (k : records.Awaits) → serverCall.awaited k session (pkg1 n a).head ≡ true
    due records.Awaits.Nothing = refl
    due (records.Awaits.Three m) = above
    due (records.Awaits.Five k) = above

    pub takes_1 : server_judges s (pkg1 n a) ≡ sending (server.server_with s.rule s.records anchor n (records.Awaits.Three mode)) (pkg2 n anchor mode)
    takes_1 = judged_by (pkg1 n a) s.link.awaits refl (due s.link.awaits) above answer2 opened

  module _ (m : Mode) (c : Cards) (h : Invariant c s.records) where
    abbrev x3 : Content
    x3 = pkg3 session m c

    abbrev answer4s : server.Took
    answer4s = server.taken (server.server_with s.rule (server4 s.rule m c s.records) anchor session (records.Awaits.Five (length (commands m c)))) (pkg4 s.rule session m c s.records)

    heard3 : reported (answers_in x3) s.records ≡ record { check = Pass; records = heard_all c s.records }
    unfolding all_or_none
    heard3 =
        ap (λ (l : List Entry). reported l s.records) (listing_items (reports c))
        ∙ ap (λ (b : Bool). record { check = checked b; records = cond b (heard_all c s.records) s.records }) (step1_passes c s.records h)

    taken3 : lawful3 m x3 ≡ true → server_takes3 m s x3 ≡ answer4s
    unfolding server_takes3
    taken3 lawful =
        ap (λ (b : Bool). or_refuse (checked b) (server.refused s) (or_refuse (reported (answers_in x3) s.records).check (server.refused s) (merges m s x3 (reported (answers_in x3) s.records).records))) lawful
        ∙ (ap (λ (r : InTurn). or_refuse r.check (server.refused s) (merges m s x3 r.records)) heard3
        ∙ ap (λ (l : List Entry). server.taken (server.server_with s.rule (offer.offered (merged s.rule m l (heard_all c s.records))) anchor session (records.Awaits.Five (length (commands m c)))) (packed (head4 session (3 + length (reports c))) (statuses_for s.rule m (4 + length (reports c)) l (heard_all c s.records)) (offer.commands (merged s.rule m l (heard_all c s.records))))) (listing_items (commands m c)))

    pub takes_3 : s.link.awaits ≡ records.Awaits.Three m → lawful3 m x3 ≡ true
        → server_judges s x3 ≡ sending (server.server_with s.rule (server4 s.rule m c s.records) anchor session (records.Awaits.Five (length (commands m c)))) (pkg4 s.rule session m c s.records)
    takes_3 e lawful = judged_by x3 (records.Awaits.Three m) e (ap (λ (b : Bool). b || false) self) refl answer4s (taken3 lawful)

  -- a closed server takes Pkg 1 only
  pub closed_server : (x : Content) → s.link.awaits ≡ records.Awaits.Nothing → is_kind 1 1 x.head ≡ false → server_judges s x ≡ refusing 5 s
  closed_server x e f =
      ap (λ (k : records.Awaits). or_refuse (checked (serverCall.awaited k session x.head)) (refusing 5 s) (or_refuse (checked (serverCall.is_new session x.head)) (refusing 6 s) (server_ruled s (serverCall.server_does k s x)))) e
      ∙ ap (λ (b : Bool). or_refuse (checked b) (refusing 5 s) (or_refuse (checked (serverCall.is_new session x.head)) (refusing 6 s) (server_ruled s (serverCall.server_does records.Awaits.Nothing s x)))) f

  module _ (rule : Rule) (m : Mode) (c : Cards) (r : Records) (is : s.records ≡ server4 rule m c r) where
    abbrev x5 : Content
    x5 = pkg5 rule session m c r

    abbrev offers4 : List Entry
    offers4 = offer.offers (server4 rule m c r)

    abbrev answer6 : server.Took
    answer6 = server.taken (server.server_with s.rule (server6 rule m c r) session session records.Awaits.Nothing) (pkg6 session)

    taken5 : (k : ℕ) → fits5 k offers4 x5 ≡ true → (answered offers4 (answers5 rule m c r) (server4 rule m c r)).check ≡ Pass → server_takes5 k s x5 ≡ answer6
    unfolding server_takes5
    taken5 k fits pass =
        ap (λ (z : Records). rest z (fits5 k (offer.offers z) x5) (answered (offer.offers z) (answers_in x5) z)) is
        ∙ (ap (λ (b : Bool). rest (server4 rule m c r) b (answered offers4 (answers_in x5) (server4 rule m c r))) fits
        ∙ (ap (λ (l : List Entry). rest (server4 rule m c r) true (answered offers4 l (server4 rule m c r))) (listing_items (answers5 rule m c r))
        ∙ ap (λ (v : Check). or_refuse v (server.refused s) answer6) pass))
      where
        rest : Records → Bool → InTurn → server.Took
        rest z b t = or_refuse (checked b) (server.refused s) (or_refuse t.check (server.refused s) (closes s t.records))

    pub takes_5 : (k : ℕ) → s.link.awaits ≡ records.Awaits.Five k → fits5 k offers4 x5 ≡ true → (answered offers4 (answers5 rule m c r) (server4 rule m c r)).check ≡ Pass
        → server_judges s x5 ≡ sending (server.server_with s.rule (server6 rule m c r) session session records.Awaits.Nothing) (pkg6 session)
    takes_5 k e fits pass = judged_by x5 (records.Awaits.Five k) e (ap (λ (b : Bool). b || false) self) refl answer6 (taken5 k fits pass)
