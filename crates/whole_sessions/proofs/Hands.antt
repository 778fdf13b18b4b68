-- A start, a message handed over, a message lost, a side that gives up: each keeps a good world good. So does every course without edits.
use Prim.Native.Nat.{ℕ, ◌+◌}
use mathlib.Core.Path.{◌≡◌, refl, sym, ap, subst}
use mathlib.Core.Bool.{false, ◌||◌, false≢true}
use mathlib.Core.List.{List}
use mathlib.Core.Logic.{◌⊎◌, inl, inr}
use native.Mathlib.Omega.{arith}
use lib.ListN.{length}
use borrow.Author.Tests.{lt-ltb}
use Rattle.places.proofs.Every.{Every}
use Rattle.message.specs.declared.Content.{Content}
use Rattle.terms.specs.declared.Mode.{Mode}
use Rattle.cards.specs.declared.Awaits as cards
use Rattle.cards.specs.declared.Cards.{Cards}
use Rattle.cards.specs.declared.Press.{Press}
use Rattle.cards.specs.Press.{press_gives_up}
use Rattle.records.specs.declared.Awaits as records
use Rattle.records.specs.declared.Records.{Records}
use Rattle.records.specs.declared.Rule.{Rule}
use Rattle.records.specs.declared.Server.{Server}
use Rattle.records.specs.Server.{server_gives_up}
use Rattle.card_moves.specs.Moves.{without_reports}
use Rattle.server_rules.specs.Took.{server_with}
use Rattle.press_tells.specs.Tell.{commands}
use Rattle.press_rules.specs.Pkg1.{Started}
use Rattle.press_rules.proofs.Cases.{start_all}
use Rattle.calls.specs.Says.{Called}
use Rattle.course.specs.Course.{hand_made, World, Wire, clear, to_server, to_press, with_press, with_server, Turn, off_wire, press_called, server_called, starts, hands_over, Step, press_adds, press_edits, press_deletes, server_adds, server_edits, server_deletes, set_rule, start, step, lose, press_give_up, server_give_up, handed, does, Doing, goes}
use Rattle.press_awaits.specs.OnContent.{started_as, press_judges}
use Rattle.server_awaits.specs.OnContent.{server_judges}
use Rattle.course.specs.OnContent.{on_content}
use Rattle.course.proofs.AlongLaws.{goes_keep}
use Rattle.demand3.specs.Demand3.{by_people, SessionsOnly}
use Rattle.own_packages.proofs.Own.{pkg1, pkg2, pkg3, pkg4, press_at5, pkg5, server6, pkg6, server4}
use Rattle.whole_sessions.proofs.Calls.{takes_1, takes_2, takes_3, takes_4, takes_5, takes_6, closed_5, closed_server}
use Rattle.whole_sessions.proofs.PackageLaws.{PackageLaws}
use Rattle.whole_sessions.proofs.Written.{one_more, none_1, none_2, none_3, none_4, none_5, none_6}
use Rattle.whole_sessions.proofs.Good.{mode_of, Kind, Kept, First, Second, Third, Fourth, Fifth, Sixth, ToServer, ToPress, first, second, third, fourth, fifth, sixth, late, shut, OnWire, Good}

module _ (Near : Cards → Records → Cards → Records → Type 0) (st : (rule : Rule) → PackageLaws rule Near) (Q : Kind) (k : Kept Q) where
  abbrev GoodAfter : Turn Content → Type 0
  GoodAfter t = Good Q t.world

  module _ (w : World Content) (g : Good Q w) where
    abbrev p : Press
    p = w.press

    abbrev s : Server
    s = w.server

    abbrev m : Mode
    m = mode_of p s

    abbrev a : ℕ
    a = p.anchor

    abbrev b : ℕ
    b = s.link.anchor

    -- ---- to the server
    server_called_lem : (x : Content) (y : Content) (c : Called Server Content) → x ≡ y → server_judges s y ≡ c → GoodAfter (server_called w c) → GoodAfter (server_called w (server_judges s x))
    server_called_lem x y c is e h = subst (λ (z : Content). GoodAfter (server_called w (server_judges s z))) (sym is) (subst (λ (z : Called Server Content). GoodAfter (server_called w z)) (sym e) h)

    hands_first : (x : Content) → First Q p s x → GoodAfter (server_called w (server_judges s x))
    hands_first x f =
        server_called_lem x (pkg1 p.session a) _ f.is (takes_1 s p.session a f.above)
        (record { now = g.now; rule = g.rule; numbers = omega arith; wire = go f.press; written = one_more w.written (pkg2 p.session b m) g.written (none_2 p.session b m) })
      where
        go : ((p.awaits ≡ cards.Awaits.Two) ⊎ (p.awaits ≡ cards.Awaits.Nothing)) → ToPress Q p (server_with s.rule s.records b p.session (records.Awaits.Three m)) (pkg2 p.session b m)
        go (inl e) = second (record { is = refl; awaits = e; server = inl (refl, refl) })
        go (inr e) = shut e

    hands_third : (x : Content) → Third Q p s x → GoodAfter (server_called w (server_judges s x))
    hands_third x f =
        let h = k.inv a b f.cards' s.records f.before in
        server_called_lem x (pkg3 s.link.session m f.cards') _ f.is (takes_3 s m f.cards' h f.awaits ((st s.rule).lawful_3 s.link.session m f.cards' s.records h))
        (record { now = f.after s.rule g.rule; rule = g.rule; numbers = g.numbers; wire = go f.press; written = one_more w.written (pkg4 s.rule s.link.session m f.cards' s.records) g.written (none_4 s.rule s.link.session m f.cards' h.formed s.records) })
      where
        To : ℕ → Cards → Type 0
        To n c = ToPress Q p (server_with s.rule (server4 s.rule m c s.records) b n (records.Awaits.Five (length (commands m c)))) (pkg4 s.rule n m c s.records)

        here : p.awaits ≡ cards.Awaits.Four m → To p.session p.cards
        here e = fourth (record { records' = s.records; rule' = s.rule; said = g.rule; is = refl; awaits = e; before = g.now; after = k.at_5 s.rule g.rule a b p.cards s.records g.now; server = inl (refl, refl, refl) })

        go : ((p.awaits ≡ cards.Awaits.Four m) × (p.cards ≡ f.cards')) ⊎ (p.awaits ≡ cards.Awaits.Nothing) → To s.link.session f.cards'
        go (inl e) = subst (λ (n : ℕ). To n f.cards') (sym f.number) (subst (To p.session) e.1 (here e.0))
        go (inr e) = shut e

    hands_fifth : (x : Content) → Fifth Q p s x → GoodAfter (server_called w (server_judges s x))
    hands_fifth x f =
        let h = k.inv a b f.cards' f.records' f.before in
        server_called_lem x (pkg5 f.rule' s.link.session m f.cards' f.records') _ f.is
        (takes_5 s f.rule' m f.cards' f.records' f.table (length (commands m f.cards')) f.awaits ((st f.rule').fits_5 s.link.session m f.cards' f.records' h) ((st f.rule').answers_fit m f.cards' f.records' h))
        (record { now = f.after; rule = g.rule; numbers = g.numbers; wire = go f.press; written = one_more w.written (pkg6 s.link.session) g.written (none_6 s.link.session) })
      where
        r : Records
        r = server6 f.rule' m f.cards' f.records'

        To : ℕ → Type 0
        To n = ToPress Q p (server_with s.rule r n n records.Awaits.Nothing) (pkg6 n)

        go : ((p.awaits ≡ cards.Awaits.Six) × (p.cards ≡ press_at5 f.rule' m f.cards' f.records')) ⊎ (p.awaits ≡ cards.Awaits.Nothing) → To s.link.session
        go (inl e) =
            subst To (sym f.number)
            (sixth (record {
              is = refl;
              awaits = e.0;
              after = subst (λ (c : Cards). Q.tables p.session p.session (without_reports c) r) (sym e.1) (k.at_7 f.rule' f.said p.session a b f.cards' f.records' f.before);
            }))
        go (inr e) = shut e

    to_server_lem : (x : Content) → ToServer Q p s x → GoodAfter (server_called w (server_judges s x))
    to_server_lem x (first f) = hands_first x f
    to_server_lem x (third f) = hands_third x f
    to_server_lem x (fifth f) = hands_fifth x f
    to_server_lem x (late e i) = server_called_lem x x _ refl (closed_server s x e i) (record { now = g.now; rule = g.rule; numbers = g.numbers; wire = g.wire; written = g.written })

    -- ---- to the press
    press_called_lem : (x : Content) (y : Content) (c : Called Press Content) → x ≡ y → press_judges p y ≡ c → GoodAfter (press_called w c) → GoodAfter (press_called w (press_judges p x))
    press_called_lem x y c is e h = subst (λ (z : Content). GoodAfter (press_called w (press_judges p z))) (sym is) (subst (λ (z : Called Press Content). GoodAfter (press_called w z)) (sym e) h)

    hands_second : (x : Content) → Second Q p s x → GoodAfter (press_called w (press_judges p x))
    hands_second x f =
        press_called_lem x (pkg2 p.session b m) _ f.is (takes_2 p f.awaits b m)
        (record { now = g.now; rule = g.rule; numbers = g.numbers; wire = go f.server; written = one_more w.written (pkg3 p.session m p.cards) g.written (none_3 p.session m p.cards) })
      where
        go : ((s.link.awaits ≡ records.Awaits.Three m) × (s.link.session ≡ p.session)) ⊎ (s.link.awaits ≡ records.Awaits.Nothing) → ToServer Q (record { cards = p.cards; anchor = a; session = p.session; awaits = cards.Awaits.Four m }) s (pkg3 p.session m p.cards)
        go (inl e) =
            third (record {
              cards' = p.cards;
              is = ap (λ (n : ℕ). pkg3 n m p.cards) (sym e.1);
              awaits = e.0;
              number = e.1;
              before = g.now;
              after = λ rule said. k.at_4 rule said a b p.cards s.records g.now;
              press = inl (refl, refl);
            })
        go (inr e) = late e refl

    hands_fourth : (x : Content) → Fourth Q p s x → GoodAfter (press_called w (press_judges p x))
    hands_fourth x f =
        press_called_lem x (pkg4 f.rule' p.session m p.cards f.records') _ f.is (takes_4 p f.rule' m f.records' f.awaits ((st f.rule').lawful_4 m p f.records' (k.inv a b p.cards f.records' f.before)))
        (record { now = f.after; rule = g.rule; numbers = g.numbers; wire = go f.server; written = one_more w.written (pkg5 f.rule' p.session m p.cards f.records') g.written (none_5 f.rule' p.session m p.cards f.records' ((st f.rule').none_missing m p.cards f.records' (k.inv a b p.cards f.records' f.before))) })
      where
        go : ((s.link.awaits ≡ records.Awaits.Five (length (commands m p.cards))) × (s.link.session ≡ p.session) × (s.records ≡ server4 f.rule' m p.cards f.records')) ⊎ (s.link.awaits ≡ records.Awaits.Nothing)
            → ToServer Q (record { cards = press_at5 f.rule' m p.cards f.records'; anchor = a; session = p.session; awaits = cards.Awaits.Six }) s (pkg5 f.rule' p.session m p.cards f.records')
        go (inl e) =
            fifth (record {
              cards' = p.cards;
              records' = f.records';
              rule' = f.rule';
              said = f.said;
              is = ap (λ (n : ℕ). pkg5 f.rule' n m p.cards f.records') (sym e.1);
              awaits = e.0;
              number = e.1;
              table = e.2;
              before = f.before;
              after = k.at_6 f.rule' f.said s.link.session a b p.cards f.records' f.before;
              press = inl (refl, refl);
            })
        go (inr e) = late e refl

    hands_sixth : (x : Content) → Sixth Q p s x → GoodAfter (press_called w (press_judges p x))
    hands_sixth x f = press_called_lem x (pkg6 p.session) _ f.is (takes_6 p f.awaits) (record { now = f.after; rule = g.rule; numbers = g.numbers; wire = tt; written = g.written })

    to_press_lem : (x : Content) → ToPress Q p s x → GoodAfter (press_called w (press_judges p x))
    to_press_lem x (second f) = hands_second x f
    to_press_lem x (fourth f) = hands_fourth x f
    to_press_lem x (sixth f) = hands_sixth x f
    to_press_lem x (shut e) = press_called_lem x x _ refl (closed_5 p x e) (record { now = g.now; rule = g.rule; numbers = g.numbers; wire = g.wire; written = g.written })

    hands_good : (x : Wire Content) → OnWire Q p s x → GoodAfter (hands_over on_content w x)
    hands_good clear f = g
    hands_good (to_server x) f = to_server_lem x f
    hands_good (to_press x) f = to_press_lem x f

    -- ---- a start
    starts_good : GoodAfter (starts on_content w)
    starts_good =
        start_all p (λ (t : Started). GoodAfter (press_called w (started_as p t.start t)))
        (λ n. record { now = g.now; rule = g.rule; numbers = g.numbers; wire = g.wire; written = g.written })
        (λ ne. record {
          now = g.now;
          rule = g.rule;
          numbers = omega (arith, g.numbers);
          wire = first (record { is = refl; above = lt-ltb s.link.session (p.session + 1) (omega (arith, g.numbers)); press = inl refl });
          written = one_more w.written (pkg1 (p.session + 1) a) g.written (none_1 (p.session + 1) a);
        })

    -- ---- a message lost; a side gives up
    loses_good : Good Q (off_wire w)
    loses_good = record { now = g.now; rule = g.rule; numbers = g.numbers; wire = tt; written = g.written }

    press_leaves_good : Good Q (with_press w (press_gives_up p))
    press_leaves_good = record { now = g.now; rule = g.rule; numbers = g.numbers; wire = go w.wire g.wire; written = g.written }
      where
        to : (x : Content) → ToServer Q p s x → ToServer Q (press_gives_up p) s x
        to x (first f) = first (record { is = f.is; above = f.above; press = inr refl })
        to x (third f) = third (record { cards' = f.cards'; is = f.is; awaits = f.awaits; number = f.number; before = f.before; after = f.after; press = inr refl })
        to x (fifth f) = fifth (record { cards' = f.cards'; records' = f.records'; rule' = f.rule'; said = f.said; is = f.is; awaits = f.awaits; number = f.number; table = f.table; before = f.before; after = f.after; press = inr refl })
        to x (late e i) = late e i

        go : (x : Wire Content) → OnWire Q p s x → OnWire Q (press_gives_up p) s x
        go clear f = tt
        go (to_server x) f = to x f
        go (to_press x) f = shut refl

    server_leaves_good : Good Q (with_server w (server_gives_up s))
    server_leaves_good = record { now = g.now; rule = g.rule; numbers = g.numbers; wire = go w.wire g.wire; written = g.written }
      where
        third_late : (x : Content) (n : ℕ) (c : Cards) → x ≡ pkg3 n m c → ToServer Q p (server_gives_up s) x
        third_late x n c e = subst (ToServer Q p (server_gives_up s)) (sym e) (late refl refl)

        fifth_late : (x : Content) (n : ℕ) (rule : Rule) (c : Cards) (r : Records) → x ≡ pkg5 rule n m c r → ToServer Q p (server_gives_up s) x
        fifth_late x n rule c r e = subst (ToServer Q p (server_gives_up s)) (sym e) (late refl refl)

        to : (x : Content) → ToServer Q p s x → ToServer Q p (server_gives_up s) x
        to x (first f) = first (record { is = f.is; above = f.above; press = f.press })
        to x (third f) = third_late x s.link.session f.cards' f.is
        to x (fifth f) = fifth_late x s.link.session f.rule' f.cards' f.records' f.is
        to x (late e i) = late refl i

        back : (x : Content) → ToPress Q p s x → ToPress Q p (server_gives_up s) x
        back x (second f) = second (record { is = f.is; awaits = f.awaits; server = inr refl })
        back x (fourth f) = fourth (record { records' = f.records'; rule' = f.rule'; said = f.said; is = f.is; awaits = f.awaits; before = f.before; after = f.after; server = inr refl })
        back x (sixth f) = sixth (record { is = f.is; awaits = f.awaits; after = f.after })
        back x (shut e) = shut e

        go : (x : Wire Content) → OnWire Q p s x → OnWire Q p (server_gives_up s) x
        go clear f = tt
        go (to_server x) f = to x f
        go (to_press x) f = back x f

  -- ---- small steps, doings and courses of sessions
  pub step_good : (x : Step) → (hand_made x || by_people x) ≡ false → (w : World Content) → Good Q w → GoodAfter (does on_content x w)
  step_good (handed x) e w g = absurd (false≢true (sym e))
  step_good (press_adds t) e w g = absurd (false≢true (sym e))
  step_good (press_edits l t) e w g = absurd (false≢true (sym e))
  step_good (press_deletes l) e w g = absurd (false≢true (sym e))
  step_good (server_adds t) e w g = absurd (false≢true (sym e))
  step_good (server_edits i t) e w g = absurd (false≢true (sym e))
  step_good (server_deletes i) e w g = absurd (false≢true (sym e))
  step_good (set_rule rule) e w g = absurd (false≢true (sym e))
  step_good start e w g = starts_good w g
  step_good step e w g = hands_good w g w.wire g.wire
  step_good lose e w g = loses_good w g
  step_good press_give_up e w g = press_leaves_good w g
  step_good server_give_up e w g = server_leaves_good w g

  pub course_good : (ds : List Doing) → Every SessionsOnly ds → (w : World Content) → Good Q w → Good Q (goes on_content ds w).world
  course_good = goes_keep on_content (λ x. (hand_made x || by_people x) ≡ false) (Good Q) step_good
