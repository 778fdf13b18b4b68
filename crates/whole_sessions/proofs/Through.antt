-- A session that nothing breaks, from a press that is closed: it runs through, and leaves the tables that its packages make, with both anchors at its number.
use Prim.Native.Nat.{ℕ, suc, ◌+◌, ◌≤◌}
use mathlib.Core.Path.{◌≡◌, refl, sym, ap, ◌∙◌, subst}
use mathlib.Core.Bool.{Bool, true, false, not}
use mathlib.Core.List.{List, [], ◌∷◌, ◌++◌}
use native.Mathlib.Omega.{arith}
use lib.Dec.{eqb}
use lib.ListN.{length, drop}
use lib.Seq.{append_snoc}
use borrow.Author.Tests.{lt-ltb}
use Rattle.places.proofs.Every.{Every}
use Rattle.message.specs.declared.Content.{Content}
use Rattle.terms.specs.declared.Mode.{Mode}
use Rattle.terms.specs.Check.{checked}
use Rattle.cards.specs.declared.Awaits as cards
use Rattle.cards.specs.declared.Cards.{Cards}
use Rattle.cards.specs.Press.{is_open}
use Rattle.records.specs.declared.Awaits as records
use Rattle.records.specs.declared.Records.{Records}
use Rattle.records.specs.declared.Rule.{Rule}
use Rattle.listing.proofs.ListingLaws.{listing_items}
use Rattle.server_rules.specs.Took.{server_with}
use Rattle.press_tells.specs.Tell.{commands}
use Rattle.press_rules.specs.Pkg1.{Started}
use Rattle.press_rules.specs.Took.{press_with}
use Rattle.press_rules.specs.Pkg1.{not_started, press_starts}
use Rattle.press_rules.proofs.Cases.{start_open, start_spent}
use Rattle.course.specs.Course.{World, to_server, to_press, clear, Turn, turn, and_then, press_called, server_called, starts, hands_over, start, handings, full, tries}
use Rattle.press_awaits.specs.OnContent.{started_as}
use Rattle.course.specs.OnContent.{on_content}
use Rattle.demand3.specs.Demand3.{any_room_refused, room_refused}
use Rattle.own_packages.proofs.Own.{pkg1, pkg2, pkg3, statuses4, pkg4, press_at5, answers5, pkg5, server6, pkg6, press_at7, server4}
use Rattle.pairs.proofs.Invariant.{Invariant}
use Rattle.whole_sessions.proofs.Calls.{begins, takes_1, takes_2, takes_3, takes_4, takes_5, takes_6}
use Rattle.whole_sessions.proofs.PackageLaws.{PackageLaws, Roomy}
use Rattle.whole_sessions.proofs.Good.{mode_of}

-- ---- one turn after the other
then_is : (t : Turn Content) (v : World Content) (f : World Content → Turn Content) → t ≡ turn v 0 → and_then t f ≡ f v
then_is t v f e = ap (λ (z : Turn Content). and_then z f) e

start_is : (n : ℕ) (w v : World Content) → starts on_content w ≡ turn v 0 → tries on_content (start ∷ handings n) w ≡ tries on_content (handings n) v
unfolding tries
start_is n w v e = then_is (starts on_content w) v (tries on_content (handings n)) e

step_is : (n : ℕ) (w v : World Content) → hands_over on_content w w.wire ≡ turn v 0 → tries on_content (handings (suc n)) w ≡ tries on_content (handings n) v
unfolding tries
step_is n w v e = then_is (hands_over on_content w w.wire) v (tries on_content (handings n)) e

no_steps : (w : World Content) → tries on_content (handings 0) w ≡ turn w 0
unfolding tries
no_steps w = refl

-- ---- what was written after all that was written before
abbrev pub six : Content → Content → Content → Content → Content → Content → List Content
six a b c d e f = a ∷ (b ∷ (c ∷ (d ∷ (e ∷ (f ∷ [])))))

six_written : (ws : List Content) (a b c d e f : Content)
    → (((((ws ++ (a ∷ [])) ++ (b ∷ [])) ++ (c ∷ [])) ++ (d ∷ [])) ++ (e ∷ [])) ++ (f ∷ []) ≡ ws ++ six a b c d e f
six_written ws a b c d e f =
    append_snoc ((((ws ++ (a ∷ [])) ++ (b ∷ [])) ++ (c ∷ [])) ++ (d ∷ [])) e (f ∷ [])
    ∙ (append_snoc (((ws ++ (a ∷ [])) ++ (b ∷ [])) ++ (c ∷ [])) d (e ∷ (f ∷ []))
    ∙ (append_snoc ((ws ++ (a ∷ [])) ++ (b ∷ [])) c (d ∷ (e ∷ (f ∷ [])))
    ∙ (append_snoc (ws ++ (a ∷ [])) b (c ∷ (d ∷ (e ∷ (f ∷ []))))
    ∙ append_snoc ws a (b ∷ (c ∷ (d ∷ (e ∷ (f ∷ []))))))))

drop_after : (ws xs : List Content) → drop (length ws) (ws ++ xs) ≡ xs
drop_after [] xs = refl
drop_after (w ∷ ws) xs = drop_after ws xs

-- ---- a session that is not refused was started by a closed press that had a number left
pub can_start : (n : ℕ) (w : World Content) → (tries on_content (start ∷ handings n) w).refusal ≡ 0 → (is_open w.press.awaits ≡ false) × (eqb w.press.session 4294967295 ≡ false)
unfolding tries
can_start n w e = go (is_open w.press.awaits) (eqb w.press.session 4294967295) refl refl
  where
    refused : (t : Started) → press_starts w.press ≡ t → (and_then (press_called w (started_as w.press t.start t)) (tries on_content (handings n))).refusal ≡ 0
    refused t q = sym (ap (λ (t : Started). (and_then (press_called w (started_as w.press t.start t)) (tries on_content (handings n))).refusal) q) ∙ e

    go : (o s : Bool) → is_open w.press.awaits ≡ o → eqb w.press.session 4294967295 ≡ s → (is_open w.press.awaits ≡ false) × (eqb w.press.session 4294967295 ≡ false)
    go false false p q = (p, q)
    go true s p q = let z : ◌≡◌ {A = ℕ} 1 0 = refused (not_started 1 w.press) (start_open w.press (ap (λ (o : Bool). checked (not o)) p)) in absurd (omega (arith, z))
    go false true p q = let z : ◌≡◌ {A = ℕ} 2 0 = refused (not_started 2 w.press) (start_spent w.press (ap (λ (o : Bool). checked (not o)) p) (ap (λ (o : Bool). checked (not o)) q)) in absurd (omega (arith, z))

module _ (Near : Cards → Records → Cards → Records → Type 0) (st : (rule : Rule) → PackageLaws rule Near) (w : World Content) (h : Invariant w.press.cards w.server.records) (numbers : w.server.link.session ≤ w.press.session)
    (closed : is_open w.press.awaits ≡ false) (left : eqb w.press.session 4294967295 ≡ false) where
  abbrev c : Cards
  c = w.press.cards

  abbrev s : Records
  s = w.server.records

  abbrev a : ℕ
  a = w.press.anchor

  abbrev b : ℕ
  b = w.server.link.anchor

  abbrev m : Mode
  m = mode_of w.press w.server

  abbrev rule : Rule
  rule = w.server.rule

  -- the session's number
  abbrev n : ℕ
  n = w.press.session + 1

  abbrev w1 : World Content
  w1 = record { press = press_with c a n cards.Awaits.Two; server = w.server; wire = to_server (pkg1 n a); written = w.written ++ (pkg1 n a ∷ []) }

  abbrev w2 : World Content
  w2 = record { press = w1.press; server = server_with rule s b n (records.Awaits.Three m); wire = to_press (pkg2 n b m); written = w1.written ++ (pkg2 n b m ∷ []) }

  abbrev w3 : World Content
  w3 = record { press = press_with c a n (cards.Awaits.Four m); server = w2.server; wire = to_server (pkg3 n m c); written = w2.written ++ (pkg3 n m c ∷ []) }

  abbrev w4 : World Content
  w4 = record { press = w3.press; server = server_with rule (server4 rule m c s) b n (records.Awaits.Five (length (commands m c))); wire = to_press (pkg4 rule n m c s); written = w3.written ++ (pkg4 rule n m c s ∷ []) }

  abbrev w5 : World Content
  w5 = record { press = press_with (press_at5 rule m c s) a n cards.Awaits.Six; server = w4.server; wire = to_server (pkg5 rule n m c s); written = w4.written ++ (pkg5 rule n m c s ∷ []) }

  abbrev w6 : World Content
  w6 = record { press = w5.press; server = server_with rule (server6 rule m c s) n n records.Awaits.Nothing; wire = to_press (pkg6 n); written = w5.written ++ (pkg6 n ∷ []) }

  abbrev pub w7 : World Content
  w7 = record { press = press_with (press_at7 rule m c s) n n cards.Awaits.Nothing; server = w6.server; wire = clear; written = w6.written }

  pub runs : tries on_content full w ≡ turn w7 0
  runs =
      start_is 6 w w1 (ap (press_called w) (begins w.press closed left))
      ∙ (step_is 5 w1 w2 (ap (server_called w1) (takes_1 w.server n a (lt-ltb w.server.link.session n (omega (arith, numbers)))))
      ∙ (step_is 4 w2 w3 (ap (press_called w2) (takes_2 w2.press refl b m))
      ∙ (step_is 3 w3 w4 (ap (server_called w3) (takes_3 w3.server m c h refl ((st rule).lawful_3 n m c s h)))
      ∙ (step_is 2 w4 w5 (ap (press_called w4) (takes_4 w4.press rule m s refl ((st rule).lawful_4 m w4.press s h)))
      ∙ (step_is 1 w5 w6 (ap (server_called w5) (takes_5 w5.server rule m c s refl (length (commands m c)) refl ((st rule).fits_5 n m c s h) ((st rule).answers_fit m c s h)))
      ∙ (step_is 0 w6 w7 (ap (press_called w6) (takes_6 w6.press refl)) ∙ no_steps w7))))))

  pub written7 : w7.written ≡ w.written ++ six (pkg1 n a) (pkg2 n b m) (pkg3 n m c) (pkg4 rule n m c s) (pkg5 rule n m c s) (pkg6 n)
  written7 = six_written w.written (pkg1 n a) (pkg2 n b m) (pkg3 n m c) (pkg4 rule n m c s) (pkg5 rule n m c s) (pkg6 n)

  -- no 420 in what was written
  pub roomy : Every (λ x. room_refused x ≡ false) (drop (length w.written) w7.written) → Roomy rule m c s
  roomy e =
      let all = subst (Every (λ x. room_refused x ≡ false)) (ap (drop (length w.written)) written7 ∙ drop_after w.written (six (pkg1 n a) (pkg2 n b m) (pkg3 n m c) (pkg4 rule n m c s) (pkg5 rule n m c s) (pkg6 n))) e in
      record {
        at_server = ap any_room_refused (sym (listing_items (statuses4 rule m c s))) ∙ all.1.1.1.0;
        at_press = ap any_room_refused (sym (listing_items (answers5 rule m c s))) ∙ all.1.1.1.1.0;
      }
