-- A course with other texts goes the same way, with those texts in tables and packages: small steps, doings and points, for any opaque sides. Assumes nothing.
use Prim.Native.Nat.{ℕ}
use mathlib.Core.Path.{◌≡◌, refl, sym, ap, ◌∙◌}
use mathlib.Core.Bool.{cond, false≢true}
use mathlib.Core.List.{List, [], ◌∷◌, ◌++◌, map, map-append}
use lib.Dec.{eqb}
use lib.ListN.{replicate}
use Rattle.places.specs.Set.{all_places}
use Rattle.places.specs.Every.{Every}
use Rattle.places.proofs.MapLaws.{cond_map, replicate_map}
use Rattle.text.specs.Text.{GoodText}
use Rattle.cards.specs.declared.Press.{Press}
use Rattle.cards.specs.Press.{no_report, blank_card, fresh_press}
use Rattle.records.specs.declared.Server.{Server}
use Rattle.records.specs.Server.{blank_record, fresh_server}
use Rattle.message.specs.declared.Content.{Content}
use Rattle.calls.specs.Says.{Says, sends, done, refuses, Called}
use Rattle.course.specs.Course.{Sides, Wire, clear, to_server, to_press, World, fresh_world, with_press, with_server, Turn, turn, and_then, press_says, server_says, press_called, server_called, hands_over, Step, press_adds, press_edits, press_deletes, server_adds, server_edits, server_deletes, set_rule, start, step, lose, press_give_up, server_give_up, handed, at_the_press, at_the_server, does, Doing, tries}
use Rattle.reworded.specs.Reworded.{Rewording, RewordsText, reword_card, reword_press, reword_record, reword_server, reword_content, reword_says, reword_called_press, reword_called_server}
use Rattle.press_reworded.proofs.EditLaws.{press_add_reworded, press_edit_reworded, press_delete_reworded}
use Rattle.server_reworded.proofs.EditLaws.{server_add_reworded, server_edit_reworded, server_delete_reworded}
use Rattle.texts.specs.Opaque.{Opaque}
use Rattle.texts.specs.Texts.{reword_step, Lawful, points, reword_wire, reword_world, reword_turn}

module _ (r : Rewording) where
  abbrev other : World Content → World Content
  other w = reword_world r (reword_content r) w

  abbrev pub other_turn : Turn Content → Turn Content
  other_turn t = reword_turn r (reword_content r) t

  -- ---- two fresh sides say nothing
  pub fresh_reworded : (station : ℕ) → other (fresh_world station) ≡ fresh_world station
  fresh_reworded station =
      let c : reword_card r blank_card ≡ blank_card = λ i. record { mark = blank_card.mark; luid = blank_card.luid; fp = 0; report = no_report; wording = r.blank i } in
      let x : reword_record r blank_record ≡ blank_record = λ i. record { guid = blank_record.guid; wording = r.blank i; pairing = blank_record.pairing } in
      let cs : map (reword_card r) (replicate all_places blank_card) ≡ replicate all_places blank_card = sym (replicate_map (reword_card r) all_places blank_card) ∙ ap (replicate all_places) c in
      let xs : map (reword_record r) (replicate all_places blank_record) ≡ replicate all_places blank_record = sym (replicate_map (reword_record r) all_places blank_record) ∙ ap (replicate all_places) x in
      λ i.
      record {
        press = record { cards = record { used = 0; places = cs i; luid = 0; fp = 0; station = station }; anchor = 1; session = 1; awaits = (fresh_press station).awaits };
        server = record { records = record { used = 0; places = xs i; guid = 0 }; link = fresh_server.link; rule = fresh_server.rule };
        wire = clear;
        written = [];
      }

  -- ---- a side was called
  module _ (w : World Content) where
    more : (x : Content) → map (reword_content r) w.written ++ (reword_content r x ∷ []) ≡ map (reword_content r) (w.written ++ (x ∷ []))
    more x = sym (map-append (reword_content r) w.written (x ∷ []))

    press_called_lem : (c : Called Press Content) → press_called (other w) (reword_called_press r c) ≡ other_turn (press_called w c)
    press_called_lem c = go c.says
      where
        go : (m : Says Content) → press_says (with_press (other w) (reword_press r c.side)) (reword_says r m) ≡ other_turn (press_says (with_press w c.side) m)
        go (sends x) = ap (λ (l : List Content). turn (record { press = reword_press r c.side; server = reword_server r w.server; wire = to_server (reword_content r x); written = l }) 0) (more x)
        go done = refl
        go (refuses n) = refl

    server_called_lem : (c : Called Server Content) → server_called (other w) (reword_called_server r c) ≡ other_turn (server_called w c)
    server_called_lem c = go c.says
      where
        go : (m : Says Content) → server_says (with_server (other w) (reword_server r c.side)) (reword_says r m) ≡ other_turn (server_says (with_server w c.side) m)
        go (sends x) = ap (λ (l : List Content). turn (record { press = reword_press r w.press; server = reword_server r c.side; wire = to_press (reword_content r x); written = l }) 0) (more x)
        go done = refl
        go (refuses n) = refl

  -- ---- f is what r makes of lawful texts
  module _ (s : Sides Content) (o : Opaque s) (f : List ℕ → List ℕ) (so : (t : List ℕ) → GoodText t → RewordsText r t (f t)) where
    hands_over_lem : (w : World Content) (x : Wire Content) → hands_over s (other w) (reword_wire r (reword_content r) x) ≡ other_turn (hands_over s w x)
    hands_over_lem w clear = refl
    hands_over_lem w (to_server x) = ap (server_called (other w)) (o.server_takes_lem r w.server x) ∙ server_called_lem w (s.server_takes w.server x)
    hands_over_lem w (to_press x) = ap (press_called (other w)) (o.press_takes_lem r w.press x) ∙ press_called_lem w (s.press_takes w.press x)

    does_reworded : (x : Step) → Lawful x → (w : World Content) → does s (reword_step f x) (other w) ≡ other_turn (does s x w)
    does_reworded (press_adds t) h w = ap (at_the_press (other w)) (press_add_reworded r t (f t) (so t h.1) w.press)
    does_reworded (press_edits l t) h w = ap (at_the_press (other w)) (press_edit_reworded r t (f t) (so t h.1) w.press l)
    does_reworded (server_adds t) h w = ap (at_the_server (other w)) (server_add_reworded r t (f t) (so t h.1) w.server)
    does_reworded (server_edits g t) h w = ap (at_the_server (other w)) (server_edit_reworded r t (f t) (so t h.1) w.server g)
    does_reworded (press_deletes l) h w = ap (at_the_press (other w)) (press_delete_reworded r w.press l)
    does_reworded (server_deletes g) h w = ap (at_the_server (other w)) (server_delete_reworded r w.server g)
    does_reworded (set_rule rule) h w = refl
    does_reworded start h w = ap (press_called (other w)) (o.starts r w.press) ∙ press_called_lem w (s.start w.press)
    does_reworded step h w = hands_over_lem w w.wire
    does_reworded lose h w = refl
    does_reworded press_give_up h w = refl
    does_reworded server_give_up h w = refl
    does_reworded (handed x) h w = absurd (false≢true (sym h.0))

    tries_reworded : (d : Doing) → Every Lawful d → (w : World Content) → tries s (map (reword_step f) d) (other w) ≡ other_turn (tries s d w)
    unfolding tries
    tries_reworded [] h w = refl
    tries_reworded (x ∷ xs) h w =
        let t = does s x w in
        ap (λ (z : Turn Content). and_then z (tries s (map (reword_step f) xs))) (does_reworded x h.0 w)
        ∙ ap (λ (z : Turn Content). cond (eqb t.refusal 0) z (other_turn t)) (tries_reworded xs h.1 t.world)
        ∙ cond_map other_turn (eqb t.refusal 0) (tries s xs t.world) t

    pub points_reworded : (ds : List Doing) → Every (Every Lawful) ds → (w : World Content) → points s (map (map (reword_step f)) ds) (other w) ≡ map other_turn (points s ds w)
    unfolding points
    points_reworded [] h w = refl
    points_reworded (d ∷ ds) h w =
        ap (λ (t : Turn Content). t ∷ points s (map (map (reword_step f)) ds) t.world) (tries_reworded d h.0 w)
        ∙ ap (λ (l : List (Turn Content)). other_turn (tries s d w) ∷ l) (points_reworded ds h.1 (tries s d w).world)
