-- Texts decide nothing, by the public calls: a course on bytes goes as the course on content does (course, CarriedLaws). Assumes nothing.
use Prim.Native.Nat.{ℕ, ◌≤◌}
use mathlib.Core.Path.{◌≡◌, refl, sym, ap, ap₂, ◌∙◌}
use mathlib.Core.List.{List, [], ◌∷◌, map}
use lib.ListN.{length}
use Rattle.places.proofs.Every.{Every, every}
use Rattle.message.specs.declared.Content.{Content}
use Rattle.message.specs.Message.{limit}
use Rattle.sendable.specs.Sendable.{SendablePackage}
use Rattle.sendable.proofs.SentLaws.{sent_reads_back}
use Rattle.sendable.proofs.ReadLaws.{sent_kept}
use Rattle.calls.specs.After.{bytes_for}
use Rattle.course.specs.Course.{Wire, clear, to_server, to_press, World, fresh_world, Turn, turn, Doing, tries}
use Rattle.course.specs.OnContent.{on_content}
use Rattle.course.specs.OnBytes.{on_bytes}
use Rattle.course.proofs.CarriedLaws.{wire_in_bytes, world_in_bytes, WireWell, WellWorld, StepWell, DoneWell, step_well, tries_carried, fresh_well}
use Rattle.reworded.specs.Reworded.{reword_press, reword_server, reword_content}
use Rattle.texts.specs.Texts.{Lawful, points, textless, reword_wire, reword_turn, Compared, read, textless_as, textless_bytes, TextsOnBytes}
use Rattle.texts.proofs.OnContent.{texts_on_content}

-- ---- without texts a package is the same as its bytes are, as they are read
abbrev bare : Content → Content
bare x = reword_content textless x

same_package : (x : Content) → SendablePackage x → textless_bytes (bytes_for x) ≡ read (bare x)
same_package x f = ap (textless_as (bytes_for x)) (sent_reads_back x f) ∙ ap (λ (y : Content). read (bare y)) (sent_kept x f)

same_packages : (l : List Content) → Every SendablePackage l → map textless_bytes (map bytes_for l) ≡ map read (map bare l)
same_packages [] f = refl
same_packages (x ∷ l) f = ap₂ (λ (y : Compared) (k : List Compared). y ∷ k) (same_package x f.0) (same_packages l f.1)

-- a world and a turn of contents, each said to have been read
abbrev read_wire : Wire Content → Wire Compared
read_wire clear = clear
read_wire (to_server x) = to_server (read x)
read_wire (to_press x) = to_press (read x)

abbrev read_turn : Turn Content → Turn Compared
read_turn t = turn (record { press = t.world.press; server = t.world.server; wire = read_wire t.world.wire; written = map read t.world.written }) t.refusal

same_wire : (x : Wire Content) → WireWell x → reword_wire textless textless_bytes (wire_in_bytes x) ≡ read_wire (reword_wire textless bare x)
same_wire clear f = refl
same_wire (to_server x) f = ap (λ (y : Compared). to_server y) (same_package x f)
same_wire (to_press x) f = ap (λ (y : Compared). to_press y) (same_package x f)

same_turn : (t : Turn Content) → WellWorld t.world → reword_turn textless textless_bytes (turn (world_in_bytes t.world) t.refusal) ≡ read_turn (reword_turn textless bare t)
same_turn t h =
    ap₂ (λ (x : Wire Compared) (l : List Compared). turn (record { press = reword_press textless t.world.press; server = reword_server textless t.world.server; wire = x; written = l }) t.refusal)
    (same_wire t.world.wire h.wire) (same_packages t.world.written h.written)

-- ---- all points of a course
module _ (out : List ℕ) (room : limit ≤ length out) where
  points_carried : (ds : List Doing) → Every (Every Lawful) ds → (w : World Content) → WellWorld w
      → map (reword_turn textless textless_bytes) (points (on_bytes out) ds (world_in_bytes w)) ≡ map read_turn (map (reword_turn textless bare) (points on_content ds w))
  unfolding points
  points_carried [] f w h = refl
  points_carried (d ∷ ds) f w h =
      let well : DoneWell out room d = every Lawful (StepWell out room) (λ x l. step_well out room x l.0) d f.0 in
      let k = tries_carried out room d well w h in
      let t = tries on_content d w in
      ap (λ (z : Turn (List ℕ)). reword_turn textless textless_bytes z ∷ map (reword_turn textless textless_bytes) (points (on_bytes out) ds z.world)) k.same
      ∙ ap₂ (λ (u : Turn Compared) (l : List (Turn Compared)). u ∷ l) (same_turn t k.well) (points_carried ds f.1 t.world k.well)

pub texts_on_bytes : TextsOnBytes
texts_on_bytes out room station n ds es e =
    let h = fresh_well station n in
    points_carried out room ds e.lawful.0 (fresh_world station) h
    ∙ ap (map read_turn) (texts_on_content station n ds es e)
    ∙ sym (points_carried out room es e.lawful.1 (fresh_world station) h)
