-- The image of a server reads back, and has its length.
-- Assumes nothing.
use Rattle.std.proofs.Common.{Some}
use Prim.Native.Nat.{ℕ, ◌+◌, ◌*◌}
use mathlib.Core.Path.{◌≡◌, refl, sym, ap, ap₂, ◌∙◌}
use mathlib.Core.List.{List, [], ◌∷◌, ◌++◌, append_assoc}
use lib.ListN.{length, get_or, take, drop, length-append}
use lib.Seq.{take_at, drop-append-add}
use native.Mathlib.Omega.{arith}
use Rattle.places.specs.Set.{all_places}
use Rattle.places.proofs.Every.{every}
use Rattle.text.specs.Text.{longest}
use Rattle.terms.specs.declared.Mode.TheVariants.{Normal, Recovery}
use Rattle.terms.specs.Number.{luid, guid}
use Rattle.records.specs.declared.Mark.{Mark}
use Rattle.records.specs.declared.Mark.TheVariants.{Clean, Dirty, Offered, Deleted}
use Rattle.records.specs.declared.Record.{Record}
use Rattle.records.specs.declared.Rule.{Rule}
use Rattle.records.specs.declared.Rule.TheVariants.{PressWins, ServerWins}
use Rattle.records.specs.declared.Awaits.{Awaits}
use Rattle.records.specs.declared.Server.{Server}
use Rattle.image.specs.Four.{four, fours, four_in}
use Rattle.image.specs.Sum.{sum_of}
use Rattle.image.proofs.FourLaws.{four_back, byte_after, four_after}
use Rattle.image.proofs.FlatLaws.{flat_length, each_back}
use Rattle.image.specs.Keeping.{standing}
use Rattle.image.proofs.KeepingLaws.{image_stands}
use Rattle.server_sends.specs.InRange.{ServerInRange}
use Rattle.server_range.proofs.RangeLaws.{server_tested}
use Rattle.server_image.specs.Image.{head_size, record_size, image_size, server_form, mark_byte, mark_of, rule_byte, rule_of, awaits_byte, awaits_number, awaits_of, record_bytes, record_in, records_bytes, records_in, head_bytes, body_of, image_of, server_in, server_keeping, StorableRecord, Storable}

-- ---- what is no number
mark_back : (m : Mark) → mark_of (mark_byte m) ≡ m
mark_back Clean = refl
mark_back Dirty = refl
mark_back Offered = refl
mark_back Deleted = refl

rule_back : (r : Rule) → rule_of (rule_byte r) ≡ r
rule_back PressWins = refl
rule_back ServerWins = refl

awaits_back : (a : Awaits) → awaits_of (awaits_byte a) (awaits_number a) ≡ a
awaits_back Awaits.Nothing = refl
awaits_back (Awaits.Three Normal) = refl
awaits_back (Awaits.Three Recovery) = refl
awaits_back (Awaits.Five n) = refl

-- ---- a record
record_of : ℕ → ℕ → ℕ → Mark → ℕ → ℕ → List ℕ → Record
record_of a b c m n s w =
    record { guid = guid a; wording = record { text = record { len = n; bytes = w }; station = s }; pairing = record { luid = luid b; known = c; mark = m } }

-- that stands first
record_first : (x : Record) (rest : List ℕ) → StorableRecord x → record_in (record_bytes x ++ rest) 0 ≡ x
unfolding record_in record_of
record_first x rest h =
    let l = record_bytes x ++ rest in
    let a : four_in l 0 ≡ x.guid.0 = four_back x.guid.0 _ h.guid in
    let b : four_in l 4 ≡ x.pairing.luid.0 = four_after (four x.guid.0) _ 0 4 refl ∙ four_back x.pairing.luid.0 _ h.luid in
    let c : four_in l 8 ≡ x.pairing.known = four_after (fours (x.guid.0 ∷ x.pairing.luid.0 ∷ [])) _ 0 8 refl ∙ four_back x.pairing.known _ h.known in
    let w : take longest (drop 16 l) ≡ x.wording.text.bytes = take_at x.wording.text.bytes rest longest h.text in
    ap₂ (λ (i j : ℕ). record_of i j (four_in l 8) (mark_of (get_or l 12 0)) (get_or l 13 0) (get_or l 14 0) (take longest (drop 16 l))) a b
    ∙ ap₂ (λ (i : ℕ) (m : Mark). record_of x.guid.0 x.pairing.luid.0 i m (get_or l 13 0) (get_or l 14 0) (take longest (drop 16 l))) c (mark_back x.pairing.mark)
    ∙ ap (λ (v : List ℕ). record_of x.guid.0 x.pairing.luid.0 x.pairing.known x.pairing.mark x.wording.text.len x.wording.station v) w

-- that stands after other bytes
record_after : (pre l : List ℕ) → record_in (pre ++ l) (length pre) ≡ record_in l 0
unfolding record_in
record_after pre l =
    rw (
      four_after pre l 0 (length pre) (omega arith),
      four_after pre l 4 (length pre + 4) refl,
      four_after pre l 8 (length pre + 8) refl,
      byte_after pre l 12 (length pre + 12) refl,
      byte_after pre l 13 (length pre + 13) refl,
      byte_after pre l 14 (length pre + 14) refl,
      drop-append-add pre l 16,
    )

record_long : (x : Record) → StorableRecord x → length (record_bytes x) ≡ record_size
record_long x h = omega (arith, h.text)

-- ---- all of it
pub body_long : (p : Server) → Storable p → length (body_of p) ≡ 1308
unfolding body_of
body_long p h =
    let n = flat_length record_bytes record_size p.records.places (every StorableRecord (λ x. length (record_bytes x) ≡ record_size) record_long p.records.places h.records) in
    length-append (head_bytes p) (records_bytes p.records.places) ∙ ap (λ (k : ℕ). head_size + k) (n ∙ ap (λ (k : ℕ). record_size * k) h.long)

pub image_long : (p : Server) → Storable p → length (image_of p) ≡ image_size
unfolding image_of
image_long p h = length-append (body_of p) (four (sum_of (body_of p))) ∙ ap (λ (k : ℕ). k + 4) (body_long p h)

server_of : ℕ → ℕ → ℕ → ℕ → Awaits → Rule → List Record → Server
server_of u g a s w r xs = record { records = record { used = u; places = xs; guid = g }; link = record { anchor = a; session = s; awaits = w }; rule = r }

pub server_back : (p : Server) → Storable p → server_in (image_of p) ≡ p
unfolding image_of body_of server_in server_of
server_back p h =
    let rest = records_bytes p.records.places ++ four (sum_of (body_of p)) in
    let s = head_bytes p ++ rest in
    let g = h.head in
    let u : four_in s 4 ≡ p.records.used = four_after (four server_form) _ 0 4 refl ∙ four_back p.records.used _ g.used in
    let l : four_in s 8 ≡ p.records.guid = four_after (fours (server_form ∷ p.records.used ∷ [])) _ 0 8 refl ∙ four_back p.records.guid _ g.guid in
    let a : four_in s 12 ≡ p.link.anchor = four_after (fours (server_form ∷ p.records.used ∷ p.records.guid ∷ [])) _ 0 12 refl ∙ four_back p.link.anchor _ g.anchor in
    let n : four_in s 16 ≡ p.link.session = four_after (fours (server_form ∷ p.records.used ∷ p.records.guid ∷ p.link.anchor ∷ [])) _ 0 16 refl ∙ four_back p.link.session _ g.session in
    let k : four_in s 20 ≡ awaits_number p.link.awaits = four_after (fours (server_form ∷ p.records.used ∷ p.records.guid ∷ p.link.anchor ∷ p.link.session ∷ [])) _ 0 20 refl ∙ four_back (awaits_number p.link.awaits) _ g.commands in
    let xs : records_in s ≡ p.records.places = each_back record_in record_size record_bytes StorableRecord record_first record_after record_long (head_bytes p) p.records.places (four (sum_of (body_of p))) head_size all_places refl (sym h.long) h.records in
    ap server_in (append_assoc (head_bytes p) (records_bytes p.records.places) (four (sum_of (body_of p))))
    ∙ ap₂ (λ (i j : ℕ). server_of i j (four_in s 12) (four_in s 16) (awaits_of (get_or s 24 0) (four_in s 20)) (rule_of (get_or s 25 0)) (records_in s)) u l
    ∙ ap₂ (λ (i j : ℕ). server_of p.records.used p.records.guid i j (awaits_of (get_or s 24 0) (four_in s 20)) (rule_of (get_or s 25 0)) (records_in s)) a n
    ∙ ap₂ (λ (w : Awaits) (r : Rule). server_of p.records.used p.records.guid p.link.anchor p.link.session w r (records_in s)) (ap (awaits_of (awaits_byte p.link.awaits)) k ∙ awaits_back p.link.awaits) (rule_back p.rule)
    ∙ ap (λ (v : List Record). server_of p.records.used p.records.guid p.link.anchor p.link.session p.link.awaits p.rule v) xs

-- ---- in the image of a server in range stands this server
pub kept_stands : (p : Server) → Storable p → ServerInRange p → standing server_keeping (image_of p) ≡ Some p
kept_stands p h r = image_stands server_keeping p (image_long p h) (server_back p h) (server_tested p h.long (omega (arith, h.head.used)) r)
