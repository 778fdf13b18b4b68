-- What the turns of the loops come to that read a list of elements: the elements passed, kept in an array or written on.
-- Assumes nothing.
use Prim.Native.Nat.{ℕ, suc, ◌+◌, ◌-◌, ◌*◌, ◌≤◌, ◌<◌}
use mathlib.Core.Path.{◌≡◌, refl, sym, ap, ap₂, ◌∙◌, subst}
use Rattle.std.specs.Prelude.{Ok, Err}
use mathlib.Core.List.{List, [], ◌∷◌, ◌++◌, append-nil, map, map-append}
use native.Mathlib.Omega.{arith}
use native.Mathlib.Nat.{add-zero}
use lib.ListN.{length, set, replicate, length-append, length-map}
use lib.Seq.{take_all, take-append-le, set-append_seam, append_snoc}
use Rattle.token.specs.Limit.{limit}
use Rattle.token.specs.Ans.{Ans, got, bad}
use Rattle.token.specs.Put.{Put}
use Rattle.token.proofs.PutLaws.{put_seq, put_none}
use Rattle.grammar.specs.Codec.{Moves}
use Rattle.grammar.specs.Numbered.{with_end, read_list, numbered, write_all}
use Rattle.grammar.proofs.LoopLaws.{Passed, passed_none, passed_end, passed_bad, passed_more, put_more, write_all_snoc}
use Rattle.page.specs.declared.Kinds.{Kinds}
use Rattle.elements.specs.declared.Placed.{Placed}
use Rattle.elements.specs.declared.End.{End}
use Rattle.text.proofs.TextLaws.{good_parts}
use Rattle.text.proofs.KeptLaws.{kept_bytes}
use Rattle.shape.proofs.CopyLaws.{row_text}
use Rattle.page.specs.Page.{shape}
use Rattle.elements.specs.Element.{Element, of_element, element_c, element_in, end_c, write_element}
use Rattle.elements.proofs.NameLaws.{element_bad}
use Rattle.lists.specs.declared.Entry.{Entry}
use Rattle.lists.specs.Lists.{kept_listed, by_itself, entry_of, blank_entry, array, listed_as, any_kinds, elements_from, write_on, copied_as}
use Rattle.lists.specs.declared.Copied.{Copied}

-- what `get_or` gives past the end of an array of elements: no loop uses it
abbrev pub no_entry : Entry
no_entry = record { fields = blank_entry.fields; wording = record { text = record { len = 0; bytes = [] }; station = 0 } }

-- an element that is in the written form is, by itself, what it was: its text is kept whole
pub own_entry : (k : Kinds) (id : ℕ) (e : Element) → (element_c k id).good e → entry_of (by_itself e) ≡ e
own_entry k id e g =
    let short = (good_parts e.text (row_text (shape e.fields.kind) id (of_element e).1 g.1)).0 in
    ap (λ (b : List ℕ). record { fields = e.fields; station = e.station; text = b }) (kept_bytes e.text short)

-- ---- an array of blanks keeps none; one more while it has room, and then no more
pub blanks : {x : Entry} → x ≡ blank_entry → replicate kept_listed x ≡ array []
blanks e = ap (replicate kept_listed) e

array_more : (xs : List Entry) (y : Entry) → length xs < kept_listed → set (array xs) (length xs) y ≡ array (xs ++ (y ∷ []))
array_more xs y h =
    let l = length-append xs (y ∷ []) in
    let n : kept_listed - length xs ≡ suc (kept_listed - length (xs ++ (y ∷ []))) = omega arith in
    rw (take_all kept_listed xs (omega arith), take_all kept_listed (xs ++ (y ∷ [])) (omega arith), n)
    (set-append_seam xs blank_entry (replicate (kept_listed - length (xs ++ (y ∷ []))) blank_entry) y
    ∙ sym (append_snoc xs y (replicate (kept_listed - length (xs ++ (y ∷ []))) blank_entry)))

array_full : (xs : List Entry) (y : Entry) → kept_listed ≤ length xs → array xs ≡ array (xs ++ (y ∷ []))
array_full xs y h = ap (λ (t : List Entry). t ++ replicate (kept_listed - length t) blank_entry) (sym (take-append-le kept_listed xs (y ∷ []) h))

-- ---- a loop has passed the elements `done`, and the number `due` comes next
pub record Far (kinds : Kinds) (end : ℕ) (s : List ℕ) (id at₀ due at : ℕ) (done : List Element) : Type 0 where
  pub count : due ≡ id + length done
  pub passed : Passed (element_c kinds) (end_c end) s id at₀ at done

module _ (kinds : Kinds) (end : ℕ) (M : (i : ℕ) → Moves (element_c kinds i)) (s : List ℕ) where
  pub far_none : (id at : ℕ) → Far kinds end s id at id at []
  far_none id at = record { count = omega arith; passed = passed_none (element_c kinds) (end_c end) M s id at }

  module _ (id at₀ due at : ℕ) (done : List Element) (f : Far kinds end s id at₀ due at done) where
    -- what was read by the number that is due
    end_due : {x : Ans End} → (end_c end due).read s at ≡ x → (end_c end (id + length done)).read s at ≡ x
    end_due e = ap (λ (m : ℕ). (end_c end m).read s at) (sym f.count) ∙ e

    one_due : {x : Ans Element} → (element_c kinds due).read s at ≡ x → (element_c kinds (id + length done)).read s at ≡ x
    one_due e = ap (λ (m : ℕ). (element_c kinds m).read s at) (sym f.count) ∙ e

    pub far_end : (last : End) (p : ℕ) → (end_c end due).read s at ≡ got last p → elements_from kinds end id s at₀ ≡ (done, got last p)
    far_end last p e = passed_end (element_c kinds) (end_c end) M s id at₀ at done last p f.passed (end_due e)

    pub far_bad : (k m n q : ℕ) → (end_c end due).read s at ≡ bad k m → (element_c kinds due).read s at ≡ bad n q → elements_from kinds end id s at₀ ≡ (done, bad 7 at)
    far_bad k m n q e h =
        let b = element_bad kinds due s at n q h in
        passed_bad (element_c kinds) (end_c end) M s id at₀ at done k m n q f.passed (end_due e) (one_due h) ∙ ap₂ (λ i j. (done, bad i j)) b.0 b.1

    pub far_more : (k m : ℕ) (a : Element) (q : ℕ) → (end_c end due).read s at ≡ bad k m → (element_c kinds due).read s at ≡ got a q → Far kinds end s id at₀ (due + 1) q (done ++ (a ∷ []))
    far_more k m a q e h =
        let n = f.count in
        let l = length-append done (a ∷ []) in
        record { count = omega arith; passed = passed_more (element_c kinds) (end_c end) M s id at₀ at done k m a q f.passed (end_due e) (one_due h) }

-- ---- a list that is being read: n elements passed, the first 33 of them in the array
pub record Reading (kinds : Kinds) (end : ℕ) (s : List ℕ) (id at₀ : ℕ) (items : List Entry) (n at : ℕ) : Type 0 where
  pub done : List Element
  pub far : Far kinds end s id at₀ (id + n) at done
  pub kept : items ≡ array (map by_itself done)

module _ (kinds : Kinds) (end : ℕ) (M : (i : ℕ) → Moves (element_c kinds i)) (s : List ℕ) (id at₀ : ℕ) where
  pub reading_none : (items : List Entry) → items ≡ array [] → Reading kinds end s id at₀ items 0 at₀
  reading_none items e = record { done = []; far = rw (add-zero id) (far_none kinds end M s id at₀); kept = e }

  module _ (items : List Entry) (n at : ℕ) (r : Reading kinds end s id at₀ items n at) where
    count : n ≡ length r.done
    count = omega (arith, r.far.count)

    pub reading_end : (last : End) (p : ℕ) → (end_c end (id + n)).read s at ≡ got last p → Ok (record { n = n; items = items; end = last }, record { at = p }) ≡ listed_as ((numbered id (element_c kinds) (end_c end)).read s at₀)
    unfolding read_list
    reading_end last p e =
        ap₂ (λ (m : ℕ) (l : List Entry). Ok (record { n = m; items = l; end = last }, record { at = p })) count r.kept
        ∙ sym (ap (λ x. listed_as (with_end x)) (far_end kinds end M s id at₀ (id + n) at r.done r.far last p e))

    module _ (k m : ℕ) (e : (end_c end (id + n)).read s at ≡ bad k m) where
      pub reading_bad : (j q : ℕ) → (element_c kinds (id + n)).read s at ≡ bad j q → Err (record { place = q }) ≡ listed_as ((numbered id (element_c kinds) (end_c end)).read s at₀)
      unfolding read_list
      reading_bad j q h =
          ap (λ (i : ℕ). listed_as (bad 7 i)) (element_bad kinds (id + n) s at j q h).1
          ∙ sym (ap (λ x. listed_as (with_end x)) (far_bad kinds end M s id at₀ (id + n) at r.done r.far k m j q e h))

      module _ (x : Placed) (q : ℕ) (h : (element_c kinds (id + n)).read s at ≡ got (element_in s x) q) where
        more : (new : List Entry) → new ≡ array (map by_itself r.done ++ (by_itself (element_in s x) ∷ [])) → Reading kinds end s id at₀ new (n + 1) q
        more new t =
            let i : id + n + 1 ≡ id + (n + 1) = omega arith in
            let d : List Element = r.done ++ (element_in s x ∷ []) in
            record {
              done = d;
              far = subst (λ (due : ℕ). Far kinds end s id at₀ due q d) i (far_more kinds end M s id at₀ (id + n) at r.done r.far k m (element_in s x) q e h);
              kept = t ∙ ap array (sym (map-append by_itself r.done (element_in s x ∷ [])));
            }

        pub reading_room : (y : Entry) → y ≡ by_itself (element_in s x) → n < kept_listed → Reading kinds end s id at₀ (set items n y) (n + 1) q
        reading_room y i l =
            let new : Entry = by_itself (element_in s x) in
            let c : n ≡ length (map by_itself r.done) = count ∙ sym (length-map r.done by_itself) in
            more (set items n y)
            (ap₂ (λ (a : List Entry) (z : Entry). set a n z) r.kept i
            ∙ ap (λ (k : ℕ). set (array (map by_itself r.done)) k new) c
            ∙ array_more (map by_itself r.done) new (omega arith))

        pub reading_full : kept_listed ≤ n → Reading kinds end s id at₀ items (n + 1) q
        reading_full l =
            let c : n ≡ length (map by_itself r.done) = count ∙ sym (length-map r.done by_itself) in
            more items (r.kept ∙ array_full (map by_itself r.done) (by_itself (element_in s x)) (omega arith))

-- ---- a list that is being written on: what the elements passed write stands in the output
pub record Copying (kinds : Kinds) (end : ℕ) (s : List ℕ) (id at₀ : ℕ) (before after : List ℕ) (start p due at : ℕ) : Type 0 where
  pub done : List Element
  pub far : Far kinds end s id at₀ due at done
  pub put : Put before after start p (write_all id (element_c any_kinds) done)

-- ---- a list that is being measured: how long that is
pub record Measuring (kinds : Kinds) (end : ℕ) (s : List ℕ) (id at₀ len due at : ℕ) : Type 0 where
  pub done : List Element
  pub far : Far kinds end s id at₀ due at done
  pub long : len ≡ length (write_all id (element_c any_kinds) done)
  pub small : len ≤ 1000000 * length done

module _ (kinds : Kinds) (end : ℕ) (M : (i : ℕ) → Moves (element_c kinds i)) (s : List ℕ) (id at₀ : ℕ) where
  abbrev Whole : List Element × Ans End
  Whole = elements_from kinds end id s at₀

  -- where the list ends, and what is written on of it then
  module _ (due at : ℕ) (done : List Element) (f : Far kinds end s id at₀ due at done) where
    end_place : (last : End) (e : ℕ) → (end_c end due).read s at ≡ got last e → (next : ℕ) → record { place = e; due = due; next = next } ≡ copied_as id Whole next
    end_place last e h next = ap (λ (k : ℕ). record { place = e; due = k; next = next }) f.count ∙ sym (ap (λ x. copied_as id x next) (far_end kinds end M s id at₀ due at done f last e h))

    end_writes : (last : End) (e : ℕ) → (end_c end due).read s at ≡ got last e → write_on id end Whole ≡ write_all id (element_c any_kinds) done ++ (end_c end due).write last
    end_writes last e h = ap (write_on id end) (far_end kinds end M s id at₀ due at done f last e h) ∙ ap (λ (k : ℕ). write_all id (element_c any_kinds) done ++ (end_c end k).write last) (sym f.count)

    module _ (k m : ℕ) (e : (end_c end due).read s at ≡ bad k m) (j q : ℕ) (h : (element_c kinds due).read s at ≡ bad j q) where
      bad_place_lem : (next : ℕ) → record { place = at; due = due; next = next } ≡ copied_as id Whole next
      bad_place_lem next = ap (λ (i : ℕ). record { place = at; due = i; next = next }) f.count ∙ sym (ap (λ x. copied_as id x next) (far_bad kinds end M s id at₀ due at done f k m j q e h))

      bad_writes : write_on id end Whole ≡ write_all id (element_c any_kinds) done
      bad_writes = ap (write_on id end) (far_bad kinds end M s id at₀ due at done f k m j q e h) ∙ append-nil (write_all id (element_c any_kinds) done)

  -- ---- the loop that writes
  module _ (before : List ℕ) (start : ℕ) where
    pub copying_none : Copying kinds end s id at₀ before before start start id at₀
    copying_none = record { done = []; far = far_none kinds end M s id at₀; put = put_none before start }

    -- the answer of the code, whose output is then `last`
    abbrev Copies : Copied → List ℕ → Type 0
    Copies r last = (r ≡ copied_as id Whole r.next) × Put before last start r.next (write_on id end Whole)

    module _ (after : List ℕ) (p due at : ℕ) (r : Copying kinds end s id at₀ before after start p due at) where
      pub copying_end : (b : End) (e : ℕ) → (end_c end due).read s at ≡ got b e → (last : List ℕ) (next : ℕ) → Put after last p next ((end_c end due).write b) → Copies (record { place = e; due = due; next = next }) last
      copying_end b e h last next w = (
        end_place due at r.done r.far b e h next,
        subst (λ (x : List ℕ). Put before last start next x) (sym (end_writes due at r.done r.far b e h)) (put_seq r.put w),
      )

      module _ (k m : ℕ) (e : (end_c end due).read s at ≡ bad k m) where
        pub copying_bad : (j q : ℕ) → (element_c kinds due).read s at ≡ bad j q → Copies (record { place = at; due = due; next = p }) after
        copying_bad j q h = (
          bad_place_lem due at r.done r.far k m e j q h p,
          subst (λ (x : List ℕ). Put before after start p x) (sym (bad_writes due at r.done r.far k m e j q h)) r.put,
        )

        pub copying_more : (a : Element) (q : ℕ) → (element_c kinds due).read s at ≡ got a q → (y : Entry) → y ≡ by_itself a → (last : List ℕ) (next : ℕ)
            → Put after last p next (write_element due (entry_of y)) → Copying kinds end s id at₀ before last start next (due + 1) q
        copying_more a q h y own last next v =
            let w = subst (λ (x : Element). Put after last p next (write_element due x)) (ap entry_of own ∙ own_entry kinds due a (M due s at a q h).good) v in
            record {
              done = r.done ++ (a ∷ []);
              far = far_more kinds end M s id at₀ due at r.done r.far k m a q e h;
              put = put_more id (element_c any_kinds) r.done a r.put (subst (λ (i : ℕ). Put after last p next (write_element i a)) r.far.count w);
            }

  -- ---- the loop that measures
  pub measuring_none : Measuring kinds end s id at₀ 0 id at₀
  measuring_none = record { done = []; far = far_none kinds end M s id at₀; long = refl; small = omega arith }

  abbrev Measures : Copied → Type 0
  Measures r = (r ≡ copied_as id Whole (length (write_on id end Whole))) × (r.next ≤ 32769000000)

  module _ (short : length s ≤ limit) (len due at : ℕ) (r : Measuring kinds end s id at₀ len due at) where
    -- what was measured, and one more, has room in the code's number
    pub measuring_small : len ≤ 32768000000
    measuring_small = omega (arith, r.small, r.far.passed.room)

    pub measuring_end : (last : End) (e : ℕ) → (end_c end due).read s at ≡ got last e → (n : ℕ) → n ≡ length ((end_c end due).write last) → n ≤ 1000000 → Measures (record { place = e; due = due; next = len + n })
    measuring_end last e h n w b =
        let l : len + n ≡ length (write_on id end Whole) =
        omega (arith, r.long, length-append (write_all id (element_c any_kinds) r.done) ((end_c end due).write last), ap length (end_writes due at r.done r.far last e h)) in
        (end_place due at r.done r.far last e h (len + n) ∙ ap (copied_as id Whole) l, omega (arith, measuring_small))

    module _ (k m : ℕ) (e : (end_c end due).read s at ≡ bad k m) where
      pub measuring_bad : (j q : ℕ) → (element_c kinds due).read s at ≡ bad j q → Measures (record { place = at; due = due; next = len })
      measuring_bad j q h = (
        bad_place_lem due at r.done r.far k m e j q h len ∙ ap (copied_as id Whole) (r.long ∙ sym (ap length (bad_writes due at r.done r.far k m e j q h))),
        omega (arith, measuring_small),
      )

      pub measuring_more : (a : Element) (q : ℕ) → (element_c kinds due).read s at ≡ got a q → (y : Entry) → y ≡ by_itself a → (n : ℕ) → n ≡ length (write_element due (entry_of y)) → n ≤ 1000000
          → Measuring kinds end s id at₀ (len + n) (due + 1) q
      measuring_more a q h y own n v b =
          let w = v ∙ ap (λ (x : Element). length (write_element due x)) (ap entry_of own ∙ own_entry kinds due a (M due s at a q h).good) in
          let all = write_all id (element_c any_kinds) r.done in
          let one : length (write_element due a) ≡ length (write_element (id + length r.done) a) = ap (λ (i : ℕ). length (write_element i a)) r.far.count in
          let more : length (write_all id (element_c any_kinds) (r.done ++ (a ∷ []))) ≡ length all + length (write_element (id + length r.done) a) =
          ap length (write_all_snoc id (element_c any_kinds) r.done a) ∙ length-append all (write_element (id + length r.done) a) in
          record {
            done = r.done ++ (a ∷ []);
            far = far_more kinds end M s id at₀ due at r.done r.far k m a q e h;
            long = omega (arith, r.long, more, one);
            small = omega (arith, r.small, length-append r.done (a ∷ []));
          }
