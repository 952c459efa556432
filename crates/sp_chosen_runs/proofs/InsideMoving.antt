-- What a transfer reads and writes is inside.
use Rattle.std.proofs.Common.{◌≡◌, ℕ, suc, ◌-◌, ◌<◌, ◌≤◌, ◌⊎◌, inl, inr, Bool, true, false, pos, List, [], ◌∷◌, map, drop, length, arith, refl, sym, ◌∙◌, subst}
use Rattle.std.proofs.lemmas.Bool.{and_parts, and_from, eqb-true, leb-true, lt-ltb, true≢false, false≢true}
use Rattle.std.specs.Prelude.{◌==◌, ◌&&◌, nat_le, slice_index}
use Rattle.sp_words.specs.declared.kind.Kind.{Kind}
use Rattle.sp_words.specs.declared.kind.Kind.TheVariants as kinds
use Rattle.sp_core.specs.Around.{Around, is_usable}
use Rattle.sp_core.specs.Declarations.{mem, dram, dims, kind_of, dram_number}
use Rattle.sp_core.specs.Elements.{is_below, are_inside}
use Rattle.sp_core.specs.Events.{Standing, Moment, slices, first_of, rows_turn, load_moments, store_moments, slice_moments, loaded, stored}
use Rattle.sp_core.specs.History.{Taken, History, moved}
use Rattle.sp_core.specs.NodeRules.{range_count, ends_in_range, is_line, fits_sram, fits_line}
use Rattle.sp_core.specs.PlainCore.{PlainSpan, single, range, PlainCore}
use Rattle.sp_core.specs.Step.{Step, pure, ◌>>=◌, ◌>>◌, ensure}
use Rattle.sp_core.specs.Transfers.{Part, index, between, part_of, lengths, has_none, are_parts_inside, do_fit, range_limits, all_offsets, loaded_at, transfer}
use Rattle.sp_core.specs.Typed.{is_type}
use Rattle.sp_meets.specs.Spots.{are_ranges}
use Rattle.sp_machine.proofs.CountedRuns.{Gives, gives_pure, gives_after}
use Rattle.sp_contents.specs.Held.{AreLines}
use Rattle.sp_touched.proofs.Moved.{fit_up}
use Rattle.sp_touched.proofs.SliceForms.{AreParts, places_inside, offsets_inside}
use Rattle.sp_touched.proofs.Slots.{AreBelow}
use Rattle.sp_touched.proofs.Transferring.{IsSram, sram_right, line_right}
use Rattle.sp_touched.proofs.Words.{Each as EachOffset, tuples_below}
use Rattle.sp_chosen_runs.proofs.InsideGiven.{gives_test}
use Rattle.sp_chosen_runs.proofs.InsideListed.{AllInside, inside_append}

-- a slice has as many lengths as ranges
lengths_count : (spans : List PlainSpan) (parts : List Part) → AreParts (are_ranges spans) parts → length (lengths parts) ≡ range_count spans
lengths_count [] [] a = refl
lengths_count [] (p ∷ parts) a = absurd a
lengths_count (single ops ∷ spans) [] a = absurd a
lengths_count (range f u ∷ spans) [] a = absurd a
lengths_count (single ops ∷ spans) (between x y ∷ parts) a = absurd a
lengths_count (range f u ∷ spans) (index i ∷ parts) a = absurd a
lengths_count (single ops ∷ spans) (index i ∷ parts) a = lengths_count spans parts a
lengths_count (range f u ∷ spans) (between x y ∷ parts) a = let h = lengths_count spans parts a in omega (arith, h)

module _ (core : PlainCore) where
  -- what is known of a slice that is taken
  pub record IsTaken (r m : ℕ) (spans : List PlainSpan) (ts : List Taken) : Type 0 where
    pub parts : AreParts (are_ranges spans) (map part_of ts)
    pub there : has_none (lengths (map part_of ts)) ≡ false → are_parts_inside (dims core (dram_number core r)) (map part_of ts) ≡ true
    pub fit : has_none (lengths (map part_of ts)) ≡ false → do_fit (range_limits (kind_of core m) (dims core m)) (lengths (map part_of ts)) ≡ true

  -- a transfer gives it
  abbrev pub MovedAs : (P : List Taken → Type 0) → History → Type 0
  MovedAs P (moved ts ws) = P ts
  MovedAs P h = Unit {0}

  pub transfer_given : (r m : ℕ) (spans : List PlainSpan) (ts : List Taken) (move : Step (List ℕ)) (P : List Taken → Type 0) → AreParts (are_ranges spans) (map part_of ts) → (IsTaken r m spans ts → P ts) → Gives (MovedAs P) (transfer core r m ts move)
  transfer_given r m spans ts move P parts known = go (has_none (lengths (map part_of ts))) refl
    where
      go : (b : Bool) → has_none (lengths (map part_of ts)) ≡ b → Gives (MovedAs P) (elim b as (λ _. Step History) [
        | true ↦ pure (moved ts [])
        | false ↦ ensure (are_parts_inside (dims core (dram_number core r)) (map part_of ts)) >> (ensure (do_fit (range_limits (kind_of core m) (dims core m)) (lengths (map part_of ts))) >> (move >>= (λ ws. pure (moved ts ws))))
      ])
      go true e = gives_pure _ (moved ts []) (known (record { parts = parts; there = λ q. absurd (true≢false (sym e ∙ q)); fit = λ q. absurd (true≢false (sym e ∙ q)) }))
      go false e = gives_test _ _ _ (λ inside. gives_test _ _ _ (λ fits. gives_after _ _ _ (λ ws. gives_pure _ (moved ts ws) (known (record { parts = parts; there = λ q. inside; fit = λ q. fits })))))

  -- the elements of the memory
  module _ (m : ℕ) (parts : List Part) where
    abbrev InMemory : Type 0
    InMemory = (o : List ℕ) → AreBelow (lengths parts) o → are_inside (dims core m) (map pos (loaded_at core (kind_of core m) m o)) ≡ true

    sram_elements : (spans : List PlainSpan) → IsSram core m (range_count spans) → AreParts (are_ranges spans) parts → do_fit (range_limits (kind_of core m) (dims core m)) (lengths parts) ≡ true → (o : List ℕ) → AreBelow (lengths parts) o → are_inside (dims core m) (map pos o) ≡ true
    sram_elements spans sram a fit o l =
        offsets_inside (dims core m) (lengths parts) o
        (fit_up (dims core m) (lengths parts) (lengths_count spans parts a ∙ sram.ranges) (subst (λ k. do_fit (range_limits k (dims core m)) (lengths parts) ≡ true) sram.kind fit)) l

    sram_loaded : (spans : List PlainSpan) → IsSram core m (range_count spans) → AreParts (are_ranges spans) parts → do_fit (range_limits (kind_of core m) (dims core m)) (lengths parts) ≡ true → InMemory
    sram_loaded spans sram a fit o l = subst (λ k. are_inside (dims core m) (map pos (loaded_at core k m o)) ≡ true) (sym sram.kind) (sram_elements spans sram a fit o l)

    -- of a line buffer: the newest row, and a column
    line_elements : (r n : ℕ) (ds ns o : List ℕ) → ds ≡ suc r ∷ n ∷ [] → length ns ≡ 1 → do_fit (drop 1 ds) ns ≡ true → AreBelow ns o → are_inside ds (map pos ((slice_index ds 0 - 1) ∷ slice_index o 0 ∷ [])) ≡ true
    line_elements r n ds ns o e one fit l = subst (λ z. are_inside z (map pos ((slice_index z 0 - 1) ∷ slice_index o 0 ∷ [])) ≡ true) (sym e) (go ns o one (subst (λ z. do_fit (drop 1 z) ns ≡ true) e fit) l)
      where
        go : (ns o : List ℕ) → length ns ≡ 1 → do_fit (n ∷ []) ns ≡ true → AreBelow ns o → (is_below (pos (suc r - 1)) (suc r) && (is_below (pos (slice_index o 0)) n && true)) ≡ true
        go [] o one fit l = absurd (omega (arith, one))
        go (k ∷ ns) [] one fit l = absurd l
        go (k ∷ ns) (x ∷ o) one fit l =
            let q : k ≤ n = leb-true k n (and_parts (nat_le k n) (do_fit [] ns) fit).0 in
            let x_below : x < k = l.0 in
            and_from (is_below (pos (suc r - 1)) (suc r)) (is_below (pos x) n && true) (lt-ltb (suc r - 1) (suc r) (omega arith)) (and_from (is_below (pos x) n) true (lt-ltb x n (omega arith)) refl)

    line_loaded : AreLines core → kind_of core m ≡ kinds.LineBuf → length (lengths parts) ≡ 1 → do_fit (range_limits (kind_of core m) (dims core m)) (lengths parts) ≡ true → InMemory
    line_loaded lines line one fit o l =
        let shape = lines m line in
        subst (λ k. are_inside (dims core m) (map pos (loaded_at core k m o)) ≡ true) (sym line)
        (line_elements shape.0 shape.1 (dims core m) (lengths parts) o shape.2 one (subst (λ k. do_fit (range_limits k (dims core m)) (lengths parts) ≡ true) line fit) l)

  -- the words of a transfer
  module _ (n : ℕ) (st : Standing) (r m : ℕ) (parts : List Part) where
    slice_inside : (ms : List Moment) → (has_none (lengths parts) ≡ false → AllInside core ms) → AllInside core (slice_moments core n st parts ms)
    slice_inside ms h = go (has_none (lengths parts)) refl
      where
        asked : Moment
        asked = slices (record { number = n; standing = st; firsts = map first_of parts; lengths = lengths parts })

        go : (b : Bool) → has_none (lengths parts) ≡ b → AllInside core (elim b as (λ _. List Moment) [ true ↦ [] | false ↦ asked ∷ ms ])
        go true e = tt
        go false e = (tt, h e)

    loads_inside : are_parts_inside (dims core (dram_number core r)) parts ≡ true → InMemory m parts → (offsets : List (List ℕ)) → EachOffset (AreBelow (lengths parts)) offsets → (words : List ℕ) → AllInside core (load_moments core n st r m parts offsets words)
    loads_inside there memory [] below words = tt
    loads_inside there memory (o ∷ offsets) below [] = tt
    loads_inside there memory (o ∷ offsets) below (w ∷ words) =
        ((λ x. places_inside (dims core (dram_number core r)) parts o there below.0), ((λ x. memory o below.0), loads_inside there memory offsets below.1 words))

    stores_inside : are_parts_inside (dims core (dram_number core r)) parts ≡ true → ((o : List ℕ) → AreBelow (lengths parts) o → are_inside (dims core m) (map pos o) ≡ true) → (offsets : List (List ℕ)) → EachOffset (AreBelow (lengths parts)) offsets → (words : List ℕ) → AllInside core (store_moments core n st r m parts offsets words)
    stores_inside there memory [] below words = tt
    stores_inside there memory (o ∷ offsets) below [] = tt
    stores_inside there memory (o ∷ offsets) below (w ∷ words) =
        ((λ x. memory o below.0), ((λ x. places_inside (dims core (dram_number core r)) parts o there below.0), stores_inside there memory offsets below.1 words))

    turn_inside : (kd : Kind) → AllInside core (rows_turn core n st kd m)
    turn_inside kinds.LineBuf = ((λ x. absurd (false≢true x)), tt)
    turn_inside kd = tt

    load_inside : (has_none (lengths parts) ≡ false → are_parts_inside (dims core (dram_number core r)) parts ≡ true) → (has_none (lengths parts) ≡ false → InMemory m parts) → (words : List ℕ) → AllInside core (loaded core n st r m parts words)
    load_inside there memory words =
        slice_inside _ (λ some. inside_append core (rows_turn core n st (kind_of core m) m) (load_moments core n st r m parts (all_offsets parts) words) (turn_inside (kind_of core m))
        (loads_inside (there some) (memory some) (all_offsets parts) (tuples_below (lengths parts)) words))

    store_inside : (has_none (lengths parts) ≡ false → are_parts_inside (dims core (dram_number core r)) parts ≡ true) → (has_none (lengths parts) ≡ false → (o : List ℕ) → AreBelow (lengths parts) o → are_inside (dims core m) (map pos o) ≡ true) → (words : List ℕ) → AllInside core (stored core n st r m parts words)
    store_inside there memory words = slice_inside _ (λ some. stores_inside (there some) (memory some) (all_offsets parts) (tuples_below (lengths parts)) words)

  -- by the rules of cores
  pub loaded_inside : AreLines core → (around : Around) (r m : ℕ) (spans : List PlainSpan) → (fits_sram core around r m spans ≡ true) ⊎ (fits_line core around r m spans ≡ true) → (n : ℕ) (st : Standing) (ts : List Taken) → IsTaken r m spans ts → (words : List ℕ) → AllInside core (loaded core n st r m (map part_of ts) words)
  loaded_inside lines around r m spans (inl e) n st ts h words =
      load_inside n st r m (map part_of ts) h.there (λ some. sram_loaded m (map part_of ts) spans (sram_right core around r m spans e) h.parts (h.fit some)) words
  loaded_inside lines around r m spans (inr e) n st ts h words =
      let one : range_count spans ≡ 1 = eqb-true _ _ (and_parts (range_count spans == 1) (ends_in_range spans) (and_parts ((is_usable core around m && is_line (mem core m).kind) && is_type (mem core m).ty (dram core r).ty) ((range_count spans == 1) && ends_in_range spans) e).1).0 in
      load_inside n st r m (map part_of ts) h.there (λ some. line_loaded m (map part_of ts) lines (line_right core around r m spans e) (lengths_count spans (map part_of ts) h.parts ∙ one) (h.fit some)) words

  pub stored_inside : (around : Around) (r m : ℕ) (spans : List PlainSpan) → fits_sram core around r m spans ≡ true → (n : ℕ) (st : Standing) (ts : List Taken) → IsTaken r m spans ts → (words : List ℕ) → AllInside core (stored core n st r m (map part_of ts) words)
  stored_inside around r m spans e n st ts h words =
      store_inside n st r m (map part_of ts) h.there (λ some. sram_elements m (map part_of ts) spans (sram_right core around r m spans e) h.parts (h.fit some)) words
