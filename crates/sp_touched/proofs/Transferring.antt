-- Transfers, as steps whose events touch targets of their spots.
use Rattle.std.proofs.Common.{◌≡◌, ℕ, zero, suc, ◌+◌, ◌-◌, ◌≤◌, Bool, true, false, ◌&&◌, ◌||◌, List, [], ◌∷◌, ◌++◌, Some, None, refl, sym, ap, ◌∙◌, subst, arith, length-append, if◌then◌else◌}
use Rattle.std.proofs.lemmas.Bool.{and_parts, and_from, eqb-true, false≢true}
use Rattle.std.specs.List.{list_all, Contains}
use Rattle.std.specs.Prelude.{length, map, nat_lt, ◌==◌}
use Rattle.sp_words.specs.declared.kind.Kind.{Kind}
use Rattle.sp_words.specs.declared.kind.Kind.TheVariants.{Reg, Sram, Fifo, LineBuf, Dram, ArgIn, ArgOut}
use Rattle.sp_core.specs.Around.{Around, is_port_kind, is_usable}
use Rattle.sp_core.specs.Declarations.{mem, dram, kind_of, dims, dram_number, is_among}
use Rattle.sp_core.specs.Elements.{index_value, natural, numbers_below}
use Rattle.sp_core.specs.Events.{Standing, Moment, list_moments, spans_moments, loaded, stored, gather_moments, scatter_moments, picked_moments}
use Rattle.sp_core.specs.Forms.{form_at, are_known_indices, are_within, symbol_in, holds_of_slice}
use Rattle.sp_core.specs.History.{Entry, Taken, last_word, History, moved, picked}
use Rattle.sp_core.specs.NodeRules.{is_sram, is_line, is_slice_right, is_span_right, is_sram_here, fits_sram, fits_line, range_count, ends_in_range}
use Rattle.sp_core.specs.Numbered.{range_number}
use Rattle.sp_core.specs.OperationRules.{is_bound}
use Rattle.sp_core.specs.Operations.{operations}
use Rattle.sp_core.specs.PlainCore.{PlainOp, PlainSpan, single, range, PlainCore}
use Rattle.sp_core.specs.Replay.{after_all}
use Rattle.sp_core.specs.Scope.{Reading, Scope}
use Rattle.sp_core.specs.Sequential.{taken}
use Rattle.sp_core.specs.Step.{Step, went, pure, ◌>>=◌, ◌>>◌, ensure, in_order}
use Rattle.sp_core.specs.Store.{Store}
use Rattle.sp_core.specs.Transfers.{Part, index, between, part_of, lengths, has_none, are_parts_inside, do_fit, range_limits, load_words, store_words, transfer, load_slice, store_slice, gather_word, scatter_word}
use Rattle.sp_core.specs.Typed.{is_type}
use Rattle.sp_core.proofs.ReplayTransfers.{slice_loaded, slice_stored, words_gathered, words_scattered}
use Rattle.sp_fitting.specs.Fitting.{StoreFits}
use Rattle.sp_fitting.proofs.Rules.{IsSlice, bound_right}
use Rattle.sp_fitting.proofs.Transfers.{AreAlike, alike, all_gathered, all_scattered}
use Rattle.sp_fitting.proofs.Transfers as fitting
use Rattle.sp_forms_hold.specs.HoldLaws.{slice_of}
use Rattle.sp_forms_hold.proofs.HoldLists.{Known}
use Rattle.sp_hold.proofs.Orderly.{all_allowed}
use Rattle.sp_hold.proofs.Steps.{bound, was_pure, was_ensured}
use Rattle.sp_patterns.specs.Indices.{bound_form, slice_forms, length_up_to, range_lengths}
use Rattle.sp_patterns.specs.Patterns.{patterns_of}
use Rattle.sp_patterns.specs.Ranges.{PlainAround}
use Rattle.sp_forms_hold.specs.RunsLaws.{IsPlaced}
use Rattle.sp_forms_hold.specs.RunsStanding.{ListStands, SpansStand, TransferStands}
use Rattle.sp_meets.specs.Around.{PlainLevel}
use Rattle.sp_meets.specs.Sites.{counters_of}
use Rattle.sp_meets.specs.Spots.{are_ranges, slice_spot, pick_spot, list_spots, spans_spots, spots}
use Rattle.sp_deps.specs.Groups.{HaveLength}
use Rattle.sp_along.specs.AlongSymbols.{EachIn}
use Rattle.sp_touched.specs.Touched.{Touches}
use Rattle.sp_touched.proofs.Doing.{Did, did_both, Holds}
use Rattle.sp_touched.proofs.Lengths.{slice_have}
use Rattle.sp_touched.proofs.Lists.{IsAround, values_around}
use Rattle.sp_touched.proofs.Moved.{gave_parts, fit_up, loaded_sram, loaded_line, stored_sram}
use Rattle.sp_touched.proofs.OfSymbols.{RowHas, is_span_allowed, slice_symbols}
use Rattle.sp_touched.proofs.Picked.{all_gathered_there, all_scattered_there, gathers_each, scatters_each, picked_each}
use Rattle.sp_touched.proofs.SliceForms.{AreParts}
use Rattle.sp_touched.proofs.Slots.{AreUpTo}
use Rattle.sp_touched.proofs.Steps.{AreSpots, list_holds, spans_hold}

-- as many answers as there were elements
all_answered : {A B : Type 0} (step : A → Step B) (xs : List A) (s t : Store) (ys : List B) → in_order step xs s ≡ went ys t → length ys ≡ length xs
unfolding in_order
all_answered step [] s t ys e = ap length (sym (was_pure [] ys s t e).value)
all_answered step (x ∷ xs) s t ys e =
    let first = bound _ _ s ys t e in
    let second = bound _ _ first.middle ys t first.later in
    let end = was_pure (first.value ∷ second.value) ys second.middle t second.later in
    ap length (sym end.value) ∙ ap suc (all_answered step xs first.middle second.middle second.value second.first)

many_below : (n : ℕ) → length (numbers_below n) ≡ n
many_below zero = refl
many_below (suc n) = let rest = many_below n in length-append (numbers_below n) (n ∷ []) ∙ omega (arith, rest)

-- a transfer that goes on is inside of its DRAM, and its memory has room
there_and_fit : (core : PlainCore) (r m : ℕ) (ts : List Taken) (move : Step (List ℕ)) (u t : Store) (h : History) → transfer core r m ts move u ≡ went h t → has_none (lengths (map part_of ts)) ≡ false
    → (are_parts_inside (dims core (dram_number core r)) (map part_of ts) ≡ true) × (do_fit (range_limits (kind_of core m) (dims core m)) (lengths (map part_of ts)) ≡ true)
there_and_fit core r m ts move u t h e some = go (has_none (lengths (map part_of ts))) some e
  where
    go : (b : Bool) → b ≡ false
        → (elim b as (λ _. Step History) [ true ↦ pure (moved ts []) | false ↦ ensure (are_parts_inside (dims core (dram_number core r)) (map part_of ts)) >> (ensure (do_fit (range_limits (kind_of core m) (dims core m)) (lengths (map part_of ts))) >> (move >>= (λ ws. pure (moved ts ws)))) ]) u ≡ went h t
        → (are_parts_inside (dims core (dram_number core r)) (map part_of ts) ≡ true) × (do_fit (range_limits (kind_of core m) (dims core m)) (lengths (map part_of ts)) ≡ true)
    go true q e = absurd (false≢true (sym q))
    go false q e =
        let b = bound _ _ u h t e in
        let c = bound _ _ b.middle h t b.later in
        ((was_ensured (are_parts_inside (dims core (dram_number core r)) (map part_of ts)) b.value u b.middle b.first).0, (was_ensured (do_fit (range_limits (kind_of core m) (dims core m)) (lengths (map part_of ts))) c.value b.middle c.middle c.first).0)

-- what the rules say of memories
the_sram : (k : Kind) → is_sram k ≡ true → k ≡ Sram
the_sram Sram h = refl
the_sram Reg h = absurd (false≢true h)
the_sram Fifo h = absurd (false≢true h)
the_sram LineBuf h = absurd (false≢true h)
the_sram Dram h = absurd (false≢true h)
the_sram ArgIn h = absurd (false≢true h)
the_sram ArgOut h = absurd (false≢true h)

the_line : (k : Kind) → is_line k ≡ true → k ≡ LineBuf
the_line LineBuf h = refl
the_line Reg h = absurd (false≢true h)
the_line Fifo h = absurd (false≢true h)
the_line Sram h = absurd (false≢true h)
the_line Dram h = absurd (false≢true h)
the_line ArgIn h = absurd (false≢true h)
the_line ArgOut h = absurd (false≢true h)

there_kind : (core : PlainCore) (m : ℕ) → nat_lt m (length core.mems) ≡ true → kind_of core m ≡ (mem core m).kind
there_kind core m h = ap (λ b. if b then (mem core m).kind else Dram) h

there_dims : (core : PlainCore) (m : ℕ) → nat_lt m (length core.mems) ≡ true → dims core m ≡ (mem core m).dims
there_dims core m h = ap (λ b. if b then (mem core m).dims else (dram core (m - length core.mems)).dims) h

usable_there : (core : PlainCore) (outside : Around) (m : ℕ) → is_usable core outside m ≡ true → nat_lt m (length core.mems) ≡ true
usable_there core outside m e = (and_parts (nat_lt m (length core.mems)) (is_port_kind (mem core m).kind || is_among m outside.owned) e).0

pub record IsSram (core : PlainCore) (m count : ℕ) : Type 0 where
  pub kind : kind_of core m ≡ Sram
  pub ranges : count ≡ length (dims core m)

pub sram_here : (core : PlainCore) (outside : Around) (r m : ℕ) → is_sram_here core outside r m ≡ true → (kind_of core m ≡ Sram) × (dims core m ≡ (mem core m).dims)
sram_here core outside r m e =
    let a = and_parts (is_usable core outside m && is_sram (mem core m).kind) (is_type (mem core m).ty (dram core r).ty) e in
    let b = and_parts (is_usable core outside m) (is_sram (mem core m).kind) a.0 in
    let there = usable_there core outside m b.0 in
    (there_kind core m there ∙ the_sram (mem core m).kind b.1, there_dims core m there)

pub sram_right : (core : PlainCore) (outside : Around) (r m : ℕ) (spans : List PlainSpan) → fits_sram core outside r m spans ≡ true → IsSram core m (range_count spans)
sram_right core outside r m spans e =
    let a = and_parts (is_sram_here core outside r m) (range_count spans == length (mem core m).dims) e in
    let b = sram_here core outside r m a.0 in
    record { kind = b.0; ranges = eqb-true (range_count spans) (length (mem core m).dims) a.1 ∙ ap length (sym b.1) }

pub line_right : (core : PlainCore) (outside : Around) (r m : ℕ) (spans : List PlainSpan) → fits_line core outside r m spans ≡ true → kind_of core m ≡ LineBuf
line_right core outside r m spans e =
    let a = and_parts ((is_usable core outside m && is_line (mem core m).kind) && is_type (mem core m).ty (dram core r).ty) ((range_count spans == 1) && ends_in_range spans) e in
    let b = and_parts (is_usable core outside m && is_line (mem core m).kind) (is_type (mem core m).ty (dram core r).ty) a.0 in
    let c = and_parts (is_usable core outside m) (is_line (mem core m).kind) b.0 in
    there_kind core m (usable_there core outside m c.0) ∙ the_line (mem core m).kind c.1

pub places_kind : (core : PlainCore) (outside : Around) (p : ℕ) → (is_usable core outside p && is_sram (mem core p).kind) ≡ true → kind_of core p ≡ Sram
places_kind core outside p e =
    let a = and_parts (is_usable core outside p) (is_sram (mem core p).kind) e in
    there_kind core p (usable_there core outside p a.0) ∙ the_sram (mem core p).kind a.1

-- a slice has as many lengths as ranges
lengths_count : (spans : List PlainSpan) (parts : List Part) → AreParts (are_ranges spans) parts → length (lengths parts) ≡ range_count spans
lengths_count [] [] a = refl
lengths_count [] (p ∷ parts) a = absurd a
lengths_count (single ops ∷ spans) [] a = absurd a
lengths_count (range f u ∷ spans) [] a = absurd a
lengths_count (single ops ∷ spans) (between x y ∷ parts) a = absurd a
lengths_count (range f u ∷ spans) (index i ∷ parts) a = absurd a
lengths_count (single ops ∷ spans) (index i ∷ parts) a = lengths_count spans parts a
lengths_count (range f u ∷ spans) (between x y ∷ parts) a = let h = lengths_count spans parts a in omega (arith, h)

-- spans of a core name what they may
spans_allowed : (core : PlainCore) (outside : Around) (around : PlainAround) (spans : List PlainSpan) → list_all (is_span_right core outside) spans ≡ true → list_all (is_span_allowed core around) spans ≡ true
spans_allowed core outside around [] h = refl
spans_allowed core outside around (single ops ∷ spans) h =
    let a = and_parts (is_span_right core outside (single ops)) (list_all (is_span_right core outside) spans) h in
    and_from (is_span_allowed core around (single ops)) (list_all (is_span_allowed core around) spans) (all_allowed core outside ops [] (bound_right core outside ops a.0)) (spans_allowed core outside around spans a.1)
spans_allowed core outside around (range x y ∷ spans) h =
    let a = and_parts (is_span_right core outside (range x y)) (list_all (is_span_right core outside) spans) h in
    let b = and_parts (is_bound core outside x) (is_bound core outside y) a.0 in
    and_from (is_span_allowed core around (range x y)) (list_all (is_span_allowed core around) spans) (all_allowed core outside x [] (bound_right core outside x b.0)) (spans_allowed core outside around spans a.1)

module _ (core : PlainCore) (known : Known core) (outside : Around) (around : PlainAround) (scope : Scope) (st : Standing) (placed : IsPlaced scope around st.counters) (path : List PlainLevel) (is_around : IsAround path around) where
  module _ (reading : Reading) (most : ℕ) (r m : ℕ) (spans : List PlainSpan) (n at : ℕ) (right : is_slice_right core outside r spans ≡ true) (between : IsSlice core outside r m spans) (spans_stand : SpansStand core n around spans)
      (stands : TransferStands core at around (range_count spans) (slice_forms core.mems around spans) (range_lengths core.mems around spans)) (spotted : AreSpots core (spans_spots path n spans)) where
    abbrev Moved : (words : List Part → List ℕ → List Moment) → History → List Moment → Type 0
    Moved words h ms = (ts : List Taken) × (ws : List ℕ) × (h ≡ moved ts ws) × (ms ≡ spans_moments n st spans ts ++ words (map part_of ts) ws)

    row_is : form_at core (patterns_of core) at ≡ slice_forms core.mems around spans
    row_is = (known.parts.transfer at around (range_count spans) (slice_forms core.mems around spans) (range_lengths core.mems around spans) stands).form

    row_symbols : RowHas core (form_at core (patterns_of core) at)
    row_symbols = subst (RowHas core) (sym row_is) (slice_symbols core around spans (spans_allowed core outside around spans between.spans_right))

    row_length : HaveLength (length (counters_of path)) (form_at core (patterns_of core) at)
    row_length = subst (λ row. HaveLength (length (counters_of path)) row) (sym row_is) (subst (λ k. HaveLength k (slice_forms core.mems around spans)) is_around.size (slice_have core.mems around spans))

    spans_done : (s u : Store) (ts : List Taken) → (d : (ms : List Moment) × (ms ≡ spans_moments n st spans ts) × Did core ms s u) → Did core (spans_moments n st spans ts) s u
    spans_done s u ts d = subst (λ ms. Did core ms s u) d.1 d.2

    -- where the slice is inside of its DRAM it is at its forms
    slice_there : (s u t : Store) (ts : List Taken) (h : History) (move : Step (List ℕ)) → StoreFits core s → in_order (taken core reading most scope) spans s ≡ went ts u → transfer core r m ts move u ≡ went h t → has_none (lengths (map part_of ts)) ≡ false
        → holds_of_slice core (patterns_of core) (slice_of at st (map part_of ts)) u ≡ true
    slice_there s u t ts h move fits e later some =
        let slice = known.slices_hold reading most outside around scope at st r spans s u ts known.memories right stands placed fits e in
        subst (λ x. holds_of_slice core (patterns_of core) (slice_of at st (map part_of ts)) x ≡ true) (sym slice.left) (slice.holds some (there_and_fit core r m ts move u t h later some).0)

    fit_there : (ts : List Taken) → IsSram core m (range_count spans) → AreParts (are_ranges spans) (map part_of ts) → do_fit (range_limits (kind_of core m) (dims core m)) (lengths (map part_of ts)) ≡ true → AreUpTo (lengths (map part_of ts)) (dims core m)
    fit_there ts sram aligned fit = fit_up (dims core m) (lengths (map part_of ts)) (lengths_count spans (map part_of ts) aligned ∙ sram.ranges) (subst (λ k. do_fit (range_limits k (dims core m)) (lengths (map part_of ts)) ≡ true) sram.kind fit)

    -- what the words of a slice do
    abbrev WordsDo : (words : List Part → List ℕ → List Moment) → Step (List ℕ) → (List Taken) → Type 0
    WordsDo words move ts = (u t : Store) (h : History) → transfer core r m ts move u ≡ went h t → (has_none (lengths (map part_of ts)) ≡ false → holds_of_slice core (patterns_of core) (slice_of at st (map part_of ts)) u ≡ true) → AreParts (are_ranges spans) (map part_of ts) → (ws : List ℕ) → EachIn core (Touches core) u (words (map part_of ts) ws)

    pub sram_loaded : Contains (spots core) (slice_spot core path at true r m spans) → IsSram core m (range_count spans) → (ts : List Taken) → WordsDo (loaded core at st r m) (load_words core r m (map part_of ts)) ts
    sram_loaded has sram ts u t h e holds aligned ws =
        loaded_sram core st at path (values_around path around scope st.counters is_around placed) is_around.go_on r m spans (map part_of ts) u row_symbols row_length aligned
        (λ some. (there_and_fit core r m ts (load_words core r m (map part_of ts)) u t h e some).0) holds has sram.kind (λ some. fit_there ts sram aligned (there_and_fit core r m ts (load_words core r m (map part_of ts)) u t h e some).1) ws

    pub line_loaded : Contains (spots core) (slice_spot core path at true r m spans) → kind_of core m ≡ LineBuf → (ts : List Taken) → WordsDo (loaded core at st r m) (load_words core r m (map part_of ts)) ts
    line_loaded has line ts u t h e holds aligned ws =
        loaded_line core st at path (values_around path around scope st.counters is_around placed) is_around.go_on r m spans (map part_of ts) u row_symbols row_length aligned
        (λ some. (there_and_fit core r m ts (load_words core r m (map part_of ts)) u t h e some).0) holds has line ws

    pub sram_stored : Contains (spots core) (slice_spot core path at false r m spans) → IsSram core m (range_count spans) → (ts : List Taken) → WordsDo (stored core at st r m) (store_words core r m (map part_of ts)) ts
    sram_stored has sram ts u t h e holds aligned ws =
        stored_sram core st at path (values_around path around scope st.counters is_around placed) is_around.go_on r m spans (map part_of ts) u row_symbols row_length aligned
        (λ some. (there_and_fit core r m ts (store_words core r m (map part_of ts)) u t h e some).0) holds has sram.kind (λ some. fit_there ts sram aligned (there_and_fit core r m ts (store_words core r m (map part_of ts)) u t h e some).1) ws

    pub load_holds : ((ts : List Taken) → WordsDo (loaded core at st r m) (load_words core r m (map part_of ts)) ts) → Holds core (Moved (loaded core at st r m)) (in_order (taken core reading most scope) spans >>= load_slice core r m)
    load_holds words s t h fits e =
        let b = bound _ _ s h t e in
        let ts = b.value in
        let first = spans_done s b.middle ts (spans_hold core known outside around scope st placed path is_around reading most n spans between.spans_right spans_stand spotted s b.middle ts fits b.first) in
        let d = slice_loaded core at st r m ts b.middle t h b.later in
        let kept = fitting.slice_loaded core r m (alike core r m between.memory.there between.memory.same) ts b.middle t h first.fits b.later in
        let second : Did core (loaded core at st r m (map part_of ts) d.1.0) b.middle t = record {
          hold = words ts b.middle t h b.later (slice_there s b.middle t ts h (load_words core r m (map part_of ts)) fits b.first b.later) (gave_parts core reading most scope spans s b.middle ts b.first) d.1.0;
          after = ap (λ ms. after_all core ms b.middle) (sym d.1.2) ∙ d.3;
          fits = kept.0;
        } in
        (spans_moments n st spans ts ++ loaded core at st r m (map part_of ts) d.1.0, (ts, d.1.0, d.1.1, refl), did_both core (spans_moments n st spans ts) (loaded core at st r m (map part_of ts) d.1.0) s b.middle t first second)

    pub store_holds : ((ts : List Taken) → WordsDo (stored core at st r m) (store_words core r m (map part_of ts)) ts) → Holds core (Moved (stored core at st r m)) (in_order (taken core reading most scope) spans >>= store_slice core r m)
    store_holds words s t h fits e =
        let b = bound _ _ s h t e in
        let ts = b.value in
        let first = spans_done s b.middle ts (spans_hold core known outside around scope st placed path is_around reading most n spans between.spans_right spans_stand spotted s b.middle ts fits b.first) in
        let d = slice_stored core at st r m ts b.middle t h b.later in
        let kept = fitting.slice_stored core r m (alike core r m between.memory.there between.memory.same) ts b.middle t h first.fits b.later in
        let second : Did core (stored core at st r m (map part_of ts) d.1.0) b.middle t = record {
          hold = words ts b.middle t h b.later (slice_there s b.middle t ts h (store_words core r m (map part_of ts)) fits b.first b.later) (gave_parts core reading most scope spans s b.middle ts b.first) d.1.0;
          after = ap (λ ms. after_all core ms b.middle) (sym d.1.2) ∙ d.3;
          fits = kept.0;
        } in
        (spans_moments n st spans ts ++ stored core at st r m (map part_of ts) d.1.0, (ts, d.1.0, d.1.1, refl), did_both core (spans_moments n st spans ts) (stored core at st r m (map part_of ts) d.1.0) s b.middle t first second)

  module _ (r m p : ℕ) (same : AreAlike core r m) (count : List PlainOp) (n at : ℕ) (right : is_bound core outside count ≡ true) (list_stands : ListStands core n around count) (stands : TransferStands core at around 1 None (length_up_to (bound_form core.mems around count) ∷ []))
      (spotted : AreSpots core (list_spots path n count)) (sram : kind_of core m ≡ Sram) (places_sram : kind_of core p ≡ Sram) where
    abbrev Picked : (words : List (ℕ × ℕ) → List Moment) → History → List Moment → Type 0
    Picked words h ms = (es : List Entry) × (ws : List (ℕ × ℕ)) × (h ≡ picked es ws) × (ms ≡ list_moments n st count es ++ picked_moments core at st ws (words ws))

    count_within : (s u : Store) (es : List Entry) → StoreFits core s → operations core scope count s ≡ went es u → are_within core (patterns_of core) (range_number core at) (natural (index_value (last_word es)) ∷ []) ≡ true
    count_within s u es fits e =
        (and_parts (are_known_indices core (patterns_of core) (form_at core (patterns_of core) at) [] st.counters (symbol_in core (patterns_of core) u)) (are_within core (patterns_of core) (range_number core at) (natural (index_value (last_word es)) ∷ []))
        (known.counts_hold outside around scope at st count s u u es known.memories right stands placed fits e)).1

    no_more : (many k : ℕ) → k ≡ many → 0 + k ≤ many
    no_more many k e = omega (arith, e)

    pub gather_holds : Contains (spots core) (pick_spot core path at true r m (Some p)) → Holds core (Picked (gather_moments core at st r m p 0)) (operations core scope count >>= (λ es. in_order (gather_word core r m p) (numbers_below (natural (index_value (last_word es)))) >>= (λ ws. pure (picked es ws))))
    gather_holds has s t h fits e =
        let b = bound _ _ s h t e in
        let es = b.value in
        let c = bound _ _ b.middle h t b.later in
        let ws = c.value in
        let end = was_pure (picked es ws) h c.middle t c.later in
        let g = list_holds core known outside around scope st placed path is_around n count (bound_right core outside count right) list_stands spotted s b.middle es fits b.first in
        let first = subst (λ ms. Did core ms s b.middle) g.1 g.2 in
        let many : ℕ = natural (index_value (last_word es)) in
        let d = words_gathered core at st r m p many b.middle c.middle ws c.first in
        let kept = all_gathered core r m same p (numbers_below many) b.middle c.middle ws first.fits c.first in
        let answers : length ws ≡ many = all_answered (gather_word core r m p) (numbers_below many) b.middle c.middle ws c.first ∙ many_below many in
        let second : Did core (picked_moments core at st ws (gather_moments core at st r m p 0 ws)) b.middle c.middle = record {
          hold = picked_each core path st at (values_around path around scope st.counters is_around placed) is_around.go_on r m p many (count_within s b.middle es fits b.first) sram places_sram (all_gathered_there core r m p many b.middle c.middle ws c.first) ws (gather_moments core at st r m p 0 ws) b.middle
              (gathers_each core path st at (values_around path around scope st.counters is_around placed) is_around.go_on r m p many (count_within s b.middle es fits b.first) sram places_sram (all_gathered_there core r m p many b.middle c.middle ws c.first) has 0 ws (no_more many (length ws) answers));
          after = ap (λ ms. after_all core ms b.middle) (sym d.1) ∙ d.3;
          fits = kept.0;
        } in
        (list_moments n st count es ++ picked_moments core at st ws (gather_moments core at st r m p 0 ws), (es, ws, sym end.value, refl), subst (λ x. Did core (list_moments n st count es ++ picked_moments core at st ws (gather_moments core at st r m p 0 ws)) s x) end.store (did_both core (list_moments n st count es) (picked_moments core at st ws (gather_moments core at st r m p 0 ws)) s b.middle c.middle first second))

    pub scatter_holds : Contains (spots core) (pick_spot core path at false r m (Some p)) → Holds core (Picked (scatter_moments core at st r m p 0)) (operations core scope count >>= (λ es. in_order (scatter_word core r m p) (numbers_below (natural (index_value (last_word es)))) >>= (λ ws. pure (picked es ws))))
    scatter_holds has s t h fits e =
        let b = bound _ _ s h t e in
        let es = b.value in
        let c = bound _ _ b.middle h t b.later in
        let ws = c.value in
        let end = was_pure (picked es ws) h c.middle t c.later in
        let g = list_holds core known outside around scope st placed path is_around n count (bound_right core outside count right) list_stands spotted s b.middle es fits b.first in
        let first = subst (λ ms. Did core ms s b.middle) g.1 g.2 in
        let many : ℕ = natural (index_value (last_word es)) in
        let d = words_scattered core at st r m p many b.middle c.middle ws c.first in
        let kept = all_scattered core r m same p (numbers_below many) b.middle c.middle ws first.fits c.first in
        let answers : length ws ≡ many = all_answered (scatter_word core r m p) (numbers_below many) b.middle c.middle ws c.first ∙ many_below many in
        let second : Did core (picked_moments core at st ws (scatter_moments core at st r m p 0 ws)) b.middle c.middle = record {
          hold = picked_each core path st at (values_around path around scope st.counters is_around placed) is_around.go_on r m p many (count_within s b.middle es fits b.first) sram places_sram (all_scattered_there core r m p many b.middle c.middle ws c.first) ws (scatter_moments core at st r m p 0 ws) b.middle
              (scatters_each core path st at (values_around path around scope st.counters is_around placed) is_around.go_on r m p many (count_within s b.middle es fits b.first) sram places_sram (all_scattered_there core r m p many b.middle c.middle ws c.first) has 0 ws (no_more many (length ws) answers));
          after = ap (λ ms. after_all core ms b.middle) (sym d.1) ∙ d.3;
          fits = kept.0;
        } in
        (list_moments n st count es ++ picked_moments core at st ws (scatter_moments core at st r m p 0 ws), (es, ws, sym end.value, refl), subst (λ x. Did core (list_moments n st count es ++ picked_moments core at st ws (scatter_moments core at st r m p 0 ws)) s x) end.store (did_both core (list_moments n st count es) (picked_moments core at st ws (scatter_moments core at st r m p 0 ws)) s b.middle c.middle first second))
