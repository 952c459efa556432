-- Transfers, as steps.
use Rattle.std.proofs.Common.{◌≡◌, ℕ, zero, suc, Bool, true, false, List, [], ◌∷◌, ◌++◌, None, refl, sym, ap, ◌∙◌, subst, arith, length-append}
use Rattle.std.proofs.lemmas.Bool.{and_from, false≢true}
use Rattle.std.specs.Prelude.{length, map}
use Rattle.sp_words.specs.declared.kind.Kind.{Kind}
use Rattle.sp_words.specs.declared.kind.Kind.TheVariants.{Reg, Sram, Fifo, LineBuf, Dram, ArgIn, ArgOut}
use Rattle.sp_core.specs.Around.{Around}
use Rattle.sp_core.specs.Declarations.{kind_of, dims, dram_number}
use Rattle.sp_core.specs.Elements.{index_value, natural, numbers_below}
use Rattle.sp_core.specs.Events.{Act, reads, writes, turns, Standing, Slice, Moment, slices, list_moments, spans_moments, rows_turn, load_moments, store_moments, slice_moments, loaded, stored, gather_moments, scatter_moments, picked_moments}
use Rattle.sp_core.specs.Forms.{holds_of_event, holds_of_slice, hold_in}
use Rattle.sp_core.specs.History.{Entry, Taken, last_word, History, moved, picked}
use Rattle.sp_core.specs.NodeRules.{is_slice_right, range_count}
use Rattle.sp_core.specs.Numbered.{transfers, numbered}
use Rattle.sp_core.specs.OperationRules.{is_bound}
use Rattle.sp_core.specs.Operations.{operations}
use Rattle.sp_core.specs.PlainCore.{PlainOp, PlainSpan, PlainCore}
use Rattle.sp_core.specs.Replay.{after_moment, after_all}
use Rattle.sp_core.specs.Scope.{Reading, Scope}
use Rattle.sp_core.specs.Sequential.{taken}
use Rattle.sp_core.specs.Step.{Step, went, pure, ◌>>=◌, ◌>>◌, ensure, in_order}
use Rattle.sp_core.specs.Store.{Store}
use Rattle.sp_core.specs.Transfers.{Part, part_of, lengths, has_none, places_of, all_offsets, loaded_at, are_parts_inside, do_fit, range_limits, load_words, store_words, transfer, load_slice, store_slice, gather_word, scatter_word}
use Rattle.sp_core.proofs.Replays.{event}
use Rattle.sp_core.proofs.ReplayTransfers.{slice_loaded, slice_stored, words_gathered, words_scattered}
use Rattle.sp_fitting.specs.Fitting.{StoreFits}
use Rattle.sp_fitting.proofs.Rules.{IsSlice, bound_right}
use Rattle.sp_fitting.proofs.Transfers.{AreAlike, alike, all_gathered, all_scattered}
use Rattle.sp_fitting.proofs.Transfers as fitting
use Rattle.sp_hold.proofs.Steps.{bound, was_pure, was_ensured}
use Rattle.sp_patterns.specs.Indices.{bound_form, slice_forms, length_up_to, range_lengths}
use Rattle.sp_patterns.specs.Ranges.{PlainAround}
use Rattle.sp_forms_hold.specs.RunsLaws.{IsPlaced}
use Rattle.sp_forms_hold.specs.RunsStanding.{ListStands, SpansStand, TransferStands}
use Rattle.sp_forms_hold.specs.HoldLaws.{slice_of}
use Rattle.sp_forms_hold.proofs.HoldHolding.{forms, both_hold, Did, did_both, Holds}
use Rattle.sp_forms_hold.proofs.HoldLists.{Known, list_holds, spans_hold}

-- as many answers as there were elements
all_answered : {A B : Type 0} (step : A → Step B) (xs : List A) (s t : Store) (ys : List B) → in_order step xs s ≡ went ys t → length ys ≡ length xs
unfolding in_order
all_answered step [] s t ys e = ap length (sym (was_pure [] ys s t e).value)
all_answered step (x ∷ xs) s t ys e =
    let first = bound _ _ s ys t e in
    let second = bound _ _ first.middle ys t first.later in
    let end = was_pure (first.value ∷ second.value) ys second.middle t second.later in
    ap length (sym end.value) ∙ ap suc (all_answered step xs first.middle second.middle second.value second.first)

many_below : (n : ℕ) → length (numbers_below n) ≡ n
many_below zero = refl
many_below (suc n) = let rest = many_below n in length-append (numbers_below n) (n ∷ []) ∙ omega (arith, rest)

-- a transfer that goes on is inside of its DRAM
inside_there : (core : PlainCore) (r m : ℕ) (ts : List Taken) (move : Step (List ℕ)) (u t : Store) (h : History) → transfer core r m ts move u ≡ went h t → has_none (lengths (map part_of ts)) ≡ false → are_parts_inside (dims core (dram_number core r)) (map part_of ts) ≡ true
inside_there core r m ts move u t h e some = go (has_none (lengths (map part_of ts))) some e
  where
    go : (b : Bool) → b ≡ false
        → (elim b as (λ _. Step History) [ true ↦ pure (moved ts []) | false ↦ ensure (are_parts_inside (dims core (dram_number core r)) (map part_of ts)) >> (ensure (do_fit (range_limits (kind_of core m) (dims core m)) (lengths (map part_of ts))) >> (move >>= (λ ws. pure (moved ts ws)))) ]) u ≡ went h t
        → are_parts_inside (dims core (dram_number core r)) (map part_of ts) ≡ true
    go true q e = absurd (false≢true (sym q))
    go false q e = let b = bound _ _ u h t e in (was_ensured (are_parts_inside (dims core (dram_number core r)) (map part_of ts)) b.value u b.middle b.first).0

module _ (core : PlainCore) (n count : ℕ) (st : Standing) (numbered_so : numbered core n ≡ transfers count) where
  -- what a transfer touches isn't asked
  touch_holds : (m : ℕ) (is : List ℕ) (act : Act) (rest : List Moment) (s : Store) → ((u : Store) → hold_in core (forms core) u rest ≡ true) → hold_in core (forms core) s (event core n st m is act ∷ rest) ≡ true
  touch_holds m is act rest s h =
      and_from (holds_of_event core (forms core) (numbered core n) (record { number = n; standing = st; mem = m; indices = is; act = act }) s) (hold_in core (forms core) (after_moment core (event core n st m is act) s) rest)
      (ap (λ x. holds_of_event core (forms core) x (record { number = n; standing = st; mem = m; indices = is; act = act }) s) numbered_so) (h (after_moment core (event core n st m is act) s))

  turn_holds : (kind : Kind) (m : ℕ) (s : Store) → hold_in core (forms core) s (rows_turn core n st kind m) ≡ true
  turn_holds LineBuf m s = touch_holds m [] turns [] s (λ u. refl)
  turn_holds Reg m s = refl
  turn_holds Sram m s = refl
  turn_holds Fifo m s = refl
  turn_holds Dram m s = refl
  turn_holds ArgIn m s = refl
  turn_holds ArgOut m s = refl

  loads_hold : (r m : ℕ) (parts : List Part) (offsets : List (List ℕ)) (ws : List ℕ) (s : Store) → hold_in core (forms core) s (load_moments core n st r m parts offsets ws) ≡ true
  loads_hold r m parts [] ws s = refl
  loads_hold r m parts (o ∷ offsets) [] s = refl
  loads_hold r m parts (o ∷ offsets) (w ∷ ws) s =
      touch_holds (dram_number core r) (places_of parts o) (reads w) (event core n st m (loaded_at core (kind_of core m) m o) (writes w) ∷ load_moments core n st r m parts offsets ws) s
      (λ u. touch_holds m (loaded_at core (kind_of core m) m o) (writes w) (load_moments core n st r m parts offsets ws) u (λ v. loads_hold r m parts offsets ws v))

  stores_hold : (r m : ℕ) (parts : List Part) (offsets : List (List ℕ)) (ws : List ℕ) (s : Store) → hold_in core (forms core) s (store_moments core n st r m parts offsets ws) ≡ true
  stores_hold r m parts [] ws s = refl
  stores_hold r m parts (o ∷ offsets) [] s = refl
  stores_hold r m parts (o ∷ offsets) (w ∷ ws) s =
      touch_holds m o (reads w) (event core n st (dram_number core r) (places_of parts o) (writes w) ∷ store_moments core n st r m parts offsets ws) s
      (λ u. touch_holds (dram_number core r) (places_of parts o) (writes w) (store_moments core n st r m parts offsets ws) u (λ v. stores_hold r m parts offsets ws v))

  gathers_hold : (r m p k : ℕ) (ws : List (ℕ × ℕ)) (s : Store) → hold_in core (forms core) s (gather_moments core n st r m p k ws) ≡ true
  gathers_hold r m p k [] s = refl
  gathers_hold r m p k ((i, w) ∷ ws) s =
      let rest = gather_moments core n st r m p (suc k) ws in
      let put = event core n st m (k ∷ []) (writes w) ∷ rest in
      touch_holds p (k ∷ []) (reads i) (event core n st (dram_number core r) (natural (index_value i) ∷ []) (reads w) ∷ put) s
      (λ u. touch_holds (dram_number core r) (natural (index_value i) ∷ []) (reads w) put u (λ v. touch_holds m (k ∷ []) (writes w) rest v (λ x. gathers_hold r m p (suc k) ws x)))

  scatters_hold : (r m p k : ℕ) (ws : List (ℕ × ℕ)) (s : Store) → hold_in core (forms core) s (scatter_moments core n st r m p k ws) ≡ true
  scatters_hold r m p k [] s = refl
  scatters_hold r m p k ((i, w) ∷ ws) s =
      let rest = scatter_moments core n st r m p (suc k) ws in
      let put = event core n st (dram_number core r) (natural (index_value i) ∷ []) (writes w) ∷ rest in
      touch_holds p (k ∷ []) (reads i) (event core n st m (k ∷ []) (reads w) ∷ put) s
      (λ u. touch_holds m (k ∷ []) (reads w) put u (λ v. touch_holds (dram_number core r) (natural (index_value i) ∷ []) (writes w) rest v (λ x. scatters_hold r m p (suc k) ws x)))

  -- a slice, and then its words
  slice_moments_hold : (parts : List Part) (words : List Moment) (s : Store) → (has_none (lengths parts) ≡ false → holds_of_slice core (forms core) (slice_of n st parts) s ≡ true) → ((u : Store) → hold_in core (forms core) u words ≡ true)
      → hold_in core (forms core) s (slice_moments core n st parts words) ≡ true
  slice_moments_hold parts words s h k = go (has_none (lengths parts)) h
    where
      go : (b : Bool) → (b ≡ false → holds_of_slice core (forms core) (slice_of n st parts) s ≡ true) → hold_in core (forms core) s (elim b as (λ _. List Moment) [ true ↦ [] | false ↦ slices (slice_of n st parts) ∷ words ]) ≡ true
      go true h = refl
      go false h = and_from (holds_of_slice core (forms core) (slice_of n st parts) s) (hold_in core (forms core) s words) (h refl) (k s)

  loaded_holds : (r m : ℕ) (parts : List Part) (ws : List ℕ) (s : Store) → (has_none (lengths parts) ≡ false → holds_of_slice core (forms core) (slice_of n st parts) s ≡ true) → hold_in core (forms core) s (loaded core n st r m parts ws) ≡ true
  loaded_holds r m parts ws s h =
      slice_moments_hold parts (rows_turn core n st (kind_of core m) m ++ load_moments core n st r m parts (all_offsets parts) ws) s h
      (λ u. both_hold core (rows_turn core n st (kind_of core m) m) (load_moments core n st r m parts (all_offsets parts) ws) u (turn_holds (kind_of core m) m u)
      (loads_hold r m parts (all_offsets parts) ws (after_all core (rows_turn core n st (kind_of core m) m) u)))

  stored_holds : (r m : ℕ) (parts : List Part) (ws : List ℕ) (s : Store) → (has_none (lengths parts) ≡ false → holds_of_slice core (forms core) (slice_of n st parts) s ≡ true) → hold_in core (forms core) s (stored core n st r m parts ws) ≡ true
  stored_holds r m parts ws s h = slice_moments_hold parts (store_moments core n st r m parts (all_offsets parts) ws) s h (λ u. stores_hold r m parts (all_offsets parts) ws u)

  -- a count, and then its words
  picked_holds : (many : ℕ) (ws : List (ℕ × ℕ)) (words : List Moment) (s : Store) → length ws ≡ many → holds_of_slice core (forms core) (record { number = n; standing = st; firsts = []; lengths = many ∷ [] }) s ≡ true
      → ((u : Store) → hold_in core (forms core) u words ≡ true) → hold_in core (forms core) s (picked_moments core n st ws words) ≡ true
  picked_holds many [] words s e h k = refl
  picked_holds many (w ∷ ws) words s e h k =
      let slice : ℕ → Slice = λ l. record { number = n; standing = st; firsts = []; lengths = l ∷ [] } in
      and_from (holds_of_slice core (forms core) (slice (length (w ∷ ws))) s) (hold_in core (forms core) s words) (ap (λ l. holds_of_slice core (forms core) (slice l) s) e ∙ h) (k s)

module _ (core : PlainCore) (known : Known core) (outside : Around) (around : PlainAround) (scope : Scope) (st : Standing) (placed : IsPlaced scope around st.counters) where
  module _ (reading : Reading) (most : ℕ) (r m : ℕ) (spans : List PlainSpan) (n at : ℕ) (right : is_slice_right core outside r spans ≡ true) (between : IsSlice core outside r m spans) (spans_stand : SpansStand core n around spans)
      (stands : TransferStands core at around (range_count spans) (slice_forms core.mems around spans) (range_lengths core.mems around spans)) where
    abbrev Moved : (words : List Part → List ℕ → List Moment) → History → List Moment → Type 0
    Moved words h ms = (ts : List Taken) × (ws : List ℕ) × (h ≡ moved ts ws) × (ms ≡ spans_moments n st spans ts ++ words (map part_of ts) ws)

    is_numbered : numbered core at ≡ transfers (range_count spans)
    is_numbered = (known.parts.transfer at around (range_count spans) (slice_forms core.mems around spans) (range_lengths core.mems around spans) stands).number

    spans_done : (s u : Store) (ts : List Taken) → in_order (taken core reading most scope) spans s ≡ went ts u → (d : (ms : List Moment) × (ms ≡ spans_moments n st spans ts) × Did core ms s u) → Did core (spans_moments n st spans ts) s u
    spans_done s u ts e d = subst (λ ms. Did core ms s u) d.1 d.2

    -- where the slice is inside of its DRAM it is at its forms
    slice_there : (s u t : Store) (ts : List Taken) (h : History) (move : Step (List ℕ)) → StoreFits core s → in_order (taken core reading most scope) spans s ≡ went ts u → transfer core r m ts move u ≡ went h t → has_none (lengths (map part_of ts)) ≡ false
        → holds_of_slice core (forms core) (slice_of at st (map part_of ts)) u ≡ true
    slice_there s u t ts h move fits e later some =
        let slice = known.slices_hold reading most outside around scope at st r spans s u ts known.memories right stands placed fits e in
        subst (λ x. holds_of_slice core (forms core) (slice_of at st (map part_of ts)) x ≡ true) (sym slice.left) (slice.holds some (inside_there core r m ts move u t h later some))

    pub load_holds : Holds core (Moved (loaded core at st r m)) (in_order (taken core reading most scope) spans >>= load_slice core r m)
    load_holds s t h fits e =
        let b = bound _ _ s h t e in
        let ts = b.value in
        let first = spans_done s b.middle ts b.first (spans_hold core known outside around scope st placed reading most n spans between.spans_right spans_stand s b.middle ts fits b.first) in
        let d = slice_loaded core at st r m ts b.middle t h b.later in
        let kept = fitting.slice_loaded core r m (alike core r m between.memory.there between.memory.same) ts b.middle t h first.fits b.later in
        let second : Did core (loaded core at st r m (map part_of ts) d.1.0) b.middle t = record {
          hold = loaded_holds core at (range_count spans) st is_numbered r m (map part_of ts) d.1.0 b.middle (slice_there s b.middle t ts h (load_words core r m (map part_of ts)) fits b.first b.later);
          after = ap (λ ms. after_all core ms b.middle) (sym d.1.2) ∙ d.3;
          fits = kept.0;
        } in
        (spans_moments n st spans ts ++ loaded core at st r m (map part_of ts) d.1.0, (ts, d.1.0, d.1.1, refl), did_both core (spans_moments n st spans ts) (loaded core at st r m (map part_of ts) d.1.0) s b.middle t first second)

    pub store_holds : Holds core (Moved (stored core at st r m)) (in_order (taken core reading most scope) spans >>= store_slice core r m)
    store_holds s t h fits e =
        let b = bound _ _ s h t e in
        let ts = b.value in
        let first = spans_done s b.middle ts b.first (spans_hold core known outside around scope st placed reading most n spans between.spans_right spans_stand s b.middle ts fits b.first) in
        let d = slice_stored core at st r m ts b.middle t h b.later in
        let kept = fitting.slice_stored core r m (alike core r m between.memory.there between.memory.same) ts b.middle t h first.fits b.later in
        let second : Did core (stored core at st r m (map part_of ts) d.1.0) b.middle t = record {
          hold = stored_holds core at (range_count spans) st is_numbered r m (map part_of ts) d.1.0 b.middle (slice_there s b.middle t ts h (store_words core r m (map part_of ts)) fits b.first b.later);
          after = ap (λ ms. after_all core ms b.middle) (sym d.1.2) ∙ d.3;
          fits = kept.0;
        } in
        (spans_moments n st spans ts ++ stored core at st r m (map part_of ts) d.1.0, (ts, d.1.0, d.1.1, refl), did_both core (spans_moments n st spans ts) (stored core at st r m (map part_of ts) d.1.0) s b.middle t first second)

  module _ (r m p : ℕ) (same : AreAlike core r m) (count : List PlainOp) (n at : ℕ) (right : is_bound core outside count ≡ true) (list_stands : ListStands core n around count) (stands : TransferStands core at around 1 None (length_up_to (bound_form core.mems around count) ∷ [])) where
    abbrev Picked : (words : List (ℕ × ℕ) → List Moment) → History → List Moment → Type 0
    Picked words h ms = (es : List Entry) × (ws : List (ℕ × ℕ)) × (h ≡ picked es ws) × (ms ≡ list_moments n st count es ++ picked_moments core at st ws (words ws))

    one_count : numbered core at ≡ transfers 1
    one_count = (known.parts.transfer at around 1 None (length_up_to (bound_form core.mems around count) ∷ []) stands).number

    pub gather_holds : Holds core (Picked (gather_moments core at st r m p 0)) (operations core scope count >>= (λ es. in_order (gather_word core r m p) (numbers_below (natural (index_value (last_word es)))) >>= (λ ws. pure (picked es ws))))
    gather_holds s t h fits e =
        let b = bound _ _ s h t e in
        let es = b.value in
        let c = bound _ _ b.middle h t b.later in
        let ws = c.value in
        let end = was_pure (picked es ws) h c.middle t c.later in
        let g = list_holds core known outside around scope st placed n count (bound_right core outside count right) list_stands s b.middle es fits b.first in
        let first = subst (λ ms. Did core ms s b.middle) g.1 g.2 in
        let d = words_gathered core at st r m p (natural (index_value (last_word es))) b.middle c.middle ws c.first in
        let kept = all_gathered core r m same p (numbers_below (natural (index_value (last_word es)))) b.middle c.middle ws first.fits c.first in
        let many = all_answered (gather_word core r m p) (numbers_below (natural (index_value (last_word es)))) b.middle c.middle ws c.first ∙ many_below (natural (index_value (last_word es))) in
        let second : Did core (picked_moments core at st ws (gather_moments core at st r m p 0 ws)) b.middle c.middle = record {
          hold = picked_holds core at 1 st one_count (natural (index_value (last_word es))) ws (gather_moments core at st r m p 0 ws) b.middle many
              (known.counts_hold outside around scope at st count s b.middle b.middle es known.memories right stands placed fits b.first) (λ u. gathers_hold core at 1 st one_count r m p 0 ws u);
          after = ap (λ ms. after_all core ms b.middle) (sym d.1) ∙ d.3;
          fits = kept.0;
        } in
        (list_moments n st count es ++ picked_moments core at st ws (gather_moments core at st r m p 0 ws), (es, ws, sym end.value, refl), subst (λ x. Did core (list_moments n st count es ++ picked_moments core at st ws (gather_moments core at st r m p 0 ws)) s x) end.store (did_both core (list_moments n st count es) (picked_moments core at st ws (gather_moments core at st r m p 0 ws)) s b.middle c.middle first second))

    pub scatter_holds : Holds core (Picked (scatter_moments core at st r m p 0)) (operations core scope count >>= (λ es. in_order (scatter_word core r m p) (numbers_below (natural (index_value (last_word es)))) >>= (λ ws. pure (picked es ws))))
    scatter_holds s t h fits e =
        let b = bound _ _ s h t e in
        let es = b.value in
        let c = bound _ _ b.middle h t b.later in
        let ws = c.value in
        let end = was_pure (picked es ws) h c.middle t c.later in
        let g = list_holds core known outside around scope st placed n count (bound_right core outside count right) list_stands s b.middle es fits b.first in
        let first = subst (λ ms. Did core ms s b.middle) g.1 g.2 in
        let d = words_scattered core at st r m p (natural (index_value (last_word es))) b.middle c.middle ws c.first in
        let kept = all_scattered core r m same p (numbers_below (natural (index_value (last_word es)))) b.middle c.middle ws first.fits c.first in
        let many = all_answered (scatter_word core r m p) (numbers_below (natural (index_value (last_word es)))) b.middle c.middle ws c.first ∙ many_below (natural (index_value (last_word es))) in
        let second : Did core (picked_moments core at st ws (scatter_moments core at st r m p 0 ws)) b.middle c.middle = record {
          hold = picked_holds core at 1 st one_count (natural (index_value (last_word es))) ws (scatter_moments core at st r m p 0 ws) b.middle many
              (known.counts_hold outside around scope at st count s b.middle b.middle es known.memories right stands placed fits b.first) (λ u. scatters_hold core at 1 st one_count r m p 0 ws u);
          after = ap (λ ms. after_all core ms b.middle) (sym d.1) ∙ d.3;
          fits = kept.0;
        } in
        (list_moments n st count es ++ picked_moments core at st ws (scatter_moments core at st r m p 0 ws), (es, ws, sym end.value, refl), subst (λ x. Did core (list_moments n st count es ++ picked_moments core at st ws (scatter_moments core at st r m p 0 ws)) s x) end.store (did_both core (list_moments n st count es) (picked_moments core at st ws (scatter_moments core at st r m p 0 ws)) s b.middle c.middle first second))
