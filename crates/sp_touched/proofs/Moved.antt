-- The moments of transfers, one by one.
use Rattle.std.proofs.Common.{◌≡◌, ℕ, Bool, true, false, List, [], ◌∷◌, ◌++◌, length, map, refl, sym, ap, ◌∙◌, subst, arith}
use Rattle.std.specs.Prelude.{nat_le}
use Rattle.std.specs.List.{Contains}
use Rattle.std.proofs.lemmas.Bool.{and_parts, leb-true, false≢true}
use Rattle.sp_words.specs.declared.kind.Kind.{Kind}
use Rattle.sp_words.specs.declared.kind.Kind.TheVariants.{Reg, Sram, Fifo, LineBuf, Dram, ArgIn, ArgOut}
use Rattle.sp_core.specs.Declarations.{kind_of, dims, dram_number}
use Rattle.sp_core.specs.Events.{Act, reads, writes, turns, Standing, Event, Moment, touches, slices, rows_turn, load_moments, store_moments, slice_moments, loaded, stored}
use Rattle.sp_core.specs.Forms.{PlainForms, form_at, holds_of_slice}
use Rattle.sp_core.specs.History.{Taken, one, both}
use Rattle.sp_core.specs.PlainCore.{PlainSpan, single, range, PlainCore}
use Rattle.sp_core.specs.Replay.{after_moment, after_all}
use Rattle.sp_core.specs.Scope.{Reading, Scope}
use Rattle.sp_core.specs.Sequential.{taken}
use Rattle.sp_core.specs.Step.{went, in_order}
use Rattle.sp_core.specs.Store.{Store}
use Rattle.sp_core.specs.Transfers.{Part, part_of, lengths, has_none, are_parts_inside, do_fit, places_of, all_offsets, loaded_at}
use Rattle.sp_deps.specs.Groups.{HaveValues, HaveLength}
use Rattle.sp_forms_hold.specs.HoldLaws.{slice_of}
use Rattle.sp_hold.proofs.Steps.{bound, was_pure}
use Rattle.sp_patterns.specs.Patterns.{patterns_of}
use Rattle.sp_meets.specs.Around.{PlainLevel}
use Rattle.sp_meets.specs.Sites.{counters_of}
use Rattle.sp_meets.specs.Spots.{are_ranges, slice_spot, spots}
use Rattle.sp_along.specs.AlongSymbols.{holds_symbol, EachIn}
use Rattle.sp_touched.specs.Touched.{AreSteps, IsTouched, Touches}
use Rattle.sp_touched.proofs.OfSymbols.{RowHas}
use Rattle.sp_touched.proofs.SliceForms.{AreParts}
use Rattle.sp_touched.proofs.Slots.{AreBelow, AreUpTo}
use Rattle.sp_touched.proofs.Words.{Each, tuples_below, SameSymbols, touched_elsewhere, each_both, dram_kind, dram_touched, sram_touched, line_touched}

-- the parts that spans gave are as the spans
pub gave_parts : (core : PlainCore) (reading : Reading) (most : ℕ) (scope : Scope) (spans : List PlainSpan) (s t : Store) (ts : List Taken) → in_order (taken core reading most scope) spans s ≡ went ts t → AreParts (are_ranges spans) (map part_of ts)
unfolding in_order
gave_parts core reading most scope [] s t ts e = subst (λ xs. AreParts [] (map part_of xs)) (was_pure [] ts s t e).value tt
gave_parts core reading most scope (single ops ∷ spans) s t ts e =
    let first = bound _ _ s ts t e in
    let it = bound _ _ s first.value first.middle first.first in
    let is = was_pure (one it.value) first.value it.middle first.middle it.later in
    let second = bound _ _ first.middle ts t first.later in
    let end = was_pure (first.value ∷ second.value) ts second.middle t second.later in
    subst (λ xs. AreParts (false ∷ are_ranges spans) (map part_of xs)) end.value
    (subst (λ x. AreParts (false ∷ are_ranges spans) (part_of x ∷ map part_of second.value)) is.value (gave_parts core reading most scope spans first.middle second.middle second.value second.first))
gave_parts core reading most scope (range a b ∷ spans) s t ts e =
    let first = bound _ _ s ts t e in
    let it = bound _ _ s first.value first.middle first.first in
    let other = bound _ _ it.middle first.value first.middle it.later in
    let is = was_pure (both it.value other.value) first.value other.middle first.middle other.later in
    let second = bound _ _ first.middle ts t first.later in
    let end = was_pure (first.value ∷ second.value) ts second.middle t second.later in
    subst (λ xs. AreParts (true ∷ are_ranges spans) (map part_of xs)) end.value
    (subst (λ x. AreParts (true ∷ are_ranges spans) (part_of x ∷ map part_of second.value)) is.value (gave_parts core reading most scope spans first.middle second.middle second.value second.first))

-- lengths that fit dimensions, of which there are as many
pub fit_up : (ds ns : List ℕ) → length ns ≡ length ds → do_fit ds ns ≡ true → AreUpTo ns ds
fit_up [] [] e h = tt
fit_up [] (n ∷ ns) e h = absurd (omega (arith, e))
fit_up (d ∷ ds) [] e h = absurd (omega (arith, e))
fit_up (d ∷ ds) (n ∷ ns) e h = let a = and_parts (nat_le n d) (do_fit ds ns) h in (leb-true n d a.0, fit_up ds ns (omega (arith, e)) a.1)

module _ (core : PlainCore) (st : Standing) (n : ℕ) where
  abbrev pub forms : PlainForms
  forms = patterns_of core

  abbrev event_of : ℕ → List ℕ → Act → Event
  event_of k is act = record { number = n; standing = st; mem = k; indices = is; act = act }

  no_symbol : (k : Kind) (m : ℕ) → kind_of core m ≡ k → holds_symbol k ≡ false → holds_symbol (kind_of core m) ≡ false
  no_symbol k m e h = ap holds_symbol e ∙ h

  module _ (r m : ℕ) (parts : List Part) (s : Store) (not_symbol : holds_symbol (kind_of core m) ≡ false) where
    dram_not : holds_symbol (kind_of core (dram_number core r)) ≡ false
    dram_not = no_symbol Dram (dram_number core r) (dram_kind core r) refl

    abbrev Alike : Store → Type 0
    Alike u = SameSymbols core s u

    abbrev Touched : ℕ → List ℕ → Act → Type 0
    Touched k is act = (u : Store) → Alike u → IsTouched core u (event_of k is act)

    pub loads_each : ((o : List ℕ) → AreBelow (lengths parts) o → (w : ℕ) → Touched (dram_number core r) (places_of parts o) (reads w)) → ((o : List ℕ) → AreBelow (lengths parts) o → (w : ℕ) → Touched m (loaded_at core (kind_of core m) m o) (writes w)) →
        (offsets : List (List ℕ)) (ws : List ℕ) → Each (AreBelow (lengths parts)) offsets → (u : Store) → Alike u → EachIn core (Touches core) u (load_moments core n st r m parts offsets ws)
    loads_each f g [] ws b u same = tt
    loads_each f g (o ∷ offsets) [] b u same = tt
    loads_each f g (o ∷ offsets) (w ∷ ws) b u same =
        let first = event_of (dram_number core r) (places_of parts o) (reads w) in
        let second = event_of m (loaded_at core (kind_of core m) m o) (writes w) in
        let then : Alike (after_moment core (touches first) u) = touched_elsewhere core first s u dram_not same in
        (f o b.0 w u same, (g o b.0 w (after_moment core (touches first) u) then, loads_each f g offsets ws b.1 (after_moment core (touches second) (after_moment core (touches first) u)) (touched_elsewhere core second s (after_moment core (touches first) u) not_symbol then)))

    pub stores_each : ((o : List ℕ) → AreBelow (lengths parts) o → (w : ℕ) → Touched (dram_number core r) (places_of parts o) (writes w)) → ((o : List ℕ) → AreBelow (lengths parts) o → (w : ℕ) → Touched m o (reads w)) →
        (offsets : List (List ℕ)) (ws : List ℕ) → Each (AreBelow (lengths parts)) offsets → (u : Store) → Alike u → EachIn core (Touches core) u (store_moments core n st r m parts offsets ws)
    stores_each f g [] ws b u same = tt
    stores_each f g (o ∷ offsets) [] b u same = tt
    stores_each f g (o ∷ offsets) (w ∷ ws) b u same =
        let first = event_of m o (reads w) in
        let second = event_of (dram_number core r) (places_of parts o) (writes w) in
        let then : Alike (after_moment core (touches first) u) = touched_elsewhere core first s u not_symbol same in
        (g o b.0 w u same, (f o b.0 w (after_moment core (touches first) u) then, stores_each f g offsets ws b.1 (after_moment core (touches second) (after_moment core (touches first) u)) (touched_elsewhere core second s (after_moment core (touches first) u) dram_not then)))

    -- the rows of a line buffer
    pub rows_each : (kind : Kind) → (kind ≡ LineBuf → Touched m [] turns) → (u : Store) → Alike u → EachIn core (Touches core) u (rows_turn core n st kind m) × Alike (after_all core (rows_turn core n st kind m) u)
    rows_each LineBuf f u same = ((f refl u same, tt), touched_elsewhere core (event_of m [] turns) s u not_symbol same)
    rows_each Reg f u same = (tt, same)
    rows_each Sram f u same = (tt, same)
    rows_each Fifo f u same = (tt, same)
    rows_each Dram f u same = (tt, same)
    rows_each ArgIn f u same = (tt, same)
    rows_each ArgOut f u same = (tt, same)

  -- a slice, and then its words
  slice_each : (parts : List Part) (words : List Moment) (s : Store) → (has_none (lengths parts) ≡ false → EachIn core (Touches core) s words) → EachIn core (Touches core) s (slice_moments core n st parts words)
  slice_each parts words s h = go (has_none (lengths parts)) h
    where
      go : (b : Bool) → (b ≡ false → EachIn core (Touches core) s words) → EachIn core (Touches core) s (elim b as (λ _. List Moment) [ true ↦ [] | false ↦ slices (slice_of n st parts) ∷ words ])
      go true h = tt
      go false h = (tt, h refl)

  alike : (s : Store) → SameSymbols core s s
  alike s x h = refl

  module _ (path : List PlainLevel) (values : HaveValues (counters_of path) st.counters) (go_on : AreSteps (counters_of path)) (r m : ℕ) (spans : List PlainSpan) (parts : List Part) (s : Store) (row_symbols : RowHas core (form_at core forms n)) (row_length : HaveLength (length (counters_of path)) (form_at core forms n))
      (aligned : AreParts (are_ranges spans) parts) (there : has_none (lengths parts) ≡ false → are_parts_inside (dims core (dram_number core r)) parts ≡ true) (holds : has_none (lengths parts) ≡ false → holds_of_slice core forms (slice_of n st parts) s ≡ true) where
    -- an SRAM, which has room
    pub loaded_sram : Contains (spots core) (slice_spot core path n true r m spans) → kind_of core m ≡ Sram → (has_none (lengths parts) ≡ false → AreUpTo (lengths parts) (dims core m)) → (ws : List ℕ) → EachIn core (Touches core) s (loaded core n st r m parts ws)
    loaded_sram has sram fit ws =
        let not_symbol = no_symbol Sram m sram refl in
        slice_each parts (rows_turn core n st (kind_of core m) m ++ load_moments core n st r m parts (all_offsets parts) ws) s (λ some.
        let rows = rows_each r m parts s not_symbol (kind_of core m) (λ line. absurd (other (sym sram ∙ line))) s (alike s) in
        each_both core (rows_turn core n st (kind_of core m) m) (load_moments core n st r m parts (all_offsets parts) ws) s rows.0
        (loads_each r m parts s not_symbol
        (λ o b w u same. dram_touched core path st n values go_on true r m spans has parts s row_symbols row_length (holds some) aligned (there some) o b (reads w) (λ e. absurd (false≢true e)) u same)
        (λ o b w u same. subst (λ k. IsTouched core u (event_of m (loaded_at core k m o) (writes w))) (sym sram) (sram_touched core path st n values go_on true r m spans has parts s row_symbols row_length (holds some) aligned (there some) sram (fit some) o b (writes w) (λ e. refl) u))
        (all_offsets parts) ws (tuples_below (lengths parts)) (after_all core (rows_turn core n st (kind_of core m) m) s) rows.1))
      where
        other : Sram ≡ LineBuf → ⊥
        other e = cc

    pub loaded_line : Contains (spots core) (slice_spot core path n true r m spans) → kind_of core m ≡ LineBuf → (ws : List ℕ) → EachIn core (Touches core) s (loaded core n st r m parts ws)
    loaded_line has line ws =
        let not_symbol = no_symbol LineBuf m line refl in
        slice_each parts (rows_turn core n st (kind_of core m) m ++ load_moments core n st r m parts (all_offsets parts) ws) s (λ some.
        let rows = rows_each r m parts s not_symbol (kind_of core m) (λ e u same. line_touched core path st n values go_on true r m spans has parts s row_symbols row_length (holds some) aligned (there some) line [] turns (λ e. refl) u) s (alike s) in
        each_both core (rows_turn core n st (kind_of core m) m) (load_moments core n st r m parts (all_offsets parts) ws) s rows.0
        (loads_each r m parts s not_symbol
        (λ o b w u same. dram_touched core path st n values go_on true r m spans has parts s row_symbols row_length (holds some) aligned (there some) o b (reads w) (λ e. absurd (false≢true e)) u same)
        (λ o b w u same. line_touched core path st n values go_on true r m spans has parts s row_symbols row_length (holds some) aligned (there some) line (loaded_at core (kind_of core m) m o) (writes w) (λ e. refl) u)
        (all_offsets parts) ws (tuples_below (lengths parts)) (after_all core (rows_turn core n st (kind_of core m) m) s) rows.1))

    pub stored_sram : Contains (spots core) (slice_spot core path n false r m spans) → kind_of core m ≡ Sram → (has_none (lengths parts) ≡ false → AreUpTo (lengths parts) (dims core m)) → (ws : List ℕ) → EachIn core (Touches core) s (stored core n st r m parts ws)
    stored_sram has sram fit ws =
        let not_symbol = no_symbol Sram m sram refl in
        slice_each parts (store_moments core n st r m parts (all_offsets parts) ws) s (λ some.
        stores_each r m parts s not_symbol
        (λ o b w u same. dram_touched core path st n values go_on false r m spans has parts s row_symbols row_length (holds some) aligned (there some) o b (writes w) (λ e. refl) u same)
        (λ o b w u same. sram_touched core path st n values go_on false r m spans has parts s row_symbols row_length (holds some) aligned (there some) sram (fit some) o b (reads w) (λ e. absurd (false≢true e)) u)
        (all_offsets parts) ws (tuples_below (lengths parts)) s (alike s))
