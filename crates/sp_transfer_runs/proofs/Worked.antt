-- The worked transfer, cycle by cycle.
use Rattle.std.proofs.Common.{◌≡◌, ℕ, zero, suc, ◌%◌, ◌<◌, ◌^◌, Bool, false, ◌&&◌, ◌||◌, not, if◌then◌else◌, List, [], ◌∷◌, slice_index, refl, sym, subst, subst₂, arith, lit<, lit≤}
use Rattle.std.specs.Global.{Vec}
use Rattle.sp_words.specs.Words.{wrap, value_of, has_sign, word_add, word_sub}
use Rattle.sp_words.specs.WholeNumbers.{modulo}
use Rattle.sp_gates.specs.Tested.{is_on}
use Rattle.sp_core.specs.Elements.{row_major}
use Rattle.sp_counters.specs.declared.part.Count.{Count}
use Rattle.sp_counters.specs.declared.part.Counter.{Counter}
use Rattle.sp_counters.specs.Counting.{AllCount, none, counted, have_values, are_last, lanes_of, is_below}
use Rattle.sp_slices.specs.declared.part.Axis.{Axis}
use Rattle.sp_slices.specs.declared.part.Move.{Move}
use Rattle.sp_slices.specs.declared.part.Move.TheVariants.{Range}
use Rattle.sp_slices.specs.Slices.{CountMoves, no_move, one_move, FollowAxes, no_axis, one_axis, all_ended, values_at, offsets_of, WalksSlice}
use Rattle.sp_xfer.specs.Ahead.{RunsStore, look_offsets}
use Rattle.sp_xfer.specs.Moving.{MovesSlice, RunsLoad, was, words_at}
use Rattle.sp_transfer_runs.specs.Worked.{wave_at, waves, HaveWalk, walk_of, moving_of, load_of, store_of, stored_of, WorkedTransfers}

-- the first cycles, and all others
cycles : (P : ℕ → Type 0) → P 0 → P 1 → P 2 → P 3 → P 4 → P 5 → P 6 → P 7 → ((t : ℕ) → P (suc (suc (suc (suc (suc (suc (suc (suc t))))))))) → (t : ℕ) → P t
cycles P a b c d e f g h i zero = a
cycles P a b c d e f g h i (suc zero) = b
cycles P a b c d e f g h i (suc (suc zero)) = c
cycles P a b c d e f g h i (suc (suc (suc zero))) = d
cycles P a b c d e f g h i (suc (suc (suc (suc zero)))) = e
cycles P a b c d e f g h i (suc (suc (suc (suc (suc zero))))) = f
cycles P a b c d e f g h i (suc (suc (suc (suc (suc (suc zero)))))) = g
cycles P a b c d e f g h i (suc (suc (suc (suc (suc (suc (suc zero))))))) = h
cycles P a b c d e f g h i (suc (suc (suc (suc (suc (suc (suc (suc t)))))))) = i t

abbrev the_count : Count
the_count = record { from = 5; until = 6; by = 1; par = 1 }

abbrev counter : ℕ → Counter
counter value = record { value = value; from = 7; until = 8 }

abbrev axis : ℕ → ℕ → Axis
axis ended offset = record { from = 7; until = 8; ended = ended; offset = offset }

abbrev step_of : ℕ → ℕ → Bool
step_of step t = is_on waves step t

-- what is said of a walk, by its lists
record Walks (step more last : ℕ) (moves : List Move) (cs : List Count) (ns : List Counter) (ms : List ℕ) (xs : List Axis) : Type 0 where
  each : AllCount waves (is_on waves 0) (is_on waves step) cs ns
  more_is : (t : ℕ) → is_on waves more (suc t) ≡ (if is_on waves 0 t then have_values waves cs t else is_on waves more t && not (is_on waves step t && are_last waves cs ns t))
  masks_are : (lane t : ℕ) → lane < lanes_of cs → is_on waves (slice_index ms lane) t ≡ is_below waves cs ns lane t
  bounds : CountMoves waves moves cs
  axes : FollowAxes waves (is_on waves 0) cs ns xs
  last_is : (t : ℕ) → is_on waves last t ≡ all_ended waves ns xs t

bounds_are : CountMoves waves (Range 5 6 ∷ []) (the_count ∷ [])
bounds_are = one_move (record { from = refl; until = λ t. refl; by = refl; par = refl }) no_move

moving_walk : Walks 1 10 3 (Range 5 6 ∷ []) (the_count ∷ []) (counter 4 ∷ []) (7 ∷ []) (axis 3 9 ∷ [])
unfolding wrap value_of has_sign modulo word_sub
moving_walk = record {
  each = counted (record {
    fits = cycles _ (lit< tt) (lit< tt) (lit< tt) (lit< tt) (lit< tt) (lit< tt) (lit< tt) (lit< tt) (λ t. lit< tt);
    from = cycles _ refl refl refl refl refl refl refl refl (λ t. refl);
    until = cycles _ refl refl refl refl refl refl refl refl (λ t. refl);
    value = cycles _ refl refl refl refl refl refl refl refl (λ t. refl);
  }) none;
  more_is = cycles _ refl refl refl refl refl refl refl refl (λ t. refl);
  masks_are = λ lane t l. masks lane l t;
  bounds = bounds_are;
  axes = one_axis (record {
    from = cycles _ refl refl refl refl refl refl refl refl (λ t. refl);
    until = cycles _ refl refl refl refl refl refl refl refl (λ t. refl);
    ended = cycles _ refl refl refl refl refl refl refl refl (λ t. refl);
    offset = cycles _ refl refl refl refl refl refl refl refl (λ t. refl);
  }) no_axis;
  last_is = cycles _ refl refl refl refl refl refl refl refl (λ t. refl);
}
  where
    masks : (lane : ℕ) → lane < 1 → (t : ℕ) → is_on waves (slice_index (7 ∷ []) lane) t ≡ is_below waves (the_count ∷ []) (counter 4 ∷ []) lane t
    masks zero l = cycles _ refl refl refl refl refl refl refl refl (λ t. refl)
    masks (suc lane) l = absurd (omega (arith, l))

walk_ahead : Walks 13 17 15 (Range 5 6 ∷ []) (the_count ∷ []) (counter 14 ∷ []) (7 ∷ []) (axis 15 16 ∷ [])
unfolding wrap value_of has_sign modulo word_sub
walk_ahead = record {
  each = counted (record {
    fits = cycles _ (lit< tt) (lit< tt) (lit< tt) (lit< tt) (lit< tt) (lit< tt) (lit< tt) (lit< tt) (λ t. lit< tt);
    from = cycles _ refl refl refl refl refl refl refl refl (λ t. refl);
    until = cycles _ refl refl refl refl refl refl refl refl (λ t. refl);
    value = cycles _ refl refl refl refl refl refl refl refl (λ t. refl);
  }) none;
  more_is = cycles _ refl refl refl refl refl refl refl refl (λ t. refl);
  masks_are = λ lane t l. masks lane l t;
  bounds = bounds_are;
  axes = one_axis (record {
    from = cycles _ refl refl refl refl refl refl refl refl (λ t. refl);
    until = cycles _ refl refl refl refl refl refl refl refl (λ t. refl);
    ended = cycles _ refl refl refl refl refl refl refl refl (λ t. refl);
    offset = cycles _ refl refl refl refl refl refl refl refl (λ t. refl);
  }) no_axis;
  last_is = cycles _ refl refl refl refl refl refl refl refl (λ t. refl);
}
  where
    masks : (lane : ℕ) → lane < 1 → (t : ℕ) → is_on waves (slice_index (7 ∷ []) lane) t ≡ is_below waves (the_count ∷ []) (counter 14 ∷ []) lane t
    masks zero l = cycles _ refl refl refl refl refl refl refl refl (λ t. refl)
    masks (suc lane) l = absurd (omega (arith, l))

-- in whichever vectors the lists stand
walks : (step more last value ended offset : ℕ) (moves : List Move) (counts : Vec Count) (counters : Vec Counter) (masks : Vec ℕ) (axes : Vec Axis) → moves ≡ Range 5 6 ∷ [] → HaveWalk value ended offset counts counters masks axes
    → Walks step more last (Range 5 6 ∷ []) (the_count ∷ []) (counter value ∷ []) (7 ∷ []) (axis ended offset ∷ []) → is_on waves more 0 ≡ false → WalksSlice waves 0 step moves (walk_of step more last counts counters masks axes)
walks step more last value ended offset moves counts counters masks axes e h w off =
    let v : Walks step more last moves counts.items counters.items masks.items axes.items =
    subst (λ l. Walks step more last l counts.items counters.items masks.items axes.items) (sym e)
    (subst (λ l. Walks step more last (Range 5 6 ∷ []) l counters.items masks.items axes.items) (sym h.counts_are)
    (subst (λ l. Walks step more last (Range 5 6 ∷ []) (the_count ∷ []) l masks.items axes.items) (sym h.counters_are)
    (subst (λ l. Walks step more last (Range 5 6 ∷ []) (the_count ∷ []) (counter value ∷ []) l axes.items) (sym h.masks_are)
    (subst (λ l. Walks step more last (Range 5 6 ∷ []) (the_count ∷ []) (counter value ∷ []) (7 ∷ []) l) (sym h.axes_are) w)))) in
    record { start_is = refl; step_is = refl; bounds = v.bounds; counts = record { each = v.each; none_first = off; more = v.more_is; masks = v.masks_are }; axes = v.axes; last = v.last_is }

-- what is read ahead
one_ahead : (t : ℕ) → words_at waves t (19 ∷ []) ≡ look_offsets waves 0 (Range 5 6 ∷ []) (axis 15 16 ∷ []) t
unfolding word_add wrap value_of has_sign modulo
one_ahead = cycles _ refl refl refl refl refl refl refl refl (λ t. refl)

-- the slice that moves
slice_moves : (dims : List ℕ) (moves : List Move) (counts : Vec Count) (counters : Vec Counter) (masks : Vec ℕ) (axes : Vec Axis) → dims ≡ 4 ∷ [] → moves ≡ Range 5 6 ∷ [] → HaveWalk 4 3 9 counts counters masks axes
    → MovesSlice waves (record { start = 0; ready = 1; request = 2; last = 3; address = 4 }) dims moves (moving_of counts counters masks axes)
unfolding value_of has_sign
slice_moves dims moves counts counters masks axes d e h = record {
  walks = walks 1 10 3 4 3 9 moves counts counters masks axes e h moving_walk refl;
  request = cycles _ refl refl refl refl refl refl refl refl (λ t. refl);
  bit = cycles (λ t. waves.net t 3 < 2) (lit< tt) (lit< tt) (lit< tt) (lit< tt) (lit< tt) (lit< tt) (lit< tt) (lit< tt) (λ t. lit< tt);
  last = subst₂ (λ ns xs. (t : ℕ) → is_on waves 3 t ≡ all_ended waves ns xs t) (sym h.counters_are) (sym h.axes_are) moving_walk.last_is;
  address = subst₂ (λ ds ns. (t : ℕ) → waves.net t 4 ≡ row_major ds (values_at waves ns t) % 2 ^ 32) (sym d) (sym h.counters_are) (cycles _ refl refl refl refl refl refl refl refl (λ t. refl));
  asks = cycles _ refl refl refl refl refl refl refl refl (λ t. refl);
  moved = cycles _ refl refl refl refl refl refl refl refl (λ t. refl);
  done = subst₂ (λ ns xs. (t : ℕ) → is_on waves 11 t ≡ was (λ u. ((is_on waves 1 u && is_on waves 10 u) && all_ended waves ns xs u) || (was (is_on waves 0) u && not (is_on waves 10 u))) t) (sym h.counters_are) (sym h.axes_are) over;
}
  where
    over : (t : ℕ) → is_on waves 11 t ≡ was (λ u. ((is_on waves 1 u && is_on waves 10 u) && all_ended waves (counter 4 ∷ []) (axis 3 9 ∷ []) u) || (was (is_on waves 0) u && not (is_on waves 10 u))) t
    over = cycles _ refl refl refl refl refl refl refl refl (λ t. refl)

loads : (dims : Vec ℕ) (moves : Vec Move) (counts : Vec Count) (counters : Vec Counter) (masks : Vec ℕ) (axes : Vec Axis) (indices : Vec ℕ) → dims.items ≡ 4 ∷ [] → moves.items ≡ Range 5 6 ∷ [] → HaveWalk 4 3 9 counts counters masks axes → indices.items ≡ 11 ∷ []
    → RunsLoad waves (load_of dims moves) (record { moving = moving_of counts counters masks axes; write = 12; indices = indices })
loads dims moves counts counters masks axes indices d e h i = record {
  moves = slice_moves dims.items moves.items counts counters masks axes d e h;
  writes = cycles _ refl refl refl refl refl refl refl refl (λ t. refl);
  indices = subst₂ (λ is os. (t : ℕ) → words_at waves (suc t) is ≡ words_at waves t os) (sym i) (subst₂ (λ ms xs. 9 ∷ [] ≡ offsets_of ms xs) (sym e) (sym h.axes_are) refl) (cycles _ refl refl refl refl refl refl refl refl (λ t. refl));
}

reads_ahead : (t : ℕ) → is_on waves 18 t ≡ ((is_on waves 0 t && have_values waves (the_count ∷ []) t) || (is_on waves 13 t && (is_on waves 17 t && not (is_on waves 15 t))))
unfolding wrap value_of has_sign modulo
reads_ahead = cycles _ refl refl refl refl refl refl refl refl (λ t. refl)

-- the word that was asked for last, which comes two cycles later
abbrev next : (cycle : ℕ) → ℕ
next t = wave_at (record { first = 0 ∷ 10 ∷ 11 ∷ 11 ∷ []; others = 0 }) t

stores : (dims : Vec ℕ) (moves : Vec Move) (counts : Vec Count) (counters : Vec Counter) (masks : Vec ℕ) (axes : Vec Axis) (counts' : Vec Count) (counters' : Vec Counter) (masks' : Vec ℕ) (axes' : Vec Axis) (indices : Vec ℕ) → dims.items ≡ 4 ∷ [] → moves.items ≡ Range 5 6 ∷ []
    → HaveWalk 4 3 9 counts counters masks axes → HaveWalk 14 15 16 counts' counters' masks' axes' → indices.items ≡ 19 ∷ []
    → RunsStore waves (store_of dims moves) (stored_of (moving_of counts counters masks axes) counts' counters' masks' axes' indices)
stores dims moves counts counters masks axes counts' counters' masks' axes' indices d e h h' i = record {
  moves = slice_moves dims.items moves.items counts counters masks axes d e h;
  steps = cycles _ refl refl refl refl refl refl refl refl (λ t. refl);
  looks = walks 13 17 15 14 15 16 moves.items counts' counters' masks' axes' e h' walk_ahead refl;
  reads = subst (λ cs. (t : ℕ) → is_on waves 18 t ≡ ((is_on waves 0 t && have_values waves cs t) || (is_on waves 13 t && (is_on waves 17 t && not (is_on waves 15 t))))) (sym h'.counts_are) reads_ahead;
  indices = subst (λ is. (t : ℕ) → words_at waves t is ≡ look_offsets waves 0 moves.items axes'.items t) (sym i) (subst₂ (λ ms xs. (t : ℕ) → words_at waves t (19 ∷ []) ≡ look_offsets waves 0 ms xs t) (sym e) (sym h'.axes_are) one_ahead);
  ahead = record { next = next; first = cycles _ refl refl refl refl refl refl refl refl (λ t. refl); second = cycles _ refl refl refl refl refl refl refl refl (λ t. refl) };
}

pub worked_transfers : WorkedTransfers
unfolding value_of has_sign wrap modulo word_add
worked_transfers = record {
  loads = loads;
  stores = stores;
  spans = (refl, refl, tt);
  slice = record { fits = ((lit< tt, lit< tt), tt); some = lit≤ tt; few = lit< tt; inside = λ e. refl };
  groups = refl;
  count = refl;
  second = refl;
  places = refl;
  moves = refl;
  looks = refl;
  took = refl;
  none = refl;
  first_delays = refl;
  second_delay = refl;
  apart = ((refl, tt), (tt, tt));
}
