-- What a slice does that was taken.
use Rattle.std.proofs.Common.{◌≡◌, ℕ, zero, suc, ◌+◌, ◌<◌, ◌≤◌, ◌%◌, ◌^◌, nat_lt, Bool, true, false, ◌&&◌, ◌||◌, not, List, [], ◌∷◌, map, length, refl, sym, ap, ap₂, subst, ◌∙◌, arith}
use Rattle.std.proofs.lemmas.Bool.{lt-ltb}
use Rattle.sp_netlist.specs.Signals.{Signals}
use Rattle.sp_gates.specs.Tested.{is_on}
use Rattle.sp_core.specs.Elements.{row_major}
use Rattle.sp_core.specs.Scope.{Loop, group_values}
use Rattle.sp_counters.specs.declared.part.Counter.{Counter}
use Rattle.sp_counters.specs.Counting.{are_last, AllCount}
use Rattle.sp_counters.specs.Laws.{AreLoopsAt, steps_after, AreAtGroup}
use Rattle.sp_counters.proofs.Through.{run_through_groups}
use Rattle.sp_slices.specs.declared.part.Move.{Move}
use Rattle.sp_slices.specs.Slices.{all_ended, values_at}
use Rattle.sp_xfer.specs.declared.part.Moving.{Moving}
use Rattle.sp_xfer.specs.declared.part.Wires.{Wires}
use Rattle.sp_xfer.specs.Moving.{MovesSlice, moves_at, ends_at, wires_of, was}
use Rattle.sp_xfer_runs.specs.Laws.{has_word, is_final, word_count, StandsAt, SlicesMove, LoadsWrite}
use Rattle.sp_xfer_runs.proofs.Ended.{if_true, if_false, same_all, ended_is}

words_are : (s : Signals) (t : ℕ) (ns : List Counter) → values_at s ns t ≡ map (λ n. s.net t n.value) ns
words_are s t [] = refl
words_are s t (n ∷ ns) = ap (λ ws. s.net t n.value ∷ ws) (words_are s t ns)

and_true : (b : Bool) → (b && true) ≡ b
and_true true = refl
and_true false = refl

or_false : (b : Bool) → (b || false) ≡ b
or_false true = refl
or_false false = refl

module _ (s : Signals) (wires : Wires) (dims : List ℕ) (moves : List Move) (m : Moving) (loops : List Loop) (begun : ℕ) (h : MovesSlice s wires dims moves m) (taken : AreLoopsAt s begun m.walk.counters.counters.items loops) (started : is_on s wires.start begun ≡ true) where
  group : (cycles : ℕ) → ((t : ℕ) → begun < t → t ≤ begun + cycles → is_on s wires.start t ≡ false) → AreAtGroup s m.walk.counters m.walk.counted loops (steps_after (is_on s wires.ready) begun cycles) (begun + 1 + cycles)
  group cycles quiet =
      subst (λ step. AreAtGroup s m.walk.counters m.walk.counted loops (steps_after (is_on s step) begun cycles) (begun + 1 + cycles)) h.walks.step_is
      (run_through_groups s m.walk.counters m.walk.counted loops begun cycles h.walks.counts taken (ap (λ n. is_on s n begun) h.walks.start_is ∙ started) (λ t l k. ap (λ n. is_on s n t) h.walks.start_is ∙ quiet t l k))

  first_more : is_on s m.walk.counted.more (suc begun) ≡ has_word loops 0
  first_more = let e : suc begun ≡ begun + 1 + 0 = omega arith in ap (is_on s m.walk.counted.more) e ∙ (group 0 (λ t l k. absurd (omega (arith, l, k)))).more

  pub asks : is_on s wires.request (suc begun) ≡ has_word loops 0
  asks = h.request (suc begun) ∙ ap₂ (λ a b. a && b) started first_more

  pub empty : is_on s m.done (suc (suc begun)) ≡ (ends_at s wires.ready m.walk (suc begun) || not (has_word loops 0))
  empty = h.done (suc (suc begun)) ∙ ap₂ (λ a b. ends_at s wires.ready m.walk (suc begun) || (a && not b)) started first_more

  module _ (cycles : ℕ) (quiet : (t : ℕ) → begun < t → t ≤ begun + 1 + cycles → is_on s wires.start t ≡ false) where
    k : ℕ
    k = steps_after (is_on s wires.ready) begun cycles

    u : ℕ
    u = begun + 1 + cycles

    here : AreAtGroup s m.walk.counters m.walk.counted loops k u
    unfolding k u
    here = group cycles (λ t l p. quiet t l (omega (arith, p)))

    now_quiet : is_on s wires.start u ≡ false
    unfolding u
    now_quiet = quiet (begun + 1 + cycles) (omega arith) (omega arith)

    next : is_on s wires.ready u ≡ true → is_on s m.walk.counted.more (suc u) ≡ has_word loops (suc k)
    unfolding k u
    next e =
        let f : suc (begun + 1 + cycles) ≡ begun + 1 + suc cycles = omega arith in
        let g : begun + suc cycles ≡ begun + 1 + cycles = omega arith in
        let a = (group (suc cycles) (λ t l p. quiet t l (omega (arith, p)))).more in
        ap (is_on s m.walk.counted.more) f ∙ a
        ∙ ap (λ n. nat_lt n (length (group_values loops))) (if_true (is_on s wires.ready (begun + suc cycles)) _ _ (ap (is_on s wires.ready) g ∙ e))

    each_counts : AllCount s (is_on s wires.start) (is_on s m.walk.counters.step) m.walk.counters.counters.items m.walk.counted.counters.items
    each_counts = subst (λ start. AllCount s (is_on s start) (is_on s m.walk.counters.step) m.walk.counters.counters.items m.walk.counted.counters.items) h.walks.start_is h.walks.counts.each

    ended : all_ended s m.walk.counted.counters.items m.walk.axes.items u ≡ are_last s m.walk.counters.counters.items m.walk.counted.counters.items u
    unfolding u
    ended =
        let same = same_all s (is_on s wires.start) (is_on s m.walk.counters.step) begun started m.walk.counters.counters.items m.walk.counted.counters.items m.walk.axes.items
        each_counts h.walks.axes cycles (λ t l p. quiet t l (omega (arith, p))) in
        ended_is s (is_on s wires.start) (begun + 1 + cycles) moves m.walk.counters.counters.items m.walk.counted.counters.items m.walk.axes.items h.walks.bounds h.walks.axes same

    final : is_on s wires.ready u ≡ true → has_word loops k ≡ true → all_ended s m.walk.counted.counters.items m.walk.axes.items u ≡ is_final loops k
    final e f =
        let c = h.walks.counts.more u ∙ if_false (is_on s m.walk.counters.start u) _ _ (ap (λ n. is_on s n u) h.walks.start_is ∙ now_quiet) in
        let more : is_on s m.walk.counted.more u ≡ true = here.more ∙ f in
        let step : is_on s m.walk.counters.step u ≡ true = ap (λ n. is_on s n u) h.walks.step_is ∙ e in
        let d : is_on s m.walk.counted.more (suc u) ≡ not (are_last s m.walk.counters.counters.items m.walk.counted.counters.items u) = c ∙ ap₂ (λ a b. a && not (b && are_last s m.walk.counters.counters.items m.walk.counted.counters.items u)) more step in
        ended ∙ turned _ _ (sym d ∙ next e) ∙ sym (ap (λ b. b && not (has_word loops (suc k))) f)
      where
        turned : (a b : Bool) → not a ≡ b → a ≡ not b
        turned true b q = ap not q
        turned false b q = ap not q

    over : ends_at s wires.ready m.walk u ≡ (is_on s wires.ready u && is_final loops k)
    over = by_ready (is_on s wires.ready u) refl
      where
        by_word : is_on s wires.ready u ≡ true → (b : Bool) → has_word loops k ≡ b → (is_on s m.walk.counted.more u && all_ended s m.walk.counted.counters.items m.walk.axes.items u) ≡ is_final loops k
        by_word e true f = ap₂ (λ a b. a && b) (here.more ∙ f) (final e f)
        by_word e false f = ap (λ a. a && all_ended s m.walk.counted.counters.items m.walk.axes.items u) (here.more ∙ f) ∙ sym (ap (λ b. b && not (has_word loops (suc k))) f)

        by_ready : (b : Bool) → is_on s wires.ready u ≡ b → ((is_on s wires.ready u && is_on s m.walk.counted.more u) && all_ended s m.walk.counted.counters.items m.walk.axes.items u) ≡ (is_on s wires.ready u && is_final loops k)
        by_ready true e = ap (λ b. (b && is_on s m.walk.counted.more u) && all_ended s m.walk.counted.counters.items m.walk.axes.items u) e ∙ by_word e (has_word loops k) refl ∙ sym (ap (λ b. b && is_final loops k) e)
        by_ready false e = ap (λ b. (b && is_on s m.walk.counted.more u) && all_ended s m.walk.counted.counters.items m.walk.axes.items u) e ∙ sym (ap (λ b. b && is_final loops k) e)

    -- a slice with a word isn't done for want of one
    wanting : 0 < word_count loops → (was (is_on s wires.start) u && not (is_on s m.walk.counted.more u)) ≡ false
    unfolding k u
    wanting l = by cycles refl
      where
        none_left : (a b : Bool) → b ≡ true → (a && not b) ≡ false
        none_left true b e = ap not e
        none_left false b e = refl

        by : (n : ℕ) → cycles ≡ n → (was (is_on s wires.start) (begun + 1 + cycles) && not (is_on s m.walk.counted.more (begun + 1 + cycles))) ≡ false
        by zero e = none_left _ _ (ap (is_on s m.walk.counted.more) (let f : begun + 1 + cycles ≡ suc begun = omega (arith, e) in f) ∙ first_more ∙ lt-ltb 0 (word_count loops) l)
        by (suc n) e =
            let f : begun + 1 + cycles ≡ suc (begun + 1 + n) = omega (arith, e) in
            ap₂ (λ a b. a && not b) (ap (was (is_on s wires.start)) f ∙ quiet (begun + 1 + n) (omega arith) (omega (arith, e))) refl

    pub stands : StandsAt s wires dims m loops (steps_after (is_on s wires.ready) begun cycles) (begun + 1 + cycles)
    unfolding k u
    stands = record {
      moved = h.moved u ∙ ap (λ b. is_on s wires.ready u && b) here.more;
      address = λ l. h.address u ∙ ap (λ ws. row_major dims ws % 2 ^ 32) (words_are s u m.walk.counted.counters.items ∙ here.words l);
      last = λ e l. h.last u ∙ final e (lt-ltb k (word_count loops) l);
      done = λ l. h.done (suc u) ∙ ap (λ a. ends_at s wires.ready m.walk u || a) (wanting l) ∙ or_false (ends_at s wires.ready m.walk u) ∙ over;
      request = h.request (suc u) ∙ ap (λ a. a && is_on s m.walk.counted.more (suc u)) now_quiet;
    }

    pub written : moves_at s wires.ready m.walk (begun + 1 + cycles) ≡ (is_on s wires.ready (begun + 1 + cycles) && has_word loops (steps_after (is_on s wires.ready) begun cycles))
    unfolding k u
    written = ap (λ b. is_on s wires.ready u && b) here.more

pub slices_move : SlicesMove
slices_move = record {
  asks = λ s wires dims moves m loops begun h w. asks s wires dims moves m loops begun h w.loops_are w.started;
  empty = λ s wires dims moves m loops begun h w. empty s wires dims moves m loops begun h w.loops_are w.started;
  words = λ s wires dims moves m loops begun cycles h w. stands s wires dims moves m loops begun h w.loops_are w.started cycles w.quiet;
}

pub loads_write : LoadsWrite
loads_write s part nets loops begun cycles h w =
    let e : begun + 2 + cycles ≡ suc (begun + 1 + cycles) = omega arith in
    ap (is_on s nets.write) e ∙ h.writes (suc (begun + 1 + cycles)) ∙ written s (wires_of part) part.dims.items part.moves.items nets.moving loops begun h.moves w.loops_are w.started cycles w.quiet
