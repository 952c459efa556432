-- What a walk through a slice that was taken stands at, and what moves.
use Rattle.std.proofs.Common.{◌≡◌, ℕ, zero, suc, ◌+◌, ◌*◌, ◌%◌, ◌<◌, ◌≤◌, ◌^◌, Bool, true, false, ◌&&◌, ◌||◌, not, nat_lt, pos, ◌+ℤ◌, List, [], ◌∷◌, map, length, slice_index_or, refl, sym, ap, ap₂, subst, ◌∙◌, arith, mod-eq_of_lt, if◌then◌else◌}
use Rattle.std.specs.Prelude.{drop}
use Rattle.std.proofs.lemmas.Bool.{lt-ltb}
use Rattle.sp_words.specs.Types.{int_type}
use Rattle.sp_words.specs.Words.{wrap, word_add}
use Rattle.sp_words.proofs.LawLemmas.{wrap-lt, wrap-of-value}
use Rattle.sp_netlist.specs.Signals.{Signals}
use Rattle.sp_gates.specs.Tested.{is_on}
use Rattle.sp_core.specs.Elements.{index_value, natural, row_major}
use Rattle.sp_core.specs.History.{Taken, one, both, last_word}
use Rattle.sp_core.specs.Transfers.{part_of, lengths, is_part_inside, are_parts_inside, places_of}
use Rattle.sp_time.specs.Lists.{Each}
use Rattle.sp_counters.specs.declared.part.Count.{Count}
use Rattle.sp_counters.specs.declared.part.Counter.{Counter}
use Rattle.sp_counters.specs.Counting.{number}
use Rattle.sp_counters.specs.Laws.{AreLoopsAt, no_loop, one_loop, steps_after, AreAtGroup, CountersRunThroughGroups}
use Rattle.sp_slices.specs.declared.part.Axis.{Axis}
use Rattle.sp_slices.specs.declared.part.Walk.{Walk}
use Rattle.sp_slices.specs.Slices.{CountMoves, no_move, one_move, FollowAxes, no_axis, one_axis, WalksSlice, values_at, offsets_of}
use Rattle.sp_xfer.specs.declared.part.Moving.{Moving}
use Rattle.sp_xfer.specs.declared.part.Wires.{Wires}
use Rattle.sp_xfer.specs.Moving.{MovesSlice, ends_at, words_at}
use Rattle.sp_xfer_runs.specs.Laws.{word_count as loop_count, WasTaken, StandsAt, SlicesMove}
use Rattle.sp_xfer_runs.specs.Slices.{SlicesAreLoops}
use Rattle.sp_node_runs.specs.BodiesSpans.{SpanNets, one_net, two_nets, HaveSpans}
use Rattle.sp_transfer_runs.specs.Words.{moves_of, EndsFit, loop_of, loops_of, parts_of, IsSlice, count_of, offset_of, IsAtWord, MovesWord, StartedAt, SlicesAreWords}
use Rattle.sp_transfer_runs.proofs.Numbers.{difference, and_parts}
use Rattle.sp_transfer_runs.proofs.Places.{range_is, group_is, places_small, place_inside, count_is, is_inside, offsets_long}

sum_below : (w : ℕ) → word_add int_type w 1 < 2 ^ 32
unfolding word_add
sum_below w = wrap-lt int_type (index_value w +ℤ index_value 1)

-- the nets of spans are those of the loops
pub loops : (s : Signals) (u : ℕ) (nets : List SpanNets) (counts : List Count) (taken : List Taken) → CountMoves s (moves_of nets) counts → HaveSpans s u nets taken → Each EndsFit taken → AreLoopsAt s u counts (loops_of taken)
loops s u [] _ [] no_move have fits = no_loop
loops s u [] _ (x ∷ taken) c have fits = absurd have
loops s u (one_net n ∷ nets) _ [] c have fits = absurd have
loops s u (two_nets a b ∷ nets) _ [] c have fits = absurd have
loops s u (one_net n ∷ nets) _ (both es fs ∷ taken) c have fits = absurd have
loops s u (two_nets a b ∷ nets) _ (one es ∷ taken) c have fits = absurd have
loops s u (one_net n ∷ nets) _ (one es ∷ taken) (one_move {c = c} {counts = counts} h hs) have fits =
    let from : s.net u c.from ≡ last_word es = ap (s.net u) h.from ∙ have.0 in
    let until : s.net u c.until ≡ word_add int_type (last_word es) 1 = h.until u ∙ ap (λ w. word_add int_type w 1) have.0 in
    one_loop (record {
      from = ap index_value (sym from);
      until = ap index_value (sym until);
      from_fits = subst (λ w. w < 2 ^ 32) (sym from) fits.0;
      until_fits = subst (λ w. w < 2 ^ 32) (sym until) (sum_below (last_word es));
      by = sym h.by;
      advance = sym (ap₂ (λ x y. x * y) h.by h.par);
      goes_on = omega arith;
    }) (loops s u nets counts taken hs have.1 fits.1)
loops s u (two_nets a b ∷ nets) _ (both es fs ∷ taken) (one_move {c = c} {counts = counts} h hs) have fits =
    let from : s.net u c.from ≡ last_word es = ap (s.net u) h.from ∙ have.0 in
    let until : s.net u c.until ≡ last_word fs = h.until u ∙ have.1 in
    one_loop (record {
      from = ap index_value (sym from);
      until = ap index_value (sym until);
      from_fits = subst (λ w. w < 2 ^ 32) (sym from) fits.0.0;
      until_fits = subst (λ w. w < 2 ^ 32) (sym until) fits.0.1;
      by = sym h.by;
      advance = sym (ap₂ (λ x y. x * y) h.by h.par);
      goes_on = omega arith;
    }) (loops s u nets counts taken hs have.2 fits.1)

-- the first indices that dimensions took
abbrev pub FromsAre : Signals → (cycle : ℕ) → List Axis → List Taken → Type 0
FromsAre s t (a ∷ axes) (x ∷ taken) = (number s a.from t ≡ (loop_of x).from) × FromsAre s t axes taken
FromsAre s t _ _ = Unit {0}

if_true : {A : Type 0} (b : Bool) (x y : A) → b ≡ true → (if b then x else y) ≡ x
if_true b x y e = ap (λ b. if b then x else y) e

if_false : {A : Type 0} (b : Bool) (x y : A) → b ≡ false → (if b then x else y) ≡ y
if_false b x y e = ap (λ b. if b then x else y) e

low_is : (w v : ℕ) → w ≡ v → v < 2 ^ 32 → index_value (wrap int_type (index_value w)) ≡ index_value v
low_is w v e l = ap (λ n. index_value (wrap int_type (index_value n))) e ∙ ap index_value (wrap-of-value int_type v l)

module _ (s : Signals) (start : ℕ → Bool) where
  froms_first : (u : ℕ) → start u ≡ true → (nets : List SpanNets) (taken : List Taken) (counts : List Count) (counters : List Counter) (axes : List Axis) → CountMoves s (moves_of nets) counts → FollowAxes s start counts counters axes → HaveSpans s u nets taken → Each EndsFit taken
      → FromsAre s (suc u) axes taken
  froms_first u on [] _ _ _ _ no_move no_axis have fits = tt
  froms_first u on (one_net n ∷ nets) [] _ _ _ c f have fits = absurd have
  froms_first u on (two_nets a b ∷ nets) [] _ _ _ c f have fits = absurd have
  froms_first u on (one_net n ∷ nets) (both es fs ∷ taken) _ _ _ c f have fits = absurd have
  froms_first u on (two_nets a b ∷ nets) (one es ∷ taken) _ _ _ c f have fits = absurd have
  froms_first u on (one_net n ∷ nets) (one es ∷ taken) _ _ _ (one_move {c = c} h hs) (one_axis k ks) have fits =
      (k.from u ∙ if_true _ _ _ on ∙ low_is (s.net u c.from) (last_word es) (ap (s.net u) h.from ∙ have.0) fits.0, froms_first u on nets taken _ _ _ hs ks have.1 fits.1)
  froms_first u on (two_nets a b ∷ nets) (both es fs ∷ taken) _ _ _ (one_move {c = c} h hs) (one_axis k ks) have fits =
      (k.from u ∙ if_true _ _ _ on ∙ low_is (s.net u c.from) (last_word es) (ap (s.net u) h.from ∙ have.0) fits.0.0, froms_first u on nets taken _ _ _ hs ks have.2 fits.1)

  froms_on : (t : ℕ) → start t ≡ false → (taken : List Taken) (counts : List Count) (counters : List Counter) (axes : List Axis) → FollowAxes s start counts counters axes → FromsAre s t axes taken → FromsAre s (suc t) axes taken
  froms_on t off taken _ _ _ no_axis w = tt
  froms_on t off [] _ _ _ (one_axis k ks) w = tt
  froms_on t off (x ∷ taken) _ _ _ (one_axis k ks) w = (k.from t ∙ if_false _ _ _ off ∙ w.0, froms_on t off taken _ _ _ ks w.1)

  froms_stay : (u : ℕ) (taken : List Taken) (counts : List Count) (counters : List Counter) (axes : List Axis) → FollowAxes s start counts counters axes → FromsAre s (suc u) axes taken
      → (cycles : ℕ) → ((t : ℕ) → u < t → t ≤ u + cycles → start t ≡ false) → FromsAre s (u + 1 + cycles) axes taken
  froms_stay u taken counts counters axes f first zero quiet = subst (λ t. FromsAre s t axes taken) (omega arith) first
  froms_stay u taken counts counters axes f first (suc n) quiet =
      let next : suc (u + 1 + n) ≡ u + 1 + suc n = omega arith in
      subst (λ t. FromsAre s t axes taken) next (froms_on (u + 1 + n) (quiet (u + 1 + n) (omega arith) (omega arith)) taken counts counters axes f
      (froms_stay u taken counts counters axes f first n (λ t l m. quiet t l (omega (arith, m)))))

-- offsets are those of the word at whose place the counters are
head_is : (x y : ℕ) (xs ys : List ℕ) → x ∷ xs ≡ y ∷ ys → (x ≡ y) × (xs ≡ ys)
head_is x y xs ys e = (ap (λ l. slice_index_or l 0 0) e, ap (λ l. drop 1 l) e)

offsets_are : (s : Signals) (start : ℕ → Bool) (u t : ℕ) (dims : List ℕ) (nets : List SpanNets) (taken : List Taken) (counts : List Count) (counters : List Counter) (axes : List Axis) (o : List ℕ) → FollowAxes s start counts counters axes → CountMoves s (moves_of nets) counts
    → HaveSpans s u nets taken → FromsAre s t axes taken → are_parts_inside dims (parts_of taken) ≡ true → values_at s counters t ≡ places_of (parts_of taken) o → length o ≡ length (lengths (parts_of taken)) → Each (λ p. p < 2 ^ 31) (places_of (parts_of taken) o)
    → words_at s t (offsets_of (moves_of nets) axes) ≡ o
offsets_are s start u t dims [] [] _ _ _ [] f c have w inside e long small = refl
offsets_are s start u t dims [] [] _ _ _ (j ∷ o) f c have w inside e long small = absurd (omega (arith, long))
offsets_are s start u t dims [] (x ∷ taken) _ _ _ o f c have w inside e long small = absurd have
offsets_are s start u t dims (one_net n ∷ nets) [] _ _ _ o f c have w inside e long small = absurd have
offsets_are s start u t dims (two_nets a b ∷ nets) [] _ _ _ o f c have w inside e long small = absurd have
offsets_are s start u t dims (one_net n ∷ nets) (both es fs ∷ taken) _ _ _ o f c have w inside e long small = absurd have
offsets_are s start u t dims (two_nets a b ∷ nets) (one es ∷ taken) _ _ _ o f c have w inside e long small = absurd have
offsets_are s start u t [] (one_net n ∷ nets) (one es ∷ taken) _ _ _ o f c have w inside e long small = absurd (cc)
offsets_are s start u t [] (two_nets a b ∷ nets) (both es fs ∷ taken) _ _ _ o f c have w inside e long small = absurd (cc)
offsets_are s start u t (d ∷ dims) (one_net n ∷ nets) (one es ∷ taken) _ _ _ o no_axis c have w inside e long small = elim c [ ]
offsets_are s start u t (d ∷ dims) (two_nets a b ∷ nets) (both es fs ∷ taken) _ _ _ [] no_axis c have w inside e long small = elim c [ ]
offsets_are s start u t (d ∷ dims) (two_nets a b ∷ nets) (both es fs ∷ taken) _ _ _ (j ∷ o) no_axis c have w inside e long small = elim c [ ]
offsets_are s start u t (d ∷ dims) (one_net n ∷ nets) (one es ∷ taken) _ _ _ o (one_axis k ks) (one_move h hs) have w inside e long small =
    let p = and_parts (is_part_inside d (part_of (one es))) (are_parts_inside dims (parts_of taken)) inside in
    offsets_are s start u t dims nets taken _ _ _ o ks hs have.1 w.1 p.1 (head_is _ _ _ _ e).1 long small.1
offsets_are s start u t (d ∷ dims) (two_nets a b ∷ nets) (both es fs ∷ taken) _ _ _ [] (one_axis k ks) (one_move h hs) have w inside e long small = absurd (omega (arith, long))
offsets_are s start u t (d ∷ dims) (two_nets a b ∷ nets) (both es fs ∷ taken) _ _ _ (j ∷ o) (one_axis {n = n} {a = x} k ks) (one_move h hs) have w inside e long small =
    let p = and_parts (is_part_inside d (part_of (both es fs))) (are_parts_inside dims (parts_of taken)) inside in
    let (m, is, l) = range_is (index_value (last_word es)) (index_value (last_word fs)) d p.0 in
    let v = head_is _ _ _ _ e in
    ap₂ (λ y ys. y ∷ ys)
    (k.offset t ∙ difference (s.net t n.value) (s.net t x.from) (natural (index_value (last_word es))) j (w.0 ∙ is ∙ ap pos (sym (ap natural is))) v.0 (subst (λ y. y < 2 ^ 31) (sym v.0) small.0))
    (offsets_are s start u t dims nets taken _ _ _ o ks hs have.2 w.1 p.1 v.1 (let q : suc (length o) ≡ suc (length (lengths (parts_of taken))) = long in omega (arith, q)) small.1)

values_are : (s : Signals) (t : ℕ) (ns : List Counter) → values_at s ns t ≡ map (λ n. s.net t n.value) ns
values_are s t [] = refl
values_are s t (n ∷ ns) = ap (λ ws. s.net t n.value ∷ ws) (values_are s t ns)

-- a walk goes on by a word at each step
module _ (counters_law : CountersRunThroughGroups) (loops_law : SlicesAreLoops) where
  module _ (s : Signals) (start step : ℕ) (nets : List SpanNets) (walk : Walk) (dims : List ℕ) (taken : List Taken) (begun cycles : ℕ) (h : WalksSlice s start step (moves_of nets) walk) (have : HaveSpans s begun nets taken) (slice : IsSlice dims taken) (began : StartedAt s start begun (begun + cycles)) where
    k : ℕ
    k = steps_after (is_on s step) begun cycles

    t : ℕ
    t = begun + 1 + cycles

    group : AreAtGroup s walk.counters walk.counted (loops_of taken) k t
    unfolding k t
    group =
        subst (λ n. AreAtGroup s walk.counters walk.counted (loops_of taken) (steps_after (is_on s n) begun cycles) (begun + 1 + cycles)) h.step_is
        (counters_law s walk.counters walk.counted (loops_of taken) begun cycles h.counts (loops s begun nets walk.counters.counters.items taken h.bounds have slice.fits)
        (ap (λ n. is_on s n begun) h.start_is ∙ began.started) (λ u l m. ap (λ n. is_on s n u) h.start_is ∙ began.quiet u l m))

    inside : k < count_of taken → are_parts_inside dims (parts_of taken) ≡ true
    inside l = is_inside loops_law dims taken slice.some slice.few slice.inside k l

    place : k < count_of taken → values_at s walk.counted.counters.items t ≡ places_of (parts_of taken) (offset_of taken k)
    place l =
        values_are s t walk.counted.counters.items
        ∙ group.words (subst (λ n. k < n) (sym (count_is loops_law dims taken slice.some slice.few slice.inside)) l)
        ∙ group_is loops_law dims taken slice.some slice.few (inside l) k l

    froms : FromsAre s t walk.axes.items taken
    unfolding t
    froms =
        froms_stay s (is_on s start) begun taken walk.counters.counters.items walk.counted.counters.items walk.axes.items h.axes
        (froms_first s (is_on s start) begun began.started nets taken walk.counters.counters.items walk.counted.counters.items walk.axes.items h.bounds h.axes have slice.fits) cycles began.quiet

    stands : IsAtWord s walk (moves_of nets) taken k t
    stands = record {
      more = group.more ∙ ap (nat_lt k) (count_is loops_law dims taken slice.some slice.few slice.inside);
      place = λ l. place l;
      offset = λ l. offsets_are s (is_on s start) begun t dims nets taken walk.counters.counters.items walk.counted.counters.items walk.axes.items (offset_of taken k) h.axes h.bounds have froms (inside l) (place l) (offsets_long taken k l)
          (places_small loops_law dims taken slice.some slice.few (inside l) k l);
    }

    pub walks : IsAtWord s walk (moves_of nets) taken (steps_after (is_on s step) begun cycles) (begun + 1 + cycles)
    unfolding k t
    walks = stands

  -- a slice that moves
  module _ (moves_law : SlicesMove) (s : Signals) (wires : Wires) (dims : List ℕ) (nets : List SpanNets) (m : Moving) (taken : List Taken) (begun : ℕ) (h : MovesSlice s wires dims (moves_of nets) m) (have : HaveSpans s begun nets taken) (slice : IsSlice dims taken) where
    was_taken : (upto : ℕ) → StartedAt s wires.start begun upto → WasTaken s wires m (loops_of taken) begun upto
    was_taken upto b = record { loops_are = loops s begun nets m.walk.counters.counters.items taken h.walks.bounds have slice.fits; started = b.started; quiet = b.quiet }

    at_once : is_on s wires.start begun ≡ true → StartedAt s wires.start begun begun
    at_once e = record { started = e; quiet = λ t l k. absurd (omega (arith, l, k)) }

    same_count : loop_count (loops_of taken) ≡ count_of taken
    same_count = count_is loops_law dims taken slice.some slice.few slice.inside

    pub asks : is_on s wires.start begun ≡ true → is_on s wires.request (suc begun) ≡ nat_lt 0 (count_of taken)
    asks e = moves_law.asks s wires dims (moves_of nets) m (loops_of taken) begun h (was_taken begun (at_once e)) ∙ ap (nat_lt 0) same_count

    pub empty : is_on s wires.start begun ≡ true → is_on s m.done (suc (suc begun)) ≡ (ends_at s wires.ready m.walk (suc begun) || not (nat_lt 0 (count_of taken)))
    empty e = moves_law.empty s wires dims (moves_of nets) m (loops_of taken) begun h (was_taken begun (at_once e)) ∙ ap (λ n. ends_at s wires.ready m.walk (suc begun) || not (nat_lt 0 n)) same_count

    module _ (cycles : ℕ) (b : StartedAt s wires.start begun (begun + 1 + cycles)) where
      j : ℕ
      j = steps_after (is_on s wires.ready) begun cycles

      u : ℕ
      u = begun + 1 + cycles

      old : StandsAt s wires dims m (loops_of taken) j u
      unfolding j u
      old = moves_law.words s wires dims (moves_of nets) m (loops_of taken) begun cycles h (was_taken (begun + 1 + cycles) b)

      at : IsAtWord s m.walk (moves_of nets) taken j u
      unfolding j u
      at = walks s wires.start wires.ready nets m.walk dims taken begun cycles h.walks have slice (record { started = b.started; quiet = λ t l k. b.quiet t l (omega (arith, k)) })

      address : j < count_of taken → s.net u wires.address ≡ row_major dims (places_of (parts_of taken) (offset_of taken j))
      address l =
          h.address u ∙ ap (λ ps. row_major dims ps % 2 ^ 32) (at.place l)
          ∙ mod-eq_of_lt {n = row_major dims (places_of (parts_of taken) (offset_of taken j))} {m = 2 ^ 32}
          (let p = place_inside loops_law dims taken slice.some slice.few (is_inside loops_law dims taken slice.some slice.few slice.inside j l) j l in let few = slice.few in omega (arith, p, few))

      new : MovesWord s wires dims (moves_of nets) m taken j u
      new = record {
        at = at;
        address = λ l. address l;
        last = λ e l. old.last e (subst (λ n. j < n) (sym same_count) l) ∙ ap (λ n. nat_lt j n && not (nat_lt (suc j) n)) same_count ∙ ap (λ b. b && not (nat_lt (suc j) (count_of taken))) (lt-ltb j (count_of taken) l);
        done = λ l. old.done (subst (λ n. 0 < n) (sym same_count) l) ∙ ap (λ n. is_on s wires.ready u && (nat_lt j n && not (nat_lt (suc j) n))) same_count;
        request = old.request;
      }

      pub moves : MovesWord s wires dims (moves_of nets) m taken (steps_after (is_on s wires.ready) begun cycles) (begun + 1 + cycles)
      unfolding j u
      moves = new

  pub slices_are_words : SlicesMove → SlicesAreWords
  slices_are_words moves_law = record {
    loops = loops;
    walks = λ s start step nets walk dims taken begun cycles h have slice b. walks s start step nets walk dims taken begun cycles h have slice b;
    asks = λ s wires dims nets m taken begun h have slice e. asks moves_law s wires dims nets m taken begun h have slice e;
    empty = λ s wires dims nets m taken begun h have slice e. empty moves_law s wires dims nets m taken begun h have slice e;
    moves = λ s wires dims nets m taken begun cycles h have slice b. moves moves_law s wires dims nets m taken begun h have slice cycles b;
  }
