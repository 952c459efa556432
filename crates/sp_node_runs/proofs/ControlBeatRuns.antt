-- Runs of outer bodies as those of loops in beats.
use Rattle.std.proofs.Common.{◌≡◌, ◌⊎◌, inl, inr, ℕ, zero, suc, ◌+◌, ◌≤◌, Bool, true, false, ℤ, List, [], ◌∷◌, map, length, slice_index_or, refl, sym, ◌∙◌, ap, subst, arith}
use Rattle.std.specs.List.{Contains}
use Rattle.sp_words.specs.declared.kind.Style.{Style}
use Rattle.sp_core.specs.Events.{Standing}
use Rattle.sp_core.specs.History.{History, Groups, Runs, outer_ran, branch_ran, inner_ran, fsm_ran, moved, picked, no_group, more_group, no_run, masked_run, more_run}
use Rattle.sp_core.specs.Numbering.{counters_size, node_count, number_count}
use Rattle.sp_core.specs.PlainCore.{PlainCounter, PlainStages, outer, no_stage, more_stage, PlainCore}
use Rattle.sp_plan.specs.PlainPlan.{PlainPlan, node_plan}
use Rattle.sp_time.specs.Beats.{Run, no_time, took_at, whole}
use Rattle.sp_machine.specs.Stamps.{Stamped, Copies}
use Rattle.sp_machine.specs.Timeline.{slots_of, timed, group_runs, stage_runs as row_runs}
use Rattle.sp_machine.specs.Transfers.{Delays}
use Rattle.sp_part_runs.specs.ControlParts.{Ran}
use Rattle.sp_part_runs.specs.SequencesPlaces.{stage_at as stage_in, sizes, AreArranged}
use Rattle.sp_part_runs.specs.SequencesRuns.{member_took}
use Rattle.sp_part_runs.specs.BeatsLaws.{LoopsAreInTimeline}
use Rattle.sp_part_runs.specs.BeatsRuns.{BeatsRan, whole_run, AreInTurn}
use Rattle.sp_part_runs.specs.BeatsTimelines.{TookAsStages, IsInTimeline}
use Rattle.sp_node_runs.specs.Runs.{Placed, AreWithin, over_at, stage_history}
use Rattle.sp_node_runs.specs.ControlBeating.{is_some, has_lane, groups_of, values_of, IsOuter, AreOuters, rows_of, beats_ran, TakeTime}
use Rattle.sp_node_runs.specs.ControlRuns.{ran_of}

pub here : {A : Type 0} (x : A) (xs : List A) → Contains (x ∷ xs) x
here x xs = (zero, omega arith, refl)

pub there : {A : Type 0} (x y : A) (xs : List A) → Contains xs y → Contains (x ∷ xs) y
there x y xs (k, l, e) = (suc k, omega (arith, l), e)

pub mapped_from : {A B : Type 0} (f : A → B) (xs : List A) (y : B) → Contains (map f xs) y → (x : A) × Contains xs x × (f x ≡ y)
mapped_from f [] y (i, l, e) = absurd (omega (arith, l))
mapped_from f (x ∷ xs) y (zero, l, e) = (x, here x xs, e)
mapped_from f (x ∷ xs) y (suc i, l, e) = let z = mapped_from f xs y (i, omega (arith, l), e) in (z.0, there x z.0 xs z.1, z.2)

module _ (core : PlainCore) (plan : PlainPlan) (delays : Delays) where
  -- a stage of a row without a lane is passed over in two cycles
  row_masked : (stages : PlainStages) (k n i g j : ℕ) (v : List ℤ) (st : Standing) (copies : Copies) (hs : Runs) (s : ℕ) → is_some (stage_history stages hs s) ≡ false
      → 1 ≤ (slice_index_or (row_runs core plan delays stages k n i g j v st copies hs) s no_time).took → (slice_index_or (row_runs core plan delays stages k n i g j v st copies hs) s no_time).took ≡ 2
  unfolding row_runs
  row_masked (more_stage first last comb node rest) k n i g j v st copies (more_run b hs) zero e h = let z : true ≡ false = e in absurd (cc)
  row_masked (more_stage first last comb node rest) k n i g j v st copies (more_run b hs) (suc s) e h = row_masked rest k (n + number_count node) (suc i) g (j + node_count node) v st copies hs s e h
  row_masked (more_stage first last comb node rest) k n i g j v st copies (masked_run hs) zero e h = refl
  row_masked (more_stage first last comb node rest) k n i g j v st copies (masked_run hs) (suc s) e h = row_masked rest k (n + number_count node) (suc i) g (j + node_count node) v st copies hs s e h
  row_masked (more_stage first last comb node rest) k n i g j v st copies no_run s e h = absurd (omega (arith, h))
  row_masked no_stage k n i g j v st copies hs s e h = absurd (omega (arith, h))

  masked : (stages : PlainStages) (k n b : ℕ) (st : Standing) (owned : List ℕ) (copies : Copies) (values : List (List ℤ)) (groups : Groups) (g s : ℕ) → has_lane stages values groups g s ≡ false
      → 1 ≤ took_at (group_runs core plan delays stages k n b st owned copies values groups) g s → took_at (group_runs core plan delays stages k n b st owned copies values groups) g s ≡ 2
  unfolding group_runs
  masked stages k n b st owned copies (v ∷ values) (more_group row rest) zero s e h = row_masked stages k n 0 b (suc k) v st _ row s e h
  masked stages k n b st owned copies (v ∷ values) (more_group row rest) (suc g) s e h = masked stages k n (suc b) st owned copies values rest g s e h
  masked stages k n b st owned copies (v ∷ values) no_group g s e h = absurd (omega (arith, h))
  masked stages k n b st owned copies [] groups g s e h = absurd (omega (arith, h))

  past_end : (rows : List (List (Run Stamped))) (g s : ℕ) → length rows ≤ g → took_at rows g s ≡ 0
  past_end [] g s h = refl
  past_end (row ∷ rows) zero s h = absurd (omega (arith, h))
  past_end (row ∷ rows) (suc g) s h = past_end rows g s (omega (arith, h))

  module _ (k n : ℕ) (counters : List PlainCounter) (owned : List ℕ) (stages : PlainStages) (places : List (List (List ℕ))) where
    abbrev beats : Placed → BeatsRan
    beats r = beats_ran core plan delays k n counters owned stages places r

    abbrev rows : Placed → List (List (Run Stamped))
    rows r = rows_of core plan delays k n counters owned stages places r

    by_lane : (lane : Bool) (took : ℕ) → (lane ≡ false → took ≡ 2) → member_took (record { wanted = lane; took = took }) ≡ took
    by_lane true took h = refl
    by_lane false took h = sym (h refl)

    pub as_stages : (runs : List Placed) → TakeTime core plan delays k n counters owned stages places runs → (r : Placed) → Contains runs r → TookAsStages places (took_at (rows r)) (beats r)
    as_stages runs takes r c = record {
      found = λ g x j i l at. by_lane (has_lane stages (values_of counters r.history) (groups_of r.history) g (stage_in places x j i)) (took_at (rows r) g (stage_in places x j i))
          (λ e. masked stages k (n + counters_size counters) 0 r.standing owned r.copies (values_of counters r.history) (groups_of r.history) g (stage_in places x j i) e (takes r g x j i c l at));
      takes_time = λ g x j i l at. takes r g x j i c l at;
      ended = λ g s h. past_end (rows r) g s h;
    }

    -- how long a run takes
    took_one : (style : Style) (st : Standing) (copies : Copies) (h : History) → IsOuter h
        → whole (slots_of (node_plan plan k)) (took_at (group_runs core plan delays stages k (n + counters_size counters) 0 st owned copies (values_of counters h) (groups_of h))) (length (group_runs core plan delays stages k (n + counters_size counters) 0 st owned copies (values_of counters h) (groups_of h)))
        ≡ (timed core plan delays (outer counters style owned stages) k n st copies h).took
    unfolding timed
    took_one style st copies (outer_ran bs counts groups) is = refl
    took_one style st copies (branch_ran _ side h) is = elim is [ ]
    took_one style st copies (inner_ran _ counts groups) is = elim is [ ]
    took_one style st copies (fsm_ran start _ last_test) is = elim is [ ]
    took_one style st copies (moved _ words) is = elim is [ ]
    took_one style st copies (picked count _) is = elim is [ ]

    module _ (in_timeline : LoopsAreInTimeline) (arranged : AreArranged places (slots_of (node_plan plan k))) (runs : List Placed) (takes : TakeTime core plan delays k n counters owned stages places runs) where
      pub in_time : (r : Placed) → Contains runs r → IsInTimeline places (slots_of (node_plan plan k)) (took_at (rows r)) (beats r)
      in_time r c = in_timeline (slots_of (node_plan plan k)) (took_at (rows r)) places (beats r) arranged (as_stages runs takes r c)

      module _ (style : Style) where
        abbrev whole_ran : Placed → Ran
        whole_ran r = ran_of core plan delays (outer counters style owned stages) k n r

        pub whole_one : (r : Placed) → Contains runs r → IsOuter r.history → whole_run (sizes places) (beats r) ≡ whole_ran r
        whole_one r c is = ap (λ w. record { cycle = r.cycle; took = w }) ((in_time r c).lasts ∙ took_one style r.standing r.copies r.history is)

        pub wholes_same : (rs : List Placed) → ((r : Placed) → Contains rs r → Contains runs r) → AreOuters rs → map (whole_run (sizes places)) (map beats rs) ≡ map whole_ran rs
        wholes_same [] sub is = refl
        wholes_same (r ∷ rs) sub is = ap (λ x. x ∷ map (whole_run (sizes places)) (map beats rs)) (whole_one r (sub r (here r rs)) is.0) ∙ ap (λ rest. whole_ran r ∷ rest) (wholes_same rs (λ q c. sub q (there r q rs c)) is.1)

        are_outers : (rs : List Placed) → AreOuters rs → (r : Placed) → Contains rs r → IsOuter r.history
        are_outers [] is r (i, l, e) = absurd (omega (arith, l))
        are_outers (q ∷ rs) is r (zero, l, e) = subst (λ (x : Placed). IsOuter x.history) e is.0
        are_outers (q ∷ rs) is r (suc i, l, e) = are_outers rs is.1 r (i, omega (arith, l), e)

        module _ (is : AreOuters runs) where
          abbrev over : Placed → ℕ
          over r = over_at core plan delays (outer counters style owned stages) k n r

          after : (rs : List Placed) (from until : ℕ) → AreWithin core plan delays (outer counters style owned stages) k n from until rs → (r : Placed) → Contains rs r → from ≤ r.cycle
          after [] from until h r (i, l, e) = absurd (omega (arith, l))
          after (q ∷ rs) from until h r (zero, l, e) = subst (λ (x : Placed). from ≤ x.cycle) e h.0
          after (q ∷ rs) from until h r (suc i, l, e) = let a = after rs (over q) until h.1 r (i, omega (arith, l), e) in omega (arith, a, h.0)

          apart : (rs : List Placed) (from until : ℕ) → AreWithin core plan delays (outer counters style owned stages) k n from until rs → (r q : Placed) → Contains rs r → Contains rs q → (r ≡ q) ⊎ ((over r ≤ q.cycle) ⊎ (over q ≤ r.cycle))
          apart [] from until h r q (i, l, e) d = absurd (omega (arith, l))
          apart (x ∷ rs) from until h r q (zero, l, e) (zero, m, f) = inl (sym e ∙ f)
          apart (x ∷ rs) from until h r q (zero, l, e) (suc j, m, f) = inr (inl (subst (λ (y : Placed). over y ≤ q.cycle) e (after rs (over x) until h.1 q (j, omega (arith, m), f))))
          apart (x ∷ rs) from until h r q (suc i, l, e) (zero, m, f) = inr (inr (subst (λ (y : Placed). over y ≤ r.cycle) f (after rs (over x) until h.1 r (i, omega (arith, l), e))))
          apart (x ∷ rs) from until h r q (suc i, l, e) (suc j, m, f) = apart rs (over x) until h.1 r q (i, omega (arith, l), e) (j, omega (arith, m), f)

          pub in_turn : (from until : ℕ) → AreWithin core plan delays (outer counters style owned stages) k n from until runs → AreInTurn (sizes places) (map beats runs)
          in_turn from until h b d c e le =
              let x = mapped_from beats runs b c in
              let y = mapped_from beats runs d e in
              subst (λ (z : BeatsRan). (z ≡ d) ⊎ ((whole_run (sizes places) z).cycle + (whole_run (sizes places) z).took ≤ d.cycle)) x.2
              (subst (λ (z : BeatsRan). (beats x.0 ≡ z) ⊎ ((whole_run (sizes places) (beats x.0)).cycle + (whole_run (sizes places) (beats x.0)).took ≤ z.cycle)) y.2
              (settled x.0 y.0 (whole_one x.0 x.1 (are_outers runs is x.0 x.1)) (whole_one y.0 y.1 (are_outers runs is y.0 y.1)) (let f = ap (λ (z : BeatsRan). z.cycle) x.2 in let g = ap (λ (z : BeatsRan). z.cycle) y.2 in omega (arith, f, g, le)) (apart runs from until h x.0 y.0 x.1 y.1)))
            where
              settled : (r q : Placed) → whole_run (sizes places) (beats r) ≡ whole_ran r → whole_run (sizes places) (beats q) ≡ whole_ran q → r.cycle ≤ q.cycle → (r ≡ q) ⊎ ((over r ≤ q.cycle) ⊎ (over q ≤ r.cycle))
                  → (beats r ≡ beats q) ⊎ ((whole_run (sizes places) (beats r)).cycle + (whole_run (sizes places) (beats r)).took ≤ q.cycle)
              settled r q e f le (inl same) = inl (ap beats same)
              settled r q e f le (inr (inl past)) = inr (let z = ap (λ (x : Ran). x.took) e in omega (arith, z, past))
              settled r q e f le (inr (inr past)) = let z = ap (λ (x : Ran). x.took) f in absurd (omega (arith, z, past, le))
