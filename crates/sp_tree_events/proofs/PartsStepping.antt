-- What happens in runs of a node is what happens in the runs of its parts, at the numbers of these.
use Rattle.std.proofs.Common.{◌≡◌, ℕ, zero, suc, ◌+◌, ◌<◌, ◌≤◌, ◌⊎◌, inl, inr, true, false, List, [], ◌∷◌, ◌++◌, length, flat_map, sum_by, refl, sym, ap, subst, ◌∙◌, arith}
use Rattle.std.proofs.lemmas.Bool.{cases_lt}
use Rattle.std.proofs.lemmas.List.{map-append}
use Rattle.std.proofs.lemmas.List.Sums.{sum_by-append}
use Rattle.sp_words.specs.declared.kind.Style.{Style}
use Rattle.sp_core.specs.Events.{Standing, inside_at, before, in_turn, Event, Moment, entry_moments, list_moments, bounds_moments, moments}
use Rattle.sp_core.specs.History.{Entry, History, Turns, last_word, inner_ran, outer_ran, fsm_ran, branch_ran, moved, picked, no_turn, more_turn}
use Rattle.sp_core.specs.Numbering.{counters_size, node_count, number_count}
use Rattle.sp_core.specs.PlainCore.{PlainOp, PlainCounter, PlainNode, PlainStages, branch, no_stage, more_stage, PlainCore}
use Rattle.sp_core.specs.Scope.{in_lanes, loops_of, group_values}
use Rattle.sp_plan.specs.PlainPlan.{PlainPlan, node_plan}
use Rattle.sp_plan.specs.Validity.{stage_count}
use Rattle.sp_time.specs.Beats.{Run}
use Rattle.sp_time.specs.Lists.{Each, total}
use Rattle.sp_machine.specs.Laws.{told, TellsAll}
use Rattle.sp_machine.specs.Stamps.{Stamped, Copies, stamped, later, list_stamped, in_a_row, list_run, kept_run}
use Rattle.sp_machine.specs.Timeline.{timed, slots_of, in_copies, fresh_events}
use Rattle.sp_machine.specs.Transfers.{Delays}
use Rattle.sp_overlap.specs.Whole.{IsTimed, AreTimed}
use Rattle.sp_node_runs.specs.Runs.{Placed, events_of, over_at, list_took, side_runs, turn_of, table, stage_at, node_at, number_at, stage_runs}
use Rattle.sp_node_runs.specs.RunsTold.{all_events, branch_alone, turns_alone, fsm_alone, fresh_from, outer_alone, SidesAreTold, BodiesAreTold, StagesAreTold}
use Rattle.sp_tree_events.specs.ToldItems.{ListHas, CountersHave}
use Rattle.sp_tree_events.specs.ToldLaws.{IsWithin, NumbersAreWithin}
use Rattle.sp_tree_events.proofs.ToldHaving.{list_has, bounds_has, within}
use Rattle.sp_tree_events.proofs.ToldRanges.{list_range, counters_range}
use Rattle.sp_tree_events.specs.PartsAgreeing.{Agree, AgreeIn, SidesAgree, MachinesAgree, StagesAgree}
use Rattle.sp_tree_events.proofs.PartsTests.{weight, some_weigh, weigh_some, none_weigh}

-- lists in which each event weighs as much agree
pub agree_by : (whole part : List Stamped) (n : ℕ) → ((t c : ℕ) (e : Event) → e.number ≡ n → sum_by (weight t c e) whole ≡ sum_by (weight t c e) part) → Agree whole part n
agree_by whole part n same = record {
  into = λ t e h. (let w = some_weigh t h.copy e whole h.there in let q = same t h.copy e h.numbered in weigh_some t h.copy e n h.numbered part (omega (arith, w, q)));
  back = λ t e h. (let w = some_weigh t h.copy e part h.there in let q = same t h.copy e h.numbered in weigh_some t h.copy e n h.numbered whole (omega (arith, w, q)));
}

-- moments in a range
abbrev AreWithin : (low high : ℕ) → List Stamped → Type 0
AreWithin low high xs = Each (λ x. IsWithin low high x.moment) xs

each_append : {A : Type 0} (Q : A → Type 0) (xs ys : List A) → Each Q xs → Each Q ys → Each Q (xs ++ ys)
each_append Q [] ys h k = k
each_append Q (x ∷ xs) ys h k = (h.0, each_append Q xs ys h.1 k)

each_told : (low high : ℕ) (es : List Stamped) → Each (IsWithin low high) (told es) → AreWithin low high es
each_told low high [] h = tt
each_told low high (e ∷ es) h = (h.0, each_told low high es h.1)

pub later_within : (low high n : ℕ) (es : List Stamped) → AreWithin low high es → AreWithin low high (later n es)
later_within low high n [] h = tt
later_within low high n (e ∷ es) h = (h.0, later_within low high n es h.1)

stamped_within : (low high : ℕ) (copies : Copies) (t : ℕ) (ms : List Moment) → Each (IsWithin low high) ms → AreWithin low high (stamped copies t ms)
stamped_within low high copies t [] h = tt
stamped_within low high copies t (m ∷ ms) h = (h.0, stamped_within low high copies t ms h.1)

told_stamped : (copies : Copies) (t : ℕ) (ms : List Moment) → told (stamped copies t ms) ≡ ms
told_stamped copies t [] = refl
told_stamped copies t (m ∷ ms) = ap (λ z. m ∷ z) (told_stamped copies t ms)

told_list : (copies : Copies) (f : ℕ → ℕ) (i n : ℕ) (st : Standing) (ops : List PlainOp) (es : List Entry) → told (list_stamped copies f i n st ops es) ≡ list_moments n st ops es
told_list copies f i n st [] es = refl
told_list copies f i n st (op ∷ ops) [] = refl
told_list copies f i n st (op ∷ ops) (e ∷ es) =
    map-append (λ (s : Stamped). s.moment) (stamped copies (f i) (entry_moments n st op.kind op.mem e)) (list_stamped copies f (suc i) (suc n) st ops es)
    ∙ ap (λ z. z ++ told (list_stamped copies f (suc i) (suc n) st ops es)) (told_stamped copies (f i) (entry_moments n st op.kind op.mem e))
    ∙ ap (λ z. entry_moments n st op.kind op.mem e ++ z) (told_list copies f (suc i) (suc n) st ops es)

module _ (core : PlainCore) where
  pub row_within : (copies : Copies) (n : ℕ) (st : Standing) (ops : List PlainOp) (es : List Entry) → AreWithin n (n + length ops) (list_run core copies n st ops es).events
  row_within copies n st ops es =
      each_told n (n + length ops) _ (subst (Each (IsWithin n (n + length ops))) (sym (told_list copies (in_a_row core ops) 0 n st ops es))
      (within core (ListHas ops n) n (n + length ops) (list_range ops n) (list_moments n st ops es) (list_has core (ListHas ops n) ops es n st (λ x i q. q))))

  pub kept_within : (copies : Copies) (n : ℕ) (st : Standing) (ops : List PlainOp) (es : List Entry) (state word : ℕ) → AreWithin n (n + length ops) (kept_run core copies n st ops es state word).events
  kept_within copies n st ops es state word = each_append (λ x. IsWithin n (n + length ops) x.moment) (list_run core copies n st ops es).events _ (row_within copies n st ops es) (tt, tt)

  module _ (plan : PlainPlan) (delays : Delays) (tells : (node : PlainNode) → TellsAll core plan delays node) (numbers : (node : PlainNode) → NumbersAreWithin core node) where
    pub runs_within : (node : PlainNode) (k n : ℕ) → IsTimed node → (runs : List Placed) → AreWithin n (n + number_count node) (all_events core plan delays node k n runs)
    runs_within node k n timed_node [] = tt
    runs_within node k n timed_node (r ∷ runs) =
        each_append (λ x. IsWithin n (n + number_count node) x.moment) (events_of core plan delays node k n r) (all_events core plan delays node k n runs)
        (later_within n (n + number_count node) r.cycle _ (each_told n (n + number_count node) _ (subst (Each (IsWithin n (n + number_count node))) (sym (tells node k n r.standing r.copies r.history)) (numbers node timed_node k n r.standing r.history))))
        (runs_within node k n timed_node runs)

    module _ (t c : ℕ) (e : Event) where
      abbrev Zero : List Stamped → Type 0
      Zero xs = sum_by (weight t c e) xs ≡ 0

      zero_append : (xs ys : List Stamped) → Zero xs → Zero ys → Zero (xs ++ ys)
      zero_append xs ys h k = sum_by-append (weight t c e) xs ys ∙ (let z : sum_by (weight t c e) xs + sum_by (weight t c e) ys ≡ 0 = omega (arith, h, k) in z)

      zero_all : (f : Placed → List Stamped) (runs : List Placed) → ((r : Placed) → Zero (f r)) → Zero (flat_map f runs)
      zero_all f [] h = refl
      zero_all f (r ∷ runs) h = zero_append (f r) (flat_map f runs) (h r) (zero_all f runs h)

      zero_in : (low high : ℕ) (xs : List Stamped) → AreWithin low high xs → (e.number < low) ⊎ (high ≤ e.number) → Zero xs
      zero_in low high xs h out = none_weigh t c e low high out xs h

      -- of a branch by itself
      branch_zero : (k n : ℕ) (test : List PlainOp) (first second : PlainNode) → n + length test ≤ e.number → (r : Placed) (h : History) → Zero (branch_alone core plan delays k n test first second r h)
      unfolding timed moments
      branch_zero k n test first second out r (branch_ran es side h) = zero_in n (n + length test) _ (later_within n (n + length test) (r.cycle + 1) _ (row_within r.copies n (inside_at r.standing k (in_turn 0) []) test es)) (inr out)
      branch_zero k n test first second out r (inner_ran bs counts groups) = refl
      branch_zero k n test first second out r (outer_ran bs counts groups) = refl
      branch_zero k n test first second out r (fsm_ran first' ts last) = refl
      branch_zero k n test first second out r (moved taken words) = refl
      branch_zero k n test first second out r (picked es words) = refl

      -- of an FSM
      module _ (k n : ℕ) (start : List PlainOp) (state : ℕ) (test : List PlainOp) (body : PlainNode) (next : List PlainOp) (low : n + (length start + length test) ≤ e.number) (high : e.number < n + (length start + length test) + number_count body) where
        abbrev after : ℕ
        after = n + (length start + (length test + number_count body))

        test_zero : (r : Placed) (u at : ℕ) (es : List Entry) → Zero (later at (list_run core r.copies (n + length start) (inside_at r.standing k (in_turn u) []) test es).events)
        test_zero r u at es = zero_in (n + length start) (n + length start + length test) _ (later_within (n + length start) (n + length start + length test) at _ (row_within r.copies (n + length start) (inside_at r.standing k (in_turn u) []) test es)) (inr (omega (arith, low)))

        turns_zero : (r : Placed) (u at : ℕ) (ts : Turns) (last : List Entry) → Zero (turns_alone core plan delays k n start state test body next r u at ts last)
        turns_zero r u at no_turn last = test_zero r u at last
        turns_zero r u at (more_turn es h ns rest) last =
            let over : ℕ = over_at core plan delays body (suc k) (n + (length start + length test)) (turn_of core plan delays start test next body k n r u at h) in
            zero_append (later at (list_run core r.copies (n + length start) (inside_at r.standing k (in_turn u) []) test es).events) _ (test_zero r u at es)
            (zero_append (later over (kept_run core r.copies after (inside_at r.standing k (in_turn u) []) next ns state (last_word ns)).events) _
            (zero_in after (after + length next) _ (later_within after (after + length next) over _ (kept_within r.copies after (inside_at r.standing k (in_turn u) []) next ns state (last_word ns))) (inl (omega (arith, high))))
            (turns_zero r (suc u) (over + list_took core plan delays next) rest last))

        fsm_zero : (r : Placed) (h : History) → Zero (fsm_alone core plan delays k n start state test body next r h)
        unfolding timed moments
        fsm_zero r (fsm_ran first ts last) =
            zero_append (later (r.cycle + 1) (kept_run core r.copies n (inside_at r.standing k before []) start first state (last_word first)).events) _
            (zero_in n (n + length start) _ (later_within n (n + length start) (r.cycle + 1) _ (kept_within r.copies n (inside_at r.standing k before []) start first state (last_word first))) (inr (omega (arith, low))))
            (turns_zero r 0 (r.cycle + (1 + list_took core plan delays start)) ts last)
        fsm_zero r (inner_ran bs counts groups) = refl
        fsm_zero r (outer_ran bs counts groups) = refl
        fsm_zero r (branch_ran es side h) = refl
        fsm_zero r (moved taken words) = refl
        fsm_zero r (picked es words) = refl

      -- of an outer body
      module _ (k n : ℕ) (counters : List PlainCounter) (style : Style) (owned : List ℕ) (stages : PlainStages) (out : n + counters_size counters ≤ e.number) where
        fresh_within : (r : Placed) (runs : List (List (Run Stamped))) (copies : Copies) (g : ℕ) (os : List ℕ) → AreWithin 0 0 (fresh_events core plan delays (slots_of (node_plan plan k)) runs (node_plan plan k) stages copies g os)
        fresh_within r runs copies g [] = tt
        fresh_within r runs copies g (m ∷ os) = (tt, fresh_within r runs copies g os)

        fresh_zero : (r : Placed) (runs : List (List (Run Stamped))) (g : ℕ) (rows : List (List (Run Stamped))) → Zero (fresh_from core plan delays k n counters style owned stages r runs g rows)
        fresh_zero r runs g [] = refl
        fresh_zero r runs g (row ∷ rows) =
            zero_append (later r.cycle (fresh_events core plan delays (slots_of (node_plan plan k)) runs (node_plan plan k) stages (in_copies core plan delays owned g r.copies) g owned)) _
            (zero_in 0 0 _ (later_within 0 0 r.cycle _ (fresh_within r runs (in_copies core plan delays owned g r.copies) g owned)) (inr (omega arith))) (fresh_zero r runs (suc g) rows)

        outer_zero : (r : Placed) (h : History) → Zero (outer_alone core plan delays k n counters style owned stages r h)
        unfolding timed moments
        outer_zero r (outer_ran bs counts groups) =
            zero_append (later r.cycle (stamped r.copies 0 (bounds_moments n (inside_at r.standing k before []) counters bs))) _
            (zero_in n (n + counters_size counters) _ (later_within n (n + counters_size counters) r.cycle _ (stamped_within n (n + counters_size counters) r.copies 0 (bounds_moments n (inside_at r.standing k before []) counters bs)
            (within core (CountersHave counters n) n (n + counters_size counters) (counters_range counters n) (bounds_moments n (inside_at r.standing k before []) counters bs) (bounds_has core (CountersHave counters n) counters bs n (inside_at r.standing k before []) (λ x i q. q))))) (inr out))
            (fresh_zero r (table core plan delays counters owned stages k n 0 r (group_values (loops_of in_lanes counters bs)) groups) 0 (table core plan delays counters owned stages k n 0 r (group_values (loops_of in_lanes counters bs)) groups))
        outer_zero r (inner_ran bs counts groups) = refl
        outer_zero r (branch_ran es side h) = refl
        outer_zero r (fsm_ran first ts last) = refl
        outer_zero r (moved taken words) = refl
        outer_zero r (picked es words) = refl

    pub sides_agree : SidesAreTold core plan delays → SidesAgree core plan delays
    sides_agree sides k n test first second runs timed_first timed_second = (one, other)
      where
        one : AgreeIn (all_events core plan delays (branch test first second) k n runs) (all_events core plan delays first (suc k) (n + length test) (side_runs core plan delays test k true runs)) (n + length test) (n + length test + number_count first)
        one x low high = agree_by _ _ x (λ t c e at.
            let alone = zero_all t c e (λ r. branch_alone core plan delays k n test first second r r.history) runs (λ r. branch_zero t c e k n test first second (omega (arith, low, at)) r r.history) in
            let rest = zero_in t c e (n + (length test + number_count first)) _ _ (runs_within second (suc k + node_count first) (n + (length test + number_count first)) timed_second (side_runs core plan delays test k false runs)) (inl (omega (arith, high, at))) in
            let all = sides (weight t c e) k n test first second runs in
            omega (arith, alone, rest, all))

        other : AgreeIn (all_events core plan delays (branch test first second) k n runs) (all_events core plan delays second (suc k + node_count first) (n + (length test + number_count first)) (side_runs core plan delays test k false runs)) (n + (length test + number_count first)) (n + (length test + number_count first) + number_count second)
        other x low high = agree_by _ _ x (λ t c e at.
            let alone = zero_all t c e (λ r. branch_alone core plan delays k n test first second r r.history) runs (λ r. branch_zero t c e k n test first second (omega (arith, low, at)) r r.history) in
            let rest = zero_in t c e _ (n + length test + number_count first) _ (runs_within first (suc k) (n + length test) timed_first (side_runs core plan delays test k true runs)) (inr (omega (arith, low, at))) in
            let all = sides (weight t c e) k n test first second runs in
            omega (arith, alone, rest, all))

    pub machines_agree : BodiesAreTold core plan delays → MachinesAgree core plan delays
    machines_agree bodies k n start state test body next runs timed_body x low high = agree_by _ _ x (λ t c e at.
        let alone = zero_all t c e (λ r. fsm_alone core plan delays k n start state test body next r r.history) runs (λ r. fsm_zero t c e k n start state test body next (omega (arith, low, at)) (omega (arith, high, at)) r r.history) in
        let all = bodies (weight t c e) k n start state test body next runs in
        omega (arith, alone, all))

    -- stages have their numbers one after the other
    number_low : (stages : PlainStages) (n s : ℕ) → n ≤ number_at stages n s
    number_low no_stage n s = omega arith
    number_low (more_stage first last comb node rest) n zero = omega arith
    number_low (more_stage first last comb node rest) n (suc s) = let h = number_low rest (n + number_count node) s in omega (arith, h)

    number_apart : (stages : PlainStages) (n s i : ℕ) → s < i → number_at stages n s + number_count (stage_at stages s) ≤ number_at stages n i
    number_apart no_stage n s i l = omega arith
    number_apart (more_stage first last comb node rest) n s zero l = absurd (omega (arith, l))
    number_apart (more_stage first last comb node rest) n zero (suc i) l = number_low rest (n + number_count node) i
    number_apart (more_stage first last comb node rest) n (suc s) (suc i) l = number_apart rest (n + number_count node) s i (omega (arith, l))

    stage_timed : (stages : PlainStages) → AreTimed stages → (s : ℕ) → IsTimed (stage_at stages s)
    stage_timed no_stage h s = tt
    stage_timed (more_stage first last comb node rest) h zero = h.0
    stage_timed (more_stage first last comb node rest) h (suc s) = stage_timed rest h.1 s

    total_none : (f : ℕ → ℕ) (count : ℕ) → ((s : ℕ) → s < count → f s ≡ 0) → total f count ≡ 0
    total_none f zero h = refl
    total_none f (suc n) h = let a = total_none f n (λ s l. h s (omega (arith, l))) in let b = h n (omega arith) in omega (arith, a, b)

    total_one : (f : ℕ → ℕ) (count i : ℕ) → i < count → ((s : ℕ) → (s < i) ⊎ (i < s) → f s ≡ 0) → total f count ≡ f i
    total_one f zero i l h = absurd (omega (arith, l))
    total_one f (suc n) i l h = elim (cases_lt i n) [
      | inl below ↦ let a = total_one f n i below h in let b = h n (inr below) in omega (arith, a, b)
      | inr at ↦ (
          let same : n ≡ i = omega (arith, at, l) in
          let a = total_none f n (λ s q. h s (inl (omega (arith, q, same)))) in
          let b : f n ≡ f i = ap f same in
          omega (arith, a, b)
          )
    ]

    pub stages_agree : StagesAreTold core plan delays → StagesAgree core plan delays
    stages_agree stages_told k n counters style owned stages runs timed_stages i few x low high = agree_by _ _ x (λ t c e at.
        let first = number_low stages (n + counters_size counters) i in
        let alone = zero_all t c e (λ r. outer_alone core plan delays k n counters style owned stages r r.history) runs (λ r. outer_zero t c e k n counters style owned stages (omega (arith, low, at, first)) r r.history) in
        let all = stages_told (weight t c e) k n counters style owned stages runs in
        let one = total_one (λ s. sum_by (weight t c e) (part s)) (stage_count stages) i few (λ s q. others t c e at s q) in
        omega (arith, alone, all, one))
      where
        part : ℕ → List Stamped
        part s = all_events core plan delays (stage_at stages s) (node_at stages (suc k) s) (number_at stages (n + counters_size counters) s) (stage_runs core plan delays counters owned stages k n s runs)

        out_of : (e : Event) → e.number ≡ x → (s : ℕ) → (s < i) ⊎ (i < s) → (e.number < number_at stages (n + counters_size counters) s) ⊎ (number_at stages (n + counters_size counters) s + number_count (stage_at stages s) ≤ e.number)
        out_of e at s (inl q) = inr (let h = number_apart stages (n + counters_size counters) s i q in omega (arith, h, low, at))
        out_of e at s (inr q) = inl (let h = number_apart stages (n + counters_size counters) i s q in omega (arith, h, high, at))

        others : (t c : ℕ) (e : Event) → e.number ≡ x → (s : ℕ) → (s < i) ⊎ (i < s) → sum_by (weight t c e) (part s) ≡ 0
        others t c e at s q =
            zero_in t c e (number_at stages (n + counters_size counters) s) (number_at stages (n + counters_size counters) s + number_count (stage_at stages s)) (part s)
            (runs_within (stage_at stages s) (node_at stages (suc k) s) (number_at stages (n + counters_size counters) s) (stage_timed stages timed_stages s) (stage_runs core plan delays counters owned stages k n s runs)) (out_of e at s q)
