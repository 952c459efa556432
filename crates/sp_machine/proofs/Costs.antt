-- A run takes no longer than its cost by the plan's numbers, where no transfer waits longer than a delay.
use Rattle.std.proofs.Common.{◌≡◌, ℕ, zero, suc, ◌+◌, ◌*◌, ◌≤◌, true, false, ℤ, List, [], ◌∷◌, length, max, arith, refl, sym, subst, ◌∙◌}
use Rattle.std.proofs.lemmas.Bool.{true≢false}
use Rattle.std.proofs.Math.Nat.{mul-suc, mul-le-mul_right}
use Rattle.std.specs.Prelude.{slice_index, slice_index_or}
use Rattle.sp_words.specs.declared.kind.Style.{Style}
use Rattle.sp_words.specs.declared.kind.Style.TheVariants.{Pipe, Sequential, Parallel, Stream}
use Rattle.sp_core.specs.Cost as cost
use Rattle.sp_core.specs.Cost.{group_count, waits, cost_at, beats_cost, inner_cost, list_cost, transfer_cost, outer_cost, cost, group_costs, stage_costs, turns_cost}
use Rattle.sp_core.specs.Declarations.{is_stream}
use Rattle.sp_core.specs.Events.{At, Standing, inside_at, in_group_of, in_turn}
use Rattle.sp_core.specs.History.{Entry, History, Groups, Runs, Turns, inner_ran, outer_ran, fsm_ran, branch_ran, moved, no_group, more_group, no_run, masked_run, more_run, no_turn, more_turn}
use Rattle.sp_core.specs.Numbering.{counters_size, node_count, number_count}
use Rattle.sp_core.specs.PlainCore.{PlainOp, PlainNode, PlainStages, inner, outer, fsm, branch, load, store, no_stage, more_stage, PlainCore}
use Rattle.sp_core.specs.Scope.{in_lanes, loops_of, group_values}
use Rattle.sp_core.specs.Shape.{shape_of, group_shapes, stage_shapes, body_shapes}
use Rattle.sp_plan.specs.PlainPlan.{PlainNodePlan, inner_plan, outer_plan, other_plan, PlainPlan, node_plan}
use Rattle.sp_time.specs.Beats.{Run, took_at, no_time, whole}
use Rattle.sp_time.specs.Lists.{total}
use Rattle.sp_machine.specs.Stamps.{Stamped, Copies}
use Rattle.sp_machine.specs.Timeline.{timed, group_runs, stage_runs, turn_runs, in_copies, slots_of, inner_took, interval_of, latency_of, issued_by}
use Rattle.sp_machine.specs.Told.{plan_timings, timing_of, HasSlots, IsPlanned, ArePlanned, IsCounted, AreCounted, RunsCounted, TurnsCounted}
use Rattle.sp_machine.specs.Transfers.{Delays, transfer_took}
use Rattle.sp_time.proofs.ListLemmas.{total_mono}
use Rattle.sp_machine.proofs.AtOnce.{by_pace}
use Rattle.sp_machine.proofs.Beats.{whole_under}

-- runs and costs of a group's stages, and of groups, one by one
abbrev RowUnder : List (Run Stamped) → List ℕ → Type 0
RowUnder [] costs = Unit {0}
RowUnder (r ∷ row) [] = ⊥
RowUnder (r ∷ row) (c ∷ costs) = (r.took ≤ c) × RowUnder row costs

abbrev TableUnder : List (List (Run Stamped)) → List (List ℕ) → Type 0
TableUnder [] costs = Unit {0}
TableUnder (row ∷ rows) [] = ⊥
TableUnder (row ∷ rows) (c ∷ costs) = RowUnder row c × TableUnder rows costs

row_under : (row : List (Run Stamped)) (costs : List ℕ) → RowUnder row costs → (s : ℕ) → (slice_index_or row s no_time).took ≤ slice_index costs s
row_under [] costs h s = omega arith
row_under (r ∷ row) [] h s = absurd h
row_under (r ∷ row) (c ∷ costs) h zero = h.0
row_under (r ∷ row) (c ∷ costs) h (suc s) = row_under row costs h.1 s

table_under : (runs : List (List (Run Stamped))) (costs : List (List ℕ)) → TableUnder runs costs → (k s : ℕ) → took_at runs k s ≤ slice_index (slice_index_or costs k []) s
table_under [] costs h k s = omega arith
table_under (row ∷ rows) [] h k s = absurd h
table_under (row ∷ rows) (c ∷ costs) h zero s = row_under row c h.0 s
table_under (row ∷ rows) (c ∷ costs) h (suc k) s = table_under rows costs h.1 k s

table_length : (runs : List (List (Run Stamped))) (costs : List (List ℕ)) → TableUnder runs costs → length runs ≤ length costs
table_length [] costs h = omega arith
table_length (row ∷ rows) [] h = absurd h
table_length (row ∷ rows) (c ∷ costs) h = let a : length rows ≤ length costs = table_length rows costs h.1 in omega arith

table_over : (runs : List (List (Run Stamped))) (n : ℕ) → length runs ≤ n → (k s : ℕ) → n ≤ k → took_at runs k s ≡ 0
table_over [] n l k s q = refl
table_over (row ∷ rows) zero l k s q = absurd (omega (arith, l))
table_over (row ∷ rows) (suc n) l zero s q = absurd (omega (arith, q))
table_over (row ∷ rows) (suc n) l (suc k) s q = table_over rows n (let a : suc (length rows) ≤ suc n = l in omega arith) k s (let a : suc n ≤ suc k = q in omega arith)

-- an outer body by its plan
outer_under : (p : PlainNodePlan) (n : ℕ) → HasSlots p n → (runs : List (List (Run Stamped))) (costs : List (List ℕ)) → TableUnder runs costs
    → whole (slots_of p) (took_at runs) (length runs) ≤ beats_cost (cost.slots_of (timing_of p)) (cost.chains_of (timing_of p)) costs
outer_under (outer_plan slots chains) n h runs costs t =
    whole_under slots chains (took_at runs) costs (h.0 ∙ sym h.1) (table_under runs costs t) (λ k s q. table_over runs (length costs) (table_length runs costs t) k s q) (length runs) (table_length runs costs t)
outer_under (inner_plan times ii latency serial) n h runs costs t = absurd h
outer_under other_plan n h runs costs t = absurd h

inner_under : (core : PlainCore) (plan : PlainPlan) (d m n : ℕ) (p : PlainNodePlan) → m ≤ n → inner_took m (interval_of p) (latency_of p) ≤ inner_cost core (plan_timings plan) d n (cost.ii_of (timing_of p)) (cost.latency_of (timing_of p))
inner_under core plan d m n (inner_plan times ii latency serial) l = go m n l
  where
    go : (m n : ℕ) → m ≤ n → inner_took m ii latency ≤ inner_cost core (plan_timings plan) d n ii latency
    go zero zero l = omega arith
    go zero (suc n) l = omega arith
    go (suc m) zero l = absurd (omega (arith, l))
    go (suc m) (suc n) l = let a : m * ii ≤ n * ii = mul-le-mul_right ii (omega (arith, l)) in omega arith
inner_under core plan d m n (outer_plan slots chains) l = go m n l
  where
    go : (m n : ℕ) → m ≤ n → inner_took m 0 0 ≤ inner_cost core (plan_timings plan) d n 0 0
    go zero zero l = omega arith
    go zero (suc n) l = omega arith
    go (suc m) zero l = absurd (omega (arith, l))
    go (suc m) (suc n) l = omega arith
inner_under core plan d m n other_plan l = go m n l
  where
    go : (m n : ℕ) → m ≤ n → inner_took m 0 0 ≤ inner_cost core (plan_timings plan) d n 0 0
    go zero zero l = omega arith
    go zero (suc n) l = omega arith
    go (suc m) zero l = absurd (omega (arith, l))
    go (suc m) (suc n) l = omega arith

-- one that does all of its groups at once takes no longer
issued_under : (core : PlainCore) (plan : PlainPlan) (d m n : ℕ) (ops : List PlainOp) (p : PlainNodePlan) → m ≤ n
    → inner_took m (interval_of (issued_by core ops p)) (latency_of (issued_by core ops p)) ≤ inner_cost core (plan_timings plan) d n (cost.ii_of (timing_of p)) (cost.latency_of (timing_of p))
issued_under core plan d m n ops p l =
    by_pace core ops p (λ r. inner_took m (interval_of r) (latency_of r) ≤ inner_cost core (plan_timings plan) d n (cost.ii_of (timing_of p)) (cost.latency_of (timing_of p)))
    (λ z w. at_once m n (cost.ii_of (timing_of p)) (cost.latency_of (timing_of p))) (inner_under core plan d m n p l)
  where
    at_once : (m n ii latency : ℕ) → inner_took m 0 0 ≤ inner_cost core (plan_timings plan) d n ii latency
    at_once zero zero ii latency = omega arith
    at_once zero (suc n) ii latency = omega arith
    at_once (suc m) zero ii latency = omega arith
    at_once (suc m) (suc n) ii latency = omega arith

-- a transfer that waits no longer than a delay each time
total_under : (f : ℕ → ℕ) (d n : ℕ) → ((i : ℕ) → f i ≤ d) → total f n ≤ d * n
total_under f d zero h = omega arith
total_under f d (suc n) h = let a : total f n ≤ d * n = total_under f d n h in let b : f n ≤ d = h n in let c : d * suc n ≡ d * n + d = mul-suc d n in omega arith

transfer_under : (core : PlainCore) (plan : PlainPlan) (f : ℕ → ℕ) (d w : ℕ) → ((i : ℕ) → f i ≤ d) → transfer_took f w ≤ transfer_cost core (plan_timings plan) d w
transfer_under core plan f d w h =
    let few : total f (waits w) ≤ total f (max 1 (waits w)) = total_mono f (waits w) (max 1 (waits w)) (omega arith) in
    let a : total f (max 1 (waits w)) ≤ d * max 1 (waits w) = total_under f d (max 1 (waits w)) h in omega arith

-- one that is no `Stream` block costs its beats
outer_cost_is : (core : PlainCore) (plan : PlainPlan) (d : ℕ) (style : Style) (t : cost.Timing) (costs : List (List ℕ)) → is_stream style ≡ false → outer_cost core (plan_timings plan) d style t costs ≡ beats_cost (cost.slots_of t) (cost.chains_of t) costs
outer_cost_is core plan d Pipe t costs e = refl
outer_cost_is core plan d Sequential t costs e = refl
outer_cost_is core plan d Parallel t costs e = refl
outer_cost_is core plan d Stream t costs e = absurd (true≢false e)

module _ (core : PlainCore) (plan : PlainPlan) (delays : Delays) (d : ℕ) (waited : (k : ℕ) (path : List At) (ask : ℕ) → delays k path ask ≤ d) where
  abbrev costs_of : PlainNode → ℕ → History → ℕ
  costs_of node k h = cost core (plan_timings plan) d node k (shape_of node h)

  mutual
    unfolding timed group_runs stage_runs turn_runs cost group_costs stage_costs turns_cost shape_of group_shapes stage_shapes body_shapes

    pub node_under : (node : PlainNode) (k n : ℕ) (st : Standing) (copies : Copies) (h : History) → IsPlanned plan k node → IsCounted node h → (timed core plan delays node k n st copies h).took ≤ costs_of node k h
    node_under (inner counters owned ops comb) k n st copies (inner_ran bs counts groups) p c = issued_under core plan d (length groups) (group_count counters counts) ops (node_plan plan k) c
    node_under (outer counters style owned stages) k n st copies (outer_ran bs counts groups) p c =
        let runs = group_runs core plan delays stages k (n + counters_size counters) 0 st owned copies (group_values (loops_of in_lanes counters bs)) groups in
        let costs = group_costs core (plan_timings plan) d stages (suc k) (group_shapes stages groups) in
        let t : TableUnder runs costs = groups_under stages k (n + counters_size counters) 0 st owned copies (group_values (loops_of in_lanes counters bs)) groups p.2 c in
        subst (λ x. whole (slots_of (node_plan plan k)) (took_at runs) (length runs) ≤ x) (sym (outer_cost_is core plan d style (plan_timings plan k) costs p.0)) (outer_under (node_plan plan k) _ p.1 runs costs t)
    node_under (fsm start state test body next) k n st copies (fsm_ran first ts last) p c =
        let a : (turn_runs core plan delays start state test body next k n 0 st copies ts last).took ≤ list_cost core (plan_timings plan) d test + turns_cost core (plan_timings plan) d test body next (suc k) (body_shapes body ts) =
        turns_under start state test body next k n 0 st copies ts last p c in
        omega arith
    node_under (branch test first second) k n st copies (branch_ran es true h) p c =
        let a : (timed core plan delays first (suc k) (n + length test) (inside_at st k (in_turn 0) []) copies h).took ≤ costs_of first (suc k) h = node_under first (suc k) (n + length test) (inside_at st k (in_turn 0) []) copies h p.0 c in
        omega arith
    node_under (branch test first second) k n st copies (branch_ran es false h) p c =
        let a : (timed core plan delays second (suc k + node_count first) (n + (length test + number_count first)) (inside_at st k (in_turn 0) []) copies h).took ≤ costs_of second (suc k + node_count first) h =
        node_under second (suc k + node_count first) (n + (length test + number_count first)) (inside_at st k (in_turn 0) []) copies h p.1 c in
        omega arith
    node_under (load r m spans) k n st copies (moved taken words) p c = transfer_under core plan (delays k st.path) d (length words) (waited k st.path)
    node_under (store r m spans) k n st copies (moved taken words) p c = transfer_under core plan (delays k st.path) d (length words) (waited k st.path)
    node_under node k n st copies h p c = omega arith

    groups_under : (stages : PlainStages) (k n g : ℕ) (st : Standing) (owned : List ℕ) (copies : Copies) (values : List (List ℤ)) (groups : Groups) → ArePlanned plan (suc k) stages → AreCounted stages groups
        → TableUnder (group_runs core plan delays stages k n g st owned copies values groups) (group_costs core (plan_timings plan) d stages (suc k) (group_shapes stages groups))
    groups_under stages k n g st owned copies (v ∷ values) (more_group rs rest) p c =
        (stages_under stages k n 0 g (suc k) v st (in_copies core plan delays owned g copies) rs p c.0, groups_under stages k n (suc g) st owned copies values rest p c.1)
    groups_under stages k n g st owned copies [] groups p c = tt
    groups_under stages k n g st owned copies (v ∷ values) no_group p c = tt

    stages_under : (stages : PlainStages) (k n s g j : ℕ) (v : List ℤ) (st : Standing) (copies : Copies) (rs : Runs) → ArePlanned plan j stages → RunsCounted stages rs
        → RowUnder (stage_runs core plan delays stages k n s g j v st copies rs) (stage_costs core (plan_timings plan) d stages j (stage_shapes stages rs))
    stages_under (more_stage first last comb node rest) k n s g j v st copies (more_run h rs) p c =
        (node_under node j n (inside_at st k (in_group_of g s) v) copies h p.0 c.0, stages_under rest k (n + number_count node) (suc s) g (j + node_count node) v st copies rs p.1 c.1)
    stages_under (more_stage first last comb node rest) k n s g j v st copies (masked_run rs) p c =
        (omega arith, stages_under rest k (n + number_count node) (suc s) g (j + node_count node) v st copies rs p.1 c)
    stages_under (more_stage first last comb node rest) k n s g j v st copies no_run p c = tt
    stages_under no_stage k n s g j v st copies rs p c = tt

    turns_under : (start : List PlainOp) (state : ℕ) (test : List PlainOp) (body : PlainNode) (next : List PlainOp) (k n t : ℕ) (st : Standing) (copies : Copies) (ts : Turns) (last : List Entry) → IsPlanned plan (suc k) body → TurnsCounted body ts
        → (turn_runs core plan delays start state test body next k n t st copies ts last).took ≤ list_cost core (plan_timings plan) d test + turns_cost core (plan_timings plan) d test body next (suc k) (body_shapes body ts)
    turns_under start state test body next k n t st copies no_turn last p c = omega arith
    turns_under start state test body next k n t st copies (more_turn es h ns rest) last p c =
        let at : Standing = inside_at st k (in_turn t) [] in
        let a : (timed core plan delays body (suc k) (n + (length start + length test)) at copies h).took ≤ costs_of body (suc k) h = node_under body (suc k) (n + (length start + length test)) at copies h p c.0 in
        let b : (turn_runs core plan delays start state test body next k n (suc t) st copies rest last).took ≤ list_cost core (plan_timings plan) d test + turns_cost core (plan_timings plan) d test body next (suc k) (body_shapes body rest) =
        turns_under start state test body next k n (suc t) st copies rest last p c.1 in
        omega arith
