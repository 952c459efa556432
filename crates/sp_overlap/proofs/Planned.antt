-- A valid plan has the numbers that a timeline needs.
use Rattle.std.proofs.Common.{◌≡◌, ℕ, suc, ◌+◌, ◌≤◌, Bool, true, false, List, [], ◌∷◌, length, arith, refl, sym, subst, ◌∙◌}
use Rattle.std.proofs.lemmas.Bool.{and_parts, eqb-true, false≢true}
use Rattle.std.specs.Prelude.{◌==◌, ◌&&◌, Option}
use Rattle.sp_words.specs.declared.kind.Style.{Style}
use Rattle.sp_core.specs.declared.access.Meet.{Meet}
use Rattle.sp_core.specs.Declarations.{is_stream}
use Rattle.sp_core.specs.Forms.{PlainForms}
use Rattle.sp_core.specs.Latency.{latency}
use Rattle.sp_core.specs.Numbering.{counters_size, node_count, number_count}
use Rattle.sp_core.specs.PlainCore.{PlainOp, PlainCounter, PlainNode, PlainStages, inner, outer, fsm, branch, load, store, sparse, no_stage, more_stage, PlainCore}
use Rattle.sp_modulo.specs.Times.{end_of}
use Rattle.sp_plan.specs.Bodies.{latencies}
use Rattle.sp_plan.specs.Nodes.{NodeRule, holds_of_each, holds_of_stages}
use Rattle.sp_plan.specs.PlainPlan.{PlainNodePlan, inner_plan, outer_plan, other_plan, PlainPlan, node_plan}
use Rattle.sp_plan.specs.Validity.{stage_count, has_slots, is_kind_of, kind_rule, is_timed, time_rule}
use Rattle.sp_time.specs.Lists.{Each}
use Rattle.sp_machine.specs.Told.{HasSlots, IsPlanned, ArePlanned, AreTimesKept, IsKept, AreKept}
use Rattle.sp_overlap.specs.Whole.{IsTimed, AreTimed}

-- a rule holds of a node and of the nodes in it, none of which stands in a `Stream` block
abbrev pub Holds : NodeRule → (k n : ℕ) → PlainNode → Type 0
Holds rule k n node = holds_of_each rule k n false node ≡ true

abbrev pub AllHold : NodeRule → (k n : ℕ) → PlainStages → Type 0
AllHold rule k n stages = holds_of_stages rule k n false stages ≡ true

pub outer_holds : (rule : NodeRule) (k n : ℕ) (counters : List PlainCounter) (style : Style) (owned : List ℕ) (stages : PlainStages) → is_stream style ≡ false → Holds rule k n (outer counters style owned stages)
    → (rule k n false (outer counters style owned stages) ≡ true) × AllHold rule (suc k) (n + counters_size counters) stages
outer_holds rule k n counters style owned stages e h =
    let q = and_parts (rule k n false (outer counters style owned stages)) (holds_of_stages rule (suc k) (n + counters_size counters) (is_stream style) stages) h in
    (q.0, subst (λ b. holds_of_stages rule (suc k) (n + counters_size counters) b stages ≡ true) e q.1)

pub fsm_holds : (rule : NodeRule) (k n : ℕ) (start : List PlainOp) (state : ℕ) (test : List PlainOp) (body : PlainNode) (next : List PlainOp) → Holds rule k n (fsm start state test body next) → Holds rule (suc k) (n + (length start + length test)) body
fsm_holds rule k n start state test body next h = (and_parts (rule k n false (fsm start state test body next)) (holds_of_each rule (suc k) (n + (length start + length test)) false body) h).1

pub branch_holds : (rule : NodeRule) (k n : ℕ) (test : List PlainOp) (first second : PlainNode) → Holds rule k n (branch test first second) → Holds rule (suc k) (n + length test) first × Holds rule (suc k + node_count first) ((n + length test) + number_count first) second
branch_holds rule k n test first second h =
    and_parts (holds_of_each rule (suc k) (n + length test) false first) (holds_of_each rule (suc k + node_count first) ((n + length test) + number_count first) false second)
    (and_parts (rule k n false (branch test first second)) (holds_of_each rule (suc k) (n + length test) false first && holds_of_each rule (suc k + node_count first) ((n + length test) + number_count first) false second) h).1

pub stage_holds : (rule : NodeRule) (k n first last : ℕ) (comb : Bool) (node : PlainNode) (rest : PlainStages) → AllHold rule k n (more_stage first last comb node rest) → Holds rule k n node × AllHold rule (k + node_count node) (n + number_count node) rest
stage_holds rule k n first last comb node rest h = and_parts (holds_of_each rule k n false node) (holds_of_stages rule (k + node_count node) (n + number_count node) false rest) h

-- an outer body's plan
pub record OuterPlan (p : PlainNodePlan) (count : ℕ) : Type 0 where
  pub slots : List ℕ
  pub chains : List ℕ
  pub is : p ≡ outer_plan slots chains
  pub many_slots : length slots ≡ count
  pub many_chains : length chains ≡ count

pub outer_plan_of : (p : PlainNodePlan) (counters : List PlainCounter) (style : Style) (owned : List ℕ) (stages : PlainStages) → is_stream style ≡ false → is_kind_of (outer counters style owned stages) p ≡ true → OuterPlan p (stage_count stages)
outer_plan_of (outer_plan slots chains) counters style owned stages e h =
    let h2 : has_slots false (stage_count stages) (length slots) (length chains) ≡ true = subst (λ b. has_slots b (stage_count stages) (length slots) (length chains) ≡ true) e h in
    let q = and_parts (length slots == stage_count stages) (length chains == stage_count stages) h2 in
    record { slots = slots; chains = chains; is = refl; many_slots = eqb-true _ _ q.0; many_chains = eqb-true _ _ q.1 }
outer_plan_of (inner_plan times ii latency serial) counters style owned stages e h = absurd (false≢true h)
outer_plan_of other_plan counters style owned stages e h = absurd (false≢true h)

-- an inner body's plan
pub record InnerPlan (p : PlainNodePlan) (count : ℕ) : Type 0 where
  pub times : List ℕ
  pub ii : ℕ
  pub latency_is : ℕ
  pub serial : Bool
  pub is : p ≡ inner_plan times ii latency_is serial
  pub many : length times ≡ count

pub inner_plan_of : (p : PlainNodePlan) (counters : List PlainCounter) (owned : List ℕ) (ops : List PlainOp) (comb : Option ℕ) → is_kind_of (inner counters owned ops comb) p ≡ true → InnerPlan p (length ops)
inner_plan_of (inner_plan times ii latency serial) counters owned ops comb h = record { times = times; ii = ii; latency_is = latency; serial = serial; is = refl; many = eqb-true _ _ h }
inner_plan_of (outer_plan slots chains) counters owned ops comb h = absurd (false≢true h)
inner_plan_of other_plan counters owned ops comb h = absurd (false≢true h)

times_over : (ls times : List ℕ) → length times ≡ length ls → Each (λ t. t ≤ end_of ls times) times
times_over ls [] e = tt
times_over [] (t ∷ times) e = absurd (omega (arith, e))
times_over (l ∷ ls) (t ∷ times) e = (omega arith, more times (times_over ls times (let q : suc (length times) ≡ suc (length ls) = e in omega arith)))
  where
    more : (ts : List ℕ) → Each (λ x. x ≤ end_of ls times) ts → Each (λ x. x ≤ end_of (l ∷ ls) (t ∷ times)) ts
    more [] h = tt
    more (x ∷ ts) h = (let a : x ≤ end_of ls times = h.0 in omega arith, more ts h.1)

module _ (core : PlainCore) (forms : PlainForms) (meets : List Meet) (plan : PlainPlan) where
  abbrev kinds : NodeRule
  kinds = kind_rule core forms meets plan

  abbrev times_rule : NodeRule
  times_rule = time_rule core forms meets plan

  map_count : (ops : List PlainOp) → length (latencies core ops) ≡ length ops
  map_count [] = refl
  map_count (op ∷ ops) = let e : length (latencies core ops) ≡ length ops = map_count ops in omega arith

  inner_kept : (p : PlainNodePlan) (counters : List PlainCounter) (owned : List ℕ) (ops : List PlainOp) (comb : Option ℕ) (n : ℕ) → is_kind_of (inner counters owned ops comb) p ≡ true → is_timed core forms meets plan n false (inner counters owned ops comb) p ≡ true → AreTimesKept p
  inner_kept (inner_plan times ii latency_is serial) counters owned ops comb n h t =
      let many : length times ≡ length ops = eqb-true _ _ h in
      let e : latency_is ≡ end_of (latencies core ops) times = eqb-true _ _ (and_parts _ _ (and_parts _ _ t).0).1 in
      subst (λ l. Each (λ x. x ≤ l) times) (sym e) (times_over (latencies core ops) times (many ∙ sym (map_count ops)))
  inner_kept (outer_plan slots chains) counters owned ops comb n h t = absurd (false≢true h)
  inner_kept other_plan counters owned ops comb n h t = absurd (false≢true h)

  has_slots_of : (p : PlainNodePlan) (count : ℕ) → OuterPlan p count → HasSlots p count
  has_slots_of p count o = subst (λ q. HasSlots q count) (sym o.is) (o.many_slots, o.many_chains)

  mutual
    pub node_planned : (node : PlainNode) (k n : ℕ) → IsTimed node → Holds kinds k n node → IsPlanned plan k node
    node_planned (inner counters owned ops comb) k n t h = tt
    node_planned (outer counters style owned stages) k n t h =
        let q = outer_holds kinds k n counters style owned stages t.0 h in
        (t.0, has_slots_of (node_plan plan k) (stage_count stages) (outer_plan_of (node_plan plan k) counters style owned stages t.0 q.0), stages_planned stages (suc k) (n + counters_size counters) t.1 q.1)
    node_planned (fsm start state test body next) k n t h = node_planned body (suc k) (n + (length start + length test)) t (fsm_holds kinds k n start state test body next h)
    node_planned (branch test first second) k n t h =
        let q = branch_holds kinds k n test first second h in
        (node_planned first (suc k) (n + length test) t.0 q.0, node_planned second (suc k + node_count first) ((n + length test) + number_count first) t.1 q.1)
    node_planned (load r m spans) k n t h = tt
    node_planned (store r m spans) k n t h = tt
    node_planned (sparse kind r m places spans count par) k n t h = absurd t

    pub stages_planned : (stages : PlainStages) (k n : ℕ) → AreTimed stages → AllHold kinds k n stages → ArePlanned plan k stages
    stages_planned no_stage k n t h = tt
    stages_planned (more_stage first last comb node rest) k n t h =
        let q = stage_holds kinds k n first last comb node rest h in
        (node_planned node k n t.0 q.0, stages_planned rest (k + node_count node) (n + number_count node) t.1 q.1)

  mutual
    pub node_kept : (node : PlainNode) (k n : ℕ) → IsTimed node → Holds kinds k n node → Holds times_rule k n node → IsKept plan k node
    node_kept (inner counters owned ops comb) k n t h w = inner_kept (node_plan plan k) counters owned ops comb n h w
    node_kept (outer counters style owned stages) k n t h w =
        stages_kept stages (suc k) (n + counters_size counters) t.1 (outer_holds kinds k n counters style owned stages t.0 h).1 (outer_holds times_rule k n counters style owned stages t.0 w).1
    node_kept (fsm start state test body next) k n t h w = node_kept body (suc k) (n + (length start + length test)) t (fsm_holds kinds k n start state test body next h) (fsm_holds times_rule k n start state test body next w)
    node_kept (branch test first second) k n t h w =
        let q = branch_holds kinds k n test first second h in
        let r = branch_holds times_rule k n test first second w in
        (node_kept first (suc k) (n + length test) t.0 q.0 r.0, node_kept second (suc k + node_count first) ((n + length test) + number_count first) t.1 q.1 r.1)
    node_kept (load r m spans) k n t h w = tt
    node_kept (store r m spans) k n t h w = tt
    node_kept (sparse kind r m places spans count par) k n t h w = tt

    stages_kept : (stages : PlainStages) (k n : ℕ) → AreTimed stages → AllHold kinds k n stages → AllHold times_rule k n stages → AreKept plan k stages
    stages_kept no_stage k n t h w = tt
    stages_kept (more_stage first last comb node rest) k n t h w =
        let q = stage_holds kinds k n first last comb node rest h in
        let r = stage_holds times_rule k n first last comb node rest w in
        (node_kept node k n t.0 q.0 r.0, stages_kept rest (k + node_count node) (n + number_count node) t.1 q.1 r.1)
