-- By a valid plan each memory has a copy, and each memory with banks a duplicate.
use Rattle.std.proofs.Common.{◌≡◌, ℕ, suc, ◌+◌, ◌<◌, inl, inr, Bool, true, false, cond, List, [], ◌∷◌, length, ap, arith}
use Rattle.std.proofs.lemmas.Bool.{eqb-true, false≢true}
use Rattle.std.specs.Prelude.{◌==◌, ◌&&◌, ◌||◌, not, max}
use Rattle.sp_core.specs.declared.access.Meet.{Meet}
use Rattle.sp_core.specs.Declarations.{mem, is_among, is_stream}
use Rattle.sp_core.specs.Forms.{PlainForms}
use Rattle.sp_core.specs.Numbering.{counters_size, node_count, number_count}
use Rattle.sp_core.specs.PlainCore.{PlainNode, PlainStages, inner, outer, fsm, branch, load, store, sparse, no_stage, more_stage, PlainCore}
use Rattle.sp_plan.specs.Copies.{is_loop, owned_by_loops, owned_by_stages, slots_between, used_slots, copies as copy_count, are_copied, is_single, readers, duplicates, is_duplicated}
use Rattle.sp_plan.specs.PlainPlan.{PlainNodePlan, inner_plan, outer_plan, other_plan, PlainPlan, mem_plan, node_plan}
use Rattle.sp_plan.specs.Ports.{has_banks}
use Rattle.sp_plan.specs.Validity.{copy_rule}
use Rattle.sp_machine.specs.Transfers.{Delays}
use Rattle.sp_overlap.specs.Whole.{IsTimed, AreTimed, HasPlan}
use Rattle.sp_overlap.proofs.Depths.{all_among}
use Rattle.sp_overlap.proofs.Lanes.{all_below, or_choose}
use Rattle.sp_overlap.proofs.Planned.{Holds, AllHold, outer_holds, fsm_holds, branch_holds, stage_holds}
use Rattle.sp_overlap.proofs.Scoped.{in_two}
use Rattle.sp_core_ports.specs.CopiesLaws.{RunsHaveCopies, PlansHaveCopies}
use Rattle.sp_core_ports.proofs.CopiesBelow.{node_has}

module _ (core : PlainCore) (forms : PlainForms) (meets : List Meet) (plan : PlainPlan) where
  abbrev rule : (k n : ℕ) → Bool → PlainNode → Bool
  rule = copy_rule core forms meets plan

  some_slots : (ns : List ℕ) → 0 < slots_between ns
  some_slots [] = omega arith
  some_slots (x ∷ ns) = omega arith

  some_copies : (m : ℕ) (stages : PlainStages) (p : PlainNodePlan) → 0 < copy_count core m stages p
  some_copies m stages (outer_plan slots chains) = some_slots (used_slots core m stages slots)
  some_copies m stages (inner_plan times ii latency serial) = omega arith
  some_copies m stages other_plan = omega arith

  here : (loop : Bool) (owned : List ℕ) (k : ℕ) (stages : PlainStages) (m : ℕ) → (not loop || are_copied core plan k owned stages) ≡ true → is_among m (cond loop owned []) ≡ true → 0 < (mem_plan plan m).depth
  here true owned k stages m h i =
      let e : (mem_plan plan m).depth ≡ copy_count core m stages (node_plan plan k) = eqb-true _ _ (all_among (λ x. (mem_plan plan x).depth == copy_count core x stages (node_plan plan k)) owned m h i) in
      let s : 0 < copy_count core m stages (node_plan plan k) = some_copies m stages (node_plan plan k) in
      omega arith
  here false owned k stages m h i = absurd (false≢true i)

  mutual
    node_some : (node : PlainNode) (k n m : ℕ) → IsTimed node → Holds rule k n node → is_among m (owned_by_loops node) ≡ true → 0 < (mem_plan plan m).depth
    node_some (inner counters owned ops comb) k n m t h i = absurd (false≢true i)
    node_some (outer counters style owned stages) k n m t h i =
        let q = outer_holds rule k n counters style owned stages t.0 h in
        elim (in_two core m (cond (is_loop counters && not (is_stream style)) owned []) (owned_by_stages stages) i) [
          | inl x ↦ here (is_loop counters && not (is_stream style)) owned k stages m q.0 x
          | inr x ↦ stages_some stages (suc k) (n + counters_size counters) m t.1 q.1 x
        ]
    node_some (fsm start state test body next) k n m t h i = node_some body (suc k) (n + (length start + length test)) m t (fsm_holds rule k n start state test body next h) i
    node_some (branch test first second) k n m t h i =
        let q = branch_holds rule k n test first second h in
        elim (in_two core m (owned_by_loops first) (owned_by_loops second) i) [
          | inl x ↦ node_some first (suc k) (n + length test) m t.0 q.0 x
          | inr x ↦ node_some second (suc k + node_count first) ((n + length test) + number_count first) m t.1 q.1 x
        ]
    node_some (load r s spans) k n m t h i = absurd (false≢true i)
    node_some (store r s spans) k n m t h i = absurd (false≢true i)
    node_some (sparse kind r s places spans count par) k n m t h i = absurd t

    stages_some : (stages : PlainStages) (k n m : ℕ) → AreTimed stages → AllHold rule k n stages → is_among m (owned_by_stages stages) ≡ true → 0 < (mem_plan plan m).depth
    stages_some no_stage k n m t h i = absurd (false≢true i)
    stages_some (more_stage first last comb node rest) k n m t h i =
        let q = stage_holds rule k n first last comb node rest h in
        elim (in_two core m (owned_by_loops node) (owned_by_stages rest) i) [
          | inl x ↦ node_some node k n m t.0 q.0 x
          | inr x ↦ stages_some rest (k + node_count node) (n + number_count node) m t.1 q.1 x
        ]

pub copies_some : (core : PlainCore) (plan : PlainPlan) (forms : PlainForms) (meets : List Meet) → HasPlan core forms meets plan → (m : ℕ) → m < length core.mems → 0 < (mem_plan plan m).depth
copies_some core plan forms meets w m l =
    elim (or_choose (is_among m (owned_by_loops core.root)) ((mem_plan plan m).depth == 1) (all_below (is_single core plan) (length core.mems) m w.valid.single l)) [
      | inl i ↦ node_some core forms meets plan core.root 0 0 m w.is_timed w.valid.copied i
      | inr e ↦ (let q : (mem_plan plan m).depth ≡ 1 = eqb-true _ _ e in omega arith)
    ]

pub duplicates_some : (core : PlainCore) (plan : PlainPlan) (forms : PlainForms) (meets : List Meet) → HasPlan core forms meets plan → (m : ℕ) → m < length core.mems → has_banks (mem core m).kind ≡ true → 0 < (mem_plan plan m).duplicates
duplicates_some core plan forms meets w m l banked =
    let given : (mem_plan plan m).duplicates ≡ duplicates core m = eqb-true _ _ (all_below (is_duplicated core plan) (length core.mems) m w.valid.duplicated l) in
    let all : duplicates core m ≡ max 1 (readers core m core.root) = ap (λ b. cond b (max 1 (readers core m core.root)) 1) banked in
    omega arith

pub plans_have_copies : (core : PlainCore) (plan : PlainPlan) → PlansHaveCopies core plan
plans_have_copies core plan forms meets w m l = record { copy = copies_some core plan forms meets w m l; duplicate = duplicates_some core plan forms meets w m l }

pub runs_have_copies : (core : PlainCore) (plan : PlainPlan) (delays : Delays) → RunsHaveCopies core plan delays
runs_have_copies core plan delays forms meets w h = node_has core plan delays some core.root 0 0 (record { path = []; counters = [] }) (λ m. 0) h some
  where
    some : (m : ℕ) → m < length core.mems → 0 < (mem_plan plan m).depth
    some m l = copies_some core plan forms meets w m l
