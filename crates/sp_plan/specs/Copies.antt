-- How many copies and duplicates memories have.
use Rattle.std.specs.Prelude.{ℕ, ◌+◌, ◌-◌, ◌==◌, max, min, Bool, true, false, ◌&&◌, ◌||◌, not, List, [], ◌∷◌, ◌++◌, fold, Option, Some, if◌then◌else◌}
use Rattle.std.specs.List.{list_all, list_any}
use Rattle.sp_core.specs.declared.node.SparseKind.{SparseKind}
use Rattle.sp_core.specs.declared.node.SparseKind.TheVariants.{Gather, Scatter, WideLoad, WideStore}
use Rattle.sp_core.specs.declared.operation.OpKind.{OpKind}
use Rattle.sp_core.specs.declared.operation.OpKind.TheVariants.{Read}
use Rattle.sp_core.specs.Declarations.{mem, is_among, is_stream}
use Rattle.sp_core.specs.PlainCore.{PlainOp, PlainCounter, PlainNode, PlainStages, inner, outer, fsm, branch, load, store, sparse, no_stage, more_stage, PlainCore}
use Rattle.sp_plan.specs.Named.{uses}
use Rattle.sp_plan.specs.PlainPlan.{PlainNodePlan, outer_plan, PlainPlan, mem_plan, node_plan}
use Rattle.sp_plan.specs.Ports.{has_banks, is_one_mem}
use Rattle.sp_plan.specs.Slots.{is_once}

abbrev pub one_if : Bool → ℕ
one_if b = if b then 1 else 0

-- loops own the memories that have several copies
abbrev pub is_loop : List PlainCounter → Bool
is_loop counters = not (is_once counters)

abbrev mutual
  pub owned_by_loops : PlainNode → List ℕ
  owned_by_loops (outer counters style owned stages) = (if is_loop counters && not (is_stream style) then owned else []) ++ owned_by_stages stages
  owned_by_loops (fsm start state test body next) = owned_by_loops body
  owned_by_loops (branch test first second) = owned_by_loops first ++ owned_by_loops second
  owned_by_loops _ = []

  pub owned_by_stages : PlainStages → List ℕ
  owned_by_stages no_stage = []
  owned_by_stages (more_stage first last comb node rest) = owned_by_loops node ++ owned_by_stages rest

-- from the least slot to the greatest
abbrev pub slots_between : List ℕ → ℕ
slots_between [] = 1
slots_between (s ∷ rest) = (fold max s rest - fold min s rest) + 1

module _ (core : PlainCore) where
  -- the slots of the stages that use a memory
  abbrev pub used_slots : (mem : ℕ) → PlainStages → (slots : List ℕ) → List ℕ
  used_slots m (more_stage first last comb node rest) (s ∷ slots) = (if uses core m node then s ∷ [] else []) ++ used_slots m rest slots
  used_slots m _ _ = []

  abbrev pub copies : (mem : ℕ) → PlainStages → PlainNodePlan → ℕ
  copies m stages (outer_plan slots chains) = slots_between (used_slots m stages slots)
  copies m stages _ = 1

  -- those that a loop owns, by its plan; all others have one copy
  abbrev pub are_copied : (plan : PlainPlan) → (node : ℕ) → (owned : List ℕ) → PlainStages → Bool
  are_copied plan k owned stages = list_all (λ m. (mem_plan plan m).depth == copies m stages (node_plan plan k)) owned

  abbrev pub is_single : (plan : PlainPlan) → (mem : ℕ) → Bool
  is_single plan m = is_among m (owned_by_loops core.root) || ((mem_plan plan m).depth == 1)

  -- an inner body, a start, a test, a next and a store that read a memory have a duplicate each, and so have gathers and
  -- scatters of what they read
  abbrev pub is_read : OpKind → Bool
  is_read Read = true
  is_read _ = false

  abbrev pub reads : (mem : ℕ) → List PlainOp → Bool
  reads m ops = list_any (λ (op : PlainOp). is_read op.kind && is_one_mem op.mem (Some m)) ops

  abbrev pub sparse_reads : SparseKind → (mem : ℕ) → (places : Option ℕ) → ℕ → Bool
  sparse_reads Gather s places m = is_one_mem places (Some m)
  sparse_reads Scatter s places m = (s == m) || is_one_mem places (Some m)
  sparse_reads WideLoad s places m = false
  sparse_reads WideStore s places m = s == m

  abbrev mutual
    pub readers : (mem : ℕ) → PlainNode → ℕ
    readers m (inner counters owned ops comb) = one_if (reads m ops)
    readers m (outer counters style owned stages) = stages_readers m stages
    readers m (fsm start state test body next) = (one_if (reads m start) + one_if (reads m test)) + (readers m body + one_if (reads m next))
    readers m (branch test first second) = one_if (reads m test) + (readers m first + readers m second)
    readers m (load r s spans) = 0
    readers m (store r s spans) = one_if (s == m)
    readers m (sparse kind r s places spans count par) = one_if (sparse_reads kind s places m)

    pub stages_readers : (mem : ℕ) → PlainStages → ℕ
    stages_readers m no_stage = 0
    stages_readers m (more_stage first last comb node rest) = readers m node + stages_readers m rest

  -- a memory without banks has one
  abbrev pub duplicates : (mem : ℕ) → ℕ
  duplicates m = if has_banks (mem core m).kind then max 1 (readers m core.root) else 1

  abbrev pub is_duplicated : (plan : PlainPlan) → (mem : ℕ) → Bool
  is_duplicated plan m = (mem_plan plan m).duplicates == duplicates m
