-- The lines of a report that tell of controllers and transfers.
use Rattle.std.specs.Prelude.{ℕ, ◌+◌, Bool, List, [], ◌++◌, codes, decimal, if◌then◌else◌}
use Rattle.sp_core.specs.declared.node.SparseKind.{SparseKind}
use Rattle.sp_core.specs.declared.node.SparseKind.TheVariants.{Gather, Scatter, WideLoad, WideStore}
use Rattle.sp_core.specs.Declarations.{is_stream}
use Rattle.sp_core.specs.Numbering.{node_count}
use Rattle.sp_core.specs.PlainCore.{PlainNode, PlainStages, inner, outer, fsm, branch, load, store, sparse, no_stage, more_stage}
use Rattle.sp_plan.specs.PlainPlan.{PlainPlan, PlainNodePlan, inner_plan, outer_plan, node_plan}
use Rattle.sp_report.specs.Memories.{numbers_text}

-- how often a group is issued
unfoldable pub issue_text : (ii : ℕ) → (serial : Bool) → List ℕ
issue_text ii serial = if serial then codes " serial" else codes " ii " ++ decimal ii

unfoldable pub inner_text : (ii latency : ℕ) → (serial : Bool) → List ℕ
inner_text ii latency serial = codes "inner" ++ (issue_text ii serial ++ (codes " latency " ++ decimal latency))

-- a plan of another kind tells nothing of an inner body
abbrev pub inner_plan_text : PlainNodePlan → List ℕ
inner_plan_text (inner_plan times ii latency serial) = inner_text ii latency serial
inner_plan_text _ = codes "inner"

-- a slot for each stage
abbrev pub slots_of : PlainNodePlan → List ℕ
slots_of (outer_plan slots chains) = slots
slots_of _ = []

unfoldable pub outer_text : (stream : Bool) → PlainNodePlan → List ℕ
outer_text stream plan = if stream then codes "stream" else codes "outer slots" ++ numbers_text (slots_of plan)

-- a slice in lanes is told as any slice
abbrev pub sparse_text : SparseKind → List ℕ
sparse_text Gather = codes "gather"
sparse_text Scatter = codes "scatter"
sparse_text WideLoad = codes "load"
sparse_text WideStore = codes "store"

abbrev pub node_text : PlainNode → PlainNodePlan → List ℕ
node_text (inner counters owned ops comb) plan = inner_plan_text plan
node_text (outer counters style owned stages) plan = outer_text (is_stream style) plan
node_text (fsm start state test body next) plan = codes "fsm"
node_text (branch test first second) plan = codes "branch"
node_text (load dram mem spans) plan = codes "load"
node_text (store dram mem spans) plan = codes "store"
node_text (sparse kind dram mem index spans count par) plan = sparse_text kind

unfoldable pub node_line : (node : ℕ) → PlainNode → PlainNodePlan → List ℕ
node_line k node plan = codes "ctl " ++ (decimal k ++ (codes " " ++ (node_text node plan ++ codes "\n")))

-- a node's line, then those of the nodes inside of it
module _ (plan : PlainPlan) where
  abbrev mutual
    pub node_lines : (node : ℕ) → PlainNode → List ℕ
    node_lines k (outer counters style owned stages) = node_line k (outer counters style owned stages) (node_plan plan k) ++ stage_lines (k + 1) stages
    node_lines k (fsm start state test body next) = node_line k (fsm start state test body next) (node_plan plan k) ++ node_lines (k + 1) body
    node_lines k (branch test first second) =
        node_line k (branch test first second) (node_plan plan k) ++ (node_lines (k + 1) first ++ node_lines ((k + 1) + node_count first) second)
    node_lines k node = node_line k node (node_plan plan k)

    pub stage_lines : (node : ℕ) → PlainStages → List ℕ
    stage_lines k no_stage = []
    stage_lines k (more_stage first last comb node rest) = node_lines k node ++ stage_lines (k + node_count node) rest
