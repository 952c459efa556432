-- What weighs how much.
use Rattle.std.proofs.Common.{ℕ, ◌+◌, ◌≤◌, List, [], ◌∷◌, arith}
use Rattle.sp_core.specs.declared.operation.OpKind.{OpKind}
use Rattle.sp_core.specs.declared.operation.OpKind.TheVariants as kind
use Rattle.sp_core.specs.Cost.{Timings}
use Rattle.sp_core.specs.Latency.{latency_by, read_of, latency, latency_of_all, weight_by, list_weight, weight, stages_weight}
use Rattle.sp_core.specs.PlainCore.{PlainOp, PlainNode, PlainStages, inner, outer, fsm, branch, load, store, sparse, no_stage, more_stage, PlainCore}
use Rattle.sp_core.specs.Numbering.{node_count}
use Rattle.sp_within.specs.Laws.{stages_in, IsBrisk, AreBrisk}

module _ (core : PlainCore) where
  -- an operation weighs no less than it takes
  op_weight : (kd : OpKind) (read : ℕ) → latency_by kd read ≤ weight_by core kd (latency_by kd read)
  op_weight (kind.Word w) read = omega arith
  op_weight (kind.Count c lane) read = omega arith
  op_weight (kind.Live c first last) read = omega arith
  op_weight kd read = omega arith

  pub list_under : (ops : List PlainOp) → latency_of_all core ops ≤ list_weight core ops
  list_under [] = omega arith
  list_under (op ∷ ops) =
      let a : latency core op ≤ weight_by core op.kind (latency core op) = op_weight op.kind (read_of core op.mem) in
      let b : latency_of_all core ops ≤ list_weight core ops = list_under ops in
      omega arith

  -- a node weighs 4 at least
  pub node_some : (timings : Timings) (node : PlainNode) (k : ℕ) → IsBrisk core timings node k → 4 ≤ weight core node
  node_some timings (inner counters owned ops comb) k b = omega arith
  node_some timings (outer counters style owned stages) k b = omega arith
  node_some timings (fsm start state test body next) k b = omega arith
  node_some timings (branch test first second) k b = omega arith
  node_some timings (load r m spans) k b = omega arith
  node_some timings (store r m spans) k b = omega arith
  node_some timings (sparse kind r m places spans count par) k b = let l : 1 ≤ par = b in omega arith

  pub stages_some : (timings : Timings) (stages : PlainStages) (k : ℕ) → AreBrisk core timings stages k → stages_in stages ≤ stages_weight core stages
  stages_some timings no_stage k b = omega arith
  stages_some timings (more_stage first last comb node rest) k b =
      let a : 4 ≤ weight core node = node_some timings node k b.0 in
      let c : stages_in rest ≤ stages_weight core rest = stages_some timings rest (k + node_count node) b.1 in
      omega arith
