-- The plain value of each part of a core as it is declared.
use Rattle.std.specs.Prelude.{List, [], ◌∷◌, map, string_bytes}
use Rattle.sp_core.specs.declared.memory.CoreMem.{CoreMem}
use Rattle.sp_core.specs.declared.node.CoreCounter.{CoreCounter}
use Rattle.sp_core.specs.declared.node.CoreSpan.{CoreSpan}
use Rattle.sp_core.specs.declared.node.CoreSpan.TheVariants.{One, Range}
use Rattle.sp_core.specs.declared.node.Node.{Node, Inner, Outer', Fsm', Branch', Load, Store, Sparse, Row_of-Stage, end_of-Stage, more_of-Stage}
use Rattle.sp_core.specs.declared.node.Stage.{Stage}
use Rattle.sp_core.specs.declared.operation.Op.{Op}
use Rattle.sp_core.specs.PlainCore.{PlainOp, PlainCounter, PlainSpan, single, range, PlainNode, PlainStages, inner, outer, fsm, branch, load, store, sparse, no_stage, more_stage, PlainMem}

abbrev pub plain_op : Op → PlainOp
plain_op op = record { kind = op.kind; ty = op.ty; args = op.args.items; mem = op.mem; mask = op.mask }

abbrev pub plain_ops : List Op → List PlainOp
plain_ops ops = map plain_op ops

abbrev pub plain_counter : CoreCounter → PlainCounter
plain_counter c = record { number = c.id; from = plain_ops c.from.items; until = plain_ops c.until.items; by = c.by; par = c.par }

abbrev pub plain_span : CoreSpan → PlainSpan
plain_span (One ops) = single (plain_ops ops.items)
plain_span (Range a b) = range (plain_ops a.items) (plain_ops b.items)

abbrev mutual
  pub plain_node : Node → PlainNode
  plain_node (Inner counters owned ops comb) = inner (map plain_counter counters.items) owned.items (plain_ops ops.items) comb
  plain_node (Outer' counters style owned shape stages) = outer (map plain_counter counters.items) style owned.items (plain_stages stages)
  plain_node (Fsm' start state test p body next) = fsm (plain_ops start.items) state (plain_ops test.items) (plain_node body) (plain_ops next.items)
  plain_node (Branch' test p first q second) = branch (plain_ops test.items) (plain_node first) (plain_node second)
  plain_node (Load dram mem span) = load dram mem (map plain_span span.items)
  plain_node (Store dram mem span) = store dram mem (map plain_span span.items)
  plain_node (Sparse kind dram mem index span count par) = sparse kind dram mem index (map plain_span span.items) (plain_ops count.items) par

  pub plain_stages : {m : _} → Row_of-Stage m → PlainStages
  plain_stages end_of-Stage = no_stage
  plain_stages (more_of-Stage first last comb node rest) = more_stage first last comb (plain_node node) (plain_stages rest)

abbrev pub plain_mem : CoreMem → PlainMem
plain_mem m = record { name = string_bytes m.name; kind = m.kind; ty = m.ty; dims = m.dims.items; start = m.start; written = m.written }

-- stages that stand in a list
abbrev pub plain_stage_list : List Stage → PlainStages
plain_stage_list [] = no_stage
plain_stage_list (s ∷ rest) = more_stage s.first s.last s.comb (plain_node s.node) (plain_stage_list rest)
