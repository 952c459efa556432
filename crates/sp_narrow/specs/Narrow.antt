-- A core whose loads and stores each have one lane: where a slice is moved in several lanes at once, it is moved word by word.
use Rattle.sp_core.specs.declared.node.SparseKind.TheVariants.{WideLoad, WideStore}
use Rattle.sp_core.specs.PlainCore.{PlainNode, PlainStages, outer, fsm, branch, load, store, sparse, no_stage, more_stage, PlainCore}

abbrev mutual
  pub narrow_node : PlainNode → PlainNode
  narrow_node (outer counters style owned stages) = outer counters style owned (narrow_stages stages)
  narrow_node (fsm start state test body next) = fsm start state test (narrow_node body) next
  narrow_node (branch test first second) = branch test (narrow_node first) (narrow_node second)
  narrow_node (sparse WideLoad r m places spans count par) = load r m spans
  narrow_node (sparse WideStore r m places spans count par) = store r m spans
  narrow_node node = node

  pub narrow_stages : PlainStages → PlainStages
  narrow_stages no_stage = no_stage
  narrow_stages (more_stage first last comb node rest) = more_stage first last comb (narrow_node node) (narrow_stages rest)

abbrev pub narrow : PlainCore → PlainCore
narrow core = record core { root = narrow_node core.root }
