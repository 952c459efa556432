-- The size of a core where each of its parts counts as often as the controllers around it have lanes together.
use Rattle.std.specs.Prelude.{ℕ, ◌+◌, ◌*◌, ◌^◌, ◌≤◌, length, sum_by, if◌then◌else◌}
use Rattle.sp_core.specs.Around.{is_port_kind, lanes_of}
use Rattle.sp_core.specs.Declarations.{mem}
use Rattle.sp_core.specs.Elements.{numbers_below}
use Rattle.sp_core.specs.Numbering.{counters_size, spans_size}
use Rattle.sp_core.specs.PlainCore.{PlainNode, PlainStages, inner, outer, fsm, branch, load, store, sparse, no_stage, more_stage, PlainCore}
use Rattle.sp_lane_rules.specs.Copies.{copies_in}

-- nodes and operations, by the product of the lanes around; bounds stand outside of their controller
abbrev mutual
  pub node_weight : (around : ℕ) → PlainNode → ℕ
  node_weight around (inner counters owned ops comb) = around * (1 + counters_size counters) + around * lanes_of counters * length ops
  node_weight around (outer counters style owned stages) = around * (1 + counters_size counters) + stages_weight (around * lanes_of counters) stages
  node_weight around (fsm start state test body next) = around * (1 + length start + length test + length next) + node_weight around body
  node_weight around (branch test first second) = around * (1 + length test) + node_weight around first + node_weight around second
  node_weight around (load dram mem spans) = around * (1 + spans_size spans)
  node_weight around (store dram mem spans) = around * (1 + spans_size spans)
  node_weight around (sparse kind dram mem index spans count par) = around * (1 + spans_size spans + length count)

  pub stages_weight : (around : ℕ) → PlainStages → ℕ
  stages_weight around no_stage = 0
  stages_weight around (more_stage first last comb node rest) = node_weight around node + stages_weight around rest

-- a memory, by the lanes in which its owner stands; arguments and outputs have none
abbrev pub memory_weight : PlainCore → ℕ → ℕ
memory_weight core m = if is_port_kind (mem core m).kind then 1 else copies_in core.root m

-- with the DRAMs, each of them once
abbrev pub weighted_size : PlainCore → ℕ
weighted_size core = node_weight 1 core.root + sum_by (memory_weight core) (numbers_below (length core.mems)) + length core.ports.drams

-- small enough for its lanes to stand one after the other
abbrev pub IsLight : PlainCore → Type 0
IsLight core = weighted_size core ≤ 2 ^ 24
