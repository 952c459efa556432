-- The numbers of a core are small.
use Rattle.std.proofs.Common.{◌+◌, ◌<◌, ◌≤◌, ◌^◌, List, [], Option, arith, ℕ}
use Rattle.std.proofs.lemmas.Bool.{ltb-true, false≢true}
use Rattle.sp_netlist.specs.Draft.{Draft}
use Rattle.sp_core.specs.Around.{nothing}
use Rattle.sp_core.specs.Invariant.{IsCore}
use Rattle.sp_core.specs.Numbering.{node_count, node_count_in, number_count, number_count_in, operation_count, operation_count_in, core_size}
use Rattle.sp_core.specs.PlainCore.{PlainNode, PlainStages, inner, outer, fsm, branch, load, store, sparse, no_stage, more_stage, PlainCore}
use Rattle.sp_plan.specs.PlainPlan.{PlainPlan}
use Rattle.sp_plan_times.specs.Times.{PlansLeaveTime}
use Rattle.sp_stage_places.specs.Planned.{PlansHavePlaces}
use Rattle.sp_op_nets.specs.Table.{StandAround}
use Rattle.sp_tree_handed.specs.Moves.{HaveEnds}
use Rattle.sp_tree_nets.specs.Emitted.{CanEmit}
use Rattle.sp_tree_nets.specs.Whole.{HasTreePlan}

-- a transfer has a number of its own
mutual
  few_numbers : (node : PlainNode) → number_count node ≤ operation_count node + node_count node
  few_numbers (inner counters owned ops comb) = omega arith
  few_numbers (outer counters style owned stages) = (let l = few_in stages in omega (arith, l))
  few_numbers (fsm start state test body next) = (let l = few_numbers body in omega (arith, l))
  few_numbers (branch test first second) = (let l = few_numbers first in let r = few_numbers second in omega (arith, l, r))
  few_numbers (load r m spans) = omega arith
  few_numbers (store r m spans) = omega arith
  few_numbers (sparse kind r m index spans count par) = omega arith

  few_in : (stages : PlainStages) → number_count_in stages ≤ operation_count_in stages + node_count_in stages
  few_in no_stage = omega arith
  few_in (more_stage first last comb node rest) = (let l = few_numbers node in let r = few_in rest in omega (arith, l, r))

module _ (core : PlainCore) (is : IsCore core) where
  size : core_size core < 2 ^ 29
  size = ltb-true _ _ is.size

  pub few_nodes : 0 + node_count core.root ≤ 2 ^ 30
  few_nodes = (let s = size in omega (arith, s))

  pub numbers_small : 0 + number_count core.root < 2 ^ 30
  numbers_small = (let s = size in let l = few_numbers core.root in omega (arith, s, l))

pub nobody_stands : (d : Draft) → StandAround d [] nothing.counters
nobody_stands d c lane has = absurd (false≢true has)

-- by such a plan the whole tree can be emitted
pub can_emit : (d : Draft) (core : PlainCore) (plan : PlainPlan) (ends : List (Option ℕ)) → IsCore core → HaveEnds d ends core.root 0 → HasTreePlan core plan → PlansLeaveTime → PlansHavePlaces → CanEmit d core plan [] ends core.root 0 0
can_emit d core plan ends is stand h times places = record {
  around = nothing;
  earlier = [];
  right = is.nodes;
  stand = nobody_stands d;
  timed = h.timed;
  have_ends = stand;
  times = times core h.forms h.meets plan is h.timed h.valid h.latencies;
  places = places core h.forms h.meets plan is h.timed h.valid;
  planned = (let e = h.valid.nodes in omega (arith, e));
  nodes = few_nodes core is;
  numbers = numbers_small core is;
}
