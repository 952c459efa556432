-- The nets of the ends of a slice.
use Rattle.std.specs.Prelude.{◌≡◌, ℕ, ◌+◌, true, List, [], ◌∷◌, ◌++◌, map, length}
use Rattle.std.specs.List.{list_all}
use Rattle.sp_netlist.specs.Draft.{Draft}
use Rattle.sp_netlist.specs.Signals.{Signals}
use Rattle.sp_gates.specs.Nets.{HasNet}
use Rattle.sp_gates.specs.Runs.{RunsOn}
use Rattle.sp_core.specs.Around.{Around, Near}
use Rattle.sp_core.specs.NodeRules.{is_span_right}
use Rattle.sp_core.specs.PlainCore.{PlainOp, PlainSpan, single, range, PlainCore}
use Rattle.sp_plan.specs.PlainPlan.{PlainPlan}
use Rattle.sp_node_runs.specs.BodiesGiven.{Nets}
use Rattle.sp_node_runs.specs.BodiesSpans.{SpanNets, one_net, two_nets}
use Rattle.sp_op_nets.specs.declared.acted.ActedList.{ActedList}
use Rattle.sp_op_nets.specs.declared.table.AroundNets.{AroundNets}
use Rattle.sp_op_nets.specs.Acted.{answers_in}
use Rattle.sp_op_nets.specs.Reserved.{Reserves}
use Rattle.sp_op_nets.specs.Table.{nets_at, StandAround}
use Rattle.sp_tree_circuits.specs.Parts.{SpanCircuits}
use Rattle.sp_bound_nets.specs.declared.spans.SpanNet.{SpanNet}
use Rattle.sp_bound_nets.specs.declared.spans.SpanNet.TheVariants.{One, Range}
use Rattle.sp_bound_nets.specs.declared.spans.Spans.{Spans}
use Rattle.sp_bound_nets.specs.Direct.{AreActedLists, IsAlwaysActed}

-- the nets of a span as a circuit's
abbrev pub net_of_span : SpanNet → SpanNets
net_of_span (One net) = one_net net
net_of_span (Range from until) = two_nets from until

abbrev pub nets_of_spans : List SpanNet → List SpanNets
nets_of_spans nets = map net_of_span nets

-- they have 32 bits
abbrev pub HasEnds : Draft → SpanNet → Type 0
HasEnds d (One net) = HasNet d net 32
HasEnds d (Range from until) = HasNet d from 32 × HasNet d until 32

-- the lists of spans: of each that of its index, or those of both ends
abbrev pub span_lists : List PlainSpan → List (List PlainOp)
span_lists [] = []
span_lists (single ops ∷ spans) = ops ∷ span_lists spans
span_lists (range xs ys ∷ spans) = xs ∷ ys ∷ span_lists spans

-- some core has the spans right, and the counters around them stand in the table
pub record AreSpansRight (d : Draft) (table : List AroundNets) (spans : List PlainSpan) : Type 0 where
  pub core : PlainCore
  pub around : Around
  pub right : list_all (is_span_right core around) spans ≡ true
  pub stand : StandAround d table around.counters

module _ (core : PlainCore) (plan : PlainPlan) (s : Signals) (near : List Near) (env : Nets) (d : Draft) where
  -- the operations that are handed on are those of the nets: of each span its index, or those of both ends, by their numbers
  abbrev pub SpansActed : (n : ℕ) (spans : List PlainSpan) (nets : List SpanNets) → SpanCircuits core plan s near env d spans nets → List ActedList → Type 0
  SpansActed n [] [] w acted = acted ≡ []
  SpansActed n (single ops ∷ spans) (one_net net ∷ nets) w (a ∷ acted) = IsAlwaysActed d n w.0.ps a × SpansActed (n + length ops) spans nets w.1 acted
  SpansActed n (range xs ys ∷ spans) (two_nets from until ∷ nets) w (a ∷ b ∷ acted) =
      IsAlwaysActed d n w.0.ps a × IsAlwaysActed d (n + length xs) w.1.ps b × SpansActed (n + (length xs + length ys)) spans nets w.2 acted
  SpansActed n (single ops ∷ spans) (one_net net ∷ nets) w [] = ⊥
  SpansActed n (range xs ys ∷ spans) (two_nets from until ∷ nets) w (a ∷ []) = ⊥
  SpansActed n (range xs ys ∷ spans) (two_nets from until ∷ nets) w [] = ⊥
  SpansActed n [] (net ∷ nets) w acted = ⊥
  SpansActed n (single ops ∷ spans) [] w acted = ⊥
  SpansActed n (single ops ∷ spans) (two_nets from until ∷ nets) w acted = ⊥
  SpansActed n (range xs ys ∷ spans) [] w acted = ⊥
  SpansActed n (range xs ys ∷ spans) (one_net net ∷ nets) w acted = ⊥

  pub record SpansIn (n : ℕ) (spans : List PlainSpan) (nets : List SpanNets) (acted : List ActedList) : Type 0 where
    pub circuits : SpanCircuits core plan s near env d spans nets
    pub acts : SpansActed n spans nets circuits acted

-- so it is in each run of what the draft became, for each core that has the spans right where the counters around them stood
abbrev pub AreSpans : (old new : Draft) → List AroundNets → (number : ℕ) → List PlainSpan → List SpanNets → List ActedList → Type 0
AreSpans old new table number spans nets acted =
    (core : PlainCore) (plan : PlainPlan) (around : Around) → list_all (is_span_right core around) spans ≡ true → StandAround old table around.counters
    → (s : Signals) → RunsOn s new.cells → SpansIn core plan s around.counters (nets_at table) new number spans nets acted

-- a span comes behind others, with the operations of its ends
pub record AddsSpan (old new : Draft) (table : List AroundNets) (number : ℕ) (span : PlainSpan) (before after : Spans) : Type 0 where
  pub net : SpanNet
  pub acted : List ActedList
  pub nets_are : after.nets.items ≡ before.nets.items ++ net ∷ []
  pub acted_are : after.acted.items ≡ before.acted.items ++ acted
  pub ends : HasEnds new net
  pub reserves : Reserves old new (answers_in acted)
  pub lists : AreActedLists new number (span_lists (span ∷ [])) acted
  pub spans : AreSpans old new table number (span ∷ []) (net_of_span net ∷ []) acted
