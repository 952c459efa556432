-- The nets of operations, by the nets of the counters around.
use Rattle.std.specs.Prelude.{◌≡◌, ℕ, Bool, true, false, List, [], ◌∷◌}
use Rattle.sp_words.specs.Types.{width_of}
use Rattle.sp_netlist.specs.Draft.{Draft}
use Rattle.sp_netlist.specs.Signals.{Signals}
use Rattle.sp_gates.specs.Nets.{HasNet, Awaits}
use Rattle.sp_gates.specs.Runs.{RunsOn}
use Rattle.sp_core.specs.declared.operation.OpKind.{OpKind}
use Rattle.sp_core.specs.declared.operation.OpKind.TheVariants.{Count, Live}
use Rattle.sp_core.specs.Around.{Near}
use Rattle.sp_core.specs.PlainCore.{PlainOp}
use Rattle.sp_circuit_ops.specs.declared.ops.WordNet.{WordNet}
use Rattle.sp_node_runs.specs.BodiesGiven.{IsGivenBy}
use Rattle.sp_op_nets.specs.declared.table.AroundNets.{AroundNets}
use Rattle.sp_op_nets.specs.Reserved.{is_reserved}
use Rattle.sp_op_nets.specs.Table.{nets_at, HasLane}

-- a counter in a lane, or whether lanes have an iteration
abbrev pub is_counted : OpKind → Bool
is_counted (Count c lane) = true
is_counted (Live c first last) = true
is_counted _ = false

-- how wide the net of one is
abbrev pub counted_width : OpKind → ℕ
counted_width (Count c lane) = 32
counted_width _ = 1

-- A counter's word, or that of lanes, is on the net in each cycle. The net of a read or a take awaits what drives it, and its
-- word comes so many cycles later.
pub record IsNetOf (d : Draft) (table : List AroundNets) (op : PlainOp) (after : ℕ) (n : WordNet) : Type 0 where
  pub counted : is_counted op.kind ≡ true → HasNet d n.net (counted_width op.kind)
  pub given : is_counted op.kind ≡ true → (near : List Near) → HasLane near op.kind → (s : Signals) → RunsOn s d.cells → IsGivenBy s near (nets_at table) op.kind n.net
  pub stands : is_reserved op.kind ≡ true → HasNet d n.net (width_of op.ty)
  pub awaits : is_reserved op.kind ≡ true → Awaits d n.net (width_of op.ty)
  pub later : is_reserved op.kind ≡ true → n.after ≡ after

-- operation by operation
module _ (d : Draft) (table : List AroundNets) where
  pub data AreNetsOf : List PlainOp → (afters : List ℕ) → List WordNet → Type 0 where
    no_op : AreNetsOf [] [] []
    more_ops : (op : PlainOp) (ops : List PlainOp) (after : ℕ) (afters : List ℕ) (n : WordNet) (nets : List WordNet) → IsNetOf d table op after n → AreNetsOf ops afters nets → AreNetsOf (op ∷ ops) (after ∷ afters) (n ∷ nets)
