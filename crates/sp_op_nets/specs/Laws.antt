-- What the nets of operations are good for: laws, as statements.
use Rattle.std.specs.Prelude.{◌≡◌, ℕ, ◌<◌, ◌≤◌, true, List, [], ◌∷◌, ◌++◌, length, slice_index, slice_index_or, Contains}
use Rattle.sp_netlist.specs.Draft.{Draft}
use Rattle.sp_netlist.specs.Signals.{Signals}
use Rattle.sp_gates.specs.Grows.{Grows, Fills, Opens}
use Rattle.sp_gates.specs.Nets.{Awaits}
use Rattle.sp_gates.specs.Runs.{RunsOn}
use Rattle.sp_core.specs.declared.operation.Op.{Op}
use Rattle.sp_core.specs.Around.{Around, Near, has_lane}
use Rattle.sp_core.specs.Latency.{latency}
use Rattle.sp_core.specs.OperationRules.{are_operations_right}
use Rattle.sp_core.specs.Plain.{plain_ops}
use Rattle.sp_core.specs.PlainCore.{PlainOp, PlainCore}
use Rattle.sp_pipe.specs.declared.part.PipeOp.{PipeOp}
use Rattle.sp_pipe.specs.Right.{IsAt}
use Rattle.sp_part_runs.specs.ActsEntries.{IsOpAt}
use Rattle.sp_circuit_ops.specs.declared.ops.WordNet.{WordNet}
use Rattle.sp_circuit_ops.specs.Circuit.{ArePlaced}
use Rattle.sp_circuit_ops.specs.Fitting.{NetFits}
use Rattle.sp_node_runs.specs.BodiesGiven.{Nets, AreGivenBy}
use Rattle.sp_op_nets.specs.declared.table.AroundNets.{AroundNets}
use Rattle.sp_op_nets.specs.Acted.{answers_of, AnswersStand, AreAnsweredAfter}
use Rattle.sp_op_nets.specs.Nets.{AreNetsOf}
use Rattle.sp_op_nets.specs.Reserved.{is_reserved, Reserves, reserved_of}
use Rattle.sp_op_nets.specs.Table.{nets_at, StandsAt, StandAround}

-- operations that keep their rules take their words from counters that stand in the table
abbrev pub CountersStand : Type 0
CountersStand =
    (core : PlainCore) (around : Around) (d : Draft) (table : List AroundNets) (ops : List Op) → are_operations_right core around (plain_ops ops) ≡ true → StandAround d table around.counters
    → (k : ℕ) → k < length ops → (op : Op) → slice_index_or ops k op ≡ op → StandsAt d table op.kind

-- with their nets they are given their words, in each run of what the draft becomes
abbrev pub OperationsAreGiven : Type 0
OperationsAreGiven =
    (core : PlainCore) (around : Around) (d later : Draft) (table : List AroundNets) (ops : List Op) (times afters : List ℕ) (nets : List WordNet) (ps : List PipeOp) (s : Signals) → are_operations_right core around (plain_ops ops) ≡ true
    → AreNetsOf d table (plain_ops ops) afters nets → ArePlaced ops times nets ps → Grows d later → RunsOn s later.cells → AreGivenBy s around.counters (nets_at table) (plain_ops ops) ps

-- so they are by any nets that are the same for the counters around
abbrev pub SameNetsGive : Type 0
SameNetsGive =
    (s : Signals) (near : List Near) (env other : Nets) (ops : List PlainOp) (ps : List PipeOp) → ((c lane : ℕ) → has_lane near c lane ≡ true → env c ≡ other c) → AreGivenBy s near env ops ps → AreGivenBy s near other ops ps

-- and each net fits its operation, where no answer comes later than the operation's latency says
abbrev pub NetsFit : Type 0
NetsFit =
    (core : PlainCore) (around : Around) (d later : Draft) (table : List AroundNets) (ops : List Op) (times afters : List ℕ) (nets : List WordNet) (ps : List PipeOp) → are_operations_right core around (plain_ops ops) ≡ true
    → AreNetsOf d table (plain_ops ops) afters nets → ArePlaced ops times nets ps → Grows d later → ((k : ℕ) (op : PlainOp) → IsOpAt (plain_ops ops) k op → is_reserved op.kind ≡ true → slice_index afters k ≤ latency core op)
    → (k : ℕ) (op : PlainOp) (p : PipeOp) → IsOpAt (plain_ops ops) k op → IsAt ps k p → NetFits core later op p

-- nets that were reserved, and then driven by the part behind, are no open nets
abbrev pub ReservedAreDriven : Type 0
ReservedAreDriven = (first second third : Draft) (nets more : List ℕ) → Reserves first second nets → Fills second third (nets ++ more) → Fills first third more

-- some of them driven, the others are left: those that were reserved first and exactly those that a part behind drives
abbrev pub SomeReservedAreDriven : Type 0
SomeReservedAreDriven =
    (first second third : Draft) (nets left driven : List ℕ) → Reserves first second (nets ++ left) → Fills second third driven → ((n : ℕ) → Contains nets n → Contains driven n) → ((n : ℕ) → Contains driven n → Contains nets n) → Reserves first third left

-- what is reserved before and after a part is reserved together; a net that is promised is reserved; and cells that drive nothing
-- that was open reserve nothing
abbrev pub ReservedComeTogether : Type 0
ReservedComeTogether = (first second third : Draft) (nets more : List ℕ) → Reserves first second nets → Reserves second third more → Reserves first third (nets ++ more)

abbrev pub PromisedAreReserved : Type 0
PromisedAreReserved = (first second : Draft) (net width : ℕ) → Opens first second net → Awaits second net width → Reserves first second (net ∷ [])

abbrev pub FillsAreReserved : Type 0
FillsAreReserved = (first second : Draft) → Fills first second [] → Reserves first second []

-- nets that operations reserve are those on which they are answered
abbrev pub AnswersAreReserved : Type 0
AnswersAreReserved =
    (d : Draft) (table : List AroundNets) (ops : List Op) (times afters : List ℕ) (nets : List WordNet) (ps : List PipeOp) → AreNetsOf d table (plain_ops ops) afters nets → ArePlaced ops times nets ps → answers_of ps ≡ reserved_of (plain_ops ops) nets

-- a reserved net still awaits what drives it, whatever is reserved behind it
abbrev pub ReservedStay : Type 0
ReservedStay = (first second : Draft) (net width : ℕ) (nets : List ℕ) → Awaits first net width → Reserves first second nets → Awaits second net width

-- each net on which operations are answered stands, whatever the draft becomes
abbrev pub AnswersHaveNets : Type 0
AnswersHaveNets =
    (d later : Draft) (table : List AroundNets) (ops : List Op) (times afters : List ℕ) (nets : List WordNet) (ps : List PipeOp) → AreNetsOf d table (plain_ops ops) afters nets → ArePlaced ops times nets ps → Grows d later → AnswersStand later ps

-- and each answer comes as late as its net was given
abbrev pub AnswersComeAfter : Type 0
AnswersComeAfter =
    (d : Draft) (table : List AroundNets) (ops : List Op) (times afters : List ℕ) (nets : List WordNet) (ps : List PipeOp) (after : PlainOp → ℕ) → AreNetsOf d table (plain_ops ops) afters nets → ArePlaced ops times nets ps
    → ((k : ℕ) (op : PlainOp) → IsOpAt (plain_ops ops) k op → slice_index afters k ≡ after op) → AreAnsweredAfter after (plain_ops ops) ps
