-- A law of loads, as a statement: what was emitted of a core's loads is what they are asked for.
use Rattle.std.specs.Prelude.{◌≡◌, ℕ, List, [], Option, Some}
use Rattle.sp_netlist.specs.declared.parts.Child.{Child}
use Rattle.sp_netlist.specs.Draft.{Draft}
use Rattle.sp_netlist.specs.Signals.{Setting, Signals}
use Rattle.sp_core.specs.PlainCore.{PlainCore}
use Rattle.sp_plan.specs.PlainPlan.{PlainPlan}
use Rattle.sp_node_runs.specs.BodiesGiven.{Nets}
use Rattle.sp_tree_circuits.specs.Circuits.{Circuit}
use Rattle.sp_access_nets.specs.declared.access.AccessNets.{AccessNets}
use Rattle.sp_tree_handed.specs.declared.moves.Direction.TheVariants.{Load as Inward}
use Rattle.sp_tree_handed.specs.declared.moves.TreeMove.{TreeMove}
use Rattle.sp_tree_handed.specs.Moves.{end_at, AreMoves}
use Rattle.sp_stored_cores.specs.Loads.{Channel, HasLoads}
use Rattle.sp_load_units.specs.declared.unit.TransferUnit.{TransferUnit}
use Rattle.sp_load_units.specs.Units.{UnitsStand}
use Rattle.sp_lower.specs.LoadsRuns.{LoadRun, EachOf}

-- the channel of a load, with the nets by which it is asked
abbrev pub channel_of : {core : PlainCore} {g : Setting} {s : Signals} {names : List (Option ℕ)} {unit : TransferUnit} {slice : TreeMove} {a : AccessNets} → LoadRun core g s names unit slice a → Channel
channel_of run = record { before = run.before; channel = run.channel; request = run.part.port.request; last = run.part.port.last }

-- a load runs, a table has the net by which it is done, and its channel stands under the number of its node
pub record LoadHas (core : PlainCore) (g : Setting) (s : Signals) (ends names : List (Option ℕ)) (channels : (node : ℕ) → Channel) (unit : TransferUnit) (slice : TreeMove) (a : AccessNets) : Type 0 where
  pub run : LoadRun core g s names unit slice a
  pub end : end_at ends unit.transfer.node ≡ Some unit.done
  pub channel_is : channels unit.transfer.node ≡ channel_of run

-- Where the circuit of a core's tree hands on its transfers, and what was emitted of each load runs so, the core has its loads.
abbrev pub LoadsAreHad : Type 0
LoadsAreHad =
    (core : PlainCore) (plan : PlainPlan) (g : Setting) (s : Signals) (env : Nets) (c : Child) (ends names : List (Option ℕ)) (channels : (node : ℕ) → Channel) (units : List TransferUnit) (slices : List TreeMove) (accesses : List AccessNets)
    (d : Draft) → UnitsStand d core units → (w : Circuit core plan s core.root [] env 0 c) → AreMoves core plan s ends core.root [] env 0 c w slices
    → EachOf Inward (LoadHas core g s ends names channels) units slices accesses → HasLoads core plan g s env c channels names w accesses
