-- How the loads of a core stand in a run: each has its part and its channel, and its write is an access of its memory.
use Rattle.std.specs.Prelude.{◌≡◌, ℕ, ◌+◌, ◌<◌, List, [], ◌∷◌, ◌++◌, length, Option, None}
use Rattle.sp_netlist.specs.declared.parts.Child.{Child}
use Rattle.sp_netlist.specs.Cells.{PlainCell}
use Rattle.sp_netlist.specs.Signals.{Setting, Signals}
use Rattle.sp_channel_runs.specs.Bursts.{taken}
use Rattle.sp_core.specs.declared.operation.OpKind.TheVariants.{Write}
use Rattle.sp_core.specs.Around.{Near}
use Rattle.sp_core.specs.Numbering.{spans_size}
use Rattle.sp_core.specs.PlainCore.{PlainSpan, PlainNode, PlainCore}
use Rattle.sp_plan.specs.PlainPlan.{PlainPlan}
use Rattle.sp_machine.specs.Transfers.{Delays}
use Rattle.sp_node_runs.specs.BodiesGiven.{Nets}
use Rattle.sp_node_runs.specs.BodiesSpans.{SpanNets}
use Rattle.sp_tree_runs.specs.BodiesScoped.{Scoped}
use Rattle.sp_tree_circuits.specs.Circuits.{Circuit}
use Rattle.sp_tree_handed.specs.declared.moves.Direction.TheVariants.{Load}
use Rattle.sp_xfer.specs.declared.part.Load.{Load as LoadPart}
use Rattle.sp_xfer.specs.declared.part.Loaded.{Loaded}
use Rattle.sp_transfer_runs.specs.Moving.{HasLoad}
use Rattle.sp_access_nets.specs.declared.access.AccessNets.{AccessNets}
use Rattle.sp_access_nets.specs.Accesses.{copy_in}
use Rattle.sp_stored_cores.specs.Moves.{MovesAre}

-- a channel with the cells before it, and the nets by which it is asked
pub record Channel : Type 0 where
  pub before : List PlainCell
  pub channel : ℕ
  pub request : ℕ
  pub last : ℕ

-- what the channel of each node took, asking after asking, in the cycles before a bound
abbrev pub took_by : Setting → Signals → (channels : (node : ℕ) → Channel) → (bound : ℕ) → (node ask : ℕ) → ℕ
took_by g s channels bound k i = taken g s (channels k).before (channels k).channel (channels k).request (channels k).last bound i

-- an access is the write of a load: of its word, which stands on the net of its channel's unit
pub record IsLoadWrite (number mem : ℕ) (copy : Option ℕ) (part : LoadPart) (nets : Loaded) (a : AccessNets) : Type 0 where
  pub number_is : a.number ≡ number
  pub mem_is : a.mem ≡ mem
  pub kind_is : a.kind ≡ Write
  pub enable : a.enable ≡ nets.write
  pub operands : a.operands.items ≡ nets.indices.items ++ part.port.word ∷ []
  pub copied : a.copy ≡ copy
  pub unanswered : a.answer ≡ None

-- so stands each load of a tree
abbrev pub LoadsAre : (core : PlainCore) (plan : PlainPlan) (delays : Delays) (s : Signals) (P : (r m : ℕ) (spans : List PlainSpan) (node n : ℕ) → List Scoped → Child → List SpanNets → AccessNets → Type 0)
    → (node : PlainNode) (near : List Near) (env : Nets) (k n : ℕ) (qs : List Scoped) (c : Child) → Circuit core plan s node near env k c → List AccessNets → Type 0
LoadsAre core plan delays s P node near env k n qs c w loading = MovesAre Load core plan delays s P node near env k n qs c w loading

-- a load has its circuit and its channel, and its write names the copy that stands under its number
pub record LoadStands (core : PlainCore) (g : Setting) (s : Signals) (channels : (node : ℕ) → Channel) (bound : ℕ) (copies : List (Option ℕ)) (r m : ℕ) (spans : List PlainSpan) (k n : ℕ) (qs : List Scoped) (c : Child) (nets : List SpanNets) (a : AccessNets) : Type 0 where
  pub few : r < length core.ports.drams
  pub chip : m < length core.mems
  pub has : HasLoad core g s bound (took_by g s channels bound k) r nets c
  pub write : IsLoadWrite (n + spans_size spans) m (copy_in copies (n + spans_size spans)) has.part has.nets a

-- so does each load of a core, in the order of the tree, whatever the delays and the runs
abbrev pub HasLoads : (core : PlainCore) (plan : PlainPlan) (g : Setting) (s : Signals) (env : Nets) (c : Child) (channels : (node : ℕ) → Channel) (copies : List (Option ℕ)) → Circuit core plan s core.root [] env 0 c → List AccessNets → Type 0
HasLoads core plan g s env c channels copies w loading =
    (bound : ℕ) (delays : Delays) (qs : List Scoped) → LoadsAre core plan delays s (LoadStands core g s channels bound copies) core.root [] env 0 0 qs c w loading
