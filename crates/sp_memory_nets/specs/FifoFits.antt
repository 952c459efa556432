-- When the circuit of a FIFO can be emitted.
use Rattle.std.specs.Prelude.{◌≡◌, ℕ, ◌<◌, List, length, All}
use Rattle.std.specs.List.{Contains}
use Rattle.sp_words.specs.declared.kind.Kind.TheVariants.{Fifo}
use Rattle.sp_words.specs.Types.{width_of}
use Rattle.sp_netlist.specs.Draft.{Draft}
use Rattle.sp_gates.specs.Nets.{HasNet, IsOpen}
use Rattle.sp_core.specs.Declarations.{mem, kind_of, depth}
use Rattle.sp_core.specs.PlainCore.{PlainCore}
use Rattle.sp_plan.specs.PlainPlan.{PlainPlan, mem_plan}
use Rattle.sp_mem.specs.Fits.{CopyFits}
use Rattle.sp_taps.specs.declared.store.Store.{Store}
use Rattle.sp_taps.specs.Wires.{AreInRows, AreWires}
use Rattle.sp_taps.specs.Stores.{AreStores}
use Rattle.sp_op_nets.specs.Reserved.{Rise}
use Rattle.sp_access_nets.specs.declared.access.AccessNets.{AccessNets}
use Rattle.sp_tree_handed.specs.declared.owners.OwnerNets.{OwnerNets}
use Rattle.sp_tree_handed.specs.Standing.{AccessStands, OwnersStand}
use Rattle.sp_tree_accesses.specs.Queued.{QueuedStands}
use Rattle.sp_memory_nets.specs.ScalarFits.{OwnersNameCopies}
use Rattle.sp_memory_nets.specs.ScalarLists.{answers_to}

-- its banks were added before, one for each copy by the plan, as long as the FIFO is deep
pub record FifoFits (d : Draft) (core : PlainCore) (plan : PlainPlan) (accesses : List AccessNets) (owners : OwnerNets) (bank : ℕ) (stores : List Store) (start m : ℕ) : Type 0 where
  pub within : m < length core.mems
  pub planned : length plan.mems ≡ length core.mems
  pub fifo : kind_of core m ≡ Fifo
  pub starts : HasNet d start 1
  pub accesses_stand : All (AccessStands d core) accesses
  pub accesses_copied : All (λ (a : AccessNets). CopyFits d a.copy) accesses
  pub queued : All (QueuedStands d core) accesses
  pub owners_stand : OwnersStand d core owners
  pub owners_copied : OwnersNameCopies d owners
  pub each : length stores ≡ (mem_plan plan m).depth
  pub rows : (first : ℕ) × AreInRows first stores
  pub wires : All (AreWires d (width_of (mem core m).ty)) stores
  pub banks : AreStores d bank (width_of (mem core m).ty) (depth core m) stores
  -- its takes wait for their words, each on a net of its own
  pub awaiting : (net : ℕ) → Contains (answers_to m accesses) net → IsOpen d net
  pub rise : Rise 0 (answers_to m accesses)
