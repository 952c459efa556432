-- What the circuit of a FIFO of a core does in a run.
use Rattle.std.specs.Prelude.{◌≡◌, ℕ, List, length, map, All}
use Rattle.sp_netlist.specs.Signals.{Signals}
use Rattle.sp_core.specs.Declarations.{mem, depth}
use Rattle.sp_core.specs.PlainCore.{PlainCore}
use Rattle.sp_plan.specs.PlainPlan.{PlainPlan, mem_plan}
use Rattle.sp_taps.specs.declared.store.Store.{Store}
use Rattle.sp_queue_copies.specs.Events.{RunQueues}
use Rattle.sp_queue.specs.declared.part.Queue.{Queue}
use Rattle.sp_queue.specs.Takes.{RunsTakes}
use Rattle.sp_access_nets.specs.declared.access.AccessNets.{AccessNets}
use Rattle.sp_tree_handed.specs.declared.owners.OwnerNets.{OwnerNets}
use Rattle.sp_memory_nets.specs.ScalarLists.{plain_touch, fresh_to, reads_to}
use Rattle.sp_memory_nets.specs.FifoLists.{puts_to}

-- the queue of a memory: it has the words and the depth of the memory and its copies by the plan, and to it is done just what accesses and
-- owners do to the memory
pub record IsFifoOf (core : PlainCore) (plan : PlainPlan) (accesses : List AccessNets) (owners : OwnerNets) (m : ℕ) (part : Queue) : Type 0 where
  pub ty : part.ty ≡ (mem core m).ty
  pub copies : part.copies ≡ (mem_plan plan m).depth
  pub depth : part.depth ≡ depth core m
  pub fresh : part.fresh.items ≡ fresh_to core m accesses owners
  pub puts : map plain_touch part.puts.items ≡ puts_to m accesses
  pub takes : map plain_touch part.takes.items ≡ reads_to m accesses

-- a circuit of that queue, each copy in a bank of its own from a number of a bank on
pub record RunsFifo (core : PlainCore) (plan : PlainPlan) (s : Signals) (accesses : List AccessNets) (owners : OwnerNets) (m bank : ℕ) : Type 0 where
  pub part : Queue
  pub stores : List Store
  pub is : IsFifoOf core plan accesses owners m part
  pub each : length stores ≡ part.copies
  pub runs : RunQueues s bank part.depth stores part.fresh.items part.puts.items part.takes.items
  pub takes : All (RunsTakes s part.copies stores) part.takes.items
