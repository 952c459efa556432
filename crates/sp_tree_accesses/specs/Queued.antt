-- How accesses to FIFOs stand in a draft.
use Rattle.std.specs.Prelude.{◌≡◌, ◌≢◌, ℕ, ◌<◌, length, Some}
use Rattle.sp_words.specs.declared.kind.Kind.TheVariants.{Fifo}
use Rattle.sp_words.specs.Types.{width_of}
use Rattle.sp_netlist.specs.Draft.{Draft}
use Rattle.sp_gates.specs.Nets.{HasNet}
use Rattle.sp_core.specs.declared.operation.OpKind.TheVariants.{Read, Enq, Deq}
use Rattle.sp_core.specs.Declarations.{mem, kind_of}
use Rattle.sp_core.specs.PlainCore.{PlainCore}
use Rattle.sp_part_runs.specs.ActsEntries.{word_that_changes}
use Rattle.sp_circuit_ops.specs.declared.ops.WordNet.{WordNet}
use Rattle.sp_access_nets.specs.declared.access.AccessNets.{AccessNets}

-- What puts has the net of its word, as wide as the memory's words; what takes is to be answered two cycles later; and no FIFO is read.
pub record QueuedStands (d : Draft) (core : PlainCore) (a : AccessNets) : Type 0 where
  pub some : a.kind ≡ Enq → 0 < length a.operands.items
  pub word : a.kind ≡ Enq → HasNet d (word_that_changes a.kind a.operands.items) (width_of (mem core a.mem).ty)
  pub answered : a.kind ≡ Deq → (w : WordNet) × (a.answer ≡ Some w)
  pub later : (w : WordNet) → a.kind ≡ Deq → a.answer ≡ Some w → w.after ≡ 2
  pub unread : a.kind ≡ Read → kind_of core a.mem ≢ Fifo
