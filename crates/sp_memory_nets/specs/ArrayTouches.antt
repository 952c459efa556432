-- The accesses of an SRAM's circuit, as those of the tree's lists are made.
use Rattle.std.specs.Prelude.{◌≡◌, ℕ, List, map, Option}
use Rattle.std.specs.List.{filter}
use Rattle.sp_core.specs.declared.operation.OpKind.TheVariants.{Read, Write}
use Rattle.sp_core.specs.PlainCore.{PlainCore}
use Rattle.sp_plan.specs.PlainPlan.{PlainPlan}
use Rattle.sp_core_ports.specs.UsedReaders.{duplicate_at}
use Rattle.sp_mem.specs.declared.part.Touch.{Touch}
use Rattle.sp_part_runs.specs.ActsEntries.{index_words, word_that_changes}
use Rattle.sp_access_nets.specs.declared.access.AccessNets.{AccessNets}
use Rattle.sp_access_nets.specs.Picking.{is_to}
use Rattle.sp_memory_nets.specs.ScalarLists.{answer_net, is_reader}

-- a read is that of an access that is to be answered: in the duplicate of its reader
pub record IsReadBy (core : PlainCore) (plan : PlainPlan) (a : AccessNets) (touch : Touch) : Type 0 where
  pub enable : touch.enable ≡ a.enable
  pub index : touch.index.items ≡ index_words Read a.operands.items
  pub copy : touch.copy ≡ a.copy
  pub word : touch.word ≡ answer_net a.answer
  pub duplicate : touch.duplicate ≡ duplicate_at core plan a.mem a.number

-- a write is that of an access: it goes to all duplicates
pub record IsWriteBy (a : AccessNets) (touch : Touch) : Type 0 where
  pub enable : touch.enable ≡ a.enable
  pub index : touch.index.items ≡ index_words Write a.operands.items
  pub word : touch.word ≡ word_that_changes Write a.operands.items
  pub copy : touch.copy ≡ a.copy

-- an access as a plain value
pub record PlainTouch : Type 0 where
  pub enable : ℕ
  pub index : List ℕ
  pub copy : Option ℕ
  pub duplicate : ℕ
  pub word : ℕ

abbrev pub plain_touch : Touch → PlainTouch
plain_touch t = record { enable = t.enable; index = t.index.items; copy = t.copy; duplicate = t.duplicate; word = t.word }

abbrev pub write_of : AccessNets → PlainTouch
write_of a = record { enable = a.enable; index = index_words Write a.operands.items; copy = a.copy; duplicate = 0; word = word_that_changes Write a.operands.items }

abbrev pub read_of : PlainCore → PlainPlan → AccessNets → PlainTouch
read_of core plan a = record { enable = a.enable; index = index_words Read a.operands.items; copy = a.copy; duplicate = duplicate_at core plan a.mem a.number; word = answer_net a.answer }

-- the writes to a memory, and the accesses to it that are to be answered
abbrev pub writes_to : (mem : ℕ) → List AccessNets → List PlainTouch
writes_to m accesses = map write_of (filter (is_to m Write) accesses)

abbrev pub reads_to : PlainCore → PlainPlan → (mem : ℕ) → List AccessNets → List PlainTouch
reads_to core plan m accesses = map (read_of core plan) (filter (is_reader m) accesses)
