-- What is put into a FIFO by accesses, in the order in which they are handed on.
use Rattle.std.specs.Prelude.{ℕ, List, map}
use Rattle.std.specs.List.{filter}
use Rattle.sp_core.specs.declared.operation.OpKind.TheVariants.{Enq}
use Rattle.sp_part_runs.specs.ActsEntries.{word_that_changes}
use Rattle.sp_access_nets.specs.declared.access.AccessNets.{AccessNets}
use Rattle.sp_access_nets.specs.Picking.{is_to}
use Rattle.sp_memory_nets.specs.ScalarLists.{PlainTouch, touch_by}

-- what a put does, at the copy whose number stands on its net
abbrev pub put_of : AccessNets → PlainTouch
put_of a = touch_by a.enable a.copy (word_that_changes Enq a.operands.items)

-- the puts of operations
abbrev pub puts_to : (mem : ℕ) → List AccessNets → List PlainTouch
puts_to m accesses = map put_of (filter (is_to m Enq) accesses)
