-- What a walk over a tree adds to the accesses: those of the tree's lists, one behind the other.
use Rattle.std.specs.Prelude.{◌≡◌, ℕ, ◌+◌, ◌<◌, ◌^◌, List, ◌++◌, length, Option}
use Rattle.std.specs.List.{AllZip}
use Rattle.sp_op_nets.specs.declared.acted.ActedList.{ActedList}
use Rattle.sp_access_nets.specs.declared.access.AccessNets.{AccessNets}
use Rattle.sp_access_nets.specs.Accesses.{copy_in}
use Rattle.sp_tree_handed.specs.Lists.{NumberedOps}
use Rattle.sp_tree_accesses.specs.declared.walk.Walk.{Walk}
use Rattle.sp_tree_accesses.specs.Accesses.{AreAllAccesses}

-- what is handed on for a list has its number, and the numbers of its operations have 32 bits
pub record IsNumbered (list : NumberedOps) (a : ActedList) : Type 0 where
  pub first : a.number ≡ list.number
  pub small : list.number + length list.ops < 2 ^ 32

-- the walk goes on behind these lists, and their accesses come behind those before, with the nets of copies by their operations' numbers
pub record Added (lists : List NumberedOps) (copies : List (Option ℕ)) (now : List ActedList) (before after : Walk) : Type 0 where
  pub added : List AccessNets
  pub behind : after.accesses.items ≡ before.accesses.items ++ added
  pub on : after.at ≡ before.at + length now
  pub are : AreAllAccesses (copy_in copies) lists now added

-- so it is where what is handed on for these lists stands next
abbrev pub AddsLists : List NumberedOps → (copies : List (Option ℕ)) → List ActedList → (before after : Walk) → Type 0
AddsLists lists copies acted before after = (passed now rest : List ActedList) → acted ≡ passed ++ (now ++ rest) → before.at ≡ length passed → AllZip IsNumbered lists now → Added lists copies now before after
