-- The accesses of the lists of a tree.
use Rattle.std.specs.Prelude.{ℕ, List, [], ◌∷◌, ◌++◌, Option}
use Rattle.sp_op_nets.specs.declared.acted.ActedList.{ActedList}
use Rattle.sp_access_nets.specs.declared.access.AccessNets.{AccessNets}
use Rattle.sp_access_nets.specs.Accesses.{AreHandedOn, AreNetsHandedOn}
use Rattle.sp_tree_handed.specs.Lists.{NumberedOps}

-- those of each list by what is handed on for it, one list behind the other
module _ (copy : (number : ℕ) → Option ℕ) where
  pub data AreAllAccesses : List NumberedOps → List ActedList → List AccessNets → Type 0 where
    no_list : AreAllAccesses [] [] []
    one_list : {list : NumberedOps} {lists : List NumberedOps} {a : ActedList} {acted : List ActedList} {added accesses : List AccessNets} → AreHandedOn copy list.number list.ops a.ops.items a.nets.items added → AreNetsHandedOn list.ops a.ops.items a.nets.items added
        → AreAllAccesses lists acted accesses → AreAllAccesses (list ∷ lists) (a ∷ acted) (added ++ accesses)
