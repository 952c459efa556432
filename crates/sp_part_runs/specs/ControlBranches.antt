-- The runs of a branch: its test, and the part that was taken.
use Rattle.std.specs.Prelude.{ℕ, suc, ◌+◌, Bool, true, false, List, [], ◌∷◌, map}
use Rattle.sp_part_runs.specs.ControlParts.{Ran, Tested}

pub record BranchRan : Type 0 where
  pub cycle : ℕ
  pub test : ℕ
  pub taken : Bool
  pub part : ℕ

abbrev pub whole_run : BranchRan → Ran
whole_run r = record { cycle = r.cycle; took = 2 + (r.test + r.part) }

-- the test begins a cycle after the branch, and the part where the test is over
abbrev pub test_run : BranchRan → Tested
test_run r = record { run = record { cycle = suc r.cycle; took = r.test }; goes = r.taken }

abbrev pub part_run : BranchRan → Ran
part_run r = record { cycle = suc r.cycle + r.test; took = r.part }

abbrev pub is_side : (side taken : Bool) → Bool
is_side true b = b
is_side false true = false
is_side false false = true

-- the runs of one part
abbrev pub part_runs : (side : Bool) → List BranchRan → List Ran
part_runs side [] = []
part_runs side (r ∷ runs) = elim (is_side side r.taken) [ true ↦ part_run r ∷ part_runs side runs | false ↦ part_runs side runs ]
