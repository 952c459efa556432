-- Parts of control and their runs: from which cycles on, and how long each takes.
use Rattle.std.specs.Prelude.{◌≡◌, ℕ, suc, ◌+◌, ◌≤◌, Bool, List, map}
use Rattle.std.specs.List.{Contains}
use Rattle.sp_part_runs.specs.BodiesRuns.{IsOnAt}

pub record Ran : Type 0 where
  pub cycle : ℕ
  pub took : ℕ

-- a run begins in a cycle, or is over in it, so that the next part may be started in the one after
abbrev pub Begins : List Ran → (t : ℕ) → Type 0
Begins runs t = (r : Ran) × Contains runs r × (t ≡ r.cycle)

abbrev pub Ends : List Ran → (t : ℕ) → Type 0
Ends runs t = (r : Ran) × Contains runs r × (suc t ≡ r.cycle + r.took)

-- a part whose starts are right up to a cycle is done where its runs are over, up to that cycle
abbrev pub DoesRuns : (start done : ℕ → Bool) → List Ran → (last : ℕ) → Type 0
DoesRuns start done runs last = (t : ℕ) → t ≤ last → IsOnAt start (Begins runs) t → IsOnAt done (Ends runs) t

-- a run of a test, and what it gave
pub record Tested : Type 0 where
  pub run : Ran
  pub goes : Bool

abbrev pub runs_of : List Tested → List Ran
runs_of tests = map (λ (e : Tested). e.run) tests

-- where a test is over its word tells what it gave
abbrev pub Tells : (start tested : ℕ → Bool) → List Tested → (last : ℕ) → Type 0
Tells start tested tests last =
    (t : ℕ) → t ≤ last → IsOnAt start (Begins (runs_of tests)) t → (e : Tested) (c : ℕ) → Contains tests e → suc c ≡ e.run.cycle + e.run.took → c ≤ t → tested c ≡ e.goes
