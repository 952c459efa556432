-- The runs of an FSM: its first part, and in each turn the test, the body and the next part, up to a test that gives 0.
use Rattle.std.specs.Prelude.{ℕ, suc, ◌+◌, true, false, List, [], ◌∷◌, flat_map}
use Rattle.sp_part_runs.specs.ControlParts.{Ran, Tested}

-- how long the parts of a turn take
pub record Turn : Type 0 where
  pub test : ℕ
  pub body : ℕ
  pub next : ℕ

pub record MachineRan : Type 0 where
  pub cycle : ℕ
  pub first : ℕ
  pub turns : List Turn
  pub last : ℕ

-- from the first test on
abbrev pub turns_took : List Turn → (last : ℕ) → ℕ
turns_took [] last = last
turns_took (x ∷ turns) last = x.test + (x.body + (x.next + turns_took turns last))

abbrev pub whole_run : MachineRan → Ran
whole_run r = record { cycle = r.cycle; took = 2 + (r.first + turns_took r.turns r.last) }

abbrev pub first_run : MachineRan → Ran
first_run r = record { cycle = suc r.cycle; took = r.first }

-- the tests from a cycle on, one after each next part; and the bodies, and the next parts
abbrev pub tests_from : (cycle : ℕ) → List Turn → (last : ℕ) → List Tested
tests_from p [] last = record { run = record { cycle = p; took = last }; goes = false } ∷ []
tests_from p (x ∷ turns) last = record { run = record { cycle = p; took = x.test }; goes = true } ∷ tests_from (p + x.test + x.body + x.next) turns last

abbrev pub bodies_from : (cycle : ℕ) → List Turn → List Ran
bodies_from p [] = []
bodies_from p (x ∷ turns) = record { cycle = p + x.test; took = x.body } ∷ bodies_from (p + x.test + x.body + x.next) turns

abbrev pub nexts_from : (cycle : ℕ) → List Turn → List Ran
nexts_from p [] = []
nexts_from p (x ∷ turns) = record { cycle = p + x.test + x.body; took = x.next } ∷ nexts_from (p + x.test + x.body + x.next) turns

-- the first test begins where the first part is over
abbrev pub tests_of : MachineRan → List Tested
tests_of r = tests_from (suc r.cycle + r.first) r.turns r.last

abbrev pub bodies_of : MachineRan → List Ran
bodies_of r = bodies_from (suc r.cycle + r.first) r.turns

abbrev pub nexts_of : MachineRan → List Ran
nexts_of r = nexts_from (suc r.cycle + r.first) r.turns

-- those of all runs
abbrev pub tests : List MachineRan → List Tested
tests runs = flat_map tests_of runs

abbrev pub bodies : List MachineRan → List Ran
bodies runs = flat_map bodies_of runs

abbrev pub nexts : List MachineRan → List Ran
nexts runs = flat_map nexts_of runs
