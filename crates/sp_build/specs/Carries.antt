-- What it is for a netlist to carry a program.
use Rattle.std.specs.Prelude.{◌≡◌, ℕ, ◌+◌, ◌≤◌, List, fold, max, length}
use Rattle.std.specs.List.{All, AllZip}
use Rattle.sp_words.specs.Interface.{word_count}
use Rattle.sp_words.specs.Ports.{PlainPort, PlainPorts, PlainInput}
use Rattle.sp_words.specs.Words.{IsWord}
use Rattle.sp_netlist.specs.Cells.{PlainCell}
use Rattle.sp_netlist.specs.Cycle.{Ends, done_in}
use Rattle.sp_netlist.specs.Ports.{ports_of}
use Rattle.sp_tree.specs.Meaning.{seq, ended}
use Rattle.sp_tree.specs.PlainProgram.{PlainProgram}
use Rattle.sp_tree.specs.Shape.{Shape}
use Rattle.sp_core.specs.Cost.{core_cost}
use Rattle.sp_core.specs.History.{History}
use Rattle.sp_core.specs.Latency.{limit}
use Rattle.sp_core.specs.Meaning.{run_core, out_words, dram_words}
use Rattle.sp_core.specs.Scope.{in_lanes}
use Rattle.sp_core.specs.Shape.{shape_of}
use Rattle.sp_core.specs.Step.{went}
use Rattle.sp_core.specs.Store.{Store}
use Rattle.sp_plan.specs.PlainPlan.{PlainPlan}
use Rattle.sp_machine.specs.Told.{plan_timings}
use Rattle.sp_compile.specs.Choices.{lanes_of, built_core, IsPlanFor}

-- the greatest delay, 0 where there is none
abbrev pub greatest_delay : List ℕ → ℕ
greatest_delay = fold max 0

-- a word of its type for each argument, and for each DRAM so many words of its type
pub record FitsPorts (ports : PlainPorts) (input : PlainInput) : Type 0 where
  pub args : AllZip (λ (port : PlainPort) word. IsWord port.ty word) ports.args input.args
  pub drams : AllZip (λ (port : PlainPort) words. (length words ≡ word_count port.dims) × All (IsWord port.ty) words) ports.drams input.drams

-- The ports of the netlist are those of the program.
--
-- For every input that fits, every list of delays and every number of turns: where the program ends within the turns without a
-- fault, the netlist is done within the limit, its outputs and its DRAMs are what the program leaves, and up to then no two taps
-- share a port of a bank.
pub record Carries (p : PlainProgram) (cells : List PlainCell) : Type 0 where
  pub ports : ports_of cells ≡ p.ports
  pub carries : (input : PlainInput) (delays : List ℕ) (n : ℕ) (outs : List ℕ) (drams : List (List ℕ)) (turns : ℕ) (shape : Shape) → FitsPorts p.ports input → seq n p input ≡ ended outs drams turns shape
      → (cycle : ℕ) × Ends (record { cells = cells; args = input.args; drams = input.drams; delays = delays }) (limit n (greatest_delay delays) (lanes_of p)) (done_in cycle outs drams)

-- For every input that fits, every list of delays and every run of the core that is built of the program: the netlist is done within the cost of
-- that run by the numbers of a plan, with the words that the run leaves.
pub record KeepsCost (p : PlainProgram) (plan : PlainPlan) (cells : List PlainCell) : Type 0 where
  pub within : (input : PlainInput) (delays : List ℕ) (n : ℕ) (h : History) (left : Store) → FitsPorts p.ports input → run_core in_lanes n (built_core p) input ≡ went h left
      → (cycle : ℕ) × (cycle + 2 ≤ core_cost (built_core p) (plan_timings plan) (greatest_delay delays) (shape_of (built_core p).root h))
      × Ends (record { cells = cells; args = input.args; drams = input.drams; delays = delays }) cycle (done_in cycle (out_words (built_core p) left) (dram_words (built_core p) left))

-- so it is by the plan that is chosen for that core
abbrev pub CostIsKept : PlainProgram → List PlainCell → Type 0
CostIsKept p cells = (plan : PlainPlan) × IsPlanFor (built_core p) plan × KeepsCost p plan cells
