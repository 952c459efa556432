-- From what a core's netlist carries to what it carries of the program, as statements.
use Rattle.std.specs.Prelude.{◌≡◌, ℕ, ◌<◌, ◌^◌, ◌||◌, true, List}
use Rattle.sp_netlist.specs.Cells.{PlainCell}
use Rattle.std.specs.List.{list_all}
use Rattle.sp_tree.specs.Meaning.{is_dram}
use Rattle.sp_tree.specs.PlainProgram as program
use Rattle.sp_tree.specs.PlainProgram.{PlainProgram}
use Rattle.sp_tree.specs.Structure.{is_inner}
use Rattle.sp_core.specs.Invariant.{IsCore}
use Rattle.sp_core.specs.PlainCore.{PlainCore}
use Rattle.sp_plan.specs.PlainPlan.{PlainPlan, node_plan}
use Rattle.sp_machine.specs.Timeline.{latency_of}
use Rattle.sp_lower.specs.Carries.{CanLower, CarriesCore}
use Rattle.sp_compile.specs.Choices.{built_core, IsPlanFor}
use Rattle.sp_build.specs.Buildable.{is_stored, is_buildable, CanBeBuilt}
use Rattle.sp_build.specs.Carries.{Carries, KeepsCost}

-- latencies have 32 bits
abbrev pub HasShortLatencies : PlainPlan → Type 0
HasShortLatencies plan = (k : ℕ) → latency_of (node_plan plan k) < 2 ^ 32

-- the core that is built of a program can be lowered by its plan, where it is buildable
abbrev pub BuildableCanBeLowered : PlainProgram → PlainPlan → Type 0
BuildableCanBeLowered p plan = IsPlanFor (built_core p) plan → HasShortLatencies plan → is_buildable (built_core p) ≡ true → CanLower (built_core p) plan

-- a netlist that carries that core carries the program
abbrev pub CoresCarryPrograms : PlainProgram → PlainPlan → Type 0
CoresCarryPrograms p plan = IsPlanFor (built_core p) plan → is_buildable (built_core p) ≡ true → (cells : List PlainCell) → CarriesCore (built_core p) plan cells → Carries p cells

-- and is done within the cost of each run of that core
abbrev pub CoresKeepCosts : PlainProgram → PlainPlan → Type 0
CoresKeepCosts p plan = IsPlanFor (built_core p) plan → is_buildable (built_core p) ≡ true → (cells : List PlainCell) → CarriesCore (built_core p) plan cells → KeepsCost p plan cells

-- a program whose block is one inner body, over registers, arguments, outputs, SRAMs and FIFOs, with any DRAMs, can be built
abbrev pub InnerBlocksCanBeBuilt : PlainProgram → Type 0
InnerBlocksCanBeBuilt p = is_inner p.body ≡ true → list_all (λ (m : program.PlainMem). is_stored m.kind || is_dram m.kind) p.mems ≡ true → CanBeBuilt p
