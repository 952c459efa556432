-- The ports that a run uses are of banks that the plan has, as statements.
use Rattle.std.specs.Prelude.{◌≡◌, ℕ, ◌<◌, List, Option, Some, None}
use Rattle.sp_bank.specs.Banking.{Banking, InSpace}
use Rattle.sp_core.specs.declared.access.Meet.{Meet}
use Rattle.sp_core.specs.Forms.{PlainForms}
use Rattle.sp_core.specs.History.{History}
use Rattle.sp_core.specs.PlainCore.{PlainCore}
use Rattle.sp_plan.specs.PlainPlan.{PlainPlan, mem_plan}
use Rattle.sp_plan.specs.Ports.{scheme_at}
use Rattle.sp_plan.specs.Validity.{schemes_of}
use Rattle.sp_time.specs.Lists.{Each}
use Rattle.sp_machine.specs.Timeline.{core_timed}
use Rattle.sp_machine.specs.Transfers.{Delays}
use Rattle.sp_overlap.specs.Whole.{HasPlan}
use Rattle.sp_core_ports.specs.UsedPorts.{Port, port_of}

-- the schemes of a plan are of those that are searched
abbrev pub AreInSpace : PlainPlan → Type 0
AreInSpace plan = (m : ℕ) (b : Banking) → scheme_at (schemes_of plan) (Some m) ≡ Some b → InSpace b

-- a memory without a scheme is one bank
abbrev pub bank_count : Option Banking → ℕ
bank_count None = 1
bank_count (Some b) = b.banks

-- a port of a bank, in a duplicate of a copy, as the plan has them of the memory
pub record IsThere (plan : PlainPlan) (p : Port) : Type 0 where
  pub copy : p.copy < (mem_plan plan p.mem).depth
  pub duplicate : p.duplicate < (mem_plan plan p.mem).duplicates
  pub bank : p.bank < bank_count (scheme_at (schemes_of plan) (Some p.mem))

-- by a valid plan each port that a run uses is one of these
abbrev pub PortsAreThere : PlainCore → PlainPlan → Delays → Type 0
PortsAreThere core plan delays =
    (forms : PlainForms) (meets : List Meet) → HasPlan core forms meets plan → AreInSpace plan → (h : History)
    → Each (λ s. (p : Port) → port_of core plan s ≡ Some p → IsThere plan p) (core_timed core plan delays h).events
