-- Laws of netlists, each the contract of a function with no body.
use Rattle.std.specs.Prelude.{◌≡◌, ℕ, ◌≤◌, ◌⊎◌, List}
use Rattle.sp_netlist.specs.declared.cell.Port.{Port}
use Rattle.sp_netlist.specs.declared.error.NetError.{NetError}
use Rattle.sp_netlist.specs.declared.error.NetError.TheVariants.{Memory}
use Rattle.sp_netlist.specs.Cells.{PlainCell}
use Rattle.sp_netlist.specs.Rules.{IsNetlist, Leads}
use Rattle.sp_netlist.specs.Refusals.{IsWithinLimits, Refuses}
use Rattle.sp_netlist.specs.Signals.{Setting, Signals, IsRun}
use Rattle.sp_netlist.specs.Cycle.{OneRun, Ending, done_in, conflict_in, EndsAs, Ends}

-- every netlist, however it is set up, has exactly one run
abbrev pub HasOneRun : Type 0
HasOneRun = (g : Setting) → IsNetlist g.cells → OneRun g

-- within any number of cycles it ends in some way, and in one way alone
pub record OneEnding (g : Setting) (last : ℕ) : Type 0 where
  pub some_ending : (ending : Ending) × Ends g last ending
  pub same_ending : (a b : Ending) → Ends g last a → Ends g last b → a ≡ b
  -- one run tells it
  pub of_run : (s : Signals) (ending : Ending) → IsRun g s → EndsAs g s last ending → Ends g last ending

abbrev pub HasOneEnding : Type 0
HasOneEnding = (g : Setting) → IsNetlist g.cells → (last : ℕ) → OneEnding g last

-- what ends in a cycle ends so within every number of cycles that has it
pub record EndingKept : Type 0 where
  pub done : (g : Setting) (a b cycle : ℕ) (outs : List ℕ) (drams : List (List ℕ)) → cycle ≤ b → Ends g a (done_in cycle outs drams) → Ends g b (done_in cycle outs drams)
  pub conflict : (g : Setting) (a b cycle bank : ℕ) (port : Port) → cycle ≤ b → Ends g a (conflict_in cycle bank port) → Ends g b (conflict_in cycle bank port)

-- no chain of cells that compute leads from a net back to it
abbrev pub NoLoop : Type 0
NoLoop = (cells : List PlainCell) → IsNetlist cells → (net : ℕ) → Leads cells net net → ⊥

-- Want of memory apart, a netlist within the limits has no refusal, and no list of cells has two.
pub record RefusalsExact : Type 0 where
  pub of_no_netlist : (cells : List PlainCell) → IsNetlist cells → IsWithinLimits cells → (error : NetError) → Refuses cells error → error ≡ Memory
  pub one_refusal : (cells : List PlainCell) (a b : NetError) → Refuses cells a → Refuses cells b → (a ≡ Memory) ⊎ ((b ≡ Memory) ⊎ (a ≡ b))
