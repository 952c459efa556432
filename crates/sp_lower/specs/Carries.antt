-- What it is for a netlist to carry a core by a plan.
use Rattle.std.specs.Prelude.{ℕ, ◌≡◌, ◌≤◌, List}
use Rattle.std.specs.List.{All}
use Rattle.sp_netlist.specs.Cells.{PlainCell}
use Rattle.sp_netlist.specs.Cycle.{Ends, done_in}
use Rattle.sp_netlist.specs.Ports.{ports_of}
use Rattle.sp_words.specs.Ports.{PlainInput}
use Rattle.sp_core.specs.Events.{At}
use Rattle.sp_core.specs.History.{History}
use Rattle.sp_core.specs.Meaning.{out_words, dram_words}
use Rattle.sp_core.specs.PlainCore.{PlainCore}
use Rattle.sp_core.specs.Store.{Store}
use Rattle.sp_plan.specs.PlainPlan.{PlainPlan}
use Rattle.sp_machine.specs.Timeline.{core_timed}
use Rattle.sp_machine.specs.Transfers.{Delays}
use Rattle.sp_stored_cores.specs.Circuits.{IsStoredCore}
use Rattle.sp_stored_cores.specs.Closing.{RunsByPlan}
use Rattle.sp_lower.specs.TreesFits.{CanEmitStored}

-- a core of registers, arguments, outputs, SRAMs and FIFOs, whose tree can be emitted
pub record CanLower (core : PlainCore) (plan : PlainPlan) : Type 0 where
  pub can : CanEmitStored core plan
  pub stored : IsStoredCore core

-- A run of the core in the netlist: what its transfers wait, which is never more than the greatest delay of the list; and where the timeline by
-- these takes no longer than the bound, it is done in the cycle after the timeline's last one, with the words that the run leaves on the
-- outputs and in the DRAMs, and up to then no two taps share a port of a bank.
pub record EndsInTime (core : PlainCore) (plan : PlainPlan) (cells : List PlainCell) (input : PlainInput) (h : History) (left : Store) (delays : List ℕ) (bound : ℕ) : Type 0 where
  pub timing : Delays
  pub small : (d : ℕ) → All (λ e. e ≤ d) delays → (k : ℕ) (path : List At) (ask : ℕ) → timing k path ask ≤ d
  pub ends : (last : ℕ) → (core_timed core plan timing h).took ≤ bound → (core_timed core plan timing h).took ≤ last
      → Ends (record { cells = cells; args = input.args; drams = input.drams; delays = delays }) last (done_in (core_timed core plan timing h).took (out_words core left) (dram_words core left))

-- Its ports are the core's. So ends every run of the core from an input that fits, by such a plan, with every delays of channels.
pub record CarriesCore (core : PlainCore) (plan : PlainPlan) (cells : List PlainCell) : Type 0 where
  pub ports : ports_of cells ≡ core.ports
  pub carries : (input : PlainInput) (h : History) (left : Store) → RunsByPlan core plan input h left → (delays : List ℕ) (bound : ℕ) → EndsInTime core plan cells input h left delays bound
