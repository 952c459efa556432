-- What is true of the parts of a simulation.
use Rattle.std.specs.Prelude.{◌≡◌, ℕ, ◌<◌, length, count_by, Option, Some, None}
use Rattle.sp_netlist.specs.Rules.{is_dram, IsNetlist}
use Rattle.sp_netlist.specs.Signals.{Setting, Signals}
use Rattle.sp_netlist.specs.Cycle.{GoesOn}
use Rattle.sp_netlist.specs.Quiet.{IsQuiet}
use Rattle.sp_sim.specs.declared.state.State.{State}
use Rattle.sp_sim.specs.declared.state.Found.{Found}
use Rattle.sp_sim.specs.declared.state.Found.TheVariants.{Nothing, Over, Shared}
use Rattle.sp_sim.specs.declared.end.SimEnd.{SimEnd}
use Rattle.sp_sim.specs.declared.end.SimEnd.TheVariants.{Done, Conflict, CyclesSpent}
use Rattle.sp_sim.specs.declared.program.Program.{Program}
use Rattle.sp_sim.specs.Programs.{IsProgram}
use Rattle.sp_sim.specs.States.{IsState, StandsIn, LookedIn}

-- the end of a run in this cycle, where the state has the words of all nets
abbrev pub EndedIn : Setting → Signals → ℕ → State → Option SimEnd → Type 0
EndedIn g s cycle state None = Unit {0}
EndedIn g s cycle state (Some (Done cycles)) = (cycles ≡ cycle) × LookedIn g s cycle state Over
EndedIn g s cycle state (Some (Conflict at bank port)) = (at ≡ cycle) × LookedIn g s cycle state (Shared bank port)
EndedIn g s cycle state (Some CyclesSpent) = ⊥

-- what was found, as the end of the run
abbrev pub end_of : ℕ → Found → Option SimEnd
end_of cycle Nothing = None
end_of cycle Over = Some (Done cycle)
end_of cycle (Shared bank port) = Some (Conflict cycle bank port)

-- the run of the setting stands there, and has gone on until then
pub record IsSim (g : Setting) (program : Program) (cycle : ℕ) (state : State) (end : Option SimEnd) : Type 0 where
  pub netlist : IsNetlist g.cells
  pub given : length g.drams ≡ count_by is_dram g.cells
  pub is_program : IsProgram g.cells program
  pub is_state : IsState g.cells state
  pub went_on : (s : Signals) → IsQuiet g s → (t : ℕ) → t < cycle → GoesOn g s t
  pub stands : (s : Signals) → IsQuiet g s → StandsIn g s cycle state
  pub ended : (s : Signals) → IsQuiet g s → EndedIn g s cycle state end
