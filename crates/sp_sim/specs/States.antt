-- The state of a simulation, and when it is that of a run.
use Rattle.std.specs.Prelude.{◌≡◌, ℕ, suc, ◌<◌, min, Bool, true, false, IsTrue, Option, Some, None, List, length, map, count_by, Contains}
use Rattle.sp_netlist.specs.declared.cell.Port.{Port}
use Rattle.sp_netlist.specs.Cells.{PlainCell}
use Rattle.sp_netlist.specs.Rules.{is_bank, is_unit, is_computed, drives}
use Rattle.sp_netlist.specs.Signals.{Setting, Signals}
use Rattle.sp_netlist.specs.Cycle.{SharesNone, IsConflict, is_over, GoesOn}
use Rattle.sp_sim.specs.declared.state.State.{State}
use Rattle.sp_sim.specs.declared.state.Found.{Found}
use Rattle.sp_sim.specs.declared.state.Found.TheVariants.{Nothing, Over, Shared}
use Rattle.sp_sim.specs.Rows.{word_of}
use Rattle.sp_sim.specs.Memories.{word_at}
use Rattle.sp_sim.specs.Phases.{phase_at}
use Rattle.sp_sim.specs.Settling.{cell_at, IsRow}
use Rattle.sp_sim.specs.Programs.{is_fixed}
use Rattle.sp_sim.specs.Standing.{AreBanks, AreDrams}

-- the state has what these cells need
pub record IsState (cells : List PlainCell) (state : State) : Type 0 where
  pub row : IsRow cells state.row
  pub next : IsRow cells state.next
  pub banks : AreBanks cells state.banks.items
  pub drams : AreDrams cells state.drams.items
  pub phases : length state.phases.items ≡ count_by is_unit cells
  pub reads : length state.reads.items ≡ count_by is_bank cells
  pub writes : length state.writes.items ≡ count_by is_bank cells

-- the state stands in cycle t of a run: each net that isn't computed has its word, and so have the memories
pub record StandsIn (g : Setting) (s : Signals) (t : ℕ) (state : State) : Type 0 where
  pub kept : (at : ℕ) → at < length g.cells → is_computed (cell_at g.cells at) ≡ false
      → (net : ℕ) → Contains (map (λ p. p.0) (drives g.cells (cell_at g.cells at))) net → word_of state.row net ≡ s.net t net
  -- the row that is filled next has the words that never change
  pub fixed : (at : ℕ) → at < length g.cells → is_fixed (cell_at g.cells at) ≡ true
      → (net : ℕ) → Contains (map (λ p. p.0) (drives g.cells (cell_at g.cells at))) net → word_of state.next net ≡ s.net t net
  pub banks : word_at state.banks.items ≡ s.bank t
  pub drams : word_at state.drams.items ≡ s.dram t
  pub phases : (channel : ℕ) → phase_at state.phases.items channel ≡ s.phase t channel
  pub taken : state.taken ≡ min (s.asked t) (length g.delays)

-- what is found, from the first shared port and whether the done net is 1
abbrev pub finding : Option (ℕ × Port) → Bool → Found
finding (Some p) over = Shared p.0 p.1
finding None true = Over
finding None false = Nothing

-- what was found in cycle t
abbrev pub FoundIn : Setting → Signals → ℕ → Found → Type 0
FoundIn g s t Nothing = GoesOn g s t
FoundIn g s t Over = SharesNone g.cells (s.net t) × IsTrue (is_over g.cells (s.net t))
FoundIn g s t (Shared bank port) = IsConflict g.cells (s.net t) bank port

-- the state stands in the cycle and has the words of all nets, and what was found is so
pub record LookedIn (g : Setting) (s : Signals) (t : ℕ) (state : State) (result : Found) : Type 0 where
  pub stands : StandsIn g s t state
  pub words : word_of state.row ≡ s.net t
  pub found : FoundIn g s t result

-- the run goes on and the state stands in the next cycle, or the run ends here
abbrev pub TurnedIn : Setting → Signals → ℕ → State → Found → Type 0
TurnedIn g s t state Nothing = GoesOn g s t × StandsIn g s (suc t) state
TurnedIn g s t state Over = LookedIn g s t state Over
TurnedIn g s t state (Shared bank port) = LookedIn g s t state (Shared bank port)
