-- The dump of a netlist's run.
use Rattle.std.specs.Prelude.{◌≡◌, ◌⊎◌, ℕ, ◌+◌, ◌<◌, ◌≤◌, Bool, true, false, List, ◌++◌, map}
use Rattle.sp_netlist.specs.Signals.{Setting, Signals, IsRun}
use Rattle.sp_netlist.specs.Cycle.{GoesOn}
use Rattle.sp_verilog.specs.Text.{AreNets}
use Rattle.sp_verilog.specs.declared.nets.NetLine.{NetLine}
use Rattle.sp_waves.specs.Signals.{PlainSignal, signals_of, nets_of}
use Rattle.sp_netlist.specs.Quiet.{IsQuiet}
use Rattle.sp_waves.specs.Text.{header, cycles, dump}

-- the last cycle that is shown: that in which the run is done or has a conflict, or the last that was asked for
pub record IsLast (g : Setting) (cycles last : ℕ) : Type 0 where
  pub within : last ≤ cycles
  pub goes_on : (s : Signals) → IsRun g s → (t : ℕ) → t < last → GoesOn g s t
  pub ends : (last ≡ cycles) ⊎ ((s : Signals) → IsRun g s → GoesOn g s last → ⊥)

-- the words of the signals in a cycle of a run
abbrev pub row : Signals → List PlainSignal → ℕ → List ℕ
row s signals t = map (s.net t) (nets_of signals)

-- the text shows the ports and the nets, ascending, of the netlist's run, which is the same whichever run is taken
pub record IsDump (g : Setting) (cycles : ℕ) (text : List ℕ) : Type 0 where
  pub nets : List NetLine
  pub are_nets : AreNets g.cells nets
  pub last : ℕ
  pub is_last : IsLast g cycles last
  pub is_text : (s : Signals) → IsRun g s → text ≡ dump g.cells (signals_of g.cells nets) (row s (signals_of g.cells nets)) last

-- ---- a dump under way

-- in each cycle before this one the run went on
abbrev pub WentOn : Setting → ℕ → Type 0
WentOn g cycle = (s : Signals) → IsRun g s → (t : ℕ) → t < cycle → GoesOn g s t

-- the text shows the cycles up to this one, in which the signals have these words
abbrev pub ShowsText : Setting → List PlainSignal → (cycle : ℕ) → (text : List ℕ) → Type 0
ShowsText g signals cycle text = (s : Signals) → IsQuiet g s → text ≡ header g.cells signals ++ cycles signals (row s signals) cycle

pub record Shows (g : Setting) (signals : List PlainSignal) (cycle : ℕ) (text words : List ℕ) : Type 0 where
  pub is_text : ShowsText g signals cycle text
  pub are_words : (s : Signals) → IsQuiet g s → words ≡ row s signals cycle

-- the cycle after one was shown, or the run doesn't go on past that one
abbrev pub ShowsNext : Setting → List PlainSignal → (cycle : ℕ) → (old_text : List ℕ) → (went_on : Bool) → (text words : List ℕ) → Type 0
ShowsNext g signals cycle old_text true text words = WentOn g (cycle + 1) × Shows g signals (cycle + 1) text words
ShowsNext g signals cycle old_text false text words = (text ≡ old_text) × ((s : Signals) → IsRun g s → GoesOn g s cycle → ⊥)
