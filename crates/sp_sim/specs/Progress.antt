-- What a caller sees of a simulation: what it simulates, the cycle in which it stands, and how it ended.
use Rattle.std.specs.Prelude.{◌≡◌, ℕ, ◌+◌, List, map, Option, Some, None}
use Rattle.std.specs.Global.{Vec}
use Rattle.sp_words.specs.declared.interface.Input.{Input}
use Rattle.sp_netlist.specs.Cells.{PlainCell}
use Rattle.sp_netlist.specs.Signals.{Setting}
use Rattle.sp_netlist.specs.Cycle.{done_in, conflict_in, not_yet, Ends}
use Rattle.sp_sim.specs.declared.end.SimEnd.{SimEnd}
use Rattle.sp_sim.specs.declared.end.SimEnd.TheVariants.{Done, Conflict, CyclesSpent}

-- Cycles are numbered from 0. The cycle is the one that comes next, or the one in which the run ended.
pub record Progress : Type 0 where
  pub setting : Setting
  pub cycle : ℕ
  pub ended : Option SimEnd

-- the netlist with its arguments, the contents of its DRAMs and the delays
abbrev pub setting_of : List PlainCell → Input → List ℕ → Setting
setting_of cells input delays = record { cells = cells; args = input.args.items; drams = map (λ (words : Vec ℕ). words.items) input.drams.items; delays = delays }

-- the netlist, so set up, ends so within the cycles 0 to last
abbrev pub Tells : Setting → ℕ → SimEnd → Type 0
Tells g last (Done cycles) = (outs : List ℕ) × (drams : List (List ℕ)) × Ends g last (done_in cycles outs drams)
Tells g last (Conflict cycle bank port) = Ends g last (conflict_in cycle bank port)
Tells g last CyclesSpent = Ends g last not_yet

-- an end in that cycle
abbrev pub IsEndIn : ℕ → SimEnd → Type 0
IsEndIn cycle (Done cycles) = cycles ≡ cycle
IsEndIn cycle (Conflict at bank port) = at ≡ cycle
IsEndIn cycle CyclesSpent = ⊥

-- done was seen
abbrev pub IsDone : Option SimEnd → Type 0
IsDone (Some (Done cycles)) = Unit {0}
IsDone ended = ⊥

-- one more cycle of a run that hasn't ended: it goes on to the next, or ends
abbrev pub StepsTo : Progress → Option SimEnd → Progress → Type 0
StepsTo old None new = Ends old.setting old.cycle not_yet × (new ≡ record { setting = old.setting; cycle = old.cycle + 1; ended = None })
StepsTo old (Some end) new = Tells old.setting old.cycle end × IsEndIn old.cycle end × (new ≡ record { setting = old.setting; cycle = old.cycle; ended = Some end })

-- the same, but it stays in its cycle
abbrev pub PeeksAt : Progress → Option SimEnd → Progress → Type 0
PeeksAt old None new = Ends old.setting old.cycle not_yet × (new ≡ old)
PeeksAt old (Some end) new = Tells old.setting old.cycle end × IsEndIn old.cycle end × (new ≡ record { setting = old.setting; cycle = old.cycle; ended = Some end })

-- a run as far as a last cycle: it ends, or stands in that cycle
abbrev pub RunsTo : Progress → ℕ → SimEnd → Progress → Type 0
RunsTo old last (Done cycles) new = new ≡ record { setting = old.setting; cycle = cycles; ended = Some (Done cycles) }
RunsTo old last (Conflict cycle bank port) new = new ≡ record { setting = old.setting; cycle = cycle; ended = Some (Conflict cycle bank port) }
RunsTo old last CyclesSpent new = new ≡ record { setting = old.setting; cycle = last; ended = None }
