-- What combinations of a core take, and which counters they have.
use Rattle.std.specs.Prelude.{◌<◌, ℕ, true, false, List, ◌++◌, drop, Option, Some, None}
use Rattle.sp_core.specs.PlainCore.{PlainOp, PlainNode, PlainStages, inner, outer, fsm, branch, no_stage, more_stage}
use Rattle.sp_lanes.specs.Combined.{meeting}
use Rattle.sp_lane_rules.specs.CombinedStanding.{numbers_of, AreApart}

-- a combination takes a word that stands before it
abbrev pub TakesBefore : List PlainOp → Option ℕ → Type 0
TakesBefore ops None = Unit {0}
TakesBefore ops (Some first) = (meeting (drop first ops)).word < first

-- the counters of an inner body have other numbers than these
abbrev pub HasOthers : (numbers : List ℕ) → PlainNode → Type 0
HasOthers numbers (inner counters owned ops comb) = AreApart numbers counters
HasOthers numbers node = Unit {0}

-- so it is in each node of a part, where the counters of a stage that combines have other numbers than those around it
abbrev mutual
  pub StandsApart : (numbers : List ℕ) → PlainNode → Type 0
  StandsApart numbers (inner counters owned ops comb) = TakesBefore ops comb
  StandsApart numbers (outer counters style owned stages) = StandApart (numbers_of counters ++ numbers) stages
  StandsApart numbers (fsm start state test body next) = StandsApart numbers body
  StandsApart numbers (branch test first second) = StandsApart numbers first × StandsApart numbers second
  StandsApart numbers _ = Unit {0}

  pub StandApart : (numbers : List ℕ) → PlainStages → Type 0
  StandApart numbers no_stage = Unit {0}
  StandApart numbers (more_stage first last true node rest) = HasOthers numbers node × StandsApart numbers node × StandApart numbers rest
  StandApart numbers (more_stage first last false node rest) = StandsApart numbers node × StandApart numbers rest
