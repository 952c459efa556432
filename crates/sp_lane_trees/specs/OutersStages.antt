-- Stages of a body with one lane.
use Rattle.std.specs.Prelude.{ℕ, List, ◌++◌}
use Rattle.sp_core.specs.Around.{Around}
use Rattle.sp_core.specs.Invariant.{owned_in}
use Rattle.sp_core.specs.PlainCore.{PlainStages, no_stage, more_stage, PlainCore}
use Rattle.sp_lanes.specs.Within.{Within}
use Rattle.sp_lane_groups.specs.InnersAlong.{GoesAlong, StandsIn}

module _ (core : PlainCore) where
  -- each goes along at a place
  abbrev pub AllGoAlong : (turns : ℕ) → Around → Within → PlainStages → Type 0
  AllGoAlong turns around w no_stage = Unit {0}
  AllGoAlong turns around w (more_stage first last comb node rest) = GoesAlong core turns around w node × AllGoAlong turns around w rest

  -- each stands there, where those before it own their memories
  abbrev pub AllStandIn : (around inside : Around) → (earlier : List ℕ) → Within → PlainStages → Type 0
  AllStandIn around inside earlier w no_stage = Unit {0}
  AllStandIn around inside earlier w (more_stage first last comb node rest) = StandsIn core around inside earlier w node × AllStandIn around inside (earlier ++ owned_in node) w rest
