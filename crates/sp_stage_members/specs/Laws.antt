-- Laws of stages in their places, as statements.
use Rattle.std.specs.Prelude.{List, length}
use Rattle.sp_time.specs.Beats.{Slot}
use Rattle.sp_stage_places.specs.Arranged.{arranged}
use Rattle.sp_stage_members.specs.Placed.{StandOnce}

-- stages that are arranged stand in one place each
abbrev pub StagesStandOnce : Type 0
StagesStandOnce = (slots : List Slot) → StandOnce (length slots) (arranged slots)
