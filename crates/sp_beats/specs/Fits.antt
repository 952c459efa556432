-- When a loop in beats can be emitted.
use Rattle.std.specs.Prelude.{Contains}
use Rattle.sp_netlist.specs.Draft.{Draft}
use Rattle.sp_gates.specs.Nets.{HasNet, Awaits}
use Rattle.sp_sequence.specs.Fits.{AreSlots, slot_starts}
use Rattle.sp_beats.specs.declared.part.Beats.{Beats}

pub record BeatsFit (d : Draft) (part : Beats) : Type 0 where
  pub start : HasNet d part.start 1
  pub more : HasNet d part.more 1
  pub step : Awaits d part.step 1
  pub slots : AreSlots d part.slots.items
  pub apart : Contains (slot_starts part.slots.items) part.step → ⊥
