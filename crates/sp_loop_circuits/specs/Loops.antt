-- When a loop can be closed, and what it is then.
use Rattle.std.specs.Prelude.{◌≡◌, ℕ, List, length, Contains}
use Rattle.sp_netlist.specs.Draft.{Draft}
use Rattle.sp_netlist.specs.Signals.{Signals}
use Rattle.sp_gates.specs.Nets.{HasNet, Awaits}
use Rattle.sp_gates.specs.Runs.{RunsOn}
use Rattle.sp_gates.specs.Tested.{is_on}
use Rattle.sp_sequence.specs.declared.part.Slot.{Slot}
use Rattle.sp_sequence.specs.Fits.{AreApart}
use Rattle.sp_sequence.specs.Slots.{AreFirsts}
use Rattle.sp_part_runs.specs.SequencesPlaces.{sizes}
use Rattle.sp_part_runs.specs.SequencesRuns.{shape_of}
use Rattle.sp_beats.specs.Beats.{RunsBeats}
use Rattle.sp_beat_words.specs.Fits.{AreRows, row_nets}
use Rattle.sp_beat_words.specs.Words.{MoveOn}
use Rattle.sp_loop_nets.specs.declared.opening.OpenLoop.{OpenLoop}
use Rattle.sp_stage_members.specs.declared.part.StagePart.{StagePart}
use Rattle.sp_stage_members.specs.Circuits.{masks_in}
use Rattle.sp_stage_members.specs.Members.{PartsFit, AreSlotsOf, starts_in}
use Rattle.sp_stage_members.specs.Placed.{StandOnce}

-- The start and the counters stand; the step, the wires of the rows and the starts of the stages are to be driven, each another
-- net; and each stage has one place.
pub record LoopFits (d : Draft) (begun : OpenLoop) (stages : List StagePart) (places : List (List (List ℕ))) : Type 0 where
  pub start : HasNet d begun.part.start 1
  pub more : HasNet d begun.nets.more 1
  pub step : Awaits d begun.part.step 1
  pub rows : AreRows d begun.rows.before.items begun.rows.rows.items
  pub fit : PartsFit d (masks_in begun.nets begun.rows.rows.items) (length places) stages
  pub once : StandOnce (length stages) places
  pub apart : AreApart (row_nets begun.rows.rows.items) (starts_in stages)
  pub no_row : Contains (row_nets begun.rows.rows.items) begun.part.step → ⊥
  pub no_start : Contains (starts_in stages) begun.part.step → ⊥

-- Its stages are members of slots in their places. In each run of whatever the draft becomes words go along with the groups, and
-- the slots work in beats.
pub record IsClosed (d : Draft) (begun : OpenLoop) (stages : List StagePart) (places : List (List (List ℕ))) (firsts : List ℕ) (done : ℕ) : Type 0 where
  pub slots : List Slot
  pub members : AreSlotsOf d (masks_in begun.nets begun.rows.rows.items) stages places slots
  pub shaped : shape_of slots ≡ sizes places
  pub begin : AreFirsts d slots firsts
  pub moves : (s : Signals) → RunsOn s d.cells → MoveOn s begun.part.step begun.rows.before.items begun.rows.rows.items
  pub beats : (s : Signals) → RunsOn s d.cells → RunsBeats s (is_on s begun.part.start) (is_on s begun.nets.more) (is_on s begun.part.step) slots firsts (is_on s done)
