-- The counters of a loop in beats as they stand around its stages: their words go along with the groups, from slot to slot.
use Rattle.std.specs.Prelude.{◌≡◌, ℕ, ◌+◌, ◌<◌, ◌≤◌, List, ◌++◌, map, length, take, drop, suc}
use Rattle.std.specs.List.{Contains}
use Rattle.sp_words.specs.declared.kind.Style.{Style}
use Rattle.sp_netlist.specs.declared.parts.Wire.{Wire}
use Rattle.sp_netlist.specs.Signals.{Signals}
use Rattle.sp_gates.specs.Tested.{is_on}
use Rattle.sp_core.specs.Around.{Near, lanes_of}
use Rattle.sp_core.specs.History.{Bounds, Groups, outer_ran}
use Rattle.sp_core.specs.PlainCore.{PlainCounter, PlainStages, outer, PlainCore}
use Rattle.sp_core.specs.Scope.{Loop, in_lanes, loops_of}
use Rattle.sp_counters.specs.declared.part.Counters.{Counters}
use Rattle.sp_counters.specs.declared.part.Counted.{Counted}
use Rattle.sp_counters.specs.Counting as counting
use Rattle.sp_plan.specs.PlainPlan.{PlainPlan, node_plan}
use Rattle.sp_time.specs.Beats.{took_at, starts}
use Rattle.sp_machine.specs.Timeline.{slots_of}
use Rattle.sp_machine.specs.Transfers.{Delays}
use Rattle.sp_part_runs.specs.BodiesRuns.{IsOnAt}
use Rattle.sp_part_runs.specs.SequencesChains.{Numbered, At}
use Rattle.sp_part_runs.specs.SequencesPlaces.{stage_at as stage_in, sizes, IsPlace, AreArranged}
use Rattle.sp_part_runs.specs.BeatsRuns.{BeatsRan, steps_in, step_cycle}
use Rattle.sp_beat_words.specs.declared.part.Row.{Row}
use Rattle.sp_beat_words.specs.Words.{MoveOn}
use Rattle.sp_part_runs.specs.WordsLaws.{AreAsLong}
use Rattle.sp_part_runs.specs.StepsLaws.{AreInSteps}
use Rattle.sp_node_runs.specs.Runs.{Placed, AreWithin, over_at}
use Rattle.sp_node_runs.specs.ControlBeating.{AreOuters, rows_of, beats_ran, TakeTime}
use Rattle.sp_node_runs.specs.Bodies.{Scopes, group_scope}
use Rattle.sp_node_runs.specs.BodiesGiven.{Nets, with_nets, values_of, AreStanding}
use Rattle.sp_node_runs.specs.BodiesLaws.{own_near}

abbrev pub wires_of : List Wire → List ℕ
wires_of wires = map (λ (w : Wire). w.net) wires

-- the nets of so many values, and behind them of masks, around the stages of a slot
abbrev pub with_row : Nets → List PlainCounter → (values : ℕ) → Row → Nets
with_row env counters n row = with_nets env counters (take n (wires_of row.wires.items)) (drop n (wires_of row.wires.items))

-- the bounds of a run, and its loops
pub record TookBounds (counters : List PlainCounter) (r : Placed) (loops : List Loop) : Type 0 where
  pub bounds : List Bounds
  pub counts : List ℕ
  pub groups : Groups
  pub is : r.history ≡ outer_ran bounds counts groups
  pub each : length bounds ≡ length counters
  pub loops_are : loops ≡ loops_of in_lanes counters bounds

module _ (core : PlainCore) (plan : PlainPlan) (delays : Delays) where
  module _ (k n : ℕ) (counters : List PlainCounter) (owned : List ℕ) (stages : PlainStages) (places : List (List (List ℕ))) where
    -- in a cycle of the run of a stage in a group
    abbrev pub IsInStage : Placed → (group stage t : ℕ) → Type 0
    IsInStage r g s t =
        (r.cycle + starts (slots_of (node_plan plan k)) (took_at (rows_of core plan delays k n counters owned stages places r)) g s ≤ t)
        × (t < r.cycle + (starts (slots_of (node_plan plan k)) (took_at (rows_of core plan delays k n counters owned stages places r)) g s + took_at (rows_of core plan delays k n counters owned stages places r) g s))

  -- Where, up to a cycle, the loop steps in its runs and in each step its counters are those of the group that comes, whose words and
  -- masks the rows take along, and up to the cycle after it what is around the loop stands, up to that cycle all stands that is around
  -- each stage as long as it is at work.
  abbrev pub RowsStand : Type 0
  RowsStand =
      (s : Signals) (part : Counters) (nets : Counted) (step : ℕ) (before : List Wire) (rows : List Row) (last : ℕ) (k n : ℕ) (counters : List PlainCounter) (style : Style) (owned : List ℕ) (stages : PlainStages) (places : List (List (List ℕ)))
      (near : List Near) (env : Nets) (scopes : Scopes) (from until : ℕ) (runs : List Placed) (loops : BeatsRan → List Loop)
      → AreOuters runs → AreWithin core plan delays (outer counters style owned stages) k n from until runs → AreArranged places (slots_of (node_plan plan k)) → TakeTime core plan delays k n counters owned stages places runs
      → lanes_of counters ≡ counting.lanes_of part.counters.items → lanes_of counters ≤ length nets.masks.items → wires_of before ≡ values_of nets.counters.items ++ nets.masks.items
      → MoveOn s step before rows → AreAsLong (length before) rows → length rows ≤ length places
      → IsOnAt (is_on s step) (At (step_cycle (sizes places)) (steps_in (sizes places) (map (beats_ran core plan delays k n counters owned stages places) runs))) last
      → AreInSteps s part nets loops (sizes places) (map (beats_ran core plan delays k n counters owned stages places) runs) last
      → ((r : Placed) → Contains runs r → TookBounds counters r (loops (beats_ran core plan delays k n counters owned stages places r)))
      → ((r : Placed) (t : ℕ) → Contains runs r → r.cycle < t → t < over_at core plan delays (outer counters style owned stages) k n r → t ≤ suc last → AreStanding s t near env (scopes r))
      → Numbered (λ x row. (r : Placed) (g j i t : ℕ) → Contains runs r → g < length (rows_of core plan delays k n counters owned stages places r) → IsPlace places x j i
      → IsInStage k n counters owned stages places r g (stage_in places x j i) t → t ≤ suc last
      → AreStanding s t (own_near counters near) (with_row env counters (length nets.counters.items) row) (group_scope (scopes r) (loops (beats_ran core plan delays k n counters owned stages places r)) g)) 0 rows
