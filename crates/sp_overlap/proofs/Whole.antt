-- Each run of a core by a valid plan comes in order, where the core's meets hold of it.
use Rattle.std.proofs.Common.{◌≡◌, ◌+◌, true, [], arith, refl, sym, subst, ap}
use Rattle.std.proofs.lemmas.Bool.{false≢true}
use Rattle.sp_core.specs.Around.{nothing}
use Rattle.sp_core.specs.Events.{Standing, events_of}
use Rattle.sp_core.specs.Meeting.{are_met}
use Rattle.sp_core.specs.PlainCore.{PlainCore}
use Rattle.sp_plan.specs.Named.{names_at}
use Rattle.sp_plan.specs.PlainPlan.{PlainPlan}
use Rattle.sp_plan.specs.Validity.{schemes_of}
use Rattle.sp_machine.specs.Timeline.{core_timed}
use Rattle.sp_machine.specs.Transfers.{Delays}
use Rattle.sp_machine.proofs.InnerOrder.{pairs_met}
use Rattle.sp_machine.proofs.Told.{told_node}
use Rattle.sp_machine.proofs.TreeOrder.{node_in_order}
use Rattle.sp_overlap.specs.Whole.{PlansAreSound, PlannedRunsInOrder}
use Rattle.sp_overlap.proofs.Owners.{none_streams}
use Rattle.sp_overlap.proofs.Planned.{node_planned, node_kept}
use Rattle.sp_overlap.proofs.Sound.{Keeps, node_sound}

pub plans_are_sound : (core : PlainCore) (plan : PlainPlan) (delays : Delays) → PlansAreSound core plan delays
plans_are_sound core plan delays forms meets w h met =
    node_sound core forms meets plan delays (none_streams core w.is_timed) core.root 0 0 start (λ m. 0) h nothing [] keeps tt
    (pairs_met core meets (core_timed core plan delays h).events
    (subst (λ ms. are_met core meets (events_of ms) ≡ true) (sym (told_node core plan delays core.root 0 0 start (λ m. 0) h)) met))
  where
    start : Standing
    start = record { path = []; counters = [] }

    keeps : Keeps core forms meets plan delays (none_streams core w.is_timed) core.root 0 0 nothing []
    keeps = record {
      right = w.is_core.nodes;
      scoped = λ m e. absurd (false≢true e);
      timed = w.is_timed;
      by_lane = w.by_lane;
      kinds = w.valid.kinds;
      times = w.valid.times;
      slots = w.valid.slots;
      copied = w.valid.copied;
      named = λ i l. ap (names_at core) (let e : 0 + i ≡ i = omega arith in e);
      own = λ j m l u. refl;
    }

pub planned_runs_in_order : (core : PlainCore) (plan : PlainPlan) (delays : Delays) → PlannedRunsInOrder core plan delays
planned_runs_in_order core plan delays forms meets w hold input turns h t fits ran =
    node_in_order core plan delays (schemes_of plan) meets core.root 0 0 (record { path = []; counters = [] }) (λ m. 0) h
    (node_planned core forms meets plan core.root 0 0 w.is_timed w.valid.kinds) (node_kept core forms meets plan core.root 0 0 w.is_timed w.valid.kinds w.valid.times)
    (plans_are_sound core plan delays forms meets w h (hold input turns h t fits ran))
