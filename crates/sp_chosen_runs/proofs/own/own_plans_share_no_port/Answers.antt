use Rattle.sp_machine.specs.Timeline.{core_timed}
use Rattle.sp_patterns.specs.Patterns.{patterns_of}
use Rattle.sp_chosen_runs.proofs.own.own_plans_share_no_port.Goals as goal

pub returns : goal.returns
returns c core plan delays meets has right input turns h t fits went =
    let sound = c.own_plans_are_sound.ensures core plan delays meets has right input turns h t fits went in
    let hold = c.meets_hold.ensures core meets has.is_core right in (
      sound.0,
      record {
        copied = c.runs_have_copies.ensures core plan delays (patterns_of core) meets has h;
        served = c.reads_have_duplicates.ensures core plan delays (patterns_of core) meets has h;
        banks = c.cores_use_no_port_twice.ensures core plan delays (patterns_of core) meets has h (hold input turns h t fits went) sound.1;
        queues = c.ordered_use_no_end_twice.ensures core (core_timed core plan delays h).events (c.planned_runs_come_in_order.ensures core plan delays (patterns_of core) meets has hold input turns h t fits went);
      },
    )
