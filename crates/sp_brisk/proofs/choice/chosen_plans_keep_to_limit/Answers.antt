use Rattle.sp_brisk.proofs.choice.chosen_plans_keep_to_limit.Goals as goal

pub returns : goal.returns
returns c core plan delays d forms meets ok planned =
    let valid = c.chosen_plans_are_valid.ensures core forms meets plan ok planned in
    let brisk = c.chosen_plans_are_brisk.ensures core forms meets plan ok planned in
    record {
      costs = c.brisk_plans_cost_within.ensures core plan d forms meets ok valid brisk;
      ends = λ waited timed. c.brisk_runs_end_within.ensures core plan delays d waited forms meets ok timed valid brisk;
    }
