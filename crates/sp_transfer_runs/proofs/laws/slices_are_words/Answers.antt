use Rattle.sp_transfer_runs.proofs.Words.{slices_are_words}
use Rattle.sp_transfer_runs.proofs.laws.slices_are_words.Goals as goal

pub returns : goal.returns
returns c = slices_are_words c.counters_run_through_groups.ensures c.slices_are_loops.ensures c.slices_move.ensures
