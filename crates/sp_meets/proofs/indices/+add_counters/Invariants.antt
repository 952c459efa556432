use Rattle.sp_meets.proofs.indices.+add_counters.Given as goal

abbrev pub decreases-add_counters : goal.decreases-add_counters
decreases-add_counters l = l.last
