use Rattle.sp_meets.proofs.indices.+add_zeros.Given as goal

abbrev pub decreases-add_zeros : goal.decreases-add_zeros
decreases-add_zeros l = l.count
