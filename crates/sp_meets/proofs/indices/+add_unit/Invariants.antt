use Rattle.sp_meets.proofs.indices.+add_unit.Given as goal

abbrev pub decreases-add_unit : goal.decreases-add_unit
decreases-add_unit l = l.count
