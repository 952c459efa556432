use Rattle.sp_unroll.proofs.joined.+push_rounds.Given as goal

abbrev pub decreases-push_rounds : goal.decreases-push_rounds
decreases-push_rounds l = l.count
