use Rattle.sp_overlap.proofs.Planned.{node_kept}
use Rattle.sp_owner_runs.proofs.owners.plans_have_numbers.Goals as goal

pub returns : goal.returns
returns c core plan forms meets w = record {
  copies = λ m l. (c.plans_have_copies.ensures core plan forms meets w m l).copy;
  kept = node_kept core forms meets plan core.root 0 0 w.is_timed w.valid.kinds w.valid.times;
}
