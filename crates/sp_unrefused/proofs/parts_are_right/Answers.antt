use Rattle.std.proofs.Common.{inr}
use Rattle.sp_unrefused.proofs.Free.{right_at}
use Rattle.sp_unrefused.proofs.Uses.{spans_right, counters_right}
use Rattle.sp_tree.specs.Structure.{counter_numbers, mems_in, vals_in, counters_in}
use Rattle.sp_unrefused.proofs.Places.{as_run, placed_after, placed_binders}
use Rattle.sp_unrefused.proofs.parts_are_right.Goals as goal

-- src/lib.rt:8:1
pub returns : goal.returns
returns c = record {
  expressions = λ p scope here seen accs e x want still h t typed same spared calm. right_at p scope here seen accs h want still t typed same spared calm;
  slices = λ p scope here seen accs spans xs h t typed spared lanes. spans_right p scope here seen accs h t typed spared lanes;
  binders = λ p scope here seen accs n counters binds h t fresh run. (placed_binders p scope here seen accs n t fresh (as_run n (counter_numbers counters) run) h).1;
  places = λ p scope here seen accs s x h t typed right a b c. placed_after p scope here seen accs t h typed right (record { mems_run = as_run here.mems (mems_in s) a; vals_run = as_run here.vals (vals_in s) b; counters_run = as_run here.counters (counters_in s) c });
  counters = λ p scope here seen accs counters xs h t typed spared lanes. counters_right p scope here seen accs h t typed spared (inr lanes);
}
