-- Each count is computed.
use Rattle.std.proofs.Common.{refl}
use Rattle.sp_tree.specs.ExampleLoops.{memory_reduced, register_between, counting_down, queued}
use Rattle.sp_tree.specs.ExampleStreams.{streamed, streamed_twice, scattered, widely_copied}
use Rattle.sp_tree.specs.ExampleTransfers.{dot_product, line_filter, mixed_stages, transposed, overlapping_stores}
use Rattle.sp_tree.proofs.examples.worked_counts.Goals as goal

pub returns-clause-dot_product : goal.returns-clause-dot_product
unfolding dot_product
returns-clause-dot_product c = refl

pub returns-clause-line_filter : goal.returns-clause-line_filter
unfolding line_filter
returns-clause-line_filter c = refl

pub returns-clause-mixed_stages : goal.returns-clause-mixed_stages
unfolding mixed_stages
returns-clause-mixed_stages c = refl

pub returns-clause-transposed : goal.returns-clause-transposed
unfolding transposed
returns-clause-transposed c = refl

pub returns-clause-overlapping_stores : goal.returns-clause-overlapping_stores
unfolding overlapping_stores
returns-clause-overlapping_stores c = refl

pub returns-clause-memory_reduced : goal.returns-clause-memory_reduced
unfolding memory_reduced
returns-clause-memory_reduced c = refl

pub returns-clause-register_between : goal.returns-clause-register_between
unfolding register_between
returns-clause-register_between c = refl

pub returns-clause-counting_down : goal.returns-clause-counting_down
unfolding counting_down
returns-clause-counting_down c = refl

pub returns-clause-queued : goal.returns-clause-queued
unfolding queued
returns-clause-queued c = refl

pub returns-clause-streamed : goal.returns-clause-streamed
unfolding streamed
returns-clause-streamed c = refl

pub returns-clause-streamed_twice : goal.returns-clause-streamed_twice
unfolding streamed_twice
returns-clause-streamed_twice c = refl

pub returns-clause-scattered : goal.returns-clause-scattered
unfolding scattered
returns-clause-scattered c = refl

pub returns-clause-widely_copied : goal.returns-clause-widely_copied
unfolding widely_copied
returns-clause-widely_copied c = refl
