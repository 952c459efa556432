-- Each block is computed.
use Rattle.std.proofs.Common.{refl}
use Rattle.sp_core.specs.ExampleLoops.{streamed}
use Rattle.sp_stream.specs.ExampleStreams.{looped}
use Rattle.sp_stream.proofs.examples.worked_proper_blocks.Goals as goal

pub returns-clause-streamed : goal.returns-clause-streamed
unfolding streamed
returns-clause-streamed c = refl

pub returns-clause-root : goal.returns-clause-root
unfolding streamed
returns-clause-root c = refl

pub returns-clause-stage : goal.returns-clause-stage
unfolding streamed
returns-clause-stage c = refl

pub returns-clause-no_node : goal.returns-clause-no_node
unfolding streamed
returns-clause-no_node c = refl

pub returns-clause-chain : goal.returns-clause-chain
unfolding looped
returns-clause-chain c = refl

pub returns-clause-a_loop : goal.returns-clause-a_loop
unfolding looped
returns-clause-a_loop c = refl

pub returns-clause-register_as_bound : goal.returns-clause-register_as_bound
unfolding looped
returns-clause-register_as_bound c = refl

pub returns-clause-loop_of_nothing : goal.returns-clause-loop_of_nothing
unfolding looped
returns-clause-loop_of_nothing c = refl

pub returns-clause-read_by_both : goal.returns-clause-read_by_both
unfolding looped
returns-clause-read_by_both c = refl

pub returns-clause-written_by_one : goal.returns-clause-written_by_one
unfolding looped
returns-clause-written_by_one c = refl

pub returns-clause-outside_of_one : goal.returns-clause-outside_of_one
unfolding looped
returns-clause-outside_of_one c = refl

pub returns-clause-branching : goal.returns-clause-branching
unfolding looped
returns-clause-branching c = refl
