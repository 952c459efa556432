-- Each block is computed.
use Rattle.std.proofs.Common.{refl}
use Rattle.sp_stream.specs.ExampleStreams.{looped}
use Rattle.sp_stream.proofs.examples.worked_blocks_are_cores.Goals as goal

pub returns-clause-chain : goal.returns-clause-chain
unfolding looped
returns-clause-chain c = refl

pub returns-clause-register_as_bound : goal.returns-clause-register_as_bound
unfolding looped
returns-clause-register_as_bound c = refl

pub returns-clause-statement_beside : goal.returns-clause-statement_beside
unfolding looped
returns-clause-statement_beside c = refl

pub returns-clause-nested : goal.returns-clause-nested
unfolding looped
returns-clause-nested c = refl

pub returns-clause-two_put : goal.returns-clause-two_put
unfolding looped
returns-clause-two_put c = refl

pub returns-clause-emptied : goal.returns-clause-emptied
unfolding looped
returns-clause-emptied c = refl

pub returns-clause-register : goal.returns-clause-register
unfolding looped
returns-clause-register c = refl

pub returns-clause-array : goal.returns-clause-array
unfolding looped
returns-clause-array c = refl

pub returns-clause-outer_fifo : goal.returns-clause-outer_fifo
unfolding looped
returns-clause-outer_fifo c = refl

pub returns-clause-branching : goal.returns-clause-branching
unfolding looped
returns-clause-branching c = refl

pub returns-clause-triangle : goal.returns-clause-triangle
unfolding looped
returns-clause-triangle c = refl

pub returns-clause-two_between : goal.returns-clause-two_between
unfolding looped
returns-clause-two_between c = refl
