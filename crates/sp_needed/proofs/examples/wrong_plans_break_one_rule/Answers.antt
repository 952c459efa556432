-- Each is computed.
use Rattle.std.proofs.Common.{refl}
use Rattle.sp_core.specs.ExampleLoops.{register_between}
use Rattle.sp_core.specs.ExampleTransfers.{copied}
use Rattle.sp_needed.specs.Cores.{passed_on, added_up, distant, read_twice, paired}
use Rattle.sp_needed.proofs.examples.wrong_plans_break_one_rule.Goals as goal

pub returns-clause-order : goal.returns-clause-order
unfolding register_between copied passed_on added_up distant read_twice paired
returns-clause-order c = refl

pub returns-clause-order_broken : goal.returns-clause-order_broken
unfolding register_between copied passed_on added_up distant read_twice paired
returns-clause-order_broken c = refl

pub returns-clause-interval : goal.returns-clause-interval
unfolding register_between copied passed_on added_up distant read_twice paired
returns-clause-interval c = refl

pub returns-clause-interval_broken : goal.returns-clause-interval_broken
unfolding register_between copied passed_on added_up distant read_twice paired
returns-clause-interval_broken c = refl

pub returns-clause-held_stages : goal.returns-clause-held_stages
unfolding register_between copied passed_on added_up distant read_twice paired
returns-clause-held_stages c = refl

pub returns-clause-held_stages_broken : goal.returns-clause-held_stages_broken
unfolding register_between copied passed_on added_up distant read_twice paired
returns-clause-held_stages_broken c = refl

pub returns-clause-chain : goal.returns-clause-chain
unfolding register_between copied passed_on added_up distant read_twice paired
returns-clause-chain c = refl

pub returns-clause-chain_broken : goal.returns-clause-chain_broken
unfolding register_between copied passed_on added_up distant read_twice paired
returns-clause-chain_broken c = refl

pub returns-clause-copies : goal.returns-clause-copies
unfolding register_between copied passed_on added_up distant read_twice paired
returns-clause-copies c = refl

pub returns-clause-copies_broken : goal.returns-clause-copies_broken
unfolding register_between copied passed_on added_up distant read_twice paired
returns-clause-copies_broken c = refl

pub returns-clause-span : goal.returns-clause-span
unfolding register_between copied passed_on added_up distant read_twice paired
returns-clause-span c = refl

pub returns-clause-span_broken : goal.returns-clause-span_broken
unfolding register_between copied passed_on added_up distant read_twice paired
returns-clause-span_broken c = refl

pub returns-clause-duplicates : goal.returns-clause-duplicates
unfolding register_between copied passed_on added_up distant read_twice paired
returns-clause-duplicates c = refl

pub returns-clause-duplicates_broken : goal.returns-clause-duplicates_broken
unfolding register_between copied passed_on added_up distant read_twice paired
returns-clause-duplicates_broken c = refl

pub returns-clause-scheme : goal.returns-clause-scheme
unfolding register_between copied passed_on added_up distant read_twice paired
returns-clause-scheme c = refl

pub returns-clause-scheme_broken : goal.returns-clause-scheme_broken
unfolding register_between copied passed_on added_up distant read_twice paired
returns-clause-scheme_broken c = refl
