-- The slots are computed.
use Rattle.std.proofs.Common.{refl}
use Rattle.sp_core.specs.ExampleLanes.{dot_product_in_lanes, stores_in_lanes}
use Rattle.sp_core.specs.ExampleLoops.{register_between}
use Rattle.sp_core.specs.ExampleTransfers.{copied}
use Rattle.sp_stages.proofs.examples.worked_chains.Goals as goal

pub returns-clause-dot_product : goal.returns-clause-dot_product
unfolding dot_product_in_lanes
returns-clause-dot_product c = refl

pub returns-clause-block : goal.returns-clause-block
unfolding dot_product_in_lanes
returns-clause-block c = refl

pub returns-clause-register : goal.returns-clause-register
unfolding register_between
returns-clause-register c = refl

pub returns-clause-stores : goal.returns-clause-stores
unfolding stores_in_lanes
returns-clause-stores c = refl

pub returns-clause-stores_apart : goal.returns-clause-stores_apart
unfolding stores_in_lanes
returns-clause-stores_apart c = refl

pub returns-clause-stores_in_one : goal.returns-clause-stores_in_one
unfolding stores_in_lanes
returns-clause-stores_in_one c = refl

pub returns-clause-lanes_in_one : goal.returns-clause-lanes_in_one
unfolding stores_in_lanes
returns-clause-lanes_in_one c = refl

pub returns-clause-copied : goal.returns-clause-copied
unfolding copied
returns-clause-copied c = refl

pub returns-clause-parallel : goal.returns-clause-parallel
unfolding register_between
returns-clause-parallel c = refl

pub returns-clause-parallel_apart : goal.returns-clause-parallel_apart
unfolding register_between
returns-clause-parallel_apart c = refl
