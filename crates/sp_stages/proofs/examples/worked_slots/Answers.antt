-- The slots are computed.
use Rattle.std.proofs.Common.{refl}
use Rattle.sp_core.specs.ExampleLanes.{dot_product_in_lanes, stores_in_lanes}
use Rattle.sp_core.specs.ExampleLoops.{register_between}
use Rattle.sp_core.specs.ExampleTransfers.{copied}
use Rattle.sp_stages.proofs.examples.worked_slots.Goals as goal

pub returns-clause-dot_product : goal.returns-clause-dot_product
unfolding dot_product_in_lanes
returns-clause-dot_product c = refl

pub returns-clause-block : goal.returns-clause-block
unfolding dot_product_in_lanes
returns-clause-block c = refl

pub returns-clause-register : goal.returns-clause-register
unfolding register_between
returns-clause-register c = refl

pub returns-clause-stores : goal.returns-clause-stores
unfolding stores_in_lanes
returns-clause-stores c = refl

pub returns-clause-copied : goal.returns-clause-copied
unfolding copied
returns-clause-copied c = refl

pub returns-clause-register_later : goal.returns-clause-register_later
unfolding register_between
returns-clause-register_later c = refl
