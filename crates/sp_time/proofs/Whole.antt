-- The laws on loops.
use Rattle.std.proofs.Common.{refl, arith}
use Rattle.sp_time.specs.Copies.{in_group, later}
use Rattle.sp_time.specs.Events.{Waits}
use Rattle.sp_time.specs.Laws.{BeatsInOrder, CostsBound, OutersInOrder, StagesSuffice}
use Rattle.sp_time.specs.Orders.{MeetIn, over}
use Rattle.sp_time.specs.Places.{changes}
use Rattle.sp_time.proofs.BeatLemmas.{starts_after, starts_within, over_before, begun_after, whole_le}
use Rattle.sp_time.proofs.CopyLemmas.{waits_unless, waits_moved}
use Rattle.sp_time.proofs.OuterOrder.{outer_in_order}
use Rattle.sp_time.proofs.StageRules.{stages_sound}

pub beats_in_order : BeatsInOrder
beats_in_order slots took = record {
  after_run = starts_after slots took;
  after_beat = over_before slots took;
  in_beat = begun_after slots took;
  within = starts_within slots took;
}

pub costs_bound : CostsBound
costs_bound = whole_le

pub outers_in_order : OutersInOrder
outers_in_order owned slots runs each sound =
    outer_in_order (λ e. e.cycle) over (λ k s n e. later n (in_group owned k e)) (Waits changes) (MeetIn owned) (λ k s n e. refl) (λ k s n e. omega arith)
    (λ k s l r m n e f h. waits_unless _ _ h) (λ k s n e f w. waits_moved owned k s n e f w) slots runs each sound

pub stages_suffice : StagesSuffice
stages_suffice names alters = stages_sound _ _
