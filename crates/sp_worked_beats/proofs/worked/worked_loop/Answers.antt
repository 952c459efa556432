use Rattle.sp_worked_beats.proofs.Finishing.{can_end, finished}
use Rattle.sp_worked_beats.proofs.worked.worked_loop.Goals as goal

pub add-requires : goal.add-requires
add-requires c = can_end c.new-builder.result c.two_slots.new.builder c.in_ok-done.done c.new-builder.ensures.no_cells c.in_ok-done.ensures.fills c.in_ok-done.ensures.done

pub finish-requires : goal.finish-requires
finish-requires c =
    finished c.new-builder.result c.two_slots.new.builder c.add.new.self c.in_ok-done.done c.new-builder.ensures.no_nets c.new-builder.ensures.no_cells c.in_ok-done.ensures.fills c.in_ok-add.ensures.draft c.in_ok-add.ensures.same_nets
    c.in_ok-add.ensures.added c.in_ok-add.ensures.drivers
