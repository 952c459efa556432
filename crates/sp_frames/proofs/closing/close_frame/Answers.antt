use Rattle.std.proofs.Common.{[]}
use Rattle.sp_frames.proofs.Adding.{can_end, ended}
use Rattle.sp_frames.proofs.closing.close_frame.Goals as goal

pub add-requires : goal.add-requires
add-requires c = can_end c.args.builder c.add_outputs.new.builder [] c.args.done c.requires.no_end c.in_ok-add_outputs.ensures.builds c.requires.done

pub finish-requires : goal.finish-requires
finish-requires c =
    let a = c.in_ok-add.ensures in
    ended c.args.builder c.add_outputs.new.builder c.add.new.self c.args.done c.requires.none_open c.requires.no_end c.in_ok-add_outputs.ensures.builds a.draft a.same_nets a.added a.drivers
