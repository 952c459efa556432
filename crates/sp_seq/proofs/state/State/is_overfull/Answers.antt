use Rattle.std.proofs.Common.{arith}
use Rattle.sp_seq.proofs.state.State.is_overfull.Goals as goal

pub index-requires : goal.index-requires
index-requires c =
    let inside = (c.requires.setting.sees.live c.args.memory c.requires.seen).0 in
    omega (arith, c.requires.setting.sees.memories, c.args.self.now.memories.ok.0)
