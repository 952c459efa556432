use Rattle.std.proofs.Common.{refl, arith}
use Rattle.sp_frames.proofs.Adding.{read_builds}
use Rattle.sp_frames.proofs.drams.add_dram.Goals as goal

pub returns-clause-builds : goal.returns-clause-builds
returns-clause-builds c =
    let a = c.in_ok-add.ensures in
    read_builds _ c.add.new.self _ refl (λ bank. refl) a.added a.keeps a.draft a.same_nets (λ n. let e = a.drivers n in omega (arith, e))
