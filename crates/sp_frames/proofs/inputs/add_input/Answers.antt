use Rattle.std.proofs.Common.{refl, arith}
use Rattle.sp_frames.proofs.Adding.{driven_builds}
use Rattle.sp_frames.proofs.inputs.add_input.Goals as goal

pub returns-clause-builds : goal.returns-clause-builds
returns-clause-builds c =
    let p = c.in_ok-net.ensures in
    let a = c.in_ok-add.ensures in
    driven_builds _ c.promise.new.self c.add.new.self _ _ refl (λ bank. refl) p.same_cells a.added p.keeps a.keeps a.draft p.net p.one_more a.same_nets a.driven.0 (λ n. let e = a.drivers n in omega (arith, e)) (λ n e apart. a.not_driven n e (apart, tt))
