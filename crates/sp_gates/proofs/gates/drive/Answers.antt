use Rattle.std.proofs.Common.{refl}
use Rattle.sp_gates.proofs.Growing.{drive_fills}
use Rattle.sp_gates.proofs.Running.{last_obeyed}
use Rattle.sp_gates.proofs.gates.drive.Goals as goal

pub returns-clause-fills : goal.returns-clause-fills
returns-clause-fills c =
    let a = c.in_ok-add.ensures in
    drive_fills _ c.add.new.self _ _ c.args.width refl refl (λ bank. refl) a.added a.keeps a.draft a.same_nets a.drivers

pub returns-clause-word : goal.returns-clause-word
returns-clause-word c = λ s run. last_obeyed s _ _ _ c.in_ok-add.ensures.added run
