use Rattle.std.proofs.Common.{refl, ◌∙◌, ◌==◌}
use Rattle.sp_gates.proofs.Growing.{drive_fills}
use Rattle.sp_gates.proofs.Running.{last_obeyed}
use Rattle.sp_taps.proofs.Wiring.{same_choice}
use Rattle.sp_taps.proofs.wires.connect.Goals as goal

pub returns-clause-fills : goal.returns-clause-fills
returns-clause-fills c =
    let a = c.in_ok-add.ensures in
    drive_fills _ c.add.new.self _ _ c.args.width refl refl (λ bank. refl) a.added a.keeps a.draft a.same_nets a.drivers

pub returns-clause-word : goal.returns-clause-word
returns-clause-word c = λ s run t. last_obeyed s _ _ _ c.in_ok-add.ensures.added run t ∙ same_choice (s.net t c.args.one == 1) (s.net t c.args.from)
