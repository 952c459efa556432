use Rattle.std.proofs.Common.{refl}
use Rattle.sp_gates.proofs.Growing.{gate_fills}
use Rattle.sp_gates.proofs.Running.{last_obeyed}
use Rattle.sp_gates.proofs.gates.operate.Goals as goal

pub returns-clause-fills : goal.returns-clause-fills
returns-clause-fills c =
    let p = c.in_ok-net.ensures in
    let a = c.in_ok-add.ensures in
    gate_fills _ c.promise.new.self c.add.new.self _ _ c.match-op.width refl refl (λ bank. refl) p.same_cells a.added p.keeps a.keeps a.draft p.net p.one_more a.same_nets a.drivers

pub returns-clause-word : goal.returns-clause-word
returns-clause-word c = λ s run. last_obeyed s _ _ _ c.in_ok-add.ensures.added run
