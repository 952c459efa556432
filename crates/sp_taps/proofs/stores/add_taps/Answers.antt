use Rattle.std.proofs.Common.{ap, ◌∙◌, ◌+◌, arith}
use Rattle.sp_gates.proofs.Growing.{Keeps-join}
use Rattle.sp_taps.proofs.Banks.{can_read}
use Rattle.sp_taps.proofs.stores.add_taps.Goals as goal

pub add-requires-3 : goal.add-requires-3
add-requires-3 c =
    let a = c.in_ok-add.ensures in
    let b = c.in_ok-add-2.ensures in
    can_read c.add-2.new.self c.args.bank c.args.width _ _ _ (b.keeps.banks _ a.declared.0).0 ((b.keeps.banks _ a.declared.0).1 ∙ a.declared.1)
    (b.keeps.promised _ _ _ (a.keeps.promised _ _ _ c.requires.found)) (b.drivers _ ∙ ap (λ n. n + 0) (a.drivers _ ∙ ap (λ n. n + 0) c.requires.undriven))
    (b.keeps.promised _ _ _ (a.keeps.promised _ _ _ c.requires.read)) (b.keeps.promised _ _ _ (a.keeps.promised _ _ _ c.requires.read_at))

pub returns-clause-drivers : goal.returns-clause-drivers
returns-clause-drivers c = λ net.
    let x = c.in_ok-add.ensures.drivers net in
    let y = c.in_ok-add-2.ensures.drivers net in
    let z = c.in_ok-add-3.ensures.drivers net in
    omega (arith, x, y, z)

pub returns-clause-keeps : goal.returns-clause-keeps
returns-clause-keeps c = Keeps-join _ _ _ c.in_ok-add.ensures.keeps (Keeps-join _ _ _ c.in_ok-add-2.ensures.keeps c.in_ok-add-3.ensures.keeps)
