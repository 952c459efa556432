use Rattle.std.proofs.Common.{subst}
use Rattle.sp_core.specs.CoreParts.{plain_core}
use Rattle.sp_plan.specs.Plain.{plain_plan}
use Rattle.sp_memory_nets.specs.ArrayBanks.{ArrayStands}
use Rattle.sp_memory_nets.proofs.ArrayShapes.{stands}
use Rattle.sp_memory_nets.proofs.array_adding.add_sram.Goals as goal

pub returns-clause-stands : goal.returns-clause-stands
returns-clause-stands c =
    let core = plain_core c.args.core.now in
    let plan = plain_plan c.args.plan.now in
    let part = c.in_ok-part.part in
    let e = c.in_ok-stores.ensures in
    let numbered = c.if-not-is_numbered.false in
    subst (λ n. ArrayStands c.add_banks.new.builder core plan c.args.m n c.in_ok-stores.stores.items) c.in_ok-part.ensures.bank
    (stands core plan c.args.m part c.requires.sram c.in_ok-part.ensures.shape c.add_banks.new.builder c.in_ok-stores.stores.items (c.is_numbered.ensures.few numbered) (c.is_numbered.ensures.numbers numbered)
    (record { each = e.each; rows = (_, e.rows); wires = e.wires; banks = e.stores }))
