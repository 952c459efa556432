use Rattle.std.proofs.Common.{◌≡◌, map, string_bytes, refl, inl, subst, arith}
use Rattle.sp_waves.specs.Dump.{WentOn}
use Rattle.sp_waves.specs.Signals.{plain_signal}
use Rattle.sp_waves.proofs.DumpLemmas.{stands_next}
use Rattle.sp_waves.proofs.dump.push_later.Goals as goal

pub loop-cycle-preserved : goal.loop-cycle-preserved
loop-cycle-preserved c =
    let next = c.in_ok-push_next.ensures in
    stands_next c.args.sim.now.setting (map plain_signal c.args.shown.now.signals.items) c.loop-cycle.cycle c.loop-cycle.sim c.push_next.new.sim c.in_ok-push_next.field-0
    (string_bytes c.loop-cycle.text) (string_bytes c.push_next.new.text) c.push_next.new.words.items c.loop-cycle.invariant.0 c.if-not-branch.false next.next next.sim

pub returns-clause-last : goal.returns-clause-last
returns-clause-last c =
    let at : c.loop-cycle.cycle ≡ c.args.cycles = omega (arith, c.loop-cycle-test.false, c.loop-cycle.auto.cycle-end) in
    record { within = omega arith; goes_on = subst (WentOn c.args.sim.now.setting) at c.loop-cycle.invariant.1; ends = inl refl }
