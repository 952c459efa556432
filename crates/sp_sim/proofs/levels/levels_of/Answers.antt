use Rattle.std.proofs.Common.{◌+◌, ℕ, sym, subst, map, Contains}
use Rattle.sp_netlist.specs.Rules.{driven_nets}
use Rattle.sp_sim.proofs.Levelled.{Levelled, levelled_start, levelled_more}
use Rattle.sp_sim.proofs.levels.levels_of.Goals as goal

pub loop-step-init : goal.loop-step-init
loop-step-init c =
    let row = c.in_ok-levels.ensures in
    levelled_start c.args.netlist.now c.args.steps.now row.0 c.in_ok-levels.levels row.1
    (λ net k. (row.2 net).1 (subst (λ cells. Contains (map (λ (p : ℕ × ℕ). p.0) (driven_nets cells)) net) (sym c.cells.ensures.cells) k))

pub loop-step-preserved : goal.loop-step-preserved
loop-step-preserved c =
    subst (Levelled c.args.netlist.now c.args.steps.now (c.loop-step.step-index + 1)) (sym c.raise.ensures)
    (levelled_more c.args.netlist.now c.cells.ensures.netlist c.args.steps.now c.requires c.loop-step.step-index c.step-item.result c.loop-step.levels c.loop-step-test.true c.step-item.is c.loop-step.invariant)
