use Rattle.std.proofs.Common.{Some, map, set, length, sym, ap, ◌∙◌, length-set}
use Rattle.sp_packed.proofs.Places.{all_held, set_map}
use Rattle.sp_packed.proofs.block.Block.set.Goals as goal

pub invariant_of-self : goal.invariant_of-self
invariant_of-self g c =
    let inv = c.self.invariant in let xs = c.args.self.now in let i = c.args.i in let x = c.args.value in
    let written = c.write.ensures.1 ∙ ap (λ l. set l i (Some x)) (inv.1 ∙ ap (map Some) c.self.view_is) ∙ set_map xs i x in
    let held = all_held c.write.new.self.slots (set xs i x) written in
    (c.write.ensures.0 ∙ inv.0, held.0, ap length held.1 ∙ length-set xs i x ∙ ap length (sym c.self.view_is) ∙ inv.2, inv.3, inv.4, inv.5)

pub returns : goal.returns
returns g c =
    let inv = c.self.invariant in let xs = c.args.self.now in let i = c.args.i in let x = c.args.value in
    let written = c.write.ensures.1 ∙ ap (λ l. set l i (Some x)) (inv.1 ∙ ap (map Some) c.self.view_is) ∙ set_map xs i x in
    (all_held c.write.new.self.slots (set xs i x) written).1
