use Rattle.std.proofs.Common.{replicate, length, sym, ap, ◌∙◌}
use Rattle.std.proofs.lemmas.List.{length-replicate}
use Rattle.sp_packed.proofs.Places.{all_held}
use Rattle.sp_packed.proofs.block.Block.fill.Goals as goal

pub invariant_of-self : goal.invariant_of-self
invariant_of-self g c =
    let inv = c.self.invariant in let n = c.self.inside.len in let x = c.args.value in
    let held = all_held c.write_all.new.cells.slots (replicate n x) c.write_all.ensures.1 in
    (c.write_all.ensures.0 ∙ inv.0, held.0, ap length held.1 ∙ length-replicate n x, inv.3, inv.4, inv.5)

pub returns : goal.returns
returns g c =
    let n = c.self.inside.len in let x = c.args.value in
    let held = all_held c.write_all.new.cells.slots (replicate n x) c.write_all.ensures.1 in
    held.1 ∙ ap (λ k. replicate k x) (sym c.self.invariant.2 ∙ ap length c.self.view_is)
