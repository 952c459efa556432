use Rattle.std.proofs.Common.{[], ◌∷◌, refl, subst}
use Rattle.sp_worked_parts.specs.Touches.{IsOne, AreTwo}
use Rattle.sp_worked_parts.proofs.memory.memory.Goals as goal

pub returns : goal.returns
returns c =
    let asked = c.args.asked.now in
    let l = c.in_ok-layout.ensures in
    record {
      start = refl;
      bank = refl;
      ty = c.int.ensures;
      dims = l.dims;
      alpha = l.alpha;
      banks = l.banks;
      block = l.block;
      hinge = l.hinge;
      copies = refl;
      duplicates = refl;
      writes = subst (λ xs. IsOne asked.write xs asked.word c.in_ok-writes.writes.items) c.in_ok-element.ensures c.in_ok-writes.ensures;
      reads = subst (λ xs. AreTwo asked.read (asked.up ∷ []) c.args.y xs c.args.z c.in_ok-reads.reads.items) c.in_ok-down.ensures
          (subst (λ xs. AreTwo asked.read xs c.args.y c.in_ok-down.down.items c.args.z c.in_ok-reads.reads.items) c.in_ok-up.ensures c.in_ok-reads.ensures);
    }
