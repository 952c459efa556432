use Rattle.std.proofs.Common.{refl, subst}
use Rattle.sp_worked_parts.specs.Touches.{IsOne}
use Rattle.sp_worked_parts.proofs.counted.memory.Goals as goal

pub returns : goal.returns
returns c =
    let stored = c.args.stored.now in
    let l = c.in_ok-layout.ensures in
    record {
      start = refl;
      bank = refl;
      ty = c.int.ensures;
      dims = l.dims;
      alpha = l.alpha;
      banks = l.banks;
      block = l.block;
      hinge = l.hinge;
      copies = refl;
      duplicates = refl;
      writes = subst (λ xs. IsOne stored.enable xs stored.word c.in_ok-writes.writes.items) c.in_ok-element.ensures c.in_ok-writes.ensures;
      reads = subst (λ xs. IsOne stored.done xs c.args.y c.in_ok-reads.reads.items) c.in_ok-asked.ensures c.in_ok-reads.ensures;
    }
