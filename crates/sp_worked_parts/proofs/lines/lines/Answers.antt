use Rattle.std.proofs.Common.{[], ◌∷◌, refl, subst}
use Rattle.sp_worked_parts.specs.Touches.{IsOne, AreTwo}
use Rattle.sp_worked_parts.proofs.lines.lines.Goals as goal

pub returns : goal.returns
returns c =
    let input = c.args.input.now in
    let l = c.in_ok-layout.ensures in
    record {
      start = refl;
      bank = refl;
      ty = c.int.ensures;
      rows = refl;
      dims = l.dims;
      alpha = l.alpha;
      banks = l.banks;
      block = l.block;
      hinge = l.hinge;
      copies = refl;
      duplicates = refl;
      turns = c.in_ok-turns.ensures;
      loads = subst (λ xs. IsOne input.always xs input.word c.in_ok-loads.loads.items) c.in_ok-column.ensures c.in_ok-loads.ensures;
      reads = subst (λ xs. AreTwo input.always (input.zero ∷ input.one ∷ []) c.args.y xs c.args.z c.in_ok-reads.reads.items) c.in_ok-second.ensures
          (subst (λ xs. AreTwo input.always xs c.args.y c.in_ok-second.second.items c.args.z c.in_ok-reads.reads.items) c.in_ok-oldest.ensures c.in_ok-reads.ensures);
    }
