use Rattle.std.proofs.Common.{refl, subst}
use Rattle.sp_worked_parts.specs.Touches.{IsOne}
use Rattle.sp_worked_parts.proofs.queue.queue.Goals as goal

pub returns : goal.returns
returns c =
    let asked = c.args.asked.now in
    record {
      start = refl;
      bank = refl;
      ty = c.int.ensures;
      depth = refl;
      copies = refl;
      fresh = c.new-fresh.ensures.items;
      puts = subst (λ xs. IsOne asked.put xs asked.word c.in_ok-puts.puts.items) c.new-put_index.ensures.items c.in_ok-puts.ensures;
      takes = subst (λ xs. IsOne asked.take xs c.args.y c.in_ok-takes.takes.items) c.new-take_index.ensures.items c.in_ok-takes.ensures;
    }
