use Rattle.std.proofs.Common.{◌≡◌, ℕ, length, replicate, sym, ◌∙◌, arith}
use Rattle.std.proofs.lemmas.List.{ext_get_or, length-replicate, get_or-replicate}
use Rattle.sp_sim.proofs.conflict.clear.Goals as goal

pub returns : goal.returns
returns c =
    let n = length c.args.counts.now in
    let same : length c.loop-i.counts ≡ n = omega arith in
    ext_get_or {A = ℕ} 0 c.loop-i.counts (replicate n 0) (omega (arith, length-replicate {A = ℕ} n 0, same))
    (λ k h. c.loop-i.invariant k (omega arith) ∙ sym (get_or-replicate {A = ℕ} n k 0 0 (omega arith)))
