use Rattle.std.proofs.Common.{◌+◌, ◌-◌, ◌++◌, ◌∷◌, [], append_assoc, sym, ap, ◌∙◌}
use Rattle.sp_sugar.specs.Numbers.{numbers_from}
use Rattle.sp_desugar.proofs.OwnedLemmas.{numbers_more}
use Rattle.sp_desugar.proofs.owned.push_numbers.Goals as goal

pub loop-n-preserved : goal.loop-n-preserved
loop-n-preserved c =
    let rest = numbers_from (c.loop-n.n + 1) (c.args.end - (c.loop-n.n + 1)) in
    ap (λ xs. xs ++ rest) c.in_ok-push.ensures.items
    ∙ append_assoc c.loop-n.out.items (c.loop-n.n ∷ []) rest
    ∙ ap (λ xs. c.loop-n.out.items ++ xs) (sym (numbers_more c.loop-n.n c.args.end c.loop-n-test.true))
    ∙ c.loop-n.invariant
