use Rattle.std.proofs.Common.{◌≡◌, ◌∷◌, map, drop, drop-cons, take, length, ◌-◌, arith, sym, ap, ◌∙◌}
use Rattle.std.proofs.lemmas.Grind.{common_steps}
use Rattle.sp_tree.specs.Plain.{plain_expr, plain_mem}
use Rattle.sp_tree.specs.PlainTree.{plain_counter}
use Rattle.sp_sugar.specs.Early.{bounds_of, bound_stages}
use Rattle.sp_desugar.specs.Crossings.{onto}
use Rattle.sp_operations.specs.Sources.{sources_of}
use Rattle.sp_desugar.proofs.stages.+push_bound_stages.Goals as goal

pub returns : goal.returns
returns t c = λ rest.
    let xs = c.args.counters.now in
    let x = c.counter-item.result in
    let ys = take (length xs - 1) (drop 1 xs) in
    let whole : drop 1 xs ≡ ys = grind (arith, common_steps) in
    let parts : xs ≡ x ∷ ys = drop-cons xs 0 x c.in-len1-up.len_at_least ∙ ap (λ y. y ∷ drop 1 xs) (sym c.counter-item.is) ∙ ap (λ zs. x ∷ zs) whole in
    c.in_ok-push_bound_stages.ensures rest
    ∙ c.in_ok-next.ensures (bounds_of (map plain_counter ys)) rest
    ∙ c.in_ok-second.ensures (plain_expr x.until ∷ bounds_of (map plain_counter ys)) rest
    ∙ ap (λ ys. onto c.args.out.now.items (bound_stages (map plain_mem c.args.mems.now) (sources_of c.args.sources.now) c.args.r (bounds_of (map plain_counter ys)) rest)) (sym parts)
