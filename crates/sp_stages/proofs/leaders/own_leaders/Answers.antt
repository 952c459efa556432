use Rattle.std.proofs.Common.{[], ◌∷◌, ◌++◌, ap, sym, ◌∙◌, add-one}
use Rattle.sp_core.specs.Elements.{numbers_below}
use Rattle.sp_stages.proofs.leaders.own_leaders.Goals as goal

pub loop-r-preserved : goal.loop-r-preserved
loop-r-preserved c = c.in_ok-push.ensures.items ∙ ap (λ xs. xs ++ c.loop-r.r ∷ []) c.loop-r.invariant ∙ ap numbers_below (sym (add-one c.loop-r.r))
