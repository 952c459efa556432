use Rattle.std.proofs.Common.{sym, ◌∙◌, ap}
use Rattle.sp_deps.specs.Classes.{own_first, own_second}
use Rattle.sp_deps.specs.Sums.{onto, nothing}
use Rattle.sp_deps.proofs.Onto.{onto_append}
use Rattle.sp_deps.proofs.class.own_terms.Goals as goal

pub returns-clause-sum : goal.returns-clause-sum
returns-clause-sum c =
    c.own_first.ensures.sum
    ∙ ap (onto (own_first c.args.a.now c.args.first.now)) (c.own_second.ensures.sum ∙ ap (onto (own_second c.args.b.now c.args.second.now)) c.empty.ensures.sum)
    ∙ sym (onto_append (own_first c.args.a.now c.args.first.now) (own_second c.args.b.now c.args.second.now) nothing)
