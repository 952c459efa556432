use Rattle.std.proofs.Common.{length, slice_index_or, sym, ap, subst, ◌∙◌, arith}
use Rattle.std.proofs.lemmas.Bool.{ltb-true}
use Rattle.sp_gates.specs.Nets.{HasNet}
use Rattle.sp_tree_copies.proofs.loops.first_net.Goals as goal

pub returns-in-Some-clause-stand : goal.returns-in-Some-clause-stand
returns-in-Some-clause-stand c d h =
    let same = c.deref.ensures.value in
    let lt = ltb-true _ _ (sym c.in-Some.ensures.lookup.0) in
    let e = ap (λ xs. length xs) same in
    subst (λ n. HasNet d n 1) (sym (c.in-Some.ensures.lookup.1 ∙ ap (λ xs. slice_index_or xs c.args.slot c.in-Some.net.now) same)) (h.firsts c.args.slot c.in-Some.net.now (omega (arith, lt, e)))
