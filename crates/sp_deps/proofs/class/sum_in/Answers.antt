use Rattle.std.proofs.Common.{◌≡◌, ◌++◌, ◌∙◌, ap, List, ℤ}
use Rattle.sp_deps.specs.declared.sum.Term.{Term}
use Rattle.sp_deps.specs.Classes.{own_first, own_second, outside, inside_of}
use Rattle.sp_deps.proofs.Onto.{stacked}
use Rattle.sp_deps.proofs.class.sum_in.Goals as goal

same_two : (h : List ℤ → List ℤ → List Term) (xs ys us vs : List ℤ) → xs ≡ us → ys ≡ vs → h xs ys ≡ h us vs
same_two h xs ys us vs e f = cc

pub returns-clause-sum : goal.returns-clause-sum
returns-clause-sum c =
    let a : c.deref.result.now ≡ c.args.f.now.coefs = c.deref.ensures.value ∙ ap (λ f. f.coefs) c.f.view_is in
    let b : c.deref-2.result.now ≡ c.args.g.now.coefs = c.deref-2.ensures.value ∙ ap (λ f. f.coefs) c.g.view_is in
    let first = c.parts-a.ensures in
    let second = c.parts-b.ensures in
    stacked _ _ _ _ _ _ _ _ _ c.outside.ensures.sum c.inside_terms-inside.ensures.sum c.own_terms-own.ensures.sum
    (same_two outside _ _ _ _ (rw a at first.outside) (rw b at second.outside))
    (same_two (λ xs ys. inside_of c.args.class xs ys c.args.common.now) _ _ _ _ (rw a at first.common) (rw b at second.common))
    (same_two (λ xs ys. own_first xs c.args.first.now ++ own_second ys c.args.second.now) _ _ _ _ (rw a at first.own) (rw b at second.own))
