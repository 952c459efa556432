use Rattle.std.proofs.Common.{Bool, List, subst}
use Rattle.std.specs.Prelude.{IfOk, map}
use Rattle.sp_meets.specs.declared.view.View.{View}
use Rattle.sp_meets.specs.Between.{between, meet_over}
use Rattle.sp_meets.specs.Meets.{IsLeastOf}
use Rattle.sp_meets.specs.Plain.{plain_view}
use Rattle.sp_meets.proofs.collect.least_of.Goals as goal

pub returns : goal.returns
returns c =
    let on : Bool → List View → List View → Type 0 = λ before xs ys. IfOk c.least_between.result (λ d. IsLeastOf (meet_over c.args.chip before (between (map plain_view xs) (map plain_view ys))) d) in
    subst (λ x. on x c.args.a.now.views.items c.args.b.now.views.items) c.is_before-before.ensures
    (subst (λ xs. on c.is_before-before.result xs c.args.b.now.views.items) c.deref.ensures.value
    (subst (λ ys. on c.is_before-before.result c.deref.result.now ys) c.deref-2.ensures.value c.least_between.ensures))
