use Rattle.std.proofs.Common.{List, subst}
use Rattle.std.specs.Prelude.{IfOk, flat_map}
use Rattle.sp_deps.specs.declared.access.Footprint.{Footprint}
use Rattle.sp_meets.specs.Entries.{some_meet_at}
use Rattle.sp_meets.specs.Meets.{IsLeastOf}
use Rattle.sp_meets.specs.Plain.{plain_parts, plain_view}
use Rattle.sp_meets.proofs.pairs.views_least.Goals as goal

pub returns : goal.returns
returns c =
    let v = plain_view c.args.v.now in
    let w = plain_view c.args.w.now in
    let on : List Footprint → List Footprint → Type 0 = λ xs ys. IfOk c.least_among.result (λ d. IsLeastOf (some_meet_at c.args.chip v w c.args.before (flat_map plain_parts xs) (flat_map plain_parts ys)) d) in
    subst (λ xs. on xs c.args.w.now.parts.items) c.deref.ensures.value (subst (λ ys. on c.deref.result.now ys) c.deref-2.ensures.value c.least_among.ensures)
