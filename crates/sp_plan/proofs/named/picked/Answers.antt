use Rattle.std.proofs.Common.{◌-◌, ◌∷◌, ◌++◌, [], map, arith}
use Rattle.sp_core.specs.Plain.{plain_op, plain_span}
use Rattle.sp_plan.specs.Named.{list_names, spans_names}
use Rattle.sp_plan.specs.Runs.{plain_named}
use Rattle.sp_plan.proofs.NamedAt.{in_left, in_right, spans_length}
use Rattle.sp_plan.proofs.named.picked.Goals as goal

pub returns-then-n-size : goal.returns-then-n-size
returns-then-n-size c =
    let size = spans_length (map plain_span c.args.span.now) in let is = c.spans_size-size.ensures in
    in_left (spans_names (map plain_span c.args.span.now)) (list_names (map plain_op c.args.count.now) ++ plain_named c.args.transfer ∷ []) c.args.n _ (omega (arith, c.if-n-size.true)) c.spans_named.ensures

pub returns-else-n-size : goal.returns-else-n-size
returns-else-n-size c =
    let size = spans_length (map plain_span c.args.span.now) in let is = c.spans_size-size.ensures in
    in_right (spans_names (map plain_span c.args.span.now)) (list_names (map plain_op c.args.count.now) ++ plain_named c.args.transfer ∷ []) c.args.n (c.args.n - c.spans_size-size.result) _ (omega (arith, c.if-n-size.false)) (omega arith) c.after_count.ensures
