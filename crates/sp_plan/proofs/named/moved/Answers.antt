use Rattle.std.proofs.Common.{◌-◌, ◌∷◌, [], map, arith}
use Rattle.sp_core.specs.Plain.{plain_span}
use Rattle.sp_plan.specs.Named.{spans_names}
use Rattle.sp_plan.specs.Runs.{plain_named}
use Rattle.sp_plan.proofs.NamedAt.{in_left, in_right, spans_length}
use Rattle.sp_plan.proofs.named.moved.Goals as goal

pub returns-then-n-size : goal.returns-then-n-size
returns-then-n-size c =
    let size = spans_length (map plain_span c.args.span.now) in let is = c.spans_size-size.ensures in
    in_left (spans_names (map plain_span c.args.span.now)) (plain_named c.args.transfer ∷ []) c.args.n _ (omega (arith, c.if-n-size.true)) c.spans_named.ensures

pub returns-else-n-size : goal.returns-else-n-size
returns-else-n-size c =
    let size = spans_length (map plain_span c.args.span.now) in let is = c.spans_size-size.ensures in
    in_right (spans_names (map plain_span c.args.span.now)) (plain_named c.args.transfer ∷ []) c.args.n (c.args.n - c.spans_size-size.result) _ (omega (arith, c.if-n-size.false)) (omega arith) c.only.ensures
