use Rattle.std.proofs.Common.{◌≡◌, map, drop}
use Rattle.sp_core.specs.Numbered.{spans_numbers}
use Rattle.sp_core.specs.Plain.{plain_span}
use Rattle.sp_serving.specs.Standing.{passed}
use Rattle.sp_serving.proofs.standing.past_spans.Given as goal

abbrev pub invariant-loop-span : goal.invariant-loop-span
invariant-loop-span l = passed l.p (spans_numbers (map plain_span (drop l.span-index l.spans))) ≡ passed l.fn.before (spans_numbers (map plain_span l.spans))
