use Rattle.std.proofs.Common.{◌≡◌, ◌++◌, map, drop}
use Rattle.sp_core.specs.Numbered.{spans_numbers}
use Rattle.sp_core.specs.Plain.{plain_span}
use Rattle.sp_schemes.specs.Places.{marks}
use Rattle.sp_schemes.proofs.standing.push_spans.Given as goal

abbrev pub invariant-loop-span : goal.invariant-loop-span
invariant-loop-span l = l.into.items ++ marks (spans_numbers (map plain_span (drop l.span-index l.spans))) ≡ l.fn.into.items ++ marks (spans_numbers (map plain_span l.spans))
