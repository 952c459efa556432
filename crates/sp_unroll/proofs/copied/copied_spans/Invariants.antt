use Rattle.std.proofs.Common.{◌≡◌, ◌++◌, drop, map}
use Rattle.sp_core.specs.Plain.{plain_span}
use Rattle.sp_unroll.proofs.copied.copied_spans.Given as goal

abbrev pub invariant-loop-span : goal.invariant-loop-span
invariant-loop-span l = map plain_span l.made.items ++ map plain_span (drop l.span-index l.spans) ≡ map plain_span l.spans
