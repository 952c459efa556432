use Rattle.std.proofs.Common.{◌≡◌, drop}
use Rattle.sp_reader.specs.PlainProgram.{plain_spans}
use Rattle.sp_types.specs.First.{notes}
use Rattle.sp_types.specs.Plain.{visible_of}
use Rattle.sp_types.specs.Spans.{spans_refusals}
use Rattle.sp_types.proofs.span.check_spans.Given as goal

abbrev pub invariant-loop-i : goal.invariant-loop-i
invariant-loop-i l = notes l.finding.first (spans_refusals (visible_of l.scope) l.lanes (plain_spans (drop l.i l.spans))) ≡ notes l.fn.finding.first (spans_refusals (visible_of l.scope) l.lanes (plain_spans l.spans))
