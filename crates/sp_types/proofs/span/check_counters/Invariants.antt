use Rattle.std.proofs.Common.{◌≡◌, drop}
use Rattle.sp_reader.specs.PlainProgram.{plain_counters}
use Rattle.sp_types.specs.First.{notes}
use Rattle.sp_types.specs.Plain.{visible_of}
use Rattle.sp_types.specs.Spans.{counters_refusals}
use Rattle.sp_types.proofs.span.check_counters.Given as goal

abbrev pub invariant-loop-i : goal.invariant-loop-i
invariant-loop-i l = notes l.finding.first (counters_refusals (visible_of l.scope) (plain_counters (drop l.i l.counters))) ≡ notes l.fn.finding.first (counters_refusals (visible_of l.scope) (plain_counters l.counters))
