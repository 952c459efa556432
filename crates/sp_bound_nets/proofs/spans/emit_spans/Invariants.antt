use Rattle.std.proofs.Common.{◌≡◌, ◌+◌, length, map, take, All}
use Rattle.sp_core.specs.Numbering.{spans_size}
use Rattle.sp_core.specs.Plain.{plain_span}
use Rattle.sp_op_nets.specs.Acted.{answers_in}
use Rattle.sp_op_nets.specs.Reserved.{Reserves}
use Rattle.sp_bound_nets.specs.Direct.{AreActedLists}
use Rattle.sp_bound_nets.specs.Spans.{AreSpans, HasEnds, nets_of_spans, span_lists}
use Rattle.sp_bound_nets.proofs.spans.emit_spans.Given as goal

abbrev pub invariant-loop-index : goal.invariant-loop-index
invariant-loop-index l = record {
  reserves : Reserves l.fn.builder l.builder (answers_in l.ends.acted.items);
  each : length l.ends.nets.items ≡ length (take l.index l.spans);
  ends : All (HasEnds l.builder) l.ends.nets.items;
  next : l.next ≡ l.fn.number + spans_size (map plain_span (take l.index l.spans));
  acted : AreActedLists l.builder l.fn.number (span_lists (map plain_span (take l.index l.spans))) l.ends.acted.items;
  spans : AreSpans l.fn.builder l.builder l.around l.fn.number (map plain_span (take l.index l.spans)) (nets_of_spans l.ends.nets.items) l.ends.acted.items;
}
