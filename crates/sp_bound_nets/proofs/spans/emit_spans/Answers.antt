use Rattle.std.proofs.Common.{◌+◌, [], ◌∷◌, List, length, map, All, sym, ◌∙◌, ap, subst, arith}
use Rattle.std.proofs.lemmas.List.{length-append, length-take, take_all}
use Rattle.sp_core.specs.Plain.{plain_span}
use Rattle.sp_op_nets.specs.declared.acted.ActedList.{ActedList}
use Rattle.sp_op_nets.specs.Acted.{answers_in}
use Rattle.sp_op_nets.specs.Reserved.{Reserves}
use Rattle.sp_op_nets.proofs.Reserving.{same_reserved}
use Rattle.sp_bound_nets.specs.declared.spans.SpanNet.{SpanNet}
use Rattle.sp_bound_nets.specs.Direct.{AreActedLists}
use Rattle.sp_bound_nets.specs.Spans.{AreSpans, HasEnds, nets_of_spans, span_lists}
use Rattle.sp_bound_nets.proofs.Spanning.{acted_behind, spans_behind, ends_behind, is_right_here, next_behind, next_fits, no_spans, reserves_behind}
use Rattle.sp_bound_nets.proofs.spans.emit_spans.Goals as goal

pub loop-index-init : goal.loop-index-init
loop-index-init c =
    let d = c.args.builder.now in
    record {
      reserves = subst (λ (acts : List ActedList). Reserves d d (answers_in acts)) (sym c.new-2.ensures.items) (same_reserved d);
      each = ap (λ ks. length ks) c.new.ensures.items;
      ends = subst (λ (ks : List SpanNet). All (HasEnds d) ks) (sym c.new.ensures.items) (λ k x l. absurd (omega (arith, l)));
      next = omega arith;
      acted = subst (λ (acts : List ActedList). AreActedLists d c.args.number [] acts) (sym c.new-2.ensures.items) tt;
      spans = subst (λ (ks : List SpanNet). AreSpans d d c.args.around.now c.args.number [] (nets_of_spans ks) c.new-2.result.items) (sym c.new.ensures.items)
          (subst (λ (acts : List ActedList). AreSpans d d c.args.around.now c.args.number [] [] acts) (sym c.new-2.ensures.items) (no_spans d c.args.around.now c.args.number));
    }

pub add_span-requires-clause-right : goal.add_span-requires-clause-right
add_span-requires-clause-right c =
    let i = c.loop-index.invariant in
    is_right_here c.args.around.now c.args.number c.loop-index.next c.args.spans.now c.loop-index.index c.index-spans-index.result c.loop-index-test.true c.index-spans-index.is i.next c.args.builder.now c.loop-index.builder
    c.requires.right i.reserves.grows

pub add_span-requires-clause-numbers : goal.add_span-requires-clause-numbers
add_span-requires-clause-numbers c =
    let i = c.loop-index.invariant in
    next_fits c.args.around.now c.args.number c.loop-index.next c.args.spans.now c.loop-index.index c.index-spans-index.result c.loop-index-test.true c.index-spans-index.is i.next c.requires.numbers

pub loop-index-preserved : goal.loop-index-preserved
loop-index-preserved c =
    let i = c.loop-index.invariant in
    let e = c.in_ok-next.ensures in
    let table = c.args.around.now in
    let n = c.args.number in
    let next = c.loop-index.next in
    let all = c.args.spans.now in
    let at = c.loop-index.index in
    let x = c.index-spans-index.result in
    let low = c.loop-index-test.true in
    let is = c.index-spans-index.is in
    let old = c.args.builder.now in
    let mid = c.loop-index.builder in
    let new = c.add_span.new.builder in
    let grown = ap (λ ks. length ks) e.adds.nets_are ∙ length-append c.loop-index.ends.nets.items (e.adds.net ∷ []) in
    let before = length-take at all in
    let after = length-take (at + 1) all in
    record {
      reserves = reserves_behind table n next all at x low is i.next old mid new c.loop-index.ends c.add_span.new.spans e.adds i.reserves;
      each = (let h = i.each in omega (arith, h, grown, before, after, low));
      ends = ends_behind table n next all at x low is i.next old mid new c.loop-index.ends c.add_span.new.spans e.adds i.ends;
      next = next_behind table n next all at x low is i.next c.in_ok-next.next e.next;
      acted = acted_behind table n next all at x low is i.next old mid new c.loop-index.ends c.add_span.new.spans e.adds i.acted;
      spans = spans_behind table n next all at x low is i.next old mid new c.loop-index.ends c.add_span.new.spans e.adds i.reserves.grows i.spans;
    }

pub returns-clause-each : goal.returns-clause-each
returns-clause-each c =
    let all = take_all c.loop-index.index c.args.spans.now (let past = c.loop-index-test.false in omega (arith, past)) in
    c.loop-index.invariant.each ∙ ap (λ cs. length cs) all

pub returns-clause-spans : goal.returns-clause-spans
returns-clause-spans c =
    let all = take_all c.loop-index.index c.args.spans.now (let past = c.loop-index-test.false in omega (arith, past)) in
    subst (λ cs. AreSpans c.args.builder.now c.loop-index.builder c.args.around.now c.args.number (map plain_span cs) (nets_of_spans c.loop-index.ends.nets.items) c.loop-index.ends.acted.items) all c.loop-index.invariant.spans

pub returns-clause-acted : goal.returns-clause-acted
returns-clause-acted c =
    let all = take_all c.loop-index.index c.args.spans.now (let past = c.loop-index-test.false in omega (arith, past)) in
    subst (λ cs. AreActedLists c.loop-index.builder c.args.number (span_lists (map plain_span cs)) c.loop-index.ends.acted.items) all c.loop-index.invariant.acted
