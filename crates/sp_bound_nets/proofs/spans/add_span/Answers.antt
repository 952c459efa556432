use Rattle.std.proofs.Common.{◌≡◌, ◌+◌, [], ◌∷◌, ◌++◌, length, append_assoc, sym, ◌∙◌, ap, subst, arith}
use Rattle.std.proofs.lemmas.List.{append-nil, length-map}
use Rattle.sp_gates.proofs.Growing.{HasNet-stays}
use Rattle.sp_core.specs.Plain.{plain_op, plain_ops, plain_span}
use Rattle.sp_core.specs.PlainCore.{single, range}
use Rattle.sp_op_nets.specs.Acted.{answers_of}
use Rattle.sp_op_nets.specs.Reserved.{Reserves}
use Rattle.sp_op_nets.proofs.Reserving.{reserved_join}
use Rattle.sp_bound_nets.specs.declared.spans.SpanNet.TheVariants.{One, Range}
use Rattle.sp_bound_nets.specs.declared.spans.Spans.{Spans}
use Rattle.sp_bound_nets.specs.Direct.{IsActedList, IsDirect}
use Rattle.sp_bound_nets.specs.Spans.{AddsSpan}
use Rattle.sp_bound_nets.proofs.Spanning.{one_index, one_range, range_lists, until_is_right}
use Rattle.sp_bound_nets.proofs.spans.add_span.Goals as goal

pub emit_direct-requires-in-Range-2-clause-right : goal.emit_direct-requires-in-Range-2-clause-right
emit_direct-requires-in-Range-2-clause-right c =
    until_is_right c.args.builder.now c.emit_direct-in-Range.new.builder c.args.around.now (plain_span c.args.span.now) (plain_ops c.in-Range.from.items) (plain_ops c.in-Range.until.items) (plain_ops c.deref-in-Range-2.result.now)
    (ap plain_span c.in-Range.is) (ap plain_ops (sym c.deref-in-Range-2.ensures.value)) c.in_ok-first-in-Range.ensures.reserves.grows c.requires.right

pub returns-in_ok-push-in-One-2-clause-adds : goal.returns-in_ok-push-in-One-2-clause-adds
returns-in_ok-push-in-One-2-clause-adds c =
    let x = c.in_ok-index-in-One in
    let old = c.args.builder.now in
    let new = c.emit_direct.new.builder in
    let table = c.args.around.now in
    let n = c.args.number in
    let ops = plain_ops c.in-One.ops.items in
    let after : Spans = record { nets = c.push.new.self; acted = c.push-in-One.new.self } in
    let direct = subst (λ os. IsDirect old new table n (plain_ops os) x.index.net x.index.acted) c.deref.ensures.value x.ensures.direct in
    let it : AddsSpan old new table n (single ops) c.args.spans.now after = record {
      net = One x.index.net;
      acted = x.index.acted ∷ [];
      nets_are = c.in_ok-push-in-One.ensures.items;
      acted_are = c.in_ok-push-in-One-2.ensures.items;
      ends = x.ensures.net;
      reserves = subst (Reserves old new) (sym (append-nil (answers_of x.index.acted.ops.items))) x.ensures.reserves;
      lists = (subst (λ os. IsActedList new n (plain_ops os) x.index.acted) c.deref.ensures.value x.ensures.acted, tt);
      spans = one_index old new table n ops x.index.net x.index.acted direct;
    } in
    subst (λ span. AddsSpan old new table n span c.args.spans.now after) (sym (ap plain_span c.in-One.is)) it

pub returns-in_ok-push-in-Range-3-clause-adds : goal.returns-in_ok-push-in-Range-3-clause-adds
returns-in_ok-push-in-Range-3-clause-adds c =
    let x = c.in_ok-first-in-Range in
    let y = c.in_ok-second-in-Range in
    let old = c.args.builder.now in
    let mid = c.emit_direct-in-Range.new.builder in
    let new = c.emit_direct-in-Range-2.new.builder in
    let table = c.args.around.now in
    let n = c.args.number in
    let xs = plain_ops c.in-Range.from.items in
    let ys = plain_ops c.in-Range.until.items in
    let f = x.ensures.reserves.grows in
    let g = y.ensures.reserves.grows in
    let after : Spans = record { nets = c.push-in-Range.new.self; acted = c.push-in-Range-3.new.self } in
    let first = subst (λ os. IsDirect old mid table n (plain_ops os) x.first.net x.first.acted) c.deref-in-Range.ensures.value x.ensures.direct in
    let long : c.len-in-Range.result ≡ length xs =
    (let l = c.len-in-Range.ensures in let k = c.in-Range.from.ok.0 in let m = length-map c.in-Range.from.items plain_op in omega (arith, l, k, m)) in
    let middle = c.args.number + c.len-in-Range.result in
    let by_length = subst (λ os. IsDirect mid new table middle (plain_ops os) y.second.net y.second.acted) c.deref-in-Range-2.ensures.value y.ensures.direct in
    let first_acted = subst (λ os. IsActedList mid n (plain_ops os) x.first.acted) c.deref-in-Range.ensures.value x.ensures.acted in
    let acted_by_length = subst (λ os. IsActedList new middle (plain_ops os) y.second.acted) c.deref-in-Range-2.ensures.value y.ensures.acted in
    let second_acted = subst (λ l. IsActedList new (n + l) ys y.second.acted) long acted_by_length in
    let second = subst (λ l. IsDirect mid new table (n + l) ys y.second.net y.second.acted) long by_length in
    let both = reserved_join old mid new (answers_of x.first.acted.ops.items) (answers_of y.second.acted.ops.items) x.ensures.reserves y.ensures.reserves in
    let it : AddsSpan old new table n (range xs ys) c.args.spans.now after = record {
      net = Range x.first.net y.second.net;
      acted = x.first.acted ∷ y.second.acted ∷ [];
      nets_are = c.in_ok-push-in-Range.ensures.items;
      acted_are = c.in_ok-push-in-Range-3.ensures.items ∙ ap (λ acts. acts ++ y.second.acted ∷ []) c.in_ok-push-in-Range-2.ensures.items ∙ append_assoc c.args.spans.now.acted.items (x.first.acted ∷ []) (y.second.acted ∷ []);
      ends = (HasNet-stays mid new x.first.net 32 g x.ensures.net, y.ensures.net);
      reserves = subst (λ zs. Reserves old new (answers_of x.first.acted.ops.items ++ zs)) (sym (append-nil (answers_of y.second.acted.ops.items))) both;
      lists = range_lists old mid new table n xs ys x.first.net y.second.net x.first.acted y.second.acted f g first_acted second_acted;
      spans = one_range old mid new table n xs ys x.first.net y.second.net x.first.acted y.second.acted f g first second;
    } in
    subst (λ span. AddsSpan old new table n span c.args.spans.now after) (sym (ap plain_span c.in-Range.is)) it
