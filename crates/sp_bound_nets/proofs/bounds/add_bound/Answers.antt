use Rattle.std.proofs.Common.{◌≡◌, ◌+◌, [], ◌∷◌, ◌++◌, length, append_assoc, refl, sym, ◌∙◌, ap, subst, arith}
use Rattle.std.proofs.lemmas.List.{length-map}
use Rattle.sp_gates.proofs.Growing.{Grows-same}
use Rattle.sp_core.specs.Plain.{plain_counter, plain_op, plain_ops}
use Rattle.sp_counters.specs.declared.part.Count.{Count}
use Rattle.sp_op_nets.specs.Acted.{answers_of}
use Rattle.sp_bound_nets.specs.Direct.{IsActedList, IsDirect}
use Rattle.sp_bound_nets.proofs.Bounding.{one_bound, one_fits, one_lists, one_reserves, until_is_right}
use Rattle.sp_bound_nets.proofs.bounds.add_bound.Goals as goal

pub emit_direct-requires-2-clause-right : goal.emit_direct-requires-2-clause-right
emit_direct-requires-2-clause-right c =
    let count : Count = record { from = c.in_ok-from.from.net; until = 0; by = c.args.counter.now.by; par = c.args.counter.now.par } in
    until_is_right c.args.builder.now c.emit_direct.new.builder c.emit_direct.new.builder c.args.around.now c.args.number (plain_counter c.args.counter.now) count c.in_ok-from.from.acted c.in_ok-from.from.acted refl refl
    c.in_ok-from.ensures.reserves.grows (Grows-same c.emit_direct.new.builder) c.requires.right (plain_ops c.deref-2.result.now) (ap plain_ops (sym c.deref-2.ensures.value))

pub returns-clause-adds : goal.returns-clause-adds
returns-clause-adds c =
    let x = c.in_ok-from in
    let y = c.in_ok-until in
    let count : Count = record { from = x.from.net; until = y.until.net; by = c.args.counter.now.by; par = c.args.counter.now.par } in
    let mid = c.emit_direct.new.builder in
    let new = c.emit_direct-2.new.builder in
    let counter = plain_counter c.args.counter.now in
    let g = y.ensures.reserves.grows in
    let f = x.ensures.reserves.grows in
    let first = subst (λ ops. IsDirect c.args.builder.now mid c.args.around.now c.args.number (plain_ops ops) x.from.net x.from.acted) c.deref.ensures.value x.ensures.direct in
    let long : c.len.result ≡ length (plain_ops c.args.counter.now.from.items) =
    (let l = c.len.ensures in let k = c.args.counter.now.from.ok.0 in let m = length-map c.args.counter.now.from.items plain_op in omega (arith, l, k, m)) in
    let middle = c.args.number + c.len.result in
    let by_length = subst (λ ops. IsDirect mid new c.args.around.now middle (plain_ops ops) y.until.net y.until.acted) c.deref-2.ensures.value y.ensures.direct in
    let first_acted = subst (λ ops. IsActedList mid c.args.number (plain_ops ops) x.from.acted) c.deref.ensures.value x.ensures.acted in
    let acted_by_length = subst (λ ops. IsActedList new middle (plain_ops ops) y.until.acted) c.deref-2.ensures.value y.ensures.acted in
    let second_acted = subst (λ n. IsActedList new (c.args.number + n) counter.until y.until.acted) long acted_by_length in
    let second =
    subst (λ n. IsDirect mid new c.args.around.now (c.args.number + n) counter.until y.until.net y.until.acted) long by_length in
    record {
      count = count;
      acted = x.from.acted ∷ y.until.acted ∷ [];
      counts_are = c.in_ok-push.ensures.items;
      acted_are = c.in_ok-push-3.ensures.items ∙ ap (λ acts. acts ++ y.until.acted ∷ []) c.in_ok-push-2.ensures.items ∙ append_assoc c.args.bounds.now.acted.items (x.from.acted ∷ []) (y.until.acted ∷ []);
      par = refl;
      fits = one_fits c.args.builder.now mid new c.args.around.now c.args.number counter count x.from.acted y.until.acted refl refl f g c.requires.right x.ensures.net y.ensures.net;
      reserves =
          one_reserves c.args.builder.now mid new c.args.around.now c.args.number counter count x.from.acted y.until.acted refl refl f g (answers_of x.from.acted.ops.items) (answers_of y.until.acted.ops.items) x.ensures.reserves
          y.ensures.reserves;
      lists = one_lists c.args.builder.now mid new c.args.around.now c.args.number counter count x.from.acted y.until.acted refl refl f g first_acted second_acted;
      bounds = one_bound c.args.builder.now mid new c.args.around.now c.args.number counter count x.from.acted y.until.acted refl refl f g first second;
    }
