use Rattle.std.proofs.Common.{◌<◌, [], drop, length, get_or, sym, ◌∙◌, ap, arith}
use Rattle.std.proofs.lemmas.List.{drop_all}
use Rattle.sp_seq.proofs.PlaceLemmas.{place_from, from_start, at_end, other_lengths, step_in, step_out, step_room, step_fits}
use Rattle.sp_seq.proofs.element.place.Goals as goal

pub returns-then-dims-indices : goal.returns-then-dims-indices
returns-then-dims-indices c = sym (other_lengths _ _ c.if-dims-indices.true)

pub loop-k-init : goal.loop-k-init
loop-k-init c = (from_start _ _, omega arith)

pub returns-then-indices-k : goal.returns-then-indices-k
returns-then-indices-k c =
    let here : c.loop-k.k < length c.args.indices.now = omega arith in
    sym (sym c.loop-k.invariant.0 ∙ step_out c.loop-k.at c.loop-k.k c.args.dims.now c.args.indices.now (omega arith) (omega arith) (c.requires.words c.loop-k.k 0 here) (omega arith))

pub overflow_mul-at : goal.overflow_mul-at
overflow_mul-at c =
    let fits = step_fits c.loop-k.at c.loop-k.k (get_or c.args.indices.now c.loop-k.k 0) c.args.dims.now c.requires.dims c.requires.size (omega arith) (omega arith) c.loop-k.invariant.1 in
    omega arith

pub overflow_add-at : goal.overflow_add-at
overflow_add-at c =
    let fits = step_fits c.loop-k.at c.loop-k.k (get_or c.args.indices.now c.loop-k.k 0) c.args.dims.now c.requires.dims c.requires.size (omega arith) (omega arith) c.loop-k.invariant.1 in
    omega arith

pub loop-k-preserved : goal.loop-k-preserved
loop-k-preserved c =
    let here : c.loop-k.k < length c.args.dims.now = omega arith in
    let small = (c.requires.dims c.loop-k.k 0 here).1 in (
      sym (step_in c.loop-k.at c.loop-k.k c.args.dims.now c.args.indices.now (omega arith) here (omega arith) small) ∙ c.loop-k.invariant.0,
      step_room c.loop-k.at c.loop-k.k (get_or c.args.indices.now c.loop-k.k 0) c.args.dims.now here (omega arith) c.loop-k.invariant.1,
    )

pub returns : goal.returns
returns c =
    sym (at_end c.loop-k.at)
    ∙ ap (λ xs. place_from c.loop-k.at xs []) (sym (drop_all c.loop-k.k c.args.dims.now (omega arith)))
    ∙ ap (λ xs. place_from c.loop-k.at (drop c.loop-k.k c.args.dims.now) xs) (sym (drop_all c.loop-k.k c.args.indices.now (omega arith)))
    ∙ c.loop-k.invariant.0
