use Rattle.std.proofs.Common.{[], List, map, All, sym, ◌∙◌, ap, subst, arith}
use Rattle.std.proofs.lemmas.List.{take_all}
use Rattle.sp_core.specs.Plain.{plain_counter}
use Rattle.sp_counters.specs.declared.part.Count.{Count}
use Rattle.sp_counters.specs.Fits.{CountFits}
use Rattle.sp_op_nets.specs.declared.acted.ActedList.{ActedList}
use Rattle.sp_op_nets.specs.Acted.{answers_in}
use Rattle.sp_op_nets.specs.Reserved.{Reserves}
use Rattle.sp_op_nets.proofs.Reserving.{same_reserved}
use Rattle.sp_bound_nets.specs.Bounds.{AreBounds, own_pars, pars_of, bound_lists}
use Rattle.sp_bound_nets.proofs.Bounding.{bounds_behind, fits_behind, is_right_here, next_behind, next_fits, no_bounds, pars_behind, reserves_behind, acted_behind}
use Rattle.sp_bound_nets.specs.Direct.{AreActedLists}
use Rattle.sp_bound_nets.proofs.bounds.emit_bounds.Goals as goal

pub loop-index-init : goal.loop-index-init
loop-index-init c =
    let d = c.args.builder.now in
    record {
      reserves = subst (λ (acts : List ActedList). Reserves d d (answers_in acts)) (sym c.new-2.ensures.items) (same_reserved d);
      fits = subst (λ (ks : List Count). All (CountFits d) ks) (sym c.new.ensures.items) (λ k x l. absurd (omega (arith, l)));
      next = omega arith;
      pars = ap pars_of c.new.ensures.items;
      acted = subst (λ (acts : List ActedList). AreActedLists d c.args.number [] acts) (sym c.new-2.ensures.items) tt;
      bounds = subst (λ (ks : List Count). AreBounds d d c.args.around.now c.args.number [] ks c.new-2.result.items) (sym c.new.ensures.items)
          (subst (λ (acts : List ActedList). AreBounds d d c.args.around.now c.args.number [] [] acts) (sym c.new-2.ensures.items) (no_bounds d c.args.around.now c.args.number));
    }

pub add_bound-requires-clause-right : goal.add_bound-requires-clause-right
add_bound-requires-clause-right c =
    let i = c.loop-index.invariant in
    is_right_here c.args.around.now c.args.number c.loop-index.next c.args.counters.now c.loop-index.index c.index-counters-index.result c.loop-index-test.true c.index-counters-index.is i.next c.args.builder.now c.loop-index.builder
    c.requires.right i.reserves.grows

pub add_bound-requires-clause-numbers : goal.add_bound-requires-clause-numbers
add_bound-requires-clause-numbers c =
    let i = c.loop-index.invariant in
    next_fits c.args.around.now c.args.number c.loop-index.next c.args.counters.now c.loop-index.index c.index-counters-index.result c.loop-index-test.true c.index-counters-index.is i.next c.requires.numbers

pub loop-index-preserved : goal.loop-index-preserved
loop-index-preserved c =
    let i = c.loop-index.invariant in
    let e = c.in_ok-next.ensures in
    let table = c.args.around.now in
    let n = c.args.number in
    let next = c.loop-index.next in
    let all = c.args.counters.now in
    let at = c.loop-index.index in
    let x = c.index-counters-index.result in
    let low = c.loop-index-test.true in
    let is = c.index-counters-index.is in
    let old = c.args.builder.now in
    let mid = c.loop-index.builder in
    let new = c.add_bound.new.builder in
    record {
      reserves = reserves_behind table n next all at x low is i.next old mid new c.loop-index.bounds c.add_bound.new.bounds e.adds i.reserves;
      fits = fits_behind table n next all at x low is i.next old mid new c.loop-index.bounds c.add_bound.new.bounds e.adds i.fits;
      pars = pars_behind all at x low is c.loop-index.bounds.counts.items c.add_bound.new.bounds.counts.items e.adds.count e.adds.counts_are e.adds.par i.pars;
      next = next_behind table n next all at x low is i.next c.in_ok-next.next e.next;
      acted = acted_behind table n next all at x low is i.next old mid new c.loop-index.bounds c.add_bound.new.bounds e.adds i.acted;
      bounds = bounds_behind table n next all at x low is i.next old mid new c.loop-index.bounds c.add_bound.new.bounds e.adds i.reserves.grows i.bounds;
    }

pub returns-clause-bounds : goal.returns-clause-bounds
returns-clause-bounds c =
    let all = take_all c.loop-index.index c.args.counters.now (let past = c.loop-index-test.false in omega (arith, past)) in
    subst (λ cs. AreBounds c.args.builder.now c.loop-index.builder c.args.around.now c.args.number (map plain_counter cs) c.loop-index.bounds.counts.items c.loop-index.bounds.acted.items) all c.loop-index.invariant.bounds

pub returns-clause-pars : goal.returns-clause-pars
returns-clause-pars c =
    let all = take_all c.loop-index.index c.args.counters.now (let past = c.loop-index-test.false in omega (arith, past)) in
    c.loop-index.invariant.pars ∙ ap (λ cs. own_pars (map plain_counter cs)) all

pub returns-clause-acted : goal.returns-clause-acted
returns-clause-acted c =
    let all = take_all c.loop-index.index c.args.counters.now (let past = c.loop-index-test.false in omega (arith, past)) in
    subst (λ cs. AreActedLists c.loop-index.builder c.args.number (bound_lists (map plain_counter cs)) c.loop-index.bounds.acted.items) all c.loop-index.invariant.acted
