use Rattle.std.proofs.Common.{◌≡◌, ◌+◌, ◌-◌, suc, [], length, slice_index, ap, ap₂, sym, subst, ◌∙◌, ◌||◌, arith}
use Rattle.std.proofs.lemmas.List.{get_or_default}
use Rattle.sp_core.specs.Scope.{is_some_up_to}
use Rattle.sp_gates.specs.Nets.{HasNet}
use Rattle.sp_gates.specs.Tested.{is_on}
use Rattle.sp_gates.proofs.Growing.{Fills-none, Fills-join, HasNet-stays}
use Rattle.sp_gates.proofs.Running.{runs_earlier}
use Rattle.sp_lane_nets.proofs.live.some_live.Goals as goal

pub loop-i-init : goal.loop-i-init
loop-i-init c =
    let o = c.requires.order in
    let w = c.requires.within in
    let same : c.index-masks-first.result ≡ slice_index c.args.masks.now c.args.first = c.index-masks-first.is ∙ get_or_default c.args.masks.now c.args.first c.index-masks-first.result 0 (omega (arith, o, w)) in
    record {
      fills = Fills-none _;
      net = subst (λ n. HasNet c.args.builder.now n 1) (sym same) (c.requires.masks c.args.first (omega (arith, o, w)));
      on = λ s r t. ap (λ n. is_on s n t) same;
    }

pub on_either-requires-clause-left : goal.on_either-requires-clause-left
on_either-requires-clause-left c = c.loop-i.invariant.net

pub on_either-requires-clause-right : goal.on_either-requires-clause-right
on_either-requires-clause-right c =
    let l = c.loop-i-test.true in
    let o = c.requires.order in
    let w = c.requires.within in
    let b = c.loop-i.auto.i-end in
    let same = c.index-masks-first-in-loop-i.is ∙ get_or_default c.args.masks.now (c.args.first + 1 + c.loop-i.i) c.index-masks-first-in-loop-i.result 0 (omega (arith, l, o, w, b)) in
    subst (λ n. HasNet c.loop-i.builder n 1) (sym same) (HasNet-stays _ _ _ _ c.loop-i.invariant.fills.grows (c.requires.masks (c.args.first + 1 + c.loop-i.i) (omega (arith, l, o, w, b))))

pub loop-i-preserved : goal.loop-i-preserved
loop-i-preserved c =
    let i = c.loop-i.invariant in
    let e = c.in_ok-net.ensures in
    let l = c.loop-i-test.true in
    let o = c.requires.order in
    let w = c.requires.within in
    let b = c.loop-i.auto.i-end in
    let same = c.index-masks-first-in-loop-i.is ∙ get_or_default c.args.masks.now (c.args.first + 1 + c.loop-i.i) c.index-masks-first-in-loop-i.result 0 (omega (arith, l, o, w, b)) in
    record {
      fills = Fills-join _ _ _ [] [] i.fills e.fills;
      net = e.net;
      on = λ s r t.
          e.on s r t
          ∙ ap₂ (λ a b. a || b) (i.on s (runs_earlier _ _ s e.fills.grows r) t) (ap (λ n. is_on s n t) same ∙ ap (λ k. is_on s (slice_index c.args.masks.now k) t) (let z : c.args.first + 1 + c.loop-i.i ≡ c.args.first + suc c.loop-i.i = omega arith in z))
          ∙ ap (is_some_up_to (λ k. is_on s (slice_index c.args.masks.now k) t) c.args.first) (let z : suc c.loop-i.i ≡ c.loop-i.i + 1 = omega arith in z);
    }

pub returns-clause-fills : goal.returns-clause-fills
returns-clause-fills c = c.loop-i.invariant.fills

pub returns-clause-net : goal.returns-clause-net
returns-clause-net c = c.loop-i.invariant.net

pub returns-clause-on : goal.returns-clause-on
returns-clause-on c = λ s r t.
    let a = c.loop-i-test.false in
    let b = c.loop-i.auto.i-end in
    let e : c.loop-i.i ≡ c.args.last - c.args.first = omega (arith, a, b) in
    c.loop-i.invariant.on s r t ∙ ap (is_some_up_to (λ k. is_on s (slice_index c.args.masks.now k) t) c.args.first) e
