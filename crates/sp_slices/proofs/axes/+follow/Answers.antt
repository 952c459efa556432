use Rattle.std.proofs.Common.{◌≡◌, ◌-◌, ◌&&◌, List, [], length, take, drop, rules, sym, ap, ap₂, ◌==◌, ◌∙◌, arith}
use Rattle.std.proofs.lemmas.List.Elements.{All-cons}
use Rattle.sp_gates.proofs.Growing.{Fills-none, Fills-join, HasNet-stays, IsOne-stays}
use Rattle.sp_gates.proofs.Running.{runs_earlier}
use Rattle.sp_gates.specs.Tested.{is_on}
use Rattle.sp_counters.specs.declared.part.Count.{Count}
use Rattle.sp_counters.specs.declared.part.Counter.{Counter}
use Rattle.sp_counters.specs.Fits.{CountFits}
use Rattle.sp_counters.specs.Pieces.{HasInt}
use Rattle.sp_slices.specs.Fits.{IsAxis}
use Rattle.sp_slices.specs.Slices.{all_ended}
use Rattle.sp_slices.proofs.Lists.{first_and_rest, empty}
use Rattle.sp_slices.proofs.Standing.{counts_stay, axis_stays, ints_stay, axes_stay, of_first, of_rest, no_axes, more_axes, none_ended}
use Rattle.sp_slices.proofs.axes.+follow.Goals as goal

pub returns-in_default-clause-fills : goal.returns-in_default-clause-fills
returns-in_default-clause-fills t c = Fills-none _

pub returns-in_default-clause-axes : goal.returns-in_default-clause-axes
returns-in_default-clause-axes t c = λ s run each.
    let none = empty c.args.counts.now (let l = c.in_default.len_below in omega (arith, l)) in
    no_axes s _ _ _ _ none (empty c.args.counters.now (let n = ap length none in omega (arith, n, each))) c.new.ensures.items

pub returns-in_default-clause-last : goal.returns-in_default-clause-last
returns-in_default-clause-last t c = λ s run u. ap (λ n. n == 1) (c.requires.one.always s run u) ∙ sym (none_ended s c.args.counters.now _ u c.new.ensures.items)

pub returns-in_default-counters-clause-fills : goal.returns-in_default-counters-clause-fills
returns-in_default-counters-clause-fills t c = Fills-none _

pub follow_one-requires-clause-count : goal.follow_one-requires-clause-count
follow_one-requires-clause-count t c = of_first (CountFits c.args.builder.now) c.args.counts.now _ c.count-item.result (first_and_rest c.args.counts.now c.count-item.result c.in-len1-up.len_at_least c.count-item.is) c.requires.counts

pub follow_one-requires-clause-value : goal.follow_one-requires-clause-value
follow_one-requires-clause-value t c = of_first (λ n. HasInt c.args.builder.now n.value) c.args.counters.now _ c.counter-item.result (first_and_rest c.args.counters.now c.counter-item.result c.in-len1-up-counters.len_at_least c.counter-item.is) c.requires.values

pub follow-requires : goal.follow-requires
follow-requires t c = (
  search rules,
  (
    HasNet-stays _ _ _ _ c.in_ok-own.ensures.fills.grows c.requires.start,
    (
      counts_stay _ _ _ c.in_ok-own.ensures.fills.grows (of_rest (CountFits c.args.builder.now) c.args.counts.now _ c.count-item.result (first_and_rest c.args.counts.now c.count-item.result c.in-len1-up.len_at_least c.count-item.is) c.requires.counts),
      (
        ints_stay _ _ _ c.in_ok-own.ensures.fills.grows (of_rest (λ n. HasInt c.args.builder.now n.value) c.args.counters.now _ c.counter-item.result (first_and_rest c.args.counters.now c.counter-item.result c.in-len1-up-counters.len_at_least c.counter-item.is) c.requires.values),
        IsOne-stays _ _ _ c.in_ok-own.ensures.fills.grows c.requires.one,
      ),
    ),
  ),
)

pub on_both-requires-clause-left : goal.on_both-requires-clause-left
on_both-requires-clause-left t c = HasNet-stays _ _ _ _ c.in_ok-others.ensures.fills.grows c.in_ok-own.ensures.nets.ended

pub returns-clause-fills : goal.returns-clause-fills
returns-clause-fills t c = Fills-join _ _ _ [] _ c.in_ok-own.ensures.fills (Fills-join _ _ _ [] _ c.in_ok-others.ensures.fills c.in_ok-last.ensures.fills)

pub returns-clause-nets : goal.returns-clause-nets
returns-clause-nets t c = rw c.in_ok-insert.ensures.items (All-cons (IsAxis c.on_both.new.builder) _ _
    (axis_stays _ _ c.in_ok-last.ensures.fills.grows _ (axis_stays _ _ c.in_ok-others.ensures.fills.grows _ c.in_ok-own.ensures.nets)) (axes_stay _ _ _ c.in_ok-last.ensures.fills.grows c.in_ok-others.ensures.nets))

pub returns-clause-axes : goal.returns-clause-axes
returns-clause-axes t c = λ s run each.
    let r_others = runs_earlier _ _ s c.in_ok-last.ensures.fills.grows run in
    let r_own = runs_earlier _ _ s c.in_ok-others.ensures.fills.grows r_others in
    let cs : List Count = take (length c.args.counts.now - 1) (drop 1 c.args.counts.now) in
    let ns : List Counter = take (length c.args.counters.now - 1) (drop 1 c.args.counters.now) in
    let same : length cs ≡ length ns = (let a = ap length (first_and_rest c.args.counts.now c.count-item.result c.in-len1-up.len_at_least c.count-item.is) in let b = ap length (first_and_rest c.args.counters.now c.counter-item.result c.in-len1-up-counters.len_at_least c.counter-item.is) in omega (arith, a, b, each)) in
    more_axes s (is_on s c.args.start) c.args.counts.now cs c.count-item.result c.args.counters.now ns c.counter-item.result _ c.in_ok-others.others.axes.items c.in_ok-own.own (first_and_rest c.args.counts.now c.count-item.result c.in-len1-up.len_at_least c.count-item.is) (first_and_rest c.args.counters.now c.counter-item.result c.in-len1-up-counters.len_at_least c.counter-item.is) c.in_ok-insert.ensures.items
    (c.in_ok-own.ensures.follows s r_own) (c.in_ok-others.ensures.axes s r_others same)

pub returns-clause-last : goal.returns-clause-last
returns-clause-last t c = λ s run u.
    let r_others = runs_earlier _ _ s c.in_ok-last.ensures.fills.grows run in
    let r_own = runs_earlier _ _ s c.in_ok-others.ensures.fills.grows r_others in
    c.in_ok-last.ensures.on s run u ∙ ap₂ (λ a b. a && b) ((c.in_ok-own.ensures.follows s r_own).ended u) (c.in_ok-others.ensures.last s r_others u)
    ∙ ap₂ (λ ns xs. all_ended s ns xs u) (sym (first_and_rest c.args.counters.now c.counter-item.result c.in-len1-up-counters.len_at_least c.counter-item.is)) (sym c.in_ok-insert.ensures.items)
