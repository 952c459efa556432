use Rattle.std.proofs.Common.{[], sym, ap, subst, refl, ◌∙◌, length}
use Rattle.sp_gates.proofs.Growing.{Fills-join, HasNet-stays, IsOne-stays}
use Rattle.sp_gates.proofs.Running.{runs_earlier}
use Rattle.sp_gates.specs.Tested.{is_on}
use Rattle.sp_slices.specs.Slices.{FollowAxes, all_ended}
use Rattle.sp_slices.proofs.Standing.{moves_stay, counts_stay, counters_stay, are_ints, as_many}
use Rattle.sp_slices.proofs.walking.walk.Goals as goal

pub count_moves-requires : goal.count_moves-requires
count_moves-requires c = moves_stay _ _ _ c.in_ok-always.ensures.fills.grows c.requires.moves

pub emit-requires : goal.emit-requires
emit-requires c = record {
  start = HasNet-stays _ _ _ _ c.in_ok-counts.ensures.fills.grows (HasNet-stays _ _ _ _ c.in_ok-always.ensures.fills.grows c.requires.start);
  step = HasNet-stays _ _ _ _ c.in_ok-counts.ensures.fills.grows (HasNet-stays _ _ _ _ c.in_ok-always.ensures.fills.grows c.requires.step);
  counts = c.in_ok-counts.ensures.fit;
}

pub follow-requires-clause-start : goal.follow-requires-clause-start
follow-requires-clause-start c = HasNet-stays _ _ _ _ c.in_ok-counted.ensures.fills.grows (HasNet-stays _ _ _ _ c.in_ok-counts.ensures.fills.grows (HasNet-stays _ _ _ _ c.in_ok-always.ensures.fills.grows c.requires.start))

pub follow-requires-clause-counts : goal.follow-requires-clause-counts
follow-requires-clause-counts c = rw c.deref.ensures.value (counts_stay _ _ _ c.in_ok-counted.ensures.fills.grows c.in_ok-counts.ensures.fit)

pub follow-requires-clause-values : goal.follow-requires-clause-values
follow-requires-clause-values c = rw c.deref-2.ensures.value (are_ints _ _ c.in_ok-counted.counted c.in_ok-counted.ensures.nets.values c.in_ok-counted.ensures.counts)

pub follow-requires-clause-one : goal.follow-requires-clause-one
follow-requires-clause-one c = IsOne-stays _ _ _ c.in_ok-counted.ensures.fills.grows (IsOne-stays _ _ _ c.in_ok-counts.ensures.fills.grows c.in_ok-always.ensures.one)

pub returns-clause-fills : goal.returns-clause-fills
returns-clause-fills c = Fills-join _ _ _ [] _ c.in_ok-always.ensures.fills (Fills-join _ _ _ [] _ c.in_ok-counts.ensures.fills (Fills-join _ _ _ [] _ c.in_ok-counted.ensures.fills c.in_ok-followed.ensures.fills))

pub returns-clause-nets : goal.returns-clause-nets
returns-clause-nets c = record {
  counts = counts_stay _ _ _ c.in_ok-followed.ensures.fills.grows (counts_stay _ _ _ c.in_ok-counted.ensures.fills.grows c.in_ok-counts.ensures.fit);
  values = counters_stay _ _ _ c.in_ok-followed.ensures.fills.grows c.in_ok-counted.ensures.nets.values;
  more = HasNet-stays _ _ _ _ c.in_ok-followed.ensures.fills.grows c.in_ok-counted.ensures.nets.more;
  axes = c.in_ok-followed.ensures.nets;
  last = c.in_ok-followed.ensures.last_net;
}

pub returns-clause-walks : goal.returns-clause-walks
returns-clause-walks c = λ s run.
    let r_counted = runs_earlier _ _ s c.in_ok-followed.ensures.fills.grows run in
    let r_counts = runs_earlier _ _ s c.in_ok-counted.ensures.fills.grows r_counted in
    let k = c.in_ok-counted.ensures.counts s r_counted in
    let cs = c.deref.ensures.value in
    let ns = c.deref-2.ensures.value in
    let each = ap length cs ∙ as_many s _ _ _ _ k.each ∙ sym (ap length ns) in
    record {
      start_is = refl;
      step_is = refl;
      bounds = c.in_ok-counts.ensures.count s r_counts;
      counts = k;
      axes = subst (λ xs. FollowAxes s (is_on s c.args.start) xs c.in_ok-counted.counted.counters.items c.in_ok-followed.followed.axes.items) cs
          (subst (λ xs. FollowAxes s (is_on s c.args.start) c.deref.result.now xs c.in_ok-followed.followed.axes.items) ns (c.in_ok-followed.ensures.axes s run each));
      last = λ t. c.in_ok-followed.ensures.last s run t ∙ ap (λ xs. all_ended s xs c.in_ok-followed.followed.axes.items t) ns;
    }
