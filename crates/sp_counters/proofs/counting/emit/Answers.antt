use Rattle.std.proofs.Common.{◌&&◌, not, [], ap, subst, ◌∙◌, if◌then◌else◌}
use Rattle.sp_gates.specs.Tested.{is_on}
use Rattle.sp_gates.proofs.Growing.{Fills-join, IsOne-stays}
use Rattle.sp_gates.proofs.Running.{runs_earlier}
use Rattle.sp_counters.specs.Counting.{have_values}
use Rattle.sp_counters.specs.Pieces.{CountsAll}
use Rattle.sp_counters.proofs.CounterLemmas.{counts_fit_stay, all_stay}
use Rattle.sp_counters.proofs.counting.emit.Goals as goal

pub count_all-requires-clause-counts : goal.count_all-requires-clause-counts
count_all-requires-clause-counts c = rw c.deref.ensures.value (counts_fit_stay _ _ _ c.in_ok-always.ensures.fills.grows c.requires.counts)

pub stands-requires-clause-one : goal.stands-requires-clause-one
stands-requires-clause-one c = IsOne-stays _ _ _ c.in_ok-going.ensures.fills.grows (c.in_ok-always.ensures.one)

pub returns-clause-fills : goal.returns-clause-fills
returns-clause-fills c = Fills-join _ _ _ [] _ c.in_ok-always.ensures.fills (Fills-join _ _ _ [] _ c.in_ok-going.ensures.fills (c.in_ok-more.ensures.fills))

pub returns-clause-nets : goal.returns-clause-nets
returns-clause-nets c =
    let h = subst (λ xs. CountsAll c.count_all.new.builder c.args.part.now.start c.args.part.now.step xs c.in_ok-going.going.counters.items c.in_ok-going.going.masks.items c.in_ok-going.going.some c.in_ok-going.going.past) c.deref.ensures.value c.in_ok-going.ensures.all in
    let k = all_stay _ _ _ _ _ _ _ _ _ c.in_ok-more.ensures.fills.grows h in
    record { values = k.values; lanes = k.lanes; masks = k.mask_nets; more = c.in_ok-more.ensures.net }

pub returns-clause-counts : goal.returns-clause-counts
returns-clause-counts c = λ s r.
    let h = subst (λ xs. CountsAll c.count_all.new.builder c.args.part.now.start c.args.part.now.step xs c.in_ok-going.going.counters.items c.in_ok-going.going.masks.items c.in_ok-going.going.some c.in_ok-going.going.past) c.deref.ensures.value c.in_ok-going.ensures.all in
    let r0 = runs_earlier _ _ s c.in_ok-more.ensures.fills.grows r in
    record {
      each = h.each s r0;
      none_first = c.in_ok-more.ensures.first s r;
      more = λ t.
          c.in_ok-more.ensures.on s r t
          ∙ ap (λ b. if is_on s c.args.part.now.start t then b else is_on s c.in_ok-more.more t && not (is_on s c.in_ok-going.going.past t)) (h.all_on s r0 t)
          ∙ ap (λ b. if is_on s c.args.part.now.start t then have_values s c.args.part.now.counters.items t else is_on s c.in_ok-more.more t && not b) (h.past_on s r0 t);
      masks = λ lane t l. h.below s r0 lane t l;
    }
