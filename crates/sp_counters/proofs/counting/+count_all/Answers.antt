use Rattle.std.proofs.Common.{◌≡◌, ◌-◌, List, [], ◌∷◌, length, take, drop, rules, refl, sym, subst, arith}
use Rattle.sp_gates.proofs.Growing.{Fills-none, Fills-join, HasNet-stays}
use Rattle.sp_gates.proofs.Running.{runs_earlier}
use Rattle.sp_counters.specs.declared.part.Count.{Count}
use Rattle.sp_counters.specs.Pieces.{CountsAll}
use Rattle.sp_counters.proofs.CounterLemmas.{first_and_rest, first_fits, rest_fits, value_is_int, until_is_int, one_stays, all_stay, no_counters, all_counted}
use Rattle.sp_counters.proofs.counting.+count_all.Goals as goal

empty : (xs : List Count) → length xs ≡ 0 → xs ≡ []
empty [] e = refl
empty (x ∷ xs) e = absurd (omega (arith, e))

pub returns-in_default-clause-fills : goal.returns-in_default-clause-fills
returns-in_default-clause-fills t c = Fills-none _

pub returns-in_default-clause-all : goal.returns-in_default-clause-all
returns-in_default-clause-all t c = no_counters _ _ _ _ _ _ _ (empty c.args.counts.now (let l = c.in_default.len_below in omega (arith, l))) c.new.ensures.items c.new-in_default.ensures.items c.requires.one c.requires.step

pub count_all-requires : goal.count_all-requires
count_all-requires t c = (search rules, (c.requires.start, (c.requires.step, (rest_fits _ c.args.counts.now _ c.first-item.result (first_and_rest c.args.counts.now c.first-item.result c.in-len1-up.len_at_least c.first-item.is) c.requires.counts, c.requires.one))))

pub count_one-requires-clause-count : goal.count_one-requires-clause-count
count_one-requires-clause-count t c = first_fits _ _ c.args.counts.now _ c.first-item.result (first_and_rest c.args.counts.now c.first-item.result c.in-len1-up.len_at_least c.first-item.is) c.in_ok-later.ensures.fills.grows c.requires.counts

pub on_both-requires-clause-right : goal.on_both-requires-clause-right
on_both-requires-clause-right t c = HasNet-stays _ _ _ _ c.in_ok-own.ensures.fills.grows (c.in_ok-later.ensures.all.all_net)

pub on_both-requires-2-clause-left : goal.on_both-requires-2-clause-left
on_both-requires-2-clause-left t c = HasNet-stays _ _ _ _ c.in_ok-some.ensures.fills.grows (HasNet-stays _ _ _ _ c.in_ok-own.ensures.fills.grows (c.in_ok-later.ensures.all.past_net))

pub on_both-requires-2-clause-right : goal.on_both-requires-2-clause-right
on_both-requires-2-clause-right t c = HasNet-stays _ _ _ _ c.in_ok-some.ensures.fills.grows (c.in_ok-own.ensures.one.last_net)

pub lanes-requires-clause-value : goal.lanes-requires-clause-value
lanes-requires-clause-value t c = value_is_int _ _ _ _ _ (one_stays _ _ _ _ _ _ c.in_ok-past.ensures.fills.grows (one_stays _ _ _ _ _ _ c.in_ok-some.ensures.fills.grows (c.in_ok-own.ensures.one)))

pub lanes-requires-clause-until : goal.lanes-requires-clause-until
lanes-requires-clause-until t c = until_is_int _ _ _ _ _ (one_stays _ _ _ _ _ _ c.in_ok-past.ensures.fills.grows (one_stays _ _ _ _ _ _ c.in_ok-some.ensures.fills.grows (c.in_ok-own.ensures.one)))

pub returns-clause-fills : goal.returns-clause-fills
returns-clause-fills t c = Fills-join _ _ _ [] _ c.in_ok-later.ensures.fills (Fills-join _ _ _ [] _ c.in_ok-own.ensures.fills (Fills-join _ _ _ [] _ c.in_ok-some.ensures.fills (Fills-join _ _ _ [] _ c.in_ok-past.ensures.fills (c.in_ok-masks.ensures.fills))))

pub returns-clause-all : goal.returns-clause-all
returns-clause-all t c =
    let rest : List Count = take (length c.args.counts.now - 1) (drop 1 c.args.counts.now) in
    let own = one_stays _ _ _ _ _ _ c.in_ok-masks.ensures.fills.grows (one_stays _ _ _ _ _ _ c.in_ok-past.ensures.fills.grows (one_stays _ _ _ _ _ _ c.in_ok-some.ensures.fills.grows (c.in_ok-own.ensures.one))) in
    let later = all_stay _ _ _ _ _ _ _ _ _ c.in_ok-masks.ensures.fills.grows (all_stay _ _ _ _ _ _ _ _ _ c.in_ok-past.ensures.fills.grows (all_stay _ _ _ _ _ _ _ _ _ c.in_ok-some.ensures.fills.grows (all_stay _ _ _ _ _ _ _ _ _ c.in_ok-own.ensures.fills.grows (c.in_ok-later.ensures.all)))) in
    subst (λ xs. CountsAll c.lanes.new.builder c.args.start c.args.step xs c.insert.new.self.items c.in_ok-masks.masks.items c.in_ok-some.some c.in_ok-past.past)
    (sym (first_and_rest c.args.counts.now c.first-item.result c.in-len1-up.len_at_least c.first-item.is))
    (rw c.in_ok-insert.ensures.items
    (all_counted c.lanes.new.builder c.args.start c.args.step c.first-item.result rest c.in_ok-later.later.counters.items c.in_ok-masks.masks.items c.in_ok-later.later.masks.items
    c.in_ok-later.later.some c.in_ok-later.later.past c.in_ok-some.some c.in_ok-past.past c.in_ok-own.own later own
    (HasNet-stays _ _ _ _ c.in_ok-masks.ensures.fills.grows (HasNet-stays _ _ _ _ c.in_ok-past.ensures.fills.grows (c.in_ok-some.ensures.net))) (HasNet-stays _ _ _ _ c.in_ok-masks.ensures.fills.grows (c.in_ok-past.ensures.net))
    (λ s r t. c.in_ok-some.ensures.on s (runs_earlier _ _ s c.in_ok-past.ensures.fills.grows (runs_earlier _ _ s c.in_ok-masks.ensures.fills.grows r)) t)
    (λ s r t. c.in_ok-past.ensures.on s (runs_earlier _ _ s c.in_ok-masks.ensures.fills.grows r) t)
    c.in_ok-masks.ensures.own c.in_ok-masks.ensures.later))
