use Rattle.std.proofs.Common.{◌==◌, ◌&&◌, [], rules, sym, ap, ap₂, ◌∙◌, arith}
use Rattle.sp_gates.proofs.Growing.{Fills-none, Fills-join, HasNet-stays, IsOne-stays}
use Rattle.sp_gates.proofs.Running.{runs_earlier}
use Rattle.sp_counters.specs.Counting.{have_values}
use Rattle.sp_counters.specs.Fits.{CountFits}
use Rattle.sp_slices.proofs.Lists.{first_and_rest, empty}
use Rattle.sp_slices.proofs.Standing.{counts_stay, of_first, of_rest}
use Rattle.sp_slices.proofs.some.+all_have_values.Goals as goal

pub returns-in_default-clause-fills : goal.returns-in_default-clause-fills
returns-in_default-clause-fills t c = Fills-none _

pub returns-in_default-clause-net : goal.returns-in_default-clause-net
returns-in_default-clause-net t c = c.requires.one.net_stands

pub returns-in_default-clause-on : goal.returns-in_default-clause-on
returns-in_default-clause-on t c = λ s r u. ap (λ n. n == 1) (c.requires.one.always s r u) ∙ sym (ap (λ xs. have_values s xs u) (empty c.args.counts.now (let l = c.in_default.len_below in omega (arith, l))))

pub has_value-requires : goal.has_value-requires
has_value-requires t c = of_first (CountFits c.args.builder.now) c.args.counts.now _ c.count-item.result (first_and_rest c.args.counts.now c.count-item.result c.in-len1-up.len_at_least c.count-item.is) c.requires.counts

pub all_have_values-requires : goal.all_have_values-requires
all_have_values-requires t c = (search rules, (counts_stay _ _ _ c.in_ok-own.ensures.fills.grows (of_rest (CountFits c.args.builder.now) c.args.counts.now _ c.count-item.result (first_and_rest c.args.counts.now c.count-item.result c.in-len1-up.len_at_least c.count-item.is) c.requires.counts), IsOne-stays _ _ _ c.in_ok-own.ensures.fills.grows c.requires.one))

pub on_both-requires-clause-left : goal.on_both-requires-clause-left
on_both-requires-clause-left t c = HasNet-stays _ _ _ _ c.in_ok-others.ensures.fills.grows c.in_ok-own.ensures.net

pub returns-clause-fills : goal.returns-clause-fills
returns-clause-fills t c = Fills-join _ _ _ [] _ c.in_ok-own.ensures.fills (Fills-join _ _ _ [] _ c.in_ok-others.ensures.fills c.in_ok-all.ensures.fills)

pub returns-clause-on : goal.returns-clause-on
returns-clause-on t c = λ s r t.
    let r_others = runs_earlier _ _ s c.in_ok-all.ensures.fills.grows r in
    let r_own = runs_earlier _ _ s c.in_ok-others.ensures.fills.grows r_others in
    c.in_ok-all.ensures.on s r t
    ∙ ap₂ (λ a b. a && b) (c.in_ok-own.ensures.on s r_own t) (c.in_ok-others.ensures.on s r_others t)
    ∙ ap (λ xs. have_values s xs t) (sym (first_and_rest c.args.counts.now c.count-item.result c.in-len1-up.len_at_least c.count-item.is))
