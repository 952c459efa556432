use Rattle.std.proofs.Common.{◌==◌, ◌&&◌, [], All, rules, sym, ap, ap₂, subst, ◌∙◌, arith}
use Rattle.sp_gates.specs.Nets.{HasNet}
use Rattle.sp_gates.specs.Tested.{is_on}
use Rattle.sp_gates.proofs.Growing.{Fills-none, Fills-join, HasNet-stays}
use Rattle.sp_gates.proofs.Running.{runs_earlier}
use Rattle.sp_slices.specs.Fits.{IsAxis}
use Rattle.sp_slices.proofs.Lists.{first_and_rest, empty}
use Rattle.sp_slices.proofs.Standing.{axis_stays, of_first, of_rest}
use Rattle.sp_xfer.specs.Ahead.{are_over, look_offset, look_offsets}
use Rattle.sp_xfer.specs.Moving.{words_at}
use Rattle.sp_xfer.proofs.Keeping.{nets_stay, index_nets, index_words, no_over, no_over_axes, no_looks, no_looks_axes}
use Rattle.sp_xfer.proofs.ahead.+look_all.Goals as goal

pub returns-in_default-clause-fills : goal.returns-in_default-clause-fills
returns-in_default-clause-fills t c = Fills-none _

pub returns-in_default-axes-clause-fills : goal.returns-in_default-axes-clause-fills
returns-in_default-axes-clause-fills t c = Fills-none _

pub returns-in_default-clause-over : goal.returns-in_default-clause-over
returns-in_default-clause-over t c = λ s r u. ap (λ n. n == 1) (c.requires.one.always s r u) ∙ sym (no_over s c.args.moves.now c.args.axes.now u (empty c.args.moves.now (let l = c.in_default.len_below in omega (arith, l))))

pub returns-in_default-clause-words : goal.returns-in_default-clause-words
returns-in_default-clause-words t c = λ s r u. ap (words_at s u) c.new.ensures.items ∙ sym (no_looks s c.args.start c.args.moves.now c.args.axes.now u (empty c.args.moves.now (let l = c.in_default.len_below in omega (arith, l))))

pub returns-in_default-axes-clause-over : goal.returns-in_default-axes-clause-over
returns-in_default-axes-clause-over t c = λ s r u. ap (λ n. n == 1) (c.requires.one.always s r u) ∙ sym (no_over_axes s c.args.moves.now c.args.axes.now u (empty c.args.axes.now (let l = c.in_default-axes.len_below in omega (arith, l))))

pub returns-in_default-axes-clause-words : goal.returns-in_default-axes-clause-words
returns-in_default-axes-clause-words t c = λ s r u. ap (words_at s u) c.new-in_default-axes.ensures.items ∙ sym (no_looks_axes s c.args.start c.args.moves.now c.args.axes.now u (empty c.args.axes.now (let l = c.in_default-axes.len_below in omega (arith, l))))

pub look_all-requires : goal.look_all-requires
look_all-requires t c = (search rules, (c.requires.start, (of_rest (IsAxis c.args.builder.now) c.args.axes.now _ c.axis-item.result (first_and_rest c.args.axes.now c.axis-item.result c.in-len1-up-axes.len_at_least c.axis-item.is) c.requires.axes, c.requires.one)))

pub look_one-requires-clause-start : goal.look_one-requires-clause-start
look_one-requires-clause-start t c = HasNet-stays _ _ _ _ c.in_ok-others.ensures.fills.grows c.requires.start

pub look_one-requires-clause-axis : goal.look_one-requires-clause-axis
look_one-requires-clause-axis t c = axis_stays _ _ c.in_ok-others.ensures.fills.grows _ (of_first (IsAxis c.args.builder.now) c.args.axes.now _ c.axis-item.result (first_and_rest c.args.axes.now c.axis-item.result c.in-len1-up-axes.len_at_least c.axis-item.is) c.requires.axes)

pub on_both-requires-clause-left : goal.on_both-requires-clause-left
on_both-requires-clause-left t c = HasNet-stays _ _ _ _ c.in_ok-index.ensures.fills.grows (axis_stays _ _ c.in_ok-others.ensures.fills.grows _ (of_first (IsAxis c.args.builder.now) c.args.axes.now _ c.axis-item.result (first_and_rest c.args.axes.now c.axis-item.result c.in-len1-up-axes.len_at_least c.axis-item.is) c.requires.axes)).ended

pub on_both-requires-clause-right : goal.on_both-requires-clause-right
on_both-requires-clause-right t c = HasNet-stays _ _ _ _ c.in_ok-index.ensures.fills.grows c.in_ok-others.ensures.over_net

pub returns-clause-fills : goal.returns-clause-fills
returns-clause-fills t c = Fills-join _ _ _ [] _ c.in_ok-others.ensures.fills (Fills-join _ _ _ [] _ c.in_ok-index.ensures.fills c.in_ok-over.ensures.fills)

pub returns-clause-nets : goal.returns-clause-nets
returns-clause-nets t c = subst (All (λ net. HasNet c.on_both.new.builder net 32)) (sym c.in_ok-indices.ensures)
    (index_nets _ c.part-item.result _ _ (HasNet-stays _ _ _ _ c.in_ok-over.ensures.fills.grows c.in_ok-index.ensures.net) (nets_stay _ _ _ c.in_ok-over.ensures.fills.grows (nets_stay _ _ _ c.in_ok-index.ensures.fills.grows c.in_ok-others.ensures.nets)))

pub returns-clause-over : goal.returns-clause-over
returns-clause-over t c = λ s r u.
    let r_index = runs_earlier _ _ s c.in_ok-over.ensures.fills.grows r in
    let r_others = runs_earlier _ _ s c.in_ok-index.ensures.fills.grows r_index in
    c.in_ok-over.ensures.on s r u ∙ ap (λ b. is_on s c.axis-item.result.ended u && b) (c.in_ok-others.ensures.over s r_others u) ∙ ap₂ (λ ms xs. are_over s ms xs u) (sym (first_and_rest c.args.moves.now c.part-item.result c.in-len1-up.len_at_least c.part-item.is)) (sym (first_and_rest c.args.axes.now c.axis-item.result c.in-len1-up-axes.len_at_least c.axis-item.is))

pub returns-clause-words : goal.returns-clause-words
returns-clause-words t c = λ s r u.
    let r_index = runs_earlier _ _ s c.in_ok-over.ensures.fills.grows r in
    let r_others = runs_earlier _ _ s c.in_ok-index.ensures.fills.grows r_index in
    ap (words_at s u) c.in_ok-indices.ensures
    ∙ index_words s u c.part-item.result _ _ _ _ (c.in_ok-index.ensures.word s r_index u ∙ ap (λ b. look_offset s c.args.start b c.axis-item.result u) (c.in_ok-others.ensures.over s r_others u)) (c.in_ok-others.ensures.words s r_others u)
    ∙ ap₂ (λ ms xs. look_offsets s c.args.start ms xs u) (sym (first_and_rest c.args.moves.now c.part-item.result c.in-len1-up.len_at_least c.part-item.is)) (sym (first_and_rest c.args.axes.now c.axis-item.result c.in-len1-up-axes.len_at_least c.axis-item.is))
