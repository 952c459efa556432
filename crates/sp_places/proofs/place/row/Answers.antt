use Rattle.std.proofs.Common.{◌≡◌, [], ◌*◌, ◌/◌, ◌%◌, ◌^◌, ◌<◌, length, get_or, slice_index, ap, ◌∙◌, arith}
use Rattle.std.specs.Int.{div_ceil}
use Rattle.std.specs.List.{remove}
use Rattle.std.proofs.lemmas.List.{get_or_default}
use Rattle.sp_bank.specs.Banking.{period}
use Rattle.sp_bank.specs.Places.{row_major, periods}
use Rattle.sp_gates.specs.Nets.{HasNet}
use Rattle.sp_gates.proofs.Growing.{Fills-join, HasNet-stays}
use Rattle.sp_gates.proofs.Running.{runs_earlier}
use Rattle.sp_places.specs.Layouts.{banking_of, words_at}
use Rattle.sp_places.proofs.Nets.{at_item, word_at}
use Rattle.sp_places.proofs.SumLemmas.{scaled_sum}
use Rattle.sp_places.proofs.place.row.Goals as goal

pub over-requires-clause-left : goal.over-requires-clause-left
over-requires-clause-left c =
    let hinge = c.requires.layout.space.size.hinge_place in
    let rank = c.requires.layout.rank in
    let each = c.requires.each in
    HasNet-stays _ _ _ _ c.in_ok-rows.ensures.fills.grows
    (HasNet-stays _ _ _ _ c.in_ok-number.ensures.fills.grows
    (at_item (λ net. HasNet c.args.builder.now net 64) c.args.wide.now c.args.layout.now.hinge c.index-wide-hinge.result c.requires.nets (omega (arith, hinge, rank, each)) c.index-wide-hinge.is))

pub sum-requires-clause-left : goal.sum-requires-clause-left
sum-requires-clause-left c = HasNet-stays _ _ _ _ c.in_ok-at.ensures.fills.grows c.in_ok-rows.ensures.net

pub returns-clause-fills : goal.returns-clause-fills
returns-clause-fills c = Fills-join _ _ _ [] [] c.in_ok-number.ensures.fills (Fills-join _ _ _ [] [] c.in_ok-rows.ensures.fills (Fills-join _ _ _ [] [] c.in_ok-at.ensures.fills c.in_ok-net.ensures.fills))

pub returns-clause-word : goal.returns-clause-word
returns-clause-word c =
    let hinge = c.requires.layout.space.size.hinge_place in
    let rank = c.requires.layout.rank in
    let each = c.requires.each in
    let within : c.args.layout.now.hinge < length c.args.wide.now = omega (arith, hinge, rank, each) in
    let span : c.from.result * c.from-2.result ≡ period (banking_of c.args.layout.now) = ap (λ n. n * c.from-2.result) c.from.ensures ∙ ap (λ n. c.args.layout.now.banks * n) c.from-2.ensures in
    let size : c.from-3.result ≡ slice_index c.args.layout.now.dims.items c.args.layout.now.hinge =
    c.from-3.ensures ∙ c.index.ensures ∙ get_or_default c.args.layout.now.dims.items c.args.layout.now.hinge c.index.result.now 0 (omega (arith, hinge, rank)) in
    let many : c.div_ceil-periods.result ≡ periods (banking_of c.args.layout.now) c.args.layout.now.dims.items =
    c.div_ceil-periods.ensures ∙ ap (λ n. div_ceil c.from-3.result n) span ∙ ap (λ n. div_ceil n (period (banking_of c.args.layout.now))) size in
    λ s run t inside.
    let third = runs_earlier _ _ s c.in_ok-net.ensures.fills.grows run in
    let second = runs_earlier _ _ s c.in_ok-at.ensures.fills.grows third in
    let first = runs_earlier _ _ s c.in_ok-rows.ensures.fills.grows second in
    scaled_sum (2 ^ 64) (s.net t c.in_ok-number.number) (s.net t c.in_ok-rows.rows) (s.net t c.in_ok-at.at) (s.net t c.in_ok-net.net)
    (row_major (remove c.args.layout.now.dims.items c.args.layout.now.hinge) (remove (words_at s t c.args.wide.now) c.args.layout.now.hinge)) (periods (banking_of c.args.layout.now) c.args.layout.now.dims.items)
    (get_or (words_at s t c.args.wide.now) c.args.layout.now.hinge 0 / period (banking_of c.args.layout.now))
    (c.in_ok-net.ensures.word s run t)
    (c.in_ok-rows.ensures.word s second t ∙ ap (λ n. s.net t c.in_ok-number.number * n % 2 ^ 64) many)
    (c.in_ok-number.ensures.word s first t inside)
    (c.in_ok-at.ensures.word s third t ∙ ap (λ n. s.net t c.index-wide-hinge.result / n % 2 ^ 64) span
    ∙ ap (λ n. n / period (banking_of c.args.layout.now) % 2 ^ 64) (word_at (s.net t) c.args.wide.now c.args.layout.now.hinge c.index-wide-hinge.result within c.index-wide-hinge.is))
