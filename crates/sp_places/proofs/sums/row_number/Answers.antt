use Rattle.std.proofs.Common.{[], ◌+◌, ◌*◌, ◌%◌, ◌^◌, ◌<◌, ◌∙◌, ap, length, take, arith}
use Rattle.std.proofs.lemmas.List.{take_all, length-map}
use Rattle.sp_bank.specs.Places.{product_of, row_major}
use Rattle.sp_gates.specs.Nets.{HasNet}
use Rattle.sp_gates.proofs.Growing.{Fills-none, Fills-join, HasNet-stays}
use Rattle.sp_gates.proofs.Running.{runs_earlier}
use Rattle.sp_places.specs.Layouts.{words_at}
use Rattle.sp_places.proofs.Nets.{at_item, word_at}
use Rattle.sp_places.proofs.SumLemmas.{row_step, row_more}
use Rattle.sp_places.proofs.sums.row_number.Goals as goal

pub loop-i-init : goal.loop-i-init
loop-i-init c = record { fills = Fills-none _; net = c.requires.start; word = λ s r t inside. ap (λ n. n % 2 ^ 64) (omega arith) }

pub sum-requires-clause-right : goal.sum-requires-clause-right
sum-requires-clause-right c =
    let l = c.loop-i-test.true in
    let each = c.requires.each in
    HasNet-stays _ _ _ _ c.in_ok-rows.ensures.fills.grows
    (HasNet-stays _ _ _ _ c.loop-i.invariant.fills.grows (at_item (λ net. HasNet c.args.builder.now net 64) c.args.nets.now c.loop-i.i c.index-nets-i.result c.requires.nets (omega (arith, l, each)) c.index-nets-i.is))

pub loop-i-preserved : goal.loop-i-preserved
loop-i-preserved c =
    let i = c.loop-i.invariant in
    let p = c.in_ok-rows.ensures in
    let e = c.in_ok-number.ensures in
    let l = c.loop-i-test.true in
    let each = c.requires.each in
    let m : c.loop-i.i < length c.args.nets.now = omega (arith, l, each) in
    record {
      fills = Fills-join _ _ _ [] [] i.fills (Fills-join _ _ _ [] [] p.fills e.fills);
      net = e.net;
      word = λ s run t inside.
          let middle = runs_earlier _ _ s e.fills.grows run in
          let before = runs_earlier _ _ s p.fills.grows middle in
          let long = length-map c.args.nets.now (s.net t) in
          row_step (2 ^ 64) (s.net t c.loop-i.number) (s.net t c.in_ok-rows.rows) _ _ c.from.result (s.net t c.index-nets-i.result) (e.word s run t) (p.word s middle t) (i.word s before t inside)
          ∙ row_more (2 ^ 64) (s.net t c.args.start) c.args.dims.now (words_at s t c.args.nets.now) c.loop-i.i c.from.result (s.net t c.index-nets-i.result) inside (omega (arith, long, each)) l c.from.ensures
          (word_at (s.net t) c.args.nets.now c.loop-i.i c.index-nets-i.result m c.index-nets-i.is);
    }

pub returns-clause-word : goal.returns-clause-word
returns-clause-word c = λ s run t inside.
    let past = c.loop-i-test.false in
    let each = c.requires.each in
    let long = length-map c.args.nets.now (s.net t) in
    c.loop-i.invariant.word s run t inside
    ∙ ap (λ ds. (s.net t c.args.start * product_of ds + row_major ds (take c.loop-i.i (words_at s t c.args.nets.now))) % 2 ^ 64) (take_all c.loop-i.i c.args.dims.now (omega (arith, past)))
    ∙ ap (λ ws. (s.net t c.args.start * product_of c.args.dims.now + row_major c.args.dims.now ws) % 2 ^ 64) (take_all c.loop-i.i (words_at s t c.args.nets.now) (omega (arith, past, each, long)))
