use Rattle.std.proofs.Common.{[], ◌+◌, ◌*◌, ◌%◌, ◌^◌, ◌<◌, ◌∙◌, sym, ap, length, take, get_or, arith}
use Rattle.std.proofs.lemmas.List.{take_all, length-map}
use Rattle.sp_bank.specs.Places.{weighted}
use Rattle.sp_gates.specs.Nets.{HasNet}
use Rattle.sp_gates.proofs.Growing.{Fills-join, HasNet-stays}
use Rattle.sp_gates.proofs.Running.{runs_earlier}
use Rattle.sp_places.specs.Layouts.{words_at}
use Rattle.sp_places.proofs.Nets.{at_item, word_at}
use Rattle.sp_places.proofs.SumLemmas.{weighted_more, sum_step}
use Rattle.sp_places.proofs.sums.weighted_sum.Goals as goal

pub times-requires : goal.times-requires
times-requires c =
    let l = c.loop-i-test.true in
    let each = c.requires.each in
    HasNet-stays _ _ _ _ c.loop-i.invariant.fills.grows (at_item (λ net. HasNet c.args.builder.now net 64) c.args.nets.now c.loop-i.i c.index-nets-i.result c.requires.nets (omega (arith, l, each)) c.index-nets-i.is)

pub loop-i-preserved : goal.loop-i-preserved
loop-i-preserved c =
    let i = c.loop-i.invariant in
    let p = c.in_ok-part.ensures in
    let e = c.in_ok-total-2.ensures in
    let l = c.loop-i-test.true in
    let each = c.requires.each in
    let m : c.loop-i.i < length c.args.nets.now = omega (arith, l, each) in
    record {
      fills = Fills-join _ _ _ [] [] i.fills (Fills-join _ _ _ [] [] p.fills e.fills);
      net = e.net;
      word = λ s run t.
          let middle = runs_earlier _ _ s e.fills.grows run in
          let before = runs_earlier _ _ s p.fills.grows middle in
          let long = length-map c.args.nets.now (s.net t) in
          sum_step (2 ^ 64) (s.net t c.loop-i.total) (s.net t c.in_ok-part.part) _ _ (s.net t c.index-nets-i.result) c.from.result (e.word s run t) (p.word s middle t) (i.word s before t)
          ∙ ap (λ n. (weighted (take c.loop-i.i c.args.weights.now) (take c.loop-i.i (words_at s t c.args.nets.now)) + n * s.net t c.index-nets-i.result) % 2 ^ 64) c.from.ensures
          ∙ ap (λ n. (weighted (take c.loop-i.i c.args.weights.now) (take c.loop-i.i (words_at s t c.args.nets.now)) + get_or c.args.weights.now c.loop-i.i 0 * n) % 2 ^ 64) (word_at (s.net t) c.args.nets.now c.loop-i.i c.index-nets-i.result m c.index-nets-i.is)
          ∙ ap (λ n. n % 2 ^ 64) (sym (weighted_more c.args.weights.now (words_at s t c.args.nets.now) c.loop-i.i l (omega (arith, m, long))));
    }

pub returns-clause-word : goal.returns-clause-word
returns-clause-word c = λ s run t.
    let past = c.loop-i-test.false in
    let each = c.requires.each in
    let long = length-map c.args.nets.now (s.net t) in
    c.loop-i.invariant.word s run t
    ∙ ap (λ ws. weighted ws (take c.loop-i.i (words_at s t c.args.nets.now)) % 2 ^ 64) (take_all c.loop-i.i c.args.weights.now (omega (arith, past)))
    ∙ ap (λ ws. weighted c.args.weights.now ws % 2 ^ 64) (take_all c.loop-i.i (words_at s t c.args.nets.now) (omega (arith, past, each, long)))
