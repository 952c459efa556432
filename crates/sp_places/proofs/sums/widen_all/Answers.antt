use Rattle.std.proofs.Common.{[], ◌+◌, ◌%◌, ◌^◌, ◌∙◌, ap, length, map, arith}
use Rattle.std.proofs.lemmas.List.{length_push, take_all}
use Rattle.std.proofs.lemmas.List.Elements.{All-nil, All-push}
use Rattle.sp_gates.specs.Nets.{HasNet}
use Rattle.sp_gates.proofs.Growing.{Fills-none, Fills-join, HasNet-stays}
use Rattle.sp_gates.proofs.Running.{runs_earlier}
use Rattle.sp_places.specs.Layouts.{words_at}
use Rattle.sp_places.proofs.Nets.{at_item, nets_kept, words_push}
use Rattle.sp_places.proofs.sums.widen_all.Goals as goal

pub loop-net-init : goal.loop-net-init
loop-net-init c =
    let none = c.new-wide.ensures.items in
    record {
      fills = Fills-none _;
      each = ap length none;
      nets = rw none (All-nil (λ net. HasNet c.args.builder.now net 64));
      words = λ s r t. ap (words_at s t) none;
    }

pub widen-requires : goal.widen-requires
widen-requires c = HasNet-stays _ _ _ _ c.loop-net.invariant.fills.grows (at_item (λ net. HasNet c.args.builder.now net 32) c.args.nets.now c.loop-net.net-index c.net-item.result c.requires c.loop-net-test.true c.net-item.is)

pub loop-net-preserved : goal.loop-net-preserved
loop-net-preserved c =
    let i = c.loop-net.invariant in
    let e = c.in_ok-number.ensures in
    let items = c.in_ok-push.ensures.items in
    record {
      fills = Fills-join _ _ _ [] [] i.fills e.fills;
      each = ap length items ∙ length_push _ _ ∙ ap (λ n. n + 1) i.each;
      nets = rw items (All-push (λ net. HasNet c.widen.new.builder net 64) c.loop-net.wide.items c.in_ok-number.number (nets_kept _ _ 64 c.loop-net.wide.items e.fills.grows i.nets) e.net);
      words = λ s run t.
          ap (words_at s t) items
          ∙ words_push (s.net t) (λ w. w % 2 ^ 64) c.loop-net.wide.items c.args.nets.now c.loop-net.net-index c.net-item.result c.in_ok-number.number c.loop-net-test.true c.net-item.is
          (i.words s (runs_earlier _ _ s e.fills.grows run) t) (e.word s run t);
    }

pub returns-clause-words : goal.returns-clause-words
returns-clause-words c = λ s run t.
    c.loop-net.invariant.words s run t ∙ ap (λ ns. map (λ w. w % 2 ^ 64) (words_at s t ns)) (take_all c.loop-net.net-index c.args.nets.now (let past = c.loop-net-test.false in omega (arith, past)))
