use Rattle.std.proofs.Common.{[], not, sym, ap, subst, ◌∙◌}
use Rattle.std.specs.Prelude.{int_lt}
use Rattle.sp_words.specs.Types.{width_of}
use Rattle.sp_words.specs.Words.{word_sub}
use Rattle.sp_gates.specs.Nets.{HasNet}
use Rattle.sp_gates.proofs.Growing.{Fills-join, HasNet-stays}
use Rattle.sp_gates.proofs.Running.{runs_earlier}
use Rattle.sp_counters.specs.Counting.{number}
use Rattle.sp_slices.proofs.axes.follow_one.Goals as goal

pub keep-requires-2-clause-start : goal.keep-requires-2-clause-start
keep-requires-2-clause-start c = HasNet-stays _ _ _ _ c.in_ok-from.ensures.fills.grows c.requires.start

pub keep-requires-2-clause-net : goal.keep-requires-2-clause-net
keep-requires-2-clause-net c = HasNet-stays _ _ _ _ c.in_ok-from.ensures.fills.grows c.requires.count.until

pub moved-requires-clause-net : goal.moved-requires-clause-net
moved-requires-clause-net c = HasNet-stays _ _ _ _ c.in_ok-until.ensures.fills.grows (HasNet-stays _ _ _ _ c.in_ok-from.ensures.fills.grows (c.requires.value.net_stands))

pub below-requires-clause-bound : goal.below-requires-clause-bound
below-requires-clause-bound c = HasNet-stays _ _ _ _ c.in_ok-sum.ensures.fills.grows c.in_ok-until.ensures.keeps.held_net

pub operate-requires-clause-left : goal.operate-requires-clause-left
operate-requires-clause-left c = subst (λ ty. HasNet c.on_not.new.builder c.args.counter.now.value (width_of ty)) (sym c.int.ensures) (HasNet-stays _ _ _ _ c.in_ok-ended.ensures.fills.grows (HasNet-stays _ _ _ _ c.in_ok-ahead.ensures.fills.grows (HasNet-stays _ _ _ _ c.in_ok-sum.ensures.fills.grows (HasNet-stays _ _ _ _ c.in_ok-until.ensures.fills.grows (HasNet-stays _ _ _ _ c.in_ok-from.ensures.fills.grows (c.requires.value.net_stands))))))

pub operate-requires-clause-right : goal.operate-requires-clause-right
operate-requires-clause-right c = subst (λ ty. HasNet c.on_not.new.builder c.in_ok-from.from.held (width_of ty)) (sym c.int.ensures) (HasNet-stays _ _ _ _ c.in_ok-ended.ensures.fills.grows (HasNet-stays _ _ _ _ c.in_ok-ahead.ensures.fills.grows (HasNet-stays _ _ _ _ c.in_ok-sum.ensures.fills.grows (HasNet-stays _ _ _ _ c.in_ok-until.ensures.fills.grows (c.in_ok-from.ensures.keeps.held_net)))))

pub returns-clause-fills : goal.returns-clause-fills
returns-clause-fills c = Fills-join _ _ _ [] _ c.in_ok-from.ensures.fills (Fills-join _ _ _ [] _ c.in_ok-until.ensures.fills (Fills-join _ _ _ [] _ c.in_ok-sum.ensures.fills (Fills-join _ _ _ [] _ c.in_ok-ahead.ensures.fills (Fills-join _ _ _ [] _ c.in_ok-ended.ensures.fills c.in_ok-offset.ensures.fills))))

pub returns-clause-nets : goal.returns-clause-nets
returns-clause-nets c = record {
  from = HasNet-stays _ _ _ _ c.in_ok-offset.ensures.fills.grows (HasNet-stays _ _ _ _ c.in_ok-ended.ensures.fills.grows (HasNet-stays _ _ _ _ c.in_ok-ahead.ensures.fills.grows (HasNet-stays _ _ _ _ c.in_ok-sum.ensures.fills.grows (HasNet-stays _ _ _ _ c.in_ok-until.ensures.fills.grows (c.in_ok-from.ensures.keeps.held_net)))));
  until = HasNet-stays _ _ _ _ c.in_ok-offset.ensures.fills.grows (HasNet-stays _ _ _ _ c.in_ok-ended.ensures.fills.grows (HasNet-stays _ _ _ _ c.in_ok-ahead.ensures.fills.grows (HasNet-stays _ _ _ _ c.in_ok-sum.ensures.fills.grows (c.in_ok-until.ensures.keeps.held_net))));
  ended = HasNet-stays _ _ _ _ c.in_ok-offset.ensures.fills.grows (c.in_ok-ended.ensures.net);
  offset = subst (λ ty. HasNet c.operate.new.builder c.in_ok-offset.offset (width_of ty)) c.int.ensures c.in_ok-offset.ensures.net;
}

pub returns-clause-follows : goal.returns-clause-follows
returns-clause-follows c = λ s r.
    let r_ended = runs_earlier _ _ s c.in_ok-offset.ensures.fills.grows r in
    let r_ahead = runs_earlier _ _ s c.in_ok-ended.ensures.fills.grows r_ended in
    let r_sum = runs_earlier _ _ s c.in_ok-ahead.ensures.fills.grows r_ahead in
    let r_until = runs_earlier _ _ s c.in_ok-sum.ensures.fills.grows r_sum in
    let r_from = runs_earlier _ _ s c.in_ok-until.ensures.fills.grows r_until in
    let r_first = runs_earlier _ _ s c.in_ok-from.ensures.fills.grows r_from in
    record {
      from = c.in_ok-from.ensures.keeps.held_word s r_from;
      until = c.in_ok-until.ensures.keeps.held_word s r_until;
      ended = λ t.
          c.in_ok-ended.ensures.on s r_ended t ∙ ap not (c.in_ok-ahead.ensures.on s r_ahead t (c.in_ok-until.ensures.keeps.held_fits s r_until t))
          ∙ ap (λ z. not (int_lt z (number s c.in_ok-until.until.held t))) (c.in_ok-sum.ensures.value s r_sum t (c.requires.value.fits s r_first t));
      offset = λ t. c.in_ok-offset.ensures.word s r t ∙ ap (λ ty. word_sub ty (s.net t c.args.counter.now.value) (s.net t c.in_ok-from.from.held)) c.int.ensures;
    }
