use Rattle.std.proofs.Common.{◌<◌, ◌^◌, [], ap, ◌∙◌, sym, subst, if◌then◌else◌, lit<}
use Rattle.sp_gates.proofs.Growing.{Fills-join, HasNet-stays}
use Rattle.sp_gates.proofs.Running.{runs_earlier}
use Rattle.sp_gates.specs.Tested.{is_on}
use Rattle.sp_core.specs.Elements.{index_value}
use Rattle.sp_counters.proofs.Keeping.{held_below, low_below, index_of_choice}
use Rattle.sp_slices.proofs.axes.keep.Goals as goal

pub hold-requires-clause-enable : goal.hold-requires-clause-enable
hold-requires-clause-enable c = HasNet-stays _ _ _ _ c.in_ok-now.ensures.fills.grows c.requires.start

pub returns-clause-fills : goal.returns-clause-fills
returns-clause-fills c = Fills-join _ _ _ [] [] c.in_ok-now.ensures.fills c.in_ok-held.ensures.fills

pub returns-clause-keeps : goal.returns-clause-keeps
returns-clause-keeps c =
    let g = c.in_ok-held.ensures.fills.grows in
    record {
      now_net = HasNet-stays _ _ _ _ g c.in_ok-now.ensures.net;
      held_net = c.in_ok-held.ensures.net;
      now_word = λ s r. c.in_ok-now.ensures.word s (runs_earlier _ _ s g r);
      held_fits = λ s r.
          held_below (λ t. s.net t c.in_ok-held.held) (λ t. s.net t c.args.start) (λ t. s.net t c.in_ok-now.now) (2 ^ 32) (lit< tt) (c.in_ok-held.ensures.word s r)
          (λ t. subst (λ w. w < 2 ^ 32) (sym (c.in_ok-now.ensures.word s (runs_earlier _ _ s g r) t)) (low_below (s.net t c.args.net)));
      held_word = λ s r t.
          ap index_value ((c.in_ok-held.ensures.word s r).1 t) ∙ index_of_choice (is_on s c.args.start t) (s.net t c.in_ok-now.now) (s.net t c.in_ok-held.held)
          ∙ ap (λ w. if is_on s c.args.start t then index_value w else index_value (s.net t c.in_ok-held.held)) (c.in_ok-now.ensures.word s (runs_earlier _ _ s g r) t);
    }
