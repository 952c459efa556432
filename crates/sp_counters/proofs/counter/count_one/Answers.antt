use Rattle.std.proofs.Common.{◌≡◌, ℕ, ◌<◌, ◌^◌, not, if◌then◌else◌, pos, ◌+ℤ◌, [], sym, ap, subst, ◌∙◌}
use Rattle.std.specs.Prelude.{int_lt}
use Rattle.sp_words.specs.Words.{value_of}
use Rattle.sp_netlist.specs.Signals.{Signals}
use Rattle.sp_gates.specs.Runs.{RunsOn}
use Rattle.sp_gates.specs.Tested.{is_on}
use Rattle.sp_gates.proofs.Growing.{Fills-join, HasNet-stays, reserved}
use Rattle.sp_gates.proofs.Running.{runs_earlier}
use Rattle.sp_core.specs.Elements.{index_value}
use Rattle.sp_counters.specs.Counting.{number, is_last, advance_of}
use Rattle.sp_counters.specs.Fits.{wide_type}
use Rattle.sp_counters.proofs.Keeping.{low_below, takes_bounds_stays}
use Rattle.sp_counters.proofs.Going.{value_below, value_goes}
use Rattle.sp_counters.proofs.Waiting.{awaits_kept}
use Rattle.sp_counters.proofs.counter.count_one.Goals as goal

pub below-requires-clause-bound : goal.below-requires-clause-bound
below-requires-clause-bound c = HasNet-stays _ _ _ _ c.in_ok-sum.ensures.fills.grows (HasNet-stays _ _ _ _ c.in_ok-value.ensures.opens.grows (c.in_ok-bounds.ensures.takes.until_net))

pub drive_value-requires-clause-start : goal.drive_value-requires-clause-start
drive_value-requires-clause-start c = HasNet-stays _ _ _ _ c.in_ok-last.ensures.fills.grows (HasNet-stays _ _ _ _ c.in_ok-ahead.ensures.fills.grows (HasNet-stays _ _ _ _ c.in_ok-sum.ensures.fills.grows (HasNet-stays _ _ _ _ c.in_ok-value.ensures.opens.grows (HasNet-stays _ _ _ _ c.in_ok-bounds.ensures.fills.grows (c.requires.start)))))

pub drive_value-requires-clause-goes : goal.drive_value-requires-clause-goes
drive_value-requires-clause-goes c = HasNet-stays _ _ _ _ c.in_ok-last.ensures.fills.grows (HasNet-stays _ _ _ _ c.in_ok-ahead.ensures.fills.grows (HasNet-stays _ _ _ _ c.in_ok-sum.ensures.fills.grows (HasNet-stays _ _ _ _ c.in_ok-value.ensures.opens.grows (HasNet-stays _ _ _ _ c.in_ok-bounds.ensures.fills.grows (c.requires.goes)))))

pub drive_value-requires-clause-first : goal.drive_value-requires-clause-first
drive_value-requires-clause-first c = HasNet-stays _ _ _ _ c.in_ok-last.ensures.fills.grows (HasNet-stays _ _ _ _ c.in_ok-ahead.ensures.fills.grows (HasNet-stays _ _ _ _ c.in_ok-sum.ensures.fills.grows (HasNet-stays _ _ _ _ c.in_ok-value.ensures.opens.grows (c.in_ok-bounds.ensures.takes.from.now_net))))

pub drive_value-requires-clause-from : goal.drive_value-requires-clause-from
drive_value-requires-clause-from c = HasNet-stays _ _ _ _ c.in_ok-last.ensures.fills.grows (HasNet-stays _ _ _ _ c.in_ok-ahead.ensures.fills.grows (HasNet-stays _ _ _ _ c.in_ok-sum.ensures.fills.grows (HasNet-stays _ _ _ _ c.in_ok-value.ensures.opens.grows (c.in_ok-bounds.ensures.takes.from.held_net))))

pub drive_value-requires-clause-value : goal.drive_value-requires-clause-value
drive_value-requires-clause-value c = awaits_kept _ _ _ _ c.in_ok-last.ensures.fills (awaits_kept _ _ _ _ c.in_ok-ahead.ensures.fills (awaits_kept _ _ _ _ c.in_ok-sum.ensures.fills (c.in_ok-value.ensures.awaits)))

pub drive_value-requires-clause-sum : goal.drive_value-requires-clause-sum
drive_value-requires-clause-sum c = HasNet-stays _ _ _ _ c.in_ok-last.ensures.fills.grows (HasNet-stays _ _ _ _ c.in_ok-ahead.ensures.fills.grows (c.in_ok-sum.ensures.net))

pub returns-clause-fills : goal.returns-clause-fills
returns-clause-fills c = Fills-join _ _ _ [] [] c.in_ok-bounds.ensures.fills (reserved _ _ _ _ [] c.in_ok-value.ensures.opens (Fills-join _ _ _ [] _ c.in_ok-sum.ensures.fills (Fills-join _ _ _ [] _ c.in_ok-ahead.ensures.fills (Fills-join _ _ _ [] _ c.in_ok-last.ensures.fills (c.in_ok-drive_value.ensures.fills)))))

pub returns-clause-one : goal.returns-clause-one
returns-clause-one c =
    let grown = takes_bounds_stays _ _ _ _ _ c.in_ok-drive_value.ensures.fills.grows (takes_bounds_stays _ _ _ _ _ c.in_ok-last.ensures.fills.grows (takes_bounds_stays _ _ _ _ _ c.in_ok-ahead.ensures.fills.grows
    (takes_bounds_stays _ _ _ _ _ c.in_ok-sum.ensures.fills.grows (takes_bounds_stays _ _ _ _ _ c.in_ok-value.ensures.opens.grows c.in_ok-bounds.ensures.takes)))) in
    let count = c.args.count.now in
    let bounds = c.in_ok-bounds.bounds in
    let value = c.in_ok-value.value in
    let r_last : (s : Signals) → RunsOn s c.drive_value.new.builder.cells → RunsOn s c.on_not.new.builder.cells = λ s r. runs_earlier _ _ s c.in_ok-drive_value.ensures.fills.grows r in
    let r_ahead : (s : Signals) → RunsOn s c.drive_value.new.builder.cells → RunsOn s c.below.new.builder.cells = λ s r. runs_earlier _ _ s c.in_ok-last.ensures.fills.grows (r_last s r) in
    let r_sum : (s : Signals) → RunsOn s c.drive_value.new.builder.cells → RunsOn s c.moved.new.builder.cells = λ s r. runs_earlier _ _ s c.in_ok-ahead.ensures.fills.grows (r_ahead s r) in
    let fits : (s : Signals) → RunsOn s c.drive_value.new.builder.cells → (t : ℕ) → s.net t value < 2 ^ 32 =
    (λ s r. value_below (λ t. s.net t value) (λ t. s.net t bounds.first) (λ t. s.net t bounds.from) (λ t. value_of wide_type (s.net t c.in_ok-sum.sum)) (is_on s c.args.start) (is_on s c.args.goes) (is_on s c.in_ok-last.last)
    (c.in_ok-drive_value.ensures.zero s r) (c.in_ok-drive_value.ensures.word s r) (λ t. subst (λ w. w < 2 ^ 32) (sym (grown.from.now_word s r t)) (low_below (s.net t count.from))) (grown.from.held_fits s r)) in
    let ahead : (s : Signals) → RunsOn s c.drive_value.new.builder.cells → (t : ℕ) → value_of wide_type (s.net t c.in_ok-sum.sum) ≡ number s value t +ℤ pos (advance_of count) =
    λ s r t. c.in_ok-sum.ensures.value s (r_sum s r) t (fits s r t) ∙ ap (λ m. number s value t +ℤ pos m) c.advance.ensures in
    let last : (s : Signals) → RunsOn s c.drive_value.new.builder.cells → (t : ℕ) → is_on s c.in_ok-last.last t ≡ not (int_lt (number s value t +ℤ pos (advance_of count)) (number s bounds.until t)) =
    λ s r t.
    c.in_ok-last.ensures.on s (r_last s r) t ∙ ap not (c.in_ok-ahead.ensures.on s (r_ahead s r) t (grown.until_fits s r t))
    ∙ ap (λ z. not (int_lt z (number s bounds.until t))) (ahead s r t) in
    record {
      value_net = HasNet-stays _ _ _ _ c.in_ok-drive_value.ensures.fills.grows (HasNet-stays _ _ _ _ c.in_ok-last.ensures.fills.grows (HasNet-stays _ _ _ _ c.in_ok-ahead.ensures.fills.grows (HasNet-stays _ _ _ _ c.in_ok-sum.ensures.fills.grows (c.in_ok-value.ensures.net))));
      some_net = grown.some_net;
      last_net = HasNet-stays _ _ _ _ c.in_ok-drive_value.ensures.fills.grows c.in_ok-last.ensures.net;
      until_net = grown.until_net;
      counts = λ s r. record {
        fits = fits s r;
        from = grown.from.held_word s r;
        until = grown.until_word s r;
        value = λ t.
            ap index_value (c.in_ok-drive_value.ensures.word s r t)
            ∙ value_goes (is_on s c.args.start t) (is_on s c.args.goes t) (is_on s c.in_ok-last.last t) (s.net t bounds.first) (s.net t bounds.from) (s.net t value) (s.net t bounds.until) (advance_of count)
            (value_of wide_type (s.net t c.in_ok-sum.sum)) (fits s r t) (grown.until_fits s r t) (ahead s r t) (last s r t)
            ∙ ap (λ w. if is_on s c.args.start t then index_value w else (if is_on s c.args.goes t then (if is_last s count (record { value = value; from = bounds.from; until = bounds.until }) t then number s bounds.from t else number s value t +ℤ pos (advance_of count)) else number s value t))
            (grown.from.now_word s r t);
      };
      until_fits = grown.until_fits;
      some = grown.some;
      last = last;
    }
