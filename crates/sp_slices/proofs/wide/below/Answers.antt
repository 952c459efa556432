use Rattle.std.proofs.Common.{◌==◌, [], ap, ◌∙◌}
use Rattle.std.specs.Prelude.{int_lt}
use Rattle.sp_words.specs.Words.{value_of}
use Rattle.sp_netlist.specs.Signals.{op_word}
use Rattle.sp_netlist.specs.declared.cell.CellOp.TheVariants.{Lt}
use Rattle.sp_gates.proofs.Growing.{Fills-join}
use Rattle.sp_gates.proofs.Running.{runs_earlier}
use Rattle.sp_counters.specs.Fits.{wide_type}
use Rattle.sp_counters.proofs.WideLemmas.{wide_less}
use Rattle.sp_slices.proofs.wide.below.Goals as goal

pub returns-clause-fills : goal.returns-clause-fills
returns-clause-fills c = Fills-join _ _ _ [] [] c.in_ok-wide_bound.ensures.fills c.in_ok-below.ensures.fills

pub returns-clause-on : goal.returns-clause-on
returns-clause-on c = λ s r t l.
    let r0 = runs_earlier _ _ s c.in_ok-below.ensures.fills.grows r in
    ap (λ n. n == 1) (c.in_ok-below.ensures.word s r t ∙ ap (λ a. op_word Lt a (s.net t c.args.sum) (s.net t c.in_ok-wide_bound.wide_bound)) c.wide.ensures)
    ∙ wide_less (s.net t c.args.sum) (s.net t c.in_ok-wide_bound.wide_bound)
    ∙ ap (int_lt (value_of wide_type (s.net t c.args.sum))) (c.in_ok-wide_bound.ensures.value s r0 t l)
