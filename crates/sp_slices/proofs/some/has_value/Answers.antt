use Rattle.std.proofs.Common.{◌==◌, [], ap, ap₂, subst, sym, ◌∙◌}
use Rattle.std.specs.Prelude.{int_lt}
use Rattle.sp_words.specs.Types.{width_of}
use Rattle.sp_netlist.specs.Signals.{op_word}
use Rattle.sp_netlist.specs.declared.cell.CellOp.TheVariants.{Lt}
use Rattle.sp_gates.specs.Nets.{HasNet}
use Rattle.sp_gates.proofs.Growing.{Fills-join, HasNet-stays}
use Rattle.sp_gates.proofs.Running.{runs_earlier}
use Rattle.sp_core.specs.Elements.{index_value}
use Rattle.sp_counters.proofs.WideLemmas.{int_less}
use Rattle.sp_slices.proofs.some.has_value.Goals as goal

pub low-requires : goal.low-requires
low-requires c = c.requires.from

pub low-requires-2 : goal.low-requires-2
low-requires-2 c = HasNet-stays _ _ _ _ c.in_ok-from.ensures.fills.grows c.requires.until

pub operate-requires-clause-left : goal.operate-requires-clause-left
operate-requires-clause-left c = subst (λ ty. HasNet c.low-2.new.builder c.in_ok-from.from (width_of ty)) (sym c.int.ensures) (HasNet-stays _ _ _ _ c.in_ok-until.ensures.fills.grows c.in_ok-from.ensures.net)

pub operate-requires-clause-right : goal.operate-requires-clause-right
operate-requires-clause-right c = subst (λ ty. HasNet c.low-2.new.builder c.in_ok-until.until (width_of ty)) (sym c.int.ensures) c.in_ok-until.ensures.net

pub returns-clause-fills : goal.returns-clause-fills
returns-clause-fills c = Fills-join _ _ _ [] [] c.in_ok-from.ensures.fills (Fills-join _ _ _ [] [] c.in_ok-until.ensures.fills c.in_ok-some.ensures.fills)

pub returns-clause-on : goal.returns-clause-on
returns-clause-on c = λ s r t.
    let r_until = runs_earlier _ _ s c.in_ok-some.ensures.fills.grows r in
    let r_from = runs_earlier _ _ s c.in_ok-until.ensures.fills.grows r_until in
    ap (λ n. n == 1) (c.in_ok-some.ensures.word s r t ∙ ap (λ a. op_word Lt a (s.net t c.in_ok-from.from) (s.net t c.in_ok-until.until)) c.int.ensures)
    ∙ int_less (s.net t c.in_ok-from.from) (s.net t c.in_ok-until.until)
    ∙ ap₂ (λ x y. int_lt (index_value x) (index_value y)) (c.in_ok-from.ensures.word s r_from t) (c.in_ok-until.ensures.word s r_until t)
