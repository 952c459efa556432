use Rattle.std.proofs.Common.{◌==◌, [], ap, ap₂, ◌∙◌}
use Rattle.std.specs.Prelude.{int_lt}
use Rattle.sp_netlist.specs.Signals.{op_word}
use Rattle.sp_netlist.specs.declared.cell.CellOp.TheVariants.{Lt}
use Rattle.sp_gates.proofs.Growing.{Fills-join}
use Rattle.sp_core.specs.Elements.{index_value}
use Rattle.sp_counters.proofs.Keeping.{keeps_low_stays}
use Rattle.sp_counters.proofs.WideLemmas.{int_less}
use Rattle.sp_counters.proofs.bounds.take_bounds.Goals as goal

pub returns-clause-fills : goal.returns-clause-fills
returns-clause-fills c = Fills-join _ _ _ [] [] c.in_ok-from.ensures.fills (Fills-join _ _ _ [] [] c.in_ok-until.ensures.fills c.in_ok-some.ensures.fills)

pub returns-clause-takes : goal.returns-clause-takes
returns-clause-takes c =
    let g = c.in_ok-some.ensures.fills.grows in
    let f = keeps_low_stays _ _ _ _ _ _ g (keeps_low_stays _ _ _ _ _ _ c.in_ok-until.ensures.fills.grows c.in_ok-from.ensures.keeps) in
    let u = keeps_low_stays _ _ _ _ _ _ g c.in_ok-until.ensures.keeps in
    record {
      from = f;
      until_net = u.held_net;
      until_fits = u.held_fits;
      until_word = u.held_word;
      some_net = c.in_ok-some.ensures.net;
      some = λ s r t.
          ap (λ n. n == 1) (c.in_ok-some.ensures.word s r t ∙ ap (λ a. op_word Lt a (s.net t c.in_ok-from.from.now) (s.net t c.in_ok-until.until.now)) c.int.ensures)
          ∙ int_less (s.net t c.in_ok-from.from.now) (s.net t c.in_ok-until.until.now)
          ∙ ap₂ (λ x y. int_lt (index_value x) (index_value y)) (f.now_word s r t) (u.now_word s r t);
    }
