use Rattle.std.proofs.Common.{[]}
use Rattle.sp_gates.proofs.Growing.{Fills-join, HasNet-stays}
use Rattle.sp_worked_parts.proofs.lines.ask.Goals as goal

pub equals-requires-clause-operand : goal.equals-requires-clause-operand
equals-requires-clause-operand c = rw c.int.ensures (HasNet-stays _ _ _ _ c.in_ok-first.ensures.fills.grows (HasNet-stays _ _ _ _ c.in_ok-zero.ensures.fills.grows (HasNet-stays _ _ _ _ c.in_ok-word.ensures.fills.grows (c.in_ok-count.ensures.net))))

pub returns-clause-fills : goal.returns-clause-fills
returns-clause-fills c = Fills-join _ _ _ [] [] c.in_ok-always.ensures.fills (Fills-join _ _ _ [] [] c.in_ok-count.ensures.fills (Fills-join _ _ _ [] [] c.in_ok-word.ensures.fills (Fills-join _ _ _ [] [] c.in_ok-zero.ensures.fills (Fills-join _ _ _ [] [] c.in_ok-first.ensures.fills (c.in_ok-done.ensures.fills)))))

pub returns-clause-fits : goal.returns-clause-fits
returns-clause-fits c = record {
  always_net = HasNet-stays _ _ _ _ c.in_ok-done.ensures.fills.grows (HasNet-stays _ _ _ _ c.in_ok-first.ensures.fills.grows (HasNet-stays _ _ _ _ c.in_ok-zero.ensures.fills.grows (HasNet-stays _ _ _ _ c.in_ok-word.ensures.fills.grows (HasNet-stays _ _ _ _ c.in_ok-count.ensures.fills.grows (c.in_ok-always.ensures.one.net_stands)))));
  word_net = HasNet-stays _ _ _ _ c.in_ok-done.ensures.fills.grows (HasNet-stays _ _ _ _ c.in_ok-first.ensures.fills.grows (HasNet-stays _ _ _ _ c.in_ok-zero.ensures.fills.grows (c.in_ok-word.ensures.net)));
  zero_net = HasNet-stays _ _ _ _ c.in_ok-done.ensures.fills.grows (HasNet-stays _ _ _ _ c.in_ok-first.ensures.fills.grows (c.in_ok-zero.ensures.net));
  one_net = HasNet-stays _ _ _ _ c.in_ok-done.ensures.fills.grows (c.in_ok-first.ensures.net);
  done_net = c.in_ok-done.ensures.bit.net_stands;
}
