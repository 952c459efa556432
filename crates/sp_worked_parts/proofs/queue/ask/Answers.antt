use Rattle.std.proofs.Common.{[]}
use Rattle.sp_gates.proofs.Growing.{Fills-join, HasNet-stays}
use Rattle.sp_worked_parts.proofs.queue.ask.Goals as goal

pub plus-requires : goal.plus-requires
plus-requires c = HasNet-stays _ _ _ _ c.in_ok-put.ensures.fills.grows (c.in_ok-count.ensures.net)

pub below-requires-2 : goal.below-requires-2
below-requires-2 c = HasNet-stays _ _ _ _ c.in_ok-word.ensures.fills.grows (HasNet-stays _ _ _ _ c.in_ok-put.ensures.fills.grows (c.in_ok-count.ensures.net))

pub equals-requires-clause-operand : goal.equals-requires-clause-operand
equals-requires-clause-operand c = rw c.int.ensures (HasNet-stays _ _ _ _ c.in_ok-take.ensures.fills.grows (HasNet-stays _ _ _ _ c.in_ok-early.ensures.fills.grows (HasNet-stays _ _ _ _ c.in_ok-word.ensures.fills.grows (HasNet-stays _ _ _ _ c.in_ok-put.ensures.fills.grows (c.in_ok-count.ensures.net)))))

pub returns-clause-fills : goal.returns-clause-fills
returns-clause-fills c = Fills-join _ _ _ [] [] c.in_ok-always.ensures.fills (Fills-join _ _ _ [] [] c.in_ok-count.ensures.fills (Fills-join _ _ _ [] [] c.in_ok-put.ensures.fills (Fills-join _ _ _ [] [] c.in_ok-word.ensures.fills (Fills-join _ _ _ [] [] c.in_ok-early.ensures.fills (Fills-join _ _ _ [] [] c.in_ok-take.ensures.fills (c.in_ok-done.ensures.fills))))))

pub returns-clause-asked : goal.returns-clause-asked
returns-clause-asked c = record {
  put_net = HasNet-stays _ _ _ _ c.in_ok-done.ensures.fills.grows (HasNet-stays _ _ _ _ c.in_ok-take.ensures.fills.grows (HasNet-stays _ _ _ _ c.in_ok-early.ensures.fills.grows (HasNet-stays _ _ _ _ c.in_ok-word.ensures.fills.grows (c.in_ok-put.ensures.net))));
  word_net = HasNet-stays _ _ _ _ c.in_ok-done.ensures.fills.grows (HasNet-stays _ _ _ _ c.in_ok-take.ensures.fills.grows (HasNet-stays _ _ _ _ c.in_ok-early.ensures.fills.grows (c.in_ok-word.ensures.net)));
  take_net = HasNet-stays _ _ _ _ c.in_ok-done.ensures.fills.grows (c.in_ok-take.ensures.net);
  done_net = c.in_ok-done.ensures.bit.net_stands;
}
