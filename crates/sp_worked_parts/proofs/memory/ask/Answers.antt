use Rattle.std.proofs.Common.{[]}
use Rattle.sp_gates.proofs.Growing.{Fills-join, HasNet-stays}
use Rattle.sp_worked_parts.proofs.memory.ask.Goals as goal

pub plus-requires : goal.plus-requires
plus-requires c = HasNet-stays _ _ _ _ c.in_ok-write.ensures.fills.grows (c.in_ok-element.ensures.net)

pub minus-requires : goal.minus-requires
minus-requires c = HasNet-stays _ _ _ _ c.in_ok-read.ensures.fills.grows (HasNet-stays _ _ _ _ c.in_ok-word.ensures.fills.grows (HasNet-stays _ _ _ _ c.in_ok-write.ensures.fills.grows (c.in_ok-element.ensures.net)))

pub without-requires : goal.without-requires
without-requires c = HasNet-stays _ _ _ _ c.in_ok-up.ensures.fills.grows (HasNet-stays _ _ _ _ c.in_ok-read.ensures.fills.grows (HasNet-stays _ _ _ _ c.in_ok-word.ensures.fills.grows (HasNet-stays _ _ _ _ c.in_ok-write.ensures.fills.grows (c.in_ok-element.ensures.net))))

pub on_not-requires : goal.on_not-requires
on_not-requires c = HasNet-stays _ _ _ _ c.in_ok-word.ensures.fills.grows (c.in_ok-write.ensures.net)

pub equals-requires-clause-operand : goal.equals-requires-clause-operand
equals-requires-clause-operand c = rw c.int.ensures (HasNet-stays _ _ _ _ c.in_ok-down.ensures.fills.grows (HasNet-stays _ _ _ _ c.in_ok-up.ensures.fills.grows (HasNet-stays _ _ _ _ c.in_ok-read.ensures.fills.grows (HasNet-stays _ _ _ _ c.in_ok-word.ensures.fills.grows (HasNet-stays _ _ _ _ c.in_ok-write.ensures.fills.grows (c.in_ok-element.ensures.net))))))

pub returns-clause-fills : goal.returns-clause-fills
returns-clause-fills c = Fills-join _ _ _ [] [] c.in_ok-always.ensures.fills (Fills-join _ _ _ [] [] c.in_ok-element.ensures.fills (Fills-join _ _ _ [] [] c.in_ok-write.ensures.fills (Fills-join _ _ _ [] [] c.in_ok-word.ensures.fills (Fills-join _ _ _ [] [] c.in_ok-read.ensures.fills (Fills-join _ _ _ [] [] c.in_ok-up.ensures.fills (Fills-join _ _ _ [] [] c.in_ok-down.ensures.fills (c.in_ok-done.ensures.fills)))))))

pub returns-clause-asked : goal.returns-clause-asked
returns-clause-asked c = record {
  write_net = HasNet-stays _ _ _ _ c.in_ok-done.ensures.fills.grows (HasNet-stays _ _ _ _ c.in_ok-down.ensures.fills.grows (HasNet-stays _ _ _ _ c.in_ok-up.ensures.fills.grows (HasNet-stays _ _ _ _ c.in_ok-read.ensures.fills.grows (HasNet-stays _ _ _ _ c.in_ok-word.ensures.fills.grows (c.in_ok-write.ensures.net)))));
  element_net = HasNet-stays _ _ _ _ c.in_ok-done.ensures.fills.grows (HasNet-stays _ _ _ _ c.in_ok-down.ensures.fills.grows (HasNet-stays _ _ _ _ c.in_ok-up.ensures.fills.grows (HasNet-stays _ _ _ _ c.in_ok-read.ensures.fills.grows (HasNet-stays _ _ _ _ c.in_ok-word.ensures.fills.grows (HasNet-stays _ _ _ _ c.in_ok-write.ensures.fills.grows (c.in_ok-element.ensures.net))))));
  word_net = HasNet-stays _ _ _ _ c.in_ok-done.ensures.fills.grows (HasNet-stays _ _ _ _ c.in_ok-down.ensures.fills.grows (HasNet-stays _ _ _ _ c.in_ok-up.ensures.fills.grows (HasNet-stays _ _ _ _ c.in_ok-read.ensures.fills.grows (c.in_ok-word.ensures.net))));
  read_net = HasNet-stays _ _ _ _ c.in_ok-done.ensures.fills.grows (HasNet-stays _ _ _ _ c.in_ok-down.ensures.fills.grows (HasNet-stays _ _ _ _ c.in_ok-up.ensures.fills.grows (c.in_ok-read.ensures.net)));
  up_net = HasNet-stays _ _ _ _ c.in_ok-done.ensures.fills.grows (HasNet-stays _ _ _ _ c.in_ok-down.ensures.fills.grows (c.in_ok-up.ensures.net));
  down_net = HasNet-stays _ _ _ _ c.in_ok-done.ensures.fills.grows (c.in_ok-down.ensures.net);
  done_net = c.in_ok-done.ensures.bit.net_stands;
}
