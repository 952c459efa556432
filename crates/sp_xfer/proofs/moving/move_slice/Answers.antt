use Rattle.std.proofs.Common.{[]}
use Rattle.sp_gates.proofs.Growing.{Fills-join, HasNet-stays, IsOne-stays}
use Rattle.sp_gates.proofs.Running.{runs_earlier}
use Rattle.sp_mem.proofs.Waiting.{awaits_kept}
use Rattle.sp_xfer.proofs.Keeping.{wires_kept, walk_stays, awaited_net}
use Rattle.sp_xfer.proofs.moving.move_slice.Goals as goal

pub control-requires-clause-wires : goal.control-requires-clause-wires
control-requires-clause-wires c = wires_kept _ _ _ c.in_ok-walk.ensures.fills c.requires.wires

pub control-requires-clause-done : goal.control-requires-clause-done
control-requires-clause-done c = awaits_kept _ _ _ 1 c.in_ok-walk.ensures.fills c.requires.done

pub control-requires-clause-one : goal.control-requires-clause-one
control-requires-clause-one c = IsOne-stays _ _ _ c.in_ok-walk.ensures.fills.grows c.requires.one

pub returns-clause-fills : goal.returns-clause-fills
returns-clause-fills c = Fills-join _ _ _ [] _ c.in_ok-walk.ensures.fills c.in_ok-nets.ensures.fills

pub returns-clause-nets : goal.returns-clause-nets
returns-clause-nets c = record {
  walk = walk_stays _ _ _ c.in_ok-nets.ensures.fills.grows c.in_ok-walk.ensures.nets;
  asks = c.in_ok-nets.ensures.asks;
  moved = c.in_ok-nets.ensures.moved;
  done = HasNet-stays _ _ _ _ c.in_ok-nets.ensures.fills.grows (HasNet-stays _ _ _ _ c.in_ok-walk.ensures.fills.grows (awaited_net _ _ 1 c.requires.done));
}

pub returns-clause-moves : goal.returns-clause-moves
returns-clause-moves c = λ s r. c.in_ok-nets.ensures.moves s c.args.moves.now r c.requires.slice.each (c.in_ok-walk.ensures.walks s (runs_earlier _ _ s c.in_ok-nets.ensures.fills.grows r))
