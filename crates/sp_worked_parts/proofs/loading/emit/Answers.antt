use Rattle.std.proofs.Common.{[], ◌∷◌, sym, subst, arith}
use Rattle.sp_gates.specs.Grows.{Fills}
use Rattle.sp_gates.proofs.Growing.{Fills-join, HasNet-stays}
use Rattle.sp_mem.proofs.Waiting.{awaits_kept}
use Rattle.sp_channels.specs.declared.ports.LoadPort.{LoadPort}
use Rattle.sp_channels.specs.Ports.{load_wires}
use Rattle.sp_worked_parts.proofs.Transfers.{load_fits, awaits_unit, unit_driven}
use Rattle.sp_worked_parts.proofs.loading.emit.Goals as goal

pub add_load-requires-clause-channel : goal.add_load-requires-clause-channel
add_load-requires-clause-channel c = sym c.requires.units

pub add_load-requires-clause-dram : goal.add_load-requires-clause-dram
add_load-requires-clause-dram c = let e = c.requires.drams in omega (arith, e)

pub emit_load-requires : goal.emit_load-requires
emit_load-requires c =
    load_fits c.add_load.new.builder c.constant-2.new.builder _ c.in_ok-start.start c.in_ok-first.first c.in_ok-past.past c.in_ok-port.port c.in_ok-part.part c.in_ok-part.ensures c.in_ok-port.ensures.row c.in_ok-port.ensures.wires
    (Fills-join _ _ _ [] [] c.in_ok-always.ensures.fills (Fills-join _ _ _ [] [] c.in_ok-start.ensures.fills (Fills-join _ _ _ [] [] c.in_ok-first.ensures.fills c.in_ok-past.ensures.fills)))
    (HasNet-stays _ _ _ _ c.in_ok-past.ensures.fills.grows (HasNet-stays _ _ _ _ c.in_ok-first.ensures.fills.grows (HasNet-stays _ _ _ _ c.in_ok-start.ensures.fills.grows (HasNet-stays _ _ _ _ c.in_ok-always.ensures.fills.grows (c.in_ok-port.ensures.unit.ready)))))
    (HasNet-stays _ _ _ _ c.in_ok-past.ensures.fills.grows (HasNet-stays _ _ _ _ c.in_ok-first.ensures.fills.grows (c.in_ok-start.ensures.net)))
    (HasNet-stays _ _ _ _ c.in_ok-past.ensures.fills.grows (c.in_ok-first.ensures.net))
    c.in_ok-past.ensures.net

pub operate-requires-clause-left : goal.operate-requires-clause-left
operate-requires-clause-left c = rw c.int.ensures (HasNet-stays _ _ _ _ c.in_ok-loaded.ensures.fills.grows (HasNet-stays _ _ _ _ c.in_ok-past.ensures.fills.grows (HasNet-stays _ _ _ _ c.in_ok-first.ensures.fills.grows (HasNet-stays _ _ _ _ c.in_ok-start.ensures.fills.grows (HasNet-stays _ _ _ _ c.in_ok-always.ensures.fills.grows (rw c.word_of-found.ensures c.in_ok-port.ensures.unit.word))))))

pub operate-requires-clause-right : goal.operate-requires-clause-right
operate-requires-clause-right c = rw c.int.ensures ((c.look-nets.ensures c.emit_load.new.builder c.in_ok-loaded.ensures.nets (HasNet-stays _ _ _ _ c.in_ok-loaded.ensures.fills.grows (HasNet-stays _ _ _ _ c.in_ok-past.ensures.fills.grows (HasNet-stays _ _ _ _ c.in_ok-first.ensures.fills.grows (HasNet-stays _ _ _ _ c.in_ok-start.ensures.fills.grows (HasNet-stays _ _ _ _ c.in_ok-always.ensures.fills.grows (rw c.word_of-found.ensures c.in_ok-port.ensures.unit.word))))))).index_net)

pub collect-requires-clause-y : goal.collect-requires-clause-y
collect-requires-clause-y c = awaits_kept _ _ _ _ c.in_ok-word.ensures.fills
    (awaits_unit c.args.builder.now c.add_load.new.builder c.constant-2.new.builder c.emit_load.new.builder c.args.y (load_wires c.in_ok-port.port) c.in_ok-port.ensures.promises (Fills-join _ _ _ [] [] c.in_ok-always.ensures.fills (Fills-join _ _ _ [] [] c.in_ok-start.ensures.fills (Fills-join _ _ _ [] [] c.in_ok-first.ensures.fills c.in_ok-past.ensures.fills))) (subst (λ (p : LoadPort). Fills c.constant-2.new.builder c.emit_load.new.builder (load_wires p)) c.in_ok-part.ensures.port_is c.in_ok-loaded.ensures.fills) c.requires.y)

pub collect-requires-clause-enable : goal.collect-requires-clause-enable
collect-requires-clause-enable c = HasNet-stays _ _ _ _ c.in_ok-word.ensures.fills.grows ((c.look-nets.ensures c.emit_load.new.builder c.in_ok-loaded.ensures.nets (HasNet-stays _ _ _ _ c.in_ok-loaded.ensures.fills.grows (HasNet-stays _ _ _ _ c.in_ok-past.ensures.fills.grows (HasNet-stays _ _ _ _ c.in_ok-first.ensures.fills.grows (HasNet-stays _ _ _ _ c.in_ok-start.ensures.fills.grows (HasNet-stays _ _ _ _ c.in_ok-always.ensures.fills.grows (rw c.word_of-found.ensures c.in_ok-port.ensures.unit.word))))))).write_net)

pub hold-requires-clause-next : goal.hold-requires-clause-next
hold-requires-clause-next c = HasNet-stays _ _ _ _ c.in_ok-collect.ensures.fills.grows (HasNet-stays _ _ _ _ c.in_ok-word.ensures.fills.grows ((c.look-nets.ensures c.emit_load.new.builder c.in_ok-loaded.ensures.nets (HasNet-stays _ _ _ _ c.in_ok-loaded.ensures.fills.grows (HasNet-stays _ _ _ _ c.in_ok-past.ensures.fills.grows (HasNet-stays _ _ _ _ c.in_ok-first.ensures.fills.grows (HasNet-stays _ _ _ _ c.in_ok-start.ensures.fills.grows (HasNet-stays _ _ _ _ c.in_ok-always.ensures.fills.grows (rw c.word_of-found.ensures c.in_ok-port.ensures.unit.word))))))).done_net))

pub hold-requires-clause-enable : goal.hold-requires-clause-enable
hold-requires-clause-enable c = HasNet-stays _ _ _ _ c.in_ok-collect.ensures.fills.grows (HasNet-stays _ _ _ _ c.in_ok-word.ensures.fills.grows (HasNet-stays _ _ _ _ c.in_ok-loaded.ensures.fills.grows (HasNet-stays _ _ _ _ c.in_ok-past.ensures.fills.grows (HasNet-stays _ _ _ _ c.in_ok-first.ensures.fills.grows (HasNet-stays _ _ _ _ c.in_ok-start.ensures.fills.grows (c.in_ok-always.ensures.one.net_stands))))))

pub returns-clause-fills : goal.returns-clause-fills
returns-clause-fills c = unit_driven c.args.builder.now c.add_load.new.builder c.constant-2.new.builder c.emit_load.new.builder c.hold.new.builder (load_wires c.in_ok-port.port) (c.args.y ∷ []) c.in_ok-port.ensures.promises (Fills-join _ _ _ [] [] c.in_ok-always.ensures.fills (Fills-join _ _ _ [] [] c.in_ok-start.ensures.fills (Fills-join _ _ _ [] [] c.in_ok-first.ensures.fills c.in_ok-past.ensures.fills))) (subst (λ (p : LoadPort). Fills c.constant-2.new.builder c.emit_load.new.builder (load_wires p)) c.in_ok-part.ensures.port_is c.in_ok-loaded.ensures.fills)
    (Fills-join _ _ _ [] (c.args.y ∷ []) c.in_ok-word.ensures.fills (Fills-join _ _ _ (c.args.y ∷ []) [] c.in_ok-collect.ensures.fills c.in_ok-done.ensures.fills))
