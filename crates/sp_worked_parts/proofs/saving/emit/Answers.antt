use Rattle.std.proofs.Common.{[], ◌∷◌, subst}
use Rattle.sp_gates.specs.Grows.{Fills}
use Rattle.sp_gates.proofs.Growing.{Fills-join, HasNet-stays}
use Rattle.sp_mem.proofs.Waiting.{awaits_kept, awaits_beside}
use Rattle.sp_channels.specs.declared.ports.StorePort.{StorePort}
use Rattle.sp_channels.specs.Ports.{store_wires}
use Rattle.sp_worked_parts.proofs.Closing.{awaits_promises}
use Rattle.sp_worked_parts.proofs.Waiting.{awaited_net}
use Rattle.sp_worked_parts.proofs.Transfers.{store_fits, awaits_unit, unit_driven, not_other}
use Rattle.sp_worked_parts.proofs.saving.emit.Goals as goal

pub emit_store-requires : goal.emit_store-requires
emit_store-requires c =
    store_fits c.add_store.new.builder c.constant-2.new.builder _ c.in_ok-start.start c.in_ok-first.first c.in_ok-past.past c.args.z c.in_ok-port.port c.in_ok-part.part c.in_ok-part.ensures c.in_ok-port.ensures.row c.in_ok-port.ensures.wires
    (Fills-join _ _ _ [] [] c.in_ok-always.ensures.fills (Fills-join _ _ _ [] [] c.in_ok-start.ensures.fills (Fills-join _ _ _ [] [] c.in_ok-first.ensures.fills c.in_ok-past.ensures.fills)))
    (HasNet-stays _ _ _ _ c.in_ok-past.ensures.fills.grows (HasNet-stays _ _ _ _ c.in_ok-first.ensures.fills.grows (HasNet-stays _ _ _ _ c.in_ok-start.ensures.fills.grows (HasNet-stays _ _ _ _ c.in_ok-always.ensures.fills.grows (c.in_ok-port.ensures.unit.ready)))))
    (HasNet-stays _ _ _ _ c.in_ok-past.ensures.fills.grows (HasNet-stays _ _ _ _ c.in_ok-first.ensures.fills.grows (c.in_ok-start.ensures.net)))
    (HasNet-stays _ _ _ _ c.in_ok-past.ensures.fills.grows (c.in_ok-first.ensures.net))
    c.in_ok-past.ensures.net
    (awaited_net _ _ (awaits_kept _ _ _ _ (Fills-join _ _ _ [] [] c.in_ok-always.ensures.fills (Fills-join _ _ _ [] [] c.in_ok-start.ensures.fills (Fills-join _ _ _ [] [] c.in_ok-first.ensures.fills c.in_ok-past.ensures.fills))) (awaits_promises _ _ (store_wires c.in_ok-port.port) c.args.z c.in_ok-port.ensures.promises c.requires.z)))

pub collect-requires-clause-y : goal.collect-requires-clause-y
collect-requires-clause-y c = awaits_unit c.args.builder.now c.add_store.new.builder c.constant-2.new.builder c.emit_store.new.builder c.args.y (store_wires c.in_ok-port.port) c.in_ok-port.ensures.promises (Fills-join _ _ _ [] [] c.in_ok-always.ensures.fills (Fills-join _ _ _ [] [] c.in_ok-start.ensures.fills (Fills-join _ _ _ [] [] c.in_ok-first.ensures.fills c.in_ok-past.ensures.fills)))
    (subst (λ (p : StorePort). Fills c.constant-2.new.builder c.emit_store.new.builder (store_wires p)) c.in_ok-part.ensures.port_is c.in_ok-stored.ensures.fills) c.requires.y

pub collect-requires-clause-word : goal.collect-requires-clause-word
collect-requires-clause-word c = (c.look-nets.ensures c.emit_store.new.builder c.in_ok-stored.ensures.nets (HasNet-stays _ _ _ _ c.in_ok-stored.ensures.fills.grows (HasNet-stays _ _ _ _ c.in_ok-past.ensures.fills.grows (c.in_ok-first.ensures.net)))).index_net

pub collect-requires-clause-enable : goal.collect-requires-clause-enable
collect-requires-clause-enable c = (c.look-nets.ensures c.emit_store.new.builder c.in_ok-stored.ensures.nets (HasNet-stays _ _ _ _ c.in_ok-stored.ensures.fills.grows (HasNet-stays _ _ _ _ c.in_ok-past.ensures.fills.grows (c.in_ok-first.ensures.net)))).read_net

pub reader-requires-clause-z : goal.reader-requires-clause-z
reader-requires-clause-z c =
    awaits_beside c.emit_store.new.builder c.collect.new.builder c.args.z 32 (c.args.y ∷ []) c.in_ok-collect.ensures.fills (λ k. not_other c.args.y c.args.z c.requires.apart k)
    (awaits_unit c.args.builder.now c.add_store.new.builder c.constant-2.new.builder c.emit_store.new.builder c.args.z (store_wires c.in_ok-port.port) c.in_ok-port.ensures.promises (Fills-join _ _ _ [] [] c.in_ok-always.ensures.fills (Fills-join _ _ _ [] [] c.in_ok-start.ensures.fills (Fills-join _ _ _ [] [] c.in_ok-first.ensures.fills c.in_ok-past.ensures.fills)))
    (subst (λ (p : StorePort). Fills c.constant-2.new.builder c.emit_store.new.builder (store_wires p)) c.in_ok-part.ensures.port_is c.in_ok-stored.ensures.fills) c.requires.z)

pub reader-requires-clause-index : goal.reader-requires-clause-index
reader-requires-clause-index c = HasNet-stays _ _ _ _ c.in_ok-collect.ensures.fills.grows ((c.look-nets.ensures c.emit_store.new.builder c.in_ok-stored.ensures.nets (HasNet-stays _ _ _ _ c.in_ok-stored.ensures.fills.grows (HasNet-stays _ _ _ _ c.in_ok-past.ensures.fills.grows (c.in_ok-first.ensures.net)))).index_net)

pub reader-requires-clause-one : goal.reader-requires-clause-one
reader-requires-clause-one c = HasNet-stays _ _ _ _ c.in_ok-collect.ensures.fills.grows (HasNet-stays _ _ _ _ c.in_ok-stored.ensures.fills.grows (HasNet-stays _ _ _ _ c.in_ok-past.ensures.fills.grows (HasNet-stays _ _ _ _ c.in_ok-first.ensures.fills.grows (HasNet-stays _ _ _ _ c.in_ok-start.ensures.fills.grows c.in_ok-always.ensures.one.net_stands))))

pub returns-clause-fills : goal.returns-clause-fills
returns-clause-fills c = unit_driven c.args.builder.now c.add_store.new.builder c.constant-2.new.builder c.emit_store.new.builder c.reader.new.builder (store_wires c.in_ok-port.port) (c.args.y ∷ c.args.z ∷ []) c.in_ok-port.ensures.promises (Fills-join _ _ _ [] [] c.in_ok-always.ensures.fills (Fills-join _ _ _ [] [] c.in_ok-start.ensures.fills (Fills-join _ _ _ [] [] c.in_ok-first.ensures.fills c.in_ok-past.ensures.fills)))
    (subst (λ (p : StorePort). Fills c.constant-2.new.builder c.emit_store.new.builder (store_wires p)) c.in_ok-part.ensures.port_is c.in_ok-stored.ensures.fills)
    (Fills-join _ _ _ (c.args.y ∷ []) (c.args.z ∷ []) c.in_ok-collect.ensures.fills c.in_ok-reader.ensures.fills)

pub returns-clause-done : goal.returns-clause-done
returns-clause-done c = HasNet-stays _ _ _ _ c.in_ok-reader.ensures.fills.grows (HasNet-stays _ _ _ _ c.in_ok-collect.ensures.fills.grows ((c.look-nets.ensures c.emit_store.new.builder c.in_ok-stored.ensures.nets (HasNet-stays _ _ _ _ c.in_ok-stored.ensures.fills.grows (HasNet-stays _ _ _ _ c.in_ok-past.ensures.fills.grows (c.in_ok-first.ensures.net)))).done_net))
