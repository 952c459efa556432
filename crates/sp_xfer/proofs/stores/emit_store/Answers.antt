use Rattle.std.proofs.Common.{[], ◌∷◌}
use Rattle.sp_gates.proofs.Growing.{reserved}
use Rattle.sp_xfer.proofs.Keeping.{store_fits_on}
use Rattle.sp_xfer.proofs.stores.emit_store.Goals as goal

pub emit_store_to-requires-clause-part : goal.emit_store_to-requires-clause-part
emit_store_to-requires-clause-part c = store_fits_on _ _ _ _ c.in_ok-done.ensures.opens c.requires

pub returns-clause-fills : goal.returns-clause-fills
returns-clause-fills c = reserved _ _ _ _ (c.args.part.now.port.request ∷ c.args.part.now.port.last ∷ c.args.part.now.port.address ∷ c.args.part.now.port.word ∷ []) c.in_ok-done.ensures.opens c.in_ok-nets.ensures.fills
