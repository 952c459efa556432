use Rattle.sp_core.specs.CoreParts.{plain_core}
use Rattle.sp_lower.proofs.StoresAdding.{passes_load, adds_store}
use Rattle.sp_lower.proofs.stores_stores.emit_if_store.Goals as goal

pub returns-then-not-stores : goal.returns-then-not-stores
returns-then-not-stores c = passes_load (plain_core c.args.core.now) c.args.names.now c.args.builder.now c.args.unit.now c.args.slice.now c.args.accesses.now.items (c.stores.ensures.load c.if-not-stores.true)

pub emit_store_of-requires-clause-unit : goal.emit_store_of-requires-clause-unit
emit_store_of-requires-clause-unit c = c.requires.unit (c.stores.ensures.store c.if-not-stores.false)

pub returns : goal.returns
returns c =
    let a = c.in_ok-access.ensures in
    adds_store (plain_core c.args.core.now) c.args.names.now c.args.builder.now c.emit_store_of.new.builder c.args.unit.now c.args.slice.now c.in_ok-access.access c.args.accesses.now.items c.push.new.self.items (c.stores.ensures.store c.if-not-stores.false)
    a.drives a.stands a.runs c.in_ok-push.ensures.items
