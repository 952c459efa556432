use Rattle.sp_core.specs.CoreParts.{plain_core}
use Rattle.sp_lower.proofs.LoadsAdding.{passes_store, adds_load}
use Rattle.sp_lower.proofs.loads_emit.emit_if_load.Goals as goal

pub returns-then-not-loads : goal.returns-then-not-loads
returns-then-not-loads c = passes_store (plain_core c.args.core.now) c.args.names.now c.args.builder.now c.args.unit.now c.args.slice.now c.args.accesses.now.items (c.loads.ensures.store c.if-not-loads.true)

pub returns : goal.returns
returns c =
    let a = c.in_ok-access.ensures in
    adds_load (plain_core c.args.core.now) c.args.names.now c.args.builder.now c.emit_one.new.builder c.args.unit.now c.args.slice.now c.in_ok-access.access c.args.accesses.now.items c.push.new.self.items (c.loads.ensures.load c.if-not-loads.false)
    a.fills a.stands a.runs c.in_ok-push.ensures.items
