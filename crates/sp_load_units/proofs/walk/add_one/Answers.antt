use Rattle.std.proofs.Common.{◌+◌, length, refl, rules, sym, ap, ◌∙◌}
use Rattle.sp_core.specs.CoreParts.{plain_core}
use Rattle.sp_tree_handed.specs.Transfers.{core_transfer}
use Rattle.sp_load_units.specs.declared.unit.TransferUnit.{TransferUnit}
use Rattle.sp_load_units.proofs.Joining.{adds_port}
use Rattle.sp_load_units.proofs.walk.add_one.Goals as goal

pub add_port-requires-clause-dram : goal.add_port-requires-clause-dram
add_port-requires-clause-dram c = (c.requires.go.drams c.args.dram c.requires.transfer.has_dram).0

pub add_port-requires-clause-words : goal.add_port-requires-clause-words
add_port-requires-clause-words c = (c.requires.go.drams c.args.dram c.requires.transfer.has_dram).1 ∙ sym c.word_width-width.ensures.value

pub returns-clause-adds : goal.returns-clause-adds
returns-clause-adds c =
    let walk = c.args.walk.now in
    let unit : TransferUnit = record { transfer = c.transfer_at-transfer.result; port = c.in_ok-port.port; done = c.in_ok-done.done } in
    let p = c.in_ok-port.ensures in
    let d = c.in_ok-done.ensures in
    adds_port (plain_core c.args.core.now) c.args.builder.now c.add_port.new.builder c.await_end.new.builder walk _ (core_transfer c.args.direction (length walk.ends.items) (walk.number + c.args.ops) c.args.dram c.args.mem) unit _ c.word_width-width.result
    (c.transfer_at-transfer.ensures ∙ ap (λ k. core_transfer c.args.direction k (walk.number + c.args.ops) c.args.dram c.args.mem) (search rules)) refl c.in_ok-push.ensures.items c.in_ok-push-2.ensures.items p.promises p.rise p.wires p.runs p.way
    c.word_width-width.ensures.value c.requires.transfer p.cells p.stores d.opens d.awaits d.net d.same_cells (length walk.units.items) (sym c.requires.go.units) (p.one_more ∙ ap (λ n. n + 1) (search rules))
