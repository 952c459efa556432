use Rattle.std.proofs.lemmas.Result.{IfOk-weaker}
use Rattle.std.specs.Prelude.{string_bytes}
use Rattle.sp_netlist.specs.Cells.{plain_cells}
use Rattle.sp_verilog.proofs.ModuleLemmas.{from_parts}
use Rattle.sp_verilog.proofs.module.module_of.Goals as goal

pub returns : goal.returns
returns c =
    IfOk-weaker c.module_with.result _ _ (λ text is.
    from_parts (plain_cells c.args.cells.now) _ _ c.in_ok-nets.nets.items (string_bytes text) c.in_ok-memories.ensures.banks c.in_ok-memories.ensures.drams
    c.in_ok-nets.ensures.all_nets c.in_ok-nets.ensures.ascending (rw c.deref.ensures.value at is))
    c.module_with.ensures
