use Rattle.std.proofs.Common.{[], ◌∷◌, true, length, refl, ap}
use Rattle.std.specs.Prelude.{count_by, codes}
use Rattle.sp_words.specs.Types.{int_type}
use Rattle.sp_netlist.specs.Cells.{out_cell}
use Rattle.sp_netlist.specs.Rules.{is_bank, is_done}
use Rattle.sp_worked_parts.proofs.Closing.{out_awaits, can_end, finished, one_open}
use Rattle.sp_worked_parts.proofs.counted.worked_store.Goals as goal

pub emit-requires-clause-banks : goal.emit-requires-clause-banks
emit-requires-clause-banks c = ap (count_by is_bank) c.in_ok-y.ensures.cells

pub emit-requires-clause-y : goal.emit-requires-clause-y
emit-requires-clause-y c = out_awaits _ ((32, true) ∷ []) (out_cell (codes "y") 0 int_type ∷ []) c.in_ok-y.y 0 c.in_ok-y.ensures.nets c.in_ok-y.ensures.cells c.in_ok-y.ensures.net refl refl

pub add-requires : goal.add-requires
add-requires c = can_end c.output.new.builder c.emit.new.builder (c.in_ok-y.y ∷ []) c.in_ok-done.done (ap (count_by is_done) c.in_ok-y.ensures.cells) c.in_ok-done.ensures.fills c.in_ok-done.ensures.done

pub finish-requires : goal.finish-requires
finish-requires c =
    finished c.output.new.builder c.emit.new.builder c.add.new.self (c.in_ok-y.y ∷ []) c.in_ok-done.done (ap (count_by is_done) c.in_ok-y.ensures.cells)
    (λ n o. one_open c.output.new.builder.promised c.in_ok-y.y n (ap length c.in_ok-y.ensures.nets) c.in_ok-y.ensures.net o.within) c.in_ok-done.ensures.fills c.in_ok-add.ensures.draft
    c.in_ok-add.ensures.same_nets c.in_ok-add.ensures.added c.in_ok-add.ensures.drivers
