use Rattle.std.proofs.Common.{[], ◌∷◌, true, length, refl, ap}
use Rattle.std.specs.Prelude.{count_by, codes}
use Rattle.sp_words.specs.Types.{int_type}
use Rattle.sp_netlist.specs.Cells.{out_cell}
use Rattle.sp_netlist.specs.Rules.{is_done}
use Rattle.sp_gates.proofs.Growing.{fills_build}
use Rattle.sp_worked_parts.proofs.Closing.{out_awaits, can_end, finished, one_open}
use Rattle.sp_worked_parts.proofs.machine.worked_machine.Goals as goal

pub machine-requires : goal.machine-requires
machine-requires c = out_awaits _ ((32, true) ∷ []) (out_cell (codes "y") 0 int_type ∷ []) c.in_ok-y.y 0 c.in_ok-y.ensures.nets c.in_ok-y.ensures.cells c.in_ok-y.ensures.net refl refl

pub add-requires : goal.add-requires
add-requires c = can_end c.output.new.builder c.machine.new.builder (c.in_ok-y.y ∷ []) c.in_ok-done.done (ap (count_by is_done) c.in_ok-y.ensures.cells) (fills_build _ _ _ c.in_ok-done.ensures.fills) c.in_ok-done.ensures.done

pub finish-requires : goal.finish-requires
finish-requires c =
    finished c.output.new.builder c.machine.new.builder c.add.new.self (c.in_ok-y.y ∷ []) c.in_ok-done.done (ap (count_by is_done) c.in_ok-y.ensures.cells)
    (λ n o. one_open c.output.new.builder.promised c.in_ok-y.y n (ap length c.in_ok-y.ensures.nets) c.in_ok-y.ensures.net o.within) (fills_build _ _ _ c.in_ok-done.ensures.fills) c.in_ok-add.ensures.draft
    c.in_ok-add.ensures.same_nets c.in_ok-add.ensures.added c.in_ok-add.ensures.drivers
