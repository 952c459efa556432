use Rattle.std.proofs.Common.{◌++◌, List, [], ◌∷◌, true, length, refl, ap, ◌∙◌, arith}
use Rattle.std.specs.Prelude.{count_by, filter_map, codes}
use Rattle.sp_words.specs.Types.{int_type}
use Rattle.sp_netlist.specs.Cells.{PlainCell, out_cell, dram_cell}
use Rattle.sp_netlist.specs.Rules.{is_done, is_dram, is_unit, dram_name, dram_width}
use Rattle.sp_worked_parts.proofs.Closing.{out_awaits, can_end, finished, two_open}
use Rattle.sp_worked_parts.proofs.saving.worked_save.Goals as goal

pub dram-requires-clause-none : goal.dram-requires-clause-none
dram-requires-clause-none c = ap (count_by is_dram) c.in_ok-z.ensures.cells

pub dram-requires-clause-no_name : goal.dram-requires-clause-no_name
dram-requires-clause-no_name c = ap (filter_map dram_name) c.in_ok-z.ensures.cells

pub emit-requires-clause-units : goal.emit-requires-clause-units
emit-requires-clause-units c = ap (count_by is_unit) (c.in_ok-dram.ensures.cells ∙ ap (λ (cs : List PlainCell). cs ++ dram_cell 0 (codes "a") int_type (24 ∷ []) ∷ []) c.in_ok-z.ensures.cells)

pub emit-requires-clause-drams : goal.emit-requires-clause-drams
emit-requires-clause-drams c = ap (count_by is_dram) (c.in_ok-dram.ensures.cells ∙ ap (λ (cs : List PlainCell). cs ++ dram_cell 0 (codes "a") int_type (24 ∷ []) ∷ []) c.in_ok-z.ensures.cells)

pub emit-requires-clause-words : goal.emit-requires-clause-words
emit-requires-clause-words c = ap (λ cs. dram_width cs 0) (c.in_ok-dram.ensures.cells ∙ ap (λ (cs : List PlainCell). cs ++ dram_cell 0 (codes "a") int_type (24 ∷ []) ∷ []) c.in_ok-z.ensures.cells)

pub emit-requires-clause-y : goal.emit-requires-clause-y
emit-requires-clause-y c = out_awaits _ ((32, true) ∷ (32, true) ∷ []) (out_cell (codes "y") 0 int_type ∷ out_cell (codes "z") 1 int_type ∷ dram_cell 0 (codes "a") int_type (24 ∷ []) ∷ []) c.in_ok-y.y 0 (c.in_ok-dram.ensures.nets ∙ c.in_ok-z.ensures.nets) (c.in_ok-dram.ensures.cells ∙ ap (λ (cs : List PlainCell). cs ++ dram_cell 0 (codes "a") int_type (24 ∷ []) ∷ []) c.in_ok-z.ensures.cells) c.in_ok-y.ensures.net refl refl

pub emit-requires-clause-z : goal.emit-requires-clause-z
emit-requires-clause-z c = out_awaits _ ((32, true) ∷ (32, true) ∷ []) (out_cell (codes "y") 0 int_type ∷ out_cell (codes "z") 1 int_type ∷ dram_cell 0 (codes "a") int_type (24 ∷ []) ∷ []) c.in_ok-z.z 1 (c.in_ok-dram.ensures.nets ∙ c.in_ok-z.ensures.nets) (c.in_ok-dram.ensures.cells ∙ ap (λ (cs : List PlainCell). cs ++ dram_cell 0 (codes "a") int_type (24 ∷ []) ∷ []) c.in_ok-z.ensures.cells) c.in_ok-z.ensures.net refl refl

pub emit-requires-clause-apart : goal.emit-requires-clause-apart
emit-requires-clause-apart c = λ same. let a = c.in_ok-y.ensures.net in let b = c.in_ok-z.ensures.net in absurd (omega (arith, same, a, b))

pub add-requires : goal.add-requires
add-requires c = can_end c.dram.new.builder c.emit.new.builder (c.in_ok-y.y ∷ c.in_ok-z.z ∷ []) c.in_ok-done.done (ap (count_by is_done) (c.in_ok-dram.ensures.cells ∙ ap (λ (cs : List PlainCell). cs ++ dram_cell 0 (codes "a") int_type (24 ∷ []) ∷ []) c.in_ok-z.ensures.cells)) c.in_ok-done.ensures.fills c.in_ok-done.ensures.done

pub finish-requires : goal.finish-requires
finish-requires c =
    finished c.dram.new.builder c.emit.new.builder c.add.new.self (c.in_ok-y.y ∷ c.in_ok-z.z ∷ []) c.in_ok-done.done (ap (count_by is_done) (c.in_ok-dram.ensures.cells ∙ ap (λ (cs : List PlainCell). cs ++ dram_cell 0 (codes "a") int_type (24 ∷ []) ∷ []) c.in_ok-z.ensures.cells))
    (λ n o. two_open c.dram.new.builder.promised c.in_ok-y.y c.in_ok-z.z n (ap length (c.in_ok-dram.ensures.nets ∙ c.in_ok-z.ensures.nets)) c.in_ok-y.ensures.net c.in_ok-z.ensures.net o.within) c.in_ok-done.ensures.fills c.in_ok-add.ensures.draft
    c.in_ok-add.ensures.same_nets c.in_ok-add.ensures.added c.in_ok-add.ensures.drivers
