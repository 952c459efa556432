-- Worked loops of two lanes: one sums a word that each lane has in a register of its own, one a word that stands outside.
use Rattle.std.specs.Prelude.{[], ◌∷◌, Some, None, codes}
use Rattle.sp_words.specs.declared.kind.BinOp.TheVariants.{Add}
use Rattle.sp_words.specs.declared.kind.Kind.TheVariants.{Reg}
use Rattle.sp_words.specs.declared.kind.Style.TheVariants.{Pipe}
use Rattle.sp_words.specs.Types.{int_type}
use Rattle.sp_core.specs.ExampleForms.{true_bit, count, two, mux, read, write, read_bit, write_bit, under, below, stages, stages_then, mem_of, own_bit, core}
use Rattle.sp_core.specs.PlainCore.{PlainNode, PlainStages, PlainCore, inner, outer}

-- each lane writes its counter to register 2
abbrev pub counted : PlainNode
counted = inner [] [] (count 0 0 ∷ write 2 (0 ∷ []) ∷ []) None

-- the accumulator is register 0, and register 1 tells whether it has begun
abbrev pub summed : PlainNode
summed = inner [] [] (read 2 [] ∷ read_bit 1 ∷ under 1 (read 0 []) ∷ two Add 2 0 ∷ mux 1 3 0 ∷ write 0 (4 ∷ []) ∷ true_bit ∷ write_bit 1 6 ∷ []) (Some 1)

abbrev pub summed_stages : PlainStages
summed_stages = stages_then (counted ∷ []) 0 summed

-- register 3 stands outside of the loop, and no stage writes it
abbrev pub kept_sum : PlainNode
kept_sum = inner [] [] (read 3 [] ∷ read_bit 1 ∷ under 1 (read 0 []) ∷ two Add 2 0 ∷ mux 1 3 0 ∷ write 0 (4 ∷ []) ∷ true_bit ∷ write_bit 1 6 ∷ []) (Some 1)

abbrev pub kept_stages : PlainStages
kept_stages = stages_then (counted ∷ []) 0 kept_sum

unfoldable pub summed_core : PlainCore
summed_core = core (mem_of (codes "acc") Reg int_type [] None ∷ own_bit (codes "begun") ∷ mem_of (codes "r") Reg int_type [] None ∷ []) []
    (outer [] Pipe (0 ∷ 1 ∷ []) (stages (outer (below 0 4 1 2 ∷ []) Pipe (2 ∷ []) summed_stages ∷ [])))
