-- Worked combinations of elements: of cells, and in a loop of two lanes, each of which has two elements in a memory of its own.
use Rattle.std.specs.Prelude.{ℕ, ◌+◌, List, [], ◌∷◌, Some, None, codes}
use Rattle.sp_words.specs.declared.kind.BinOp.TheVariants.{Add, Eq}
use Rattle.sp_words.specs.declared.kind.Kind.TheVariants.{Sram}
use Rattle.sp_words.specs.declared.kind.Style.TheVariants.{Pipe}
use Rattle.sp_words.specs.Types.{int_type}
use Rattle.sp_core.specs.ExampleForms.{lit, true_bit, count, two, mux, read, write, read_bit, write_bit, under, below, stages, stages_then, mem_of, own_bit, core}
use Rattle.sp_core.specs.PlainCore.{PlainOp, PlainNode, PlainStages, PlainCore, inner, outer}

-- two lanes, each with a word for the places 1 and 0
abbrev pub lanes : List (List ℕ)
lanes = (1 ∷ 2 ∷ []) ∷ (10 ∷ 20 ∷ []) ∷ []

abbrev pub sum : ℕ → ℕ → ℕ
sum a b = a + b

-- each lane writes its counter to both elements of memory 2
abbrev pub filled : PlainNode
filled = inner [] [] (count 0 0 ∷ lit 0 ∷ write 2 (1 ∷ 0 ∷ []) ∷ lit 1 ∷ write 2 (3 ∷ 0 ∷ []) ∷ []) None

-- the part's element, and its combination into the accumulator, memory 0, where register 1 tells whether it has begun; the elements
-- are counted by counter 1
abbrev pub taken : List PlainOp
taken = count 1 0 ∷ read 2 (0 ∷ []) ∷ []

abbrev pub combined : List PlainOp
combined =
    read_bit 1 ∷ count 1 0 ∷ under 2 (read 0 (3 ∷ [])) ∷ two Add 4 1 ∷ mux 2 5 1 ∷ count 1 0 ∷ write 0 (7 ∷ 6 ∷ []) ∷ count 1 0 ∷ lit 1 ∷ two Eq 9 10 ∷ true_bit ∷ under 11 (write_bit 1 (12)) ∷ []

abbrev pub added : PlainNode
added = inner (below 1 2 1 1 ∷ []) [] (count 1 0 ∷ read 2 (0 ∷ []) ∷ combined) (Some 2)

abbrev pub added_stages : PlainStages
added_stages = stages_then (filled ∷ []) 0 added

unfoldable pub added_core : PlainCore
added_core = core (mem_of (codes "acc") Sram int_type (2 ∷ []) None ∷ own_bit (codes "begun") ∷ mem_of (codes "part") Sram int_type (2 ∷ []) None ∷ []) []
    (outer [] Pipe (0 ∷ 1 ∷ []) (stages (outer (below 0 4 1 2 ∷ []) Pipe (2 ∷ []) added_stages ∷ [])))
