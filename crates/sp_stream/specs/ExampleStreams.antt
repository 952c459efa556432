-- Blocks whose stages may run at once, and blocks that break one rule.
use Rattle.std.specs.Prelude.{ℕ, List, [], ◌∷◌, Some, None, codes}
use Rattle.sp_words.specs.declared.kind.Kind.TheVariants.{Reg, Sram, Fifo, ArgOut}
use Rattle.sp_words.specs.declared.kind.Style.TheVariants.{Pipe, Stream}
use Rattle.sp_words.specs.Types.{int_type}
use Rattle.sp_core.specs.ExampleForms.{lit, count, write, enq, deq, reset, from, below, stages, mem_of, core}
use Rattle.sp_core.specs.PlainCore.{PlainOp, PlainCounter, PlainNode, PlainMem, PlainCore, inner, outer}

-- an output 0; outside of the block a register 1, an SRAM 2 and a FIFO 3; FIFOs 4, 5 and 6 that the block owns
abbrev pub memories : List PlainMem
memories =
    mem_of (codes "y") ArgOut int_type [] None ∷ mem_of (codes "r") Reg int_type [] (Some 0) ∷ mem_of (codes "s") Sram int_type (8 ∷ []) None
    ∷ mem_of (codes "k") Fifo int_type (2 ∷ []) None ∷ mem_of (codes "f") Fifo int_type (2 ∷ []) None ∷ mem_of (codes "g") Fifo int_type (2 ∷ []) None
    ∷ mem_of (codes "h") Fifo int_type (2 ∷ []) None ∷ []

-- node 1 is the block, or a loop with these stages
unfoldable pub looped : List PlainCounter → List PlainNode → PlainCore
looped counters nodes = core memories [] (outer [] Pipe (1 ∷ 2 ∷ 3 ∷ []) (stages (outer counters Stream (4 ∷ 5 ∷ 6 ∷ []) (stages nodes) ∷ [])))

abbrev pub block : List PlainNode → PlainCore
block nodes = looped [] nodes

-- a loop over counter c, from 0 to 7
abbrev pub loop : (c : ℕ) → List PlainOp → PlainNode
loop c ops = inner (below c 8 1 1 ∷ []) [] ops None

-- the counter into a FIFO; a word from one FIFO into another, and into the output
abbrev pub puts : (c fifo : ℕ) → PlainNode
puts c m = loop c (count c 0 ∷ enq m 0 ∷ [])

abbrev pub moves : (c a b : ℕ) → PlainNode
moves c a b = loop c (deq a ∷ enq b 0 ∷ [])

abbrev pub takes : (c fifo : ℕ) → PlainNode
takes c m = loop c (deq m ∷ write 0 (0 ∷ []) ∷ [])

abbrev pub chain : List PlainNode
chain = puts 0 4 ∷ moves 1 4 5 ∷ takes 2 5 ∷ []

-- beside a loop: one write, a loop without operations, and a loop in a loop
abbrev pub a_write : PlainNode
a_write = inner [] [] (lit 1 ∷ write 1 (0 ∷ []) ∷ []) None

abbrev pub nested : PlainNode
nested = outer (below 1 8 1 1 ∷ []) Pipe [] (stages (takes 2 4 ∷ []))

-- words of a FIFO, as many as a register or an element of the SRAM says
abbrev pub as_many_as : List PlainOp → PlainNode
as_many_as until = inner (from 1 (lit 0 ∷ []) until 1 1 ∷ []) [] (deq 4 ∷ write 0 (0 ∷ []) ∷ []) None

-- a FIFO with two ends more, and one that a stage empties
abbrev pub two_put : List PlainNode
two_put = puts 0 4 ∷ puts 1 4 ∷ takes 2 4 ∷ []

abbrev pub two_take : List PlainNode
two_take = puts 0 4 ∷ takes 1 4 ∷ loop 2 (deq 4 ∷ []) ∷ []

abbrev pub emptied : List PlainNode
emptied = puts 0 4 ∷ loop 1 (reset 4 ∷ []) ∷ []

-- two stages that use a memory beside the FIFO that joins them
abbrev pub first_also : List PlainOp → PlainNode
first_also ops = loop 0 (count 0 0 ∷ enq 4 0 ∷ ops)

abbrev pub second_also : List PlainOp → PlainNode
second_also ops = loop 1 (deq 4 ∷ lit 3 ∷ ops)

abbrev pub both_also : (first second : List PlainOp) → List PlainNode
both_also first second = first_also first ∷ second_also second ∷ []

-- stages from which FIFOs lead to two others, and where these are joined as well
abbrev pub branching : List PlainNode
branching = first_also (enq 5 0 ∷ []) ∷ takes 1 4 ∷ moves 2 5 6 ∷ loop 3 (deq 6 ∷ []) ∷ []

abbrev pub triangle : List PlainNode
triangle = first_also (enq 5 0 ∷ []) ∷ moves 1 4 6 ∷ loop 2 (deq 5 ∷ deq 6 ∷ write 0 (1 ∷ []) ∷ []) ∷ []

abbrev pub two_between : List PlainNode
two_between = first_also (enq 5 0 ∷ []) ∷ loop 1 (deq 4 ∷ deq 5 ∷ []) ∷ []

abbrev pub there_and_back : List PlainNode
there_and_back = first_also (deq 5 ∷ []) ∷ moves 1 4 5 ∷ []
