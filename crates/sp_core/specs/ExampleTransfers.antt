-- Worked cores: DRAMs, slices and line buffers.
use Rattle.std.specs.Prelude.{ℕ, [], ◌∷◌, Some, None, codes}
use Rattle.sp_words.specs.declared.kind.BinOp.TheVariants.{Add, Sub, Mul, Ge}
use Rattle.sp_words.specs.declared.kind.Kind.TheVariants.{Reg, Sram, LineBuf, ArgOut}
use Rattle.sp_words.specs.declared.kind.Style.TheVariants.{Pipe}
use Rattle.sp_words.specs.Types.{int_type}
use Rattle.sp_core.specs.declared.node.SparseKind.TheVariants.{Gather, Scatter, WideLoad}
use Rattle.sp_core.specs.ExampleForms.{lit, true_bit, count, two, mux, read, write, read_bit, write_bit, under, below, stages, stages_then, mem_of, own_bit, port, core}
use Rattle.sp_core.specs.PlainCore.{PlainCore, PlainNode, PlainSpan, single, range, inner, outer, branch, load, store, sparse}

-- from the value of counter c, so many
abbrev pub tile : (c length : ℕ) → PlainSpan
tile c n = range (count c 0 ∷ []) (count c 0 ∷ lit n ∷ two Add 0 1 ∷ [])

abbrev pub whole : ℕ → PlainSpan
whole n = range (lit 0 ∷ []) (lit n ∷ [])

-- the dot product of two DRAMs, in tiles of 16, by a load of the first tile
abbrev pub dot_product_by : PlainNode → PlainCore
dot_product_by load_first = core (mem_of (codes "y") ArgOut int_type [] None ∷ mem_of (codes "acc") Reg int_type [] (Some 0) ∷ mem_of (codes "ta") Sram int_type (16 ∷ []) None ∷ mem_of (codes "tb") Sram int_type (16 ∷ []) None ∷ mem_of (codes "part") Reg int_type [] (Some 0) ∷ own_bit (codes "begun") ∷ own_bit (codes "begun") ∷ []) (port (codes "a") (64 ∷ []) ∷ port (codes "b") (64 ∷ []) ∷ [])
    (outer [] Pipe (1 ∷ 5 ∷ []) (stages (
    outer (below 0 64 16 1 ∷ []) Pipe (2 ∷ 3 ∷ 4 ∷ 6 ∷ []) (stages_then (
    load_first ∷
    load 1 3 (tile 0 16 ∷ []) ∷
    inner (below 1 16 1 4 ∷ []) [] (count 1 0 ∷ read 2 (0 ∷ []) ∷ count 1 0 ∷ read 3 (2 ∷ []) ∷ two Mul 1 3 ∷ read_bit 6 ∷ under 5 (read 4 []) ∷ two Add 6 4 ∷ mux 5 7 4 ∷ write 4 (8 ∷ []) ∷ true_bit ∷ write_bit 6 10 ∷ []) (Some 5) ∷
    []) 0 (
    inner [] [] (read 4 [] ∷ read_bit 5 ∷ under 1 (read 1 []) ∷ two Add 2 0 ∷ mux 1 3 0 ∷ write 1 (4 ∷ []) ∷ true_bit ∷ write_bit 5 6 ∷ []) (Some 1))) ∷
    inner [] [] (read 1 [] ∷ write 0 (0 ∷ []) ∷ []) None ∷
    [])))

unfoldable pub dot_product : PlainCore
dot_product = dot_product_by (load 0 2 (tile 0 16 ∷ []))

-- the same, four words at once
unfoldable pub wide_dot_product : PlainCore
wide_dot_product = dot_product_by (sparse WideLoad 0 2 None (tile 0 16 ∷ []) [] 4)

-- `s(i) = i * i`
unfoldable pub squares : PlainCore
squares = core (mem_of (codes "s") Sram int_type (10 ∷ []) None ∷ []) (port (codes "c") (10 ∷ []) ∷ [])
    (outer [] Pipe (0 ∷ []) (stages (
    inner (below 0 10 1 4 ∷ []) [] (count 0 0 ∷ count 0 0 ∷ count 0 0 ∷ two Mul 1 2 ∷ write 0 (0 ∷ 3 ∷ []) ∷ []) None ∷
    store 0 0 (whole 10 ∷ []) ∷
    [])))

-- how often each of 0 to 3 stands in a DRAM
unfoldable pub histogram : PlainCore
histogram = core (mem_of (codes "s") Sram int_type (8 ∷ []) None ∷ mem_of (codes "h") Sram int_type (4 ∷ []) None ∷ []) (port (codes "a") (8 ∷ []) ∷ port (codes "c") (4 ∷ []) ∷ [])
    (outer [] Pipe (0 ∷ 1 ∷ []) (stages (
    load 0 0 (whole 8 ∷ []) ∷
    inner (below 0 4 1 1 ∷ []) [] (count 0 0 ∷ lit 0 ∷ write 1 (0 ∷ 1 ∷ []) ∷ []) None ∷
    inner (below 1 8 1 1 ∷ []) [] (count 1 0 ∷ read 0 (0 ∷ []) ∷ read 1 (1 ∷ []) ∷ lit 1 ∷ two Add 2 3 ∷ write 1 (1 ∷ 4 ∷ []) ∷ []) None ∷
    store 1 1 (whole 4 ∷ []) ∷
    [])))

-- sums of three rows and three columns of an image, by a line buffer of a width
unfoldable pub line_filter : (width : ℕ) → PlainCore
line_filter width = core (mem_of (codes "lb") LineBuf int_type (3 ∷ width ∷ []) None ∷ mem_of (codes "o") Sram int_type (3 ∷ []) None ∷ mem_of (codes "s") Reg int_type [] (Some 0) ∷ own_bit (codes "begun") ∷ []) (port (codes "img") (4 ∷ 5 ∷ []) ∷ port (codes "res") (2 ∷ 3 ∷ []) ∷ [])
    (outer [] Pipe (0 ∷ 1 ∷ []) (stages (
    outer (below 0 4 1 1 ∷ []) Pipe [] (stages (
    load 0 0 (single (count 0 0 ∷ []) ∷ whole 5 ∷ []) ∷
    branch (count 0 0 ∷ lit 2 ∷ two Ge 0 1 ∷ [])
    (outer [] Pipe [] (stages (
    outer (below 1 3 1 1 ∷ []) Pipe (2 ∷ 3 ∷ []) (stages (
    inner (below 2 3 1 1 ∷ below 3 3 1 1 ∷ []) [] (count 2 0 ∷ count 1 0 ∷ count 3 0 ∷ two Add 1 2 ∷ read 0 (0 ∷ 3 ∷ []) ∷ read_bit 3 ∷ under 5 (read 2 []) ∷ two Add 6 4 ∷ mux 5 7 4 ∷ write 2 (8 ∷ []) ∷ true_bit ∷ write_bit 3 10 ∷ []) (Some 5) ∷
    inner [] [] (count 1 0 ∷ read 2 [] ∷ write 1 (0 ∷ 1 ∷ []) ∷ []) None ∷
    [])) ∷
    store 1 1 (single (count 0 0 ∷ lit 2 ∷ two Sub 0 1 ∷ []) ∷ whole 3 ∷ []) ∷
    [])))
    (inner [] [] [] None) ∷
    [])) ∷
    [])))

-- a DRAM to another in tiles
unfoldable pub copied : (size step : ℕ) → PlainCore
copied size step = core (mem_of (codes "s") Sram int_type (step ∷ []) None ∷ []) (port (codes "a") (size ∷ []) ∷ port (codes "b") (size ∷ []) ∷ [])
    (outer [] Pipe [] (stages (
    outer (below 0 size step 1 ∷ []) Pipe (0 ∷ []) (stages (
    load 0 0 (tile 0 step ∷ []) ∷
    store 1 0 (tile 0 step ∷ []) ∷
    [])) ∷
    [])))

-- a DRAM to another at once
unfoldable pub copied_at_once : (size : ℕ) → PlainCore
copied_at_once size = core (mem_of (codes "s") Sram int_type (size ∷ []) None ∷ []) (port (codes "a") (size ∷ []) ∷ port (codes "b") (size ∷ []) ∷ [])
    (outer [] Pipe (0 ∷ []) (stages (
    load 0 0 (whole size ∷ []) ∷
    store 1 0 (whole size ∷ []) ∷
    [])))

-- slices that meet, in the order of the iterations
unfoldable pub overlapping_stores : PlainCore
overlapping_stores = core (mem_of (codes "s") Sram int_type (2 ∷ []) None ∷ []) (port (codes "b") (5 ∷ []) ∷ [])
    (outer [] Pipe [] (stages (
    outer (below 0 4 1 2 ∷ []) Pipe (0 ∷ []) (stages (
    inner (below 1 2 1 1 ∷ []) [] (count 1 0 ∷ count 0 0 ∷ write 0 (0 ∷ 1 ∷ []) ∷ []) None ∷
    store 0 0 (tile 0 2 ∷ []) ∷
    [])) ∷
    [])))

-- words from the places that stand in an SRAM, and to the same places of another DRAM
unfoldable pub gathered : PlainCore
gathered = core (mem_of (codes "p") Sram int_type (4 ∷ []) None ∷ mem_of (codes "s") Sram int_type (4 ∷ []) None ∷ []) (port (codes "a") (8 ∷ []) ∷ port (codes "q") (4 ∷ []) ∷ port (codes "b") (8 ∷ []) ∷ [])
    (outer [] Pipe (0 ∷ 1 ∷ []) (stages (
    load 1 0 (whole 4 ∷ []) ∷
    sparse Gather 0 1 (Some 0) [] (lit 4 ∷ []) 1 ∷
    sparse Scatter 2 1 (Some 0) [] (lit 4 ∷ []) 1 ∷
    [])))
