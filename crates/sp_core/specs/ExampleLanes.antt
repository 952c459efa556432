-- Worked cores whose lanes stand one after the other.
use Rattle.std.specs.Prelude.{ℕ, ◌+◌, List, [], ◌∷◌, ◌++◌, Some, None, codes}
use Rattle.sp_words.specs.declared.kind.BinOp.TheVariants.{Add, Mul}
use Rattle.sp_words.specs.declared.kind.Kind.TheVariants.{Reg, Sram, ArgOut}
use Rattle.sp_words.specs.declared.kind.Style.TheVariants.{Pipe}
use Rattle.sp_words.specs.Types.{int_type}
use Rattle.sp_core.specs.ExampleForms.{lit, true_bit, count, live, two, mux, read, write, read_bit, write_bit, under, below, stages, in_lane, stages_then, mem_of, own_bit, port, core}
use Rattle.sp_core.specs.ExampleTransfers.{tile, whole}
use Rattle.sp_core.specs.PlainCore.{PlainOp, PlainCore, PlainNode, PlainSpan, range, inner, outer, store, load, no_stage}

-- `s(i) = i * i` in a lane, whose operations begin at this place
abbrev pub square_lane : (lane at : ℕ) → List PlainOp
square_lane l at = live 0 l l ∷ count 0 l ∷ count 0 l ∷ count 0 l ∷ two Mul (at + 2) (at + 3) ∷ under at (write 0 ((at + 1) ∷ (at + 4) ∷ [])) ∷ []

unfoldable pub squares_in_lanes : PlainCore
squares_in_lanes = core (mem_of (codes "s") Sram int_type (10 ∷ []) None ∷ []) (port (codes "c") (10 ∷ []) ∷ [])
    (outer [] Pipe (0 ∷ []) (stages (
    inner (below 0 10 1 4 ∷ []) [] (square_lane 0 0 ++ square_lane 1 6 ++ square_lane 2 12 ++ square_lane 3 18) None ∷
    store 0 0 (whole 10 ∷ []) ∷
    [])))

-- the product of two elements in a lane
abbrev pub product_lane : (lane at : ℕ) → List PlainOp
product_lane l at = live 1 l l ∷ count 1 l ∷ under at (read 2 ((at + 1) ∷ [])) ∷ count 1 l ∷ under at (read 3 ((at + 3) ∷ [])) ∷ two Mul (at + 2) (at + 4) ∷ []

-- the dot product, whose four lanes are joined in pairs before their word meets the accumulator
unfoldable pub dot_product_in_lanes : PlainCore
dot_product_in_lanes = core (mem_of (codes "y") ArgOut int_type [] None ∷ mem_of (codes "acc") Reg int_type [] (Some 0) ∷ mem_of (codes "ta") Sram int_type (16 ∷ []) None ∷ mem_of (codes "tb") Sram int_type (16 ∷ []) None ∷ mem_of (codes "part") Reg int_type [] (Some 0) ∷ own_bit (codes "begun") ∷ own_bit (codes "begun") ∷ []) (port (codes "a") (64 ∷ []) ∷ port (codes "b") (64 ∷ []) ∷ [])
    (outer [] Pipe (1 ∷ 5 ∷ []) (stages (
    outer (below 0 64 16 1 ∷ []) Pipe (2 ∷ 3 ∷ 4 ∷ 6 ∷ []) (stages_then (
    load 0 2 (tile 0 16 ∷ []) ∷
    load 1 3 (tile 0 16 ∷ []) ∷
    inner (below 1 16 1 4 ∷ []) [] (product_lane 0 0 ++ product_lane 1 6 ++ product_lane 2 12 ++ product_lane 3 18 ++ (
    two Add 5 11 ∷ mux 6 24 5 ∷ two Add 17 23 ∷ mux 18 26 17 ∷ live 1 2 3 ∷ two Add 25 27 ∷ mux 28 29 25 ∷
    read_bit 6 ∷ under 31 (read 4 []) ∷ two Add 32 30 ∷ mux 31 33 30 ∷ write 4 (34 ∷ []) ∷ true_bit ∷ write_bit 6 36 ∷ [])) None ∷
    []) 0 (
    inner [] [] (read 4 [] ∷ read_bit 5 ∷ under 1 (read 1 []) ∷ two Add 2 0 ∷ mux 1 3 0 ∷ write 1 (4 ∷ []) ∷ true_bit ∷ write_bit 5 6 ∷ []) None)) ∷
    inner [] [] (read 1 [] ∷ write 0 (0 ∷ []) ∷ []) None ∷
    [])))

-- a slice from a lane of counter 0, which has step 1
abbrev pub lane_tile : (lane length : ℕ) → PlainSpan
lane_tile l n = range (count 0 l ∷ []) (count 0 l ∷ lit n ∷ two Add 0 1 ∷ [])

abbrev pub fill_and_store : (mem lane : ℕ) → List PlainNode
fill_and_store m l = inner (below 1 2 1 1 ∷ []) [] (count 1 0 ∷ count 0 l ∷ write m (0 ∷ 1 ∷ []) ∷ []) None ∷ store 0 m (lane_tile l 2 ∷ []) ∷ []

-- slices that meet, of so many iterations in two lanes
unfoldable pub stores_in_lanes : (iterations : ℕ) → PlainCore
stores_in_lanes n = core (mem_of (codes "s") Sram int_type (2 ∷ []) None ∷ mem_of (codes "s") Sram int_type (2 ∷ []) None ∷ []) (port (codes "b") (5 ∷ []) ∷ [])
    (outer [] Pipe [] (stages (
    outer (below 0 n 1 2 ∷ []) Pipe (0 ∷ 1 ∷ []) (in_lane 0 (fill_and_store 0 0) (in_lane 1 (fill_and_store 1 1) no_stage)) ∷
    [])))
