-- Worked cores, and by hand what they are where their lanes stand one after the other.
use Rattle.std.specs.Prelude.{ℕ, ◌+◌, true, false, List, [], ◌∷◌, ◌++◌, Some, None, codes}
use Rattle.std.proofs.Common.{lit≤}
use Rattle.sp_words.specs.declared.kind.BinOp.TheVariants.{Add, Sub, Mul, Eq, Gt}
use Rattle.sp_words.specs.declared.kind.Kind.TheVariants.{Reg, Sram, ArgIn, ArgOut}
use Rattle.sp_words.specs.declared.kind.Style.TheVariants.{Pipe}
use Rattle.sp_words.specs.declared.types.Ty.{Ty}
use Rattle.sp_words.specs.declared.types.Ty.TheVariants.{Fix}
use Rattle.sp_words.specs.Types.{int_type}
use Rattle.sp_core.specs.declared.operation.OpKind.TheVariants.{Word, Read, Write, Two, Mux}
use Rattle.sp_core.specs.ExampleForms.{op_at, lit, true_bit, count, live, two, mux, access, read, write, read_bit, write_bit, under, below, from, stages, in_lane, stages_then, mem_of, own_bit, port, core}
use Rattle.sp_core.specs.ExampleTransfers.{whole}
use Rattle.sp_core.specs.PlainCore.{PlainOp, PlainCore, PlainNode, PlainMem, inner, outer, fsm, store, no_stage, more_stage}

-- each element is one more than another one of the same memory, which is written before it
abbrev pub behind : (distance first size : ℕ) → PlainNode → PlainCore
behind distance first size body = core (mem_of (codes "s") Sram int_type (size ∷ []) None ∷ []) (port (codes "c") (size ∷ []) ∷ [])
    (outer [] Pipe (0 ∷ []) (stages (
    inner (below 0 first 1 1 ∷ []) [] (count 0 0 ∷ lit 0 ∷ write 0 (0 ∷ 1 ∷ []) ∷ []) None ∷
    body ∷
    store 0 0 (whole size ∷ []) ∷
    [])))

abbrev pub behind_counter : (first size : ℕ) → List PlainOp → PlainNode
behind_counter first size ops = inner (from 1 (lit first ∷ []) (lit size ∷ []) 1 4 ∷ []) [] ops None

unfoldable pub one_more : (distance first size : ℕ) → PlainCore
one_more distance first size = behind distance first size (behind_counter first size (
    count 1 0 ∷ count 1 0 ∷ lit distance ∷ two Sub 1 2 ∷ read 0 (3 ∷ []) ∷ lit 1 ∷ two Add 4 5 ∷ write 0 (0 ∷ 6 ∷ []) ∷ []))

abbrev pub one_more_lane : (distance lane at : ℕ) → List PlainOp
one_more_lane distance l at =
    live 1 l l ∷ count 1 l ∷ count 1 l ∷ lit distance ∷ two Sub (at + 2) (at + 3) ∷ under at (read 0 ((at + 4) ∷ [])) ∷ lit 1 ∷ two Add (at + 5) (at + 6) ∷ under at (write 0 ((at + 1) ∷ (at + 7) ∷ [])) ∷ []

unfoldable pub one_more_in_lanes : (distance first size : ℕ) → PlainCore
one_more_in_lanes distance first size = behind distance first size (behind_counter first size (
    one_more_lane distance 0 0 ++ one_more_lane distance 1 9 ++ one_more_lane distance 2 18 ++ one_more_lane distance 3 27))

-- `s(i) = t(2) + x`, where t and x are the same in each lane
abbrev pub same_in_each : List PlainOp → PlainCore
same_in_each ops = core (mem_of (codes "x") ArgIn int_type [] None ∷ mem_of (codes "t") Sram int_type (4 ∷ []) None ∷ mem_of (codes "s") Sram int_type (4 ∷ []) None ∷ []) (port (codes "c") (4 ∷ []) ∷ [])
    (outer [] Pipe (1 ∷ 2 ∷ []) (stages (
    inner (below 0 4 1 1 ∷ []) [] (count 0 0 ∷ count 0 0 ∷ write 1 (0 ∷ 1 ∷ []) ∷ []) None ∷
    inner (below 1 4 1 2 ∷ []) [] ops None ∷
    store 0 2 (whole 4 ∷ []) ∷
    [])))

unfoldable pub shared_reads : PlainCore
shared_reads = same_in_each (count 1 0 ∷ lit 2 ∷ read 1 (1 ∷ []) ∷ read 0 [] ∷ two Add 2 3 ∷ write 2 (0 ∷ 4 ∷ []) ∷ [])

unfoldable pub shared_reads_in_lanes : PlainCore
shared_reads_in_lanes = same_in_each (
    live 1 0 0 ∷ count 1 0 ∷ lit 2 ∷ under 0 (read 1 (2 ∷ [])) ∷ under 0 (read 0 []) ∷ two Add 3 4 ∷ under 0 (write 2 (1 ∷ 5 ∷ [])) ∷
    live 1 1 1 ∷ count 1 1 ∷ lit 2 ∷ two Add 3 4 ∷ under 7 (write 2 (8 ∷ 10 ∷ [])) ∷ [])

-- numbers with eight bits after the point
abbrev pub fixed : Ty
fixed = Fix (record { signed = true; whole = 8; frac = 8; has_bits = lit≤ tt; in_a_word = lit≤ tt })

abbrev pub fixed_word : ℕ → PlainOp
fixed_word w = op_at fixed (Word w) []

abbrev pub fixed_product : (a b : ℕ) → PlainOp
fixed_product a b = op_at fixed (Two Mul) (a ∷ b ∷ [])

abbrev pub fixed_choice : (c a b : ℕ) → PlainOp
fixed_choice c a b = op_at fixed Mux (c ∷ a ∷ b ∷ [])

abbrev pub fixed_read : ℕ → List ℕ → PlainOp
fixed_read m args = access fixed Read m args

abbrev pub fixed_write : ℕ → List ℕ → PlainOp
fixed_write m args = access fixed Write m args

-- the product of four such numbers, 3, 256, 128 and 512 of 256 parts each
abbrev pub product_by : PlainNode → PlainCore
product_by loop = core (mem_of (codes "y") ArgOut fixed [] None ∷ mem_of (codes "s") Sram fixed (4 ∷ []) None ∷ mem_of (codes "acc") Reg fixed [] (Some 256) ∷ own_bit (codes "begun") ∷ []) []
    (outer [] Pipe (1 ∷ 2 ∷ 3 ∷ []) (stages (
    inner [] [] (lit 0 ∷ fixed_word 3 ∷ fixed_write 1 (0 ∷ 1 ∷ []) ∷ lit 1 ∷ fixed_word 256 ∷ fixed_write 1 (3 ∷ 4 ∷ []) ∷ lit 2 ∷ fixed_word 128 ∷ fixed_write 1 (6 ∷ 7 ∷ []) ∷ lit 3 ∷ fixed_word 512 ∷ fixed_write 1 (9 ∷ 10 ∷ []) ∷ []) None ∷
    loop ∷
    inner [] [] (fixed_read 2 [] ∷ fixed_write 0 (0 ∷ []) ∷ []) None ∷
    [])))

unfoldable pub fixed_reduced : PlainCore
fixed_reduced = product_by (inner (below 0 4 1 4 ∷ []) [] (
    count 0 0 ∷ fixed_read 1 (0 ∷ []) ∷ read_bit 3 ∷ under 2 (fixed_read 2 []) ∷ fixed_product 3 1 ∷ fixed_choice 2 4 1 ∷ fixed_write 2 (5 ∷ []) ∷ true_bit ∷ write_bit 3 7 ∷ []) (Some 2))

abbrev pub element_lane : (lane at : ℕ) → List PlainOp
element_lane l at = live 0 l l ∷ count 0 l ∷ under at (fixed_read 1 ((at + 1) ∷ [])) ∷ []

unfoldable pub fixed_reduced_in_lanes : PlainCore
fixed_reduced_in_lanes = product_by (inner (below 0 4 1 4 ∷ []) [] (
    element_lane 0 0 ++ element_lane 1 3 ++ element_lane 2 6 ++ element_lane 3 9 ++ (
    read_bit 3 ∷ under 12 (fixed_read 2 []) ∷ fixed_product 13 2 ∷ fixed_choice 12 14 2 ∷
    fixed_product 15 5 ∷ fixed_choice 3 16 15 ∷ fixed_product 17 8 ∷ fixed_choice 6 18 17 ∷ fixed_product 19 11 ∷ fixed_choice 9 20 19 ∷
    fixed_write 2 (21 ∷ []) ∷ true_bit ∷ write_bit 3 23 ∷ [])) None)

unfoldable pub fixed_folded : PlainCore
fixed_folded = product_by (inner (below 0 4 1 2 ∷ []) [] (
    count 0 0 ∷ fixed_read 1 (0 ∷ []) ∷ fixed_read 2 [] ∷ fixed_product 2 1 ∷ fixed_write 2 (3 ∷ []) ∷ []) (Some 2))

unfoldable pub fixed_folded_in_lanes : PlainCore
fixed_folded_in_lanes = product_by (inner (below 0 4 1 2 ∷ []) [] (
    element_lane 0 0 ++ element_lane 1 3 ++ (
    fixed_read 2 [] ∷ fixed_product 6 2 ∷ fixed_choice 0 7 6 ∷ fixed_product 8 5 ∷ fixed_choice 3 9 8 ∷ fixed_write 2 (10 ∷ []) ∷ [])) None)

-- the elements of a memory are summed over three iterations, in two lanes
abbrev pub part_body : (lane part : ℕ) → PlainNode
part_body l p = inner (below 1 2 1 1 ∷ []) [] (count 1 0 ∷ count 0 l ∷ lit 10 ∷ two Mul 1 2 ∷ count 1 0 ∷ two Add 3 4 ∷ write p (0 ∷ 5 ∷ []) ∷ []) None

unfoldable pub memory_reduced_by_two : PlainCore
memory_reduced_by_two = core (mem_of (codes "acc") Sram int_type (2 ∷ []) None ∷ mem_of (codes "p") Sram int_type (2 ∷ []) None ∷ own_bit (codes "begun") ∷ []) (port (codes "c") (2 ∷ []) ∷ [])
    (outer [] Pipe (0 ∷ 2 ∷ []) (stages (
    outer (below 0 3 1 2 ∷ []) Pipe (1 ∷ []) (stages_then (part_body 0 1 ∷ []) 0 (
    inner (below 2 2 1 1 ∷ []) [] (count 2 0 ∷ read 1 (0 ∷ []) ∷ read_bit 2 ∷ count 2 0 ∷ under 2 (read 0 (3 ∷ [])) ∷ two Add 4 1 ∷ mux 2 5 1 ∷ count 2 0 ∷ write 0 (7 ∷ 6 ∷ []) ∷ count 2 0 ∷ lit 1 ∷ two Eq 9 10 ∷ true_bit ∷ under 11 (write_bit 2 12) ∷ []) (Some 2))) ∷
    store 0 0 (whole 2 ∷ []) ∷
    [])))

unfoldable pub memory_reduced_in_lanes : PlainCore
memory_reduced_in_lanes = core (mem_of (codes "acc") Sram int_type (2 ∷ []) None ∷ mem_of (codes "p") Sram int_type (2 ∷ []) None ∷ mem_of (codes "p") Sram int_type (2 ∷ []) None ∷ own_bit (codes "begun") ∷ []) (port (codes "c") (2 ∷ []) ∷ [])
    (outer [] Pipe (0 ∷ 3 ∷ []) (stages (
    outer (below 0 3 1 2 ∷ []) Pipe (1 ∷ 2 ∷ []) (in_lane 0 (part_body 0 1 ∷ []) (in_lane 1 (part_body 1 2 ∷ []) (more_stage 0 1 true (
    inner (below 2 2 1 1 ∷ []) [] (
    live 0 0 0 ∷ count 2 0 ∷ under 0 (read 1 (1 ∷ [])) ∷ live 0 1 1 ∷ count 2 0 ∷ under 3 (read 2 (4 ∷ [])) ∷ two Add 2 5 ∷ mux 3 6 2 ∷
    read_bit 3 ∷ count 2 0 ∷ under 8 (read 0 (9 ∷ [])) ∷ two Add 10 7 ∷ mux 8 11 7 ∷ count 2 0 ∷ write 0 (13 ∷ 12 ∷ []) ∷ count 2 0 ∷ lit 1 ∷ two Eq 15 16 ∷ true_bit ∷ under 17 (write_bit 3 18) ∷ []) None) no_stage))) ∷
    store 0 0 (whole 2 ∷ []) ∷
    [])))

-- lanes inside of lanes, and memories of each of them
abbrev pub inner_pair : (outer_lane inner_lane t u : ℕ) → List PlainNode
inner_pair a b t u =
    inner [] [] (count 0 a ∷ write t (0 ∷ []) ∷ []) None ∷
    inner [] [] (read t [] ∷ count 1 b ∷ two Add 0 1 ∷ write u (2 ∷ []) ∷ []) None ∷ []

abbrev pub to_output : (u : ℕ) → PlainNode
to_output u = inner [] [] (read u [] ∷ write 0 (0 ∷ []) ∷ []) None

unfoldable pub nested : PlainCore
nested = core (mem_of (codes "y") ArgOut int_type [] None ∷ mem_of (codes "s") Reg int_type [] None ∷ mem_of (codes "t") Reg int_type [] None ∷ mem_of (codes "u") Reg int_type [] None ∷ []) []
    (outer [] Pipe [] (stages (
    outer (below 0 4 1 2 ∷ []) Pipe (1 ∷ 3 ∷ []) (stages (
    outer (below 1 4 1 2 ∷ []) Pipe (2 ∷ []) (stages (inner_pair 0 0 2 3)) ∷
    to_output 3 ∷ [])) ∷
    [])))

unfoldable pub nested_in_lanes : PlainCore
nested_in_lanes = core (mem_of (codes "y") ArgOut int_type [] None ∷ mem_of (codes "s") Reg int_type [] None ∷ mem_of (codes "t") Reg int_type [] None ∷ mem_of (codes "t") Reg int_type [] None ∷ mem_of (codes "u") Reg int_type [] None ∷ mem_of (codes "s") Reg int_type [] None ∷ mem_of (codes "t") Reg int_type [] None ∷ mem_of (codes "t") Reg int_type [] None ∷ mem_of (codes "u") Reg int_type [] None ∷ []) []
    (outer [] Pipe [] (stages (
    outer (below 0 4 1 2 ∷ []) Pipe (1 ∷ 4 ∷ 5 ∷ 8 ∷ []) (
    in_lane 0 (outer (below 1 4 1 2 ∷ []) Pipe (2 ∷ 3 ∷ []) (in_lane 0 (inner_pair 0 0 2 4) (in_lane 1 (inner_pair 0 1 3 4) no_stage)) ∷ to_output 4 ∷ []) (
    in_lane 1 (outer (below 1 4 1 2 ∷ []) Pipe (6 ∷ 7 ∷ []) (in_lane 0 (inner_pair 1 0 6 8) (in_lane 1 (inner_pair 1 1 7 8) no_stage)) ∷ to_output 8 ∷ [])
    no_stage)) ∷
    [])))

-- a counter of the number of one around it, which has lanes; this one has none
unfoldable pub numbered_anew : PlainCore
numbered_anew = core (mem_of (codes "s") Reg int_type [] None ∷ []) []
    (outer [] Pipe [] (stages (
    outer (below 0 4 1 2 ∷ []) Pipe (0 ∷ []) (stages (inner (below 0 4 1 1 ∷ below 1 4 1 1 ∷ []) [] (count 0 0 ∷ write 0 (0 ∷ []) ∷ []) None ∷ [])) ∷
    [])))

-- an FSM in each of two lanes, with a state of its own
abbrev pub own_state : PlainMem
own_state = record { name = codes "state"; kind = Reg; ty = int_type; dims = []; start = None; written = false }

abbrev pub down_from : (lane s state : ℕ) → PlainNode
down_from l s n =
    fsm (count 0 l ∷ []) n (read n [] ∷ lit 0 ∷ two Gt 0 1 ∷ []) (inner [] [] (read n [] ∷ write s (0 ∷ []) ∷ []) None) (read n [] ∷ lit 1 ∷ two Sub 0 1 ∷ [])

unfoldable pub machines : PlainCore
machines = core (mem_of (codes "s") Reg int_type [] None ∷ own_state ∷ []) []
    (outer [] Pipe [] (stages (
    outer (below 0 4 1 2 ∷ []) Pipe (0 ∷ []) (stages (down_from 0 0 1 ∷ [])) ∷
    [])))

unfoldable pub machines_in_lanes : PlainCore
machines_in_lanes = core (mem_of (codes "s") Reg int_type [] None ∷ mem_of (codes "s") Reg int_type [] None ∷ own_state ∷ own_state ∷ []) []
    (outer [] Pipe [] (stages (
    outer (below 0 4 1 2 ∷ []) Pipe (0 ∷ 1 ∷ []) (in_lane 0 (down_from 0 0 2 ∷ []) (in_lane 1 (down_from 1 1 3 ∷ []) no_stage)) ∷
    [])))
