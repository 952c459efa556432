-- The first count of a program that is past its limit.
use Rattle.std.specs.Prelude.{ℕ, nat_le, List, [], Option, Some, None, if◌then◌else◌}
use Rattle.sp_tree.specs.Counts.{node_count, lane_count, body_count, operation_count, chip_words, copy_count, dram_count}
use Rattle.sp_tree.specs.Limits.{most_nodes, most_lanes, most_in_one_run, most_operations, most_words, most_copies, most_dram_words}
use Rattle.sp_tree.specs.PlainProgram.{PlainMem, PlainProgram}
use Rattle.sp_tree.specs.PlainStatement.{PlainStmts}
use Rattle.sp_counts.specs.declared.over.Over.{Over}
use Rattle.sp_counts.specs.declared.over.Which.{Which}
use Rattle.sp_counts.specs.declared.over.Which.TheVariants as which
use Rattle.sp_counts.specs.Capped.{capped}

-- this count where it is past its limit, else what comes after it
abbrev pub past : Which → (count most : ℕ) → Option Over → Option Over
past w count most after = if nat_le count most then after else Some (record { which = w; count = capped count })

-- in the order of the limits
abbrev pub first_over : PlainProgram → Option Over
first_over p =
    past which.Nodes (node_count p) most_nodes
    (past which.Lanes (lane_count p) most_lanes
    (past which.Body (body_count p) most_in_one_run
    (past which.Operations (operation_count p) most_operations
    (past which.Words (chip_words p) most_words
    (past which.Copies (copy_count p) most_copies
    (past which.Dram (dram_count p) most_dram_words None))))))

-- a program of these memories and this block, without names
abbrev pub parts_of : List PlainMem → PlainStmts → PlainProgram
parts_of mems body = record { ports = record { args = []; outs = []; drams = [] }; mems = mems; vals = []; counters = []; body = body }
