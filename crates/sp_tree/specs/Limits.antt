-- The greatest that each count of a program may be.
use Rattle.std.specs.Prelude.{ℕ, ◌≤◌}
use Rattle.sp_tree.specs.Counts.{node_count, lane_count, body_count, operation_count, chip_words, copy_count, dram_count}
use Rattle.sp_tree.specs.PlainProgram.{PlainProgram}

abbrev pub most_nodes : ℕ
most_nodes = 20000

abbrev pub most_lanes : ℕ
most_lanes = 16

abbrev pub most_in_one_run : ℕ
most_in_one_run = 2048

abbrev pub most_operations : ℕ
most_operations = 8192

abbrev pub most_words : ℕ
most_words = 4194304

abbrev pub most_copies : ℕ
most_copies = 16777216

abbrev pub most_dram_words : ℕ
most_dram_words = 67108864

-- each count is within its limit
pub record IsWithinLimits (p : PlainProgram) : Type 0 where
  pub nodes : node_count p ≤ most_nodes
  pub lanes : lane_count p ≤ most_lanes
  pub in_one_run : body_count p ≤ most_in_one_run
  pub operations : operation_count p ≤ most_operations
  pub words : chip_words p ≤ most_words
  pub copies : copy_count p ≤ most_copies
  pub dram : dram_count p ≤ most_dram_words
