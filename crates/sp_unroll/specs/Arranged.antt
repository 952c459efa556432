-- Lists of memories that are placed among others, from the last one on.
use Rattle.std.specs.Prelude.{ℕ, Bool, true, false, not, filter, List, [], ◌∷◌, map, slice_index_or, if◌then◌else◌}
use Rattle.std.specs.Global.{Vec}
use Rattle.sp_core.specs.Around.{is_port_kind}
use Rattle.sp_core.specs.Elements.{numbers_below}
use Rattle.sp_core.specs.PlainCore.{PlainMem, no_mem, PlainStages, no_stage, more_stage}
use Rattle.sp_lanes.specs.Order.{placed, in_turn, memories_in}

abbrev pub lists_of : List (Vec ℕ) → List (List ℕ)
lists_of all = map (λ (v : Vec ℕ). v.items) all

abbrev pub placed_all : List (List ℕ) → List (List ℕ) → List (List ℕ)
placed_all [] lists = lists
placed_all (part ∷ parts) lists = placed part (placed_all parts lists)

-- one list of lists of memories, in the order of their first numbers
abbrev pub arranged : List (List ℕ) → List ℕ
arranged parts = in_turn (placed_all parts [])

-- whether a memory stands in the text, or doesn't
abbrev pub is_kept : List PlainMem → (written : Bool) → ℕ → Bool
is_kept mems true m = (slice_index_or mems m no_mem).written
is_kept mems false m = not (slice_index_or mems m no_mem).written

-- each memory that is kept, by itself
abbrev pub singles : (ℕ → Bool) → List ℕ → List (List ℕ)
singles kept [] = []
singles kept (m ∷ owned) = if kept m then (m ∷ []) ∷ singles kept owned else singles kept owned

-- the arguments and outputs among the first memories
abbrev pub ports_below : List PlainMem → ℕ → List ℕ
ports_below mems n = filter (λ m. is_port_kind (slice_index_or mems m no_mem).kind) (numbers_below n)

-- the memories of each stage
module _ (kept : ℕ → Bool) where
  abbrev pub parts_of : PlainStages → List (List ℕ)
  parts_of no_stage = []
  parts_of (more_stage first last comb node rest) = memories_in kept node ∷ parts_of rest
