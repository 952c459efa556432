-- The readers of a memory, each of which has a duplicate of a memory with banks to itself.
use Rattle.std.specs.Prelude.{ℕ, ◌+◌, ◌-◌, ◌==◌, nat_le, min, Bool, List, [], ◌∷◌, ◌++◌, length, slice_index_or, if◌then◌else◌}
use Rattle.sp_core.specs.Numbering.{counters_size, spans_size, number_count}
use Rattle.sp_core.specs.PlainCore.{PlainNode, PlainStages, inner, outer, fsm, branch, load, store, sparse, no_stage, more_stage, PlainCore}
use Rattle.sp_plan.specs.Copies.{one_if, reads, sparse_reads}
use Rattle.sp_plan.specs.PlainPlan.{PlainPlan, mem_plan}

-- a reader does the operations or the transfer of the numbers from one up to another
pub record Reader : Type 0 where
  pub from : ℕ
  pub until : ℕ

abbrev pub reader_if : Bool → (from count : ℕ) → List Reader
reader_if b n k = if b then record { from = n; until = n + k } ∷ [] else []

module _ (core : PlainCore) where
  -- those of a memory in a node, in the order of their numbers, by the number of the node's first operation: inner bodies,
  -- starts, tests, nexts, stores, and gathers and scatters
  abbrev mutual
    pub readers_in : (mem number : ℕ) → PlainNode → List Reader
    readers_in m n (inner counters owned ops comb) = reader_if (reads core m ops) (n + counters_size counters) (length ops)
    readers_in m n (outer counters style owned stages) = readers_in_stages m (n + counters_size counters) stages
    readers_in m n (fsm start state test body next) =
        (reader_if (reads core m start) n (length start) ++ reader_if (reads core m test) (n + length start) (length test))
        ++ (readers_in m (n + (length start + length test)) body ++ reader_if (reads core m next) (n + (length start + (length test + number_count body))) (length next))
    readers_in m n (branch test first second) =
        reader_if (reads core m test) n (length test) ++ (readers_in m (n + length test) first ++ readers_in m (n + (length test + number_count first)) second)
    readers_in m n (load r s spans) = []
    readers_in m n (store r s spans) = reader_if (s == m) (n + spans_size spans) 1
    readers_in m n (sparse kind r s places spans count par) = reader_if (sparse_reads core kind s places m) (n + (spans_size spans + length count)) 1

    pub readers_in_stages : (mem number : ℕ) → PlainStages → List Reader
    readers_in_stages m n no_stage = []
    readers_in_stages m n (more_stage first last comb node rest) = readers_in m n node ++ readers_in_stages m (n + number_count node) rest

  abbrev pub readers_of : (mem : ℕ) → List Reader
  readers_of m = readers_in m 0 core.root

abbrev pub reader_at : List Reader → ℕ → Reader
reader_at readers i = slice_index_or readers i (record { from = 0; until = 0 })

-- how many of these end at or before a number: of a number that one of them does, how many stand before it
abbrev pub over_at : (number : ℕ) → List Reader → ℕ
over_at n [] = 0
over_at n (r ∷ readers) = one_if (nat_le r.until n) + over_at n readers

-- the first reader has duplicate 0, and each later one the next, as long as the plan has so many; the others share the last one
abbrev pub duplicate_at : PlainCore → PlainPlan → (mem number : ℕ) → ℕ
duplicate_at core plan m n = min (over_at n (readers_of core m)) ((mem_plan plan m).duplicates - 1)
