-- The memories of a core whose lanes stand one after the other, each by the number that it has in the core. First come
-- those of the program's text, in the order of the text, with those of a body of several lanes once for each lane; then,
-- in the same way, those that the compiler adds.
use Rattle.std.specs.Prelude.{ℕ, zero, suc, ◌==◌, Bool, true, not, nat_lt, List, [], ◌∷◌, ◌++◌, length, filter, flat_map, if◌then◌else◌}
use Rattle.sp_core.specs.Around.{lanes_of, is_port_kind}
use Rattle.sp_core.specs.Declarations.{mem}
use Rattle.sp_core.specs.Elements.{numbers_below}
use Rattle.sp_core.specs.PlainCore.{PlainNode, PlainStages, inner, outer, fsm, branch, no_stage, more_stage, PlainCore}

-- whether a number is below the first of a list
abbrev pub is_before : ℕ → List ℕ → Bool
is_before m [] = true
is_before m (k ∷ ks) = nat_lt m k

-- a list among others, which stand in the order of their first numbers
abbrev pub placed : List ℕ → List (List ℕ) → List (List ℕ)
placed [] lists = lists
placed (m ∷ ms) [] = (m ∷ ms) ∷ []
placed (m ∷ ms) (list ∷ lists) = if is_before m list then (m ∷ ms) ∷ list ∷ lists else list ∷ placed (m ∷ ms) lists

abbrev pub in_turn : List (List ℕ) → List ℕ
in_turn lists = flat_map (λ list. list) lists

-- a list so many times
abbrev pub repeated : ℕ → List ℕ → List ℕ
repeated zero list = []
repeated (suc n) list = list ++ repeated n list

-- of the memories for which the test holds
module _ (is_kept : ℕ → Bool) where
  -- each by itself
  abbrev pub with_owned : (owned : List ℕ) → List (List ℕ) → List (List ℕ)
  with_owned [] lists = lists
  with_owned (m ∷ owned) lists = if is_kept m then placed (m ∷ []) (with_owned owned lists) else with_owned owned lists

  -- those of a node and of the nodes in it, lane by lane
  unfoldable mutual
    pub memories_in : PlainNode → List ℕ
    memories_in (inner counters owned ops comb) = repeated (lanes_of counters) (in_turn (with_owned owned []))
    memories_in (outer counters style owned stages) = repeated (lanes_of counters) (in_turn (with_owned owned (memories_of stages)))
    memories_in (fsm start state test body next) = in_turn (with_owned (state ∷ []) (placed (memories_in body) []))
    memories_in (branch test first second) = in_turn (placed (memories_in first) (placed (memories_in second) []))
    memories_in _ = []

    pub memories_of : PlainStages → List (List ℕ)
    memories_of no_stage = []
    memories_of (more_stage first last comb node rest) = placed (memories_in node) (memories_of rest)

module _ (core : PlainCore) where
  abbrev pub is_port : ℕ → Bool
  is_port m = is_port_kind (mem core m).kind

  abbrev pub is_written : ℕ → Bool
  is_written m = (mem core m).written

  abbrev pub is_added : ℕ → Bool
  is_added m = not (is_written m)

  -- arguments and outputs have no owner
  abbrev pub memories_where : (ℕ → Bool) → List ℕ
  memories_where is_kept = in_turn (with_owned is_kept (filter is_port (numbers_below (length core.mems))) (placed (memories_in is_kept core.root) []))

  abbrev pub memory_order : List ℕ
  memory_order = memories_where is_written ++ memories_where is_added

-- where a number stands in a list for the k-th time, from 0
abbrev pub occurrence : (m k : ℕ) → List ℕ → ℕ
occurrence m k [] = 0
occurrence m k (x ∷ rest) = if x == m then elim k [ zero ↦ 0 | suc j ↦ suc (occurrence m j rest) ] else suc (occurrence m k rest)
