-- The memories and DRAMs that are named, number by number.
use Rattle.std.specs.Prelude.{ℕ, Bool, ◌&&◌, not, List, [], ◌∷◌, ◌++◌, map, Option, Some, None, slice_index_or}
use Rattle.std.specs.List.{list_any}
use Rattle.sp_core.specs.Declarations.{dram_number, is_among}
use Rattle.sp_core.specs.PlainCore.{PlainOp, PlainCounter, PlainSpan, single, range, PlainNode, PlainStages, inner, outer, fsm, branch, load, store, sparse, no_stage, more_stage, PlainCore}

abbrev pub named_by : Option ℕ → List ℕ
named_by None = []
named_by (Some m) = m ∷ []

abbrev pub list_names : List PlainOp → List (List ℕ)
list_names ops = map (λ (op : PlainOp). named_by op.mem) ops

abbrev pub counters_names : List PlainCounter → List (List ℕ)
counters_names [] = []
counters_names (c ∷ counters) = (list_names c.from ++ list_names c.until) ++ counters_names counters

abbrev pub spans_names : List PlainSpan → List (List ℕ)
spans_names [] = []
spans_names (single ops ∷ spans) = list_names ops ++ spans_names spans
spans_names (range a b ∷ spans) = (list_names a ++ list_names b) ++ spans_names spans

module _ (core : PlainCore) where
  -- a transfer names its DRAM and its memories at its own number
  abbrev mutual
    pub names : PlainNode → List (List ℕ)
    names (inner counters owned ops comb) = counters_names counters ++ list_names ops
    names (outer counters style owned stages) = counters_names counters ++ stages_names stages
    names (fsm start state test body next) = (list_names start ++ list_names test) ++ (names body ++ list_names next)
    names (branch test first second) = list_names test ++ (names first ++ names second)
    names (load r m spans) = spans_names spans ++ (dram_number core r ∷ m ∷ []) ∷ []
    names (store r m spans) = spans_names spans ++ (dram_number core r ∷ m ∷ []) ∷ []
    names (sparse kind r m places spans count par) = spans_names spans ++ (list_names count ++ (dram_number core r ∷ m ∷ named_by places) ∷ [])

    pub stages_names : PlainStages → List (List ℕ)
    stages_names no_stage = []
    stages_names (more_stage first last comb node rest) = names node ++ stages_names rest

  abbrev pub names_at : (number : ℕ) → List ℕ
  names_at n = slice_index_or (names core.root) n []

  abbrev pub uses : (mem : ℕ) → PlainNode → Bool
  uses m node = list_any (is_among m) (names node)

  -- two operations or transfers, by number, name one memory that isn't among these
  abbrev pub share_other : (owned : List ℕ) → (a b : ℕ) → Bool
  share_other owned a b = list_any (λ m. is_among m (names_at b) && not (is_among m owned)) (names_at a)
