-- What stands at each number of a core: the numbers of operations and transfers, in preorder.
use Rattle.std.specs.Prelude.{ℕ, ◌+◌, List, [], ◌∷◌, ◌++◌, map, take, slice_index_or, if◌then◌else◌}
use Rattle.sp_core.specs.declared.node.SparseKind.TheVariants.{Gather, Scatter}
use Rattle.sp_core.specs.OperationRules.{is_access}
use Rattle.sp_core.specs.NodeRules.{range_count}
use Rattle.sp_core.specs.PlainCore.{PlainOp, PlainCounter, PlainSpan, single, range, PlainNode, PlainStages, inner, outer, fsm, branch, load, store, sparse, no_stage, more_stage, PlainCore}

pub data Numbered : Type 0 where
  -- an operation that touches no memory, and an access to one
  plain : Numbered
  accesses : Numbered
  -- a transfer with so many ranges; a gather or scatter has one, its count
  transfers : (ranges : ℕ) → Numbered

abbrev pub list_numbers : List PlainOp → List Numbered
list_numbers ops = map (λ op. if is_access op.kind then accesses else plain) ops

abbrev pub counters_numbers : List PlainCounter → List Numbered
counters_numbers [] = []
counters_numbers (c ∷ counters) = (list_numbers c.from ++ list_numbers c.until) ++ counters_numbers counters

abbrev pub spans_numbers : List PlainSpan → List Numbered
spans_numbers [] = []
spans_numbers (single ops ∷ spans) = list_numbers ops ++ spans_numbers spans
spans_numbers (range a b ∷ spans) = (list_numbers a ++ list_numbers b) ++ spans_numbers spans

abbrev mutual
  pub numbers : PlainNode → List Numbered
  numbers (inner counters owned ops comb) = counters_numbers counters ++ list_numbers ops
  numbers (outer counters style owned stages) = counters_numbers counters ++ stages_numbers stages
  numbers (fsm start state test body next) = (list_numbers start ++ list_numbers test) ++ (numbers body ++ list_numbers next)
  numbers (branch test first second) = list_numbers test ++ (numbers first ++ numbers second)
  numbers (load r m spans) = spans_numbers spans ++ transfers (range_count spans) ∷ []
  numbers (store r m spans) = spans_numbers spans ++ transfers (range_count spans) ∷ []
  numbers (sparse Gather r m places spans count par) = spans_numbers spans ++ (list_numbers count ++ transfers 1 ∷ [])
  numbers (sparse Scatter r m places spans count par) = spans_numbers spans ++ (list_numbers count ++ transfers 1 ∷ [])
  numbers (sparse kind r m places spans count par) = spans_numbers spans ++ (list_numbers count ++ transfers (range_count spans) ∷ [])

  pub stages_numbers : PlainStages → List Numbered
  stages_numbers no_stage = []
  stages_numbers (more_stage first last comb node rest) = numbers node ++ stages_numbers rest

-- how many accesses, transfers among them, and how many ranges there are
abbrev pub access_count : List Numbered → ℕ
access_count [] = 0
access_count (plain ∷ rest) = access_count rest
access_count (accesses ∷ rest) = 1 + access_count rest
access_count (transfers ranges ∷ rest) = 1 + access_count rest

abbrev pub ranges_count : List Numbered → ℕ
ranges_count [] = 0
ranges_count (transfers ranges ∷ rest) = ranges + ranges_count rest
ranges_count (_ ∷ rest) = ranges_count rest

-- what stands at a number, and how many accesses and ranges stand before it
abbrev pub numbered : PlainCore → ℕ → Numbered
numbered core n = slice_index_or (numbers core.root) n plain

abbrev pub access_number : PlainCore → ℕ → ℕ
access_number core n = access_count (take n (numbers core.root))

abbrev pub range_number : PlainCore → ℕ → ℕ
range_number core n = ranges_count (take n (numbers core.root))
