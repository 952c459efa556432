-- How many numbers the parts of a core take.
use Rattle.std.proofs.Common.{◌≡◌, ℕ, suc, ◌+◌, List, [], ◌∷◌, ◌++◌, length, refl, ap, arith, length-append}
use Rattle.sp_core.specs.declared.node.SparseKind.TheVariants.{Gather, Scatter, WideLoad, WideStore}
use Rattle.sp_core.specs.NodeRules.{range_count}
use Rattle.sp_core.specs.Numbered.{Numbered, transfers, list_numbers, counters_numbers, spans_numbers, numbers, stages_numbers}
use Rattle.sp_core.specs.Numbering.{counters_size, spans_size, number_count, number_count_in}
use Rattle.sp_core.specs.PlainCore.{PlainOp, PlainCounter, PlainSpan, single, range, PlainNode, PlainStages, inner, outer, fsm, branch, load, store, sparse, no_stage, more_stage}

pub both_many : (ns ms : List Numbered) (a b : ℕ) → length ns ≡ a → length ms ≡ b → length (ns ++ ms) ≡ a + b
both_many ns ms a b h k = omega (arith, h, k, length-append ns ms)

pub list_size : (ops : List PlainOp) → length (list_numbers ops) ≡ length ops
list_size [] = refl
list_size (op ∷ ops) = ap suc (list_size ops)

pub bounds_size : (counters : List PlainCounter) → length (counters_numbers counters) ≡ counters_size counters
bounds_size [] = refl
bounds_size (c ∷ counters) = both_many (list_numbers c.from ++ list_numbers c.until) (counters_numbers counters) _ _ (both_many (list_numbers c.from) (list_numbers c.until) _ _ (list_size c.from) (list_size c.until)) (bounds_size counters)

pub all_spans_size : (spans : List PlainSpan) → length (spans_numbers spans) ≡ spans_size spans
all_spans_size [] = refl
all_spans_size (single ops ∷ spans) = both_many (list_numbers ops) (spans_numbers spans) _ _ (list_size ops) (all_spans_size spans)
all_spans_size (range a b ∷ spans) = both_many (list_numbers a ++ list_numbers b) (spans_numbers spans) _ _ (both_many (list_numbers a) (list_numbers b) _ _ (list_size a) (list_size b)) (all_spans_size spans)

transfer_size : (spans : List PlainSpan) (n : ℕ) → length (spans_numbers spans ++ transfers n ∷ []) ≡ spans_size spans + 1
transfer_size spans n = both_many (spans_numbers spans) (transfers n ∷ []) _ 1 (all_spans_size spans) refl

sparse_size : (spans : List PlainSpan) (count : List PlainOp) (n : ℕ) → length (spans_numbers spans ++ (list_numbers count ++ transfers n ∷ [])) ≡ spans_size spans + (length count + 1)
sparse_size spans count n = both_many (spans_numbers spans) (list_numbers count ++ transfers n ∷ []) _ _ (all_spans_size spans) (both_many (list_numbers count) (transfers n ∷ []) _ 1 (list_size count) refl)

mutual
  pub node_size : (node : PlainNode) → length (numbers node) ≡ number_count node
  node_size (inner counters owned ops comb) = both_many (counters_numbers counters) (list_numbers ops) _ _ (bounds_size counters) (list_size ops)
  node_size (outer counters style owned stages) = both_many (counters_numbers counters) (stages_numbers stages) _ _ (bounds_size counters) (stages_size stages)
  node_size (fsm start state test body next) =
      both_many (list_numbers start ++ list_numbers test) (numbers body ++ list_numbers next) _ _ (both_many (list_numbers start) (list_numbers test) _ _ (list_size start) (list_size test)) (both_many (numbers body) (list_numbers next) _ _ (node_size body) (list_size next))
  node_size (branch test first second) = both_many (list_numbers test) (numbers first ++ numbers second) _ _ (list_size test) (both_many (numbers first) (numbers second) _ _ (node_size first) (node_size second))
  node_size (load r m spans) = transfer_size spans (range_count spans)
  node_size (store r m spans) = transfer_size spans (range_count spans)
  node_size (sparse Gather r m index spans count par) = sparse_size spans count 1
  node_size (sparse Scatter r m index spans count par) = sparse_size spans count 1
  node_size (sparse WideLoad r m index spans count par) = sparse_size spans count (range_count spans)
  node_size (sparse WideStore r m index spans count par) = sparse_size spans count (range_count spans)

  pub stages_size : (stages : PlainStages) → length (stages_numbers stages) ≡ number_count_in stages
  stages_size no_stage = refl
  stages_size (more_stage first last comb node rest) = both_many (numbers node) (stages_numbers rest) _ _ (node_size node) (stages_size rest)
