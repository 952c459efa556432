-- What stands at the numbers of a part.
use Rattle.std.proofs.Common.{◌≡◌, ℕ, suc, ◌+◌, ◌<◌, ◌≤◌, List, [], ◌∷◌, ◌++◌, length, arith, refl, sym, ap, ◌∙◌}
use Rattle.std.proofs.Math.Seq.{get_or-append_right}
use Rattle.std.proofs.lemmas.List.{get_or_append_left, length-append}
use Rattle.std.specs.Prelude.{◌-◌, slice_index_or}
use Rattle.sp_core.specs.declared.node.SparseKind.{SparseKind}
use Rattle.sp_core.specs.declared.node.SparseKind.TheVariants.{Gather, Scatter, WideLoad, WideStore}
use Rattle.sp_core.specs.Numbered.{Numbered, plain, transfers, list_numbers, counters_numbers, spans_numbers, numbers, stages_numbers, numbered}
use Rattle.sp_core.specs.NodeRules.{range_count}
use Rattle.sp_core.specs.Numbering.{counters_size, spans_size, number_count, number_count_in}
use Rattle.sp_core.specs.PlainCore.{PlainOp, PlainCounter, PlainSpan, single, range, PlainNode, PlainStages, inner, outer, fsm, branch, load, store, sparse, no_stage, more_stage, PlainCore}

-- these stand at the numbers from one on
abbrev pub AreNumbered : PlainCore → ℕ → List Numbered → Type 0
AreNumbered core n xs = (i : ℕ) → i < length xs → numbered core (n + i) ≡ slice_index_or xs i plain

pub numbered_left : (core : PlainCore) (n : ℕ) (a b : List Numbered) → AreNumbered core n (a ++ b) → AreNumbered core n a
numbered_left core n a b h i l = h i (let e : length (a ++ b) ≡ length a + length b = length-append a b in omega arith) ∙ get_or_append_left a b plain i l

pub numbered_right : (core : PlainCore) (n m : ℕ) (a b : List Numbered) → n + length a ≡ m → AreNumbered core n (a ++ b) → AreNumbered core m b
numbered_right core n m a b q h i l =
    ap (numbered core) (let e : m + i ≡ n + (length a + i) = omega arith in e)
    ∙ h (length a + i) (let e : length (a ++ b) ≡ length a + length b = length-append a b in omega arith)
    ∙ get_or-append_right a b (length a + i) plain (omega arith) ∙ ap (λ k. slice_index_or b k plain) (let e : length a + i - length a ≡ i = omega arith in e)

-- how many there are
pub list_many : (ops : List PlainOp) → length (list_numbers ops) ≡ length ops
list_many [] = refl
list_many (op ∷ ops) = ap suc (list_many ops)

many_of_two : (xs ys : List Numbered) (m n : ℕ) → length xs ≡ m → length ys ≡ n → length (xs ++ ys) ≡ m + n
many_of_two xs ys m n e f = let q : length (xs ++ ys) ≡ length xs + length ys = length-append xs ys in omega arith

pub two_many : (a b : List PlainOp) → length (list_numbers a ++ list_numbers b) ≡ length a + length b
two_many a b = many_of_two (list_numbers a) (list_numbers b) (length a) (length b) (list_many a) (list_many b)

pub counters_many : (counters : List PlainCounter) → length (counters_numbers counters) ≡ counters_size counters
counters_many [] = refl
counters_many (c ∷ counters) = many_of_two (list_numbers c.from ++ list_numbers c.until) (counters_numbers counters) (length c.from + length c.until) (counters_size counters) (two_many c.from c.until) (counters_many counters)

spans_many : (spans : List PlainSpan) → length (spans_numbers spans) ≡ spans_size spans
spans_many [] = refl
spans_many (single ops ∷ spans) = many_of_two (list_numbers ops) (spans_numbers spans) (length ops) (spans_size spans) (list_many ops) (spans_many spans)
spans_many (range a b ∷ spans) = many_of_two (list_numbers a ++ list_numbers b) (spans_numbers spans) (length a + length b) (spans_size spans) (two_many a b) (spans_many spans)

counted_many : (spans : List PlainSpan) (count : List PlainOp) (x : Numbered) → length (spans_numbers spans ++ (list_numbers count ++ x ∷ [])) ≡ spans_size spans + (length count + 1)
counted_many spans count x = many_of_two (spans_numbers spans) (list_numbers count ++ x ∷ []) (spans_size spans) (length count + 1) (spans_many spans) (many_of_two (list_numbers count) (x ∷ []) (length count) 1 (list_many count) refl)

mutual
  pub node_many : (node : PlainNode) → length (numbers node) ≡ number_count node
  node_many (inner counters owned ops comb) = many_of_two (counters_numbers counters) (list_numbers ops) (counters_size counters) (length ops) (counters_many counters) (list_many ops)
  node_many (outer counters style owned stages) = many_of_two (counters_numbers counters) (stages_numbers stages) (counters_size counters) (number_count_in stages) (counters_many counters) (stages_many stages)
  node_many (fsm start state test body next) =
      many_of_two (list_numbers start ++ list_numbers test) (numbers body ++ list_numbers next) (length start + length test) (number_count body + length next) (two_many start test)
      (many_of_two (numbers body) (list_numbers next) (number_count body) (length next) (node_many body) (list_many next))
  node_many (branch test first second) =
      many_of_two (list_numbers test) (numbers first ++ numbers second) (length test) (number_count first + number_count second) (list_many test)
      (many_of_two (numbers first) (numbers second) (number_count first) (number_count second) (node_many first) (node_many second))
  node_many (load r m spans) = many_of_two (spans_numbers spans) (transfers (range_count spans) ∷ []) (spans_size spans) 1 (spans_many spans) refl
  node_many (store r m spans) = many_of_two (spans_numbers spans) (transfers (range_count spans) ∷ []) (spans_size spans) 1 (spans_many spans) refl
  node_many (sparse Gather r m places spans count par) = counted_many spans count (transfers 1)
  node_many (sparse Scatter r m places spans count par) = counted_many spans count (transfers 1)
  node_many (sparse WideLoad r m places spans count par) = counted_many spans count (transfers (range_count spans))
  node_many (sparse WideStore r m places spans count par) = counted_many spans count (transfers (range_count spans))

  pub stages_many : (stages : PlainStages) → length (stages_numbers stages) ≡ number_count_in stages
  stages_many no_stage = refl
  stages_many (more_stage first last comb node rest) = many_of_two (numbers node) (stages_numbers rest) (number_count node) (number_count_in rest) (node_many node) (stages_many rest)
