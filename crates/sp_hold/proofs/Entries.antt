-- How many entries the forms of a core have: one for each access, and a length for each range.
use Rattle.std.proofs.Common.{◌≡◌, ℕ, ◌+◌, Bool, true, false, List, [], ◌∷◌, ◌++◌, length, refl, sym, ◌∙◌, arith, length-append}
use Rattle.std.specs.Prelude.{Option, if◌then◌else◌}
use Rattle.sp_affine.specs.Affine.{Affine}
use Rattle.sp_core.specs.declared.node.SparseKind.TheVariants.{Gather, Scatter, WideLoad, WideStore}
use Rattle.sp_core.specs.NodeRules.{range_count}
use Rattle.sp_core.specs.Numbered.{Numbered, plain, accesses, transfers, list_numbers, counters_numbers, spans_numbers, numbers, stages_numbers, access_count, ranges_count}
use Rattle.sp_core.specs.OperationRules.{is_access}
use Rattle.sp_core.specs.PlainCore.{PlainOp, PlainCounter, PlainSpan, single, range, PlainNode, PlainStages, inner, outer, fsm, branch, load, store, sparse, no_stage, more_stage, PlainMem, PlainCore}
use Rattle.sp_patterns.specs.Indices.{access_forms, range_lengths}
use Rattle.sp_patterns.specs.Patterns.{some_forms, list_forms, bounds_forms, spans_forms, node_forms, stages_forms, node_lengths, stages_lengths}
use Rattle.sp_patterns.specs.Ranges.{PlainAround, nothing_around, inside}
use Rattle.sp_hold.specs.Laws.{HasEntries}

pub count_of_both : (a b : List Numbered) → access_count (a ++ b) ≡ access_count a + access_count b
count_of_both [] b = zero_first (access_count b)
  where
    zero_first : (n : ℕ) → n ≡ 0 + n
    zero_first n = omega arith
count_of_both (plain ∷ a) b = count_of_both a b
count_of_both (accesses ∷ a) b = let h = count_of_both a b in omega arith
count_of_both (transfers n ∷ a) b = let h = count_of_both a b in omega arith

pub ranges_of_both : (a b : List Numbered) → ranges_count (a ++ b) ≡ ranges_count a + ranges_count b
ranges_of_both [] b = zero_first (ranges_count b)
  where
    zero_first : (n : ℕ) → n ≡ 0 + n
    zero_first n = omega arith
ranges_of_both (plain ∷ a) b = ranges_of_both a b
ranges_of_both (accesses ∷ a) b = ranges_of_both a b
ranges_of_both (transfers n ∷ a) b = let h = ranges_of_both a b in omega arith

joined : (a b : List Numbered) (xs ys : List (Option (List Affine))) → length xs ≡ access_count a → length ys ≡ access_count b → length (xs ++ ys) ≡ access_count (a ++ b)
joined a b xs ys h k = omega (arith, length-append xs ys, count_of_both a b)

none_joined : (a b : List Numbered) → ranges_count a ≡ 0 → ranges_count b ≡ 0 → ranges_count (a ++ b) ≡ 0
none_joined a b h k = omega (arith, ranges_of_both a b)

lengths_joined : (a b : List Numbered) (xs ys : List (Option ℕ)) → length xs ≡ ranges_count a → length ys ≡ ranges_count b → length (xs ++ ys) ≡ ranges_count (a ++ b)
lengths_joined a b xs ys h k = omega (arith, length-append xs ys, ranges_of_both a b)

after_none : (a b : List Numbered) (n : ℕ) → ranges_count a ≡ 0 → n ≡ ranges_count b → n ≡ ranges_count (a ++ b)
after_none a b n h k = omega (arith, ranges_of_both a b)

before_none : (a b : List Numbered) (n : ℕ) → n ≡ ranges_count a → ranges_count b ≡ 0 → n ≡ ranges_count (a ++ b)
before_none a b n h k = omega (arith, ranges_of_both a b)

pub no_ranges : (ops : List PlainOp) → ranges_count (list_numbers ops) ≡ 0
no_ranges [] = refl
no_ranges (op ∷ ops) = by_test (is_access op.kind) ∙ no_ranges ops
  where
    by_test : (b : Bool) → ranges_count ((if b then accesses else plain) ∷ list_numbers ops) ≡ ranges_count (list_numbers ops)
    by_test true = refl
    by_test false = refl

pub no_bound_ranges : (counters : List PlainCounter) → ranges_count (counters_numbers counters) ≡ 0
no_bound_ranges [] = refl
no_bound_ranges (c ∷ counters) = none_joined (list_numbers c.from ++ list_numbers c.until) (counters_numbers counters) (none_joined (list_numbers c.from) (list_numbers c.until) (no_ranges c.from) (no_ranges c.until)) (no_bound_ranges counters)

pub no_span_ranges : (spans : List PlainSpan) → ranges_count (spans_numbers spans) ≡ 0
no_span_ranges [] = refl
no_span_ranges (single ops ∷ spans) = none_joined (list_numbers ops) (spans_numbers spans) (no_ranges ops) (no_span_ranges spans)
no_span_ranges (range a b ∷ spans) = none_joined (list_numbers a ++ list_numbers b) (spans_numbers spans) (none_joined (list_numbers a) (list_numbers b) (no_ranges a) (no_ranges b)) (no_span_ranges spans)

one_more : (n : ℕ) → n ≡ n + 0
one_more n = omega arith

module _ (mems : List PlainMem) where
  some_entries : (around : PlainAround) (all ops : List PlainOp) → length (some_forms mems around all ops) ≡ access_count (list_numbers ops)
  some_entries around all [] = refl
  some_entries around all (op ∷ ops) = by_test (is_access op.kind) (some_entries around all ops)
    where
      by_test : (b : Bool) → length (some_forms mems around all ops) ≡ access_count (list_numbers ops) →
          length (if b then access_forms mems around all op ∷ some_forms mems around all ops else some_forms mems around all ops) ≡ access_count ((if b then accesses else plain) ∷ list_numbers ops)
      by_test true h = omega arith
      by_test false h = h

  pub list_entries : (around : PlainAround) (ops : List PlainOp) → length (list_forms mems around ops) ≡ access_count (list_numbers ops)
  list_entries around ops = some_entries around ops ops

  pub bounds_entries : (around : PlainAround) (counters : List PlainCounter) → length (bounds_forms mems around counters) ≡ access_count (counters_numbers counters)
  bounds_entries around [] = refl
  bounds_entries around (c ∷ counters) =
      joined (list_numbers c.from ++ list_numbers c.until) (counters_numbers counters) _ _
      (joined (list_numbers c.from) (list_numbers c.until) _ _ (list_entries around c.from) (list_entries around c.until)) (bounds_entries around counters)

  pub spans_entries : (around : PlainAround) (spans : List PlainSpan) → length (spans_forms mems around spans) ≡ access_count (spans_numbers spans)
  spans_entries around [] = refl
  spans_entries around (single ops ∷ spans) = joined (list_numbers ops) (spans_numbers spans) _ _ (list_entries around ops) (spans_entries around spans)
  spans_entries around (range a b ∷ spans) =
      joined (list_numbers a ++ list_numbers b) (spans_numbers spans) _ _ (joined (list_numbers a) (list_numbers b) _ _ (list_entries around a) (list_entries around b)) (spans_entries around spans)

  pub lengths_entries : (around : PlainAround) (spans : List PlainSpan) → length (range_lengths mems around spans) ≡ range_count spans
  lengths_entries around [] = refl
  lengths_entries around (single ops ∷ spans) = lengths_entries around spans
  lengths_entries around (range a b ∷ spans) = let h = lengths_entries around spans in omega arith

  -- a transfer after the operations of its spans, and of its count
  transfer_entry : (around : PlainAround) (spans : List PlainSpan) (row : Option (List Affine)) (n : ℕ) → length (spans_forms mems around spans ++ row ∷ []) ≡ access_count (spans_numbers spans ++ transfers n ∷ [])
  transfer_entry around spans row n = joined (spans_numbers spans) (transfers n ∷ []) _ (row ∷ []) (spans_entries around spans) refl

  sparse_entry : (around : PlainAround) (spans : List PlainSpan) (count : List PlainOp) (row : Option (List Affine)) (n : ℕ) →
      length (spans_forms mems around spans ++ (list_forms mems around count ++ row ∷ [])) ≡ access_count (spans_numbers spans ++ (list_numbers count ++ transfers n ∷ []))
  sparse_entry around spans count row n =
      joined (spans_numbers spans) (list_numbers count ++ transfers n ∷ []) _ _ (spans_entries around spans) (joined (list_numbers count) (transfers n ∷ []) _ (row ∷ []) (list_entries around count) refl)

  transfer_lengths : (spans : List PlainSpan) (k n : ℕ) → k ≡ n → k ≡ ranges_count (spans_numbers spans ++ transfers n ∷ [])
  transfer_lengths spans k n e = after_none (spans_numbers spans) (transfers n ∷ []) k (no_span_ranges spans) (e ∙ one_more n)

  sparse_ranges : (spans : List PlainSpan) (count : List PlainOp) (k n : ℕ) → k ≡ n → k ≡ ranges_count (spans_numbers spans ++ (list_numbers count ++ transfers n ∷ []))
  sparse_ranges spans count k n e =
      after_none (spans_numbers spans) (list_numbers count ++ transfers n ∷ []) k (no_span_ranges spans) (after_none (list_numbers count) (transfers n ∷ []) k (no_ranges count) (e ∙ one_more n))

  mutual
    pub node_entries : (around : PlainAround) (node : PlainNode) → length (node_forms mems around node) ≡ access_count (numbers node)
    node_entries around (inner counters owned ops comb) = joined (counters_numbers counters) (list_numbers ops) _ _ (bounds_entries around counters) (list_entries (inside mems around counters) ops)
    node_entries around (outer counters style owned stages) = joined (counters_numbers counters) (stages_numbers stages) _ _ (bounds_entries around counters) (stages_entries (inside mems around counters) stages)
    node_entries around (fsm start state test body next) =
        joined (list_numbers start ++ list_numbers test) (numbers body ++ list_numbers next) _ _ (joined (list_numbers start) (list_numbers test) _ _ (list_entries around start) (list_entries around test))
        (joined (numbers body) (list_numbers next) _ _ (node_entries around body) (list_entries around next))
    node_entries around (branch test first second) =
        joined (list_numbers test) (numbers first ++ numbers second) _ _ (list_entries around test) (joined (numbers first) (numbers second) _ _ (node_entries around first) (node_entries around second))
    node_entries around (load r m spans) = transfer_entry around spans _ (range_count spans)
    node_entries around (store r m spans) = transfer_entry around spans _ (range_count spans)
    node_entries around (sparse Gather r m places spans count par) = sparse_entry around spans count _ 1
    node_entries around (sparse Scatter r m places spans count par) = sparse_entry around spans count _ 1
    node_entries around (sparse WideLoad r m places spans count par) = sparse_entry around spans count _ (range_count spans)
    node_entries around (sparse WideStore r m places spans count par) = sparse_entry around spans count _ (range_count spans)

    pub stages_entries : (around : PlainAround) (stages : PlainStages) → length (stages_forms mems around stages) ≡ access_count (stages_numbers stages)
    stages_entries around no_stage = refl
    stages_entries around (more_stage first last comb node rest) = joined (numbers node) (stages_numbers rest) _ _ (node_entries around node) (stages_entries around rest)

  mutual
    pub node_ranges : (around : PlainAround) (node : PlainNode) → length (node_lengths mems around node) ≡ ranges_count (numbers node)
    node_ranges around (inner counters owned ops comb) = sym (none_joined (counters_numbers counters) (list_numbers ops) (no_bound_ranges counters) (no_ranges ops))
    node_ranges around (outer counters style owned stages) = after_none (counters_numbers counters) (stages_numbers stages) _ (no_bound_ranges counters) (stages_ranges (inside mems around counters) stages)
    node_ranges around (fsm start state test body next) =
        after_none (list_numbers start ++ list_numbers test) (numbers body ++ list_numbers next) _ (none_joined (list_numbers start) (list_numbers test) (no_ranges start) (no_ranges test))
        (before_none (numbers body) (list_numbers next) _ (node_ranges around body) (no_ranges next))
    node_ranges around (branch test first second) =
        after_none (list_numbers test) (numbers first ++ numbers second) _ (no_ranges test) (lengths_joined (numbers first) (numbers second) _ _ (node_ranges around first) (node_ranges around second))
    node_ranges around (load r m spans) = transfer_lengths spans _ (range_count spans) (lengths_entries around spans)
    node_ranges around (store r m spans) = transfer_lengths spans _ (range_count spans) (lengths_entries around spans)
    node_ranges around (sparse Gather r m places spans count par) = sparse_ranges spans count _ 1 refl
    node_ranges around (sparse Scatter r m places spans count par) = sparse_ranges spans count _ 1 refl
    node_ranges around (sparse WideLoad r m places spans count par) = sparse_ranges spans count _ (range_count spans) (lengths_entries around spans)
    node_ranges around (sparse WideStore r m places spans count par) = sparse_ranges spans count _ (range_count spans) (lengths_entries around spans)

    pub stages_ranges : (around : PlainAround) (stages : PlainStages) → length (stages_lengths mems around stages) ≡ ranges_count (stages_numbers stages)
    stages_ranges around no_stage = refl
    stages_ranges around (more_stage first last comb node rest) = lengths_joined (numbers node) (stages_numbers rest) _ _ (node_ranges around node) (stages_ranges around rest)

pub entries_are : (core : PlainCore) → HasEntries core
entries_are core = record { forms = node_entries core.mems nothing_around core.root; lengths = node_ranges core.mems nothing_around core.root }
