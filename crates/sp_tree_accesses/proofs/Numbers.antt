-- What stands at a number of a core stands in the list of its tree that has the number.
use Rattle.std.proofs.Common.{ℕ, ◌+◌, ◌⊎◌, inl, inr, List, [], ◌∷◌, ◌++◌, length}
use Rattle.sp_core.specs.Numbering.{counters_size, spans_size, number_count}
use Rattle.sp_core.specs.PlainCore.{PlainOp, PlainCounter, PlainSpan, single, range, PlainNode, PlainStages, inner, outer, fsm, branch, load, store, sparse, no_stage, more_stage}
use Rattle.sp_tree_events.specs.ToldItems.{operation, IsListed, CountersHave, SpansHave, NodeHas, StagesHave}
use Rattle.sp_tree_handed.specs.Lists.{NumberedOps, numbered, bounds_in, spans_in, lists_in, lists_in_stages}

abbrev pub HasIn : List NumberedOps → (x : ℕ) → PlainOp → Type 0
HasIn [] x op = ⊥
HasIn (list ∷ lists) x op = IsListed list.ops list.number x op ⊎ HasIn lists x op

module _ (x : ℕ) (op : PlainOp) where
  in_first : (xs ys : List NumberedOps) → HasIn xs x op → HasIn (xs ++ ys) x op
  in_first [] ys h = absurd h
  in_first (list ∷ xs) ys (inl h) = inl h
  in_first (list ∷ xs) ys (inr h) = inr (in_first xs ys h)

  in_second : (xs ys : List NumberedOps) → HasIn ys x op → HasIn (xs ++ ys) x op
  in_second [] ys h = h
  in_second (list ∷ xs) ys h = inr (in_second xs ys h)

  in_either : (xs ys : List NumberedOps) → HasIn (xs ++ ys) x op → HasIn xs x op ⊎ HasIn ys x op
  in_either [] ys h = inr h
  in_either (list ∷ xs) ys (inl h) = inl (inl h)
  in_either (list ∷ xs) ys (inr h) = elim (in_either xs ys h) [ inl w ↦ inl (inr w) | inr w ↦ inr w ]

  in_bounds : (counters : List PlainCounter) (n : ℕ) → CountersHave counters n x (operation op) → HasIn (bounds_in counters n) x op
  in_bounds [] n h = h
  in_bounds (c ∷ counters) n (inl (inl h)) = inl h
  in_bounds (c ∷ counters) n (inl (inr h)) = inr (inl h)
  in_bounds (c ∷ counters) n (inr h) = inr (inr (in_bounds counters (n + (length c.from + length c.until)) h))

  in_spans : (spans : List PlainSpan) (n : ℕ) → SpansHave spans n x (operation op) → HasIn (spans_in spans n) x op
  in_spans [] n h = h
  in_spans (single ops ∷ spans) n (inl h) = inl h
  in_spans (single ops ∷ spans) n (inr h) = inr (in_spans spans (n + length ops) h)
  in_spans (range a b ∷ spans) n (inl (inl h)) = inl h
  in_spans (range a b ∷ spans) n (inl (inr h)) = inr (inl h)
  in_spans (range a b ∷ spans) n (inr h) = inr (inr (in_spans spans (n + (length a + length b)) h))

  mutual
    pub in_lists : (node : PlainNode) (n : ℕ) → NodeHas node n x (operation op) → HasIn (lists_in node n) x op
    in_lists (inner counters owned ops comb) n (inl h) = in_first (bounds_in counters n) (numbered (n + counters_size counters) ops ∷ []) (in_bounds counters n h)
    in_lists (inner counters owned ops comb) n (inr h) = in_second (bounds_in counters n) (numbered (n + counters_size counters) ops ∷ []) (inl h)
    in_lists (outer counters style owned stages) n (inl h) = in_first (bounds_in counters n) (lists_in_stages stages (n + counters_size counters)) (in_bounds counters n h)
    in_lists (outer counters style owned stages) n (inr h) = in_second (bounds_in counters n) (lists_in_stages stages (n + counters_size counters)) (in_stages stages (n + counters_size counters) h)
    in_lists (fsm start state test body next) n (inl (inl h)) = inl h
    in_lists (fsm start state test body next) n (inl (inr h)) = inr (inl h)
    in_lists (fsm start state test body next) n (inr (inl h)) =
        inr (inr (in_first (lists_in body (n + (length start + length test))) (numbered (n + (length start + (length test + number_count body))) next ∷ []) (in_lists body (n + (length start + length test)) h)))
    in_lists (fsm start state test body next) n (inr (inr h)) = inr (inr (in_second (lists_in body (n + (length start + length test))) (numbered (n + (length start + (length test + number_count body))) next ∷ []) (inl h)))
    in_lists (branch test first second) n (inl h) = inl h
    in_lists (branch test first second) n (inr (inl h)) = inr (in_first (lists_in first (n + length test)) (lists_in second (n + (length test + number_count first))) (in_lists first (n + length test) h))
    in_lists (branch test first second) n (inr (inr h)) =
        inr (in_second (lists_in first (n + length test)) (lists_in second (n + (length test + number_count first))) (in_lists second (n + (length test + number_count first)) h))
    in_lists (load r m spans) n (inl h) = in_spans spans n h
    in_lists (load r m spans) n (inr h) = absurd h
    in_lists (store r m spans) n (inl h) = in_spans spans n h
    in_lists (store r m spans) n (inr h) = absurd h
    in_lists (sparse kind r m places spans count par) n (inl h) = in_first (spans_in spans n) (numbered (n + spans_size spans) count ∷ []) (in_spans spans n h)
    in_lists (sparse kind r m places spans count par) n (inr (inl h)) = in_second (spans_in spans n) (numbered (n + spans_size spans) count ∷ []) (inl h)
    in_lists (sparse kind r m places spans count par) n (inr (inr h)) = absurd h

    in_stages : (stages : PlainStages) (n : ℕ) → StagesHave stages n x (operation op) → HasIn (lists_in_stages stages n) x op
    in_stages no_stage n h = h
    in_stages (more_stage first last comb node rest) n (inl h) = in_first (lists_in node n) (lists_in_stages rest (n + number_count node)) (in_lists node n h)
    in_stages (more_stage first last comb node rest) n (inr h) = in_second (lists_in node n) (lists_in_stages rest (n + number_count node)) (in_stages rest (n + number_count node) h)

  of_bounds : (counters : List PlainCounter) (n : ℕ) → HasIn (bounds_in counters n) x op → CountersHave counters n x (operation op)
  of_bounds [] n h = h
  of_bounds (c ∷ counters) n (inl h) = inl (inl h)
  of_bounds (c ∷ counters) n (inr (inl h)) = inl (inr h)
  of_bounds (c ∷ counters) n (inr (inr h)) = inr (of_bounds counters (n + (length c.from + length c.until)) h)

  of_spans : (spans : List PlainSpan) (n : ℕ) → HasIn (spans_in spans n) x op → SpansHave spans n x (operation op)
  of_spans [] n h = h
  of_spans (single ops ∷ spans) n (inl h) = inl h
  of_spans (single ops ∷ spans) n (inr h) = inr (of_spans spans (n + length ops) h)
  of_spans (range a b ∷ spans) n (inl h) = inl (inl h)
  of_spans (range a b ∷ spans) n (inr (inl h)) = inl (inr h)
  of_spans (range a b ∷ spans) n (inr (inr h)) = inr (of_spans spans (n + (length a + length b)) h)

  of_one : (list : NumberedOps) → HasIn (list ∷ []) x op → IsListed list.ops list.number x op
  of_one list (inl h) = h
  of_one list (inr h) = absurd h

  mutual
    pub of_lists : (node : PlainNode) (n : ℕ) → HasIn (lists_in node n) x op → NodeHas node n x (operation op)
    of_lists (inner counters owned ops comb) n h = elim (in_either (bounds_in counters n) (numbered (n + counters_size counters) ops ∷ []) h) [
      | inl w ↦ inl (of_bounds counters n w)
      | inr w ↦ inr (of_one (numbered (n + counters_size counters) ops) w)
    ]
    of_lists (outer counters style owned stages) n h = elim (in_either (bounds_in counters n) (lists_in_stages stages (n + counters_size counters)) h) [
      | inl w ↦ inl (of_bounds counters n w)
      | inr w ↦ inr (of_stages stages (n + counters_size counters) w)
    ]
    of_lists (fsm start state test body next) n (inl h) = inl (inl h)
    of_lists (fsm start state test body next) n (inr (inl h)) = inl (inr h)
    of_lists (fsm start state test body next) n (inr (inr h)) = elim (in_either (lists_in body (n + (length start + length test))) (numbered (n + (length start + (length test + number_count body))) next ∷ []) h) [
      | inl w ↦ inr (inl (of_lists body (n + (length start + length test)) w))
      | inr w ↦ inr (inr (of_one (numbered (n + (length start + (length test + number_count body))) next) w))
    ]
    of_lists (branch test first second) n (inl h) = inl h
    of_lists (branch test first second) n (inr h) = elim (in_either (lists_in first (n + length test)) (lists_in second (n + (length test + number_count first))) h) [
      | inl w ↦ inr (inl (of_lists first (n + length test) w))
      | inr w ↦ inr (inr (of_lists second (n + (length test + number_count first)) w))
    ]
    of_lists (load r m spans) n h = inl (of_spans spans n h)
    of_lists (store r m spans) n h = inl (of_spans spans n h)
    of_lists (sparse kind r m places spans count par) n h = elim (in_either (spans_in spans n) (numbered (n + spans_size spans) count ∷ []) h) [
      | inl w ↦ inl (of_spans spans n w)
      | inr w ↦ inr (inl (of_one (numbered (n + spans_size spans) count) w))
    ]

    of_stages : (stages : PlainStages) (n : ℕ) → HasIn (lists_in_stages stages n) x op → StagesHave stages n x (operation op)
    of_stages no_stage n h = h
    of_stages (more_stage first last comb node rest) n h = elim (in_either (lists_in node n) (lists_in_stages rest (n + number_count node)) h) [
      | inl w ↦ inl (of_lists node n w)
      | inr w ↦ inr (of_stages rest (n + number_count node) w)
    ]
