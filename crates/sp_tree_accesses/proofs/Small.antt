-- The numbers of a core's lists have 32 bits, so a walk goes over all of them.
use Rattle.std.proofs.Common.{◌≡◌, ℕ, ◌+◌, ◌<◌, ◌≤◌, ◌^◌, List, [], ◌∷◌, ◌++◌, length, Option, sym, ◌∙◌, ap, subst, arith}
use Rattle.std.proofs.lemmas.Bool.{ltb-true}
use Rattle.std.proofs.lemmas.List.{append-nil}
use Rattle.std.specs.List.{AllZip}
use Rattle.sp_netlist.specs.Draft.{Draft}
use Rattle.sp_core.specs.Invariant.{IsCore}
use Rattle.sp_core.specs.Numbering.{counters_size, spans_size, node_count, node_count_in, number_count, number_count_in, operation_count, operation_count_in, core_size}
use Rattle.sp_core.specs.PlainCore.{PlainCounter, PlainSpan, single, range, PlainNode, PlainStages, inner, outer, fsm, branch, load, store, sparse, no_stage, more_stage, PlainCore}
use Rattle.sp_time.specs.Lists.{Each}
use Rattle.sp_op_nets.specs.declared.acted.ActedList.{ActedList}
use Rattle.sp_access_nets.specs.Accesses.{copy_in}
use Rattle.sp_tree_handed.specs.Lists.{NumberedOps, numbered, bounds_in, spans_in, lists_in, lists_in_stages}
use Rattle.sp_tree_handed.specs.Standing.{AreListsStanding}
use Rattle.sp_tree_accesses.specs.declared.walk.Walk.{Walk}
use Rattle.sp_tree_accesses.specs.Accesses.{AreAllAccesses}
use Rattle.sp_tree_accesses.specs.Walks.{IsNumbered, AddsLists}

abbrev IsBelow : (bound : ℕ) → NumberedOps → Type 0
IsBelow bound list = list.number + length list.ops ≤ bound

below_append : (bound : ℕ) (xs ys : List NumberedOps) → Each (IsBelow bound) xs → Each (IsBelow bound) ys → Each (IsBelow bound) (xs ++ ys)
below_append bound [] ys h k = k
below_append bound (x ∷ xs) ys h k = (h.0, below_append bound xs ys h.1 k)

below_more : (low high : ℕ) (xs : List NumberedOps) → low ≤ high → Each (IsBelow low) xs → Each (IsBelow high) xs
below_more low high [] le h = tt
below_more low high (x ∷ xs) le h = ((let b = h.0 in omega (arith, b, le)), below_more low high xs le h.1)

bounds_below : (counters : List PlainCounter) (n : ℕ) → Each (IsBelow (n + counters_size counters)) (bounds_in counters n)
bounds_below [] n = tt
bounds_below (c ∷ counters) n = (
  omega arith,
  (
    omega arith,
    below_more (n + (length c.from + length c.until) + counters_size counters) (n + (length c.from + length c.until + counters_size counters)) (bounds_in counters (n + (length c.from + length c.until))) (omega arith)
        (bounds_below counters (n + (length c.from + length c.until))),
  ),
)

spans_below : (spans : List PlainSpan) (n : ℕ) → Each (IsBelow (n + spans_size spans)) (spans_in spans n)
spans_below [] n = tt
spans_below (single ops ∷ spans) n = (omega arith, below_more (n + length ops + spans_size spans) (n + (length ops + spans_size spans)) (spans_in spans (n + length ops)) (omega arith) (spans_below spans (n + length ops)))
spans_below (range a b ∷ spans) n =
    (omega arith, (omega arith, below_more (n + (length a + length b) + spans_size spans) (n + (length a + length b + spans_size spans)) (spans_in spans (n + (length a + length b))) (omega arith) (spans_below spans (n + (length a + length b)))))

mutual
  lists_below : (node : PlainNode) (n : ℕ) → Each (IsBelow (n + number_count node)) (lists_in node n)
  lists_below (inner counters owned ops comb) n =
      below_append (n + (counters_size counters + length ops)) (bounds_in counters n) (numbered (n + counters_size counters) ops ∷ []) (below_more (n + counters_size counters) (n + (counters_size counters + length ops)) (bounds_in counters n) (omega arith) (bounds_below counters n))
      (omega arith, tt)
  lists_below (outer counters style owned stages) n =
      below_append (n + (counters_size counters + number_count_in stages)) (bounds_in counters n) (lists_in_stages stages (n + counters_size counters))
      (below_more (n + counters_size counters) (n + (counters_size counters + number_count_in stages)) (bounds_in counters n) (omega arith) (bounds_below counters n))
      (below_more (n + counters_size counters + number_count_in stages) (n + (counters_size counters + number_count_in stages)) (lists_in_stages stages (n + counters_size counters)) (omega arith) (stages_below stages (n + counters_size counters)))
  lists_below (fsm start state test body next) n = (
    omega arith,
    (
      omega arith,
      below_append (n + (length start + length test + (number_count body + length next))) (lists_in body (n + (length start + length test))) (numbered (n + (length start + (length test + number_count body))) next ∷ [])
          (below_more (n + (length start + length test) + number_count body) (n + (length start + length test + (number_count body + length next))) (lists_in body (n + (length start + length test))) (omega arith) (lists_below body (n + (length start + length test))))
          (omega arith, tt),
    ),
  )
  lists_below (branch test first second) n = (
    omega arith,
    below_append (n + (length test + (number_count first + number_count second))) (lists_in first (n + length test)) (lists_in second (n + (length test + number_count first)))
        (below_more (n + length test + number_count first) (n + (length test + (number_count first + number_count second))) (lists_in first (n + length test)) (omega arith) (lists_below first (n + length test)))
        (below_more (n + (length test + number_count first) + number_count second) (n + (length test + (number_count first + number_count second))) (lists_in second (n + (length test + number_count first))) (omega arith)
        (lists_below second (n + (length test + number_count first)))),
  )
  lists_below (load r m spans) n = below_more (n + spans_size spans) (n + (spans_size spans + 1)) (spans_in spans n) (omega arith) (spans_below spans n)
  lists_below (store r m spans) n = below_more (n + spans_size spans) (n + (spans_size spans + 1)) (spans_in spans n) (omega arith) (spans_below spans n)
  lists_below (sparse kind r m places spans count par) n =
      below_append (n + (spans_size spans + (length count + 1))) (spans_in spans n) (numbered (n + spans_size spans) count ∷ []) (below_more (n + spans_size spans) (n + (spans_size spans + (length count + 1))) (spans_in spans n) (omega arith) (spans_below spans n)) (omega arith, tt)

  stages_below : (stages : PlainStages) (n : ℕ) → Each (IsBelow (n + number_count_in stages)) (lists_in_stages stages n)
  stages_below no_stage n = tt
  stages_below (more_stage first last comb node rest) n =
      below_append (n + (number_count node + number_count_in rest)) (lists_in node n) (lists_in_stages rest (n + number_count node))
      (below_more (n + number_count node) (n + (number_count node + number_count_in rest)) (lists_in node n) (omega arith) (lists_below node n))
      (below_more (n + number_count node + number_count_in rest) (n + (number_count node + number_count_in rest)) (lists_in_stages rest (n + number_count node)) (omega arith) (stages_below rest (n + number_count node)))

-- a transfer has a number of its own
mutual
  few_numbers : (node : PlainNode) → number_count node ≤ operation_count node + node_count node
  few_numbers (inner counters owned ops comb) = omega arith
  few_numbers (outer counters style owned stages) = (let l = few_in stages in omega (arith, l))
  few_numbers (fsm start state test body next) = (let l = few_numbers body in omega (arith, l))
  few_numbers (branch test first second) = (let l = few_numbers first in let r = few_numbers second in omega (arith, l, r))
  few_numbers (load r m spans) = omega arith
  few_numbers (store r m spans) = omega arith
  few_numbers (sparse kind r m places spans count par) = omega arith

  few_in : (stages : PlainStages) → number_count_in stages ≤ operation_count_in stages + node_count_in stages
  few_in no_stage = omega arith
  few_in (more_stage first last comb node rest) = (let l = few_numbers node in let r = few_in rest in omega (arith, l, r))

numbers_small : (core : PlainCore) → IsCore core → 0 + number_count core.root < 2 ^ 32
numbers_small core is = (let s : core_size core < 2 ^ 29 = ltb-true _ _ is.size in let l = few_numbers core.root in omega (arith, s, l))

all_numbered : (d : Draft) (core : PlainCore) (bound : ℕ) → bound < 2 ^ 32 → (lists : List NumberedOps) (acted : List ActedList) → Each (IsBelow bound) lists → AreListsStanding d core lists acted → AllZip IsNumbered lists acted
all_numbered d core bound lt [] [] below stand = tt
all_numbered d core bound lt [] (a ∷ acted) below stand = absurd stand
all_numbered d core bound lt (list ∷ lists) [] below stand = absurd stand
all_numbered d core bound lt (list ∷ lists) (a ∷ acted) below stand = (record { first = stand.0.first; small = (let b = below.0 in omega (arith, b, lt)) }, all_numbered d core bound lt lists acted below.1 stand.1)

-- so a walk from the first list on has added the accesses of all of them
pub walked : (core : PlainCore) → IsCore core → (copies : List (Option ℕ)) (acted : List ActedList) (before after : Walk) → before.at ≡ 0 → before.accesses.items ≡ [] → ((n : ℕ) → AddsLists (lists_in core.root n) copies acted before after)
    → (d : Draft) → AreListsStanding d core (lists_in core.root 0) acted → AreAllAccesses (copy_in copies) (lists_in core.root 0) acted after.accesses.items
walked core is copies acted before after at none adds d stand =
    let w = adds 0 [] acted [] (sym (append-nil acted)) at (all_numbered d core (0 + number_count core.root) (numbers_small core is) (lists_in core.root 0) acted (lists_below core.root 0) stand) in
    subst (AreAllAccesses (copy_in copies) (lists_in core.root 0) acted) (sym (w.behind ∙ ap (λ l. l ++ w.added) none)) w.are
