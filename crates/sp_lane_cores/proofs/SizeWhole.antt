-- The core of a program stays small in lanes.
use Rattle.std.proofs.Common.{◌≡◌, ℕ, zero, suc, ◌+◌, ◌*◌, ◌^◌, ◌<◌, ◌≤◌, ◌==◌, Bool, true, false, ◌&&◌, List, [], ◌∷◌, ◌++◌, length, None, Some, refl, sym, ◌∙◌, ap, subst, arith, length-append, ◌⊎◌, inl, inr}
use Rattle.std.proofs.lemmas.Bool.{and_parts, lt-ltb, ltb-true, eq-eqb, ne_eqb, eqb-true, false≢true}
use Rattle.std.proofs.lemmas.List.{length-map}
use Rattle.std.specs.Prelude.{nat_lt}
use Rattle.sp_tree.specs.Invariant.{IsProgram}
use Rattle.sp_tree.specs.PlainProgram.{PlainProgram}
use Rattle.sp_core.specs.Around.{Around, nothing, within, lanes_of}
use Rattle.sp_core.specs.Declarations.{mem}
use Rattle.sp_core.specs.Invariant.{owned_in, IsRight, AreRight}
use Rattle.sp_core.specs.NodeRules.{with_state, is_owned_once, is_node_right, are_lanes_right}
use Rattle.sp_core.specs.Numbering.{core_size}
use Rattle.sp_core.specs.OperationRules.{are_operations_right}
use Rattle.sp_core.specs.PlainCore.{PlainOp, PlainCounter, PlainNode, PlainStages, inner, outer, fsm, branch, load, store, sparse, no_stage, more_stage, PlainCore}
use Rattle.sp_lanes.specs.Order.{is_port, memory_order}
use Rattle.sp_lanes.specs.Unrolled.{unrolled}
use Rattle.sp_lanes.specs.Within.{outside}
use Rattle.sp_lane_rules.specs.Copies.{one_if, occurrences}
use Rattle.sp_lane_rules.proofs.CopiesCounts.{are_counted}
use Rattle.sp_lane_rules.proofs.CopiesOwned.{once_most, once_valid}
use Rattle.sp_sugar.specs.Core.{core_of}
use Rattle.sp_sugar.proofs.Cores.{core_is_right}
use Rattle.sp_sugar.proofs.NumberLemmas.{either}
use Rattle.sp_sugar.proofs.Owners.{one_owner}
use Rattle.sp_sugar.proofs.Small.{core_tree_size, core_mems_count, core_drams_count}
use Rattle.sp_lane_rules.proofs.UnrolledTree.{lanes_positive}
use Rattle.sp_lane_cores.specs.LanedMarks.{Combination, folded, reduced, element, combination_ops, IsCombined, LastCombines, NoneCombines, IsLaned, AreLaned}
use Rattle.sp_lane_cores.proofs.LanedHeavy.{IsWithin, node_heavy, node_copies}
use Rattle.sp_lane_cores.proofs.LanedLanes.{program_within}
use Rattle.sp_lane_cores.proofs.LanedMarked.{programs_laned}
use Rattle.sp_lane_cores.specs.SizeLaws.{StaysSmall}
use Rattle.sp_lane_cores.proofs.SizeTree.{Fits, AllFit, node_small}

some_ops : (at : ℕ) (c : Combination) → 1 ≤ length (combination_ops at c)
some_ops at (folded word acc ty comb) = omega arith
some_ops at (reduced word acc begun ty comb) = omega arith
some_ops at (element mems word c dims acc begun ty comb) = omega arith

combined_some : (core : PlainCore) (c : Combination) (ops : List PlainOp) (at : ℕ) → IsCombined core c ops at → 1 ≤ length ops
combined_some core c ops at h = subst (λ l. 1 ≤ length l) (sym h.is) (omega (arith, length-append h.before (combination_ops at c), some_ops at c))

neither : ⊥ ⊎ ((ℕ → Bool) × ⊥) → ⊥
neither (inl a) = a
neither (inr (f, a)) = a

module _ (core : PlainCore) where
  -- stages without their first one, which isn't a combination; and the one that is
  after_one : (first last : ℕ) (node : PlainNode) (rest : PlainStages) → NoneCombines core (more_stage first last false node rest) ⊎ ((is : ℕ → Bool) × LastCombines core is (more_stage first last false node rest))
      → NoneCombines core rest ⊎ ((is : ℕ → Bool) × LastCombines core is rest)
  after_one first last node rest (inl h) = inl h
  after_one first last node rest (inr (is, h)) = inr (is, h.1)

  marked_of : (first last : ℕ) (counters : List PlainCounter) (owned : List ℕ) (ops : List PlainOp) (at : ℕ)
      → NoneCombines core (more_stage first last true (inner counters owned ops (Some at)) no_stage) ⊎ ((is : ℕ → Bool) × LastCombines core is (more_stage first last true (inner counters owned ops (Some at)) no_stage))
      → IsLaned core (inner counters owned ops (Some at))
  marked_of first last counters owned ops at (inl h) = absurd h
  marked_of first last counters owned ops at (inr (is, h)) = (h.0, (h.1.0, h.1.2))

  mutual
    node_fits : (around : Around) (earlier : List ℕ) (x : PlainNode) → IsRight core around earlier x → IsLaned core x → Fits x
    node_fits around earlier (inner counters owned ops None) r l =
        let n = (and_parts (is_node_right core around (inner counters owned ops None)) (is_owned_once core earlier owned) r).0 in
        (lanes_positive core around counters (are_operations_right core (within around counters owned) ops) n, inl refl)
    node_fits around earlier (inner counters owned ops (Some at)) r l =
        let n = (and_parts (is_node_right core around (inner counters owned ops (Some at))) (is_owned_once core earlier owned) r).0 in
        (lanes_positive core around counters (are_operations_right core (within around counters owned) ops) n, inr (combined_some core l.1.0 ops at l.1.1))
    node_fits around earlier (outer counters style owned stages) r l =
        let n = (and_parts (is_node_right core around (outer counters style owned stages)) (is_owned_once core earlier owned) r.0).0 in
        (lanes_positive core around counters (are_lanes_right (lanes_of counters) stages) n, all_fit (within around counters owned) (earlier ++ owned) stages r.1 l.1 l.2)
    node_fits around earlier (fsm start state test body next) r l = node_fits (with_state core around state) (earlier ++ state ∷ []) body r.1 l
    node_fits around earlier (branch test first second) r l = (node_fits around earlier first r.1 l.0, node_fits around (earlier ++ owned_in first) second r.2 l.1)
    node_fits around earlier (load dram m spans) r l = tt
    node_fits around earlier (store dram m spans) r l = tt
    node_fits around earlier (sparse kind dram m index spans count par) r l = tt

    all_fit : (around : Around) (earlier : List ℕ) (xs : PlainStages) → AreRight core around earlier xs → NoneCombines core xs ⊎ ((is : ℕ → Bool) × LastCombines core is xs) → AreLaned core xs → AllFit xs
    all_fit around earlier no_stage r u l = tt
    all_fit around earlier (more_stage first last false node rest) r u l = (node_fits around earlier node r.0 l.0, all_fit around (earlier ++ owned_in node) rest r.1 (after_one first last node rest u) l.1)
    all_fit around earlier (more_stage first last true (inner counters owned ops (Some at)) no_stage) r u l = (node_fits around earlier (inner counters owned ops (Some at)) r.0 (marked_of first last counters owned ops at u), tt, tt)
    all_fit around earlier (more_stage first last true (inner counters owned ops (Some at)) (more_stage f g c node rest)) r u l = absurd (neither u)
    all_fit around earlier (more_stage first last true (inner counters owned ops None) rest) r u l = absurd (neither u)
    all_fit around earlier (more_stage first last true (outer counters style owned stages) rest) r u l = absurd (neither u)
    all_fit around earlier (more_stage first last true (fsm start state test body next) rest) r u l = absurd (neither u)
    all_fit around earlier (more_stage first last true (branch test one other) rest) r u l = absurd (neither u)
    all_fit around earlier (more_stage first last true (load dram m spans) rest) r u l = absurd (neither u)
    all_fit around earlier (more_stage first last true (store dram m spans) rest) r u l = absurd (neither u)
    all_fit around earlier (more_stage first last true (sparse kind dram m index spans count par) rest) r u l = absurd (neither u)

-- a list of numbers below n, by how often each of them stands in it
abbrev sum_below : ℕ → List ℕ → ℕ
sum_below zero xs = 0
sum_below (suc n) xs = sum_below n xs + occurrences n xs

none_below : (n : ℕ) → sum_below n [] ≡ 0
none_below zero = refl
none_below (suc n) = omega (arith, none_below n)

later : (n x : ℕ) (xs : List ℕ) → n ≤ x → sum_below n (x ∷ xs) ≡ sum_below n xs
later zero x xs h = refl
later (suc n) x xs h = omega (arith, later n x xs (omega (arith, h)), ap one_if (ne_eqb x n (λ e. absurd (omega (arith, e, h)))))

less : (n x : ℕ) → (x == n) ≡ false → x < suc n → x < n
less n x e h = omega (arith, h, differs)
  where
    differs : x ≡ n → ⊥
    differs i = false≢true (sym e ∙ eq-eqb x n i)

among : (n x : ℕ) (xs : List ℕ) → x < n → sum_below n (x ∷ xs) ≡ suc (sum_below n xs)
among zero x xs h = absurd (omega (arith, h))
among (suc n) x xs h = either (x == n)
    (λ e. omega (arith, ap one_if e, later n x xs (omega (arith, eqb-true x n e))))
    (λ e. omega (arith, ap one_if e, among n x xs (less n x e h)))

counted : (n : ℕ) (xs : List ℕ) → ((x : ℕ) → 1 ≤ occurrences x xs → x < n) → length xs ≤ sum_below n xs
counted n [] h = omega arith
counted n (x ∷ xs) h =
    let first : x < n = h x (omega (arith, ap one_if (eq-eqb x x refl))) in
    omega (arith, among n x xs first, counted n xs (λ y c. h y (omega (arith, c))))

module _ (core : PlainCore) (once : is_owned_once core [] (owned_in core.root) ≡ true) (is : IsWithin 1 core.root) where
  copies_most : (m : ℕ) → occurrences m (memory_order core) ≤ 17
  copies_most m =
      omega (arith, are_counted core m, node_copies m 1 core.root (omega arith) is, once_most core [] (owned_in core.root) m once, one_most (is_port core m && nat_lt m (length core.mems)))
    where
      one_most : (b : Bool) → one_if b ≤ 1
      one_most true = omega arith
      one_most false = omega arith

  in_range : (m : ℕ) → 1 ≤ occurrences m (memory_order core) → m < length core.mems
  in_range m h = by (nat_lt m (length core.mems)) refl
    where
      by : (b : Bool) → nat_lt m (length core.mems) ≡ b → m < length core.mems
      by true e = ltb-true m (length core.mems) e
      by false e =
          let none : one_if (is_port core m && nat_lt m (length core.mems)) ≡ 0 = ap (λ b. one_if (is_port core m && b)) e ∙ never (is_port core m) in
          let some : 1 ≤ occurrences m (owned_in core.root) = omega (arith, h, are_counted core m, none, node_copies m 1 core.root (omega arith) is) in
          (once_valid core [] (owned_in core.root) m once some).0
        where
          never : (b : Bool) → one_if (b && false) ≡ 0
          never true = refl
          never false = refl

  sums_most : (n : ℕ) → sum_below n (memory_order core) ≤ 17 * n
  sums_most zero = omega arith
  sums_most (suc n) = omega (arith, sums_most n, copies_most n)

  order_most : length (memory_order core) ≤ 17 * length core.mems
  order_most = omega (arith, counted (length core.mems) (memory_order core) in_range, sums_most (length core.mems))

pub program_small : (p : PlainProgram) → IsProgram p → StaysSmall p
unfolding unrolled
program_small p h =
    let core : PlainCore = core_of p in
    let is : IsWithin 1 core.root = program_within p h in
    let order : List ℕ = memory_order core in
    let fits : Fits core.root = node_fits core nothing [] core.root (core_is_right p h).nodes (programs_laned p h) in
    lt-ltb (core_size (unrolled core)) (2 ^ 29)
    (omega (
      arith,
      node_small order (outside order) 1 core.root (omega arith) is fits,
      node_heavy 1 core.root (omega arith) is,
      order_most core (one_owner p h).0 is,
      length-map order (mem core),
      core_tree_size p h,
      core_mems_count p h,
      core_drams_count p h,
      h.limits.nodes,
    ))
