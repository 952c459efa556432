-- A rule is kept by each node exactly where the node of each number keeps it.
use Rattle.std.proofs.Common.{◌≡◌, ℕ, zero, suc, ◌+◌, ◌-◌, ◌<◌, nat_lt, Bool, true, false, cond, length, Option, refl, subst, arith}
use Rattle.std.proofs.lemmas.Bool.{and_from, and_parts, cond_both, lt-ltb, le-ltb, ltb-false}
use Rattle.sp_core.specs.Declarations.{is_stream}
use Rattle.sp_core.specs.Numbering.{node_count, node_count_in, counters_size, number_count}
use Rattle.sp_core.specs.PlainCore.{PlainNode, PlainStages, inner, outer, fsm, branch, load, store, sparse, no_stage, more_stage}
use Rattle.sp_plan.specs.Nodes.{NodeRule, holds_of_each, holds_of_stages, Site, site_at, stage_site_at, keeps_at}

module _ (holds : NodeRule) where
  -- the nodes of these numbers keep it, by the number of the first one
  abbrev AreKept : (first count : ℕ) → (at : ℕ → Option Site) → Type 0
  AreKept first count at = (j k : ℕ) → j < count → first + j ≡ k → keeps_at holds k (at j) ≡ true

  taken : (k : ℕ) (b : Bool) (x y : Option Site) → b ≡ true → keeps_at holds k (cond b x y) ≡ true → keeps_at holds k x ≡ true
  taken k true x y e h = h
  taken k false x y e h = cc

  passed : (k : ℕ) (b : Bool) (x y : Option Site) → b ≡ false → keeps_at holds k (cond b x y) ≡ true → keeps_at holds k y ≡ true
  passed k true x y e h = cc
  passed k false x y e h = h

  -- of two parts that stand one after the other, where the first one has so many nodes
  first_part : (first count rest : ℕ) (x y : ℕ → Option Site) → AreKept first (count + rest) (λ j. cond (nat_lt j count) (x j) (y (j - count))) → AreKept first count x
  first_part first count rest x y h j k lt e = taken k (nat_lt j count) (x j) (y (j - count)) (lt-ltb j count lt) (h j k (omega arith) e)

  second_part : (first count rest : ℕ) (x y : ℕ → Option Site) → AreKept first (count + rest) (λ j. cond (nat_lt j count) (x j) (y (j - count))) → AreKept (first + count) rest y
  second_part first count rest x y h j k lt e =
      let is : (count + j) - count ≡ j = omega arith in
      subst (λ i. keeps_at holds k (y i) ≡ true) is
      (passed k (nat_lt (count + j) count) (x (count + j)) (y ((count + j) - count)) (le-ltb (count + j) count (omega arith)) (h (count + j) k (omega arith) (omega arith)))

  here : (i k n : ℕ) (streamed : Bool) (node : PlainNode) → holds k n streamed node ≡ true → k ≡ i → holds i n streamed node ≡ true
  here i k n st node h e = subst (λ x. holds x n st node ≡ true) e h

  mutual
    each : (k n : ℕ) (streamed : Bool) (node : PlainNode) → AreKept k (node_count node) (λ j. site_at j n streamed node) → holds_of_each holds k n streamed node ≡ true
    each k n st (inner counters owned ops comb) h = h 0 k (omega arith) (omega arith)
    each k n st (outer counters style owned stages) h =
        and_from (holds k n st (outer counters style owned stages)) (holds_of_stages holds (suc k) (n + counters_size counters) (is_stream style) stages)
        (h 0 k (omega arith) (omega arith))
        (each_stage (suc k) (n + counters_size counters) (is_stream style) stages (λ j i lt e. h (suc j) i (omega arith) (omega arith)))
    each k n st (fsm start state test body next) h =
        and_from (holds k n st (fsm start state test body next)) (holds_of_each holds (suc k) (n + (length start + length test)) false body)
        (h 0 k (omega arith) (omega arith))
        (each (suc k) (n + (length start + length test)) false body (λ j i lt e. h (suc j) i (omega arith) (omega arith)))
    each k n st (branch test first second) h =
        and_from (holds k n st (branch test first second)) _
        (h 0 k (omega arith) (omega arith))
        (and_from (holds_of_each holds (suc k) (n + length test) false first) (holds_of_each holds (suc k + node_count first) ((n + length test) + number_count first) false second)
        (each (suc k) (n + length test) false first
        (first_part (suc k) (node_count first) (node_count second) (λ j. site_at j (n + length test) false first) (λ j. site_at j ((n + length test) + number_count first) false second) (λ j i lt e. h (suc j) i (omega arith) (omega arith))))
        (each (suc k + node_count first) ((n + length test) + number_count first) false second
        (second_part (suc k) (node_count first) (node_count second) (λ j. site_at j (n + length test) false first) (λ j. site_at j ((n + length test) + number_count first) false second) (λ j i lt e. h (suc j) i (omega arith) (omega arith)))))
    each k n st (load r m spans) h = h 0 k (omega arith) (omega arith)
    each k n st (store r m spans) h = h 0 k (omega arith) (omega arith)
    each k n st (sparse kind r m places spans count par) h = h 0 k (omega arith) (omega arith)

    each_stage : (k n : ℕ) (streamed : Bool) (stages : PlainStages) → AreKept k (node_count_in stages) (λ j. stage_site_at j n streamed stages) → holds_of_stages holds k n streamed stages ≡ true
    each_stage k n st no_stage h = refl
    each_stage k n st (more_stage first last comb node rest) h =
        and_from (holds_of_each holds k n st node) (holds_of_stages holds (k + node_count node) (n + number_count node) st rest)
        (each k n st node (first_part k (node_count node) (node_count_in rest) (λ j. site_at j n st node) (λ j. stage_site_at j (n + number_count node) st rest) h))
        (each_stage (k + node_count node) (n + number_count node) st rest
        (second_part k (node_count node) (node_count_in rest) (λ j. site_at j n st node) (λ j. stage_site_at j (n + number_count node) st rest) h))

  pub from_sites : (root : PlainNode) → ((k : ℕ) → k < node_count root → keeps_at holds k (site_at k 0 false root) ≡ true) → holds_of_each holds 0 0 false root ≡ true
  from_sites root h =
      each 0 0 false root (λ j k lt e.
      let is : j ≡ k = omega arith in
      subst (λ i. keeps_at holds i (site_at j 0 false root) ≡ true) is (h j lt))

  mutual
    at_each : (w i k n : ℕ) (streamed : Bool) (node : PlainNode) → holds_of_each holds k n streamed node ≡ true → k + w ≡ i → keeps_at holds i (site_at w n streamed node) ≡ true
    at_each zero i k n st (inner counters owned ops comb) h e = here i k n st (inner counters owned ops comb) h (omega arith)
    at_each zero i k n st (outer counters style owned stages) h e =
        here i k n st (outer counters style owned stages)
        (and_parts (holds k n st (outer counters style owned stages)) (holds_of_stages holds (suc k) (n + counters_size counters) (is_stream style) stages) h).0 (omega arith)
    at_each zero i k n st (fsm start state test body next) h e =
        here i k n st (fsm start state test body next)
        (and_parts (holds k n st (fsm start state test body next)) (holds_of_each holds (suc k) (n + (length start + length test)) false body) h).0 (omega arith)
    at_each zero i k n st (branch test first second) h e = here i k n st (branch test first second) (and_parts (holds k n st (branch test first second)) _ h).0 (omega arith)
    at_each zero i k n st (load r m spans) h e = here i k n st (load r m spans) h (omega arith)
    at_each zero i k n st (store r m spans) h e = here i k n st (store r m spans) h (omega arith)
    at_each zero i k n st (sparse kind r m places spans count par) h e = here i k n st (sparse kind r m places spans count par) h (omega arith)
    at_each (suc w) i k n st (inner counters owned ops comb) h e = refl
    at_each (suc w) i k n st (outer counters style owned stages) h e =
        stage_at w i (suc k) (n + counters_size counters) (is_stream style) stages
        (and_parts (holds k n st (outer counters style owned stages)) (holds_of_stages holds (suc k) (n + counters_size counters) (is_stream style) stages) h).1 (omega arith)
    at_each (suc w) i k n st (fsm start state test body next) h e =
        at_each w i (suc k) (n + (length start + length test)) false body
        (and_parts (holds k n st (fsm start state test body next)) (holds_of_each holds (suc k) (n + (length start + length test)) false body) h).1 (omega arith)
    at_each (suc w) i k n st (branch test first second) h e =
        let both = (and_parts (holds k n st (branch test first second)) _ h).1 in
        let parts = and_parts (holds_of_each holds (suc k) (n + length test) false first) (holds_of_each holds (suc k + node_count first) ((n + length test) + number_count first) false second) both in
        cond_both (nat_lt w (node_count first)) (site_at w (n + length test) false first) (site_at (w - node_count first) ((n + length test) + number_count first) false second) (λ site. keeps_at holds i site ≡ true)
        (λ lt. at_each w i (suc k) (n + length test) false first parts.0 (omega arith))
        (λ ge. let le = ltb-false w (node_count first) ge in at_each (w - node_count first) i (suc k + node_count first) ((n + length test) + number_count first) false second parts.1 (omega arith))
    at_each (suc w) i k n st (load r m spans) h e = refl
    at_each (suc w) i k n st (store r m spans) h e = refl
    at_each (suc w) i k n st (sparse kind r m places spans count par) h e = refl

    stage_at : (w i k n : ℕ) (streamed : Bool) (stages : PlainStages) → holds_of_stages holds k n streamed stages ≡ true → k + w ≡ i → keeps_at holds i (stage_site_at w n streamed stages) ≡ true
    stage_at w i k n st no_stage h e = refl
    stage_at w i k n st (more_stage first last comb node rest) h e =
        let parts = and_parts (holds_of_each holds k n st node) (holds_of_stages holds (k + node_count node) (n + number_count node) st rest) h in
        cond_both (nat_lt w (node_count node)) (site_at w n st node) (stage_site_at (w - node_count node) (n + number_count node) st rest) (λ site. keeps_at holds i site ≡ true)
        (λ lt. at_each w i k n st node parts.0 e)
        (λ ge. let le = ltb-false w (node_count node) ge in stage_at (w - node_count node) i (k + node_count node) (n + number_count node) st rest parts.1 (omega arith))

  pub at_sites : (root : PlainNode) → holds_of_each holds 0 0 false root ≡ true → (k : ℕ) → keeps_at holds k (site_at k 0 false root) ≡ true
  at_sites root h k = at_each k k 0 0 false root h (omega arith)
