-- Each memory has one owner, so what that one says of its copies is what the whole tree says.
use Rattle.std.proofs.Common.{◌≡◌, ℕ, suc, ◌+◌, ◌<◌, Bool, true, false, List, [], ◌∷◌, ◌++◌, length, arith, refl, sym, ap, ◌∙◌, ⊎_elim}
use Rattle.std.proofs.lemmas.Bool.{and_parts, and_from, eqb-true, eq-eqb, ltb-true, or_cases, or_parts, or_from, or_left, or_right, false≢true, true≢false, false_from_ne_true}
use Rattle.std.specs.List.{list_all}
use Rattle.std.specs.Prelude.{◌&&◌, ◌||◌, ◌==◌, not, nat_lt, slice_index_or, if◌then◌else◌}
use Rattle.sp_core.specs.declared.access.Meet.{Meet}
use Rattle.sp_core.specs.Around.{Around, within, is_port_kind}
use Rattle.sp_core.specs.Declarations.{is_among, is_stream, mem}
use Rattle.sp_core.specs.Forms.{PlainForms}
use Rattle.sp_core.specs.Invariant.{owned_in, owned_in_stages, IsRight, AreRight}
use Rattle.sp_core.specs.NodeRules.{is_owned_once, with_state}
use Rattle.sp_core.specs.Numbering.{node_count, counters_size, number_count}
use Rattle.sp_core.specs.PlainCore.{PlainNode, PlainStages, inner, outer, fsm, branch, load, store, sparse, no_stage, more_stage, PlainCore}
use Rattle.sp_depths.proofs.Some.{some_depth, some_depths}
use Rattle.sp_depths.specs.Depths.{depth_in, depth_in_stages}
use Rattle.sp_plan.specs.Copies.{is_loop, copies, owned_by_loops, owned_by_stages, are_copied}
use Rattle.sp_plan.specs.Nodes.{holds_of_each, holds_of_stages}
use Rattle.sp_plan.specs.PlainPlan.{PlainPlan, PlainNodePlan, mem_plan, node_plan, other_plan}
use Rattle.sp_plan.specs.Validity.{copy_rule}

-- what is in neither of two lists is not in both, joined
pub among_append : (m : ℕ) (a b : List ℕ) → is_among m (a ++ b) ≡ (is_among m a || is_among m b)
among_append m [] b = refl
among_append m (x ∷ a) b = ap (λ t. (m == x) || t) (among_append m a b) ∙ joined (m == x) (is_among m a) (is_among m b)
  where
    joined : (x y z : Bool) → (x || (y || z)) ≡ ((x || y) || z)
    joined true y z = refl
    joined false y z = refl

in_left : (m : ℕ) (a b : List ℕ) → is_among m a ≡ true → is_among m (a ++ b) ≡ true
in_left m a b e = among_append m a b ∙ or_left (is_among m a) (is_among m b) e

in_right : (m : ℕ) (a b : List ℕ) → is_among m b ≡ true → is_among m (a ++ b) ≡ true
in_right m a b e = among_append m a b ∙ or_right (is_among m a) (is_among m b) e

in_neither : (m : ℕ) (a b : List ℕ) → is_among m (a ++ b) ≡ false → (is_among m a ≡ false) × (is_among m b ≡ false)
in_neither m a b e = or_parts (is_among m a) (is_among m b) (sym (among_append m a b) ∙ e)

from_neither : (m : ℕ) (a b : List ℕ) → is_among m a ≡ false → is_among m b ≡ false → is_among m (a ++ b) ≡ false
from_neither m a b p q = among_append m a b ∙ or_from (is_among m a) (is_among m b) p q

-- a choice that isn't taken, where both sides are taken apart
not_taken : (b c : Bool) (x y : ℕ) → c ≡ false → (if b && c then x else y) ≡ y
not_taken true true x y e = absurd (true≢false e)
not_taken true false x y e = refl
not_taken false c x y e = refl

module _ (core : PlainCore) where
  -- what is owned later isn't among what was owned before
  owned_apart : (earlier owned : List ℕ) → is_owned_once core earlier owned ≡ true → (m : ℕ) → is_among m earlier ≡ true → is_among m owned ≡ false
  owned_apart earlier [] h m e = refl
  owned_apart earlier (x ∷ owned) h m e =
      let parts = and_parts ((nat_lt x (length core.mems) && not (is_port_kind (mem core x).kind)) && not (is_among x earlier)) (is_owned_once core (earlier ++ x ∷ []) owned) h in
      or_from (m == x) (is_among m owned) (differ (m == x) refl (and_parts _ (not (is_among x earlier)) parts.0).1) (owned_apart (earlier ++ x ∷ []) owned parts.1 m (in_left m earlier (x ∷ []) e))
    where
      differ : (b : Bool) → (m == x) ≡ b → not (is_among x earlier) ≡ true → (m == x) ≡ false
      differ false q n = q
      differ true q n = absurd (same (is_among x earlier) (ap (λ y. is_among y earlier) (sym (eqb-true m x q)) ∙ e) n)
        where
          same : (b : Bool) → b ≡ true → not b ≡ true → ⊥
          same true p n = false≢true n
          same false p n = false≢true p

  mutual
    pub apart : (around : Around) (earlier : List ℕ) (node : PlainNode) → IsRight core around earlier node → (m : ℕ) → is_among m earlier ≡ true → is_among m (owned_in node) ≡ false
    apart around earlier (inner counters owned ops comb) r m e = owned_apart earlier owned (and_parts _ _ r).1 m e
    apart around earlier (outer counters style owned stages) r m e =
        from_neither m owned (owned_in_stages stages) (owned_apart earlier owned (and_parts _ _ r.0).1 m e) (all_apart (within around counters owned) (earlier ++ owned) stages r.1 m (in_left m earlier owned e))
    apart around earlier (fsm start state test body next) r m e =
        from_neither m (state ∷ []) (owned_in body) (owned_apart earlier (state ∷ []) (and_parts _ _ r.0).1 m e) (apart (with_state core around state) (earlier ++ state ∷ []) body r.1 m (in_left m earlier (state ∷ []) e))
    apart around earlier (branch test first second) r m e =
        from_neither m (owned_in first) (owned_in second) (apart around earlier first r.1 m e) (apart around (earlier ++ owned_in first) second r.2 m (in_left m earlier (owned_in first) e))
    apart around earlier (load dram s spans) r m e = refl
    apart around earlier (store dram s spans) r m e = refl
    apart around earlier (sparse kind dram s places spans count par) r m e = refl

    pub all_apart : (around : Around) (earlier : List ℕ) (stages : PlainStages) → AreRight core around earlier stages → (m : ℕ) → is_among m earlier ≡ true → is_among m (owned_in_stages stages) ≡ false
    all_apart around earlier no_stage r m e = refl
    all_apart around earlier (more_stage first last comb node rest) r m e =
        from_neither m (owned_in node) (owned_in_stages rest) (apart around earlier node r.0 m e) (all_apart around (earlier ++ owned_in node) rest r.1 m (in_left m earlier (owned_in node) e))

  -- what is owned is a memory of the core
  owned_below : (earlier owned : List ℕ) → is_owned_once core earlier owned ≡ true → (m : ℕ) → is_among m owned ≡ true → m < length core.mems
  owned_below earlier [] h m e = absurd (false≢true e)
  owned_below earlier (x ∷ owned) h m e =
      let parts = and_parts ((nat_lt x (length core.mems) && not (is_port_kind (mem core x).kind)) && not (is_among x earlier)) (is_owned_once core (earlier ++ x ∷ []) owned) h in
      ⊎_elim (λ is. let same = eqb-true m x is in let lt = ltb-true x (length core.mems) (and_parts (nat_lt x (length core.mems)) _ (and_parts _ (not (is_among x earlier)) parts.0).0).0 in omega arith)
      (λ others. owned_below (earlier ++ x ∷ []) owned parts.1 m others)
      (or_cases (m == x) (is_among m owned) e)

  among_both : (m : ℕ) (a b : List ℕ) (P : Type 0) → (is_among m a ≡ true → P) → (is_among m b ≡ true → P) → is_among m (a ++ b) ≡ true → P
  among_both m a b P f g e = ⊎_elim f g (or_cases (is_among m a) (is_among m b) (sym (among_append m a b) ∙ e))

  mutual
    pub below : (around : Around) (earlier : List ℕ) (node : PlainNode) → IsRight core around earlier node → (m : ℕ) → is_among m (owned_in node) ≡ true → m < length core.mems
    below around earlier (inner counters owned ops comb) r m e = owned_below earlier owned (and_parts _ _ r).1 m e
    below around earlier (outer counters style owned stages) r m e =
        among_both m owned (owned_in_stages stages) (m < length core.mems) (owned_below earlier owned (and_parts _ _ r.0).1 m) (all_below (within around counters owned) (earlier ++ owned) stages r.1 m) e
    below around earlier (fsm start state test body next) r m e =
        among_both m (state ∷ []) (owned_in body) (m < length core.mems) (owned_below earlier (state ∷ []) (and_parts _ _ r.0).1 m) (below (with_state core around state) (earlier ++ state ∷ []) body r.1 m) e
    below around earlier (branch test first second) r m e =
        among_both m (owned_in first) (owned_in second) (m < length core.mems) (below around earlier first r.1 m) (below around (earlier ++ owned_in first) second r.2 m) e
    below around earlier (load dram s spans) r m e = absurd (false≢true e)
    below around earlier (store dram s spans) r m e = absurd (false≢true e)
    below around earlier (sparse kind dram s places spans count par) r m e = absurd (false≢true e)

    all_below : (around : Around) (earlier : List ℕ) (stages : PlainStages) → AreRight core around earlier stages → (m : ℕ) → is_among m (owned_in_stages stages) ≡ true → m < length core.mems
    all_below around earlier no_stage r m e = absurd (false≢true e)
    all_below around earlier (more_stage first last comb node rest) r m e =
        among_both m (owned_in node) (owned_in_stages rest) (m < length core.mems) (below around earlier node r.0 m) (all_below around (earlier ++ owned_in node) rest r.1 m) e

module _ (core : PlainCore) (nodes : List PlainNodePlan) (m : ℕ) where
  -- what a part doesn't own has one copy there
  mutual
    pub alone : (k : ℕ) (node : PlainNode) → is_among m (owned_in node) ≡ false → depth_in core nodes m k node ≡ 1
    alone k (inner counters owned ops comb) e = refl
    alone k (outer counters style owned stages) e =
        let q = in_neither m owned (owned_in_stages stages) e in
        not_taken (is_loop counters && not (is_stream style)) (is_among m owned) _ _ q.0 ∙ all_alone (suc k) stages q.1
    alone k (fsm start state test body next) e = alone (suc k) body (in_neither m (state ∷ []) (owned_in body) e).1
    alone k (branch test first second) e =
        let q = in_neither m (owned_in first) (owned_in second) e in
        let a = alone (suc k) first q.0 in let b = alone (suc k + node_count first) second q.1 in omega (arith, a, b)
    alone k (load dram s spans) e = refl
    alone k (store dram s spans) e = refl
    alone k (sparse kind dram s places spans count par) e = refl

    pub all_alone : (k : ℕ) (stages : PlainStages) → is_among m (owned_in_stages stages) ≡ false → depth_in_stages core nodes m k stages ≡ 1
    all_alone k no_stage e = refl
    all_alone k (more_stage first last comb node rest) e =
        let q = in_neither m (owned_in node) (owned_in_stages rest) e in
        let a = alone k node q.0 in let b = all_alone (k + node_count node) rest q.1 in omega (arith, a, b)

  -- nor what no loop of it owns
  mutual
    pub single : (k : ℕ) (node : PlainNode) → is_among m (owned_by_loops node) ≡ false → depth_in core nodes m k node ≡ 1
    single k (inner counters owned ops comb) e = refl
    single k (outer counters style owned stages) e = go (is_loop counters && not (is_stream style)) e (all_single (suc k) stages)
      where
        go : (b : Bool) → is_among m ((if b then owned else []) ++ owned_by_stages stages) ≡ false → (is_among m (owned_by_stages stages) ≡ false → depth_in_stages core nodes m (suc k) stages ≡ 1)
            → (if b && is_among m owned then copies core m stages (slice_index_or nodes k other_plan) else depth_in_stages core nodes m (suc k) stages) ≡ 1
        go true e rest = let q = in_neither m owned (owned_by_stages stages) e in not_taken true (is_among m owned) _ _ q.0 ∙ rest q.1
        go false e rest = rest e
    single k (fsm start state test body next) e = single (suc k) body e
    single k (branch test first second) e =
        let q = in_neither m (owned_by_loops first) (owned_by_loops second) e in
        let a = single (suc k) first q.0 in let b = single (suc k + node_count first) second q.1 in omega (arith, a, b)
    single k (load dram s spans) e = refl
    single k (store dram s spans) e = refl
    single k (sparse kind dram s places spans count par) e = refl

    pub all_single : (k : ℕ) (stages : PlainStages) → is_among m (owned_by_stages stages) ≡ false → depth_in_stages core nodes m k stages ≡ 1
    all_single k no_stage e = refl
    all_single k (more_stage first last comb node rest) e =
        let q = in_neither m (owned_by_loops node) (owned_by_stages rest) e in
        let a = single k node q.0 in let b = all_single (k + node_count node) rest q.1 in omega (arith, a, b)

module _ (core : PlainCore) (forms : PlainForms) (meets : List Meet) (plan : PlainPlan) where
  -- the memories of a part have as many copies as that part asks
  abbrev pub Has : (mems : List ℕ) → (ℕ → ℕ) → Type 0
  Has mems depth = (m : ℕ) → is_among m mems ≡ true → (mem_plan plan m).depth ≡ depth m

  -- a loop's memories, by the loop itself
  by_loop : (owned : List ℕ) (depth : ℕ → ℕ) → ((m : ℕ) → is_among m owned ≡ true → (mem_plan plan m).depth ≡ depth m) → list_all (λ m. (mem_plan plan m).depth == depth m) owned ≡ true
  by_loop [] depth h = refl
  by_loop (x ∷ owned) depth h =
      and_from ((mem_plan plan x).depth == depth x) (list_all (λ m. (mem_plan plan m).depth == depth m) owned)
      (eq-eqb (mem_plan plan x).depth (depth x) (h x (or_left (x == x) (is_among x owned) (eq-eqb x x refl))))
      (by_loop owned depth (λ m e. h m (or_right (m == x) (is_among m owned) e)))

  mutual
    pub right : (k n : ℕ) (streamed : Bool) (around : Around) (earlier : List ℕ) (node : PlainNode) → IsRight core around earlier node
        → Has (owned_in node) (λ m. depth_in core plan.nodes m k node)
        → holds_of_each (copy_rule core forms meets plan) k n streamed node ≡ true
    right k n streamed around earlier (inner counters owned ops comb) r h = refl
    right k n streamed around earlier (outer counters style owned stages) r h =
        and_from (not (is_loop counters && not (is_stream style)) || are_copied core plan k owned stages)
        (holds_of_stages (copy_rule core forms meets plan) (suc k) (n + counters_size counters) (is_stream style) stages)
        (mine (is_loop counters && not (is_stream style)) h)
        (all_right (suc k) (n + counters_size counters) (is_stream style) (within around counters owned) (earlier ++ owned) stages r.1 others)
      where
        mine : (b : Bool) → Has (owned ++ owned_in_stages stages) (λ m. if b && is_among m owned then copies core m stages (node_plan plan k) else depth_in_stages core plan.nodes m (suc k) stages)
            → (not b || are_copied core plan k owned stages) ≡ true
        mine false h = refl
        mine true h = by_loop owned (λ m. copies core m stages (node_plan plan k)) (λ m e. h m (in_left m owned (owned_in_stages stages) e) ∙ taken (is_among m owned) e _ _)
          where
            taken : (b : Bool) → b ≡ true → (x y : ℕ) → (if b then x else y) ≡ x
            taken true e x y = refl
            taken false e x y = absurd (false≢true e)

        others : Has (owned_in_stages stages) (λ m. depth_in_stages core plan.nodes m (suc k) stages)
        others m e =
            h m (in_right m owned (owned_in_stages stages) e)
            ∙ not_taken (is_loop counters && not (is_stream style)) (is_among m owned) _ _
            (false_from_ne_true (is_among m owned) (λ o. true≢false (sym e ∙ all_apart core (within around counters owned) (earlier ++ owned) stages r.1 m (in_right m earlier owned o))))
    right k n streamed around earlier (fsm start state test body next) r h =
        right (suc k) (n + (length start + length test)) false (with_state core around state) (earlier ++ state ∷ []) body r.1 (λ m e. h m (in_right m (state ∷ []) (owned_in body) e))
    right k n streamed around earlier (branch test first second) r h =
        and_from (holds_of_each (copy_rule core forms meets plan) (suc k) (n + length test) false first)
        (holds_of_each (copy_rule core forms meets plan) (suc k + node_count first) ((n + length test) + number_count first) false second)
        (right (suc k) (n + length test) false around earlier first r.1 (λ m e.
        let a = h m (in_left m (owned_in first) (owned_in second) e) in
        let b = alone core plan.nodes m (suc k + node_count first) second (false_from_ne_true _ (λ o. true≢false (sym o ∙ apart core around (earlier ++ owned_in first) second r.2 m (in_right m earlier (owned_in first) e)))) in
        let c = some_depth core plan.nodes m (suc k) first in
        omega (arith, a, b, c)))
        (right (suc k + node_count first) ((n + length test) + number_count first) false around (earlier ++ owned_in first) second r.2 (λ m e.
        let a = h m (in_right m (owned_in first) (owned_in second) e) in
        let b = alone core plan.nodes m (suc k) first (false_from_ne_true _ (λ o. true≢false (sym e ∙ apart core around (earlier ++ owned_in first) second r.2 m (in_right m earlier (owned_in first) o)))) in
        let c = some_depth core plan.nodes m (suc k + node_count first) second in
        omega (arith, a, b, c)))
    right k n streamed around earlier (load dram s spans) r h = refl
    right k n streamed around earlier (store dram s spans) r h = refl
    right k n streamed around earlier (sparse kind dram s places spans count par) r h = refl

    pub all_right : (k n : ℕ) (streamed : Bool) (around : Around) (earlier : List ℕ) (stages : PlainStages) → AreRight core around earlier stages
        → Has (owned_in_stages stages) (λ m. depth_in_stages core plan.nodes m k stages)
        → holds_of_stages (copy_rule core forms meets plan) k n streamed stages ≡ true
    all_right k n streamed around earlier no_stage r h = refl
    all_right k n streamed around earlier (more_stage first last comb node rest) r h =
        and_from (holds_of_each (copy_rule core forms meets plan) k n streamed node)
        (holds_of_stages (copy_rule core forms meets plan) (k + node_count node) (n + number_count node) streamed rest)
        (right k n streamed around earlier node r.0 (λ m e.
        let a = h m (in_left m (owned_in node) (owned_in_stages rest) e) in
        let b = all_alone core plan.nodes m (k + node_count node) rest (false_from_ne_true _ (λ o. true≢false (sym o ∙ all_apart core around (earlier ++ owned_in node) rest r.1 m (in_right m earlier (owned_in node) e)))) in
        let c = some_depth core plan.nodes m k node in
        omega (arith, a, b, c)))
        (all_right (k + node_count node) (n + number_count node) streamed around (earlier ++ owned_in node) rest r.1 (λ m e.
        let a = h m (in_right m (owned_in node) (owned_in_stages rest) e) in
        let b = alone core plan.nodes m k node (false_from_ne_true _ (λ o. true≢false (sym e ∙ all_apart core around (earlier ++ owned_in node) rest r.1 m (in_right m earlier (owned_in node) o)))) in
        let c = some_depths core plan.nodes m (k + node_count node) rest in
        omega (arith, a, b, c)))
