-- Copies that keep the rules are those that the slots of a memory's owner ask.
use Rattle.std.proofs.Common.{◌≡◌, ℕ, suc, ◌+◌, ◌≤◌, max, Bool, true, false, List, [], ◌∷◌, ◌++◌, length, refl, sym, ap, ◌∙◌, ⊎_elim, arith}
use Rattle.std.proofs.lemmas.Bool.{and_parts, or_cases, eqb-true, false≢true}
use Rattle.std.specs.List.{list_all}
use Rattle.std.specs.Prelude.{◌&&◌, ◌||◌, ◌==◌, not, if◌then◌else◌}
use Rattle.sp_core.specs.declared.access.Meet.{Meet}
use Rattle.sp_core.specs.Declarations.{is_among, is_stream}
use Rattle.sp_core.specs.Forms.{PlainForms}
use Rattle.sp_core.specs.Numbering.{node_count, counters_size, number_count}
use Rattle.sp_core.specs.PlainCore.{PlainNode, PlainStages, inner, outer, fsm, branch, load, store, sparse, no_stage, more_stage, PlainCore}
use Rattle.sp_depths.proofs.Owned.{among_append, single, all_single}
use Rattle.sp_depths.proofs.Some.{some_depth, some_depths}
use Rattle.sp_depths.specs.Depths.{depth_in, depth_in_stages, depth_of}
use Rattle.sp_plan.specs.Copies.{is_loop, copies, owned_by_loops, owned_by_stages, are_copied, is_single}
use Rattle.sp_plan.specs.Nodes.{holds_of_each, holds_of_stages}
use Rattle.sp_plan.specs.PlainPlan.{PlainPlan, mem_plan, node_plan}
use Rattle.sp_plan.specs.Validity.{copy_rule}

-- of two parts one at least asks for so many, and one that doesn't asks for one
joined : (d x y : ℕ) (a c : Bool) → (a ≡ true → d ≡ x) → (a ≡ false → x ≡ 1) → (c ≡ true → d ≡ y) → (c ≡ false → y ≡ 1) → 1 ≤ x → 1 ≤ y → (a || c) ≡ true → d ≡ max x y
joined d x y true true f g p q some more e = let i = f refl in let j = p refl in omega arith
joined d x y true false f g p q some more e = let i = f refl in let j = q refl in omega arith
joined d x y false true f g p q some more e = let i = g refl in let j = p refl in omega arith
joined d x y false false f g p q some more e = absurd (false≢true e)

-- what passes for each of a list
owned_exact : (m : ℕ) (f : ℕ → Bool) (owned : List ℕ) → list_all f owned ≡ true → is_among m owned ≡ true → f m ≡ true
owned_exact m f [] h e = absurd (false≢true e)
owned_exact m f (x ∷ owned) h e =
    let parts = and_parts (f x) (list_all f owned) h in
    ⊎_elim (λ is. ap f (eqb-true m x is) ∙ parts.0) (λ others. owned_exact m f owned parts.1 others) (or_cases (m == x) (is_among m owned) e)

module _ (core : PlainCore) (forms : PlainForms) (meets : List Meet) (plan : PlainPlan) (m : ℕ) where
  -- a loop that owns it, or its stages
  chosen : (b c : Bool) (owned others : List ℕ) (x y : ℕ) → is_among m owned ≡ c → (b ≡ true → c ≡ true → (mem_plan plan m).depth ≡ x) → (is_among m others ≡ true → (mem_plan plan m).depth ≡ y)
      → is_among m ((if b then owned else []) ++ others) ≡ true → (mem_plan plan m).depth ≡ (if b && c then x else y)
  chosen true true owned others x y is f g e = f refl refl
  chosen true false owned others x y is f g e = g (passed (sym (among_append m owned others) ∙ e) is)
    where
      passed : (is_among m owned || is_among m others) ≡ true → is_among m owned ≡ false → is_among m others ≡ true
      passed h none = sym (ap (λ t. t || is_among m others) none) ∙ h
  chosen false c owned others x y is f g e = g e

  mutual
    exact_in : (k n : ℕ) (streamed : Bool) (node : PlainNode) → holds_of_each (copy_rule core forms meets plan) k n streamed node ≡ true → is_among m (owned_by_loops node) ≡ true → (mem_plan plan m).depth ≡ depth_in core plan.nodes m k node
    exact_in k n st (inner counters owned ops comb) h e = absurd (false≢true e)
    exact_in k n st (outer counters style owned stages) h e =
        let parts = and_parts (not (is_loop counters && not (is_stream style)) || are_copied core plan k owned stages) (holds_of_stages (copy_rule core forms meets plan) (suc k) (n + counters_size counters) (is_stream style) stages) h in
        chosen (is_loop counters && not (is_stream style)) (is_among m owned) owned (owned_by_stages stages) (copies core m stages (node_plan plan k)) (depth_in_stages core plan.nodes m (suc k) stages) refl
        (λ loops mine. eqb-true (mem_plan plan m).depth (copies core m stages (node_plan plan k))
        (owned_exact m (λ i. (mem_plan plan i).depth == copies core i stages (node_plan plan k)) owned (asked (is_loop counters && not (is_stream style)) loops parts.0) mine))
        (exact_in_stages (suc k) (n + counters_size counters) (is_stream style) stages parts.1) e
      where
        asked : (b : Bool) → b ≡ true → (not b || are_copied core plan k owned stages) ≡ true → are_copied core plan k owned stages ≡ true
        asked true q h = h
        asked false q h = absurd (false≢true q)
    exact_in k n st (fsm start state test body next) h e = exact_in (suc k) (n + (length start + length test)) false body h e
    exact_in k n st (branch test first second) h e =
        let parts = and_parts (holds_of_each (copy_rule core forms meets plan) (suc k) (n + length test) false first) (holds_of_each (copy_rule core forms meets plan) (suc k + node_count first) ((n + length test) + number_count first) false second) h in
        joined (mem_plan plan m).depth (depth_in core plan.nodes m (suc k) first) (depth_in core plan.nodes m (suc k + node_count first) second) (is_among m (owned_by_loops first)) (is_among m (owned_by_loops second))
        (exact_in (suc k) (n + length test) false first parts.0) (single core plan.nodes m (suc k) first)
        (exact_in (suc k + node_count first) ((n + length test) + number_count first) false second parts.1) (single core plan.nodes m (suc k + node_count first) second)
        (some_depth core plan.nodes m (suc k) first) (some_depth core plan.nodes m (suc k + node_count first) second)
        (sym (among_append m (owned_by_loops first) (owned_by_loops second)) ∙ e)
    exact_in k n st (load r s spans) h e = absurd (false≢true e)
    exact_in k n st (store r s spans) h e = absurd (false≢true e)
    exact_in k n st (sparse kind r s places spans count par) h e = absurd (false≢true e)

    exact_in_stages : (k n : ℕ) (streamed : Bool) (stages : PlainStages) → holds_of_stages (copy_rule core forms meets plan) k n streamed stages ≡ true → is_among m (owned_by_stages stages) ≡ true → (mem_plan plan m).depth ≡ depth_in_stages core plan.nodes m k stages
    exact_in_stages k n st no_stage h e = absurd (false≢true e)
    exact_in_stages k n st (more_stage first last comb node rest) h e =
        let parts = and_parts (holds_of_each (copy_rule core forms meets plan) k n st node) (holds_of_stages (copy_rule core forms meets plan) (k + node_count node) (n + number_count node) st rest) h in
        joined (mem_plan plan m).depth (depth_in core plan.nodes m k node) (depth_in_stages core plan.nodes m (k + node_count node) rest) (is_among m (owned_by_loops node)) (is_among m (owned_by_stages rest))
        (exact_in k n st node parts.0) (single core plan.nodes m k node)
        (exact_in_stages (k + node_count node) (n + number_count node) st rest parts.1) (all_single core plan.nodes m (k + node_count node) rest)
        (some_depth core plan.nodes m k node) (some_depths core plan.nodes m (k + node_count node) rest)
        (sym (among_append m (owned_by_loops node) (owned_by_stages rest)) ∙ e)

  whole : (b : Bool) → is_among m (owned_by_loops core.root) ≡ b → holds_of_each (copy_rule core forms meets plan) 0 0 false core.root ≡ true → (b || ((mem_plan plan m).depth == 1)) ≡ true → (mem_plan plan m).depth ≡ depth_of core plan.nodes m
  whole true is h alone = exact_in 0 0 false core.root h is
  whole false is h alone = eqb-true (mem_plan plan m).depth 1 alone ∙ sym (single core plan.nodes m 0 core.root is)

  pub exact_depth : holds_of_each (copy_rule core forms meets plan) 0 0 false core.root ≡ true → is_single core plan m ≡ true → (mem_plan plan m).depth ≡ depth_of core plan.nodes m
  exact_depth h alone = whole (is_among m (owned_by_loops core.root)) refl h alone
