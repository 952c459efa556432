-- Each node of lanes keeps the rules of cores.
use Rattle.std.proofs.Common.{◌≡◌, ℕ, zero, suc, ◌+◌, ◌*◌, ◌<◌, ◌≤◌, ◌⊎◌, inl, inr, Bool, true, false, cond, ◌&&◌, ◌||◌, List, [], ◌∷◌, ◌++◌, length, map, Option, refl, sym, ◌∙◌, ap, subst, arith, ◌==◌}
use Rattle.std.proofs.lemmas.Bool.{and_parts, and_from, eq-eqb}
use Rattle.std.proofs.lemmas.Bool.Decides.{eqb_tells}
use Rattle.std.proofs.lemmas.List.{length-append, length-map}
use Rattle.std.proofs.Math.Nat.{mul-le-mul_right}
use Rattle.std.specs.List.{list_all}
use Rattle.std.specs.Prelude.{option_map, nat_lt}
use Rattle.sp_words.specs.declared.kind.Style.{Style}
use Rattle.sp_words.specs.declared.types.Ty.TheVariants.{Bit}
use Rattle.sp_core.specs.Around.{Around, Near, within, lanes_of, has_lane}
use Rattle.sp_core.specs.Declarations.{mem}
use Rattle.sp_core.specs.Elements.{numbers_below}
use Rattle.sp_core.specs.NodeRules.{is_reg, are_counters_right, with_state, is_node_right, are_lanes_right, are_stages, single_lanes}
use Rattle.sp_core.specs.OperationRules.{are_operations_right, is_word_list}
use Rattle.sp_core.specs.PlainCore.{PlainOp, PlainCounter, PlainMem, PlainNode, PlainStages, inner, outer, fsm, branch, load, store, sparse, no_stage, more_stage, PlainCore}
use Rattle.sp_lanes.specs.Order.{memory_order, occurrence}
use Rattle.sp_lanes.specs.Unrolled.{unrolled, last_number, stages_in, stages_by_lane, stage_after, combination_of, owned_in_lanes, ops_in_lanes, combination_in, node_in, left_as_they_are, nodes_in}
use Rattle.sp_lanes.specs.Within.{Within, owning, in_lane, ops_in, counters_in}
use Rattle.sp_lane_rules.specs.Copies.{one_if, occurrences, copies_in, copies_in_stages}
use Rattle.sp_lane_rules.proofs.CopiesMemoryRules.{count_among}
use Rattle.sp_lane_rules.proofs.CopiesOwners.{Fits, lane_fits, own_fits, part_fits}
use Rattle.sp_lane_rules.specs.UnrolledPlaces.{GoTogether}
use Rattle.sp_lane_rules.specs.UnrolledRight.{EachRight, AllRight}
use Rattle.sp_lane_rules.proofs.UnrolledLists.{word_list_kept}
use Rattle.sp_lane_rules.proofs.UnrolledNodes.{controller_kept}
use Rattle.sp_lane_rules.proofs.UnrolledPlaces.{near, lanes_kept, counters_kept, last_has, copy_there, lane_together, state_together}
use Rattle.sp_lane_rules.proofs.UnrolledStageLanes.{by_lane_right, own_stages, each_long, left_right}
use Rattle.sp_lane_rules.proofs.UnrolledTree as before
use Rattle.sp_lane_rules.proofs.UnrolledTree.{lanes_positive}
use Rattle.sp_lane_rules.specs.CombinedMeetings.{IsMet}
use Rattle.sp_lane_rules.specs.CombinedStanding.{numbers_of, MayFollow, Combines, Combine}
use Rattle.sp_lane_rules.proofs.CombinedCombinations.{lanes_right}
use Rattle.sp_lane_rules.proofs.CombinedFollowing.{ZeroBut, zero_inside, combination_right, some_stage, after_right}

-- nodes of a list
abbrev NodesRight : PlainCore → Around → List PlainNode → Type 0
NodesRight core around [] = Unit {0}
NodesRight core around (node ∷ nodes) = EachRight core around node × NodesRight core around nodes

abbrev ListsRight : PlainCore → Around → List (List PlainNode) → Type 0
ListsRight core around [] = Unit {0}
ListsRight core around (nodes ∷ lists) = NodesRight core around nodes × ListsRight core around lists

stages_in_right : (core : PlainCore) (around : Around) (l : ℕ) (nodes : List PlainNode) (rest : PlainStages) → NodesRight core around nodes → AllRight core around rest → AllRight core around (stages_in l nodes rest)
stages_in_right core around l [] rest h r = r
stages_in_right core around l (node ∷ nodes) rest h r = (h.0, stages_in_right core around l nodes rest h.1 r)

by_lane_all : (core : PlainCore) (around : Around) (l : ℕ) (lists : List (List PlainNode)) (rest : PlainStages) → ListsRight core around lists → AllRight core around rest → AllRight core around (stages_by_lane l lists rest)
by_lane_all core around l [] rest h r = r
by_lane_all core around l (nodes ∷ lists) rest h r = stages_in_right core around l nodes (stages_by_lane (suc l) lists rest) h.0 (by_lane_all core around (suc l) lists rest h.1 r)

lists_append : (core : PlainCore) (around : Around) (f : ℕ → List PlainNode) (xs : List ℕ) (x : ℕ) → ListsRight core around (map f xs) → NodesRight core around (f x) → ListsRight core around (map f (xs ++ x ∷ []))
lists_append core around f [] x h k = (k, tt)
lists_append core around f (y ∷ xs) x h k = (h.0, lists_append core around f xs x h.1 k)

lists_below : (core : PlainCore) (around : Around) (f : ℕ → List PlainNode) (p : ℕ) → ((l : ℕ) → l < p → NodesRight core around (f l)) → ListsRight core around (map f (numbers_below p))
lists_below core around f zero h = tt
lists_below core around f (suc p) h = lists_append core around f (numbers_below p) p (lists_below core around f p (λ l lt. h l (omega arith))) (h p (omega arith))

state_fits : (c o b t : ℕ) → 1 ≤ o → (c + 1) * (o + b) ≤ t → c < t
state_fits c o b t one le = let a : 1 * (c + 1) ≤ (o + b) * (c + 1) = mul-le-mul_right (c + 1) (omega arith) in omega (arith, a)

below_length : (n : ℕ) → length (numbers_below n) ≡ n
below_length zero = refl
below_length (suc n) = omega (arith, length-append (numbers_below n) (n ∷ []), below_length n)

several : {A : Type 0} (n : ℕ) → (n ≡ 1 → ⊥) → (n ≡ 1) ⊎ A → A
several n e (inl s) = absurd (e s)
several n e (inr a) = a

two : (n : ℕ) → 1 ≤ n → (n ≡ 1 → ⊥) → 2 ≤ n
two n le ne = omega (arith, ne)

last_there : (counters : List PlainCounter) (rest : List Near) (l : ℕ) → (lanes_of counters ≡ 1 → ⊥) → l < lanes_of counters → has_lane (map (near (lanes_of counters)) counters ++ rest) (last_number counters) l ≡ true
last_there [] rest l e lt = absurd (e refl)
last_there (c ∷ counters) rest l e lt = last_has c counters rest (lanes_of (c ∷ counters)) l lt

module _ (core : PlainCore) where
  outer_fits : (counters : List PlainCounter) (style : Style) (owned : List ℕ) (stages : PlainStages) (w : Within) → Fits (memory_order core) (copies_in (outer counters style owned stages)) w → (l : ℕ) → l < lanes_of counters
      → Fits (memory_order core) (copies_in_stages stages) (in_lane (memory_order core) counters owned w l)
  outer_fits counters style owned stages w fits l lt n = lane_fits w.copy (lanes_of counters) l (occurrences n owned) (copies_in_stages stages n) (occurrences n (memory_order core)) lt (fits n)

  -- places in the lanes of a controller
  module _ (counters : List PlainCounter) (owned : List ℕ) (around inside : Around) (w : Within) (h : GoTogether core (unrolled core) around inside w) where
    lanes_together : (s : ℕ → ℕ) → ((n : ℕ) → (w.copy + 1) * (lanes_of counters * (occurrences n owned + s n)) ≤ occurrences n (memory_order core)) → (l : ℕ) → l < lanes_of counters
        → GoTogether core (unrolled core) (within around counters owned) (within inside (counters_in w counters) (owned_in_lanes (memory_order core) counters owned w)) (in_lane (memory_order core) counters owned w l)
    lanes_together s fits l lt = lane_together core around inside w h counters owned l lt
        (λ m i. own_fits w.copy (lanes_of counters) l (occurrences m owned) (s m) (occurrences m (memory_order core)) lt (count_among m owned i) (fits m))

    has_all : (lanes_of counters ≡ 1 → ⊥) → (l : ℕ) → l < lanes_of counters → has_lane (within inside (counters_in w counters) (owned_in_lanes (memory_order core) counters owned w)).counters (last_number counters) l ≡ true
    has_all more l lt = ap (λ (xs : List Near). has_lane xs (last_number counters) l) (counters_kept w around inside counters owned (owned_in_lanes (memory_order core) counters owned w) h.counters)
        ∙ last_there counters around.counters l more lt

  -- an inner body
  inner_kept : (counters : List PlainCounter) (owned : List ℕ) (ops : List PlainOp) (comb : Option ℕ) (around inside : Around) (w : Within) → GoTogether core (unrolled core) around inside w
      → Fits (memory_order core) (copies_in (inner counters owned ops comb)) w → (lanes_of counters ≡ 1) ⊎ IsMet ops comb → is_node_right core around (inner counters owned ops comb) ≡ true
      → EachRight (unrolled core) inside (node_in (memory_order core) w (inner counters owned ops comb))
  unfolding node_in left_as_they_are nodes_in
  inner_kept counters owned ops comb around inside w h fits one e = elim (eqb_tells (lanes_of counters) 1) [
    | inl single ↦ before.node_kept core (inner counters owned ops comb) around inside w h fits (inl single.1) e
    | inr more ↦ and_from _ _ (controller_kept core (unrolled core) around inside w h counters a.0)
        (ap (λ b. are_operations_right (unrolled core) (within inside (counters_in w counters) (owned_in_lanes (memory_order core) counters owned w))
        (cond b (ops_in (in_lane (memory_order core) counters owned w 0) ops) (ops_in_lanes (memory_order core) w counters owned ops comb))) more.0
        ∙ lanes_right core (unrolled core) (within around counters owned) (within inside (counters_in w counters) (owned_in_lanes (memory_order core) counters owned w)) (last_number counters)
        (in_lane (memory_order core) counters owned w) (lanes_of counters) together (has_all counters owned around inside w h more.1)
        (lanes_positive core around counters (are_operations_right core (within around counters owned) ops) e) owned ops comb (several (lanes_of counters) more.1 one) a.1)
  ]
    where
      a : (are_counters_right core around counters ≡ true) × (are_operations_right core (within around counters owned) ops ≡ true)
      a = and_parts (are_counters_right core around counters) (are_operations_right core (within around counters owned) ops) e

      together : (l : ℕ) → l < lanes_of counters
          → GoTogether core (unrolled core) (within around counters owned) (within inside (counters_in w counters) (owned_in_lanes (memory_order core) counters owned w)) (in_lane (memory_order core) counters owned w l)
      together = lanes_together counters owned around inside w h (λ n. 0)
          (λ n. subst (λ x. (w.copy + 1) * (lanes_of counters * x) ≤ occurrences n (memory_order core)) {x = occurrences n owned} {y = occurrences n owned + 0} (omega arith) (fits n))

  -- the stages of several lanes, and what combines after them
  several_kept : (c : PlainCounter) (rest : List PlainCounter) (style : Style) (owned numbers : List ℕ) (stages : PlainStages) (around inside : Around) (w : Within) → GoTogether core (unrolled core) around inside w
      → ZeroBut numbers w → Fits (memory_order core) (copies_in (outer (c ∷ rest) style owned stages)) w → 1 ≤ lanes_of (c ∷ rest) → (lanes_of (c ∷ rest) ≡ 1 → ⊥)
      → MayFollow (numbers_of (c ∷ rest) ++ numbers) (combination_of stages) → AllRight core (within around (c ∷ rest) owned) stages
      → is_node_right core around (outer (c ∷ rest) style owned stages) ≡ true
      → ((l : ℕ) → l < lanes_of (c ∷ rest) → NodesRight (unrolled core) (within inside (counters_in w (c ∷ rest)) (owned_in_lanes (memory_order core) (c ∷ rest) owned w)) (nodes_in (memory_order core) (in_lane (memory_order core) (c ∷ rest) owned w l) stages))
      → EachRight (unrolled core) inside (outer (counters_in w (c ∷ rest)) style (owned_in_lanes (memory_order core) (c ∷ rest) owned w)
      (stages_by_lane 0 (map (λ l. nodes_in (memory_order core) (in_lane (memory_order core) (c ∷ rest) owned w l) stages) (numbers_below (lanes_of (c ∷ rest))))
      (stage_after (lanes_of (c ∷ rest)) (option_map (combination_in (memory_order core) w (c ∷ rest) owned) (combination_of stages)))))
  several_kept c rest style owned numbers stages around inside w h z fits some more follows all e each = (
    and_from _ _ (controller_kept core (unrolled core) around inside w h (c ∷ rest) a.0)
        (ap (λ n. are_lanes_right n (stages_by_lane 0 (map in_each (numbers_below (lanes_of (c ∷ rest)))) (stage_after (lanes_of (c ∷ rest)) one))) (lanes_kept w (c ∷ rest))
        ∙ by_lane_right (lanes_of (c ∷ rest)) (own_stages stages) (map in_each (numbers_below (lanes_of (c ∷ rest)))) one (two (lanes_of (c ∷ rest)) some more)
        (length-map (numbers_below (lanes_of (c ∷ rest))) in_each ∙ below_length (lanes_of (c ∷ rest)))
        (each_long (memory_order core) (in_lane (memory_order core) (c ∷ rest) owned w) stages (numbers_below (lanes_of (c ∷ rest))))
        (some_stage (lanes_of (c ∷ rest)) (combination_in (memory_order core) w (c ∷ rest) owned) stages there)),
    by_lane_all (unrolled core) (within inside (counters_in w (c ∷ rest)) (owned_in_lanes (memory_order core) (c ∷ rest) owned w)) 0 (map in_each (numbers_below (lanes_of (c ∷ rest)))) (stage_after (lanes_of (c ∷ rest)) one)
        (lists_below (unrolled core) (within inside (counters_in w (c ∷ rest)) (owned_in_lanes (memory_order core) (c ∷ rest) owned w)) in_each (lanes_of (c ∷ rest)) each)
        (after_right core (unrolled core) (memory_order core) numbers w c rest owned (within around (c ∷ rest) owned) (within inside (counters_in w (c ∷ rest)) (owned_in_lanes (memory_order core) (c ∷ rest) owned w))
        (lanes_together (c ∷ rest) owned around inside w h (copies_in_stages stages) fits) (λ l. zero_inside (memory_order core) numbers (c ∷ rest) owned w l z) some (has_all (c ∷ rest) owned around inside w h more)
        (lanes_of (c ∷ rest)) (combination_of stages) follows (combination_right core (within around (c ∷ rest) owned) stages all)),
  )
    where
      in_each : ℕ → List PlainNode
      in_each l = nodes_in (memory_order core) (in_lane (memory_order core) (c ∷ rest) owned w l) stages

      one : Option PlainNode
      one = option_map (combination_in (memory_order core) w (c ∷ rest) owned) (combination_of stages)

      a : (are_counters_right core around (c ∷ rest) ≡ true) × (are_lanes_right (lanes_of (c ∷ rest)) stages ≡ true)
      a = and_parts (are_counters_right core around (c ∷ rest)) (are_lanes_right (lanes_of (c ∷ rest)) stages) e

      there : are_stages stages ≡ true
      there = (and_parts (are_stages stages) _ (and_parts (are_stages stages && list_all (λ l. nat_lt l (lanes_of (c ∷ rest))) (single_lanes stages)) _ a.1).0).0

  -- a body with stages
  outer_kept : (counters : List PlainCounter) (style : Style) (owned numbers : List ℕ) (stages : PlainStages) (around inside : Around) (w : Within) → GoTogether core (unrolled core) around inside w
      → ZeroBut numbers w → Fits (memory_order core) (copies_in (outer counters style owned stages)) w → 1 ≤ lanes_of counters
      → (lanes_of counters ≡ 1) ⊎ MayFollow (numbers_of counters ++ numbers) (combination_of stages) → AllRight core (within around counters owned) stages
      → is_node_right core around (outer counters style owned stages) ≡ true
      → ((l : ℕ) → l < lanes_of counters → AllRight (unrolled core) (within inside (counters_in w counters) (owned_in_lanes (memory_order core) counters owned w)) (left_as_they_are (memory_order core) (in_lane (memory_order core) counters owned w l) stages))
      → ((l : ℕ) → l < lanes_of counters → NodesRight (unrolled core) (within inside (counters_in w counters) (owned_in_lanes (memory_order core) counters owned w)) (nodes_in (memory_order core) (in_lane (memory_order core) counters owned w l) stages))
      → EachRight (unrolled core) inside (node_in (memory_order core) w (outer counters style owned stages))
  unfolding node_in left_as_they_are nodes_in
  outer_kept counters style owned numbers stages around inside w h z fits some one all e left each = elim (eqb_tells (lanes_of counters) 1) [
    | inl single ↦ subst (λ b. EachRight (unrolled core) inside (by_lanes b)) (sym single.0) (
      and_from _ _ (controller_kept core (unrolled core) around inside w h counters a.0)
          (ap (λ n. are_lanes_right n (left_as_they_are (memory_order core) (in_lane (memory_order core) counters owned w 0) stages)) (lanes_kept w counters)
          ∙ left_right (memory_order core) (in_lane (memory_order core) counters owned w 0) (lanes_of counters) stages a.1),
      left 0 some,
    )
    | inr more ↦ subst (λ b. EachRight (unrolled core) inside (by_lanes b)) (sym more.0) (by_counters counters fits some more.1 (several (lanes_of counters) more.1 one) all e each)
  ]
    where
      a : (are_counters_right core around counters ≡ true) × (are_lanes_right (lanes_of counters) stages ≡ true)
      a = and_parts (are_counters_right core around counters) (are_lanes_right (lanes_of counters) stages) e

      by_lanes : Bool → PlainNode
      by_lanes b = elim b as (λ _. PlainNode) [
        | true ↦ outer (counters_in w counters) style (owned_in_lanes (memory_order core) counters owned w) (left_as_they_are (memory_order core) (in_lane (memory_order core) counters owned w 0) stages)
        | false ↦ outer (counters_in w counters) style (owned_in_lanes (memory_order core) counters owned w) (stages_by_lane 0 (map (λ l. nodes_in (memory_order core) (in_lane (memory_order core) counters owned w l) stages) (numbers_below (lanes_of counters)))
            (stage_after (lanes_of counters) (option_map (combination_in (memory_order core) w counters owned) (combination_of stages))))
      ]

      by_counters : (cs : List PlainCounter) → Fits (memory_order core) (copies_in (outer cs style owned stages)) w → 1 ≤ lanes_of cs → (lanes_of cs ≡ 1 → ⊥)
          → MayFollow (numbers_of cs ++ numbers) (combination_of stages) → AllRight core (within around cs owned) stages → is_node_right core around (outer cs style owned stages) ≡ true
          → ((l : ℕ) → l < lanes_of cs → NodesRight (unrolled core) (within inside (counters_in w cs) (owned_in_lanes (memory_order core) cs owned w)) (nodes_in (memory_order core) (in_lane (memory_order core) cs owned w l) stages))
          → EachRight (unrolled core) inside (outer (counters_in w cs) style (owned_in_lanes (memory_order core) cs owned w)
          (stages_by_lane 0 (map (λ l. nodes_in (memory_order core) (in_lane (memory_order core) cs owned w l) stages) (numbers_below (lanes_of cs)))
          (stage_after (lanes_of cs) (option_map (combination_in (memory_order core) w cs owned) (combination_of stages)))))
      by_counters [] f s m follows r i each = absurd (m refl)
      by_counters (c ∷ cs) f s m follows r i each = several_kept c cs style owned numbers stages around inside w h z f s m follows r i each

  -- the state of an FSM
  fsm_fits : (state : ℕ) (body : PlainNode) (w : Within) → ((n : ℕ) → (w.copy + 1) * (occurrences n (state ∷ []) + copies_in body n) ≤ occurrences n (memory_order core)) → w.copy < occurrences state (memory_order core)
  fsm_fits state body w fits =
      state_fits w.copy (occurrences state (state ∷ [])) (copies_in body state) (occurrences state (memory_order core)) (let e : one_if (state == state) ≡ 1 = ap one_if (eq-eqb state state refl) in omega (arith, e)) (fits state)

  fsm_kept : (start : List PlainOp) (state : ℕ) (test : List PlainOp) (body : PlainNode) (next : List PlainOp) (around inside : Around) (w : Within) → GoTogether core (unrolled core) around inside w
      → Fits (memory_order core) (copies_in (fsm start state test body next)) w → is_node_right core around (fsm start state test body next) ≡ true
      → is_node_right (unrolled core) inside (fsm (ops_in w start) ((owning (memory_order core) (state ∷ []) w).number state) (ops_in (owning (memory_order core) (state ∷ []) w) test)
      (node_in (memory_order core) (owning (memory_order core) (state ∷ []) w) body) (ops_in (owning (memory_order core) (state ∷ []) w) next)) ≡ true
  fsm_kept start state test body next around inside w h fits e =
      and_from _ _ (and_from _ _ (ap (λ (x : PlainMem). is_reg x.kind) declared ∙ b.0) (ap (λ (x : PlainMem). is_word_list (unrolled core) inside (ops_in w start) x.ty) declared ∙ word_list_kept core (unrolled core) around inside w h start (mem core state).ty b.1))
      (and_from _ _ (word_list_kept core (unrolled core) within_state inside_state (owning (memory_order core) (state ∷ []) w) together test Bit c.0)
      (ap (λ (x : PlainMem). is_word_list (unrolled core) inside_state (ops_in (owning (memory_order core) (state ∷ []) w) next) x.ty) declared
      ∙ word_list_kept core (unrolled core) within_state inside_state (owning (memory_order core) (state ∷ []) w) together next (mem core state).ty c.1))
    where
      within_state : Around
      within_state = with_state core around state

      inside_state : Around
      inside_state = with_state (unrolled core) inside ((owning (memory_order core) (state ∷ []) w).number state)

      together : GoTogether core (unrolled core) within_state inside_state (owning (memory_order core) (state ∷ []) w)
      together = state_together core around inside w h state (fsm_fits state body w fits)

      a : ((is_reg (mem core state).kind && is_word_list core around start (mem core state).ty) ≡ true) × ((is_word_list core within_state test Bit && is_word_list core within_state next (mem core state).ty) ≡ true)
      a = and_parts (is_reg (mem core state).kind && is_word_list core around start (mem core state).ty) (is_word_list core within_state test Bit && is_word_list core within_state next (mem core state).ty) e

      b : (is_reg (mem core state).kind ≡ true) × (is_word_list core around start (mem core state).ty ≡ true)
      b = and_parts (is_reg (mem core state).kind) (is_word_list core around start (mem core state).ty) a.0

      c : (is_word_list core within_state test Bit ≡ true) × (is_word_list core within_state next (mem core state).ty ≡ true)
      c = and_parts (is_word_list core within_state test Bit) (is_word_list core within_state next (mem core state).ty) a.1

      declared : mem (unrolled core) ((owning (memory_order core) (state ∷ []) w).number state) ≡ mem core state
      declared = ap (λ b. mem (unrolled core) (cond (b || false) (occurrence state w.copy (memory_order core)) (w.number state))) (eq-eqb state state refl) ∙ (copy_there core state w.copy (fsm_fits state body w fits)).1

  mutual
    unfolding node_in left_as_they_are nodes_in unrolled

    pub node_kept : (node : PlainNode) (numbers : List ℕ) (around inside : Around) (w : Within) → GoTogether core (unrolled core) around inside w → ZeroBut numbers w → Fits (memory_order core) (copies_in node) w → Combines numbers node
        → EachRight core around node → EachRight (unrolled core) inside (node_in (memory_order core) w node)
    node_kept (inner counters owned ops comb) numbers around inside w h z fits one e = inner_kept counters owned ops comb around inside w h fits one e
    node_kept (outer counters style owned stages) numbers around inside w h z fits one e =
        outer_kept counters style owned numbers stages around inside w h z fits (lanes_positive core around counters (are_lanes_right (lanes_of counters) stages) e.0) one.0 e.1 e.0
        (λ l lt. left_kept stages (numbers_of counters ++ numbers) (within around counters owned) (within inside (counters_in w counters) (owned_in_lanes (memory_order core) counters owned w)) (in_lane (memory_order core) counters owned w l)
        (lanes_together counters owned around inside w h (copies_in_stages stages) fits l lt) (zero_inside (memory_order core) numbers counters owned w l z) (outer_fits counters style owned stages w fits l lt) one.1 e.1)
        (λ l lt. nodes_kept stages (numbers_of counters ++ numbers) (within around counters owned) (within inside (counters_in w counters) (owned_in_lanes (memory_order core) counters owned w)) (in_lane (memory_order core) counters owned w l)
        (lanes_together counters owned around inside w h (copies_in_stages stages) fits l lt) (zero_inside (memory_order core) numbers counters owned w l z) (outer_fits counters style owned stages w fits l lt) one.1 e.1)
    node_kept (fsm start state test body next) numbers around inside w h z fits one e = (
      fsm_kept start state test body next around inside w h fits e.0,
      node_kept body numbers (within around [] (state ∷ [])) (within inside [] ((owning (memory_order core) (state ∷ []) w).number state ∷ [])) (owning (memory_order core) (state ∷ []) w)
          (state_together core around inside w h state (fsm_fits state body w fits)) z (λ n. (part_fits w.copy (occurrences n (state ∷ [])) (copies_in body n) (occurrences n (memory_order core)) (fits n)).1) one e.1,
    )
    node_kept (branch test first second) numbers around inside w h z fits one e = (
      word_list_kept core (unrolled core) around inside w h test Bit e.0,
      node_kept first numbers around inside w h z (λ n. (part_fits w.copy (copies_in first n) (copies_in second n) (occurrences n (memory_order core)) (fits n)).0) one.0 e.1,
      node_kept second numbers around inside w h z (λ n. (part_fits w.copy (copies_in first n) (copies_in second n) (occurrences n (memory_order core)) (fits n)).1) one.1 e.2,
    )
    node_kept (load r m spans) numbers around inside w h z fits one e = before.node_kept core (load r m spans) around inside w h fits tt e
    node_kept (store r m spans) numbers around inside w h z fits one e = before.node_kept core (store r m spans) around inside w h fits tt e
    node_kept (sparse kind r m index spans count par) numbers around inside w h z fits one e = before.node_kept core (sparse kind r m index spans count par) around inside w h fits tt e

    left_kept : (stages : PlainStages) (numbers : List ℕ) (around inside : Around) (w : Within) → GoTogether core (unrolled core) around inside w → ZeroBut numbers w → Fits (memory_order core) (copies_in_stages stages) w → Combine numbers stages
        → AllRight core around stages → AllRight (unrolled core) inside (left_as_they_are (memory_order core) w stages)
    left_kept no_stage numbers around inside w h z fits one e = tt
    left_kept (more_stage first last comb node rest) numbers around inside w h z fits one e = (
      node_kept node numbers around inside w h z (λ n. (part_fits w.copy (copies_in node n) (copies_in_stages rest n) (occurrences n (memory_order core)) (fits n)).0) one.0 e.0,
      left_kept rest numbers around inside w h z (λ n. (part_fits w.copy (copies_in node n) (copies_in_stages rest n) (occurrences n (memory_order core)) (fits n)).1) one.1 e.1,
    )

    nodes_kept : (stages : PlainStages) (numbers : List ℕ) (around inside : Around) (w : Within) → GoTogether core (unrolled core) around inside w → ZeroBut numbers w → Fits (memory_order core) (copies_in_stages stages) w → Combine numbers stages
        → AllRight core around stages → NodesRight (unrolled core) inside (nodes_in (memory_order core) w stages)
    nodes_kept no_stage numbers around inside w h z fits one e = tt
    nodes_kept (more_stage first last true node rest) numbers around inside w h z fits one e =
        nodes_kept rest numbers around inside w h z (λ n. (part_fits w.copy (copies_in node n) (copies_in_stages rest n) (occurrences n (memory_order core)) (fits n)).1) one.1 e.1
    nodes_kept (more_stage first last false node rest) numbers around inside w h z fits one e = (
      node_kept node numbers around inside w h z (λ n. (part_fits w.copy (copies_in node n) (copies_in_stages rest n) (occurrences n (memory_order core)) (fits n)).0) one.0 e.0,
      nodes_kept rest numbers around inside w h z (λ n. (part_fits w.copy (copies_in node n) (copies_in_stages rest n) (occurrences n (memory_order core)) (fits n)).1) one.1 e.1,
    )
