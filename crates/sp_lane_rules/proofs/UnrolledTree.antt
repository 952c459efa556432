-- Each node of lanes keeps the rules of cores, where no combination is in a body of several lanes.
use Rattle.std.proofs.Common.{◌≡◌, ℕ, zero, suc, ◌+◌, ◌*◌, ◌<◌, ◌≤◌, ◌⊎◌, inl, inr, Bool, true, false, cond, ◌&&◌, ◌||◌, List, [], ◌∷◌, ◌++◌, length, map, Option, Some, None, refl, sym, ◌∙◌, ap, subst, arith, ◌==◌, nat_lt, nat_le}
use Rattle.std.proofs.lemmas.Bool.{and_parts, and_from, true≢false, eq-eqb, eqb-false, leb-true}
use Rattle.std.proofs.lemmas.List.{length-append, length-map}
use Rattle.std.proofs.Math.Nat.{mul-le-mul_right}
use Rattle.std.specs.List.{list_all}
use Rattle.std.specs.Prelude.{option_map, ◌^◌}
use Rattle.sp_words.specs.declared.kind.Style.{Style}
use Rattle.sp_words.specs.declared.types.Ty.TheVariants.{Bit}
use Rattle.sp_core.specs.Around.{Around, Near, within, lanes_of, has_lane}
use Rattle.sp_core.specs.Declarations.{mem}
use Rattle.sp_core.specs.Elements.{numbers_below}
use Rattle.sp_core.specs.NodeRules.{is_reg, are_counters_right, is_slice_right, fits_sram, with_state, is_node_right, are_lanes_right, are_stages, single_lanes}
use Rattle.sp_core.specs.OperationRules.{are_operations_right, is_word_list, is_bound, is_counter_right}
use Rattle.sp_core.specs.PlainCore.{PlainOp, PlainCounter, PlainMem, PlainNode, PlainStages, inner, outer, fsm, branch, load, store, sparse, no_stage, more_stage, PlainCore}
use Rattle.sp_lanes.specs.Order.{memory_order, occurrence}
use Rattle.sp_lanes.specs.Unrolled.{unrolled, last_number, stages_in, stages_by_lane, stage_after, combination_of, owned_in_lanes, ops_in_lanes, inner_ops, combination_in, node_in, left_as_they_are, nodes_in}
use Rattle.sp_lanes.specs.Within.{Within, owning, in_lane, ops_in, counters_in}
use Rattle.sp_lane_rules.specs.Copies.{one_if, occurrences, copies_in, copies_in_stages}
use Rattle.sp_lane_rules.proofs.CopiesMemoryRules.{count_among}
use Rattle.sp_lane_rules.proofs.CopiesOwners.{Fits, lane_fits, own_fits, part_fits}
use Rattle.sp_lane_rules.specs.UnrolledMeetings.{IsBalanced}
use Rattle.sp_lane_rules.specs.UnrolledPlaces.{GoTogether}
use Rattle.sp_lane_rules.specs.UnrolledRight.{EachRight, AllRight, CombinesByTree, CombineByTree}
use Rattle.sp_lane_rules.proofs.UnrolledCombinedOps.{balanced_right}
use Rattle.sp_lane_rules.proofs.UnrolledLaneBodies.{lane_bodies_right}
use Rattle.sp_lane_rules.proofs.UnrolledLists.{list_after, word_list_kept}
use Rattle.sp_lane_rules.proofs.UnrolledNodes.{controller_kept, load_kept, slice_kept, sram_kept, sparse_kept}
use Rattle.sp_lane_rules.proofs.UnrolledPlaces.{near, lanes_kept, counters_kept, last_has, copy_there, lane_together, state_together}
use Rattle.sp_lane_rules.proofs.UnrolledStageLanes.{by_lane_right, own_stages, each_long, left_right}

-- nodes of a list
abbrev NodesRight : PlainCore → Around → List PlainNode → Type 0
NodesRight core around [] = Unit {0}
NodesRight core around (node ∷ nodes) = EachRight core around node × NodesRight core around nodes

abbrev ListsRight : PlainCore → Around → List (List PlainNode) → Type 0
ListsRight core around [] = Unit {0}
ListsRight core around (nodes ∷ lists) = NodesRight core around nodes × ListsRight core around lists

stages_in_right : (core : PlainCore) (around : Around) (l : ℕ) (nodes : List PlainNode) (rest : PlainStages) → NodesRight core around nodes → AllRight core around rest → AllRight core around (stages_in l nodes rest)
stages_in_right core around l [] rest h r = r
stages_in_right core around l (node ∷ nodes) rest h r = (h.0, stages_in_right core around l nodes rest h.1 r)

by_lane_all : (core : PlainCore) (around : Around) (l : ℕ) (lists : List (List PlainNode)) (rest : PlainStages) → ListsRight core around lists → AllRight core around rest → AllRight core around (stages_by_lane l lists rest)
by_lane_all core around l [] rest h r = r
by_lane_all core around l (nodes ∷ lists) rest h r = stages_in_right core around l nodes (stages_by_lane (suc l) lists rest) h.0 (by_lane_all core around (suc l) lists rest h.1 r)

lists_append : (core : PlainCore) (around : Around) (f : ℕ → List PlainNode) (xs : List ℕ) (x : ℕ) → ListsRight core around (map f xs) → NodesRight core around (f x) → ListsRight core around (map f (xs ++ x ∷ []))
lists_append core around f [] x h k = (k, tt)
lists_append core around f (y ∷ xs) x h k = (h.0, lists_append core around f xs x h.1 k)

lists_below : (core : PlainCore) (around : Around) (f : ℕ → List PlainNode) (p : ℕ) → ((l : ℕ) → l < p → NodesRight core around (f l)) → ListsRight core around (map f (numbers_below p))
lists_below core around f zero h = tt
lists_below core around f (suc p) h = lists_append core around f (numbers_below p) p (lists_below core around f p (λ l lt. h l (omega arith))) (h p (omega arith))

state_fits : (c o b t : ℕ) → 1 ≤ o → (c + 1) * (o + b) ≤ t → c < t
state_fits c o b t one le = let a : 1 * (c + 1) ≤ (o + b) * (c + 1) = mul-le-mul_right (c + 1) (omega arith) in omega (arith, a)

below_length : (n : ℕ) → length (numbers_below n) ≡ n
below_length zero = refl
below_length (suc n) = omega (arith, length-append (numbers_below n) (n ∷ []), below_length n)

several : {A : Type 0} (n : ℕ) → (n == 1) ≡ false → (n ≡ 1) ⊎ A → A
several n e (inl s) = absurd (true≢false (sym (eq-eqb n 1 s) ∙ e))
several n e (inr a) = a

-- a body without a combination has a stage of its own
own_there : (stages : PlainStages) → are_stages stages ≡ true → combination_of stages ≡ None → 1 ≤ own_stages stages
own_there no_stage e f = absurd (true≢false (sym e))
own_there (more_stage first last true node rest) e f = absurd (true≢false (ap (λ o. elim o [ Some z ↦ true | None ↦ false ]) f))
own_there (more_stage first last false node rest) e f = omega arith

last_there : (counters : List PlainCounter) (rest : List Near) (l : ℕ) → (lanes_of counters == 1) ≡ false → l < lanes_of counters → has_lane (map (near (lanes_of counters)) counters ++ rest) (last_number counters) l ≡ true
last_there [] rest l e lt = absurd (true≢false e)
last_there (c ∷ counters) rest l e lt = last_has c counters rest (lanes_of (c ∷ counters)) l lt

module _ (core : PlainCore) where
  -- an inner body
  inner_kept : (counters : List PlainCounter) (owned : List ℕ) (ops : List PlainOp) (comb : Option ℕ) (around inside : Around) (w : Within) → GoTogether core (unrolled core) around inside w
      → Fits (memory_order core) (copies_in (inner counters owned ops comb)) w → 1 ≤ lanes_of counters → (lanes_of counters ≡ 1) ⊎ IsBalanced ops comb → is_node_right core around (inner counters owned ops comb) ≡ true
      → is_node_right (unrolled core) inside (inner (counters_in w counters) (owned_in_lanes (memory_order core) counters owned w) (inner_ops (memory_order core) w counters owned ops comb) None) ≡ true
  inner_kept counters owned ops comb around inside w h fits some one e =
      and_from _ _ (controller_kept core (unrolled core) around inside w h counters a.0) (by (lanes_of counters == 1) refl)
    where
      a : (are_counters_right core around counters ≡ true) × (are_operations_right core (within around counters owned) ops ≡ true)
      a = and_parts (are_counters_right core around counters) (are_operations_right core (within around counters owned) ops) e

      together : (l : ℕ) → l < lanes_of counters
          → GoTogether core (unrolled core) (within around counters owned) (within inside (counters_in w counters) (owned_in_lanes (memory_order core) counters owned w)) (in_lane (memory_order core) counters owned w l)
      together l lt = lane_together core around inside w h counters owned l lt
          (λ m i. own_fits w.copy (lanes_of counters) l (occurrences m owned) 0 (occurrences m (memory_order core)) lt (count_among m owned i)
          (subst (λ x. (w.copy + 1) * (lanes_of counters * x) ≤ occurrences m (memory_order core)) {x = occurrences m owned} {y = occurrences m owned + 0} (omega arith) (fits m)))

      by : (b : Bool) → (lanes_of counters == 1) ≡ b
          → are_operations_right (unrolled core) (within inside (counters_in w counters) (owned_in_lanes (memory_order core) counters owned w))
          (cond b (ops_in (in_lane (memory_order core) counters owned w 0) ops) (ops_in_lanes (memory_order core) w counters owned ops comb)) ≡ true
      by true i = list_after core (unrolled core) (within around counters owned) (within inside (counters_in w counters) (owned_in_lanes (memory_order core) counters owned w)) (in_lane (memory_order core) counters owned w 0)
          (together 0 some) [] ops a.1
      by false i = combining comb (several (lanes_of counters) i one)
        where
          has : (l : ℕ) → l < lanes_of counters → has_lane (within inside (counters_in w counters) (owned_in_lanes (memory_order core) counters owned w)).counters (last_number counters) l ≡ true
          has l lt = ap (λ (xs : List Near). has_lane xs (last_number counters) l) (counters_kept w around inside counters owned (owned_in_lanes (memory_order core) counters owned w) h.counters) ∙ last_there counters around.counters l i lt

          combining : (comb : Option ℕ) → IsBalanced ops comb
              → are_operations_right (unrolled core) (within inside (counters_in w counters) (owned_in_lanes (memory_order core) counters owned w)) (ops_in_lanes (memory_order core) w counters owned ops comb) ≡ true
          combining None e = (lane_bodies_right core (unrolled core) (within around counters owned) (within inside (counters_in w counters) (owned_in_lanes (memory_order core) counters owned w)) (last_number counters)
              (in_lane (memory_order core) counters owned w) ops (lanes_of counters) together has a.1 owned some).0
          combining (Some first) e = balanced_right core (unrolled core) (within around counters owned) (within inside (counters_in w counters) (owned_in_lanes (memory_order core) counters owned w)) (last_number counters)
              (in_lane (memory_order core) counters owned w) (lanes_of counters) together has some owned ops first e a.1

  -- a body with stages
  outer_kept : (counters : List PlainCounter) (style : Style) (owned : List ℕ) (stages : PlainStages) (around inside : Around) (w : Within) → GoTogether core (unrolled core) around inside w
      → 1 ≤ lanes_of counters → (lanes_of counters ≡ 1) ⊎ (combination_of stages ≡ None) → is_node_right core around (outer counters style owned stages) ≡ true
      → ((l : ℕ) → l < lanes_of counters → AllRight (unrolled core) (within inside (counters_in w counters) (owned_in_lanes (memory_order core) counters owned w)) (left_as_they_are (memory_order core) (in_lane (memory_order core) counters owned w l) stages))
      → ((l : ℕ) → l < lanes_of counters → NodesRight (unrolled core) (within inside (counters_in w counters) (owned_in_lanes (memory_order core) counters owned w)) (nodes_in (memory_order core) (in_lane (memory_order core) counters owned w l) stages))
      → EachRight (unrolled core) inside (node_in (memory_order core) w (outer counters style owned stages))
  unfolding node_in left_as_they_are nodes_in
  outer_kept counters style owned stages around inside w h some one e left each = by (lanes_of counters == 1) refl
    where
      a : (are_counters_right core around counters ≡ true) × (are_lanes_right (lanes_of counters) stages ≡ true)
      a = and_parts (are_counters_right core around counters) (are_lanes_right (lanes_of counters) stages) e

      place : Around
      place = within inside (counters_in w counters) (owned_in_lanes (memory_order core) counters owned w)

      in_each : ℕ → List PlainNode
      in_each l = nodes_in (memory_order core) (in_lane (memory_order core) counters owned w l) stages

      more : (lanes_of counters == 1) ≡ false → 2 ≤ lanes_of counters
      more i = two (lanes_of counters) some (eqb-false (lanes_of counters) 1 i)
        where
          two : (n : ℕ) → 1 ≤ n → (n ≡ 1 → ⊥) → 2 ≤ n
          two n le ne = omega (arith, ne)

      by : (b : Bool) → (lanes_of counters == 1) ≡ b → EachRight (unrolled core) inside (elim b as (λ _. PlainNode) [
        | true ↦ outer (counters_in w counters) style (owned_in_lanes (memory_order core) counters owned w) (left_as_they_are (memory_order core) (in_lane (memory_order core) counters owned w 0) stages)
        | false ↦ outer (counters_in w counters) style (owned_in_lanes (memory_order core) counters owned w) (stages_by_lane 0 (map in_each (numbers_below (lanes_of counters)))
            (stage_after (lanes_of counters) (option_map (combination_in (memory_order core) w counters owned) (combination_of stages))))
      ])
      by true i = (
        and_from _ _ (controller_kept core (unrolled core) around inside w h counters a.0)
            (ap (λ n. are_lanes_right n (left_as_they_are (memory_order core) (in_lane (memory_order core) counters owned w 0) stages)) (lanes_kept w counters)
            ∙ left_right (memory_order core) (in_lane (memory_order core) counters owned w 0) (lanes_of counters) stages a.1),
        left 0 some,
      )
      by false i =
          let none : combination_of stages ≡ None = several (lanes_of counters) i one in
          subst (λ o. EachRight (unrolled core) inside (outer (counters_in w counters) style (owned_in_lanes (memory_order core) counters owned w) (stages_by_lane 0 (map in_each (numbers_below (lanes_of counters)))
          (stage_after (lanes_of counters) (option_map (combination_in (memory_order core) w counters owned) o))))) (sym none) (
            and_from _ _ (controller_kept core (unrolled core) around inside w h counters a.0)
                (ap (λ n. are_lanes_right n (stages_by_lane 0 (map in_each (numbers_below (lanes_of counters))) no_stage)) (lanes_kept w counters)
                ∙ by_lane_right (lanes_of counters) (own_stages stages) (map in_each (numbers_below (lanes_of counters))) None (more i) (length-map (numbers_below (lanes_of counters)) in_each ∙ below_length (lanes_of counters))
                (each_long (memory_order core) (in_lane (memory_order core) counters owned w) stages (numbers_below (lanes_of counters)))
                (inl (own_there stages (and_parts (are_stages stages) _ (and_parts (are_stages stages && list_all (λ l. nat_lt l (lanes_of counters)) (single_lanes stages)) _ a.1).0).0 none))),
            by_lane_all (unrolled core) place 0 (map in_each (numbers_below (lanes_of counters))) no_stage (lists_below (unrolled core) place in_each (lanes_of counters) each) tt,
          )

  outer_fits : (counters : List PlainCounter) (style : Style) (owned : List ℕ) (stages : PlainStages) (w : Within) → Fits (memory_order core) (copies_in (outer counters style owned stages)) w → (l : ℕ) → l < lanes_of counters
      → Fits (memory_order core) (copies_in_stages stages) (in_lane (memory_order core) counters owned w l)
  outer_fits counters style owned stages w fits l lt n = lane_fits w.copy (lanes_of counters) l (occurrences n owned) (copies_in_stages stages n) (occurrences n (memory_order core)) lt (fits n)

  outer_place : (counters : List PlainCounter) (style : Style) (owned : List ℕ) (stages : PlainStages) (around inside : Around) (w : Within) → GoTogether core (unrolled core) around inside w
      → Fits (memory_order core) (copies_in (outer counters style owned stages)) w → (l : ℕ) → l < lanes_of counters
      → GoTogether core (unrolled core) (within around counters owned) (within inside (counters_in w counters) (owned_in_lanes (memory_order core) counters owned w)) (in_lane (memory_order core) counters owned w l)
  outer_place counters style owned stages around inside w h fits l lt =
      lane_together core around inside w h counters owned l lt
      (λ m i. own_fits w.copy (lanes_of counters) l (occurrences m owned) (copies_in_stages stages m) (occurrences m (memory_order core)) lt (count_among m owned i) (fits m))

  -- the state of an FSM
  fsm_fits : (state : ℕ) (body : PlainNode) (w : Within) → ((n : ℕ) → (w.copy + 1) * (occurrences n (state ∷ []) + copies_in body n) ≤ occurrences n (memory_order core)) → w.copy < occurrences state (memory_order core)
  fsm_fits state body w fits =
      state_fits w.copy (occurrences state (state ∷ [])) (copies_in body state) (occurrences state (memory_order core)) (let e : one_if (state == state) ≡ 1 = ap one_if (eq-eqb state state refl) in omega (arith, e)) (fits state)

  fsm_kept : (start : List PlainOp) (state : ℕ) (test : List PlainOp) (body : PlainNode) (next : List PlainOp) (around inside : Around) (w : Within) → GoTogether core (unrolled core) around inside w
      → Fits (memory_order core) (copies_in (fsm start state test body next)) w → is_node_right core around (fsm start state test body next) ≡ true
      → is_node_right (unrolled core) inside (fsm (ops_in w start) ((owning (memory_order core) (state ∷ []) w).number state) (ops_in (owning (memory_order core) (state ∷ []) w) test)
      (node_in (memory_order core) (owning (memory_order core) (state ∷ []) w) body) (ops_in (owning (memory_order core) (state ∷ []) w) next)) ≡ true
  fsm_kept start state test body next around inside w h fits e =
      and_from _ _ (and_from _ _ (ap (λ (x : PlainMem). is_reg x.kind) declared ∙ b.0) (ap (λ (x : PlainMem). is_word_list (unrolled core) inside (ops_in w start) x.ty) declared ∙ word_list_kept core (unrolled core) around inside w h start (mem core state).ty b.1))
      (and_from _ _ (word_list_kept core (unrolled core) within_state inside_state (owning (memory_order core) (state ∷ []) w) together test Bit c.0)
      (ap (λ (x : PlainMem). is_word_list (unrolled core) inside_state (ops_in (owning (memory_order core) (state ∷ []) w) next) x.ty) declared
      ∙ word_list_kept core (unrolled core) within_state inside_state (owning (memory_order core) (state ∷ []) w) together next (mem core state).ty c.1))
    where
      within_state : Around
      within_state = with_state core around state

      inside_state : Around
      inside_state = with_state (unrolled core) inside ((owning (memory_order core) (state ∷ []) w).number state)

      together : GoTogether core (unrolled core) within_state inside_state (owning (memory_order core) (state ∷ []) w)
      together = state_together core around inside w h state (fsm_fits state body w fits)

      a : ((is_reg (mem core state).kind && is_word_list core around start (mem core state).ty) ≡ true) × ((is_word_list core within_state test Bit && is_word_list core within_state next (mem core state).ty) ≡ true)
      a = and_parts (is_reg (mem core state).kind && is_word_list core around start (mem core state).ty) (is_word_list core within_state test Bit && is_word_list core within_state next (mem core state).ty) e

      b : (is_reg (mem core state).kind ≡ true) × (is_word_list core around start (mem core state).ty ≡ true)
      b = and_parts (is_reg (mem core state).kind) (is_word_list core around start (mem core state).ty) a.0

      c : (is_word_list core within_state test Bit ≡ true) × (is_word_list core within_state next (mem core state).ty ≡ true)
      c = and_parts (is_word_list core within_state test Bit) (is_word_list core within_state next (mem core state).ty) a.1

      declared : mem (unrolled core) ((owning (memory_order core) (state ∷ []) w).number state) ≡ mem core state
      declared = ap (λ b. mem (unrolled core) (cond (b || false) (occurrence state w.copy (memory_order core)) (w.number state))) (eq-eqb state state refl) ∙ (copy_there core state w.copy (fsm_fits state body w fits)).1

  positive : (around : Around) (counters : List PlainCounter) → list_all (is_counter_right core around) counters ≡ true → 1 ≤ lanes_of counters
  positive around [] e = omega arith
  positive around (c ∷ []) e =
      let a = and_parts (is_counter_right core around c) true e in
      let b = and_parts (is_bound core around c.from && is_bound core around c.until) ((nat_le 1 c.by && nat_lt c.by (2 ^ 31)) && (nat_le 1 c.par && nat_le c.par 16)) a.0 in
      let d = and_parts (nat_le 1 c.by && nat_lt c.by (2 ^ 31)) (nat_le 1 c.par && nat_le c.par 16) b.1 in
      leb-true 1 c.par (and_parts (nat_le 1 c.par) (nat_le c.par 16) d.1).0
  positive around (c ∷ d ∷ counters) e = positive around (d ∷ counters) (and_parts (is_counter_right core around c) (list_all (is_counter_right core around) (d ∷ counters)) e).1

  pub lanes_positive : (around : Around) (counters : List PlainCounter) (b : Bool) → (are_counters_right core around counters && b) ≡ true → 1 ≤ lanes_of counters
  lanes_positive around counters b e =
      let a = and_parts (are_counters_right core around counters) b e in
      positive around counters (and_parts (nat_le (length counters) 4 && nat_le (length counters + length around.counters) 1000) (list_all (is_counter_right core around) counters) a.0).1

  mutual
    unfolding node_in left_as_they_are nodes_in unrolled

    pub node_kept : (node : PlainNode) (around inside : Around) (w : Within) → GoTogether core (unrolled core) around inside w → Fits (memory_order core) (copies_in node) w → CombinesByTree node
        → EachRight core around node → EachRight (unrolled core) inside (node_in (memory_order core) w node)
    node_kept (inner counters owned ops comb) around inside w h fits one e =
        inner_kept counters owned ops comb around inside w h fits (lanes_positive around counters (are_operations_right core (within around counters owned) ops) e) one e
    node_kept (outer counters style owned stages) around inside w h fits one e =
        let some : 1 ≤ lanes_of counters = lanes_positive around counters (are_lanes_right (lanes_of counters) stages) e.0 in
        outer_kept counters style owned stages around inside w h some one.0 e.0
        (λ l lt. left_kept stages (within around counters owned) (within inside (counters_in w counters) (owned_in_lanes (memory_order core) counters owned w)) (in_lane (memory_order core) counters owned w l)
        (outer_place counters style owned stages around inside w h fits l lt) (outer_fits counters style owned stages w fits l lt) one.1 e.1)
        (λ l lt. nodes_kept stages (within around counters owned) (within inside (counters_in w counters) (owned_in_lanes (memory_order core) counters owned w)) (in_lane (memory_order core) counters owned w l)
        (outer_place counters style owned stages around inside w h fits l lt) (outer_fits counters style owned stages w fits l lt) one.1 e.1)
    node_kept (fsm start state test body next) around inside w h fits one e = (
      fsm_kept start state test body next around inside w h fits e.0,
      node_kept body (within around [] (state ∷ [])) (within inside [] ((owning (memory_order core) (state ∷ []) w).number state ∷ [])) (owning (memory_order core) (state ∷ []) w)
          (state_together core around inside w h state (fsm_fits state body w fits)) (λ n. (part_fits w.copy (occurrences n (state ∷ [])) (copies_in body n) (occurrences n (memory_order core)) (fits n)).1) one e.1,
    )
    node_kept (branch test first second) around inside w h fits one e = (
      word_list_kept core (unrolled core) around inside w h test Bit e.0,
      node_kept first around inside w h (λ n. (part_fits w.copy (copies_in first n) (copies_in second n) (occurrences n (memory_order core)) (fits n)).0) one.0 e.1,
      node_kept second around inside w h (λ n. (part_fits w.copy (copies_in first n) (copies_in second n) (occurrences n (memory_order core)) (fits n)).1) one.1 e.2,
    )
    node_kept (load r m spans) around inside w h fits one e = load_kept core (unrolled core) around inside w h refl r m spans e
    node_kept (store r m spans) around inside w h fits one e =
        let a = and_parts (is_slice_right core around r spans) (fits_sram core around r m spans) e in
        and_from _ _ (slice_kept core (unrolled core) around inside w h refl r spans a.0) (sram_kept core (unrolled core) around inside w h refl r m spans a.1)
    node_kept (sparse kind r m index spans count par) around inside w h fits one e = sparse_kept core (unrolled core) around inside w h refl kind r m index spans count par e

    left_kept : (stages : PlainStages) (around inside : Around) (w : Within) → GoTogether core (unrolled core) around inside w → Fits (memory_order core) (copies_in_stages stages) w → CombineByTree stages
        → AllRight core around stages → AllRight (unrolled core) inside (left_as_they_are (memory_order core) w stages)
    left_kept no_stage around inside w h fits one e = tt
    left_kept (more_stage first last comb node rest) around inside w h fits one e = (
      node_kept node around inside w h (λ n. (part_fits w.copy (copies_in node n) (copies_in_stages rest n) (occurrences n (memory_order core)) (fits n)).0) one.0 e.0,
      left_kept rest around inside w h (λ n. (part_fits w.copy (copies_in node n) (copies_in_stages rest n) (occurrences n (memory_order core)) (fits n)).1) one.1 e.1,
    )

    nodes_kept : (stages : PlainStages) (around inside : Around) (w : Within) → GoTogether core (unrolled core) around inside w → Fits (memory_order core) (copies_in_stages stages) w → CombineByTree stages
        → AllRight core around stages → NodesRight (unrolled core) inside (nodes_in (memory_order core) w stages)
    nodes_kept no_stage around inside w h fits one e = tt
    nodes_kept (more_stage first last true node rest) around inside w h fits one e =
        nodes_kept rest around inside w h (λ n. (part_fits w.copy (copies_in node n) (copies_in_stages rest n) (occurrences n (memory_order core)) (fits n)).1) one.1 e.1
    nodes_kept (more_stage first last false node rest) around inside w h fits one e = (
      node_kept node around inside w h (λ n. (part_fits w.copy (copies_in node n) (copies_in_stages rest n) (occurrences n (memory_order core)) (fits n)).0) one.0 e.0,
      nodes_kept rest around inside w h (λ n. (part_fits w.copy (copies_in node n) (copies_in_stages rest n) (occurrences n (memory_order core)) (fits n)).1) one.1 e.1,
    )
