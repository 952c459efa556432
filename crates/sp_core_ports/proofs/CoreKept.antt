-- What the nodes of a core with a valid plan keep, each by its numbers and by what stands around it.
use Rattle.std.proofs.Common.{◌≡◌, ℕ, suc, ◌+◌, ◌≤◌, inl, inr, Bool, true, false, ℤ, List, [], ◌∷◌, ◌++◌, length, arith, refl, subst, ap}
use Rattle.std.proofs.lemmas.Bool.{and_parts, and_from, eq-eqb, or_right, true≢false, false≢true}
use Rattle.std.specs.List.{list_any}
use Rattle.sp_words.specs.declared.kind.Style.{Style}
use Rattle.std.specs.Prelude.{◌==◌, ◌&&◌, ◌||◌, not}
use Rattle.sp_core.specs.declared.access.Meet.{Meet}
use Rattle.sp_core.specs.Around.{Around, within}
use Rattle.sp_core.specs.Declarations.{is_among, is_stream}
use Rattle.sp_core.specs.Events.{At, When, Standing, inside_at, in_group_of, in_turn}
use Rattle.sp_core.specs.Forms.{PlainForms}
use Rattle.sp_core.specs.History.{Bounds}
use Rattle.sp_core.specs.Invariant.{IsRight, AreRight, owned_in}
use Rattle.sp_core.specs.Meeting.{Outer, are_at_once, is_at_once, is_group, is_in_stream, outers, outers_in}
use Rattle.sp_core.specs.NodeRules.{with_state}
use Rattle.sp_core.specs.Numbering.{counters_size, node_count, node_count_in, number_count}
use Rattle.sp_core.specs.PlainCore.{PlainOp, PlainCounter, PlainNode, PlainStages, outer, fsm, branch, more_stage, PlainCore}
use Rattle.sp_core.specs.Scope.{in_lanes, loops_of, group_values}
use Rattle.sp_plan.proofs.NamedAt.{list_length, two_length, counters_length, node_length}
use Rattle.sp_plan.specs.Copies.{is_loop, are_copied}
use Rattle.sp_plan.specs.Named.{list_names, counters_names, names, stages_names}
use Rattle.sp_plan.specs.Nodes.{NodeRule}
use Rattle.sp_plan.specs.PlainPlan.{outer_plan, PlainPlan, node_plan}
use Rattle.sp_plan.specs.Slots.{runs_of, is_once}
use Rattle.sp_plan.specs.Validity.{stage_count, are_divided_right, are_runs_right, kind_rule, time_rule, slot_rule, copy_rule}
use Rattle.sp_time.specs.Lists.{Each}
use Rattle.sp_machine.specs.Transfers.{Delays}
use Rattle.sp_overlap.specs.Apart.{StandAt}
use Rattle.sp_overlap.specs.Laws.{IsOuterRight}
use Rattle.sp_overlap.specs.Whole.{IsTimed, AreTimed, IsByLane, AreByLane}
use Rattle.sp_overlap.proofs.Inside.{stand_left, stand_right}
use Rattle.sp_overlap.proofs.Owners.{Numbered, numbered, numbered_in, Owned, owned_here, owned_below, owned_left, owned_right, owned_within}
use Rattle.sp_overlap.proofs.Parts.{among_left, among_right}
use Rattle.sp_overlap.proofs.Planned.{Holds, AllHold, outer_holds, fsm_holds, branch_holds, stage_holds, OuterPlan}
use Rattle.sp_overlap.proofs.Scoped.{in_two, owned_apart, stages_private}
use Rattle.sp_core_ports.proofs.CoreReading.{Serves, AllServe}
use Rattle.sp_core_ports.proofs.CoreServing.{body_serves, first_serves, second_serves, node_serves, rest_serve}

-- whether the node of a number is an outer whose stages may be at work at once, by outers
abbrev pub is_that : (node : ℕ) → Outer → Bool
is_that j o = (o.node == j) && o.at_once

abbrev pub any_at_once : (node : ℕ) → List Outer → Bool
any_at_once j os = list_any (is_that j) os

any_left : (p : Outer → Bool) (xs ys : List Outer) → list_any p xs ≡ true → list_any p (xs ++ ys) ≡ true
any_left p [] ys h = absurd (false≢true h)
any_left p (x ∷ xs) ys h = go (λ k. any_left p xs ys k) (p x) h
  where
    go : (list_any p xs ≡ true → list_any p (xs ++ ys) ≡ true) → (b : Bool) → (b || list_any p xs) ≡ true → (b || list_any p (xs ++ ys)) ≡ true
    go rest true h = refl
    go rest false h = rest h

any_right : (p : Outer → Bool) (xs ys : List Outer) → list_any p ys ≡ true → list_any p (xs ++ ys) ≡ true
any_right p [] ys h = h
any_right p (x ∷ xs) ys h = or_right (p x) (list_any p (xs ++ ys)) (any_right p xs ys h)

module _ (core : PlainCore) (forms : PlainForms) (meets : List Meet) (plan : PlainPlan) (delays : Delays) (no_stream : (k : ℕ) → is_in_stream core k ≡ false) where
  -- what a node keeps, by its numbers, what stands around it and what nodes before it own
  pub record Keeps (node : PlainNode) (k n : ℕ) (around : Around) (earlier : List ℕ) : Type 0 where
    pub right : IsRight core around earlier node
    pub scoped : (m : ℕ) → is_among m around.owned ≡ true → is_among m earlier ≡ true
    pub timed : IsTimed node
    pub by_lane : IsByLane core node
    pub kinds : Holds (kind_rule core forms meets plan) k n node
    pub times : Holds (time_rule core forms meets plan) k n node
    pub slots : Holds (slot_rule core forms meets plan) k n node
    pub copied : Holds (copy_rule core forms meets plan) k n node
    pub named : StandAt core n (names core node)
    pub own : Owned core k (k + node_count node) (outers k node)
    pub at_once : (j : ℕ) → any_at_once j (outers k node) ≡ true → is_at_once core j ≡ true
    pub serves : Serves core n node

  pub record AllKeep (stages : PlainStages) (k n : ℕ) (around : Around) (earlier : List ℕ) : Type 0 where
    pub right : AreRight core around earlier stages
    pub scoped : (m : ℕ) → is_among m around.owned ≡ true → is_among m earlier ≡ true
    pub timed : AreTimed stages
    pub by_lane : AreByLane core stages
    pub kinds : AllHold (kind_rule core forms meets plan) k n stages
    pub times : AllHold (time_rule core forms meets plan) k n stages
    pub slots : AllHold (slot_rule core forms meets plan) k n stages
    pub copied : AllHold (copy_rule core forms meets plan) k n stages
    pub named : StandAt core n (stages_names core stages)
    pub own : Owned core k (k + node_count_in stages) (outers_in k stages)
    pub at_once : (j : ℕ) → any_at_once j (outers_in k stages) ≡ true → is_at_once core j ≡ true
    pub serve : AllServe core n stages

  wider_scope : (around : Around) (earlier owned : List ℕ) (counters : List PlainCounter) → ((m : ℕ) → is_among m around.owned ≡ true → is_among m earlier ≡ true) → (m : ℕ) → is_among m (owned ++ around.owned) ≡ true → is_among m (earlier ++ owned) ≡ true
  wider_scope around earlier owned counters h m e = elim (in_two core m owned around.owned e) [
    | inl x ↦ among_right m earlier owned x
    | inr x ↦ among_left m earlier owned (h m x)
  ]

  pub outer_keeps : (counters : List PlainCounter) (style : Style) (owned : List ℕ) (stages : PlainStages) (k n : ℕ) (around : Around) (earlier : List ℕ) → Keeps (outer counters style owned stages) k n around earlier
      → AllKeep stages (suc k) (n + counters_size counters) (within around counters owned) (earlier ++ owned)
  outer_keeps counters style owned stages k n around earlier w = record {
    right = w.right.1;
    scoped = wider_scope around earlier owned counters w.scoped;
    timed = w.timed.1;
    by_lane = w.by_lane.1;
    kinds = (outer_holds (kind_rule core forms meets plan) k n counters style owned stages w.timed.0 w.kinds).1;
    times = (outer_holds (time_rule core forms meets plan) k n counters style owned stages w.timed.0 w.times).1;
    slots = (outer_holds (slot_rule core forms meets plan) k n counters style owned stages w.timed.0 w.slots).1;
    copied = (outer_holds (copy_rule core forms meets plan) k n counters style owned stages w.timed.0 w.copied).1;
    named = stand_right core n (n + counters_size counters) (counters_names counters) (stages_names core stages) (ap (λ x. n + x) (counters_length counters)) w.named;
    own = owned_within core (suc k) (k + (1 + node_count_in stages)) (suc k) (suc k + node_count_in stages) (outers_in (suc k) stages) (omega arith) (omega arith)
        (owned_below core k (k + (1 + node_count_in stages)) (is_stream style) (are_at_once counters style) owned (outers_in (suc k) stages) w.own);
    at_once = λ j e. w.at_once j (or_right _ _ e);
    serve = w.serves;
  }

  pub first_keeps : (first last : ℕ) (comb : Bool) (node : PlainNode) (rest : PlainStages) (k n : ℕ) (around : Around) (earlier : List ℕ) → AllKeep (more_stage first last comb node rest) k n around earlier → Keeps node k n around earlier
  first_keeps first last comb node rest k n around earlier w = record {
    right = w.right.0;
    scoped = w.scoped;
    timed = w.timed.0;
    by_lane = w.by_lane.0;
    kinds = (stage_holds (kind_rule core forms meets plan) k n first last comb node rest w.kinds).0;
    times = (stage_holds (time_rule core forms meets plan) k n first last comb node rest w.times).0;
    slots = (stage_holds (slot_rule core forms meets plan) k n first last comb node rest w.slots).0;
    copied = (stage_holds (copy_rule core forms meets plan) k n first last comb node rest w.copied).0;
    named = stand_left core n (names core node) (stages_names core rest) w.named;
    own = owned_left core k (k + node_count node) (k + (node_count node + node_count_in rest)) (outers k node) (outers_in (k + node_count node) rest) w.own (omega arith)
        (subst (λ x. Numbered (k + node_count node) x (outers_in (k + node_count node) rest)) (omega arith) (numbered_in rest (k + node_count node)));
    at_once = λ j e. w.at_once j (any_left (is_that j) (outers k node) (outers_in (k + node_count node) rest) e);
    serves = node_serves core first last comb node rest n w.serve;
  }

  pub rest_keeps : (first last : ℕ) (comb : Bool) (node : PlainNode) (rest : PlainStages) (k n : ℕ) (around : Around) (earlier : List ℕ) → AllKeep (more_stage first last comb node rest) k n around earlier
      → AllKeep rest (k + node_count node) (n + number_count node) around (earlier ++ owned_in node)
  rest_keeps first last comb node rest k n around earlier w = record {
    right = w.right.1;
    scoped = λ m e. among_left m earlier (owned_in node) (w.scoped m e);
    timed = w.timed.1;
    by_lane = w.by_lane.1;
    kinds = (stage_holds (kind_rule core forms meets plan) k n first last comb node rest w.kinds).1;
    times = (stage_holds (time_rule core forms meets plan) k n first last comb node rest w.times).1;
    slots = (stage_holds (slot_rule core forms meets plan) k n first last comb node rest w.slots).1;
    copied = (stage_holds (copy_rule core forms meets plan) k n first last comb node rest w.copied).1;
    named = stand_right core n (n + number_count node) (names core node) (stages_names core rest) (ap (λ x. n + x) (node_length core node)) w.named;
    own = owned_within core (k + node_count node) (k + (node_count node + node_count_in rest)) (k + node_count node) (k + node_count node + node_count_in rest) (outers_in (k + node_count node) rest) (omega arith) (omega arith)
        (owned_right core k (k + node_count node) (k + (node_count node + node_count_in rest)) (outers k node) (outers_in (k + node_count node) rest) w.own (omega arith) (numbered node k));
    at_once = λ j e. w.at_once j (any_right (is_that j) (outers k node) (outers_in (k + node_count node) rest) e);
    serve = rest_serve core first last comb node rest n w.serve;
  }

  pub body_keeps : (start : List PlainOp) (state : ℕ) (test : List PlainOp) (body : PlainNode) (next : List PlainOp) (k n : ℕ) (around : Around) (earlier : List ℕ) → Keeps (fsm start state test body next) k n around earlier
      → Keeps body (suc k) (n + (length start + length test)) (with_state core around state) (earlier ++ state ∷ [])
  body_keeps start state test body next k n around earlier w = record {
    right = w.right.1;
    scoped = wider_scope around earlier (state ∷ []) [] w.scoped;
    timed = w.timed;
    by_lane = w.by_lane;
    kinds = fsm_holds (kind_rule core forms meets plan) k n start state test body next w.kinds;
    times = fsm_holds (time_rule core forms meets plan) k n start state test body next w.times;
    slots = fsm_holds (slot_rule core forms meets plan) k n start state test body next w.slots;
    copied = fsm_holds (copy_rule core forms meets plan) k n start state test body next w.copied;
    named = stand_left core (n + (length start + length test)) (names core body) (list_names next)
        (stand_right core n (n + (length start + length test)) (list_names start ++ list_names test) (names core body ++ list_names next) (ap (λ x. n + x) (two_length start test)) w.named);
    own = owned_within core k (k + (1 + node_count body)) (suc k) (suc k + node_count body) (outers (suc k) body) (omega arith) (omega arith) w.own;
    at_once = w.at_once;
    serves = body_serves core start state test body next n w.serves;
  }

  pub left_keeps : (test : List PlainOp) (first second : PlainNode) (k n : ℕ) (around : Around) (earlier : List ℕ) → Keeps (branch test first second) k n around earlier → Keeps first (suc k) (n + length test) around earlier
  left_keeps test first second k n around earlier w = record {
    right = w.right.1;
    scoped = w.scoped;
    timed = w.timed.0;
    by_lane = w.by_lane.0;
    kinds = (branch_holds (kind_rule core forms meets plan) k n test first second w.kinds).0;
    times = (branch_holds (time_rule core forms meets plan) k n test first second w.times).0;
    slots = (branch_holds (slot_rule core forms meets plan) k n test first second w.slots).0;
    copied = (branch_holds (copy_rule core forms meets plan) k n test first second w.copied).0;
    named = stand_left core (n + length test) (names core first) (names core second)
        (stand_right core n (n + length test) (list_names test) (names core first ++ names core second) (ap (λ x. n + x) (list_length test)) w.named);
    own = owned_within core k (suc k + node_count first) (suc k) (suc k + node_count first) (outers (suc k) first) (omega arith) (omega arith)
        (owned_left core k (suc k + node_count first) (k + (1 + (node_count first + node_count second))) (outers (suc k) first) (outers (suc k + node_count first) second) w.own (omega arith)
        (subst (λ x. Numbered (suc k + node_count first) x (outers (suc k + node_count first) second)) (omega arith) (numbered second (suc k + node_count first))));
    at_once = λ j e. w.at_once j (any_left (is_that j) (outers (suc k) first) (outers (suc k + node_count first) second) e);
    serves = first_serves core test first second n w.serves;
  }

  pub right_keeps : (test : List PlainOp) (first second : PlainNode) (k n : ℕ) (around : Around) (earlier : List ℕ) → Keeps (branch test first second) k n around earlier
      → Keeps second (suc k + node_count first) (n + (length test + number_count first)) around (earlier ++ owned_in first)
  right_keeps test first second k n around earlier w = record {
    right = w.right.2;
    scoped = λ m e. among_left m earlier (owned_in first) (w.scoped m e);
    timed = w.timed.1;
    by_lane = w.by_lane.1;
    kinds = here (kind_rule core forms meets plan) (branch_holds (kind_rule core forms meets plan) k n test first second w.kinds).1;
    times = here (time_rule core forms meets plan) (branch_holds (time_rule core forms meets plan) k n test first second w.times).1;
    slots = here (slot_rule core forms meets plan) (branch_holds (slot_rule core forms meets plan) k n test first second w.slots).1;
    copied = here (copy_rule core forms meets plan) (branch_holds (copy_rule core forms meets plan) k n test first second w.copied).1;
    named = stand_right core (n + length test) (n + (length test + number_count first)) (names core first) (names core second) (let e : length (names core first) ≡ number_count first = node_length core first in omega arith)
        (stand_right core n (n + length test) (list_names test) (names core first ++ names core second) (ap (λ x. n + x) (list_length test)) w.named);
    own = owned_within core (suc k + node_count first) (k + (1 + (node_count first + node_count second))) (suc k + node_count first) (suc k + node_count first + node_count second) (outers (suc k + node_count first) second) (omega arith) (omega arith)
        (owned_right core (suc k) (suc k + node_count first) (k + (1 + (node_count first + node_count second))) (outers (suc k) first) (outers (suc k + node_count first) second)
        (owned_within core k (k + (1 + (node_count first + node_count second))) (suc k) (k + (1 + (node_count first + node_count second))) (outers (suc k) first ++ outers (suc k + node_count first) second) (omega arith) (omega arith) w.own) (omega arith) (numbered first (suc k)));
    at_once = λ j e. w.at_once j (any_right (is_that j) (outers (suc k) first) (outers (suc k + node_count first) second) e);
    serves = second_serves core test first second n w.serves;
  }
    where
      here : (rule : NodeRule) → Holds rule (suc k + node_count first) ((n + length test) + number_count first) second → Holds rule (suc k + node_count first) (n + (length test + number_count first)) second
      here rule h = subst (λ x. Holds rule (suc k + node_count first) x second) (omega arith) h

  -- inner and outer bodies by their plans
  abbrev pub Placed : Standing → Type 0
  Placed st = Each (λ (a : At). (is_in_stream core a.node ≡ false) × (is_group a.when a.when ≡ true)) st.path

  pub placed_at : (st : Standing) (k : ℕ) (when : When) (values : List ℤ) → Placed st → is_group when when ≡ true → Placed (inside_at st k when values)
  placed_at st k when values h e = go st.path h
    where
      go : (path : List At) → Each (λ (a : At). (is_in_stream core a.node ≡ false) × (is_group a.when a.when ≡ true)) path → Each (λ (a : At). (is_in_stream core a.node ≡ false) × (is_group a.when a.when ≡ true)) (path ++ record { node = k; when = when } ∷ [])
      go [] h = ((no_stream k, e), tt)
      go (a ∷ path) h = (h.0, go path h.1)

  pub same_group : (g s : ℕ) → is_group (in_group_of g s) (in_group_of g s) ≡ true
  same_group g s = and_from (g == g) (s == s) (eq-eqb g g refl) (eq-eqb s s refl)

  pub same_turn : (t : ℕ) → is_group (in_turn t) (in_turn t) ≡ true
  same_turn t = eq-eqb t t refl

  pub once_values : (counters : List PlainCounter) (bs : List Bounds) → is_once counters ≡ true → length (group_values (loops_of in_lanes counters bs)) ≤ 1
  once_values [] bs e = omega arith
  once_values (c ∷ counters) bs e = absurd (false≢true e)

  pub outer_right : (counters : List PlainCounter) (style : Style) (owned : List ℕ) (stages : PlainStages) (k n : ℕ) (st : Standing) (around : Around) (earlier : List ℕ) → Placed st → Keeps (outer counters style owned stages) k n around earlier
      → (p : OuterPlan (node_plan plan k) (stage_count stages)) → IsOuterRight core plan meets k (n + counters_size counters) st counters style owned stages p.slots p.chains
  outer_right counters style owned stages k n st around earlier placed w p =
      let below : AllKeep stages (suc k) (n + counters_size counters) (within around counters owned) (earlier ++ owned) = outer_keeps counters style owned stages k n around earlier w in
      record {
        planned = p.is;
        many = (p.many_slots, p.many_chains);
        divided = divided;
        copied = copied;
        lanes = (and_parts _ _ (and_parts _ _ w.right.0).0).1;
        apart = stages_private core (within around counters owned) (earlier ++ owned) owned stages w.timed.1 w.right.1 below.scoped (λ m e. among_right m earlier owned e);
        of_one_lane = w.by_lane.0 (n + counters_size counters);
        distinct = owned_apart core earlier owned (and_parts _ _ w.right.0).1;
        named = below.named;
        around = placed;
        no_stream = no_stream k;
        owner = λ m e. owned_here core k (k + (1 + node_count_in stages)) (is_stream style) (are_at_once counters style) owned (outers_in (suc k) stages) w.own (omega arith)
            (subst (λ x. Numbered (suc k) x (outers_in (suc k) stages)) (omega arith) (numbered_in stages (suc k))) m e;
      }
    where
      left_false : (x y : Bool) → x ≡ false → (x || y) ≡ true → y ≡ true
      left_false true y e h = absurd (true≢false e)
      left_false false y e h = h

      divided : are_divided_right core meets (runs_of (n + counters_size counters) stages) counters style owned p.slots p.chains ≡ true
      divided =
          let h : are_runs_right core forms meets plan n (outer counters style owned stages) (node_plan plan k) ≡ true = (outer_holds (slot_rule core forms meets plan) k n counters style owned stages w.timed.0 w.slots).0 in
          let h2 : are_runs_right core forms meets plan n (outer counters style owned stages) (outer_plan p.slots p.chains) ≡ true = subst (λ q. are_runs_right core forms meets plan n (outer counters style owned stages) q ≡ true) p.is h in
          left_false (is_stream style) _ w.timed.0 h2

      copied : is_once counters ≡ false → are_copied core plan k owned stages ≡ true
      copied e =
          let h : (not (is_loop counters && not (is_stream style)) || are_copied core plan k owned stages) ≡ true = (outer_holds (copy_rule core forms meets plan) k n counters style owned stages w.timed.0 w.copied).0 in
          left_false (not (is_loop counters && not (is_stream style))) _ (ap not (and_from (is_loop counters) (not (is_stream style)) (ap not e) (ap not w.timed.0))) h
