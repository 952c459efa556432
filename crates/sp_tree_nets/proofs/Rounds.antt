-- FSMs around their bodies, and inner bodies.
use Rattle.std.proofs.Common.{◌≡◌, ℕ, suc, ◌+◌, ◌&&◌, true, List, [], ◌∷◌, ◌++◌, length, append_assoc, refl, sym, ◌∙◌, ap, subst, arith, Option, None}
use Rattle.std.proofs.lemmas.Bool.{and_parts}
use Rattle.std.proofs.lemmas.List.{append-nil}
use Rattle.sp_words.specs.declared.types.Ty.TheVariants.{Bit}
use Rattle.sp_netlist.specs.declared.parts.Child.{Child}
use Rattle.sp_netlist.specs.Draft.{Draft}
use Rattle.sp_netlist.specs.Signals.{Signals}
use Rattle.sp_gates.specs.Grows.{Grows, Fills}
use Rattle.sp_gates.specs.Nets.{HasNet, Awaits}
use Rattle.sp_gates.specs.Runs.{RunsOn}
use Rattle.sp_gates.proofs.Growing.{Grows-join, HasNet-stays}
use Rattle.sp_gates.proofs.Running.{runs_earlier}
use Rattle.sp_core.specs.Around.{Around}
use Rattle.sp_core.specs.Declarations.{mem}
use Rattle.sp_core.specs.Invariant.{is_right_here}
use Rattle.sp_core.specs.NodeRules.{is_reg, with_state}
use Rattle.sp_core.specs.Numbering.{number_count}
use Rattle.sp_core.specs.OperationRules.{is_word_list}
use Rattle.sp_core.specs.PlainCore.{PlainOp, PlainCounter, PlainNode, fsm, inner, PlainCore}
use Rattle.sp_ctrl.specs.Fits.{FsmFits}
use Rattle.sp_ctrl.specs.Runs.{RunsFsm}
use Rattle.sp_plan.specs.PlainPlan.{PlainPlan, PlainNodePlan, node_plan}
use Rattle.sp_plan_times.specs.Times.{AllHaveTime}
use Rattle.sp_stage_places.specs.Planned.{AllHavePlaces}
use Rattle.sp_op_nets.specs.declared.acted.ActedList.{ActedList}
use Rattle.sp_op_nets.specs.declared.table.AroundNets.{AroundNets}
use Rattle.sp_op_nets.specs.Acted.{answers_of, answers_in}
use Rattle.sp_op_nets.specs.Reserved.{Reserves}
use Rattle.sp_op_nets.proofs.Driving.{some_driven, stay}
use Rattle.sp_op_nets.proofs.Reserving.{reserved_join}
use Rattle.sp_list_circuits.specs.Turns.{IsInTurns, IsWordRight}
use Rattle.sp_inner_circuits.specs.Inner.{IsInner, IsInnerRight, IsPlanned}
use Rattle.sp_tree_handed.specs.declared.moves.TreeMove.{TreeMove}
use Rattle.sp_tree_handed.specs.declared.owners.Keeping.{Keeping}
use Rattle.sp_tree_handed.specs.declared.owners.LoopTurns.{LoopTurns}
use Rattle.sp_tree_handed.specs.Owners.{keeping}
use Rattle.sp_tree_handed.proofs.Moving.{ends_later}
use Rattle.sp_tree_handed.specs.Moves.{HaveEnds}
use Rattle.sp_tree_nets.specs.Emitted.{CanEmit, IsTree}
use Rattle.sp_tree_nets.proofs.Later.{stand_later}
use Rattle.sp_tree_nets.proofs.Sides.{answers_append, list_right, node_right, one_more}

-- the three lists of an FSM that is right
pub machine_right : (core : PlainCore) (around : Around) (earlier : List ℕ) (start : List PlainOp) (state : ℕ) (test : List PlainOp) (body : PlainNode) (next : List PlainOp) → is_right_here core around earlier (fsm start state test body next) ≡ true
    → (is_word_list core around start (mem core state).ty ≡ true) × (is_word_list core (with_state core around state) test Bit ≡ true) × (is_word_list core (with_state core around state) next (mem core state).ty ≡ true)
machine_right core around earlier start state test body next h =
    let both = and_parts (is_reg (mem core state).kind && is_word_list core around start (mem core state).ty) (is_word_list core (with_state core around state) test Bit && is_word_list core (with_state core around state) next (mem core state).ty)
    (node_right core around earlier (fsm start state test body next) h) in
    let first = and_parts (is_reg (mem core state).kind) (is_word_list core around start (mem core state).ty) both.0 in
    let rest = and_parts (is_word_list core (with_state core around state) test Bit) (is_word_list core (with_state core around state) next (mem core state).ty) both.1 in (first.1, rest.0, rest.1)

module _ (d : Draft) (core : PlainCore) (plan : PlainPlan) (table : List AroundNets) (ends : List (Option ℕ)) (start : List PlainOp) (state : ℕ) (test : List PlainOp) (body : PlainNode) (next : List PlainOp) (k n : ℕ)
    (can : CanEmit d core plan table ends (fsm start state test body next) k n) where
  parts : (is_word_list core can.around start (mem core state).ty ≡ true) × (is_word_list core (with_state core can.around state) test Bit ≡ true) × (is_word_list core (with_state core can.around state) next (mem core state).ty ≡ true)
  parts = machine_right core can.around can.earlier start state test body next can.right.0

  pub machine_first : IsWordRight d core table start (mem core state).ty
  machine_first = record { around = can.around; right = parts.0; stand = can.stand }

  pub machine_test : IsWordRight d core table test Bit
  machine_test = record { around = with_state core can.around state; right = parts.1; stand = can.stand }

  pub machine_next : (e : Draft) → Grows d e → IsWordRight e core table next (mem core state).ty
  machine_next e g = record { around = with_state core can.around state; right = parts.2; stand = stand_later d e table can.around.counters g can.stand }

  pub machine_body : (e : Draft) → Grows d e → CanEmit e core plan table ends body (k + 1) (n + (length start + length test))
  machine_body e g = record {
    around = with_state core can.around state;
    earlier = can.earlier ++ state ∷ [];
    right = can.right.1;
    stand = stand_later d e table can.around.counters g can.stand;
    timed = can.timed;
    have_ends = subst (λ j. HaveEnds e ends body j) (one_more k) (ends_later d e ends body (suc k) g can.have_ends);
    times = subst (λ j. AllHaveTime core plan body j) (one_more k) can.times;
    places = subst (λ j. AllHavePlaces plan body j) (one_more k) can.places;
    planned = (let h = can.planned in omega (arith, h));
    nodes = (let h = can.nodes in omega (arith, h));
    numbers = (let h = can.numbers in omega (arith, h));
  }

module _ (a b c d : Draft) (start : ℕ) (first test : Child) (tested : ℕ) (body next : Child) (work step : ℕ) (xs ys zs : List ℕ) (was : Reserves a b (first.start ∷ test.start ∷ work ∷ step ∷ xs)) (more : Reserves b c ys) (last : Reserves c d zs)
    (body_is : body.start ≡ work) (next_is : next.start ≡ step) where
  grown : Grows b d
  grown = Grows-join b c d more.grows last.grows

  awaited : (net : ℕ) → Awaits b net 1 → Awaits d net 1
  awaited net w = stay c d net 1 zs (stay b c net 1 ys w more) last

  pub machine_fits : HasNet a start 1 → HasNet b tested 1 → Awaits b first.start 1 → HasNet b first.done 1 → Awaits b test.start 1 → HasNet b test.done 1 → Awaits b work 1 → HasNet c body.done 1 → Awaits b step 1 → HasNet d next.done 1
      → FsmFits d start first test tested body next
  machine_fits begin word first_start first_done test_start test_done body_start body_done next_start next_done = record {
    start_net = HasNet-stays a d start 1 (Grows-join a b d was.grows grown) begin;
    tested_net = HasNet-stays b d tested 1 grown word;
    first_child = record { start = awaited first.start first_start; done = HasNet-stays b d first.done 1 grown first_done };
    test_child = record { start = awaited test.start test_start; done = HasNet-stays b d test.done 1 grown test_done };
    body_child = record { start = subst (λ net. Awaits d net 1) (sym body_is) (awaited work body_start); done = HasNet-stays c d body.done 1 last.grows body_done };
    next_child = record { start = subst (λ net. Awaits d net 1) (sym next_is) (awaited step next_start); done = next_done };
    test_apart = λ e. (let x = was.rise.1.0 in omega (arith, x, e));
    body_apart = λ e. (let x = was.rise.1.0 in let y = was.rise.1.1.0 in let i = body_is in omega (arith, x, y, i, e));
    body_test = λ e. (let y = was.rise.1.1.0 in let i = body_is in omega (arith, y, i, e));
    next_apart = λ e. (let x = was.rise.1.0 in let y = was.rise.1.1.0 in let z = was.rise.1.1.1.0 in let j = next_is in omega (arith, x, y, z, j, e));
    next_test = λ e. (let y = was.rise.1.1.0 in let z = was.rise.1.1.1.0 in let j = next_is in omega (arith, y, z, j, e));
    next_body = λ e. (let z = was.rise.1.1.1.0 in let i = body_is in let j = next_is in omega (arith, z, i, j, e));
  }

  pub machine_reserves : (e : Draft) → Fills d e (first.start ∷ test.start ∷ body.start ∷ next.start ∷ []) → Reserves a e (xs ++ (ys ++ zs))
  machine_reserves e fills =
      let all = reserved_join a c d (first.start ∷ test.start ∷ work ∷ step ∷ (xs ++ ys)) zs (reserved_join a b c (first.start ∷ test.start ∷ work ∷ step ∷ xs) ys was more) last in
      let same = ap (λ n. first.start ∷ test.start ∷ n ∷ next.start ∷ []) body_is ∙ ap (λ n. first.start ∷ test.start ∷ work ∷ n ∷ []) next_is in
      some_driven a d e (first.start ∷ test.start ∷ work ∷ step ∷ []) (xs ++ (ys ++ zs)) (first.start ∷ test.start ∷ work ∷ step ∷ []) (subst (λ ns. Reserves a d (first.start ∷ test.start ∷ work ∷ step ∷ ns)) (append_assoc xs ys zs) all)
      (subst (λ ns. Fills d e ns) same fills) (λ n h. h) (λ n h. h)

pub machine_answers : (first test : ActedList) (body : List ActedList) (next : ActedList)
    → (answers_of first.ops.items ++ answers_of test.ops.items) ++ (answers_in body ++ answers_of next.ops.items) ≡ answers_in (first ∷ test ∷ (body ++ next ∷ []))
machine_answers first test body next =
    append_assoc (answers_of first.ops.items) (answers_of test.ops.items) (answers_in body ++ answers_of next.ops.items)
    ∙ ap (λ ns. answers_of first.ops.items ++ (answers_of test.ops.items ++ ns)) (ap (λ ns. answers_in body ++ ns) (sym (append-nil (answers_of next.ops.items))) ∙ sym (answers_append body (next ∷ [])))

module _ (a b c d e : Draft) (core : PlainCore) (plan : PlainPlan) (table : List AroundNets) (ends : List (Option ℕ)) (start : List PlainOp) (state : ℕ) (test : List PlainOp) (body : PlainNode) (next : List PlainOp) (k n : ℕ) (begin done : ℕ) (first : Child) (begun : ℕ)
    (check : Child) (tested : ℕ) (work : Child) (step : Child) (stepped : ℕ) (x y : ActedList) (xs : List ActedList) (z : ActedList) (rs : List LoopTurns) (ps : List Keeping) (ms : List TreeMove) where
  pub machine_is : Grows a b → Grows b c → Grows c d → Grows d e → IsInTurns a b core table n start first begun x → IsInTurns a b core table (n + length start) test check tested y
      → IsTree b c core plan table ends body (k + 1) (n + (length start + length test)) work xs rs ps ms → IsInTurns c d core table (n + (length start + length test) + number_count body) next step stepped z
      → ((s : Signals) → RunsOn s e.cells → RunsFsm s begin first check tested work step done) → IsTree a e core plan table ends (fsm start state test body next) k n (record { start = begin; done = done }) (x ∷ y ∷ (xs ++ z ∷ [])) rs
      ((keeping state first.done begun None ∷ keeping state step.done stepped None ∷ []) ++ ps) ms
  machine_is g h i j firsts tests tree nexts runs around earlier is stand s run =
      let right = machine_right core around earlier start state test body next is.0 in
      let inside = with_state core around state in
      let at_d = runs_earlier d e s j run in
      let at_c = runs_earlier c d s i at_d in
      let at_b = runs_earlier b c s h at_c in
      let first_is = firsts plan around (list_right core around start (mem core state).ty right.0) stand s at_b in
      let test_is = tests plan inside (list_right core inside test Bit right.1) stand s at_b in
      let body_is = subst (λ m. IsTree b c core plan table ends body m (n + (length start + length test)) work xs rs ps ms) (sym (one_more k)) tree inside (earlier ++ state ∷ []) is.1 (stand_later a b table around.counters g stand) s at_c in
      let next_is = subst (λ m. IsInTurns c d core table m next step stepped z) (omega arith) nexts plan inside (list_right core inside next (mem core state).ty right.2) (stand_later a c table around.counters (Grows-join a b c g h) stand) s at_d in
      record {
        circuit = record {
          first = first;
          begun = begun;
          test = check;
          tested = tested;
          body = work;
          next = step;
          stepped = stepped;
          circuit = runs s run;
          begins = first_is.circuit;
          tests = test_is.circuit;
          steps = next_is.circuit;
          goes = body_is.circuit;
        };
        handed = record { first = x; test = y; body = xs; next = z; all = refl; begins = first_is.acted; tests = test_is.acted; goes = body_is.handed; steps = next_is.acted };
        owners = record { rest = ps; kept_are = refl; body = body_is.owners };
        moved = body_is.moved;
      }

module _ (a b : Draft) (core : PlainCore) (plan : PlainPlan) (table : List AroundNets) (ends : List (Option ℕ)) (counters : List PlainCounter) (owned : List ℕ) (ops : List PlainOp) (comb : Option ℕ) (k n : ℕ) where
  pub inner_right : CanEmit a core plan table ends (inner counters owned ops comb) k n → IsInnerRight a core table counters ops
  inner_right can = record { around = can.around; owned = owned; comb = comb; right = node_right core can.around can.earlier (inner counters owned ops comb) can.right; stand = can.stand }

  pub inner_planned : (p : PlainNodePlan) → p ≡ node_plan plan k → CanEmit a core plan table ends (inner counters owned ops comb) k n → IsPlanned core ops p
  inner_planned p e can = subst (IsPlanned core ops) (sym e) (record { many = can.times.each; paced = can.times.paced; leave = can.times.leaves })

  pub inner_is : (p : PlainNodePlan) (child : Child) (acted : List ActedList) → p ≡ node_plan plan k → IsInner a b core table p n counters ops child acted → IsTree a b core plan table ends (inner counters owned ops comb) k n child acted [] [] []
  inner_is p child acted e body around earlier right stand s run =
      let w = body plan k around owned comb (sym e) (node_right core around earlier (inner counters owned ops comb) right) stand s run in
      record { circuit = w.circuit; handed = record { bounds = w.bounds; inside = w.own ∷ []; all = w.are; bound = w.of_bounds; stand = w.of_own }; owners = (refl, refl); moved = refl }

  -- by the node as its function takes it
  pub inner_tree : (node : PlainNode) → node ≡ inner counters owned ops comb → (turns : List LoopTurns) (kept : List Keeping) (moves : List TreeMove) → turns ≡ [] → kept ≡ [] → moves ≡ [] → (p : PlainNodePlan) (child : Child) (acted : List ActedList) → p ≡ node_plan plan k
      → IsInner a b core table p n counters ops child acted → IsTree a b core plan table ends node k n child acted turns kept moves
  inner_tree node is turns kept moves turns_is kept_is moves_are p child acted e body =
      subst (λ v. IsTree a b core plan table ends v k n child acted turns kept moves) (sym is)
      (subst (λ v. IsTree a b core plan table ends (inner counters owned ops comb) k n child acted v kept moves) (sym turns_is)
      (subst (λ v. IsTree a b core plan table ends (inner counters owned ops comb) k n child acted [] v moves) (sym kept_is)
      (subst (λ v. IsTree a b core plan table ends (inner counters owned ops comb) k n child acted [] [] v) (sym moves_are) (inner_is p child acted e body))))
