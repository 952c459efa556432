-- Branches around their sides.
use Rattle.std.proofs.Common.{◌≡◌, ℕ, suc, ◌+◌, ◌<◌, ◌^◌, true, List, [], ◌∷◌, ◌++◌, length, append_assoc, refl, sym, ◌∙◌, ap, subst, arith, Option}
use Rattle.std.proofs.Math.Nat.{add_assoc}
use Rattle.std.proofs.lemmas.Bool.{and_parts}
use Rattle.sp_words.specs.declared.types.Ty.{Ty}
use Rattle.sp_words.specs.declared.types.Ty.TheVariants.{Bit}
use Rattle.sp_netlist.specs.declared.parts.Child.{Child}
use Rattle.sp_netlist.specs.Draft.{Draft}
use Rattle.sp_netlist.specs.Signals.{Signals}
use Rattle.sp_gates.specs.Grows.{Grows, Fills}
use Rattle.sp_gates.specs.Nets.{HasNet, Awaits}
use Rattle.sp_gates.specs.Runs.{RunsOn}
use Rattle.sp_gates.proofs.Growing.{Grows-join, HasNet-stays}
use Rattle.sp_gates.proofs.Running.{runs_earlier}
use Rattle.sp_core.specs.Around.{Around}
use Rattle.sp_core.specs.Invariant.{is_right_here, owned_in}
use Rattle.sp_core.specs.NodeRules.{is_node_right, owned_by, is_owned_once}
use Rattle.sp_core.specs.Numbering.{node_count, number_count}
use Rattle.sp_core.specs.OperationRules.{are_operations_right, is_word_list}
use Rattle.sp_core.specs.PlainCore.{PlainOp, PlainNode, branch, PlainCore}
use Rattle.sp_core.specs.Typed.{last_gives}
use Rattle.sp_ctrl.specs.Fits.{BranchFits}
use Rattle.sp_ctrl.specs.Runs.{RunsBranch}
use Rattle.sp_plan.specs.PlainPlan.{PlainPlan}
use Rattle.sp_plan_times.specs.Times.{AllHaveTime}
use Rattle.sp_stage_places.specs.Planned.{AllHavePlaces}
use Rattle.sp_op_nets.specs.declared.acted.ActedList.{ActedList}
use Rattle.sp_op_nets.specs.declared.table.AroundNets.{AroundNets}
use Rattle.sp_op_nets.specs.Acted.{answers_of, answers_in}
use Rattle.sp_op_nets.specs.Reserved.{Reserves}
use Rattle.sp_op_nets.proofs.Driving.{some_driven, stay}
use Rattle.sp_op_nets.proofs.Reserving.{reserved_join}
use Rattle.sp_list_circuits.specs.Turns.{IsInTurns, IsWordRight}
use Rattle.sp_tree_handed.specs.declared.moves.TreeMove.{TreeMove}
use Rattle.sp_tree_handed.specs.declared.owners.Keeping.{Keeping}
use Rattle.sp_tree_handed.specs.declared.owners.LoopTurns.{LoopTurns}
use Rattle.sp_tree_handed.proofs.Moving.{ends_later}
use Rattle.sp_tree_handed.specs.Moves.{HaveEnds}
use Rattle.sp_tree_nets.specs.Emitted.{CanEmit, IsTree}
use Rattle.sp_tree_nets.proofs.Later.{stand_later}

pub one_more : (k : ℕ) → suc k ≡ k + 1
one_more k = omega arith

pub answers_append : (xs ys : List ActedList) → answers_in (xs ++ ys) ≡ answers_in xs ++ answers_in ys
answers_append [] ys = refl
answers_append (x ∷ xs) ys = ap (λ ns. answers_of x.ops.items ++ ns) (answers_append xs ys) ∙ sym (append_assoc (answers_of x.ops.items) (answers_in xs) (answers_in ys))

pub list_right : (core : PlainCore) (around : Around) (ops : List PlainOp) (ty : Ty) → is_word_list core around ops ty ≡ true → are_operations_right core around ops ≡ true
list_right core around ops ty h = (and_parts (are_operations_right core around ops) (last_gives ops ty) h).0

pub node_right : (core : PlainCore) (around : Around) (earlier : List ℕ) (node : PlainNode) → is_right_here core around earlier node ≡ true → is_node_right core around node ≡ true
node_right core around earlier node h = (and_parts (is_node_right core around node) (is_owned_once core earlier (owned_by core node)) h).0

module _ (d : Draft) (core : PlainCore) (plan : PlainPlan) (table : List AroundNets) (ends : List (Option ℕ)) (ops : List PlainOp) (first second : PlainNode) (k n : ℕ) (can : CanEmit d core plan table ends (branch ops first second) k n) where
  pub branch_test : IsWordRight d core table ops Bit
  branch_test = record { around = can.around; right = node_right core can.around can.earlier (branch ops first second) can.right.0; stand = can.stand }

  pub branch_small : n + length ops < 2 ^ 30 + 1
  branch_small = (let h = can.numbers in omega (arith, h))

  pub branch_one : (e : Draft) → Grows d e → CanEmit e core plan table ends first (k + 1) (n + length ops)
  branch_one e g = record {
    around = can.around;
    earlier = can.earlier;
    right = can.right.1;
    stand = stand_later d e table can.around.counters g can.stand;
    timed = can.timed.0;
    have_ends = subst (λ j. HaveEnds e ends first j) (one_more k) (ends_later d e ends first (suc k) g can.have_ends.0);
    times = subst (λ j. AllHaveTime core plan first j) (one_more k) can.times.0;
    places = subst (λ j. AllHavePlaces plan first j) (one_more k) can.places.0;
    planned = (let h = can.planned in omega (arith, h));
    nodes = (let h = can.nodes in omega (arith, h));
    numbers = (let h = can.numbers in omega (arith, h));
  }

  pub branch_other : (e : Draft) → Grows d e → CanEmit e core plan table ends second (k + 1 + node_count first) (n + length ops + number_count first)
  branch_other e g = record {
    around = can.around;
    earlier = can.earlier ++ owned_in first;
    right = can.right.2;
    stand = stand_later d e table can.around.counters g can.stand;
    timed = can.timed.1;
    have_ends = subst (λ j. HaveEnds e ends second j) (ap (λ j. j + node_count first) (one_more k)) (ends_later d e ends second (suc k + node_count first) g can.have_ends.1);
    times = subst (λ j. AllHaveTime core plan second j) (ap (λ j. j + node_count first) (one_more k)) can.times.1;
    places = subst (λ j. AllHavePlaces plan second j) (ap (λ j. j + node_count first) (one_more k)) can.places.1;
    planned = (let h = can.planned in omega (arith, h));
    nodes = (let h = can.nodes in omega (arith, h));
    numbers = (let h = can.numbers in omega (arith, h));
  }

module _ (a b c d : Draft) (start : ℕ) (test : Child) (tested : ℕ) (one other : Child) (first second : ℕ) (xs ys zs : List ℕ) (was : Reserves a b (test.start ∷ first ∷ second ∷ xs)) (more : Reserves b c ys) (last : Reserves c d zs)
    (first_is : one.start ≡ first) (second_is : other.start ≡ second) where
  grown : Grows b d
  grown = Grows-join b c d more.grows last.grows

  awaited : (net : ℕ) → Awaits b net 1 → Awaits d net 1
  awaited net w = stay c d net 1 zs (stay b c net 1 ys w more) last

  pub branch_fits : HasNet a start 1 → HasNet b tested 1 → Awaits b test.start 1 → HasNet b test.done 1 → Awaits b first 1 → HasNet c one.done 1 → Awaits b second 1 → HasNet d other.done 1 → BranchFits d start test tested one other
  branch_fits begin word test_start test_done one_start one_done other_start other_done = record {
    start_net = HasNet-stays a d start 1 (Grows-join a b d was.grows grown) begin;
    tested_net = HasNet-stays b d tested 1 grown word;
    test_child = record { start = awaited test.start test_start; done = HasNet-stays b d test.done 1 grown test_done };
    yes_child = record { start = subst (λ net. Awaits d net 1) (sym first_is) (awaited first one_start); done = HasNet-stays c d one.done 1 last.grows one_done };
    no_child = record { start = subst (λ net. Awaits d net 1) (sym second_is) (awaited second other_start); done = other_done };
    yes_apart = λ e. (let up = was.rise.1.0 in let same = first_is in omega (arith, up, same, e));
    no_apart = λ e. (let up = was.rise.1.0 in let above = was.rise.1.1.0 in let same = second_is in omega (arith, up, above, same, e));
    both_apart = λ e. (let above = was.rise.1.1.0 in let same = first_is in let too = second_is in omega (arith, above, same, too, e));
  }

  pub branch_reserves : (e : Draft) → Fills d e (test.start ∷ one.start ∷ other.start ∷ []) → Reserves a e (xs ++ (ys ++ zs))
  branch_reserves e fills =
      let all = reserved_join a c d (test.start ∷ first ∷ second ∷ (xs ++ ys)) zs (reserved_join a b c (test.start ∷ first ∷ second ∷ xs) ys was more) last in
      let same = ap (λ n. test.start ∷ n ∷ other.start ∷ []) first_is ∙ ap (λ n. test.start ∷ first ∷ n ∷ []) second_is in
      some_driven a d e (test.start ∷ first ∷ second ∷ []) (xs ++ (ys ++ zs)) (test.start ∷ first ∷ second ∷ []) (subst (λ ns. Reserves a d (test.start ∷ first ∷ second ∷ ns)) (append_assoc xs ys zs) all)
      (subst (λ ns. Fills d e ns) same fills) (λ n h. h) (λ n h. h)

module _ (a b c d e : Draft) (core : PlainCore) (plan : PlainPlan) (table : List AroundNets) (ends : List (Option ℕ)) (ops : List PlainOp) (first second : PlainNode) (k n : ℕ) (start done : ℕ) (test : Child) (tested : ℕ) (one other : Child) (list : ActedList) (xs ys : List ActedList)
    (rs ss : List LoopTurns) (ps qs : List Keeping) (ms os : List TreeMove) where
  pub branch_is : Grows a b → Grows b c → Grows c d → Grows d e → IsInTurns a b core table n ops test tested list → IsTree b c core plan table ends first (k + 1) (n + length ops) one xs rs ps ms
      → IsTree c d core plan table ends second (k + 1 + node_count first) (n + length ops + number_count first) other ys ss qs os → ((s : Signals) → RunsOn s e.cells → RunsBranch s start test tested one other done)
      → IsTree a e core plan table ends (branch ops first second) k n (record { start = start; done = done }) (list ∷ (xs ++ ys)) (rs ++ ss) (ps ++ qs) (ms ++ os)
  branch_is g h i j turns left right runs around earlier is stand s run =
      let at_d = runs_earlier d e s j run in
      let at_c = runs_earlier c d s i at_d in
      let tests = turns plan around (list_right core around ops Bit (node_right core around earlier (branch ops first second) is.0)) stand s (runs_earlier b c s h at_c) in
      let one_is = subst (λ m. IsTree b c core plan table ends first m (n + length ops) one xs rs ps ms) (sym (one_more k)) left around earlier is.1 (stand_later a b table around.counters g stand) s at_c in
      let other_is = subst (λ m. IsTree c d core plan table ends second m (n + (length ops + number_count first)) other ys ss qs os) (sym (ap (λ m. m + node_count first) (one_more k)))
      (subst (λ m. IsTree c d core plan table ends second (k + 1 + node_count first) m other ys ss qs os) (add_assoc n (length ops) (number_count first)) right) around (earlier ++ owned_in first) is.2 (stand_later a c table around.counters (Grows-join a b c g h) stand) s at_d in
      record {
        circuit = record { test = test; tested = tested; chosen = one; left = other; circuit = runs s run; tests = tests.circuit; one = one_is.circuit; other = other_is.circuit };
        handed = record { test = list; one = xs; other = ys; all = refl; tests = tests.acted; firsts = one_is.handed; seconds = other_is.handed };
        owners = record { one = rs; other = ss; one_kept = ps; other_kept = qs; turns_are = refl; kept_are = refl; first = one_is.owners; second = other_is.owners };
        moved = record { one = ms; other = os; moves_are = refl; first = one_is.moved; second = other_is.moved };
      }
