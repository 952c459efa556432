-- What a branch and an FSM are, by the parts of a node as its function takes them.
use Rattle.std.proofs.Common.{◌≡◌, ℕ, ◌+◌, List, [], ◌∷◌, ◌++◌, length, sym, ◌∙◌, ap, subst, Option, None}
use Rattle.sp_words.specs.declared.types.Ty.{Ty}
use Rattle.sp_words.specs.declared.types.Ty.TheVariants.{Bit}
use Rattle.sp_netlist.specs.declared.parts.Child.{Child}
use Rattle.sp_netlist.specs.Draft.{Draft}
use Rattle.sp_netlist.specs.Signals.{Signals}
use Rattle.sp_gates.specs.Grows.{Grows}
use Rattle.sp_gates.specs.Runs.{RunsOn}
use Rattle.sp_core.specs.Declarations.{mem}
use Rattle.sp_core.specs.Numbering.{node_count, number_count}
use Rattle.sp_core.specs.PlainCore.{PlainOp, PlainNode, branch, fsm, PlainCore}
use Rattle.sp_ctrl.specs.Runs.{RunsBranch, RunsFsm}
use Rattle.sp_plan.specs.PlainPlan.{PlainPlan}
use Rattle.sp_op_nets.specs.declared.acted.ActedList.{ActedList}
use Rattle.sp_op_nets.specs.declared.table.AroundNets.{AroundNets}
use Rattle.sp_op_nets.specs.Acted.{answers_of, answers_in}
use Rattle.sp_op_nets.specs.Reserved.{Reserves}
use Rattle.sp_list_circuits.specs.Turns.{IsInTurns, IsWordRight}
use Rattle.sp_tree_handed.specs.declared.moves.TreeMove.{TreeMove}
use Rattle.sp_tree_handed.specs.declared.owners.Keeping.{Keeping}
use Rattle.sp_tree_handed.specs.declared.owners.LoopTurns.{LoopTurns}
use Rattle.sp_tree_handed.specs.Owners.{keeping}
use Rattle.sp_tree_nets.specs.Emitted.{CanEmit, IsTree}
use Rattle.sp_tree_nets.proofs.Sides.{answers_append, branch_one, branch_other, branch_is}
use Rattle.sp_tree_nets.proofs.Rounds.{machine_test, machine_next, machine_body, machine_is, machine_answers}

pub branch_acted : (a b : Draft) (list : ActedList) (xs ys acted : List ActedList) → acted ≡ list ∷ (xs ++ ys) → Reserves a b (answers_of list.ops.items ++ (answers_in xs ++ answers_in ys)) → Reserves a b (answers_in acted)
branch_acted a b list xs ys acted e r = subst (Reserves a b) (ap (λ ns. answers_of list.ops.items ++ ns) (sym (answers_append xs ys)) ∙ sym (ap answers_in e)) r

pub machine_acted : (a b : Draft) (x y : ActedList) (xs : List ActedList) (z : ActedList) (acted : List ActedList) → acted ≡ x ∷ y ∷ (xs ++ z ∷ [])
    → Reserves a b ((answers_of x.ops.items ++ answers_of y.ops.items) ++ (answers_in xs ++ answers_of z.ops.items)) → Reserves a b (answers_in acted)
machine_acted a b x y xs z acted e r = subst (Reserves a b) (machine_answers x y xs z ∙ sym (ap answers_in e)) r

module _ (core : PlainCore) (plan : PlainPlan) (table : List AroundNets) (ends : List (Option ℕ)) (node : PlainNode) (ops : List PlainOp) (first second : PlainNode) (k n len nodes numbers : ℕ) (is : node ≡ branch ops first second) (len_is : len ≡ length ops) (nodes_is : nodes ≡ node_count first)
    (numbers_is : numbers ≡ number_count first) where
  pub arm_one : (d e : Draft) (part : PlainNode) → part ≡ first → CanEmit d core plan table ends node k n → Grows d e → CanEmit e core plan table ends part (k + 1) (n + len)
  arm_one d e part same can g =
      subst (λ y. CanEmit e core plan table ends y (k + 1) (n + len)) (sym same)
      (subst (λ l. CanEmit e core plan table ends first (k + 1) (n + l)) (sym len_is) (branch_one d core plan table ends ops first second k n (subst (λ y. CanEmit d core plan table ends y k n) is can) e g))

  pub arm_other : (d e : Draft) (part : PlainNode) → part ≡ second → CanEmit d core plan table ends node k n → Grows d e → CanEmit e core plan table ends part (k + 1 + nodes) (n + len + numbers)
  arm_other d e part same can g =
      subst (λ y. CanEmit e core plan table ends y (k + 1 + nodes) (n + len + numbers)) (sym same)
      (subst (λ l. CanEmit e core plan table ends second (k + 1 + nodes) (n + l + numbers)) (sym len_is)
      (subst (λ j. CanEmit e core plan table ends second (k + 1 + j) (n + length ops + numbers)) (sym nodes_is)
      (subst (λ m. CanEmit e core plan table ends second (k + 1 + node_count first) (n + length ops + m)) (sym numbers_is) (branch_other d core plan table ends ops first second k n (subst (λ y. CanEmit d core plan table ends y k n) is can) e g))))

  pub arm_is : (a b c d e : Draft) (begin : ℕ) (child : Child) (taken : List PlainOp) (test : Child) (tested : ℕ) (one other : Child) (list : ActedList) (xs ys acted : List ActedList)
      (rs ss turns : List LoopTurns) (ps qs kept : List Keeping) (ms os moves : List TreeMove) (x y : PlainNode) → turns ≡ rs ++ ss → kept ≡ ps ++ qs → moves ≡ ms ++ os → taken ≡ ops → x ≡ first → y ≡ second → child.start ≡ begin
      → acted ≡ list ∷ (xs ++ ys) → Grows a b → Grows b c → Grows c d → Grows d e → IsInTurns a b core table n taken test tested list → IsTree b c core plan table ends x (k + 1) (n + len) one xs rs ps ms
      → IsTree c d core plan table ends y (k + 1 + nodes) (n + len + numbers) other ys ss qs os → ((s : Signals) → RunsOn s e.cells → RunsBranch s begin test tested one other child.done) → IsTree a e core plan table ends node k n child acted turns kept moves
  arm_is a b c d e begin child taken test tested one other list xs ys acted rs ss turns ps qs kept ms os moves x y turns_is kept_is moves_are taken_is x_is y_is start_is acted_is g h i j tests left right runs =
      subst (λ v. IsTree a e core plan table ends v k n child acted turns kept moves) (sym is)
      (subst (λ v. IsTree a e core plan table ends (branch ops first second) k n child v turns kept moves) (sym acted_is)
      (subst (λ v. IsTree a e core plan table ends (branch ops first second) k n child (list ∷ (xs ++ ys)) v kept moves) (sym turns_is)
      (subst (λ v. IsTree a e core plan table ends (branch ops first second) k n child (list ∷ (xs ++ ys)) (rs ++ ss) v moves) (sym kept_is)
      (subst (λ v. IsTree a e core plan table ends (branch ops first second) k n child (list ∷ (xs ++ ys)) (rs ++ ss) (ps ++ qs) v) (sym moves_are)
      (branch_is a b c d e core plan table ends ops first second k n child.start child.done test tested one other list xs ys rs ss ps qs ms os g h i j (subst (λ v. IsInTurns a b core table n v test tested list) taken_is tests)
      (subst (λ l. IsTree b c core plan table ends first (k + 1) (n + l) one xs rs ps ms) len_is (subst (λ v. IsTree b c core plan table ends v (k + 1) (n + len) one xs rs ps ms) x_is left))
      (subst (λ l. IsTree c d core plan table ends second (k + 1 + node_count first) (n + l + number_count first) other ys ss qs os) len_is
      (subst (λ j. IsTree c d core plan table ends second (k + 1 + j) (n + len + number_count first) other ys ss qs os) nodes_is
      (subst (λ m. IsTree c d core plan table ends second (k + 1 + nodes) (n + len + m) other ys ss qs os) numbers_is (subst (λ v. IsTree c d core plan table ends v (k + 1 + nodes) (n + len + numbers) other ys ss qs os) y_is right))))
      (λ s run. subst (λ v. RunsBranch s v test tested one other child.done) (sym start_is) (runs s run)))))))

module _ (core : PlainCore) (plan : PlainPlan) (table : List AroundNets) (ends : List (Option ℕ)) (node : PlainNode) (start : List PlainOp) (state : ℕ) (test : List PlainOp) (body : PlainNode) (next : List PlainOp) (k n : ℕ) (is : node ≡ fsm start state test body next) where
  pub round_test : (d : Draft) (taken : List PlainOp) → taken ≡ test → CanEmit d core plan table ends node k n → IsWordRight d core table taken Bit
  round_test d taken same can = subst (λ v. IsWordRight d core table v Bit) (sym same) (machine_test d core plan table ends start state test body next k n (subst (λ y. CanEmit d core plan table ends y k n) is can))

  pub round_next : (d e : Draft) (taken : List PlainOp) (ty : Ty) → taken ≡ next → ty ≡ (mem core state).ty → CanEmit d core plan table ends node k n → Grows d e → IsWordRight e core table taken ty
  round_next d e taken ty same ty_is can g =
      subst (λ v. IsWordRight e core table v ty) (sym same) (subst (λ v. IsWordRight e core table next v) (sym ty_is) (machine_next d core plan table ends start state test body next k n (subst (λ y. CanEmit d core plan table ends y k n) is can) e g))

  module _ (len more numbers : ℕ) (len_is : len ≡ length start) (more_is : more ≡ length test) (numbers_is : numbers ≡ number_count body) where
    pub round_body : (d e : Draft) (part : PlainNode) → part ≡ body → CanEmit d core plan table ends node k n → Grows d e → CanEmit e core plan table ends part (k + 1) (n + (len + more))
    round_body d e part same can g =
        subst (λ y. CanEmit e core plan table ends y (k + 1) (n + (len + more))) (sym same)
        (subst (λ l. CanEmit e core plan table ends body (k + 1) (n + (l + more))) (sym len_is)
        (subst (λ l. CanEmit e core plan table ends body (k + 1) (n + (length start + l))) (sym more_is) (machine_body d core plan table ends start state test body next k n (subst (λ y. CanEmit d core plan table ends y k n) is can) e g)))

    pub round_is : (a b c d e : Draft) (begin : ℕ) (child first : Child) (begun : ℕ) (check : Child) (tested : ℕ) (work step : Child) (stepped : ℕ) (x y : ActedList) (xs : List ActedList) (z : ActedList) (acted : List ActedList)
        (rs turns : List LoopTurns) (ps kept : List Keeping) (ms moves : List TreeMove) (start' test' next' : List PlainOp) (body' : PlainNode) (count : ℕ) → turns ≡ rs → kept ≡ (keeping state first.done begun None ∷ keeping state step.done stepped None ∷ []) ++ ps → moves ≡ ms → start' ≡ start → test' ≡ test → next' ≡ next → body' ≡ body → count ≡ length start → child.start ≡ begin → acted ≡ x ∷ y ∷ (xs ++ z ∷ [])
        → Grows a b → Grows b c → Grows c d → Grows d e → IsInTurns a b core table n start' first begun x → IsInTurns a b core table (n + count) test' check tested y → IsTree b c core plan table ends body' (k + 1) (n + (len + more)) work xs rs ps ms
        → IsInTurns c d core table (n + (len + more) + numbers) next' step stepped z → ((s : Signals) → RunsOn s e.cells → RunsFsm s begin first check tested work step child.done) → IsTree a e core plan table ends node k n child acted turns kept moves
    round_is a b c d e begin child first begun check tested work step stepped x y xs z acted rs turns ps kept ms moves start' test' next' body' count turns_is kept_is moves_are start_is test_is next_is body_is count_is begin_is acted_is g h i j firsts tests tree nexts runs =
        subst (λ v. IsTree a e core plan table ends v k n child acted turns kept moves) (sym is)
        (subst (λ v. IsTree a e core plan table ends (fsm start state test body next) k n child v turns kept moves) (sym acted_is)
        (subst (λ v. IsTree a e core plan table ends (fsm start state test body next) k n child (x ∷ y ∷ (xs ++ z ∷ [])) v kept moves) (sym turns_is)
        (subst (λ v. IsTree a e core plan table ends (fsm start state test body next) k n child (x ∷ y ∷ (xs ++ z ∷ [])) rs v moves) (sym kept_is)
        (subst (λ v. IsTree a e core plan table ends (fsm start state test body next) k n child (x ∷ y ∷ (xs ++ z ∷ [])) rs ((keeping state first.done begun None ∷ keeping state step.done stepped None ∷ []) ++ ps) v) (sym moves_are)
        (machine_is a b c d e core plan table ends start state test body next k n child.start child.done first begun check tested work step stepped x y xs z rs ps ms g h i j (subst (λ v. IsInTurns a b core table n v first begun x) start_is firsts)
        (subst (λ l. IsInTurns a b core table (n + l) test check tested y) count_is (subst (λ v. IsInTurns a b core table (n + count) v check tested y) test_is tests))
        (subst (λ l. IsTree b c core plan table ends body (k + 1) (n + (l + length test)) work xs rs ps ms) len_is
        (subst (λ l. IsTree b c core plan table ends body (k + 1) (n + (len + l)) work xs rs ps ms) more_is (subst (λ v. IsTree b c core plan table ends v (k + 1) (n + (len + more)) work xs rs ps ms) body_is tree)))
        (subst (λ l. IsInTurns c d core table (n + (l + length test) + number_count body) next step stepped z) len_is
        (subst (λ l. IsInTurns c d core table (n + (len + l) + number_count body) next step stepped z) more_is
        (subst (λ m. IsInTurns c d core table (n + (len + more) + m) next step stepped z) numbers_is (subst (λ v. IsInTurns c d core table (n + (len + more) + numbers) v step stepped z) next_is nexts))))
        (λ s run. subst (λ v. RunsFsm s v first check tested work step child.done) (sym begin_is) (runs s run)))))))
