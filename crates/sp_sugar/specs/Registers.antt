-- The registers that the compiler adds, in the order in which they are numbered: statement by statement, and at each one
-- first those that the body around owns, then those inside of it. A body owns a register for each value that crosses; for
-- each early bound or part, in order; and then for whether an accumulator has begun. An FSM's state comes before the
-- registers of its body. The word of a loop that crosses to its combination comes after those of the loop's body.
use Rattle.std.specs.Prelude.{ℕ, ◌+◌, ◌==◌, List, [], ◌∷◌, ◌++◌, length, if◌then◌else◌}
use Rattle.sp_tree.specs.PlainExpression.{PlainExpr, type_of}
use Rattle.sp_tree.specs.PlainStatement.{PlainCounter, PlainStmtKind, PlainStmts, stmt, name, block, foreach, reduce, mem_reduce, fsm, branch, no_stmt, more_stmt}
use Rattle.sp_tree.specs.Structure.{lanes_of, is_inner}
use Rattle.sp_core.specs.PlainCore.{PlainMem}
use Rattle.sp_sugar.specs.Early.{early_registers}
use Rattle.sp_sugar.specs.Numbers.{begun_register, state_register, crossing_register, numbers_from}
use Rattle.sp_sugar.specs.Uses.{is_bare, Ending, no_more, in_last_run, in_combination, does_cross}

-- the word of a Reduce or Fold whose body has stages: of one lane, or without an operation of its own, it is computed in
-- the combination, else in the last run of statements
abbrev pub ending_of : List PlainCounter → PlainExpr → Ending
ending_of counters e = if is_bare e then in_combination e else if lanes_of counters == 1 then in_combination e else in_last_run e

-- owned by the body in which a statement stands, by what comes after it
abbrev pub beside : PlainStmtKind → (rest : PlainStmts) → Ending → List PlainMem
beside (name v e) rest ending =
    if is_bare e then [] else if does_cross v rest ending then crossing_register (type_of e) ∷ [] else []
beside (reduce style fold acc counters body e comb) rest ending =
    early_registers (reduce style fold acc counters body e comb) ++ (if fold then [] else begun_register ∷ [])
beside (mem_reduce style acc counters body part comb) rest ending =
    early_registers (mem_reduce style acc counters body part comb) ++ begun_register ∷ []
beside kind rest ending = early_registers kind

abbrev pub at_end : Ending → List PlainMem
at_end (in_last_run e) = crossing_register (type_of e) ∷ []
at_end _ = []

-- an inner body has none
abbrev pub unless_inner : PlainStmts → List PlainMem → List PlainMem
unless_inner body all = if is_inner body then [] else all

-- of a body with stages, and of a statement but for those beside it
unfoldable mutual
  pub registers : PlainStmts → Ending → List PlainMem
  registers no_stmt ending = at_end ending
  registers (more_stmt (stmt place kind) rest) ending = beside kind rest ending ++ inside kind ++ registers rest ending

  pub inside : PlainStmtKind → List PlainMem
  inside (block style body) = unless_inner body (registers body no_more)
  inside (foreach style counters body) = unless_inner body (registers body no_more)
  inside (reduce style fold acc counters body e comb) = unless_inner body (registers body (ending_of counters e))
  inside (mem_reduce style acc counters body part comb) = registers body no_more
  inside (fsm start tested test state body last next) = state_register (type_of start) ∷ unless_inner body (registers body no_more)
  inside (branch test first second) = unless_inner first (registers first no_more) ++ unless_inner second (registers second no_more)
  inside _ = []

-- of any body
abbrev pub registers_in : PlainStmts → Ending → List PlainMem
registers_in body ending = unless_inner body (registers body ending)

-- the numbers of those that a body owns, by the first number
abbrev pub owned_registers : (first : ℕ) → PlainStmts → Ending → List ℕ
owned_registers n no_stmt ending = numbers_from n (length (at_end ending))
owned_registers n (more_stmt (stmt place kind) rest) ending =
    numbers_from n (length (beside kind rest ending))
    ++ owned_registers (n + length (beside kind rest ending) + length (inside kind)) rest ending
