-- Typed statements in a list.
use Rattle.std.proofs.Common.{◌≡◌, List, [], ◌∷◌, ◌++◌, Result, Ok, Err, Vec, Global, refl, ap, ◌∙◌}
use Rattle.std.specs.Prelude.{IfOk, OnOk}
use Rattle.sp_tree.specs.declared.statement.Stmt.{Stmt}
use Rattle.sp_tree.specs.declared.statement.StmtKind.{StmtKind}
use Rattle.sp_tree.specs.PlainStatement.{PlainStmtKind, PlainStmts, no_stmt, more_stmt}
use Rattle.sp_tree.specs.PlainTree.{plain_stmt, plain_stmts, plain_stmt_kind}

-- one list after another
abbrev pub joined_stmts : PlainStmts → PlainStmts → PlainStmts
joined_stmts no_stmt ss = ss
joined_stmts (more_stmt s rest) ss = more_stmt s (joined_stmts rest ss)

pub joined_none : (ss : PlainStmts) → joined_stmts ss no_stmt ≡ ss
joined_none no_stmt = refl
joined_none (more_stmt s rest) = ap (more_stmt s) (joined_none rest)

-- one more at the end
pub joined_push : (xs : List Stmt) (x : Stmt) (ss : PlainStmts) → joined_stmts (plain_stmts (xs ++ x ∷ [])) ss ≡ joined_stmts (plain_stmts xs) (more_stmt (plain_stmt x) ss)
joined_push [] x ss = refl
joined_push (y ∷ ys) x ss = ap (more_stmt (plain_stmt y)) (joined_push ys x ss)

-- the same, where a call was all right
pub stmt_same : {E : Type 0} (r : Result StmtKind E) (x y : PlainStmtKind) → x ≡ y → IfOk r (λ k. plain_stmt_kind k ≡ x) → IfOk r (λ k. plain_stmt_kind k ≡ y)
stmt_same (Ok k) x y e h = h ∙ e
stmt_same (Err b) x y e h = h

pub seen_same : {A E H : Type 0} (r : Result A E) (h x y : H) → x ≡ y → OnOk r (h ≡ x) → OnOk r (h ≡ y)
seen_same (Ok a) h x y e k = k ∙ e
seen_same (Err b) h x y e k = k

pub any_ok : {A E : Type 0} (r : Result A E) (P : Type 0) → P → OnOk r P
any_ok (Ok a) P h = h
any_ok (Err b) P h = tt

pub body_same : {E : Type 0} (r : Result (Vec Stmt Global) E) (x y : PlainStmts) → x ≡ y → IfOk r (λ b. plain_stmts b.items ≡ x) → IfOk r (λ b. plain_stmts b.items ≡ y)
body_same (Ok b) x y e h = h ∙ e
body_same (Err b) x y e h = h
