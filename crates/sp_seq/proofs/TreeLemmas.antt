-- The plain value of a controller, by its parts.
use Rattle.std.proofs.Common.{◌≡◌, ℕ, Bool, List, map, Vec, Global, refl, sym, ◌∙◌, ap, ap₂}
use mathlib.Core.Former.{Count}
use Rattle.sp_words.specs.declared.kind.Style.{Style}
use Rattle.sp_tree.specs.declared.expression.Expr.{Expr}
use Rattle.sp_tree.specs.declared.statement.Comb.{Comb}
use Rattle.sp_tree.specs.declared.statement.Counter.{Counter}
use Rattle.sp_tree.specs.declared.statement.Stmt.{Stmt}
use Rattle.sp_tree.specs.declared.statement.Ctl.{Ctl, Block, Block', Foreach, Foreach', Reduce, Reduce', MemReduce, MemReduce', Fsm, Fsm', Branch, Branch', Row_of-Stmt, end_of-Stmt, more_of-Stmt, items-the_row-Stmt, items_hidden-the_row-Stmt-0}
use Rattle.sp_tree.specs.Plain.{plain_expr}
use Rattle.sp_tree.specs.PlainStatement.{declare, stmt, block, foreach, reduce, mem_reduce, fsm, branch, more_stmt}
use Rattle.sp_tree.specs.PlainTree.{plain_counter, plain_ctl, plain_stmt_kind, plain_stmts, plain_row as stmts_row}

abbrev CtlRows : Type 0
CtlRows = (n : Count) × Row_of-Stmt n

abbrev first_row : Ctl → CtlRows
first_row (Block' style _ row) = (_, row)
first_row (Foreach' style counters _ row) = (_, row)
first_row (Reduce' style fold acc counters _ row word comb) = (_, row)
first_row (MemReduce' style acc counters _ row part comb) = (_, row)
first_row (Fsm' start tested test state _ row last next) = (_, row)
first_row (Branch' test _ row _ other) = (_, row)

abbrev second_row : Ctl → CtlRows
second_row (Branch' test _ row _ other) = (_, other)
second_row _ = (_, end_of-Stmt)

stmt_row_is : (n : _) (row : Row_of-Stmt n) → stmts_row row ≡ plain_stmts (items-the_row-Stmt n row)
stmt_row_is n end_of-Stmt = refl
stmt_row_is n (more_of-Stmt at kind rest) = ap (more_stmt (stmt at (plain_stmt_kind kind))) (stmt_row_is _ rest)

plain_block : (style : Style) (body : Vec Stmt Global) → plain_ctl (Block style body) ≡ block style (plain_stmts body.items)
plain_block style body =
    let row = first_row (Block style body) in
    ap (block style) (stmt_row_is row.0 row.1 ∙ ap plain_stmts (items_hidden-the_row-Stmt-0 body))

plain_foreach : (style : Style) (counters : Vec Counter Global) (body : Vec Stmt Global) → plain_ctl (Foreach style counters body) ≡ foreach style (map plain_counter counters.items) (plain_stmts body.items)
plain_foreach style counters body =
    let row = first_row (Foreach style counters body) in
    ap (foreach style (map plain_counter counters.items)) (stmt_row_is row.0 row.1 ∙ ap plain_stmts (items_hidden-the_row-Stmt-0 body))

plain_reduce : (style : Style) (fold : Bool) (acc : ℕ) (counters : Vec Counter Global) (body : Vec Stmt Global) (word : Expr) (comb : Comb) → plain_ctl (Reduce style fold acc counters body word comb) ≡ reduce style fold acc (map plain_counter counters.items) (plain_stmts body.items) (plain_expr word) comb
plain_reduce style fold acc counters body word comb =
    let row = first_row (Reduce style fold acc counters body word comb) in
    ap (λ b. reduce style fold acc (map plain_counter counters.items) b (plain_expr word) comb) (stmt_row_is row.0 row.1 ∙ ap plain_stmts (items_hidden-the_row-Stmt-0 body))

plain_mem_reduce : (style : Style) (acc : ℕ) (counters : Vec Counter Global) (body : Vec Stmt Global) (part : ℕ) (comb : Comb) → plain_ctl (MemReduce style acc counters body part comb) ≡ mem_reduce style acc (map plain_counter counters.items) (plain_stmts body.items) part comb
plain_mem_reduce style acc counters body part comb =
    let row = first_row (MemReduce style acc counters body part comb) in
    ap (λ b. mem_reduce style acc (map plain_counter counters.items) b part comb) (stmt_row_is row.0 row.1 ∙ ap plain_stmts (items_hidden-the_row-Stmt-0 body))

plain_fsm : (start : Expr) (tested : ℕ) (test : Expr) (state : ℕ) (body : Vec Stmt Global) (last : ℕ) (next : Expr) → plain_ctl (Fsm start tested test state body last next) ≡ fsm (plain_expr start) tested (plain_expr test) state (plain_stmts body.items) last (plain_expr next)
plain_fsm start tested test state body last next =
    let row = first_row (Fsm start tested test state body last next) in
    ap (λ b. fsm (plain_expr start) tested (plain_expr test) state b last (plain_expr next)) (stmt_row_is row.0 row.1 ∙ ap plain_stmts (items_hidden-the_row-Stmt-0 body))

plain_branch : (test : Expr) (first second : Vec Stmt Global) → plain_ctl (Branch test first second) ≡ branch (plain_expr test) (plain_stmts first.items) (plain_stmts second.items)
plain_branch test first second =
    let row = first_row (Branch test first second) in
    let other = second_row (Branch test first second) in
    ap (λ b. branch (plain_expr test) b (stmts_row other.1)) (stmt_row_is row.0 row.1 ∙ ap plain_stmts (items_hidden-the_row-Stmt-0 first))
    ∙ ap (branch (plain_expr test) (plain_stmts first.items)) (stmt_row_is other.0 other.1 ∙ ap plain_stmts (items_hidden-the_row-Stmt-0 second))

-- the same where numbers and lists stand under other names
pub block_is : {ctl : Ctl} (style : Style) (body : Vec Stmt Global) {b : List Stmt} → ctl ≡ Block style body → b ≡ body.items → plain_ctl ctl ≡ block style (plain_stmts b)
block_is style body is e = ap plain_ctl is ∙ plain_block style body ∙ ap (λ b. block style (plain_stmts b)) (sym e)

pub foreach_is : {ctl : Ctl} (style : Style) (counters : Vec Counter Global) (body : Vec Stmt Global) {cs : List Counter} {b : List Stmt} → ctl ≡ Foreach style counters body → cs ≡ counters.items → b ≡ body.items
    → plain_ctl ctl ≡ foreach style (map plain_counter cs) (plain_stmts b)
foreach_is style counters body is e f = ap plain_ctl is ∙ plain_foreach style counters body ∙ ap₂ (λ cs b. foreach style (map plain_counter cs) (plain_stmts b)) (sym e) (sym f)

pub reduce_is : {ctl : Ctl} (style : Style) (fold : Bool) (acc : ℕ) (counters : Vec Counter Global) (body : Vec Stmt Global) (word : Expr) (comb : Comb) {n : ℕ} {cs : List Counter} {b : List Stmt}
    → ctl ≡ Reduce style fold acc counters body word comb → n ≡ acc → cs ≡ counters.items → b ≡ body.items → plain_ctl ctl ≡ reduce style fold n (map plain_counter cs) (plain_stmts b) (plain_expr word) comb
reduce_is style fold acc counters body word comb {n = n} is a e f =
    ap plain_ctl is
    ∙ plain_reduce style fold acc counters body word comb
    ∙ ap (λ n. reduce style fold n (map plain_counter counters.items) (plain_stmts body.items) (plain_expr word) comb) (sym a)
    ∙ ap₂ (λ cs b. reduce style fold n (map plain_counter cs) (plain_stmts b) (plain_expr word) comb) (sym e) (sym f)

pub mem_reduce_is : {ctl : Ctl} (style : Style) (acc : ℕ) (counters : Vec Counter Global) (body : Vec Stmt Global) (part : ℕ) (comb : Comb) {n m : ℕ} {cs : List Counter} {b : List Stmt}
    → ctl ≡ MemReduce style acc counters body part comb → n ≡ acc → m ≡ part → cs ≡ counters.items → b ≡ body.items → plain_ctl ctl ≡ mem_reduce style n (map plain_counter cs) (plain_stmts b) m comb
mem_reduce_is style acc counters body part comb {n = n} {m = m} is a p e f =
    ap plain_ctl is
    ∙ plain_mem_reduce style acc counters body part comb
    ∙ ap₂ (λ n m. mem_reduce style n (map plain_counter counters.items) (plain_stmts body.items) m comb) (sym a) (sym p)
    ∙ ap₂ (λ cs b. mem_reduce style n (map plain_counter cs) (plain_stmts b) m comb) (sym e) (sym f)

pub fsm_is : {ctl : Ctl} (start : Expr) (tested : ℕ) (test : Expr) (state : ℕ) (body : Vec Stmt Global) (last : ℕ) (next : Expr) {t s l : ℕ} {b : List Stmt}
    → ctl ≡ Fsm start tested test state body last next → t ≡ tested → s ≡ state → l ≡ last → b ≡ body.items → plain_ctl ctl ≡ fsm (plain_expr start) t (plain_expr test) s (plain_stmts b) l (plain_expr next)
fsm_is start tested test state body last next {t = t} {s = s} is a d e f =
    ap plain_ctl is
    ∙ plain_fsm start tested test state body last next
    ∙ ap₂ (λ t s. fsm (plain_expr start) t (plain_expr test) s (plain_stmts body.items) last (plain_expr next)) (sym a) (sym d)
    ∙ ap₂ (λ l b. fsm (plain_expr start) t (plain_expr test) s (plain_stmts b) l (plain_expr next)) (sym e) (sym f)

pub branch_is : {ctl : Ctl} (test : Expr) (first second : Vec Stmt Global) {a b : List Stmt} → ctl ≡ Branch test first second → a ≡ first.items → b ≡ second.items → plain_ctl ctl ≡ branch (plain_expr test) (plain_stmts a) (plain_stmts b)
branch_is test first second is e f = ap plain_ctl is ∙ plain_branch test first second ∙ ap₂ (λ a b. branch (plain_expr test) (plain_stmts a) (plain_stmts b)) (sym e) (sym f)

-- a controller is no declaration
pub control_is_other : (ctl : Ctl) (m : ℕ) → plain_ctl ctl ≡ declare m → ⊥
control_is_other (Block' style _ row) m e = cc
control_is_other (Foreach' style counters _ row) m e = cc
control_is_other (Reduce' style fold acc counters _ row word comb) m e = cc
control_is_other (MemReduce' style acc counters _ row part comb) m e = cc
control_is_other (Fsm' start tested test state _ row last next) m e = cc
control_is_other (Branch' test _ row _ other) m e = cc
