-- Typed expressions in a list.
use Rattle.std.proofs.Common.{Result, Ok, Err, ◌≡◌, ℕ, ◌<◌, ◌≤◌, List, [], ◌∷◌, ◌++◌, length, map, Vec, Global, refl, ap, ◌∙◌, arith}
use Rattle.std.specs.Prelude.{IfOk}
use mathlib.Core.Former.{Count}
use Rattle.sp_tree.specs.declared.expression.Expr.{Expr}
use Rattle.sp_tree.specs.declared.expression.ExprKind.{ExprKind, GetSram, GetSram', Row_of-Expr, end_of-Expr, more_of-Expr, items-the_row-Expr, items_hidden-the_row-Expr-0}
use Rattle.sp_tree.specs.Plain.{plain_kind, plain_row, plain_expr, plain_exprs}
use Rattle.sp_tree.specs.PlainExpression.{PlainExprKind, PlainExprs, get_sram, literal, no_expr, more_expr, expr}
use Rattle.sp_words.specs.Types.{int_type}
use Rattle.sp_reader.specs.declared.syntax.expression.SynExpr.{SynExpr}
use Rattle.sp_reader.specs.Plain as tree
use Rattle.sp_reader.specs.PlainTree.{row}
use Rattle.sp_typed.specs.Expressions.{all_typed, line_element}
use Rattle.sp_typed.specs.Named.{Here}

-- one list after another
abbrev pub joined : PlainExprs → PlainExprs → PlainExprs
joined no_expr es = es
joined (more_expr e rest) es = more_expr e (joined rest es)

pub joined_none : (es : PlainExprs) → joined es no_expr ≡ es
joined_none no_expr = refl
joined_none (more_expr e rest) = ap (more_expr e) (joined_none rest)

-- one more at the end
pub joined_push : (xs : List Expr) (x : Expr) (es : PlainExprs) → joined (plain_exprs (xs ++ x ∷ [])) es ≡ joined (plain_exprs xs) (more_expr (plain_expr x) es)
joined_push [] x es = refl
joined_push (y ∷ ys) x es = ap (more_expr (plain_expr y)) (joined_push ys x es)

abbrev row_of : ExprKind → (n : Count) × Row_of-Expr n
row_of (GetSram' m _ row) = (_, row)
row_of _ = (_, end_of-Expr)

row_is : (n : _) (row : Row_of-Expr n) → plain_row row ≡ plain_exprs (items-the_row-Expr n row)
row_is n end_of-Expr = refl
row_is n (more_of-Expr at ty kind rest) = ap (more_expr (expr at ty (plain_kind kind))) (row_is _ rest)

pub sram_of : (m : ℕ) (indices : Vec Expr Global) → plain_kind (GetSram m indices) ≡ get_sram m (plain_exprs indices.items)
sram_of m indices =
    let row = row_of (GetSram m indices) in
    ap (get_sram m) (row_is row.0 row.1 ∙ ap plain_exprs (items_hidden-the_row-Expr-0 indices))

-- other than two indices
pub none_of_line : (n : ℕ) (here : Here) (es : List SynExpr) → length es < 2 → literal 0 ≡ line_element n (all_typed here int_type (row (tree.plain_exprs es)))
none_of_line n here [] h = refl
none_of_line n here (a ∷ []) h = refl
none_of_line n here (a ∷ b ∷ es) h = absurd (omega arith)

pub many_of_line : (n : ℕ) (here : Here) (es : List SynExpr) → 3 ≤ length es → literal 0 ≡ line_element n (all_typed here int_type (row (tree.plain_exprs es)))
many_of_line n here [] h = absurd (omega arith)
many_of_line n here (a ∷ []) h = absurd (omega arith)
many_of_line n here (a ∷ b ∷ []) h = absurd (omega arith)
many_of_line n here (a ∷ b ∷ c ∷ es) h = refl

-- the same, where it was all right
pub ok_same : {E : Type 0} (r : Result ExprKind E) (x y : PlainExprKind) → x ≡ y → IfOk r (λ k. plain_kind k ≡ x) → IfOk r (λ k. plain_kind k ≡ y)
ok_same (Ok k) x y e h = h ∙ e
ok_same (Err b) x y e h = h

-- one more of a list, before the rest
pub grown : {A B : Type 0} (f : A → B) (xs : List A) (x : A) (y : B) (rest : List B) → f x ≡ y → map f (xs ++ x ∷ []) ++ rest ≡ map f xs ++ (y ∷ rest)
grown f [] x y rest e = ap (λ z. z ∷ rest) e
grown f (z ∷ zs) x y rest e = ap (λ l. f z ∷ l) (grown f zs x y rest e)
