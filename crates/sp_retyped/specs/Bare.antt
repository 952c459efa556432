-- Expressions without their places.
use Rattle.sp_tree.specs.PlainExpression.{PlainExpr, PlainExprKind, PlainExprs, expr, literal, counter, value, get_reg, get_arg, get_sram, get_line, deq, one, two, shift, mux, cast, no_expr, more_expr}

-- every place 0
abbrev mutual
  pub bare : PlainExpr → PlainExpr
  bare (expr place ty kind) = expr 0 ty (bare_kind kind)

  pub bare_kind : PlainExprKind → PlainExprKind
  bare_kind (literal w) = literal w
  bare_kind (counter c) = counter c
  bare_kind (value v) = value v
  bare_kind (get_reg m) = get_reg m
  bare_kind (get_arg m) = get_arg m
  bare_kind (get_sram m indices) = get_sram m (bare_all indices)
  bare_kind (get_line m row column) = get_line m (bare row) (bare column)
  bare_kind (deq m) = deq m
  bare_kind (one op a) = one op (bare a)
  bare_kind (two op a b) = two op (bare a) (bare b)
  bare_kind (shift left a by) = shift left (bare a) by
  bare_kind (mux c a b) = mux (bare c) (bare a) (bare b)
  bare_kind (cast a) = cast (bare a)

  pub bare_all : PlainExprs → PlainExprs
  bare_all no_expr = no_expr
  bare_all (more_expr e rest) = more_expr (bare e) (bare_all rest)
