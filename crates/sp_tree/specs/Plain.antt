-- The plain value of each part of a program as it is declared.
use Rattle.std.specs.Prelude.{List, [], ◌∷◌, string_bytes}
use Rattle.sp_tree.specs.declared.declaration.MemDecl.{MemDecl}
use Rattle.sp_tree.specs.declared.expression.Expr.{Expr}
use Rattle.sp_tree.specs.declared.expression.ExprKind.{ExprKind, Row_of-Expr, end_of-Expr, more_of-Expr, Lit, Count, Val, GetReg, GetArg, GetSram', GetLine', Deq, One', Two', Shift', Mux', Cast'}
use Rattle.sp_tree.specs.PlainExpression.{PlainExpr, PlainExprKind, PlainExprs, expr, literal, counter, value, get_reg, get_arg, get_sram, get_line, deq, one, two, shift, mux, cast, no_expr, more_expr}
use Rattle.sp_tree.specs.PlainProgram.{PlainMem}

abbrev mutual
  pub plain_kind : ExprKind → PlainExprKind
  plain_kind (Lit w) = literal w
  plain_kind (Count c) = counter c
  plain_kind (Val v) = value v
  plain_kind (GetReg m) = get_reg m
  plain_kind (GetArg m) = get_arg m
  plain_kind (GetSram' m shape all) = get_sram m (plain_row all)
  plain_kind (GetLine' m p at ty kind q at2 ty2 kind2) = get_line m (expr at ty (plain_kind kind)) (expr at2 ty2 (plain_kind kind2))
  plain_kind (Deq m) = deq m
  plain_kind (One' op p at ty kind) = one op (expr at ty (plain_kind kind))
  plain_kind (Two' op p at ty kind q at2 ty2 kind2) = two op (expr at ty (plain_kind kind)) (expr at2 ty2 (plain_kind kind2))
  plain_kind (Shift' left p at ty kind by) = shift left (expr at ty (plain_kind kind)) by
  plain_kind (Mux' p at ty kind q at2 ty2 kind2 r at3 ty3 kind3) = mux (expr at ty (plain_kind kind)) (expr at2 ty2 (plain_kind kind2)) (expr at3 ty3 (plain_kind kind3))
  plain_kind (Cast' p at ty kind) = cast (expr at ty (plain_kind kind))

  pub plain_row : {m : _} → Row_of-Expr m → PlainExprs
  plain_row end_of-Expr = no_expr
  plain_row (more_of-Expr at ty kind rest) = more_expr (expr at ty (plain_kind kind)) (plain_row rest)

abbrev pub plain_expr : Expr → PlainExpr
plain_expr e = expr e.at e.ty (plain_kind e.kind)

abbrev pub plain_exprs : List Expr → PlainExprs
plain_exprs [] = no_expr
plain_exprs (e ∷ rest) = more_expr (plain_expr e) (plain_exprs rest)

abbrev pub plain_mem : MemDecl → PlainMem
plain_mem m = record { name = string_bytes m.name; kind = m.kind; ty = m.ty; dims = m.dims.items; start = m.start; place = m.at }
