-- The plain value of names, numbers and expressions as they are declared.
use Rattle.std.specs.Prelude.{List, [], ◌∷◌, map, string_bytes}
use Rattle.sp_reader.specs.declared.syntax.expression.Ident.{Ident}
use Rattle.sp_reader.specs.declared.syntax.expression.Digits.{Digits}
use Rattle.sp_reader.specs.declared.syntax.expression.SynLit.{SynLit}
use Rattle.sp_reader.specs.declared.syntax.expression.SynLit.TheVariants as lit
use Rattle.sp_reader.specs.declared.syntax.expression.SynExpr.{SynExpr}
use Rattle.sp_reader.specs.declared.syntax.expression.SynExprKind.{SynExprKind, Row_of-SynExpr, end_of-SynExpr, more_of-SynExpr, Number, Truth, Name, Deq, At', Mux', Min', Max', One', Two', Shift', Cast'}
use Rattle.sp_reader.specs.PlainTree.{PlainIdent, PlainDigits, PlainLit, number_lit, truth_lit, PlainExpr, PlainExprKind, PlainExprs, expr, number, truth, name, deq, access, mux, min, max, one, two, shift, cast, no_expr, more_expr}

abbrev pub plain_ident : Ident → PlainIdent
plain_ident i = record { place = i.at; text = string_bytes i.text }

abbrev pub plain_digits : Digits → PlainDigits
plain_digits d = record { place = d.at; negative = d.negative; whole = d.whole; digits = d.digits.items }

abbrev pub plain_lit : SynLit → PlainLit
plain_lit (lit.Number d ty) = number_lit (plain_digits d) ty
plain_lit (lit.Truth at value) = truth_lit at value

abbrev mutual
  pub plain_kind : SynExprKind → PlainExprKind
  plain_kind (Number d) = number (plain_digits d)
  plain_kind (Truth b) = truth b
  plain_kind (Name i value) = name (plain_ident i) value
  plain_kind (Deq i) = deq (plain_ident i)
  plain_kind (At' i shape all) = access (plain_ident i) (plain_row all)
  plain_kind (Mux' p at kind q at2 kind2 r at3 kind3) = mux (expr at (plain_kind kind)) (expr at2 (plain_kind kind2)) (expr at3 (plain_kind kind3))
  plain_kind (Min' p at kind q at2 kind2) = min (expr at (plain_kind kind)) (expr at2 (plain_kind kind2))
  plain_kind (Max' p at kind q at2 kind2) = max (expr at (plain_kind kind)) (expr at2 (plain_kind kind2))
  plain_kind (One' op p at kind) = one op (expr at (plain_kind kind))
  plain_kind (Two' op p at kind q at2 kind2) = two op (expr at (plain_kind kind)) (expr at2 (plain_kind kind2))
  plain_kind (Shift' left p at kind by) = shift left (expr at (plain_kind kind)) by
  plain_kind (Cast' p at kind ty) = cast (expr at (plain_kind kind)) ty

  pub plain_row : {m : _} → Row_of-SynExpr m → PlainExprs
  plain_row end_of-SynExpr = no_expr
  plain_row (more_of-SynExpr at kind rest) = more_expr (expr at (plain_kind kind)) (plain_row rest)

abbrev pub plain_expr : SynExpr → PlainExpr
plain_expr e = expr e.at (plain_kind e.kind)

abbrev pub plain_exprs : List SynExpr → List PlainExpr
plain_exprs = map plain_expr
