-- What trees of a program's expressions are typed to.
use Rattle.std.specs.Prelude.{◌≡◌, []}
use Rattle.sp_tree.specs.PlainExpression.{PlainExpr, type_of}
use Rattle.sp_tree.specs.PlainProgram.{PlainProgram}
use Rattle.sp_tree.specs.Typing.{Scope, Typed}
use Rattle.sp_reader.specs.PlainTree as tree
use Rattle.sp_printer.specs.Names.{names_in}
use Rattle.sp_printed.specs.Trees.{IsTree}
use Rattle.sp_types.specs.declared.own.Ask.{Ask}
use Rattle.sp_types.specs.Expressions.{expr_refusals}
use Rattle.sp_types.specs.Visible.{Visible}
use Rattle.sp_typed.specs.Expressions.{typed}
use Rattle.sp_typed.specs.Named.{Here}
use Rattle.sp_retyped.specs.Bare.{bare}
use Rattle.sp_retyped.specs.Shown.{Seen, Asked}

-- at a place at which all that is visible in the program is visible, a tree of a typed expression has no refusals
abbrev pub ExpressionsAreRight : Type 0
ExpressionsAreRight = (p : PlainProgram) (scope : Scope) (here : Here) (seen : Visible) (ask : Ask) (e : PlainExpr) (x : tree.PlainExpr)
    → Seen p scope here seen → IsTree (names_in p) e x → Typed p scope e → Asked p seen ask e → expr_refusals seen ask x ≡ []

-- and is typed to this expression, but for places
abbrev pub ExpressionsComeBack : Type 0
ExpressionsComeBack = (p : PlainProgram) (scope : Scope) (here : Here) (seen : Visible) (e : PlainExpr) (x : tree.PlainExpr)
    → Seen p scope here seen → IsTree (names_in p) e x → Typed p scope e → bare (typed here (type_of e) x) ≡ bare e
