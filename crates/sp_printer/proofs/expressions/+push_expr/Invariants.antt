use Rattle.std.proofs.Common.{◌≡◌, ◌++◌, drop, true}
use Rattle.std.specs.Prelude.{string_bytes}
use Rattle.sp_tree.specs.Plain.{plain_exprs}
use Rattle.sp_printer.specs.Expressions.{list_text}
use Rattle.sp_printer.specs.Names.{names_of}
use Rattle.sp_printer.proofs.expressions.+push_expr.Given as goal

abbrev pub invariant-push_list-loop-e : goal.invariant-push_list-loop-e
invariant-push_list-loop-e l =
    string_bytes l.text ++ list_text (names_of l.fn.program) l.first (plain_exprs (drop l.e-index l.all)) ≡ string_bytes l.fn.text ++ list_text (names_of l.fn.program) true (plain_exprs l.all)
