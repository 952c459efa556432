use Rattle.std.proofs.Common.{◌≡◌, ◌++◌, drop}
use Rattle.std.specs.Prelude.{string_bytes}
use Rattle.sp_tree.specs.PlainTree.{plain_stmts}
use Rattle.sp_printer.specs.Body.{body_text}
use Rattle.sp_printer.specs.Names.{names_of}
use Rattle.sp_printer.proofs.body.+push_body.Given as goal

abbrev pub invariant-push_body-loop-s : goal.invariant-push_body-loop-s
invariant-push_body-loop-s l =
    string_bytes l.text ++ body_text (names_of l.fn.program) l.margin (plain_stmts (drop l.s-index l.body)) ≡ string_bytes l.fn.text ++ body_text (names_of l.fn.program) l.margin (plain_stmts l.body)
