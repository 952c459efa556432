use Rattle.std.proofs.Common.{◌≡◌, ◌++◌, map, drop}
use Rattle.sp_reader.specs.PlainProgram.{plain_spans}
use Rattle.sp_tree.specs.PlainTree.{plain_span}
use Rattle.sp_typed.specs.Plain.{here_of}
use Rattle.sp_typed.specs.Statements.{spans_typed}
use Rattle.sp_typed.proofs.span.spans_typed.Given as goal

abbrev pub invariant-loop-span : goal.invariant-loop-span
invariant-loop-span l = map plain_span l.typed_spans.items ++ spans_typed (here_of l.scope) (plain_spans (drop l.span-index l.spans))
    ≡ spans_typed (here_of l.scope) (plain_spans l.spans)
