use Rattle.std.proofs.Common.{◌≡◌, ◌++◌, length, map, ap, ◌∙◌}
use Rattle.sp_core.specs.Plain as core
use Rattle.sp_tree.specs.Plain.{plain_expr, plain_mem}
use Rattle.sp_sugar.specs.Operations.{Code, code}
use Rattle.sp_sugar.specs.Stages.{combination_stage}
use Rattle.sp_desugar.specs.Crossings.{onto}
use Rattle.sp_operations.specs.Sources.{sources_of}
use Rattle.sp_desugar.specs.Tree.{plain_combines}
use Rattle.sp_desugar.proofs.last.push_apart.Goals as goal

pub returns : goal.returns
returns c = λ counters n.
    let M = map plain_mem c.args.mems.now in
    let e = plain_expr c.args.e.now in
    let k = plain_combines c.args.combines in
    let x : Code = code M (sources_of c.args.run.elsewhere.items) 0 e in
    let ops : core.plain_ops c.push_code.new.ops.items ≡ x.ops =
    c.in_ok-word.ensures.ops
    ∙ ap (λ before. core.plain_ops before ++ (code M (sources_of c.deref.result.now) (length (core.plain_ops before)) e).ops) c.new-ops.ensures.items
    ∙ ap (λ s. (code M (sources_of s) 0 e).ops) c.deref.ensures.value in
    let word : c.in_ok-word.word ≡ x.word =
    c.in_ok-word.ensures.word
    ∙ ap (λ before. (code M (sources_of c.deref.result.now) (length (core.plain_ops before)) e).word) c.new-ops.ensures.items
    ∙ ap (λ s. (code M (sources_of s) 0 e).word) c.deref.ensures.value in
    let y : Code = record { ops = core.plain_ops c.push_code.new.ops.items; word = c.in_ok-word.word } in
    let same : y ≡ x = λ i. record { ops = ops i; word = word i } in
    c.in_ok-push_combination.ensures M counters
    ∙ ap (λ z. onto c.push_run.new.out.items (combination_stage M counters z k)) same
    ∙ c.in_ok-push_run.ensures (combination_stage M counters x k)
