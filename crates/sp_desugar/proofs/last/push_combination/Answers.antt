use Rattle.std.proofs.Common.{[], length, map, true, Some, refl, ap, ◌∙◌}
use Rattle.sp_core.specs.Plain as core
use Rattle.sp_core.specs.PlainCore.{inner, no_stage, more_stage}
use Rattle.sp_sugar.specs.Operations.{Code}
use Rattle.sp_desugar.proofs.CombineLemmas.{combination_is}
use Rattle.sp_desugar.specs.Crossings.{onto}
use Rattle.sp_desugar.specs.Tree.{plain_combines}
use Rattle.sp_desugar.proofs.last.push_combination.Goals as goal

pub returns : goal.returns
returns c = λ mems counters.
    let x : Code = record { ops = core.plain_ops c.args.ops.items; word = c.args.word } in
    let ops = core.plain_ops c.push_combining.new.ops.items in
    let e = combination_is mems counters [] (core.plain_ops c.args.ops.items) ops x c.args.word c.in_ok-comb.comb (plain_combines c.args.combines) [] [] refl refl
    (c.in_ok-comb.ensures ∙ ap (λ os. length (core.plain_ops os)) c.deref.ensures.value) (c.in_ok-push_combining.ensures mems counters) in
    c.in_ok-push_stage.ensures no_stage
    ∙ ap (λ cs. onto c.args.out.now.items (more_stage 0 0 true (inner (map core.plain_counter cs) c.new-2.result.items ops (Some c.in_ok-comb.comb)) no_stage)) c.new.ensures.items
    ∙ ap (λ owned. onto c.args.out.now.items (more_stage 0 0 true (inner [] owned ops (Some c.in_ok-comb.comb)) no_stage)) c.new-2.ensures.items
    ∙ ap (λ n. onto c.args.out.now.items (more_stage 0 0 true n no_stage)) e
