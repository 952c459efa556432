use Rattle.std.proofs.Common.{◌≡◌, ◌++◌, ◌∷◌, [], length, map, ap, ◌∙◌}
use Rattle.sp_core.specs.Plain as core
use Rattle.sp_tree.specs.Plain.{plain_expr, plain_mem}
use Rattle.sp_sugar.specs.Operations.{Code, alone, read_op, write_op}
use Rattle.sp_sugar.specs.Runs.{Run, next_code}
use Rattle.sp_sugar.specs.Stages.{run_stage, combination_stage}
use Rattle.sp_desugar.specs.Crossings.{onto}
use Rattle.sp_operations.specs.Running.{run_of}
use Rattle.sp_desugar.specs.Tree.{plain_combines}
use Rattle.sp_desugar.proofs.last.push_with_word.Goals as goal

pub returns : goal.returns
returns c = λ counters.
    let M = map plain_mem c.args.mems.now in
    let ty = c.args.e.now.ty in
    let k = plain_combines c.args.combines in
    let before = core.plain_ops c.args.run.ops.items in
    let x : Code = next_code M (run_of c.args.run) (plain_expr c.args.e.now) in
    let ran : core.plain_ops c.add_op.new.run.ops.items ≡ before ++ x.ops ++ write_op ty c.args.n (x.word ∷ []) ∷ [] =
    ap (λ (r : Run). r.ops) c.in_ok-add_op.ensures
    ∙ ap (λ (r : Run). r.ops ++ core.plain_op c.write_op.result ∷ []) c.in_ok-word.ensures.run
    ∙ ap (λ op. before ++ x.ops ++ op ∷ []) (c.write_op.ensures ∙ ap (λ args. write_op ty c.args.n args) c.in_ok-vec.ensures.items ∙ ap (λ w. write_op ty c.args.n (w ∷ [])) c.in_ok-word.ensures.word) in
    let again : Code = alone 0 (read_op ty c.args.n []) in
    let ops : core.plain_ops c.push_op.new.ops.items ≡ again.ops =
    c.in_ok-again.ensures.ops
    ∙ ap (λ os. core.plain_ops os ++ core.plain_op c.read_op.result ∷ []) c.new-ops.ensures.items
    ∙ ap (λ op. op ∷ []) (c.read_op.ensures ∙ ap (λ indices. read_op ty c.args.n indices) c.new.ensures.items) in
    let word : c.in_ok-again.again ≡ again.word = c.in_ok-again.ensures.place ∙ ap (λ os. length (core.plain_ops os)) c.new-ops.ensures.items in
    let y : Code = record { ops = core.plain_ops c.push_op.new.ops.items; word = c.in_ok-again.again } in
    let same : y ≡ again = λ i. record { ops = ops i; word = word i } in
    c.in_ok-push_combination.ensures M counters
    ∙ ap (λ z. onto c.push_run.new.out.items (combination_stage M counters z k)) same
    ∙ c.in_ok-push_run.ensures (combination_stage M counters again k)
    ∙ ap (λ os. onto c.args.out.now.items (run_stage os (combination_stage M counters again k))) ran
