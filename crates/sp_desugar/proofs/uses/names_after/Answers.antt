use Rattle.std.proofs.Common.{◌≡◌, drop, [], ap, sym, ◌∙◌, arith}
use Rattle.std.proofs.lemmas.Grind.{common_steps}
use Rattle.sp_tree.specs.PlainTree.{plain_stmts}
use Rattle.sp_sugar.specs.Uses.{names_after}
use Rattle.sp_desugar.proofs.UseLemmas.{after_step}
use Rattle.sp_desugar.specs.Names.{among}
use Rattle.sp_desugar.proofs.uses.names_after.Goals as goal

pub loop-s-preserved : goal.loop-s-preserved
loop-s-preserved c =
    after_step (among c.loop-s.after.items) (among c.rename_in.new.names.items) c.args.body.now c.loop-s.s-index c.s-item.result c.loop-s-test.true c.s-item.is c.in_ok-rename_in.ensures
    ∙ c.loop-s.invariant

pub returns : goal.returns
returns c =
    let d : drop c.loop-s.s-index c.args.body.now ≡ [] = grind (arith, common_steps) in
    ap (λ xs. names_after (among c.loop-s.after.items) (plain_stmts xs)) (sym d) ∙ c.loop-s.invariant
