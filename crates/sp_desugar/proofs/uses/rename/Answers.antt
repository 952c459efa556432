use Rattle.std.proofs.Common.{◌≡◌, ◌++◌, ◌∷◌, [], true, sym, ap, ◌∙◌, arith}
use Rattle.std.proofs.lemmas.Grind.{common_steps}
use Rattle.sp_tree.specs.Plain.{plain_expr, plain_kind}
use Rattle.sp_tree.specs.PlainExpression.{expr, value}
use Rattle.sp_tree.specs.PlainStatement.{name}
use Rattle.sp_sugar.specs.Uses.{renamed}
use Rattle.sp_desugar.proofs.UseLemmas.{renamed_yes}
use Rattle.sp_desugar.specs.Names.{among}
use Rattle.sp_desugar.proofs.uses.rename.Goals as goal

pub returns-in_ok-push : goal.returns-in_ok-push
returns-in_ok-push c =
    let e : plain_expr c.args.e.now ≡ expr c.args.e.now.at c.args.e.now.ty (value c.in-Val.v) = ap (λ k. expr c.args.e.now.at c.args.e.now.ty (plain_kind k)) c.in-Val.is in
    let h : among c.args.names.now.items c.in-Val.v ≡ true = grind (arith, common_steps) in
    let p : c.push.new.self.items ≡ c.args.names.now.items ++ c.args.value ∷ [] = c.in_ok-push.ensures.items in
    ap among p ∙ renamed_yes c.args.names.now.items c.args.value c.args.e.now.at c.in-Val.v c.args.e.now.ty h
    ∙ ap (λ x. renamed (among c.args.names.now.items) (name c.args.value x)) (sym e)
