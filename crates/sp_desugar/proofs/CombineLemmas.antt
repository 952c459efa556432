-- A loop over operations that ends with a combination; and that a controller declares nothing itself.
use Rattle.std.proofs.Common.{◌≡◌, ◌+◌, ℕ, List, ◌++◌, length, length-append, Some, refl, ap, ◌∙◌}
use Rattle.sp_tree.specs.declared.statement.Ctl.{Ctl, Block', Foreach', Reduce', MemReduce', Fsm', Branch'}
use Rattle.sp_tree.specs.PlainProgram.{PlainMem}
use Rattle.sp_tree.specs.PlainStatement.{PlainStmts, stmt, more_stmt}
use Rattle.sp_tree.specs.PlainTree.{plain_ctl}
use Rattle.sp_tree.specs.Structure.{own_mems}
use Rattle.sp_core.specs.PlainCore.{PlainOp, PlainCounter, inner}
use Rattle.sp_sugar.specs.Operations.{Code}
use Rattle.sp_sugar.specs.Stages.{Combines, combining, combination}

pub combination_is : (mems : List PlainMem) (counters : ℕ) (before two three : List PlainOp) (x : Code) (w place : ℕ) (c : Combines) (loops : List PlainCounter) (owned : List ℕ)
    → two ≡ before ++ x.ops → w ≡ x.word → place ≡ length two → three ≡ two ++ combining mems counters (length two) w c
    → inner loops owned three (Some place) ≡ combination mems counters before x c loops owned
combination_is mems counters before two three x w place c loops owned e f g h =
    let n : length two ≡ length before + length x.ops = ap length e ∙ length-append before x.ops in
    ap (λ ops. inner loops owned ops (Some place)) (h ∙ ap (λ k. two ++ combining mems counters k w c) n ∙ ap (λ v. two ++ combining mems counters (length before + length x.ops) v c) f ∙ ap (λ ops. ops ++ combining mems counters (length before + length x.ops) x.word c) e)
    ∙ ap (λ k. inner loops owned ((before ++ x.ops) ++ combining mems counters (length before + length x.ops) x.word c) (Some k)) (g ∙ n)

pub control_owns_none : (ctl : Ctl) (place : ℕ) (rest : PlainStmts) → own_mems (more_stmt (stmt place (plain_ctl ctl)) rest) ≡ own_mems rest
control_owns_none (Block' style shape body) place rest = refl
control_owns_none (Foreach' style counters shape body) place rest = refl
control_owns_none (Reduce' style fold acc counters shape body word comb) place rest = refl
control_owns_none (MemReduce' style acc counters shape body part comb) place rest = refl
control_owns_none (Fsm' start tested test state shape body last next) place rest = refl
control_owns_none (Branch' test shape first shape2 second) place rest = refl
