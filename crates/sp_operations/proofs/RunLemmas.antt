-- What a statement adds, whether it stands in an inner body or not.
use Rattle.std.proofs.Common.{◌≡◌, ℕ, Bool, true, false, List, [], ◌∷◌, Option, refl}
use Rattle.sp_tree.specs.Expressions.{mem}
use Rattle.sp_tree.specs.PlainExpression.{PlainExpr, PlainExprs}
use Rattle.sp_tree.specs.PlainProgram.{PlainMem}
use Rattle.sp_tree.specs.declared.statement.Ctl.{Ctl, Block', Foreach', Reduce', MemReduce', Fsm', Branch'}
use Rattle.sp_tree.specs.PlainTree.{plain_ctl}
use Rattle.sp_tree.specs.PlainStatement.{name, set_reg, set_out, set_sram, enq}
use Rattle.sp_core.specs.declared.operation.OpKind.TheVariants.{Enq}
use Rattle.sp_sugar.specs.Numbers.{mem_number}
use Rattle.sp_sugar.specs.Operations.{accesses, write_op}
use Rattle.sp_sugar.specs.Runs.{Run, with_named, with_word, with_stmt}

pub name_adds : (mems : List PlainMem) (is : Bool) (register : Option ℕ) (run : Run) (v : ℕ) (e : PlainExpr) → with_stmt mems is register run (name v e) ≡ with_named mems run v e register
name_adds mems true register run v e = refl
name_adds mems false register run v e = refl

pub set_reg_adds : (mems : List PlainMem) (is : Bool) (register : Option ℕ) (run : Run) (m : ℕ) (e : PlainExpr)
    → with_stmt mems is register run (set_reg m e) ≡ with_word mems run e (λ w. write_op (mem mems m).ty (mem_number mems m) (w ∷ []))
set_reg_adds mems true register run m e = refl
set_reg_adds mems false register run m e = refl

pub set_out_adds : (mems : List PlainMem) (is : Bool) (register : Option ℕ) (run : Run) (m : ℕ) (e : PlainExpr)
    → with_stmt mems is register run (set_out m e) ≡ with_word mems run e (λ w. write_op (mem mems m).ty (mem_number mems m) (w ∷ []))
set_out_adds mems true register run m e = refl
set_out_adds mems false register run m e = refl

pub set_sram_adds : (mems : List PlainMem) (is : Bool) (register other : Option ℕ) (run : Run) (m : ℕ) (indices : PlainExprs) (e : PlainExpr)
    → with_stmt mems is register run (set_sram m indices e) ≡ with_stmt mems false other run (set_sram m indices e)
set_sram_adds mems true register other run m indices e = refl
set_sram_adds mems false register other run m indices e = refl

pub enq_adds : (mems : List PlainMem) (is : Bool) (register : Option ℕ) (run : Run) (m : ℕ) (e : PlainExpr)
    → with_stmt mems is register run (enq m e) ≡ with_word mems run e (λ w. accesses Enq (mem mems m).ty (mem_number mems m) (w ∷ []))
enq_adds mems true register run m e = refl
enq_adds mems false register run m e = refl

-- a controller adds nothing
pub control_adds : (mems : List PlainMem) (is : Bool) (register : Option ℕ) (run : Run) (ctl : Ctl) → with_stmt mems is register run (plain_ctl ctl) ≡ run
control_adds mems true register run (Block' style shape body) = refl
control_adds mems true register run (Foreach' style counters shape body) = refl
control_adds mems true register run (Reduce' style fold acc counters shape body word comb) = refl
control_adds mems true register run (MemReduce' style acc counters shape body part comb) = refl
control_adds mems true register run (Fsm' start tested test state shape body last next) = refl
control_adds mems true register run (Branch' test shape first shape2 second) = refl
control_adds mems false register run (Block' style shape body) = refl
control_adds mems false register run (Foreach' style counters shape body) = refl
control_adds mems false register run (Reduce' style fold acc counters shape body word comb) = refl
control_adds mems false register run (MemReduce' style acc counters shape body part comb) = refl
control_adds mems false register run (Fsm' start tested test state shape body last next) = refl
control_adds mems false register run (Branch' test shape first shape2 second) = refl
