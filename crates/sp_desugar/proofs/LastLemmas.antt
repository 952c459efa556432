-- The last stages of a body whose loop combines no elements.
use Rattle.std.proofs.Common.{◌≡◌, ℕ, List, refl}
use Rattle.sp_tree.specs.declared.statement.Comb.{Comb}
use Rattle.sp_tree.specs.PlainExpression.{PlainExpr}
use Rattle.sp_tree.specs.PlainProgram.{PlainMem}
use Rattle.sp_sugar.specs.Runs.{Run}
use Rattle.sp_sugar.specs.Stages.{nothing, folds, reduces, last_stages}
use Rattle.sp_sugar.specs.Uses.{Ending, no_more, in_last_run, in_combination}
use Rattle.sp_desugar.specs.Tree.{end_stages}

pub last_nothing : (mems : List PlainMem) (counters : ℕ) (run : Run) (n : ℕ) (ending : Ending) → last_stages mems counters run n ending nothing ≡ end_stages mems counters run n ending nothing
last_nothing mems counters run n no_more = refl
last_nothing mems counters run n (in_last_run e) = refl
last_nothing mems counters run n (in_combination e) = refl

pub last_folds : (mems : List PlainMem) (counters : ℕ) (run : Run) (n : ℕ) (ending : Ending) (acc : ℕ) (comb : Comb) (w : PlainExpr)
    → last_stages mems counters run n ending (folds acc comb w) ≡ end_stages mems counters run n ending (folds acc comb w)
last_folds mems counters run n no_more acc comb w = refl
last_folds mems counters run n (in_last_run e) acc comb w = refl
last_folds mems counters run n (in_combination e) acc comb w = refl

pub last_reduces : (mems : List PlainMem) (counters : ℕ) (run : Run) (n : ℕ) (ending : Ending) (acc begun : ℕ) (comb : Comb) (w : PlainExpr)
    → last_stages mems counters run n ending (reduces acc begun comb w) ≡ end_stages mems counters run n ending (reduces acc begun comb w)
last_reduces mems counters run n no_more acc begun comb w = refl
last_reduces mems counters run n (in_last_run e) acc begun comb w = refl
last_reduces mems counters run n (in_combination e) acc begun comb w = refl
