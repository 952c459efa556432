-- What a loop combines, without where it lies in memory; and the last stages of a body whose loop combines no elements.
use Rattle.std.specs.Prelude.{ℕ, List, [], ◌∷◌, ◌++◌}
use Rattle.sp_tree.specs.Plain.{plain_expr}
use Rattle.sp_tree.specs.PlainExpression.{type_of}
use Rattle.sp_tree.specs.PlainProgram.{PlainMem}
use Rattle.sp_tree.specs.PlainStatement.{PlainStmts}
use Rattle.sp_words.specs.declared.kind.Style.TheVariants.{Pipe}
use Rattle.sp_core.specs.PlainCore.{PlainNode, PlainStages, no_stage}
use Rattle.sp_sugar.specs.Operations.{Code, alone, code, read_op, write_op}
use Rattle.sp_sugar.specs.Runs.{Run, no_run, next_code}
use Rattle.sp_sugar.specs.Stages as plain
use Rattle.sp_sugar.specs.Uses.{Ending, no_more, in_last_run, in_combination}
use Rattle.sp_sugar.specs.Values.{Sources}
use Rattle.sp_desugar.specs.declared.combines.Combines.{Combines}
use Rattle.sp_desugar.specs.declared.combines.Combines.TheVariants.{Nothing, Folds, Reduces, ReducesElements}

abbrev pub plain_combines : Combines → plain.Combines
plain_combines Nothing = plain.nothing
plain_combines (Folds acc comb e) = plain.folds acc comb (plain_expr e.now)
plain_combines (Reduces acc begun comb e) = plain.reduces acc begun comb (plain_expr e.now)
plain_combines (ReducesElements part acc begun comb) = plain.reduces_elements part acc begun comb

module _ (mems : List PlainMem) (counters : ℕ) where
  abbrev pub end_stages : Run → (n : ℕ) → Ending → plain.Combines → PlainStages
  end_stages run n no_more c = plain.run_stage run.ops no_stage
  end_stages run n (in_combination e) c = plain.run_stage run.ops (plain.combination_stage mems counters (code mems run.values.elsewhere 0 e) c)
  end_stages run n (in_last_run e) c =
      let x : Code = next_code mems run e in
      plain.run_stage (run.ops ++ x.ops ++ write_op (type_of e) n (x.word ∷ []) ∷ []) (plain.combination_stage mems counters (alone 0 (read_op (type_of e) n [])) c)

  -- a body that is no loop, by its stages
  abbrev pub alone_node : Sources → (n : ℕ) → PlainStmts → PlainNode
  alone_node sources n body =
      plain.body_node mems counters sources n [] Pipe body no_more plain.nothing (plain.stages mems counters (no_run sources) n body no_more plain.nothing)
