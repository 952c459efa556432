-- The core of a program.
use Rattle.std.specs.Prelude.{[], ◌++◌, length}
use Rattle.sp_words.specs.declared.kind.Style.TheVariants.{Pipe}
use Rattle.sp_tree.specs.PlainProgram.{PlainProgram}
use Rattle.sp_core.specs.PlainCore.{PlainCore}
use Rattle.sp_sugar.specs.Numbers.{written_mems}
use Rattle.sp_sugar.specs.Registers.{registers_in}
use Rattle.sp_sugar.specs.Runs.{no_run}
use Rattle.sp_sugar.specs.Stages.{nothing, body_node, stages}
use Rattle.sp_sugar.specs.Uses.{no_more}
use Rattle.sp_sugar.specs.Values.{no_sources}

-- its memories, then the registers that the compiler adds; its ports; and its block
unfoldable pub core_of : PlainProgram → PlainCore
core_of p = record {
  mems = written_mems p.mems ++ registers_in p.body no_more;
  ports = p.ports;
  root = body_node p.mems (length p.counters) no_sources (length (written_mems p.mems)) [] Pipe p.body no_more nothing (
      stages p.mems (length p.counters) (no_run no_sources) (length (written_mems p.mems)) p.body no_more nothing);
}
