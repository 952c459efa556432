use Rattle.std.proofs.Common.{None, refl}
use Rattle.sp_words.specs.declared.kind.BinOp.TheVariants.{Add}
use Rattle.sp_pipe.specs.declared.part.Act.TheVariants.{Given, Two, Write}
use Rattle.sp_pipe.specs.declared.part.PipeOp.{PipeOp}
use Rattle.sp_worked_parts.proofs.counted.operations.Goals as goal

pub returns : goal.returns
returns c =
    let given : PipeOp = record { act = Given c.args.value; ty = c.int.result; args = c.new-none.result; mask = None; time = 0 } in
    let sum : PipeOp = record { act = Two Add; ty = c.int-2.result; args = c.in_ok-twice.twice; mask = None; time = 0 } in
    let write : PipeOp = record { act = Write; ty = c.int-3.result; args = c.in_ok-both.both; mask = None; time = 1 } in
    record {
      given = given;
      sum = sum;
      write = write;
      are = c.in_ok-list.ensures.items;
      given_is = record { act_is = refl; ty_is = c.int.ensures; args_is = c.new-none.ensures.items; mask_is = refl; time_is = refl };
      sum_is = record { act_is = refl; ty_is = c.int-2.ensures; args_is = c.in_ok-twice.ensures.items; mask_is = refl; time_is = refl };
      write_is = record { act_is = refl; ty_is = c.int-3.ensures; args_is = c.in_ok-both.ensures.items; mask_is = refl; time_is = refl };
    }
