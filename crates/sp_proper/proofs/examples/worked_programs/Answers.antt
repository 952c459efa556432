-- Each is computed.
use Rattle.std.proofs.Common.{refl}
use Rattle.sp_sugar.specs.Core.{core_of}
use Rattle.sp_sugar.specs.ExamplePrograms as program
use Rattle.sp_sugar.specs.Operations.{code, code_of, codes}
use Rattle.sp_sugar.specs.Registers.{registers, inside}
use Rattle.sp_sugar.specs.Stages.{stages, node}
use Rattle.sp_proper.proofs.examples.worked_programs.Goals as goal

pub returns-clause-streamed : goal.returns-clause-streamed
unfolding core_of stages node registers inside code code_of codes program.streamed
returns-clause-streamed c = refl

pub returns-clause-streamed_is_proper : goal.returns-clause-streamed_is_proper
unfolding core_of stages node registers inside code code_of codes program.streamed
returns-clause-streamed_is_proper c = refl

pub returns-clause-root : goal.returns-clause-root
unfolding core_of stages node registers inside code code_of codes program.streamed
returns-clause-root c = refl

pub returns-clause-joined_twice : goal.returns-clause-joined_twice
unfolding core_of stages node registers inside code code_of codes program.streamed_twice
returns-clause-joined_twice c = refl

pub returns-clause-joined_twice_is_not : goal.returns-clause-joined_twice_is_not
unfolding core_of stages node registers inside code code_of codes program.streamed_twice
returns-clause-joined_twice_is_not c = refl
