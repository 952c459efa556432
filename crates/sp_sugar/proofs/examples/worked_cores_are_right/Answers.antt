-- Each is computed.
use Rattle.std.proofs.Common.{refl}
use Rattle.sp_tree.specs.ExampleLoops as tree_loops
use Rattle.sp_tree.specs.ExampleStreams as tree_streams
use Rattle.sp_tree.specs.ExampleTransfers as tree_transfers
use Rattle.sp_sugar.specs.Core.{core_of}
use Rattle.sp_sugar.specs.ExamplePrograms as program
use Rattle.sp_sugar.specs.Operations.{code, code_of, codes}
use Rattle.sp_sugar.specs.Registers.{registers, inside}
use Rattle.sp_sugar.specs.Stages.{stages, node}
use Rattle.sp_sugar.proofs.examples.worked_cores_are_right.Goals as goal

pub returns-clause-sum : goal.returns-clause-sum
unfolding core_of stages node registers inside code code_of codes program.sum tree_loops.sum_program
returns-clause-sum c = refl

pub returns-clause-dot_product : goal.returns-clause-dot_product
unfolding core_of stages node registers inside code code_of codes program.dot_product tree_transfers.dot_product
returns-clause-dot_product c = refl

pub returns-clause-counting_down : goal.returns-clause-counting_down
unfolding core_of stages node registers inside code code_of codes program.counting_down tree_loops.counting_down
returns-clause-counting_down c = refl

pub returns-clause-line_filter : goal.returns-clause-line_filter
unfolding core_of stages node registers inside code code_of codes program.line_filter tree_transfers.line_filter
returns-clause-line_filter c = refl

pub returns-clause-mixed_stages : goal.returns-clause-mixed_stages
unfolding core_of stages node registers inside code code_of codes program.mixed_stages tree_transfers.mixed_stages
returns-clause-mixed_stages c = refl

pub returns-clause-widely_copied : goal.returns-clause-widely_copied
unfolding core_of stages node registers inside code code_of codes program.widely_copied tree_streams.widely_copied
returns-clause-widely_copied c = refl

pub returns-clause-streamed : goal.returns-clause-streamed
unfolding core_of stages node registers inside code code_of codes program.streamed
returns-clause-streamed c = refl

pub returns-clause-crossing : goal.returns-clause-crossing
unfolding core_of stages node registers inside code code_of codes program.crossing
returns-clause-crossing c = refl

pub returns-clause-early_slices : goal.returns-clause-early_slices
unfolding core_of stages node registers inside code code_of codes program.early_slices
returns-clause-early_slices c = refl

pub returns-clause-folded_matrix : goal.returns-clause-folded_matrix
unfolding core_of stages node registers inside code code_of codes program.folded_matrix
returns-clause-folded_matrix c = refl

pub returns-clause-declared_anew : goal.returns-clause-declared_anew
unfolding core_of stages node registers inside code code_of codes program.declared_anew
returns-clause-declared_anew c = refl

pub returns-clause-reducing_machine : goal.returns-clause-reducing_machine
unfolding core_of stages node registers inside code code_of codes program.reducing_machine
returns-clause-reducing_machine c = refl
