-- Each is computed.
use Rattle.std.proofs.Common.{refl}
use Rattle.sp_words.specs.WholeNumbers.{modulo, floor_div}
use Rattle.sp_words.specs.Words.{value_of, has_sign, wrap, word_add, word_sub, word_mul, word_lt, word_eq, word_max, word_and}
use Rattle.sp_core.specs.Meaning.{meaning, run_core}
use Rattle.sp_core.specs.Operations.{operations_after}
use Rattle.sp_core.specs.Sequential.{run, run_stages}
use Rattle.sp_core.specs.Step.{pure, ◌>>=◌, stop, out_of_turns, look, change, in_order, repeated}
use Rattle.sp_tree.specs.ExampleLoops as tree_loops
use Rattle.sp_tree.specs.ExampleTransfers as tree_transfers
use Rattle.sp_sugar.specs.Core.{core_of}
use Rattle.sp_sugar.specs.ExamplePrograms as program
use Rattle.sp_sugar.specs.Operations.{code, code_of, codes}
use Rattle.sp_sugar.specs.Registers.{registers, inside}
use Rattle.sp_sugar.specs.Stages.{stages, node}
use Rattle.sp_sugar.proofs.examples.worked_meanings.Goals as goal

pub returns-clause-sum : goal.returns-clause-sum
unfolding core_of stages node registers inside code code_of codes meaning run_core run run_stages operations_after pure ◌>>=◌ stop out_of_turns look change in_order repeated value_of has_sign wrap modulo floor_div word_add word_sub word_mul word_lt word_eq word_max word_and program.sum tree_loops.sum_program
returns-clause-sum c = refl

pub returns-clause-dot_product : goal.returns-clause-dot_product
unfolding core_of stages node registers inside code code_of codes meaning run_core run run_stages operations_after pure ◌>>=◌ stop out_of_turns look change in_order repeated value_of has_sign wrap modulo floor_div word_add word_sub word_mul word_lt word_eq word_max word_and program.dot_product tree_transfers.dot_product
returns-clause-dot_product c = refl

pub returns-clause-histogram : goal.returns-clause-histogram
unfolding core_of stages node registers inside code code_of codes meaning run_core run run_stages operations_after pure ◌>>=◌ stop out_of_turns look change in_order repeated value_of has_sign wrap modulo floor_div word_add word_sub word_mul word_lt word_eq word_max word_and program.histogram tree_transfers.histogram
returns-clause-histogram c = refl

pub returns-clause-register_between : goal.returns-clause-register_between
unfolding core_of stages node registers inside code code_of codes meaning run_core run run_stages operations_after pure ◌>>=◌ stop out_of_turns look change in_order repeated value_of has_sign wrap modulo floor_div word_add word_sub word_mul word_lt word_eq word_max word_and program.register_between tree_loops.register_between
returns-clause-register_between c = refl

pub returns-clause-no_turn_of_an_fsm : goal.returns-clause-no_turn_of_an_fsm
unfolding core_of stages node registers inside code code_of codes meaning run_core run run_stages operations_after pure ◌>>=◌ stop out_of_turns look change in_order repeated value_of has_sign wrap modulo floor_div word_add word_sub word_mul word_lt word_eq word_max word_and program.counting_down tree_loops.counting_down
returns-clause-no_turn_of_an_fsm c = refl

pub returns-clause-five_turns_of_an_fsm : goal.returns-clause-five_turns_of_an_fsm
unfolding core_of stages node registers inside code code_of codes meaning run_core run run_stages operations_after pure ◌>>=◌ stop out_of_turns look change in_order repeated value_of has_sign wrap modulo floor_div word_add word_sub word_mul word_lt word_eq word_max word_and program.counting_down tree_loops.counting_down
returns-clause-five_turns_of_an_fsm c = refl

pub returns-clause-line_filter : goal.returns-clause-line_filter
unfolding core_of stages node registers inside code code_of codes meaning run_core run run_stages operations_after pure ◌>>=◌ stop out_of_turns look change in_order repeated value_of has_sign wrap modulo floor_div word_add word_sub word_mul word_lt word_eq word_max word_and program.line_filter tree_transfers.line_filter
returns-clause-line_filter c = refl

pub returns-clause-narrow_line_filter : goal.returns-clause-narrow_line_filter
unfolding core_of stages node registers inside code code_of codes meaning run_core run run_stages operations_after pure ◌>>=◌ stop out_of_turns look change in_order repeated value_of has_sign wrap modulo floor_div word_add word_sub word_mul word_lt word_eq word_max word_and program.line_filter tree_transfers.line_filter
returns-clause-narrow_line_filter c = refl

pub returns-clause-overlapping_stores : goal.returns-clause-overlapping_stores
unfolding core_of stages node registers inside code code_of codes meaning run_core run run_stages operations_after pure ◌>>=◌ stop out_of_turns look change in_order repeated value_of has_sign wrap modulo floor_div word_add word_sub word_mul word_lt word_eq word_max word_and program.overlapping_stores tree_transfers.overlapping_stores
returns-clause-overlapping_stores c = refl

pub returns-clause-four_of_four : goal.returns-clause-four_of_four
unfolding core_of stages node registers inside code code_of codes meaning run_core run run_stages operations_after pure ◌>>=◌ stop out_of_turns look change in_order repeated value_of has_sign wrap modulo floor_div word_add word_sub word_mul word_lt word_eq word_max word_and program.queued tree_loops.queued
returns-clause-four_of_four c = refl

pub returns-clause-five_of_four : goal.returns-clause-five_of_four
unfolding core_of stages node registers inside code code_of codes meaning run_core run run_stages operations_after pure ◌>>=◌ stop out_of_turns look change in_order repeated value_of has_sign wrap modulo floor_div word_add word_sub word_mul word_lt word_eq word_max word_and program.queued tree_loops.queued
returns-clause-five_of_four c = refl

pub returns-clause-memory_reduced : goal.returns-clause-memory_reduced
unfolding core_of stages node registers inside code code_of codes meaning run_core run run_stages operations_after pure ◌>>=◌ stop out_of_turns look change in_order repeated value_of has_sign wrap modulo floor_div word_add word_sub word_mul word_lt word_eq word_max word_and program.memory_reduced tree_loops.memory_reduced
returns-clause-memory_reduced c = refl

pub returns-clause-mixed_stages : goal.returns-clause-mixed_stages
unfolding core_of stages node registers inside code code_of codes meaning run_core run run_stages operations_after pure ◌>>=◌ stop out_of_turns look change in_order repeated value_of has_sign wrap modulo floor_div word_add word_sub word_mul word_lt word_eq word_max word_and program.mixed_stages tree_transfers.mixed_stages
returns-clause-mixed_stages c = refl

pub returns-clause-streamed : goal.returns-clause-streamed
unfolding core_of stages node registers inside code code_of codes meaning run_core run run_stages operations_after pure ◌>>=◌ stop out_of_turns look change in_order repeated value_of has_sign wrap modulo floor_div word_add word_sub word_mul word_lt word_eq word_max word_and program.streamed
returns-clause-streamed c = refl

pub returns-clause-streamed_twice : goal.returns-clause-streamed_twice
unfolding core_of stages node registers inside code code_of codes meaning run_core run run_stages operations_after pure ◌>>=◌ stop out_of_turns look change in_order repeated value_of has_sign wrap modulo floor_div word_add word_sub word_mul word_lt word_eq word_max word_and program.streamed_twice
returns-clause-streamed_twice c = refl

pub returns-clause-crossing : goal.returns-clause-crossing
unfolding core_of stages node registers inside code code_of codes meaning run_core run run_stages operations_after pure ◌>>=◌ stop out_of_turns look change in_order repeated value_of has_sign wrap modulo floor_div word_add word_sub word_mul word_lt word_eq word_max word_and program.crossing
returns-clause-crossing c = refl

pub returns-clause-early_slices : goal.returns-clause-early_slices
unfolding core_of stages node registers inside code code_of codes meaning run_core run run_stages operations_after pure ◌>>=◌ stop out_of_turns look change in_order repeated value_of has_sign wrap modulo floor_div word_add word_sub word_mul word_lt word_eq word_max word_and program.early_slices
returns-clause-early_slices c = refl

pub returns-clause-folded_matrix : goal.returns-clause-folded_matrix
unfolding core_of stages node registers inside code code_of codes meaning run_core run run_stages operations_after pure ◌>>=◌ stop out_of_turns look change in_order repeated value_of has_sign wrap modulo floor_div word_add word_sub word_mul word_lt word_eq word_max word_and program.folded_matrix
returns-clause-folded_matrix c = refl

pub returns-clause-declared_anew : goal.returns-clause-declared_anew
unfolding core_of stages node registers inside code code_of codes meaning run_core run run_stages operations_after pure ◌>>=◌ stop out_of_turns look change in_order repeated value_of has_sign wrap modulo floor_div word_add word_sub word_mul word_lt word_eq word_max word_and program.declared_anew
returns-clause-declared_anew c = refl

pub returns-clause-reducing_machine : goal.returns-clause-reducing_machine
unfolding core_of stages node registers inside code code_of codes meaning run_core run run_stages operations_after pure ◌>>=◌ stop out_of_turns look change in_order repeated value_of has_sign wrap modulo floor_div word_add word_sub word_mul word_lt word_eq word_max word_and program.reducing_machine
returns-clause-reducing_machine c = refl
