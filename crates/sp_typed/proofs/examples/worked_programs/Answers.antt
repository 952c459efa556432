-- Each is computed.
use Rattle.std.proofs.Common.{refl}
use Rattle.sp_words.specs.WholeNumbers.{modulo, floor_div}
use Rattle.sp_words.specs.Words.{wrap}
use Rattle.sp_types.specs.Literal.{literal_word}
use Rattle.sp_types.specs.Types.{type_of}
use Rattle.sp_types.specs.Visible.{lookup}
use Rattle.sp_typed.specs.Named.{find, given}
use Rattle.sp_tree.specs.ExampleLoops as loops
use Rattle.sp_tree.specs.ExampleStreams as streams
use Rattle.sp_tree.specs.ExampleTransfers as transfers
use Rattle.sp_typed.specs.Worked as worked
use Rattle.sp_typed.proofs.examples.worked_programs.Goals as goal

pub returns-clause-sum : goal.returns-clause-sum
unfolding find given lookup type_of literal_word wrap modulo floor_div worked.sum loops.sum_program
returns-clause-sum c = refl

pub returns-clause-counting_down : goal.returns-clause-counting_down
unfolding find given lookup type_of literal_word wrap modulo floor_div worked.counting_down loops.counting_down
returns-clause-counting_down c = refl

pub returns-clause-folded : goal.returns-clause-folded
unfolding find given lookup type_of literal_word wrap modulo floor_div worked.folded loops.folded
returns-clause-folded c = refl

pub returns-clause-register_between : goal.returns-clause-register_between
unfolding find given lookup type_of literal_word wrap modulo floor_div worked.register_between loops.register_between
returns-clause-register_between c = refl

pub returns-clause-queued : goal.returns-clause-queued
unfolding find given lookup type_of literal_word wrap modulo floor_div worked.queued loops.queued
returns-clause-queued c = refl

pub returns-clause-memory_reduced : goal.returns-clause-memory_reduced
unfolding find given lookup type_of literal_word wrap modulo floor_div worked.memory_reduced loops.memory_reduced
returns-clause-memory_reduced c = refl

pub returns-clause-dot_product : goal.returns-clause-dot_product
unfolding find given lookup type_of literal_word wrap modulo floor_div worked.dot_product transfers.dot_product
returns-clause-dot_product c = refl

pub returns-clause-histogram : goal.returns-clause-histogram
unfolding find given lookup type_of literal_word wrap modulo floor_div worked.histogram transfers.histogram
returns-clause-histogram c = refl

pub returns-clause-line_filter : goal.returns-clause-line_filter
unfolding find given lookup type_of literal_word wrap modulo floor_div worked.line_filter transfers.line_filter
returns-clause-line_filter c = refl

pub returns-clause-scattered : goal.returns-clause-scattered
unfolding find given lookup type_of literal_word wrap modulo floor_div worked.scattered streams.scattered
returns-clause-scattered c = refl

pub returns-clause-streamed : goal.returns-clause-streamed
unfolding find given lookup type_of literal_word wrap modulo floor_div worked.streamed streams.streamed
returns-clause-streamed c = refl

pub returns-clause-widely_copied : goal.returns-clause-widely_copied
unfolding find given lookup type_of literal_word wrap modulo floor_div worked.widely_copied streams.widely_copied
returns-clause-widely_copied c = refl
