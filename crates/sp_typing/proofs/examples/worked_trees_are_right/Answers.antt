-- Each is computed.
use Rattle.std.proofs.Common.{refl}
use Rattle.sp_words.specs.WholeNumbers.{modulo, floor_div}
use Rattle.sp_words.specs.Words.{wrap}
use Rattle.sp_types.specs.Literal.{literal_word}
use Rattle.sp_types.specs.Types.{type_of}
use Rattle.sp_types.specs.Visible.{lookup, declare, is_busy}
use Rattle.sp_typed.specs.Worked as worked
use Rattle.sp_typing.proofs.examples.worked_trees_are_right.Goals as goal

pub returns-clause-sum : goal.returns-clause-sum
unfolding lookup declare is_busy type_of literal_word wrap modulo floor_div worked.sum
returns-clause-sum c = refl

pub returns-clause-places : goal.returns-clause-places
unfolding lookup declare is_busy type_of literal_word wrap modulo floor_div worked.places
returns-clause-places c = refl

pub returns-clause-counting_down : goal.returns-clause-counting_down
unfolding lookup declare is_busy type_of literal_word wrap modulo floor_div worked.counting_down
returns-clause-counting_down c = refl

pub returns-clause-folded : goal.returns-clause-folded
unfolding lookup declare is_busy type_of literal_word wrap modulo floor_div worked.folded
returns-clause-folded c = refl

pub returns-clause-register_between : goal.returns-clause-register_between
unfolding lookup declare is_busy type_of literal_word wrap modulo floor_div worked.register_between
returns-clause-register_between c = refl

pub returns-clause-queued : goal.returns-clause-queued
unfolding lookup declare is_busy type_of literal_word wrap modulo floor_div worked.queued
returns-clause-queued c = refl

pub returns-clause-memory_reduced : goal.returns-clause-memory_reduced
unfolding lookup declare is_busy type_of literal_word wrap modulo floor_div worked.memory_reduced
returns-clause-memory_reduced c = refl

pub returns-clause-dot_product : goal.returns-clause-dot_product
unfolding lookup declare is_busy type_of literal_word wrap modulo floor_div worked.dot_product
returns-clause-dot_product c = refl

pub returns-clause-histogram : goal.returns-clause-histogram
unfolding lookup declare is_busy type_of literal_word wrap modulo floor_div worked.histogram
returns-clause-histogram c = refl

pub returns-clause-line_filter : goal.returns-clause-line_filter
unfolding lookup declare is_busy type_of literal_word wrap modulo floor_div worked.line_filter
returns-clause-line_filter c = refl

pub returns-clause-scattered : goal.returns-clause-scattered
unfolding lookup declare is_busy type_of literal_word wrap modulo floor_div worked.scattered
returns-clause-scattered c = refl

pub returns-clause-streamed : goal.returns-clause-streamed
unfolding lookup declare is_busy type_of literal_word wrap modulo floor_div worked.streamed
returns-clause-streamed c = refl

pub returns-clause-widely_copied : goal.returns-clause-widely_copied
unfolding lookup declare is_busy type_of literal_word wrap modulo floor_div worked.widely_copied
returns-clause-widely_copied c = refl

pub returns-clause-one_name : goal.returns-clause-one_name
unfolding lookup declare is_busy type_of literal_word wrap modulo floor_div worked.one_name
returns-clause-one_name c = refl

pub returns-clause-four_values : goal.returns-clause-four_values
unfolding lookup declare is_busy type_of literal_word wrap modulo floor_div worked.four_values
returns-clause-four_values c = refl

pub returns-clause-least_sum : goal.returns-clause-least_sum
unfolding lookup declare is_busy type_of literal_word wrap modulo floor_div worked.least_sum
returns-clause-least_sum c = refl
