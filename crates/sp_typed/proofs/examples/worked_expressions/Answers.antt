-- Each is computed.
use Rattle.std.proofs.Common.{refl}
use Rattle.sp_words.specs.WholeNumbers.{modulo, floor_div}
use Rattle.sp_words.specs.Words.{wrap}
use Rattle.sp_types.specs.Literal.{literal_word}
use Rattle.sp_types.specs.Types.{type_of}
use Rattle.sp_types.specs.Visible.{lookup}
use Rattle.sp_typed.specs.Named.{find, given}
use Rattle.sp_typed.proofs.examples.worked_expressions.Goals as goal

pub returns-clause-down_to_a_quarter : goal.returns-clause-down_to_a_quarter
unfolding find given lookup type_of literal_word wrap modulo floor_div
returns-clause-down_to_a_quarter c = refl

pub returns-clause-literal_that_is_cast : goal.returns-clause-literal_that_is_cast
unfolding find given lookup type_of literal_word wrap modulo floor_div
returns-clause-literal_that_is_cast c = refl

pub returns-clause-cast_of_a_sum : goal.returns-clause-cast_of_a_sum
unfolding find given lookup type_of literal_word wrap modulo floor_div
returns-clause-cast_of_a_sum c = refl

pub returns-clause-literal_before_what_it_is_compared_with : goal.returns-clause-literal_before_what_it_is_compared_with
unfolding find given lookup type_of literal_word wrap modulo floor_div
returns-clause-literal_before_what_it_is_compared_with c = refl

pub returns-clause-compared_literals : goal.returns-clause-compared_literals
unfolding find given lookup type_of literal_word wrap modulo floor_div
returns-clause-compared_literals c = refl

pub returns-clause-choice : goal.returns-clause-choice
unfolding find given lookup type_of literal_word wrap modulo floor_div
returns-clause-choice c = refl

pub returns-clause-least : goal.returns-clause-least
unfolding find given lookup type_of literal_word wrap modulo floor_div
returns-clause-least c = refl
