-- Each is computed.
use Rattle.std.proofs.Common.{refl}
use Rattle.sp_words.specs.WholeNumbers.{modulo, floor_div}
use Rattle.sp_words.specs.Words.{wrap}
use Rattle.sp_types.specs.Literal.{literal_word}
use Rattle.sp_types.specs.Types.{type_of}
use Rattle.sp_types.specs.Visible.{lookup}
use Rattle.sp_typed.specs.Named.{find, given}
use Rattle.sp_typed.specs.Worked as worked
use Rattle.sp_typed.proofs.examples.worked_numbers.Goals as goal

pub returns-clause-places : goal.returns-clause-places
unfolding find given lookup type_of literal_word wrap modulo floor_div worked.places
returns-clause-places c = refl

pub returns-clause-places_of_ports : goal.returns-clause-places_of_ports
unfolding find given lookup type_of literal_word wrap modulo floor_div worked.places
returns-clause-places_of_ports c = refl

pub returns-clause-one_name : goal.returns-clause-one_name
unfolding find given lookup type_of literal_word wrap modulo floor_div worked.one_name
returns-clause-one_name c = refl

pub returns-clause-four_values : goal.returns-clause-four_values
unfolding find given lookup type_of literal_word wrap modulo floor_div worked.four_values
returns-clause-four_values c = refl

pub returns-clause-names_of_values : goal.returns-clause-names_of_values
unfolding find given lookup type_of literal_word wrap modulo floor_div worked.four_values
returns-clause-names_of_values c = refl

pub returns-clause-least_sum : goal.returns-clause-least_sum
unfolding find given lookup type_of literal_word wrap modulo floor_div worked.least_sum
returns-clause-least_sum c = refl

pub returns-clause-start_of_a_register : goal.returns-clause-start_of_a_register
unfolding find given lookup type_of literal_word wrap modulo floor_div worked.least_sum
returns-clause-start_of_a_register c = refl
