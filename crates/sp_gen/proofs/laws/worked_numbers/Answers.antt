use Rattle.std.proofs.Common.{refl}
use Rattle.sp_gen.specs.Draws.{moved, draw, state_after, drawn, combiner_of, numbers_of}
use Rattle.sp_gen.proofs.laws.worked_numbers.Goals as goal

pub returns : goal.returns
unfolding moved draw state_after drawn combiner_of numbers_of
returns c = record { draws = refl; numbers = refl; count = refl; first_words = refl }
