-- The program of the number 0.
use Rattle.std.specs.Prelude.{◌≡◌, [], ◌∷◌}
use Rattle.sp_gen.specs.declared.numbers.Combiner.TheVariants.{Greatest}
use Rattle.sp_gen.specs.Draws.{drawn, state_after, numbers_of, word_count}

pub record WorkedNumbers : Type 0 where
  pub draws : drawn 5 0 ≡ 167951807 ∷ (218396424 ∷ (1299921937 ∷ (861605236 ∷ (823830125 ∷ []))))
  pub numbers : numbers_of 0 ≡ record { tiles = 17; tile = 64; lanes = 2; offset = 4; combiner = Greatest }
  pub count : word_count (numbers_of 0) ≡ 1088
  pub first_words : drawn 3 (state_after 5 0) ≡ 1204436891 ∷ (169888184 ∷ (764459975 ∷ []))
