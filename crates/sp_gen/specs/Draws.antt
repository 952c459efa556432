-- What is drawn for the program of a number. The state is the number at first.
use Rattle.std.specs.Prelude.{ℕ, zero, suc, ◌+◌, ◌*◌, ◌/◌, ◌%◌, ◌^◌, ◌==◌, List, [], ◌∷◌, if◌then◌else◌}
use Rattle.sp_gen.specs.declared.numbers.Combiner.{Combiner}
use Rattle.sp_gen.specs.declared.numbers.Combiner.TheVariants.{Sum, Either, Greatest}
use Rattle.sp_gen.specs.declared.numbers.Numbers.{Numbers}

-- a draw moves the state: a step of a linear congruential generator, with the factor and the summand of Knuth's MMIX
unfoldable pub moved : (state : ℕ) → ℕ
moved state = (state * 6364136223846793005 + 1442695040888963407) % 2 ^ 64

-- and gives the moved state's upper 31 bits
unfoldable pub draw : (state : ℕ) → ℕ
draw state = moved state / 2 ^ 33

-- the state after so many draws
unfoldable pub state_after : (draws : ℕ) → (state : ℕ) → ℕ
state_after zero state = state
state_after (suc draws) state = state_after draws (moved state)

-- what so many draws give, in order
unfoldable pub drawn : (draws : ℕ) → (state : ℕ) → List ℕ
drawn zero state = []
drawn (suc draws) state = draw state ∷ drawn draws (moved state)

unfoldable pub combiner_of : ℕ → Combiner
combiner_of third = if third == 0 then Sum else (if third == 1 then Either else Greatest)

-- the numbers of a program, by five draws
unfoldable pub numbers_of : (state : ℕ) → Numbers
numbers_of state = record {
  tiles = 16 + draw state % 17;
  tile = 64 * (1 + draw (state_after 1 state) % 4);
  lanes = 2 ^ (draw (state_after 2 state) % 4);
  offset = draw (state_after 3 state) % 8;
  combiner = combiner_of (draw (state_after 4 state) % 3);
}

-- the words of each of its DRAMs
abbrev pub word_count : Numbers → ℕ
word_count numbers = numbers.tiles * numbers.tile
