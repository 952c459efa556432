-- The input of the program of a number.
use Rattle.std.specs.Prelude.{ℕ, List, [], ◌∷◌, replicate}
use Rattle.sp_words.specs.Ports.{PlainInput}
use Rattle.sp_gen.specs.Draws.{state_after, drawn, numbers_of, word_count}

-- the first DRAM has the words that are drawn after the numbers of the program
abbrev pub words_of : (number : ℕ) → List ℕ
words_of number = drawn (word_count (numbers_of number)) (state_after 5 number)

-- and the second has zeros
abbrev pub input_of : (number : ℕ) → PlainInput
input_of number = record { args = []; drams = words_of number ∷ (replicate (word_count (numbers_of number)) 0 ∷ []) }
