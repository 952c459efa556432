-- The word of a counter in a lane, as a statement.
use Rattle.std.specs.Prelude.{◌≡◌, ℕ, ◌%◌, ◌^◌, ℤ, pos, ◌+ℤ◌}
use Rattle.sp_words.specs.Types.{int_type}
use Rattle.sp_words.specs.Words.{word_add, wrap}

-- so much more than the word of a value is the word of so much more than the value
abbrev pub LanesHaveWords : Type 0
LanesHaveWords = (value : ℤ) (more : ℕ) → word_add int_type (wrap int_type value) (more % 2 ^ 32) ≡ wrap int_type (value +ℤ pos more)
