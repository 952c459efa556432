-- Memories of words of one width.
use Rattle.std.specs.Prelude.{ℕ, List, [], slice_index, slice_index_or, slice_set}

-- how many bits a word has, and the words
pub record Words : Type 0 where
  pub width : ℕ
  pub words : List ℕ

abbrev pub no_words : Words
no_words = record { width = 0; words = [] }

-- the memory of that number, a word of it, and how many bits its words have; past the end there is none
unfoldable pub memory_at : List Words → ℕ → Words
memory_at memories number = slice_index_or memories number no_words

unfoldable pub word_at : List Words → ℕ → ℕ → ℕ
word_at memories number addr = slice_index (slice_index_or memories number no_words).words addr

unfoldable pub width_at : List Words → ℕ → ℕ
width_at memories number = (slice_index_or memories number no_words).width

-- the memories with another word at a place, if there is that place
unfoldable pub written : List Words → ℕ → ℕ → ℕ → List Words
written memories number addr word =
    let m = slice_index_or memories number no_words in
    slice_set memories number (record { width = m.width; words = slice_set m.words addr word })
