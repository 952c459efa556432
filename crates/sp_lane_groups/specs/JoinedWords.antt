-- The words that lanes combine.
use Rattle.std.specs.Prelude.{◌<◌, ℕ, List, [], ◌∷◌, length, map}
use Rattle.sp_words.specs.declared.types.Ty.{Ty}
use Rattle.sp_words.specs.Words.{IsWord}
use Rattle.sp_core.specs.History.{Entry, word_at}

-- a word, and others after it, combined from the left
abbrev pub in_turn : (ℕ → ℕ → ℕ) → ℕ → List ℕ → ℕ
in_turn op v [] = v
in_turn op v (u ∷ more) = in_turn op (op v u) more

-- the words at a place of iterations
abbrev pub words_of : (word : ℕ) → List (List Entry) → List ℕ
words_of word groups = map (λ g. word_at g word) groups

-- each iteration has a word of a type there
abbrev pub EachHasWord : Ty → (word : ℕ) → List (List Entry) → Type 0
EachHasWord ty word [] = Unit {0}
EachHasWord ty word (g ∷ groups) = (word < length g) × IsWord ty (word_at g word) × EachHasWord ty word groups
