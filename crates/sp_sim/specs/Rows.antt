-- Rows of words: some nets, each with its word.
use Rattle.std.specs.Prelude.{◌≡◌, ◌≢◌, ℕ, ◌<◌, ◌≤◌, List, [], ◌∷◌, ◌==◌, if◌then◌else◌, length, map, slice_index}

-- the word of a net, and 0 where it has none
unfoldable pub word_of : List (ℕ × ℕ) → ℕ → ℕ
word_of [] net = 0
word_of (p ∷ ps) net = if p.0 == net then p.1 else word_of ps net

-- the row with another word of a net, if it stands there
unfoldable pub with_word : List (ℕ × ℕ) → ℕ → ℕ → List (ℕ × ℕ)
with_word [] net word = []
with_word (p ∷ ps) net word = if p.0 == net then (net, word) ∷ ps else p ∷ with_word ps net word

-- the nets in order
abbrev pub nets_of : List (ℕ × ℕ) → List ℕ
nets_of = map (λ p. p.0)

-- each net is its own place
abbrev pub IsDense : List ℕ → Type 0
IsDense nets = (place : ℕ) → place < length nets → slice_index nets place ≡ place

-- the place of a net, or one past the end where the net stands at none
pub record IsPlaceOf (nets : List ℕ) (net place : ℕ) : Type 0 where
  pub found : place < length nets → slice_index nets place ≡ net
  pub missing : length nets ≤ place → (k : ℕ) → k < length nets → slice_index nets k ≢ net
