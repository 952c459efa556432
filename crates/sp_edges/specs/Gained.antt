-- What a sink took between two moments, where it tells its bytes.
use Rattle.std.specs.Prelude.{◌≡◌, ℕ, List, [], ◌++◌, take, ⊤, Some, None}
use Rattle.std.specs.Prelude.{Option}

-- the bytes that a sink has taken grew by these, as far as they are told
abbrev pub Gained : Option (List ℕ) → Option (List ℕ) → List ℕ → Type 0
Gained None after bytes = ⊤
Gained (Some taken) after bytes = after ≡ Some (taken ++ bytes)

-- they grew by some first bytes of these
abbrev pub GainedPart : Option (List ℕ) → Option (List ℕ) → List ℕ → Type 0
GainedPart before after bytes = (count : ℕ) × Gained before after (take count bytes)

-- they did not grow
abbrev pub GainedNothing : Option (List ℕ) → Option (List ℕ) → Type 0
GainedNothing before after = Gained before after []
