-- What stands under a name, and what a call for the name appends.
use Rattle.std.specs.Prelude.{◌≡◌, ℕ, ◌+◌, ◌≤◌, List, [], ◌++◌, length, take, ⊤}

-- what is told of a name: nothing at all, that nothing stands there, or all bytes that stand there
pub data Standing : Type 0 where
  Untold : Standing
  Missing : Standing
  Holds : List ℕ → Standing

-- these are all bytes that stand there, as far as that is told
abbrev pub IsAllOf : Standing → List ℕ → Type 0
IsAllOf Untold bytes = ⊤
IsAllOf Missing bytes = ⊥
IsAllOf (Holds all) bytes = bytes ≡ all

-- what stands there begins with these bytes, as far as that is told
abbrev pub BeginsWith : Standing → List ℕ → Type 0
BeginsWith Untold bytes = ⊤
BeginsWith Missing bytes = bytes ≡ []
BeginsWith (Holds all) bytes = bytes ≡ take (length bytes) all

-- all that stands there was appended, at most `most` bytes
abbrev pub AppendsAll : Standing → ℕ → List ℕ → List ℕ → Type 0
AppendsAll standing most old new =
    (bytes : List ℕ) × (new ≡ old ++ bytes) × (length bytes ≤ most) × IsAllOf standing bytes

-- more than `most` bytes stand there, and the first `most + 1` of them were appended
abbrev pub AppendsPast : Standing → ℕ → List ℕ → List ℕ → Type 0
AppendsPast standing most old new =
    (bytes : List ℕ) × (new ≡ old ++ bytes) × (length bytes ≡ most + 1) × BeginsWith standing bytes

-- some first bytes of what stands there were appended
abbrev pub AppendsPart : Standing → List ℕ → List ℕ → Type 0
AppendsPart standing old new = (bytes : List ℕ) × (new ≡ old ++ bytes) × BeginsWith standing bytes
