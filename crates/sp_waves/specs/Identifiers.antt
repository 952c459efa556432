-- The identifiers by which a dump names its variables: characters from `!` to `~`, as few as can be.
use Rattle.std.specs.Prelude.{◌≡◌, ℕ, zero, suc, ◌+◌, ◌-◌, ◌/◌, ◌%◌, nat_lt, List, [], ◌∷◌, if◌then◌else◌}

-- how many characters there are
abbrev pub characters : ℕ
characters = 94

-- the identifier of a number, within so many characters: its last character, and then those that come after it
unfoldable pub identifier_within : (most : ℕ) → ℕ → List ℕ
identifier_within zero number = []
identifier_within (suc most) number =
    (33 + number % characters) ∷ (if nat_lt number characters then [] else identifier_within most (number / characters - 1))

abbrev pub identifier : ℕ → List ℕ
identifier number = identifier_within (suc number) number

-- two variables have two identifiers
abbrev pub IdentifiersDiffer : Type 0
IdentifiersDiffer = (a b : ℕ) → identifier a ≡ identifier b → a ≡ b
