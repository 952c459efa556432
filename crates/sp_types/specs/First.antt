-- The first of several refusals: the one at the first place, and at one place the one whose rule comes first. Among
-- several of one rule at one place the first in the list stays.
use Rattle.std.specs.Prelude.{ℕ, ◌&&◌, ◌||◌, ◌==◌, nat_lt, Bool, if◌then◌else◌, List, [], ◌∷◌, Option, Some, None}
use Rattle.sp_types.specs.declared.refusal.Rule.{Rule}
use Rattle.sp_types.specs.declared.refusal.Rule.TheVariants.{UnknownName, Twice, Misused, Rank, TypeClash, ParPlace}
use Rattle.sp_types.specs.declared.refusal.Refusal.{Refusal}

-- the order of the rules at one place
abbrev pub rank : Rule → ℕ
rank UnknownName = 0
rank Twice = 1
rank Misused = 2
rank (Rank want got) = 3
rank (TypeClash want got) = 4
rank ParPlace = 5

abbrev pub precedes : Refusal → Refusal → Bool
precedes r s = nat_lt r.at s.at || (r.at == s.at && nat_lt (rank r.rule) (rank s.rule))

-- the first of one more and those before it
unfoldable pub note : Option Refusal → Refusal → Option Refusal
note None r = Some r
note (Some first) r = if precedes r first then Some r else Some first

-- and of all of a list
unfoldable pub notes : Option Refusal → List Refusal → Option Refusal
notes first [] = first
notes first (r ∷ rs) = notes (note first r) rs

-- a refusal under a condition
abbrev pub one_if : Bool → Refusal → List Refusal
one_if b r = if b then r ∷ [] else []

abbrev pub refused : ℕ → Rule → Refusal
refused place rule = record { at = place; rule = rule }
