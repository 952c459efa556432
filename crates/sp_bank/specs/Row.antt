-- The places of a group's accesses, where the weight of the last dimension alone varies.
use Rattle.std.specs.Prelude.{◌≡◌, ℕ, ◌+◌, ◌*◌, ◌%◌, ◌<◌, pos, List, [], length, take, slice_index, slice_index_or}
use Rattle.std.specs.Int.{int_rem_euclid}
use Rattle.sp_affine.specs.Affine.{Affine}
use Rattle.sp_bank.specs.Search.{unhinged}
use Rattle.sp_bank.specs.Separation.{AreFar, access, constants, weighted_sum}

-- for each access its place where the last weight is 0
abbrev pub AreStarts : List ℕ → ℕ → List Affine → List ℕ → List ℕ → Type 0
AreStarts before period group us starts = (i : ℕ) → i < length us →
    pos (slice_index starts i) ≡ int_rem_euclid (weighted_sum before (constants (take (length before) (access (length before + 1) group (slice_index us i))))) (pos period)

-- for each access how far its place moves on where the last weight grows by 1: the constant of the last dimension
abbrev pub AreSteps : ℕ → ℕ → List Affine → List ℕ → List ℕ → Type 0
AreSteps rank period group us steps = (i : ℕ) → i < length us →
    pos (slice_index steps i) ≡ int_rem_euclid (slice_index_or (constants (access (rank + 1) group (slice_index us i))) rank (pos 0)) (pos period)

-- the place of access i at this last weight
abbrev pub place_of : ℕ → List ℕ → List ℕ → ℕ → ℕ → ℕ
place_of period starts steps last i = (slice_index starts i + last * slice_index steps i) % period

-- the places of the first n accesses are a block or more from one another
abbrev pub ArePlacesFar : ℕ → ℕ → List ℕ → List ℕ → ℕ → ℕ → Type 0
ArePlacesFar banks block starts steps last n = (i j : ℕ) → i < j → j < n →
    AreFar (unhinged banks block []) (place_of (banks * block) starts steps last i) (place_of (banks * block) starts steps last j)
