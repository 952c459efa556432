-- When the accesses of a group have different banks, whatever the counters and the symbol are: of an access the forms give constants c, and the forms without them give one number s to all accesses of a group, so that the place of the access is s + alpha·c.
use Rattle.std.specs.Prelude.{◌≡◌, ◌≢◌, ℕ, ◌+◌, ◌*◌, ◌/◌, ◌^◌, ◌<◌, ◌≤◌, ◌⊎◌, ℤ, pos, ◌+ℤ◌, ◌*ℤ◌, List, [], ◌∷◌, length, take, drop, map, slice_index}
use Rattle.std.specs.Int.{int_div_euclid, int_rem_euclid}
use Rattle.std.specs.List.{range_with_len}
use Rattle.sp_affine.specs.Affine.{Affine}
use Rattle.sp_bank.specs.Banking.{Banking, period}

-- floor(v / B) mod N, of any whole number
abbrev pub bank_at : Banking → ℤ → ℤ
bank_at s v = int_rem_euclid (int_div_euclid v (pos s.block)) (pos s.banks)

-- alpha·c
abbrev pub weighted_sum : List ℕ → List ℤ → ℤ
weighted_sum [] cs = pos 0
weighted_sum (a ∷ alpha) [] = pos 0
weighted_sum (a ∷ alpha) (c ∷ cs) = (pos a *ℤ c) +ℤ weighted_sum alpha cs

-- what an access adds to the place that all accesses of its group share: the constants of its forms
abbrev pub constants : List Affine → List ℤ
constants forms = map (λ f. f.constant) forms

-- at different constants, different banks for every s
abbrev pub AreApart : Banking → List ℤ → List ℤ → Type 0
AreApart b c d = c ≢ d → (s : ℤ) → bank_at b (s +ℤ weighted_sum b.alpha c) ≢ bank_at b (s +ℤ weighted_sum b.alpha d)

-- a group lists the forms of its accesses one access after the other, as many for each as there are dimensions
abbrev pub access_count : ℕ → List Affine → ℕ
access_count rank group = length group / rank

abbrev pub IsGroup : ℕ → List Affine → Type 0
IsGroup rank group = (access_count rank group * rank ≡ length group) × (access_count rank group < 2 ^ 32)

-- access number u
abbrev pub access : ℕ → List Affine → ℕ → List Affine
access rank group u = take rank (drop (u * rank) group)

-- accesses number u and v are apart
abbrev pub PairApart : Banking → List Affine → ℕ → ℕ → Type 0
PairApart b group u v = AreApart b (constants (access (length b.alpha) group u)) (constants (access (length b.alpha) group v))

-- any two accesses of the group are apart
abbrev pub Separates : Banking → List Affine → Type 0
Separates b group = (u v : ℕ) → u < access_count (length b.alpha) group → v < access_count (length b.alpha) group → PairApart b group u v

-- alpha·c within the period
abbrev pub residue_of : Banking → List ℤ → ℤ
residue_of b c = int_rem_euclid (weighted_sum b.alpha c) (pos (period b))

-- the distance of two numbers within the period is a block or more, up and, round the period, down
pub record IsAbove (b : Banking) (x y : ℕ) : Type 0 where
  pub block_up : y + b.block ≤ x
  pub block_down : x + b.block ≤ y + b.banks * b.block

abbrev pub AreFar : Banking → ℕ → ℕ → Type 0
AreFar b x y = IsAbove b x y ⊎ IsAbove b y x

-- of the pairs of accesses that are not apart, the one with the least first access, and then the least second one
pub record IsFirstClash (b : Banking) (group : List Affine) (first second : ℕ) : Type 0 where
  pub ordered : first < second
  pub inside : second < access_count (length b.alpha) group
  pub clash : ¬ (PairApart b group first second)
  pub least : (u v : ℕ) → u < access_count (length b.alpha) group → v < access_count (length b.alpha) group →
      (u < first) ⊎ ((u ≡ first) × (v < second)) → PairApart b group u v

-- alpha·c within the period, access by access
abbrev pub differences_of : Banking → List Affine → List ℤ
differences_of b group =
    map (λ u. residue_of b (constants (access (length b.alpha) group u))) (range_with_len 0 (access_count (length b.alpha) group))

-- accesses of the group, of which any two differ in a constant
pub record AreDifferent (rank : ℕ) (group : List Affine) (us : List ℕ) : Type 0 where
  pub inside : (i : ℕ) → i < length us → slice_index us i < access_count rank group
  pub different : (i j : ℕ) → i < j → j < length us → constants (access rank group (slice_index us i)) ≢ constants (access rank group (slice_index us j))

-- the access has the constants of one that is listed
abbrev pub IsListed : ℕ → List Affine → List ℕ → ℕ → Type 0
IsListed rank group us u = (i : ℕ) × (i < length us) × (constants (access rank group (slice_index us i)) ≡ constants (access rank group u))
