-- Where the numbers that a distance takes pass 64 bits: how far an index goes by the counters of the accesses' own, or after how
-- many steps indices do the same.
use Rattle.std.specs.Prelude.{◌≡◌, ◌⊎◌, ◌≤◌, ℕ, ◌+◌, ◌*◌, ◌^◌, ◌-ℤ◌, List, ◌∷◌, Some, unsigned_abs}
use Rattle.sp_affine.specs.Affine.{Affine}
use Rattle.sp_deps.specs.Classes.{Loops, of_common, of_own, last_step}
use Rattle.sp_meets.specs.Reach.{reach, unbounded}

-- a number is no less than the greatest of 64 bits
abbrev pub PassesBits : ℕ → Type 0
PassesBits n = 2 ^ 64 ≤ n + 1

module _ (loops : Loops) (f g : Affine) where
  -- constants and own counters take two indices as far apart, but for one
  abbrev pub IsFar : ℕ → Type 0
  IsFar n =
      (p q : ℕ) × (reach (of_own loops.common loops.first f.coefs) loops.first ≡ Some p) × (reach (of_own loops.common loops.second g.coefs) loops.second ≡ Some q)
      × (n ≤ unsigned_abs (g.constant -ℤ f.constant) + (p + q) + 1)

  -- that many steps more do the same: the last counter doesn't count, or one without a known range does
  abbrev pub IsPeriod : ℕ → Type 0
  IsPeriod p =
      ((unsigned_abs (last_step (of_common loops.common loops.second g.coefs) loops.common) ≡ 0) × (p ≡ 1))
      ⊎ ((unbounded (of_own loops.common loops.first f.coefs) loops.first ≡ Some p) ⊎ (unbounded (of_own loops.common loops.second g.coefs) loops.second ≡ Some p))

module _ (loops : Loops) where
  -- some index goes so far
  abbrev pub SomeFar : List Affine → List Affine → ℕ → Type 0
  SomeFar (f ∷ fs) (g ∷ gs) n = IsFar loops f g n ⊎ SomeFar fs gs n
  SomeFar _ _ n = ⊥

  -- the product of periods of all indices
  abbrev pub IsProduct : List Affine → List Affine → ℕ → Type 0
  IsProduct (f ∷ fs) (g ∷ gs) n = (p q : ℕ) × IsPeriod loops f g p × IsProduct fs gs q × (n ≡ p * q)
  IsProduct _ _ n = n ≡ 1

  -- or of those from one on
  abbrev pub SomeProduct : List Affine → List Affine → ℕ → Type 0
  SomeProduct (f ∷ fs) (g ∷ gs) n = IsProduct (f ∷ fs) (g ∷ gs) n ⊎ SomeProduct fs gs n
  SomeProduct _ _ n = ⊥

  -- one of these numbers passes 64 bits
  abbrev pub NumbersPass : List Affine → List Affine → Type 0
  NumbersPass fs gs = (n : ℕ) × PassesBits n × (SomeFar fs gs n ⊎ SomeProduct fs gs n)
