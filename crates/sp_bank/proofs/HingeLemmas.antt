-- Schemes that differ in their hinge alone.
use Rattle.std.proofs.Common.{refl, ℕ, ◌<◌, lt_irrefl, inl, inr, List, [], ◌∷◌}
use Rattle.sp_bank.specs.Banking.{Banking}
use Rattle.sp_bank.specs.Search.{IsLexicographicallyLess, Precedes}

not_less_itself : (xs : List ℕ) → IsLexicographicallyLess xs xs → ⊥
not_less_itself [] less = less
not_less_itself (x ∷ xs) (inl less) = lt_irrefl x less
not_less_itself (x ∷ xs) (inr (same, less)) = not_less_itself xs less

abbrev hinged : ℕ → ℕ → List ℕ → ℕ → Banking
hinged banks block alpha hinge = record { banks = banks; block = block; alpha = alpha; hinge = hinge }

pub earlier : (banks block h k : ℕ) (alpha : List ℕ) → h < k → Precedes (hinged banks block alpha h) (hinged banks block alpha k)
earlier banks block h k alpha less = inr (refl, inr (refl, inr (refl, less)))

pub earlier-only : (banks block h k : ℕ) (alpha : List ℕ) → Precedes (hinged banks block alpha h) (hinged banks block alpha k) → h < k
earlier-only banks block h k alpha (inl less) = absurd (lt_irrefl banks less)
earlier-only banks block h k alpha (inr (_, inl less)) = absurd (lt_irrefl block less)
earlier-only banks block h k alpha (inr (_, inr (_, inl less))) = absurd (not_less_itself alpha less)
earlier-only banks block h k alpha (inr (_, inr (_, inr (_, less)))) = less
