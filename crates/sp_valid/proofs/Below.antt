-- What holds of each number below a bound.
use Rattle.std.proofs.Common.{◌≡◌, ℕ, ◌+◌, ◌<◌, ◌≤◌, true, false, inl, inr, IsTrue, ◌↔◌, arith, refl, subst}
use Rattle.std.proofs.lemmas.Bool.{cases_lt, false≢true}

module _ (P : ℕ → Type 0) where
  pub one_more : (k : ℕ) → ((j : ℕ) → j < k → P j) → P k → (j : ℕ) → j < k + 1 → P j
  one_more k h p j lt = elim (cases_lt j k) [
    | inl q ↦ h j q
    | inr q ↦ let e : k ≡ j = omega (arith, q, lt) in subst P e p
  ]

  pub some_wrong : (n k : ℕ) → k < n → (P k → ⊥) → IsTrue false ↔ ((j : ℕ) → j < n → P j)
  some_wrong n k lt wrong = (λ e. absurd (false≢true e), λ h. absurd (wrong (h k lt)))

  pub all_right : (n k : ℕ) → n ≤ k → ((j : ℕ) → j < k → P j) → IsTrue true ↔ ((j : ℕ) → j < n → P j)
  all_right n k le h = (λ e j lt. h j (omega (arith, le, lt)), λ h. refl)
