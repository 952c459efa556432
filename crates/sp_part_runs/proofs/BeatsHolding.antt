-- What a slot's flag remembers between two steps.
use Rattle.std.proofs.Common.{◌≡◌, ℕ, zero, suc, ◌+◌, ◌-◌, ◌<◌, Bool, true, false, ◌&&◌, ◌||◌, not, refl, ap, ap₂, ◌∙◌, arith}
use Rattle.sp_beats.specs.Beats.{has_group}

module _ (start step comes : ℕ → Bool) where
  -- a step takes the group that comes, and a cycle without step and start keeps it
  taken : (u : ℕ) → step u ≡ true → start u ≡ false → has_group start step comes (suc u) ≡ comes u
  unfolding has_group
  taken u t f = ap₂ (λ a b. ((a && comes u) || (not a && has_group start step comes u)) && not b) t f ∙ by (comes u)
    where
      by : (b : Bool) → (((true && b) || (not true && has_group start step comes u)) && not false) ≡ b
      by true = refl
      by false = refl

  kept : (u : ℕ) → step u ≡ false → start u ≡ false → has_group start step comes (suc u) ≡ has_group start step comes u
  unfolding has_group
  kept u t f = ap₂ (λ a b. ((a && comes u) || (not a && has_group start step comes u)) && not b) t f ∙ by (has_group start step comes u)
    where
      by : (b : Bool) → (((false && comes u) || (not false && b)) && not false) ≡ b
      by true = refl
      by false = refl

  kept_on : (u d : ℕ) → step u ≡ true → start u ≡ false → ((w : ℕ) → u < w → w < u + suc d → (step w ≡ false) × (start w ≡ false)) → has_group start step comes (u + suc d) ≡ comes u
  kept_on u zero t f q = ap (has_group start step comes) {x = u + 1} {y = suc u} (omega arith) ∙ taken u t f
  kept_on u (suc d) t f q =
      let h = q (u + suc d) (omega arith) (omega arith) in
      ap (has_group start step comes) {x = u + suc (suc d)} {y = suc (u + suc d)} (omega arith) ∙ kept (u + suc d) h.0 h.1 ∙ kept_on u d t f (λ w l m. q w l (omega (arith, m)))

  pub has_after : (u t : ℕ) → u < t → step u ≡ true → start u ≡ false → ((w : ℕ) → u < w → w < t → (step w ≡ false) × (start w ≡ false)) → has_group start step comes t ≡ comes u
  has_after u t l a b q = let e : t ≡ u + suc (t - suc u) = omega (arith, l) in ap (has_group start step comes) e ∙ kept_on u (t - suc u) a b (λ w x y. q w x (omega (arith, y, l)))

  -- a start takes all away
  pub has_cleared : (u : ℕ) → start u ≡ true → has_group start step comes (suc u) ≡ false
  unfolding has_group
  has_cleared u t = ap (λ b. ((step u && comes u) || (not (step u) && has_group start step comes u)) && not b) t ∙ by ((step u && comes u) || (not (step u) && has_group start step comes u))
    where
      by : (b : Bool) → (b && not true) ≡ false
      by true = refl
      by false = refl
