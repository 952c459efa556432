-- alpha·c within the period, weight by weight.
use Rattle.std.proofs.Common.{◌≡◌, ℕ, zero, suc, ◌+◌, ◌*◌, ◌<◌, ◌≤◌, ◌/◌, ◌%◌, ℤ, pos, ◌+ℤ◌, ◌*ℤ◌, List, [], ◌∷◌, length, get_or, take, ap, sym, ◌∙◌, arith, add-one}
use Rattle.std.specs.Int.{int_div_euclid, int_rem_euclid}
use Rattle.std.proofs.lemmas.Int.{ints}
use Rattle.std.proofs.lemmas.Nat.{div-add-mod', mod_below, mul-le}
use Rattle.std.proofs.lemmas.List.{get_or-map}
use Rattle.sp_affine.specs.Affine.{Affine}
use Rattle.sp_bank.specs.Separation.{weighted_sum, constants}
use Rattle.sp_bank.proofs.Floor.{parts, remainder_of}
use Rattle.sp_bank.proofs.Integers.{add-mul_ℤ, mul-add_ℤ, mul_assoc_ℤ}

-- w and n differ by whole periods
pub record IsCongruent (p : ℕ) (w : ℤ) (n : ℕ) : Type 0 where
  pub periods : ℤ
  pub whole : w ≡ (periods *ℤ pos p) +ℤ pos n

pub congruent_zero : (p : ℕ) → IsCongruent p (pos 0) 0
congruent_zero p = record { periods = pos 0; whole = omega (arith, ints) }

weighted_sum-take_suc : (alpha : List ℕ) (cs : List ℤ) (i : ℕ) → length cs ≡ length alpha → i < length alpha →
    weighted_sum (take (suc i) alpha) (take (suc i) cs) ≡ weighted_sum (take i alpha) (take i cs) +ℤ (pos (get_or alpha i 0) *ℤ get_or cs i (pos 0))
weighted_sum-take_suc [] cs i e h = absurd (omega arith)
weighted_sum-take_suc (a ∷ alpha) [] i e h = absurd (omega arith)
weighted_sum-take_suc (a ∷ alpha) (c ∷ cs) zero e h = turned (pos a *ℤ c)
  where
    turned : (z : ℤ) → z +ℤ pos 0 ≡ pos 0 +ℤ z
    turned z = omega (arith, ints)
weighted_sum-take_suc (a ∷ alpha) (c ∷ cs) (suc i) e h =
    moved (pos a *ℤ c) (weighted_sum (take (suc i) alpha) (take (suc i) cs)) (weighted_sum (take i alpha) (take i cs)) (pos (get_or alpha i 0) *ℤ get_or cs i (pos 0))
    (weighted_sum-take_suc alpha cs i (omega arith) (omega arith))
  where
    moved : (p whole part last : ℤ) → whole ≡ part +ℤ last → p +ℤ whole ≡ (p +ℤ part) +ℤ last
    moved p whole part last e = omega (arith, ints)

pub weighted_sum-take : (alpha : List ℕ) (cs : List ℤ) (i : ℕ) → length cs ≡ length alpha → i < length alpha →
    weighted_sum (take (i + 1) alpha) (take (i + 1) cs) ≡ weighted_sum (take i alpha) (take i cs) +ℤ (pos (get_or alpha i 0) *ℤ get_or cs i (pos 0))
weighted_sum-take alpha cs i e h = rw add-one (weighted_sum-take_suc alpha cs i e h)

-- a weight times a number, by the number's remainder
pub congruent_more : (p : ℕ) (w : ℤ) (n a : ℕ) (c : ℤ) (r : ℕ) → 0 < p → IsCongruent p w n → pos r ≡ int_rem_euclid c (pos p) →
    IsCongruent p (w +ℤ (pos a *ℤ c)) (n + a * r)
congruent_more p w n a c r h known is =
    let (r', is', found) = parts c p h in
    let k = int_div_euclid c (pos p) in
    let same : pos r ≡ pos r' = is ∙ is' in
    let c_is : c ≡ (k *ℤ pos p) +ℤ pos r = found.whole ∙ ap (λ z. (k *ℤ pos p) +ℤ z) (sym same) in
    let product : pos a *ℤ c ≡ (pos a *ℤ (k *ℤ pos p)) +ℤ (pos a *ℤ pos r) = ap (λ z. pos a *ℤ z) c_is ∙ mul-add_ℤ (k *ℤ pos p) (pos r) (pos a) in
    record {
      periods = known.periods +ℤ (pos a *ℤ k);
      whole = joined _ _ _ _ _ _ known.whole product (mul_assoc_ℤ (pos a) k (pos p)) (add-mul_ℤ known.periods (pos a *ℤ k) (pos p));
    }
  where
    joined : (x y t ak akp akp' : ℤ) → x ≡ t +ℤ pos n → y ≡ akp +ℤ pos (a * r) → akp' ≡ akp → ak ≡ t +ℤ akp' → x +ℤ y ≡ ak +ℤ pos (n + a * r)
    joined x y t ak akp akp' e f g i = omega (arith, ints)

pub residue_from_congruent : (p : ℕ) (w : ℤ) (n : ℕ) → 0 < p → IsCongruent p w n → pos (n % p) ≡ int_rem_euclid w (pos p)
residue_from_congruent p w n h known =
    sym (remainder_of w (known.periods +ℤ pos (n / p)) p (n % p) (record {
      below = mod_below n p h;
      whole = joined w (known.periods *ℤ pos p) _ (n / p * p) known.whole (add-mul_ℤ known.periods (pos (n / p)) (pos p)) (div-add-mod' n p);
    }))
  where
    joined : (x t u : ℤ) (q : ℕ) → x ≡ t +ℤ pos n → u ≡ t +ℤ pos q → q + n % p ≡ n → x ≡ u +ℤ pos (n % p)
    joined x t u q e f g = omega (arith, ints)

-- the constants of an access, by their place
pub constants-at : (access : List Affine) (i : ℕ) (d : Affine) → i < length access → get_or (constants access) i (pos 0) ≡ (get_or access i d).constant
constants-at access i d h = get_or-map (λ f. f.constant) access i d (pos 0) h

pub step_small : (sum i a r : ℕ) → sum ≤ i * 3968 → a < 32 → r ≤ 128 → sum + a * r ≤ (i + 1) * 3968
step_small sum i a r h k l =
    let product = mul-le a r 31 128 (omega arith) l in
    omega (arith, product)
