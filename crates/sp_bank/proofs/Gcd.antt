-- Euclid's lemma.
use Rattle.std.proofs.Common.{◌≡◌, ℕ, zero, suc, ◌+◌, ◌*◌, ◌/◌, ◌%◌, ◌<◌, ap, sym, ◌∙◌, subst, arith}
use Rattle.std.specs.Int.{IsGcd, ◌∣◌}
use Rattle.std.proofs.lemmas.Nat.{div-add-mod', mod_below, same_from_place}
use Rattle.std.proofs.lemmas.Nat.Gcd.{dvd_refl, dvd-zero, dvd_antisymm, dvd_of_mod-eq-zero, mod-eq-zero_of_dvd}

-- n divides m: a witness
pub factor_from : (n m : ℕ) → n ∣ m → (k : ℕ) × (m ≡ k * n)
factor_from n m h = (m / n, sym (whole_part (m / n * n) (m % n) m (div-add-mod' m n) (mod-eq-zero_of_dvd n h)))
  where
    whole_part : (a b c : ℕ) → a + b ≡ c → b ≡ 0 → a ≡ c
    whole_part a b c e f = omega arith

pub divides_multiple : (n k m : ℕ) → 0 < n → m ≡ k * n → n ∣ m
divides_multiple n k m h e = dvd_of_mod-eq-zero n (no_rest k n m h e)
  where
    no_rest : (k n m : ℕ) → 0 < n → m ≡ k * n → m % n ≡ 0
    no_rest k n m h e =
        let split = div-add-mod' m n in
        let small = mod_below m n h in
        let same : m / n * n + m % n ≡ k * n + 0 = omega (arith, split, e) in
        (same_from_place (m / n) (m % n) k 0 n small h same).1

positive : (e m : ℕ) → e ∣ suc m → 0 < e
positive zero m h = let f = factor_from 0 (suc m) h in absurd (no_product f.0 (suc m) f.1)
  where
    no_product : (k n : ℕ) → suc m ≡ k * 0 → ⊥
    no_product k n x = omega arith
positive (suc e) m h = omega arith

divides_sum : (e u v k : ℕ) → 0 < e → e ∣ u → e ∣ v → e ∣ (k * u + v)
divides_sum e u v k p h j =
    let (i, is_u) = factor_from e u h in
    let (l, is_v) = factor_from e v j in
    let grown : k * u ≡ k * (i * e) = ap (λ z. k * z) is_u in
    divides_multiple e (k * i + l) (k * u + v) p (omega (arith, grown, is_v))

divides_rest : (e u v w : ℕ) → 0 < e → e ∣ u → e ∣ w → w ≡ u + v → e ∣ v
divides_rest e u v w p h j is =
    let (i, is_u) = factor_from e u h in
    let (l, is_w) = factor_from e w j in
    let split = div-add-mod' v e in
    let small = mod_below v e p in
    let same : (i + v / e) * e + v % e ≡ l * e + 0 = omega (arith, split, is_u, is_w, is) in
    dvd_of_mod-eq-zero e (same_from_place (i + v / e) (v % e) l 0 e small p same).1

-- where n divides a·d and m·d, and a and m have no divisor in common, n divides d
euclid : (fuel a m n d : ℕ) → m < fuel → 0 < n → IsGcd a m 1 → n ∣ (a * d) → n ∣ (m * d) → n ∣ d
euclid zero a m n d h p g x y = absurd (omega arith)
euclid (suc fuel) a zero n d h p g x y =
    let one : a ≡ 1 = dvd_antisymm (g.2 a (dvd_refl a) (dvd-zero a)) g.0 in
    let same : a * d ≡ d = ap (λ z. z * d) one ∙ omega arith in
    let P : ℕ → Type 0 = λ z. n ∣ z in
    subst P same x
euclid (suc fuel) a (suc m) n d h p g x y =
    let split = div-add-mod' a (suc m) in
    let smaller : a % suc m < fuel = omega (arith, mod_below a (suc m) (omega arith)) in
    let P : ℕ → Type 0 = λ z. z ∣ a in
    let common : IsGcd (suc m) (a % suc m) 1 = (
      g.1,
      divides_multiple 1 (a % suc m) (a % suc m) (omega arith) (omega arith),
      λ e u v. g.2 e (let Q : ℕ → Type 0 = λ z. e ∣ z in subst Q split (divides_sum e (suc m) (a % suc m) (a / suc m) (positive e m u) u v)) u,
    ) in
    let grown : a / suc m * suc m * d + a % suc m * d ≡ a * d = times (a / suc m * suc m) (a % suc m) a d split in
    let left : n ∣ (a / suc m * suc m * d) =
    (let Q : ℕ → Type 0 = λ z. n ∣ z in
    subst Q (flat (a / suc m) (suc m) d) (divides_sum n (suc m * d) 0 (a / suc m) p y (dvd-zero n))) in
    let rest : n ∣ (a % suc m * d) = divides_rest n (a / suc m * suc m * d) (a % suc m * d) (a * d) p left x (sym grown) in
    euclid fuel (suc m) (a % suc m) n d smaller p common y rest
  where
    times : (u v w k : ℕ) → u + v ≡ w → u * k + v * k ≡ w * k
    times u v w k e = let grown : (u + v) * k ≡ w * k = ap (λ z. z * k) e in omega (arith, grown)

    flat : (q b k : ℕ) → q * (b * k) + 0 ≡ q * b * k
    flat q b k = omega arith

pub coprime_divides : (a m d : ℕ) → 0 < m → IsGcd a m 1 → m ∣ (a * d) → m ∣ d
coprime_divides a m d h g x = euclid (suc m) a m m d (omega arith) h g x (divides_multiple m d (m * d) h (omega arith))
