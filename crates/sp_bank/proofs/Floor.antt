-- Division of whole numbers with a sign, rounded down.
use Rattle.std.proofs.Common.{◌≡◌, ℕ, ◌+◌, ◌-◌, ◌*◌, ◌%◌, ◌<◌, ℤ, pos, negsuc, ◌+ℤ◌, ◌*ℤ◌, refl, ap, ◌∙◌, arith}
use Rattle.std.specs.Int.{int_div_euclid, int_rem_euclid}
use Rattle.std.proofs.lemmas.Int.{ints}
use Rattle.std.proofs.lemmas.Nat.{div-add-mod', same_from_place, mod_below}
use borrow.Author.Differences.{up, down, same_in}

-- v is q times b and r more
pub record Parts (v q : ℤ) (b r : ℕ) : Type 0 where
  pub below : r < b
  pub whole : v ≡ (q *ℤ pos b) +ℤ pos r

pub parts : (v : ℤ) (b : ℕ) → 0 < b → (r : ℕ) × (int_rem_euclid v (pos b) ≡ pos r) × Parts v (int_div_euclid v (pos b)) b r
parts (pos a) b h =
    let split = div-add-mod' a b in
    (a % b, refl, record { below = mod_below a b h; whole = omega (arith, ints, split) })
parts (negsuc a) b h =
    let split = div-add-mod' a b in
    let small = mod_below a b h in
    (b - 1 - a % b, refl, record { below = omega arith; whole = omega (arith, ints, split, small) })

pub parts_unique : (v q q' : ℤ) (b r r' : ℕ) → Parts v q b r → Parts v q' b r' → (q ≡ q') × (r ≡ r')
parts_unique v q q' b r r' p p' =
    let same : (up q + down q') * b + r ≡ (up q' + down q) * b + r' = omega (arith, ints, p.whole, p'.whole) in
    let both = same_from_place (up q + down q') r (up q' + down q) r' b p.below p'.below same in
    (same_in q q' both.0, both.1)

pub quotient_of : (v q : ℤ) (b r : ℕ) → Parts v q b r → int_div_euclid v (pos b) ≡ q
quotient_of v q b r p =
    let found = parts v b (omega (arith, p.below)) in
    (parts_unique v _ q b found.0 r found.2 p).0

pub remainder_of : (v q : ℤ) (b r : ℕ) → Parts v q b r → int_rem_euclid v (pos b) ≡ pos r
remainder_of v q b r p =
    let found = parts v b (omega (arith, p.below)) in
    found.1 ∙ ap pos (parts_unique v _ q b found.0 r found.2 p).1

-- no multiple of n lies strictly between 0 and n
pub between : (t m t' m' : ℤ) (n x : ℕ) → 0 < x → x < n →
    ((t *ℤ pos n) +ℤ (m' *ℤ pos n)) ≡ (((t' *ℤ pos n) +ℤ (m *ℤ pos n)) +ℤ pos x) → ⊥
between t m t' m' n x low high e =
    let same : (up t + up m' + down t' + down m) * n + 0 ≡ (up t' + up m + down t + down m') * n + x = omega (arith, ints, e) in
    let both = same_from_place _ 0 _ x n (omega arith) high same in
    omega (arith, both.1)
