-- Sums over indices, one more at a time, modulo a power.
use Rattle.std.proofs.Common.{◌≡◌, ℕ, zero, suc, ◌+◌, ◌*◌, ◌%◌, ◌^◌, ◌<◌, ◌≤◌, List, [], ◌∷◌, length, take, map, get_or, All, refl, sym, ap, ◌∙◌, arith}
use Rattle.std.proofs.Math.Nat.{mod-add-mod, add-mod-mod, mod-mod, mul_comm, mul-le-mul}
use Rattle.std.proofs.lemmas.Nat.{mul-mod_first}
use Rattle.sp_bank.specs.Places.{weighted, product_of, IsInside, row_major}
use Rattle.sp_bank.proofs.MemorySizes.{product_of-take, row_major-take}
use Rattle.sp_netlist.specs.Rules.{IsLength}

pub weighted_more : (ws xs : List ℕ) (i : ℕ) → i < length ws → i < length xs → weighted (take (i + 1) ws) (take (i + 1) xs) ≡ weighted (take i ws) (take i xs) + get_or ws i 0 * get_or xs i 0
weighted_more [] xs i l k = absurd (omega (arith, l))
weighted_more (w ∷ ws) [] i l k = absurd (omega (arith, k))
weighted_more (w ∷ ws) (x ∷ xs) zero l k = omega arith
weighted_more (w ∷ ws) (x ∷ xs) (suc i) l k =
    let e : suc i + 1 ≡ suc (i + 1) = omega arith in
    let rest = weighted_more ws xs i (omega (arith, l)) (omega (arith, k)) in
    ap (λ n. weighted (take n (w ∷ ws)) (take n (x ∷ xs))) e ∙ omega (arith, rest)

both_mod : (m a b : ℕ) → (a % m + b % m) % m ≡ (a + b) % m
both_mod m a b = mod-add-mod a m (b % m) ∙ add-mod-mod a b m

-- the sum of a product more
pub sum_step : (m total part new rest x w : ℕ) → new ≡ (total + part) % m → part ≡ x * w % m → total ≡ rest % m → new ≡ (rest + w * x) % m
sum_step m total part new rest x w e f g =
    e ∙ ap (λ n. (n + part) % m) g ∙ ap (λ n. (rest % m + n) % m) f ∙ both_mod m rest (x * w) ∙ ap (λ n. (rest + n) % m) (mul_comm x w)

-- a row-major number with one dimension more
pub row_step : (m number rows new before size x : ℕ) → new ≡ (rows + x) % m → rows ≡ number * size % m → number % m ≡ before % m → new % m ≡ (before * size + x) % m
row_step m number rows new before size x e f g =
    ap (λ n. n % m) (e ∙ ap (λ n. (n + x) % m) (f ∙ sym (mul-mod_first number size m) ∙ ap (λ n. n * size % m) g ∙ mul-mod_first before size m) ∙ mod-add-mod (before * size) m x)
    ∙ mod-mod (before * size + x) m

-- so many times a number, and another
pub scaled_sum : (m base rows at new lead periods rest : ℕ) → new ≡ (rows + at) % m → rows ≡ base * periods % m → base % m ≡ lead % m → at ≡ rest % m → new ≡ (lead * periods + rest) % m
scaled_sum m base rows at new lead periods rest e f g h =
    e ∙ ap (λ n. (n + at) % m) (f ∙ sym (mul-mod_first base periods m) ∙ ap (λ n. n * periods % m) g ∙ mul-mod_first lead periods m) ∙ ap (λ n. (lead * periods % m + n) % m) h ∙ both_mod m (lead * periods) rest

-- sums of weights below 33 of indices below 2 ^ 31 are small
pub weighted_small : (ws ds xs : List ℕ) (n : ℕ) → All (λ w. w < n) ws → n ≤ 32 → All IsLength ds → IsInside ds xs → weighted ws xs ≤ length ws * 2 ^ 36
weighted_small [] ds xs n h l k i = omega arith
weighted_small (w ∷ ws) [] [] n h l k i = omega arith
weighted_small (w ∷ ws) [] (x ∷ xs) n h l k i = absurd i
weighted_small (w ∷ ws) (d ∷ ds) [] n h l k i = absurd i
weighted_small (w ∷ ws) (d ∷ ds) (x ∷ xs) n h l k i =
    let rest = weighted_small ws ds xs n (λ j e below. h (suc j) e (omega (arith, below))) l (λ j e below. k (suc j) e (omega (arith, below))) i.1 in
    let weight : w ≤ 32 = (let a = h 0 w (omega arith) in omega (arith, a, l)) in
    let index : x ≤ 2 ^ 31 = (let a = i.0 in let b = (k 0 d (omega arith)).1 in omega (arith, a, b)) in
    let product : w * x ≤ 32 * 2 ^ 31 = mul-le-mul weight index in
    omega (arith, rest, product)

-- words that are below the modulus
pub kept_words : (ds xs : List ℕ) → All IsLength ds → IsInside ds xs → map (λ w. w % 2 ^ 64) xs ≡ xs
kept_words [] [] k i = refl
kept_words [] (x ∷ xs) k i = absurd i
kept_words (d ∷ ds) [] k i = absurd i
kept_words (d ∷ ds) (x ∷ xs) k i =
    let a = i.0 in
    let b = (k 0 d (omega arith)).1 in
    let same : x % 2 ^ 64 ≡ x = omega (arith, a, b) in
    ap (λ w. w ∷ map (λ v. v % 2 ^ 64) xs) same ∙ ap (λ ws. x ∷ ws) (kept_words ds xs (λ j e below. k (suc j) e (omega (arith, below))) i.1)

-- a row-major number behind others, with one dimension more
pub row_more : (m start : ℕ) (ds xs : List ℕ) (i size x : ℕ) → IsInside ds xs → length xs ≡ length ds → i < length ds → size ≡ get_or ds i 0 → x ≡ get_or xs i 0
    → ((start * product_of (take i ds) + row_major (take i ds) (take i xs)) * size + x) % m ≡ (start * product_of (take (i + 1) ds) + row_major (take (i + 1) ds) (take (i + 1) xs)) % m
row_more m start ds xs i size x inside long l e f =
    let grown = ap (λ n. start * n) (product_of-take ds i l) in
    let number = row_major-take ds xs i inside long l in
    let sized = ap (λ n. (start * product_of (take i ds) + row_major (take i ds) (take i xs)) * n + x) e in
    ap (λ n. n % m) (sized ∙ omega (arith, grown, number, f))
