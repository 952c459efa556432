-- Weights as numbers: the lexicographic order is that of the numbers.
use Rattle.std.proofs.Common.{◌≡◌, ℕ, zero, suc, ◌+◌, ◌-◌, ◌*◌, ◌/◌, ◌%◌, ◌^◌, ◌<◌, ◌≤◌, List, [], ◌∷◌, ◌++◌, length, length-append, get_or, add-one, sym, refl, ap, ◌∙◌, arith, inl, inr}
use Rattle.std.specs.List.{All}
use Rattle.std.proofs.lemmas.List.Elements.{All-append}
use Rattle.std.proofs.lemmas.Nat.{div-mul-add, mod-mul-add, mul-add-lt, div-add-mod', mod_below, div_below}
use native.Mathlib.Nat.{pow-zero, pow-suc, pow-succ', one-le-pow, pow-le-pow_left, pow-le-pow_right}
use Rattle.sp_bank.specs.Search.{IsLexicographicallyLess, digits}

pub code_of : ℕ → List ℕ → ℕ
code_of b [] = 0
code_of b (x ∷ xs) = x * b ^ length xs + code_of b xs

pub length-digits : (n b code : ℕ) → length (digits n b code) ≡ n
length-digits zero b code = refl
length-digits (suc n) b code = ap suc (length-digits n b (code % b ^ n))

all_head : (P : ℕ → Type 0) (x : ℕ) (xs : List ℕ) → All P (x ∷ xs) → P x
all_head P x xs all = all 0 x (omega arith)

all_tail : (P : ℕ → Type 0) (x : ℕ) (xs : List ℕ) → All P (x ∷ xs) → All P xs
all_tail P x xs all k d h = all (suc k) d (omega arith)

pub code_of-below : (b : ℕ) (xs : List ℕ) → All (λ x. x < b) xs → code_of b xs < b ^ length xs
unfolding code_of
code_of-below b [] all = omega (arith, pow-zero b)
code_of-below b (x ∷ xs) all =
    let below = mul-add-lt x (b ^ length xs) (code_of b xs) b (all_head (λ z. z < b) x xs all) (code_of-below b xs (all_tail (λ z. z < b) x xs all)) in
    omega (arith, below, pow-suc b (length xs))

pub digits-code_of : (b : ℕ) (xs : List ℕ) → All (λ x. x < b) xs → digits (length xs) b (code_of b xs) ≡ xs
unfolding code_of
digits-code_of b [] all = refl
digits-code_of b (x ∷ xs) all =
    let below = code_of-below b xs (all_tail (λ z. z < b) x xs all) in
    let head : (x * b ^ length xs + code_of b xs) / b ^ length xs ≡ x = div-mul-add x (b ^ length xs) (code_of b xs) below in
    let rest : (x * b ^ length xs + code_of b xs) % b ^ length xs ≡ code_of b xs = mod-mul-add x (b ^ length xs) (code_of b xs) below in
    ap (λ z. z ∷ digits (length xs) b ((x * b ^ length xs + code_of b xs) % b ^ length xs)) head
    ∙ ap (λ z. x ∷ digits (length xs) b z) rest
    ∙ ap (λ zs. x ∷ zs) (digits-code_of b xs (all_tail (λ z. z < b) x xs all))

power_positive : (b n : ℕ) → 0 < b → 0 < b ^ n
power_positive b n h = one-le-pow n b h

head_below : (n b code : ℕ) → 0 < b → code < b ^ suc n → code / b ^ n < b
head_below n b code h k = div_below code (b ^ n) b (power_positive b n h) (omega (arith, k, pow-succ' b n))

pub code_of-digits : (n b code : ℕ) → 0 < b → code < b ^ n → code_of b (digits n b code) ≡ code
unfolding code_of
code_of-digits zero b code h k = omega (arith, k, pow-zero b)
code_of-digits (suc n) b code h k =
    let rest = code_of-digits n b (code % b ^ n) h (mod_below code (b ^ n) (power_positive b n h)) in
    let split = div-add-mod' code (b ^ n) in
    let scale : code / b ^ n * b ^ length (digits n b (code % b ^ n)) ≡ code / b ^ n * b ^ n =
    ap (λ z. code / b ^ n * b ^ z) (length-digits n b (code % b ^ n)) in
    omega (arith, rest, split, scale)

pub digits-below : (n b code : ℕ) → 0 < b → code < b ^ n → All (λ x. x < b) (digits n b code)
digits-below zero b code h k i d l = absurd (omega arith)
digits-below (suc n) b code h k zero d l = head_below n b code h k
digits-below (suc n) b code h k (suc i) d l =
    digits-below n b (code % b ^ n) h (mod_below code (b ^ n) (power_positive b n h)) i d (omega arith)

pub code_of-less : (b : ℕ) (xs ys : List ℕ) → length xs ≡ length ys → All (λ x. x < b) xs → All (λ x. x < b) ys →
    IsLexicographicallyLess xs ys → code_of b xs < code_of b ys
unfolding code_of
code_of-less b [] ys e all all' h = absurd h
code_of-less b (x ∷ xs) [] e all all' h = absurd h
code_of-less b (x ∷ xs) (y ∷ ys) e all all' h =
    let same : length xs ≡ length ys = omega arith in
    let scale : y * b ^ length xs ≡ y * b ^ length ys = ap (λ z. y * b ^ z) same in
    elim h [
      | inl less ↦
          let below = mul-add-lt x (b ^ length xs) (code_of b xs) y less (code_of-below b xs (all_tail (λ z. z < b) x xs all)) in
          omega (arith, below, scale)
      | inr (equal, less) ↦
          let rest = code_of-less b xs ys same (all_tail (λ z. z < b) x xs all) (all_tail (λ z. z < b) y ys all') less in
          let heads : x * b ^ length xs ≡ y * b ^ length xs = ap (λ z. z * b ^ length xs) equal in
          omega (arith, rest, heads, scale)
    ]

-- what is raised to a power here is small
pub power_small : (b n : ℕ) → b ≤ 32 → n ≤ 3 → b ^ n < 2 ^ 32
power_small b n h k =
    let left = pow-le-pow_left {n = b} {m = 32} h n in
    let right = pow-le-pow_right {n = 32} (omega arith) {i = n} {j = 3} k in
    omega (arith, left, right)

pub digits_step : (n b code : ℕ) → 0 < n → digits n b code ≡ (code / b ^ (n - 1)) ∷ digits (n - 1) b (code % b ^ (n - 1))
digits_step zero b code h = absurd (omega arith)
digits_step (suc n) b code h = ap (λ k. (code / b ^ k) ∷ digits k b (code % b ^ k)) (one_less n)
  where
    one_less : (m : ℕ) → m ≡ suc m - 1
    one_less m = omega arith

code_of-append : (b : ℕ) (xs : List ℕ) (x : ℕ) → code_of b (xs ++ x ∷ []) ≡ code_of b xs * b + x
unfolding code_of
code_of-append b [] x = first (b ^ length {A = ℕ} []) (pow-zero b)
  where
    first : (p : ℕ) → p ≡ 1 → x * p + 0 ≡ 0 * b + x
    first p e = omega (arith, ap (λ z. x * z) e)
code_of-append b (y ∷ xs) x =
    let power : b ^ length (xs ++ x ∷ []) ≡ b ^ length xs * b = ap (λ n. b ^ n) (length-append xs (x ∷ []) ∙ add-one (length xs)) ∙ pow-suc b (length xs) in
    let grown : y * b ^ length (xs ++ x ∷ []) ≡ y * (b ^ length xs * b) = ap (λ z. y * z) power in
    omega (arith, grown, code_of-append b xs x)

-- the number of a row's weights, and then the last weight
pub digits_row : (n b row last : ℕ) → 0 < b → row < b ^ n → last < b → digits (n + 1) b (row * b + last) ≡ digits n b row ++ last ∷ []
digits_row n b row last some low below =
    let xs = digits n b row in
    let size : length (xs ++ last ∷ []) ≡ n + 1 = length-append xs (last ∷ []) ∙ ap (λ z. z + 1) (length-digits n b row) in
    let code : code_of b (xs ++ last ∷ []) ≡ row * b + last = code_of-append b xs last ∙ ap (λ z. z * b + last) (code_of-digits n b row some low) in
    let all = All-append (λ x. x < b) xs (last ∷ []) (digits-below n b row some low) (λ k d h. one k d h) in
    ap (λ z. digits z b (row * b + last)) (sym size) ∙ ap (λ z. digits (length (xs ++ last ∷ [])) b z) (sym code) ∙ digits-code_of b (xs ++ last ∷ []) all
  where
    one : (k d : ℕ) → k < 1 → get_or (last ∷ []) k d < b
    one zero d h = below
    one (suc k) d h = absurd (omega arith)

-- the rows go on one after the other
pub row_below : (rank b row last : ℕ) → 1 ≤ rank → row < b ^ (rank - 1) → last < b → row * b + last < b ^ rank
row_below zero b row last h low below = absurd (omega arith)
row_below (suc n) b row last h low below =
    let same : b ^ (suc n - 1) ≡ b ^ n = ap (λ k. b ^ k) (one_less n) in
    omega (arith, mul-add-lt row b last (b ^ n) (omega (arith, low, same)) below, pow-suc b n)
  where
    one_less : (m : ℕ) → suc m - 1 ≡ m
    one_less m = omega arith

pub power_rank : (rank b : ℕ) → 1 ≤ rank → b ^ rank ≡ b ^ (rank - 1) * b
power_rank zero b h = absurd (omega arith)
power_rank (suc n) b h = pow-suc b n ∙ ap (λ k. b ^ k * b) (one_less n)
  where
    one_less : (m : ℕ) → m ≡ suc m - 1
    one_less m = omega arith
