-- How many numbers below a bound pass a test.
use Rattle.std.proofs.Common.{◌≡◌, ℕ, zero, suc, ◌+◌, ◌<◌, ◌≤◌, Bool, true, false, cond, [], ◌∷◌, length, filter, refl, ap, ◌∙◌, ⊎_elim, arith}
use Rattle.std.proofs.lemmas.Bool.{cases_lt}
use Rattle.std.proofs.lemmas.List.{length-append}
use Rattle.std.proofs.lemmas.List.Elements.{filter-append}
use Rattle.sp_core.specs.Elements.{numbers_below}

abbrev pub count_below : (f : ℕ → Bool) (n : ℕ) → ℕ
count_below f n = length (filter f (numbers_below n))

one_or_none : (b : Bool) (n : ℕ) → length (cond b (n ∷ []) []) ≡ cond b 1 0
one_or_none true n = refl
one_or_none false n = refl

pub count_next : (f : ℕ → Bool) (n : ℕ) → count_below f (suc n) ≡ count_below f n + cond (f n) 1 0
count_next f n =
    ap length (filter-append f (numbers_below n) (n ∷ [])) ∙ length-append (filter f (numbers_below n)) (filter f (n ∷ []))
    ∙ ap (λ k. count_below f n + k) (one_or_none (f n) n)

pub count_more : (f : ℕ → Bool) (n : ℕ) → f n ≡ true → count_below f (suc n) ≡ count_below f n + 1
count_more f n e = count_next f n ∙ ap (λ b. count_below f n + cond b 1 0) e

pub count_same : (f : ℕ → Bool) (n : ℕ) → f n ≡ false → count_below f (suc n) ≡ count_below f n + 0
count_same f n e = count_next f n ∙ ap (λ b. count_below f n + cond b 1 0) e

-- fewer before one that passes than before a greater number
pub count_grows : (f : ℕ → Bool) (a n : ℕ) → a < n → f a ≡ true → count_below f a < count_below f n
count_grows f a zero lt e = absurd (omega arith)
count_grows f a (suc n) lt e = ⊎_elim
    (λ b. let h = count_grows f a n b e in let m = count_next f n in omega (arith, m, h))
    (λ b. let same : n ≡ a = omega arith in let m = count_more f n (ap f same ∙ e) in let s = ap (count_below f) same in omega (arith, m, s))
    (cases_lt a n)

-- a number that passes, with so many before it
pub record IsCounted (f : ℕ → Bool) (n c : ℕ) : Type 0 where
  pub place : ℕ
  pub below : place < n
  pub found : f place ≡ true
  pub count : count_below f place ≡ c

last_counted : (f : ℕ → Bool) (n c : ℕ) (b : Bool) → f n ≡ b → c < count_below f (suc n) → count_below f n ≤ c → IsCounted f (suc n) c
last_counted f n c true e lt le = let m = count_more f n e in record { place = n; below = omega arith; found = e; count = omega (arith, m) }
last_counted f n c false e lt le = let m = count_same f n e in absurd (omega (arith, m))

pub counted_at : (f : ℕ → Bool) (n c : ℕ) → c < count_below f n → IsCounted f n c
counted_at f zero c lt = absurd (omega arith)
counted_at f (suc n) c lt = ⊎_elim
    (λ b. let k = counted_at f n c b in record { place = k.place; below = (let b = k.below in omega arith); found = k.found; count = k.count })
    (λ b. last_counted f n c (f n) refl lt b)
    (cases_lt c (count_below f n))
