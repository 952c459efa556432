-- Numbers that follow one another.
use Rattle.std.proofs.Common.{◌≡◌, ℕ, zero, suc, ◌+◌, List, [], ◌∷◌, ◌++◌, map, length, length-append, refl, ap, subst, ◌∙◌, arith}
use Rattle.sp_tree.specs.Elements.{numbers_below}

-- from a number on
abbrev pub IsRun : ℕ → List ℕ → Type 0
IsRun n [] = Unit {0}
IsRun n (x ∷ xs) = (x ≡ n) × IsRun (suc n) xs

pub run_left : (n : ℕ) (xs ys : List ℕ) → IsRun n (xs ++ ys) → IsRun n xs
run_left n [] ys h = tt
run_left n (x ∷ xs) ys h = (h.0, run_left (suc n) xs ys h.1)

pub run_right : (n : ℕ) (xs ys : List ℕ) → IsRun n (xs ++ ys) → IsRun (n + length xs) ys
run_right n [] ys h = let e : n ≡ n + 0 = omega arith in subst (λ k. IsRun k ys) e h
run_right n (x ∷ xs) ys h = let e : suc n + length xs ≡ n + suc (length xs) = omega arith in subst (λ k. IsRun k ys) e (run_right (suc n) xs ys h.1)

run_join : (n : ℕ) (xs ys : List ℕ) → IsRun n xs → IsRun (n + length xs) ys → IsRun n (xs ++ ys)
run_join n [] ys h g = let e : n + 0 ≡ n = omega arith in subst (λ k. IsRun k ys) e g
run_join n (x ∷ xs) ys h g = let e : n + suc (length xs) ≡ suc n + length xs = omega arith in (h.0, run_join (suc n) xs ys h.1 (subst (λ k. IsRun k ys) e g))

below_length : (n : ℕ) → length (numbers_below n) ≡ n
below_length zero = refl
below_length (suc n) = length-append (numbers_below n) (n ∷ []) ∙ omega (arith, below_length n)

pub below_run : (n : ℕ) → IsRun 0 (numbers_below n)
below_run zero = tt
below_run (suc n) = run_join 0 (numbers_below n) (n ∷ []) (below_run n) (let e : n ≡ 0 + length (numbers_below n) = omega (arith, below_length n) in (e, tt))

pub mapped_length : {A B : Type 0} (f : A → B) (xs : List A) → length (map f xs) ≡ length xs
mapped_length f [] = refl
mapped_length f (x ∷ xs) = ap (λ n. suc n) (mapped_length f xs)
