-- The row-major number of all indices but one.
use Rattle.std.proofs.Common.{◌≡◌, ℕ, suc, ◌+◌, ◌-◌, ◌*◌, ◌%◌, List, length, take, drop, map, sym, ap, subst, ◌∙◌, arith}
use Rattle.std.specs.List.{remove, take-map}
use Rattle.std.proofs.Math.Nat.{mod-add-mod}
use Rattle.std.proofs.lemmas.Nat.{mul-mod_first}
use Rattle.std.proofs.lemmas.List.{drop-map}
use Rattle.sp_bank.specs.Places.{product_of, IsInside, row_major}
use Rattle.sp_bank.proofs.MemorySizes.{IsInside-take, IsInside-drop, row_major-append, rest_is}

-- numbers that are equal modulo m, so many times and with another
scaled : (m a b p r : ℕ) → a % m ≡ b % m → (a * p + r) % m ≡ (b * p + r) % m
scaled m a b p r e =
    sym (mod-add-mod (a * p) m r)
    ∙ ap (λ n. (n + r) % m) (sym (mul-mod_first a p m) ∙ ap (λ n. n * p % m) e ∙ mul-mod_first b p m)
    ∙ mod-add-mod (b * p) m r

pub lead_is : (m : ℕ) (f : ℕ → ℕ) (dims nets : List ℕ) (q z before new : ℕ) → z ≡ 0 → IsInside dims (map f nets)
    → (IsInside (take q dims) (map f (take q nets)) → before % m ≡ (z * product_of (take q dims) + row_major (take q dims) (map f (take q nets))) % m)
    → (IsInside (take (length dims - (q + 1)) (drop (q + 1) dims)) (map f (take (length nets - (q + 1)) (drop (q + 1) nets)))
    → new % m ≡ (before * product_of (take (length dims - (q + 1)) (drop (q + 1) dims)) + row_major (take (length dims - (q + 1)) (drop (q + 1) dims)) (map f (take (length nets - (q + 1)) (drop (q + 1) nets)))) % m)
    → new % m ≡ row_major (remove dims q) (remove (map f nets) q) % m
lead_is m f dims nets q z before new zero_is inside first second =
    let front = IsInside-take dims (map f nets) q inside in
    let back = IsInside-drop dims (map f nets) (suc q) inside in
    let front_words : take q (map f nets) ≡ map f (take q nets) = take-map f q nets in
    let back_words : drop (suc q) (map f nets) ≡ map f (take (length nets - (q + 1)) (drop (q + 1) nets)) = drop-map f (suc q) nets ∙ ap (map f) (sym (rest_is nets q)) in
    let one : before % m ≡ row_major (take q dims) (take q (map f nets)) % m =
    first (subst (IsInside (take q dims)) front_words front)
    ∙ ap (λ n. (n * product_of (take q dims) + row_major (take q dims) (map f (take q nets))) % m) zero_is
    ∙ ap (λ n. n % m) (omega arith)
    ∙ ap (λ xs. row_major (take q dims) xs % m) (sym front_words) in
    let two : new % m ≡ (before * product_of (drop (suc q) dims) + row_major (drop (suc q) dims) (drop (suc q) (map f nets))) % m =
    second (subst (λ ds. IsInside ds (map f (take (length nets - (q + 1)) (drop (q + 1) nets)))) (sym (rest_is dims q)) (subst (IsInside (drop (suc q) dims)) back_words back))
    ∙ ap (λ ds. (before * product_of ds + row_major ds (map f (take (length nets - (q + 1)) (drop (q + 1) nets)))) % m) (rest_is dims q)
    ∙ ap (λ xs. (before * product_of (drop (suc q) dims) + row_major (drop (suc q) dims) xs) % m) (sym back_words) in
    two
    ∙ scaled m before (row_major (take q dims) (take q (map f nets))) (product_of (drop (suc q) dims)) (row_major (drop (suc q) dims) (drop (suc q) (map f nets))) one
    ∙ ap (λ n. n % m) (sym (row_major-append (take q dims) (drop (suc q) dims) (take q (map f nets)) (drop (suc q) (map f nets)) front))
