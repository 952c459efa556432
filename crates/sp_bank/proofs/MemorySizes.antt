-- The sizes of a memory's parts.
use Rattle.std.proofs.Common.{◌≡◌, ℕ, zero, suc, ◌+◌, ◌-◌, ◌*◌, ◌/◌, ◌%◌, ◌<◌, ◌≤◌, ◌^◌, List, [], ◌∷◌, ◌++◌, length, get_or, take, drop, ap, ◌∙◌, arith, min}
use Rattle.std.specs.List.{remove}
use Rattle.std.specs.Int.{div_ceil}
use Rattle.std.proofs.lemmas.Nat.{div-add-mod', mul-le, mul-add-lt}
use Rattle.std.proofs.lemmas.List.{take_more, take_all, length-drop}
use Rattle.sp_bank.specs.Places.{product_of, IsInside, row_major}

pub IsInside-take : (ds xs : List ℕ) (q : ℕ) → IsInside ds xs → IsInside (take q ds) (take q xs)
IsInside-take ds xs zero h = tt
IsInside-take [] [] (suc q) h = tt
IsInside-take [] (x ∷ xs) (suc q) h = absurd h
IsInside-take (d ∷ ds) [] (suc q) h = absurd h
IsInside-take (d ∷ ds) (x ∷ xs) (suc q) h = (h.0, IsInside-take ds xs q h.1)

pub IsInside-drop : (ds xs : List ℕ) (q : ℕ) → IsInside ds xs → IsInside (drop q ds) (drop q xs)
IsInside-drop ds xs zero h = h
IsInside-drop [] [] (suc q) h = tt
IsInside-drop [] (x ∷ xs) (suc q) h = absurd h
IsInside-drop (d ∷ ds) [] (suc q) h = absurd h
IsInside-drop (d ∷ ds) (x ∷ xs) (suc q) h = IsInside-drop ds xs q h.1

pub product_of-positive : (ds xs : List ℕ) → IsInside ds xs → 0 < product_of ds
product_of-positive [] [] h = omega arith
product_of-positive [] (x ∷ xs) h = absurd h
product_of-positive (d ∷ ds) [] h = absurd h
product_of-positive (d ∷ ds) (x ∷ xs) h =
    let both = mul-le 1 1 d (product_of ds) (omega (arith, h.0)) (product_of-positive ds xs h.1) in
    omega (arith, both)

pub product_of-append : (es bs : List ℕ) → product_of (es ++ bs) ≡ product_of es * product_of bs
product_of-append [] bs = omega arith
product_of-append (a ∷ es) bs =
    let grown : a * product_of (es ++ bs) ≡ a * (product_of es * product_of bs) = ap (λ z. a * z) (product_of-append es bs) in
    omega (arith, grown)

pub row_major-append : (es bs xs ys : List ℕ) → IsInside es xs → row_major (es ++ bs) (xs ++ ys) ≡ row_major es xs * product_of bs + row_major bs ys
row_major-append [] bs [] ys h = omega arith
row_major-append [] bs (x ∷ xs) ys h = absurd h
row_major-append (a ∷ es) bs [] ys h = absurd h
row_major-append (a ∷ es) bs (x ∷ xs) ys h =
    let rest = row_major-append es bs xs ys h.1 in
    let grown : x * product_of (es ++ bs) ≡ x * (product_of es * product_of bs) = ap (λ z. x * z) (product_of-append es bs) in
    omega (arith, rest, grown)

-- one dimension, and the others
pub product_of-remove : (ds : List ℕ) (q : ℕ) → q < length ds → product_of ds ≡ product_of (remove ds q) * get_or ds q 0
product_of-remove [] q h = absurd (omega arith)
product_of-remove (d ∷ ds) zero h = omega arith
product_of-remove (d ∷ ds) (suc q) h =
    let grown : d * product_of ds ≡ d * (product_of (remove ds q) * get_or ds q 0) = ap (λ z. d * z) (product_of-remove ds q (omega arith)) in
    omega (arith, grown)

pub div_ceil-le : (d p : ℕ) → 0 < p → div_ceil d p ≤ d
div_ceil-le d p h = few (d / p) (d % p) (div-add-mod' d p)
  where
    few : (q r : ℕ) → q * p + r ≡ d → q + min 1 r ≤ d
    few q r e =
        let more : q * 1 ≤ q * p = mul-le q 1 q p (omega arith) h in
        omega (arith, more, e)

-- the first dimensions' number and its successor stay within the memory
pub room_after : (before p others size n : ℕ) → before < p → 0 < size → p * others * size ≤ n → (before + 1) * others ≤ n
room_after before p others size n h s l =
    let up : (before + 1) * others ≤ p * others = mul-le (before + 1) others p others (omega arith) (omega arith) in
    let grown : p * others * 1 ≤ p * others * size = mul-le (p * others) 1 (p * others) size (omega arith) s in
    omega (arith, up, grown)

-- one dimension more
pub product_of-take : (ds : List ℕ) (i : ℕ) → i < length ds → product_of (take (i + 1) ds) ≡ product_of (take i ds) * get_or ds i 0
product_of-take ds i h =
    let grown = ap product_of (take_more ds i 0 h) ∙ product_of-append (take i ds) (get_or ds i 0 ∷ []) in
    omega (arith, grown)

pub row_major-take : (ds xs : List ℕ) (i : ℕ) → IsInside ds xs → length xs ≡ length ds → i < length ds →
    row_major (take (i + 1) ds) (take (i + 1) xs) ≡ row_major (take i ds) (take i xs) * get_or ds i 0 + get_or xs i 0
row_major-take ds xs i h l k =
    let split = ap (λ z. row_major z (take (i + 1) xs)) (take_more ds i 0 k)
    ∙ ap (λ z. row_major (take i ds ++ get_or ds i 0 ∷ []) z) (take_more xs i 0 (omega (arith, l)))
    ∙ row_major-append (take i ds) (get_or ds i 0 ∷ []) (take i xs) (get_or xs i 0 ∷ []) (IsInside-take ds xs i h) in
    omega (arith, split)

pub product_of-take-le : (ds xs : List ℕ) (i : ℕ) → IsInside ds xs → product_of (take i ds) ≤ product_of ds
product_of-take-le ds xs zero h = product_of-positive ds xs h
product_of-take-le [] [] (suc i) h = omega arith
product_of-take-le [] (x ∷ xs) (suc i) h = absurd h
product_of-take-le (d ∷ ds) [] (suc i) h = absurd h
product_of-take-le (d ∷ ds) (x ∷ xs) (suc i) h = mul-le d (product_of (take i ds)) d (product_of ds) (omega arith) (product_of-take-le ds xs i h.1)

-- a step of a row-major number, and what it stays below
pub step_below : (start number p d x : ℕ) → number < (start + 1) * p → x < d → number * d + x < (start + 1) * (p * d)
step_below start number p d x h k =
    let below = mul-add-lt number d x ((start + 1) * p) h k in
    omega (arith, below)

pub step_fits : (start p whole n : ℕ) → p ≤ whole → (start + 1) * whole ≤ n → (start + 1) * p ≤ n
step_fits start p whole n h k =
    let grown = mul-le (start + 1) p (start + 1) whole (omega arith) h in
    omega (arith, grown, k)

-- what is left of a list after one place
pub rest_is : (ds : List ℕ) (q : ℕ) → take (length ds - (q + 1)) (drop (q + 1) ds) ≡ drop (suc q) ds
rest_is ds q =
    take_all (length ds - (q + 1)) (drop (q + 1) ds) (omega (arith, length-drop (q + 1) ds)) ∙ ap (λ n. drop n ds) (one_more q)
  where
    one_more : (n : ℕ) → n + 1 ≡ suc n
    one_more n = omega arith

pub row_small : (lead p h c d n : ℕ) → lead < p → h < c → c ≤ d → p * d ≤ n → lead * c + h < n
row_small lead p h c d n l k m e =
    let row = mul-add-lt lead c h p l k in
    let grown = mul-le c p d p m (omega arith) in
    omega (arith, row, grown, e)

pub cells_small : (row b r : ℕ) → row < 4294967295 → b ≤ 4 → r < b → row * b + r < 2 ^ 64
cells_small row b r h k l =
    let grown = mul-le row b 4294967295 4 (omega arith) k in
    omega (arith, grown)
