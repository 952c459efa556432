-- Bank and offset determine the element.
use Rattle.std.proofs.Common.{◌≡◌, ℕ, zero, suc, ◌+◌, ◌-◌, ◌*◌, ◌/◌, ◌%◌, ◌<◌, ◌≤◌, List, [], ◌∷◌, length, get_or, refl, ap, sym, ◌∙◌, arith, ◌⊎◌, inl, inr, min}
use Rattle.std.specs.List.{remove}
use Rattle.std.specs.Int.{IsGcd, div_ceil, ◌∣◌}
use Rattle.std.proofs.lemmas.Nat.{div-add-mod', mod_below, same_from_place, mul-add-lt, mul-lt, div_below}
use Rattle.std.proofs.lemmas.Nat.Gcd.{dvd_of_mod-eq-zero}
use Rattle.std.proofs.lemmas.Bool.Decides.{leb_tells}
use Rattle.sp_bank.specs.Banking.{Banking, InSpace, period}
use Rattle.sp_bank.specs.Places.{weighted, product_of, IsInside, row_major, bank, offset, periods, bank_length}
use Rattle.sp_bank.proofs.Gcd.{coprime_divides, factor_from}

pub row_major-below : (ds xs : List ℕ) → IsInside ds xs → row_major ds xs < product_of ds
row_major-below [] [] h = omega arith
row_major-below [] (x ∷ xs) h = absurd h
row_major-below (d ∷ ds) [] h = absurd h
row_major-below (d ∷ ds) (x ∷ xs) h =
    let below = mul-add-lt x (product_of ds) (row_major ds xs) d h.0 (row_major-below ds xs h.1) in
    omega (arith, below)

pub row_major-unique : (ds xs ys : List ℕ) → IsInside ds xs → IsInside ds ys → row_major ds xs ≡ row_major ds ys → xs ≡ ys
row_major-unique [] [] [] h k e = refl
row_major-unique [] [] (y ∷ ys) h k e = absurd k
row_major-unique [] (x ∷ xs) ys h k e = absurd h
row_major-unique (d ∷ ds) [] ys h k e = absurd h
row_major-unique (d ∷ ds) (x ∷ xs) [] h k e = absurd k
row_major-unique (d ∷ ds) (x ∷ xs) (y ∷ ys) h k e =
    let both = same_from_place x (row_major ds xs) y (row_major ds ys) (product_of ds) (row_major-below ds xs h.1) (row_major-below ds ys k.1) e in
    let rest = row_major-unique ds xs ys h.1 k.1 both.1 in
    ap (λ z. z ∷ xs) both.0 ∙ ap (λ zs. y ∷ zs) rest

pub IsInside-remove : (ds xs : List ℕ) (q : ℕ) → q < length ds → IsInside ds xs → IsInside (remove ds q) (remove xs q)
IsInside-remove [] xs q h k = absurd (omega arith)
IsInside-remove (d ∷ ds) [] q h k = absurd k
IsInside-remove (d ∷ ds) (x ∷ xs) zero h k = k.1
IsInside-remove (d ∷ ds) (x ∷ xs) (suc q) h k = (k.0, IsInside-remove ds xs q (omega arith) k.1)

pub IsInside-at : (ds xs : List ℕ) (q : ℕ) → q < length ds → IsInside ds xs → get_or xs q 0 < get_or ds q 0
IsInside-at [] xs q h k = absurd (omega arith)
IsInside-at (d ∷ ds) [] q h k = absurd k
IsInside-at (d ∷ ds) (x ∷ xs) zero h k = k.0
IsInside-at (d ∷ ds) (x ∷ xs) (suc q) h k = IsInside-at ds xs q (omega arith) k.1

pub IsInside-length : (ds xs : List ℕ) → IsInside ds xs → length xs ≡ length ds
IsInside-length [] [] h = refl
IsInside-length [] (x ∷ xs) h = absurd h
IsInside-length (d ∷ ds) [] h = absurd h
IsInside-length (d ∷ ds) (x ∷ xs) h = ap suc (IsInside-length ds xs h.1)

-- a list is known by one element and the others
same_from_remove : (xs ys : List ℕ) (q : ℕ) → q < length xs → length xs ≡ length ys → remove xs q ≡ remove ys q → get_or xs q 0 ≡ get_or ys q 0 → xs ≡ ys
same_from_remove [] ys q h l e f = absurd (omega arith)
same_from_remove (x ∷ xs) [] q h l e f = absurd (omega arith)
same_from_remove (x ∷ xs) (y ∷ ys) zero h l e f = ap (λ z. z ∷ xs) f ∙ ap (λ zs. y ∷ zs) e
same_from_remove (x ∷ xs) (y ∷ ys) (suc q) h l e f =
    let heads : x ≡ y = cc in
    let tails : remove xs q ≡ remove ys q = cc in
    ap (λ z. z ∷ xs) heads ∙ ap (λ zs. y ∷ zs) (same_from_remove xs ys q (omega arith) (omega arith) tails f)

-- the weighted sum is the hinge's part and the others
weighted-remove : (alpha xs : List ℕ) (q : ℕ) → q < length alpha → length xs ≡ length alpha →
    weighted alpha xs ≡ get_or alpha q 0 * get_or xs q 0 + weighted (remove alpha q) (remove xs q)
weighted-remove [] xs q h l = absurd (omega arith)
weighted-remove (a ∷ alpha) [] q h l = absurd (omega arith)
weighted-remove (a ∷ alpha) (x ∷ xs) zero h l = refl
weighted-remove (a ∷ alpha) (x ∷ xs) (suc q) h l = omega (arith, weighted-remove alpha xs q (omega arith) (omega arith))

-- the number of periods is more than that of any index
pub below_periods : (x d p : ℕ) → 0 < p → x < d → x / p < div_ceil d p
below_periods x d p h k = div_below x p _ h (enough d (d / p) (d % p) (sym (div-add-mod' d p)) (mod_below d p h) k)
  where
    enough : (n q r : ℕ) → n ≡ q * p + r → r < p → x < n → x < (q + min 1 r) * p
    enough n q zero e s l = omega arith
    enough n q (suc r) e s l =
        let one : min 1 (suc r) ≡ 1 = omega arith in
        let grown : (q + min 1 (suc r)) * p ≡ (q + 1) * p = ap (λ z. (q + z) * p) one in
        omega (arith, grown)

-- what is left by the period is known by the bank and what is left by the block
split_period : (w n b : ℕ) → w ≡ w / b / n * (n * b) + ((w / b % n) * b + w % b)
split_period w n b =
    let outer = div-add-mod' w b in
    let inner = div-add-mod' (w / b) n in
    let grown : (w / b / n * n + w / b % n) * b ≡ w / b * b = ap (λ z. z * b) inner in
    omega (arith, outer, grown)

-- two indices along the hinge that agree up to whole periods are equal
hinge_step : (a p x y o t t' r : ℕ) → 0 < p → IsGcd a p 1 → x / p ≡ y / p → a * x + o ≡ t * p + r → a * y + o ≡ t' * p + r → y ≤ x → x ≡ y
hinge_step a p x y o t t' r h g e f f' l =
    let gap = x - y in
    let is_gap : gap + y ≡ x = omega arith in
    let grown : a * gap + a * y ≡ a * x = (let z : a * (gap + y) ≡ a * x = ap (λ z. a * z) is_gap in omega (arith, z)) in
    let split = div-add-mod' (a * gap) p in
    let small = mod_below (a * gap) p h in
    let same : (a * gap / p + t') * p + a * gap % p ≡ t * p + 0 = omega (arith, grown, split, f, f') in
    let divides : p ∣ (a * gap) = dvd_of_mod-eq-zero p (same_from_place (a * gap / p + t') (a * gap % p) t 0 p small h same).1 in
    let (k, is_multiple) = factor_from p gap (coprime_divides a p gap h g divides) in
    let split_x = div-add-mod' x p in
    let split_y = div-add-mod' y p in
    let low_x = mod_below x p h in
    let quotients : x / p * p ≡ y / p * p = ap (λ z. z * p) e in
    let short : gap < p = omega (arith, split_x, split_y, low_x, quotients) in
    let nothing = same_from_place k 0 0 gap p h short (omega (arith, is_multiple)) in
    omega (arith, nothing.1)

along_hinge : (a p x y o t t' r : ℕ) → 0 < p → IsGcd a p 1 → x / p ≡ y / p → a * x + o ≡ t * p + r → a * y + o ≡ t' * p + r → x ≡ y
along_hinge a p x y o t t' r h g e f f' = elim (leb_tells y x) [
  | inl u ↦ hinge_step a p x y o t t' r h g e f f' u.1
  | inr u ↦ sym (hinge_step a p y x o t' t r h g (sym e) f' f (omega (arith, u.1)))
]

-- ---- the theorem

pub same_element : (s : Banking) (dims xs ys : List ℕ) → InSpace s → length dims ≡ length s.alpha → IsInside dims xs → IsInside dims ys →
    bank s xs ≡ bank s ys → offset s dims xs ≡ offset s dims ys → xs ≡ ys
same_element s dims xs ys space rank in_x in_y same_bank same_offset =
    let q = s.hinge in
    let hinge_below : q < length s.alpha = space.size.hinge_place in
    let hinge_in : q < length dims = omega (arith, rank) in
    let long_x = IsInside-length dims xs in_x in
    let long_y = IsInside-length dims ys in_y in
    let block_some : 0 < s.block = block_positive s.block space.size.allowed_block in
    let period_some : 0 < s.banks * s.block = mul-lt 0 0 s.banks s.block (omega (arith, space.size.some_bank)) block_some in
    let outer = same_from_place _ (weighted s.alpha xs % s.block) _ (weighted s.alpha ys % s.block) s.block
    (mod_below (weighted s.alpha xs) s.block block_some) (mod_below (weighted s.alpha ys) s.block block_some) same_offset in
    let inner = same_from_place _ (get_or xs q 0 / period s) _ (get_or ys q 0 / period s) (periods s dims)
    (below_periods (get_or xs q 0) (get_or dims q 0) (period s) period_some (IsInside-at dims xs q hinge_in in_x))
    (below_periods (get_or ys q 0) (get_or dims q 0) (period s) period_some (IsInside-at dims ys q hinge_in in_y)) outer.0 in
    let others = row_major-unique (remove dims q) (remove xs q) (remove ys q)
    (IsInside-remove dims xs q hinge_in in_x) (IsInside-remove dims ys q hinge_in in_y) inner.0 in
    let rest = same_rest (weighted s.alpha xs / s.block % s.banks) (weighted s.alpha ys / s.block % s.banks)
    (weighted s.alpha xs % s.block) (weighted s.alpha ys % s.block) s.block same_bank outer.1 in
    let along = along_hinge (get_or s.alpha q 0) (s.banks * s.block) (get_or xs q 0) (get_or ys q 0) (weighted (remove s.alpha q) (remove xs q))
    (weighted s.alpha xs / s.block / s.banks) (weighted s.alpha ys / s.block / s.banks)
    ((weighted s.alpha xs / s.block % s.banks) * s.block + weighted s.alpha xs % s.block)
    period_some space.hinge inner.1
    (sym (weighted-remove s.alpha xs q hinge_below (long_x ∙ rank)) ∙ split_period (weighted s.alpha xs) s.banks s.block)
    (ap (λ z. get_or s.alpha q 0 * get_or ys q 0 + weighted (remove s.alpha q) z) others
    ∙ sym (weighted-remove s.alpha ys q hinge_below (long_y ∙ rank)) ∙ split_period (weighted s.alpha ys) s.banks s.block
    ∙ ap (λ z. weighted s.alpha ys / s.block / s.banks * (s.banks * s.block) + z) (sym rest)) in
    same_from_remove xs ys q (omega (arith, long_x)) (long_x ∙ sym long_y) others along
  where
    block_positive : (b : ℕ) → (b ≡ 1) ⊎ ((b ≡ 2) ⊎ (b ≡ 4)) → 0 < b
    block_positive b (inl e) = omega arith
    block_positive b (inr (inl e)) = omega arith
    block_positive b (inr (inr e)) = omega arith

    same_rest : (k k' r r' b : ℕ) → k ≡ k' → r ≡ r' → k * b + r ≡ k' * b + r'
    same_rest k k' r r' b e f = ap (λ z. z * b + r) e ∙ ap (λ z. k' * b + z) f

-- an offset is below the length of a bank
pub offset-below : (s : Banking) (dims xs : List ℕ) → InSpace s → length dims ≡ length s.alpha → IsInside dims xs →
    offset s dims xs < bank_length s dims
offset-below s dims xs space rank in_x =
    let q = s.hinge in
    let hinge_in : q < length dims = omega (arith, rank, space.size.hinge_place) in
    let block_some : 0 < s.block = block_positive s.block space.size.allowed_block in
    let period_some : 0 < s.banks * s.block = mul-lt 0 0 s.banks s.block (omega (arith, space.size.some_bank)) block_some in
    let lead = row_major-below (remove dims q) (remove xs q) (IsInside-remove dims xs q hinge_in in_x) in
    let along = below_periods (get_or xs q 0) (get_or dims q 0) (period s) period_some (IsInside-at dims xs q hinge_in in_x) in
    let row = mul-add-lt (row_major (remove dims q) (remove xs q)) (periods s dims) (get_or xs q 0 / period s) (product_of (remove dims q)) lead along in
    let whole = mul-add-lt (row_major (remove dims q) (remove xs q) * periods s dims + get_or xs q 0 / period s) s.block
    (weighted s.alpha xs % s.block) (periods s dims * product_of (remove dims q)) (turn _ _ _ row) (mod_below (weighted s.alpha xs) s.block block_some) in
    turned _ s.block (periods s dims) (product_of (remove dims q)) whole
  where
    block_positive : (b : ℕ) → (b ≡ 1) ⊎ ((b ≡ 2) ⊎ (b ≡ 4)) → 0 < b
    block_positive b (inl e) = omega arith
    block_positive b (inr (inl e)) = omega arith
    block_positive b (inr (inr e)) = omega arith

    turn : (z c p : ℕ) → z < c * p → z < c * p
    turn z c p h = h

    turned : (z b c p : ℕ) → z < b * (c * p) → z < p * (c * b)
    turned z b c p h = omega arith
