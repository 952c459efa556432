-- A controller has no more groups than its counters' counts say.
use Rattle.std.proofs.Common.{◌≡◌, ℕ, zero, suc, ◌+◌, ◌-◌, ◌*◌, ◌<◌, ◌≤◌, ℤ, List, [], ◌∷◌, map, length, arith, refl, sym, subst, ap, ◌∙◌}
use Rattle.std.proofs.lemmas.List.{length-append, length-map, length_push}
use Rattle.std.proofs.Math.Nat.{suc-mul, mul_assoc, mul_comm, div-zero, lt-div-mul-add, div-lt_iff_lt-mul, mul-le-mul_left, mul-le-mul_right}
use Rattle.std.specs.Prelude.{◌/◌, pos, ◌+ℤ◌, flat_map}
use Rattle.sp_core.specs.Cost.{group_count}
use Rattle.sp_core.specs.Elements.{numbers_below, length_between, count_below, values_below}
use Rattle.sp_core.specs.History.{Bounds}
use Rattle.sp_core.specs.PlainCore.{PlainCounter}
use Rattle.sp_core.specs.Scope.{in_lanes, Loop, loop_of, loops_of, counts_of, group_values}
use Rattle.sp_core.specs.Shape.{ceil_div}

-- n / m rounded up times m is no less than n, and it is the least number that is so
pub ceil_covers : (n m : ℕ) → 0 < m → n ≤ ceil_div n m * m
ceil_covers n m h = let a : n + (m - 1) < (n + (m - 1)) / m * m + m = lt-div-mul-add {a = n + (m - 1)} {b = m} h in omega arith

pub ceil_least : (n m q : ℕ) → 0 < m → n ≤ q * m → ceil_div n m ≤ q
ceil_least n m q h l =
    let e : suc q * m ≡ q * m + m = suc-mul q m in
    let a : n + (m - 1) < suc q * m = omega arith in
    let b : (n + (m - 1)) / m < suc q = (div-lt_iff_lt-mul {k = m} {x = n + (m - 1)} {y = suc q} h).1 a in
    omega arith

ceil_zero : (n m : ℕ) → m ≡ 0 → ceil_div n m ≡ 0
ceil_zero n m e = ap (λ k. (n + (m - 1)) / k) e ∙ div-zero (n + (m - 1))

-- rounding up twice gives no less than once, and more at a time no more
pub ceil_twice : (a b c : ℕ) → ceil_div a (b * c) ≤ ceil_div (ceil_div a b) c
ceil_twice a zero c = let e : ceil_div a (0 * c) ≡ 0 = ceil_zero a (0 * c) (omega arith) in omega arith
ceil_twice a (suc b) zero = let e : ceil_div a (suc b * 0) ≡ 0 = ceil_zero a (suc b * 0) (omega arith) in omega arith
ceil_twice a (suc b) (suc c) =
    let r : ℕ = ceil_div a (suc b) in
    let q : ℕ = ceil_div r (suc c) in
    let x : r ≤ q * suc c = ceil_covers r (suc c) (omega arith) in
    let y : a ≤ r * suc b = ceil_covers a (suc b) (omega arith) in
    let z : r * suc b ≤ q * suc c * suc b = mul-le-mul_right (suc b) x in
    let e : q * suc c * suc b ≡ q * (suc b * suc c) = mul_assoc q (suc c) (suc b) ∙ ap (λ k. q * k) (mul_comm (suc c) (suc b)) in
    let p : 0 < suc b * suc c = subst (λ k. 0 < k) (sym (suc-mul b (suc c))) (omega arith) in
    ceil_least a (suc b * suc c) q p (omega arith)

pub ceil_fewer : (a b c : ℕ) → ceil_div a (b * c) ≤ ceil_div a b
ceil_fewer a zero c = let e : ceil_div a (0 * c) ≡ 0 = ceil_zero a (0 * c) (omega arith) in omega arith
ceil_fewer a (suc b) zero = let e : ceil_div a (suc b * 0) ≡ 0 = ceil_zero a (suc b * 0) (omega arith) in omega arith
ceil_fewer a (suc b) (suc c) =
    let r : ℕ = ceil_div a (suc b) in
    let y : a ≤ r * suc b = ceil_covers a (suc b) (omega arith) in
    let w : suc b ≤ suc b * suc c = subst (λ k. suc b ≤ k) (sym (suc-mul b (suc c))) (more b c) in
    let z : r * suc b ≤ r * (suc b * suc c) = mul-le-mul_left r w in
    let p : 0 < suc b * suc c = subst (λ k. 0 < k) (sym (suc-mul b (suc c))) (omega arith) in
    ceil_least a (suc b * suc c) r p (omega arith)
  where
    more : (b c : ℕ) → suc b ≤ b * suc c + suc c
    more b c = let a : b * 1 ≤ b * suc c = mul-le-mul_left b (omega arith) in omega arith

-- how many tuples there are
numbers_length : (n : ℕ) → length (numbers_below n) ≡ n
numbers_length zero = refl
numbers_length (suc n) = let h : length (numbers_below n) ≡ n = numbers_length n in length_push (numbers_below n) n ∙ omega arith

product_length : {A : Type 0} (xs : List A) (rest : List (List A)) → length (flat_map (λ x. map (λ others. x ∷ others) rest) xs) ≡ length xs * length rest
product_length [] rest = omega arith
product_length (x ∷ xs) rest =
    let h : length (flat_map (λ x. map (λ others. x ∷ others) rest) xs) ≡ length xs * length rest = product_length xs rest in
    let e : suc (length xs) * length rest ≡ length xs * length rest + length rest = suc-mul (length xs) (length rest) in
    length-append (map (λ others. x ∷ others) rest) (flat_map (λ x. map (λ others. x ∷ others) rest) xs) ∙ omega (arith, length-map rest (λ others. x ∷ others))

values_length : (a b : ℤ) (step : ℕ) → length (values_below a b step) ≡ count_below a b step
values_length a b step = length-map (numbers_below (count_below a b step)) (λ k. a +ℤ pos (k * step)) ∙ numbers_length (count_below a b step)

pub groups_few : (counters : List PlainCounter) (bs : List Bounds) → length (group_values (loops_of in_lanes counters bs)) ≤ group_count counters (counts_of (loops_of in_lanes counters bs))
groups_few [] bs = omega arith
groups_few (c ∷ []) [] = omega arith
groups_few (c ∷ d ∷ counters) [] = omega arith
groups_few (c ∷ []) (b ∷ bs) =
    let l : Loop = loop_of in_lanes c b in
    let e : length (group_values (l ∷ [])) ≡ length (values_below l.from l.until l.advance) * 1 = product_length (values_below l.from l.until l.advance) ([] ∷ []) in
    let v : length (values_below l.from l.until l.advance) ≡ count_below l.from l.until l.advance = values_length l.from l.until l.advance in
    let t : count_below l.from l.until l.advance ≤ ceil_div (count_below l.from l.until l.by) c.par = ceil_twice (length_between l.from l.until) c.by c.par in
    omega arith
groups_few (c ∷ d ∷ counters) (b ∷ bs) =
    let l : Loop = loop_of in_lanes c b in
    let others : ℕ = length (group_values (loops_of in_lanes (d ∷ counters) bs)) in
    let more : ℕ = group_count (d ∷ counters) (counts_of (loops_of in_lanes (d ∷ counters) bs)) in
    let e : length (group_values (l ∷ loops_of in_lanes (d ∷ counters) bs)) ≡ length (values_below l.from l.until l.advance) * others =
    product_length (values_below l.from l.until l.advance) (group_values (loops_of in_lanes (d ∷ counters) bs)) in
    let v : length (values_below l.from l.until l.advance) ≡ count_below l.from l.until l.advance = values_length l.from l.until l.advance in
    let t : count_below l.from l.until l.advance ≤ count_below l.from l.until l.by = ceil_fewer (length_between l.from l.until) c.by c.par in
    let h : others ≤ more = groups_few (d ∷ counters) bs in
    let x : length (values_below l.from l.until l.advance) * others ≤ count_below l.from l.until l.by * others = mul-le-mul_right others (omega arith) in
    let y : count_below l.from l.until l.by * others ≤ count_below l.from l.until l.by * more = mul-le-mul_left (count_below l.from l.until l.by) h in
    omega arith
