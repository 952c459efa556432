-- Values that a sum of terms has are values that it may have.
use Rattle.std.proofs.Common.{◌≡◌, ℕ, zero, suc, ◌+◌, ◌*◌, ◌/◌, ◌%◌, Bool, true, false, not, ◌&&◌, ℤ, pos, negsuc, ◌+ℤ◌, ◌*ℤ◌, ◌≤ℤ◌, ◌<ℤ◌, List, [], ◌∷◌, ◌++◌, refl, ap, sym, ◌∙◌, subst, arith, unsigned_abs}
use Rattle.std.specs.Prelude.{Option, Some, None, int_lt, if◌then◌else◌}
use Rattle.std.specs.Int.{◌∣◌}
use Rattle.std.proofs.lemmas.Int.{ints, unsigned_abs-mul}
use Rattle.std.proofs.lemmas.Nat.{div-add-mod'}
use Rattle.std.proofs.lemmas.Nat.Gcd.{mod-eq-zero_of_dvd}
use Rattle.std.proofs.lemmas.Bool.Decides.{Decides-eqb}
use Rattle.sp_deps.specs.declared.sum.Range.{Range}
use Rattle.sp_deps.specs.declared.sum.Term.{Term}
use Rattle.sp_deps.specs.Sums.{gcd, times, least_of, greatest_of, add_ends, sum_of, is_multiple, is_from, is_up_to, may_be}
use Rattle.sp_deps.proofs.Divisors.{gcd_is}
use Rattle.sp_deps.proofs.Integers.{add-mul_ℤ, mul_assoc_ℤ, mul_right_comm_ℤ, mul-le_ℤ, mul-le_down_ℤ}
use Rattle.sp_deps.proofs.Multiples.{quotient, times_it}

-- a value within a range
pub record IsIn (r : Range) (v : ℤ) : Type 0 where
  pub low : is_from r.least v ≡ true
  pub high : is_up_to r.greatest v ≡ true

-- a value of the sum of terms, where each has a value within its range
abbrev pub Reaches : List Term → ℤ → Type 0
Reaches [] z = z ≡ pos 0
Reaches (t ∷ ts) z = (v w : ℤ) × IsIn t.range v × Reaches ts w × (z ≡ (t.coef *ℤ v) +ℤ w)

pub reach_append : (ts us : List Term) (a b z : ℤ) → Reaches ts a → Reaches us b → z ≡ a +ℤ b → Reaches (ts ++ us) z
reach_append [] us a b z r s e = let P : ℤ → Type 0 = Reaches us in subst P (same a b z r e) s
  where
    same : (a b z : ℤ) → a ≡ pos 0 → z ≡ a +ℤ b → b ≡ z
    same a b z e f = omega (arith, ints)
reach_append (t ∷ ts) us a b z (v, w, i, r, e) s f =
    (v, w +ℤ b, i, reach_append ts us w b (w +ℤ b) r s refl, regrouped a (t.coef *ℤ v) e f)
  where
    regrouped : (a p : ℤ) → a ≡ p +ℤ w → z ≡ a +ℤ b → z ≡ p +ℤ (w +ℤ b)
    regrouped a p e f = omega (arith, ints)

-- a multiple, with its quotient
abbrev Times : ℕ → ℤ → Type 0
Times d z = (q : ℤ) × (z ≡ q *ℤ pos d)

times_more : (d e : ℕ) (z : ℤ) → d ∣ e → Times e z → Times d z
times_more d e z h (q, is) =
    let whole : pos e ≡ pos (e / d) *ℤ pos d = counted d e (mod-eq-zero_of_dvd d h) (div-add-mod' e d) in
    (q *ℤ pos (e / d), is ∙ ap (λ x. q *ℤ x) whole ∙ sym (mul_assoc_ℤ q (pos (e / d)) (pos d)))
  where
    counted : (d e : ℕ) → e % d ≡ 0 → e / d * d + e % d ≡ e → pos e ≡ pos (e / d) *ℤ pos d
    counted d e h k = omega (arith, ints, h, k)

of_size : (d : ℕ) (c : ℤ) → d ∣ unsigned_abs c → Times d c
of_size d c h = quotient c d (mod-eq-zero_of_dvd d h)

times_plus : (d : ℕ) (c v w : ℤ) → Times d c → Times d w → Times d ((c *ℤ v) +ℤ w)
times_plus d c v w (q, is_c) (p, is_w) =
    let first : c *ℤ v ≡ (q *ℤ v) *ℤ pos d = ap (λ x. x *ℤ v) is_c ∙ mul_right_comm_ℤ q (pos d) v in
    ((q *ℤ v) +ℤ p, joined (c *ℤ v) ((q *ℤ v) *ℤ pos d) w (p *ℤ pos d) _ first is_w (add-mul_ℤ (q *ℤ v) p (pos d)))
  where
    joined : (a b c d e : ℤ) → a ≡ b → c ≡ d → e ≡ b +ℤ d → a +ℤ c ≡ e
    joined a b c d e f g h = omega (arith, ints)

reached_divides : (ts : List Term) (z : ℤ) → Reaches ts z → Times (sum_of ts).divisor z
reached_divides [] z h = (pos 0, h)
reached_divides (t ∷ ts) z (v, w, i, r, e) =
    let common = gcd_is (unsigned_abs t.coef) (sum_of ts).divisor in
    let d = gcd (unsigned_abs t.coef) (sum_of ts).divisor in
    let P : ℤ → Type 0 = Times d in
    subst P (sym e) (times_plus d t.coef v w (of_size d t.coef common.0) (times_more d (sum_of ts).divisor w common.1 (reached_divides ts w r)))

multiple_test : (d : ℕ) (z : ℤ) → Times d z → is_multiple d z ≡ true
multiple_test zero z (q, is) = (Decides-eqb (unsigned_abs z) 0).1 (none q z is)
  where
    none : (q z : ℤ) → z ≡ q *ℤ pos 0 → unsigned_abs z ≡ 0
    none q z e = omega (arith, ints, unsigned_abs-mul q (pos 0), ap unsigned_abs e)
multiple_test (suc d) z (q, is) = (Decides-eqb (unsigned_abs z % suc d) 0).1 (times_it z (suc d) (omega arith) q is)

-- tests of ends
pub not_below : (v x : ℤ) → not (int_lt v x) ≡ true → x ≤ℤ v
not_below v x h = grind (arith, ints)

pub at_least : (v x : ℤ) → x ≤ℤ v → not (int_lt v x) ≡ true
at_least v x h = grind (arith, ints)

scaled_up : (c x v : ℤ) → int_lt (pos 0) c ≡ true → x ≤ℤ v → (c *ℤ x) ≤ℤ (c *ℤ v)
scaled_up (pos n) x v p h = mul-le_ℤ n x v h
scaled_up (negsuc n) x v p h = absurd (wrong (negsuc n) p (omega (arith, ints)))
  where
    wrong : (c : ℤ) → int_lt (pos 0) c ≡ true → c <ℤ pos 0 → ⊥
    wrong c p h = grind (arith, ints)

scaled_down : (c x v : ℤ) → int_lt c (pos 0) ≡ true → x ≤ℤ v → (c *ℤ v) ≤ℤ (c *ℤ x)
scaled_down (negsuc n) x v p h = mul-le_down_ℤ n x v h
scaled_down (pos n) x v p h = absurd (wrong (pos n) p (omega (arith, ints)))
  where
    wrong : (c : ℤ) → int_lt c (pos 0) ≡ true → pos 0 ≤ℤ c → ⊥
    wrong c p h = grind (arith, ints)

zero_times : (c v : ℤ) → int_lt (pos 0) c ≡ false → int_lt c (pos 0) ≡ false → c *ℤ v ≡ pos 0
zero_times c v g h = ap (λ x. x *ℤ v) (neither c g h) ∙ flat v
  where
    neither : (c : ℤ) → int_lt (pos 0) c ≡ false → int_lt c (pos 0) ≡ false → c ≡ pos 0
    neither c g h = grind (arith, ints)

    flat : (v : ℤ) → pos 0 *ℤ v ≡ pos 0
    flat v = omega (arith, ints)

at_zero : (z : ℤ) → z ≡ pos 0 → (not (int_lt z (pos 0)) ≡ true) × (not (int_lt (pos 0) z) ≡ true)
at_zero z e = (at_least z (pos 0) (omega (arith, ints)), at_least (pos 0) z (omega (arith, ints)))

-- a value times a coefficient is from the least of the term to its greatest
from_sign : (b d : Bool) (c v : ℤ) (low high : Option ℤ) → int_lt (pos 0) c ≡ b → int_lt c (pos 0) ≡ d → is_from low v ≡ true → is_up_to high v ≡ true →
    is_from (if b then times c low else (if d then times c high else Some (pos 0))) (c *ℤ v) ≡ true
from_sign true d c v None high e f g h = refl
from_sign true d c v (Some x) high e f g h = at_least _ _ (scaled_up c x v e (not_below v x g))
from_sign false true c v low None e f g h = refl
from_sign false true c v low (Some x) e f g h = at_least _ _ (scaled_down c v x f (not_below x v h))
from_sign false false c v low high e f g h = (at_zero _ (zero_times c v e f)).0

up_to_sign : (b d : Bool) (c v : ℤ) (low high : Option ℤ) → int_lt (pos 0) c ≡ b → int_lt c (pos 0) ≡ d → is_from low v ≡ true → is_up_to high v ≡ true →
    is_up_to (if b then times c high else (if d then times c low else Some (pos 0))) (c *ℤ v) ≡ true
up_to_sign true d c v low None e f g h = refl
up_to_sign true d c v low (Some x) e f g h = at_least _ _ (scaled_up c v x e (not_below x v h))
up_to_sign false true c v None high e f g h = refl
up_to_sign false true c v (Some x) high e f g h = at_least _ _ (scaled_down c x v f (not_below v x g))
up_to_sign false false c v low high e f g h = (at_zero _ (zero_times c v e f)).1

add_from : (a b : Option ℤ) (x y z : ℤ) → is_from a x ≡ true → is_from b y ≡ true → z ≡ x +ℤ y → is_from (add_ends a b) z ≡ true
add_from None b x y z g h e = refl
add_from (Some p) None x y z g h e = refl
add_from (Some p) (Some q) x y z g h e = at_least _ _ (summed p q x y z (not_below x p g) (not_below y q h) e)
  where
    summed : (p q x y z : ℤ) → p ≤ℤ x → q ≤ℤ y → z ≡ x +ℤ y → (p +ℤ q) ≤ℤ z
    summed p q x y z g h e = omega (arith, ints)

add_up_to : (a b : Option ℤ) (x y z : ℤ) → is_up_to a x ≡ true → is_up_to b y ≡ true → z ≡ x +ℤ y → is_up_to (add_ends a b) z ≡ true
add_up_to None b x y z g h e = refl
add_up_to (Some p) None x y z g h e = refl
add_up_to (Some p) (Some q) x y z g h e = at_least _ _ (summed p q x y z (not_below p x g) (not_below q y h) e)
  where
    summed : (p q x y z : ℤ) → x ≤ℤ p → y ≤ℤ q → z ≡ x +ℤ y → z ≤ℤ (p +ℤ q)
    summed p q x y z g h e = omega (arith, ints)

reached_from : (ts : List Term) (z : ℤ) → Reaches ts z → is_from (sum_of ts).least z ≡ true
reached_from [] z h = (at_zero z h).0
reached_from (t ∷ ts) z (v, w, i, r, e) =
    add_from (least_of t.coef t.range) (sum_of ts).least (t.coef *ℤ v) w z (from_sign _ _ t.coef v t.range.least t.range.greatest refl refl i.low i.high) (reached_from ts w r) e

reached_up_to : (ts : List Term) (z : ℤ) → Reaches ts z → is_up_to (sum_of ts).greatest z ≡ true
reached_up_to [] z h = (at_zero z h).1
reached_up_to (t ∷ ts) z (v, w, i, r, e) =
    add_up_to (greatest_of t.coef t.range) (sum_of ts).greatest (t.coef *ℤ v) w z (up_to_sign _ _ t.coef v t.range.least t.range.greatest refl refl i.low i.high) (reached_up_to ts w r) e

pub reached_may_be : (ts : List Term) (z : ℤ) → Reaches ts z → may_be (sum_of ts) z ≡ true
reached_may_be ts z h = all_three _ _ _ (multiple_test _ z (reached_divides ts z h)) (reached_from ts z h) (reached_up_to ts z h)
  where
    all_three : (a b c : Bool) → a ≡ true → b ≡ true → c ≡ true → (a && (b && c)) ≡ true
    all_three true true true e f g = refl
    all_three true true false e f g = g
    all_three true false c e f g = f
    all_three false b c e f g = e
