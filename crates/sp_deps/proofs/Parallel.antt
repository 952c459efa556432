-- Indices with equal linear parts: whether a number of steps is ruled out.
use Rattle.std.proofs.Common.{◌≡◌, ◌≢◌, ℕ, zero, suc, ◌+◌, ◌*◌, ◌/◌, ◌%◌, ◌<◌, ◌≤◌, Bool, true, false, not, ◌&&◌, ℤ, pos, neg_ℤ, ◌+ℤ◌, ◌-ℤ◌, ◌*ℤ◌, List, [], ◌∷◌, ◌++◌, refl, ap, sym, ◌∙◌, subst, arith, max, unsigned_abs}
use Rattle.std.specs.Prelude.{◌||◌, Option}
use Rattle.std.proofs.lemmas.Int.{ints, unsigned_abs-mul}
use Rattle.std.proofs.lemmas.Nat.{div-add-mod', mod_below, same_from_place}
use Rattle.std.proofs.lemmas.Bool.Decides.{Decides-eqb}
use Rattle.sp_affine.specs.Affine.{Affine}
use Rattle.sp_deps.specs.declared.access.LoopRange.{LoopRange}
use Rattle.sp_deps.specs.declared.class.Class.TheVariants.{Steps, Earlier}
use Rattle.sp_deps.specs.declared.sum.Sum.{Sum}
use Rattle.sp_deps.specs.Access.{PlainAccess}
use Rattle.sp_deps.specs.Classes.{Loops, outside, shared, own_first, own_second, last_step, of_common, of_outside, of_own, is_ruled_out, terms_of, constant_of, may_meet}
use Rattle.sp_deps.specs.Distances.{all_common, earlier_may_meet}
use Rattle.sp_deps.specs.Stages.{meets_up_to}
use Rattle.sp_deps.specs.Sums.{gcd, gcd_within, onto, nothing, sum_of, may_be, is_multiple}
use Rattle.sp_deps.proofs.Onto.{onto_append}

-- no coefficient is left, so nothing but 0 is a multiple of the divisor
no_divisor : gcd 0 0 ≡ 0
unfolding gcd gcd_within
no_divisor = refl

less_itself : (x : ℤ) → unsigned_abs (x -ℤ x) ≡ 0
less_itself x = omega (arith, ints)

gcd_none : (a b : ℕ) → a ≡ 0 → b ≡ 0 → gcd a b ≡ 0
gcd_none a b e f = ap (λ z. gcd z b) e ∙ ap (gcd 0) f ∙ no_divisor

outside_divisor : (xs : List ℤ) (s : Sum) → s.divisor ≡ 0 → (onto (outside xs xs) s).divisor ≡ 0
outside_divisor [] s h = h
outside_divisor (x ∷ xs) s h = gcd_none _ _ (less_itself x) (outside_divisor xs s h)

shared_divisor : (xs : List ℤ) (ls : List LoopRange) (s : Sum) → s.divisor ≡ 0 → (onto (shared xs xs ls) s).divisor ≡ 0
shared_divisor [] ls s h = h
shared_divisor (x ∷ xs) [] s h = h
shared_divisor (x ∷ xs) (l ∷ ls) s h = gcd_none _ _ (less_itself x) (shared_divisor xs ls s h)

-- no counter is an access's own
no_own : (xs ys : List ℤ) → own_first xs [] ++ own_second ys [] ≡ []
no_own [] [] = refl
no_own [] (y ∷ ys) = refl
no_own (x ∷ xs) [] = refl
no_own (x ∷ xs) (y ∷ ys) = refl

whole_divisor : (os cs xs ys : List ℤ) (ls : List LoopRange) → (sum_of (outside os os ++ (shared cs cs ls ++ (own_first xs [] ++ own_second ys [])))).divisor ≡ 0
whole_divisor os cs xs ys ls =
    let P : Sum → Type 0 = λ s. s.divisor ≡ 0 in
    let own = own_first xs [] ++ own_second ys [] in
    let last : (onto own nothing).divisor ≡ 0 = ap (λ z. (onto z nothing).divisor) (no_own xs ys) in
    subst P (sym (onto_append (outside os os) (shared cs cs ls ++ own) nothing))
    (outside_divisor os _ (subst P (sym (onto_append (shared cs cs ls) own nothing)) (shared_divisor cs ls _ last)))

first_of_both : (a b : Bool) → not (a && b) ≡ false → a ≡ true
first_of_both true b h = refl
first_of_both false b h = cc

no_size : (z : ℤ) → unsigned_abs (neg_ℤ z) ≡ 0 → z ≡ pos 0
no_size z h = omega (arith, ints)

zero_alone : (d : ℕ) (z : ℤ) → d ≡ 0 → is_multiple d (neg_ℤ z) ≡ true → z ≡ pos 0
zero_alone zero z e h = no_size z ((Decides-eqb (unsigned_abs (neg_ℤ z)) 0).0 h)
zero_alone (suc d) z e h = absurd (omega (arith, e))

-- where the linear parts are equal, a number of steps that isn't ruled out makes the indices equal
open_means_equal : (ls : List LoopRange) (f g : Affine) (t : ℕ) → f.coefs ≡ g.coefs → is_ruled_out (all_common ls) f g (Steps t) ≡ false →
    constant_of (all_common ls) f g (Steps t) ≡ pos 0
open_means_equal ls f g t e h =
    let P : List ℤ → Type 0 = λ xs. (sum_of (outside (of_outside ls [] xs) (of_outside ls [] g.coefs)
    ++ (shared (of_common ls [] xs) (of_common ls [] g.coefs) ls ++ (own_first (of_own ls [] xs) [] ++ own_second (of_own ls [] g.coefs) [])))).divisor ≡ 0 in
    let none : (sum_of (terms_of (all_common ls) f g (Steps t))).divisor ≡ 0 =
    subst P (sym e) (whole_divisor (of_outside ls [] g.coefs) (of_common ls [] g.coefs) (of_own ls [] g.coefs) (of_own ls [] g.coefs) ls) in
    zero_alone _ (constant_of (all_common ls) f g (Steps t)) none (first_of_both _ _ h)

pub alone : (ls : List LoopRange) (f g : Affine) (k t : ℕ) → f.coefs ≡ g.coefs →
    ((t : ℕ) → 1 ≤ t → constant_of (all_common ls) f g (Steps t) ≡ pos 0 → t ≡ k) → 1 ≤ t → t ≢ k → is_ruled_out (all_common ls) f g (Steps t) ≡ true
alone ls f g k t e only h ne = by_test (is_ruled_out (all_common ls) f g (Steps t)) (λ out. absurd (ne (only t h (open_means_equal ls f g t e out))))
  where
    by_test : (b : Bool) → (b ≡ false → b ≡ true) → b ≡ true
    by_test true h = refl
    by_test false h = h refl

-- where the last counter doesn't count, each number of steps does the same
still : (k : ℤ) (t : ℕ) → k ≡ pos 0 → k *ℤ pos t ≡ k *ℤ pos 1
still k t e = ap (λ z. z *ℤ pos t) e ∙ flat t ∙ ap (λ z. z *ℤ pos 1) (sym e)
  where
    flat : (t : ℕ) → pos 0 *ℤ pos t ≡ pos 0 *ℤ pos 1
    flat t = omega (arith, ints)

pub alike : (ls : List LoopRange) (f g : Affine) (t : ℕ) → last_step (of_common ls [] g.coefs) ls ≡ pos 0 →
    is_ruled_out (all_common ls) f g (Steps t) ≡ is_ruled_out (all_common ls) f g (Steps 1)
alike ls f g t e =
    ap (λ z. not (may_be (sum_of (terms_of (all_common ls) f g (Steps t))) (neg_ℤ ((g.constant -ℤ f.constant) +ℤ z)))) (still _ t e)

-- the number of steps at which the difference is 0
pub solution : (s k : ℤ) (t : ℕ) → 1 ≤ t → 0 < unsigned_abs k → s +ℤ (k *ℤ pos t) ≡ pos 0 → t ≡ max 1 (unsigned_abs s / unsigned_abs k)
solution s k t h p e =
    let size : unsigned_abs s ≡ unsigned_abs (k *ℤ pos t) = opposite s (k *ℤ pos t) e in
    let product : unsigned_abs s ≡ unsigned_abs k * t = size ∙ unsigned_abs-mul k (pos t) in
    let split = div-add-mod' (unsigned_abs s) (unsigned_abs k) in
    let small = mod_below (unsigned_abs s) (unsigned_abs k) p in
    let same : unsigned_abs s / unsigned_abs k * unsigned_abs k + unsigned_abs s % unsigned_abs k ≡ t * unsigned_abs k + 0 = omega (arith, split, product) in
    let whole = (same_from_place (unsigned_abs s / unsigned_abs k) (unsigned_abs s % unsigned_abs k) t 0 (unsigned_abs k) small p same).0 in
    greatest t _ h whole
  where
    opposite : (x y : ℤ) → x +ℤ y ≡ pos 0 → unsigned_abs x ≡ unsigned_abs y
    opposite x y e = omega (arith, ints)

    greatest : (t q : ℕ) → 1 ≤ t → q ≡ t → t ≡ max 1 q
    greatest t q h e = omega arith

pub turned_max : (q : ℕ) → max 1 q ≡ max q 1
turned_max q = omega arith

-- an earlier counter among the first n
by_order : (n i : ℕ) → (i < n → false ≡ true) → (i ≡ n → false ≡ true) → i < suc n → false ≡ true
by_order n i g k h = grind arith

or_else : (n i : ℕ) (a b : Bool) → (i < n → a ≡ true) → (i ≡ n → b ≡ true) → i < suc n → (a || b) ≡ true
or_else n i true b g k h = refl
or_else n i false true g k h = refl
or_else n i false false g k h = by_order n i g k h

pub among_earlier : (loops : Loops) (first second : Option (List Affine)) (n i : ℕ) → i < n → may_meet loops (Earlier i) first second ≡ true →
    earlier_may_meet loops first second n ≡ true
among_earlier loops first second zero i h m = absurd (omega arith)
among_earlier loops first second (suc n) i h m =
    or_else n i (earlier_may_meet loops first second n) (may_meet loops (Earlier n) first second)
    (λ less. among_earlier loops first second n i less m) (λ same. ap (λ j. may_meet loops (Earlier j) first second) (sym same) ∙ m) h

-- a number of steps among the first n
pub among_steps : (loops : Loops) (a b : PlainAccess) (n t : ℕ) → t < n → may_meet loops (Steps (suc t)) a.forms b.forms ≡ true → meets_up_to loops a b n ≡ true
among_steps loops a b zero t h m = absurd (omega arith)
among_steps loops a b (suc n) t h m =
    or_else n t (meets_up_to loops a b n) (may_meet loops (Steps (suc n)) a.forms b.forms)
    (λ less. among_steps loops a b n t less m) (λ same. ap (λ j. may_meet loops (Steps (suc j)) a.forms b.forms) (sym same) ∙ m) h
