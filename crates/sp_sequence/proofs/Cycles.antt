-- What is so many cycles later, and lists by their first element.
use Rattle.std.proofs.Common.{◌≡◌, ℕ, zero, suc, ◌+◌, ◌-◌, ◌<◌, ◌≤◌, Bool, false, ◌&&◌, ◌||◌, not, List, [], ◌∷◌, length, take, drop, refl, sym, ap, ap₂, ◌∙◌, arith}
use Rattle.std.specs.Prelude.{slice_index_or}
use Rattle.std.proofs.lemmas.List.{take_all}
use Rattle.sp_sequence.specs.Members.{after, IsAfter}
use Rattle.sp_sequence.specs.Joins.{was_since, is_going}

-- a wire that is off first, and then what another one was
pub is_after : (v w z : ℕ → Bool) → v 0 ≡ false → ((t : ℕ) → v (suc t) ≡ w t) → ((t : ℕ) → w t ≡ z t) → IsAfter v z
is_after v w z off on e zero = off
is_after v w z off on e (suc t) = on t ∙ e t

pub twice_after : (v w z : ℕ → Bool) → ((t : ℕ) → v (t + 2) ≡ w t) → ((t : ℕ) → t < 2 → v t ≡ false) → ((t : ℕ) → w t ≡ z t) → (t : ℕ) → v t ≡ after (after z) t
twice_after v w z late early e zero = early 0 (omega arith)
twice_after v w z late early e (suc zero) = early 1 (omega arith)
twice_after v w z late early e (suc (suc t)) = let k : suc (suc t) ≡ t + 2 = omega arith in ap v k ∙ late t ∙ e t

pub once_after : (v w : ℕ → Bool) → ((t : ℕ) → v (t + 1) ≡ w t) → ((t : ℕ) → t < 1 → v t ≡ false) → IsAfter v w
once_after v w late early zero = early 0 (omega arith)
once_after v w late early (suc t) = let k : suc t ≡ t + 1 = omega arith in ap v k ∙ late t

-- a flag that remembers what came since a first cycle
pub seen_since : (seen next first over : ℕ → Bool) → seen 0 ≡ false → ((t : ℕ) → seen (suc t) ≡ next t) → ((t : ℕ) → next t ≡ ((over t || seen t) && not (first t))) → (t : ℕ) → seen t ≡ was_since first over t
unfolding was_since
seen_since seen next first over off on e zero = off
seen_since seen next first over off on e (suc t) = on t ∙ e t ∙ ap (λ b. (over t || b) && not (first t)) (seen_since seen next first over off on e t)

-- and one that is on from a first cycle until all has come
pub going_on : (going next first all : ℕ → Bool) → going 0 ≡ false → ((t : ℕ) → going (suc t) ≡ next t) → ((t : ℕ) → next t ≡ (first t || (going t && not (all t)))) → (t : ℕ) → going t ≡ is_going first all t
unfolding is_going
going_on going next first all off on e zero = off
going_on going next first all off on e (suc t) = on t ∙ e t ∙ ap (λ b. first t || (b && not (all t))) (going_on going next first all off on e t)

pub first_and_rest : {A : Type 0} (xs : List A) (x : A) → 1 ≤ length xs → x ≡ slice_index_or xs 0 x → xs ≡ x ∷ take (length xs - 1) (drop 1 xs)
first_and_rest [] x l e = absurd (omega (arith, l))
first_and_rest (y ∷ ys) x l e = ap₂ (λ z zs. z ∷ zs) (sym e) (sym (take_all (length (y ∷ ys) - 1) ys (omega arith)))

pub empty : {A : Type 0} (xs : List A) → length xs ≡ 0 → xs ≡ []
empty [] e = refl
empty (x ∷ xs) e = absurd (omega (arith, e))
