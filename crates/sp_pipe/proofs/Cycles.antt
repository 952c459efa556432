-- What is so many cycles later.
use Rattle.std.proofs.Common.{◌≡◌, ℕ, zero, suc, ◌+◌, ◌-◌, ◌<◌, ◌≤◌, ◌&&◌, ◌||◌, not, Bool, false, refl, sym, ap, ◌∙◌, arith}
use Rattle.sp_pipe.specs.Issues.{after, later, due, is_end}

-- a wire that has the word of another one so many cycles later, and is off before
pub is_later : (v w : ℕ → Bool) (n : ℕ) → ((t : ℕ) → v (t + n) ≡ w t) → ((t : ℕ) → t < n → v t ≡ false) → (t : ℕ) → v t ≡ later n w t
unfolding later
is_later v w zero h k t = ap v (omega arith) ∙ h t
is_later v w (suc n) h k zero = k 0 (omega arith)
is_later v w (suc n) h k (suc t) = is_later (λ u. v (suc u)) w n (λ u. let e : suc (u + n) ≡ u + suc n = omega arith in ap v e ∙ h u) (λ u l. k (suc u) (omega (arith, l))) t

-- what is so many cycles later is the same of equal wires
pub later_same : (n : ℕ) (v w : ℕ → Bool) → ((t : ℕ) → v t ≡ w t) → (t : ℕ) → later n v t ≡ later n w t
unfolding later
later_same zero v w h t = h t
later_same (suc n) v w h zero = refl
later_same (suc n) v w h (suc t) = later_same n v w h t

pub after_same : (v w : ℕ → Bool) → ((t : ℕ) → v t ≡ w t) → (t : ℕ) → after v t ≡ after w t
after_same v w h zero = refl
after_same v w h (suc t) = h t

-- one cycle later
pub one_later : (w : ℕ → Bool) (t : ℕ) → later 1 w t ≡ after w t
unfolding later
one_later w zero = refl
one_later w (suc t) = refl

pub none_later : (w : ℕ → Bool) (t : ℕ) → later 0 w t ≡ w t
unfolding later
none_later w t = refl

pub none_due : (start issue : ℕ → Bool) (t : ℕ) → issue t ≡ due start issue 0 t
unfolding due
none_due start issue t = refl

pub more_due : (start issue : ℕ → Bool) (n t : ℕ) → after (λ u. due start issue n u && not (start u)) t ≡ due start issue (n + 1) t
unfolding due
more_due start issue n t = let e : suc n ≡ n + 1 = omega arith in ap (λ k. due start issue k t) e

-- the end of a body without operations, and of one with operations
pub end_at_once : (start more issue : ℕ → Bool) (latency : ℕ) → latency ≡ 0 → (t : ℕ) → later 1 start t ≡ is_end start more issue latency t
end_at_once start more issue latency e t = one_later start t ∙ ap (λ l. is_end start more issue l t) (sym e)

pub end_later : (start more issue : ℕ → Bool) (begun : Bool) (latency : ℕ) → 1 ≤ latency → (t : ℕ) → begun ≡ later 1 start t
    → ((begun && not (more t)) || later (latency - 1) (λ u. after issue u && not (more u)) t) ≡ is_end start more issue latency t
end_later start more issue begun zero few t e = absurd (omega (arith, few))
end_later start more issue begun (suc l) few t e =
    let k : suc l - 1 ≡ l = omega arith in
    ap (λ n. (begun && not (more t)) || later n (λ u. after issue u && not (more u)) t) k
    ∙ ap (λ b. (b && not (more t)) || later l (λ u. after issue u && not (more u)) t) (e ∙ one_later start t)

-- a wire that is off at first, and then what another one was
pub after_by : (v w z : ℕ → Bool) → v 0 ≡ false → ((t : ℕ) → v (suc t) ≡ w t) → ((t : ℕ) → w t ≡ z t) → (t : ℕ) → v t ≡ after z t
after_by v w z first next same zero = first
after_by v w z first next same (suc t) = next t ∙ same t
