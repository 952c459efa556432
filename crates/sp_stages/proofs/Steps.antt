-- Numbers of slots that grow by one at most from stage to stage.
use Rattle.std.proofs.Common.{◌≡◌, ℕ, zero, suc, ◌+◌, ◌<◌, ◌≤◌, Bool, true, false, cond, refl, ap, sym, subst, ◌∙◌, ⊎_elim, ◌⊎◌, arith}
use Rattle.std.proofs.lemmas.Bool.{cases_lt}

-- so many runs, so many of them in each lane; the stage of each, and whether it is of all lanes
pub record ArePlaces (runs lane : ℕ) (stage : ℕ → ℕ) (of_all : ℕ → Bool) : Type 0 where
  pub fits : lane ≤ runs
  pub low : (k : ℕ) → k < lane → (stage k ≡ k) × (of_all k ≡ false)
  pub last : (p : ℕ) → p < runs → of_all p ≡ true → (p + 1 ≡ runs) × (stage p ≡ lane)
  pub high : (p : ℕ) → p < runs → of_all p ≡ false → stage p < lane

abbrev pub IsStep : (before after : ℕ) → Type 0
IsStep a b = (b ≡ a) ⊎ (b ≡ a + 1)

-- slots of these runs are right
pub record AreSteps (runs lane : ℕ) (stage : ℕ → ℕ) (of_all : ℕ → Bool) (g : ℕ → ℕ) : Type 0 where
  pub first : (p : ℕ) → p < runs → stage p ≡ 0 → g p ≡ 0
  pub next : (k : ℕ) → suc k < lane → IsStep (g k) (g (suc k))
  pub last : (p k : ℕ) → p < runs → of_all p ≡ true → suc k ≡ lane → IsStep (g k) (g p)
  pub same : (p : ℕ) → p < runs → of_all p ≡ false → g p ≡ g (stage p)

-- two runs in one slot, one before the end of a stage and one after it
pub record IsAcross (runs : ℕ) (stage g : ℕ → ℕ) (k : ℕ) : Type 0 where
  pub after : ℕ
  pub before : ℕ
  pub after_in : after < runs
  pub before_in : before < runs
  pub begins : stage before ≤ k
  pub ends : k < stage after
  pub one_slot : g after ≡ g before

step_up : (a b : ℕ) → IsStep a b → a ≤ b
step_up a b h = ⊎_elim (λ e. omega arith) (λ e. omega arith) h

step_most : (a b : ℕ) → IsStep a b → b ≤ a + 1
step_most a b h = ⊎_elim (λ e. omega arith) (λ e. omega arith) h

module _ (runs lane : ℕ) (stage : ℕ → ℕ) (of_all : ℕ → Bool) (g : ℕ → ℕ) (places : ArePlaces runs lane stage of_all) (steps : AreSteps runs lane stage of_all g) where
  up_to : (a b : ℕ) → a ≤ b → b < lane → g a ≤ g b
  up_to a zero le lt = let e : a ≡ zero = omega arith in subst (λ k. g a ≤ g k) e (omega arith)
  up_to a (suc b) le lt = ⊎_elim
      (λ h. let one = up_to a b (omega arith) (omega arith) in let two = step_up (g b) (g (suc b)) (steps.next b lt) in omega arith)
      (λ h. let e : a ≡ suc b = omega arith in subst (λ k. g a ≤ g k) e (omega arith))
      (cases_lt a (suc b))

  below_last : (a b : ℕ) → b < runs → stage a < lane → g a ≡ g (stage a) → of_all b ≡ true → (n : ℕ) → n ≡ lane → g a ≤ g b
  below_last a b lb p s eb zero e = absurd (omega arith)
  below_last a b lb p s eb (suc n) e =
      let one = up_to (stage a) n (omega arith) (omega arith) in
      let two = step_up (g n) (g b) (steps.last b n lb eb e) in omega arith

  -- slots grow with the stages
  ascends_from : (a b : ℕ) → a < runs → b < runs → stage a ≤ stage b → (x y : Bool) → of_all a ≡ x → of_all b ≡ y → g a ≤ g b
  ascends_from a b la lb le true true ea eb =
      let p = (places.last a la ea).0 in let q = (places.last b lb eb).0 in
      let e : a ≡ b = omega arith in subst (λ k. g a ≤ g k) e (omega arith)
  ascends_from a b la lb le true false ea eb =
      let p = (places.last a la ea).1 in let q = places.high b lb eb in absurd (omega arith)
  ascends_from a b la lb le false true ea eb =
      let p = places.high a la ea in let s = steps.same a la ea in
      below_last a b lb p s eb lane refl
  ascends_from a b la lb le false false ea eb =
      let p = up_to (stage a) (stage b) le (places.high b lb eb) in
      let s = steps.same a la ea in let t = steps.same b lb eb in omega arith

  pub ascends : (a b : ℕ) → a < runs → b < runs → stage a ≤ stage b → g a ≤ g b
  ascends a b la lb le = ascends_from a b la lb le (of_all a) (of_all b) refl refl

  module _ (joined : ℕ → Bool) (f : ℕ → ℕ) (begins : f 0 ≡ 0) (grows : (k : ℕ) → f (suc k) ≡ f k + cond (joined k) 0 1) (across : (k : ℕ) → joined k ≡ true → IsAcross runs stage g k) where
    -- the slot of a stage, if that of the one before isn't greater than what f gives
    one_more : (p k : ℕ) → p < runs → k < lane → stage p ≡ suc k → IsStep (g k) (g p) → g k ≤ f k → (b : Bool) → joined k ≡ b → g p ≤ f (suc k)
    one_more p k lp lk is step le true e =
        let a = across k e in
        let low = (places.low k lk).0 in let fits = places.fits in
        let begins = a.begins in let ends = a.ends in let same = a.one_slot in
        let one = ascends p a.after lp a.after_in (omega arith) in
        let two = ascends a.before k a.before_in (omega arith) (omega arith) in
        let grown = grows k ∙ ap (λ x. f k + cond x 0 1) e in
        omega arith
    one_more p k lp lk is step le false e =
        let most = step_most (g k) (g p) step in
        let grown = grows k ∙ ap (λ x. f k + cond x 0 1) e in
        omega arith

    low_at_most : (k : ℕ) → k < lane → g k ≤ f k
    low_at_most zero lt =
        let fits = places.fits in let e = steps.first 0 (omega arith) (places.low 0 lt).0 in omega arith
    low_at_most (suc k) lt =
        let fits = places.fits in
        one_more (suc k) k (omega arith) (omega arith) (places.low (suc k) lt).0 (steps.next k lt) (low_at_most k (omega arith)) (joined k) refl

    at_most_from : (p : ℕ) → p < runs → (b : Bool) → of_all p ≡ b → (k : ℕ) → stage p ≡ k → g p ≤ f k
    at_most_from p lt b e zero is = let z = steps.first p lt is in omega arith
    at_most_from p lt true e (suc k) is =
        let n = (places.last p lt e).1 in
        one_more p k lt (omega arith) is (steps.last p k lt e (sym is ∙ n)) (low_at_most k (omega arith)) (joined k) refl
    at_most_from p lt false e (suc k) is =
        let n = places.high p lt e in let s = steps.same p lt e in let t = ap g is in
        let low = low_at_most (suc k) (omega arith) in omega arith

    pub at_most : (p : ℕ) → p < runs → g p ≤ f (stage p)
    at_most p lt = at_most_from p lt (of_all p) refl (stage p) refl
