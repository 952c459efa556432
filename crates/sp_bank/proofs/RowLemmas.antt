-- The places of a group's accesses, where the weight of the last dimension alone varies.
use Rattle.std.proofs.Common.{Bool, true, false, refl, zero, suc, ◌≡◌, ◌≢◌, ℕ, ◌+◌, ◌-◌, ◌*◌, ◌<◌, ◌++◌, List, [], ◌∷◌, length, get_or, ap, sym, ◌∙◌, subst, arith, ◌⊎◌, inl, inr}
use Rattle.std.specs.List.{All, list_any, list_all}
use Rattle.std.proofs.lemmas.List.Elements.{All-append}
use Rattle.std.proofs.lemmas.Bool.Decides.{eqb_tells, leb_tells}
use Rattle.std.proofs.Math.ListN.{get_or-append}
use Rattle.std.proofs.Math.Seq.{get_or-append_seam}
use Rattle.sp_bank.specs.Banking.{Banking}
use Rattle.sp_bank.specs.Separation.{AreFar}
use Rattle.sp_bank.proofs.ApartLemmas.{near_cases}

-- a list made in step with a count, and one more
pub each_more : (P : ℕ → ℕ → Type 0) (xs : List ℕ) (x n : ℕ) → length xs ≡ n → ((i : ℕ) → i < n → P i (get_or xs i 0)) → P n x →
    (i : ℕ) → i < n + 1 → P i (get_or (xs ++ x ∷ []) i 0)
each_more P xs x n size before at i h = elim (eqb_tells i n) [
  | inl same ↦
      let last : get_or (xs ++ x ∷ []) i 0 ≡ x = ap (λ z. get_or (xs ++ x ∷ []) z 0) (same.1 ∙ sym size) ∙ get_or-append_seam xs x [] 0 in
      let Q : ℕ → Type 0 = λ z. P z x in
      let R : ℕ → Type 0 = λ z. P i z in
      subst R (sym last) (subst Q (sym same.1) at)
  | inr other ↦
      let low : i < n = less i n h other.1 in
      let R : ℕ → Type 0 = λ z. P i z in
      subst R (sym (get_or-append xs (x ∷ []) 0 i (omega (arith, low, size)))) (before i low)
]
  where
    less : (i j : ℕ) → i < j + 1 → i ≢ j → i < j
    less i j h n = omega arith

pub all_more : (P : ℕ → Type 0) (xs : List ℕ) (x : ℕ) → All P xs → P x → All P (xs ++ x ∷ [])
all_more P xs x all at = All-append P xs (x ∷ []) all (λ k d h. one k d h)
  where
    one : (k d : ℕ) → k < 1 → P (get_or (x ∷ []) k d)
    one zero d h = at
    one (suc k) d h = absurd (omega arith)

-- y is k places up from x, or down, round a period of p
abbrev pub IsUp : ℕ → ℕ → ℕ → ℕ → Type 0
IsUp p x k y = (y ≡ x + k) ⊎ (y + p ≡ x + k)

abbrev pub IsDown : ℕ → ℕ → ℕ → ℕ → Type 0
IsDown p x k y = (y + k ≡ x) ⊎ (y + k ≡ x + p)

-- numbers that are not far are fewer places up or down than a block has
pub near_ways : (b : Banking) (y x : ℕ) → y < b.banks * b.block → x < b.banks * b.block → ¬ (AreFar b y x) → (k : ℕ) × (k < b.block) × (IsUp (b.banks * b.block) x k y ⊎ IsDown (b.banks * b.block) x k y)
near_ways b y x low_y low_x near = elim (near_cases b y x near) [
  | inl h ↦ (y - x, omega (arith, h.0, h.1), inl (inl (omega (arith, h.0))))
  | inr (inl h) ↦ (x - y, omega (arith, h.0, h.1), inr (inl (omega (arith, h.0))))
  | inr (inr (inl h)) ↦ (x + b.banks * b.block - y, omega (arith, h, low_y), inr (inr (omega (arith, h, low_y))))
  | inr (inr (inr h)) ↦ (y + b.banks * b.block - x, omega (arith, h, low_x), inl (inr (omega (arith, h, low_x))))
]

pub up_is_near : (b : Banking) (y x k : ℕ) → k < b.block → IsUp (b.banks * b.block) x k y → ¬ (AreFar b y x)
up_is_near b y x k h (inl e) (inl f) = omega (arith, e, h, f.block_up, f.block_down)
up_is_near b y x k h (inl e) (inr f) = omega (arith, e, h, f.block_up, f.block_down)
up_is_near b y x k h (inr e) (inl f) = omega (arith, e, h, f.block_up, f.block_down)
up_is_near b y x k h (inr e) (inr f) = omega (arith, e, h, f.block_up, f.block_down)

pub down_is_near : (b : Banking) (y x k : ℕ) → k < b.block → IsDown (b.banks * b.block) x k y → ¬ (AreFar b y x)
down_is_near b y x k h (inl e) (inl f) = omega (arith, e, h, f.block_up, f.block_down)
down_is_near b y x k h (inl e) (inr f) = omega (arith, e, h, f.block_up, f.block_down)
down_is_near b y x k h (inr e) (inl f) = omega (arith, e, h, f.block_up, f.block_down)
down_is_near b y x k h (inr e) (inr f) = omega (arith, e, h, f.block_up, f.block_down)

pub far_decided : (b : Banking) (x y : ℕ) → AreFar b x y ⊎ ¬ (AreFar b x y)
far_decided b x y = elim (leb_tells (y + b.block) x) [
  | inl up ↦ elim (leb_tells (x + b.block) (y + b.banks * b.block)) [
    | inl round ↦ inl (inl (record { block_up = up.1; block_down = round.1 }))
    | inr past ↦ inr (λ f. neither f (inr past.1) (inl (omega (arith, up.1, past.1))))
  ]
  | inr low ↦ elim (leb_tells (x + b.block) y) [
    | inl up ↦ elim (leb_tells (y + b.block) (x + b.banks * b.block)) [
      | inl round ↦ inl (inr (record { block_up = up.1; block_down = round.1 }))
      | inr past ↦ inr (λ f. neither f (inl low.1) (inr past.1))
    ]
    | inr high ↦ inr (λ f. neither f (inl low.1) (inl high.1))
  ]
]
  where
    neither : AreFar b x y → (x < y + b.block) ⊎ (y + b.banks * b.block < x + b.block) → (y < x + b.block) ⊎ (x + b.banks * b.block < y + b.block) → ⊥
    neither (inl f) (inl h) k = omega (arith, f.block_up, h)
    neither (inl f) (inr h) k = omega (arith, f.block_down, h)
    neither (inr f) h (inl k) = omega (arith, f.block_up, k)
    neither (inr f) h (inr k) = omega (arith, f.block_down, k)

pub get_or-all_false : (xs : List Bool) (y : ℕ) → list_any (λ b. b) xs ≡ false → get_or xs y false ≡ false
get_or-all_false [] y none = refl
get_or-all_false (true ∷ xs) y none = absurd (true_false none)
  where
    true_false : true ≡ false → ⊥
    true_false e = cc
get_or-all_false (false ∷ xs) zero none = refl
get_or-all_false (false ∷ xs) (suc y) none = get_or-all_false xs y none

pub get_or-all_true : (xs : List Bool) (y : ℕ) → list_all (λ b. b) xs ≡ true → y < length xs → get_or xs y false ≡ true
get_or-all_true [] y all h = absurd (omega arith)
get_or-all_true (false ∷ xs) y all h = absurd (false_true all)
  where
    false_true : false ≡ true → ⊥
    false_true e = cc
get_or-all_true (true ∷ xs) zero all h = refl
get_or-all_true (true ∷ xs) (suc y) all h = get_or-all_true xs y all (omega arith)
