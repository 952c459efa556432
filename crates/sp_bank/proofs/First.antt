-- The search through all weights of one number of banks and one block.
use Rattle.std.proofs.Common.{◌≡◌, ℕ, ◌*◌, ◌^◌, ◌<◌, List, length, get_or, ap, sym, ◌∙◌, subst, arith, inl, inr}
use Rattle.std.specs.List.{All}
use Rattle.std.specs.Int.{IsGcd}
use Rattle.sp_affine.specs.Affine.{Affine}
use Rattle.sp_bank.specs.Banking.{Banking, InSpace, IsAllowedSize}
use Rattle.sp_bank.specs.Search.{Serves, SeparatesAll, Precedes, digits}
use Rattle.sp_bank.proofs.Order.{code_of, code_of-below, digits-code_of, code_of-digits, code_of-less, digits-below, length-digits}

weights_at : (t : Banking) (banks : ℕ) → InSpace t → t.banks ≡ banks → All (λ a. a < banks) t.alpha
weights_at t banks space e = let P : ℕ → Type 0 = λ n. All (λ a. a < n) t.alpha in subst P e space.weights

pub alpha_of_code : (t : Banking) (rank banks code : ℕ) → InSpace t → length t.alpha ≡ rank → t.banks ≡ banks → code_of banks t.alpha ≡ code →
    t.alpha ≡ digits rank banks code
alpha_of_code t rank banks code space is_rank is_banks is_code =
    sym (digits-code_of banks t.alpha (weights_at t banks space is_banks))
    ∙ ap (λ n. digits n banks (code_of banks t.alpha)) is_rank ∙ ap (λ c. digits rank banks c) is_code

pub code_below : (t : Banking) (rank banks : ℕ) → InSpace t → length t.alpha ≡ rank → t.banks ≡ banks → code_of banks t.alpha < banks ^ rank
code_below t rank banks space is_rank is_banks =
    let P : ℕ → Type 0 = λ n. code_of banks t.alpha < banks ^ n in
    subst P is_rank (code_of-below banks t.alpha (weights_at t banks space is_banks))

pub no_hinge : (t : Banking) (alpha : List ℕ) (banks block : ℕ) → InSpace t → t.alpha ≡ alpha → t.banks ≡ banks → t.block ≡ block →
    ((r : ℕ) → r < length alpha → ¬ (IsGcd (get_or alpha r 0) (banks * block) 1)) → ⊥
no_hinge t alpha banks block space is_alpha is_banks is_block none =
    let place : t.hinge < length alpha = omega (arith, space.size.hinge_place, ap length is_alpha) in
    let P : List ℕ → Type 0 = λ xs. IsGcd (get_or xs t.hinge 0) (t.banks * t.block) 1 in
    let Q : ℕ → Type 0 = λ n. IsGcd (get_or alpha t.hinge 0) (n * t.block) 1 in
    let R : ℕ → Type 0 = λ n. IsGcd (get_or alpha t.hinge 0) (banks * n) 1 in
    none t.hinge place (subst R is_block (subst Q is_banks (subst P is_alpha space.hinge)))

pub same_separation : (s t : Banking) (groups : List (List Affine)) → t.banks ≡ s.banks → t.block ≡ s.block → t.alpha ≡ s.alpha →
    SeparatesAll t groups → SeparatesAll s groups
same_separation s t groups is_banks is_block is_alpha h =
    let P : ℕ → Type 0 = λ n. SeparatesAll (record { banks = n; block = t.block; alpha = t.alpha; hinge = 0 }) groups in
    let Q : ℕ → Type 0 = λ n. SeparatesAll (record { banks = s.banks; block = n; alpha = t.alpha; hinge = 0 }) groups in
    let R : List ℕ → Type 0 = λ xs. SeparatesAll (record { banks = s.banks; block = s.block; alpha = xs; hinge = 0 }) groups in
    subst R is_alpha (subst Q is_block (subst P is_banks h))

-- nothing that serves goes before what was found at this code
pub none_before : (s t : Banking) (rank banks block code : ℕ) (groups : List (List Affine)) → 0 < banks → s.banks ≡ banks → s.block ≡ block →
    s.alpha ≡ digits rank banks code → code < banks ^ rank → Serves rank groups t → t.banks ≡ banks → t.block ≡ block →
    ((r : ℕ) → r < s.hinge → ¬ (IsGcd (get_or s.alpha r 0) (banks * block) 1)) →
    (code_of banks t.alpha < code → ⊥) → ¬ (Precedes t s)
none_before s t rank banks block code groups some s_banks s_block is_alpha small serves is_banks is_block first earlier before =
    elim before [
      | inl less ↦ omega (arith, less, s_banks, is_banks)
      | inr (_, inl less) ↦ omega (arith, less, s_block, is_block)
      | inr (_, inr (_, inl less)) ↦
          let s_code : code_of banks s.alpha ≡ code = ap (code_of banks) is_alpha ∙ code_of-digits rank banks code some small in
          let s_rank : length s.alpha ≡ rank = ap length is_alpha ∙ length-digits rank banks code in
          let s_weights : All (λ a. a < banks) s.alpha =
          (let P : List ℕ → Type 0 = λ xs. All (λ a. a < banks) xs in subst P (sym is_alpha) (digits-below rank banks code some small)) in
          let less_code = code_of-less banks t.alpha s.alpha (serves.rank_is ∙ sym s_rank) (weights_at t banks serves.space is_banks) s_weights less in
          earlier (omega (arith, less_code, s_code))
      | inr (_, inr (_, inr (same, less))) ↦
          let P : List ℕ → Type 0 = λ xs. IsGcd (get_or xs t.hinge 0) (t.banks * t.block) 1 in
          let Q : ℕ → Type 0 = λ n. IsGcd (get_or s.alpha t.hinge 0) (n * t.block) 1 in
          let R : ℕ → Type 0 = λ n. IsGcd (get_or s.alpha t.hinge 0) (banks * n) 1 in
          first t.hinge less (subst R is_block (subst Q is_banks (subst P same serves.space.hinge)))
    ]

-- what was made is a scheme of the space
pub space_of : (banks block rank code hinge : ℕ) (alpha : List ℕ) → IsAllowedSize banks block rank 0 → alpha ≡ digits rank banks code → code < banks ^ rank →
    hinge < length alpha → IsGcd (get_or alpha hinge 0) (banks * block) 1 → InSpace (record { banks = banks; block = block; alpha = alpha; hinge = hinge })
space_of banks block rank code hinge alpha size is_alpha small place divisor =
    let is_rank : length alpha ≡ rank = ap length is_alpha ∙ length-digits rank banks code in
    let P : List ℕ → Type 0 = λ xs. All (λ a. a < banks) xs in
    record {
      size = record {
        some_bank = size.some_bank;
        few_banks = size.few_banks;
        allowed_block = size.allowed_block;
        some_dimension = omega (arith, size.some_dimension, is_rank);
        few_dimensions = omega (arith, size.few_dimensions, is_rank);
        hinge_place = place;
      };
      weights = subst P (sym is_alpha) (digits-below rank banks code (omega (arith, size.some_bank)) small);
      hinge = divisor;
    }
