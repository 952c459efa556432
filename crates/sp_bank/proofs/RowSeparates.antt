-- A last weight separates a group exactly where it puts the places of the accesses that differ a block or more from one another.
use Rattle.std.proofs.Common.{◌≡◌, ◌≢◌, ◌↔◌, ℕ, ◌+◌, ◌*◌, ◌%◌, ◌<◌, inl, inr, ℤ, pos, ◌+ℤ◌, ◌*ℤ◌, List, [], ◌∷◌, ◌++◌, length, get_or, take, drop, ap, sym, ◌∙◌, subst, arith, length-append, length-drop}
use Rattle.std.specs.Int.{int_div_euclid, int_rem_euclid}
use Rattle.std.proofs.Math.Nat.{mul-le-mul_right}
use Rattle.std.proofs.Math.Seq.{get_or-append_seam, take-append_seam}
use Rattle.std.proofs.lemmas.Bool.Decides.{eqb_tells, leb_tells}
use Rattle.std.proofs.lemmas.List.{take_all, take-map, length-take-le, length-map}
use Rattle.std.proofs.lemmas.Nat.{mul-lt}
use Rattle.sp_affine.specs.Affine.{Affine}
use Rattle.sp_bank.specs.Banking.{Banking, IsAllowedSize}
use Rattle.sp_bank.specs.Row.{AreStarts, AreSteps, ArePlacesFar, place_of}
use Rattle.sp_bank.specs.Search.{unhinged}
use Rattle.sp_bank.specs.Separation.{AreApart, AreDifferent, AreFar, IsGroup, IsListed, Separates, access, access_count, constants, residue_of, weighted_sum}
use Rattle.sp_bank.proofs.ApartLemmas.{AreApart-from_far, far_from_AreApart, block_positive}
use Rattle.sp_bank.proofs.Floor.{parts}
use Rattle.sp_bank.proofs.Pigeons.{apart_fit}
use Rattle.sp_bank.proofs.ResidueLemmas.{IsCongruent, congruent_more, residue_from_congruent, weighted_sum-take}
use Rattle.sp_bank.proofs.RowLemmas.{far_decided}

length-access : (rank : ℕ) (group : List Affine) (u : ℕ) → IsGroup rank group → u < access_count rank group → length (access rank group u) ≡ rank
length-access rank group u is_group low =
    let inside = mul-le-mul_right {m = u + 1} {n = access_count rank group} rank (omega (arith, low)) in
    length-take-le rank (drop (u * rank) group) (omega (arith, inside, is_group.0, length-drop (u * rank) group))

congruent_from : (p : ℕ) (w : ℤ) (n : ℕ) → 0 < p → pos n ≡ int_rem_euclid w (pos p) → IsCongruent p w n
congruent_from p w n h is =
    let (r, is', found) = parts w p h in
    let same : pos n ≡ pos r = is ∙ is' in
    record { periods = int_div_euclid w (pos p); whole = found.whole ∙ ap (λ z. (int_div_euclid w (pos p) *ℤ pos p) +ℤ z) (sym same) }

-- the weighted sum, by what comes before the last weight and by what the last one adds
sum_parts : (before : List ℕ) (w : ℕ) (forms : List Affine) → length forms ≡ length before + 1 →
    weighted_sum (before ++ w ∷ []) (constants forms) ≡
    weighted_sum before (constants (take (length before) forms)) +ℤ (pos w *ℤ get_or (constants forms) (length before) (pos 0))
sum_parts before w forms size =
    let alpha = before ++ w ∷ [] in
    let cs = constants forms in
    let n = length before in
    let long : length alpha ≡ n + 1 = length-append before (w ∷ []) in
    let count : length cs ≡ n + 1 = length-map forms (λ f. f.constant) ∙ size in
    let split = weighted_sum-take alpha cs n (count ∙ sym long) (omega (arith, long)) in
    ap (λ z. weighted_sum z cs) (sym (take_all (n + 1) alpha (omega (arith, long))))
    ∙ ap (λ z. weighted_sum (take (n + 1) alpha) z) (sym (take_all (n + 1) cs (omega (arith, count))))
    ∙ split
    ∙ ap (λ z. weighted_sum z (take n cs) +ℤ (pos (get_or alpha n 0) *ℤ get_or cs n (pos 0))) (take-append_seam before (w ∷ []))
    ∙ ap (λ z. weighted_sum before z +ℤ (pos (get_or alpha n 0) *ℤ get_or cs n (pos 0))) (take-map (λ f. f.constant) n forms)
    ∙ ap (λ z. weighted_sum before (constants (take n forms)) +ℤ (pos z *ℤ get_or cs n (pos 0))) (get_or-append_seam before w [] 0)

place_is_residue : (before : List ℕ) (banks block w : ℕ) (forms : List Affine) (start step : ℕ) → 0 < banks * block → length forms ≡ length before + 1 →
    pos start ≡ int_rem_euclid (weighted_sum before (constants (take (length before) forms))) (pos (banks * block)) →
    pos step ≡ int_rem_euclid (get_or (constants forms) (length before) (pos 0)) (pos (banks * block)) →
    pos ((start + w * step) % (banks * block)) ≡ residue_of (unhinged banks block (before ++ w ∷ [])) (constants forms)
place_is_residue before banks block w forms start step some size is_start is_step =
    let known = congruent_from (banks * block) _ start some is_start in
    let whole = congruent_more (banks * block) _ start w _ step some known is_step in
    residue_from_congruent (banks * block) _ (start + w * step) some whole
    ∙ ap (λ z. int_rem_euclid z (pos (banks * block))) (sym (sum_parts before w forms size))

swapped : (b : Banking) (x y : ℕ) → AreFar b x y → AreFar b y x
swapped b x y (inl f) = inr f
swapped b x y (inr f) = inl f

moved : (banks block : ℕ) (alpha beta : List ℕ) (x y : ℕ) → AreFar (unhinged banks block alpha) x y → AreFar (unhinged banks block beta) x y
moved banks block alpha beta x y (inl f) = inl (record { block_up = f.block_up; block_down = f.block_down })
moved banks block alpha beta x y (inr f) = inr (record { block_up = f.block_up; block_down = f.block_down })

-- what is asked of any two accesses
abbrev AllApart : Banking → ℕ → List Affine → Type 0
AllApart b rank group = (u v : ℕ) → u < access_count rank group → v < access_count rank group →
    AreApart b (constants (access rank group u)) (constants (access rank group v))

module _ (before : List ℕ) (banks block w : ℕ) (group : List Affine) (us starts steps : List ℕ)
    (size : IsAllowedSize banks block (length before + 1) 0) (is_group : IsGroup (length before + 1) group)
    (differ : AreDifferent (length before + 1) group us)
    (is_start : AreStarts before (banks * block) group us starts) (is_step : AreSteps (length before) (banks * block) group us steps) where
  some_block : 0 < block
  some_block = block_positive block size.allowed_block

  some_bank : 0 < banks
  some_bank = omega (arith, size.some_bank)

  is_residue : (i : ℕ) → i < length us → pos (place_of (banks * block) starts steps w i) ≡
      residue_of (unhinged banks block (before ++ w ∷ [])) (constants (access (length before + 1) group (get_or us i 0)))
  is_residue i h =
      place_is_residue before banks block w (access (length before + 1) group (get_or us i 0)) (get_or starts i 0) (get_or steps i 0)
      (mul-lt 0 0 banks block some_bank some_block)
      (length-access (length before + 1) group (get_or us i 0) is_group (differ.inside i h)) (is_start i h) (is_step i h)

  places_far : AllApart (unhinged banks block (before ++ w ∷ [])) (length before + 1) group → ArePlacesFar banks block starts steps w (length us)
  places_far all i j h low =
      let low_i : i < length us = omega (arith, h, low) in
      elim (far_decided (unhinged banks block (before ++ w ∷ [])) (place_of (banks * block) starts steps w i) (place_of (banks * block) starts steps w j)) [
        | inl far ↦ moved banks block (before ++ w ∷ []) [] _ _ far
        | inr near ↦ absurd (far_from_AreApart (unhinged banks block (before ++ w ∷ [])) _ _ _ _ some_block some_bank (is_residue i low_i) (is_residue j low) (differ.different i j h low) near
            (all (get_or us i 0) (get_or us j 0) (differ.inside i low_i) (differ.inside j low)))
      ]

  pair_apart : ArePlacesFar banks block starts steps w (length us) → (i j : ℕ) → i < j → j < length us →
      AreApart (unhinged banks block (before ++ w ∷ [])) (constants (access (length before + 1) group (get_or us i 0))) (constants (access (length before + 1) group (get_or us j 0)))
  pair_apart far i j h low =
      AreApart-from_far (unhinged banks block (before ++ w ∷ [])) _ _ _ _ some_block some_bank (is_residue i (omega (arith, h, low))) (is_residue j low)
      (moved banks block [] (before ++ w ∷ []) _ _ (far i j h low))

  pair_apart_back : ArePlacesFar banks block starts steps w (length us) → (i j : ℕ) → i < j → j < length us →
      AreApart (unhinged banks block (before ++ w ∷ [])) (constants (access (length before + 1) group (get_or us j 0))) (constants (access (length before + 1) group (get_or us i 0)))
  pair_apart_back far i j h low =
      AreApart-from_far (unhinged banks block (before ++ w ∷ [])) _ _ _ _ some_block some_bank (is_residue j low) (is_residue i (omega (arith, h, low)))
      (moved banks block [] (before ++ w ∷ []) _ _ (swapped _ _ _ (far i j h low)))

  -- two accesses with the constants of listed ones
  by_listed : ArePlacesFar banks block starts steps w (length us) → (u v : ℕ) → IsListed (length before + 1) group us u → IsListed (length before + 1) group us v →
      AreApart (unhinged banks block (before ++ w ∷ [])) (constants (access (length before + 1) group u)) (constants (access (length before + 1) group v))
  by_listed far u v (i, low_i, is_u) (j, low_j, is_v) =
      let Q : List ℤ → Type 0 = λ z. AreApart (unhinged banks block (before ++ w ∷ [])) z (constants (access (length before + 1) group v)) in
      let R : List ℤ → Type 0 = λ z. AreApart (unhinged banks block (before ++ w ∷ [])) (constants (access (length before + 1) group (get_or us i 0))) z in
      elim (leb_tells (i + 1) j) [
        | inl less ↦ subst Q is_u (subst R is_v (pair_apart far i j (omega (arith, less.1)) low_j))
        | inr more ↦ elim (eqb_tells i j) [
          | inl same ↦ λ other. absurd (other (sym is_u ∙ ap (λ z. constants (access (length before + 1) group (get_or us z 0))) same.1 ∙ is_v))
          | inr apart ↦ subst Q is_u (subst R is_v (pair_apart_back far j i (beyond i j more.1 apart.1) low_i))
        ]
      ]
    where
      beyond : (i j : ℕ) → j < i + 1 → i ≢ j → j < i
      beyond i j h n = omega arith

  pub row_separates : (length us < 33 → (u : ℕ) → u < access_count (length before + 1) group → IsListed (length before + 1) group us u) →
      ArePlacesFar banks block starts steps w (length us) ↔ Separates (unhinged banks block (before ++ w ∷ [])) group
  row_separates listed =
      let rank : length (before ++ w ∷ []) ≡ length before + 1 = length-append before (w ∷ []) in
      let P : ℕ → Type 0 = λ n. AllApart (unhinged banks block (before ++ w ∷ [])) n group in (
        λ far.
            let fit = apart_fit (unhinged banks block (before ++ w ∷ [])) (length before + 1) group us some_block some_bank differ (pair_apart far) in
            let all = listed (omega (arith, fit, size.few_banks)) in
            subst P (sym rank) (λ u v low_u low_v. by_listed far u v (all u low_u) (all v low_v)),
        λ separates. places_far (subst P rank separates),
      )
