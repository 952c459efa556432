-- A group is its accesses, one after the other.
use Rattle.std.proofs.Common.{◌≡◌, ◌≢◌, ℕ, zero, suc, ◌+◌, ◌*◌, ◌/◌, ◌<◌, ◌≤◌, List, [], ◌∷◌, ◌++◌, length, take, drop, get_or, map, arith, refl, sym, ap, ◌∙◌, subst, ◌^◌}
use Rattle.std.proofs.Math.Seq.{take-append_seam, drop-append-add}
use Rattle.std.proofs.Math.Nat.{mul-div_cancel}
use Rattle.std.proofs.lemmas.List.{length-append}
use Rattle.sp_affine.specs.Affine.{Affine}
use Rattle.sp_bank.specs.Banking.{Banking}
use Rattle.sp_bank.specs.Separation.{AreApart, IsGroup, Separates, access, access_count, constants}
use Rattle.sp_schemes.proofs.Lists.{Each, Pairs, each_at, pairs_at, pairs_of}

abbrev pub joined : List (List Affine) → List Affine
joined [] = []
joined (f ∷ fs) = f ++ joined fs

abbrev pub AreRows : (rank : ℕ) → List (List Affine) → Type 0
AreRows rank fs = Each (λ (f : List Affine). length f ≡ rank) fs

pub length_joined : (rank : ℕ) (fs : List (List Affine)) → AreRows rank fs → length (joined fs) ≡ length fs * rank
length_joined rank [] h = omega arith
length_joined rank (f ∷ fs) h =
    let a : length (joined fs) ≡ length fs * rank = length_joined rank fs h.1 in
    let b : length (f ++ joined fs) ≡ length f + length (joined fs) = length-append f (joined fs) in
    let c : length f ≡ rank = h.0 in
    let d : suc (length fs) * rank ≡ rank + length fs * rank = omega arith in
    omega arith

pub count_joined : (rank : ℕ) (fs : List (List Affine)) → 1 ≤ rank → AreRows rank fs → access_count rank (joined fs) ≡ length fs
count_joined rank fs l h = ap (λ n. n / rank) (length_joined rank fs h) ∙ mul-div_cancel (length fs) {n = rank} (omega (arith, l))

take_row : (rank : ℕ) (f rest : List Affine) → length f ≡ rank → take rank (f ++ rest) ≡ f
take_row rank f rest e = ap (λ n. take n (f ++ rest)) (sym e) ∙ take-append_seam f rest

drop_row : (rank n : ℕ) (f rest : List Affine) → length f ≡ rank → drop (rank + n) (f ++ rest) ≡ drop n rest
drop_row rank n f rest e = ap (λ k. drop (k + n) (f ++ rest)) (sym e) ∙ drop-append-add f rest n

pub access_joined : (rank : ℕ) (fs : List (List Affine)) → AreRows rank fs → (u : ℕ) → u < length fs → access rank (joined fs) u ≡ get_or fs u []
access_joined rank [] h u l = absurd (omega (arith, l))
access_joined rank (f ∷ fs) h zero l = ap (λ n. take rank (drop n (f ++ joined fs))) (let e : 0 * rank ≡ 0 = omega arith in e) ∙ take_row rank f (joined fs) h.0
access_joined rank (f ∷ fs) h (suc u) l =
    ap (λ n. take rank (drop n (f ++ joined fs))) (let e : suc u * rank ≡ rank + u * rank = omega arith in e)
    ∙ ap (take rank) (drop_row rank (u * rank) f (joined fs) h.0) ∙ access_joined rank fs h.1 u (omega arith)

pub is_group : (rank : ℕ) (fs : List (List Affine)) → 1 ≤ rank → AreRows rank fs → length fs < 2 ^ 32 → IsGroup rank (joined fs)
is_group rank fs l h few =
    let c = count_joined rank fs l h in
    let e = length_joined rank fs h in
    (ap (λ n. n * rank) c ∙ sym e, omega (arith, c, few))

module _ (b : Banking) where
  abbrev pub Two : List Affine → List Affine → Type 0
  Two f g = AreApart b (constants f) (constants g)

  two_same : (f : List Affine) → Two f f
  two_same f = λ ne. absurd (ne refl)

  two_turned : (f g : List Affine) → Two f g → Two g f
  two_turned f g h = λ ne s e. h (λ q. ne (sym q)) s (sym e)

  -- a scheme separates the group exactly where it keeps each two of its accesses apart
  pub separates_joined : (fs : List (List Affine)) → 1 ≤ length b.alpha → AreRows (length b.alpha) fs → Pairs Two fs → Separates b (joined fs)
  separates_joined fs l h pairs u v lu lv =
      let c = count_joined (length b.alpha) fs l h in
      let ku : u < length fs = omega (arith, c, lu) in
      let kv : v < length fs = omega (arith, c, lv) in
      subst (λ x. Two x (access (length b.alpha) (joined fs) v)) (sym (access_joined (length b.alpha) fs h u ku))
      (subst (Two (get_or fs u [])) (sym (access_joined (length b.alpha) fs h v kv)) (pairs_at Two two_same two_turned fs pairs u v [] ku kv))

  pub joined_separates : (fs : List (List Affine)) → 1 ≤ length b.alpha → AreRows (length b.alpha) fs → Separates b (joined fs) → Pairs Two fs
  joined_separates fs l h s = pairs_of Two fs [] (λ u v ku kv.
      let c = count_joined (length b.alpha) fs l h in
      subst (λ x. Two x (get_or fs v [])) (access_joined (length b.alpha) fs h u ku)
      (subst (Two (access (length b.alpha) (joined fs) u)) (access_joined (length b.alpha) fs h v kv) (s u v (omega (arith, c, ku)) (omega (arith, c, kv)))))

  -- what has no access is apart
  pub separates_none : Separates b []
  separates_none u v l k = absurd (none u l)
    where
      none : (u : ℕ) → u < 0 / length b.alpha → ⊥
      none u l = omega (arith, l)
