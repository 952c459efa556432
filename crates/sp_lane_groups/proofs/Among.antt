-- Which numbers stand in the lists of lanes.
use Rattle.std.proofs.Common.{◌≡◌, ℕ, zero, suc, ◌<◌, Bool, true, false, ◌||◌, List, [], ◌∷◌, ◌++◌, map, refl, sym, ◌∙◌, ap, arith, inl, inr, ◌==◌}
use Rattle.std.proofs.lemmas.Bool.{true≢false, eq-eqb, ne_eqb, or_right}
use Rattle.std.proofs.lemmas.Bool.Decides.{eqb_tells}
use Rattle.std.specs.Prelude.{flat_map}
use Rattle.sp_core.specs.Declarations.{is_among}
use Rattle.sp_core.specs.Elements.{numbers_below}
use Rattle.sp_lane_rules.proofs.UnrolledPlaces.{among_both}

pub or_left : (a b : Bool) → a ≡ true → (a || b) ≡ true
or_left true b e = refl
or_left false b e = absurd (true≢false (sym e))

both_false : (a b : Bool) → a ≡ false → b ≡ false → (a || b) ≡ false
both_false true b e f = absurd (true≢false e)
both_false false b e f = f

mapped_in : (f : ℕ → ℕ) (m : ℕ) (xs : List ℕ) → is_among m xs ≡ true → is_among (f m) (map f xs) ≡ true
mapped_in f m [] e = absurd (true≢false (sym e))
mapped_in f m (x ∷ xs) e = elim (eqb_tells m x) [
  | inl same ↦ or_left (f m == f x) (is_among (f m) (map f xs)) (eq-eqb (f m) (f x) (ap f same.1))
  | inr apart ↦ or_right (f m == f x) (is_among (f m) (map f xs)) (mapped_in f m xs (sym (ap (λ b. b || is_among m xs) apart.0) ∙ e))
]

mapped_out : (f : ℕ → ℕ) (n : ℕ) (xs : List ℕ) → ((m : ℕ) → is_among m xs ≡ true → f m ≡ n → ⊥) → is_among n (map f xs) ≡ false
mapped_out f n [] h = refl
mapped_out f n (x ∷ xs) h =
    both_false (n == f x) (is_among n (map f xs)) (ne_eqb n (f x) (λ s. h x (or_left (x == x) (is_among x xs) (eq-eqb x x refl)) (sym s)))
    (mapped_out f n xs (λ m e. h m (or_right (m == x) (is_among m xs) e)))

module _ (f : ℕ → List ℕ) (n : ℕ) where
  flat_both : (xs ys : List ℕ) → is_among n (flat_map f (xs ++ ys)) ≡ (is_among n (flat_map f xs) || is_among n (flat_map f ys))
  flat_both [] ys = refl
  flat_both (x ∷ xs) ys =
      among_both n (f x) (flat_map f (xs ++ ys)) ∙ ap (λ b. is_among n (f x) || b) (flat_both xs ys)
      ∙ regrouped (is_among n (f x)) (is_among n (flat_map f xs)) (is_among n (flat_map f ys))
      ∙ ap (λ b. b || is_among n (flat_map f ys)) (sym (among_both n (f x) (flat_map f xs)))
    where
      regrouped : (a b c : Bool) → (a || (b || c)) ≡ ((a || b) || c)
      regrouped true b c = refl
      regrouped false b c = refl

  pub lanes_in : (p l : ℕ) → l < p → is_among n (f l) ≡ true → is_among n (flat_map f (numbers_below p)) ≡ true
  lanes_in zero l lt e = absurd (omega arith)
  lanes_in (suc p) l lt e =
      flat_both (numbers_below p) (p ∷ [])
      ∙ elim (eqb_tells l p) [
        | inl same ↦ or_right (is_among n (flat_map f (numbers_below p))) (is_among n (f p ++ [])) (among_both n (f p) [] ∙ or_left (is_among n (f p)) false (ap (λ k. is_among n (f k)) (sym same.1) ∙ e))
        | inr apart ↦ or_left (is_among n (flat_map f (numbers_below p))) (is_among n (f p ++ [])) (lanes_in p l (less apart.1) e)
      ]
    where
      less : (l ≡ p → ⊥) → l < p
      less ne = omega (arith, lt, ne)

  pub lanes_out : (p : ℕ) → ((l : ℕ) → l < p → is_among n (f l) ≡ false) → is_among n (flat_map f (numbers_below p)) ≡ false
  lanes_out zero h = refl
  lanes_out (suc p) h =
      flat_both (numbers_below p) (p ∷ [])
      ∙ both_false (is_among n (flat_map f (numbers_below p))) (is_among n (f p ++ [])) (lanes_out p (λ l lt. h l (omega arith))) (among_both n (f p) [] ∙ both_false (is_among n (f p)) false (h p (omega arith)) refl)

-- a row of mapped lists
pub row_in : (f : ℕ → ℕ → ℕ) (owned : List ℕ) (p l m : ℕ) → l < p → is_among m owned ≡ true → is_among (f l m) (flat_map (λ l. map (f l) owned) (numbers_below p)) ≡ true
row_in f owned p l m lt e = lanes_in (λ l. map (f l) owned) (f l m) p l lt (mapped_in (f l) m owned e)

pub row_out : (f : ℕ → ℕ → ℕ) (owned : List ℕ) (p n : ℕ) → ((m l : ℕ) → is_among m owned ≡ true → l < p → f l m ≡ n → ⊥) → is_among n (flat_map (λ l. map (f l) owned) (numbers_below p)) ≡ false
row_out f owned p n h = lanes_out (λ l. map (f l) owned) n p (λ l lt. mapped_out (f l) n owned (λ m e. h m l e lt))
