-- Which numbers are among which.
use Rattle.std.proofs.Common.{◌≡◌, ℕ, Bool, true, false, ◌||◌, ◌==◌, ◌⊎◌, inl, inr, List, [], ◌∷◌, ◌++◌, refl, sym, ap, subst, ◌∙◌}
use Rattle.std.specs.List.{Contains}
use Rattle.std.proofs.lemmas.Bool.{eq-eqb, eqb-true, true≢false}
use Rattle.sp_core.specs.Declarations.{is_among}
use Rattle.sp_node_runs.proofs.BodiesListed.{here, there, none_there, first_or_later}

pub not_true : (b : Bool) → (b ≡ true → ⊥) → b ≡ false
not_true true never = absurd (never refl)
not_true false never = refl

pub never_both : (b : Bool) → b ≡ true → b ≡ false → ⊥
never_both b is not = absurd (true≢false (sym is ∙ not))

pub among_nothing : (m : ℕ) → is_among m [] ≡ true → ⊥
among_nothing m h = absurd (true≢false (sym h))

-- what is among the one list or the other one is among both
pub among_left : (m : ℕ) (xs ys : List ℕ) → is_among m xs ≡ true → is_among m (xs ++ ys) ≡ true
among_left m [] ys h = absurd (true≢false (sym h))
among_left m (x ∷ xs) ys h = by (m == x) h (among_left m xs ys)
  where
    by : (b : Bool) → (b || is_among m xs) ≡ true → (is_among m xs ≡ true → is_among m (xs ++ ys) ≡ true) → (b || is_among m (xs ++ ys)) ≡ true
    by true h rest = refl
    by false h rest = rest h

pub among_right : (m : ℕ) (xs ys : List ℕ) → is_among m ys ≡ true → is_among m (xs ++ ys) ≡ true
among_right m [] ys h = h
among_right m (x ∷ xs) ys h = by (m == x) (among_right m xs ys h)
  where
    by : (b : Bool) → is_among m (xs ++ ys) ≡ true → (b || is_among m (xs ++ ys)) ≡ true
    by true h = refl
    by false h = h

pub among_first : (m : ℕ) (xs : List ℕ) → is_among m (m ∷ xs) ≡ true
among_first m xs = ap (λ b. b || is_among m xs) (eq-eqb m m refl)

pub among_rest : (m x : ℕ) (xs : List ℕ) → is_among m xs ≡ true → is_among m (x ∷ xs) ≡ true
among_rest m x xs h = among_right m (x ∷ []) xs h

-- and what is among both is among one of them
pub among_one : (m : ℕ) (xs ys : List ℕ) → is_among m (xs ++ ys) ≡ true → (is_among m xs ≡ true) ⊎ (is_among m ys ≡ true)
among_one m [] ys h = inr h
among_one m (x ∷ xs) ys h = by (m == x) h (among_one m xs ys)
  where
    by : (b : Bool) → (b || is_among m (xs ++ ys)) ≡ true → (is_among m (xs ++ ys) ≡ true → (is_among m xs ≡ true) ⊎ (is_among m ys ≡ true)) → ((b || is_among m xs) ≡ true) ⊎ (is_among m ys ≡ true)
    by true h rest = inl refl
    by false h rest = rest h

pub among_none : (m : ℕ) (xs ys : List ℕ) → is_among m (xs ++ ys) ≡ false → (is_among m xs ≡ false) × (is_among m ys ≡ false)
among_none m xs ys h = (
  not_true (is_among m xs) (λ q. never_both (is_among m (xs ++ ys)) (among_left m xs ys q) h),
  not_true (is_among m ys) (λ q. never_both (is_among m (xs ++ ys)) (among_right m xs ys q) h),
)

-- the one number of a list
pub among_only : (m x : ℕ) → is_among m (x ∷ []) ≡ true → m ≡ x
among_only m x h = by (m == x) refl h
  where
    by : (b : Bool) → (m == x) ≡ b → (b || false) ≡ true → m ≡ x
    by true e q = eqb-true m x e
    by false e q = absurd (true≢false (sym q))

-- a list contains what is among it
pub contains_among : (m : ℕ) (xs : List ℕ) → is_among m xs ≡ true → Contains xs m
contains_among m [] h = absurd (true≢false (sym h))
contains_among m (x ∷ xs) h = by (m == x) refl h (contains_among m xs)
  where
    by : (b : Bool) → (m == x) ≡ b → (b || is_among m xs) ≡ true → (is_among m xs ≡ true → Contains xs m) → Contains (x ∷ xs) m
    by true e q rest = subst (λ y. Contains (x ∷ xs) y) (sym (eqb-true m x e)) (here x xs)
    by false e q rest = there x m xs (rest q)

pub among_contained : (m : ℕ) (xs : List ℕ) → Contains xs m → is_among m xs ≡ true
among_contained m [] c = absurd (none_there m c)
among_contained m (x ∷ xs) c = by (first_or_later x m xs c) (among_contained m xs)
  where
    by : (x ≡ m) ⊎ Contains xs m → (Contains xs m → is_among m xs ≡ true) → is_among m (x ∷ xs) ≡ true
    by (inl e) rest = subst (λ y. is_among y (x ∷ xs) ≡ true) e (among_first x xs)
    by (inr d) rest = among_rest m x xs (rest d)
