-- Elements of lists.
use Rattle.std.proofs.Common.{◌≡◌, inl, inr, ℕ, zero, suc, ◌==◌, ne_eqb, Bool, true, false, if◌then◌else◌, List, [], ◌∷◌, map, refl, sym, ap, subst, ◌∙◌, arith}
use Rattle.std.proofs.lemmas.Bool.{cases_eq}
use Rattle.std.specs.List.{Contains, filter}
use Rattle.std.specs.Prelude.{All}
use Rattle.sp_time.specs.Lists.{Each}

pub same_number : (a b : ℕ) → (a == b) ≡ true → a ≡ b
same_number a b e = elim (cases_eq a b) [
  | inl same ↦ same
  | inr other ↦ absurd (let clash : true ≡ false = sym e ∙ ne_eqb a b other in cc)
]

pub each_in : {A : Type 0} (P : A → Type 0) (xs : List A) (x : A) → Each P xs → Contains xs x → P x
each_in P [] x h (k, l, e) = absurd (omega (arith, l))
each_in P (y ∷ xs) x h (zero, l, e) = subst P e h.0
each_in P (y ∷ xs) x h (suc k, l, e) = each_in P xs x h.1 (k, omega (arith, l), e)

pub all_in : {A : Type 0} (P : A → Type 0) (xs : List A) (x : A) → All P xs → Contains xs x → P x
all_in P xs x h (k, l, e) = subst P e (h k x l)

behind : {A : Type 0} (y x : A) (xs : List A) → Contains xs x → Contains (y ∷ xs) x
behind y x xs (k, l, e) = (suc k, omega (arith, l), e)

pub in_map : {A B : Type 0} (f : A → B) (xs : List A) (x : A) → Contains xs x → Contains (map f xs) (f x)
in_map f [] x (k, l, e) = absurd (omega (arith, l))
in_map f (y ∷ xs) x (zero, l, e) = (zero, omega arith, ap f e)
in_map f (y ∷ xs) x (suc k, l, e) = behind (f y) (f x) (map f xs) (in_map f xs x (k, omega (arith, l), e))

pub of_map : {A B : Type 0} (f : A → B) (xs : List A) (z : B) → Contains (map f xs) z → (x : A) × Contains xs x × (f x ≡ z)
of_map f [] z (k, l, e) = absurd (omega (arith, l))
of_map f (y ∷ xs) z (zero, l, e) = (y, (zero, omega arith, refl), e)
of_map f (y ∷ xs) z (suc k, l, e) = let r = of_map f xs z (k, omega (arith, l), e) in (r.0, behind y r.0 xs r.1, r.2)

filtered : {A : Type 0} (p : A → Bool) (y : A) (xs : List A) (b : Bool) → p y ≡ b → filter p (y ∷ xs) ≡ (if b then y ∷ filter p xs else filter p xs)
filtered p y xs true e = rw e refl
filtered p y xs false e = rw e refl

keep_on : {A : Type 0} (p : A → Bool) (y : A) (xs : List A) (x : A) → Contains (filter p xs) x → (b : Bool) → p y ≡ b → Contains (filter p (y ∷ xs)) x
keep_on p y xs x c true e = subst (λ zs. Contains zs x) (sym (filtered p y xs true e)) (behind y x (filter p xs) c)
keep_on p y xs x c false e = subst (λ zs. Contains zs x) (sym (filtered p y xs false e)) c

at_front : {A : Type 0} (p : A → Bool) (y : A) (xs ys : List A) (x : A) → p y ≡ true → (Contains ys x → Contains xs x × (p x ≡ true)) → Contains (y ∷ ys) x → Contains (y ∷ xs) x × (p x ≡ true)
at_front p y xs ys x e rest (zero, l, same) = ((zero, omega arith, same), ap p (sym same) ∙ e)
at_front p y xs ys x e rest (suc k, l, same) = let r = rest (k, omega (arith, l), same) in (behind y x xs r.0, r.1)

come_from : {A : Type 0} (p : A → Bool) (y : A) (xs : List A) (x : A) → (Contains (filter p xs) x → Contains xs x × (p x ≡ true)) → (b : Bool) → p y ≡ b → Contains (filter p (y ∷ xs)) x → Contains (y ∷ xs) x × (p x ≡ true)
come_from p y xs x rest true e c = at_front p y xs (filter p xs) x e rest (subst (λ zs. Contains zs x) (filtered p y xs true e) c)
come_from p y xs x rest false e c = let r = rest (subst (λ zs. Contains zs x) (filtered p y xs false e) c) in (behind y x xs r.0, r.1)

pub in_filter : {A : Type 0} (p : A → Bool) (xs : List A) (x : A) → Contains xs x → p x ≡ true → Contains (filter p xs) x
in_filter p [] x (k, l, e) here = absurd (omega (arith, l))
in_filter p (y ∷ xs) x (zero, l, e) here =
    let same : p y ≡ true = ap p e ∙ here in
    subst (λ zs. Contains zs x) (sym (filtered p y xs true same)) (zero, omega arith, e)
in_filter p (y ∷ xs) x (suc k, l, e) here = keep_on p y xs x (in_filter p xs x (k, omega (arith, l), e) here) (p y) refl

pub of_filter : {A : Type 0} (p : A → Bool) (xs : List A) (x : A) → Contains (filter p xs) x → Contains xs x × (p x ≡ true)
of_filter p [] x (k, l, e) = absurd (omega (arith, l))
of_filter p (y ∷ xs) x c = come_from p y xs x (λ d. of_filter p xs x d) (p y) refl c
