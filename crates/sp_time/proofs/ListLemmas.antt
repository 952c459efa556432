-- What holds of each element and of each two, of lists end to end.
use Rattle.std.proofs.Common.{◌≡◌, ℕ, zero, suc, ◌<◌, ◌≤◌, List, [], ◌∷◌, ◌++◌, map, inl, inr, arith, sym, subst}
use Rattle.std.proofs.lemmas.Bool.{cases_order}
use Rattle.sp_time.specs.Lists.{Each, Pairs, joined, total, greatest}

pub each_map : {A : Type 0} (Q R : A → Type 0) → ((x : A) → Q x → R x) → (xs : List A) → Each Q xs → Each R xs
each_map Q R f [] h = tt
each_map Q R f (x ∷ xs) h = (f x h.0, each_map Q R f xs h.1)

pub each_map2 : {A : Type 0} (Q R S : A → Type 0) → ((x : A) → Q x → R x → S x) → (xs : List A) → Each Q xs → Each R xs → Each S xs
each_map2 Q R S f [] h k = tt
each_map2 Q R S f (x ∷ xs) h k = (f x h.0 k.0, each_map2 Q R S f xs h.1 k.1)

pub each_append : {A : Type 0} (Q : A → Type 0) (xs ys : List A) → Each Q xs → Each Q ys → Each Q (xs ++ ys)
each_append Q [] ys h k = k
each_append Q (x ∷ xs) ys h k = (h.0, each_append Q xs ys h.1 k)

pub each_mapped : {A B : Type 0} (Q : B → Type 0) (f : A → B) (xs : List A) → Each (λ x. Q (f x)) xs → Each Q (map f xs)
each_mapped Q f [] h = tt
each_mapped Q f (x ∷ xs) h = (h.0, each_mapped Q f xs h.1)

pub each_trivial : {A : Type 0} (xs : List A) → Each (λ x. Unit {0}) xs
each_trivial [] = tt
each_trivial (x ∷ xs) = (tt, each_trivial xs)

pub each_all : {A : Type 0} (Q : A → Type 0) → ((x : A) → Q x) → (xs : List A) → Each Q xs
each_all Q f [] = tt
each_all Q f (x ∷ xs) = (f x, each_all Q f xs)

pub each_joined : {A : Type 0} (Q : A → Type 0) (f : ℕ → List A) (n : ℕ) → ((i : ℕ) → i < n → Each Q (f i)) → Each Q (joined f n)
each_joined Q f zero h = tt
each_joined Q f (suc n) h = each_append Q (joined f n) (f n) (each_joined Q f n (λ i lt. h i (omega arith))) (h n (omega arith))

pub pairs_append : {A : Type 0} (R : A → A → Type 0) (xs ys : List A) → Pairs R xs → Pairs R ys → Each (λ x. Each (R x) ys) xs → Pairs R (xs ++ ys)
pairs_append R [] ys h k b = k
pairs_append R (x ∷ xs) ys h k b = (each_append (R x) xs ys h.0 b.0, pairs_append R xs ys h.1 k b.1)

pub pairs_mapped : {A B : Type 0} (R : A → A → Type 0) (S : B → B → Type 0) (f : A → B) → ((x y : A) → R x y → S (f x) (f y)) → (xs : List A) → Pairs R xs → Pairs S (map f xs)
pairs_mapped R S f k [] h = tt
pairs_mapped R S f k (x ∷ xs) h = (each_mapped (S (f x)) f xs (each_map _ _ (λ y r. k x y r) xs h.0), pairs_mapped R S f k xs h.1)

-- lists end to end, where each one is in order and each two are
pub pairs_joined : {A : Type 0} (R : A → A → Type 0) (f : ℕ → List A) (n : ℕ) → ((i : ℕ) → i < n → Pairs R (f i)) → ((i j : ℕ) → i < j → j < n → Each (λ x. Each (R x) (f j)) (f i)) → Pairs R (joined f n)
pairs_joined R f zero h k = tt
pairs_joined R f (suc n) h k = pairs_append R (joined f n) (f n)
    (pairs_joined R f n (λ i lt. h i (omega arith)) (λ i j a b. k i j a (omega arith)))
    (h n (omega arith))
    (each_joined (λ x. Each (R x) (f n)) f n (λ i lt. k i n lt (omega arith)))

-- each two of the elements of two joined lists
pub each_two_joined : {A : Type 0} (R : A → A → Type 0) (f g : ℕ → List A) (m n : ℕ) → ((i j : ℕ) → i < m → j < n → Each (λ x. Each (R x) (g j)) (f i)) → Each (λ x. Each (R x) (joined g n)) (joined f m)
each_two_joined R f g m zero h = each_joined (λ x. Each (R x) []) f m (λ i lt. each_trivial (f i))
each_two_joined R f g m (suc n) h = each_map2 (λ x. Each (R x) (joined g n)) (λ x. Each (R x) (g n)) (λ x. Each (R x) (joined g n ++ g n)) (λ x a b. each_append (R x) (joined g n) (g n) a b) (joined f m)
    (each_two_joined R f g m n (λ i j a b. h i j a (omega arith)))
    (each_joined (λ x. Each (R x) (g n)) f m (λ i lt. h i n lt (omega arith)))

-- a table of lists, row by row, where each one is in order and each two are
pub pairs_table : {A : Type 0} (R : A → A → Type 0) (f : ℕ → ℕ → List A) (m n : ℕ) → ((i j : ℕ) → i < m → j < n → Pairs R (f i j)) → ((i j : ℕ) → i < m → j < n → (k : ℕ) → k < j → Each (λ x. Each (R x) (f i j)) (f i k)) → ((i j k l : ℕ) → i < j → j < m → k < n → l < n → Each (λ x. Each (R x) (f j l)) (f i k)) → Pairs R (joined (λ i. joined (f i) n) m)
pairs_table R f m n h row rows = pairs_joined R (λ i. joined (f i) n) m
    (λ i lt. pairs_joined R (f i) n (λ j l. h i j lt l) (λ a b c d. row i b lt d a c))
    (λ i j a b. each_two_joined R (f i) (f j) n n (λ k l c d. rows i j k l a b c d))

-- sums and the greatest
pub total_mono : (f : ℕ → ℕ) (a b : ℕ) → a ≤ b → total f a ≤ total f b
total_mono f a zero h = subst (λ n. total f n ≤ total f zero) (let e : 0 ≡ a = omega arith in e) (omega arith)
total_mono f a (suc b) h = elim (cases_order a (suc b)) [
  | inl e ↦ subst (λ n. total f n ≤ total f (suc b)) (sym e) (omega arith)
  | inr (inl lt) ↦ let k : total f a ≤ total f b = total_mono f a b (omega arith) in omega arith
  | inr (inr gt) ↦ absurd (omega arith)
]

pub total_le : (f g : ℕ → ℕ) (n : ℕ) → ((i : ℕ) → i < n → f i ≤ g i) → total f n ≤ total g n
total_le f g zero h = omega arith
total_le f g (suc n) h = let k : total f n ≤ total g n = total_le f g n (λ i lt. h i (omega arith)) in let l : f n ≤ g n = h n (omega arith) in omega arith

pub greatest_ge : (f : ℕ → ℕ) (n i : ℕ) → i < n → f i ≤ greatest f n
greatest_ge f zero i h = absurd (omega arith)
greatest_ge f (suc n) i h = elim (cases_order i n) [
  | inl e ↦ subst (λ k. f k ≤ greatest f (suc n)) (sym e) (omega arith)
  | inr (inl lt) ↦ let k : f i ≤ greatest f n = greatest_ge f n i lt in omega arith
  | inr (inr gt) ↦ absurd (omega arith)
]

pub greatest_le : (f g : ℕ → ℕ) (n : ℕ) → ((i : ℕ) → i < n → f i ≤ g i) → greatest f n ≤ greatest g n
greatest_le f g zero h = omega arith
greatest_le f g (suc n) h = let k : greatest f n ≤ greatest g n = greatest_le f g n (λ i lt. h i (omega arith)) in let l : f n ≤ g n = h n (omega arith) in omega arith
