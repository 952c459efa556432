-- Small numbers, as words of `Int`; and lists by their places.
use Rattle.std.proofs.Common.{◌≡◌, ℕ, zero, suc, ◌+◌, ◌*◌, ◌<◌, ◌≤◌, ◌^◌, Bool, true, false, ◌&&◌, pos, ◌+ℤ◌, ◌-ℤ◌, List, [], ◌∷◌, ◌++◌, map, flat_map, length, slice_index_or, refl, sym, ap, ap₂, ◌∙◌, arith, lit<, mod-eq_of_lt, mul-le-mul}
use Rattle.std.proofs.lemmas.Int.{ints}
use Rattle.sp_words.specs.Types.{int_type}
use Rattle.sp_words.specs.WholeNumbers.{modulo}
use Rattle.sp_words.specs.Words.{wrap, word_add, word_sub}
use Rattle.sp_words.proofs.LawLemmas.{value-wrap}
use Rattle.sp_core.specs.Elements.{index_value, numbers_below, tuples}
use Rattle.sp_time.specs.Lists.{Each}

-- a word below 2 ^ 31 is that number
pub small_wrap : (n : ℕ) → n < 2 ^ 31 → wrap int_type (pos n) ≡ n
unfolding wrap modulo
small_wrap n l = mod-eq_of_lt {n = n} {m = 4294967296} (omega (arith, l))

pub small_value : (n : ℕ) → n < 2 ^ 31 → index_value n ≡ pos n
small_value n l = ap index_value (sym (small_wrap n l)) ∙ value-wrap int_type (pos n) (omega (arith, ints), omega (arith, ints, l))

pub one_more : (w n : ℕ) → index_value w ≡ pos n → suc n < 2 ^ 31 → index_value (word_add int_type w 1) ≡ pos (suc n)
unfolding word_add
one_more w n e l =
    ap₂ (λ a b. index_value (wrap int_type (a +ℤ b))) e (small_value 1 (lit< tt))
    ∙ ap (λ z. index_value (wrap int_type z)) (let f : pos n +ℤ pos 1 ≡ pos (suc n) = omega (arith, ints) in f)
    ∙ ap index_value (small_wrap (suc n) l) ∙ small_value (suc n) l

pub difference : (v a x j : ℕ) → index_value a ≡ pos x → v ≡ x + j → v < 2 ^ 31 → word_sub int_type v a ≡ j
unfolding word_sub
difference v a x j e f l =
    ap₂ (λ y z. wrap int_type (y -ℤ z)) (small_value v l ∙ ap pos f) e
    ∙ ap (wrap int_type) (let g : pos (x + j) -ℤ pos x ≡ pos j = omega (arith, ints) in g)
    ∙ small_wrap j (omega (arith, l, f))

-- the dimensions of a memory with words have words, and are no longer than it
pub factors : (a b : ℕ) → 1 ≤ a * b → (a ≤ a * b) × (b ≤ a * b) × (1 ≤ b)
factors a zero l = absurd (omega (arith, l))
factors zero (suc b) l = absurd (omega (arith, l))
factors (suc a) (suc b) l =
    let f : 1 ≤ suc b = omega arith in
    let g : 1 ≤ suc a = omega arith in
    let x : suc a * 1 ≤ suc a * suc b = mul-le-mul {n₁ = suc a} {m₁ = 1} {n₂ = suc a} {m₂ = suc b} (omega arith) f in
    let y : 1 * suc b ≤ suc a * suc b = mul-le-mul {n₁ = 1} {m₁ = suc b} {n₂ = suc a} {m₂ = suc b} g (omega arith) in
    (omega (arith, x), omega (arith, y), f)

pub and_parts : (a b : Bool) → (a && b) ≡ true → (a ≡ true) × (b ≡ true)
and_parts true true e = (refl, refl)
and_parts true false e = absurd (cc)
and_parts false b e = absurd (cc)

-- elements of lists
pub mapped : {A B : Type 0} (f : A → B) (xs : List A) → length (map f xs) ≡ length xs
mapped f [] = refl
mapped f (x ∷ xs) = ap (λ n. suc n) (mapped f xs)

pub nth_map : {A B : Type 0} (f : A → B) (xs : List A) (k : ℕ) (a : A) (b : B) → k < length xs → slice_index_or (map f xs) k b ≡ f (slice_index_or xs k a)
nth_map f [] k a b l = absurd (omega (arith, l))
nth_map f (x ∷ xs) zero a b l = refl
nth_map f (x ∷ xs) (suc k) a b l = nth_map f xs k a b (omega (arith, l))

pub each_at : {A : Type 0} (P : A → Type 0) (xs : List A) (k : ℕ) (a : A) → Each P xs → k < length xs → P (slice_index_or xs k a)
each_at P [] k a h l = absurd (omega (arith, l))
each_at P (x ∷ xs) zero a h l = h.0
each_at P (x ∷ xs) (suc k) a h l = each_at P xs k a h.1 (omega (arith, l))

pub each_append : {A : Type 0} (P : A → Type 0) (xs ys : List A) → Each P xs → Each P ys → Each P (xs ++ ys)
each_append P [] ys h k = k
each_append P (x ∷ xs) ys h k = (h.0, each_append P xs ys h.1 k)

pub each_map : {A B : Type 0} (P : A → Type 0) (Q : B → Type 0) (f : A → B) → ((x : A) → P x → Q (f x)) → (xs : List A) → Each P xs → Each Q (map f xs)
each_map P Q f g [] h = tt
each_map P Q f g (x ∷ xs) h = (g x h.0, each_map P Q f g xs h.1)

pub each_below : (P : ℕ → Type 0) (n : ℕ) → ((k : ℕ) → k < n → P k) → Each P (numbers_below n)
each_below P zero h = tt
each_below P (suc n) h = each_append P (numbers_below n) (n ∷ []) (each_below P n (λ k l. h k (omega (arith, l)))) (h n (omega arith), tt)

module _ {A : Type 0} where
  -- each way to take one element of each list has one of each
  long_rows : (n : ℕ) (ts : List (List A)) → Each (λ t. length t ≡ n) ts → (xs : List A) → Each (λ t. length t ≡ suc n) (flat_map (λ x. map (λ others. x ∷ others) ts) xs)
  long_rows n ts h [] = tt
  long_rows n ts h (x ∷ xs) = each_append (λ t. length t ≡ suc n) (map (λ others. x ∷ others) ts) (flat_map (λ x. map (λ others. x ∷ others) ts) xs) (each_map (λ t. length t ≡ n) (λ t. length t ≡ suc n) (λ others. x ∷ others) (λ ys g. ap (λ m. suc m) g) ts h) (long_rows n ts h xs)

  pub tuples_long : (lists : List (List A)) → Each (λ t. length t ≡ length lists) (tuples lists)
  tuples_long [] = (refl, tt)
  tuples_long (xs ∷ lists) = long_rows (length lists) (tuples lists) (tuples_long lists) xs

  -- an empty list leaves none
  nothing : (xs : List A) → flat_map (λ x. map (λ others. x ∷ others) []) xs ≡ []
  nothing [] = refl
  nothing (x ∷ xs) = nothing xs

  pub none_behind : (xs : List A) (lists : List (List A)) → tuples lists ≡ [] → tuples (xs ∷ lists) ≡ []
  none_behind xs lists e = ap (λ ts. flat_map (λ x. map (λ others. x ∷ others) ts) xs) e ∙ nothing xs
