-- Counters of an access's own: their values, and forms over them.
use Rattle.std.proofs.Common.{◌≡◌, ℕ, zero, suc, ◌+◌, ◌-◌, ◌<◌, ◌≤◌, true, ℤ, pos, ◌+ℤ◌, ◌*ℤ◌, List, [], ◌∷◌, ◌++◌, length, map, drop, replicate, append_assoc, length-append, Option, Some, None, refl, sym, ap, ◌∙◌, subst, arith}
use Rattle.std.specs.Prelude.{slice_index_or, max}
use Rattle.std.specs.Ordering.{int_eq}
use Rattle.std.proofs.lemmas.Bool.{and_parts, and_from, leb-true}
use Rattle.std.proofs.lemmas.Bool.Decides.{Decides-int_eq}
use Rattle.std.proofs.lemmas.Int.{ints}
use Rattle.sp_affine.specs.Affine.{Affine, dot, value_of, symbol_value}
use Rattle.sp_core.specs.Forms.{PlainForms, are_indices, is_within, are_within}
use Rattle.sp_core.specs.PlainCore.{PlainCore}
use Rattle.sp_deps.specs.Groups.{HasValue, HaveValues}
use Rattle.sp_meets.specs.Sites.{from_zero, size_of, own_counters, unit, with_more, counter_indices}

-- each number is below its limit, and each limit at most another one
abbrev pub AreBelow : (limits numbers : List ℕ) → Type 0
AreBelow [] [] = Unit {0}
AreBelow (n ∷ ns) (k ∷ ks) = (k < n) × AreBelow ns ks
AreBelow _ _ = ⊥

abbrev pub AreUpTo : (numbers limits : List ℕ) → Type 0
AreUpTo [] [] = Unit {0}
AreUpTo (n ∷ ns) (d ∷ ds) = (n ≤ d) × AreUpTo ns ds
AreUpTo _ _ = ⊥

drop_next : {A : Type 0} (n : ℕ) (xs : List A) → drop 1 (drop n xs) ≡ drop (suc n) xs
drop_next zero xs = refl
drop_next (suc n) [] = refl
drop_next (suc n) (x ∷ xs) = drop_next n xs

drop_one_more : {A : Type 0} (n : ℕ) (xs : List A) → drop 1 (drop n xs) ≡ drop (n + 1) xs
drop_one_more n xs = let e : suc n ≡ n + 1 = omega arith in drop_next n xs ∙ ap (λ k. drop k xs) e

drop_at : {A : Type 0} (n : ℕ) (xs : List A) (d : A) → slice_index_or (drop n xs) 0 d ≡ slice_index_or xs n d
drop_at zero xs d = refl
drop_at (suc n) [] d = refl
drop_at (suc n) (x ∷ xs) d = drop_at n xs d

below_most : (k l : ℕ) → k < l → k ≤ max 1 l - 1
below_most k l h = omega (arith, h)

in_slot : (k l : ℕ) → k < l → HasValue (from_zero l) (pos k)
in_slot k l h = let m = below_most k l h in (omega (arith, ints), omega (arith, ints, m))

module _ (core : PlainCore) (forms : PlainForms) where
  -- a length that is known is no less
  is_less : (o : Option ℕ) (d k n : ℕ) → k < n → n ≤ d → is_within core forms o n ≡ true → k < size_of o d
  is_less None d k n h l w = omega (arith, h, l)
  is_less (Some most) d k n h l w = let m = leb-true n most w in omega (arith, h, m)

  pub own_have : (base : ℕ) (sizes ns o : List ℕ) → AreUpTo ns sizes → are_within core forms base ns ≡ true → AreBelow ns o → HaveValues (own_counters (drop base forms.lengths) sizes) (map pos o)
  own_have base [] [] [] u w b = tt
  own_have base [] [] (k ∷ o) u w b = absurd b
  own_have base [] (n ∷ ns) o u w b = absurd u
  own_have base (d ∷ sizes) [] o u w b = absurd u
  own_have base (d ∷ sizes) (n ∷ ns) [] u w b = absurd b
  own_have base (d ∷ sizes) (n ∷ ns) (k ∷ o) u w b =
      let p = and_parts (is_within core forms (slice_index_or forms.lengths base None) n) (are_within core forms (base + 1) ns) w in (
        subst (λ x. HasValue (from_zero (size_of x d)) (pos k)) (sym (drop_at base forms.lengths None)) (in_slot k (size_of (slice_index_or forms.lengths base None) d) (is_less (slice_index_or forms.lengths base None) d k n b.0 u.0 p.0)),
        subst (λ ls. HaveValues (own_counters ls sizes) (map pos o)) (sym (drop_one_more base forms.lengths)) (own_have (base + 1) sizes ns o u.1 p.1 b.1),
      )

  -- one counter, below what is known and below its dimension
  is_less_one : (o : Option ℕ) (d k n : ℕ) → k < n → k < d → is_within core forms o n ≡ true → k < size_of o d
  is_less_one None d k n h l w = l
  is_less_one (Some most) d k n h l w = let m = leb-true n most w in omega (arith, h, m)

  pub one_has : (base d n k : ℕ) → k < d → k < n → are_within core forms base (n ∷ []) ≡ true → HaveValues (own_counters (drop base forms.lengths) (d ∷ [])) (pos k ∷ [])
  one_has base d n k l h w =
      let p = and_parts (is_within core forms (slice_index_or forms.lengths base None) n) true w in
      (subst (λ x. HasValue (from_zero (size_of x d)) (pos k)) (sym (drop_at base forms.lengths None)) (in_slot k (size_of (slice_index_or forms.lengths base None) d) (is_less_one (slice_index_or forms.lengths base None) d k n h l p.0)), tt)

-- where nothing is known each may be 0
pub zeros_have : (lens : List (Option ℕ)) (sizes : List ℕ) → HaveValues (own_counters lens sizes) (replicate (length sizes) (pos 0))
zeros_have lens [] = tt
zeros_have lens (d ∷ sizes) = (at_zero (size_of (slice_index_or lens 0 None) d), zeros_have (drop 1 lens) sizes)
  where
    at_zero : (l : ℕ) → HasValue (from_zero l) (pos 0)
    at_zero l = (omega (arith, ints), omega (arith, ints))

pub own_length : (lens : List (Option ℕ)) (sizes : List ℕ) → length (own_counters lens sizes) ≡ length sizes
own_length lens [] = refl
own_length lens (d ∷ sizes) = ap suc (own_length (drop 1 lens) sizes)

-- forms over the counters around and these
pub dot_both : (cs ds xs ys : List ℤ) → length cs ≡ length xs → dot (cs ++ ds) (xs ++ ys) ≡ dot cs xs +ℤ dot ds ys
dot_both [] ds [] ys e = zero_more (dot ds ys)
  where
    zero_more : (z : ℤ) → z ≡ pos 0 +ℤ z
    zero_more z = omega (arith, ints)
dot_both [] ds (x ∷ xs) ys e = absurd (omega (arith, e))
dot_both (c ∷ cs) ds [] ys e = absurd (omega (arith, e))
dot_both (c ∷ cs) ds (x ∷ xs) ys e = ap (λ z. (c *ℤ x) +ℤ z) (dot_both cs ds xs ys (omega (arith, e))) ∙ over (c *ℤ x) (dot cs xs) (dot ds ys)
  where
    over : (a b c : ℤ) → a +ℤ (b +ℤ c) ≡ (a +ℤ b) +ℤ c
    over a b c = omega (arith, ints)

zero_times : (z : ℤ) → pos 0 *ℤ z ≡ pos 0
zero_times z = omega (arith, ints)

one_times : (z : ℤ) → pos 1 *ℤ z ≡ z
one_times z = omega (arith, ints)

pub dot_none : (n : ℕ) (xs : List ℤ) → dot (replicate n (pos 0)) xs ≡ pos 0
dot_none zero xs = refl
dot_none (suc n) [] = refl
dot_none (suc n) (x ∷ xs) = no_more (pos 0 *ℤ x) (dot (replicate n (pos 0)) xs) (zero_times x) (dot_none n xs)
  where
    no_more : (a b : ℤ) → a ≡ pos 0 → b ≡ pos 0 → a +ℤ b ≡ pos 0
    no_more a b e f = omega (arith, ints, e, f)

pub dot_unit : (n i : ℕ) (front : List ℤ) (k : ℤ) (rest : List ℤ) → length front ≡ i → i < n → dot (unit n i) (front ++ k ∷ rest) ≡ k
dot_unit zero i front k rest e l = absurd (omega (arith, l))
dot_unit (suc n) zero [] k rest e l = alone (pos 1 *ℤ k) (dot (replicate n (pos 0)) rest) k (one_times k) (dot_none n rest)
  where
    alone : (a b k : ℤ) → a ≡ k → b ≡ pos 0 → a +ℤ b ≡ k
    alone a b k e f = omega (arith, ints, e, f)
dot_unit (suc n) zero (x ∷ front) k rest e l = absurd (omega (arith, e))
dot_unit (suc n) (suc i) [] k rest e l = absurd (omega (arith, e))
dot_unit (suc n) (suc i) (x ∷ front) k rest e l = after (pos 0 *ℤ x) (dot (unit n i) (front ++ k ∷ rest)) k (zero_times x) (dot_unit n i front k rest (omega (arith, e)) (omega (arith, l)))
  where
    after : (a b k : ℤ) → a ≡ pos 0 → b ≡ k → a +ℤ b ≡ k
    after a b k e f = omega (arith, ints, e, f)

pub unit_length : (n i : ℕ) → length (unit n i) ≡ n
unit_length zero i = refl
unit_length (suc n) zero = ap suc (length_replicate n (pos 0))
  where
    length_replicate : (n : ℕ) (x : ℤ) → length (replicate n x) ≡ n
    length_replicate zero x = refl
    length_replicate (suc n) x = ap suc (length_replicate n x)
unit_length (suc n) (suc i) = ap suc (unit_length n i)

pub replicate_length : (n : ℕ) (x : ℤ) → length (replicate n x) ≡ n
replicate_length zero x = refl
replicate_length (suc n) x = ap suc (replicate_length n x)

-- the value of a form with more counters
pub more_value : (f : Affine) (more counters own : List ℤ) (symbols : ℕ → ℤ) → length f.coefs ≡ length counters → value_of (with_more more f) (counters ++ own) symbols ≡ value_of f counters symbols +ℤ dot more own
more_value f more counters own symbols e = turn (dot (f.coefs ++ more) (counters ++ own)) (dot f.coefs counters) (dot more own) f.constant (symbol_value f.symbol symbols) (dot_both f.coefs more counters own e)
  where
    turn : (d a b c s : ℤ) → d ≡ a +ℤ b → (d +ℤ c) +ℤ s ≡ ((a +ℤ c) +ℤ s) +ℤ b
    turn d a b c s e = omega (arith, ints, e)

-- the last counters as indices
module _ (core : PlainCore) (forms : PlainForms) (counters : List ℤ) (symbols : ℕ → ℤ) where
  counter_value : (size n i : ℕ) (front : List ℤ) (k : ℤ) (rest : List ℤ) → size ≡ length counters → length front ≡ i → i < n →
      value_of (record { coefs = replicate size (pos 0) ++ unit n i; constant = pos 0; symbol = None }) (counters ++ (front ++ k ∷ rest)) symbols ≡ k
  counter_value size n i front k rest e f l =
      alone (dot (replicate size (pos 0) ++ unit n i) (counters ++ (front ++ k ∷ rest))) (dot (replicate size (pos 0)) counters) (dot (unit n i) (front ++ k ∷ rest)) k
      (dot_both (replicate size (pos 0)) (unit n i) counters (front ++ k ∷ rest) (replicate_length size (pos 0) ∙ e)) (dot_none size counters) (dot_unit n i front k rest f l)
    where
      alone : (d a b k : ℤ) → d ≡ a +ℤ b → a ≡ pos 0 → b ≡ k → (d +ℤ pos 0) +ℤ pos 0 ≡ k
      alone d a b k e f g = omega (arith, ints, e, f, g)

  counters_are : (size n last : ℕ) (front : List ℤ) (o : List ℕ) → size ≡ length counters → length o ≡ last → length front + last ≡ n → are_indices core forms (counter_indices size n last) (map pos o) (counters ++ (front ++ map pos o)) symbols ≡ true
  counters_are size n zero front [] e f g = refl
  counters_are size n zero front (k ∷ o) e f g = absurd (omega (arith, f))
  counters_are size n (suc last) front [] e f g = absurd (omega (arith, f))
  counters_are size n (suc last) front (k ∷ o) e f g =
      let i : length front ≡ n - suc last = omega (arith, g) in
      let here = counter_value size n (n - suc last) front (pos k) (map pos o) e i (omega (arith, g)) in
      and_from (int_eq (value_of (record { coefs = replicate size (pos 0) ++ unit n (n - suc last); constant = pos 0; symbol = None }) (counters ++ (front ++ pos k ∷ map pos o)) symbols) (pos k)) _
      ((Decides-int_eq _ (pos k)).1 here)
      (subst (λ xs. are_indices core forms (counter_indices size n last) (map pos o) (counters ++ xs) symbols ≡ true) (append_assoc front (pos k ∷ []) (map pos o))
      (counters_are size n last (front ++ pos k ∷ []) o e (omega (arith, f)) (let h = length-append front (pos k ∷ []) in omega (arith, g, h))))

  pub own_indices : (size : ℕ) (o : List ℕ) → size ≡ length counters → are_indices core forms (counter_indices size (length o) (length o)) (map pos o) (counters ++ map pos o) symbols ≡ true
  own_indices size o e = counters_are size (length o) (length o) [] o e refl (omega arith)
