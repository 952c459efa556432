-- Least and greatest words, by a natural that orders words as their values do.
use Rattle.std.proofs.Common.{◌≡◌, ℕ, ◌+◌, ◌^◌, ◌<◌, Bool, true, false, cond, refl, sym, ◌∙◌, ap, arith}
use Rattle.std.specs.Prelude.{pos, ◌-ℤ◌, int_lt, nat_lt}
use Rattle.std.proofs.lemmas.Int.{ints}
use Rattle.std.proofs.lemmas.Bool.Decides.{nat_tests}
use Rattle.sp_words.specs.declared.types.Ty.{Ty}
use Rattle.sp_words.specs.Types.{width_of}
use Rattle.sp_words.specs.Words.{IsWord, has_sign, value_of, word_lt, word_min, word_max}
use Rattle.sp_words.specs.Laws.{IsCommutative, IsAssociative}
use Rattle.sp_words.proofs.OperatorLemmas.{value_negative, value_natural}

-- the value of a word plus 2 ^ width
key : Ty → ℕ → ℕ
key ty w = cond (has_sign ty w) w (w + 2 ^ width_of ty)

shifted : (w m : ℕ) → pos w ≡ pos (w + m) -ℤ pos m
shifted w m = omega (arith, ints)

value_case : (ty : Ty) (w : ℕ) (b : Bool) → has_sign ty w ≡ b → value_of ty w ≡ pos (cond b w (w + 2 ^ width_of ty)) -ℤ pos (2 ^ width_of ty)
value_case ty w true e = value_negative ty w e
value_case ty w false e = value_natural ty w e ∙ shifted w (2 ^ width_of ty)

value_key : (ty : Ty) (w : ℕ) → value_of ty w ≡ pos (key ty w) -ℤ pos (2 ^ width_of ty)
unfolding key
value_key ty w = value_case ty w (has_sign ty w) refl

shifted_lt : (x y m : ℕ) → int_lt (pos x -ℤ pos m) (pos y -ℤ pos m) ≡ nat_lt x y
shifted_lt x y m = grind (arith, ints, nat_tests)

lt_key : (ty : Ty) (a b : ℕ) → word_lt ty a b ≡ nat_lt (key ty a) (key ty b)
unfolding word_lt
lt_key ty a b = rw (value_key ty a, value_key ty b) (shifted_lt (key ty a) (key ty b) (2 ^ width_of ty))

same_case : (a b m : ℕ) (s t : Bool) → a < m → b < m → cond s a (a + m) ≡ cond t b (b + m) → a ≡ b
same_case a b m true true f g e = e
same_case a b m true false f g e = omega arith
same_case a b m false true f g e = omega arith
same_case a b m false false f g e = omega arith

same_from_key : (ty : Ty) (a b : ℕ) → IsWord ty a → IsWord ty b → key ty a ≡ key ty b → a ≡ b
unfolding key
same_from_key ty a b f g e = same_case a b (2 ^ width_of ty) (has_sign ty a) (has_sign ty b) f g e

least_either : (x y a b : ℕ) → (x ≡ y → a ≡ b) → cond (nat_lt y x) b a ≡ cond (nat_lt x y) a b
least_either x y a b same = grind (arith, nat_tests)

pub min-IsCommutative : IsCommutative word_min
unfolding word_min
min-IsCommutative ty a b f g =
    rw (lt_key ty b a, lt_key ty a b) (least_either (key ty a) (key ty b) a b (same_from_key ty a b f g))

pub max-IsCommutative : IsCommutative word_max
unfolding word_max
max-IsCommutative ty a b f g =
    rw (lt_key ty a b, lt_key ty b a) (least_either (key ty b) (key ty a) a b (λ e. same_from_key ty a b f g (sym e)))

least_assoc : (x y z a b c : ℕ)
    → cond (nat_lt z (cond (nat_lt y x) y x)) c (cond (nat_lt y x) b a) ≡ cond (nat_lt (cond (nat_lt z y) z y) x) (cond (nat_lt z y) c b) a
least_assoc x y z a b c = grind (arith, nat_tests)

greatest_assoc : (x y z a b c : ℕ)
    → cond (nat_lt (cond (nat_lt x y) y x) z) c (cond (nat_lt x y) b a) ≡ cond (nat_lt x (cond (nat_lt y z) z y)) (cond (nat_lt y z) c b) a
greatest_assoc x y z a b c = grind (arith, nat_tests)

key-cond : (ty : Ty) (s : Bool) (a b : ℕ) → key ty (cond s b a) ≡ cond s (key ty b) (key ty a)
key-cond ty true a b = refl
key-cond ty false a b = refl

min_by_key : (ty : Ty) (a b : ℕ) → word_min ty a b ≡ cond (nat_lt (key ty b) (key ty a)) b a
unfolding word_min
min_by_key ty a b = ap (λ s. cond s b a) (lt_key ty b a)

max_by_key : (ty : Ty) (a b : ℕ) → word_max ty a b ≡ cond (nat_lt (key ty a) (key ty b)) b a
unfolding word_max
max_by_key ty a b = ap (λ s. cond s b a) (lt_key ty a b)

pub min-IsAssociative : IsAssociative word_min
min-IsAssociative ty a b c f g h =
    let x = key ty a in
    let y = key ty b in
    let z = key ty c in
    min_by_key ty (word_min ty a b) c
    ∙ ap (λ w. cond (nat_lt z (key ty w)) c w) (min_by_key ty a b)
    ∙ ap (λ k. cond (nat_lt z k) c (cond (nat_lt y x) b a)) (key-cond ty (nat_lt y x) a b)
    ∙ least_assoc x y z a b c
    ∙ ap (λ k. cond (nat_lt k x) (cond (nat_lt z y) c b) a) (sym (key-cond ty (nat_lt z y) b c))
    ∙ ap (λ w. cond (nat_lt (key ty w) x) w a) (sym (min_by_key ty b c))
    ∙ sym (min_by_key ty a (word_min ty b c))

pub max-IsAssociative : IsAssociative word_max
max-IsAssociative ty a b c f g h =
    let x = key ty a in
    let y = key ty b in
    let z = key ty c in
    max_by_key ty (word_max ty a b) c
    ∙ ap (λ w. cond (nat_lt (key ty w) z) c w) (max_by_key ty a b)
    ∙ ap (λ k. cond (nat_lt k z) c (cond (nat_lt x y) b a)) (key-cond ty (nat_lt x y) a b)
    ∙ greatest_assoc x y z a b c
    ∙ ap (λ k. cond (nat_lt x k) (cond (nat_lt y z) c b) a) (sym (key-cond ty (nat_lt y z) b c))
    ∙ ap (λ w. cond (nat_lt x (key ty w)) w a) (sym (max_by_key ty b c))
    ∙ sym (max_by_key ty a (word_max ty b c))
