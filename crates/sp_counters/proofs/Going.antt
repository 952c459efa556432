-- The value of a counter, by its words.
use Rattle.std.proofs.Common.{◌≡◌, ℕ, zero, suc, ◌<◌, ◌^◌, Bool, true, false, not, if◌then◌else◌, ℤ, pos, ◌+ℤ◌, refl, sym, ap, subst, ◌∙◌, arith, lit<}
use Rattle.std.specs.Prelude.{int_lt}
use Rattle.std.proofs.lemmas.Int.{ints}
use Rattle.sp_words.specs.Types.{int_type}
use Rattle.sp_words.specs.Words.{wrap}
use Rattle.sp_words.proofs.LawLemmas.{value-wrap, value-in_range, wrap-lt}
use Rattle.sp_core.specs.Elements.{index_value}
use Rattle.sp_counters.proofs.Values.{is_less}

module _ (value first from : ℕ → ℕ) (ahead : ℕ → ℤ) (start goes last : ℕ → Bool) where
  -- the value has 32 bits
  pub value_below : value 0 ≡ 0 → ((t : ℕ) → value (suc t) ≡ (if start t then first t else (if goes t then (if last t then from t else wrap int_type (ahead t)) else value t)))
      → ((t : ℕ) → first t < 2 ^ 32) → ((t : ℕ) → from t < 2 ^ 32) → (t : ℕ) → value t < 2 ^ 32
  value_below z h f g zero = subst (λ w. w < 2 ^ 32) (sym z) (lit< tt)
  value_below z h f g (suc t) = subst (λ w. w < 2 ^ 32) (sym (h t)) (each (start t) (goes t) (last t) (value_below z h f g t))
    where
      each : (a g' l : Bool) → value t < 2 ^ 32 → (if a then first t else (if g' then (if l then from t else wrap int_type (ahead t)) else value t)) < 2 ^ 32
      each true g' l v = f t
      each false true true v = g t
      each false true false v = wrap-lt int_type (ahead t)
      each false false l v = v

-- a value that is below the bound is an `Int`, and so is the number that its word is
stays_int : (v u more : ℕ) → v < 2 ^ 32 → u < 2 ^ 32 → int_lt (index_value v +ℤ pos more) (index_value u) ≡ true → index_value (wrap int_type (index_value v +ℤ pos more)) ≡ index_value v +ℤ pos more
stays_int v u more f g e =
    let l = is_less (index_value v +ℤ pos more) (index_value u) e in
    let a = value-in_range int_type v f in
    let b = value-in_range int_type u g in
    value-wrap int_type (index_value v +ℤ pos more) (omega (arith, ints, a.0), omega (arith, ints, b.1, l))

-- a choice of words is one of numbers
pub value_goes : (a g l : Bool) (first from v u more : ℕ) (ahead : ℤ) → v < 2 ^ 32 → u < 2 ^ 32 → ahead ≡ index_value v +ℤ pos more → l ≡ not (int_lt (index_value v +ℤ pos more) (index_value u))
    → index_value (if a then first else (if g then (if l then from else wrap int_type ahead) else v))
    ≡ (if a then index_value first else (if g then (if not (int_lt (index_value v +ℤ pos more) (index_value u)) then index_value from else index_value v +ℤ pos more) else index_value v))
value_goes true g l first from v u more ahead f h e k = refl
value_goes false false l first from v u more ahead f h e k = refl
value_goes false true l first from v u more ahead f h e k =
    ap (λ b. index_value (if b then from else wrap int_type ahead)) k ∙ ap (λ z. index_value (if not (int_lt (index_value v +ℤ pos more) (index_value u)) then from else wrap int_type z)) e
    ∙ by_order (int_lt (index_value v +ℤ pos more) (index_value u)) refl
  where
    by_order : (b : Bool) → int_lt (index_value v +ℤ pos more) (index_value u) ≡ b
        → index_value (if not b then from else wrap int_type (index_value v +ℤ pos more)) ≡ (if not b then index_value from else index_value v +ℤ pos more)
    by_order true e = stays_int v u more f h e
    by_order false e = refl
