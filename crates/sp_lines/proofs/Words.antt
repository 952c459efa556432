-- Words of 32 bits without a sign.
use Rattle.std.proofs.Common.{◌≡◌, ℕ, ◌+◌, ◌-◌, ◌*◌, ◌%◌, ◌^◌, ◌≤◌, Bool, false, nat_lt, if◌then◌else◌, pos, ◌-ℤ◌, refl, ap, ◌∙◌, arith}
use Rattle.std.specs.Prelude.{int_lt}
use Rattle.std.proofs.Math.Nat.{div-one}
use Rattle.std.proofs.lemmas.Int.{ints}
use Rattle.sp_words.specs.declared.types.Ty.{Ty}
use Rattle.sp_words.specs.Types.{signed_of, frac_of, width_of}
use Rattle.sp_words.specs.WholeNumbers.{modulo, floor_div}
use Rattle.sp_words.specs.Words.{value_of, has_sign, wrap, word_add, word_sub, word_mul, word_lt}
use Rattle.sp_netlist.specs.Signals.{op_word}
use Rattle.sp_netlist.specs.declared.cell.CellOp.TheVariants.{Lt}

module _ (ty : Ty) (plain : signed_of ty ≡ false) where
  value : (a : ℕ) → value_of ty a ≡ pos a
  unfolding value_of has_sign
  value a = rw plain refl

  less_is : (a b : ℕ) → word_lt ty a b ≡ int_lt (pos a) (pos b)
  unfolding word_lt
  less_is a b = rw (value a, value b) refl

  module _ (wide : width_of ty ≡ 32) where
    pub sum_at : (a b : ℕ) → word_add ty a b ≡ (a + b) % 2 ^ 32
    unfolding word_add wrap modulo
    sum_at a b = rw (value a, value b, wide) refl

    pub product_at : (a by n : ℕ) → frac_of ty ≡ 0 → n ≡ by → word_mul ty a n ≡ a * by % 2 ^ 32
    unfolding word_mul wrap modulo floor_div
    product_at a by n whole e = rw (e, value a, value by, whole, wide) (ap (λ n. n % 2 ^ 32) (div-one (a * by)))

    lowered : (a b : ℕ) → b ≤ a → pos a -ℤ pos b ≡ pos (a - b)
    lowered a b l = omega (arith, ints, l)

    pub difference_at : (a b : ℕ) → b ≤ a → word_sub ty a b ≡ (a - b) % 2 ^ 32
    unfolding word_sub wrap modulo
    difference_at a b l = rw (value a, value b, lowered a b l, wide) refl

  pub test_at : (a b n r : ℕ) → n ≡ b → r ≡ op_word Lt ty a n → r ≡ (if nat_lt a b then 1 else 0)
  test_at a b n r e f = f ∙ rw e (ap (λ (x : Bool). if x then 1 else 0) (less_is a b ∙ naturals))
    where
      naturals : int_lt (pos a) (pos b) ≡ nat_lt a b
      naturals = refl
