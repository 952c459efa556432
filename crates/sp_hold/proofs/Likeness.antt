-- Words that are like numbers: sums, differences and products of such words are like those of the numbers.
use Rattle.std.proofs.Common.{◌≡◌, ℕ, Bool, true, false, ◌&&◌, ℤ, pos, negsuc, ◌+ℤ◌, ◌-ℤ◌, ◌*ℤ◌, refl, ap, sym, ◌∙◌, subst, arith}
use Rattle.std.proofs.lemmas.Int.{ints}
use Rattle.std.proofs.Math.Nat.{div-one}
use Rattle.std.proofs.lemmas.Bool.Decides.{Decides-eqb}
use Rattle.sp_words.specs.declared.types.FixTy.{FixTy}
use Rattle.sp_words.specs.declared.types.Ty.{Ty}
use Rattle.sp_words.specs.declared.types.Ty.TheVariants.{Fix, Bit}
use Rattle.sp_words.specs.Laws.{KeepsWrapping}
use Rattle.sp_words.specs.Types.{int_type, fix_signed, fix_whole, fix_frac}
use Rattle.sp_words.specs.WholeNumbers.{floor_div}
use Rattle.sp_words.specs.Words.{IsWord, value_of, has_sign, wrap, word_add, word_sub, word_mul}
use Rattle.sp_core.specs.Elements.{index_value}
use Rattle.sp_core.specs.Typed.{is_type, is_same_flag}
use Rattle.sp_hold.specs.Values.{IsLike}

-- what the type `Int` says of its operators
pub record Kept : Type 0 where
  pub sum : KeepsWrapping word_add ◌+ℤ◌ int_type
  pub difference : KeepsWrapping word_sub ◌-ℤ◌ int_type
  pub product : KeepsWrapping word_mul ◌*ℤ◌ int_type
  pub each_word : (w : ℕ) → IsWord int_type w → wrap int_type (value_of int_type w) ≡ w
  pub wrapped : (z : ℤ) → IsWord int_type (wrap int_type z)
  pub types : (a b : FixTy) → fix_signed a ≡ fix_signed b → fix_whole a ≡ fix_whole b → fix_frac a ≡ fix_frac b → a ≡ b

module _ (kept : Kept) where
  pub like_wrapped : (z : ℤ) → IsLike (wrap int_type z) z
  like_wrapped z = kept.each_word (wrap int_type z) (kept.wrapped z)

  by_rule : (op : Ty → ℕ → ℕ → ℕ) (rule : ℤ → ℤ → ℤ) → KeepsWrapping op rule int_type → ((a b : ℕ) → op int_type a b ≡ wrap int_type (rule (index_value a) (index_value b))) →
      (a b : ℕ) (x y : ℤ) → IsLike a x → IsLike b y → IsLike (op int_type a b) (rule x y)
  by_rule op rule keeps is a b x y h k =
      ap (λ w. wrap int_type (index_value w)) (is a b)
      ∙ like_wrapped (rule (index_value a) (index_value b))
      ∙ sym (keeps (index_value a) (index_value b))
      ∙ ap (λ w. op int_type w (wrap int_type (index_value b))) h
      ∙ ap (λ w. op int_type (wrap int_type x) w) k
      ∙ keeps x y

  pub like_sum : (a b : ℕ) (x y : ℤ) → IsLike a x → IsLike b y → IsLike (word_add int_type a b) (x +ℤ y)
  unfolding word_add
  like_sum = by_rule word_add ◌+ℤ◌ kept.sum (λ a b. refl)

  pub like_difference : (a b : ℕ) (x y : ℤ) → IsLike a x → IsLike b y → IsLike (word_sub int_type a b) (x -ℤ y)
  unfolding word_sub
  like_difference = by_rule word_sub ◌-ℤ◌ kept.difference (λ a b. refl)

  pub like_product : (a b : ℕ) (x y : ℤ) → IsLike a x → IsLike b y → IsLike (word_mul int_type a b) (x *ℤ y)
  unfolding word_mul floor_div
  like_product = by_rule word_mul ◌*ℤ◌ kept.product (λ a b. ap (wrap int_type) (whole (index_value a *ℤ index_value b)))
    where
      whole : (z : ℤ) → floor_div z 1 ≡ z
      whole (pos n) = ap pos (div-one n)
      whole (negsuc n) = ap negsuc (div-one n)

  zero_is_like : IsLike 0 (pos 0)
  unfolding value_of has_sign
  zero_is_like = refl

  pub like_opposite : (a : ℕ) (x : ℤ) → IsLike a x → IsLike (word_sub int_type 0 a) (x *ℤ negsuc 0)
  like_opposite a x h = subst (IsLike (word_sub int_type 0 a)) (turned x) (like_difference 0 a (pos 0) x zero_is_like h)
    where
      turned : (z : ℤ) → (pos 0 -ℤ z) ≡ (z *ℤ negsuc 0)
      turned z = omega (arith, ints)

  -- the type of an operation that has a form
  pub is_int : (ty : Ty) → is_type ty int_type ≡ true → ty ≡ int_type
  is_int Bit h = cc
  is_int (Fix t) h =
      let first = both (is_same_flag t.signed true) _ h in
      let rest = both _ _ first.1 in
      ap Fix (kept.types t _ (flag t.signed first.0) ((Decides-eqb t.whole 32).0 rest.0) ((Decides-eqb t.frac 0).0 rest.1))
    where
      both : (a b : Bool) → (a && b) ≡ true → (a ≡ true) × (b ≡ true)
      both true b h = (refl, h)
      both false b h = cc

      flag : (b : Bool) → is_same_flag b true ≡ true → b ≡ true
      flag true h = refl
      flag false h = cc
