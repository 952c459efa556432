-- The fixed-point type of a sign and of so many bits, where they are 1 to 64 together.
use Rattle.std.specs.Prelude.{◌≡◌, ℕ, ◌+◌, ◌≤◌, Bool, true, false, Option, Some, None, nat_le, refl}
use Rattle.std.proofs.lemmas.Bool.{leb-true}
use Rattle.sp_words.specs.declared.types.FixTy.{FixTy}
use Rattle.sp_words.specs.declared.types.Ty.{Ty}
use Rattle.sp_words.specs.declared.types.Ty.TheVariants.{Fix}

abbrev pub fixed_if : Bool → (whole frac : ℕ) → (least most : Bool) → (least ≡ true → 1 ≤ whole + frac) → (most ≡ true → whole + frac ≤ 64) → Option Ty
fixed_if signed whole frac true true has_bits in_a_word =
    Some (Fix (record { signed = signed; whole = whole; frac = frac; has_bits = has_bits refl; in_a_word = in_a_word refl }))
fixed_if signed whole frac true false has_bits in_a_word = None
fixed_if signed whole frac false most has_bits in_a_word = None

abbrev pub fixed : Bool → (whole frac : ℕ) → Option Ty
fixed signed whole frac = fixed_if signed whole frac (nat_le 1 (whole + frac)) (nat_le (whole + frac) 64) (leb-true 1 (whole + frac)) (leb-true (whole + frac) 64)
