-- What a type says about its words.
use Rattle.std.specs.Prelude.{ℕ, ◌+◌, Bool, true, false}
use Rattle.std.proofs.Common.{lit≤}
use Rattle.sp_words.specs.declared.types.FixTy.{FixTy}
use Rattle.sp_words.specs.declared.types.Ty.{Ty}
use Rattle.sp_words.specs.declared.types.Ty.TheVariants.{Fix, Bit}

-- whether a fixed-point type has a sign bit, and how many bits it has before and after the point
abbrev pub fix_signed : FixTy → Bool
fix_signed t = t.signed

abbrev pub fix_whole : FixTy → ℕ
fix_whole t = t.whole

abbrev pub fix_frac : FixTy → ℕ
fix_frac t = t.frac

-- whether the values of a type have a sign
abbrev pub signed_of : Ty → Bool
signed_of (Fix t) = t.signed
signed_of Bit = false

-- how many of its bits stand before the point, a sign bit among them
abbrev pub whole_of : Ty → ℕ
whole_of (Fix t) = t.whole
whole_of Bit = 1

-- how many stand after it
abbrev pub frac_of : Ty → ℕ
frac_of (Fix t) = t.frac
frac_of Bit = 0

-- how many bits a word of the type has
abbrev pub width_of : Ty → ℕ
width_of (Fix t) = t.whole + t.frac
width_of Bit = 1

-- signed, with 32 whole bits
abbrev pub int_type : Ty
int_type = Fix (record { signed = true; whole = 32; frac = 0; has_bits = lit≤ tt; in_a_word = lit≤ tt })
