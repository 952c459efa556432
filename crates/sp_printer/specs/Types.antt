-- How types are written.
use Rattle.std.specs.Prelude.{ℕ, ◌==◌, ◌&&◌, Bool, false, List, ◌++◌, codes, decimal, if◌then◌else◌}
use Rattle.sp_words.specs.declared.types.FixTy.{FixTy}
use Rattle.sp_words.specs.declared.types.Ty.{Ty}
use Rattle.sp_words.specs.declared.types.Ty.TheVariants.{Fix, Bit}
use Rattle.sp_words.specs.Types.{fix_signed, fix_whole, fix_frac}

-- signed, with 32 whole bits and none after the point
abbrev pub is_int_fix : FixTy → Bool
is_int_fix t = fix_signed t && (fix_whole t == 32 && fix_frac t == 0)

abbrev pub is_int : Ty → Bool
is_int (Fix t) = is_int_fix t
is_int Bit = false

-- a fixed-point type is written with its sign, its whole bits and the bits after the point
abbrev pub fix_text : FixTy → List ℕ
fix_text t = codes "FixPt[" ++ ((if fix_signed t then codes "TRUE" else codes "FALSE") ++ (codes ",_" ++ (decimal (fix_whole t) ++ (codes ",_" ++ (decimal (fix_frac t) ++ codes "]")))))

abbrev pub type_text : Ty → List ℕ
type_text (Fix t) = if is_int_fix t then codes "Int" else fix_text t
type_text Bit = codes "Bit"
