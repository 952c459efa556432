-- What a refusal is displayed as.
use Rattle.std.specs.Prelude.{ℕ, Bool, ◌&&◌, ◌==◌, List, ◌++◌, codes, decimal, if◌then◌else◌}
use Rattle.sp_words.specs.declared.types.FixTy.{FixTy}
use Rattle.sp_words.specs.declared.types.Ty.{Ty}
use Rattle.sp_words.specs.declared.types.Ty.TheVariants.{Fix, Bit}
use Rattle.sp_types.specs.declared.refusal.Found.{Found}
use Rattle.sp_types.specs.declared.refusal.Found.TheVariants.{Typed, Literal}
use Rattle.sp_counts.specs.declared.over.Which.{Which}
use Rattle.sp_counts.specs.declared.over.Which.TheVariants as which
use Rattle.sp_check.specs.declared.error.TypeError.{TypeError}
use Rattle.sp_check.specs.declared.error.TypeError.TheVariants.{UnknownName, Twice, TypeClash, Rank, Misused, ParPlace, Limit, Memory}

-- with a sign, and 32 whole bits
abbrev pub is_int : FixTy → Bool
is_int fix = fix.signed && (fix.whole == 32 && fix.frac == 0)

abbrev pub fix_text : FixTy → List ℕ
fix_text fix = codes "FixPt[" ++ ((if fix.signed then codes "TRUE" else codes "FALSE") ++ (codes ",_" ++ (decimal fix.whole ++ (codes ",_" ++ (decimal fix.frac ++ codes "]")))))

-- a type is named as in a program's text, one that is `Int` so
abbrev pub type_text : Ty → List ℕ
type_text Bit = codes "Bit"
type_text (Fix fix) = if is_int fix then codes "Int" else fix_text fix

abbrev pub found_text : Found → List ℕ
found_text (Typed ty) = type_text ty
found_text Literal = codes "literal"

abbrev pub count_text : Which → List ℕ
count_text which.Nodes = codes "nodes"
count_text which.Lanes = codes "lanes"
count_text which.Body = codes "body"
count_text which.Operations = codes "operations"
count_text which.Words = codes "words"
count_text which.Copies = codes "copies"
count_text which.Dram = codes "dram"

abbrev pub error_text : TypeError → List ℕ
error_text (UnknownName at) = codes "unknown name at " ++ decimal at
error_text (Twice at) = codes "name given twice at " ++ decimal at
error_text (TypeClash at want got) = codes "clash at " ++ (decimal at ++ (codes ", want " ++ (type_text want ++ (codes ", got " ++ found_text got))))
error_text (Rank at want got) = codes "rank at " ++ (decimal at ++ (codes ", want " ++ (decimal want ++ (codes ", got " ++ decimal got))))
error_text (Misused at) = codes "misused at " ++ decimal at
error_text (ParPlace at) = codes "par place at " ++ decimal at
error_text (Limit which count) = count_text which ++ (codes " " ++ decimal count)
error_text Memory = codes "out of memory"
