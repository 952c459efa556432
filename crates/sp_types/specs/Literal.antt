-- Numbers as they are written, and their words.
use Rattle.std.specs.Prelude.{◌≡◌, ℕ, ◌-◌, ◌^◌, ◌&&◌, ◌||◌, ◌==◌, nat_lt, nat_le, Bool, true, false, not, if◌then◌else◌, ℤ, pos, neg_ℤ, int_lt, List, length, Option, Some, None, is_none}
use Rattle.std.specs.List.{list_all}
use Rattle.sp_words.specs.declared.types.Ty.{Ty}
use Rattle.sp_words.specs.declared.types.Ty.TheVariants.{Fix, Bit}
use Rattle.sp_words.specs.Decimal.{decimal_value}
use Rattle.sp_words.specs.Types.{signed_of, frac_of, width_of}
use Rattle.sp_words.specs.Words.{wrap}
use Rattle.sp_reader.specs.PlainTree.{PlainDigits, PlainExpr, PlainLit, expr, number, truth, cast, number_lit, truth_lit}

-- whether a number is that of a word of the type
abbrev pub is_in_range : Ty → ℤ → Bool
is_in_range ty z =
    if signed_of ty then not (int_lt z (neg_ℤ (pos (2 ^ (width_of ty - 1))))) && int_lt z (pos (2 ^ (width_of ty - 1)))
    else not (int_lt z (pos 0)) && int_lt z (pos (2 ^ width_of ty))

-- whether the digits after a point are at most 64, and digits
abbrev pub are_digits : List ℕ → Bool
are_digits ds = nat_le (length ds) 64 && list_all (λ d. nat_lt d 10) ds

-- whether they say that there is no fraction
abbrev pub is_whole : List ℕ → Bool
is_whole ds = list_all (λ d. d == 0) ds

-- whether a fraction of these digits may stand at a type
abbrev pub may_stand : Ty → List ℕ → Bool
may_stand ty ds = is_whole ds || not (frac_of ty == 0)

-- the word of a number, rounded down, where it is in the type's range
abbrev pub word_in_range : Ty → ℤ → Option ℕ
word_in_range ty z = if is_in_range ty z then Some (wrap ty z) else None

-- the word of a literal: none of `Bit`, and none of a number with a fraction where the type has no bits for one
unfoldable pub literal_word : Ty → PlainDigits → Option ℕ
literal_word Bit d = None
literal_word (Fix fix) d =
    if are_digits d.digits then (if may_stand (Fix fix) d.digits then word_in_range (Fix fix) (decimal_value (Fix fix) d.negative d.whole d.digits) else None)
    else None
