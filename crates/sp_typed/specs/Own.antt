-- The type that an expression has by itself, if it has one, where no type is unknown.
use Rattle.std.specs.Prelude.{Option, Some, None}
use Rattle.sp_words.specs.declared.types.Ty.{Ty}
use Rattle.sp_words.specs.Types.{int_type}
use Rattle.sp_types.specs.declared.own.Own.{Own}
use Rattle.sp_types.specs.declared.own.Own.TheVariants.{Nothing, Known, Unknown}

abbrev pub own_if_any : Own → Option Ty
own_if_any Nothing = None
own_if_any (Known ty) = Some ty
own_if_any Unknown = Some int_type

-- the first of two that there is
abbrev pub first_of : Option Ty → Option Ty → Option Ty
first_of None b = b
first_of (Some a) b = Some a
