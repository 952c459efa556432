-- The types that expressions have by themselves.
use Rattle.std.proofs.Common.{◌≡◌, ℕ, List, Option, Some, None, refl, ap, ◌∙◌}
use Rattle.sp_words.specs.declared.types.Ty.{Ty}
use Rattle.sp_types.specs.declared.own.Own.{Own}
use Rattle.sp_types.specs.declared.own.Own.TheVariants.{Nothing, Known, Unknown}
use Rattle.sp_types.specs.Types.{own_type, own_or_int, either, symbol_type}
use Rattle.sp_types.specs.Visible.{symbol_of}
use Rattle.sp_typed.specs.Expressions.{known, symbol_if}
use Rattle.sp_typed.specs.Named.{Here, meant_by, seen_at}
use Rattle.sp_typed.specs.Own.{own_if_any, first_of}
use Rattle.sp_typed.proofs.ScopeLemmas.{seen_symbol}

pub known_type : (o : Option Ty) → own_if_any (own_type o) ≡ Some (known o)
known_type None = refl
known_type (Some ty) = refl

pub known_own : (o : Own) → known (own_or_int o) ≡ known (own_if_any o)
known_own Nothing = refl
known_own (Known ty) = refl
known_own Unknown = refl

pub first_either : (a b : Own) → own_if_any (either a b) ≡ first_of (own_if_any a) (own_if_any b)
first_either Nothing b = refl
first_either (Known ty) b = refl
first_either Unknown b = refl

-- of a name
pub own_of_name : (here : Here) (name : List ℕ) → own_if_any (own_type (symbol_type (symbol_of (seen_at here) name))) ≡ Some (known (symbol_type (symbol_if (meant_by here name))))
own_of_name here name = ap (λ s. own_if_any (own_type (symbol_type s))) (seen_symbol here.names name) ∙ known_type _

-- of the operands of a comparison
pub known_compared : (a b : Own) → known (own_or_int (either a b)) ≡ known (first_of (own_if_any a) (own_if_any b))
known_compared a b = known_own (either a b) ∙ ap known (first_either a b)
