use Rattle.std.proofs.Common.{◌≡◌, ℕ, Bool, true, false, not, refl, nat_eq, sym, ◌∙◌, ap}
use Rattle.std.specs.Prelude.{Option, Some, None}
use Rattle.std.specs.Option.{is_some, option_eq}
use Rattle.sp_affine.specs.Combination.{HasOneSymbol, factors_of_difference}
use Rattle.sp_affine.specs.Equality.{Decides-option_eq}
use Rattle.sp_affine.proofs.Factors.{difference-other}
use Rattle.sp_affine.proofs.symbol.symbol_of_difference.Goals as goal

none_left : (a b : Option ℕ) (none same : Bool) → is_some b ≡ not none → none ≡ false → same ≡ option_eq nat_eq a b → same ≡ false →
    ¬ HasOneSymbol (factors_of_difference a b)
none_left a None none same h k e f = absurd (apart (h ∙ ap not k))
  where
    apart : false ≡ true → ⊥
    apart x = cc
none_left a (Some n) none same h k e f =
    difference-other a n (λ x. let equal = (Decides-option_eq a (Some n)).1 x in apart (sym equal ∙ sym e ∙ f))
  where
    apart : true ≡ false → ⊥
    apart x = cc

pub returns-else-eq-clause-none : goal.returns-else-eq-clause-none
returns-else-eq-clause-none c =
    (refl, none_left c.args.a c.args.b _ _ c.is_none.ensures c.if-is_none.false c.eq.ensures c.if-eq.false)
