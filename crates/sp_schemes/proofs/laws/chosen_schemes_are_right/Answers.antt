use Rattle.std.proofs.Common.{◌≡◌, ℕ, Bool, true, false, List, [], ◌∷◌, Option, Some, None, refl, length, sym, ap, ◌∙◌, subst}
use Rattle.std.proofs.lemmas.Bool.{and_from}
use Rattle.std.specs.List.{list_all}
use Rattle.std.specs.Prelude.{slice_index_or}
use Rattle.sp_bank.specs.Banking.{Banking}
use Rattle.sp_core.specs.Elements.{numbers_below}
use Rattle.sp_plan.specs.Validity.{fits_scheme, is_scheme_right, schemes_of}
use Rattle.sp_schemes.proofs.Joint.{scheme_in, separated_by_all, grouped_by_all}
use Rattle.sp_schemes.proofs.laws.chosen_schemes_are_right.Goals as goal
use Rattle.sp_schemes.specs.Chosen.{MayHave, IsChosen}

pub returns : goal.returns
returns c core forms meets plan chosen = record {
  schemes = each (numbers_below (length core.mems));
  groups = grouped_by_all core forms meets plan 0 0 false core.root (λ m b e. (may m b e).grouped);
  separated = separated_by_all core forms (schemes_of plan) 0 core.root (λ m b e. (may m b e).separated);
}
  where
    may : (m : ℕ) (b : Banking) → slice_index_or (schemes_of plan) m None ≡ Some b → MayHave core forms m b
    may m b e = (subst (IsChosen core forms m) e (chosen m)).0

    fits : (m : ℕ) (x : Option Banking) → slice_index_or (schemes_of plan) m None ≡ x → fits_scheme core m x ≡ true
    fits m None e = refl
    fits m (Some b) e = (may m b e).fits

    each : (ms : List ℕ) → list_all (is_scheme_right core forms meets plan) ms ≡ true
    each [] = refl
    each (m ∷ ms) = and_from (is_scheme_right core forms meets plan m) (list_all (is_scheme_right core forms meets plan) ms) (ap (fits_scheme core m) (scheme_in plan.mems m) ∙ fits m (slice_index_or (schemes_of plan) m None) refl) (each ms)
