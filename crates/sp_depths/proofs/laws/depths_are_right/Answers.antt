use Rattle.std.proofs.Common.{◌≡◌, ℕ, zero, suc, ◌<◌, Bool, true, false, [], ◌∷◌, refl, length, ◌∙◌, arith}
use Rattle.std.proofs.lemmas.Bool.{and_from, eq-eqb}
use Rattle.std.proofs.lemmas.List.Folds.{list_all-append}
use Rattle.std.specs.List.{list_all}
use Rattle.std.specs.Prelude.{◌||◌, ◌&&◌, ◌==◌}
use Rattle.sp_core.specs.Around.{nothing}
use Rattle.sp_core.specs.Declarations.{is_among}
use Rattle.sp_core.specs.Elements.{numbers_below}
use Rattle.sp_depths.proofs.laws.depths_are_right.Goals as goal
use Rattle.sp_depths.proofs.Owned.{below, right, single}
use Rattle.sp_plan.specs.Copies.{is_single, owned_by_loops}
use Rattle.sp_plan.specs.PlainPlan.{mem_plan}

pub returns : goal.returns
returns c core forms meets plan ok has = record {
  copied = right core forms meets plan 0 0 false nothing [] core.root ok.nodes (λ m e. has m (below core nothing [] core.root ok.nodes m e));
  single = each (length core.mems) (λ m lt. lt);
}
  where
    one : (m : ℕ) → m < length core.mems → (b : Bool) → is_among m (owned_by_loops core.root) ≡ b → (b || ((mem_plan plan m).depth == 1)) ≡ true
    one m lt true e = refl
    one m lt false e = eq-eqb (mem_plan plan m).depth 1 (has m lt ∙ single core plan.nodes m 0 core.root e)

    each : (n : ℕ) → ((m : ℕ) → m < n → m < length core.mems) → list_all (is_single core plan) (numbers_below n) ≡ true
    each zero in_core = refl
    each (suc n) in_core =
        list_all-append (is_single core plan) (numbers_below n) (n ∷ [])
        ∙ and_from (list_all (is_single core plan) (numbers_below n)) (is_single core plan n && true) (each n (λ m lt. in_core m (omega arith)))
        (and_from (is_single core plan n) true (one n (in_core n (omega arith)) (is_among n (owned_by_loops core.root)) refl) refl)
