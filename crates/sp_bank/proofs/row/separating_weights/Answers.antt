use Rattle.std.proofs.Common.{◌≡◌, ◌≢◌, ◌+◌, ◌<◌, ◌++◌, [], ◌∷◌, ℕ, List, true, get_or, replicate, ap, sym, ◌∙◌, subst, arith, inl, inr, refl}
use Rattle.std.specs.Prelude.{map}
use Rattle.std.proofs.lemmas.List.{get_or-map}
use Rattle.std.proofs.lemmas.Bool.Decides.{eqb_tells}
use Rattle.sp_affine.specs.Affine.{Affine}
use Rattle.sp_bank.specs.Search.{unhinged}
use Rattle.sp_bank.specs.Separation.{Separates}
use Rattle.sp_bank.proofs.RowLemmas.{get_or-all_true}
use Rattle.sp_bank.proofs.row.separating_weights.Goals as goal

pub loop-group-init : goal.loop-group-init
loop-group-init c w low = (λ _ k d h. absurd (omega arith), λ _. get_or-all_true (replicate 32 true) w refl (omega (arith, low, c.requires.size.few_banks)))

pub loop-group-preserved : goal.loop-group-preserved
loop-group-preserved c w low =
    let at = c.loop-group.group-index in
    let groups = map (λ g. g.items) c.args.groups.now in
    let item : c.as_slice.result.now ≡ (get_or c.args.groups.now at c.group-item.result).items =
    c.as_slice.ensures.value ∙ ap (λ v. v.items) c.group-item.is in
    let is_group : (d : List Affine) → get_or groups at d ≡ c.as_slice.result.now =
    λ d. get_or-map (λ v. v.items) c.args.groups.now at c.group-item.result d c.loop-group-test.true ∙ sym item in
    let P : List Affine → Type 0 = λ g. Separates (unhinged c.args.banks c.args.block (c.args.before.now ++ w ∷ [])) g in
    let was = c.loop-group.invariant w low in
    let now = c.keep_separating.ensures w low in (
      λ e k d h. elim (eqb_tells k at) [
        | inl same ↦ subst P (sym (ap (λ n. get_or groups n d) same.1 ∙ is_group d)) (now.0 e).1
        | inr other ↦ was.0 (now.0 e).0 k d (less k at h other.1)
      ],
      λ all. now.1 (was.1 (λ k d h. all k d (omega (arith, h))), subst P (is_group []) (all at [] (omega arith))),
    )
  where
    less : (i j : ℕ) → i < j + 1 → i ≢ j → i < j
    less i j h n = omega arith
