use Rattle.std.proofs.Common.{◌≡◌, ◌≢◌, ◌+◌, ◌<◌, ◌≤◌, ◌⊎◌, ℕ, List, [], length, get_or, ap, sym, ◌∙◌, subst, arith, inl, inr}
use Rattle.std.specs.Prelude.{map}
use Rattle.std.proofs.lemmas.List.{get_or-map, length-map}
use Rattle.std.proofs.lemmas.Bool.Decides.{eqb_tells}
use Rattle.sp_affine.specs.Affine.{Affine}
use Rattle.sp_bank.specs.Banking.{Banking}
use Rattle.sp_bank.specs.Search.{Serves}
use Rattle.sp_bank.specs.Separation.{AreDifferent}
use Rattle.sp_bank.proofs.Pigeons.{serves_fit}
use Rattle.sp_bank.proofs.different.least_banks.Goals as goal
use Rattle.sp_bank.proofs.different.least_banks.Goals.{then-least-count, else-least-count}

-- the invariant, after a group of so many different constants
grown : (rank : ℕ) (groups : List (List Affine)) (at least count more : ℕ) → at < length groups → 1 ≤ least → least ≤ 33 → count ≤ 33 → (least ≤ more) × (count ≤ more) →
    ((more ≡ least) ⊎ (more ≡ count)) →
    ((t : Banking) → Serves rank groups t → least ≤ t.banks) →
    ((k : ℕ) (d : List Affine) (us : List ℕ) → k < at → AreDifferent rank (get_or groups k d) us → least < 33 → length us ≤ least) →
    ((us : List ℕ) × AreDifferent rank (get_or groups at []) us × (length us ≡ count)) →
    ((d : List Affine) (us : List ℕ) → AreDifferent rank (get_or groups at d) us → count < 33 → length us ≤ count) →
    (1 ≤ more) × (more ≤ 33) × ((t : Banking) → Serves rank groups t → more ≤ t.banks) ×
    ((k : ℕ) (d : List Affine) (us : List ℕ) → k < at + 1 → AreDifferent rank (get_or groups k d) us → more < 33 → length us ≤ more)
grown rank groups at least count more low some few few' above which needed most (us, differ, size) most_here = (
  omega (arith, some, above.0),
  bounded which,
  λ t serves. fits t serves which,
  λ k d vs h other small. elim (eqb_tells k at) [
    | inl same ↦
        let P : ℕ → Type 0 = λ n. AreDifferent rank (get_or groups n d) vs in
        omega (arith, most_here d vs (subst P same.1 other) (omega (arith, small, above.1)), above.1)
    | inr apart ↦ omega (arith, most k d vs (less k at h apart.1) other (omega (arith, small, above.0)), above.0)
  ],
)
  where
    less : (i j : ℕ) → i < j + 1 → i ≢ j → i < j
    less i j h n = omega arith

    bounded : (more ≡ least) ⊎ (more ≡ count) → more ≤ 33
    bounded (inl e) = omega (arith, e, few)
    bounded (inr e) = omega (arith, e, few')

    fits : (t : Banking) → Serves rank groups t → (more ≡ least) ⊎ (more ≡ count) → more ≤ t.banks
    fits t serves (inl e) = omega (arith, e, needed t serves)
    fits t serves (inr e) = omega (arith, e, size, serves_fit rank groups t at [] us serves low differ)

pub loop-group-preserved : goal.loop-group-preserved
loop-group-preserved c =
    let inv = c.loop-group.invariant in
    let groups = map (λ g. g.items) c.args.groups.now in
    let at = c.loop-group.group-index in
    let found = c.different_count-count.ensures in
    let count = c.different_count-count.result in
    let item : c.as_slice.result.now ≡ (get_or c.args.groups.now at c.group-item.result).items =
    c.as_slice.ensures.value ∙ ap (λ v. v.items) c.group-item.is in
    let is_group : (d : List Affine) → get_or groups at d ≡ c.as_slice.result.now =
    λ d. get_or-map (λ v. v.items) c.args.groups.now at c.group-item.result d c.loop-group-test.true ∙ sym item in
    let R : List Affine → ℕ → Type 0 = λ g n. (us : List ℕ) × AreDifferent n g us × (length us ≡ count) in
    let M : List Affine → ℕ → Type 0 = λ g n. (us : List ℕ) → AreDifferent n g us → count < 33 → length us ≤ count in
    let least = subst (λ g. R g c.args.rank) (sym (is_group [])) (subst (R c.as_slice.result.now) c.from.ensures found.least) in
    let most = subst (M c.as_slice.result.now) c.from.ensures found.most in
    let low : at < length groups = omega (arith, c.loop-group-test.true, length-map c.args.groups.now (λ v. v.items)) in
    elim c.if-least-count.branch [
      | then-least-count w ↦
          let (some, few, needed, many) = grown c.args.rank groups at c.loop-group.least count c.if-least-count.least low inv.some inv.few found.few
          (omega (arith, w.least-is, w.if-least-count.true), omega (arith, w.least-is)) (inr w.least-is) inv.needed inv.most least
          (λ d us. subst (λ g. (AreDifferent c.args.rank g us → count < 33 → length us ≤ count)) (sym (is_group d)) (most us)) in
          record { some = some; few = few; needed = needed; most = many }
      | else-least-count w ↦
          let (some, few, needed, many) = grown c.args.rank groups at c.loop-group.least count c.if-least-count.least low inv.some inv.few found.few
          (omega (arith, w.least-is), omega (arith, w.least-is, w.if-least-count.false)) (inl w.least-is) inv.needed inv.most least
          (λ d us. subst (λ g. (AreDifferent c.args.rank g us → count < 33 → length us ≤ count)) (sym (is_group d)) (most us)) in
          record { some = some; few = few; needed = needed; most = many }
    ]
