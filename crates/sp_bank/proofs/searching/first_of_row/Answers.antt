use Rattle.std.proofs.Common.{◌≡◌, ◌≢◌, ◌↔◌, ◌+◌, ◌-◌, ◌*◌, ◌^◌, ◌<◌, ◌≤◌, ◌++◌, [], ◌∷◌, inl, inr, ℕ, Bool, true, false, List, length, get_or, ap, sym, ◌∙◌, subst, arith}
use Rattle.std.specs.Prelude.{map}
use Rattle.std.specs.List.{All}
use Rattle.std.proofs.lemmas.Bool.Decides.{eqb_tells}
use Rattle.sp_affine.specs.Affine.{Affine}
use Rattle.sp_bank.specs.Banking.{IsAllowedSize}
use Rattle.sp_bank.specs.Separation.{IsGroup}
use Rattle.sp_bank.specs.Search.{HasNoneAt, SeparatesAll, digits, unhinged}
use Rattle.sp_bank.proofs.First.{same_separation}
use Rattle.sp_bank.proofs.Order.{digits-below, digits_row, length-digits, power_small, row_below}
use Rattle.sp_bank.proofs.searching.first_of_row.Goals as goal
use Rattle.sp_bank.proofs.searching.first_of_row.Goals.{then-separating-last+in_default, else-separating-last}

-- the weights before the last, and their number
record IsRow (rank banks row : ℕ) (before : List ℕ) : Type 0 where
  dimensions : 1 ≤ rank
  few : rank ≤ 3
  some : 1 ≤ banks
  few_banks : banks ≤ 32
  inside : row < banks ^ (rank - 1)
  weights : before ≡ digits (rank - 1) banks row

is_row : (rank banks block row : ℕ) (before : List ℕ) → IsAllowedSize banks block rank 0 → row < banks ^ (rank - 1) → before ≡ digits (rank - 1) banks row →
    IsRow rank banks row before
is_row rank banks block row before size inside weights = record {
  dimensions = size.some_dimension;
  few = size.few_dimensions;
  some = size.some_bank;
  few_banks = size.few_banks;
  inside = inside;
  weights = weights;
}

alpha_of_row : (rank banks row last : ℕ) (before : List ℕ) → IsRow rank banks row before → last < banks → digits rank banks (row * banks + last) ≡ before ++ last ∷ []
alpha_of_row rank banks row last before is below =
    let one_more : rank ≡ (rank - 1) + 1 = omega (arith, is.dimensions) in
    ap (λ n. digits n banks (row * banks + last)) one_more ∙ digits_row (rank - 1) banks row last (omega (arith, is.some)) is.inside below
    ∙ ap (λ xs. xs ++ last ∷ []) (sym is.weights)

rank_of_row : (rank banks row : ℕ) (before : List ℕ) → IsRow rank banks row before → rank ≡ length before + 1
rank_of_row rank banks row before is = omega (arith, ap length is.weights, length-digits (rank - 1) banks row, is.dimensions)

-- a weight that does not separate has no scheme that serves
none_from : (rank banks block row w : ℕ) (before : List ℕ) (groups : List (List Affine)) (separates : Bool) → IsRow rank banks row before → w < banks →
    (separates ≡ true) ↔ SeparatesAll (unhinged banks block (before ++ w ∷ [])) groups → separates ≡ false → HasNoneAt rank banks block (row * banks + w) groups
none_from rank banks block row w before groups separates is below decided fails t serves is_banks is_block is_alpha =
    true_false separates (decided.1 (same_separation (unhinged banks block (before ++ w ∷ [])) t groups is_banks is_block
    (is_alpha ∙ alpha_of_row rank banks row w before is below) serves.separates)) fails
  where
    true_false : (b : Bool) → b ≡ true → b ≡ false → ⊥
    true_false b e f = let g = sym e ∙ f in cc

-- what holds of the weights below last, and of last, holds of those below last + 1
one_more : (P : ℕ → Type 0) (last : ℕ) → ((w : ℕ) → w < last → P w) → P last → (w : ℕ) → w < last + 1 → P w
one_more P last before at w h = elim (eqb_tells w last) [
  | inl same ↦ subst P (sym same.1) at
  | inr other ↦ before w (less w last h other.1)
]
  where
    less : (i j : ℕ) → i < j + 1 → i ≢ j → i < j
    less i j h n = omega arith

pub separating_weights-separating-requires-clause-size : goal.separating_weights-separating-requires-clause-size
separating_weights-separating-requires-clause-size c =
    let row = is_row c.args.rank c.args.banks c.args.block c.args.row c.as_slice.result.now c.requires.size c.requires.inside (c.as_slice.ensures ∙ c.weights-before.ensures) in
    let P : ℕ → Type 0 = λ n. IsAllowedSize c.args.banks c.args.block n 0 in
    subst P (rank_of_row c.args.rank c.args.banks c.args.row c.as_slice.result.now row) c.requires.size

pub separating_weights-separating-requires-clause-weights : goal.separating_weights-separating-requires-clause-weights
separating_weights-separating-requires-clause-weights c =
    let P : List ℕ → Type 0 = λ xs. All (λ a. a < c.args.banks) xs in
    subst P (sym (c.as_slice.ensures ∙ c.weights-before.ensures))
    (digits-below (c.args.rank - 1) c.args.banks c.args.row (omega (arith, c.requires.size.some_bank)) c.requires.inside)

pub separating_weights-separating-requires-clause-groups : goal.separating_weights-separating-requires-clause-groups
separating_weights-separating-requires-clause-groups c k d below =
    let row = is_row c.args.rank c.args.banks c.args.block c.args.row c.as_slice.result.now c.requires.size c.requires.inside (c.as_slice.ensures ∙ c.weights-before.ensures) in
    let P : ℕ → Type 0 = λ n. IsGroup n (get_or c.args.groups.now k d).items in
    subst P (rank_of_row c.args.rank c.args.banks c.args.row c.as_slice.result.now row) (c.requires.groups k d below)

pub overflow_mul-row : goal.overflow_mul-row
overflow_mul-row c =
    let size = c.requires.size in
    omega (
      arith,
      row_below c.args.rank c.args.banks c.args.row c.loop-last.last size.some_dimension c.requires.inside c.loop-last-test.true,
      power_small c.args.banks c.args.rank size.few_banks size.few_dimensions,
    )

pub overflow_add-row : goal.overflow_add-row
overflow_add-row c =
    let size = c.requires.size in
    omega (
      arith,
      row_below c.args.rank c.args.banks c.args.row c.loop-last.last size.some_dimension c.requires.inside c.loop-last-test.true,
      power_small c.args.banks c.args.rank size.few_banks size.few_dimensions,
    )

pub scheme_at-requires-clause-inside : goal.scheme_at-requires-clause-inside
scheme_at-requires-clause-inside c =
    row_below c.args.rank c.args.banks c.args.row c.loop-last.last c.requires.size.some_dimension c.requires.inside c.loop-last-test.true

pub returns-in-Some-clause-serves : goal.returns-in-Some-clause-serves
returns-in-Some-clause-serves c =
    let row = is_row c.args.rank c.args.banks c.args.block c.args.row c.as_slice.result.now c.requires.size c.requires.inside (c.as_slice.ensures ∙ c.weights-before.ensures) in
    let found = c.in-Some.ensures in
    let groups = map (λ g. g.items) c.args.groups.now in
    let last = c.loop-last.last in
    let separated = (c.separating_weights-separating.ensures last c.loop-last-test.true).0 c.if-separating-last.true in
    let code = c.args.row * c.args.banks + last in
    record {
      space = found.space;
      rank_is = ap length found.weights ∙ length-digits c.args.rank c.args.banks code;
      separates = same_separation c.in-Some.scheme (unhinged c.args.banks c.args.block (c.as_slice.result.now ++ last ∷ [])) groups
          (sym found.size.0) (sym found.size.1)
          (sym (found.weights ∙ alpha_of_row c.args.rank c.args.banks c.args.row last c.as_slice.result.now row c.loop-last-test.true)) separated;
    }

pub returns-in-Some-clause-first : goal.returns-in-Some-clause-first
returns-in-Some-clause-first c = (c.loop-last.last, c.loop-last-test.true, c.in-Some.ensures.weights, c.loop-last.invariant)

pub loop-last-preserved : goal.loop-last-preserved
loop-last-preserved c =
    let row = is_row c.args.rank c.args.banks c.args.block c.args.row c.as_slice.result.now c.requires.size c.requires.inside (c.as_slice.ensures ∙ c.weights-before.ensures) in
    let groups = map (λ g. g.items) c.args.groups.now in
    let last = c.loop-last.last in
    let None : ℕ → Type 0 = λ w. HasNoneAt c.args.rank c.args.banks c.args.block (c.args.row * c.args.banks + w) groups in
    elim c.if-separating-last.branch [
      | then-separating-last+in_default w ↦
          one_more None last c.loop-last.invariant
          (λ t serves is_banks is_block is_alpha. w.in_default.ensures.none t serves.space is_banks is_block is_alpha)
      | else-separating-last w ↦
          one_more None last c.loop-last.invariant
          (none_from c.args.rank c.args.banks c.args.block c.args.row last c.as_slice.result.now groups (get_or c.separating_weights-separating.result last false)
          row c.loop-last-test.true (c.separating_weights-separating.ensures last c.loop-last-test.true) w.if-separating-last.false)
    ]

pub returns-clause-none : goal.returns-clause-none
returns-clause-none c w below = c.loop-last.invariant w (omega (arith, below, c.loop-last-test.false))
