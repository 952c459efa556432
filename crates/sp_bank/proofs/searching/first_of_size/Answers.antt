use Rattle.std.proofs.Common.{◌≡◌, ◌+◌, ◌-◌, ◌*◌, ◌^◌, ◌<◌, ◌≤◌, inl, inr, ℕ, List, ap, ◌∙◌, arith}
use Rattle.std.specs.Prelude.{map}
use Rattle.std.proofs.Math.Nat.{mul-le-mul_right}
use Rattle.std.proofs.lemmas.Bool.Decides.{leb_tells}
use Rattle.sp_affine.specs.Affine.{Affine}
use Rattle.sp_bank.specs.Banking.{Banking}
use Rattle.sp_bank.specs.Search.{HasNoneAt, Serves}
use Rattle.sp_bank.proofs.Order.{code_of, power_rank, power_small, row_below}
use Rattle.sp_bank.proofs.First.{alpha_of_code, code_below, none_before}
use Rattle.sp_bank.proofs.searching.first_of_size.Goals as goal

-- nothing in the rows before, nor in this one before the last weight
earlier : (rank banks block row last : ℕ) (groups : List (List Affine)) (t : Banking) → Serves rank groups t → t.banks ≡ banks → t.block ≡ block →
    (code_of banks t.alpha < row * banks → ⊥) → ((w : ℕ) → w < last → HasNoneAt rank banks block (row * banks + w) groups) →
    code_of banks t.alpha < row * banks + last → ⊥
earlier rank banks block row last groups t serves is_banks is_block before here below = elim (leb_tells (row * banks) (code_of banks t.alpha)) [
  | inl in_row ↦
      here (code_of banks t.alpha - row * banks) (omega (arith, in_row.1, below)) t serves is_banks is_block
      (alpha_of_code t rank banks (row * banks + (code_of banks t.alpha - row * banks)) serves.space serves.rank_is is_banks (omega (arith, in_row.1)))
  | inr less ↦ before less.1
]

pub pow-row-end-requires : goal.pow-row-end-requires
pow-row-end-requires c = power_small c.args.banks c.from.result c.requires.size.few_banks (omega (arith, c.from.ensures, c.requires.size.few_dimensions))

pub loop-row-preserved : goal.loop-row-preserved
loop-row-preserved c t serves is_banks is_block below =
    earlier c.args.rank c.args.banks c.args.block c.loop-row.row c.args.banks (map (λ g. g.items) c.args.groups.now) t serves is_banks is_block
    (c.loop-row.invariant t serves is_banks is_block) c.in_default.ensures.none (omega (arith, below))

pub returns-clause-none : goal.returns-clause-none
returns-clause-none c t serves is_banks is_block =
    let rows : c.pow-row-end.result ≡ c.args.banks ^ (c.args.rank - 1) = c.pow-row-end.ensures ∙ ap (λ n. c.args.banks ^ n) c.from.ensures in
    let past : c.args.banks ^ (c.args.rank - 1) ≤ c.loop-row.row = omega (arith, rows, c.loop-row-test.false) in
    c.loop-row.invariant t serves is_banks is_block
    (omega (
      arith,
      code_below t c.args.rank c.args.banks serves.space serves.rank_is is_banks,
      power_rank c.args.rank c.args.banks c.requires.size.some_dimension,
      mul-le-mul_right c.args.banks past,
    ))

pub returns-in-Some-clause-first : goal.returns-in-Some-clause-first
returns-in-Some-clause-first c t serves is_banks is_block =
    let rows : c.pow-row-end.result ≡ c.args.banks ^ (c.args.rank - 1) = c.pow-row-end.ensures ∙ ap (λ n. c.args.banks ^ n) c.from.ensures in
    let (last, low, is_alpha, here) = c.in-Some.ensures.first in
    none_before c.in-Some.scheme t c.args.rank c.args.banks c.args.block (c.loop-row.row * c.args.banks + last) (map (λ g. g.items) c.args.groups.now)
    (omega (arith, c.requires.size.some_bank)) c.in-Some.ensures.size.0 c.in-Some.ensures.size.1 is_alpha
    (row_below c.args.rank c.args.banks c.loop-row.row last c.requires.size.some_dimension (omega (arith, rows, c.loop-row-test.true)) low)
    serves is_banks is_block c.in-Some.ensures.hinge
    (earlier c.args.rank c.args.banks c.args.block c.loop-row.row last (map (λ g. g.items) c.args.groups.now) t serves is_banks is_block
    (c.loop-row.invariant t serves is_banks is_block) here)
