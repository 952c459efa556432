use Rattle.std.proofs.Common.{◌≡◌, ◌*◌, ◌<◌, ℕ, List, length, get_or, ap, sym, ◌∙◌, subst, arith}
use Rattle.std.specs.Int.{IsGcd}
use Rattle.sp_bank.proofs.Order.{length-digits}
use Rattle.sp_bank.proofs.First.{space_of, no_hinge}
use Rattle.sp_bank.proofs.searching.scheme_at.Goals as goal

pub first_hinge-requires : goal.first_hinge-requires
first_hinge-requires c =
    omega (arith, ap length c.as_slice.ensures, ap length c.weights-alpha.ensures, length-digits c.args.rank c.args.banks c.args.code, c.requires.size.few_dimensions)

pub invariant_of-result : goal.invariant_of-result
invariant_of-result c =
    let alpha : c.as_slice.result.now ≡ c.weights-alpha.result.items = c.as_slice.ensures in
    let place : c.in-Some.hinge < length c.weights-alpha.result.items = omega (arith, c.in-Some.ensures.inside, ap length alpha) in
    let D : List ℕ → Type 0 = λ xs. IsGcd (get_or xs c.in-Some.hinge 0) (c.args.banks * c.args.block) 1 in
    let divisor = subst D alpha c.in-Some.ensures.hinge in
    space_of c.args.banks c.args.block c.args.rank c.args.code c.in-Some.hinge c.weights-alpha.result.items c.requires.size c.weights-alpha.ensures c.requires.inside place divisor

pub returns-clause-space : goal.returns-clause-space
returns-clause-space c =
    let alpha : c.as_slice.result.now ≡ c.weights-alpha.result.items = c.as_slice.ensures in
    let place : c.in-Some.hinge < length c.weights-alpha.result.items = omega (arith, c.in-Some.ensures.inside, ap length alpha) in
    let D : List ℕ → Type 0 = λ xs. IsGcd (get_or xs c.in-Some.hinge 0) (c.args.banks * c.args.block) 1 in
    let divisor = subst D alpha c.in-Some.ensures.hinge in
    space_of c.args.banks c.args.block c.args.rank c.args.code c.in-Some.hinge c.weights-alpha.result.items c.requires.size c.weights-alpha.ensures c.requires.inside place divisor

pub returns-clause-hinge : goal.returns-clause-hinge
returns-clause-hinge c r below one =
    let alpha : c.as_slice.result.now ≡ c.weights-alpha.result.items = c.as_slice.ensures in
    let D : List ℕ → Type 0 = λ xs. IsGcd (get_or xs r 0) (c.args.banks * c.args.block) 1 in
    c.in-Some.ensures.first r below (subst D (sym alpha) one)

pub returns-in_default-clause-none : goal.returns-in_default-clause-none
returns-in_default-clause-none c t space is_banks is_block is_alpha =
    let alpha : t.alpha ≡ c.as_slice.result.now = is_alpha ∙ sym (c.as_slice.ensures ∙ c.weights-alpha.ensures) in
    no_hinge t c.as_slice.result.now c.args.banks c.args.block space alpha is_banks is_block c.in_default.ensures.none
