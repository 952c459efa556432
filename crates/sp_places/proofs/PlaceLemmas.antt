-- The words of nets with banks and places.
use Rattle.std.proofs.Common.{◌≡◌, ℕ, ◌+◌, ◌*◌, ◌/◌, ◌%◌, ◌^◌, ◌<◌, ◌≤◌, List, get_or, ap, ◌∙◌, arith}
use Rattle.std.proofs.Math.Nat.{mod-eq_of_lt, mod-mod, mod-lt, div-le_self}
use Rattle.sp_bank.specs.Banking.{period}
use Rattle.sp_bank.specs.Places.{weighted, IsInside, row_major, periods, offset}
use Rattle.sp_bank.proofs.Distinct.{offset-below}
use Rattle.std.specs.List.{remove}
use Rattle.sp_places.specs.declared.layout.Layout.{Layout}
use Rattle.sp_places.specs.Layouts.{banking_of, IsLayout}
use Rattle.sp_places.proofs.SumLemmas.{scaled_sum, weighted_small}

pub weights_small : (l : Layout) (xs : List ℕ) → IsLayout l → IsInside l.dims.items xs → weighted l.alpha.items xs < 2 ^ 64
weights_small l xs h inside =
    let size = h.space.size in
    let most = weighted_small l.alpha.items l.dims.items xs l.banks h.space.weights size.few_banks h.sizes inside in
    let few = size.few_dimensions in
    omega (arith, most, few)

pub bank_is : (weighed block banks line bank net : ℕ) → weighed < 2 ^ 64 → 0 < banks → banks ≤ 32 → line ≡ weighed / block % 2 ^ 64 → bank ≡ line % banks % 2 ^ 64 → net ≡ bank % 2 ^ 32 → net ≡ weighed / block % banks
bank_is weighed block banks line bank net small some few e f g =
    let fits : weighed / block < 2 ^ 64 = (let d = div-le_self weighed block in omega (arith, d, small)) in
    let whole : line ≡ weighed / block = e ∙ mod-eq_of_lt fits in
    let below : weighed / block % banks < banks = mod-lt (weighed / block) some in
    let is : bank ≡ weighed / block % banks = f ∙ ap (λ n. n % banks % 2 ^ 64) whole ∙ mod-eq_of_lt (omega (arith, below, few)) in
    g ∙ ap (λ n. n % 2 ^ 32) is ∙ mod-eq_of_lt (omega (arith, below, few))

pub small_word : (n : ℕ) → n < 2 ^ 31 → n % 2 ^ 64 % 2 ^ 32 ≡ n
small_word n l = omega (arith, l)

pub place_is : (l : Layout) (xs : List ℕ) (row rows low place net : ℕ) → IsLayout l → IsInside l.dims.items xs
    → row ≡ (row_major (remove l.dims.items l.hinge) (remove xs l.hinge) * periods (banking_of l) l.dims.items + get_or xs l.hinge 0 / period (banking_of l)) % 2 ^ 64
    → rows ≡ row * l.block % 2 ^ 64 → low ≡ weighted l.alpha.items xs % l.block % 2 ^ 64 → place ≡ (rows + low) % 2 ^ 64 → net ≡ place % 2 ^ 32 → net ≡ offset (banking_of l) l.dims.items xs
place_is l xs row rows low place net h inside e f g k n =
    let number = row_major (remove l.dims.items l.hinge) (remove xs l.hinge) * periods (banking_of l) l.dims.items + get_or xs l.hinge 0 / period (banking_of l) in
    let whole : place ≡ offset (banking_of l) l.dims.items xs % 2 ^ 64 = scaled_sum (2 ^ 64) row rows low place number l.block (weighted l.alpha.items xs % l.block) k f (ap (λ v. v % 2 ^ 64) e ∙ mod-mod number (2 ^ 64)) g in
    let below : offset (banking_of l) l.dims.items xs < 2 ^ 31 = (let a = offset-below (banking_of l) l.dims.items xs h.space h.rank inside in let b = h.small in omega (arith, a, b)) in
    n ∙ ap (λ v. v % 2 ^ 32) whole ∙ small_word (offset (banking_of l) l.dims.items xs) below
