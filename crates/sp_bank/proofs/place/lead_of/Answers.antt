use Rattle.std.proofs.Common.{◌≡◌, ◌*◌, ◌<◌, ℕ, suc, get_or, take, drop, ap, sym, arith, subst}
use Rattle.std.specs.List.{remove}
use Rattle.sp_bank.specs.Places.{product_of, row_major}
use Rattle.sp_bank.proofs.Distinct.{IsInside-at, IsInside-remove, row_major-below}
use Rattle.sp_bank.proofs.MemorySizes.{IsInside-take, IsInside-drop, product_of-take-le, product_of-append, product_of-remove, row_major-append, rest_is, room_after}
use Rattle.sp_bank.proofs.place.lead_of.Goals as goal

pub row_major_from-before-requires-clause-small : goal.row_major_from-before-requires-clause-small
row_major_from-before-requires-clause-small c =
    omega (arith, product_of-take-le c.args.dims.now c.args.x.now c.args.hinge c.requires.inside, c.requires.small)

pub row_major_from-requires-clause-small : goal.row_major_from-requires-clause-small
row_major_from-requires-clause-small c =
    let low = row_major-below (take c.args.hinge c.args.dims.now) (take c.args.hinge c.args.x.now) (IsInside-take c.args.dims.now c.args.x.now c.args.hinge c.requires.inside) in
    let before : c.row_major_from-before.result < product_of (take c.args.hinge c.args.dims.now) = omega (arith, c.row_major_from-before.ensures, low) in
    let size = IsInside-at c.args.dims.now c.args.x.now c.args.hinge c.requires.hinge c.requires.inside in
    let others = product_of-append (take c.args.hinge c.args.dims.now) (drop (suc c.args.hinge) c.args.dims.now) in
    let whole = product_of-remove c.args.dims.now c.args.hinge c.requires.hinge in
    let scaled = ap (λ z. z * get_or c.args.dims.now c.args.hinge 0) others in
    rw (rest_is c.args.dims.now c.args.hinge)
    (room_after c.row_major_from-before.result (product_of (take c.args.hinge c.args.dims.now)) (product_of (drop (suc c.args.hinge) c.args.dims.now))
    (get_or c.args.dims.now c.args.hinge 0) 4294967296 before (omega (arith, size)) (omega (arith, scaled, whole, c.requires.small)))

pub row_major_from-requires-clause-inside : goal.row_major_from-requires-clause-inside
row_major_from-requires-clause-inside c =
    rw (rest_is c.args.dims.now c.args.hinge, rest_is c.args.x.now c.args.hinge) (IsInside-drop c.args.dims.now c.args.x.now (suc c.args.hinge) c.requires.inside)

pub returns-clause-value : goal.returns-clause-value
returns-clause-value c =
    let last = rw (rest_is c.args.dims.now c.args.hinge, rest_is c.args.x.now c.args.hinge) at c.row_major_from.ensures in
    let whole = row_major-append (take c.args.hinge c.args.dims.now) (drop (suc c.args.hinge) c.args.dims.now) (take c.args.hinge c.args.x.now) (drop (suc c.args.hinge) c.args.x.now)
    (IsInside-take c.args.dims.now c.args.x.now c.args.hinge c.requires.inside) in
    let first : c.row_major_from-before.result ≡ row_major (take c.args.hinge c.args.dims.now) (take c.args.hinge c.args.x.now) = omega (arith, c.row_major_from-before.ensures) in
    let scaled = ap (λ z. z * product_of (drop (suc c.args.hinge) c.args.dims.now)) first in
    omega (arith, last, whole, scaled)

pub returns-clause-below : goal.returns-clause-below
returns-clause-below c = subst (λ (z : ℕ). z < product_of (remove c.args.dims.now c.args.hinge)) (sym (returns-clause-value c))
    (row_major-below _ _ (IsInside-remove c.args.dims.now c.args.x.now c.args.hinge c.requires.hinge c.requires.inside))

pub row_major_from-before-requires-clause-inside : goal.row_major_from-before-requires-clause-inside
row_major_from-before-requires-clause-inside c = IsInside-take c.args.dims.now c.args.x.now c.args.hinge c.requires.inside
