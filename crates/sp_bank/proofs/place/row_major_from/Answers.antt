use Rattle.std.proofs.Common.{◌≡◌, ◌+◌, ◌*◌, ◌<◌, ◌≤◌, ◌^◌, length, get_or, take, ap, arith}
use Rattle.std.proofs.lemmas.List.{take_all}
use Rattle.sp_bank.specs.Places.{product_of}
use Rattle.sp_bank.proofs.Distinct.{IsInside-at, IsInside-length}
use Rattle.sp_bank.proofs.MemorySizes.{product_of-take, row_major-take, product_of-take-le, step_below, step_fits}
use Rattle.sp_bank.proofs.place.row_major_from.Goals as goal

pub overflow_mul-number : goal.overflow_mul-number
overflow_mul-number c =
    let inside : c.loop-i.i < length c.args.dims.now = c.loop-i-test.true in
    let index = IsInside-at c.args.dims.now c.args.x.now c.loop-i.i inside c.requires.inside in
    let below = step_below c.args.start c.loop-i.number (product_of (take c.loop-i.i c.args.dims.now)) (get_or c.args.dims.now c.loop-i.i 0) (get_or c.args.x.now c.loop-i.i 0)
    c.loop-i.invariant.below index in
    let product = product_of-take c.args.dims.now c.loop-i.i inside in
    let fits = step_fits c.args.start _ _ (2 ^ 32) (product_of-take-le c.args.dims.now c.args.x.now (c.loop-i.i + 1) c.requires.inside) c.requires.small in
    let same : (c.args.start + 1) * product_of (take (c.loop-i.i + 1) c.args.dims.now) ≡ (c.args.start + 1) * (product_of (take c.loop-i.i c.args.dims.now) * get_or c.args.dims.now c.loop-i.i 0) =
    ap (λ z. (c.args.start + 1) * z) product in
    let size = ap (λ z. c.loop-i.number * z) c.from.ensures in
    omega (arith, below, same, fits, size)

pub overflow_add-number : goal.overflow_add-number
overflow_add-number c =
    let inside : c.loop-i.i < length c.args.dims.now = c.loop-i-test.true in
    let index = IsInside-at c.args.dims.now c.args.x.now c.loop-i.i inside c.requires.inside in
    let below = step_below c.args.start c.loop-i.number (product_of (take c.loop-i.i c.args.dims.now)) (get_or c.args.dims.now c.loop-i.i 0) (get_or c.args.x.now c.loop-i.i 0)
    c.loop-i.invariant.below index in
    let product = product_of-take c.args.dims.now c.loop-i.i inside in
    let fits = step_fits c.args.start _ _ (2 ^ 32) (product_of-take-le c.args.dims.now c.args.x.now (c.loop-i.i + 1) c.requires.inside) c.requires.small in
    let same : (c.args.start + 1) * product_of (take (c.loop-i.i + 1) c.args.dims.now) ≡ (c.args.start + 1) * (product_of (take c.loop-i.i c.args.dims.now) * get_or c.args.dims.now c.loop-i.i 0) =
    ap (λ z. (c.args.start + 1) * z) product in
    let size = ap (λ z. c.loop-i.number * z) c.from.ensures in
    omega (arith, below, same, fits, size, c.from-in-loop-i.ensures)

pub loop-i-preserved : goal.loop-i-preserved
loop-i-preserved c =
    let inside : c.loop-i.i < length c.args.dims.now = c.loop-i-test.true in
    let index = IsInside-at c.args.dims.now c.args.x.now c.loop-i.i inside c.requires.inside in
    let below = step_below c.args.start c.loop-i.number (product_of (take c.loop-i.i c.args.dims.now)) (get_or c.args.dims.now c.loop-i.i 0) (get_or c.args.x.now c.loop-i.i 0)
    c.loop-i.invariant.below index in
    let product = product_of-take c.args.dims.now c.loop-i.i inside in
    let fits = step_fits c.args.start _ _ (2 ^ 32) (product_of-take-le c.args.dims.now c.args.x.now (c.loop-i.i + 1) c.requires.inside) c.requires.small in
    let same : (c.args.start + 1) * product_of (take (c.loop-i.i + 1) c.args.dims.now) ≡ (c.args.start + 1) * (product_of (take c.loop-i.i c.args.dims.now) * get_or c.args.dims.now c.loop-i.i 0) =
    ap (λ z. (c.args.start + 1) * z) product in
    let long = IsInside-length c.args.dims.now c.args.x.now c.requires.inside in
    let number = row_major-take c.args.dims.now c.args.x.now c.loop-i.i c.requires.inside long inside in
    let size = ap (λ z. c.loop-i.number * z) c.from.ensures in
    let known = ap (λ z. z * get_or c.args.dims.now c.loop-i.i 0) c.loop-i.invariant.is_number in
    let grown = ap (λ z. c.args.start * z) product in
    record {
      is_number = omega (arith, number, size, known, grown, c.from-in-loop-i.ensures);
      below = omega (arith, below, same, size, c.from-in-loop-i.ensures);
    }

pub returns : goal.returns
returns c =
    let past : length c.args.dims.now ≤ c.loop-i.i = c.loop-i-test.false in
    let long = IsInside-length c.args.dims.now c.args.x.now c.requires.inside in
    let past_x : length c.args.x.now ≤ c.loop-i.i = omega (arith, long) in
    rw (take_all c.loop-i.i c.args.dims.now past, take_all c.loop-i.i c.args.x.now past_x) at c.loop-i.invariant.is_number

pub bounds-x-i : goal.bounds-x-i
bounds-x-i c = omega (arith, c.loop-i-test.true, IsInside-length c.args.dims.now c.args.x.now c.requires.inside)
