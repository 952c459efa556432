use Rattle.std.proofs.Common.{◌≡◌, ◌*◌, ◌∙◌, arith}
use Rattle.sp_bank.specs.Places.{periods, bank_length}
use Rattle.sp_places.specs.Layouts.{banking_of}
use Rattle.sp_banked.proofs.Sizes.{whole, some, size_parts, after_is, before_is, row_is, product_is}
use Rattle.sp_banked.proofs.banks.bank_len.Goals as goal

pub size_of-before-requires-clause-small : goal.size_of-before-requires-clause-small
size_of-before-requires-clause-small c =
    let is = before_is c.args.layout.now.dims.items c.deref.result.now c.args.layout.now.hinge c.deref.ensures.value in
    let part = (size_parts c.args.layout.now c.requires).front_small in
    let small = c.requires.small in
    omega (arith, is, part, small)

pub size_of-after-requires-clause-small : goal.size_of-after-requires-clause-small
size_of-after-requires-clause-small c =
    let is = after_is c.args.layout.now.dims.items c.deref-2.result.now c.args.layout.now.hinge c.deref-2.ensures.value in
    let part = (size_parts c.args.layout.now c.requires).back_small in
    let small = c.requires.small in
    omega (arith, is, part, small)

pub overflow_mul-result : goal.overflow_mul-result
overflow_mul-result c =
    let front = c.size_of-before.ensures ∙ before_is c.args.layout.now.dims.items c.deref.result.now c.args.layout.now.hinge c.deref.ensures.value in
    let back = c.size_of-after.ensures ∙ after_is c.args.layout.now.dims.items c.deref-2.result.now c.args.layout.now.hinge c.deref-2.ensures.value in
    let part = (size_parts c.args.layout.now c.requires).both_small in
    let small = c.requires.small in
    rw (front, back) (omega (arith, part, small))

pub returns : goal.returns
returns c =
    let front = c.size_of-before.ensures ∙ before_is c.args.layout.now.dims.items c.deref.result.now c.args.layout.now.hinge c.deref.ensures.value in
    let back = c.size_of-after.ensures ∙ after_is c.args.layout.now.dims.items c.deref-2.result.now c.args.layout.now.hinge c.deref-2.ensures.value in
    let hinge = c.requires.space.size.hinge_place in
    let rank = c.requires.rank in
    let row : c.from.result * c.from-2.result ≡ periods (banking_of c.args.layout.now) c.args.layout.now.dims.items * c.args.layout.now.block =
    row_is c.args.layout.now.dims.items c.args.layout.now.hinge (c.args.layout.now.banks * c.args.layout.now.block) c.index.result.now c.div_ceil-periods.result c.from.result c.args.layout.now.block c.from-2.result (omega (arith, hinge, rank))
    c.index.ensures c.div_ceil-periods.ensures c.from.ensures c.from-2.ensures in
    let value : (c.size_of-before.result * c.size_of-after.result) * (c.from.result * c.from-2.result) ≡ bank_length (banking_of c.args.layout.now) c.args.layout.now.dims.items =
    product_is _ _ _ _ _ _ front back row ∙ whole c.args.layout.now c.requires in
    let positive = some c.args.layout.now c.requires in
    let small = c.requires.small in
    record { value = value; length = (omega (arith, value, positive), omega (arith, value, small)) }
