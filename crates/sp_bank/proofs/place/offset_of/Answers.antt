use Rattle.std.proofs.Common.{◌≡◌, ◌*◌, ◌%◌, ◌<◌, ℕ, length, get_or, ap, sym, ◌∙◌, arith, refl, subst}
use Rattle.std.proofs.lemmas.Nat.{mod_below}
use Rattle.sp_bank.specs.Banking.{InSpace}
use Rattle.sp_bank.specs.Places.{weighted, bank_length}
use Rattle.sp_bank.proofs.Distinct.{IsInside-length, same_element, offset-below}
use Rattle.sp_bank.proofs.MemorySizes.{cells_small}
use Rattle.sp_bank.proofs.PlaceFacts.{sizes, is_offset}
use Rattle.sp_bank.proofs.place.offset_of.Goals as goal

pub lead_of-lead-requires-clause-same_length : goal.lead_of-lead-requires-clause-same_length
lead_of-lead-requires-clause-same_length c = IsInside-length c.args.dims.now c.args.x.now c.requires.inside

pub overflow_mul-row : goal.overflow_mul-row
overflow_mul-row c =
    let space : InSpace c.args.s.now = subst InSpace c.s.view_is c.s.invariant in
    let q : c.from-hinge.result ≡ c.args.s.now.hinge = cc in
    let period : c.from-period.result ≡ c.args.s.now.banks * c.args.s.now.block = cc in
    let block : c.from-block.result ≡ c.args.s.now.block = cc in
    let size = sizes c.args.s.now c.args.dims.now c.args.x.now c.from-hinge.result c.lead_of-lead.result c.from.result (get_or c.args.x.now c.from-hinge.result 0) c.from-period.result c.div_ceil-periods.result c.from-block.result
    space c.requires.rank c.requires.inside c.requires.small q c.from.ensures refl period c.div_ceil-periods.ensures c.lead_of-lead.ensures.below block in
    omega (arith, size.row_fits)

pub overflow_add-row : goal.overflow_add-row
overflow_add-row c =
    let space : InSpace c.args.s.now = subst InSpace c.s.view_is c.s.invariant in
    let q : c.from-hinge.result ≡ c.args.s.now.hinge = cc in
    let period : c.from-period.result ≡ c.args.s.now.banks * c.args.s.now.block = cc in
    let block : c.from-block.result ≡ c.args.s.now.block = cc in
    let size = sizes c.args.s.now c.args.dims.now c.args.x.now c.from-hinge.result c.lead_of-lead.result c.from.result c.from-2.result c.from-period.result c.div_ceil-periods.result c.from-block.result
    space c.requires.rank c.requires.inside c.requires.small q c.from.ensures c.from-2.ensures period c.div_ceil-periods.ensures c.lead_of-lead.ensures.below block in
    omega (arith, size.row_fits)

pub overflow_mul-result : goal.overflow_mul-result
overflow_mul-result c =
    let space : InSpace c.args.s.now = subst InSpace c.s.view_is c.s.invariant in
    let q : c.from-hinge.result ≡ c.args.s.now.hinge = cc in
    let period : c.from-period.result ≡ c.args.s.now.banks * c.args.s.now.block = cc in
    let block : c.from-block.result ≡ c.args.s.now.block = cc in
    let size = sizes c.args.s.now c.args.dims.now c.args.x.now c.from-hinge.result c.lead_of-lead.result c.from.result c.from-2.result c.from-period.result c.div_ceil-periods.result c.from-block.result
    space c.requires.rank c.requires.inside c.requires.small q c.from.ensures c.from-2.ensures period c.div_ceil-periods.ensures c.lead_of-lead.ensures.below block in
    omega (arith, cells_small _ c.from-block.result 0 size.row_fits size.block_fits size.some_block)

pub overflow_add-result : goal.overflow_add-result
overflow_add-result c =
    let space : InSpace c.args.s.now = subst InSpace c.s.view_is c.s.invariant in
    let q : c.from-hinge.result ≡ c.args.s.now.hinge = cc in
    let period : c.from-period.result ≡ c.args.s.now.banks * c.args.s.now.block = cc in
    let block : c.from-block.result ≡ c.args.s.now.block = cc in
    let size = sizes c.args.s.now c.args.dims.now c.args.x.now c.from-hinge.result c.lead_of-lead.result c.from.result c.from-2.result c.from-period.result c.div_ceil-periods.result c.from-block.result
    space c.requires.rank c.requires.inside c.requires.small q c.from.ensures c.from-2.ensures period c.div_ceil-periods.ensures c.lead_of-lead.ensures.below block in
    omega (
      arith,
      cells_small _ c.from-block.result (c.weighted_place.result % c.from-block.result) size.row_fits size.block_fits
          (mod_below c.weighted_place.result c.from-block.result size.some_block),
    )

pub weighted_place-requires-clause-rank : goal.weighted_place-requires-clause-rank
weighted_place-requires-clause-rank c =
    let alpha : c.as_slice.result.now ≡ c.args.s.now.alpha = cc in
    IsInside-length c.args.dims.now c.args.x.now c.requires.inside ∙ c.requires.rank ∙ sym (ap length alpha)

pub returns-clause-place : goal.returns-clause-place
returns-clause-place c =
    let q : c.from-hinge.result ≡ c.args.s.now.hinge = cc in
    let period : c.from-period.result ≡ c.args.s.now.banks * c.args.s.now.block = cc in
    let block : c.from-block.result ≡ c.args.s.now.block = cc in
    let alpha : c.as_slice.result.now ≡ c.args.s.now.alpha = cc in
    let weighed : c.weighted_place.result ≡ weighted c.args.s.now.alpha c.args.x.now = c.weighted_place.ensures ∙ ap (λ z. weighted z c.args.x.now) alpha in
    is_offset c.args.s.now c.args.dims.now c.args.x.now c.from-hinge.result c.lead_of-lead.result c.from.result c.from-2.result c.from-period.result
    c.div_ceil-periods.result c.from-block.result c.weighted_place.result q c.from.ensures c.from-2.ensures period c.div_ceil-periods.ensures
    c.lead_of-lead.ensures.value block weighed

pub returns-clause-below : goal.returns-clause-below
returns-clause-below c =
    let space : InSpace c.args.s.now = subst InSpace c.s.view_is c.s.invariant in
    let P : ℕ → Type 0 = λ z. z < bank_length c.args.s.now c.args.dims.now in
    subst P (sym (returns-clause-place c)) (offset-below c.args.s.now c.args.dims.now c.args.x.now space c.requires.rank c.requires.inside)

pub returns-clause-distinct : goal.returns-clause-distinct
returns-clause-distinct c y in_y same_bank same_offset =
    let space : InSpace c.args.s.now = subst InSpace c.s.view_is c.s.invariant in
    same_element c.args.s.now c.args.dims.now y c.args.x.now space c.requires.rank in_y c.requires.inside same_bank (same_offset ∙ returns-clause-place c)
