use Rattle.std.proofs.Common.{◌≡◌, ◌<◌, Bool, true, false, sym, ◌∙◌, arith}
use Rattle.sp_bank.proofs.ApartLemmas.{apart_decided, block_positive}
use Rattle.sp_bank.proofs.separation.apart.Goals as goal

false_true : (b : Bool) → b ≡ false → b ≡ true → ⊥
false_true b e f = let g = sym e ∙ f in cc

pub returns-else-have_same_constants : goal.returns-else-have_same_constants
returns-else-have_same_constants c =
    let size = c.are_far.ensures.space.size in
    let some_bank : 0 < c.args.s.now.banks = omega (arith, size.some_bank) in
    apart_decided c.args.s.now _ _ c.residue.result c.residue-else-have_same_constants.result c.are_far.result
    (block_positive c.args.s.now.block size.allowed_block) some_bank
    c.residue.ensures.value c.residue-else-have_same_constants.ensures.value
    (λ same. false_true c.have_same_constants.result c.if-have_same_constants.false (c.have_same_constants.ensures.1 same))
    c.are_far.ensures.far
