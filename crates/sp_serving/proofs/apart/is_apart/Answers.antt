use Rattle.std.proofs.Common.{◌<◌, subst, arith}
use Rattle.std.proofs.lemmas.Bool.Decides.{same_from_decides}
use Rattle.sp_bank.proofs.ApartLemmas.{block_positive}
use Rattle.sp_bank.specs.Banking.{Banking, InSpace}
use Rattle.sp_bank.specs.Separation.{constants}
use Rattle.sp_serving.proofs.ApartTests.{apart_is}
use Rattle.sp_serving.proofs.apart.is_apart.Goals as goal

pub returns : goal.returns
returns c =
    let P : Banking → Type 0 = λ b. InSpace b in
    let size = (subst P c.scheme.view_is c.scheme.invariant).size in
    let some : 0 < c.args.scheme.now.banks = omega (arith, size.some_bank) in
    same_from_decides _ _ c.apart.ensures
    (apart_is c.args.scheme.now (block_positive c.args.scheme.now.block size.allowed_block) some (constants c.args.f.now) (constants c.args.g.now))
