use Rattle.std.proofs.Common.{◌≡◌, ◌*◌, ◌-◌, ◌^◌, min, ◌∙◌, rules, arith}
use Rattle.std.specs.List.{fold}
use Rattle.sp_setup.proofs.SizeLemmas.{capped-fold}
use Rattle.sp_setup.proofs.cells.count_of_words.Goals as goal

pub returns : goal.returns
returns c =
    let e : c.fold.result ≡ fold (λ n d. min (n * d) (2 ^ 128 - 1)) 1 c.args.dims.now = search rules in
    e ∙ capped-fold (2 ^ 128 - 1) c.args.dims.now (omega arith)
