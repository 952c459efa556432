use Rattle.std.proofs.Common.{ℕ, List, map, ap, ◌∙◌, subst}
use Rattle.sp_core.specs.CoreParts.{plain_core}
use Rattle.sp_core.specs.Forms.{plain_forms}
use Rattle.sp_meets.specs.Meets.{AreMeetsAmong}
use Rattle.sp_meets.specs.Plain.{plain_site}
use Rattle.sp_meets.specs.Sites.{PlainSite, sites}
use Rattle.sp_meets.proofs.collect.meets.Goals as goal

pub returns : goal.returns
returns c =
    let on : ℕ → List PlainSite → Type 0 = λ chip xs. AreMeetsAmong chip xs xs c.in_ok-pairs.pairs.items in
    let found = ap (map plain_site) c.deref.ensures.value ∙ c.in_ok-sites.ensures in
    let all = sites (plain_core c.args.core.now) (plain_forms c.args.patterns.now) in
    subst (λ n. on n all) c.count-chip.ensures (subst (on c.count-chip.result) found c.in_ok-pairs.ensures)
