use Rattle.std.proofs.Common.{◌≡◌, ◌++◌, [], ◌∷◌, ap, ◌∙◌, arith}
use Rattle.std.proofs.lemmas.Grind.{common_steps}
use Rattle.sp_operations.proofs.SourceLemmas.{more_sources}
use Rattle.sp_operations.specs.Sources.{sources_of}
use Rattle.sp_operations.specs.declared.sources.Source.TheVariants.{Constant}
use Rattle.sp_operations.proofs.sources.reach.Goals as goal

pub loop-sources-preserved : goal.loop-sources-preserved
loop-sources-preserved c =
    let e : c.push.new.self.items ≡ c.loop-sources.sources.items ++ Constant 0 ∷ [] = grind (arith, common_steps) in
    ap sources_of e ∙ more_sources c.loop-sources.sources.items ∙ c.loop-sources.invariant
