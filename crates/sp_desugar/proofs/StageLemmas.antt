-- Stages before others, one more.
use Rattle.std.proofs.Common.{◌≡◌, List, [], ◌∷◌, ◌++◌, refl, ap}
use Rattle.sp_core.specs.declared.node.Stage.{Stage}
use Rattle.sp_core.specs.Plain.{plain_node, plain_stage_list}
use Rattle.sp_core.specs.PlainCore.{PlainStages, no_stage, more_stage}
use Rattle.sp_desugar.specs.Crossings.{onto}

pub onto_more : (stages : List Stage) (s : Stage) (rest : PlainStages) → onto (stages ++ s ∷ []) rest ≡ onto stages (more_stage s.first s.last s.comb (plain_node s.node) rest)
unfolding onto
onto_more [] s rest = refl
onto_more (t ∷ stages) s rest = ap (more_stage t.first t.last t.comb (plain_node t.node)) (onto_more stages s rest)

pub onto_none : (rest : PlainStages) → onto [] rest ≡ rest
unfolding onto
onto_none rest = refl

pub onto_all : (stages : List Stage) → plain_stage_list stages ≡ onto stages no_stage
unfolding onto
onto_all [] = refl
onto_all (s ∷ stages) = ap (more_stage s.first s.last s.comb (plain_node s.node)) (onto_all stages)
