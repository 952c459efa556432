-- Which words are computed early; and stages in front of others.
use Rattle.std.specs.Prelude.{◌==◌, Bool, not, ◌&&◌, List, [], ◌∷◌}
use Rattle.sp_tree.specs.PlainExpression.{PlainExpr}
use Rattle.sp_tree.specs.Tallies.{tally}
use Rattle.sp_core.specs.declared.node.Stage.{Stage}
use Rattle.sp_core.specs.Plain.{plain_node}
use Rattle.sp_core.specs.PlainCore.{PlainStages, more_stage}
use Rattle.sp_sugar.specs.Early.{is_early}
use Rattle.sp_desugar.specs.declared.early.Crossing.{Crossing}
use Rattle.sp_desugar.specs.declared.early.Crossing.TheVariants.{Bound, Part}

abbrev pub crosses_of : Crossing → PlainExpr → Bool
crosses_of Bound e = is_early e
crosses_of (Part early) e = early && not ((tally e).operations == 0)

-- stages before others
unfoldable pub onto : List Stage → PlainStages → PlainStages
onto [] rest = rest
onto (s ∷ stages) rest = more_stage s.first s.last s.comb (plain_node s.node) (onto stages rest)
