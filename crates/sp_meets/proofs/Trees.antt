-- The plain value of an outer body, by its parts.
use Rattle.std.proofs.Common.{◌≡◌, map, Vec, Global, refl, ◌∙◌, ap, ℕ}
use mathlib.Core.Former.{Count}
use Rattle.sp_words.specs.declared.kind.Style.{Style}
use Rattle.sp_core.specs.declared.node.CoreCounter.{CoreCounter}
use Rattle.sp_core.specs.declared.node.Stage.{Stage}
use Rattle.sp_core.specs.declared.node.Node.{Node, Outer, Outer', Row_of-Stage, end_of-Stage, more_of-Stage, items-the_row-Stage, items_hidden-the_row-Stage-0}
use Rattle.sp_core.specs.Plain.{plain_counter, plain_node, plain_stages, plain_stage_list}
use Rattle.sp_core.specs.PlainCore.{outer, more_stage}

abbrev row_of : Node → (n : Count) × Row_of-Stage n
row_of (Outer' counters style owned _ row) = (_, row)
row_of _ = (_, end_of-Stage)

plain_row : (n : _) (row : Row_of-Stage n) → plain_stages row ≡ plain_stage_list (items-the_row-Stage n row)
plain_row n end_of-Stage = refl
plain_row n (more_of-Stage first last comb node rest) = ap (more_stage first last comb (plain_node node)) (plain_row _ rest)

pub plain_outer : (counters : Vec CoreCounter Global) (style : Style) (owned : Vec ℕ Global) (stages : Vec Stage Global) →
    plain_node (Outer counters style owned stages) ≡ outer (map plain_counter counters.items) style owned.items (plain_stage_list stages.items)
plain_outer counters style owned stages =
    let row = row_of (Outer counters style owned stages) in
    ap (outer (map plain_counter counters.items) style owned.items) (plain_row row.0 row.1 ∙ ap plain_stage_list (items_hidden-the_row-Stage-0 stages))
