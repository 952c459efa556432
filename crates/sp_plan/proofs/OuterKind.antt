-- The plan of an outer body, by how many stages the body has.
use Rattle.std.proofs.Common.{◌≡◌, ℕ, List, [], ◌∷◌, length, Vec, Global, refl, ap, sym, ◌∙◌, arith}
use Rattle.sp_core.specs.declared.node.CoreCounter.{CoreCounter}
use Rattle.sp_core.specs.declared.node.Node.{Node, Outer}
use Rattle.sp_core.specs.declared.node.Stage.{Stage}
use Rattle.sp_core.specs.Declarations.{is_stream}
use Rattle.sp_core.specs.Plain.{plain_node, plain_stage_list}
use Rattle.sp_plan.specs.PlainPlan.{outer_plan}
use Rattle.sp_plan.specs.Validity.{stage_count, has_slots, is_kind_of}
use Rattle.sp_plan.proofs.Trees.{plain_outer}
use Rattle.sp_words.specs.declared.kind.Style.{Style}

stages_counted : (stages : List Stage) → stage_count (plain_stage_list stages) ≡ length stages
stages_counted [] = refl
stages_counted (s ∷ rest) = let k = stages_counted rest in omega arith

pub outer_of_kind : (counters : Vec CoreCounter Global) (style : Style) (owned : Vec ℕ Global) (stages : Vec Stage Global) (node : Node) (slots chains : List ℕ) → node ≡ Outer counters style owned stages →
    has_slots (is_stream style) (length stages.items) (length slots) (length chains) ≡ is_kind_of (plain_node node) (outer_plan slots chains)
outer_of_kind counters style owned stages node slots chains is =
    ap (λ n. has_slots (is_stream style) n (length slots) (length chains)) (sym (stages_counted stages.items))
    ∙ sym (ap (λ n. is_kind_of n (outer_plan slots chains)) (ap plain_node is ∙ plain_outer counters style owned stages))
