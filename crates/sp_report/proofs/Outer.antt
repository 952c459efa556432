-- The lines of an outer body begin with its own.
use Rattle.std.proofs.Common.{◌≡◌, ℕ, ◌+◌, List, ◌++◌, ap, sym, ◌∙◌, append_assoc}
use Rattle.sp_core.specs.PlainCore.{PlainCounter, PlainNode, PlainStages, outer}
use Rattle.sp_plan.specs.PlainPlan.{PlainPlan, node_plan}
use Rattle.sp_report.specs.Nodes.{node_line, node_lines, stage_lines}
use Rattle.sp_words.specs.declared.kind.Style.{Style}

pub begun : (plan : PlainPlan) (k : ℕ) (node : PlainNode) (counters : List PlainCounter) (style : Style) (owned : List ℕ) (stages : PlainStages) (old new : List ℕ)
    → node ≡ outer counters style owned stages → new ≡ old ++ node_line k node (node_plan plan k) → new ++ stage_lines plan (k + 1) stages ≡ old ++ node_lines plan k node
begun plan k node counters style owned stages old new e h =
    let o = outer counters style owned stages in
    let line = h ∙ ap (λ x. old ++ node_line k x (node_plan plan k)) e in
    ap (λ x. x ++ stage_lines plan (k + 1) stages) line
    ∙ append_assoc old (node_line k o (node_plan plan k)) (stage_lines plan (k + 1) stages)
    ∙ ap (λ x. old ++ node_lines plan k x) (sym e)
