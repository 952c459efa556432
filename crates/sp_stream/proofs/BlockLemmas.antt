-- The rules of an outer body, by its parts.
use Rattle.std.proofs.Common.{◌≡◌, ℕ, ◌&&◌, List, ap, sym, ◌∙◌}
use Rattle.sp_core.specs.PlainCore.{PlainCore, PlainCounter, PlainNode, PlainStages, outer}
use Rattle.sp_plan.specs.Slots.{is_once}
use Rattle.sp_stream.specs.Proper.{nodes_of, is_proper_block, is_proper_node}
use Rattle.sp_words.specs.declared.kind.Style.{Style}

pub proper_outer : (core : PlainCore) (style : Style) (counters counters' : List PlainCounter) (owned owned' : List ℕ) (stages stages' : PlainStages) (node : PlainNode) → node ≡ outer counters style owned stages →
    counters' ≡ counters → owned' ≡ owned → stages' ≡ stages → (is_once counters' && is_proper_block core owned' (nodes_of stages')) ≡ is_proper_node core node
proper_outer core style counters counters' owned owned' stages stages' node is c o s =
    ap (λ x. is_once x && is_proper_block core owned' (nodes_of stages')) c
    ∙ ap (λ x. is_once counters && is_proper_block core x (nodes_of stages')) o
    ∙ ap (λ x. is_once counters && is_proper_block core owned (nodes_of x)) s
    ∙ sym (ap (is_proper_node core) is)
