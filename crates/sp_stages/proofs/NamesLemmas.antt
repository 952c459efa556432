-- What the parts of an outer body name.
use Rattle.std.proofs.Common.{◌≡◌, ℕ, ◌++◌, List, append_assoc, ap, sym, ◌∙◌}
use Rattle.sp_core.specs.PlainCore.{PlainCore, PlainCounter, PlainNode, PlainStages, outer}
use Rattle.sp_plan.specs.Named.{counters_names, stages_names, names}
use Rattle.sp_words.specs.declared.kind.Style.{Style}

pub names_begin : (core : PlainCore) (counters : List PlainCounter) (style : Style) (owned : List ℕ) (stages given : PlainStages) (node : PlainNode) (old now : List (List ℕ)) → node ≡ outer counters style owned stages → now ≡ old ++ counters_names counters → given ≡ stages → now ++ stages_names core given ≡ old ++ names core node
names_begin core counters style owned stages given node old now is e given_is =
    ap (λ s. now ++ stages_names core s) given_is
    ∙ ap (λ xs. xs ++ stages_names core stages) e
    ∙ append_assoc old (counters_names counters) (stages_names core stages)
    ∙ sym (ap (λ n. old ++ names core n) is)
