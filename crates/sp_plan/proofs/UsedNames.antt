-- What is named in two lists of names, and by an outer body.
use Rattle.std.proofs.Common.{◌≡◌, ℕ, ◌++◌, Bool, false, List, ap, sym, ◌∙◌}
use Rattle.std.specs.List.{list_any}
use Rattle.std.specs.Prelude.{◌||◌}
use Rattle.std.proofs.lemmas.List.Folds.{list_any-append}
use Rattle.sp_core.specs.Declarations.{is_among}
use Rattle.sp_core.specs.PlainCore.{PlainCore, PlainCounter, PlainNode, PlainStages, outer}
use Rattle.sp_plan.specs.Named.{counters_names, stages_names, uses}
use Rattle.sp_words.specs.declared.kind.Style.{Style}

pub named_in_both : (m : ℕ) (xs ys : List (List ℕ)) → list_any (is_among m) (xs ++ ys) ≡ (list_any (is_among m) xs || list_any (is_among m) ys)
named_in_both m xs ys = list_any-append (is_among m) xs ys

-- where its counters don't name a memory
pub stages_use : (core : PlainCore) (m : ℕ) (counters : List PlainCounter) (style : Style) (owned : List ℕ) (stages given : PlainStages) (node : PlainNode) → node ≡ outer counters style owned stages →
    list_any (is_among m) (counters_names counters) ≡ false → given ≡ stages → list_any (is_among m) (stages_names core given) ≡ uses core m node
stages_use core m counters style owned stages given node is none e =
    ap (λ s. list_any (is_among m) (stages_names core s)) e
    ∙ ap (λ (b : Bool). b || list_any (is_among m) (stages_names core stages)) (sym none)
    ∙ sym (named_in_both m (counters_names counters) (stages_names core stages))
    ∙ sym (ap (uses core m) is)
