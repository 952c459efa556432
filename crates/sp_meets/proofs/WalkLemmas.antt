-- What an outer body gives, by its bounds and its stages.
use Rattle.std.proofs.Common.{◌≡◌, ℕ, ◌+◌, List, ◌++◌, ap, sym, ◌∙◌, append_assoc, arith}
use Rattle.sp_words.specs.declared.kind.Style.{Style}
use Rattle.sp_core.specs.Numbering.{counters_size, number_count, number_count_in}
use Rattle.sp_core.specs.PlainCore.{PlainCounter, PlainNode, PlainStages, outer, PlainCore}
use Rattle.sp_patterns.specs.declared.place.CounterPlace.{CounterPlace}
use Rattle.sp_patterns.specs.Ranges.{places_in}
use Rattle.sp_meets.specs.Around.{PlainLevel, outer_level, changed_in, changed_in_stages, changed_by_bounds}
use Rattle.sp_meets.specs.Spots.{PlainSpot, bounds_spots, node_spots, stages_spots}

module _ (core : PlainCore) (path : List PlainLevel) (places around : List CounterPlace) (counters : List PlainCounter) (style : Style) (owned : List ℕ) (stages left : PlainStages) (node : PlainNode) (level : PlainLevel)
    (is : node ≡ outer counters style owned stages) (all : left ≡ stages) (inside : around ≡ places ++ places_in counters) (stands : level ≡ outer_level core.mems places counters style owned (changed_in node)) where
  pub outer_spots : (old new : List PlainSpot) (n m : ℕ) → new ≡ old ++ bounds_spots path n counters → m ≡ n + counters_size counters →
      new ++ stages_spots core path level around 0 m left ≡ old ++ node_spots core path places n node
  outer_spots old new n m e f =
      ap (λ x. x ++ stages_spots core path level around 0 m left) e
      ∙ ap (λ x. (old ++ bounds_spots path n counters) ++ stages_spots core path level around 0 x left) f
      ∙ ap (λ x. (old ++ bounds_spots path n counters) ++ stages_spots core path level around 0 (n + counters_size counters) x) all
      ∙ ap (λ x. (old ++ bounds_spots path n counters) ++ stages_spots core path level x 0 (n + counters_size counters) stages) inside
      ∙ ap (λ x. (old ++ bounds_spots path n counters) ++ stages_spots core path x (places ++ places_in counters) 0 (n + counters_size counters) stages) (stands ∙ ap (λ x. outer_level core.mems places counters style owned (changed_in x)) is)
      ∙ append_assoc old (bounds_spots path n counters) _
      ∙ sym (ap (λ x. old ++ node_spots core path places n x) is)

pub outer_number : (counters : List PlainCounter) (style : Style) (owned : List ℕ) (stages left : PlainStages) (node : PlainNode) → node ≡ outer counters style owned stages → left ≡ stages →
    (n m : ℕ) → m ≡ n + counters_size counters → m + number_count_in left ≡ n + number_count node
outer_number counters style owned stages left node is all n m e =
    ap (λ x. x + number_count_in left) e ∙ ap (λ x. (n + counters_size counters) + number_count_in x) all
    ∙ joined n (counters_size counters) (number_count_in stages)
    ∙ sym (ap (λ x. n + number_count x) is)
  where
    joined : (a b c : ℕ) → (a + b) + c ≡ a + (b + c)
    joined a b c = omega arith

pub outer_changed : (counters : List PlainCounter) (style : Style) (owned : List ℕ) (stages left : PlainStages) (node : PlainNode) → node ≡ outer counters style owned stages → left ≡ stages →
    (old middle new : List ℕ) → middle ≡ old ++ changed_by_bounds counters → new ≡ middle ++ owned → new ++ changed_in_stages left ≡ old ++ changed_in node
outer_changed counters style owned stages left node is all old middle new e f =
    ap (λ x. x ++ changed_in_stages left) (f ∙ ap (λ x. x ++ owned) e)
    ∙ ap (λ x. ((old ++ changed_by_bounds counters) ++ owned) ++ changed_in_stages x) all
    ∙ append_assoc (old ++ changed_by_bounds counters) owned (changed_in_stages stages)
    ∙ append_assoc old (changed_by_bounds counters) (owned ++ changed_in_stages stages)
    ∙ sym (ap (λ x. old ++ changed_in x) is)
