-- What is put together of an outer body begins with what its counters give.
use Rattle.std.proofs.Common.{◌≡◌, ℕ, suc, ◌+◌, Bool, replicate, List, [], ◌∷◌, ◌++◌, refl, ap, sym, ◌∙◌, append_assoc, add-one}
use Rattle.std.proofs.lemmas.List.{map-append}
use Rattle.std.proofs.lemmas.Grind.{flat_map-append}
use Rattle.std.specs.Prelude.{flat_map}
use Rattle.sp_core.specs.Elements.{numbers_below}
use Rattle.sp_core.specs.Numbered.{counters_numbers, stages_numbers, numbers}
use Rattle.sp_core.specs.PlainCore.{PlainCounter, PlainNode, PlainStages, outer}
use Rattle.sp_schemes.specs.Places.{has_forms, marks}
use Rattle.sp_words.specs.declared.kind.Style.{Style}

pub begun : (node : PlainNode) (counters : List PlainCounter) (style : Style) (owned : List ℕ) (stages : PlainStages) (old new : List Bool)
    → node ≡ outer counters style owned stages → new ≡ old ++ marks (counters_numbers counters) → new ++ marks (stages_numbers stages) ≡ old ++ marks (numbers node)
begun node counters style owned stages old new e h =
    ap (λ x. x ++ marks (stages_numbers stages)) h
    ∙ append_assoc old (marks (counters_numbers counters)) (marks (stages_numbers stages))
    ∙ ap (λ x. old ++ x) (sym (map-append has_forms (counters_numbers counters) (stages_numbers stages)))
    ∙ ap (λ x. old ++ marks (numbers x)) (sym e)

append-nil : {X : Type 0} (xs : List X) → xs ++ [] ≡ xs
append-nil [] = refl
append-nil (x ∷ xs) = ap (λ r. x ∷ r) (append-nil xs)

-- one lane more
pub one_more : {A : Type 0} (f : ℕ → List A) (n : ℕ) → flat_map f (numbers_below (n + 1)) ≡ flat_map f (numbers_below n) ++ f n
one_more f n = ap (λ k. flat_map f (numbers_below k)) (add-one n) ∙ flat_map-append f (numbers_below n) (n ∷ []) ∙ ap (λ r. flat_map f (numbers_below n) ++ r) (append-nil (f n))

-- one more in front
pub one_in_front : {A : Type 0} (old new : List A) (x : A) (n k : ℕ) → suc k ≡ n → new ≡ (old ++ x ∷ []) ++ replicate k x → new ≡ old ++ replicate n x
one_in_front old new x n k e h = h ∙ append_assoc old (x ∷ []) (replicate k x) ∙ ap (λ m. old ++ replicate m x) e
