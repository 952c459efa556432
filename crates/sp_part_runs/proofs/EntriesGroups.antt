-- A run of an inner body, taken apart.
use Rattle.std.proofs.Common.{◌≡◌, ℕ, zero, suc, ◌<◌, Bool, true, false, ◌&&◌, ℤ, List, [], ◌∷◌, length, slice_index_or, Option, refl, sym, ap, subst, ◌∙◌, arith}
use Rattle.std.specs.List.{All}
use Rattle.std.proofs.lemmas.Bool.{and_parts}
use Rattle.std.proofs.lemmas.List.Elements.{All-head, All-tail}
use Rattle.sp_core.specs.Around.{Around, within}
use Rattle.sp_core.specs.History.{Entry, Bounds, History, inner_ran}
use Rattle.sp_core.specs.Invariant.{IsRight}
use Rattle.sp_core.specs.MemoryRules.{are_memories_right}
use Rattle.sp_core.specs.NodeRules.{are_counters_right}
use Rattle.sp_core.specs.OperationRules.{are_operations_right}
use Rattle.sp_core.specs.Operations.{operations}
use Rattle.sp_core.specs.PlainCore.{PlainOp, PlainCounter, inner, PlainCore}
use Rattle.sp_core.specs.Scope.{Reading, loops_of, counts_of, group_values, Scope, in_group}
use Rattle.sp_core.specs.Sequential.{renew_in_body, bounds as bounds_step, run}
use Rattle.sp_core.specs.Step.{Step, Went, went, pure, ◌>>=◌, ◌>>◌, in_order}
use Rattle.sp_core.specs.Store.{Store}
use Rattle.sp_fitting.specs.Fitting.{StoreFits, EntriesFit, MasksAreBits}
use Rattle.sp_fitting.specs.Laws.{NodesFit}
use Rattle.sp_fitting.proofs.Lists.{masks_are_bits}
use Rattle.sp_fitting.proofs.Rules.{here_right}
use Rattle.sp_hold.proofs.Steps.{bound, was_pure}
use Rattle.sp_part_runs.specs.ActsEntries.{AreEntries}
use Rattle.sp_part_runs.proofs.ActsIndices.{group_indices}
use Rattle.sp_part_runs.proofs.ActsListed.{entries_done}
use Rattle.sp_part_runs.specs.EntriesLaws.{GroupsDone}

-- each element of a list had its step
record Each {A B : Type 0} (step : A → Step B) (xs : List A) (ys : List B) (none : A) (nothing : B) : Type 0 where
  each : length ys ≡ length xs
  went_so : (i : ℕ) → i < length ys → (s : Store) × (t : Store) × (step (slice_index_or xs i none) s ≡ went (slice_index_or ys i nothing) t)

all_steps : {A B : Type 0} (step : A → Step B) (none : A) (nothing : B) (xs : List A) (ys : List B) (s t : Store) → in_order step xs s ≡ went ys t → Each step xs ys none nothing
unfolding in_order
all_steps step none nothing [] ys s t h =
    let e = (was_pure [] ys s t h).value in
    subst (λ zs. Each step [] zs none nothing) e (record { each = refl; went_so = λ i l. absurd (omega (arith, l)) })
all_steps step none nothing (x ∷ xs) ys s t h =
    let a = bound _ _ s ys t h in
    let b = bound _ _ a.middle ys t a.later in
    let e = (was_pure (a.value ∷ b.value) ys b.middle t b.later).value in
    let r = all_steps step none nothing xs b.value a.middle b.middle b.first in
    subst (λ zs. Each step (x ∷ xs) zs none nothing) e (record { each = ap suc r.each; went_so = by_place a.value b.value (s, a.middle, a.first) r.went_so })
  where
    by_place : (y : _) (rest : List _) → (u : Store) × (v : Store) × (step x u ≡ went y v) → ((i : ℕ) → i < length rest → (u : Store) × (v : Store) × (step (slice_index_or xs i none) u ≡ went (slice_index_or rest i nothing) v))
        → (i : ℕ) → i < suc (length rest) → (u : Store) × (v : Store) × (step (slice_index_or (x ∷ xs) i none) u ≡ went (slice_index_or (y ∷ rest) i nothing) v)
    by_place y rest first others zero l = first
    by_place y rest first others (suc i) l = others i (omega (arith, l))

bits_of : (core : PlainCore) (around : Around) (ops : List PlainOp) → are_operations_right core around ops ≡ true → (groups : List (List Entry)) → All (EntriesFit ops) groups → (g : ℕ) → g < length groups → MasksAreBits ops (slice_index_or groups g [])
bits_of core around ops right [] h g l = absurd (omega (arith, l))
bits_of core around ops right (es ∷ groups) h zero l = masks_are_bits core around ops es right (All-head (EntriesFit ops) es groups h)
bits_of core around ops right (es ∷ groups) h (suc g) l = bits_of core around ops right groups (All-tail (EntriesFit ops) es groups h) g (omega (arith, l))

same_parts : (a b : List Bounds) (c d : List ℕ) (x y : List (List Entry)) → inner_ran a c x ≡ inner_ran b d y → (a ≡ b) × (x ≡ y)
same_parts a b c d x y e = (cc, cc)

pub groups_done : (core : PlainCore) → NodesFit core → (reading : Reading) (turns : ℕ) (around : Around) (earlier : List ℕ) (counters : List PlainCounter) (owned : List ℕ) (ops : List PlainOp) (comb : Option ℕ) (scope : Scope) (s t : Store) (bounds : List Bounds) (counts : List ℕ) (groups : List (List Entry))
    → are_memories_right core ≡ true → IsRight core around earlier (inner counters owned ops comb) → StoreFits core s → run core reading turns (inner counters owned ops comb) scope s ≡ went (inner_ran bounds counts groups) t
    → GroupsDone scope reading counters ops bounds groups
unfolding run
groups_done core fit reading turns around earlier counters owned ops comb scope s t bounds counts groups memories right fits h =
    let a = bound (in_order (bounds_step core reading turns scope) counters) _ s (inner_ran bounds counts groups) t h in
    let b = bound _ _ a.middle (inner_ran bounds counts groups) t a.later in
    let e = same_parts a.value bounds (counts_of (loops_of reading counters a.value)) counts b.value groups (was_pure (inner_ran a.value (counts_of (loops_of reading counters a.value)) b.value) (inner_ran bounds counts groups) b.middle t b.later).value in
    let r = all_steps _ [] [] (group_values (loops_of reading counters a.value)) b.value a.middle b.middle b.first in
    let f = fit reading turns (inner counters owned ops comb) around earlier scope s t (inner_ran bounds counts groups) memories right fits h in
    let p = and_parts (are_counters_right core around counters) (are_operations_right core (within around counters owned) ops) (here_right core around earlier (inner counters owned ops comb) right).0 in
    record {
      each = sym (ap length e.1) ∙ r.each ∙ ap (λ bs. length (group_values (loops_of reading counters bs))) e.0;
      entries = λ g l. entries_at a.value bounds b.value groups e.0 e.1 r.went_so g l;
      bits = bits_of core (within around counters owned) ops p.1 groups f.history.1;
      indices = group_indices core (within around counters owned) ops p.1 groups f.history.1;
    }
  where
    entries_at : (bs others : List Bounds) (xs ys : List (List Entry)) → bs ≡ others → xs ≡ ys
        → ((i : ℕ) → i < length xs → (u : Store) × (v : Store) × ((in_order (renew_in_body core reading turns) owned >> operations core (in_group scope (loops_of reading counters bs) (slice_index_or (group_values (loops_of reading counters bs)) i [])) ops) u ≡ went (slice_index_or xs i []) v))
        → (g : ℕ) → g < length ys → AreEntries (in_group scope (loops_of reading counters others) (slice_index_or (group_values (loops_of reading counters others)) g [])) ops (slice_index_or ys g [])
    entries_at bs others xs ys same equal steps g l =
        let w = steps g (subst (λ z. g < length z) (sym equal) l) in
        let c = bound _ _ w.0 (slice_index_or xs g []) w.1 w.2 in
        subst (λ z. AreEntries (in_group scope (loops_of reading counters others) (slice_index_or (group_values (loops_of reading counters others)) g [])) ops (slice_index_or z g [])) equal
        (subst (λ z. AreEntries (in_group scope (loops_of reading counters z) (slice_index_or (group_values (loops_of reading counters z)) g [])) ops (slice_index_or xs g [])) same
        (entries_done core (in_group scope (loops_of reading counters bs) (slice_index_or (group_values (loops_of reading counters bs)) g [])) ops c.middle w.1 (slice_index_or xs g []) c.later))
