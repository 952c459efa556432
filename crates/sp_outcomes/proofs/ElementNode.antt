-- The node of the loop over elements does what the program does with all elements.
use Rattle.std.proofs.Common.{◌≡◌, ℕ, suc, ◌≤◌, Bool, List, [], ◌∷◌, Option, Some, sym, ◌∙◌, ap, subst}
use Rattle.std.proofs.lemmas.Bool.{false≢true}
use Rattle.std.specs.Prelude.{length, map, Contains, All}
use Rattle.sp_words.specs.declared.kind.Kind.TheVariants.{Sram}
use Rattle.sp_words.specs.declared.types.Ty.{Ty}
use Rattle.sp_words.specs.Interface.{word_count, IsCount}
use Rattle.sp_words.specs.Memory.{cells}
use Rattle.sp_tree.specs.declared.statement.Comb.{Comb}
use Rattle.sp_tree.specs.Elements.{numbers_below}
use Rattle.sp_tree.specs.Expressions as expressions
use Rattle.sp_tree.specs.Operators.{bit}
use Rattle.sp_tree.specs.PlainProgram.{PlainProgram}
use Rattle.sp_tree.specs.PlainStatement.{PlainCounter}
use Rattle.sp_tree.specs.Sequential.{assign_all}
use Rattle.sp_tree.specs.Step as step
use Rattle.sp_tree.specs.Store as program_store
use Rattle.sp_tree.specs.Typing.{IsMem}
use Rattle.sp_core.specs.History.{Bounds, History, inner_ran}
use Rattle.sp_core.specs.PlainCore as plain
use Rattle.sp_core.specs.PlainCore.{PlainOp, PlainCore, inner}
use Rattle.sp_core.specs.Scope as counters
use Rattle.sp_core.specs.Scope.{Loop, plainly, loops_of, counts_of, group_values}
use Rattle.sp_core.specs.Sequential.{bounds, run}
use Rattle.sp_core.specs.Step as core_step
use Rattle.sp_core.specs.Store as store
use Rattle.sp_sugar.specs.Agreement.{HasMemories, View, IsAdded, Agree}
use Rattle.sp_sugar.specs.Combination.{element_value, element_loop}
use Rattle.sp_sugar.specs.Early.{is_early, counters_of, bounds_of}
use Rattle.sp_sugar.specs.Numbers.{mem_number}
use Rattle.sp_sugar.specs.Values.{no_sources}
use Rattle.sp_sugar.proofs.StepLemmas.{then_on}
use Rattle.sp_same.specs.Following.{AreReady}
use Rattle.sp_same.proofs.BoundsTaken.{AreLoops, are_loops, iterations, bounds_taken}
use Rattle.sp_outcomes.proofs.ElementGroups.{rest_view, group, ops, one, all_went}
use Rattle.sp_outcomes.proofs.ElementLoops.{element_loops, element_ranges, elements_typed, element_counters_are}
use Rattle.sp_outcomes.proofs.ElementPairs.{elements_end, elements_paired}
use Rattle.sp_outcomes.proofs.ElementSteps.{Stay}
use Rattle.sp_outcomes.proofs.ElementView.{scope_with}

-- literal bounds aren't computed early
literals_ready : (p : PlainProgram) (core : PlainCore) (left : ℕ) (s : program_store.Store) (t : store.Store) (r c : ℕ) (ds : List ℕ) → AreReady p core is_early left s t r (bounds_of (element_loops c ds))
literals_ready p core left s t r c [] = tt
literals_ready p core left s t r c (d ∷ ds) = (λ e. absurd (false≢true e), (λ e. absurd (false≢true e), literals_ready p core left s t r (suc c) ds))

module _ (p : PlainProgram) (core : PlainCore) (h : HasMemories p core) (most : ℕ) (ms : List ℕ) (around : counters.Scope) (waiting : List ℕ) (resets : ℕ → Bool) (registers : List (ℕ × Option ℕ))
    (part acc begun : ℕ) (ty : Ty) (comb : Comb) (place : ℕ) (counts : All IsCount (expressions.dims p.mems part)) (is_part : IsMem p (scope_with p ms (length (expressions.dims p.mems part))) part Sram ty) (is_acc : IsMem p (scope_with p ms (length (expressions.dims p.mems part))) acc Sram ty)
    (same_dims : expressions.dims p.mems acc ≡ expressions.dims p.mems part) (added : IsAdded p core begun) where
  abbrev c : ℕ
  c = length p.counters

  abbrev ds : List ℕ
  ds = expressions.dims p.mems part

  abbrev its_ops : List PlainOp
  its_ops = ops p core h most ms around waiting resets registers part acc begun ty comb place counts is_part is_acc same_dims added

  abbrev its_view : View
  its_view = rest_view p core h most ms around waiting resets registers part acc begun ty comb place counts is_part is_acc same_dims added

  pub record Node_went (s after : program_store.Store) (t : store.Store) (left rest : ℕ) : Type 0 where
    pub history : History
    pub end : store.Store
    pub goes : run core plainly most (element_loop p.mems c ds part (mem_number p.mems acc) begun ty comb) around t ≡ core_step.went history (store.hold end begun (cells (Some 1 ∷ [])))
    pub agree : Agree p core its_view [] after end
    pub stay : Stay s after
    pub fewer : rest ≤ left

  pub node_went : (b : Bool) (kept : Contains registers (begun, Some (bit b))) (left rest : ℕ) (s after : program_store.Store) (t : store.Store) (al : List (Unit {0})) → Agree p core its_view [] s t
      → assign_all p.mems comb acc part b place left s ≡ step.went al rest after → Node_went s after t left rest
  unfolding run core_step.pure
  node_went b kept left rest s after t al a e =
      let loops : List PlainCounter = element_loops c ds in
      let cs : List plain.PlainCounter = counters_of p.mems no_sources 0 loops in
      let bt = bounds_taken p core h most its_view s t left a 0 loops (map numbers_below ds) left s (elements_typed p its_view.scope c ds counts) (literals_ready p core left s t 0 c ds) (element_ranges p c left s ds counts) in
      let bs : List Bounds = bt.2 in
      let are : AreLoops p no_sources 0 loops bs (map numbers_below ds) = are_loops p no_sources its_view.scope 0 loops bs (map numbers_below ds) (elements_typed p its_view.scope c ds counts) bt.4 in
      let ls : List Loop = loops_of plainly cs bs in
      let its_group = group p core h most ms around waiting resets registers part acc begun ty comb place counts is_part is_acc same_dims added in
      let its_one : ℕ → step.Step (Unit {0}) = one p core h most ms around waiting resets registers part acc begun ty comb place counts is_part is_acc same_dims added b kept ls are.numbers in
      let r = all_went p core h most ms around waiting resets registers part acc begun ty comb place counts is_part is_acc same_dims added b kept ls are.numbers (numbers_below (word_count ds)) (group_values ls) left rest s after t al
      (elements_paired ds ls (group_values ls) (iterations p no_sources 0 loops bs (map numbers_below ds) are)) (elements_end ds counts) a
      (ap (λ l. step.in_order its_one (numbers_below (word_count l)) left s) (sym same_dims) ∙ e) in
      let u : store.Store = store.hold r.end begun (cells (Some 1 ∷ [])) in
      record {
        history = inner_ran bs (counts_of ls) r.groups;
        end = r.end;
        goes = subst (λ l. run core plainly most (inner l [] its_ops (Some (length (element_value p.mems c ds part ty).ops))) around t ≡ core_step.went (inner_ran bs (counts_of ls) r.groups) u) (sym (element_counters_are p no_sources 0 c ds))
            (then_on (core_step.in_order (bounds core plainly most around) cs) (λ bs. core_step.◌>>=◌ (core_step.in_order (its_group (loops_of plainly cs bs)) (group_values (loops_of plainly cs bs))) (λ groups. core_step.pure (inner_ran bs (counts_of (loops_of plainly cs bs)) groups))) t bs t bt.3
            ∙ then_on (core_step.in_order (its_group ls) (group_values ls)) (λ groups. core_step.pure (inner_ran bs (counts_of ls) groups)) t r.groups u r.goes);
        agree = r.agree;
        stay = r.stay;
        fewer = r.fewer;
      }
