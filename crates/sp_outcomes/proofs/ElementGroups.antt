-- The loop over the elements of a MemReduce does what the program does at each of them, and writes with the last one that the
-- accumulator has begun.
use Rattle.std.proofs.Common.{◌≡◌, ℕ, suc, ◌≤◌, Bool, true, false, List, [], ◌∷◌, ◌++◌, Option, Some, None, refl, ◌∙◌, ap, subst, arith}
use Rattle.std.specs.Prelude.{ℤ, length, map, slice_index_or, Contains, All}
use Rattle.sp_words.specs.declared.kind.Kind.TheVariants.{Sram}
use Rattle.sp_words.specs.declared.types.Ty.{Ty}
use Rattle.sp_words.specs.Interface.{word_count, IsCount}
use Rattle.sp_words.specs.Memory.{cells}
use Rattle.sp_tree.specs.declared.statement.Comb.{Comb}
use Rattle.sp_tree.specs.Elements.{row_major}
use Rattle.sp_tree.specs.Expressions as expressions
use Rattle.sp_tree.specs.Operators.{bit}
use Rattle.sp_tree.specs.PlainProgram.{PlainProgram}
use Rattle.sp_tree.specs.Sequential.{assign}
use Rattle.sp_tree.specs.Step as step
use Rattle.sp_tree.specs.Store as program_store
use Rattle.sp_tree.specs.Typing.{IsMem}
use Rattle.sp_core.specs.History.{Entry}
use Rattle.sp_core.specs.Operations.{operations}
use Rattle.sp_core.specs.PlainCore.{PlainOp, PlainCore}
use Rattle.sp_core.specs.Scope as counters
use Rattle.sp_core.specs.Scope.{Loop, plainly, is_live, in_group}
use Rattle.sp_core.specs.Sequential.{renew_in_body}
use Rattle.sp_core.specs.Step as core_step
use Rattle.sp_core.specs.Store as store
use Rattle.sp_sugar.specs.Agreement.{HasMemories, View, IsAdded, Agree}
use Rattle.sp_sugar.specs.Combination.{element_value, element_ops}
use Rattle.sp_sugar.specs.Numbers.{mem_number}
use Rattle.sp_sugar.specs.Operations.{Code}
use Rattle.sp_sugar.proofs.StepLemmas.{same_store, same_left, taken_apart, then_on}
use Rattle.sp_same.proofs.BoundsTaken.{IsLoop, IsLive}
use Rattle.sp_same.proofs.Groups.{inner_group}
use Rattle.sp_same.proofs.Quietly.{Pairs}
use Rattle.sp_same.proofs.Values.{Fit, word_of_value}
use Rattle.sp_outcomes.proofs.ElementGoes.{Assigned, assigned_first, assigned_more}
use Rattle.sp_outcomes.proofs.ElementLoops.{element_loops}
use Rattle.sp_outcomes.proofs.ElementOrder.{AreBelow}
use Rattle.sp_outcomes.proofs.ElementPairs.{OnlyLast, IsElement, at_last, before_last}
use Rattle.sp_outcomes.proofs.ElementSteps.{Stay, assigned, element, element_apart}
use Rattle.sp_outcomes.proofs.ElementView.{scope_with, counted, between, at_element, enter_element, leave_element, counters_have, its_indices, its_last, its_value}
use Rattle.sp_outcomes.proofs.ElementWords.{HaveCounts, are_last}

module _ (p : PlainProgram) (core : PlainCore) (h : HasMemories p core) (most : ℕ) (ms : List ℕ) (around : counters.Scope) (waiting : List ℕ) (resets : ℕ → Bool) (registers : List (ℕ × Option ℕ))
    (part acc begun : ℕ) (ty : Ty) (comb : Comb) (place : ℕ) (counts : All IsCount (expressions.dims p.mems part)) (is_part : IsMem p (scope_with p ms (length (expressions.dims p.mems part))) part Sram ty) (is_acc : IsMem p (scope_with p ms (length (expressions.dims p.mems part))) acc Sram ty)
    (same_dims : expressions.dims p.mems acc ≡ expressions.dims p.mems part) (added : IsAdded p core begun) where
  abbrev pub ds : List ℕ
  ds = expressions.dims p.mems part

  abbrev pub ops : List PlainOp
  ops =
      let value : Code = element_value p.mems (length p.counters) ds part ty in
      value.ops ++ element_ops p.mems (length value.ops) value.word (length p.counters) ds (mem_number p.mems acc) begun ty comb

  abbrev pub rest_view : View
  rest_view = between p core h ms around waiting resets registers

  abbrev pub group : List Loop → List ℤ → core_step.Step (List Entry)
  group ls vs = inner_group core most [] ops (in_group around ls vs)

  -- one element
  pub record Went (ls : List Loop) (vs : List ℤ) (last : Bool) (s after : program_store.Store) (t : store.Store) (left rest : ℕ) : Type 0 where
    pub entries : List Entry
    pub end : store.Store
    pub goes : group ls vs t ≡ core_step.went entries (elim last [ true ↦ store.hold end begun (cells (Some 1 ∷ [])) | false ↦ end ])
    pub agree : Agree p core rest_view [] after end
    pub stay : Stay s after
    pub fewer : rest ≤ left

  module _ (ls : List Loop) (numbers : Pairs IsLoop (element_loops (length p.counters) ds) ls) (vs : List ℤ) (fit : Fit IsLive ls vs) (below : AreBelow ds (map word_of_value vs))
      (s : program_store.Store) (t : store.Store) (agrees : Agree p core rest_view [] s t) (w : ℕ) (part_word : slice_index_or (program_store.cells_of (s.held part)) (row_major ds (map word_of_value vs)) None ≡ Some w) where
    abbrev js : List ℕ
    js = map word_of_value vs

    abbrev N : ℕ
    N = length ds

    abbrev s1 : program_store.Store
    s1 = counted around ls vs s

    agrees1 : Agree p core (at_element p core h ms around waiting resets registers N ls vs) [] s1 t
    agrees1 = enter_element p core h ms around waiting resets registers N ls vs s t agrees

    have : HaveCounts s1 (length p.counters) js
    have = counters_have around ls vs (is_live ls vs) (length p.counters) ds s1 numbers fit (λ k. refl)

    abbrev Assigns : (b : Bool) → Contains registers (begun, Some (bit b)) → program_store.Store → Type 0
    Assigns b kept after = Assigned p core h (scope_with p ms N) (in_group around ls vs) waiting resets registers (length p.counters) part acc begun ty comb is_part is_acc same_dims (its_value p ms ds counts part ty is_part refl) (its_indices p ms ds counts) (its_last p ms ds counts) counts t s1 agrees1 js below have w part_word added
        (bit b) kept (record after { counts = s1.counts })

    assigns_by : (b : Bool) (kept : Contains registers (begun, Some (bit b))) (turns rest : ℕ) (x : Unit {0}) (after : program_store.Store) → assign p.mems comb acc (row_major ds js) b w place turns s1 ≡ step.went x rest (record after { counts = s1.counts }) → Assigns b kept after
    assigns_by false kept turns rest x after e = assigned_first p core h (scope_with p ms N) (in_group around ls vs) waiting resets registers (length p.counters) part acc begun ty comb is_part is_acc same_dims (its_value p ms ds counts part ty is_part refl) (its_indices p ms ds counts) (its_last p ms ds counts) counts t s1 agrees1 js below have w part_word added
        kept place turns rest x (record after { counts = s1.counts }) e
    assigns_by true kept turns rest x after e = assigned_more p core h (scope_with p ms N) (in_group around ls vs) waiting resets registers (length p.counters) part acc begun ty comb is_part is_acc same_dims (its_value p ms ds counts part ty is_part refl) (its_indices p ms ds counts) (its_last p ms ds counts) counts t s1 agrees1 js below have w part_word added
        kept place turns rest x (record after { counts = s1.counts }) e

    pub word_went : (b : Bool) (kept : Contains registers (begun, Some (bit b))) (turns left rest : ℕ) (x : Unit {0}) (after : program_store.Store) → turns ≤ left → assign p.mems comb acc (row_major ds js) b w place turns s ≡ step.went x rest after → Went ls vs (are_last ds js) s after t left rest
    unfolding core_step.in_order core_step.pure
    word_went b kept turns left rest x after le e =
        let q = assigned p.mems comb acc b place b (row_major ds js) w turns rest s after x s1.counts e in
        let g = assigns_by b kept turns rest x after q.0 in
        record {
          entries = g.entries ++ g.e ∷ [];
          end = g.end;
          goes = then_on (core_step.in_order (renew_in_body core plainly most) []) (λ _. operations core (in_group around ls vs) ops) t [] t refl ∙ g.goes;
          agree = leave_element p core h ms around waiting resets registers N ls vs s1.counts g.entries after g.end g.agree;
          stay = q.2;
          fewer = omega (arith, q.1, le);
        }

  -- all elements
  module _ (b : Bool) (kept : Contains registers (begun, Some (bit b))) (ls : List Loop) (numbers : Pairs IsLoop (element_loops (length p.counters) ds) ls) where
    abbrev pub one : ℕ → step.Step (Unit {0})
    one at = element p.mems comb acc b place part at

    one_went : (at : ℕ) (vs : List ℤ) (left rest : ℕ) (s after : program_store.Store) (t : store.Store) (x : Unit {0}) → IsElement ds ls at vs → Agree p core rest_view [] s t → one at left s ≡ step.went x rest after → Went ls vs (are_last ds (map word_of_value vs)) s after t left rest
    one_went at vs left rest s after t x is a e =
        let y = element_apart p.mems comb acc b place part at left rest s after x e in
        word_went ls numbers vs is.0 is.1 s t a y.word (ap (λ k. slice_index_or (program_store.cells_of (s.held part)) k None) is.2 ∙ y.part_word) b kept y.turns left rest x after (omega (arith, y.fell))
        (ap (λ k. assign p.mems comb acc k b y.word place y.turns s) is.2 ∙ y.assigns)

    pub record All_went (vss : List (List ℤ)) (s after : program_store.Store) (t : store.Store) (left rest : ℕ) : Type 0 where
      pub groups : List (List Entry)
      pub end : store.Store
      pub goes : core_step.in_order (group ls) vss t ≡ core_step.went groups (store.hold end begun (cells (Some 1 ∷ [])))
      pub agree : Agree p core rest_view [] after end
      pub stay : Stay s after
      pub fewer : rest ≤ left

    pub all_went : (ats : List ℕ) (vss : List (List ℤ)) (left rest : ℕ) (s after : program_store.Store) (t : store.Store) (al : List (Unit {0})) → Pairs (IsElement ds ls) ats vss → OnlyLast (word_count ds) ats → Agree p core rest_view [] s t
        → step.in_order one ats left s ≡ step.went al rest after → All_went vss s after t left rest
    unfolding step.in_order step.pure core_step.in_order core_step.pure
    all_went [] vss left rest s after t al q last a e = absurd last
    all_went (at ∷ ats) [] left rest s after t al q last a e = absurd q
    all_went (at ∷ []) (vs ∷ []) left rest s after t al q last a e =
        let y = taken_apart (one at) (λ x. step.◌>>=◌ (step.in_order one []) (λ more. step.pure (x ∷ more))) left s al rest after e in
        let x = one_went at vs left y.between s y.store t y.answer q.0 a y.first in
        let is : are_last ds (map word_of_value vs) ≡ true = at_last ds (map word_of_value vs) q.0.1 counts (ap suc q.0.2 ∙ last) in
        let z = taken_apart (step.in_order one []) (λ more. step.pure (y.answer ∷ more)) y.between y.store al rest after y.second in
        let ends : y.store ≡ after = same_store [] z.answer y.between z.between y.store z.store z.first ∙ same_store (y.answer ∷ z.answer) al z.between rest z.store after z.second in
        let here : group ls vs t ≡ core_step.went x.entries (store.hold x.end begun (cells (Some 1 ∷ []))) = x.goes ∙ ap (λ c. core_step.went x.entries (elim c as (λ _. store.Store) [ true ↦ store.hold x.end begun (cells (Some 1 ∷ [])) | false ↦ x.end ])) is in
        record {
          groups = x.entries ∷ [];
          end = x.end;
          goes = then_on (group ls vs) (λ first. core_step.◌>>=◌ (core_step.in_order (group ls) []) (λ others. core_step.pure (first ∷ others))) t x.entries (store.hold x.end begun (cells (Some 1 ∷ []))) here
              ∙ then_on (core_step.in_order (group ls) []) (λ others. core_step.pure (x.entries ∷ others)) (store.hold x.end begun (cells (Some 1 ∷ []))) [] (store.hold x.end begun (cells (Some 1 ∷ []))) refl;
          agree = subst (λ u. Agree p core rest_view [] u x.end) ends x.agree;
          stay = subst (Stay s) ends x.stay;
          fewer = omega (arith, x.fewer, same_left [] z.answer y.between z.between y.store z.store z.first, same_left (y.answer ∷ z.answer) al z.between rest z.store after z.second);
        }
    all_went (at ∷ []) (vs ∷ vs2 ∷ vss) left rest s after t al q last a e = absurd q.1
    all_went (at ∷ at2 ∷ ats) (vs ∷ vss) left rest s after t al q last a e =
        let y = taken_apart (one at) (λ x. step.◌>>=◌ (step.in_order one (at2 ∷ ats)) (λ more. step.pure (x ∷ more))) left s al rest after e in
        let x = one_went at vs left y.between s y.store t y.answer q.0 a y.first in
        let is : are_last ds (map word_of_value vs) ≡ false = before_last ds (map word_of_value vs) q.0.1 counts (omega (arith, last.0, q.0.2)) in
        let here : group ls vs t ≡ core_step.went x.entries x.end = x.goes ∙ ap (λ c. core_step.went x.entries (elim c as (λ _. store.Store) [ true ↦ store.hold x.end begun (cells (Some 1 ∷ [])) | false ↦ x.end ])) is in
        let z = taken_apart (step.in_order one (at2 ∷ ats)) (λ more. step.pure (y.answer ∷ more)) y.between y.store al rest after y.second in
        let r = all_went (at2 ∷ ats) vss y.between z.between y.store z.store x.end z.answer q.1 last.1 x.agree z.first in
        let ends : z.store ≡ after = same_store (y.answer ∷ z.answer) al z.between rest z.store after z.second in
        record {
          groups = x.entries ∷ r.groups;
          end = r.end;
          goes = then_on (group ls vs) (λ first. core_step.◌>>=◌ (core_step.in_order (group ls) vss) (λ others. core_step.pure (first ∷ others))) t x.entries x.end here
              ∙ then_on (core_step.in_order (group ls) vss) (λ others. core_step.pure (x.entries ∷ others)) x.end r.groups (store.hold r.end begun (cells (Some 1 ∷ []))) r.goes;
          agree = subst (λ u. Agree p core rest_view [] u r.end) ends r.agree;
          stay = subst (Stay s) ends (λ v. r.stay.0 v ∙ x.stay.0 v, λ k. r.stay.1 k ∙ x.stay.1 k);
          fewer = omega (arith, x.fewer, r.fewer, same_left (y.answer ∷ z.answer) al z.between rest z.store after z.second);
        }
