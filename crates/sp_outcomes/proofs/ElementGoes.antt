-- One element of a MemReduce: where the program assigns it, the operations go on to a store that agrees.
use Rattle.std.proofs.Common.{◌≡◌, ℕ, suc, ◌==◌, Bool, true, false, List, [], ◌∷◌, ◌++◌, Some, None, refl, sym, ◌∙◌, ap, subst}
use Rattle.std.specs.Prelude.{map, slice_index_or, slice_set, Contains, All, Option}
use Rattle.sp_words.specs.declared.kind.Kind.TheVariants.{Sram}
use Rattle.sp_words.specs.declared.types.Ty.{Ty}
use Rattle.sp_words.specs.Interface.{IsCount}
use Rattle.sp_words.specs.Memory.{cells}
use Rattle.sp_tree.specs.declared.statement.Comb.{Comb}
use Rattle.sp_tree.specs.Accesses as program
use Rattle.sp_tree.specs.Elements.{row_major}
use Rattle.sp_tree.specs.Expressions as expressions
use Rattle.sp_tree.specs.Operators.{combined}
use Rattle.sp_tree.specs.PlainExpression.{expr, get_sram}
use Rattle.sp_tree.specs.PlainProgram.{PlainProgram}
use Rattle.sp_tree.specs.Sequential.{assign}
use Rattle.sp_tree.specs.Step as step
use Rattle.sp_tree.specs.Store as program_store
use Rattle.sp_tree.specs.Typing.{Scope, IsMem, Typed, IndicesTyped}
use Rattle.sp_core.specs.declared.operation.OpKind.TheVariants as kind
use Rattle.sp_core.specs.History.{Entry, touched, left_out, word_at, word_of}
use Rattle.sp_core.specs.Operations.{done_by, operation, operations_after}
use Rattle.sp_core.specs.Operators.{two_word, chosen}
use Rattle.sp_core.specs.PlainCore.{PlainCore}
use Rattle.sp_core.specs.Scope as counters
use Rattle.sp_core.specs.Step as core_step
use Rattle.sp_core.specs.Store as store
use Rattle.sp_sugar.specs.Agreement.{HasMemories, IsAdded, Agree}
use Rattle.sp_sugar.specs.Combination.{operator_of, element_indices, is_last_element}
use Rattle.sp_sugar.specs.Numbers.{mem_number}
use Rattle.sp_sugar.proofs.StepLemmas.{same_store, taken_apart}
use Rattle.sp_same.proofs.Combining.{same_combined}
use Rattle.sp_same.proofs.Picks.{read_found}
use Rattle.sp_outcomes.proofs.AccElements.{places, element_reads, element_writes}
use Rattle.sp_outcomes.proofs.ElementOps.{view, whole, element_goes, at, indices, o1}
use Rattle.sp_outcomes.proofs.ElementOrder.{AreBelow}
use Rattle.sp_outcomes.proofs.ElementWords.{HaveCounts, are_last}

still_counts : (s u : program_store.Store) (c : ℕ) (js : List ℕ) → ((k : ℕ) → u.counts k ≡ s.counts k) → HaveCounts s c js → HaveCounts u c js
still_counts s u c [] same h = tt
still_counts s u c (j ∷ js) same h = (same c ∙ h.0, still_counts s u (suc c) js same h.1)

module _ (p : PlainProgram) (core : PlainCore) (h : HasMemories p core) (scope : Scope) (around : counters.Scope) (waiting : List ℕ) (resets : ℕ → Bool) (registers : List (ℕ × Option ℕ))
    (c part acc begun : ℕ) (ty : Ty) (comb : Comb) (is_part : IsMem p scope part Sram ty) (is_acc : IsMem p scope acc Sram ty) (same_dims : expressions.dims p.mems acc ≡ expressions.dims p.mems part)
    (value_typed : Typed p scope (expr 0 ty (get_sram part (element_indices c (expressions.dims p.mems part))))) (indices_typed : IndicesTyped p scope (element_indices c (expressions.dims p.mems part)))
    (last_typed : Typed p scope (is_last_element c (expressions.dims p.mems part))) (counts : All IsCount (expressions.dims p.mems part))
    (t : store.Store) (s : program_store.Store) (agrees : Agree p core (view p core h scope around waiting resets registers) [] s t) (js : List ℕ) (below : AreBelow (expressions.dims p.mems part) js) (have : HaveCounts s c js) (w : ℕ)
    (part_word : slice_index_or (program_store.cells_of (s.held part)) (row_major (expressions.dims p.mems part) js) None ≡ Some w) (added : IsAdded p core begun) where
  abbrev ds : List ℕ
  ds = expressions.dims p.mems part

  abbrev held_with : ℕ → program_store.Store
  held_with v = program_store.hold s acc (cells (slice_set (program_store.cells_of (s.held acc)) (row_major ds js) (Some v)))

  -- the first part of all
  abbrev First : (bk : ℕ) → Contains registers (begun, Some bk) → Entry → Type 0
  First bk kept e1 =
      (all : List Entry) (u : store.Store) → word_at all (at p core h scope around waiting resets registers c part acc begun ty comb is_part value_typed indices_typed last_typed counts t s agrees js below have w part_word added bk kept) ≡ bk
      → map (word_at all) (indices p core h scope around waiting resets registers c part acc begun ty comb is_part value_typed indices_typed last_typed counts t s agrees js below have w part_word added bk kept).words ≡ js → Agree p core (view p core h scope around waiting resets registers) all s u
      → operation core around (o1 p core h scope around waiting resets registers c part acc begun ty comb is_part value_typed indices_typed last_typed counts t s agrees js below have w part_word added bk kept) all u ≡ core_step.went e1 u

  pub first_left_out : (kept : Contains registers (begun, Some 0)) → First 0 kept left_out
  unfolding core_step.pure
  first_left_out kept all u e i a = ap (λ z. (elim (z == 0) as (λ _. core_step.Step Entry) [
    | true ↦ core_step.pure left_out
    | false ↦ done_by core around kind.Read ty (Some (mem_number p.mems acc)) (map (word_at all) (indices p core h scope around waiting resets registers c part acc begun ty comb is_part value_typed indices_typed last_typed counts t s agrees js below have w part_word added 0 kept).words)
  ]) u) e

  pub first_reads : (kept : Contains registers (begun, Some 1)) (x : ℕ) → slice_index_or (program_store.cells_of (s.held acc)) (row_major ds js) None ≡ Some x → First 1 kept (touched (places js) x)
  unfolding core_step.pure
  first_reads kept x found all u e i a =
      ap (λ z. (elim (z == 0) as (λ _. core_step.Step Entry) [
        | true ↦ core_step.pure left_out
        | false ↦ done_by core around kind.Read ty (Some (mem_number p.mems acc)) (map (word_at all) (indices p core h scope around waiting resets registers c part acc begun ty comb is_part value_typed indices_typed last_typed counts t s agrees js below have w part_word added 1 kept).words)
      ]) u) e
      ∙ ap (λ l. done_by core around kind.Read ty (Some (mem_number p.mems acc)) l u) i
      ∙ element_reads p core h (view p core h scope around waiting resets registers) acc ty is_acc ds same_dims js below counts all s u a x found

  -- to a store that agrees with the program's after it
  pub record Assigned (bk : ℕ) (kept : Contains registers (begun, Some bk)) (after : program_store.Store) : Type 0 where
    pub end : store.Store
    pub entries : List Entry
    pub e : Entry
    pub agree : Agree p core (view p core h scope around waiting resets registers) entries after end
    pub goes : operations_after core around [] (whole p core h scope around waiting resets registers c part acc begun ty comb is_part value_typed indices_typed last_typed counts t s agrees js below have w part_word added bk kept) t ≡ core_step.went (entries ++ e ∷ []) (elim (are_last ds js) [ true ↦ store.hold end begun (cells (Some 1 ∷ [])) | false ↦ end ])

  by_first : (bk : ℕ) (kept : Contains registers (begun, Some bk)) (e1 : Entry) (v : ℕ) → chosen bk (two_word (operator_of comb) ty (word_of e1) w) w ≡ v → First bk kept e1 → Assigned bk kept (held_with v)
  by_first bk kept e1 v same first =
      let d = element_goes p core h scope around waiting resets registers c part acc begun ty comb is_part value_typed indices_typed last_typed counts t s agrees js below have w part_word added bk kept e1 v same first (held_with v) (cells (slice_set (program_store.cells_of (s.held acc)) (row_major ds js) (Some v))) (touched (places js) v)
      (λ all u a. element_writes p core h (view p core h scope around waiting resets registers) acc ty is_acc ds same_dims js below counts all s u a v) (still_counts s (held_with v) c js (λ k. refl) have) in
      record { end = d.end; entries = d.entries; e = _; agree = d.agree; goes = d.goes }

  pub assigned_first : (kept : Contains registers (begun, Some 0)) (place left rest : ℕ) (x : Unit {0}) (after : program_store.Store) → assign p.mems comb acc (row_major ds js) false w place left s ≡ step.went x rest after → Assigned 0 kept after
  unfolding step.read step.change step.◌>>=◌
  assigned_first kept place left rest x after e = subst (λ u. Assigned 0 kept u) (same_store tt x left rest (held_with w) after e) (by_first 0 kept left_out w refl (first_left_out kept))

  pub assigned_more : (kept : Contains registers (begun, Some 1)) (place left rest : ℕ) (x : Unit {0}) (after : program_store.Store) → assign p.mems comb acc (row_major ds js) true w place left s ≡ step.went x rest after → Assigned 1 kept after
  unfolding step.read step.change step.◌>>=◌
  assigned_more kept place left rest x after e =
      let k : ℕ = row_major ds js in
      let ty2 : Ty = (expressions.mem p.mems acc).ty in
      let y = taken_apart (program.read_cell acc k place) (λ v. program.write_cell acc k (combined comb ty2 v w)) left s x rest after e in
      let found = read_found acc k place y.answer left y.between s y.store y.first in
      let into : program_store.Store → ℕ → program_store.Store = λ u v. program_store.hold u acc (cells (slice_set (program_store.cells_of (u.held acc)) k (Some v))) in
      let v : ℕ = two_word (operator_of comb) ty y.answer w in
      let ends : held_with v ≡ after = ap (into s) (same_combined comb ty y.answer w) ∙ ap (λ z. into s (combined comb z y.answer w)) (sym is_acc.is_type) ∙ ap (λ u. into u (combined comb ty2 y.answer w)) (sym found.1)
      ∙ same_store tt x y.between rest (into y.store (combined comb ty2 y.answer w)) after y.second in
      subst (λ u. Assigned 1 kept u) ends (by_first 1 kept (touched (places js) y.answer) v refl (first_reads kept y.answer found.0))
