-- A word is combined into an accumulator, by the register that tells whether it has begun.
use Rattle.std.proofs.Common.{◌≡◌, ℕ, true, false, ◌==◌, List, [], ◌∷◌, ◌++◌, Some, refl, sym, ◌∙◌, ap, subst}
use Rattle.std.specs.Prelude.{length, slice_set, Contains}
use Rattle.sp_words.specs.declared.kind.Kind.TheVariants.{Reg}
use Rattle.sp_words.specs.declared.types.Ty.{Ty}
use Rattle.sp_words.specs.Memory.{cells}
use Rattle.sp_tree.specs.declared.statement.Comb.{Comb}
use Rattle.sp_tree.specs.Accesses as program
use Rattle.sp_tree.specs.Expressions as expressions
use Rattle.sp_tree.specs.Operators.{combined}
use Rattle.sp_tree.specs.PlainProgram.{PlainProgram}
use Rattle.sp_tree.specs.Sequential.{assign}
use Rattle.sp_tree.specs.Step as step
use Rattle.sp_tree.specs.Store as program_store
use Rattle.sp_tree.specs.Typing.{IsMem}
use Rattle.sp_core.specs.declared.operation.OpKind.TheVariants as kind
use Rattle.sp_core.specs.History.{Entry, left_out, touched}
use Rattle.sp_core.specs.Operations.{done_by, operations_after}
use Rattle.sp_core.specs.PlainCore.{PlainOp, PlainCore}
use Rattle.sp_core.specs.Step as core_step
use Rattle.sp_core.specs.Store as store
use Rattle.sp_sugar.specs.Agreement.{HasMemories, View, IsAdded, Agree, GoOn}
use Rattle.sp_sugar.specs.Combination.{reduce_ops}
use Rattle.sp_sugar.specs.Numbers.{mem_number}
use Rattle.sp_sugar.proofs.StepLemmas.{same_store, taken_apart}
use Rattle.sp_same.proofs.Combining.{same_combined, reads, reduce_goes}
use Rattle.sp_same.proofs.Picks.{read_found}

module _ (p : PlainProgram) (core : PlainCore) (h : HasMemories p core) (view : View) (acc : ℕ) (ty : Ty) (is : IsMem p view.scope acc Reg ty) (comb : Comb) (ops : List PlainOp) (t : store.Store) (s : program_store.Store) (k w : ℕ) (g : GoOn p core view [] ops t s (k ∷ []) (w ∷ []))
    (place left rest : ℕ) (x : Unit {0}) (after : program_store.Store) (begun : ℕ) (added : IsAdded p core begun) where
  -- the accumulator holds the word, and the register 1
  pub record Reduces : Type 0 where
    pub entries : List Entry
    pub all : List Entry
    pub end : store.Store
    pub agree : Agree p core view all after end
    pub goes : operations_after core view.around [] (ops ++ reduce_ops (length ops) k (mem_number p.mems acc) begun ty comb) t ≡ core_step.went entries (store.hold end begun (cells (Some 1 ∷ [])))

  abbrev into : program_store.Store → ℕ → program_store.Store
  into u c = program_store.hold u acc (cells (slice_set (program_store.cells_of (u.held acc)) 0 (Some c)))

  -- the first word
  pub reduces_first : Contains view.registers (begun, Some 0) → assign p.mems comb acc 0 false w place left s ≡ step.went x rest after → Reduces
  unfolding step.read step.change step.◌>>=◌ core_step.pure
  reduces_first kept e =
      let f = reduce_goes p core h view acc ty is comb ops t s k w g begun added 0 kept left_out w refl
      (λ all u i a. ap (λ y. (elim (y == 0) as (λ _. core_step.Step Entry) [ true ↦ core_step.pure left_out | false ↦ done_by core view.around kind.Read ty (Some (mem_number p.mems acc)) [] ]) u) i) in
      record { entries = f.entries; all = f.all; end = f.end; agree = subst (λ v. Agree p core view f.all v f.end) (same_store tt x left rest (into s w) after e) f.agree; goes = f.goes }

  -- another one
  pub reduces_more : Contains view.registers (begun, Some 1) → assign p.mems comb acc 0 true w place left s ≡ step.went x rest after → Reduces
  unfolding step.read step.change step.◌>>=◌ core_step.pure
  reduces_more kept e =
      let ty2 : Ty = (expressions.mem p.mems acc).ty in
      let y = taken_apart (program.read_cell acc 0 place) (λ v. program.write_cell acc 0 (combined comb ty2 v w)) left s x rest after e in
      let found = read_found acc 0 place y.answer left y.between s y.store y.first in
      let f = reduce_goes p core h view acc ty is comb ops t s k w g begun added 1 kept (touched [] y.answer) (combined comb ty2 y.answer w)
      (same_combined comb ty y.answer w ∙ ap (λ z. combined comb z y.answer w) (sym is.is_type))
      (λ all u i a. ap (λ z. (elim (z == 0) as (λ _. core_step.Step Entry) [ true ↦ core_step.pure left_out | false ↦ done_by core view.around kind.Read ty (Some (mem_number p.mems acc)) [] ]) u) i
      ∙ reads p core h view acc ty is comb ops t s k w g all u y.answer a found.0) in
      let ends : into s (combined comb ty2 y.answer w) ≡ after = ap (λ u. into u (combined comb ty2 y.answer w)) (sym found.1) ∙ same_store tt x y.between rest (into y.store (combined comb ty2 y.answer w)) after y.second in
      record { entries = f.entries; all = f.all; end = f.end; agree = subst (λ v. Agree p core view f.all v f.end) ends f.agree; goes = f.goes }
