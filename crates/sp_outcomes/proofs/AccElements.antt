-- An element of an accumulator is read and written alike in a program and its core.
use Rattle.std.proofs.Common.{◌≡◌, ℕ, ◌<◌, true, not, List, [], ◌∷◌, ◌++◌, Some, None, refl, ◌∙◌, ap}
use Rattle.std.specs.Prelude.{length, map, slice_index_or, slice_set, All}
use Rattle.sp_words.specs.declared.kind.Kind.TheVariants.{Sram}
use Rattle.sp_words.specs.declared.types.Ty.{Ty}
use Rattle.sp_words.specs.Interface.{IsCount}
use Rattle.sp_words.specs.Memory.{Contents, cells}
use Rattle.sp_tree.specs.Elements as elements
use Rattle.sp_tree.specs.Expressions as expressions
use Rattle.sp_tree.specs.Meaning.{is_dram}
use Rattle.sp_tree.specs.PlainProgram.{PlainProgram}
use Rattle.sp_tree.specs.Store as program_store
use Rattle.sp_tree.specs.Typing.{IsMem}
use Rattle.sp_core.specs.declared.operation.OpKind.TheVariants as kind
use Rattle.sp_core.specs.Accesses.{with_word}
use Rattle.sp_core.specs.Declarations.{dims}
use Rattle.sp_core.specs.Elements.{index_value, natural, are_inside, row_major}
use Rattle.sp_core.specs.History.{Entry, touched}
use Rattle.sp_core.specs.Operations.{done_by}
use Rattle.sp_core.specs.PlainCore.{PlainCore}
use Rattle.sp_core.specs.Step.{went}
use Rattle.sp_core.specs.Store as store
use Rattle.sp_sugar.specs.Agreement.{HasMemories, View, Agree}
use Rattle.sp_sugar.specs.Numbers.{is_off_dram, mem_number}
use Rattle.sp_sugar.proofs.MemoryLemmas.{chip_kind, chip_dims, chip_holds, agree_held, core_reads, core_writes, sram_word}
use Rattle.sp_sugar.proofs.TwinLemmas.{same_cells, same_inside, same_place}
use Rattle.sp_outcomes.proofs.ElementLoops.{first_count, other_counts}
use Rattle.sp_outcomes.proofs.ElementOrder.{AreBelow}
use Rattle.sp_outcomes.proofs.ElementWords.{index_is, are_in}

abbrev pub places : List ℕ → List ℕ
places js = map (λ i. natural (index_value i)) js

themselves : (ds js : List ℕ) → AreBelow ds js → All IsCount ds → places js ≡ js
themselves [] [] b h = refl
themselves [] (j ∷ js) b h = absurd b
themselves (d ∷ ds) [] b h = absurd b
themselves (d ∷ ds) (j ∷ js) b h = ap (λ z. natural z ∷ places js) (index_is j d b.0 (first_count d ds h)) ∙ ap (λ l. j ∷ l) (themselves ds js b.1 (other_counts d ds h))

module _ (p : PlainProgram) (core : PlainCore) (h : HasMemories p core) (view : View) (acc : ℕ) (ty : Ty) (is : IsMem p view.scope acc Sram ty) (ds : List ℕ) (same_dims : expressions.dims p.mems acc ≡ ds)
    (js : List ℕ) (below : AreBelow ds js) (counts : All IsCount ds) (all : List Entry) (s : program_store.Store) (u : store.Store) (a : Agree p core view all s u) where
  off : is_off_dram (expressions.mem p.mems acc) ≡ true
  off = ap (λ x. not (is_dram x)) is.is_kind

  abbrev pub n : ℕ
  n = mem_number p.mems acc

  lt : acc < length p.mems
  lt = (a.mems acc is.seen).0

  dims_are : dims core n ≡ ds
  dims_are = chip_dims p core h acc lt off ∙ same_dims

  inside : are_inside (dims core n) (map index_value js) ≡ true
  inside = ap (λ x. are_inside x (map index_value js)) dims_are ∙ same_inside ds (map index_value js) ∙ are_in ds js below counts

  at_element : row_major ds (places js) ≡ elements.row_major ds js
  at_element = ap (row_major ds) (themselves ds js below counts) ∙ same_place ds js

  abbrev pub contents : ℕ → Contents
  contents v = cells (slice_set (program_store.cells_of (s.held acc)) (elements.row_major ds js) (Some v))

  pub element_reads : (x : ℕ) → slice_index_or (program_store.cells_of (s.held acc)) (elements.row_major ds js) None ≡ Some x → done_by core view.around kind.Read ty (Some n) js u ≡ went (touched (places js) x) u
  element_reads x found =
      core_reads core n js u x inside
      (sram_word core n (places js) ds (u n) (s.held acc) (chip_kind p core h acc lt off ∙ is.is_kind) dims_are (chip_holds p core h acc lt off view all s u a is.seen)
      ∙ ap (λ i. slice_index_or (program_store.cells_of (s.held acc)) i None) at_element ∙ found)

  pub element_writes : (v : ℕ) → (done_by core view.around kind.Write ty (Some n) (js ++ v ∷ []) u ≡ went (touched (places js) v) (store.hold u n (contents v))) × Agree p core view all (program_store.hold s acc (contents v)) (store.hold u n (contents v))
  element_writes v = (
    core_writes core view.around ty n js v u (contents v) inside
        (ap (λ y. with_word y (dims core n) (places js) v (u n)) (chip_kind p core h acc lt off ∙ is.is_kind)
        ∙ ap (λ y. with_word Sram y (places js) v (u n)) dims_are
        ∙ ap (λ y. cells (slice_set y (row_major ds (places js)) (Some v))) (ap store.cells_of (chip_holds p core h acc lt off view all s u a is.seen) ∙ same_cells (s.held acc))
        ∙ ap (λ i. cells (slice_set (program_store.cells_of (s.held acc)) i (Some v))) at_element),
    agree_held p core h acc lt off view all s u a is.seen (contents v),
  )
