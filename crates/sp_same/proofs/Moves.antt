-- A slice of a DRAM is moved word by word, alike by a program and by its core.
use Rattle.std.proofs.Common.{◌≡◌, ℕ, true, not, List, [], Some, None, sym, ◌∙◌, ap, subst}
use Rattle.std.specs.Prelude.{length, map, slice_index, slice_index_or, slice_set, Contains}
use Rattle.sp_words.specs.declared.kind.Kind.TheVariants.{Sram, Dram}
use Rattle.sp_words.specs.Memory.{Contents, cells, words}
use Rattle.sp_tree.specs.Accesses as program
use Rattle.sp_tree.specs.Elements as elements
use Rattle.sp_tree.specs.Expressions as expressions
use Rattle.sp_tree.specs.Invariant.{ports_of}
use Rattle.sp_tree.specs.Meaning.{is_dram}
use Rattle.sp_tree.specs.PlainProgram.{PlainProgram}
use Rattle.sp_tree.specs.Step as step
use Rattle.sp_tree.specs.Store as program_store
use Rattle.sp_tree.specs.Transfers as slice
use Rattle.sp_core.specs.Accesses.{read_in, write_in}
use Rattle.sp_core.specs.Declarations.{kind_of, dims, dram_number as dram_place}
use Rattle.sp_core.specs.PlainCore.{PlainCore}
use Rattle.sp_core.specs.Step as core_step
use Rattle.sp_core.specs.Store as store
use Rattle.sp_core.specs.Transfers as core_slice
use Rattle.sp_sugar.specs.Agreement.{HasMemories, View, place_of, Agree}
use Rattle.sp_sugar.specs.Numbers.{is_off_dram, mem_number, dram_number}
use Rattle.sp_sugar.proofs.MemoryLemmas.{chip_kind, chip_dims, chip_holds, chip_place, sram_word, word_found}
use Rattle.sp_sugar.proofs.StepLemmas.{same_answer, same_store, taken_apart, then_on, turn_taken}
use Rattle.sp_sugar.proofs.TwinLemmas.{same_place}
use Rattle.sp_same.proofs.MoveLemmas.{each_follows, reads_in, writes_in, dram_word, dram_with, sram_with}
use Rattle.sp_same.proofs.Places.{place_of_dram, dram_is, dram_dims, agree_at}
use Rattle.sp_same.proofs.SliceTwins.{as_core, same_places_of, same_offsets}

module _ (p : PlainProgram) (core : PlainCore) (h : HasMemories p core) (ports : p.ports ≡ ports_of p.mems) (view : View) where
  abbrev pub Moving : program_store.Store → store.Store → Type 0
  Moving s t = Agree p core view [] s t

  -- a visible SRAM and a visible DRAM
  module _ (m r : ℕ) (seen : Contains view.scope.mems m) (is : (expressions.mem p.mems m).kind ≡ Sram) (seen_dram : Contains view.scope.mems r) (on : (expressions.mem p.mems r).kind ≡ Dram) where
    abbrev off : is_off_dram (expressions.mem p.mems m) ≡ true
    off = ap (λ k. not (is_dram k)) is

    abbrev n : ℕ
    n = mem_number p.mems m

    abbrev d : ℕ
    d = dram_place core (dram_number p.mems r)

    module _ (s : program_store.Store) (t : store.Store) (g : Moving s t) where
      pub sram_kind : kind_of core n ≡ Sram
      sram_kind = chip_kind p core h m (g.mems m seen).0 off ∙ is

      pub sram_dims : dims core n ≡ expressions.dims p.mems m
      sram_dims = chip_dims p core h m (g.mems m seen).0 off

      pub sram_held : t n ≡ s.held m
      sram_held = chip_holds p core h m (g.mems m seen).0 off view [] s t g seen

      at_dram : place_of p core r ≡ d
      at_dram = place_of_dram p core h r (ap is_dram on)

      pub dram_has : dims core d ≡ expressions.dims p.mems r
      dram_has = dram_dims p core h ports r (g.mems r seen_dram).0 (ap is_dram on)

      pub dram_held : t d ≡ s.held r
      dram_held = ap t (sym at_dram) ∙ (g.mems r seen_dram).1

      pub moved_in : (c : Contents) → Moving (program_store.hold s m c) (store.hold t n c)
      moved_in c = agree_at p core h view [] s t m n c g seen (chip_place p core h m (g.mems m seen).0 off)

      pub moved_out : (c : Contents) → Moving (program_store.hold s r c) (store.hold t d c)
      moved_out c = agree_at p core h view [] s t r d c g seen_dram at_dram

    module _ (parts : List slice.Part) where
      abbrev load_one : List ℕ → step.Step (Unit {0})
      load_one offsets = step.◌>>=◌ (program.read_word r (elements.row_major (expressions.dims p.mems r) (slice.places_of parts offsets))) (λ w. step.◌>>◌ step.turn (program.write_cell m (elements.row_major (expressions.dims p.mems m) offsets) w))

      abbrev core_load_one : List ℕ → core_step.Step ℕ
      core_load_one offsets = core_step.◌>>=◌ (read_in core d (core_slice.places_of (map as_core parts) offsets)) (λ w. core_step.◌>>◌ (write_in core n (core_slice.loaded_at core (kind_of core n) n offsets) w) (core_step.pure w))

      load_step : (offsets : List ℕ) (left rest : ℕ) (s after : program_store.Store) (t : store.Store) (a : Unit {0}) → Moving s t → load_one offsets left s ≡ step.went a rest after
          → (w : ℕ) × (u : store.Store) × (core_load_one offsets t ≡ core_step.went w u) × Moving after u
      unfolding step.read step.change step.◌>>=◌ core_step.pure
      load_step offsets left rest s after t a g e =
          let from : ℕ = elements.row_major (expressions.dims p.mems r) (slice.places_of parts offsets) in
          let to : ℕ = elements.row_major (expressions.dims p.mems m) offsets in
          let w : ℕ = slice_index (program_store.words_of (s.held r)) from in
          let b = taken_apart (program.read_word r from) (λ w. step.◌>>◌ step.turn (program.write_cell m to w)) left s a rest after e in
          let k = taken_apart step.turn (λ _. program.write_cell m to b.answer) b.between b.store a rest after b.second in
          let into : program_store.Store → ℕ → Contents = λ v x. cells (slice_set (program_store.cells_of (v.held m)) to (Some x)) in
          let c : Contents = into s w in
          let same : k.store ≡ s = turn_taken k.answer b.between k.between b.store k.store k.first ∙ sym (same_store w b.answer left b.between s b.store b.first) in
          let ends : after ≡ program_store.hold s m c =
          sym (same_store tt a k.between rest (program_store.hold k.store m (into k.store b.answer)) after k.second)
          ∙ ap (λ v. program_store.hold v m (into v b.answer)) same ∙ ap (λ x. program_store.hold s m (into s x)) (sym (same_answer w b.answer left b.between s b.store b.first)) in (
            w,
            store.hold t n c,
            then_on (read_in core d (core_slice.places_of (map as_core parts) offsets)) (λ w. core_step.◌>>◌ (write_in core n (core_slice.loaded_at core (kind_of core n) n offsets) w) (core_step.pure w)) t w t
                (reads_in core d (core_slice.places_of (map as_core parts) offsets) t w (dram_word core d (expressions.dims p.mems r) (dram_has s t g) (t d) (s.held r) (dram_held s t g) (dram_is p core h (dram_number p.mems r)) (core_slice.places_of (map as_core parts) offsets) (slice.places_of parts offsets) (same_places_of parts offsets)))
                ∙ then_on (write_in core n (core_slice.loaded_at core (kind_of core n) n offsets) w) (λ _. core_step.pure w) t tt (store.hold t n c)
                (ap (λ x. write_in core n (core_slice.loaded_at core x n offsets) w t) (sram_kind s t g)
                ∙ writes_in core n offsets t w c (sram_with core n (expressions.dims p.mems m) (sram_dims s t g) (t n) (s.held m) (sram_held s t g) (sram_kind s t g) offsets w)),
            subst (λ v. Moving v (store.hold t n c)) (sym ends) (moved_in s t g c),
          )

      abbrev store_one : (place : ℕ) → List ℕ → step.Step (Unit {0})
      store_one place offsets = step.◌>>=◌ (program.read_cell m (elements.row_major (expressions.dims p.mems m) offsets) place) (λ w. step.◌>>◌ step.turn (program.write_word r (elements.row_major (expressions.dims p.mems r) (slice.places_of parts offsets)) w))

      abbrev core_store_one : List ℕ → core_step.Step ℕ
      core_store_one offsets = core_step.◌>>=◌ (read_in core n offsets) (λ w. core_step.◌>>◌ (write_in core d (core_slice.places_of (map as_core parts) offsets) w) (core_step.pure w))

      store_step : (place : ℕ) (offsets : List ℕ) (left rest : ℕ) (s after : program_store.Store) (t : store.Store) (a : Unit {0}) → Moving s t → store_one place offsets left s ≡ step.went a rest after
          → (w : ℕ) × (u : store.Store) × (core_store_one offsets t ≡ core_step.went w u) × Moving after u
      unfolding step.read step.change step.◌>>=◌ core_step.pure
      store_step place offsets left rest s after t a g e =
          let from : ℕ = elements.row_major (expressions.dims p.mems m) offsets in
          let to : ℕ = elements.row_major (expressions.dims p.mems r) (slice.places_of parts offsets) in
          let b = taken_apart (program.read_cell m from place) (λ w. step.◌>>◌ step.turn (program.write_word r to w)) left s a rest after e in
          let w : ℕ = b.answer in
          let k = taken_apart step.turn (λ _. program.write_word r to b.answer) b.between b.store a rest after b.second in
          let found = word_found place (slice_index_or (program_store.cells_of (s.held m)) from None) w left b.between s b.store b.first in
          let into : program_store.Store → Contents = λ v. words (slice_set (program_store.words_of (v.held r)) to w) in
          let c : Contents = into s in
          let same : k.store ≡ s = turn_taken k.answer b.between k.between b.store k.store k.first ∙ found.2 in
          let ends : after ≡ program_store.hold s r c =
          sym (same_store tt a k.between rest (program_store.hold k.store r (into k.store)) after k.second) ∙ ap (λ v. program_store.hold v r (into v)) same in (
            w,
            store.hold t d c,
            then_on (read_in core n offsets) (λ w. core_step.◌>>◌ (write_in core d (core_slice.places_of (map as_core parts) offsets) w) (core_step.pure w)) t w t
                (reads_in core n offsets t w (sram_word core n offsets (expressions.dims p.mems m) (t n) (s.held m) (sram_kind s t g) (sram_dims s t g) (sram_held s t g)
                ∙ ap (λ x. slice_index_or (program_store.cells_of (s.held m)) x None) (same_place (expressions.dims p.mems m) offsets) ∙ found.0))
                ∙ then_on (write_in core d (core_slice.places_of (map as_core parts) offsets) w) (λ _. core_step.pure w) t tt (store.hold t d c)
                (writes_in core d (core_slice.places_of (map as_core parts) offsets) t w c (dram_with core d (expressions.dims p.mems r) (dram_has s t g) (t d) (s.held r) (dram_held s t g) (dram_is p core h (dram_number p.mems r)) (core_slice.places_of (map as_core parts) offsets) (slice.places_of parts offsets) w (same_places_of parts offsets))),
            subst (λ v. Moving v (store.hold t d c)) (sym ends) (moved_out s t g c),
          )

      -- all of them
      abbrev Moved : core_step.Step (List ℕ) → store.Store → program_store.Store → Type 0
      Moved move t after = (ws : List ℕ) × (u : store.Store) × (move t ≡ core_step.went ws u) × Moving after u × (length ws ≡ length (slice.all_offsets parts))

      pub loads : (left rest : ℕ) (s after : program_store.Store) (t : store.Store) (al : List (Unit {0})) → Moving s t
          → slice.load_words m (expressions.dims p.mems m) r (expressions.dims p.mems r) parts left s ≡ step.went al rest after → Moved (core_slice.load_words core (dram_number p.mems r) n (map as_core parts)) t after
      unfolding core_step.pure
      loads left rest s after t al g e =
          let all = each_follows load_one core_load_one Moving load_step (slice.all_offsets parts) left rest s after t al g e in (
            all.0,
            all.1,
            then_on (core_slice.make_room core (kind_of core n) n) (λ _. core_step.in_order core_load_one (core_slice.all_offsets (map as_core parts))) t tt t (ap (λ k. core_slice.make_room core k n t) (sram_kind s t g))
                ∙ ap (λ l. core_step.in_order core_load_one l t) (same_offsets parts) ∙ all.2,
            all.3,
            all.4,
          )

      pub stores : (place left rest : ℕ) (s after : program_store.Store) (t : store.Store) (al : List (Unit {0})) → Moving s t
          → slice.store_words place m (expressions.dims p.mems m) r (expressions.dims p.mems r) parts left s ≡ step.went al rest after → Moved (core_slice.store_words core (dram_number p.mems r) n (map as_core parts)) t after
      stores place left rest s after t al g e =
          let all = each_follows (store_one place) core_store_one Moving (store_step place) (slice.all_offsets parts) left rest s after t al g e in (
            all.0,
            all.1,
            ap (λ l. core_step.in_order core_store_one l t) (same_offsets parts) ∙ all.2,
            all.3,
            all.4,
          )
