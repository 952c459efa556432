-- Words at places that an SRAM holds, moved alike by a program and by its core.
use Rattle.std.proofs.Common.{◌≡◌, ℕ, Bool, true, false, ◌&&◌, List, [], ◌∷◌, Some, None, refl, sym, ◌∙◌, ap, subst, arith, nat_lt}
use Rattle.std.specs.Prelude.{ℤ, pos, length, slice_index, slice_index_or, slice_set, Contains}
use Rattle.sp_words.specs.declared.kind.Kind.TheVariants.{Sram, Dram}
use Rattle.sp_words.specs.Interface.{word_count}
use Rattle.sp_words.specs.Memory.{Contents, cells, words}
use Rattle.sp_tree.specs.declared.statement.FaultKind.TheVariants.{Bounds, DramBounds}
use Rattle.sp_tree.specs.Accesses as program
use Rattle.sp_tree.specs.Elements as elements
use Rattle.sp_tree.specs.Elements.{index_value}
use Rattle.sp_tree.specs.Expressions as expressions
use Rattle.sp_tree.specs.Invariant.{ports_of}
use Rattle.sp_tree.specs.PlainProgram.{PlainProgram}
use Rattle.sp_tree.specs.Step as step
use Rattle.sp_tree.specs.Store as program_store
use Rattle.sp_tree.specs.Transfers as slice
use Rattle.sp_core.specs.Accesses.{read_in, write_in}
use Rattle.sp_core.specs.Declarations.{dims, dram_number as dram_place}
use Rattle.sp_core.specs.Elements as core_elements
use Rattle.sp_core.specs.PlainCore.{PlainCore}
use Rattle.sp_core.specs.Step as core_step
use Rattle.sp_core.specs.Store as store
use Rattle.sp_core.specs.Transfers as core_slice
use Rattle.sp_sugar.specs.Agreement.{HasMemories, View}
use Rattle.sp_sugar.specs.Numbers.{mem_number, dram_number}
use Rattle.sp_sugar.proofs.MemoryLemmas.{sram_word, word_found, passed}
use Rattle.sp_sugar.proofs.StepLemmas.{same_answer, same_store, taken_apart, then_on, turn_taken}
use Rattle.sp_sugar.proofs.TwinLemmas.{same_natural, same_place}
use Rattle.sp_same.proofs.MoveLemmas.{reads_in, writes_in, dram_word, dram_with, sram_with}
use Rattle.sp_same.proofs.Moves.{Moving, sram_kind, sram_dims, sram_held, dram_has, dram_held, moved_in, moved_out}
use Rattle.sp_same.proofs.Places.{dram_is}
use Rattle.sp_same.proofs.SliceTwins.{same_is_below}

-- of one dimension
and_true : (b : Bool) → (b && true) ≡ b
and_true true = refl
and_true false = refl

inside_row : (ds : List ℕ) → length ds ≡ 1 → (z : ℤ) → core_elements.are_inside ds (z ∷ []) ≡ elements.is_below z (word_count ds)
inside_row [] e z = absurd (omega (arith, e))
inside_row (d ∷ []) e z = and_true (core_elements.is_below z d) ∙ same_is_below z d ∙ ap (elements.is_below z) {x = d} {y = word_count (d ∷ [])} (omega arith)
inside_row (d ∷ c ∷ ds) e z = absurd (omega (arith, e))

in_row : (ds : List ℕ) → length ds ≡ 1 → (k : ℕ) → elements.row_major ds (k ∷ []) ≡ k
in_row [] e k = absurd (omega (arith, e))
in_row (d ∷ []) e k = omega arith
in_row (d ∷ c ∷ ds) e k = absurd (omega (arith, e))

pub read_found : (m at place w left rest : ℕ) (s after : program_store.Store) → program.read_cell m at place left s ≡ step.went w rest after → (slice_index_or (program_store.cells_of (s.held m)) at None ≡ Some w) × (after ≡ s)
unfolding step.read step.◌>>=◌
read_found m at place w left rest s after e = let f = word_found place (slice_index_or (program_store.cells_of (s.held m)) at None) w left rest s after e in (f.0, f.2)

-- a place that an SRAM holds was found
record Found (places held dram_words k at left rest : ℕ) (s after : program_store.Store) : Type 0 where
  pub word : ℕ
  pub in_places : nat_lt k held ≡ true
  pub is_there : slice_index_or (program_store.cells_of (s.held places)) k None ≡ Some word
  pub in_dram : elements.is_below (index_value word) dram_words ≡ true
  pub at_word : at ≡ elements.natural (index_value word)
  pub same : after ≡ s

place_found : (places held dram_words k place at left rest : ℕ) (s after : program_store.Store) → slice.place_held places held dram_words k place left s ≡ step.went at rest after → Found places held dram_words k at left rest s after
unfolding step.pure
place_found places held dram_words k place at left rest s after e =
    let one = passed (nat_lt k held) Bounds place (step.◌>>=◌ (program.read_cell places k place) (λ w. step.◌>>◌ (step.ensure (elements.is_below (index_value w) dram_words) DramBounds place) (step.pure (elements.natural (index_value w))))) at left rest s after e in
    let b = taken_apart (program.read_cell places k place) (λ w. step.◌>>◌ (step.ensure (elements.is_below (index_value w) dram_words) DramBounds place) (step.pure (elements.natural (index_value w)))) left s at rest after one.1 in
    let found = read_found places k place b.answer left b.between s b.store b.first in
    let two = passed (elements.is_below (index_value b.answer) dram_words) DramBounds place (step.pure (elements.natural (index_value b.answer))) at b.between rest b.store after b.second in
    record {
      word = b.answer;
      in_places = one.0;
      is_there = found.0;
      in_dram = two.0;
      at_word = sym (same_answer (elements.natural (index_value b.answer)) at b.between rest b.store after two.1);
      same = sym (same_store (elements.natural (index_value b.answer)) at b.between rest b.store after two.1) ∙ found.1;
    }

module _ (p : PlainProgram) (core : PlainCore) (h : HasMemories p core) (ports : p.ports ≡ ports_of p.mems) (view : View)
    (m r pl : ℕ) (seen : Contains view.scope.mems m) (is : (expressions.mem p.mems m).kind ≡ Sram) (seen_dram : Contains view.scope.mems r) (on : (expressions.mem p.mems r).kind ≡ Dram)
    (seen_places : Contains view.scope.mems pl) (is_places : (expressions.mem p.mems pl).kind ≡ Sram)
    (row : length (expressions.dims p.mems m) ≡ 1) (dram_row : length (expressions.dims p.mems r) ≡ 1) (places_row : length (expressions.dims p.mems pl) ≡ 1) (place : ℕ) where
  abbrev n : ℕ
  n = mem_number p.mems m

  abbrev np : ℕ
  np = mem_number p.mems pl

  abbrev q : ℕ
  q = dram_number p.mems r

  abbrev d : ℕ
  d = dram_place core q

  abbrev held : ℕ
  held = word_count (expressions.dims p.mems pl)

  abbrev size : ℕ
  size = word_count (expressions.dims p.mems m)

  abbrev dram_size : ℕ
  dram_size = word_count (expressions.dims p.mems r)

  module _ (s : program_store.Store) (t : store.Store) (g : Moving p core h ports view s t) (k : ℕ) where
    has_place : nat_lt k size ≡ true → core_slice.has_place core n k t ≡ core_step.went tt t
    unfolding core_step.pure
    has_place e = ap (λ b. core_step.ensure b t) (ap (λ l. core_elements.are_inside l (pos k ∷ [])) (sram_dims p core h ports view m r seen is seen_dram on s t g) ∙ inside_row (expressions.dims p.mems m) row (pos k) ∙ e)

    place_there : (at left rest : ℕ) (after : program_store.Store) → (f : Found pl held dram_size k at left rest s after) → core_slice.place_at core q np k t ≡ core_step.went f.word t
    unfolding core_step.pure
    place_there at left rest after f =
        then_on (core_slice.has_place core np k) (λ _. core_step.◌>>=◌ (read_in core np (k ∷ [])) (λ i. core_step.◌>>◌ (core_step.ensure (core_elements.are_inside (dims core d) (index_value i ∷ []))) (core_step.pure i))) t tt t
        (ap (λ b. core_step.ensure b t) (ap (λ l. core_elements.are_inside l (pos k ∷ [])) (sram_dims p core h ports view pl r seen_places is_places seen_dram on s t g) ∙ inside_row (expressions.dims p.mems pl) places_row (pos k) ∙ f.in_places))
        ∙ then_on (read_in core np (k ∷ [])) (λ i. core_step.◌>>◌ (core_step.ensure (core_elements.are_inside (dims core d) (index_value i ∷ []))) (core_step.pure i)) t f.word t
        (reads_in core np (k ∷ []) t f.word
        (sram_word core np (k ∷ []) (expressions.dims p.mems pl) (t np) (s.held pl) (sram_kind p core h ports view pl r seen_places is_places seen_dram on s t g) (sram_dims p core h ports view pl r seen_places is_places seen_dram on s t g) (sram_held p core h ports view pl r seen_places is_places seen_dram on s t g)
        ∙ ap (λ x. slice_index_or (program_store.cells_of (s.held pl)) x None) (same_place (expressions.dims p.mems pl) (k ∷ []) ∙ in_row (expressions.dims p.mems pl) places_row k) ∙ f.is_there))
        ∙ then_on (core_step.ensure (core_elements.are_inside (dims core d) (index_value f.word ∷ []))) (λ _. core_step.pure f.word) t tt t
        (ap (λ b. core_step.ensure b t) (ap (λ l. core_elements.are_inside l (index_value f.word ∷ [])) (dram_has p core h ports view m r seen is seen_dram on s t g) ∙ inside_row (expressions.dims p.mems r) dram_row (index_value f.word) ∙ f.in_dram))

    -- the place of a word in the DRAM, in both
    there : (w at : ℕ) → at ≡ elements.natural (index_value w) → elements.row_major (expressions.dims p.mems r) (elements.natural (index_value w) ∷ []) ≡ at
    there w at e = in_row (expressions.dims p.mems r) dram_row (elements.natural (index_value w)) ∙ sym e

    one_place : (w : ℕ) → core_elements.natural (index_value w) ∷ [] ≡ elements.natural (index_value w) ∷ []
    one_place w = ap (λ x. x ∷ []) (same_natural (index_value w))

  abbrev Picked : (k : ℕ) → core_step.Step (ℕ × ℕ) → store.Store → program_store.Store → Type 0
  Picked k move t after = (x : ℕ × ℕ) × (u : store.Store) × (move t ≡ core_step.went x u) × Moving p core h ports view after u

  abbrev pub gather_one : ℕ → step.Step (Unit {0})
  gather_one k = step.◌>>=◌ (slice.place_held pl held dram_size k place) (λ at. step.◌>>◌ (step.ensure (nat_lt k size) Bounds place) (step.◌>>=◌ (program.read_word r at) (λ w. step.◌>>◌ step.turn (program.write_cell m k w))))

  pub gather_step : (k left rest : ℕ) (s after : program_store.Store) (t : store.Store) (a : Unit {0}) → Moving p core h ports view s t → gather_one k left s ≡ step.went a rest after → Picked k (core_slice.gather_word core q n np k) t after
  unfolding step.read step.change step.◌>>=◌ core_step.pure
  gather_step k left rest s after t a g e =
      let b = taken_apart (slice.place_held pl held dram_size k place) (λ at. step.◌>>◌ (step.ensure (nat_lt k size) Bounds place) (step.◌>>=◌ (program.read_word r at) (λ w. step.◌>>◌ step.turn (program.write_cell m k w)))) left s a rest after e in
      let f = place_found pl held dram_size k place b.answer left b.between s b.store b.first in
      let test = passed (nat_lt k size) Bounds place (step.◌>>=◌ (program.read_word r b.answer) (λ w. step.◌>>◌ step.turn (program.write_cell m k w))) a b.between rest b.store after b.second in
      let c = taken_apart (program.read_word r b.answer) (λ w. step.◌>>◌ step.turn (program.write_cell m k w)) b.between b.store a rest after test.1 in
      let v = taken_apart step.turn (λ _. program.write_cell m k c.answer) c.between c.store a rest after c.second in
      let word_in : program_store.Store → ℕ = λ v. slice_index (program_store.words_of (v.held r)) b.answer in
      let w : ℕ = word_in s in
      let into : program_store.Store → ℕ → Contents = λ v x. cells (slice_set (program_store.cells_of (v.held m)) k (Some x)) in
      let same : v.store ≡ s = turn_taken v.answer c.between v.between c.store v.store v.first ∙ sym (same_store (word_in b.store) c.answer b.between c.between b.store c.store c.first) ∙ f.same in
      let word_same : c.answer ≡ w = sym (same_answer (word_in b.store) c.answer b.between c.between b.store c.store c.first) ∙ ap word_in f.same in
      let ends : after ≡ program_store.hold s m (into s w) =
      sym (same_store tt a v.between rest (program_store.hold v.store m (into v.store c.answer)) after v.second)
      ∙ ap (λ v. program_store.hold v m (into v c.answer)) same ∙ ap (λ x. program_store.hold s m (into s x)) word_same in (
        (f.word, w),
        store.hold t n (into s w),
        then_on (core_slice.place_at core q np k) (λ i. core_step.◌>>=◌ (read_in core d (core_elements.natural (index_value i) ∷ [])) (λ w. core_step.◌>>◌ (core_slice.has_place core n k) (core_step.◌>>◌ (write_in core n (k ∷ []) w) (core_step.pure (i, w))))) t f.word t (place_there s t g k b.answer left b.between b.store f)
            ∙ then_on (read_in core d (core_elements.natural (index_value f.word) ∷ [])) (λ w. core_step.◌>>◌ (core_slice.has_place core n k) (core_step.◌>>◌ (write_in core n (k ∷ []) w) (core_step.pure (f.word, w)))) t w t
            (reads_in core d (core_elements.natural (index_value f.word) ∷ []) t w
            (dram_word core d (expressions.dims p.mems r) (dram_has p core h ports view m r seen is seen_dram on s t g) (t d) (s.held r) (dram_held p core h ports view m r seen is seen_dram on s t g) (dram_is p core h q) (core_elements.natural (index_value f.word) ∷ []) (elements.natural (index_value f.word) ∷ []) (one_place s t g k f.word)
            ∙ ap (λ x. Some (slice_index (program_store.words_of (s.held r)) x)) (there s t g k f.word b.answer f.at_word)))
            ∙ then_on (core_slice.has_place core n k) (λ _. core_step.◌>>◌ (write_in core n (k ∷ []) w) (core_step.pure (f.word, w))) t tt t (has_place s t g k test.0)
            ∙ then_on (write_in core n (k ∷ []) w) (λ _. core_step.pure (f.word, w)) t tt (store.hold t n (into s w))
            (writes_in core n (k ∷ []) t w (into s w)
            (sram_with core n (expressions.dims p.mems m) (sram_dims p core h ports view m r seen is seen_dram on s t g) (t n) (s.held m) (sram_held p core h ports view m r seen is seen_dram on s t g) (sram_kind p core h ports view m r seen is seen_dram on s t g) (k ∷ []) w
            ∙ ap (λ x. cells (slice_set (program_store.cells_of (s.held m)) x (Some w))) (in_row (expressions.dims p.mems m) row k))),
        subst (λ v. Moving p core h ports view v (store.hold t n (into s w))) (sym ends) (moved_in p core h ports view m r seen is seen_dram on s t g (into s w)),
      )

  abbrev pub scatter_one : ℕ → step.Step (Unit {0})
  scatter_one k = step.◌>>=◌ (slice.place_held pl held dram_size k place) (λ at. step.◌>>◌ (step.ensure (nat_lt k size) Bounds place) (step.◌>>=◌ (program.read_cell m k place) (λ w. step.◌>>◌ step.turn (program.write_word r at w))))

  pub scatter_step : (k left rest : ℕ) (s after : program_store.Store) (t : store.Store) (a : Unit {0}) → Moving p core h ports view s t → scatter_one k left s ≡ step.went a rest after → Picked k (core_slice.scatter_word core q n np k) t after
  unfolding step.read step.change step.◌>>=◌ core_step.pure
  scatter_step k left rest s after t a g e =
      let b = taken_apart (slice.place_held pl held dram_size k place) (λ at. step.◌>>◌ (step.ensure (nat_lt k size) Bounds place) (step.◌>>=◌ (program.read_cell m k place) (λ w. step.◌>>◌ step.turn (program.write_word r at w)))) left s a rest after e in
      let f = place_found pl held dram_size k place b.answer left b.between s b.store b.first in
      let test = passed (nat_lt k size) Bounds place (step.◌>>=◌ (program.read_cell m k place) (λ w. step.◌>>◌ step.turn (program.write_word r b.answer w))) a b.between rest b.store after b.second in
      let c = taken_apart (program.read_cell m k place) (λ w. step.◌>>◌ step.turn (program.write_word r b.answer w)) b.between b.store a rest after test.1 in
      let v = taken_apart step.turn (λ _. program.write_word r b.answer c.answer) c.between c.store a rest after c.second in
      let found = read_found m k place c.answer b.between c.between b.store c.store c.first in
      let w : ℕ = c.answer in
      let into : program_store.Store → Contents = λ v. words (slice_set (program_store.words_of (v.held r)) b.answer w) in
      let same : v.store ≡ s = turn_taken v.answer c.between v.between c.store v.store v.first ∙ found.1 ∙ f.same in
      let ends : after ≡ program_store.hold s r (into s) =
      sym (same_store tt a v.between rest (program_store.hold v.store r (into v.store)) after v.second) ∙ ap (λ v. program_store.hold v r (into v)) same in (
        (f.word, w),
        store.hold t d (into s),
        then_on (core_slice.place_at core q np k) (λ i. core_step.◌>>◌ (core_slice.has_place core n k) (core_step.◌>>=◌ (read_in core n (k ∷ [])) (λ w. core_step.◌>>◌ (write_in core d (core_elements.natural (index_value i) ∷ []) w) (core_step.pure (i, w))))) t f.word t (place_there s t g k b.answer left b.between b.store f)
            ∙ then_on (core_slice.has_place core n k) (λ _. core_step.◌>>=◌ (read_in core n (k ∷ [])) (λ w. core_step.◌>>◌ (write_in core d (core_elements.natural (index_value f.word) ∷ []) w) (core_step.pure (f.word, w)))) t tt t (has_place s t g k test.0)
            ∙ then_on (read_in core n (k ∷ [])) (λ w. core_step.◌>>◌ (write_in core d (core_elements.natural (index_value f.word) ∷ []) w) (core_step.pure (f.word, w))) t w t
            (reads_in core n (k ∷ []) t w
            (sram_word core n (k ∷ []) (expressions.dims p.mems m) (t n) (s.held m) (sram_kind p core h ports view m r seen is seen_dram on s t g) (sram_dims p core h ports view m r seen is seen_dram on s t g) (sram_held p core h ports view m r seen is seen_dram on s t g)
            ∙ ap (λ x. slice_index_or (program_store.cells_of (s.held m)) x None) (same_place (expressions.dims p.mems m) (k ∷ []) ∙ in_row (expressions.dims p.mems m) row k)
            ∙ ap (λ v. slice_index_or (program_store.cells_of (v.held m)) k None) (sym f.same) ∙ found.0))
            ∙ then_on (write_in core d (core_elements.natural (index_value f.word) ∷ []) w) (λ _. core_step.pure (f.word, w)) t tt (store.hold t d (into s))
            (writes_in core d (core_elements.natural (index_value f.word) ∷ []) t w (into s)
            (dram_with core d (expressions.dims p.mems r) (dram_has p core h ports view m r seen is seen_dram on s t g) (t d) (s.held r) (dram_held p core h ports view m r seen is seen_dram on s t g) (dram_is p core h q) (core_elements.natural (index_value f.word) ∷ []) (elements.natural (index_value f.word) ∷ []) w (one_place s t g k f.word)
            ∙ ap (λ x. words (slice_set (program_store.words_of (s.held r)) x w)) (there s t g k f.word b.answer f.at_word))),
        subst (λ v. Moving p core h ports view v (store.hold t d (into s))) (sym ends) (moved_out p core h ports view m r seen is seen_dram on s t g (into s)),
      )
