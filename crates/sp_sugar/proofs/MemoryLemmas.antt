-- The memories of a program in its core: where they stand, what is read from them, and what a change leaves.
use Rattle.std.proofs.Common.{◌≡◌, ℕ, ◌<◌, Bool, true, false, not, List, [], ◌∷◌, Option, Some, None, refl, sym, ◌∙◌, ap, subst, arith, length-append, zero, suc, ◌+◌, ◌++◌, nat_lt, ◌-◌, ◌==◌, if◌then◌else◌}
use Rattle.std.proofs.lemmas.Bool.{lt-ltb, eq-eqb, ne_eqb, eqb-true, eqb-false, not-true}
use Rattle.std.proofs.lemmas.List.{take_at, get_or-append-add}
use Rattle.std.specs.Prelude.{take, length, map, drop, slice_index, slice_index_or, Contains}
use Rattle.sp_words.specs.declared.kind.Kind.{Kind}
use Rattle.sp_words.specs.declared.kind.Kind.TheVariants.{Reg, Sram, LineBuf, Dram, ArgIn}
use Rattle.sp_words.specs.declared.types.Ty.{Ty}
use Rattle.sp_words.specs.Memory.{Contents, queue}
use Rattle.sp_tree.specs.declared.statement.FaultKind.{FaultKind}
use Rattle.sp_tree.specs.Accesses as program
use Rattle.sp_tree.specs.declared.statement.FaultKind.TheVariants.{Bounds}
use Rattle.sp_tree.specs.Declarations.{HasRank}
use Rattle.sp_tree.specs.Elements as elements
use Rattle.sp_tree.specs.Expressions as expressions
use Rattle.sp_tree.specs.Meaning.{is_dram}
use Rattle.sp_tree.specs.PlainProgram.{PlainProgram, no_mem}
use Rattle.sp_tree.specs.Step as program_step
use Rattle.sp_tree.specs.Store as program_store
use Rattle.sp_tree.specs.Typing.{with_mem}
use Rattle.sp_core.specs.declared.operation.OpKind.TheVariants as kind
use Rattle.sp_core.specs.Accesses.{write_at, write_in, enqueue, with_word, with_newest, word_in, without_oldest, written, first_of_queue, read_in, inside, read_at, dequeue}
use Rattle.sp_core.specs.Declarations.{room, mem, dram, kind_of, dims, dram_number as dram_place}
use Rattle.sp_core.specs.Elements.{index_value, natural, are_inside, row_major}
use Rattle.sp_core.specs.History.{Entry, touched}
use Rattle.sp_core.specs.Operations.{done_by}
use Rattle.sp_core.specs.PlainCore as plain
use Rattle.sp_core.specs.PlainCore.{PlainCore}
use Rattle.sp_core.specs.Scope as counters
use Rattle.sp_core.specs.Step.{went, pure, ◌>>=◌, ensure, look, change}
use Rattle.sp_core.specs.Store as store
use Rattle.sp_sugar.specs.Agreement.{HasMemories, View, place_of, Finds, IsWaiting, Agree}
use Rattle.sp_sugar.specs.Numbers.{is_off_dram, mem_number, dram_number, written_mem, written_mems}
use Rattle.sp_sugar.specs.Values.{Source, at_place, in_register, constant, count}
use Rattle.sp_sugar.proofs.NumberLemmas.{either, written_at, number_below, numbers_apart}
use Rattle.sp_sugar.proofs.StepLemmas.{then_on, not_faulted, same_answer, same_left, same_store}
use Rattle.sp_sugar.proofs.TwinLemmas.{same_cells, same_rows, same_words, same_inside, same_place, same_places}

pub no_dims : (xs : List ℕ) → length xs ≡ 0 → xs ≡ []
no_dims [] e = refl
no_dims (x ∷ xs) e = absurd (omega arith)

-- registers, arguments and outputs have no dimensions
pub dimensionless : (p : PlainProgram) (core : PlainCore) → HasMemories p core → (m : ℕ) → m < length p.mems → (k : Kind) → (expressions.mem p.mems m).kind ≡ k → ((n : ℕ) → HasRank k n → n ≡ 0) → (expressions.mem p.mems m).dims ≡ []
dimensionless p core h m lt k e f = no_dims (expressions.mem p.mems m).dims (f (length (expressions.mem p.mems m).dims) (subst (λ x. HasRank x (length (expressions.mem p.mems m).dims)) e (h.declared m no_mem lt).rank))

pub changed_here : {A : Type 0} (was : ℕ → A) (n k : ℕ) (now : A) → k ≡ n → store.changed was n now k ≡ now
changed_here {A = A} was n k now e = ap (λ b. elim b as (λ _. A) [ true ↦ now | false ↦ was k ]) (eq-eqb k n e)

pub changed_elsewhere : {A : Type 0} (was : ℕ → A) (n k : ℕ) (now : A) → (k ≡ n → ⊥) → store.changed was n now k ≡ was k
changed_elsewhere {A = A} was n k now e = ap (λ b. elim b as (λ _. A) [ true ↦ now | false ↦ was k ]) (ne_eqb k n e)

module _ (p : PlainProgram) (core : PlainCore) (h : HasMemories p core) (m : ℕ) (lt : m < length p.mems) (off : is_off_dram (expressions.mem p.mems m) ≡ true) where
  pub chip_exists : mem_number p.mems m < length core.mems
  chip_exists = omega (arith, number_below p.mems m lt off, ap length h.mems, length-append (written_mems p.mems) h.others)

  pub chip_mem : mem core (mem_number p.mems m) ≡ written_mem (expressions.mem p.mems m)
  chip_mem = ap (λ l. slice_index_or l (mem_number p.mems m) plain.no_mem) h.mems ∙ written_at p.mems h.others m lt off

  pub chip_kind : kind_of core (mem_number p.mems m) ≡ (expressions.mem p.mems m).kind
  chip_kind = ap (λ b. if b then (mem core (mem_number p.mems m)).kind else Dram) (lt-ltb (mem_number p.mems m) (length core.mems) chip_exists) ∙ ap (λ (x : plain.PlainMem). x.kind) chip_mem

  pub chip_dims : dims core (mem_number p.mems m) ≡ (expressions.mem p.mems m).dims
  chip_dims = ap (λ b. if b then (mem core (mem_number p.mems m)).dims else (dram core (mem_number p.mems m - length core.mems)).dims) (lt-ltb (mem_number p.mems m) (length core.mems) chip_exists) ∙ ap (λ (x : plain.PlainMem). x.dims) chip_mem

  pub chip_place : place_of p core m ≡ mem_number p.mems m
  chip_place = ap (λ b. elim b as (λ _. ℕ) [ true ↦ dram_place core (dram_number p.mems m) | false ↦ mem_number p.mems m ]) (not-true (is_dram (expressions.mem p.mems m).kind) off)

  -- nothing else stands where it does
  pub place_apart : (k : ℕ) → k < length p.mems → place_of p core k ≡ mem_number p.mems m → k ≡ m
  place_apart k below e = either (is_dram (expressions.mem p.mems k).kind)
      (λ on. let f : place_of p core k ≡ dram_place core (dram_number p.mems k) = ap (λ b. elim b as (λ _. ℕ) [ true ↦ dram_place core (dram_number p.mems k) | false ↦ mem_number p.mems k ]) on in
      absurd (omega (arith, f, e, chip_exists)))
      (λ on. let f : place_of p core k ≡ mem_number p.mems k = ap (λ b. elim b as (λ _. ℕ) [ true ↦ dram_place core (dram_number p.mems k) | false ↦ mem_number p.mems k ]) on in
      numbers_apart p.mems k m below lt (ap not on) off (sym f ∙ e))

  -- what is held by a memory that is visible
  module _ (view : View) (done : List Entry) (s : program_store.Store) (t : store.Store) (a : Agree p core view done s t) (seen : Contains view.scope.mems m) where
    pub chip_holds : t (mem_number p.mems m) ≡ s.held m
    chip_holds = ap t (sym chip_place) ∙ (a.mems m seen).1

    held_by : (k : ℕ) (c : Contents) → Contains view.scope.mems k → store.hold t (mem_number p.mems m) c (place_of p core k) ≡ (program_store.hold s m c).held k
    held_by k c v = either (k == m)
        (λ e. changed_here t (mem_number p.mems m) (place_of p core k) (Some c) (ap (place_of p core) (eqb-true k m e) ∙ chip_place) ∙ sym (changed_here s.held m k (Some c) (eqb-true k m e)))
        (λ e. changed_elsewhere t (mem_number p.mems m) (place_of p core k) (Some c) (λ f. eqb-false k m e (place_apart k (a.mems k v).0 f))
        ∙ (a.mems k v).1 ∙ sym (changed_elsewhere s.held m k (Some c) (eqb-false k m e)))

    found : (source : Source) (w : ℕ) (c : Contents) → Finds p core view.around done t source w → Finds p core view.around done (store.hold t (mem_number p.mems m) c) source w
    found (at_place k) w c f = f
    found (in_register r) w c f = (f.0, changed_elsewhere t (mem_number p.mems m) r (Some c) (λ e. let below : mem_number p.mems m < length (written_mems p.mems) = number_below p.mems m lt off in omega (arith, below, e, f.0.after)) ∙ f.1)
    found (constant k) w c f = f
    found (count k) w c f = f

    still_waiting : (k : ℕ) (c : Contents) → IsWaiting p core view t k → IsWaiting p core view (store.hold t (mem_number p.mems m) c) k
    still_waiting k c w = record {
      exists = w.exists;
      on_chip = w.on_chip;
      unseen = w.unseen;
      holds = λ f. changed_elsewhere t (mem_number p.mems m) (mem_number p.mems k) (Some c) (λ e. w.unseen (subst (λ x. Contains view.scope.mems x) (sym (numbers_apart p.mems k m w.exists lt w.on_chip off e)) seen)) ∙ w.holds f;
    }

    -- both hold the same from now on
    pub agree_held : (c : Contents) → Agree p core view done (program_store.hold s m c) (store.hold t (mem_number p.mems m) c)
    agree_held c = record {
      mems = λ k v. ((a.mems k v).0, held_by k c v);
      vals = λ v w. found (view.sources v.0) (s.values v.0) c (a.vals v w);
      counts = a.counts;
      waiting = λ k v. still_waiting k c (a.waiting k v);
      registers = λ x v. let f = a.registers x v in (f.0, changed_elsewhere t (mem_number p.mems m) x.0 (Some c) (λ e. let below : mem_number p.mems m < length (written_mems p.mems) = number_below p.mems m lt off in omega (arith, below, e, f.0.after)) ∙ f.1);
    }

-- a read of a core
pub core_reads : (core : PlainCore) (n : ℕ) (is : List ℕ) (t : store.Store) (w : ℕ) → are_inside (dims core n) (map index_value is) ≡ true
    → word_in (kind_of core n) (dims core n) (map (λ i. natural (index_value i)) is) (t n) ≡ Some w → read_at core n is t ≡ went (touched (map (λ i. natural (index_value i)) is) w) t
unfolding ◌>>=◌ pure look
core_reads core n is t w b e =
    then_on (inside core n is) (λ is. read_in core n is >>= (λ w. pure (touched is w))) t (map (λ i. natural (index_value i)) is) t (ap (λ b. (ensure b >>= (λ _. pure (map (λ i. natural (index_value i)) is))) t) b)
    ∙ then_on (read_in core n (map (λ i. natural (index_value i)) is)) (λ w. pure (touched (map (λ i. natural (index_value i)) is) w)) t w t (ap (λ o. written o t) e)

-- a read of a program that found its word
pub word_found : (place : ℕ) (o : Option ℕ) (w left rest : ℕ) (s after : program_store.Store) → program.written place o left s ≡ program_step.went w rest after → (o ≡ Some w) × (rest ≡ left) × (after ≡ s)
unfolding program_step.pure program_step.fault
word_found place None w left rest s after e = not_faulted _ place w rest after e
word_found place (Some x) w left rest s after e = (ap Some (same_answer x w left rest s after e), sym (same_left x w left rest s after e), sym (same_store x w left rest s after e))

-- whether a test of a program was passed
pub passed : {A : Type 0} (b : Bool) (kind : FaultKind) (place : ℕ) (more : program_step.Step A) (a : A) (left rest : ℕ) (s after : program_store.Store)
    → program_step.◌>>=◌ (program_step.ensure b kind place) (λ _. more) left s ≡ program_step.went a rest after → (b ≡ true) × (more left s ≡ program_step.went a rest after)
unfolding program_step.◌>>=◌ program_step.pure program_step.fault
passed true kind place more a left rest s after e = (refl, e)
passed false kind place more a left rest s after e = not_faulted kind place a rest after e

-- the oldest word of a FIFO is taken
pub oldest_taken : (m place : ℕ) (ws : List ℕ) (w left rest : ℕ) (s after : program_store.Store) → program.take_oldest m place ws left s ≡ program_step.went w rest after
    → (others : List ℕ) × (ws ≡ w ∷ others) × (rest ≡ left) × (after ≡ program_store.hold s m (queue others))
unfolding program_step.◌>>=◌ program_step.pure program_step.fault program_step.change
oldest_taken m place [] w left rest s after e = not_faulted _ place w rest after e
oldest_taken m place (x ∷ others) w left rest s after e = (
  others,
  ap (λ y. y ∷ others) (same_answer x w left rest (program_store.hold s m (queue others)) after e),
  sym (same_left x w left rest (program_store.hold s m (queue others)) after e),
  sym (same_store x w left rest (program_store.hold s m (queue others)) after e),
)

pub core_takes : (core : PlainCore) (n : ℕ) (t : store.Store) (w : ℕ) (others : List ℕ) → store.queue_of (t n) ≡ w ∷ others → dequeue core n t ≡ went w (store.hold t n (queue others))
unfolding ◌>>=◌ pure look change
core_takes core n t w others e =
    ap (λ ws. (first_of_queue ws >>= (λ w. change (λ s. store.hold s n (without_oldest (s n))) >>= (λ _. pure w))) t) e
    ∙ ap (λ ws. went w (store.hold t n (queue (drop 1 ws)))) e

-- the place of an element was found
pub element_found : (p : PlainProgram) (m place : ℕ) (is : List ℕ) (at left rest : ℕ) (s after : program_store.Store) → expressions.element p.mems m place is left s ≡ program_step.went at rest after
    → (are_inside (expressions.dims p.mems m) (map index_value is) ≡ true) × (at ≡ row_major (expressions.dims p.mems m) (map (λ i. natural (index_value i)) is)) × (rest ≡ left) × (after ≡ s)
unfolding program_step.pure
element_found p m place is at left rest s after e =
    let f = passed (elements.are_inside (expressions.dims p.mems m) (map elements.index_value is)) Bounds place (program_step.pure (elements.row_major (expressions.dims p.mems m) (map (λ i. elements.natural (elements.index_value i)) is))) at left rest s after e in (
      same_inside (expressions.dims p.mems m) (map elements.index_value is) ∙ f.0,
      sym (same_answer _ at left rest s after f.1) ∙ sym (same_place (expressions.dims p.mems m) (map (λ i. elements.natural (elements.index_value i)) is)) ∙ ap (row_major (expressions.dims p.mems m)) (sym (same_places is)),
      sym (same_left _ at left rest s after f.1),
      sym (same_store _ at left rest s after f.1),
    )

-- what is read of each kind
module _ (core : PlainCore) (n : ℕ) where
  pub reg_word : (c d : Option Contents) → kind_of core n ≡ Reg → c ≡ d → word_in (kind_of core n) (dims core n) [] c ≡ slice_index_or (program_store.cells_of d) 0 None
  reg_word c d k e = ap (λ x. word_in x (dims core n) [] c) k ∙ ap (λ x. slice_index_or x 0 None) (ap store.cells_of e ∙ same_cells d)

  pub arg_word : (c d : Option Contents) → kind_of core n ≡ ArgIn → c ≡ d → word_in (kind_of core n) (dims core n) [] c ≡ Some (slice_index (program_store.words_of d) 0)
  arg_word c d k e = ap (λ x. word_in x (dims core n) [] c) k ∙ ap (λ x. Some (slice_index x 0)) (ap store.words_of e ∙ same_words d)

  pub sram_word : (is ds : List ℕ) (c d : Option Contents) → kind_of core n ≡ Sram → dims core n ≡ ds → c ≡ d → word_in (kind_of core n) (dims core n) is c ≡ slice_index_or (program_store.cells_of d) (row_major ds is) None
  sram_word is ds c d k f e = ap (λ x. word_in x (dims core n) is c) k ∙ ap (λ x. slice_index_or (store.cells_of c) (row_major x is) None) f ∙ ap (λ x. slice_index_or x (row_major ds is) None) (ap store.cells_of e ∙ same_cells d)

  pub line_word : (row column : ℕ) (c d : Option Contents) → kind_of core n ≡ LineBuf → c ≡ d
      → word_in (kind_of core n) (dims core n) (row ∷ column ∷ []) c ≡ slice_index_or (slice_index_or (program_store.rows_of d) row []) column None
  line_word row column c d k e = ap (λ x. word_in x (dims core n) (row ∷ column ∷ []) c) k ∙ ap (λ x. slice_index_or (slice_index_or x row []) column None) (ap store.rows_of e ∙ same_rows d)

-- a write of a core, by its indices and its word
front_of : (is : List ℕ) (w : ℕ) → take (length (is ++ w ∷ []) - 1) (is ++ w ∷ []) ≡ is
front_of is w = take_at is (w ∷ []) (length (is ++ w ∷ []) - 1) (omega (arith, length-append is (w ∷ [])))

last_of : (is : List ℕ) (w : ℕ) → slice_index (is ++ w ∷ []) (length (is ++ w ∷ []) - 1) ≡ w
last_of is w = ap (λ k. slice_index_or (is ++ w ∷ []) k 0) {x = length (is ++ w ∷ []) - 1} {y = length is + 0} (omega (arith, length-append is (w ∷ []))) ∙ get_or-append-add is (w ∷ []) 0 0

pub core_writes : (core : PlainCore) (around : counters.Scope) (ty : Ty) (n : ℕ) (is : List ℕ) (w : ℕ) (t : store.Store) (c : Contents) → are_inside (dims core n) (map index_value is) ≡ true
    → with_word (kind_of core n) (dims core n) (map (λ i. natural (index_value i)) is) w (t n) ≡ c
    → done_by core around kind.Write ty (Some n) (is ++ w ∷ []) t ≡ went (touched (map (λ i. natural (index_value i)) is) w) (store.hold t n c)
unfolding ◌>>=◌ pure change
core_writes core around ty n is w t c b e =
    ap (λ x. write_at core n x (slice_index (is ++ w ∷ []) (length (is ++ w ∷ []) - 1)) t) (front_of is w)
    ∙ ap (λ x. write_at core n is x t) (last_of is w)
    ∙ then_on (inside core n is) (λ x. write_in core n x w >>= (λ _. pure (touched x w))) t (map (λ i. natural (index_value i)) is) t (ap (λ b. (ensure b >>= (λ _. pure (map (λ i. natural (index_value i)) is))) t) b)
    ∙ ap (λ x. went (touched (map (λ i. natural (index_value i)) is) w) (store.hold t n x)) e

-- a word enters a FIFO
pub core_puts : (core : PlainCore) (n w : ℕ) (t : store.Store) (ws : List ℕ) → store.queue_of (t n) ≡ ws → nat_lt (length ws) (room core n) ≡ true → enqueue core n w t ≡ went tt (store.hold t n (queue (ws ++ w ∷ [])))
unfolding ◌>>=◌ pure look change
core_puts core n w t ws e b =
    ap (λ x. (ensure (nat_lt (length x) (room core n)) >>= (λ _. change (λ s. store.hold s n (with_newest w (s n))))) t) e
    ∙ ap (λ x. (ensure x >>= (λ _. change (λ s. store.hold s n (with_newest w (s n))))) t) b
    ∙ ap (λ x. went tt (store.hold t n (queue (x ++ w ∷ [])))) e

-- what is declared: it is visible from then on, and others are waiting
module _ (p : PlainProgram) (core : PlainCore) (view : View) (m : ℕ) (others : List ℕ) (done : List Entry) (s : program_store.Store) (t u : store.Store) (c : Contents)
    (a : Agree p core view done s t) (w : IsWaiting p core view t m) (more : (k : ℕ) → Contains others k → Contains view.waiting k) (apart : Contains others m → ⊥)
    (here : u (mem_number p.mems m) ≡ Some c) (elsewhere : (k : ℕ) → (k ≡ mem_number p.mems m → ⊥) → u k ≡ t k) (h : HasMemories p core) where
  abbrev pub declared_view : View
  declared_view = record view { scope = with_mem view.scope m; waiting = others }

  seen_before : (k : ℕ) → Contains (m ∷ view.scope.mems) k → (k ≡ m → ⊥) → Contains view.scope.mems k
  seen_before k (zero, lt, e) ne = absurd (ne (sym e))
  seen_before k (suc j, lt, e) ne = (j, omega arith, e)

  declared_holds : (k : ℕ) → Contains (m ∷ view.scope.mems) k → (k < length p.mems) × (u (place_of p core k) ≡ (program_store.hold s m c).held k)
  declared_holds k v = either (k == m)
      (λ e. let f : k ≡ m = eqb-true k m e in
      (subst (λ x. x < length p.mems) (sym f) w.exists, ap (λ x. u (place_of p core x)) f ∙ ap u (chip_place p core h m w.exists w.on_chip) ∙ here ∙ sym (changed_here s.held m k (Some c) f)))
      (λ e. let seen : Contains view.scope.mems k = seen_before k v (eqb-false k m e) in let g = a.mems k seen in
      (g.0, elsewhere (place_of p core k) (λ f. eqb-false k m e (place_apart p core h m w.exists w.on_chip k g.0 f)) ∙ g.1 ∙ sym (changed_elsewhere s.held m k (Some c) (eqb-false k m e))))

  declared_found : (source : Source) (x : ℕ) → Finds p core view.around done t source x → Finds p core view.around done u source x
  declared_found (at_place k) x f = f
  declared_found (in_register r) x f = (f.0, elsewhere r (λ e. let below : mem_number p.mems m < length (written_mems p.mems) = number_below p.mems m w.exists w.on_chip in omega (arith, below, e, f.0.after)) ∙ f.1)
  declared_found (constant k) x f = f
  declared_found (count k) x f = f

  declared_waits : (k : ℕ) → Contains others k → IsWaiting p core declared_view u k
  declared_waits k v = let x = a.waiting k (more k v) in
      let ne : k ≡ m → ⊥ = λ e. apart (subst (λ y. Contains others y) e v) in
      record {
        exists = x.exists;
        on_chip = x.on_chip;
        unseen = λ y. x.unseen (seen_before k y ne);
        holds = λ f. elsewhere (mem_number p.mems k) (λ e. ne (numbers_apart p.mems k m x.exists w.exists x.on_chip w.on_chip e)) ∙ x.holds f;
      }

  pub agree_declared : Agree p core declared_view done (program_store.hold s m c) u
  agree_declared = record { mems = declared_holds; vals = λ v y. declared_found (view.sources v.0) (s.values v.0) (a.vals v y); counts = a.counts; waiting = declared_waits; registers = λ x y. let f = a.registers x y in (f.0, elsewhere x.0 (λ e. let below : mem_number p.mems m < length (written_mems p.mems) = number_below p.mems m w.exists w.on_chip in omega (arith, below, e, f.0.after)) ∙ f.1) }
