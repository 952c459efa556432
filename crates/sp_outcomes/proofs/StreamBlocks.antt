-- A proper stream block does what its statement does: at its end no FIFO of its own holds more words than its depth, and no
-- other memory of its own holds a queue.
use Rattle.std.proofs.Common.{◌≡◌, ℕ, zero, suc, ◌+◌, ◌≤◌, Bool, true, false, ◌&&◌, List, [], ◌∷◌, ◌++◌, Option, refl, sym, ◌∙◌, ap, subst, arith, nat_le, if◌then◌else◌}
use Rattle.std.proofs.lemmas.Bool.{false≢true, le-leb}
use Rattle.std.specs.Prelude.{length, map, filter, Contains}
use Rattle.sp_words.specs.declared.kind.Kind.TheVariants.{Fifo}
use Rattle.sp_words.specs.declared.kind.Style.{Style}
use Rattle.sp_words.specs.declared.kind.Style.TheVariants.{Pipe, Sequential, Parallel, Stream}
use Rattle.sp_words.specs.Interface.{word_count}
use Rattle.sp_tree.specs.declared.statement.FaultKind.{FaultKind}
use Rattle.sp_tree.specs.Expressions as expressions
use Rattle.sp_tree.specs.PlainProgram.{PlainMem, PlainProgram}
use Rattle.sp_tree.specs.PlainStatement.{PlainStmts, stmt, block, no_stmt, more_stmt}
use Rattle.sp_tree.specs.Sequential.{keep_depth, end_block, run_kind, run_all}
use Rattle.sp_tree.specs.Shape as program_shape
use Rattle.sp_tree.specs.Shape.{shapes, ran as ran_shape}
use Rattle.sp_tree.specs.Step as step
use Rattle.sp_tree.specs.Store as program_store
use Rattle.sp_tree.specs.Streams.{is_fifo, are_stages, own_fifos, is_proper}
use Rattle.sp_tree.specs.Structure.{own_mems, mems_declared, is_inner}
use Rattle.sp_tree.specs.Typing.{BodyTyped}
use Rattle.sp_core.specs.Declarations.{kind_of, depth, is_stream}
use Rattle.sp_core.specs.PlainCore.{PlainMem as CoreMem, PlainStages, PlainCore, outer}
use Rattle.sp_core.specs.Scope.{plainly, is_live}
use Rattle.sp_core.specs.Sequential.{holds_depth}
use Rattle.sp_core.specs.Step as core_step
use Rattle.sp_core.specs.Store as store
use Rattle.sp_sugar.specs.Agreement.{HasMemories, View, IsAdded, Apart, Agree}
use Rattle.sp_sugar.specs.Numbers.{mem_number, numbers_from}
use Rattle.sp_sugar.specs.Registers.{beside, inside, at_end, registers, registers_in, owned_registers}
use Rattle.sp_sugar.specs.Runs.{no_run}
use Rattle.sp_sugar.specs.Stages.{nothing, style_of, inner_node, outer_node, body_node, stages, node}
use Rattle.sp_sugar.specs.Uses.{Ending, no_more}
use Rattle.sp_sugar.proofs.MemoryLemmas.{chip_mem, chip_kind, chip_place}
use Rattle.sp_sugar.proofs.NumberLemmas.{either}
use Rattle.sp_sugar.proofs.RunKeeps.{in_map, in_front, in_back}
use Rattle.sp_sugar.proofs.StepLemmas.{not_faulted, same_answer, same_store, taken_apart, then_on}
use Rattle.sp_sugar.proofs.TwinLemmas.{same_queue}
use Rattle.sp_same.specs.Contents.{HoldRightly}
use Rattle.sp_same.specs.Counts.{counts_in_all}
use Rattle.sp_same.specs.Following.{SourcesSeen, AreSpare, IsOwn, NodeGoes, alone}
use Rattle.sp_same.proofs.InnerBodies as inner
use Rattle.sp_same.proofs.LoopNodes.{no_more_counts}
use Rattle.sp_same.proofs.Renewed.{in_either}
use Rattle.sp_same.proofs.Values.{Each, each_both, each_map}
use Rattle.sp_bodies.specs.Bodies.{HaveRoomsAlike, AreDeclared, AreStagesFollowed}
use Rattle.sp_bodies.proofs.BodyNodes.{Ran, begun as first_store, owned, node_goes, ran_plainly}
use Rattle.sp_bodies.proofs.BodyStarts.{renewed, all_fresh}
use Rattle.sp_bodies.proofs.Owned.{cells_of_body, apart_own}
use Rattle.sp_bodies.proofs.StageSteps.{cells_from}
use Rattle.sp_outcomes.proofs.ElementStages.{own_seen}
use Rattle.sp_outcomes.proofs.Empties.{keep_stages, renewed_empty}
use Rattle.sp_outcomes.proofs.PutsRight.{proper_right}
use Rattle.sp_sugar.proofs.Entering.{own_declared}

-- the end of a proper block
ensured : (b : Bool) (kind : FaultKind) (place left rest : ℕ) (s after : program_store.Store) (x : Unit {0}) → step.ensure b kind place left s ≡ step.went x rest after → (b ≡ true) × (after ≡ s)
unfolding step.pure step.fault
ensured true kind place left rest s after x e = (refl, sym (same_store tt x left rest s after e))
ensured false kind place left rest s after x e = not_faulted kind place x rest after e

module _ (mems : List PlainMem) (place : ℕ) where
  -- these FIFOs hold no more words than their depths
  abbrev pub HoldDepths : program_store.Store → List ℕ → Type 0
  HoldDepths s ms = Each (λ m. nat_le (length (program_store.queue_of (s.held m))) (word_count (expressions.dims mems m)) ≡ true) ms

  kept_depth : (m left rest : ℕ) (s after : program_store.Store) (x : Unit {0}) → keep_depth mems m place left s ≡ step.went x rest after → (nat_le (length (program_store.queue_of (s.held m))) (word_count (expressions.dims mems m)) ≡ true) × (after ≡ s)
  unfolding step.read step.◌>>=◌
  kept_depth m left rest s after x e = ensured _ _ place left rest s after x e

  pub depths_kept : (ms : List ℕ) (left rest : ℕ) (s after : program_store.Store) (al : List (Unit {0})) → step.in_order (λ m. keep_depth mems m place) ms left s ≡ step.went al rest after → HoldDepths s ms × (after ≡ s)
  unfolding step.in_order step.pure
  depths_kept [] left rest s after al e = (tt, sym (same_store [] al left rest s after e))
  depths_kept (m ∷ ms) left rest s after al e =
      let y = taken_apart (keep_depth mems m place) (λ first. step.◌>>=◌ (step.in_order (λ m. keep_depth mems m place) ms) (λ others. step.pure (first ∷ others))) left s al rest after e in
      let z = taken_apart (step.in_order (λ m. keep_depth mems m place) ms) (λ others. step.pure (y.answer ∷ others)) y.between y.store al rest after y.second in
      let one = kept_depth m left y.between s y.store y.answer y.first in
      let more = depths_kept ms y.between z.between y.store z.store z.answer z.first in
      ((one.0, subst (λ u. HoldDepths u ms) one.1 more.0), sym (same_store (y.answer ∷ z.answer) al z.between rest z.store after z.second) ∙ more.1 ∙ one.1)

-- a core's test of the same
depths_hold : (core : PlainCore) (most : ℕ) (u : store.Store) (owned : List ℕ) → Each (λ x. nat_le (length (store.queue_of (u x))) (depth core x) ≡ true) owned → (al : List (Unit {0})) × (core_step.in_order (holds_depth core plainly most) owned u ≡ core_step.went al u)
unfolding core_step.in_order core_step.pure core_step.look core_step.◌>>=◌
depths_hold core most u [] f = ([], refl)
depths_hold core most u (x ∷ owned) f =
    let more = depths_hold core most u owned f.1 in
    let here : holds_depth core plainly most x u ≡ core_step.went tt u = ap (λ b. core_step.ensure b u) f.0 in (
      tt ∷ more.0,
      then_on (holds_depth core plainly most x) (λ first. core_step.◌>>=◌ (core_step.in_order (holds_depth core plainly most) owned) (λ others. core_step.pure (first ∷ others))) u tt u here
          ∙ then_on (core_step.in_order (holds_depth core plainly most) owned) (λ others. core_step.pure (tt ∷ others)) u more.0 u more.1,
    )

-- registers that a body owns
numbered_cells : (n : ℕ) (ms : List CoreMem) (x : ℕ) → Contains (numbers_from n (length ms)) x → (o : Option ℕ) × Contains (cells_from n ms) (x, o)
numbered_cells n [] x c = absurd (omega (arith, c.1))
numbered_cells n (m ∷ ms) x (zero, lt, e) = (m.start, (0, omega arith, ap (λ k. (k, m.start)) e))
numbered_cells n (m ∷ ms) x (suc j, lt, e) = let f = numbered_cells (suc n) ms x (j, omega (arith, lt), e) in (f.0, (suc f.1.0, omega (arith, f.1.1), f.1.2))

pub owned_cells : (n : ℕ) (body : PlainStmts) (ending : Ending) (x : ℕ) → Contains (owned_registers n body ending) x → (o : Option ℕ) × Contains (cells_of_body n body ending) (x, o)
owned_cells n no_stmt ending x c = numbered_cells n (at_end ending) x c
owned_cells n (more_stmt (stmt place k) rest) ending x c =
    let next : ℕ = n + length (beside k rest ending) + length (inside k) in
    in_either (numbers_from n (length (beside k rest ending))) (owned_registers next rest ending) x c
    (λ d. let f = numbered_cells n (beside k rest ending) x d in (f.0, in_front (cells_from n (beside k rest ending)) (cells_of_body next rest ending) (x, f.0) f.1))
    (λ d. let f = owned_cells next rest ending x d in (f.0, in_back (cells_from n (beside k rest ending)) (cells_of_body next rest ending) (x, f.0) f.1))

each_in : {A : Type 0} (P : A → Type 0) (xs : List A) → ((x : A) → Contains xs x → P x) → Each P xs
each_in P [] f = tt
each_in P (x ∷ xs) f = (f x (0, omega arith, refl), each_in P xs (λ y c. f y (suc c.0, omega (arith, c.1), c.2)))

-- of those that pass a test
passing : {A : Type 0} (P : A → Type 0) (test : A → Bool) (xs : List A) → Each P (filter test xs) → (x : A) → Contains xs x → test x ≡ true → P x
passing P test [] e x c t = absurd (omega (arith, c.1))
passing {A = A} P test (y ∷ xs) e x c t = go (test y) refl e c (λ f d. passing P test xs f x d t)
  where
    go : (b : Bool) → test y ≡ b → Each P (if b then y ∷ filter test xs else filter test xs) → Contains (y ∷ xs) x → (Each P (filter test xs) → Contains xs x → P x) → P x
    go true is f (zero, lt, same) more = subst P same f.0
    go true is f (suc j, lt, same) more = more f.1 (j, omega (arith, lt), same)
    go false is f (zero, lt, same) more = absurd (false≢true (sym is ∙ ap test same ∙ t))
    go false is f (suc j, lt, same) more = more f (j, omega (arith, lt), same)

module _ (p : PlainProgram) (core : PlainCore) (h : HasMemories p core) (roomy : List ℕ) (rooms : HaveRoomsAlike p roomy core) (most : ℕ) (view : View) (body : PlainStmts) (n : ℕ)
    (typed : BodyTyped p view.scope body) (seen : SourcesSeen view.scope view.sources) (own : (m : ℕ) → Contains (mems_declared body) m → IsOwn p view.scope m) (apart : Apart (mems_declared body ++ view.waiting)) (resets : (m : ℕ) → view.resets m ≡ false) (followed : AreStagesFollowed p roomy core body)
    (are : are_stages body ≡ true) where
  -- a body with stages
  module _ (spare : AreSpare n (n + length (registers body no_more)) view) (declared : AreDeclared p core n (registers body no_more)) (place : ℕ) (s : program_store.Store) (t : store.Store) (right : HoldRightly p view.scope.mems s) (a : Agree p core view [] s t) (after : program_store.Store) (left rest : ℕ) (did : List program_shape.Shape) (enough : left ≤ most) (went_all : run_all p.mems roomy body left s ≡ step.went did rest after)
      (ends : HoldDepths p.mems place after (own_fifos p.mems body)) where
    abbrev start : store.Store
    start = first_store p core h roomy rooms most view body no_more n typed seen spare declared own apart resets followed s t right a after left rest did enough went_all

    abbrev its_owned : List ℕ
    its_owned = owned p core h roomy rooms most view body no_more n typed seen spare declared own apart resets followed s t right a after left rest did enough went_all

    abbrev whole : PlainStages
    whole = stages p.mems (length p.counters) (no_run view.sources) n body no_more nothing

    z : Ran p core h roomy rooms most view body no_more n typed seen spare declared own apart resets followed nothing s start after did
    z = ran_plainly p core h roomy rooms most view body n typed seen spare declared own apart resets followed s t right a after left rest did enough went_all

    -- what isn't a FIFO is empty
    empty : (x : ℕ) → Contains its_owned x → (kind_of core x ≡ Fifo → ⊥) → store.queue_of (z.end x) ≡ []
    empty x c other = keep_stages core x other plainly most whole (is_live [] []) view.around (proper_right p core h (length p.counters) body view.scope typed are view.sources n) start z.end z.runs
        (renewed_empty core x plainly most its_owned t start _ c (renewed p core h roomy rooms most view body no_more n typed seen spare declared own apart resets s t right a)) z.goes

    abbrev Holds : ℕ → Type 0
    Holds x = nat_le (length (store.queue_of (z.end x))) (depth core x) ≡ true

    none_holds : (x : ℕ) → Contains its_owned x → (kind_of core x ≡ Fifo → ⊥) → Holds x
    none_holds x c other = ap (λ ws. nat_le (length ws) (depth core x)) (empty x c other) ∙ le-leb 0 (depth core x) (omega arith)

    mem_holds : (m : ℕ) → Contains (own_mems body) m → Holds (mem_number p.mems m)
    mem_holds m c =
        let o = own m (own_declared body m c) in
        either (is_fifo (expressions.mem p.mems m).kind)
        (λ f. ap (λ ws. nat_le (length ws) (depth core (mem_number p.mems m))) (ap (λ k. store.queue_of (z.end k)) (sym (chip_place p core h m o.exists o.on_chip)) ∙ ap store.queue_of (z.inner m (own_seen view.scope body m c)).1)
        ∙ ap (λ (x : CoreMem). nat_le (length (store.queue_of (after.held m))) (word_count x.dims)) (chip_mem p core h m o.exists o.on_chip) ∙ ap (λ ws. nat_le (length ws) (word_count (expressions.dims p.mems m))) (same_queue (after.held m))
        ∙ passing (λ m. nat_le (length (program_store.queue_of (after.held m))) (word_count (expressions.dims p.mems m)) ≡ true) (λ m. is_fifo (expressions.mem p.mems m).kind) (own_mems body) ends m c f)
        (λ f. none_holds (mem_number p.mems m) (in_front (map (mem_number p.mems) (own_mems body)) (owned_registers n body no_more) (mem_number p.mems m) (in_map (mem_number p.mems) (own_mems body) m c))
        (λ e. false≢true (sym f ∙ ap is_fifo (sym (chip_kind p core h m o.exists o.on_chip) ∙ e))))

    register_holds : (x : ℕ) → Contains (owned_registers n body no_more) x → Holds x
    register_holds x c =
        let cell = owned_cells n body no_more x c in
        let added : IsAdded p core x = ((all_fresh p core h roomy rooms most view body no_more n typed seen spare declared own apart resets s t right a).3.registers (x, cell.0) (in_front (cells_of_body n body no_more) view.registers (x, cell.0) cell.1)).0 in
        none_holds x (in_back (map (mem_number p.mems) (own_mems body)) (owned_registers n body no_more) x c) (λ e. false≢true (ap is_fifo (sym added.is_kind ∙ e)))

    all_hold : Each Holds its_owned
    all_hold = each_both Holds (map (mem_number p.mems) (own_mems body)) (owned_registers n body no_more) (each_map Holds (mem_number p.mems) (own_mems body) (each_in (λ m. Holds (mem_number p.mems m)) (own_mems body) mem_holds)) (each_in Holds (owned_registers n body no_more) register_holds)

    stages_go : NodeGoes p core most view (outer [] Stream its_owned whole) t after did
    stages_go =
        let held = depths_hold core most z.end its_owned all_hold in
        node_goes p core h roomy rooms most view body no_more n typed seen spare declared own apart resets followed s t right a after left rest did enough went_all nothing Stream after z held.0 held.1

  -- a body of either sort
  module _ (spare : AreSpare n (n + length (registers_in body no_more)) view) (declared : AreDeclared p core n (registers_in body no_more)) where
    body_goes : (place : ℕ) (s : program_store.Store) (t : store.Store) → HoldRightly p view.scope.mems s → Agree p core view [] s t → (after : program_store.Store) (left rest : ℕ) (did : List program_shape.Shape) → left ≤ most → run_all p.mems roomy body left s ≡ step.went did rest after
        → HoldDepths p.mems place after (own_fifos p.mems body) → NodeGoes p core most view (alone p view.sources n Stream body) t after did
    body_goes place s t right a after left rest did enough went_all ends = either (is_inner body)
        (λ i. inner.body_goes p core h roomy body (λ m c lt is. rooms m lt is) most view i typed (apart_own body view.waiting apart) (λ m c. own m (own_declared body m c)) resets n Stream s after t left rest did enough a went_all)
        (λ i.
        let same : registers_in body no_more ≡ registers body no_more = ap (λ b. if b then [] else registers body no_more) i in
        subst (λ b. NodeGoes p core most view (if b then inner_node p.mems (length p.counters) view.sources [] body nothing else outer_node p.mems (length p.counters) n [] Stream body no_more (stages p.mems (length p.counters) (no_run view.sources) n body no_more nothing)) t after did) (sym i)
        (stages_go (subst (λ l. AreSpare n (n + length l) view) same spare) (subst (AreDeclared p core n) same declared) place s t right a after left rest did enough went_all ends))

    -- the block
    proper : is_proper p.mems body ≡ true → (b place : ℕ) (s after : program_store.Store) (t : store.Store) (left rest : ℕ) (did : List program_shape.Shape) → left ≤ most → HoldRightly p view.scope.mems s → Agree p core view [] s t
        → run_kind p.mems roomy (block Stream body) place left s ≡ step.went did rest after → NodeGoes p core most view (alone p view.sources n Stream body) t after did
    unfolding run_kind step.pure counts_in_all
    proper is b place s after t left rest did enough right a e =
        let x = taken_apart (run_all p.mems roomy body) (λ did. step.◌>>◌ (end_block p.mems Stream body place) (step.pure (ran_shape (shapes did) ∷ []))) left s did rest after e in
        let y = taken_apart (end_block p.mems Stream body place) (λ _. step.pure (ran_shape (shapes x.answer) ∷ [])) x.between x.store did rest after x.second in
        let ends = depths_kept p.mems place (own_fifos p.mems body) x.between y.between x.store y.store y.answer (ap (λ b. step.in_order (λ m. keep_depth p.mems m place) (if b then own_fifos p.mems body else []) x.between x.store) (sym is) ∙ y.first) in
        let same : x.store ≡ after = sym ends.1 ∙ same_store (ran_shape (shapes x.answer) ∷ []) did y.between rest y.store after y.second in
        let goes = body_goes place s t right a x.store left x.between x.answer enough x.first ends.0 in
        record {
          history = goes.history;
          after = goes.after;
          goes = goes.goes;
          agree = subst (λ v. Agree p core view [] v goes.after) same goes.agree;
          counts = goes.counts ∙ sym (no_more_counts (counts_in_all (shapes x.answer))) ∙ ap (λ l. counts_in_all (shapes l)) (same_answer (ran_shape (shapes x.answer) ∷ []) did y.between rest y.store after y.second);
        }

pub of_five : (a b c d e : Bool) → a && b && c && d && e ≡ true → a ≡ true
of_five true b c d e f = refl
of_five false b c d e f = absurd (false≢true f)

stream_is : (b : Bool) → is_stream (if b then Stream else Sequential) ≡ true → b ≡ true
stream_is true e = refl
stream_is false e = absurd (false≢true e)

module _ (p : PlainProgram) (core : PlainCore) (h : HasMemories p core) (roomy : List ℕ) (rooms : HaveRoomsAlike p roomy core) (most : ℕ) (view : View) (body : PlainStmts) (n : ℕ)
    (typed : BodyTyped p view.scope body) (seen : SourcesSeen view.scope view.sources) (spare : AreSpare n (n + length (registers_in body no_more)) view) (declared : AreDeclared p core n (registers_in body no_more))
    (own : (m : ℕ) → Contains (mems_declared body) m → IsOwn p view.scope m) (apart : Apart (mems_declared body ++ view.waiting)) (resets : (m : ℕ) → view.resets m ≡ false) (followed : AreStagesFollowed p roomy core body) where
  pub block_goes : (style : Style) → is_stream (style_of p.mems (length p.counters) style body) ≡ true → (b place : ℕ) (s after : program_store.Store) (t : store.Store) (left rest : ℕ) (did : List program_shape.Shape) → left ≤ most → HoldRightly p view.scope.mems s → Agree p core view [] s t
      → run_kind p.mems roomy (block style body) place left s ≡ step.went did rest after → NodeGoes p core most view (node p.mems (length p.counters) view.sources b n (block style body)) t after did
  unfolding node
  block_goes Pipe is b place s after t left rest did enough right a e = absurd (false≢true is)
  block_goes Sequential is b place s after t left rest did enough right a e = absurd (false≢true is)
  block_goes Parallel is b place s after t left rest did enough right a e = absurd (false≢true is)
  block_goes Stream is b place s after t left rest did enough right a e =
      let yes_proper : is_proper p.mems body ≡ true = stream_is (is_proper p.mems body) is in
      subst (λ c. NodeGoes p core most view (body_node p.mems (length p.counters) view.sources n [] (if c then Stream else Sequential) body no_more nothing (stages p.mems (length p.counters) (no_run view.sources) n body no_more nothing)) t after did) (sym yes_proper)
      (proper p core h roomy rooms most view body n typed seen own apart resets followed (of_five (are_stages body) _ _ _ _ yes_proper) spare declared yes_proper b place s after t left rest did enough right a e)
