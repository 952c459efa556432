-- Each statement is followed, by the statements inside of it.
use Rattle.std.proofs.Common.{◌≡◌, ℕ, zero, suc, ◌+◌, ◌<◌, ◌≤◌, Bool, true, false, ◌==◌, List, [], ◌∷◌, ◌++◌, Option, Some, None, refl, sym, ap, subst, arith, length-append, if◌then◌else◌}
use Rattle.std.proofs.lemmas.Bool.{eq-eqb, true≢false}
use Rattle.std.specs.Prelude.{length, slice_index, Contains}
use Rattle.sp_words.specs.declared.kind.Kind.TheVariants.{LineBuf}
use Rattle.sp_words.specs.declared.kind.Style.{Style}
use Rattle.sp_words.specs.declared.kind.Style.TheVariants.{Pipe, Sequential, Parallel, Stream}
use Rattle.sp_words.specs.declared.types.Ty.{Ty}
use Rattle.sp_words.specs.Memory.{Contents, cells, queue, rows, words}
use Rattle.sp_tree.specs.declared.statement.Comb.{Comb}
use Rattle.sp_tree.specs.Expressions as expressions
use Rattle.sp_tree.specs.Invariant.{ports_of}
use Rattle.sp_tree.specs.PlainExpression.{PlainExpr, type_of}
use Rattle.sp_tree.specs.PlainProgram.{PlainProgram}
use Rattle.sp_tree.specs.PlainStatement.{PlainCounter, PlainStmtKind, PlainStmts, stmt, declare, name, set_reg, set_out, set_sram, enq, load_sram, load_line, store, gather, scatter, block, foreach, reduce, mem_reduce, fsm, branch, no_stmt, more_stmt}
use Rattle.sp_tree.specs.Sequential.{run_kind}
use Rattle.sp_tree.specs.Shape as program_shape
use Rattle.sp_tree.specs.Step as step
use Rattle.sp_tree.specs.Store as program_store
use Rattle.sp_tree.specs.Streams.{own_fifos, is_proper, fifos_with_room}
use Rattle.sp_tree.specs.Structure.{mems_declared, is_inner}
use Rattle.sp_tree.specs.Typing.{Scope, IsLoopStyle, StmtTyped, BodyTyped, with_val, with_counters}
use Rattle.sp_core.specs.Declarations.{is_stream}
use Rattle.sp_core.specs.PlainCore.{PlainMem, PlainCore}
use Rattle.sp_core.specs.Scope as counters
use Rattle.sp_core.specs.Store as core_store
use Rattle.sp_sugar.specs.Agreement.{HasMemories, View, IsAdded, Apart, Agree}
use Rattle.sp_sugar.specs.Early.{is_early, bounds_of, registers_for}
use Rattle.sp_sugar.specs.Numbers.{begun_register, state_register}
use Rattle.sp_sugar.specs.Registers.{ending_of, inside, registers, registers_in}
use Rattle.sp_sugar.specs.Stages.{style_of, node}
use Rattle.sp_sugar.specs.Uses.{Ending, no_more}
use Rattle.sp_sugar.specs.Values.{Source, in_register, Sources, with_state}
use Rattle.sp_sugar.proofs.Entering.{own_declared, same_mems, same_vals}
use Rattle.sp_sugar.proofs.NumberLemmas.{either}
use Rattle.sp_sugar.proofs.OwnerCounts.{IsStageKind}
use Rattle.sp_sugar.proofs.RunKeeps.{in_front, in_back}
use Rattle.sp_same.specs.Contents.{IsContents, HoldRightly}
use Rattle.sp_same.specs.Following.{SourceSeen, SourcesSeen, SourceBefore, AreSpare, IsOwn, HoldsWord, AreReady, NodeGoes, BodyFollowedRightly, alone}
use Rattle.sp_same.proofs.Controllers as controllers
use Rattle.sp_same.proofs.EarlyStages.{further}
use Rattle.sp_same.proofs.InnerBodies as inner
use Rattle.sp_same.proofs.LineNodes.{line_goes}
use Rattle.sp_same.proofs.Machines.{machine_goes}
use Rattle.sp_same.proofs.PickNodes.{gather_goes, scatter_goes}
use Rattle.sp_same.proofs.Reductions as reductions
use Rattle.sp_same.proofs.SliceNodes.{load_goes, store_goes}
use Rattle.sp_bodies.specs.Bodies.{HaveRoomsAlike, beside_of, AreDeclared, IsStageFollowed, AreStagesFollowed}
use Rattle.sp_bodies.proofs.BodyNodes.{body_goes}
use Rattle.sp_bodies.proofs.Fresh.{added_at}
use Rattle.sp_bodies.proofs.Owned.{before_more, apart_own, apart_left, apart_after, declared_left, declared_right}
use Rattle.sp_outcomes.proofs.ElementStages.{mem_reduction_goes}
use Rattle.sp_outcomes.proofs.StageReductions as stage_reductions
use Rattle.sp_outcomes.proofs.StageReductions.{seen_within}
use Rattle.sp_outcomes.proofs.StreamBlocks as streams

pub loop_quiet : (style : Style) → IsLoopStyle style → is_stream style ≡ false
loop_quiet Pipe t = refl
loop_quiet Sequential t = refl
loop_quiet Parallel t = absurd t
loop_quiet Stream t = absurd t

pub no_rooms : (mems : List _) (number : ℕ) (style : Style) (body : PlainStmts) → is_stream (style_of mems number style body) ≡ false → fifos_with_room mems style body ≡ []
no_rooms mems number Pipe body e = refl
no_rooms mems number Sequential body e = refl
no_rooms mems number Parallel body e = refl
no_rooms mems number Stream body e = go (is_proper mems body) e
  where
    go : (b : Bool) → is_stream (if b then Stream else Sequential) ≡ false → (if b then own_fifos mems body else []) ≡ []
    go true f = absurd (true≢false f)
    go false f = refl

held_rows : (ds : List ℕ) (c : Option Contents) → IsContents LineBuf ds c → length (program_store.rows_of c) ≡ slice_index ds 0
held_rows ds (Some (rows rs)) f = f
held_rows ds (Some (cells cs)) f = absurd f
held_rows ds (Some (queue ws)) f = absurd f
held_rows ds (Some (words ws)) f = absurd f
held_rows ds None f = absurd f

module _ (p : PlainProgram) (core : PlainCore) (h : HasMemories p core) (ports : p.ports ≡ ports_of p.mems) (roomy : List ℕ) (rooms : HaveRoomsAlike p roomy core) where
  -- a body, wherever it stands
  abbrev pub BodyFollows : PlainStmts → Type 0
  BodyFollows body =
      (most : ℕ) (view : View) (n : ℕ) (style : Style) → is_stream style ≡ false → BodyTyped p view.scope body → SourcesSeen view.scope view.sources → AreSpare n (n + length (registers_in body no_more)) view → AreDeclared p core n (registers_in body no_more)
      → ((m : ℕ) → Contains (mems_declared body) m → IsOwn p view.scope m) → Apart (mems_declared body ++ view.waiting) → ((m : ℕ) → view.resets m ≡ false) → BodyFollowedRightly p core roomy most view (alone p view.sources n style body) body

  pub body_by : (body : PlainStmts) → AreStagesFollowed p roomy core body → BodyFollows body
  body_by body followed most view n style quiet typed seen spare declared own apart resets s after t left rest did enough right a goes = either (is_inner body)
      (λ i. inner.body_goes p core h roomy body (λ m c lt is. rooms m lt is) most view i typed (apart_own body view.waiting apart) (λ m c. own m (own_declared body m c)) resets n style s after t left rest did enough a goes)
      (λ i. let same : registers_in body no_more ≡ registers body no_more = ap (λ b. if b then [] else registers body no_more) i in
      body_goes p core h roomy rooms most view body n typed seen (subst (λ l. AreSpare n (n + length l) view) same spare) (subst (AreDeclared p core n) same declared) own apart resets followed style quiet i s after t left rest did enough right a goes)

  -- what stands inside of a statement, by the registers of its own
  module _ (view : View) (b n : ℕ) (k : PlainStmtKind) (same : n ≡ b + length (beside_of k)) (spare : AreSpare b (n + length (inside k)) view) (declared : AreDeclared p core b (beside_of k ++ inside k)) where
    spare_inner : AreSpare n (n + length (inside k)) view
    spare_inner = further b n (n + length (inside k)) (n + length (inside k)) view (omega (arith, same)) (omega arith) spare

    declared_inner : AreDeclared p core n (inside k)
    declared_inner = declared_right p core b n (beside_of k) (inside k) (sym same) declared

  own_within : (scope : Scope) (loops : List PlainCounter) (m : ℕ) → IsOwn p scope m → IsOwn p (with_counters scope loops) m
  own_within scope loops m o = record { exists = o.exists; on_chip = o.on_chip; unseen = λ c. o.unseen (subst (λ l. Contains l m) (same_mems scope loops) c) }

  spare_within : (view : View) (loops : List PlainCounter) (around : counters.Scope) (first last : ℕ) → AreSpare first last view → AreSpare first last (record view { scope = with_counters view.scope loops; around = around })
  spare_within view loops around first last f = (λ v c. f.0 v (subst (λ l. Contains l v) (same_vals view.scope loops) c), f.1)

  -- the state of an FSM
  module _ (sources : Sources) (tested state last n : ℕ) where
    abbrev kept : Sources
    kept = with_state sources tested state last n

    kept_either : (P : Source → Type 0) → P (in_register n) → (v : ℕ) → P (sources v) → P (kept v)
    kept_either P r v f = go (v == last) (v == state) (v == tested)
      where
        go : (i j k : Bool) → P (elim i as (λ _. Source) [ true ↦ in_register n | false ↦ (elim j as (λ _. Source) [ true ↦ in_register n | false ↦ (elim k as (λ _. Source) [ true ↦ in_register n | false ↦ sources v ]) ]) ])
        go true j k = r
        go false true k = r
        go false false true = r
        go false false false = f

    kept_state : (P : Source → Type 0) → P (in_register n) → P (kept state)
    kept_state P r = subst (λ j. P (elim (state == last) as (λ _. Source) [ true ↦ in_register n | false ↦ (elim j as (λ _. Source) [ true ↦ in_register n | false ↦ (elim (state == tested) as (λ _. Source) [ true ↦ in_register n | false ↦ sources state ]) ]) ])) (sym (eq-eqb state state refl)) (go (state == last))
      where
        go : (i : Bool) → P (elim i as (λ _. Source) [ true ↦ in_register n | false ↦ in_register n ])
        go true = r
        go false = r

    kept_all : (P : Source → Type 0) (ty : Ty) (vals : List (ℕ × Ty)) → P (in_register n) → ((v : ℕ × Ty) → Contains vals v → P (sources v.0)) → (v : ℕ × Ty) → Contains ((state, ty) ∷ vals) v → P (kept v.0)
    kept_all P ty vals r f v (zero, lt, e) = subst (λ (y : ℕ × Ty). P (kept y.0)) e (kept_state P r)
    kept_all P ty vals r f v (suc j, lt, e) = kept_either P r v.0 (f v (j, omega arith, e))

  -- a Reduce or Fold, over a body of either sort
  module _ (style : Style) (fold : Bool) (acc : ℕ) (loops : List PlainCounter) (body : PlainStmts) (e : PlainExpr) (comb : Comb) (followed : AreStagesFollowed p roomy core body) (most : ℕ) (view : View) (b n place : ℕ) (s after : program_store.Store) (t : core_store.Store) (left rest : ℕ) (did : List program_shape.Shape)
      (typed : StmtTyped p view.scope (reduce style fold acc loops body e comb)) (seen : SourcesSeen view.scope view.sources) (right : HoldRightly p view.scope.mems s) (same : n ≡ b + length (beside_of (reduce style fold acc loops body e comb))) (spare : AreSpare b (n + length (inside (reduce style fold acc loops body e comb))) view)
      (declared : AreDeclared p core b (beside_of (reduce style fold acc loops body e comb) ++ inside (reduce style fold acc loops body e comb))) (own : (m : ℕ) → Contains (mems_declared body) m → IsOwn p view.scope m) (apart : Apart (mems_declared body ++ view.waiting)) (resets : (m : ℕ) → view.resets m ≡ false) (enough : left ≤ most)
      (a : Agree p core view [] s t) (ready : AreReady p core is_early left s t b (bounds_of loops)) (begun : fold ≡ false → HoldsWord p core t (b + length (registers_for is_early (bounds_of loops))) 0) (goes : run_kind p.mems roomy (reduce style fold acc loops body e comb) place left s ≡ step.went did rest after) where
    abbrev k : PlainStmtKind
    k = reduce style fold acc loops body e comb

    abbrev number : ℕ
    number = b + length (registers_for is_early (bounds_of loops))

    below : fold ≡ false → number < n
    below f = omega (arith, same, length-append (registers_for is_early (bounds_of loops)) (if fold then [] else begun_register ∷ []), ap (λ (x : Bool). length (if x then [] else begun_register ∷ [])) f)

    begun_spare : fold ≡ false → AreSpare number (suc number) view
    begun_spare f = let lt = below f in further b number (suc number) (n + length (inside k)) view (omega arith) (omega (arith, lt)) spare

    abbrev ending : Ending
    ending = ending_of loops e

    its_spare : is_inner body ≡ false → AreSpare n (n + length (registers body ending)) view
    unfolding inside
    its_spare i = subst (λ l. AreSpare n (n + length l) view) (ap (λ x. if x then [] else registers body ending) i) (spare_inner view b n k same spare declared)

    its_declared : is_inner body ≡ false → AreDeclared p core n (registers body ending)
    unfolding inside
    its_declared i = subst (AreDeclared p core n) (ap (λ x. if x then [] else registers body ending) i) (declared_inner view b n k same spare declared)

    now_at_first : (i : is_inner body ≡ false) (fold2 : Bool) → (fold2 ≡ false → IsAdded p core number × (t number ≡ Some (cells (Some 0 ∷ []))))
        → stage_reductions.Begun_now p core h roomy rooms most view seen loops body n acc e comb number place style (loop_quiet style typed.0) typed.2 typed.3 typed.5 (its_spare i) (its_declared i) (λ m d. own_within view.scope loops m (own m d)) apart resets followed fold2 fold2 t
    now_at_first i true f = refl
    now_at_first i false f = f refl

    reduce_follows : NodeGoes p core most view (node p.mems (length p.counters) view.sources b n k) t after did
    unfolding node
    reduce_follows = either (is_inner body)
        (λ i. reductions.reduction_goes p core h roomy body (λ m d lt is. rooms m lt is) most view seen loops typed.1 i typed.2 (apart_own body view.waiting apart) (λ m d. own_within view.scope loops m (own m (own_declared body m d))) resets acc e comb typed.3 typed.5 place b left rest style fold s after t did a ready goes n
        (λ f. ((begun f).0, begun_spare f, begun f)))
        (λ i. stage_reductions.reduction_goes p core h roomy rooms most view seen loops body n acc e comb number place style (loop_quiet style typed.0) typed.2 typed.3 typed.5 (its_spare i) (its_declared i)
        (λ m d. own_within view.scope loops m (own m d)) apart resets followed fold (λ f. ((begun f).0, begun_spare f, below f)) typed.1 b s after t left rest did enough right a ready (now_at_first i fold begun) i goes)

  -- a MemReduce
  module _ (style : Style) (acc : ℕ) (loops : List PlainCounter) (body : PlainStmts) (part : ℕ) (comb : Comb) (followed : AreStagesFollowed p roomy core body) (most : ℕ) (view : View) (b n place : ℕ) (s after : program_store.Store) (t : core_store.Store) (left rest : ℕ) (did : List program_shape.Shape)
      (typed : StmtTyped p view.scope (mem_reduce style acc loops body part comb)) (seen : SourcesSeen view.scope view.sources) (right : HoldRightly p view.scope.mems s) (same : n ≡ b + length (beside_of (mem_reduce style acc loops body part comb))) (spare : AreSpare b (n + length (inside (mem_reduce style acc loops body part comb))) view)
      (declared : AreDeclared p core b (beside_of (mem_reduce style acc loops body part comb) ++ inside (mem_reduce style acc loops body part comb))) (own : (m : ℕ) → Contains (mems_declared body) m → IsOwn p view.scope m) (apart : Apart (mems_declared body ++ view.waiting)) (resets : (m : ℕ) → view.resets m ≡ false) (enough : left ≤ most)
      (a : Agree p core view [] s t) (ready : AreReady p core is_early left s t b (bounds_of loops)) (begun : HoldsWord p core t (b + length (registers_for is_early (bounds_of loops))) 0) (goes : run_kind p.mems roomy (mem_reduce style acc loops body part comb) place left s ≡ step.went did rest after) where
    abbrev elements : PlainStmtKind
    elements = mem_reduce style acc loops body part comb

    abbrev its_begun : ℕ
    its_begun = b + length (registers_for is_early (bounds_of loops))

    its_begun_below : its_begun < n
    its_begun_below = omega (arith, same, length-append (registers_for is_early (bounds_of loops)) (begun_register ∷ []))

    elements_spare : AreSpare n (n + length (registers body no_more)) view
    unfolding inside
    elements_spare = spare_inner view b n elements same spare declared

    elements_declared : AreDeclared p core n (registers body no_more)
    unfolding inside
    elements_declared = declared_inner view b n elements same spare declared

    mem_reduce_follows : NodeGoes p core most view (node p.mems (length p.counters) view.sources b n elements) t after did
    unfolding node
    mem_reduce_follows =
        let lt = its_begun_below in
        mem_reduction_goes p core h roomy rooms most view seen loops body n part acc comb its_begun place style (loop_quiet style typed.0) typed.2 typed.3 typed.6 typed.7 typed.8 typed.9 elements_spare elements_declared (λ m d. own_within view.scope loops m (own m d)) apart resets followed begun.0
        (further b its_begun (suc its_begun) (n + length (inside elements)) view (omega arith) (omega (arith, lt)) spare) lt typed.1 b s after t left rest did enough right a ready begun.1 goes

  mutual
    unfolding inside

    pub stages_followed : (body : PlainStmts) → AreStagesFollowed p roomy core body
    stages_followed no_stmt = tt
    stages_followed (more_stmt (stmt place (declare m)) rest) = stages_followed rest
    stages_followed (more_stmt (stmt place (name v e)) rest) = stages_followed rest
    stages_followed (more_stmt (stmt place (set_reg m e)) rest) = stages_followed rest
    stages_followed (more_stmt (stmt place (set_out m e)) rest) = stages_followed rest
    stages_followed (more_stmt (stmt place (set_sram m xs e)) rest) = stages_followed rest
    stages_followed (more_stmt (stmt place (enq m e)) rest) = stages_followed rest
    stages_followed (more_stmt (stmt place one) rest) = (kind_followed one tt, stages_followed rest)

    kind_followed : (k : PlainStmtKind) → IsStageKind k → IsStageFollowed p roomy core k
    kind_followed (load_sram sram dram spans) stage most view b n place s after t left rest did typed seen right same spare declared own apart resets enough a ready begun goes =
        load_goes p core h ports roomy most view b s t left a spans place rest after did n ready sram dram typed goes
    kind_followed (load_line line dram spans) stage most view b n place s after t left rest did typed seen right same spare declared own apart resets enough a ready begun goes =
        line_goes p core h ports roomy most view b s t left a spans place rest after did n ready line dram typed
        (held_rows (expressions.dims p.mems line) (s.held line) (subst (λ K. IsContents K (expressions.dims p.mems line) (s.held line)) typed.0.is_kind (right line typed.0.seen))) goes
    kind_followed (store dram spans sram) stage most view b n place s after t left rest did typed seen right same spare declared own apart resets enough a ready begun goes =
        store_goes p core h ports roomy most view b s t left a spans place rest after did n ready dram sram typed goes
    kind_followed (gather sram dram places e) stage most view b n place s after t left rest did typed seen right same spare declared own apart resets enough a ready begun goes =
        gather_goes p core h ports roomy most view b s t left a e place rest after did n ready sram dram places typed goes
    kind_followed (scatter dram places e sram) stage most view b n place s after t left rest did typed seen right same spare declared own apart resets enough a ready begun goes =
        scatter_goes p core h ports roomy most view b s t left a e place rest after did n ready dram places sram typed goes
    kind_followed (block style body) stage most view b n place s after t left rest did typed seen right same spare declared own apart resets enough a ready begun goes =
        let k : PlainStmtKind = block style body in
        let sp = spare_inner view b n k same spare declared in
        let de = declared_inner view b n k same spare declared in
        either (is_stream (style_of p.mems (length p.counters) style body))
        (λ i. streams.block_goes p core h roomy rooms most view body n typed seen sp de own apart resets (stages_followed body) style i b place s after t left rest did enough right a goes)
        (λ i. controllers.block_goes p core roomy most view b n place s after t left rest did enough right a style body (no_rooms p.mems (length p.counters) style body i)
        (body_by body (stages_followed body) most view n (style_of p.mems (length p.counters) style body) i typed seen sp de own apart resets) goes)
    kind_followed (foreach style loops body) stage most view b n place s after t left rest did typed seen right same spare declared own apart resets enough a ready begun goes =
        let k : PlainStmtKind = foreach style loops body in
        controllers.loop_goes p core roomy most view b n place s after t left rest did enough right a h style loops body typed.1 typed.2 seen ready
        (λ around. body_by body (stages_followed body) most (record view { scope = with_counters view.scope loops; around = around }) n style (loop_quiet style typed.0) typed.2 (seen_within view.scope view.sources loops seen)
        (spare_within view loops around n (n + length (inside k)) (spare_inner view b n k same spare declared)) (declared_inner view b n k same spare declared) (λ m d. own_within view.scope loops m (own m d)) apart resets) goes
    kind_followed (branch test first second) stage most view b n place s after t left rest did typed seen right same spare declared own apart resets enough a ready begun goes =
        let k : PlainStmtKind = branch test first second in
        let one : List PlainMem = registers_in first no_more in
        let two : List PlainMem = registers_in second no_more in
        let long : length (one ++ two) ≡ length one + length two = length-append one two in
        let sp = spare_inner view b n k same spare declared in
        let de = declared_inner view b n k same spare declared in
        controllers.branch_goes p core roomy most view b n place s after t left rest did enough right a h test first second typed.0
        (body_by first (stages_followed first) most view n Pipe refl typed.1 seen (further n n (n + length one) (n + length (one ++ two)) view (omega arith) (omega (arith, long)) sp) (declared_left p core n one two de)
        (λ m d. own m (in_front (mems_declared first) (mems_declared second) m d)) (apart_left (mems_declared first) (mems_declared second) view.waiting apart) resets)
        (body_by second (stages_followed second) most view (n + length one) Pipe refl typed.2 seen (further n (n + length one) (n + length one + length two) (n + length (one ++ two)) view (omega arith) (omega (arith, long)) sp) (declared_right p core n (n + length one) one two refl de)
        (λ m d. own m (in_back (mems_declared first) (mems_declared second) m d)) (apart_after (mems_declared first) (mems_declared second) view.waiting apart) resets) goes
    kind_followed (fsm start tested test state body last next) stage most view b n place s after t left rest did typed seen right same spare declared own apart resets enough a ready begun goes =
        let k : PlainStmtKind = fsm start tested test state body last next in
        let sp = spare_inner view b n k same spare declared in
        let de = declared_inner view b n k same spare declared in
        let added : IsAdded p core n = subst (IsAdded p core) {x = n + 0} {y = n} (omega arith) (added_at p core h most n (inside k) 0 de (omega arith) (refl, refl)) in
        let regs : List PlainMem = registers_in body no_more in
        machine_goes p core h roomy most view b n place start tested test state body last next typed added (further n n (suc n) (n + suc (length regs)) view (omega arith) (omega arith) sp)
        (λ w. body_by body (stages_followed body) most (record view { scope = with_val view.scope state (type_of start); sources = with_state view.sources tested state last n; registers = (n, Some w) ∷ view.registers }) (suc n) Pipe refl typed.4
        (λ v d. kept_all view.sources tested state last n (SourceSeen view.scope) (type_of start) view.scope.vals tt seen v d)
        (λ v d. kept_all view.sources tested state last n (SourceBefore (suc n)) (type_of start) view.scope.vals (omega arith) (λ u f. before_more n (suc n) (view.sources u.0) (omega arith) (sp.0 u f)) v d, λ x d j le lt i. not_state n w view.registers x d j le i (λ f. sp.1 x f j (omega (arith, le)) (omega (arith, lt)) i))
        (declared_right p core n (suc n) (state_register (type_of start) ∷ []) regs (omega arith) de) (λ m d. let o = own m d in record { exists = o.exists; on_chip = o.on_chip; unseen = o.unseen }) apart resets)
        s after t left rest did enough right a goes
      where
        not_state : (n w : ℕ) (xs : List (ℕ × Option ℕ)) (x : ℕ × Option ℕ) → Contains ((n, Some w) ∷ xs) x → (j : ℕ) → suc n ≤ j → x.0 ≡ j → (Contains xs x → ⊥) → ⊥
        not_state n w xs x (zero, lt, e) j le i f = let q : n ≡ x.0 = ap (λ (y : ℕ × Option ℕ). y.0) e in omega (arith, q, i, le)
        not_state n w xs x (suc d, lt, e) j le i f = f (d, omega arith, e)
    kind_followed (reduce style fold acc loops body e comb) stage most view b n place s after t left rest did typed seen right same spare declared own apart resets enough a ready begun goes =
        reduce_follows style fold acc loops body e comb (stages_followed body) most view b n place s after t left rest did typed seen right same spare declared own apart resets enough a ready begun goes
    kind_followed (mem_reduce style acc loops body part comb) stage most view b n place s after t left rest did typed seen right same spare declared own apart resets enough a ready begun goes =
        mem_reduce_follows style acc loops body part comb (stages_followed body) most view b n place s after t left rest did typed seen right same spare declared own apart resets enough a ready begun goes
    kind_followed (declare m) stage most view b n place s after t left rest did typed seen right same spare declared own apart resets enough a ready begun goes = absurd stage
    kind_followed (name v e) stage most view b n place s after t left rest did typed seen right same spare declared own apart resets enough a ready begun goes = absurd stage
    kind_followed (set_reg m e) stage most view b n place s after t left rest did typed seen right same spare declared own apart resets enough a ready begun goes = absurd stage
    kind_followed (set_out m e) stage most view b n place s after t left rest did typed seen right same spare declared own apart resets enough a ready begun goes = absurd stage
    kind_followed (set_sram m xs e) stage most view b n place s after t left rest did typed seen right same spare declared own apart resets enough a ready begun goes = absurd stage
    kind_followed (enq m e) stage most view b n place s after t left rest did typed seen right same spare declared own apart resets enough a ready begun goes = absurd stage
