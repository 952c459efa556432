-- Early words are put into their registers.
use Rattle.std.proofs.Common.{◌≡◌, ℕ, suc, ◌+◌, ◌<◌, ◌≤◌, Bool, true, false, not, ◌&&◌, ◌==◌, List, [], ◌∷◌, ◌++◌, Option, Some, None, refl, sym, ◌∙◌, ap, subst, arith, length-append, if◌then◌else◌}
use Rattle.std.proofs.lemmas.Bool.{false≢true}
use Rattle.std.specs.Prelude.{length, slice_set}
use Rattle.sp_words.specs.Memory.{cells}
use Rattle.sp_words.specs.Types.{int_type}
use Rattle.sp_tree.specs.Expressions.{word}
use Rattle.sp_tree.specs.PlainExpression.{PlainExpr}
use Rattle.sp_tree.specs.PlainProgram.{PlainProgram}
use Rattle.sp_tree.specs.Step as step
use Rattle.sp_tree.specs.Store as program_store
use Rattle.sp_tree.specs.PlainStatement.{PlainSpan}
use Rattle.sp_tree.specs.Tallies.{tally}
use Rattle.sp_tree.specs.Typing.{HasTypeStill}
use Rattle.sp_core.specs.declared.operation.OpKind.TheVariants as kind
use Rattle.sp_core.specs.Accesses.{with_word}
use Rattle.sp_core.specs.Declarations.{dims}
use Rattle.sp_core.specs.Elements.{are_inside}
use Rattle.sp_core.specs.History.{Entry, Runs, touched, inner_ran, masked_run, more_run}
use Rattle.sp_core.specs.Operations.{done_by, operation, operations_after}
use Rattle.sp_core.specs.PlainCore.{PlainOp, PlainStages, PlainCore, inner}
use Rattle.sp_core.specs.Scope.{plainly}
use Rattle.sp_core.specs.Sequential.{renew_in_body, run, run_stages}
use Rattle.sp_core.specs.Shape.{shape_of, stage_shapes}
use Rattle.sp_core.specs.Step as core_step
use Rattle.sp_core.specs.Step.{went, pure}
use Rattle.sp_core.specs.Store as store
use Rattle.sp_sugar.specs.Agreement.{HasMemories, View, IsAdded, Agree, GoOn}
use Rattle.sp_sugar.specs.Early.{is_early, is_early_slice, is_early_part, parts_of, registers_for, after, into_register, stage_of, bound_stages, slice_ops, slice_stage}
use Rattle.sp_sugar.specs.Numbers.{crossing_register}
use Rattle.sp_sugar.specs.Operations.{Code, write_op, code}
use Rattle.sp_sugar.specs.Values.{Source, at_place, in_register, constant, count}
use Rattle.sp_sugar.proofs.Follows.{follows}
use Rattle.sp_sugar.proofs.GoOnLemmas.{agree_still, keeps_front, ops_append}
use Rattle.sp_sugar.proofs.MemoryLemmas.{changed_here, changed_elsewhere, core_writes}
use Rattle.sp_sugar.proofs.NumberLemmas.{either}
use Rattle.sp_sugar.proofs.StepLemmas.{same_answer, then_on}
use Rattle.sp_same.specs.Counts.{counts_of, stage_counts}
use Rattle.sp_same.specs.Following.{SourceBefore, AreSpare, AreReady, AreCells, EarlyGoes}
use Rattle.sp_same.proofs.Groups.{inner_alone}
use Rattle.sp_same.proofs.Registers.{agree_written}
use Rattle.sp_same.proofs.StillOps.{ops_still, code_still}

-- some of them are spare, too
pub further : (n k j m : ℕ) (view : View) → n ≤ k → j ≤ m → AreSpare n m view → AreSpare k j view
further n m j last view le under before = (λ v c. more (view.sources v.0) (before.0 v c), λ x c k a b e. before.1 x c k (omega (arith, le, a)) (omega (arith, under, b)) e)
  where
    more : (source : Source) → SourceBefore n source → SourceBefore m source
    more (at_place k) b = tt
    more (in_register r) b = omega (arith, le, b)
    more (constant c) b = tt
    more (count c) b = tt

module _ (p : PlainProgram) (core : PlainCore) (h : HasMemories p core) (most : ℕ) (view : View) (left : ℕ) (s : program_store.Store) where
  -- each has a word
  abbrev pub HaveWords : List PlainExpr → Type 0
  HaveWords [] = Unit {0}
  HaveWords (e ∷ es) = ((w : ℕ) × (word p.mems e left s ≡ step.went w left s)) × HaveWords es

  abbrev pub AreStill : List PlainExpr → Type 0
  AreStill [] = Unit {0}
  AreStill (e ∷ es) = HasTypeStill p view.scope int_type e × AreStill es

  -- one word, after operations that are done
  record Put (done : List Entry) (t : store.Store) (r w : ℕ) (ops : List PlainOp) : Type 0 where
    all : List Entry
    goes : operations_after core view.around done ops t ≡ went all (store.hold t r (cells (Some w ∷ [])))
    counted : length all ≡ length done + length ops
    agree : Agree p core view all s (store.hold t r (cells (Some w ∷ [])))

  module _ (done : List Entry) (t : store.Store) (r : ℕ) (e : PlainExpr) (w : ℕ) (at : ℕ) (same : at ≡ length done) (typed : HasTypeStill p view.scope int_type e) (is : word p.mems e left s ≡ step.went w left s) (added : IsAdded p core r) (o : Option ℕ) (cell : t r ≡ Some (cells (o ∷ []))) (before : AreSpare r (suc r) view) (a : Agree p core view done s t) where
    abbrev x : Code
    x = code p.mems view.sources at e

    abbrev write : PlainOp
    write = write_op int_type r (x.word ∷ [])

    abbrev holding : store.Store
    holding = store.hold t r (cells (Some w ∷ []))

    worked : GoOn p core view done x.ops t s (x.word ∷ []) (w ∷ [])
    worked = (follows p core h view e at done s s t left left w same typed.0.0 a is).1

    unmoved : worked.after ≡ t
    unmoved = ops_still core view.around x.ops done worked.all t worked.after (code_still p view.scope view.sources e at typed.0.0 typed.1) worked.goes

    writes : operation core view.around write worked.all t ≡ went (touched [] w) holding
    writes =
        ap (λ y. done_by core view.around kind.Write int_type (Some r) (y ∷ []) t) worked.give.1
        ∙ core_writes core view.around int_type r [] w t (cells (Some w ∷ [])) (ap (λ d. are_inside d []) added.has_none)
        (ap (λ y. with_word y (dims core r) [] w (t r)) added.is_kind ∙ ap (λ y. cells (slice_set (store.cells_of y) 0 (Some w))) cell)

    last : (all : List Entry) → operation core view.around write all t ≡ went (touched [] w) holding → operations_after core view.around all (write ∷ []) t ≡ went (all ++ touched [] w ∷ []) holding
    unfolding operations_after pure
    last all k = then_on (operation core view.around write all) (λ y. operations_after core view.around (all ++ y ∷ []) []) t (touched [] w) holding k

    put : Put done t r w (into_register p.mems view.sources at r e)
    put = record {
      all = worked.all ++ touched [] w ∷ [];
      goes = ops_append p core view x.ops (write ∷ []) done t worked.all worked.after worked.goes ∙ ap (λ u. operations_after core view.around worked.all (write ∷ []) u) unmoved ∙ last worked.all writes;
      counted = omega (arith, worked.counted, length-append worked.all (touched [] w ∷ []), length-append x.ops (write ∷ []));
      agree = agree_written p core h view (worked.all ++ touched [] w ∷ []) s t r w added before
          (subst (λ u. Agree p core view (worked.all ++ touched [] w ∷ []) s u) unmoved (agree_still p core view worked.all (worked.all ++ touched [] w ∷ []) s worked.after (keeps_front worked.all (touched [] w ∷ [])) worked.agree));
    }

  -- cells further on stay
  cells_still : (crosses : PlainExpr → Bool) (t : store.Store) (r w first : ℕ) (es : List PlainExpr) → r < first → AreCells p core crosses t first es → AreCells p core crosses (store.hold t r (cells (Some w ∷ []))) first es
  cells_still crosses t r w first [] lt c = tt
  cells_still crosses t r w first (e ∷ es) lt c = (
    λ k. let d = c.0 k in (d.0, (d.1.0, changed_elsewhere t r first (Some (cells (Some w ∷ []))) (λ e. omega (arith, e, lt)) ∙ d.1.1)),
    either (crosses e)
        (λ f. subst (λ b. AreCells p core crosses (store.hold t r (cells (Some w ∷ []))) (if b then suc first else first) es) (sym f)
        (cells_still crosses t r w (suc first) es (omega (arith, lt)) (subst (λ b. AreCells p core crosses t (if b then suc first else first) es) f c.1)))
        (λ f. subst (λ b. AreCells p core crosses (store.hold t r (cells (Some w ∷ []))) (if b then suc first else first) es) (sym f)
        (cells_still crosses t r w first es lt (subst (λ b. AreCells p core crosses t (if b then suc first else first) es) f c.1))),
  )

  -- a stage of its own: it holds, whatever stages come after it
  pub stage_goes : (ops : List PlainOp) (t u : store.Store) (all : List Entry) → operations_after core view.around [] ops t ≡ went all u → (rest : PlainStages) (live : ℕ → Bool) (runs : Runs) (end : store.Store) → live 0 ≡ true → run_stages core plainly most rest live view.around u ≡ went runs end
      → (run_stages core plainly most (stage_of ops rest) live view.around t ≡ went (more_run (inner_ran [] [] (all ∷ [])) runs) end) × (stage_counts (stage_of ops rest) (stage_shapes (stage_of ops rest) (more_run (inner_ran [] [] (all ∷ [])) runs)) ≡ stage_counts rest (stage_shapes rest runs))
  unfolding run_stages shape_of stage_shapes counts_of stage_counts core_step.in_order pure
  stage_goes ops t u all goes rest live runs end l later = (
    ap (λ b. (elim b as (λ _. core_step.Step Runs) [
      | true ↦ core_step.◌>>=◌ (run core plainly most (inner [] [] ops None) view.around) (λ h. core_step.◌>>=◌ (run_stages core plainly most rest live view.around) (λ others. pure (more_run h others)))
      | false ↦ core_step.◌>>=◌ (run_stages core plainly most rest live view.around) (λ others. pure (masked_run others))
    ]) t) l
        ∙ then_on (run core plainly most (inner [] [] ops None) view.around) (λ h. core_step.◌>>=◌ (run_stages core plainly most rest live view.around) (λ others. pure (more_run h others))) t (inner_ran [] [] (all ∷ [])) u
        (inner_alone core most [] ops None view.around all t u (then_on (core_step.in_order (renew_in_body core plainly most) []) (λ _. operations_after core view.around [] ops) t [] t refl ∙ goes))
        ∙ then_on (run_stages core plainly most rest live view.around) (λ others. pure (more_run (inner_ran [] [] (all ∷ [])) others)) u runs end later,
    refl,
  )

  -- words in their registers from a number on, and no register before it touched
  record Placed_words (crosses : PlainExpr → Bool) (r : ℕ) (es : List PlainExpr) (t u : store.Store) : Type 0 where
    ready : AreReady p core crosses left s u r es
    leaves : (k : ℕ) → k < r → u k ≡ t k

  none_placed : (crosses : PlainExpr → Bool) (r : ℕ) (e : PlainExpr) (es : List PlainExpr) (t u : store.Store) → crosses e ≡ false → Placed_words crosses r es t u → Placed_words crosses r (e ∷ es) t u
  none_placed crosses r e es t u f g = record {
    ready = (λ k. absurd (false≢true (sym f ∙ k)), subst (λ b. AreReady p core crosses left s u (if b then suc r else r) es) (sym f) g.ready);
    leaves = g.leaves;
  }

  one_placed : (crosses : PlainExpr → Bool) (r w : ℕ) (e : PlainExpr) (es : List PlainExpr) (t u : store.Store) → crosses e ≡ true → IsAdded p core r → word p.mems e left s ≡ step.went w left s → Placed_words crosses (suc r) es (store.hold t r (cells (Some w ∷ []))) u
      → Placed_words crosses r (e ∷ es) t u
  one_placed crosses r w e es t u f added is g = record {
    ready = (
      λ k v same. (added, g.leaves r (omega arith) ∙ changed_here t r r (Some (cells (Some w ∷ []))) refl ∙ ap (λ y. Some (cells (Some y ∷ []))) (same_answer w v left left s s (sym is ∙ same))),
      subst (λ b. AreReady p core crosses left s u (if b then suc r else r) es) (sym f) g.ready,
    );
    leaves = λ k lt. g.leaves k (omega (arith, lt)) ∙ changed_elsewhere t r k (Some (cells (Some w ∷ []))) (λ e. omega (arith, e, lt));
  }

  later_cells : (crosses : PlainExpr → Bool) (r : ℕ) (e : PlainExpr) (es : List PlainExpr) (t : store.Store) (b : Bool) → crosses e ≡ b → AreCells p core crosses t r (e ∷ es) → AreCells p core crosses t (if b then suc r else r) es
  later_cells crosses r e es t b f c = subst (λ b. AreCells p core crosses t (if b then suc r else r) es) f c.1

  -- how many registers there are
  count_later : (crosses : PlainExpr → Bool) (e : PlainExpr) (es : List PlainExpr) (b : Bool) → crosses e ≡ b → length (registers_for crosses (e ∷ es)) ≡ (if b then suc (length (registers_for crosses es)) else length (registers_for crosses es))
  count_later crosses e es b f = ap (λ b. length ((if b then crossing_register int_type ∷ [] else []) ++ registers_for crosses es)) f ∙ count_by_choice b
    where
      count_by_choice : (b : Bool) → length ((if b then crossing_register int_type ∷ [] else []) ++ registers_for crosses es) ≡ (if b then suc (length (registers_for crosses es)) else length (registers_for crosses es))
      count_by_choice true = refl
      count_by_choice false = refl

  -- bounds, a stage each
  abbrev Continues : (PlainStages → PlainStages) → (t u : store.Store) → Type 0
  Continues early t u =
      (rest : PlainStages) (live : ℕ → Bool) (runs : Runs) (end : store.Store) → live 0 ≡ true → run_stages core plainly most rest live view.around u ≡ went runs end
      → (all : Runs) × (run_stages core plainly most (early rest) live view.around t ≡ went all end) × (stage_counts (early rest) (stage_shapes (early rest) all) ≡ stage_counts rest (stage_shapes rest runs))

  record Bounds_put (r : ℕ) (es : List PlainExpr) (t : store.Store) : Type 0 where
    end : store.Store
    agree : Agree p core view [] s end
    placed : Placed_words is_early r es t end
    goes : Continues (bound_stages p.mems view.sources r es) t end

  bounds_put : (last r : ℕ) (es : List PlainExpr) (t : store.Store) → r + length (registers_for is_early es) ≤ last → AreStill es → HaveWords es → AreCells p core is_early t r es → AreSpare r last view → Agree p core view [] s t → Bounds_put r es t
  bounds_put last r [] t fits still words cs before a = record { end = t; agree = a; placed = record { ready = tt; leaves = λ k lt. refl }; goes = λ rest live runs end l later. (runs, later, refl) }
  bounds_put last r (e ∷ es) t fits still words cs before a = either (is_early e)
      (λ f.
      let w : ℕ = words.0.0 in
      let cell = cs.0 f in
      let spare : AreSpare r (suc r) view = further r r (suc r) last view (omega arith) (omega (arith, fits, count_later is_early e es true f)) before in
      let one = put [] t r e w 0 refl still.0 words.0.1 cell.0 cell.1.0 cell.1.1 spare a in
      let u : store.Store = store.hold t r (cells (Some w ∷ [])) in
      let more = bounds_put last (suc r) es u (omega (arith, fits, count_later is_early e es true f)) still.1 words.1 (cells_still is_early t r w (suc r) es (omega arith) (later_cells is_early r e es t true f cs)) (further r (suc r) last last view (omega arith) (omega arith) before)
      (agree_written p core h view [] s t r w cell.0 spare a) in
      record {
        end = more.end;
        agree = more.agree;
        placed = one_placed is_early r w e es t more.end f cell.0 words.0.1 more.placed;
        goes = λ rest live runs end l later.
            let i = more.goes rest live runs end l later in
            let g = stage_goes (into_register p.mems view.sources 0 r e) t u one.all one.goes (bound_stages p.mems view.sources (suc r) es rest) live i.0 end l i.1 in
            subst (λ b. (all : Runs) × (run_stages core plainly most (if b then stage_of (into_register p.mems view.sources 0 r e) (bound_stages p.mems view.sources (suc r) es rest) else bound_stages p.mems view.sources r es rest) live view.around t ≡ went all end)
            × (stage_counts (if b then stage_of (into_register p.mems view.sources 0 r e) (bound_stages p.mems view.sources (suc r) es rest) else bound_stages p.mems view.sources r es rest) (stage_shapes (if b then stage_of (into_register p.mems view.sources 0 r e) (bound_stages p.mems view.sources (suc r) es rest) else bound_stages p.mems view.sources r es rest) all) ≡ stage_counts rest (stage_shapes rest runs)))
            (sym f) (more_run (inner_ran [] [] (one.all ∷ [])) i.0, g.0, g.1 ∙ i.2);
      })
      (λ f.
      let more = bounds_put last r es t (omega (arith, fits, count_later is_early e es false f)) still.1 words.1 (later_cells is_early r e es t false f cs) before a in
      record {
        end = more.end;
        agree = more.agree;
        placed = none_placed is_early r e es t more.end f more.placed;
        goes = λ rest live runs end l later.
            subst (λ b. (all : Runs) × (run_stages core plainly most (if b then stage_of (into_register p.mems view.sources 0 r e) (bound_stages p.mems view.sources (suc r) es rest) else bound_stages p.mems view.sources r es rest) live view.around t ≡ went all end)
            × (stage_counts (if b then stage_of (into_register p.mems view.sources 0 r e) (bound_stages p.mems view.sources (suc r) es rest) else bound_stages p.mems view.sources r es rest) (stage_shapes (if b then stage_of (into_register p.mems view.sources 0 r e) (bound_stages p.mems view.sources (suc r) es rest) else bound_stages p.mems view.sources r es rest) all) ≡ stage_counts rest (stage_shapes rest runs)))
            (sym f) (more.goes rest live runs end l later);
      })

  -- the parts of a slice, in one stage
  record Parts_put (crosses : PlainExpr → Bool) (done : List Entry) (r : ℕ) (es : List PlainExpr) (t : store.Store) (ops : List PlainOp) : Type 0 where
    all : List Entry
    end : store.Store
    goes : operations_after core view.around done ops t ≡ went all end
    agree : Agree p core view [] s end
    placed : Placed_words crosses r es t end

  parts_put : (crosses : PlainExpr → Bool) (last : ℕ) (done : List Entry) (at r : ℕ) (es : List PlainExpr) (t : store.Store) → r + length (registers_for crosses es) ≤ last → at ≡ length done → AreStill es → HaveWords es → AreCells p core crosses t r es → AreSpare r last view → Agree p core view [] s t → Agree p core view done s t
      → Parts_put crosses done r es t (slice_ops p.mems view.sources crosses at r es)
  unfolding operations_after pure
  parts_put crosses last done at r [] t fits same still words cs before a b = record { all = done; end = t; goes = refl; agree = a; placed = record { ready = tt; leaves = λ k lt. refl } }
  parts_put crosses last done at r (e ∷ es) t fits same still words cs before a b =
      let chosen : Bool → List PlainOp = λ c. let first : List PlainOp = if c then into_register p.mems view.sources at r e else [] in first ++ slice_ops p.mems view.sources crosses (at + length first) (if c then suc r else r) es in
      either (crosses e)
      (λ f.
      let w : ℕ = words.0.0 in
      let cell = cs.0 f in
      let spare : AreSpare r (suc r) view = further r r (suc r) last view (omega arith) (omega (arith, fits, count_later crosses e es true f)) before in
      let one = put done t r e w at same still.0 words.0.1 cell.0 cell.1.0 cell.1.1 spare b in
      let u : store.Store = store.hold t r (cells (Some w ∷ [])) in
      let ops : List PlainOp = into_register p.mems view.sources at r e in
      let more = parts_put crosses last one.all (at + length ops) (suc r) es u (omega (arith, fits, count_later crosses e es true f)) (omega (arith, same, one.counted)) still.1 words.1 (cells_still crosses t r w (suc r) es (omega arith) (later_cells crosses r e es t true f cs)) (further r (suc r) last last view (omega arith) (omega arith) before)
      (agree_written p core h view [] s t r w cell.0 spare a) one.agree in
      subst (λ c. Parts_put crosses done r (e ∷ es) t (chosen c)) (sym f) (record {
        all = more.all;
        end = more.end;
        goes = ops_append p core view ops (slice_ops p.mems view.sources crosses (at + length ops) (suc r) es) done t one.all u one.goes ∙ more.goes;
        agree = more.agree;
        placed = one_placed crosses r w e es t more.end f cell.0 words.0.1 more.placed;
      }))
      (λ f.
      let more = parts_put crosses last done (at + 0) r es t (omega (arith, fits, count_later crosses e es false f)) (omega (arith, same)) still.1 words.1 (later_cells crosses r e es t false f cs) before a b in
      subst (λ c. Parts_put crosses done r (e ∷ es) t (chosen c)) (sym f) (record {
        all = more.all;
        end = more.end;
        goes = more.goes;
        agree = more.agree;
        placed = none_placed crosses r e es t more.end f more.placed;
      }))

  -- no part of a slice that isn't early crosses
  none_early : (crosses : PlainExpr → Bool) (r : ℕ) (es : List PlainExpr) (t : store.Store) → ((e : PlainExpr) → crosses e ≡ false) → AreReady p core crosses left s t r es
  none_early crosses r [] t f = tt
  none_early crosses r (e ∷ es) t f = (λ k. absurd (false≢true (sym (f e) ∙ k)), none_early crosses (after crosses r e) es t f)

  pub bounds_early : (r : ℕ) (es : List PlainExpr) (t : store.Store) → AreStill es → HaveWords es → AreCells p core is_early t r es → AreSpare r (r + length (registers_for is_early es)) view → Agree p core view [] s t
      → EarlyGoes p core most view is_early es r (bound_stages p.mems view.sources r es) left t s
  bounds_early r es t still words cs before a = let g = bounds_put (r + length (registers_for is_early es)) r es t (omega arith) still words cs before a in record { after = g.end; agree = g.agree; ready = g.placed.ready; goes = g.goes }

  pub slice_early : (r : ℕ) (spans : List PlainSpan) (t : store.Store) → AreStill (parts_of spans) → HaveWords (parts_of spans) → AreCells p core (is_early_part spans) t r (parts_of spans) → AreSpare r (r + length (registers_for (is_early_part spans) (parts_of spans))) view → Agree p core view [] s t
      → EarlyGoes p core most view (is_early_part spans) (parts_of spans) r (slice_stage p.mems view.sources r spans) left t s
  slice_early r spans t still words cs before a =
      let ops : List PlainOp = slice_ops p.mems view.sources (is_early_part spans) 0 r (parts_of spans) in
      either (is_early_slice spans)
      (λ f.
      let g = parts_put (is_early_part spans) (r + length (registers_for (is_early_part spans) (parts_of spans))) [] 0 r (parts_of spans) t (omega arith) refl still words cs before a a in
      subst (λ b. EarlyGoes p core most view (is_early_part spans) (parts_of spans) r (λ rest. if b then stage_of ops rest else rest) left t s) (sym f)
      (record { after = g.end; agree = g.agree; ready = g.placed.ready; goes = λ rest live runs end l later. let i = stage_goes ops t g.end g.all g.goes rest live runs end l later in (more_run (inner_ran [] [] (g.all ∷ [])) runs, i.0, i.1) }))
      (λ f.
      subst (λ b. EarlyGoes p core most view (is_early_part spans) (parts_of spans) r (λ rest. if b then stage_of ops rest else rest) left t s) (sym f)
      (record { after = t; agree = a; ready = none_early (is_early_part spans) r (parts_of spans) t (λ e. ap (λ b. b && not ((tally e).operations == 0)) f); goes = λ rest live runs end l later. (runs, later, refl) }))
