-- Statements of a body with stages that are neither controllers nor transfers: their operations go on as they do.
use Rattle.std.proofs.Common.{◌≡◌, ℕ, zero, suc, false, ◌&&◌, ◌==◌, List, [], ◌∷◌, ◌++◌, Option, Some, None, refl, sym, ◌∙◌, ap, subst, arith, length-append, append_assoc}
use Rattle.std.proofs.lemmas.Bool.{eqb-true, eqb-false}
use Rattle.std.specs.Prelude.{length, slice_set, Contains}
use Rattle.sp_words.specs.declared.types.Ty.{Ty}
use Rattle.sp_words.specs.Memory.{Contents, cells, fresh_of}
use Rattle.sp_tree.specs.Expressions as expressions
use Rattle.sp_tree.specs.PlainExpression.{PlainExpr, PlainExprs, type_of}
use Rattle.sp_tree.specs.PlainProgram.{PlainProgram}
use Rattle.sp_tree.specs.PlainStatement.{PlainStmtKind, PlainStmts, stmt, declare, set_reg, set_out, set_sram, enq, no_stmt, more_stmt}
use Rattle.sp_tree.specs.Sequential.{run_kind}
use Rattle.sp_tree.specs.Shape.{Shape}
use Rattle.sp_tree.specs.Step as step
use Rattle.sp_tree.specs.Store as program_store
use Rattle.sp_tree.specs.Typing.{Scope, with_mem, with_val, Typed, StmtTyped}
use Rattle.sp_core.specs.declared.operation.OpKind.TheVariants as kind
use Rattle.sp_core.specs.Accesses.{with_word}
use Rattle.sp_core.specs.Declarations.{dims}
use Rattle.sp_core.specs.Elements.{are_inside}
use Rattle.sp_core.specs.History.{Entry, touched}
use Rattle.sp_core.specs.Operations.{done_by, operation, operations_after}
use Rattle.sp_core.specs.PlainCore.{PlainOp, PlainCore}
use Rattle.sp_core.specs.Sequential.{has_reset}
use Rattle.sp_core.specs.Step as core_step
use Rattle.sp_core.specs.Store as store
use Rattle.sp_sugar.specs.Agreement.{HasMemories, View, at_run, IsAdded, Finds, Agree, GoOn}
use Rattle.sp_sugar.specs.Numbers.{mem_number}
use Rattle.sp_sugar.specs.Operations.{Code, Codes, accesses, write_op, codes}
use Rattle.sp_sugar.specs.Runs.{Run, with_ops, next_code, with_computed, with_stmt}
use Rattle.sp_sugar.specs.Values.{Source, at_place, in_register, constant, Sources, with_value}
use Rattle.sp_sugar.proofs.GoOnLemmas.{agree_still, keeps_front, ops_append}
use Rattle.sp_sugar.proofs.InnerRuns.{Goes, rescoped, agree_named, computed, stmt_follows}
use Rattle.sp_sugar.proofs.MemoryLemmas.{changed_here, changed_elsewhere, core_writes, agree_declared}
use Rattle.sp_sugar.proofs.NumberLemmas.{either}
use Rattle.sp_sugar.proofs.RunKeeps.{in_back}
use Rattle.sp_sugar.proofs.StepLemmas.{as_it_went, then_on}
use Rattle.sp_same.specs.Following.{SourceBefore, AreSpare}
use Rattle.sp_same.proofs.Registers.{agree_written}
use Rattle.sp_same.specs.Contents.{HoldRightly}
use Rattle.sp_bodies.specs.Bodies.{HaveRoomsAlike}
use Rattle.sp_bodies.proofs.Known.{Known, KnownHere, known_more, here_more, value_stays}

-- what holds of the sources of values, after another one is named
module _ (P : Source → ℕ → Type 0) (sources : Sources) (vals : List (ℕ × Ty)) (v w : ℕ) (ty : Ty) (source : Source) (s : program_store.Store) where
  pub named_all : ((u : ℕ × Ty) → Contains vals u → P (sources u.0) (s.values u.0)) → P source w → (u : ℕ × Ty) → Contains ((v, ty) ∷ vals) u → P (store.changed sources v source u.0) ((program_store.name_value s v w).values u.0)
  named_all f g u c = either (u.0 == v)
      (λ e. let i : u.0 ≡ v = eqb-true u.0 v e in
      subst (λ x. P x ((program_store.name_value s v w).values u.0)) (sym (changed_here sources v u.0 source i))
      (subst (P source) (sym (changed_here s.values v u.0 w i)) g))
      (λ e. let ne : u.0 ≡ v → ⊥ = eqb-false u.0 v e in
      subst (λ x. P x ((program_store.name_value s v w).values u.0)) (sym (changed_elsewhere sources v u.0 source ne))
      (subst (P (sources u.0)) (sym (changed_elsewhere s.values v u.0 w ne)) (f u (before u c ne))))
    where
      before : (u : ℕ × Ty) → Contains ((v, ty) ∷ vals) u → (u.0 ≡ v → ⊥) → Contains vals u
      before u (zero, lt, e) ne = absurd (ne (ap (λ (x : ℕ × Ty). x.0) (sym e)))
      before u (suc j, lt, e) ne = (j, omega arith, e)

module _ (p : PlainProgram) (core : PlainCore) (h : HasMemories p core) (outer : View) where
  abbrev pub view_at : Scope → (waiting : List ℕ) → (registers : List (ℕ × Option ℕ)) → View
  view_at scope waiting registers = record outer { scope = scope; waiting = waiting; registers = registers }

  -- at a place among the statements of a body: the operations so far have gone on; a value that stands outside of them is in a
  -- register that is kept with its word, or a constant or a counter; so are all values after this stage; fresh registers wait
  -- beside those that are kept
  pub record Standing (scope : Scope) (waiting : List ℕ) (fresh kept : List (ℕ × Option ℕ)) (run : Run) (t : store.Store) (s : program_store.Store) : Type 0 where
    pub goes : Goes p core h (view_at scope waiting (fresh ++ kept)) run t s
    pub here : (v : ℕ × Ty) → Contains scope.vals v → KnownHere outer.around kept (run.values.here v.0) (s.values v.0)
    pub later : (v : ℕ × Ty) → Contains scope.vals v → Known outer.around kept (run.values.elsewhere v.0) (s.values v.0)
    pub shaped : HoldRightly p scope.mems s

  -- fewer registers are kept
  pub fewer_registers : (view : View) (registers : List (ℕ × Option ℕ)) (done : List Entry) (s : program_store.Store) (t : store.Store) → ((x : ℕ × Option ℕ) → Contains registers x → Contains view.registers x) → Agree p core view done s t → Agree p core (record view { registers = registers }) done s t
  fewer_registers view registers done s t f a = record {
    mems = a.mems;
    vals = a.vals;
    counts = a.counts;
    waiting = λ m c. let x = a.waiting m c in record { exists = x.exists; on_chip = x.on_chip; unseen = x.unseen; holds = x.holds };
    registers = λ x c. a.registers x (f x c);
  }

  module _ (scope : Scope) (waiting : List ℕ) (fresh kept : List (ℕ × Option ℕ)) (run : Run) (t : store.Store) (s : program_store.Store) (g : Standing scope waiting fresh kept run t s) where
    abbrev pub view : View
    view = view_at scope waiting (fresh ++ kept)

    -- operations are added
    module _ (ops more : List PlainOp) (same : ops ≡ run.ops ++ more) (after : program_store.Store) (ks ws : List ℕ) (two : GoOn p core (at_run view run) [] ops t after ks ws) where
      values_stay : (v : ℕ × Ty) → Contains scope.vals v → after.values v.0 ≡ s.values v.0
      values_stay v c =
          let there : GoOn p core (at_run view run) [] (run.ops ++ more) t after ks ws = subst (λ o. GoOn p core (at_run view run) [] o t after ks ws) same two in
          value_stays p core (at_run view run) (at_run view run) run.ops more t s after [] ks [] ws g.goes there refl refl (run.values.here v.0) (s.values v.0) (after.values v.0)
          (here_more outer.around kept (fresh ++ kept) (run.values.here v.0) (s.values v.0) (λ x d. in_back fresh kept x d) (g.here v c)) (g.goes.agree.vals v c) (there.agree.vals v c)

      here_after : (v : ℕ × Ty) → Contains scope.vals v → KnownHere outer.around kept (run.values.here v.0) (after.values v.0)
      here_after v c = subst (KnownHere outer.around kept (run.values.here v.0)) (sym (values_stay v c)) (g.here v c)

      pub later_after : (v : ℕ × Ty) → Contains scope.vals v → Known outer.around kept (run.values.elsewhere v.0) (after.values v.0)
      later_after v c = subst (Known outer.around kept (run.values.elsewhere v.0)) (sym (values_stay v c)) (g.later v c)

    added_on : (ops more : List PlainOp) → ops ≡ run.ops ++ more → (after : program_store.Store) → HoldRightly p scope.mems after → Goes p core h view (record { ops = ops; values = run.values }) t after → Standing scope waiting fresh kept (record { ops = ops; values = run.values }) t after
    added_on ops more same after shaped two = record { goes = two; here = here_after ops more same after [] [] two; later = later_after ops more same after [] [] two; shaped = shaped }

    -- writes and puts
    module _ (roomy : List ℕ) (rooms : HaveRoomsAlike p roomy core) (place left rest : ℕ) (did : List Shape) (after : program_store.Store) (shaped : HoldRightly p scope.mems after) where
      abbrev Alone_stmt : PlainStmtKind → PlainStmts
      Alone_stmt k = more_stmt (stmt place k) no_stmt

      pub reg_stands : (m : ℕ) (e : PlainExpr) → StmtTyped p scope (set_reg m e) → run_kind p.mems roomy (set_reg m e) place left s ≡ step.went did rest after → (did ≡ []) × Standing scope waiting fresh kept (with_stmt p.mems false None run (set_reg m e)) t after
      reg_stands m e typed went =
          let k : PlainStmtKind = set_reg m e in
          let x = stmt_follows p core h roomy (Alone_stmt k) (λ m c lt is. rooms m lt is) view run t k place s after left rest did g.goes typed went tt tt in
          (x.0, added_on (with_stmt p.mems false None run k).ops ((next_code p.mems run e).ops ++ write_op (expressions.mem p.mems m).ty (mem_number p.mems m) ((next_code p.mems run e).word ∷ []) ∷ []) refl after shaped x.1)

      pub out_stands : (m : ℕ) (e : PlainExpr) → StmtTyped p scope (set_out m e) → run_kind p.mems roomy (set_out m e) place left s ≡ step.went did rest after → (did ≡ []) × Standing scope waiting fresh kept (with_stmt p.mems false None run (set_out m e)) t after
      out_stands m e typed went =
          let k : PlainStmtKind = set_out m e in
          let x = stmt_follows p core h roomy (Alone_stmt k) (λ m c lt is. rooms m lt is) view run t k place s after left rest did g.goes typed went tt tt in
          (x.0, added_on (with_stmt p.mems false None run k).ops ((next_code p.mems run e).ops ++ write_op (expressions.mem p.mems m).ty (mem_number p.mems m) ((next_code p.mems run e).word ∷ []) ∷ []) refl after shaped x.1)

      pub sram_stands : (m : ℕ) (xs : PlainExprs) (e : PlainExpr) → StmtTyped p scope (set_sram m xs e) → run_kind p.mems roomy (set_sram m xs e) place left s ≡ step.went did rest after → (did ≡ []) × Standing scope waiting fresh kept (with_stmt p.mems false None run (set_sram m xs e)) t after
      sram_stands m xs e typed went =
          let k : PlainStmtKind = set_sram m xs e in
          let is : Codes = codes p.mems run.values.here (length run.ops) xs in
          let c : Code = next_code p.mems (with_ops run is.ops) e in
          let last : List PlainOp = c.ops ++ write_op (expressions.mem p.mems m).ty (mem_number p.mems m) (is.words ++ c.word ∷ []) ∷ [] in
          let x = stmt_follows p core h roomy (Alone_stmt k) (λ m c lt is. rooms m lt is) view run t k place s after left rest did g.goes typed went tt tt in
          (x.0, added_on (with_stmt p.mems false None run k).ops (is.ops ++ last) (append_assoc run.ops is.ops last) after shaped x.1)

      pub enq_stands : (m : ℕ) (e : PlainExpr) → StmtTyped p scope (enq m e) → run_kind p.mems roomy (enq m e) place left s ≡ step.went did rest after → (did ≡ []) × Standing scope waiting fresh kept (with_stmt p.mems false None run (enq m e)) t after
      enq_stands m e typed went =
          let k : PlainStmtKind = enq m e in
          let x = stmt_follows p core h roomy (Alone_stmt k) (λ m c lt is. rooms m lt is) view run t k place s after left rest did g.goes typed went tt (0, omega arith, refl) in
          (x.0, added_on (with_stmt p.mems false None run k).ops ((next_code p.mems run e).ops ++ accesses kind.Enq (expressions.mem p.mems m).ty (mem_number p.mems m) ((next_code p.mems run e).word ∷ []) ∷ []) refl after shaped x.1)

    -- a declaration: its memory is fresh already
    pub declare_stands : (roomy : List ℕ) (m : ℕ) (others : List ℕ) (place left rest : ℕ) (did : List Shape) (after : program_store.Store) → HoldRightly p (m ∷ scope.mems) after → waiting ≡ m ∷ others → (Contains others m → ⊥) → ((k : ℕ) → outer.resets k ≡ false) → run_kind p.mems roomy (declare m) place left s ≡ step.went did rest after
        → (did ≡ []) × Standing (with_mem scope m) others fresh kept run t after
    unfolding run_kind step.◌>>=◌ step.pure step.change
    declare_stands roomy m others place left rest did after shaped same apart resets went =
        let c : Contents = fresh_of (expressions.mem p.mems m).kind (expressions.mem p.mems m).dims (expressions.mem p.mems m).start [] in
        let w = g.goes.agree.waiting m (subst (λ l. Contains l m) (sym same) (0, omega arith, refl)) in
        let a = agree_declared p core (at_run view run) m others g.goes.all s g.goes.after g.goes.after c g.goes.agree w (λ k d. subst (λ l. Contains l k) (sym same) (suc d.0, omega (arith, d.1), d.2)) apart
        (w.holds (ap (λ b. b && has_reset (expressions.mem p.mems m).kind (expressions.mem p.mems m).start) (resets m))) (λ k ne. refl) h in
        as_it_went (λ x n u. HoldRightly p (m ∷ scope.mems) u → (x ≡ []) × Standing (with_mem scope m) others fresh kept run t u) [] did left rest (program_store.hold s m c) after went
        (λ ok. (refl, record { goes = rescoped p core h (at_run view run) (with_mem scope m) run.values.here others [] run.ops t s (program_store.hold s m c) [] [] g.goes a; here = g.here; later = g.later; shaped = ok })) shaped

    -- a value is named
    module _ (v : ℕ) (ty : Ty) (w : ℕ) (now elsewhere : Source) where
      abbrev named_store : program_store.Store → program_store.Store
      named_store u = program_store.name_value u v w

      -- by a source that stands already
      pub bare_stands : Finds p core outer.around g.goes.all g.goes.after now w → KnownHere outer.around kept now w → Known outer.around kept elsewhere w → HoldRightly p scope.mems (named_store s) → Standing (with_val scope v ty) waiting fresh kept (record { ops = run.ops; values = with_value run.values v now elsewhere }) t (named_store s)
      bare_stands found known known_later shaped = record {
        goes = rescoped p core h (at_run view run) (with_val scope v ty) (store.changed run.values.here v now) waiting [] run.ops t s (named_store s) [] [] g.goes
            (agree_named p core h (at_run view run) v w ty now g.goes.all s g.goes.after g.goes.agree found);
        here = named_all (KnownHere outer.around kept) run.values.here scope.vals v w ty now s g.here known;
        later = named_all (Known outer.around kept) run.values.elsewhere scope.vals v w ty elsewhere s g.later known_later;
        shaped = shaped;
      }

    -- by operations
    module _ (v : ℕ) (e : PlainExpr) (typed : Typed p scope e) (left n w : ℕ) (u : program_store.Store) (went : expressions.word p.mems e left s ≡ step.went w n u) (shaped : HoldRightly p scope.mems (program_store.name_value u v w)) where
      abbrev pub x : Code
      x = next_code p.mems run e

      abbrev named : program_store.Store
      named = program_store.name_value u v w

      pub worked : GoOn p core (at_run view run) [] (run.ops ++ x.ops) t u (x.word ∷ []) (w ∷ [])
      worked = computed p core h view run t s left g.goes e typed n u w went

      -- where no later stage uses it, it stands for its word there
      abbrev pub here_alone : Run
      here_alone = record { ops = run.ops ++ x.ops; values = with_value run.values v (at_place x.word) (constant w) }

      pub alone_stands : Standing (with_val scope v (type_of e)) waiting fresh kept here_alone t named
      alone_stands = record {
        goes = rescoped p core h (at_run view run) (with_val scope v (type_of e)) (store.changed run.values.here v (at_place x.word)) waiting [] (run.ops ++ x.ops) t u named (x.word ∷ []) (w ∷ []) worked
            (agree_named p core h (at_run view run) v w (type_of e) (at_place x.word) worked.all u worked.after worked.agree (worked.give.0, worked.give.1));
        here = named_all (KnownHere outer.around kept) run.values.here scope.vals v w (type_of e) (at_place x.word) u (here_after (run.ops ++ x.ops) x.ops refl u (x.word ∷ []) (w ∷ []) worked) tt;
        later = named_all (Known outer.around kept) run.values.elsewhere scope.vals v w (type_of e) (constant w) u (later_after (run.ops ++ x.ops) x.ops refl u (x.word ∷ []) (w ∷ []) worked) refl;
        shaped = shaped;
      }

      -- where one does, its word is written into a register that was fresh
      module _ (r : ℕ) (others : List (ℕ × Option ℕ)) (first : fresh ≡ (r, None) ∷ others) (before : (y : ℕ × Ty) → Contains scope.vals y → SourceBefore r (run.values.here y.0)) (clear : (y : ℕ × Option ℕ) → Contains (others ++ kept) y → y.0 ≡ r → ⊥) where
        abbrev pub fewer : View
        fewer = record (at_run view run) { registers = others ++ kept }

        cell : IsAdded p core r × (worked.after r ≡ Some (cells (None ∷ [])))
        cell = worked.agree.registers (r, None) (subst (λ l. Contains (l ++ kept) (r, None)) (sym first) (0, omega arith, refl))

        abbrev pub holding : store.Store
        holding = store.hold worked.after r (cells (Some w ∷ []))

        abbrev pub write : PlainOp
        write = write_op (type_of e) r (x.word ∷ [])

        abbrev pub all_too : List Entry
        all_too = worked.all ++ touched [] w ∷ []

        spare : AreSpare r (suc r) fewer
        spare = (λ y c. before y c, λ y c k le lt e. clear y c (omega (arith, e, le, lt)))

        writes : operation core outer.around write worked.all worked.after ≡ core_step.went (touched [] w) holding
        writes =
            ap (λ y. done_by core outer.around kind.Write (type_of e) (Some r) (y ∷ []) worked.after) worked.give.1
            ∙ core_writes core outer.around (type_of e) r [] w worked.after (cells (Some w ∷ [])) (ap (λ d. are_inside d []) cell.0.has_none)
            (ap (λ y. with_word y (dims core r) [] w (worked.after r)) cell.0.is_kind ∙ ap (λ y. cells (slice_set (store.cells_of y) 0 (Some w))) cell.1)

        pub goes_too : operations_after core outer.around [] ((run.ops ++ x.ops) ++ write ∷ []) t ≡ core_step.went all_too holding
        unfolding operations_after core_step.pure
        goes_too = ops_append p core fewer (run.ops ++ x.ops) (write ∷ []) [] t worked.all worked.after worked.goes
            ∙ then_on (operation core outer.around write worked.all) (λ y. operations_after core outer.around (worked.all ++ y ∷ []) []) worked.after (touched [] w) holding writes

        wrote : Agree p core fewer all_too u holding
        wrote = agree_written p core h fewer all_too u worked.after r w cell.0 spare
            (agree_still p core fewer worked.all all_too u worked.after (keeps_front worked.all (touched [] w ∷ []))
            (fewer_registers (at_run view run) (others ++ kept) worked.all u worked.after (λ y c. subst (λ l. Contains (l ++ kept) y) (sym first) (suc c.0, omega (arith, c.1), c.2)) worked.agree))

        abbrev pub kept_too : List (ℕ × Option ℕ)
        kept_too = (r, Some w) ∷ kept

        in_both : (xs ys : List (ℕ × Option ℕ)) (z y : ℕ × Option ℕ) → {P : Type 0} → Contains (xs ++ z ∷ ys) y → (Contains (xs ++ ys) y → P) → (z ≡ y → P) → P
        in_both [] ys z y (zero, lt, e) f k = k e
        in_both [] ys z y (suc j, lt, e) f k = f (j, omega arith, e)
        in_both (q ∷ xs) ys z y (zero, lt, e) f k = f (0, omega arith, e)
        in_both (q ∷ xs) ys z y (suc j, lt, e) f k = in_both xs ys z y (j, omega arith, e) (λ c. f (suc c.0, omega (arith, c.1), c.2)) k

        pub agree_too : Agree p core (record fewer { registers = others ++ kept_too }) all_too u holding
        agree_too = record {
          mems = wrote.mems;
          vals = wrote.vals;
          counts = wrote.counts;
          waiting = λ m c. let y = wrote.waiting m c in record { exists = y.exists; on_chip = y.on_chip; unseen = y.unseen; holds = y.holds };
          registers = λ y c. in_both others kept (r, Some w) y c (λ d. wrote.registers y d) (λ k. subst (λ (z : ℕ × Option ℕ). IsAdded p core z.0 × (holding z.0 ≡ Some (cells (z.1 ∷ [])))) k (cell.0, changed_here worked.after r r (Some (cells (Some w ∷ []))) refl));
        }

        found_place : Finds p core outer.around all_too holding (at_place x.word) w
        found_place = let f = keeps_front worked.all (touched [] w ∷ []) in (omega (arith, f.0, worked.give.0), f.1 x.word worked.give.0 ∙ worked.give.1)

        later_too : (y : ℕ × Option ℕ) → Contains kept y → Contains kept_too y
        later_too y c = (suc c.0, omega (arith, c.1), c.2)

        pub crossing_stands : Standing (with_val scope v (type_of e)) waiting others kept_too (with_computed p.mems run v e (Some r)) t named
        crossing_stands = record {
          goes = record {
            all = all_too;
            after = holding;
            goes = goes_too;
            counted = omega (arith, worked.counted, length-append worked.all (touched [] w ∷ []), length-append (run.ops ++ x.ops) (write ∷ []));
            kept = λ k lt. absurd (omega (arith, lt));
            agree = agree_named p core h (record fewer { registers = others ++ kept_too }) v w (type_of e) (at_place x.word) all_too u holding agree_too found_place;
            give = tt;
          };
          here = named_all (KnownHere outer.around kept_too) run.values.here scope.vals v w (type_of e) (at_place x.word) u
              (λ y c. here_more outer.around kept kept_too (run.values.here y.0) (u.values y.0) later_too (here_after (run.ops ++ x.ops) x.ops refl u (x.word ∷ []) (w ∷ []) worked y c)) tt;
          later = named_all (Known outer.around kept_too) run.values.elsewhere scope.vals v w (type_of e) (in_register r) u
              (λ y c. known_more outer.around kept kept_too (run.values.elsewhere y.0) (u.values y.0) later_too (later_after (run.ops ++ x.ops) x.ops refl u (x.word ∷ []) (w ∷ []) worked y c)) (0, omega arith, refl);
          shaped = shaped;
        }
