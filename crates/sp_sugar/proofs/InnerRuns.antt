-- The operations of the statements of an inner body go on as the statements do.
use Rattle.std.proofs.Common.{◌≡◌, ℕ, zero, suc, ◌<◌, Bool, true, false, not, List, [], ◌∷◌, ◌++◌, Option, Some, None, refl, sym, ◌∙◌, ap, subst, arith, append_assoc, ◌==◌, nat_lt, if◌then◌else◌}
use Rattle.std.proofs.lemmas.Bool.{false≢true, and_right, eqb-true, eqb-false}
use Rattle.std.specs.Prelude.{length, map, slice_set, Contains, IsTrue}
use Rattle.sp_words.specs.declared.kind.Kind.{Kind}
use Rattle.sp_words.specs.declared.kind.Kind.TheVariants.{Reg, Sram, ArgOut}
use Rattle.sp_words.specs.declared.types.Ty.{Ty}
use Rattle.sp_words.specs.Memory.{Contents, cells, queue, words, fresh_of}
use Rattle.sp_tree.specs.declared.statement.FaultKind.TheVariants.{FifoFull}
use Rattle.sp_tree.specs.Accesses as program
use Rattle.sp_tree.specs.Declarations.{HasRank}
use Rattle.sp_tree.specs.Expressions as expressions
use Rattle.sp_tree.specs.Meaning.{is_dram}
use Rattle.sp_tree.specs.PlainExpression.{PlainExpr, expr, literal, counter, value, type_of}
use Rattle.sp_tree.specs.PlainProgram.{PlainProgram}
use Rattle.sp_tree.specs.PlainStatement.{PlainStmtKind, PlainStmts, stmt, declare, name, set_reg, set_out, set_sram, enq, no_stmt, more_stmt}
use Rattle.sp_tree.specs.Sequential.{name_now, run, run_kind, run_all}
use Rattle.sp_tree.specs.Shape.{Shape}
use Rattle.sp_tree.specs.Step as step
use Rattle.sp_tree.specs.Store as program_store
use Rattle.sp_tree.specs.Streams.{room}
use Rattle.sp_tree.specs.Structure.{own_mems, is_inner}
use Rattle.sp_tree.specs.Typing.{Scope, with_mem, with_val, Typed, StmtTyped, BodyTyped, after as scope_after, after_all}
use Rattle.sp_core.specs.declared.operation.OpKind.TheVariants as kind
use Rattle.sp_core.specs.declared.operation.OpKind.{OpKind}
use Rattle.sp_core.specs.Accesses.{enqueue, with_word}
use Rattle.sp_core.specs.Declarations.{dims, fresh}
use Rattle.sp_core.specs.Elements.{index_value, natural, are_inside, row_major}
use Rattle.sp_core.specs.History.{Entry, touched, word_of}
use Rattle.sp_core.specs.Operations.{done_by}
use Rattle.sp_core.specs.PlainCore as plain
use Rattle.sp_core.specs.PlainCore.{PlainOp, PlainCore}
use Rattle.sp_core.specs.Sequential.{has_reset}
use Rattle.sp_core.specs.Step as core_step
use Rattle.sp_core.specs.Store as store
use Rattle.sp_sugar.specs.Agreement.{HasMemories, View, at_run, Apart, puts_in, HaveRooms, Finds, IsWaiting, Agree, GoOn}
use Rattle.sp_sugar.specs.Numbers.{is_off_dram, mem_number}
use Rattle.sp_sugar.specs.Operations.{Code, Codes, accesses, write_op, code, codes}
use Rattle.sp_sugar.specs.Runs.{Run, with_ops, next_code, with_computed, with_reset, with_word as with_word_op, with_stmt, inner_run}
use Rattle.sp_sugar.specs.Values.{Source, at_place, constant, count, Sources}
use Rattle.sp_sugar.proofs.Follows.{follows, row_follow}
use Rattle.sp_sugar.proofs.GoOnLemmas.{then_one_in, then_others, then_one}
use Rattle.sp_sugar.proofs.MemoryLemmas.{chip_mem, agree_declared, dimensionless, chip_kind, chip_dims, chip_holds, agree_held, core_writes, core_puts, passed, element_found, changed_here, changed_elsewhere}
use Rattle.sp_sugar.proofs.NumberLemmas.{either}
use Rattle.sp_sugar.proofs.StepLemmas.{turn_taken, as_it_went, taken_apart, then_on, same_store}
use Rattle.sp_sugar.proofs.TwinLemmas.{same_cells, same_queue, same_words}

-- neither a declaration, nor a controller or transfer
abbrev pub IsPlainStep : PlainStmtKind → Type 0
IsPlainStep (name v e) = Unit {0}
IsPlainStep (set_reg m e) = Unit {0}
IsPlainStep (set_out m e) = Unit {0}
IsPlainStep (set_sram m indices e) = Unit {0}
IsPlainStep (enq m e) = Unit {0}
IsPlainStep _ = ⊥

-- a FIFO that a statement puts a word into is one of the body's
abbrev pub IsPutIn : PlainStmts → PlainStmtKind → Type 0
IsPutIn body (enq m e) = Contains (puts_in body) m
IsPutIn body _ = Unit {0}

module _ (p : PlainProgram) (core : PlainCore) (h : HasMemories p core) where
  -- the same operations, in another view
  pub rescoped : (view : View) (scope : Scope) (sources : Sources) (waiting : List ℕ) (done : List Entry) (ops : List PlainOp) (t : store.Store) (s u : program_store.Store) (ks ws : List ℕ)
      → (g : GoOn p core view done ops t s ks ws) → Agree p core (record view { scope = scope; sources = sources; waiting = waiting }) g.all u g.after
      → GoOn p core (record view { scope = scope; sources = sources; waiting = waiting }) done ops t u [] []
  rescoped view scope sources waiting done ops t s u ks ws g a = record { all = g.all; after = g.after; goes = g.goes; counted = g.counted; kept = g.kept; agree = a; give = tt }

  -- a value is named
  module _ (view : View) (v w : ℕ) (ty : Ty) (source : Source) (done : List Entry) (s : program_store.Store) (t : store.Store) (a : Agree p core view done s t) (f : Finds p core view.around done t source w) where
    val_before : (u : ℕ × Ty) → Contains ((v, ty) ∷ view.scope.vals) u → (u.0 ≡ v → ⊥) → Contains view.scope.vals u
    val_before u (zero, lt, e) ne = absurd (ne (ap (λ (x : ℕ × Ty). x.0) (sym e)))
    val_before u (suc j, lt, e) ne = (j, omega arith, e)

    named_found : (u : ℕ × Ty) → Contains ((v, ty) ∷ view.scope.vals) u → Finds p core view.around done t (store.changed view.sources v source u.0) ((program_store.name_value s v w).values u.0)
    named_found u c = either (u.0 == v)
        (λ e. let g : u.0 ≡ v = eqb-true u.0 v e in
        subst (λ x. Finds p core view.around done t x ((program_store.name_value s v w).values u.0)) (sym (changed_here view.sources v u.0 source g))
        (subst (λ x. Finds p core view.around done t source x) (sym (changed_here s.values v u.0 w g)) f))
        (λ e. let ne : u.0 ≡ v → ⊥ = eqb-false u.0 v e in
        subst (λ x. Finds p core view.around done t x ((program_store.name_value s v w).values u.0)) (sym (changed_elsewhere view.sources v u.0 source ne))
        (subst (λ x. Finds p core view.around done t (view.sources u.0) x) (sym (changed_elsewhere s.values v u.0 w ne)) (a.vals u (val_before u c ne))))

    pub agree_named : Agree p core (record view { scope = with_val view.scope v ty; sources = store.changed view.sources v source }) done (program_store.name_value s v w) t
    agree_named = record { mems = a.mems; vals = named_found; counts = a.counts; waiting = λ m c. let x = a.waiting m c in record { exists = x.exists; on_chip = x.on_chip; unseen = x.unseen; holds = x.holds }; registers = a.registers }

  -- after what a run has
  abbrev pub Goes : View → Run → store.Store → program_store.Store → Type 0
  Goes view run t s = GoOn p core (at_run view run) [] run.ops t s [] []

  module _ (view : View) (run : Run) (t : store.Store) (s : program_store.Store) (left : ℕ) (g : Goes view run t s) where
    counted : length run.ops ≡ length g.all
    counted = omega (arith, g.counted)

    -- a word, and then an operation on it that changes what is held by a memory
    module _ (e : PlainExpr) (typed : Typed p view.scope e) (n : ℕ) (u : program_store.Store) (w : ℕ) (went : expressions.word p.mems e left s ≡ step.went w n u) where
      word_next : (n ≡ left) × GoOn p core (at_run view run) g.all (next_code p.mems run e).ops g.after u ((next_code p.mems run e).word ∷ []) (w ∷ [])
      word_next = follows p core h (at_run view run) e (length run.ops) g.all s u g.after left n w counted typed g.agree went

      pub computed : GoOn p core (at_run view run) [] (run.ops ++ (next_code p.mems run e).ops) t u ((next_code p.mems run e).word ∷ []) (w ∷ [])
      computed = then_others p core (at_run view run) [] run.ops (next_code p.mems run e).ops t s u [] ((next_code p.mems run e).word ∷ []) [] (w ∷ []) g word_next.1

      name_computed : (v : ℕ) → GoOn p core (at_run (record view { scope = with_val view.scope v (type_of e) }) (with_computed p.mems run v e None)) [] (with_computed p.mems run v e None).ops t (program_store.name_value u v w) [] []
      name_computed v = rescoped (at_run view run) (with_val view.scope v (type_of e)) (store.changed run.values.here v (at_place (next_code p.mems run e).word)) view.waiting [] (run.ops ++ (next_code p.mems run e).ops) t u (program_store.name_value u v w) ((next_code p.mems run e).word ∷ []) (w ∷ []) computed
          (agree_named (at_run view run) v w (type_of e) (at_place (next_code p.mems run e).word) computed.all u computed.after computed.agree (computed.give.0, computed.give.1))

  pub silent : (view : View) (done : List Entry) (ops : List PlainOp) (t : store.Store) (s : program_store.Store) (ks ws : List ℕ) → GoOn p core view done ops t s ks ws → GoOn p core view done ops t s [] []
  silent view done ops t s ks ws g = record { all = g.all; after = g.after; goes = g.goes; counted = g.counted; kept = g.kept; agree = g.agree; give = tt }

  -- one more operation, by the words of those before it
  pub op_next : (view : View) (before ops : List PlainOp) (t : store.Store) (s u : program_store.Store) (ks ws : List ℕ) (k : OpKind) (ty : Ty) (m : Option ℕ) (e : Entry) (after : store.Store)
      → (g : GoOn p core view [] (before ++ ops) t s ks ws) → done_by core view.around k ty m ws g.after ≡ core_step.went e after → Agree p core view g.all u after
      → GoOn p core view [] (before ++ (ops ++ record { kind = k; ty = ty; args = ks; mem = m; mask = None } ∷ [])) t u [] []
  op_next view before ops t s u ks ws k ty m e after g d a =
      subst (λ o. GoOn p core view [] o t u [] []) (append_assoc before ops (record { kind = k; ty = ty; args = ks; mem = m; mask = None } ∷ []))
      (silent view [] ((before ++ ops) ++ record { kind = k; ty = ty; args = ks; mem = m; mask = None } ∷ []) t u (length (before ++ ops) ∷ []) (word_of e ∷ [])
      (then_one p core view [] (before ++ ops) t s u ks ws k ty m e after (length (before ++ ops)) g d a (omega arith)))

  -- a write without indices
  write_follows : (view : View) (run : Run) (t : store.Store) (m : ℕ) (k : Kind) (e : PlainExpr) (s u : program_store.Store) (left n w : ℕ) (c : Contents) (g : Goes view run t s)
      → Contains view.scope.mems m → (expressions.mem p.mems m).kind ≡ k → is_dram k ≡ false → ((n : ℕ) → HasRank k n → n ≡ 0) → Typed p view.scope e → expressions.word p.mems e left s ≡ step.went w n u
      → ((d : Option Contents) → d ≡ u.held m → with_word k [] [] w d ≡ c)
      → Goes view (with_word_op p.mems run e (λ w. write_op (expressions.mem p.mems m).ty (mem_number p.mems m) (w ∷ []))) t (program_store.hold u m c)
  write_follows view run t m k e s u left n w c g seen is chip rank typed went same =
      let lt : m < length p.mems = (g.agree.mems m seen).0 in
      let off : is_off_dram (expressions.mem p.mems m) ≡ true = ap (λ x. not (is_dram x)) is ∙ ap not chip in
      let all = computed view run t s left g e typed n u w went in
      let number : ℕ = mem_number p.mems m in
      let none : dims core number ≡ [] = chip_dims p core h m lt off ∙ dimensionless p core h m lt k is rank in
      op_next (at_run view run) run.ops (next_code p.mems run e).ops t u (program_store.hold u m c) ((next_code p.mems run e).word ∷ []) (w ∷ []) kind.Write (expressions.mem p.mems m).ty (Some number) (touched [] w) (store.hold all.after number c) all
      (core_writes core view.around (expressions.mem p.mems m).ty number [] w all.after c (ap (λ d. are_inside d []) none)
      (ap (λ x. with_word x (dims core number) [] w (all.after number)) (chip_kind p core h m lt off ∙ is) ∙ ap (λ x. with_word k x [] w (all.after number)) none
      ∙ same (all.after number) (chip_holds p core h m lt off (at_run view run) all.all u all.after all.agree seen)))
      (agree_held p core h m lt off (at_run view run) all.all u all.after all.agree seen c)

  module _ (roomy : List ℕ) (body : PlainStmts) (rooms : HaveRooms p roomy core body) (view : View) (run : Run) (t : store.Store) where
    abbrev pub Done : PlainStmtKind → program_store.Store → Type 0
    Done k after = Goes (record view { scope = scope_after view.scope k }) (with_stmt p.mems true None run k) t after

    -- no turn of an expression
    named : (v : ℕ) (e : PlainExpr) (s u : program_store.Store) (left n w : ℕ) → Goes view run t s → Typed p view.scope e → expressions.word p.mems e left s ≡ step.went w n u → Done (name v e) (program_store.name_value u v w)
    unfolding expressions.word expressions.word_of step.pure step.read
    named v (expr place ty (literal x)) s u left n w g typed e =
        as_it_went (λ y k z. Done (name v (expr place ty (literal x))) (program_store.name_value z v y)) x w left n s u e
        (rescoped (at_run view run) (with_val view.scope v ty) (store.changed run.values.here v (constant x)) view.waiting [] run.ops t s (program_store.name_value s v x) [] [] g
        (agree_named (at_run view run) v x ty (constant x) g.all s g.after g.agree refl))
    named v (expr place ty (counter c)) s u left n w g typed e =
        as_it_went (λ y k z. Done (name v (expr place ty (counter c))) (program_store.name_value z v y)) (s.counts c) w left n s u e
        (rescoped (at_run view run) (with_val view.scope v ty) (store.changed run.values.here v (count c)) view.waiting [] run.ops t s (program_store.name_value s v (s.counts c)) [] [] g
        (agree_named (at_run view run) v (s.counts c) ty (count c) g.all s g.after g.agree (g.agree.counts c typed.0)))
    named v (expr place ty (value x)) s u left n w g typed e =
        as_it_went (λ y k z. Done (name v (expr place ty (value x))) (program_store.name_value z v y)) (s.values x) w left n s u e
        (rescoped (at_run view run) (with_val view.scope v ty) (store.changed run.values.here v (run.values.here x)) view.waiting [] run.ops t s (program_store.name_value s v (s.values x)) [] [] g
        (agree_named (at_run view run) v (s.values x) ty (run.values.here x) g.all s g.after g.agree (g.agree.vals (x, ty) typed)))
    named v (expr place ty k) s u left n w g typed e = name_computed view run t s left g (expr place ty k) typed n u w e v

    pub stmt_follows : (k : PlainStmtKind) (place : ℕ) (s after : program_store.Store) (left rest : ℕ) (shapes : List Shape) → Goes view run t s → StmtTyped p view.scope k
        → run_kind p.mems roomy k place left s ≡ step.went shapes rest after → IsPlainStep k → IsPutIn body k → (shapes ≡ []) × Done k after
    unfolding run_kind step.◌>>=◌ step.pure step.read step.change core_step.pure
    stmt_follows (name v e) place s after left rest shapes g typed went plain put =
        let b = taken_apart (expressions.word p.mems e) (λ w. step.◌>>◌ (name_now v w) (step.pure [])) left s shapes rest after went in
        as_it_went (λ x n u. (x ≡ []) × Done (name v e) u) [] shapes b.between rest (program_store.name_value b.store v b.answer) after b.second (refl, named v e s b.store left b.between b.answer g typed.1 b.first)
    stmt_follows (set_reg m e) place s after left rest shapes g typed went plain put =
        let b = taken_apart (expressions.word p.mems e) (λ w. step.◌>>◌ (program.write_cell m 0 w) (step.pure [])) left s shapes rest after went in
        let c : Contents = cells (slice_set (program_store.cells_of (b.store.held m)) 0 (Some b.answer)) in
        as_it_went (λ x n u. (x ≡ []) × Done (set_reg m e) u) [] shapes b.between rest (program_store.hold b.store m c) after b.second (
          refl,
          write_follows view run t m Reg e s b.store left b.between b.answer c g typed.0.seen typed.0.is_kind refl (λ n r. r) typed.1 b.first
              (λ d f. ap (λ x. cells (slice_set x 0 (Some b.answer))) (ap store.cells_of f ∙ same_cells (b.store.held m))),
        )
    stmt_follows (set_out m e) place s after left rest shapes g typed went plain put =
        let b = taken_apart (expressions.word p.mems e) (λ w. step.◌>>◌ (program.write_word m 0 w) (step.pure [])) left s shapes rest after went in
        let c : Contents = words (slice_set (program_store.words_of (b.store.held m)) 0 b.answer) in
        as_it_went (λ x n u. (x ≡ []) × Done (set_out m e) u) [] shapes b.between rest (program_store.hold b.store m c) after b.second (
          refl,
          write_follows view run t m ArgOut e s b.store left b.between b.answer c g typed.0.seen typed.0.is_kind refl (λ n r. r) typed.1 b.first
              (λ d f. ap (λ x. words (slice_set x 0 b.answer)) (ap store.words_of f ∙ same_words (b.store.held m))),
        )
    stmt_follows (set_sram m indices e) place s after left rest shapes g typed went plain put =
        let b = taken_apart (expressions.words p.mems indices) (λ is. step.◌>>=◌ (expressions.word p.mems e) (λ w. step.◌>>=◌ (expressions.element p.mems m place is) (λ i. step.◌>>◌ (program.write_cell m i w) (step.pure [])))) left s shapes rest after went in
        let d = taken_apart (expressions.word p.mems e) (λ w. step.◌>>=◌ (expressions.element p.mems m place b.answer) (λ i. step.◌>>◌ (program.write_cell m i w) (step.pure []))) b.between b.store shapes rest after b.second in
        let f = taken_apart (expressions.element p.mems m place b.answer) (λ i. step.◌>>◌ (program.write_cell m i d.answer) (step.pure [])) d.between d.store shapes rest after d.second in
        let at_element = element_found p m place b.answer f.answer d.between f.between d.store f.store f.first in
        let lt : m < length p.mems = (g.agree.mems m typed.0.seen).0 in
        let off : is_off_dram (expressions.mem p.mems m) ≡ true = ap (λ x. not (is_dram x)) typed.0.is_kind in
        let n : ℕ = mem_number p.mems m in
        let ty : Ty = (expressions.mem p.mems m).ty in
        let c : Contents = cells (slice_set (program_store.cells_of (f.store.held m)) f.answer (Some d.answer)) in
        let is : Codes = codes p.mems run.values.here (length run.ops) indices in
        let x : Code = code p.mems run.values.here (length (run.ops ++ is.ops)) e in
        let first = row_follow p core h (at_run view run) indices (length run.ops) g.all s b.store g.after left b.between b.answer (omega (arith, g.counted)) typed.2 g.agree b.first in
        let one = then_others p core (at_run view run) [] run.ops is.ops t s b.store [] is.words [] b.answer g first.1 in
        let second = follows p core h (at_run view run) e (length (run.ops ++ is.ops)) one.all b.store d.store one.after b.between d.between d.answer (omega (arith, one.counted)) typed.3 one.agree d.first in
        let both = then_others p core (at_run view run) [] (run.ops ++ is.ops) x.ops t b.store d.store is.words (x.word ∷ []) b.answer (d.answer ∷ []) one second.1 in
        let holds : both.after n ≡ f.store.held m = chip_holds p core h m lt off (at_run view run) both.all d.store both.after both.agree typed.0.seen ∙ ap (λ (u : program_store.Store). u.held m) (sym at_element.3) in
        as_it_went (λ y k u. (y ≡ []) × Done (set_sram m indices e) u) [] shapes f.between rest (program_store.hold f.store m c) after f.second (
          refl,
          op_next (at_run view run) (run.ops ++ is.ops) x.ops t d.store (program_store.hold f.store m c) (is.words ++ x.word ∷ []) (b.answer ++ d.answer ∷ []) kind.Write ty (Some n)
              (touched (map (λ i. natural (index_value i)) b.answer) d.answer) (store.hold both.after n c) both
              (core_writes core view.around ty n b.answer d.answer both.after c (ap (λ y. are_inside y (map index_value b.answer)) (chip_dims p core h m lt off) ∙ at_element.0)
              (ap (λ y. with_word y (dims core n) (map (λ i. natural (index_value i)) b.answer) d.answer (both.after n)) (chip_kind p core h m lt off ∙ typed.0.is_kind)
              ∙ ap (λ y. with_word Sram y (map (λ i. natural (index_value i)) b.answer) d.answer (both.after n)) (chip_dims p core h m lt off)
              ∙ ap (λ y. cells (slice_set y (row_major (expressions.dims p.mems m) (map (λ i. natural (index_value i)) b.answer)) (Some d.answer))) (ap store.cells_of holds ∙ same_cells (f.store.held m))
              ∙ ap (λ y. cells (slice_set (program_store.cells_of (f.store.held m)) y (Some d.answer))) (sym at_element.1)))
              (subst (λ u. Agree p core (at_run view run) both.all (program_store.hold u m c) (store.hold both.after n c)) (sym at_element.3) (agree_held p core h m lt off (at_run view run) both.all d.store both.after both.agree typed.0.seen c)),
        )
    stmt_follows (enq m e) place s after left rest shapes g typed went plain put =
        let b = taken_apart (expressions.word p.mems e) (λ w. step.◌>>◌ (program.enqueue m (room p.mems roomy m) w place) (step.pure [])) left s shapes rest after went in
        let d = taken_apart (program.enqueue m (room p.mems roomy m) b.answer place) (λ _. step.pure []) b.between b.store shapes rest after b.second in
        let q : List ℕ = program_store.queue_of (b.store.held m) in
        let c : Contents = queue (q ++ b.answer ∷ []) in
        let test = passed (nat_lt (length q) (room p.mems roomy m)) FifoFull place (program.hold_now m c) d.answer b.between d.between b.store d.store d.first in
        let lt : m < length p.mems = (g.agree.mems m typed.0.seen).0 in
        let off : is_off_dram (expressions.mem p.mems m) ≡ true = ap (λ x. not (is_dram x)) typed.0.is_kind in
        let n : ℕ = mem_number p.mems m in
        let all = computed view run t s left g e typed.1 b.between b.store b.answer b.first in
        let x : Code = next_code p.mems run e in
        let holds : store.queue_of (all.after n) ≡ q = ap store.queue_of (chip_holds p core h m lt off (at_run view run) all.all b.store all.after all.agree typed.0.seen) ∙ same_queue (b.store.held m) in
        as_it_went (λ y k u. (y ≡ []) × Done (enq m e) u) [] shapes d.between rest d.store after d.second (
          refl,
          subst (λ u. Done (enq m e) u) (same_store tt d.answer b.between d.between (program_store.hold b.store m c) d.store test.1)
              (op_next (at_run view run) run.ops x.ops t b.store (program_store.hold b.store m c) (x.word ∷ []) (b.answer ∷ []) kind.Enq (expressions.mem p.mems m).ty (Some n) (touched [] b.answer) (store.hold all.after n c) all
              (then_on (enqueue core n b.answer) (λ _. core_step.pure (touched [] b.answer)) all.after tt (store.hold all.after n c)
              (core_puts core n b.answer all.after q holds (ap (λ r. nat_lt (length q) r) (rooms m put lt typed.0.is_kind) ∙ test.0)))
              (agree_held p core h m lt off (at_run view run) all.all b.store all.after all.agree typed.0.seen c)),
        )
    stmt_follows _ place s after left rest shapes g typed went plain put = absurd plain

    -- a declaration of an inner body
    module _ (m : ℕ) (others : List ℕ) (s : program_store.Store) (g : Goes view run t s) (w : IsWaiting p core (at_run view run) g.after m) (more : (k : ℕ) → Contains others k → Contains view.waiting k) (apart : Contains others m → ⊥) where
      abbrev pub contents : Contents
      contents = fresh_of (expressions.mem p.mems m).kind (expressions.dims p.mems m) (expressions.mem p.mems m).start []

      abbrev pub Declared : Run → Type 0
      Declared r = Goes (record view { scope = with_mem view.scope m; waiting = others }) r t (program_store.hold s m contents)

      abbrev reset_op : PlainOp
      reset_op = accesses kind.Reset (expressions.mem p.mems m).ty (mem_number p.mems m) []

      abbrev has : Bool
      has = has_reset (expressions.mem p.mems m).kind (expressions.mem p.mems m).start

      declared_now : Declared (with_ops run (reset_op ∷ []))
      unfolding core_step.◌>>=◌ core_step.pure core_step.change
      declared_now =
          let n : ℕ = mem_number p.mems m in
          let same : fresh core n ≡ contents = ap (λ (x : plain.PlainMem). fresh_of x.kind x.dims x.start []) (chip_mem p core h m w.exists w.on_chip) in
          silent (at_run (record view { scope = with_mem view.scope m; waiting = others }) run) [] (run.ops ++ reset_op ∷ []) t (program_store.hold s m contents) (length run.ops ∷ []) (0 ∷ [])
          (then_one_in p core (at_run view run) (with_mem view.scope m) others [] run.ops t s (program_store.hold s m contents) [] [] kind.Reset (expressions.mem p.mems m).ty (Some n) (touched [] 0) (store.hold g.after n contents) (length run.ops) g
          (ap (λ x. core_step.went (touched [] 0) (store.hold g.after n x)) same)
          (agree_declared p core (at_run view run) m others g.all s g.after (store.hold g.after n contents) contents g.agree w more apart
          (changed_here g.after n n (Some contents) refl) (λ k ne. changed_elsewhere g.after n k (Some contents) ne) h)
          (omega arith))

      pub declared_already : has ≡ false → Declared run
      declared_already e = rescoped (at_run view run) (with_mem view.scope m) run.values.here others [] run.ops t s (program_store.hold s m contents) [] [] g
          (agree_declared p core (at_run view run) m others g.all s g.after g.after contents g.agree w more apart (w.holds (and_right (view.resets m) has e)) (λ k ne. refl) h)

      pub declared : Declared (with_reset p.mems run m)
      declared = either has
          (λ e. subst Declared (ap (λ b. if b then with_ops run (reset_op ∷ []) else run) (sym e)) declared_now)
          (λ e. subst Declared (ap (λ b. if b then with_ops run (reset_op ∷ []) else run) (sym e)) (declared_already e))

  others_waiting : (view : View) (others : List ℕ) (done : List Entry) (s : program_store.Store) (t : store.Store) → view.waiting ≡ others → Agree p core view done s t → Agree p core (record view { waiting = others }) done s t
  others_waiting view others done s t same a = record { mems = a.mems; vals = a.vals; counts = a.counts; waiting = λ m c. again (a.waiting m (subst (λ ms. Contains ms m) (sym same) c)); registers = a.registers }
    where
      again : {m : ℕ} → IsWaiting p core view t m → IsWaiting p core (record view { waiting = others }) t m
      again {m} x = record { exists = x.exists; on_chip = x.on_chip; unseen = x.unseen; holds = x.holds }

  seen_later : (m k : ℕ) (ms : List ℕ) → Contains ms k → Contains (m ∷ ms) k
  seen_later m k ms (j, lt, e) = (suc j, omega arith, e)

  -- the statements of an inner body
  abbrev After_run : List ℕ → View → PlainStmts → Run → store.Store → program_store.Store → Type 0
  After_run others view body run t after = Goes (record view { scope = after_all view.scope body; waiting = others }) (inner_run p.mems run body) t after

  -- a statement and those after it
  module _ (waits : List ℕ) (roomy : List ℕ) (k : PlainStmtKind) (place : ℕ) (rest_body : PlainStmts) (view : View) (run0 : Run) (t : store.Store) (s after : program_store.Store) (left rest : ℕ) (shapes : List Shape) (view2 : View) (run2 : Run)
      (went : run_all p.mems roomy (more_stmt (stmt place k) rest_body) left s ≡ step.went shapes rest after)
      (one : (after : program_store.Store) (left rest : ℕ) (shapes : List Shape) → run_kind p.mems roomy k place left s ≡ step.went shapes rest after → (shapes ≡ []) × Goes view2 run2 t after)
      (others : (s after : program_store.Store) (left rest : ℕ) (shapes : List Shape) → Goes view2 run2 t s → run_all p.mems roomy rest_body left s ≡ step.went shapes rest after → (shapes ≡ []) × After_run waits view2 rest_body run2 t after) where
    both_follow : (shapes ≡ []) × After_run waits view2 rest_body run2 t after
    unfolding run run_all step.◌>>=◌ step.pure
    both_follow =
        let b = taken_apart (run p.mems roomy (stmt place k)) (λ x. step.◌>>=◌ (run_all p.mems roomy rest_body) (λ y. step.pure (x ++ y))) left s shapes rest after went in
        let c = taken_apart step.turn (λ _. run_kind p.mems roomy k place) left s b.answer b.between b.store b.first in
        let first = one b.store c.between b.between b.answer (subst (λ u. run_kind p.mems roomy k place c.between u ≡ step.went b.answer b.between b.store) (turn_taken c.answer left c.between s c.store c.first) c.second) in
        let d = taken_apart (run_all p.mems roomy rest_body) (λ y. step.pure (b.answer ++ y)) b.between b.store shapes rest after b.second in
        let later = others b.store d.store b.between d.between d.answer first.1 d.first in
        as_it_went (λ x n u. (x ≡ []) × After_run waits view2 rest_body run2 t u) (b.answer ++ d.answer) shapes d.between rest d.store after d.second
        (ap (λ x. x ++ d.answer) first.0 ∙ later.0, later.1)

  pub runs_follow : (waits : List ℕ) (roomy : List ℕ) (body : PlainStmts) → HaveRooms p roomy core body → (view : View) (r : Run) (t : store.Store) (s after : program_store.Store) (left rest : ℕ) (shapes : List Shape)
      → Goes view r t s → IsTrue (is_inner body) → BodyTyped p view.scope body → Apart (own_mems body ++ waits) → view.waiting ≡ own_mems body ++ waits
      → run_all p.mems roomy body left s ≡ step.went shapes rest after → (shapes ≡ []) × After_run waits view body r t after
  unfolding run_all run_kind step.pure step.◌>>=◌ step.change
  runs_follow waits roomy no_stmt rooms view r t s after left rest shapes g inner typed apart same went =
      as_it_went (λ x n u. (x ≡ []) × After_run waits view no_stmt r t u) [] shapes left rest s after went
      (refl, rescoped (at_run view r) view.scope r.values.here waits [] r.ops t s s [] [] g (others_waiting (at_run view r) waits g.all s g.after same g.agree))
  runs_follow waits roomy (more_stmt (stmt place (declare m)) body) rooms view r t s after left rest shapes g inner typed apart same went =
      let later : View = record view { scope = with_mem view.scope m; waiting = own_mems body ++ waits } in
      let first : Contains view.waiting m = subst (λ ms. Contains ms m) (sym same) (0, omega arith, refl) in
      let more : (k : ℕ) → Contains (own_mems body ++ waits) k → Contains view.waiting k = λ k c. subst (λ ms. Contains ms k) (sym same) (seen_later m k (own_mems body ++ waits) c) in
      both_follow waits roomy (declare m) place body view r t s after left rest shapes later (with_stmt p.mems true None r (declare m)) went
      (λ after left rest shapes w. as_it_went (λ x n u. (x ≡ []) × Goes later (with_reset p.mems r m) t u) [] shapes left rest _ after w
      (refl, declared roomy (more_stmt (stmt place (declare m)) body) rooms view r t m (own_mems body ++ waits) s g (g.agree.waiting m first) more apart.0))
      (λ s after left rest shapes g w. runs_follow waits roomy body rooms later (with_stmt p.mems true None r (declare m)) t s after left rest shapes g inner typed.1 apart.1 refl w)
  runs_follow waits roomy (more_stmt (stmt place (name v e)) body) rooms view r t s after left rest shapes g inner typed apart same went =
      both_follow waits roomy (name v e) place body view r t s after left rest shapes (record view { scope = scope_after view.scope (name v e) }) (with_stmt p.mems true None r (name v e)) went
      (λ after left rest shapes w. stmt_follows roomy (more_stmt (stmt place (name v e)) body) rooms view r t (name v e) place s after left rest shapes g typed.0 w tt tt)
      (λ s after left rest shapes g w. runs_follow waits roomy body rooms (record view { scope = scope_after view.scope (name v e) }) (with_stmt p.mems true None r (name v e)) t s after left rest shapes g inner typed.1 apart same w)
  runs_follow waits roomy (more_stmt (stmt place (set_reg m e)) body) rooms view r t s after left rest shapes g inner typed apart same went =
      both_follow waits roomy (set_reg m e) place body view r t s after left rest shapes view (with_stmt p.mems true None r (set_reg m e)) went
      (λ after left rest shapes w. stmt_follows roomy (more_stmt (stmt place (set_reg m e)) body) rooms view r t (set_reg m e) place s after left rest shapes g typed.0 w tt tt)
      (λ s after left rest shapes g w. runs_follow waits roomy body rooms view (with_stmt p.mems true None r (set_reg m e)) t s after left rest shapes g inner typed.1 apart same w)
  runs_follow waits roomy (more_stmt (stmt place (set_out m e)) body) rooms view r t s after left rest shapes g inner typed apart same went =
      both_follow waits roomy (set_out m e) place body view r t s after left rest shapes view (with_stmt p.mems true None r (set_out m e)) went
      (λ after left rest shapes w. stmt_follows roomy (more_stmt (stmt place (set_out m e)) body) rooms view r t (set_out m e) place s after left rest shapes g typed.0 w tt tt)
      (λ s after left rest shapes g w. runs_follow waits roomy body rooms view (with_stmt p.mems true None r (set_out m e)) t s after left rest shapes g inner typed.1 apart same w)
  runs_follow waits roomy (more_stmt (stmt place (set_sram m indices e)) body) rooms view r t s after left rest shapes g inner typed apart same went =
      both_follow waits roomy (set_sram m indices e) place body view r t s after left rest shapes view (with_stmt p.mems true None r (set_sram m indices e)) went
      (λ after left rest shapes w. stmt_follows roomy (more_stmt (stmt place (set_sram m indices e)) body) rooms view r t (set_sram m indices e) place s after left rest shapes g typed.0 w tt tt)
      (λ s after left rest shapes g w. runs_follow waits roomy body rooms view (with_stmt p.mems true None r (set_sram m indices e)) t s after left rest shapes g inner typed.1 apart same w)
  runs_follow waits roomy (more_stmt (stmt place (enq m e)) body) rooms view r t s after left rest shapes g inner typed apart same went =
      both_follow waits roomy (enq m e) place body view r t s after left rest shapes view (with_stmt p.mems true None r (enq m e)) went
      (λ after left rest shapes w. stmt_follows roomy (more_stmt (stmt place (enq m e)) body) rooms view r t (enq m e) place s after left rest shapes g typed.0 w tt (0, omega arith, refl))
      (λ s after left rest shapes g w. runs_follow waits roomy body (λ m c. rooms m (suc c.0, omega (arith, c.1), c.2)) view (with_stmt p.mems true None r (enq m e)) t s after left rest shapes g inner typed.1 apart same w)
  runs_follow waits roomy (more_stmt (stmt place k) body) rooms view r t s after left rest shapes g inner typed apart same went = absurd (false≢true inner)
