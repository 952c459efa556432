-- The operations of an inner body: each memory is reset, where it waits, before it is used.
use Rattle.std.proofs.Common.{◌≡◌, ℕ, zero, suc, ◌<◌, ◌≤◌, Bool, true, false, cond, not, List, [], ◌∷◌, ◌++◌, length, map, None, Some, refl, sym, ◌∙◌, ap, subst, arith, ◌==◌}
use Rattle.std.proofs.lemmas.Bool.{true≢false, and_parts, eq-eqb, eqb-true}
use Rattle.std.proofs.lemmas.List.{append_assoc}
use Rattle.std.specs.Prelude.{Contains, ◌||◌}
use Rattle.sp_words.specs.declared.kind.Kind.TheVariants.{Reg, Sram, Fifo, ArgOut}
use Rattle.sp_tree.specs.Expressions.{mem}
use Rattle.sp_tree.specs.PlainExpression.{PlainExpr, expr, literal, counter, value, type_of}
use Rattle.sp_tree.specs.PlainProgram.{PlainProgram}
use Rattle.sp_tree.specs.PlainStatement.{PlainStmtKind, PlainStmts, stmt, declare, name, set_reg, set_out, set_sram, enq, no_stmt, more_stmt}
use Rattle.sp_tree.specs.Structure.{mems_declared, mems_in, own_mems}
use Rattle.sp_tree.specs.Typing.{Scope, Typed, BodyTyped, after}
use Rattle.sp_core.specs.declared.operation.OpKind.TheVariants as kind
use Rattle.sp_core.specs.Declarations.{mem as core_mem, is_among}
use Rattle.sp_core.specs.Footprint.{MayName}
use Rattle.sp_core.specs.PlainCore.{PlainOp, PlainMem, PlainCore}
use Rattle.sp_core.specs.Sequential.{has_reset}
use Rattle.sp_lane_groups.specs.Waiting.{ResetsFirst, waits_in}
use Rattle.sp_sugar.specs.Numbers.{is_off_dram, mem_number, written_mem, written_mems}
use Rattle.sp_sugar.specs.Operations.{Code, Codes, accesses, write_op, code, codes}
use Rattle.sp_sugar.specs.Runs.{Run, no_run, with_ops, next_code, with_named, with_stmt, inner_run}
use Rattle.sp_sugar.proofs.Entering.{own_declared}
use Rattle.sp_sugar.specs.Values.{Source, at_place, in_register, constant, count, Sources}
use Rattle.sp_lane_rules.proofs.UnrolledGivens.{append_none}
use Rattle.sp_lane_cores.proofs.LanedNaming.{SourceHas, SourcesHave, ValuesHave, stmt_have, Test, InRange, Declared, declared_front, declared_back, range_after, Pass, pass_append, IsPassed, code_passes, codes_pass}
use Rattle.sp_lane_groups.proofs.FirstLists.{after_ops, after_append, resets_append, after_less, names_none, none_waits}
use Rattle.sp_lane_groups.proofs.FirstWaiting.{Waiting, late, test, visible_ok, names_ok, all_ok}

-- what is among mapped numbers
mapped_in : (f : ℕ → ℕ) (xs : List ℕ) (k : ℕ) → is_among k (map f xs) ≡ true → (x : ℕ) × Contains xs x × (f x ≡ k)
mapped_in f [] k e = absurd (true≢false (sym e))
mapped_in f (x ∷ xs) k e = by (k == f x) refl (λ i. mapped_in f xs k (sym (ap (λ b. b || is_among k (map f xs)) i) ∙ e))
  where
    by : (b : Bool) → (k == f x) ≡ b → ((k == f x) ≡ false → (y : ℕ) × Contains xs y × (f y ≡ k)) → (y : ℕ) × Contains (x ∷ xs) y × (f y ≡ k)
    by true i rest = (x, (zero, omega arith, refl), sym (eqb-true k (f x) i))
    by false i rest = let r = rest i in (r.0, (let c = r.1 in (suc c.0, omega (arith, c.1), c.2)), r.2)

module _ (p : PlainProgram) (core : PlainCore) (wide : length (written_mems p.mems) ≤ length core.mems) where
  -- registers of the compiler
  abbrev pub Late : ℕ → Type 0
  Late r = length (written_mems p.mems) ≤ r

  source_passes : (P Q : ℕ → Type 0) → ((r : ℕ) → P r → Q r) → (x : Source) → SourceHas P x → SourceHas Q x
  source_passes P Q f (at_place k) h = tt
  source_passes P Q f (in_register r) h = f r h
  source_passes P Q f (constant w) h = tt
  source_passes P Q f (count c) h = tt

  -- where statements are to come, of which some declare what waits
  module _ (scope : Scope) (body : PlainStmts) (waits : ℕ → Bool) (waiting : Waiting p body waits) (ran : InRange p scope) (d : Declared p (mems_declared body)) (typed : BodyTyped p scope body) (run : Run) (have : ValuesHave Late run.values) where
    abbrev t : Test p core
    t = test p core wide scope body waits waiting ran d typed

    abbrev Passes : List PlainOp → Type 0
    Passes ops = Pass p core t ops

    sources_pass : SourcesHave (IsPassed p core t) run.values.here
    sources_pass v = source_passes Late (IsPassed p core t) (λ r le. late p core wide scope body waits waiting ran d typed r le) (run.values.here v) (have.0 v)

    code_new : (e : PlainExpr) (at : ℕ) → Typed p scope e → Passes (code p.mems run.values.here at e).ops
    code_new e at h = code_passes p core t run.values.here sources_pass e at (names_ok p core wide scope body waits waiting ran d typed e h)

    word_new : (before : List PlainOp) (e : PlainExpr) (at : ℕ) (op : ℕ → PlainOp) (m : ℕ) → ((w : ℕ) → (op w).mem ≡ Some (mem_number p.mems m)) → Passes before → Typed p scope e → not (waits (mem_number p.mems m)) ≡ true
        → Passes (before ++ ((code p.mems run.values.here at e).ops ++ op (code p.mems run.values.here at e).word ∷ []))
    word_new before e at op m is h k ok =
        let x : Code = code p.mems run.values.here at e in
        pass_append p core t before (x.ops ++ op x.word ∷ []) h (pass_append p core t x.ops (op x.word ∷ []) (code_new e at k) (subst (MayName core t.is) (sym (is x.word)) ok, tt))

    named_new : (v : ℕ) (e : PlainExpr) → Typed p scope e → (new : List PlainOp) × ((with_named p.mems run v e None).ops ≡ run.ops ++ new) × Passes new
    named_new v (expr place ty (literal w)) h = ([], sym (append_none run.ops), tt)
    named_new v (expr place ty (counter c)) h = ([], sym (append_none run.ops), tt)
    named_new v (expr place ty (value u)) h = ([], sym (append_none run.ops), tt)
    named_new v (expr place ty x) h = ((next_code p.mems run (expr place ty x)).ops, refl, code_new (expr place ty x) (length run.ops) h)

    -- what is added so is right, and what waits still is to come
    added : (new : List PlainOp) → Passes new → ResetsFirst waits new × Waiting p body (after_ops new waits)
    added new h = (names_none core (λ k. not (waits k)) new waits h (λ m i w. true≢false (sym i ∙ ap not w)), λ k w. waiting k (after_less new waits k w))

  -- a declaration adds its reset, if it has one
  reset_adds : (m : ℕ) (rest : PlainStmts) (place : ℕ) (waits : ℕ → Bool) → Waiting p (more_stmt (stmt place (declare m)) rest) waits → (run : Run) (b : Bool) → has_reset (mem p.mems m).kind (mem p.mems m).start ≡ b
      → (new : List PlainOp) × ((cond b (with_ops run (accesses kind.Reset (mem p.mems m).ty (mem_number p.mems m) [] ∷ [])) run).ops ≡ run.ops ++ new) × ResetsFirst waits new × Waiting p rest (after_ops new waits)
  reset_adds m rest place waits waiting run true e = (
    accesses kind.Reset (mem p.mems m).ty (mem_number p.mems m) [] ∷ [],
    refl,
    ((λ x i w. i), tt),
    (λ k w. let a = and_parts (waits k) (not (mem_number p.mems m == k)) w in later k a.1 (waiting k a.0)),
  )
    where
      later : (k : ℕ) → not (mem_number p.mems m == k) ≡ true → (x : ℕ) × Contains (m ∷ own_mems rest) x × (mem_number p.mems x ≡ k) × (has_reset (mem p.mems x).kind (mem p.mems x).start ≡ true)
          → (x : ℕ) × Contains (own_mems rest) x × (mem_number p.mems x ≡ k) × (has_reset (mem p.mems x).kind (mem p.mems x).start ≡ true)
      later k ne (x, (zero, lt, i), is, r) = absurd (true≢false (sym ne ∙ ap not (eq-eqb (mem_number p.mems m) k (ap (mem_number p.mems) i ∙ is))))
      later k ne (x, (suc j, lt, i), is, r) = (x, (j, omega arith, i), is, r)
  reset_adds m rest place waits waiting run false e = ([], sym (append_none run.ops), tt, λ k w. later k (waiting k w))
    where
      later : (k : ℕ) → (x : ℕ) × Contains (m ∷ own_mems rest) x × (mem_number p.mems x ≡ k) × (has_reset (mem p.mems x).kind (mem p.mems x).start ≡ true)
          → (x : ℕ) × Contains (own_mems rest) x × (mem_number p.mems x ≡ k) × (has_reset (mem p.mems x).kind (mem p.mems x).start ≡ true)
      later k (x, (zero, lt, i), is, r) = absurd (true≢false (sym r ∙ ap (λ y. has_reset (mem p.mems y).kind (mem p.mems y).start) (sym i) ∙ e))
      later k (x, (suc j, lt, i), is, r) = (x, (j, omega arith, i), is, r)

  -- the operations that a statement adds
  abbrev Adds : (rest : PlainStmts) → (waits : ℕ → Bool) → Run → Run → Type 0
  Adds rest waits run next = (new : List PlainOp) × (next.ops ≡ run.ops ++ new) × ResetsFirst waits new × Waiting p rest (after_ops new waits)

  adds : (scope : Scope) (k : PlainStmtKind) (place : ℕ) (rest : PlainStmts) (waits : ℕ → Bool) → Waiting p (more_stmt (stmt place k) rest) waits → InRange p scope → Declared p (mems_declared (more_stmt (stmt place k) rest)) → BodyTyped p scope (more_stmt (stmt place k) rest)
      → (run : Run) → ValuesHave Late run.values → Adds rest waits run (with_stmt p.mems true None run k)
  adds scope (declare m) place rest waits waiting ran d typed run have = reset_adds m rest place waits waiting run (has_reset (mem p.mems m).kind (mem p.mems m).start) refl
  adds scope (name v e) place rest waits waiting ran d typed run have =
      let x = named_new scope (more_stmt (stmt place (name v e)) rest) waits waiting ran d typed run have v e typed.0.1 in
      let a = added scope (more_stmt (stmt place (name v e)) rest) waits waiting ran d typed run have x.0 x.2 in
      (x.0, x.1, a.0, a.1)
  adds scope (set_reg m e) place rest waits waiting ran d typed run have =
      let body : PlainStmts = more_stmt (stmt place (set_reg m e)) rest in
      let x : Code = next_code p.mems run e in
      let op : ℕ → PlainOp = λ w. write_op (mem p.mems m).ty (mem_number p.mems m) (w ∷ []) in
      let a = added scope body waits waiting ran d typed run have (x.ops ++ op x.word ∷ []) (word_new scope body waits waiting ran d typed run have [] e (length run.ops) op m (λ w. refl) tt typed.0.1 (visible_ok p core wide scope body waits waiting ran d typed m Reg (type_of e) typed.0.0 refl)) in
      (x.ops ++ op x.word ∷ [], refl, a.0, a.1)
  adds scope (set_out m e) place rest waits waiting ran d typed run have =
      let body : PlainStmts = more_stmt (stmt place (set_out m e)) rest in
      let x : Code = next_code p.mems run e in
      let op : ℕ → PlainOp = λ w. write_op (mem p.mems m).ty (mem_number p.mems m) (w ∷ []) in
      let a = added scope body waits waiting ran d typed run have (x.ops ++ op x.word ∷ []) (word_new scope body waits waiting ran d typed run have [] e (length run.ops) op m (λ w. refl) tt typed.0.1 (visible_ok p core wide scope body waits waiting ran d typed m ArgOut (type_of e) typed.0.0 refl)) in
      (x.ops ++ op x.word ∷ [], refl, a.0, a.1)
  adds scope (set_sram m xs e) place rest waits waiting ran d typed run have =
      let body : PlainStmts = more_stmt (stmt place (set_sram m xs e)) rest in
      let is : Codes = codes p.mems run.values.here (length run.ops) xs in
      let x : Code = next_code p.mems (with_ops run is.ops) e in
      let op : ℕ → PlainOp = λ w. write_op (mem p.mems m).ty (mem_number p.mems m) (is.words ++ w ∷ []) in
      let new : List PlainOp = is.ops ++ (x.ops ++ op x.word ∷ []) in
      let a = added scope body waits waiting ran d typed run have new
      (word_new scope body waits waiting ran d typed run have is.ops e (length (run.ops ++ is.ops)) op m (λ w. refl)
      (codes_pass p core (t scope body waits waiting ran d typed run have) run.values.here (sources_pass scope body waits waiting ran d typed run have) xs (length run.ops) (all_ok p core wide scope body waits waiting ran d typed xs typed.0.2))
      typed.0.3 (visible_ok p core wide scope body waits waiting ran d typed m Sram (type_of e) typed.0.0 refl)) in
      (new, append_assoc run.ops is.ops (x.ops ++ op x.word ∷ []), a.0, a.1)
  adds scope (enq m e) place rest waits waiting ran d typed run have =
      let body : PlainStmts = more_stmt (stmt place (enq m e)) rest in
      let x : Code = next_code p.mems run e in
      let op : ℕ → PlainOp = λ w. accesses kind.Enq (mem p.mems m).ty (mem_number p.mems m) (w ∷ []) in
      let a = added scope body waits waiting ran d typed run have (x.ops ++ op x.word ∷ []) (word_new scope body waits waiting ran d typed run have [] e (length run.ops) op m (λ w. refl) tt typed.0.1 (visible_ok p core wide scope body waits waiting ran d typed m Fifo (type_of e) typed.0.0 refl)) in
      (x.ops ++ op x.word ∷ [], refl, a.0, a.1)
  adds scope k place rest waits waiting ran d typed run have = ([], sym (append_none run.ops), tt, waiting)

  -- all statements of an inner body: at its end nothing waits
  body_resets : (body : PlainStmts) (scope : Scope) (run : Run) (waits : ℕ → Bool) → ResetsFirst waits run.ops → Waiting p body (after_ops run.ops waits) → InRange p scope → Declared p (mems_declared body) → BodyTyped p scope body → ValuesHave Late run.values
      → ResetsFirst waits (inner_run p.mems run body).ops × Waiting p no_stmt (after_ops (inner_run p.mems run body).ops waits)
  body_resets no_stmt scope run waits h waiting ran d typed have = (h, waiting)
  body_resets (more_stmt (stmt place k) rest) scope run waits h waiting ran d typed have =
      let x = adds scope k place rest (after_ops run.ops waits) waiting ran d typed run have in
      body_resets rest (after scope k) (with_stmt p.mems true None run k) waits
      (subst (ResetsFirst waits) (sym x.1) (resets_append run.ops x.0 waits h x.2))
      (subst (λ f. Waiting p rest f) (sym (ap (λ os. after_ops os waits) x.1 ∙ after_append run.ops x.0 waits)) x.3)
      (range_after p scope k ran (declared_front p (mems_in k) (mems_declared rest) d)) (declared_back p (mems_in k) (mems_declared rest) d) typed.1 (stmt_have Late p.mems true None run k have tt)

  -- at its beginning what it declares itself may wait
  begins : (declared : (m : ℕ) → m < length p.mems → is_off_dram (mem p.mems m) ≡ true → core_mem core (mem_number p.mems m) ≡ written_mem (mem p.mems m)) → (body : PlainStmts) → Declared p (mems_declared body) → Waiting p body (waits_in core (map (mem_number p.mems) (own_mems body)))
  begins declared body d k w =
      let a = and_parts (is_among k (map (mem_number p.mems) (own_mems body))) (has_reset (core_mem core k).kind (core_mem core k).start) w in
      let x = mapped_in (mem_number p.mems) (own_mems body) k a.0 in
      let is = d x.0 (own_declared body x.0 x.1) in
      (x.0, x.1, x.2, sym (ap (λ n. has_reset (core_mem core n).kind (core_mem core n).start) (sym x.2) ∙ ap (λ (m : PlainMem). has_reset m.kind m.start) (declared x.0 is.0 is.1)) ∙ a.1)

  pub inner_resets : (declared : (m : ℕ) → m < length p.mems → is_off_dram (mem p.mems m) ≡ true → core_mem core (mem_number p.mems m) ≡ written_mem (mem p.mems m)) → (body : PlainStmts) (scope : Scope) (sources : Sources) → InRange p scope → Declared p (mems_declared body) → BodyTyped p scope body
      → SourcesHave Late sources → (more : List PlainOp) → ResetsFirst (waits_in core (map (mem_number p.mems) (own_mems body))) ((inner_run p.mems (no_run sources) body).ops ++ more)
  inner_resets declared body scope sources ran d typed have more =
      let waits : ℕ → Bool = waits_in core (map (mem_number p.mems) (own_mems body)) in
      let r = body_resets body scope (no_run sources) waits tt (begins declared body d) ran d typed (have, have) in
      resets_append (inner_run p.mems (no_run sources) body).ops more waits r.0 (none_waits more (after_ops (inner_run p.mems (no_run sources) body).ops waits) (λ m w. let c = (r.1 m w).1 in omega (arith, c.1)))
