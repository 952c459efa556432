-- What the operations of expressions, of runs of statements, and of early stages and combinations change.
use Rattle.std.proofs.Common.{◌≡◌, ℕ, zero, suc, ◌+◌, ◌<◌, ◌≤◌, Bool, true, false, not, cond, List, [], ◌∷◌, ◌++◌, length, map, Option, None, Some, refl, ◌∙◌, ap, arith, if◌then◌else◌}
use Rattle.std.specs.Prelude.{IsTrue}
use Rattle.sp_words.specs.declared.kind.BinOp.TheVariants as binary
use Rattle.sp_words.specs.declared.kind.Kind.{Kind}
use Rattle.sp_words.specs.declared.kind.Kind.TheVariants.{Reg, Sram, Fifo, LineBuf, ArgIn, ArgOut}
use Rattle.sp_words.specs.declared.types.Ty.{Ty}
use Rattle.sp_words.specs.declared.types.Ty.TheVariants.{Bit}
use Rattle.sp_words.specs.Types.{int_type}
use Rattle.sp_tree.specs.declared.statement.Comb.{Comb}
use Rattle.sp_tree.specs.Expressions.{mem}
use Rattle.sp_tree.specs.Footprint.{Names, KindNames, AllName}
use Rattle.sp_tree.specs.Meaning.{is_dram}
use Rattle.sp_tree.specs.PlainExpression.{PlainExpr, PlainExprKind, PlainExprs, expr, literal, counter, value, get_reg, get_arg, get_sram, get_line, deq, one, two, shift, mux, cast, no_expr, more_expr, type_of}
use Rattle.sp_tree.specs.PlainProgram.{PlainProgram}
use Rattle.sp_tree.specs.PlainStatement as tree
use Rattle.sp_tree.specs.PlainStatement.{PlainSpan, single, range, PlainStmtKind, PlainStmts, stmt, declare, name, set_reg, set_out, set_sram, enq, load_sram, load_line, store, gather, scatter, block, foreach, reduce, mem_reduce, fsm, branch, no_stmt, more_stmt}
use Rattle.sp_tree.specs.Structure.{mems_declared, mems_in, own_mems}
use Rattle.sp_tree.specs.Typing.{Scope, IsMem, Typed, KindTyped, IndicesTyped, BodyTyped, StmtTyped, BoundsTyped, SpansTyped, after}
use Rattle.sp_core.specs.declared.operation.OpKind.TheVariants as kind
use Rattle.sp_core.specs.Footprint.{AllPass}
use Rattle.sp_core.specs.PlainCore.{PlainOp, PlainCounter, PlainStages, PlainCore}
use Rattle.sp_core.specs.Sequential.{has_reset}
use Rattle.sp_sugar.specs.Combination.{element_counters, element_indices, is_last_at, conjunction, is_last_element, element_value, element_ops, element_loop, operator_of}
use Rattle.sp_sugar.specs.Early.{bounds_of, parts_of, is_early, is_early_slice, is_early_part, after as after_word, into_register, from_register, counters_of, spans_from, bound_stages, part_ops, slice_ops, slice_stage, stage_of, early_stages}
use Rattle.sp_sugar.specs.Numbers.{is_off_dram, mem_number, numbers_from}
use Rattle.sp_sugar.specs.Operations.{Code, Codes, accesses, read_op, write_op, literal_op, computes, under, source_code, code, code_of, codes, word_list}
use Rattle.sp_sugar.specs.Registers.{at_end, beside, inside, owned_registers}
use Rattle.sp_sugar.specs.Runs.{Run, with_ops, next_code, with_computed, with_named, with_word, with_stmt, inner_run}
use Rattle.sp_sugar.specs.Stages.{run_stage, Combines, nothing, folds, reduces, reduces_elements, combining, combination}
use Rattle.sp_sugar.specs.Uses.{Ending}
use Rattle.sp_sugar.specs.Values.{Source, at_place, in_register, constant, count, Sources, no_sources}
use Rattle.sp_lane_cores.proofs.LanedNaming.{RegisterHas, InRange, Declared, declared_front, declared_back, range_after}
use Rattle.sp_lane_cores.proofs.LanedParting.{after_least}
use Rattle.sp_lane_trees.specs.ReductionsChanges.{ListChanges, CountersChange, SpansChange, NodeChanges, StagesChange}

-- a test that each memory of the program passes that isn't a DRAM
pub record Chips (p : PlainProgram) : Type 0 where
  pub is : ℕ → Bool
  pub chips : (m : ℕ) → m < length p.mems → is_off_dram (mem p.mems m) ≡ true → IsTrue (is (mem_number p.mems m))

module _ (p : PlainProgram) (core : PlainCore) (t : Chips p) where
  -- a memory of the program, as the core numbers it
  abbrev pub is_chip : ℕ → Bool
  is_chip m = t.is (mem_number p.mems m)

  pub chip_passes : (scope : Scope) (m : ℕ) (K : Kind) (ty : Ty) → InRange p scope → IsMem p scope m K ty → is_dram K ≡ false → IsTrue (is_chip m)
  chip_passes scope m K ty h k d = t.chips m (h m k.seen) (ap (λ x. not (is_dram x)) k.is_kind ∙ ap not d)

  mutual
    pub names_pass : (scope : Scope) → InRange p scope → (e : PlainExpr) → Typed p scope e → Names is_chip e
    names_pass scope h (expr place ty k) typed = kind_passes scope h k ty typed

    kind_passes : (scope : Scope) → InRange p scope → (k : PlainExprKind) (ty : Ty) → KindTyped p scope k ty → KindNames is_chip k
    kind_passes scope h (literal w) ty typed = tt
    kind_passes scope h (counter c) ty typed = tt
    kind_passes scope h (value v) ty typed = tt
    kind_passes scope h (get_reg m) ty typed = chip_passes scope m Reg ty h typed refl
    kind_passes scope h (get_arg m) ty typed = chip_passes scope m ArgIn ty h typed refl
    kind_passes scope h (get_sram m indices) ty typed = (chip_passes scope m Sram ty h typed.0 refl, all_pass scope h indices typed.2)
    kind_passes scope h (get_line m row column) ty typed = (chip_passes scope m LineBuf ty h typed.0 refl, names_pass scope h row typed.1, names_pass scope h column typed.3)
    kind_passes scope h (deq m) ty typed = chip_passes scope m Fifo ty h typed refl
    kind_passes scope h (one op a) ty typed = names_pass scope h a typed.0
    kind_passes scope h (two op a b) ty typed = (names_pass scope h a typed.0, names_pass scope h b typed.1)
    kind_passes scope h (shift left a by) ty typed = names_pass scope h a typed.0
    kind_passes scope h (mux c a b) ty typed = (names_pass scope h c typed.0, names_pass scope h a typed.2, names_pass scope h b typed.4)
    kind_passes scope h (cast a) ty typed = names_pass scope h a typed

    pub all_pass : (scope : Scope) → InRange p scope → (es : PlainExprs) → IndicesTyped p scope es → AllName is_chip es
    all_pass scope h no_expr typed = tt
    all_pass scope h (more_expr e es) typed = (names_pass scope h e typed.0, all_pass scope h es typed.2)

  abbrev pub Change : List PlainOp → Type 0
  Change ops = ListChanges core t.is ops

  pub change_append : (xs ys : List PlainOp) → Change xs → Change ys → Change (xs ++ ys)
  change_append [] ys h k = k
  change_append (x ∷ xs) ys h k = (h.0, change_append xs ys h.1 k)

  -- registers by the same test
  abbrev pub IsPassed : ℕ → Type 0
  IsPassed r = IsTrue (t.is r)

  source_change : (source : Source) (at : ℕ) (ty : Ty) → Change (source_code at ty source).ops
  source_change (at_place k) at ty = tt
  source_change (in_register r) at ty = (tt, tt)
  source_change (constant w) at ty = (tt, tt)
  source_change (count c) at ty = (tt, tt)

  module _ (sources : Sources) where
    mutual
      unfolding code code_of codes

      pub code_changes : (e : PlainExpr) (at : ℕ) → Names is_chip e → Change (code p.mems sources at e).ops
      code_changes (expr place ty k) at o = code_of_changes k at ty o

      code_of_changes : (k : PlainExprKind) (at : ℕ) (ty : Ty) → KindNames is_chip k → Change (code_of p.mems sources at ty k).ops
      code_of_changes (literal w) at ty o = (tt, tt)
      code_of_changes (counter c) at ty o = (tt, tt)
      code_of_changes (value v) at ty o = source_change (sources v) at ty
      code_of_changes (get_reg m) at ty o = (tt, tt)
      code_of_changes (get_arg m) at ty o = (tt, tt)
      code_of_changes (get_sram m indices) at ty o = change_append (codes p.mems sources at indices).ops _ (codes_change indices at o.1) (tt, tt)
      code_of_changes (get_line m row column) at ty o =
          let r : Code = code p.mems sources at row in let c : Code = code p.mems sources (at + length r.ops) column in
          change_append (r.ops ++ c.ops) _ (change_append r.ops c.ops (code_changes row at o.1) (code_changes column (at + length r.ops) o.2)) (tt, tt)
      code_of_changes (deq m) at ty o = (o, tt)
      code_of_changes (one op a) at ty o = change_append (code p.mems sources at a).ops _ (code_changes a at o) (tt, tt)
      code_of_changes (two op a b) at ty o =
          let x : Code = code p.mems sources at a in let y : Code = code p.mems sources (at + length x.ops) b in
          change_append (x.ops ++ y.ops) _ (change_append x.ops y.ops (code_changes a at o.0) (code_changes b (at + length x.ops) o.1)) (tt, tt)
      code_of_changes (shift left a by) at ty o = change_append (code p.mems sources at a).ops _ (code_changes a at o) (tt, tt)
      code_of_changes (mux c a b) at ty o =
          let z : Code = code p.mems sources at c in let x : Code = code p.mems sources (at + length z.ops) a in let y : Code = code p.mems sources (at + length z.ops + length x.ops) b in
          change_append (z.ops ++ x.ops ++ y.ops) _ (change_append (z.ops ++ x.ops) y.ops (change_append z.ops x.ops (code_changes c at o.0) (code_changes a (at + length z.ops) o.1)) (code_changes b (at + length z.ops + length x.ops) o.2)) (tt, tt)
      code_of_changes (cast a) at ty o = change_append (code p.mems sources at a).ops _ (code_changes a at o) (tt, tt)

      pub codes_change : (es : PlainExprs) (at : ℕ) → AllName is_chip es → Change (codes p.mems sources at es).ops
      codes_change no_expr at o = tt
      codes_change (more_expr e es) at o =
          let x : Code = code p.mems sources at e in
          change_append x.ops (codes p.mems sources (at + length x.ops) es).ops (code_changes e at o.0) (codes_change es (at + length x.ops) o.1)

  -- what a run has so far
  pub next_changes : (run : Run) (e : PlainExpr) → Names is_chip e → Change (next_code p.mems run e).ops
  next_changes run e o = code_changes run.values.here e (length run.ops) o

  computed_changes : (run : Run) (v : ℕ) (e : PlainExpr) (register : Option ℕ) → Change run.ops → Names is_chip e → RegisterHas IsPassed register → Change (with_computed p.mems run v e register).ops
  computed_changes run v e None h o k = change_append run.ops (next_code p.mems run e).ops h (next_changes run e o)
  computed_changes run v e (Some r) h o k =
      let x : Code = next_code p.mems run e in
      change_append (run.ops ++ x.ops) (write_op (type_of e) r (x.word ∷ []) ∷ []) (change_append run.ops x.ops h (next_changes run e o)) (k, tt)

  named_changes : (run : Run) (v : ℕ) (e : PlainExpr) (register : Option ℕ) → Change run.ops → Names is_chip e → RegisterHas IsPassed register → Change (with_named p.mems run v e register).ops
  named_changes run v (expr place ty (literal w)) register h o k = h
  named_changes run v (expr place ty (counter c)) register h o k = h
  named_changes run v (expr place ty (value u)) register h o k = h
  named_changes run v (expr place ty x) register h o k = computed_changes run v (expr place ty x) register h o k

  word_changes : (run : Run) (e : PlainExpr) (op : ℕ → PlainOp) → Change run.ops → Names is_chip e → ((w : ℕ) → Change (op w ∷ [])) → Change (with_word p.mems run e op).ops
  word_changes run e op h o k =
      let x : Code = next_code p.mems run e in
      change_append run.ops (x.ops ++ op x.word ∷ []) h (change_append x.ops (op x.word ∷ []) (next_changes run e o) (k x.word))

  reset_changes : (b : Bool) (run : Run) (ops : List PlainOp) → Change run.ops → Change ops → Change (cond b (with_ops run ops) run).ops
  reset_changes true run ops h k = change_append run.ops ops h k
  reset_changes false run ops h k = h

  -- a statement of a run
  pub stmt_changes : (inner : Bool) (register : Option ℕ) (run : Run) (scope : Scope) (k : PlainStmtKind) → InRange p scope → Declared p (mems_in k) → Change run.ops → RegisterHas IsPassed register → StmtTyped p scope k → Change (with_stmt p.mems inner register run k).ops
  stmt_changes true register run scope (declare m) h d r k typed =
      let is = d m (zero, omega arith, refl) in
      reset_changes (has_reset (mem p.mems m).kind (mem p.mems m).start) run (accesses kind.Reset (mem p.mems m).ty (mem_number p.mems m) [] ∷ []) r (t.chips m is.0 is.1, tt)
  stmt_changes false register run scope (declare m) h d r k typed = r
  stmt_changes true register run scope (name v e) h d r k typed = named_changes run v e register r (names_pass scope h e typed.1) k
  stmt_changes true register run scope (set_reg m e) h d r k typed = word_changes run e (λ w. write_op (mem p.mems m).ty (mem_number p.mems m) (w ∷ [])) r (names_pass scope h e typed.1) (λ w. (chip_passes scope m Reg (type_of e) h typed.0 refl, tt))
  stmt_changes true register run scope (set_out m e) h d r k typed = word_changes run e (λ w. write_op (mem p.mems m).ty (mem_number p.mems m) (w ∷ [])) r (names_pass scope h e typed.1) (λ w. (chip_passes scope m ArgOut (type_of e) h typed.0 refl, tt))
  stmt_changes true register run scope (set_sram m xs e) h d r k typed =
      let is : Codes = codes p.mems run.values.here (length run.ops) xs in
      word_changes (with_ops run is.ops) e (λ w. write_op (mem p.mems m).ty (mem_number p.mems m) (is.words ++ w ∷ [])) (change_append run.ops is.ops r (codes_change run.values.here xs (length run.ops) (all_pass scope h xs typed.2))) (names_pass scope h e typed.3) (λ w. (chip_passes scope m Sram (type_of e) h typed.0 refl, tt))
  stmt_changes true register run scope (enq m e) h d r k typed = word_changes run e (λ w. accesses kind.Enq (mem p.mems m).ty (mem_number p.mems m) (w ∷ [])) r (names_pass scope h e typed.1) (λ w. (chip_passes scope m Fifo (type_of e) h typed.0 refl, tt))
  stmt_changes false register run scope (name v e) h d r k typed = named_changes run v e register r (names_pass scope h e typed.1) k
  stmt_changes false register run scope (set_reg m e) h d r k typed = word_changes run e (λ w. write_op (mem p.mems m).ty (mem_number p.mems m) (w ∷ [])) r (names_pass scope h e typed.1) (λ w. (chip_passes scope m Reg (type_of e) h typed.0 refl, tt))
  stmt_changes false register run scope (set_out m e) h d r k typed = word_changes run e (λ w. write_op (mem p.mems m).ty (mem_number p.mems m) (w ∷ [])) r (names_pass scope h e typed.1) (λ w. (chip_passes scope m ArgOut (type_of e) h typed.0 refl, tt))
  stmt_changes false register run scope (set_sram m xs e) h d r k typed =
      let is : Codes = codes p.mems run.values.here (length run.ops) xs in
      word_changes (with_ops run is.ops) e (λ w. write_op (mem p.mems m).ty (mem_number p.mems m) (is.words ++ w ∷ [])) (change_append run.ops is.ops r (codes_change run.values.here xs (length run.ops) (all_pass scope h xs typed.2))) (names_pass scope h e typed.3) (λ w. (chip_passes scope m Sram (type_of e) h typed.0 refl, tt))
  stmt_changes false register run scope (enq m e) h d r k typed = word_changes run e (λ w. accesses kind.Enq (mem p.mems m).ty (mem_number p.mems m) (w ∷ [])) r (names_pass scope h e typed.1) (λ w. (chip_passes scope m Fifo (type_of e) h typed.0 refl, tt))
  stmt_changes true register run scope x h d r k typed = r
  stmt_changes false register run scope x h d r k typed = r

  -- an inner body
  pub inner_changes : (run : Run) (scope : Scope) (body : PlainStmts) → InRange p scope → Declared p (mems_declared body) → Change run.ops → BodyTyped p scope body → Change (inner_run p.mems run body).ops
  inner_changes run scope no_stmt h d r typed = r
  inner_changes run scope (more_stmt (stmt place k) rest) h d r typed =
      let first : Declared p (mems_in k) = declared_front p (mems_in k) (mems_declared rest) d in
      inner_changes (with_stmt p.mems true None run k) (after scope k) rest (range_after p scope k h first) (declared_back p (mems_in k) (mems_declared rest) d) (stmt_changes true None run scope k h first r tt typed.0) typed.1

  -- all registers from a number on
  abbrev pub Regs : ℕ → Type 0
  Regs n = (r : ℕ) → n ≤ r → IsPassed r

  pub regs_more : (n k : ℕ) → n ≤ k → Regs n → Regs k
  regs_more n k le h r lt = h r (omega (arith, le, lt))

  pub all_append : (xs ys : List ℕ) → AllPass core t.is xs → AllPass core t.is ys → AllPass core t.is (xs ++ ys)
  all_append [] ys h k = k
  all_append (x ∷ xs) ys h k = (h.0, all_append xs ys h.1 k)

  numbers_pass : (n k : ℕ) → Regs n → AllPass core t.is (numbers_from n k)
  numbers_pass n zero h = tt
  numbers_pass n (suc k) h = (h n (omega arith), numbers_pass (suc n) k (regs_more n (suc n) (omega arith) h))

  pub owned_pass : (n : ℕ) (body : PlainStmts) (ending : Ending) → Regs n → AllPass core t.is (owned_registers n body ending)
  owned_pass n no_stmt ending h = numbers_pass n (length (at_end ending)) h
  owned_pass n (more_stmt (stmt place k) rest) ending h =
      let next : ℕ = n + length (beside k rest ending) + length (inside k) in
      all_append (numbers_from n (length (beside k rest ending))) (owned_registers next rest ending) (numbers_pass n (length (beside k rest ending)) h) (owned_pass next rest ending (regs_more n next (omega arith) h))

  pub own_changes : (body : PlainStmts) → Declared p (mems_declared body) → AllPass core t.is (map (mem_number p.mems) (own_mems body))
  own_changes no_stmt d = tt
  own_changes (more_stmt (stmt place (declare m)) rest) d =
      let is = declared_front p (m ∷ []) (mems_declared rest) d m (zero, omega arith, refl) in
      (t.chips m is.0 is.1, own_changes rest (declared_back p (m ∷ []) (mems_declared rest) d))
  own_changes (more_stmt (stmt place k) rest) d = own_changes rest (declared_back p (mems_in k) (mems_declared rest) d)

  -- expressions by the core's numbers
  abbrev pub Parts : List PlainExpr → Type 0
  Parts [] = Unit {0}
  Parts (e ∷ es) = Names is_chip e × Parts es

  pub bound_parts : (scope : Scope) → InRange p scope → (loops : List tree.PlainCounter) → BoundsTyped p scope loops → Parts (bounds_of loops)
  bound_parts scope h [] typed = tt
  bound_parts scope h (c ∷ loops) typed = (names_pass scope h c.from typed.0.0.0, (names_pass scope h c.until typed.1.0.0, bound_parts scope h loops typed.4))

  pub slice_parts : (scope : Scope) → InRange p scope → (spans : List PlainSpan) → SpansTyped p scope spans → Parts (parts_of spans)
  slice_parts scope h [] typed = tt
  slice_parts scope h (single e ∷ spans) typed = (names_pass scope h e typed.0.0.0, slice_parts scope h spans typed.1)
  slice_parts scope h (range a b par ∷ spans) typed = (names_pass scope h a typed.0.0.0, (names_pass scope h b typed.1.0.0, slice_parts scope h spans typed.3))

  if_ops : (b : Bool) (xs ys : List PlainOp) → Change xs → Change ys → Change (if b then xs else ys)
  if_ops true xs ys h k = h
  if_ops false xs ys h k = k

  -- what stages change that come after others
  abbrev Good : PlainStages → Type 0
  Good xs = StagesChange core t.is xs

  stage_changes : (ops : List PlainOp) (rest : PlainStages) → Change ops → Good rest → Good (stage_of ops rest)
  stage_changes ops rest h k = ((tt, tt, h), k)

  if_stages : (b : Bool) (xs ys : PlainStages) → Good xs → Good ys → Good (if b then xs else ys)
  if_stages true xs ys h k = h
  if_stages false xs ys h k = k

  pub run_changes : (ops : List PlainOp) (rest : PlainStages) → Change ops → Good rest → Good (run_stage ops rest)
  run_changes [] rest h k = k
  run_changes (op ∷ ops) rest h k = stage_changes (op ∷ ops) rest h k

  module _ (sources : Sources) where
    pub list_changes : (e : PlainExpr) → Names is_chip e → Change (word_list p.mems sources e)
    list_changes e o = code_changes sources e 0 o

    into_changes : (at r : ℕ) (e : PlainExpr) → Names is_chip e → IsPassed r → Change (into_register p.mems sources at r e)
    into_changes at r e o h = let x : Code = code p.mems sources at e in change_append x.ops (write_op int_type r (x.word ∷ []) ∷ []) (code_changes sources e at o) (h, tt)

    pub from_changes : (crosses : PlainExpr → Bool) (r : ℕ) (e : PlainExpr) → Names is_chip e → IsPassed r → Change (from_register p.mems sources crosses r e)
    from_changes crosses r e o h = if_ops (crosses e) (read_op int_type r [] ∷ []) (word_list p.mems sources e) (tt, tt) (list_changes e o)

    pub loops_change : (r : ℕ) (loops : List tree.PlainCounter) → Parts (bounds_of loops) → Regs r → CountersChange core t.is (counters_of p.mems sources r loops)
    loops_change r [] o h = tt
    loops_change r (c ∷ loops) o h =
        let first : ℕ = after_word is_early r c.from in
        let le : r ≤ first = after_least is_early r c.from in
        let second : ℕ = after_word is_early first c.until in
        let most : first ≤ second = after_least is_early first c.until in
        (from_changes is_early r c.from o.0 (h r (omega arith)), from_changes is_early first c.until o.1.0 (h first le), loops_change second loops o.1.1 (regs_more r second (omega (arith, le, most)) h))

    pub spans_change : (crosses : PlainExpr → Bool) (r : ℕ) (spans : List PlainSpan) → Parts (parts_of spans) → Regs r → SpansChange core t.is (spans_from p.mems sources crosses r spans)
    spans_change crosses r [] o h = tt
    spans_change crosses r (single e ∷ spans) o h =
        let first : ℕ = after_word crosses r e in
        (from_changes crosses r e o.0 (h r (omega arith)), spans_change crosses first spans o.1 (regs_more r first (after_least crosses r e) h))
    spans_change crosses r (range a b par ∷ spans) o h =
        let first : ℕ = after_word crosses r a in
        let le : r ≤ first = after_least crosses r a in
        let second : ℕ = after_word crosses first b in
        let most : first ≤ second = after_least crosses first b in
        (from_changes crosses r a o.0 (h r (omega arith)), from_changes crosses first b o.1.0 (h first le), spans_change crosses second spans o.1.1 (regs_more r second (omega (arith, le, most)) h))

    pub bounds_change : (r : ℕ) (es : List PlainExpr) (rest : PlainStages) → Parts es → Regs r → Good rest → Good (bound_stages p.mems sources r es rest)
    bounds_change r [] rest o h k = k
    bounds_change r (e ∷ es) rest o h k =
        if_stages (is_early e) (stage_of (into_register p.mems sources 0 r e) (bound_stages p.mems sources (suc r) es rest)) (bound_stages p.mems sources r es rest)
        (stage_changes (into_register p.mems sources 0 r e) (bound_stages p.mems sources (suc r) es rest) (into_changes 0 r e o.0 (h r (omega arith))) (bounds_change (suc r) es rest o.1 (regs_more r (suc r) (omega arith) h) k)) (bounds_change r es rest o.1 h k)

    parts_change : (crosses : PlainExpr → Bool) (at r : ℕ) (es : List PlainExpr) → Parts es → Regs r → Change (slice_ops p.mems sources crosses at r es)
    parts_change crosses at r [] o h = tt
    parts_change crosses at r (e ∷ es) o h =
        let first : List PlainOp = part_ops p.mems sources crosses at r e in
        change_append first (slice_ops p.mems sources crosses (at + length first) (after_word crosses r e) es)
        (if_ops (crosses e) (into_register p.mems sources at r e) [] (into_changes at r e o.0 (h r (omega arith))) tt)
        (parts_change crosses (at + length first) (after_word crosses r e) es o.1 (regs_more r (after_word crosses r e) (after_least crosses r e) h))

    pub slice_changes : (r : ℕ) (spans : List PlainSpan) (rest : PlainStages) → Parts (parts_of spans) → Regs r → Good rest → Good (slice_stage p.mems sources r spans rest)
    slice_changes r spans rest o h k =
        if_stages (is_early_slice spans) (stage_of (slice_ops p.mems sources (is_early_part spans) 0 r (parts_of spans)) rest) rest
        (stage_changes (slice_ops p.mems sources (is_early_part spans) 0 r (parts_of spans)) rest (parts_change (is_early_part spans) 0 r (parts_of spans) o h) k) k

    -- the early stages of a statement
    pub early_changes : (scope : Scope) → InRange p scope → (r : ℕ) (k : PlainStmtKind) (rest : PlainStages) → StmtTyped p scope k → Regs r → Good rest → Good (early_stages p.mems sources r k rest)
    early_changes scope ran r (load_sram sram dram spans) rest typed h k = slice_changes r spans rest (slice_parts scope ran spans typed.1.spans_typed) h k
    early_changes scope ran r (load_line line dram spans) rest typed h k = slice_changes r spans rest (slice_parts scope ran spans typed.1.spans_typed) h k
    early_changes scope ran r (store dram spans sram) rest typed h k = slice_changes r spans rest (slice_parts scope ran spans typed.1.spans_typed) h k
    early_changes scope ran r (gather sram dram places e) rest typed h k = bounds_change r (e ∷ []) rest (names_pass scope ran e typed.1.how_many.0.0, tt) h k
    early_changes scope ran r (scatter dram places e sram) rest typed h k = bounds_change r (e ∷ []) rest (names_pass scope ran e typed.1.how_many.0.0, tt) h k
    early_changes scope ran r (foreach style loops body) rest typed h k = bounds_change r (bounds_of loops) rest (bound_parts scope ran loops typed.1.bounds) h k
    early_changes scope ran r (reduce style fold acc loops body e comb) rest typed h k = bounds_change r (bounds_of loops) rest (bound_parts scope ran loops typed.1.bounds) h k
    early_changes scope ran r (mem_reduce style acc loops body part comb) rest typed h k = bounds_change r (bounds_of loops) rest (bound_parts scope ran loops typed.1.bounds) h k
    early_changes scope ran r _ rest typed h k = k

  -- what a loop combines: its accumulator, what tells whether that holds a word, and a word
  abbrev pub CombChanges : Combines → Type 0
  CombChanges nothing = Unit {0}
  CombChanges (folds acc comb e) = IsPassed acc × Names is_chip e
  CombChanges (reduces acc begun comb e) = IsPassed acc × IsPassed begun × Names is_chip e
  CombChanges (reduces_elements part acc begun comb) = IsPassed acc × IsPassed begun × IsTrue (is_chip part)

  pub combining_changes : (counters at word : ℕ) (c : Combines) → CombChanges c → Change (combining p.mems counters at word c)
  combining_changes counters at word nothing h = tt
  combining_changes counters at word (folds acc comb e) h = (tt, (tt, (h.0, tt)))
  combining_changes counters at word (reduces acc begun comb e) h = (tt, (tt, (tt, (tt, (h.0, (tt, (h.1, tt)))))))
  combining_changes counters at word (reduces_elements part acc begun comb) h = tt

  pub combination_changes : (counters : ℕ) (before : List PlainOp) (x : Code) (c : Combines) (loops : List PlainCounter) (owned : List ℕ) → Change before → Change x.ops → CombChanges c → CountersChange core t.is loops → AllPass core t.is owned
      → NodeChanges core t.is (combination p.mems counters before x c loops owned)
  combination_changes counters before x c loops owned h k l m n =
      (m, n, change_append (before ++ x.ops) (combining p.mems counters (length before + length x.ops) x.word c) (change_append before x.ops h k) (combining_changes counters (length before + length x.ops) x.word c l))

  -- the elements of a memory
  pub indices_name : (c : ℕ) (ds : List ℕ) → AllName is_chip (element_indices c ds)
  indices_name c [] = tt
  indices_name c (d ∷ ds) = (tt, indices_name (suc c) ds)

  conjunction_names : (test : PlainExpr) (c : ℕ) (ds : List ℕ) → Names is_chip test → Names is_chip (conjunction test c ds)
  conjunction_names test c [] h = h
  conjunction_names test c (d ∷ ds) h = conjunction_names (expr 0 Bit (two binary.And test (is_last_at c d))) (suc c) ds (h, (tt, tt))

  last_names : (c : ℕ) (ds : List ℕ) → Names is_chip (is_last_element c ds)
  last_names c [] = tt
  last_names c (d ∷ ds) = conjunction_names (is_last_at c d) (suc c) ds (tt, tt)

  counters_change : (c : ℕ) (ds : List ℕ) → CountersChange core t.is (element_counters c ds)
  counters_change c [] = tt
  counters_change c (d ∷ ds) = ((tt, tt), (tt, tt), counters_change (suc c) ds)

  pub value_changes : (c : ℕ) (ds : List ℕ) (part : ℕ) (ty : Ty) → IsTrue (is_chip part) → Change (element_value p.mems c ds part ty).ops
  value_changes c ds part ty h = code_changes no_sources (expr 0 ty (get_sram part (element_indices c ds))) 0 (h, indices_name c ds)

  element_ops_change : (at word c : ℕ) (ds : List ℕ) (acc begun : ℕ) (ty : Ty) (comb : Comb) → IsPassed acc → IsPassed begun → Change (element_ops p.mems at word c ds acc begun ty comb)
  element_ops_change at word c ds acc begun ty comb h k =
      let is : Codes = codes p.mems no_sources (at + 1) (element_indices c ds) in
      let read : ℕ = at + 1 + length ds in
      let again : Codes = codes p.mems no_sources (read + 3) (element_indices c ds) in
      let last : Code = code p.mems no_sources (read + 4 + length ds) (is_last_element c ds) in
      let a : List PlainOp = read_op Bit begun [] ∷ is.ops in
      let b : List PlainOp = under at (read_op ty acc is.words) ∷ computes (kind.Two (operator_of comb)) ty (read ∷ word ∷ []) ∷ computes kind.Mux ty (at ∷ (read + 1) ∷ word ∷ []) ∷ again.ops in
      let d : List PlainOp = write_op ty acc (again.words ++ (read + 2) ∷ []) ∷ last.ops in
      let e : List PlainOp = literal_op Bit 1 ∷ under last.word (write_op Bit begun ((read + 4 + length ds + length last.ops) ∷ [])) ∷ [] in
      change_append (a ++ b ++ d) e
      (change_append (a ++ b) d (change_append a b (tt, codes_change no_sources (element_indices c ds) (at + 1) (indices_name c ds)) (tt, (tt, (tt, codes_change no_sources (element_indices c ds) (read + 3) (indices_name c ds)))))
      (h, code_changes no_sources (is_last_element c ds) (read + 4 + length ds) (last_names c ds)))
      (tt, (k, tt))

  pub element_changes : (c : ℕ) (ds : List ℕ) (part acc begun : ℕ) (ty : Ty) (comb : Comb) → IsPassed acc → IsPassed begun → IsTrue (is_chip part) → NodeChanges core t.is (element_loop p.mems c ds part acc begun ty comb)
  element_changes c ds part acc begun ty comb h k l =
      let value : Code = element_value p.mems c ds part ty in
      (counters_change c ds, tt, change_append value.ops (element_ops p.mems (length value.ops) value.word c ds acc begun ty comb) (value_changes c ds part ty l) (element_ops_change (length value.ops) value.word c ds acc begun ty comb h k))
