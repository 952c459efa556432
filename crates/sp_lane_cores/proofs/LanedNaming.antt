-- What the operations of expressions and of runs of statements name.
use Rattle.std.proofs.Common.{◌≡◌, ℕ, zero, suc, ◌+◌, ◌<◌, ◌==◌, Bool, true, false, not, cond, List, [], ◌∷◌, ◌++◌, length, Option, None, Some, refl, ◌∙◌, ap, subst, arith}
use Rattle.std.specs.Prelude.{Contains, IsTrue}
use Rattle.sp_words.specs.declared.kind.Kind.{Kind}
use Rattle.sp_words.specs.declared.kind.Kind.TheVariants.{Reg, Sram, Fifo, LineBuf, ArgIn, ArgOut}
use Rattle.sp_words.specs.declared.types.Ty.{Ty}
use Rattle.sp_tree.specs.Expressions.{mem}
use Rattle.sp_tree.specs.Footprint.{Names, KindNames, AllName, StmtKindNames, BodyNames}
use Rattle.sp_tree.specs.Meaning.{is_dram}
use Rattle.sp_tree.specs.PlainExpression.{PlainExpr, PlainExprKind, PlainExprs, expr, literal, counter, value, get_reg, get_arg, get_sram, get_line, deq, one, two, shift, mux, cast, no_expr, more_expr, type_of}
use Rattle.sp_tree.specs.PlainProgram.{PlainMem, PlainProgram}
use Rattle.sp_tree.specs.PlainStatement.{PlainStmtKind, PlainStmts, stmt, declare, name, set_reg, set_out, set_sram, enq, no_stmt, more_stmt}
use Rattle.sp_tree.specs.Structure.{mems_declared, mems_in}
use Rattle.sp_tree.specs.Typing.{Scope, IsMem, Typed, KindTyped, IndicesTyped, BodyTyped, StmtTyped, after}
use Rattle.sp_core.specs.declared.operation.OpKind.TheVariants as kind
use Rattle.sp_core.specs.Declarations.{dram_number}
use Rattle.sp_core.specs.Footprint.{MayName, ListNames}
use Rattle.sp_core.specs.PlainCore.{PlainOp, PlainCore}
use Rattle.sp_core.specs.Sequential.{has_reset}
use Rattle.sp_core.specs.Store.{changed}
use Rattle.sp_sugar.specs.Numbers.{is_off_dram, mem_number}
use Rattle.sp_sugar.specs.Operations.{Code, Codes, accesses, write_op, source_code, code, code_of, codes}
use Rattle.sp_sugar.specs.Runs.{Run, with_ops, next_code, with_computed, with_named, with_word, with_stmt, inner_run}
use Rattle.sp_sugar.specs.Values.{Source, at_place, in_register, constant, count, Sources, Values, with_value}
use Rattle.sp_sugar.proofs.RunKeeps.{in_front, in_back}

-- where a value is found, a register passes a test
module _ (P : ℕ → Type 0) where
  abbrev pub SourceHas : Source → Type 0
  SourceHas (in_register r) = P r
  SourceHas _ = Unit {0}

  abbrev pub SourcesHave : Sources → Type 0
  SourcesHave sources = (v : ℕ) → SourceHas (sources v)

  abbrev pub ValuesHave : Values → Type 0
  ValuesHave values = SourcesHave values.here × SourcesHave values.elsewhere

  abbrev pub RegisterHas : Option ℕ → Type 0
  RegisterHas None = Unit {0}
  RegisterHas (Some r) = P r

  either_has : (b : Bool) (x y : Source) → SourceHas x → SourceHas y → SourceHas (elim b [ true ↦ x | false ↦ y ])
  either_has true x y h k = h
  either_has false x y h k = k

  pub changed_have : (sources : Sources) (v : ℕ) (x : Source) → SourcesHave sources → SourceHas x → SourcesHave (changed sources v x)
  changed_have sources v x h k u = either_has (u == v) x (sources u) k (h u)

  pub with_have : (values : Values) (v : ℕ) (x y : Source) → ValuesHave values → SourceHas x → SourceHas y → ValuesHave (with_value values v x y)
  with_have values v x y h k l = (changed_have values.here v x h.0 k, changed_have values.elsewhere v y h.1 l)

  module _ (mems : List PlainMem) where
    computed_have : (run : Run) (v : ℕ) (e : PlainExpr) (register : Option ℕ) → ValuesHave run.values → RegisterHas register → ValuesHave (with_computed mems run v e register).values
    computed_have run v e None h k = with_have run.values v _ _ h tt tt
    computed_have run v e (Some r) h k = with_have run.values v _ _ h tt k

    named_have : (run : Run) (v : ℕ) (e : PlainExpr) (register : Option ℕ) → ValuesHave run.values → RegisterHas register → ValuesHave (with_named mems run v e register).values
    named_have run v (expr place ty (literal w)) register h k = with_have run.values v _ _ h tt tt
    named_have run v (expr place ty (counter c)) register h k = with_have run.values v _ _ h tt tt
    named_have run v (expr place ty (value u)) register h k = with_have run.values v _ _ h (h.0 u) (h.1 u)
    named_have run v (expr place ty x) register h k = computed_have run v (expr place ty x) register h k

    reset_have : (b : Bool) (run : Run) (ops : List PlainOp) → ValuesHave run.values → ValuesHave (cond b (with_ops run ops) run).values
    reset_have true run ops h = h
    reset_have false run ops h = h

    pub stmt_have : (inner : Bool) (register : Option ℕ) (run : Run) (k : PlainStmtKind) → ValuesHave run.values → RegisterHas register → ValuesHave (with_stmt mems inner register run k).values
    stmt_have true register run (declare m) h l = reset_have (has_reset (mem mems m).kind (mem mems m).start) run (accesses kind.Reset (mem mems m).ty (mem_number mems m) [] ∷ []) h
    stmt_have false register run (declare m) h l = h
    stmt_have true register run (name v e) h l = named_have run v e register h l
    stmt_have false register run (name v e) h l = named_have run v e register h l
    stmt_have true register run k h l = h
    stmt_have false register run k h l = h

-- a test of the memories that a part may name, by the program's number and by the core's
pub record Test (p : PlainProgram) (core : PlainCore) : Type 0 where
  pub ok : ℕ → Bool
  pub is : ℕ → Bool
  pub chips : (m : ℕ) → IsTrue (ok m) → m < length p.mems → is_off_dram (mem p.mems m) ≡ true → IsTrue (is (mem_number p.mems m))
  pub drams : (r : ℕ) → IsTrue (is (dram_number core r))

module _ (p : PlainProgram) where
  -- what is visible is declared; and what is declared in a body is no DRAM
  abbrev pub InRange : Scope → Type 0
  InRange scope = (m : ℕ) → Contains scope.mems m → m < length p.mems

  abbrev pub Declared : List ℕ → Type 0
  Declared xs = (m : ℕ) → Contains xs m → (m < length p.mems) × (is_off_dram (mem p.mems m) ≡ true)

  pub declared_front : (xs ys : List ℕ) → Declared (xs ++ ys) → Declared xs
  declared_front xs ys h m c = h m (in_front xs ys m c)

  pub declared_back : (xs ys : List ℕ) → Declared (xs ++ ys) → Declared ys
  declared_back xs ys h m c = h m (in_back xs ys m c)

  one_more : (scope : Scope) (m : ℕ) → InRange scope → m < length p.mems → (x : ℕ) → Contains (m ∷ scope.mems) x → x < length p.mems
  one_more scope m h k x (zero, lt, e) = subst (λ y. y < length p.mems) e k
  one_more scope m h k x (suc j, lt, e) = h x (j, omega arith, e)

  pub range_after : (scope : Scope) (k : PlainStmtKind) → InRange scope → Declared (mems_in k) → InRange (after scope k)
  range_after scope (declare m) h d = one_more scope m h (d m (zero, omega arith, refl)).0
  range_after scope (name v e) h d = h
  range_after scope _ h d = h

  module _ (core : PlainCore) (t : Test p core) where
    -- a memory of the program, as the core numbers it
    abbrev pub is_chip : ℕ → Bool
    is_chip m = t.is (mem_number p.mems m)

    pub chip_passes : (scope : Scope) (m : ℕ) (K : Kind) (ty : Ty) → InRange scope → IsMem p scope m K ty → is_dram K ≡ false → IsTrue (t.ok m) → IsTrue (is_chip m)
    chip_passes scope m K ty h k d o = t.chips m o (h m k.seen) (ap (λ x. not (is_dram x)) k.is_kind ∙ ap not d)

    mutual
      pub names_pass : (scope : Scope) → InRange scope → (e : PlainExpr) → Typed p scope e → Names t.ok e → Names is_chip e
      names_pass scope h (expr place ty k) typed o = kind_passes scope h k ty typed o

      kind_passes : (scope : Scope) → InRange scope → (k : PlainExprKind) (ty : Ty) → KindTyped p scope k ty → KindNames t.ok k → KindNames is_chip k
      kind_passes scope h (literal w) ty typed o = tt
      kind_passes scope h (counter c) ty typed o = tt
      kind_passes scope h (value v) ty typed o = tt
      kind_passes scope h (get_reg m) ty typed o = chip_passes scope m Reg ty h typed refl o
      kind_passes scope h (get_arg m) ty typed o = chip_passes scope m ArgIn ty h typed refl o
      kind_passes scope h (get_sram m indices) ty typed o = (chip_passes scope m Sram ty h typed.0 refl o.0, all_pass scope h indices typed.2 o.1)
      kind_passes scope h (get_line m row column) ty typed o = (chip_passes scope m LineBuf ty h typed.0 refl o.0, names_pass scope h row typed.1 o.1, names_pass scope h column typed.3 o.2)
      kind_passes scope h (deq m) ty typed o = chip_passes scope m Fifo ty h typed refl o
      kind_passes scope h (one op a) ty typed o = names_pass scope h a typed.0 o
      kind_passes scope h (two op a b) ty typed o = (names_pass scope h a typed.0 o.0, names_pass scope h b typed.1 o.1)
      kind_passes scope h (shift left a by) ty typed o = names_pass scope h a typed.0 o
      kind_passes scope h (mux c a b) ty typed o = (names_pass scope h c typed.0 o.0, names_pass scope h a typed.2 o.1, names_pass scope h b typed.4 o.2)
      kind_passes scope h (cast a) ty typed o = names_pass scope h a typed o

      pub all_pass : (scope : Scope) → InRange scope → (es : PlainExprs) → IndicesTyped p scope es → AllName t.ok es → AllName is_chip es
      all_pass scope h no_expr typed o = tt
      all_pass scope h (more_expr e es) typed o = (names_pass scope h e typed.0 o.0, all_pass scope h es typed.2 o.1)

    abbrev pub Pass : List PlainOp → Type 0
    Pass ops = ListNames core t.is ops

    pub pass_append : (xs ys : List PlainOp) → Pass xs → Pass ys → Pass (xs ++ ys)
    pass_append [] ys h k = k
    pass_append (x ∷ xs) ys h k = (h.0, pass_append xs ys h.1 k)

    -- registers by the same test
    abbrev pub IsPassed : ℕ → Type 0
    IsPassed r = IsTrue (t.is r)

    source_passes : (source : Source) (at : ℕ) (ty : Ty) → SourceHas IsPassed source → Pass (source_code at ty source).ops
    source_passes (at_place k) at ty h = tt
    source_passes (in_register r) at ty h = (h, tt)
    source_passes (constant w) at ty h = (tt, tt)
    source_passes (count c) at ty h = (tt, tt)

    module _ (sources : Sources) (have : SourcesHave IsPassed sources) where
      mutual
        unfolding code code_of codes

        pub code_passes : (e : PlainExpr) (at : ℕ) → Names is_chip e → Pass (code p.mems sources at e).ops
        code_passes (expr place ty k) at o = code_of_passes k at ty o

        code_of_passes : (k : PlainExprKind) (at : ℕ) (ty : Ty) → KindNames is_chip k → Pass (code_of p.mems sources at ty k).ops
        code_of_passes (literal w) at ty o = (tt, tt)
        code_of_passes (counter c) at ty o = (tt, tt)
        code_of_passes (value v) at ty o = source_passes (sources v) at ty (have v)
        code_of_passes (get_reg m) at ty o = (o, tt)
        code_of_passes (get_arg m) at ty o = (o, tt)
        code_of_passes (get_sram m indices) at ty o = pass_append (codes p.mems sources at indices).ops _ (codes_pass indices at o.1) (o.0, tt)
        code_of_passes (get_line m row column) at ty o =
            let r : Code = code p.mems sources at row in let c : Code = code p.mems sources (at + length r.ops) column in
            pass_append (r.ops ++ c.ops) _ (pass_append r.ops c.ops (code_passes row at o.1) (code_passes column (at + length r.ops) o.2)) (o.0, tt)
        code_of_passes (deq m) at ty o = (o, tt)
        code_of_passes (one op a) at ty o = pass_append (code p.mems sources at a).ops _ (code_passes a at o) (tt, tt)
        code_of_passes (two op a b) at ty o =
            let x : Code = code p.mems sources at a in let y : Code = code p.mems sources (at + length x.ops) b in
            pass_append (x.ops ++ y.ops) _ (pass_append x.ops y.ops (code_passes a at o.0) (code_passes b (at + length x.ops) o.1)) (tt, tt)
        code_of_passes (shift left a by) at ty o = pass_append (code p.mems sources at a).ops _ (code_passes a at o) (tt, tt)
        code_of_passes (mux c a b) at ty o =
            let z : Code = code p.mems sources at c in let x : Code = code p.mems sources (at + length z.ops) a in let y : Code = code p.mems sources (at + length z.ops + length x.ops) b in
            pass_append (z.ops ++ x.ops ++ y.ops) _ (pass_append (z.ops ++ x.ops) y.ops (pass_append z.ops x.ops (code_passes c at o.0) (code_passes a (at + length z.ops) o.1)) (code_passes b (at + length z.ops + length x.ops) o.2)) (tt, tt)
        code_of_passes (cast a) at ty o = pass_append (code p.mems sources at a).ops _ (code_passes a at o) (tt, tt)

        pub codes_pass : (es : PlainExprs) (at : ℕ) → AllName is_chip es → Pass (codes p.mems sources at es).ops
        codes_pass no_expr at o = tt
        codes_pass (more_expr e es) at o =
            let x : Code = code p.mems sources at e in
            pass_append x.ops (codes p.mems sources (at + length x.ops) es).ops (code_passes e at o.0) (codes_pass es (at + length x.ops) o.1)

    -- what a run has so far
    pub record RunPasses (run : Run) : Type 0 where
      pub ops : Pass run.ops
      pub values : ValuesHave IsPassed run.values

    added : (run : Run) (ops : List PlainOp) → RunPasses run → Pass ops → RunPasses (with_ops run ops)
    added run ops h k = record { ops = pass_append run.ops ops h.ops k; values = h.values }

    pub next_passes : (run : Run) (e : PlainExpr) → RunPasses run → Names is_chip e → Pass (next_code p.mems run e).ops
    next_passes run e h o = code_passes run.values.here h.values.0 e (length run.ops) o

    computed_passes : (run : Run) (v : ℕ) (e : PlainExpr) (register : Option ℕ) → RunPasses run → Names is_chip e → RegisterHas IsPassed register → Pass (with_computed p.mems run v e register).ops
    computed_passes run v e None h o k = pass_append run.ops (next_code p.mems run e).ops h.ops (next_passes run e h o)
    computed_passes run v e (Some r) h o k =
        let x : Code = next_code p.mems run e in
        pass_append (run.ops ++ x.ops) (write_op (type_of e) r (x.word ∷ []) ∷ []) (pass_append run.ops x.ops h.ops (next_passes run e h o)) (k, tt)

    named_passes : (run : Run) (v : ℕ) (e : PlainExpr) (register : Option ℕ) → RunPasses run → Names is_chip e → RegisterHas IsPassed register → Pass (with_named p.mems run v e register).ops
    named_passes run v (expr place ty (literal w)) register h o k = h.ops
    named_passes run v (expr place ty (counter c)) register h o k = h.ops
    named_passes run v (expr place ty (value u)) register h o k = h.ops
    named_passes run v (expr place ty x) register h o k = computed_passes run v (expr place ty x) register h o k

    word_passes : (run : Run) (e : PlainExpr) (op : ℕ → PlainOp) → RunPasses run → Names is_chip e → ((w : ℕ) → MayName core t.is (op w).mem) → Pass (with_word p.mems run e op).ops
    word_passes run e op h o k =
        let x : Code = next_code p.mems run e in
        pass_append run.ops (x.ops ++ op x.word ∷ []) h.ops (pass_append x.ops (op x.word ∷ []) (next_passes run e h o) (k x.word, tt))

    reset_passes : (b : Bool) (run : Run) (ops : List PlainOp) → RunPasses run → Pass ops → Pass (cond b (with_ops run ops) run).ops
    reset_passes true run ops h k = pass_append run.ops ops h.ops k
    reset_passes false run ops h k = h.ops

    -- a statement of a run
    stmt_ops : (inner : Bool) (register : Option ℕ) (run : Run) (scope : Scope) (k : PlainStmtKind) → InRange scope → Declared (mems_in k) → RunPasses run → RegisterHas IsPassed register → StmtTyped p scope k → StmtKindNames t.ok k → Pass (with_stmt p.mems inner register run k).ops
    stmt_ops true register run scope (declare m) h d r k typed o =
        let is = d m (zero, omega arith, refl) in
        reset_passes (has_reset (mem p.mems m).kind (mem p.mems m).start) run (accesses kind.Reset (mem p.mems m).ty (mem_number p.mems m) [] ∷ []) r (t.chips m o is.0 is.1, tt)
    stmt_ops false register run scope (declare m) h d r k typed o = r.ops
    stmt_ops true register run scope (name v e) h d r k typed o = named_passes run v e register r (names_pass scope h e typed.1 o) k
    stmt_ops false register run scope (name v e) h d r k typed o = named_passes run v e register r (names_pass scope h e typed.1 o) k
    stmt_ops true register run scope (set_reg m e) h d r k typed o = word_passes run e (λ w. write_op (mem p.mems m).ty (mem_number p.mems m) (w ∷ [])) r (names_pass scope h e typed.1 o.1) (λ w. chip_passes scope m Reg (type_of e) h typed.0 refl o.0)
    stmt_ops false register run scope (set_reg m e) h d r k typed o = word_passes run e (λ w. write_op (mem p.mems m).ty (mem_number p.mems m) (w ∷ [])) r (names_pass scope h e typed.1 o.1) (λ w. chip_passes scope m Reg (type_of e) h typed.0 refl o.0)
    stmt_ops true register run scope (set_out m e) h d r k typed o = word_passes run e (λ w. write_op (mem p.mems m).ty (mem_number p.mems m) (w ∷ [])) r (names_pass scope h e typed.1 o.1) (λ w. chip_passes scope m ArgOut (type_of e) h typed.0 refl o.0)
    stmt_ops false register run scope (set_out m e) h d r k typed o = word_passes run e (λ w. write_op (mem p.mems m).ty (mem_number p.mems m) (w ∷ [])) r (names_pass scope h e typed.1 o.1) (λ w. chip_passes scope m ArgOut (type_of e) h typed.0 refl o.0)
    stmt_ops true register run scope (set_sram m xs e) h d r k typed o =
        let is : Codes = codes p.mems run.values.here (length run.ops) xs in
        word_passes (with_ops run is.ops) e (λ w. write_op (mem p.mems m).ty (mem_number p.mems m) (is.words ++ w ∷ [])) (added run is.ops r (codes_pass run.values.here r.values.0 xs (length run.ops) (all_pass scope h xs typed.2 o.1))) (names_pass scope h e typed.3 o.2) (λ w. chip_passes scope m Sram (type_of e) h typed.0 refl o.0)
    stmt_ops false register run scope (set_sram m xs e) h d r k typed o =
        let is : Codes = codes p.mems run.values.here (length run.ops) xs in
        word_passes (with_ops run is.ops) e (λ w. write_op (mem p.mems m).ty (mem_number p.mems m) (is.words ++ w ∷ [])) (added run is.ops r (codes_pass run.values.here r.values.0 xs (length run.ops) (all_pass scope h xs typed.2 o.1))) (names_pass scope h e typed.3 o.2) (λ w. chip_passes scope m Sram (type_of e) h typed.0 refl o.0)
    stmt_ops true register run scope (enq m e) h d r k typed o = word_passes run e (λ w. accesses kind.Enq (mem p.mems m).ty (mem_number p.mems m) (w ∷ [])) r (names_pass scope h e typed.1 o.1) (λ w. chip_passes scope m Fifo (type_of e) h typed.0 refl o.0)
    stmt_ops false register run scope (enq m e) h d r k typed o = word_passes run e (λ w. accesses kind.Enq (mem p.mems m).ty (mem_number p.mems m) (w ∷ [])) r (names_pass scope h e typed.1 o.1) (λ w. chip_passes scope m Fifo (type_of e) h typed.0 refl o.0)
    stmt_ops true register run scope x h d r k typed o = r.ops
    stmt_ops false register run scope x h d r k typed o = r.ops

    pub stmt_passes : (inner : Bool) (register : Option ℕ) (run : Run) (scope : Scope) (k : PlainStmtKind) → InRange scope → Declared (mems_in k) → RunPasses run → RegisterHas IsPassed register → StmtTyped p scope k → StmtKindNames t.ok k → RunPasses (with_stmt p.mems inner register run k)
    stmt_passes inner register run scope k h d r l typed o = record { ops = stmt_ops inner register run scope k h d r l typed o; values = stmt_have IsPassed p.mems inner register run k r.values l }

    -- an inner body
    pub inner_passes : (run : Run) (scope : Scope) (body : PlainStmts) → InRange scope → Declared (mems_declared body) → RunPasses run → BodyTyped p scope body → BodyNames t.ok body → RunPasses (inner_run p.mems run body)
    inner_passes run scope no_stmt h d r typed o = r
    inner_passes run scope (more_stmt (stmt place k) rest) h d r typed o =
        let first : Declared (mems_in k) = declared_front (mems_in k) (mems_declared rest) d in
        inner_passes (with_stmt p.mems true None run k) (after scope k) rest (range_after scope k h first) (declared_back (mems_in k) (mems_declared rest) d) (stmt_passes true None run scope k h first r tt typed.0 o.0) typed.1 o.1
