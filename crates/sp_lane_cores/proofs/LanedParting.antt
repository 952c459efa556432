-- What bounds, slices, early stages and combinations name.
use Rattle.std.proofs.Common.{ℕ, zero, suc, ◌+◌, ◌≤◌, Bool, true, false, List, [], ◌∷◌, ◌++◌, length, map, refl, subst, arith, if◌then◌else◌}
use Rattle.std.specs.Prelude.{Contains, IsTrue}
use Rattle.sp_words.specs.declared.kind.BinOp.TheVariants as binary
use Rattle.sp_words.specs.declared.types.Ty.{Ty}
use Rattle.sp_words.specs.declared.types.Ty.TheVariants.{Bit}
use Rattle.sp_words.specs.Types.{int_type}
use Rattle.sp_tree.specs.declared.statement.Comb.{Comb}
use Rattle.sp_tree.specs.Footprint as tree_names
use Rattle.sp_tree.specs.Footprint.{Names, AllName, StmtKindNames, BodyNames}
use Rattle.sp_tree.specs.PlainExpression.{PlainExpr, expr, get_sram, two}
use Rattle.sp_tree.specs.PlainProgram.{PlainProgram}
use Rattle.sp_tree.specs.PlainStatement as tree
use Rattle.sp_tree.specs.PlainStatement.{PlainSpan, single, range, PlainStmtKind, PlainStmts, stmt, declare, name, set_reg, set_out, set_sram, enq, load_sram, load_line, store, gather, scatter, block, foreach, reduce, mem_reduce, fsm, branch, no_stmt, more_stmt}
use Rattle.sp_tree.specs.Structure.{mems_declared, mems_in, own_mems}
use Rattle.sp_tree.specs.Typing.{Scope, StmtTyped, BoundsTyped, SpansTyped, after, after_all, with_counters}
use Rattle.sp_core.specs.declared.operation.OpKind.TheVariants as kind
use Rattle.sp_core.specs.Footprint.{AllPass, CountersName, SpansName, NodeNames, StagesName}
use Rattle.sp_core.specs.PlainCore as core_tree
use Rattle.sp_core.specs.PlainCore.{PlainOp, PlainCounter, PlainNode, PlainStages, PlainCore, no_stage, more_stage}
use Rattle.sp_sugar.specs.Combination.{element_counters, element_indices, is_last_at, conjunction, is_last_element, element_value, element_ops, element_loop, operator_of}
use Rattle.sp_sugar.specs.Early.{bounds_of, parts_of, is_early, is_early_slice, is_early_part, after as after_word, into_register, from_register, counters_of, spans_from, bound_stages, part_ops, slice_ops, slice_stage, stage_of, early_stages}
use Rattle.sp_sugar.specs.Numbers.{mem_number, numbers_from}
use Rattle.sp_sugar.specs.Operations.{Code, Codes, read_op, write_op, literal_op, computes, under, code, codes, word_list}
use Rattle.sp_sugar.specs.Registers.{at_end, beside, inside, owned_registers}
use Rattle.sp_sugar.specs.Stages.{run_stage, first_of, Combines, nothing, folds, reduces, reduces_elements, combining, combination}
use Rattle.sp_sugar.specs.Uses.{Ending}
use Rattle.sp_sugar.specs.Values.{Sources, no_sources}
use Rattle.sp_sugar.proofs.Entering.{same_mems}
use Rattle.sp_lane_cores.proofs.LanedNaming.{SourcesHave, RegisterHas, Test, InRange, Declared, declared_front, declared_back, range_after, is_chip, names_pass, Pass, pass_append, IsPassed, code_passes, codes_pass}

pub first_has : (P : ℕ → Type 0) (n : ℕ) (l : List core_tree.PlainMem) → P n → RegisterHas P (first_of n l)
first_has P n [] h = tt
first_has P n (m ∷ ms) h = h

pub after_least : (crosses : PlainExpr → Bool) (r : ℕ) (e : PlainExpr) → r ≤ after_word crosses r e
after_least crosses r e = by (crosses e)
  where
    by : (b : Bool) → r ≤ (if b then suc r else r)
    by true = omega arith
    by false = omega arith

-- a source of no value
no_source_has : (P : ℕ → Type 0) → SourcesHave P no_sources
no_source_has P v = tt

module _ (p : PlainProgram) where
  pub range_loops : (scope : Scope) (loops : List tree.PlainCounter) → InRange p scope → InRange p (with_counters scope loops)
  range_loops scope loops h m c = h m (subst (λ xs. Contains xs m) (same_mems scope loops) c)

  pub range_all : (scope : Scope) (body : PlainStmts) → InRange p scope → Declared p (mems_declared body) → InRange p (after_all scope body)
  range_all scope no_stmt h d = h
  range_all scope (more_stmt (stmt place k) rest) h d =
      range_all (after scope k) rest (range_after p scope k h (declared_front p (mems_in k) (mems_declared rest) d)) (declared_back p (mems_in k) (mems_declared rest) d)

  module _ (core : PlainCore) (t : Test p core) where
    -- all registers from a number on
    abbrev pub Regs : ℕ → Type 0
    Regs n = (r : ℕ) → n ≤ r → IsPassed p core t r

    pub regs_more : (n k : ℕ) → n ≤ k → Regs n → Regs k
    regs_more n k le h r lt = h r (omega (arith, le, lt))

    pub all_append : (xs ys : List ℕ) → AllPass core t.is xs → AllPass core t.is ys → AllPass core t.is (xs ++ ys)
    all_append [] ys h k = k
    all_append (x ∷ xs) ys h k = (h.0, all_append xs ys h.1 k)

    numbers_pass : (n k : ℕ) → Regs n → AllPass core t.is (numbers_from n k)
    numbers_pass n zero h = tt
    numbers_pass n (suc k) h = (h n (omega arith), numbers_pass (suc n) k (regs_more n (suc n) (omega arith) h))

    pub owned_pass : (n : ℕ) (body : PlainStmts) (ending : Ending) → Regs n → AllPass core t.is (owned_registers n body ending)
    owned_pass n no_stmt ending h = numbers_pass n (length (at_end ending)) h
    owned_pass n (more_stmt (stmt place k) rest) ending h =
        let next : ℕ = n + length (beside k rest ending) + length (inside k) in
        all_append (numbers_from n (length (beside k rest ending))) (owned_registers next rest ending) (numbers_pass n (length (beside k rest ending)) h) (owned_pass next rest ending (regs_more n next (omega arith) h))

    pub own_pass : (body : PlainStmts) → BodyNames t.ok body → Declared p (mems_declared body) → AllPass core t.is (map (mem_number p.mems) (own_mems body))
    own_pass no_stmt o d = tt
    own_pass (more_stmt (stmt place (declare m)) rest) o d =
        let is = declared_front p (m ∷ []) (mems_declared rest) d m (zero, omega arith, refl) in
        (t.chips m o.0 is.0 is.1, own_pass rest o.1 (declared_back p (m ∷ []) (mems_declared rest) d))
    own_pass (more_stmt (stmt place k) rest) o d = own_pass rest o.1 (declared_back p (mems_in k) (mems_declared rest) d)

    -- expressions by the core's numbers
    abbrev pub Parts : List PlainExpr → Type 0
    Parts [] = Unit {0}
    Parts (e ∷ es) = Names (is_chip p core t) e × Parts es

    pub bound_parts : (scope : Scope) → InRange p scope → (loops : List tree.PlainCounter) → BoundsTyped p scope loops → tree_names.CountersName t.ok loops → Parts (bounds_of loops)
    bound_parts scope h [] typed o = tt
    bound_parts scope h (c ∷ loops) typed o = (names_pass p core t scope h c.from typed.0.0.0 o.0, (names_pass p core t scope h c.until typed.1.0.0 o.1, bound_parts scope h loops typed.4 o.2))

    pub slice_parts : (scope : Scope) → InRange p scope → (spans : List PlainSpan) → SpansTyped p scope spans → tree_names.SpansName t.ok spans → Parts (parts_of spans)
    slice_parts scope h [] typed o = tt
    slice_parts scope h (single e ∷ spans) typed o = (names_pass p core t scope h e typed.0.0.0 o.0, slice_parts scope h spans typed.1 o.1)
    slice_parts scope h (range a b par ∷ spans) typed o = (names_pass p core t scope h a typed.0.0.0 o.0, (names_pass p core t scope h b typed.1.0.0 o.1, slice_parts scope h spans typed.3 o.2))

    if_ops : (b : Bool) (xs ys : List PlainOp) → Pass p core t xs → Pass p core t ys → Pass p core t (if b then xs else ys)
    if_ops true xs ys h k = h
    if_ops false xs ys h k = k

    -- what holds of stages still does where others come before them, which name what passes
    pub record Holding : Type 1 where
      pub Good : PlainStages → Type 0
      pub good : (ops : List PlainOp) (rest : PlainStages) → Pass p core t ops → Good rest → Good (stage_of ops rest)

    abbrev pub naming : Holding
    naming = record { Good = λ xs. StagesName core t.is xs; good = λ ops rest h k. ((tt, tt, h), k) }

    if_stages : (g : Holding) (b : Bool) (xs ys : PlainStages) → g.Good xs → g.Good ys → g.Good (if b then xs else ys)
    if_stages g true xs ys h k = h
    if_stages g false xs ys h k = k

    pub run_pass : (g : Holding) (ops : List PlainOp) (rest : PlainStages) → Pass p core t ops → g.Good rest → g.Good (run_stage ops rest)
    run_pass g [] rest h k = k
    run_pass g (op ∷ ops) rest h k = g.good (op ∷ ops) rest h k

    module _ (sources : Sources) (have : SourcesHave (IsPassed p core t) sources) where
      pub list_passes : (e : PlainExpr) → Names (is_chip p core t) e → Pass p core t (word_list p.mems sources e)
      list_passes e o = code_passes p core t sources have e 0 o

      into_passes : (at r : ℕ) (e : PlainExpr) → Names (is_chip p core t) e → IsPassed p core t r → Pass p core t (into_register p.mems sources at r e)
      into_passes at r e o h = let x : Code = code p.mems sources at e in pass_append p core t x.ops (write_op int_type r (x.word ∷ []) ∷ []) (code_passes p core t sources have e at o) (h, tt)

      pub from_passes : (crosses : PlainExpr → Bool) (r : ℕ) (e : PlainExpr) → Names (is_chip p core t) e → IsPassed p core t r → Pass p core t (from_register p.mems sources crosses r e)
      from_passes crosses r e o h = if_ops (crosses e) (read_op int_type r [] ∷ []) (word_list p.mems sources e) (h, tt) (list_passes e o)

      pub loops_pass : (r : ℕ) (loops : List tree.PlainCounter) → Parts (bounds_of loops) → Regs r → CountersName core t.is (counters_of p.mems sources r loops)
      loops_pass r [] o h = tt
      loops_pass r (c ∷ loops) o h =
          let first : ℕ = after_word is_early r c.from in
          let le : r ≤ first = after_least is_early r c.from in
          let second : ℕ = after_word is_early first c.until in
          let most : first ≤ second = after_least is_early first c.until in
          (from_passes is_early r c.from o.0 (h r (omega arith)), from_passes is_early first c.until o.1.0 (h first le), loops_pass second loops o.1.1 (regs_more r second (omega (arith, le, most)) h))

      pub spans_pass : (crosses : PlainExpr → Bool) (r : ℕ) (spans : List PlainSpan) → Parts (parts_of spans) → Regs r → SpansName core t.is (spans_from p.mems sources crosses r spans)
      spans_pass crosses r [] o h = tt
      spans_pass crosses r (single e ∷ spans) o h =
          let first : ℕ = after_word crosses r e in
          (from_passes crosses r e o.0 (h r (omega arith)), spans_pass crosses first spans o.1 (regs_more r first (after_least crosses r e) h))
      spans_pass crosses r (range a b par ∷ spans) o h =
          let first : ℕ = after_word crosses r a in
          let le : r ≤ first = after_least crosses r a in
          let second : ℕ = after_word crosses first b in
          let most : first ≤ second = after_least crosses first b in
          (from_passes crosses r a o.0 (h r (omega arith)), from_passes crosses first b o.1.0 (h first le), spans_pass crosses second spans o.1.1 (regs_more r second (omega (arith, le, most)) h))

      pub bounds_pass : (g : Holding) (r : ℕ) (es : List PlainExpr) (rest : PlainStages) → Parts es → Regs r → g.Good rest → g.Good (bound_stages p.mems sources r es rest)
      bounds_pass g r [] rest o h k = k
      bounds_pass g r (e ∷ es) rest o h k =
          if_stages g (is_early e) (stage_of (into_register p.mems sources 0 r e) (bound_stages p.mems sources (suc r) es rest)) (bound_stages p.mems sources r es rest)
          (g.good (into_register p.mems sources 0 r e) (bound_stages p.mems sources (suc r) es rest) (into_passes 0 r e o.0 (h r (omega arith))) (bounds_pass g (suc r) es rest o.1 (regs_more r (suc r) (omega arith) h) k)) (bounds_pass g r es rest o.1 h k)

      parts_pass : (crosses : PlainExpr → Bool) (at r : ℕ) (es : List PlainExpr) → Parts es → Regs r → Pass p core t (slice_ops p.mems sources crosses at r es)
      parts_pass crosses at r [] o h = tt
      parts_pass crosses at r (e ∷ es) o h =
          let first : List PlainOp = part_ops p.mems sources crosses at r e in
          pass_append p core t first (slice_ops p.mems sources crosses (at + length first) (after_word crosses r e) es)
          (if_ops (crosses e) (into_register p.mems sources at r e) [] (into_passes at r e o.0 (h r (omega arith))) tt)
          (parts_pass crosses (at + length first) (after_word crosses r e) es o.1 (regs_more r (after_word crosses r e) (after_least crosses r e) h))

      pub slice_pass : (g : Holding) (r : ℕ) (spans : List PlainSpan) (rest : PlainStages) → Parts (parts_of spans) → Regs r → g.Good rest → g.Good (slice_stage p.mems sources r spans rest)
      slice_pass g r spans rest o h k =
          if_stages g (is_early_slice spans) (stage_of (slice_ops p.mems sources (is_early_part spans) 0 r (parts_of spans)) rest) rest
          (g.good (slice_ops p.mems sources (is_early_part spans) 0 r (parts_of spans)) rest (parts_pass (is_early_part spans) 0 r (parts_of spans) o h) k) k

      -- the early stages of a statement
      pub early_pass : (g : Holding) (scope : Scope) → InRange p scope → (r : ℕ) (k : PlainStmtKind) (rest : PlainStages) → StmtTyped p scope k → StmtKindNames t.ok k → Regs r → g.Good rest → g.Good (early_stages p.mems sources r k rest)
      early_pass g scope ran r (load_sram sram dram spans) rest typed o h k = slice_pass g r spans rest (slice_parts scope ran spans typed.1.spans_typed o.2) h k
      early_pass g scope ran r (load_line line dram spans) rest typed o h k = slice_pass g r spans rest (slice_parts scope ran spans typed.1.spans_typed o.2) h k
      early_pass g scope ran r (store dram spans sram) rest typed o h k = slice_pass g r spans rest (slice_parts scope ran spans typed.1.spans_typed o.2) h k
      early_pass g scope ran r (gather sram dram places e) rest typed o h k = bounds_pass g r (e ∷ []) rest (names_pass p core t scope ran e typed.1.how_many.0.0 o.3, tt) h k
      early_pass g scope ran r (scatter dram places e sram) rest typed o h k = bounds_pass g r (e ∷ []) rest (names_pass p core t scope ran e typed.1.how_many.0.0 o.2, tt) h k
      early_pass g scope ran r (foreach style loops body) rest typed o h k = bounds_pass g r (bounds_of loops) rest (bound_parts scope ran loops typed.1.bounds o.0) h k
      early_pass g scope ran r (reduce style fold acc loops body e comb) rest typed o h k = bounds_pass g r (bounds_of loops) rest (bound_parts scope ran loops typed.1.bounds o.1) h k
      early_pass g scope ran r (mem_reduce style acc loops body part comb) rest typed o h k = bounds_pass g r (bounds_of loops) rest (bound_parts scope ran loops typed.1.bounds o.2) h k
      early_pass g scope ran r _ rest typed o h k = k

    -- what a loop combines: its accumulator, what tells whether that holds a word, and a word
    abbrev pub CombPasses : Combines → Type 0
    CombPasses nothing = Unit {0}
    CombPasses (folds acc comb e) = IsPassed p core t acc × Names (is_chip p core t) e
    CombPasses (reduces acc begun comb e) = IsPassed p core t acc × IsPassed p core t begun × Names (is_chip p core t) e
    CombPasses (reduces_elements part acc begun comb) = IsPassed p core t acc × IsPassed p core t begun × IsTrue (is_chip p core t part)

    pub combining_passes : (counters at word : ℕ) (c : Combines) → CombPasses c → Pass p core t (combining p.mems counters at word c)
    combining_passes counters at word nothing h = tt
    combining_passes counters at word (folds acc comb e) h = (h.0, (tt, (h.0, tt)))
    combining_passes counters at word (reduces acc begun comb e) h = (h.1, (h.0, (tt, (tt, (h.0, (tt, (h.1, tt)))))))
    combining_passes counters at word (reduces_elements part acc begun comb) h = tt

    pub combination_passes : (counters : ℕ) (before : List PlainOp) (x : Code) (c : Combines) (loops : List PlainCounter) (owned : List ℕ) → Pass p core t before → Pass p core t x.ops → CombPasses c → CountersName core t.is loops → AllPass core t.is owned
        → NodeNames core t.is (combination p.mems counters before x c loops owned)
    combination_passes counters before x c loops owned h k l m n =
        (m, n, pass_append p core t (before ++ x.ops) (combining p.mems counters (length before + length x.ops) x.word c) (pass_append p core t before x.ops h k) (combining_passes counters (length before + length x.ops) x.word c l))

    -- the elements of a memory
    pub indices_name : (c : ℕ) (ds : List ℕ) → AllName (is_chip p core t) (element_indices c ds)
    indices_name c [] = tt
    indices_name c (d ∷ ds) = (tt, indices_name (suc c) ds)

    conjunction_names : (test : PlainExpr) (c : ℕ) (ds : List ℕ) → Names (is_chip p core t) test → Names (is_chip p core t) (conjunction test c ds)
    conjunction_names test c [] h = h
    conjunction_names test c (d ∷ ds) h = conjunction_names (expr 0 Bit (two binary.And test (is_last_at c d))) (suc c) ds (h, (tt, tt))

    last_names : (c : ℕ) (ds : List ℕ) → Names (is_chip p core t) (is_last_element c ds)
    last_names c [] = tt
    last_names c (d ∷ ds) = conjunction_names (is_last_at c d) (suc c) ds (tt, tt)

    counters_name : (c : ℕ) (ds : List ℕ) → CountersName core t.is (element_counters c ds)
    counters_name c [] = tt
    counters_name c (d ∷ ds) = ((tt, tt), (tt, tt), counters_name (suc c) ds)

    pub value_passes : (c : ℕ) (ds : List ℕ) (part : ℕ) (ty : Ty) → IsTrue (is_chip p core t part) → Pass p core t (element_value p.mems c ds part ty).ops
    value_passes c ds part ty h = code_passes p core t no_sources (no_source_has (IsPassed p core t)) (expr 0 ty (get_sram part (element_indices c ds))) 0 (h, indices_name c ds)

    element_ops_pass : (at word c : ℕ) (ds : List ℕ) (acc begun : ℕ) (ty : Ty) (comb : Comb) → IsPassed p core t acc → IsPassed p core t begun → Pass p core t (element_ops p.mems at word c ds acc begun ty comb)
    element_ops_pass at word c ds acc begun ty comb h k =
        let is : Codes = codes p.mems no_sources (at + 1) (element_indices c ds) in
        let read : ℕ = at + 1 + length ds in
        let again : Codes = codes p.mems no_sources (read + 3) (element_indices c ds) in
        let last : Code = code p.mems no_sources (read + 4 + length ds) (is_last_element c ds) in
        let a : List PlainOp = read_op Bit begun [] ∷ is.ops in
        let b : List PlainOp = under at (read_op ty acc is.words) ∷ computes (kind.Two (operator_of comb)) ty (read ∷ word ∷ []) ∷ computes kind.Mux ty (at ∷ (read + 1) ∷ word ∷ []) ∷ again.ops in
        let d : List PlainOp = write_op ty acc (again.words ++ (read + 2) ∷ []) ∷ last.ops in
        let e : List PlainOp = literal_op Bit 1 ∷ under last.word (write_op Bit begun ((read + 4 + length ds + length last.ops) ∷ [])) ∷ [] in
        let none = no_source_has (IsPassed p core t) in
        pass_append p core t (a ++ b ++ d) e
        (pass_append p core t (a ++ b) d (pass_append p core t a b (k, codes_pass p core t no_sources none (element_indices c ds) (at + 1) (indices_name c ds)) (h, (tt, (tt, codes_pass p core t no_sources none (element_indices c ds) (read + 3) (indices_name c ds)))))
        (h, code_passes p core t no_sources none (is_last_element c ds) (read + 4 + length ds) (last_names c ds)))
        (tt, (k, tt))

    pub element_passes : (c : ℕ) (ds : List ℕ) (part acc begun : ℕ) (ty : Ty) (comb : Comb) → IsPassed p core t acc → IsPassed p core t begun → IsTrue (is_chip p core t part) → NodeNames core t.is (element_loop p.mems c ds part acc begun ty comb)
    element_passes c ds part acc begun ty comb h k l =
        let value : Code = element_value p.mems c ds part ty in
        (counters_name c ds, tt, pass_append p core t value.ops (element_ops p.mems (length value.ops) value.word c ds acc begun ty comb) (value_passes c ds part ty l) (element_ops_pass (length value.ops) value.word c ds acc begun ty comb h k))
