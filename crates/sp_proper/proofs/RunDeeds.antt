-- What a stage does: its bounds, the statements of its body and its combination.
use Rattle.std.proofs.Common.{◌≡◌, ℕ, ◌+◌, ◌<◌, ◌≤◌, ◌==◌, Bool, true, false, ◌||◌, cond, List, [], ◌∷◌, ◌++◌, length, Option, None, Some, refl, sym, ap, subst, arith, true≢false, eqb-true, if◌then◌else◌}
use Rattle.std.proofs.lemmas.Bool.{eq-eqb}
use Rattle.sp_words.specs.declared.kind.Kind.TheVariants.{Reg, Sram, Fifo, ArgOut}
use Rattle.sp_words.specs.declared.types.Ty.{Ty}
use Rattle.sp_words.specs.Types.{int_type}
use Rattle.sp_tree.specs.declared.statement.Comb.{Comb}
use Rattle.sp_tree.specs.Expressions.{mem}
use Rattle.sp_tree.specs.PlainExpression.{PlainExpr, expr, literal, counter, value, type_of}
use Rattle.sp_tree.specs.PlainProgram.{PlainProgram}
use Rattle.sp_tree.specs.PlainStatement.{PlainCounter, PlainStmtKind, PlainStmts, stmt, declare, name, set_reg, set_out, set_sram, enq, no_stmt, more_stmt}
use Rattle.sp_tree.specs.Streams.{all_tallies, body_tally}
use Rattle.sp_tree.specs.Structure.{mems_declared, mems_in}
use Rattle.sp_tree.specs.Tallies.{Tally, nothing, ◌&◌, uses_of, changes_of, is_among, a_write, a_put, tally, tallies, bound_tallies, primitive}
use Rattle.sp_tree.specs.Typing.{Scope, IsMem, Typed, BodyTyped, StmtTyped, BoundsTyped, after}
use Rattle.sp_core.specs.declared.operation.OpKind.TheVariants as kind
use Rattle.sp_core.specs.PlainCore.{PlainOp}
use Rattle.sp_core.specs.Sequential.{has_reset}
use Rattle.sp_stream.specs.Proper.{bound_ops}
use Rattle.sp_stream.proofs.Ways.{or_first}
use Rattle.sp_sugar.specs.Combination.{fold_ops, reduce_ops}
use Rattle.sp_sugar.specs.Early.{is_early, from_register, counters_of, after as after_word}
use Rattle.sp_sugar.specs.Numbers.{mem_number}
use Rattle.sp_sugar.specs.Operations.{Code, Codes, accesses, read_op, write_op, codes, word_list}
use Rattle.sp_sugar.specs.Runs.{Run, with_ops, next_code, with_named, with_word, with_stmt, inner_run}
use Rattle.sp_sugar.specs.Values.{Sources}
use Rattle.sp_sugar.proofs.NumberLemmas.{either}
use Rattle.sp_sugar.proofs.OwnerCounts.{one_if, count_of, count_append}
use Rattle.sp_sugar.proofs.Owners.{self_count}
use Rattle.sp_lane_cores.proofs.LanedNaming.{SourcesHave, ValuesHave, stmt_have}
use Rattle.sp_proper.proofs.Deeds.{each_append, Place, IsChip, Deed, computes, resets, begins, Includes, left_part, right_part, among_front, among_back, Low, Sees, Does, touching, code_does, codes_does}

-- what a statement does by itself
abbrev stmt_tally : Option Tally → Tally
stmt_tally (Some t) = t
stmt_tally None = nothing

split_tally : (t rest : Tally) (o : Option Tally) → Includes t (elim o [ Some u ↦ u & rest | None ↦ rest ]) → Includes t (stmt_tally o) × Includes t rest
split_tally t rest (Some u) h = (left_part t u rest h, right_part t u rest h)
split_tally t rest None h = (((λ m e. absurd (true≢false (sym e))), (λ m e. absurd (true≢false (sym e))), (λ m e. absurd (true≢false (sym e))), (λ m e. absurd (true≢false (sym e)))), h)

pub among_alone : (m : ℕ) (xs : List ℕ) → is_among m (m ∷ xs) ≡ true
among_alone m xs = or_first (m == m) (is_among m xs) (eq-eqb m m refl)

pub neither : {P : Type 0} (a b : Bool) → (a || b) ≡ false → (a ≡ false → b ≡ false → P) → P
neither true b e f = absurd (true≢false e)
neither false b e f = f refl e

module _ (p : PlainProgram) where
  -- what is declared has a number, and is the stage's own
  abbrev pub Declares : Place → List ℕ → Type 0
  Declares place xs = (m : ℕ) → 1 ≤ count_of m xs → IsChip p m × (1 ≤ count_of m place.own)

  pub declares_front : (place : Place) (xs ys : List ℕ) → Declares place (xs ++ ys) → Declares place xs
  declares_front place xs ys h m c = h m (omega (arith, c, count_append m xs ys))

  pub declares_back : (place : Place) (xs ys : List ℕ) → Declares place (xs ++ ys) → Declares place ys
  declares_back place xs ys h m c = h m (omega (arith, c, count_append m xs ys))

  sees_one : (place : Place) (scope : Scope) (m : ℕ) → Sees p place scope → Declares place (m ∷ []) → (x : ℕ) → 1 ≤ count_of x (m ∷ scope.mems) → (x < length p.mems) × (1 ≤ count_of x place.outer + count_of x place.own)
  sees_one place scope m sees d x c = either (m == x)
      (λ e. let is = d m (self_count m []) in subst (λ y. (y < length p.mems) × (1 ≤ count_of y place.outer + count_of y place.own)) (eqb-true m x e) (is.0.exists, omega (arith, is.1)))
      (λ e. let f : one_if (m == x) ≡ 0 = ap one_if e in sees x (omega (arith, c, f)))

  pub sees_after : (place : Place) (scope : Scope) (k : PlainStmtKind) → Sees p place scope → Declares place (mems_in k) → Sees p place (after scope k)
  sees_after place scope (declare m) sees d = sees_one place scope m sees d
  sees_after place scope (name v e) sees d = sees
  sees_after place scope _ sees d = sees

  module _ (place : Place) (t : Tally) where
    abbrev D : List PlainOp → Type 0
    D ops = Does p place t ops

    append : (xs ys : List PlainOp) → D xs → D ys → D (xs ++ ys)
    append xs ys h k = each_append (Deed p place t) xs ys h k

    pub record RunDoes (run : Run) : Type 0 where
      pub ops : D run.ops
      pub values : ValuesHave (Low p place.low) run.values

    pub next_does : (run : Run) (scope : Scope) (e : PlainExpr) → Sees p place scope → RunDoes run → Typed p scope e → Includes t (tally e) → D (next_code p.mems run e).ops
    next_does run scope e sees r typed in_t = code_does p place t run.values.here r.values.0 scope sees e (length run.ops) typed in_t

    named_does : (run : Run) (scope : Scope) (v : ℕ) (e : PlainExpr) → Sees p place scope → RunDoes run → Typed p scope e → Includes t (tally e) → D (with_named p.mems run v e None).ops
    named_does run scope v (expr place' ty (literal w)) sees r typed in_t = r.ops
    named_does run scope v (expr place' ty (counter c)) sees r typed in_t = r.ops
    named_does run scope v (expr place' ty (value u)) sees r typed in_t = r.ops
    named_does run scope v (expr place' ty x) sees r typed in_t = append run.ops _ r.ops (next_does run scope (expr place' ty x) sees r typed in_t)

    word_does : (run : Run) (scope : Scope) (e : PlainExpr) (op : ℕ → PlainOp) → Sees p place scope → RunDoes run → Typed p scope e → Includes t (tally e) → ((w : ℕ) → Deed p place t (op w)) → D (with_word p.mems run e op).ops
    word_does run scope e op sees r typed in_t k =
        let x : Code = next_code p.mems run e in
        append run.ops (x.ops ++ op x.word ∷ []) r.ops (append x.ops (op x.word ∷ []) (next_does run scope e sees r typed in_t) (k x.word, tt))

    reset_does : (b : Bool) (run : Run) (ops : List PlainOp) → RunDoes run → D ops → D (cond b (with_ops run ops) run).ops
    reset_does true run ops r h = append run.ops ops r.ops h
    reset_does false run ops r h = r.ops

    added : (run : Run) (ops : List PlainOp) → RunDoes run → D ops → RunDoes (with_ops run ops)
    added run ops r h = record { ops = append run.ops ops r.ops h; values = r.values }

    stmt_ops : (run : Run) (scope : Scope) (k : PlainStmtKind) → Sees p place scope → Declares place (mems_in k) → RunDoes run → StmtTyped p scope k → Includes t (stmt_tally (primitive k)) → D (with_stmt p.mems true None run k).ops
    stmt_ops run scope (declare m) sees d r typed in_t =
        let is = d m (self_count m []) in
        reset_does (has_reset (mem p.mems m).kind (mem p.mems m).start) run (accesses kind.Reset (mem p.mems m).ty (mem_number p.mems m) [] ∷ []) r (resets m refl is.0 is.1 refl, tt)
    stmt_ops run scope (name v e) sees d r typed in_t = named_does run scope v e sees r typed.1 in_t
    stmt_ops run scope (set_reg m e) sees d r typed in_t =
        let own : Includes t (a_write m) = right_part t (tally e) (a_write m) in_t in
        word_does run scope e (λ w. write_op (mem p.mems m).ty (mem_number p.mems m) (w ∷ [])) sees r typed.1 (left_part t (tally e) (a_write m) in_t)
        (λ w. touching p place t scope m Reg (type_of e) _ sees typed.0 refl refl (own.1 m (among_alone m [])))
    stmt_ops run scope (set_out m e) sees d r typed in_t =
        let own : Includes t (a_write m) = right_part t (tally e) (a_write m) in_t in
        word_does run scope e (λ w. write_op (mem p.mems m).ty (mem_number p.mems m) (w ∷ [])) sees r typed.1 (left_part t (tally e) (a_write m) in_t)
        (λ w. touching p place t scope m ArgOut (type_of e) _ sees typed.0 refl refl (own.1 m (among_alone m [])))
    stmt_ops run scope (set_sram m xs e) sees d r typed in_t =
        let is : Codes = codes p.mems run.values.here (length run.ops) xs in
        let all : Includes t (tallies xs & tally e) = left_part t (tallies xs & tally e) (a_write m) in_t in
        let own : Includes t (a_write m) = right_part t (tallies xs & tally e) (a_write m) in_t in
        word_does (with_ops run is.ops) scope e (λ w. write_op (mem p.mems m).ty (mem_number p.mems m) (is.words ++ w ∷ [])) sees
        (added run is.ops r (codes_does p place t run.values.here r.values.0 scope sees xs (length run.ops) typed.2 (left_part t (tallies xs) (tally e) all)))
        typed.3 (right_part t (tallies xs) (tally e) all)
        (λ w. touching p place t scope m Sram (type_of e) _ sees typed.0 refl refl (own.1 m (among_alone m [])))
    stmt_ops run scope (enq m e) sees d r typed in_t =
        let own : Includes t (a_put m) = right_part t (tally e) (a_put m) in_t in
        word_does run scope e (λ w. accesses kind.Enq (mem p.mems m).ty (mem_number p.mems m) (w ∷ [])) sees r typed.1 (left_part t (tally e) (a_put m) in_t)
        (λ w. touching p place t scope m Fifo (type_of e) _ sees typed.0 refl refl (own.2 m (among_alone m [])))
    stmt_ops run scope k sees d r typed in_t = r.ops

    -- an inner body
    pub inner_does : (run : Run) (scope : Scope) (body : PlainStmts) → Sees p place scope → Declares place (mems_declared body) → RunDoes run → BodyTyped p scope body → Includes t (body_tally body) → RunDoes (inner_run p.mems run body)
    inner_does run scope no_stmt sees d r typed in_t = r
    inner_does run scope (more_stmt (stmt at k) rest) sees d r typed in_t =
        let first : Declares place (mems_in k) = declares_front place (mems_in k) (mems_declared rest) d in
        let parts = split_tally t (body_tally rest) (primitive k) in_t in
        inner_does (with_stmt p.mems true None run k) (after scope k) rest (sees_after place scope k sees first) (declares_back place (mems_in k) (mems_declared rest) d)
        (record { ops = stmt_ops run scope k sees first r typed.0 parts.0; values = stmt_have (Low p place.low) p.mems true None run k r.values tt }) typed.1 parts.1

    module _ (sources : Sources) (have : SourcesHave (Low p place.low) sources) (scope : Scope) (sees : Sees p place scope) where
      bound_does : (b : Bool) (r : ℕ) (e : PlainExpr) → b ≡ false → Typed p scope e → Includes t (tally e) → D (if b then read_op int_type r [] ∷ [] else word_list p.mems sources e)
      bound_does true r e quiet typed in_t = absurd (true≢false quiet)
      bound_does false r e quiet typed in_t = code_does p place t sources have scope sees e 0 typed in_t

      -- bounds that aren't computed early
      pub bounds_do : (loops : List PlainCounter) (r : ℕ) → BoundsTyped p scope loops → (all_tallies (bound_tallies loops)).arrays ≡ false → Includes t (all_tallies (bound_tallies loops)) → D (bound_ops (counters_of p.mems sources r loops))
      bounds_do [] r typed quiet in_t = tt
      bounds_do (c ∷ loops) r typed quiet in_t =
          let rest : Tally = all_tallies (bound_tallies loops) in
          let more : Includes t (tally c.until & rest) = right_part t (tally c.from) (tally c.until & rest) in_t in
          neither (tally c.from).arrays ((tally c.until).arrays || rest.arrays) quiet
          (λ e no2. neither (tally c.until).arrays rest.arrays no2
          (λ f no3. let r2 : ℕ = after_word is_early r c.from in let r3 : ℕ = after_word is_early r2 c.until in
          append (from_register p.mems sources is_early r c.from ++ from_register p.mems sources is_early r2 c.until) (bound_ops (counters_of p.mems sources r3 loops))
          (append (from_register p.mems sources is_early r c.from) (from_register p.mems sources is_early r2 c.until)
          (bound_does (is_early c.from) r c.from e typed.0.0.0 (left_part t (tally c.from) (tally c.until & rest) in_t))
          (bound_does (is_early c.until) r2 c.until f typed.1.0.0 (left_part t (tally c.until) rest more)))
          (bounds_do loops r3 typed.4 no3 (right_part t (tally c.until) rest more))))

    -- combinations, of an accumulator that the tally lists among what is written
    written_used : (m : ℕ) → is_among m t.writes ≡ true → is_among m (uses_of t) ≡ true
    written_used m h = among_back t.reads (changes_of t) m (among_front (t.writes ++ t.puts) t.takes m (among_front t.writes t.puts m h))

    pub fold_does : (scope : Scope) (acc : ℕ) (ty : Ty) (at word : ℕ) (comb : Comb) → Sees p place scope → IsMem p scope acc Reg ty → is_among acc t.writes ≡ true → D (fold_ops at word (mem_number p.mems acc) ty comb)
    fold_does scope acc ty at word comb sees is h = (touching p place t scope acc Reg ty _ sees is refl refl (written_used acc h), (computes refl, (touching p place t scope acc Reg ty _ sees is refl refl h, tt)))

    pub reduce_does : (scope : Scope) (acc begun : ℕ) (ty : Ty) (at word : ℕ) (comb : Comb) → Sees p place scope → IsMem p scope acc Reg ty → is_among acc t.writes ≡ true → place.from ≤ begun → begun < place.until → D (reduce_ops at word (mem_number p.mems acc) begun ty comb)
    reduce_does scope acc begun ty at word comb sees is h from until = (begins begun refl from until, (touching p place t scope acc Reg ty _ sees is refl refl (written_used acc h), (computes refl, (computes refl, (touching p place t scope acc Reg ty _ sees is refl refl h, (computes refl, (begins begun refl from until, tt)))))))
