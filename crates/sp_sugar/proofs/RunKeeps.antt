-- The operations of runs of statements keep the rules.
use Rattle.std.proofs.Common.{◌≡◌, ℕ, zero, suc, ◌<◌, Bool, true, false, not, List, [], ◌∷◌, ◌++◌, Option, Some, None, refl, sym, ◌∙◌, ap, subst, arith, append_assoc, ◌==◌, if◌then◌else◌}
use Rattle.std.proofs.lemmas.Bool.{and_parts, eqb-true, eqb-false, and_from, or_left, or_right}
use Rattle.std.specs.Prelude.{length, map, filter, replicate, slice_index_or, Contains}
use Rattle.sp_words.specs.declared.kind.Kind.{Kind}
use Rattle.sp_words.specs.declared.kind.Kind.TheVariants.{Reg, Sram, Fifo}
use Rattle.sp_words.specs.declared.types.Ty.{Ty}
use Rattle.sp_words.specs.Types.{int_type}
use Rattle.sp_tree.specs.Expressions as expressions
use Rattle.sp_tree.specs.Meaning.{is_dram}
use Rattle.sp_tree.specs.PlainExpression.{PlainExpr, PlainExprs, expr, literal, counter, value, type_of}
use Rattle.sp_tree.specs.PlainProgram.{PlainProgram, no_mem}
use Rattle.sp_tree.specs.PlainStatement.{PlainStmtKind, PlainStmts, stmt, declare, name, set_sram, enq, more_stmt}
use Rattle.sp_tree.specs.Structure.{own_mems}
use Rattle.sp_tree.specs.Typing.{Scope, with_val, with_mem, visible, IsFreshVal, IsMem, expr_count, Typed, IndicesTyped, StmtTyped}
use Rattle.sp_core.specs.declared.operation.OpKind.{OpKind}
use Rattle.sp_core.specs.declared.operation.OpKind.TheVariants as kind
use Rattle.sp_core.specs.Around.{Around, has_lane, is_usable}
use Rattle.sp_core.specs.Declarations.{mem}
use Rattle.sp_core.specs.OperationRules.{is_access, can, is_in_range, names_rightly, are_operations_right_after}
use Rattle.sp_core.specs.PlainCore as plain
use Rattle.sp_core.specs.PlainCore.{PlainOp, PlainCore}
use Rattle.sp_core.specs.Sequential.{has_reset}
use Rattle.sp_core.specs.Store.{changed}
use Rattle.sp_core.specs.Typed.{is_type, gives, taken_types, index_count}
use Rattle.sp_sugar.specs.Agreement.{HasMemories}
use Rattle.sp_sugar.specs.Numbers.{is_off_dram, mem_number, written_mem}
use Rattle.sp_sugar.specs.Operations.{Code, Codes, accesses, write_op, codes}
use Rattle.sp_sugar.specs.Rules.{given_by, IsRegister, IsSource, MayUse, MayOwn, Keep}
use Rattle.sp_sugar.specs.Runs.{Run, with_ops, next_code, with_computed, with_named, with_reset, with_word, with_stmt}
use Rattle.sp_sugar.specs.Uses.{uses, some_use, is_bare, renamed, is_using, Ending, is_used_later}
use Rattle.sp_sugar.specs.Values.{Source, at_place, in_register, constant, count}
use Rattle.sp_sugar.proofs.KeepLemmas.{type_is, gives_still, given_append, given_length, keep_others, keep_silent}
use Rattle.sp_sugar.proofs.Keeps.{access_named, source_still, keeps, rows_keep}
use Rattle.sp_sugar.proofs.MemoryLemmas.{chip_mem, changed_here, changed_elsewhere}
use Rattle.sp_sugar.proofs.NumberLemmas.{either}
use Rattle.sp_sugar.proofs.UseLemmas.{used, used_more, used_next, used_here, renamed_keeps, only, renamed_names, later_more, kept_there, there_kept, typed_fewer, rows_fewer}

append_nil_ops : (xs : List PlainOp) → xs ++ [] ≡ xs
append_nil_ops [] = refl
append_nil_ops (x ∷ xs) = ap (λ ys. x ∷ ys) (append_nil_ops xs)

pub in_map : {X Y : Type 0} (f : X → Y) (xs : List X) (x : X) → Contains xs x → Contains (map f xs) (f x)
in_map f [] x c = absurd (omega (arith, c.1))
in_map f (y ∷ xs) x (zero, lt, e) = (0, omega arith, ap f e)
in_map f (y ∷ xs) x (suc j, lt, e) = let g = in_map f xs x (j, omega arith, e) in (suc g.0, omega (arith, g.1), g.2)

pub in_front : {X : Type 0} (xs ys : List X) (x : X) → Contains xs x → Contains (xs ++ ys) x
in_front [] ys x c = absurd (omega (arith, c.1))
in_front (y ∷ xs) ys x (zero, lt, e) = (0, omega arith, e)
in_front (y ∷ xs) ys x (suc j, lt, e) = let g = in_front xs ys x (j, omega arith, e) in (suc g.0, omega (arith, g.1), g.2)

pub in_back : {X : Type 0} (xs ys : List X) (x : X) → Contains ys x → Contains (xs ++ ys) x
in_back [] ys x c = c
in_back (y ∷ xs) ys x c = let g = in_back xs ys x c in (suc g.0, omega (arith, g.1), g.2)

pub in_middle : {X : Type 0} (xs ys zs : List X) (x : X) → Contains ys x → Contains (xs ++ ys ++ zs) x
in_middle xs ys zs x c = in_front (xs ++ ys) zs x (in_back xs ys x c)

module _ (p : PlainProgram) (core : PlainCore) (h : HasMemories p core) (around : Around) where
  -- what a run has so far is right, with these statements to come
  pub record RunRight (scope : Scope) (run : Run) (rest : PlainStmts) (ending : Ending) : Type 0 where
    pub right : are_operations_right_after core around [] run.ops ≡ true
    pub mems : (m : ℕ) → Contains scope.mems m → is_off_dram (expressions.mem p.mems m) ≡ true → (m < length p.mems) × (is_usable core around (mem_number p.mems m) ≡ true)
    pub counters : (c : ℕ) → Contains scope.counters c → has_lane around.counters c 0 ≡ true
    pub here : (v : ℕ × Ty) → Contains scope.vals v → used (only v.0) rest ending ≡ true → IsSource core around (given_by run.ops) v.1 (run.values.here v.0)
    pub later : (v : ℕ × Ty) → Contains scope.vals v → is_used_later (only v.0) rest ending ≡ true → IsSource core around [] v.1 (run.values.elsewhere v.0)
    pub waiting : (m : ℕ) → Contains (own_mems rest) m → MayOwn core around p m

  -- a value has a register where it crosses
  abbrev pub CrossesRight : Option ℕ → (later : Bool) → Ty → Type 0
  CrossesRight None later ty = later ≡ true → ⊥
  CrossesRight (Some r) later ty = IsRegister core around r ty

  abbrev so_far : (run : Run) → Type 0
  so_far run = Keep core around [] run.ops [] []

  module _ (scope : Scope) (run : Run) (rest : PlainStmts) (ending : Ending) (g : RunRight scope run rest ending) where
    pub right_so_far : so_far run
    right_so_far = record { right = g.right; give = refl }

    abbrev seen_by : ((ℕ → Bool) → Bool) → List (ℕ × Ty)
    seen_by test = filter (λ u. test (only u.0)) scope.vals

    may_use : (test : (ℕ → Bool) → Bool) → ((v : ℕ) → test (only v) ≡ true → used (only v) rest ending ≡ true) → MayUse core around p (record scope { vals = seen_by test }) run.values.here (given_by run.ops)
    may_use test f = record {
      mems = g.mems;
      vals = λ v c. let k = there_kept (λ u. test (only u.0)) scope.vals v c in g.here v k.0 (f v.0 k.1);
      counters = g.counters;
    }

    pub expr_keeps : (e : PlainExpr) → Typed p scope e → ((v : ℕ) → uses (only v) e ≡ true → used (only v) rest ending ≡ true) → Keep core around (given_by run.ops) (next_code p.mems run e).ops ((next_code p.mems run e).word ∷ []) (type_of e ∷ [])
    expr_keeps e typed f =
        keeps p core h around (record scope { vals = seen_by (λ is. uses is e) }) run.values.here e (length run.ops) (given_by run.ops) (sym (given_length run.ops))
        (typed_fewer p scope (seen_by (λ is. uses is e)) e typed (λ v ty c u. kept_there (λ w. uses (only w.0) e) scope.vals (v, ty) c u)) (may_use (λ is. uses is e) f)

    pub indices_keep : (xs : PlainExprs) → IndicesTyped p scope xs → ((v : ℕ) → some_use (only v) xs ≡ true → used (only v) rest ending ≡ true)
        → Keep core around (given_by run.ops) (codes p.mems run.values.here (length run.ops) xs).ops (codes p.mems run.values.here (length run.ops) xs).words (replicate (expr_count xs) int_type)
    indices_keep xs typed f =
        rows_keep p core h around (record scope { vals = seen_by (λ is. some_use is xs) }) run.values.here xs (length run.ops) (given_by run.ops) (sym (given_length run.ops))
        (rows_fewer p scope (seen_by (λ is. some_use is xs)) xs typed (λ v ty c u. kept_there (λ w. some_use (only w.0) xs) scope.vals (v, ty) c u)) (may_use (λ is. some_use is xs) f)

    -- a write or an enq of a word after indices
    word_then : (before : List PlainOp) (ks : List ℕ) (ts : List Ty) (x : Code) (ty : Ty) (k : OpKind) (n : ℕ) (op_ty : Ty) → Keep core around [] before ks ts → Keep core around (given_by before) x.ops (x.word ∷ []) (ty ∷ [])
        → is_in_range k op_ty around ≡ true → names_rightly core around k op_ty (Some n) ≡ true → taken_types k op_ty (index_count (mem core n)) ≡ ts ++ ty ∷ []
        → are_operations_right_after core around [] (before ++ (x.ops ++ record { kind = k; ty = op_ty; args = ks ++ x.word ∷ []; mem = Some n; mask = None } ∷ [])) ≡ true
    word_then before ks ts x ty k n op_ty one two range names takes =
        let op : PlainOp = record { kind = k; ty = op_ty; args = ks ++ x.word ∷ []; mem = Some n; mask = None } in
        subst (λ o. are_operations_right_after core around [] o ≡ true) (append_assoc before x.ops (op ∷ []))
        (keep_silent core around [] (before ++ x.ops) (ks ++ x.word ∷ []) (ts ++ ty ∷ []) (keep_others core around [] before x.ops ks (x.word ∷ []) ts (ty ∷ []) one two) k op_ty (Some n) range names takes).right

  -- a visible memory on the chip of a kind
  module _ (scope : Scope) (run : Run) (rest : PlainStmts) (ending : Ending) (g : RunRight scope run rest ending) (m : ℕ) (K : Kind) (seen : Contains scope.mems m) (is : (expressions.mem p.mems m).kind ≡ K) (chip : is_dram K ≡ false) where
    there_off : is_off_dram (expressions.mem p.mems m) ≡ true
    there_off = ap (λ x. not (is_dram x)) is ∙ ap not chip

    there : mem core (mem_number p.mems m) ≡ written_mem (expressions.mem p.mems m)
    there = chip_mem p core h m (g.mems m seen there_off).0 there_off

    there_named : (k : OpKind) → is_access k ≡ true → ((start : Option ℕ) → can k K start ≡ true) → names_rightly core around k (expressions.mem p.mems m).ty (Some (mem_number p.mems m)) ≡ true
    there_named k a c = access_named core around k (expressions.mem p.mems m).ty (mem_number p.mems m) K a (g.mems m seen there_off).1 (ap (λ (x : plain.PlainMem). x.kind) there ∙ is) c (ap (λ (x : plain.PlainMem). x.ty) there)

    there_indices : index_count (mem core (mem_number p.mems m)) ≡ index_count (written_mem (record (expressions.mem p.mems m) { kind = K }))
    there_indices = ap index_count there ∙ ap (λ x. index_count (written_mem (record (expressions.mem p.mems m) { kind = x }))) is

  pub added_ops : (scope : Scope) (run : Run) (rest : PlainStmts) (ending : Ending) (more : List PlainOp) → RunRight scope run rest ending → are_operations_right_after core around [] (run.ops ++ more) ≡ true → RunRight scope (with_ops run more) rest ending
  added_ops scope run rest ending more g right = record {
    right = right;
    mems = g.mems;
    counters = g.counters;
    here = λ v c u. subst (λ x. IsSource core around x v.1 (run.values.here v.0)) (sym (given_append run.ops more)) (source_still core around (given_by run.ops) (given_by more) (run.values.here v.0) v.1 (g.here v c u));
    later = g.later;
    waiting = g.waiting;
  }

  module _ (scope : Scope) (run : Run) (place : ℕ) (k : PlainStmtKind) (rest : PlainStmts) (ending : Ending) (g : RunRight scope run (more_stmt (stmt place k) rest) ending) where
    use_here : (v : ℕ) → is_using (only v) k ≡ true → used (only v) (more_stmt (stmt place k) rest) ending ≡ true
    use_here v u = used_here (only v) place k rest ending u

    use_next : (v : ℕ) → used (only v) rest ending ≡ true → used (only v) (more_stmt (stmt place k) rest) ending ≡ true
    use_next v u = used_next (only v) place k rest ending (used_more rest ending (only v) (renamed (only v) k) (renamed_keeps (only v) k) u)

    abbrev Later_too : Type 0
    Later_too = (v : ℕ) → is_used_later (only v) rest ending ≡ true → is_used_later (only v) (more_stmt (stmt place k) rest) ending ≡ true

    -- operations are added
    moved : (more : List PlainOp) → are_operations_right_after core around [] (run.ops ++ more) ≡ true → ((m : ℕ) → Contains (own_mems rest) m → Contains (own_mems (more_stmt (stmt place k) rest)) m) → Later_too → RunRight scope (with_ops run more) rest ending
    moved more right own lat = record {
      right = right;
      mems = g.mems;
      counters = g.counters;
      here = λ v c u. subst (λ x. IsSource core around x v.1 (run.values.here v.0)) (sym (given_append run.ops more)) (source_still core around (given_by run.ops) (given_by more) (run.values.here v.0) v.1 (g.here v c (use_next v.0 u)));
      later = λ v c u. g.later v c (lat v.0 u);
      waiting = λ m c. g.waiting m (own m c);
    }

    -- a value is named after a source
    module _ (w : ℕ) (ty : Ty) (fresh : IsFreshVal p scope w) (more : List PlainOp) (source other : Source) (right : are_operations_right_after core around [] (run.ops ++ more) ≡ true)
        (own : (m : ℕ) → Contains (own_mems rest) m → Contains (own_mems (more_stmt (stmt place k) rest)) m) (lat : Later_too)
        (now : used (only w) rest ending ≡ true → IsSource core around (given_by (run.ops ++ more)) ty source) (after_it : is_used_later (only w) rest ending ≡ true → IsSource core around [] ty other) where
      seen_names : (u : ℕ × Ty) → Contains scope.vals u → Contains (visible p scope) (slice_index_or p.vals u.0 [])
      seen_names u c = in_middle (map (λ m. (slice_index_or p.mems m no_mem).name) scope.mems) (map (λ (v : ℕ × Ty). slice_index_or p.vals v.0 []) scope.vals) (map (λ c. slice_index_or p.counters c []) scope.counters) (slice_index_or p.vals u.0 [])
          (in_map (λ (v : ℕ × Ty). slice_index_or p.vals v.0 []) scope.vals u c)

      not_before : (u : ℕ × Ty) → Contains scope.vals u → u.0 ≡ w → ⊥
      not_before u c e = fresh (subst (λ x. Contains (visible p scope) (slice_index_or p.vals x [])) e (seen_names u c))

      abbrev named_run : Run
      named_run = record { ops = run.ops ++ more; values = record { here = changed run.values.here w source; elsewhere = changed run.values.elsewhere w other } }

      earlier_val : (u : ℕ × Ty) → Contains ((w, ty) ∷ scope.vals) u → (u.0 ≡ w → ⊥) → Contains scope.vals u
      earlier_val u (zero, lt, e) ne = absurd (ne (ap (λ (x : ℕ × Ty). x.0) (sym e)))
      earlier_val u (suc j, lt, e) ne = (j, omega arith, e)

      this_type : (u : ℕ × Ty) → Contains ((w, ty) ∷ scope.vals) u → u.0 ≡ w → ty ≡ u.1
      this_type u (zero, lt, e) same = ap (λ (x : ℕ × Ty). x.1) e
      this_type u (suc j, lt, e) same = absurd (not_before u (j, omega arith, e) same)

      pub named_right : RunRight (with_val scope w ty) named_run rest ending
      named_right = record {
        right = right;
        mems = g.mems;
        counters = g.counters;
        here = λ u c x. either (u.0 == w)
            (λ e. let f : u.0 ≡ w = eqb-true u.0 w e in subst (λ s. IsSource core around (given_by (run.ops ++ more)) u.1 s) (sym (changed_here run.values.here w u.0 source f))
            (subst (λ t. IsSource core around (given_by (run.ops ++ more)) t source) (this_type u c f) (now (subst (λ v. used (only v) rest ending ≡ true) f x))))
            (λ e. let ne : u.0 ≡ w → ⊥ = eqb-false u.0 w e in subst (λ s. IsSource core around (given_by (run.ops ++ more)) u.1 s) (sym (changed_elsewhere run.values.here w u.0 source ne))
            (subst (λ y. IsSource core around y u.1 (run.values.here u.0)) (sym (given_append run.ops more)) (source_still core around (given_by run.ops) (given_by more) (run.values.here u.0) u.1 (g.here u (earlier_val u c ne) (use_next u.0 x)))));
        later = λ u c x. either (u.0 == w)
            (λ e. let f : u.0 ≡ w = eqb-true u.0 w e in subst (λ s. IsSource core around [] u.1 s) (sym (changed_here run.values.elsewhere w u.0 other f))
            (subst (λ t. IsSource core around [] t other) (this_type u c f) (after_it (subst (λ v. is_used_later (only v) rest ending ≡ true) f x))))
            (λ e. let ne : u.0 ≡ w → ⊥ = eqb-false u.0 w e in subst (λ s. IsSource core around [] u.1 s) (sym (changed_elsewhere run.values.elsewhere w u.0 other ne)) (g.later u (earlier_val u c ne) (lat u.0 x)));
        waiting = λ m c. g.waiting m (own m c);
      }

    later_too : (lat : (v : ℕ) → is_used_later (renamed (only v) k) rest ending ≡ true → is_used_later (only v) (more_stmt (stmt place k) rest) ending ≡ true) → Later_too
    later_too lat v u = lat v (later_more rest ending (only v) (renamed (only v) k) (renamed_keeps (only v) k) u)

  -- a statement of a run, with the register of its value where that crosses
  module _ (inner : Bool) (register : Option ℕ) (scope : Scope) (run : Run) (place : ℕ) (rest : PlainStmts) (ending : Ending) where
    same_own : (k : PlainStmtKind) → own_mems (more_stmt (stmt place k) rest) ≡ own_mems rest → (m : ℕ) → Contains (own_mems rest) m → Contains (own_mems (more_stmt (stmt place k) rest)) m
    same_own k e m c = subst (λ l. Contains l m) (sym e) c

    bare_keeps : (w : ℕ) (x : PlainExpr) (source other : Source) (g : RunRight scope run (more_stmt (stmt place (name w x)) rest) ending) → IsFreshVal p scope w
        → (used (only w) rest ending ≡ true → IsSource core around (given_by run.ops) (type_of x) source) → (is_used_later (only w) rest ending ≡ true → IsSource core around [] (type_of x) other)
        → RunRight (with_val scope w (type_of x)) (record run { values = record { here = changed run.values.here w source; elsewhere = changed run.values.elsewhere w other } }) rest ending
    bare_keeps w x source other g fresh now after_it =
        subst (λ o. RunRight (with_val scope w (type_of x)) (record { ops = o; values = record { here = changed run.values.here w source; elsewhere = changed run.values.elsewhere w other } }) rest ending) (append_nil_ops run.ops)
        (named_right scope run place (name w x) rest ending g w (type_of x) fresh [] source other (subst (λ o. are_operations_right_after core around [] o ≡ true) (sym (append_nil_ops run.ops)) g.right)
        (same_own (name w x) refl) (later_too scope run place (name w x) rest ending g (λ v u. u))
        (λ u. subst (λ o. IsSource core around (given_by o) (type_of x) source) (sym (append_nil_ops run.ops)) (now u)) after_it)

    computed_keeps : (w : ℕ) (x : PlainExpr) (r : Option ℕ) (g : RunRight scope run (more_stmt (stmt place (name w x)) rest) ending) → is_bare x ≡ false → IsFreshVal p scope w → Typed p scope x → CrossesRight r (is_used_later (only w) rest ending) (type_of x)
        → RunRight (with_val scope w (type_of x)) (with_computed p.mems run w x r) rest ending
    computed_keeps w x None g bare fresh typed crosses =
        let k = expr_keeps scope run (more_stmt (stmt place (name w x)) rest) ending g x typed (λ v u. use_here scope run place (name w x) rest ending g v (and_from (not (is_bare x)) (uses (only v) x) (ap not bare) u)) in
        let c : Code = next_code p.mems run x in
        named_right scope run place (name w x) rest ending g w (type_of x) fresh c.ops (at_place c.word) (at_place c.word)
        (keep_others core around [] run.ops c.ops [] (c.word ∷ []) [] (type_of x ∷ []) (right_so_far scope run (more_stmt (stmt place (name w x)) rest) ending g) k).right
        (same_own (name w x) refl) (later_too scope run place (name w x) rest ending g (λ v u. u))
        (λ u. subst (λ y. gives y c.word (type_of x) ≡ true) (sym (given_append run.ops c.ops)) (and_parts (gives (given_by run.ops ++ given_by c.ops) c.word (type_of x)) true k.give).0) (λ u. absurd (crosses u))
    computed_keeps w x (Some r) g bare fresh typed crosses =
        let whole : PlainStmts = more_stmt (stmt place (name w x)) rest in
        let k = expr_keeps scope run whole ending g x typed (λ v u. use_here scope run place (name w x) rest ending g v (and_from (not (is_bare x)) (uses (only v) x) (ap not bare) u)) in
        let c : Code = next_code p.mems run x in
        let put : PlainOp = write_op (type_of x) r (c.word ∷ []) in
        subst (λ o. RunRight (with_val scope w (type_of x)) (record { ops = o; values = record { here = changed run.values.here w (at_place c.word); elsewhere = changed run.values.elsewhere w (in_register r) } }) rest ending)
        (sym (append_assoc run.ops c.ops (put ∷ [])))
        (named_right scope run place (name w x) rest ending g w (type_of x) fresh (c.ops ++ put ∷ []) (at_place c.word) (in_register r)
        (word_then scope run whole ending g run.ops [] [] c (type_of x) kind.Write r (type_of x) (right_so_far scope run whole ending g) k refl
        (access_named core around kind.Write (type_of x) r Reg refl crosses.usable crosses.is_kind (λ s. refl) crosses.is_type)
        (ap (λ y. taken_types kind.Write (type_of x) (index_count (record (mem core r) { kind = y }))) crosses.is_kind))
        (same_own (name w x) refl) (later_too scope run place (name w x) rest ending g (λ v u. u))
        (λ u. subst (λ y. gives y c.word (type_of x) ≡ true)
        (append_assoc (given_by run.ops) (given_by c.ops) (given_by (put ∷ [])) ∙ ap (λ y. given_by run.ops ++ y) (sym (given_append c.ops (put ∷ []))) ∙ sym (given_append run.ops (c.ops ++ put ∷ [])))
        (gives_still (given_by run.ops ++ given_by c.ops) (given_by (put ∷ [])) c.word (type_of x) (and_parts (gives (given_by run.ops ++ given_by c.ops) c.word (type_of x)) true k.give).0))
        (λ u. crosses))

    pub named_keeps : (w : ℕ) (x : PlainExpr) (g : RunRight scope run (more_stmt (stmt place (name w x)) rest) ending) → IsFreshVal p scope w → Typed p scope x
        → (is_bare x ≡ false → CrossesRight register (is_used_later (only w) rest ending) (type_of x)) → RunRight (with_val scope w (type_of x)) (with_named p.mems run w x register) rest ending
    named_keeps w (expr at ty (literal x)) g fresh typed crosses = bare_keeps w (expr at ty (literal x)) (constant x) (constant x) g fresh (λ u. typed) (λ u. typed)
    named_keeps w (expr at ty (counter c)) g fresh typed crosses = bare_keeps w (expr at ty (counter c)) (count c) (count c) g fresh (λ u. (g.counters c typed.0, typed.1)) (λ u. (g.counters c typed.0, typed.1))
    named_keeps w (expr at ty (value x)) g fresh typed crosses = bare_keeps w (expr at ty (value x)) (run.values.here x) (run.values.elsewhere x) g fresh
        (λ u. g.here (x, ty) typed (used_next (only x) place (name w (expr at ty (value x))) rest ending (used_more rest ending (only w) (renamed (only x) (name w (expr at ty (value x)))) (renamed_names x w at ty) u)))
        (λ u. g.later (x, ty) typed (later_more rest ending (only w) (renamed (only x) (name w (expr at ty (value x)))) (renamed_names x w at ty) u))
    named_keeps w (expr at ty k) g fresh typed crosses = computed_keeps w (expr at ty k) register g refl fresh typed (crosses refl)

    pub write_keeps : (k : PlainStmtKind) (m : ℕ) (K : Kind) (e : PlainExpr) (g : RunRight scope run (more_stmt (stmt place k) rest) ending) → IsMem p scope m K (type_of e) → is_dram K ≡ false → ((start : Option ℕ) → can kind.Write K start ≡ true)
        → (index_count (written_mem (record (expressions.mem p.mems m) { kind = K })) ≡ 0) → Typed p scope e → ((v : ℕ) → uses (only v) e ≡ true → is_using (only v) k ≡ true)
        → own_mems (more_stmt (stmt place k) rest) ≡ own_mems rest → ((v : ℕ) → is_used_later (renamed (only v) k) rest ending ≡ true → is_used_later (only v) (more_stmt (stmt place k) rest) ending ≡ true)
        → RunRight scope (with_word p.mems run e (λ w. write_op (expressions.mem p.mems m).ty (mem_number p.mems m) (w ∷ []))) rest ending
    write_keeps k m K e g is chip able none typed using own lat =
        let whole : PlainStmts = more_stmt (stmt place k) rest in
        let x = expr_keeps scope run whole ending g e typed (λ v u. use_here scope run place k rest ending g v (using v u)) in
        let c : Code = next_code p.mems run e in
        moved scope run place k rest ending g (c.ops ++ write_op (expressions.mem p.mems m).ty (mem_number p.mems m) (c.word ∷ []) ∷ [])
        (word_then scope run whole ending g run.ops [] [] c (type_of e) kind.Write (mem_number p.mems m) (expressions.mem p.mems m).ty (right_so_far scope run whole ending g) x refl
        (there_named scope run whole ending g m K is.seen is.is_kind chip kind.Write refl able)
        (ap (λ n. taken_types kind.Write (expressions.mem p.mems m).ty n) (there_indices scope run whole ending g m K is.seen is.is_kind chip ∙ none) ∙ ap (λ t. t ∷ []) is.is_type))
        (same_own k own) (later_too scope run place k rest ending g lat)

    pub sram_keeps : (m : ℕ) (xs : PlainExprs) (e : PlainExpr) (g : RunRight scope run (more_stmt (stmt place (set_sram m xs e)) rest) ending) → StmtTyped p scope (set_sram m xs e) → RunRight scope (with_stmt p.mems inner register run (set_sram m xs e)) rest ending
    sram_keeps m xs e g typed =
        let k : PlainStmtKind = set_sram m xs e in
        let whole : PlainStmts = more_stmt (stmt place k) rest in
        let is : Codes = codes p.mems run.values.here (length run.ops) xs in
        let first = indices_keep scope run whole ending g xs typed.2 (λ v u. use_here scope run place k rest ending g v (or_left (some_use (only v) xs) (uses (only v) e) u)) in
        let one = keep_others core around [] run.ops is.ops [] is.words [] (replicate (expr_count xs) int_type) (right_so_far scope run whole ending g) first in
        let g2 : RunRight scope (with_ops run is.ops) whole ending = added_ops scope run whole ending is.ops g one.right in
        let x : Code = next_code p.mems (with_ops run is.ops) e in
        let second = expr_keeps scope (with_ops run is.ops) whole ending g2 e typed.3 (λ v u. use_here scope run place k rest ending g v (or_right (some_use (only v) xs) (uses (only v) e) u)) in
        with_inner (moved scope (with_ops run is.ops) place k rest ending g2 (x.ops ++ write_op (expressions.mem p.mems m).ty (mem_number p.mems m) (is.words ++ x.word ∷ []) ∷ [])
        (word_then scope run whole ending g (run.ops ++ is.ops) is.words (replicate (expr_count xs) int_type) x (type_of e) kind.Write (mem_number p.mems m) (expressions.mem p.mems m).ty one second refl
        (there_named scope run whole ending g m Sram typed.0.seen typed.0.is_kind refl kind.Write refl (λ s. refl))
        (ap (λ n. taken_types kind.Write (expressions.mem p.mems m).ty n) (there_indices scope run whole ending g m Sram typed.0.seen typed.0.is_kind refl ∙ sym typed.1) ∙ ap (λ t. replicate (expr_count xs) int_type ++ t ∷ []) typed.0.is_type))
        (same_own k refl) (later_too scope (with_ops run is.ops) place k rest ending g2 (λ v u. u)))
      where
        with_inner : RunRight scope (with_word p.mems (with_ops run (codes p.mems run.values.here (length run.ops) xs).ops) e (λ w. write_op (expressions.mem p.mems m).ty (mem_number p.mems m) ((codes p.mems run.values.here (length run.ops) xs).words ++ w ∷ []))) rest ending
            → RunRight scope (with_stmt p.mems inner register run (set_sram m xs e)) rest ending
        with_inner r = choose inner
          where
            choose : (b : Bool) → RunRight scope (with_stmt p.mems b register run (set_sram m xs e)) rest ending
            choose true = r
            choose false = r

    pub enq_keeps : (m : ℕ) (e : PlainExpr) (g : RunRight scope run (more_stmt (stmt place (enq m e)) rest) ending) → StmtTyped p scope (enq m e) → RunRight scope (with_word p.mems run e (λ w. accesses kind.Enq (expressions.mem p.mems m).ty (mem_number p.mems m) (w ∷ []))) rest ending
    enq_keeps m e g typed =
        let k : PlainStmtKind = enq m e in
        let whole : PlainStmts = more_stmt (stmt place k) rest in
        let x = expr_keeps scope run whole ending g e typed.1 (λ v u. use_here scope run place k rest ending g v u) in
        let c : Code = next_code p.mems run e in
        moved scope run place k rest ending g (c.ops ++ accesses kind.Enq (expressions.mem p.mems m).ty (mem_number p.mems m) (c.word ∷ []) ∷ [])
        (word_then scope run whole ending g run.ops [] [] c (type_of e) kind.Enq (mem_number p.mems m) (expressions.mem p.mems m).ty (right_so_far scope run whole ending g) x refl
        (there_named scope run whole ending g m Fifo typed.0.seen typed.0.is_kind refl kind.Enq refl (λ s. refl)) (ap (λ t. t ∷ []) typed.0.is_type))
        (same_own k refl) (later_too scope run place k rest ending g (λ v u. u))

    pub declare_keeps : (m : ℕ) → RunRight scope run (more_stmt (stmt place (declare m)) rest) ending → RunRight (with_mem scope m) run rest ending
    declare_keeps m g = record {
      right = g.right;
      mems = λ k c off. now_usable k c off;
      counters = g.counters;
      here = λ v c u. g.here v c (use_next scope run place (declare m) rest ending g v.0 u);
      later = λ v c u. g.later v c (later_too scope run place (declare m) rest ending g (λ v u. u) v.0 u);
      waiting = λ k c. g.waiting k (suc c.0, omega (arith, c.1), c.2);
    }
      where
        now_usable : (k : ℕ) → Contains (m ∷ scope.mems) k → is_off_dram (expressions.mem p.mems k) ≡ true → (k < length p.mems) × (is_usable core around (mem_number p.mems k) ≡ true)
        now_usable k (zero, lt, e) off = let w = g.waiting m (0, omega arith, refl) in subst (λ x. (x < length p.mems) × (is_usable core around (mem_number p.mems x) ≡ true)) e (w.exists, w.usable)
        now_usable k (suc j, lt, e) off = g.mems k (j, omega arith, e) off

    pub reset_keeps : (m : ℕ) → RunRight scope run (more_stmt (stmt place (declare m)) rest) ending → RunRight (with_mem scope m) (with_reset p.mems run m) rest ending
    reset_keeps m g = either (has_reset (expressions.mem p.mems m).kind (expressions.mem p.mems m).start)
        (λ e. subst (λ b. RunRight (with_mem scope m) (if b then with_ops run (op ∷ []) else run) rest ending) (sym e)
        (added_ops (with_mem scope m) run rest ending (op ∷ []) (declare_keeps m g)
        (keep_silent core around [] run.ops [] [] (right_so_far scope run (more_stmt (stmt place (declare m)) rest) ending g) kind.Reset (expressions.mem p.mems m).ty (Some (mem_number p.mems m)) refl (names e) refl).right))
        (λ e. subst (λ b. RunRight (with_mem scope m) (if b then with_ops run (op ∷ []) else run) rest ending) (sym e) (declare_keeps m g))
      where
        op : PlainOp
        op = accesses kind.Reset (expressions.mem p.mems m).ty (mem_number p.mems m) []

        names : has_reset (expressions.mem p.mems m).kind (expressions.mem p.mems m).start ≡ true → names_rightly core around kind.Reset (expressions.mem p.mems m).ty (Some (mem_number p.mems m)) ≡ true
        names e = let w = g.waiting m (0, omega arith, refl) in let t = chip_mem p core h m w.exists w.on_chip in
            and_from _ _ (and_from _ _ refl w.usable) (and_from _ _ (ap (λ (x : plain.PlainMem). has_reset x.kind x.start) t ∙ e) (subst (λ x. is_type (expressions.mem p.mems m).ty x ≡ true) (sym (ap (λ (x : plain.PlainMem). x.ty) t)) (type_is (expressions.mem p.mems m).ty)))
