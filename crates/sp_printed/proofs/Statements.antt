-- Each typed statement of a printed text is read as a tree that spells it.
use Rattle.std.proofs.Common.{◌≡◌, ℕ, zero, suc, ◌<◌, Bool, true, false, List, [], ◌∷◌, ◌++◌, map, length, slice_index_or, Contains, refl, sym, ap, subst, inl, inr, arith}
use Rattle.std.specs.Prelude.{◌⊎◌}
use Rattle.std.proofs.lemmas.List.Elements.{Contains-append_left, Contains-append_right}
use Rattle.sp_words.specs.declared.types.Ty.{Ty}
use Rattle.sp_words.specs.Names.{IsName}
use Rattle.sp_tree.specs.Counts.{is_port}
use Rattle.sp_tree.specs.Declarations.{IsDeclaration}
use Rattle.sp_tree.specs.PlainExpression as expression
use Rattle.sp_tree.specs.PlainExpression.{PlainExpr, PlainExprs, type_of}
use Rattle.sp_tree.specs.PlainProgram.{PlainProgram}
use Rattle.sp_tree.specs.PlainStatement as program
use Rattle.sp_tree.specs.PlainStatement.{PlainStmtKind, PlainStmts, stmt, declare, name, set_reg, set_out, set_sram, enq, load_sram, load_line, store, gather, scatter, block, foreach, reduce, mem_reduce, fsm, branch, no_stmt, more_stmt}
use Rattle.sp_tree.specs.Structure.{mems_declared, mems_in, vals_declared, vals_in, counters_declared, counters_in, counter_numbers, own_mems}
use Rattle.sp_tree.specs.Typing.{Scope, mem_at, with_mem, with_val, with_counter, with_counters, after, after_all, IsFresh, BoundsTyped, SpansTyped, IsSlice, StmtTyped, BodyTyped}
use Rattle.sp_reader.specs.Steps.{Text}
use Rattle.sp_printer.specs.Body.{deeper}
use Rattle.sp_printer.specs.Names.{names_in}
use Rattle.sp_printed.proofs.Bodies.{AreBlanks, deeper_blanks, StmtReads, BodyHas}
use Rattle.sp_printed.proofs.Controllers.{block_reads, foreach_reads, reduce_reads, mem_reduce_reads, fsm_reads, branch_reads}
use Rattle.sp_printed.proofs.Exprs.{Named, sram_rank, dram_rank, expr_reads, rows_read}
use Rattle.sp_printed.proofs.Loops.{SpanHas, SpansHave, CountersHave}
use Rattle.sp_printed.proofs.Simple.{declare_reads, let_reads, set_reg_reads, set_out_reads, set_sram_reads, enq_reads, load_sram_reads, load_line_reads, store_reads, gather_reads, scatter_reads}

-- ---- elements

first_or_rest : {A : Type 0} (y : A) (ys : List A) (x : A) → Contains (y ∷ ys) x → (y ≡ x) ⊎ Contains ys x
first_or_rest y ys x (zero, lt, e) = inl e
first_or_rest y ys x (suc k, lt, e) = inr (k, omega (arith, lt), e)

one_more : {A : Type 0} (y : A) (ys : List A) (x : A) → Contains ys x → Contains (y ∷ ys) x
one_more y ys x h = (suc h.0, omega (arith, h.1), h.2)

at_first : {A : Type 0} (x : A) (xs : List A) → Contains (x ∷ xs) x
at_first x xs = (0, omega arith, refl)

mapped : {A B : Type 0} (f : A → B) (xs : List A) (x : A) → Contains xs x → Contains (map f xs) (f x)
mapped f [] x (k, lt, e) = absurd (omega (arith, lt))
mapped f (y ∷ ys) x (zero, lt, e) = (0, omega arith, ap f e)
mapped f (y ∷ ys) x (suc k, lt, e) = one_more (f y) (map f ys) (f x) (mapped f ys x (k, omega (arith, lt), e))

module _ (p : PlainProgram) where
  -- ---- what a body declares

  -- memories that are declared, values and counters under names
  pub record Declared (mems vals counters : List ℕ) : Type 0 where
    pub mem : (m : ℕ) → Contains mems m → (m < length p.mems) × IsDeclaration (mem_at p m)
    pub val : (v : ℕ) → Contains vals v → IsName (slice_index_or p.vals v [])
    pub counter : (c : ℕ) → Contains counters c → IsName (slice_index_or p.counters c [])

  left : (a b c d e f : List ℕ) → Declared (a ++ b) (c ++ d) (e ++ f) → Declared a c e
  left a b c d e f h = record { mem = λ m at. h.mem m (Contains-append_left a b m at); val = λ v at. h.val v (Contains-append_left c d v at); counter = λ n at. h.counter n (Contains-append_left e f n at) }

  right : (a b c d e f : List ℕ) → Declared (a ++ b) (c ++ d) (e ++ f) → Declared b d f
  right a b c d e f h = record { mem = λ m at. h.mem m (Contains-append_right a b m at); val = λ v at. h.val v (Contains-append_right c d v at); counter = λ n at. h.counter n (Contains-append_right e f n at) }

  counted : (a b c d : List ℕ) → Declared a b (c ++ d) → Declared a b d
  counted a b c d h = record { mem = h.mem; val = h.val; counter = λ n at. h.counter n (Contains-append_right c d n at) }

  -- ---- scopes

  named_mem : (scope : Scope) (m : ℕ) → Named p scope → IsDeclaration (mem_at p m) → Named p (with_mem scope m)
  named_mem scope m n d = record {
    mems = λ x at. by x (first_or_rest m scope.mems x at);
    ports = λ x low port. one_more m scope.mems x (n.ports x low port);
    vals = n.vals;
    counters = n.counters;
  }
    where
      by : (x : ℕ) → (m ≡ x) ⊎ Contains scope.mems x → IsDeclaration (mem_at p x)
      by x (inl same) = subst (λ y. IsDeclaration (mem_at p y)) same d
      by x (inr at) = n.mems x at

  named_val : (scope : Scope) (v : ℕ) (ty : Ty) → Named p scope → IsName (slice_index_or p.vals v []) → Named p (with_val scope v ty)
  named_val scope v ty n good = record { mems = n.mems; ports = n.ports; vals = λ x t at. by x t (first_or_rest (v, ty) scope.vals (x, t) at); counters = n.counters }
    where
      by : (x : ℕ) (t : Ty) → ◌≡◌ {A = ℕ × Ty} (v, ty) (x, t) ⊎ Contains scope.vals (x, t) → IsName (slice_index_or p.vals x [])
      by x t (inl same) = subst (λ y. IsName (slice_index_or p.vals y [])) (ap (λ (y : ℕ × Ty). y.0) same) good
      by x t (inr at) = n.vals x t at

  named_counter : (scope : Scope) (c : ℕ) → Named p scope → IsName (slice_index_or p.counters c []) → Named p (with_counter scope c)
  named_counter scope c n good = record { mems = n.mems; ports = n.ports; vals = n.vals; counters = λ x at. by x (first_or_rest c scope.counters x at) }
    where
      by : (x : ℕ) → (c ≡ x) ⊎ Contains scope.counters x → IsName (slice_index_or p.counters x [])
      by x (inl same) = subst (λ y. IsName (slice_index_or p.counters y [])) same good
      by x (inr at) = n.counters x at

  named_counters : (scope : Scope) (counters : List program.PlainCounter) → Named p scope → ((c : ℕ) → Contains (counter_numbers counters) c → IsName (slice_index_or p.counters c [])) → Named p (with_counters scope counters)
  named_counters scope [] n good = n
  named_counters scope (c ∷ counters) n good =
      named_counters (with_counter scope c.number) counters (named_counter scope c.number n (good c.number (at_first c.number (counter_numbers counters)))) (λ x at. good x (one_more c.number (counter_numbers counters) x at))

  named_after : (scope : Scope) (kind : PlainStmtKind) → Named p scope → Declared (mems_in kind) (vals_in kind) (counters_in kind) → Named p (after scope kind)
  named_after scope (declare m) n d = named_mem scope m n (d.mem m (at_first m [])).1
  named_after scope (name v e) n d = named_val scope v (type_of e) n (d.val v (at_first v []))
  named_after scope (set_reg m e) n d = n
  named_after scope (set_out m e) n d = n
  named_after scope (set_sram m indices e) n d = n
  named_after scope (enq m e) n d = n
  named_after scope (load_sram sram dram spans) n d = n
  named_after scope (load_line line dram spans) n d = n
  named_after scope (store dram spans sram) n d = n
  named_after scope (gather sram dram places count) n d = n
  named_after scope (scatter dram places count sram) n d = n
  named_after scope (block s body) n d = n
  named_after scope (foreach s counters body) n d = n
  named_after scope (reduce s fold acc counters body word c) n d = n
  named_after scope (mem_reduce s acc counters body part c) n d = n
  named_after scope (fsm start tested test state body last next) n d = n
  named_after scope (branch test first second) n d = n

  named_end : (scope : Scope) (body : PlainStmts) → Named p scope → Declared (mems_declared body) (vals_declared body) (counters_declared body) → Named p (after_all scope body)
  named_end scope no_stmt n d = n
  named_end scope (more_stmt (stmt place kind) rest) n d =
      named_end (after scope kind) rest (named_after scope kind n (left (mems_in kind) (mems_declared rest) (vals_in kind) (vals_declared rest) (counters_in kind) (counters_declared rest) d)) (right (mems_in kind) (mems_declared rest) (vals_in kind) (vals_declared rest) (counters_in kind) (counters_declared rest) d)

  -- what a body itself declares is among what it declares
  own_declared : (body : PlainStmts) (m : ℕ) → Contains (own_mems body) m → Contains (mems_declared body) m
  own_declared no_stmt m at = at
  own_declared (more_stmt (stmt place (declare x)) rest) m at = by (first_or_rest x (own_mems rest) m at) (λ there. own_declared rest m there)
    where
      by : (x ≡ m) ⊎ Contains (own_mems rest) m → (Contains (own_mems rest) m → Contains (mems_declared rest) m) → Contains (x ∷ mems_declared rest) m
      by (inl same) f = subst (λ y. Contains (x ∷ mems_declared rest) y) same (at_first x (mems_declared rest))
      by (inr there) f = one_more x (mems_declared rest) m (f there)
  own_declared (more_stmt (stmt place kind) rest) m at = Contains-append_right (mems_in kind) (mems_declared rest) m (own_declared rest m at)

  -- a fresh name is no port's
  no_port : (scope : Scope) (m : ℕ) → Named p scope → m < length p.mems → IsFresh p scope (mem_at p m).name → is_port (mem_at p m).kind ≡ false
  no_port scope m n low fresh = go (is_port (mem_at p m).kind) refl
    where
      go : (b : Bool) → is_port (mem_at p m).kind ≡ b → b ≡ false
      go false is = refl
      go true is = absurd (fresh (Contains-append_left _ _ _ (Contains-append_left _ _ _ (mapped (λ x. (mem_at p x).name) scope.mems m (n.ports m low is)))))

  -- ---- parts of statements

  module _ (source : Text) where
    spans_have : (scope : Scope) → Named p scope → (spans : List program.PlainSpan) → SpansTyped p scope spans → SpansHave source (names_in p) spans
    spans_have scope n [] h = tt
    spans_have scope n (program.single e ∷ spans) h = (expr_reads p source scope n e h.0.0.0 0, spans_have scope n spans h.1)
    spans_have scope n (program.range a b par ∷ spans) h = ((expr_reads p source scope n a h.0.0.0 0, expr_reads p source scope n b h.1.0.0 0, h.2), spans_have scope n spans h.3)

    counters_have : (scope : Scope) → Named p scope → (counters : List program.PlainCounter) → BoundsTyped p scope counters → ((c : ℕ) → Contains (counter_numbers counters) c → IsName (slice_index_or p.counters c [])) → CountersHave source (names_in p) counters
    counters_have scope n [] h good = tt
    counters_have scope n (c ∷ counters) h good = (
      record { from = expr_reads p source scope n c.from h.0.0.0 0; until = expr_reads p source scope n c.until h.1.0.0 0; step = h.2; par = h.3 },
      good c.number (at_first c.number (counter_numbers counters)),
      counters_have scope n counters h.4 (λ x at. good x (one_more c.number (counter_numbers counters) x at)),
    )

    -- a slice has a span
    record Sliced (spans : List program.PlainSpan) : Type 0 where
      first : program.PlainSpan
      others : List program.PlainSpan
      is : spans ≡ first ∷ others
      has : SpanHas source (names_in p) first
      have : SpansHave source (names_in p) others

    sliced : (scope : Scope) (dram : ℕ) (ty : Ty) (spans : List program.PlainSpan) → Named p scope → IsSlice p scope dram ty spans → Sliced spans
    sliced scope dram ty [] n s = absurd (omega (arith, s.span_for_each, dram_rank (mem_at p dram) (n.mems dram s.from_dram.seen) s.from_dram.is_kind))
    sliced scope dram ty (first ∷ others) n s = let all = spans_have scope n (first ∷ others) s.spans_typed in record { first = first; others = others; is = refl; has = all.0; have = all.1 }

    -- ---- statements

    set_sram_at : (scope : Scope) → Named p scope → (margin : Text) (m : ℕ) (indices : PlainExprs) (e : PlainExpr) → StmtTyped p scope (set_sram m indices e) → StmtReads source (names_in p) margin (set_sram m indices e)
    set_sram_at scope n margin m expression.no_expr e h = absurd (omega (arith, h.1, sram_rank (mem_at p m) (n.mems m h.0.seen) h.0.is_kind))
    set_sram_at scope n margin m (expression.more_expr first all) e h =
        let rows = rows_read p source scope n (expression.more_expr first all) h.2 in
        set_sram_reads source (names_in p) margin m first all e (n.mems m h.0.seen).name rows.0 rows.1 (expr_reads p source scope n e h.3 0)

    mutual
      pub body_reads : (body : PlainStmts) (scope : Scope) → Named p scope → BodyTyped p scope body → Declared (mems_declared body) (vals_declared body) (counters_declared body) → (margin : Text) → AreBlanks margin → BodyHas source (names_in p) margin body
      body_reads no_stmt scope n h d margin blank = tt
      body_reads (more_stmt (stmt place kind) rest) scope n h d margin blank =
          let here = left (mems_in kind) (mems_declared rest) (vals_in kind) (vals_declared rest) (counters_in kind) (counters_declared rest) d in
          let there = right (mems_in kind) (mems_declared rest) (vals_in kind) (vals_declared rest) (counters_in kind) (counters_declared rest) d in
          (stmt_reads kind scope n h.0 here margin blank, body_reads rest (after scope kind) (named_after scope kind n here) h.1 there margin blank)

      stmt_reads : (kind : PlainStmtKind) (scope : Scope) → Named p scope → StmtTyped p scope kind → Declared (mems_in kind) (vals_in kind) (counters_in kind) → (margin : Text) → AreBlanks margin → StmtReads source (names_in p) margin kind
      stmt_reads (declare m) scope n h d margin blank = let at = d.mem m (at_first m []) in declare_reads source (names_in p) margin m at.0 at.1 (no_port scope m n at.0 h)
      stmt_reads (name v e) scope n h d margin blank = let_reads source (names_in p) margin v e (d.val v (at_first v [])) (expr_reads p source scope n e h.1 0)
      stmt_reads (set_reg m e) scope n h d margin blank = set_reg_reads source (names_in p) margin m e (n.mems m h.0.seen).name (expr_reads p source scope n e h.1 0)
      stmt_reads (set_out m e) scope n h d margin blank = set_out_reads source (names_in p) margin m e (n.mems m h.0.seen).name (expr_reads p source scope n e h.1 0)
      stmt_reads (set_sram m indices e) scope n h d margin blank = set_sram_at scope n margin m indices e h
      stmt_reads (enq m e) scope n h d margin blank = enq_reads source (names_in p) margin m e (n.mems m h.0.seen).name (expr_reads p source scope n e h.1 0)
      stmt_reads (load_sram sram dram spans) scope n h d margin blank =
          let s = sliced scope dram (mem_at p sram).ty spans n h.1 in
          subst (λ x. StmtReads source (names_in p) margin (load_sram sram dram x)) (sym s.is) (load_sram_reads source (names_in p) margin sram dram s.first s.others (n.mems sram h.0.seen).name (n.mems dram h.1.from_dram.seen).name s.has s.have)
      stmt_reads (load_line line dram spans) scope n h d margin blank =
          let s = sliced scope dram (mem_at p line).ty spans n h.1 in
          subst (λ x. StmtReads source (names_in p) margin (load_line line dram x)) (sym s.is) (load_line_reads source (names_in p) margin line dram s.first s.others (n.mems line h.0.seen).name (n.mems dram h.1.from_dram.seen).name s.has s.have)
      stmt_reads (store dram spans sram) scope n h d margin blank =
          let s = sliced scope dram (mem_at p sram).ty spans n h.1 in
          subst (λ x. StmtReads source (names_in p) margin (store dram x sram)) (sym s.is) (store_reads source (names_in p) margin dram s.first s.others sram (n.mems dram h.1.from_dram.seen).name (n.mems sram h.0.seen).name s.has s.have)
      stmt_reads (gather sram dram places count) scope n h d margin blank =
          gather_reads source (names_in p) margin sram dram places count (n.mems sram h.0.seen).name (n.mems dram h.1.in_dram.seen).name (n.mems places h.1.from_sram.seen).name (expr_reads p source scope n count h.1.how_many.0.0 0)
      stmt_reads (scatter dram places count sram) scope n h d margin blank =
          scatter_reads source (names_in p) margin dram places count sram (n.mems dram h.1.in_dram.seen).name (n.mems places h.1.from_sram.seen).name (n.mems sram h.0.seen).name (expr_reads p source scope n count h.1.how_many.0.0 0)
      stmt_reads (block s body) scope n h d margin blank = block_reads source (names_in p) margin blank s body (body_reads body scope n h d (deeper margin) (deeper_blanks margin blank))
      stmt_reads (foreach s counters body) scope n h d margin blank =
          let good = λ (c : ℕ) (at : Contains (counter_numbers counters) c). d.counter c (Contains-append_left (counter_numbers counters) (counters_declared body) c at) in
          foreach_reads source (names_in p) margin blank s counters body h.0 h.1.one_to_four (counters_have scope n counters h.1.bounds good)
          (body_reads body (with_counters scope counters) (named_counters scope counters n good) h.2 (counted (mems_declared body) (vals_declared body) (counter_numbers counters) (counters_declared body) d) (deeper margin) (deeper_blanks margin blank))
      stmt_reads (reduce s fold acc counters body word c) scope n h d margin blank =
          let good = λ (c : ℕ) (at : Contains (counter_numbers counters) c). d.counter c (Contains-append_left (counter_numbers counters) (counters_declared body) c at) in
          let inside = named_counters scope counters n good in
          let within = counted (mems_declared body) (vals_declared body) (counter_numbers counters) (counters_declared body) d in
          reduce_reads source (names_in p) margin blank s fold acc counters body word c h.0 (n.mems acc h.3.seen).name h.1.one_to_four (counters_have scope n counters h.1.bounds good)
          (body_reads body (with_counters scope counters) inside h.2 within (deeper margin) (deeper_blanks margin blank))
          (expr_reads p source (after_all (with_counters scope counters) body) (named_end (with_counters scope counters) body inside within) word h.5 0)
      stmt_reads (mem_reduce s acc counters body part c) scope n h d margin blank =
          let good = λ (c : ℕ) (at : Contains (counter_numbers counters) c). d.counter c (Contains-append_left (counter_numbers counters) (counters_declared body) c at) in
          let within = counted (mems_declared body) (vals_declared body) (counter_numbers counters) (counters_declared body) d in
          mem_reduce_reads source (names_in p) margin blank s acc counters body part c h.0 (n.mems acc h.3.seen).name h.1.one_to_four (counters_have scope n counters h.1.bounds good)
          (body_reads body (with_counters scope counters) (named_counters scope counters n good) h.2 within (deeper margin) (deeper_blanks margin blank))
          (d.mem part (own_declared body part h.6)).1.name
      stmt_reads (fsm start tested test state body last next) scope n h d margin blank =
          let first = d.val tested (at_first tested (state ∷ vals_declared body ++ last ∷ [])) in
          let second = d.val state (one_more tested (state ∷ vals_declared body ++ last ∷ []) state (at_first state (vals_declared body ++ last ∷ []))) in
          let third = d.val last (one_more tested (state ∷ vals_declared body ++ last ∷ []) last (one_more state (vals_declared body ++ last ∷ []) last (Contains-append_right (vals_declared body) (last ∷ []) last (at_first last [])))) in
          let within : Declared (mems_declared body) (vals_declared body) (counters_declared body) = record {
            mem = d.mem;
            val = λ v at. d.val v (one_more tested (state ∷ vals_declared body ++ last ∷ []) v (one_more state (vals_declared body ++ last ∷ []) v (Contains-append_left (vals_declared body) (last ∷ []) v at)));
            counter = d.counter;
          } in
          fsm_reads source (names_in p) margin blank start tested test state body last next (expr_reads p source scope n start h.0.0.0 0) first
          (expr_reads p source (with_val scope tested (type_of start)) (named_val scope tested (type_of start) n first) test h.2.0.0 0) second
          (body_reads body (with_val scope state (type_of start)) (named_val scope state (type_of start) n second) h.4 within (deeper margin) (deeper_blanks margin blank)) third
          (expr_reads p source (with_val scope last (type_of start)) (named_val scope last (type_of start) n third) next h.6.0.0 0)
      stmt_reads (branch test first second) scope n h d margin blank =
          let one = left (mems_declared first) (mems_declared second) (vals_declared first) (vals_declared second) (counters_declared first) (counters_declared second) d in
          let two = right (mems_declared first) (mems_declared second) (vals_declared first) (vals_declared second) (counters_declared first) (counters_declared second) d in
          branch_reads source (names_in p) margin blank test first second (expr_reads p source scope n test h.0.0.0 0)
          (body_reads first scope n h.1 one (deeper margin) (deeper_blanks margin blank)) (body_reads second scope n h.2 two (deeper margin) (deeper_blanks margin blank))
