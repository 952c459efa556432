-- The statements of a program's tree are typed to its statements again, but for places.
use Rattle.std.proofs.Common.{◌≡◌, ℕ, suc, ◌+◌, Bool, true, false, List, [], ◌∷◌, ◌++◌, length, slice_index_or, Contains, Option, Some, refl, sym, ap, ap₂, subst, ◌∙◌, inl, inr, arith}
use Rattle.std.specs.Prelude.{◌⊎◌}
use Rattle.sp_words.specs.declared.kind.Kind.{Kind}
use Rattle.sp_words.specs.declared.kind.Kind.TheVariants.{Reg, Sram, Fifo, LineBuf, Dram, ArgOut}
use Rattle.sp_words.specs.declared.types.Ty.{Ty}
use Rattle.sp_words.specs.declared.types.Ty.TheVariants.{Bit}
use Rattle.sp_words.specs.Types.{int_type}
use Rattle.sp_reader.specs.PlainTree as tree
use Rattle.sp_reader.specs.PlainStatement as tree_of
use Rattle.sp_tree.specs.Declarations.{IsDeclaration}
use Rattle.sp_tree.specs.PlainExpression.{PlainExpr, type_of}
use Rattle.sp_tree.specs.PlainProgram.{PlainProgram}
use Rattle.sp_tree.specs.PlainStatement as program
use Rattle.sp_tree.specs.Structure.{mems_declared, mems_in, vals_declared, vals_in, counters_declared, counters_in, counter_numbers, own_mems}
use Rattle.sp_tree.specs.Typing.{Scope, IsMem, mem_at, with_mem, with_val, with_counters, after, after_all, Typed, StmtTyped, BodyTyped}
use Rattle.sp_printer.specs.Names.{names_in}
use Rattle.sp_printed.specs.Trees.{IsTree}
use Rattle.sp_printed.specs.StatementTrees.{IsDeclareTree, IsStmtTree, IsBodyTree}
use Rattle.sp_types.specs.Types.{symbol_type}
use Rattle.sp_types.specs.Visible.{PlainSymbol, memory, value}
use Rattle.sp_typed.specs.Declarations as typed
use Rattle.sp_typed.specs.Expressions.{known, type_by_itself, number_of, symbol_at, word_type, is_line}
use Rattle.sp_typed.specs.Expressions as expression
use Rattle.sp_typed.specs.Named.{Here, seen_at, given, past}
use Rattle.sp_typed.specs.Statements.{stmt_typed, body_typed, spans_typed, is_output, write, load_typed, with_state, in_fsm}
use Rattle.sp_retyped.specs.Bare.{bare}
use Rattle.sp_retyped.specs.BareBody.{bare_body, bare_stmt}
use Rattle.sp_retyped.specs.Shown.{Shown}
use Rattle.sp_retyped.proofs.Back.{all_back}
use Rattle.sp_retyped.proofs.Declared.{Right, mems_back, vals_back, counters_back, stmt_mems, stmt_vals, stmt_counters, rank_at, no_dims}
use Rattle.sp_retyped.proofs.Names.{Means, means, mem_means}
use Rattle.sp_retyped.proofs.Numbered.{IsRun, run_left, run_right, mapped_length}
use Rattle.sp_retyped.proofs.Owns.{own_is, by_itself}
use Rattle.sp_retyped.proofs.Parts.{style_back, comb_back, back_at, spans_back, counters_back as bounds_back, binders_shown, binds_count}
use Rattle.sp_retyped.proofs.Scopes.{first_or_rest, one_more, at_first, shown_mem, shown_val}
use Rattle.std.proofs.lemmas.List.Elements.{Contains-append_left, Contains-append_right}

-- what is declared from a place on has the place's numbers
pub record Numbered (here : Here) (mems vals counters : List ℕ) : Type 0 where
  pub mems_run : IsRun here.mems mems
  pub vals_run : IsRun here.vals vals
  pub counters_run : IsRun here.counters counters

pub first_part : {here : Here} (a b c d e f : List ℕ) → Numbered here (a ++ b) (c ++ d) (e ++ f) → Numbered here a c e
first_part {here} a b c d e f n = record { mems_run = run_left here.mems a b n.mems_run; vals_run = run_left here.vals c d n.vals_run; counters_run = run_left here.counters e f n.counters_run }

pub second_part : {here : Here} (a b c d e f : List ℕ) (i j k : ℕ) → i ≡ length a → j ≡ length c → k ≡ length e → Numbered here (a ++ b) (c ++ d) (e ++ f) → Numbered (past here i j k) b d f
second_part {here} a b c d e f i j k x y z n = record {
  mems_run = subst (λ l. IsRun (here.mems + l) b) (sym x) (run_right here.mems a b n.mems_run);
  vals_run = subst (λ l. IsRun (here.vals + l) d) (sym y) (run_right here.vals c d n.vals_run);
  counters_run = subst (λ l. IsRun (here.counters + l) f) (sym z) (run_right here.counters e f n.counters_run);
}

module _ (p : PlainProgram) where
  val_is : ℕ → List ℕ
  val_is v = slice_index_or p.vals v []

  -- ---- lengths

  stmt_lengths : {s : program.PlainStmtKind} {x : tree_of.PlainStmtKind} → IsStmtTree (names_in p) s x → Right p (mems_in s)
      → (length (typed.mems_in 0 x) ≡ length (mems_in s)) × (length (typed.vals_in x) ≡ length (vals_in s)) × (length (typed.counters_in x) ≡ length (counters_in s))
  stmt_lengths {s} {x} t r = (
    sym (mapped_length _ (typed.mems_in 0 x)) ∙ ap (λ l. length l) (stmt_mems p 0 t r) ∙ mapped_length _ (mems_in s),
    ap (λ l. length l) (stmt_vals p t) ∙ mapped_length _ (vals_in s),
    ap (λ l. length l) (stmt_counters p t) ∙ mapped_length _ (counters_in s),
  )

  pub body_lengths : {s : program.PlainStmts} {x : tree_of.PlainStmts} → IsBodyTree (names_in p) s x → Right p (mems_declared s)
      → (length (typed.mems_declared x) ≡ length (mems_declared s)) × (length (typed.vals_declared x) ≡ length (vals_declared s)) × (length (typed.counters_declared x) ≡ length (counters_declared s))
  body_lengths {s} {x} t r = (
    sym (mapped_length _ (typed.mems_declared x)) ∙ ap (λ l. length l) (mems_back p t r) ∙ mapped_length _ (mems_declared s),
    ap (λ l. length l) (vals_back p t) ∙ mapped_length _ (vals_declared s),
    ap (λ l. length l) (counters_back p t) ∙ mapped_length _ (counters_declared s),
  )

  pub right_left : (a b : List ℕ) → Right p (a ++ b) → Right p a
  right_left a b h m at = h m (Contains-append_left a b m at)

  pub right_right : (a b : List ℕ) → Right p (a ++ b) → Right p b
  right_right a b h m at = h m (Contains-append_right a b m at)

  -- ---- one statement further

  pub itself : (scope : Scope) (here : Here) → Shown p scope here.names → {e : PlainExpr} {x : tree.PlainExpr} → IsTree (names_in p) e x → Typed p scope e → type_by_itself here x ≡ type_of e
  itself scope here shown t h = ap known (by_itself (own_is p scope here shown (seen_at here) refl t h))

  pub val_shown : (scope : Scope) (here : Here) → Shown p scope here.names → (v n : ℕ) (ty t : Ty) (w : List ℕ) → w ≡ slice_index_or p.vals v [] → t ≡ ty → v ≡ n
      → Rattle.sp_tree.specs.Typing.IsFreshVal p scope v → Shown p (with_val scope v ty) (given here.names w (value (Some t)) n)
  val_shown scope here shown v n ty t w text type number fresh =
      subst (λ (x : List ℕ). Shown p (with_val scope v ty) (given here.names x (value (Some t)) n)) (sym text)
      (subst (λ (x : Ty). Shown p (with_val scope v ty) (given here.names (slice_index_or p.vals v []) (value (Some x)) n)) (sym type)
      (subst (λ (x : ℕ). Shown p (with_val scope v ty) (given here.names (slice_index_or p.vals v []) (value (Some ty)) x)) number (shown_val p scope here.names v ty shown fresh)))

  pub mem_shown : (scope : Scope) (here : Here) → Shown p scope here.names → (m n : ℕ) (s : PlainSymbol) (w : List ℕ) → w ≡ (mem_at p m).name → s ≡ memory (mem_at p m).kind (Some (mem_at p m).ty) (mem_at p m).dims → m ≡ n
      → Rattle.sp_tree.specs.Typing.IsFresh p scope (mem_at p m).name → Shown p (with_mem scope m) (given here.names w s n)
  mem_shown scope here shown m n s w text symbol number fresh =
      subst (λ (x : List ℕ). Shown p (with_mem scope m) (given here.names x s n)) (sym text)
      (subst (λ (x : PlainSymbol). Shown p (with_mem scope m) (given here.names (mem_at p m).name x n)) (sym symbol)
      (subst (λ (x : ℕ). Shown p (with_mem scope m) (given here.names (mem_at p m).name (memory (mem_at p m).kind (Some (mem_at p m).ty) (mem_at p m).dims) x)) number (shown_mem p scope here.names m shown fresh)))

  pub symbol_is : {k l : Kind} {t u : Option Ty} {ds es : List ℕ} → k ≡ l → t ≡ u → ds ≡ es → memory k t ds ≡ memory l u es
  symbol_is k t d = λ i. memory (k i) (t i) (d i)

  declare_shown : (scope : Scope) (here : Here) (m : ℕ) {x : tree_of.PlainStmtKind} → Shown p scope here.names → IsDeclareTree (mem_at p m) x → IsDeclaration (mem_at p m) → m ≡ here.mems → StmtTyped p scope (program.declare m)
      → Shown p (with_mem scope m) (typed.names_after here x)
  declare_shown scope here m shown (IsDeclareTree.a_reg {i = i} k text ty st) d number h =
      mem_shown scope here shown m here.mems _ i.text text (symbol_is (sym k) (Rattle.sp_retyped.proofs.Values.type_is ty) (no_dims (mem_at p m).dims (rank_at (mem_at p m) Reg d k))) number h
  declare_shown scope here m shown (IsDeclareTree.an_sram {i = i} k text ty) d number h = mem_shown scope here shown m here.mems _ i.text text (symbol_is (sym k) (Rattle.sp_retyped.proofs.Values.type_is ty) refl) number h
  declare_shown scope here m shown (IsDeclareTree.a_fifo {i = i} k text ty dims) d number h = mem_shown scope here shown m here.mems _ i.text text (symbol_is (sym k) (Rattle.sp_retyped.proofs.Values.type_is ty) (sym dims)) number h
  declare_shown scope here m shown (IsDeclareTree.a_line {i = i} k text ty dims) d number h = mem_shown scope here shown m here.mems _ i.text text (symbol_is (sym k) (Rattle.sp_retyped.proofs.Values.type_is ty) (sym dims)) number h

  pub shown_after : {s : program.PlainStmtKind} {x : tree_of.PlainStmtKind} (scope : Scope) (here : Here) → IsStmtTree (names_in p) s x → Shown p scope here.names → StmtTyped p scope s → Right p (mems_in s) → Numbered here (mems_in s) (vals_in s) (counters_in s)
      → Shown p (after scope s) (typed.names_after here x)
  shown_after scope here (IsStmtTree.declared {m = m} t) shown h r n = declare_shown scope here m shown t (r m (at_first m [])) n.mems_run.0 h
  shown_after scope here (IsStmtTree.bound {v = v} {e = e} {i = i} text t) shown h r n = val_shown scope here shown v here.vals (type_of e) _ i.text text (itself scope here shown t h.1) n.vals_run.0 h.0
  shown_after scope here (IsStmtTree.reg_set a b) shown h r n = shown
  shown_after scope here (IsStmtTree.out_set a b) shown h r n = shown
  shown_after scope here (IsStmtTree.sram_set a b c) shown h r n = shown
  shown_after scope here (IsStmtTree.put a b) shown h r n = shown
  shown_after scope here (IsStmtTree.sram_loaded a b c) shown h r n = shown
  shown_after scope here (IsStmtTree.line_loaded a b c) shown h r n = shown
  shown_after scope here (IsStmtTree.stored a b c) shown h r n = shown
  shown_after scope here (IsStmtTree.gathered a b c d) shown h r n = shown
  shown_after scope here (IsStmtTree.scattered a b c d) shown h r n = shown
  shown_after scope here (IsStmtTree.blocked t) shown h r n = shown
  shown_after scope here (IsStmtTree.looped a t) shown h r n = shown
  shown_after scope here (IsStmtTree.reduced a b t c d) shown h r n = shown
  shown_after scope here (IsStmtTree.folded a b t c d) shown h r n = shown
  shown_after scope here (IsStmtTree.mem_reduced a b t c d) shown h r n = shown
  shown_after scope here (IsStmtTree.machine a b c d t e f) shown h r n = shown
  shown_after scope here (IsStmtTree.branched a t u) shown h r n = shown

  pub numbered_after : {s : program.PlainStmtKind} {x : tree_of.PlainStmtKind} (here : Here) (rest : program.PlainStmts) → IsStmtTree (names_in p) s x → Right p (mems_in s)
      → Numbered here (mems_in s ++ mems_declared rest) (vals_in s ++ vals_declared rest) (counters_in s ++ counters_declared rest)
      → Numbered (typed.after here x) (mems_declared rest) (vals_declared rest) (counters_declared rest)
  numbered_after {s} {x} here rest t r n =
      let l = stmt_lengths t r in
      let q = second_part (mems_in s) (mems_declared rest) (vals_in s) (vals_declared rest) (counters_in s) (counters_declared rest) _ _ _ l.0 l.1 l.2 n in
      record { mems_run = q.mems_run; vals_run = q.vals_run; counters_run = q.counters_run }

  pub shown_end : {body : program.PlainStmts} {ss : tree_of.PlainStmts} (scope : Scope) (here : Here) → IsBodyTree (names_in p) body ss → Shown p scope here.names → BodyTyped p scope body → Right p (mems_declared body)
      → Numbered here (mems_declared body) (vals_declared body) (counters_declared body) → Shown p (after_all scope body) (typed.after_all here ss).names
  shown_end scope here IsBodyTree.empty shown h r n = shown
  shown_end scope here (IsBodyTree.more {s = s} {x = x} {rest = rest} t ts) shown h r n =
      let mine = right_left (mems_in s) (mems_declared rest) r in
      let first = first_part (mems_in s) (mems_declared rest) (vals_in s) (vals_declared rest) (counters_in s) (counters_declared rest) n in
      shown_end (after scope s) (typed.after here x) ts (shown_after scope here t shown h.0 mine first) h.1 (right_right (mems_in s) (mems_declared rest) r) (numbered_after here rest t mine n)

  -- ---- memories at the end of a body

  pub kept : (scope : Scope) (body : program.PlainStmts) (m : ℕ) → Contains scope.mems m → Contains (after_all scope body).mems m
  kept scope program.no_stmt m at = at
  kept scope (program.more_stmt (program.stmt place (program.declare x)) rest) m at = kept (with_mem scope x) rest m (one_more x scope.mems m at)
  kept scope (program.more_stmt (program.stmt place kind) rest) m at = kept (after scope kind) rest m at

  pub own_end : (scope : Scope) (body : program.PlainStmts) (m : ℕ) → Contains (own_mems body) m → Contains (after_all scope body).mems m
  own_end scope program.no_stmt m at = absurd (omega (arith, at.1))
  own_end scope (program.more_stmt (program.stmt place (program.declare x)) rest) m at = by (first_or_rest x (own_mems rest) m at) (λ h. own_end (with_mem scope x) rest m h)
    where
      by : (x ≡ m) ⊎ Contains (own_mems rest) m → (Contains (own_mems rest) m → Contains (after_all (with_mem scope x) rest).mems m) → Contains (after_all (with_mem scope x) rest).mems m
      by (inl e) f = subst (λ y. Contains (after_all (with_mem scope x) rest).mems y) e (kept (with_mem scope x) rest x (at_first x scope.mems))
      by (inr h) f = f h
  own_end scope (program.more_stmt (program.stmt place kind) rest) m at = own_end (after scope kind) rest m at

  -- ---- statements

  declared_back : (here : Here) (m : ℕ) {x : tree_of.PlainStmtKind} → IsDeclareTree (mem_at p m) x → m ≡ here.mems → bare_stmt (stmt_typed here x) ≡ program.declare m
  declared_back here m (IsDeclareTree.a_reg k text ty st) e = ap (λ n. program.declare n) (sym e)
  declared_back here m (IsDeclareTree.an_sram k text ty) e = ap (λ n. program.declare n) (sym e)
  declared_back here m (IsDeclareTree.a_fifo k text ty dims) e = ap (λ n. program.declare n) (sym e)
  declared_back here m (IsDeclareTree.a_line k text ty dims) e = ap (λ n. program.declare n) (sym e)

  module _ (scope : Scope) (here : Here) (shown : Shown p scope here.names) where
    -- a write of a register, an output, an element or a queue
    type_at : {i : tree.PlainIdent} {k : Kind} {ty : Ty} {ds : List ℕ} {n : ℕ} → Means here i (memory k (Some ty) ds) n → word_type here i ≡ ty
    type_at m = ap (λ s. known (symbol_type s)) m.symbol_is

    write_back : (k : Kind) (m : ℕ) (e : PlainExpr) (i : tree.PlainIdent) (x : tree.PlainExpr) (out : Bool) → ((t : Option Ty) (ds : List ℕ) → is_output (Some (memory k t ds)) ≡ out)
        → i.text ≡ (mem_at p m).name → IsTree (names_in p) e x → IsMem p scope m k (type_of e) → Typed p scope e
        → bare_stmt (write (is_output (symbol_at here i)) (number_of here i) (expression.typed here (word_type here i) x)) ≡ bare_stmt (write out m e)
    write_back k m e i x out is text t mem h =
        let means = mem_means p scope here shown i m k (type_of e) text mem in
        ap₂ (λ s n. bare_stmt (write (is_output s) n (expression.typed here (word_type here i) x))) means.symbol_is means.number_is
        ∙ ap (λ b. bare_stmt (write b m (expression.typed here (word_type here i) x))) (is _ _)
        ∙ bare_write out _ (back_at p scope here shown (word_type here i) (type_at means) t h)
      where
        bare_write : (b : Bool) (a : PlainExpr) → bare a ≡ bare e → bare_stmt (write b m a) ≡ bare_stmt (write b m e)
        bare_write true a h = ap (λ u. program.set_out m u) h
        bare_write false a h = ap (λ u. program.set_reg m u) h

    number_is : (k : Kind) (m : ℕ) (ty : Ty) (i : tree.PlainIdent) → i.text ≡ (mem_at p m).name → IsMem p scope m k ty → number_of here i ≡ m
    number_is k m ty i text mem = (mem_means p scope here shown i m k ty text mem).number_is

    line_is : (k : Kind) (m : ℕ) (ty : Ty) (i : tree.PlainIdent) (line : Bool) → ((t : Option Ty) (ds : List ℕ) → is_line (Some (memory k t ds)) ≡ line) → i.text ≡ (mem_at p m).name → IsMem p scope m k ty → is_line (symbol_at here i) ≡ line
    line_is k m ty i line is text mem = ap is_line (mem_means p scope here shown i m k ty text mem).symbol_is ∙ is _ _

  -- the place inside of a loop
  pub in_loop_numbered : (here : Here) (binds : List tree.PlainIdent) (ms vs counters cs : List ℕ) → length binds ≡ length counters → Numbered here ms vs (counters ++ cs) → Numbered (typed.in_loop here binds) ms vs cs
  in_loop_numbered here binds ms vs counters cs count n =
      record { mems_run = n.mems_run; vals_run = n.vals_run; counters_run = subst (λ l. IsRun (here.counters + l) cs) (sym count) (run_right here.counters counters cs n.counters_run) }

  mutual
    pub body_back : {body : program.PlainStmts} {ss : tree_of.PlainStmts} → IsBodyTree (names_in p) body ss → (scope : Scope) (here : Here) → Shown p scope here.names → BodyTyped p scope body → Right p (mems_declared body)
        → Numbered here (mems_declared body) (vals_declared body) (counters_declared body) → bare_body (body_typed here ss) ≡ bare_body body
    body_back IsBodyTree.empty scope here shown h r n = refl
    body_back (IsBodyTree.more {s = s} {x = x} {rest = rest} t ts) scope here shown h r n =
        let mine = right_left (mems_in s) (mems_declared rest) r in
        let first = first_part (mems_in s) (mems_declared rest) (vals_in s) (vals_declared rest) (counters_in s) (counters_declared rest) n in
        let one = stmt_back t scope here shown h.0 mine first in
        let more = body_back ts (after scope s) (typed.after here x) (shown_after scope here t shown h.0 mine first) h.1 (right_right (mems_in s) (mems_declared rest) r) (numbered_after here rest t mine n) in
        λ i. program.more_stmt (program.stmt 0 (one i)) (more i)

    stmt_back : {s : program.PlainStmtKind} {x : tree_of.PlainStmtKind} → IsStmtTree (names_in p) s x → (scope : Scope) (here : Here) → Shown p scope here.names → StmtTyped p scope s → Right p (mems_in s)
        → Numbered here (mems_in s) (vals_in s) (counters_in s) → bare_stmt (stmt_typed here x) ≡ bare_stmt s
    stmt_back (IsStmtTree.declared {m = m} t) scope here shown h r n = declared_back here m t n.mems_run.0
    stmt_back (IsStmtTree.bound {e = e} {x = x} text t) scope here shown h r n = ap₂ (λ k u. program.name k u) (sym n.vals_run.0) (back_at p scope here shown (type_by_itself here x) (itself scope here shown t h.1) t h.1)
    stmt_back (IsStmtTree.reg_set {m = m} {e = e} {i = i} {x = x} text t) scope here shown h r n = write_back scope here shown Reg m e i x false (λ t ds. refl) text t h.0 h.1
    stmt_back (IsStmtTree.out_set {m = m} {e = e} {i = i} {x = x} text t) scope here shown h r n = write_back scope here shown ArgOut m e i x true (λ t ds. refl) text t h.0 h.1
    stmt_back (IsStmtTree.sram_set {m = m} {e = e} {i = i} {x = x} text all t) scope here shown h r n =
        let means = mem_means p scope here shown i m Sram (type_of e) text h.0 in
        let rows = all_back p scope here shown all h.2 in
        let word = back_at p scope here shown (word_type here i) (type_at scope here shown means) t h.3 in
        λ j. program.set_sram (means.number_is j) (rows j) (word j)
    stmt_back (IsStmtTree.put {m = m} {e = e} {i = i} {x = x} text t) scope here shown h r n =
        let means = mem_means p scope here shown i m Fifo (type_of e) text h.0 in
        ap₂ (λ k u. program.enq k u) means.number_is (back_at p scope here shown (word_type here i) (type_at scope here shown means) t h.1)
    stmt_back (IsStmtTree.sram_loaded {sram = sram} {dram = dram} {i = i} {j = j} {all = all} text outer t) scope here shown h r n =
        let spans = spans_back p scope here shown t h.1.spans_typed in
        let chip = number_is scope here shown Sram sram _ i text h.0 in
        let far = number_is scope here shown Dram dram _ j outer h.1.from_dram in
        ap (λ b. bare_stmt (load_typed b (number_of here i) (number_of here j) (spans_typed here all))) (line_is scope here shown Sram sram _ i false (λ t ds. refl) text h.0)
        ∙ λ k. program.load_sram (chip k) (far k) (spans k)
    stmt_back (IsStmtTree.line_loaded {line = line} {dram = dram} {i = i} {j = j} {all = all} text outer t) scope here shown h r n =
        let spans = spans_back p scope here shown t h.1.spans_typed in
        let chip = number_is scope here shown LineBuf line _ i text h.0 in
        let far = number_is scope here shown Dram dram _ j outer h.1.from_dram in
        ap (λ b. bare_stmt (load_typed b (number_of here i) (number_of here j) (spans_typed here all))) (line_is scope here shown LineBuf line _ i true (λ t ds. refl) text h.0)
        ∙ λ k. program.load_line (chip k) (far k) (spans k)
    stmt_back (IsStmtTree.stored {dram = dram} {sram = sram} {i = i} {j = j} outer text t) scope here shown h r n =
        let spans = spans_back p scope here shown t h.1.spans_typed in
        let chip = number_is scope here shown Sram sram _ j text h.0 in
        let far = number_is scope here shown Dram dram _ i outer h.1.from_dram in
        λ k. program.store (far k) (spans k) (chip k)
    stmt_back (IsStmtTree.gathered {sram = sram} {dram = dram} {places = places} {i = i} {j = j} {l = l} text outer index t) scope here shown h r n =
        let chip = number_is scope here shown Sram sram _ i text h.0 in
        let far = number_is scope here shown Dram dram _ j outer h.1.in_dram in
        let at = number_is scope here shown Sram places _ l index h.1.from_sram in
        let count = back_at p scope here shown int_type (sym h.1.how_many.0.1) t h.1.how_many.0.0 in
        λ k. program.gather (chip k) (far k) (at k) (count k)
    stmt_back (IsStmtTree.scattered {dram = dram} {places = places} {sram = sram} {i = i} {j = j} {l = l} outer index text t) scope here shown h r n =
        let chip = number_is scope here shown Sram sram _ j text h.0 in
        let far = number_is scope here shown Dram dram _ i outer h.1.in_dram in
        let at = number_is scope here shown Sram places _ l index h.1.from_sram in
        let count = back_at p scope here shown int_type (sym h.1.how_many.0.1) t h.1.how_many.0.0 in
        λ k. program.scatter (far k) (at k) (count k) (chip k)
    stmt_back (IsStmtTree.blocked {s = s} t) scope here shown h r n = ap (program.block s) (body_back t scope here shown h r n)
    stmt_back (IsStmtTree.looped {s = s} {counters = cs} {body = body} {h = head} head_is t) scope here shown h r n =
        let bounds = bounds_back p scope here shown here.counters head_is.counters_are h.1.bounds (run_left here.counters (counter_numbers cs) (counters_declared body) n.counters_run) in
        let inside = binders_shown p scope here.names here.counters head_is.binds_are h.1.binders (run_left here.counters (counter_numbers cs) (counters_declared body) n.counters_run) shown in
        let numbered = in_loop_numbered here head.binds (mems_declared body) (vals_declared body) (counter_numbers cs) (counters_declared body) (binds_count p head_is.binds_are) n in
        let inner = body_back t (with_counters scope cs) (typed.in_loop here head.binds) inside h.2 r numbered in
        let style = style_back head_is.style_is in
        λ k. program.foreach (style k) (bounds k) (inner k)
    stmt_back (IsStmtTree.reduced {s = s} {acc = acc} {counters = cs} {body = body} {word = word} {h = head} {ss = ss} {i = i} head_is text t w c) scope here shown h r n =
        let bounds = bounds_back p scope here shown here.counters head_is.counters_are h.1.bounds (run_left here.counters (counter_numbers cs) (counters_declared body) n.counters_run) in
        let inside = binders_shown p scope here.names here.counters head_is.binds_are h.1.binders (run_left here.counters (counter_numbers cs) (counters_declared body) n.counters_run) shown in
        let numbered = in_loop_numbered here head.binds (mems_declared body) (vals_declared body) (counter_numbers cs) (counters_declared body) (binds_count p head_is.binds_are) n in
        let inner = body_back t (with_counters scope cs) (typed.in_loop here head.binds) inside h.2 r numbered in
        let means = mem_means p scope here shown i acc Reg (type_of word) text h.3 in
        let value_is = back_at p (after_all (with_counters scope cs) body) (typed.after_all (typed.in_loop here head.binds) ss) (shown_end (with_counters scope cs) (typed.in_loop here head.binds) t inside h.2 r numbered) (word_type here i) (type_at scope here shown means) w h.5 in
        let style = style_back head_is.style_is in
        let comb = comb_back c in
        λ k. program.reduce (style k) false (means.number_is k) (bounds k) (inner k) (value_is k) (comb k)
    stmt_back (IsStmtTree.folded {s = s} {acc = acc} {counters = cs} {body = body} {word = word} {h = head} {ss = ss} {i = i} head_is text t w c) scope here shown h r n =
        let bounds = bounds_back p scope here shown here.counters head_is.counters_are h.1.bounds (run_left here.counters (counter_numbers cs) (counters_declared body) n.counters_run) in
        let inside = binders_shown p scope here.names here.counters head_is.binds_are h.1.binders (run_left here.counters (counter_numbers cs) (counters_declared body) n.counters_run) shown in
        let numbered = in_loop_numbered here head.binds (mems_declared body) (vals_declared body) (counter_numbers cs) (counters_declared body) (binds_count p head_is.binds_are) n in
        let inner = body_back t (with_counters scope cs) (typed.in_loop here head.binds) inside h.2 r numbered in
        let means = mem_means p scope here shown i acc Reg (type_of word) text h.3 in
        let value_is = back_at p (after_all (with_counters scope cs) body) (typed.after_all (typed.in_loop here head.binds) ss) (shown_end (with_counters scope cs) (typed.in_loop here head.binds) t inside h.2 r numbered) (word_type here i) (type_at scope here shown means) w h.5 in
        let style = style_back head_is.style_is in
        let comb = comb_back c in
        λ k. program.reduce (style k) true (means.number_is k) (bounds k) (inner k) (value_is k) (comb k)
    stmt_back (IsStmtTree.mem_reduced {s = s} {acc = acc} {part = part} {at = place} {counters = cs} {body = body} {h = head} {ss = ss} {i = i} {j = j} head_is text t inner_text c) scope here shown h r n =
        let bounds = bounds_back p scope here shown here.counters head_is.counters_are h.1.bounds (run_left here.counters (counter_numbers cs) (counters_declared body) n.counters_run) in
        let inside = binders_shown p scope here.names here.counters head_is.binds_are h.1.binders (run_left here.counters (counter_numbers cs) (counters_declared body) n.counters_run) shown in
        let numbered = in_loop_numbered here head.binds (mems_declared body) (vals_declared body) (counter_numbers cs) (counters_declared body) (binds_count p head_is.binds_are) n in
        let inner = body_back t (with_counters scope cs) (typed.in_loop here head.binds) inside h.2 r numbered in
        let chip = number_is scope here shown Sram acc _ i text h.3 in
        let end = shown_end (with_counters scope cs) (typed.in_loop here head.binds) t inside h.2 r numbered in
        let part_is = (mem_means p (after_all (with_counters scope cs) body) (typed.after_all (typed.in_loop here head.binds) ss) end j part Sram (mem_at p part).ty inner_text (record { seen = own_end (with_counters scope cs) body part h.6; is_kind = h.7; is_type = refl })).number_is in
        let style = style_back head_is.style_is in
        let comb = comb_back c in
        λ k. program.mem_reduce (style k) (chip k) (bounds k) (inner k) (part_is k) (comb k)
    stmt_back (IsStmtTree.machine {start = start} {test = test} {next = next} {tested = tested} {state = state} {last = last} {body = body} {x = x} {i = i} {j = j} {l = l} {ss = ss} begin first until second t third following) scope here shown h r n =
        let ty = type_by_itself here x in
        let same = itself scope here shown begin h.0.0.0 in
        let first_number = n.vals_run.0 in
        let second_number : state ≡ here.vals + 1 = omega (arith, n.vals_run.1.0) in
        let vals = vals_declared body in
        let count = ap (λ l. length l) (vals_back p t) ∙ mapped_length _ vals in
        let last_run = run_right (suc (suc here.vals)) vals (last ∷ []) n.vals_run.1.1 in
        let last_number : last ≡ here.vals + (2 + length (typed.vals_declared ss)) = omega (arith, last_run.0, count) in
        let start_back = back_at p scope here shown ty same begin h.0.0.0 in
        let one = val_shown scope here shown tested here.vals (type_of start) ty i.text first same first_number h.1 in
        let test_back = back_at p (with_val scope tested (type_of start)) (with_state here i ty here.vals) one Bit (sym h.2.0.1) until h.2.0.0 in
        let two = val_shown scope here shown state (here.vals + 1) (type_of start) ty j.text second same second_number h.3 in
        let mems_same : here.mems ≡ here.mems + 0 = omega arith in
        let vals_same : suc (suc here.vals) ≡ here.vals + 2 = omega arith in
        let counters_same : here.counters ≡ here.counters + 0 = omega arith in
        let numbered : Numbered (in_fsm here j ty) (mems_declared body) vals (counters_declared body) = record {
          mems_run = subst (λ k. IsRun k (mems_declared body)) mems_same n.mems_run;
          vals_run = subst (λ k. IsRun k vals) vals_same (run_left (suc (suc here.vals)) vals (last ∷ []) n.vals_run.1.1);
          counters_run = subst (λ k. IsRun k (counters_declared body)) counters_same n.counters_run;
        } in
        let inner = body_back t (with_val scope state (type_of start)) (in_fsm here j ty) two h.4 r numbered in
        let three = val_shown scope (typed.past_turn here ss) shown last (here.vals + (2 + length (typed.vals_declared ss))) (type_of start) ty l.text third same last_number h.5 in
        let next_back = back_at p (with_val scope last (type_of start)) (with_state (typed.past_turn here ss) l ty (here.vals + (2 + length (typed.vals_declared ss)))) three ty (same ∙ sym h.6.0.1) following h.6.0.0 in
        let a = sym first_number in
        let b = sym second_number in
        let c = sym last_number in
        λ k. program.fsm (start_back k) (a k) (test_back k) (b k) (inner k) (c k) (next_back k)
    stmt_back (IsStmtTree.branched {first = first} {second = second} {ss = ss} c t u) scope here shown h r n =
        let condition = back_at p scope here shown Bit (sym h.0.0.1) c h.0.0.0 in
        let mine = right_left (mems_declared first) (mems_declared second) r in
        let lengths = body_lengths t mine in
        let one = body_back t scope here shown h.1 mine (first_part (mems_declared first) (mems_declared second) (vals_declared first) (vals_declared second) (counters_declared first) (counters_declared second) n) in
        let two = body_back u scope (typed.past_body here ss) shown h.2 (right_right (mems_declared first) (mems_declared second) r)
        (second_part (mems_declared first) (mems_declared second) (vals_declared first) (vals_declared second) (counters_declared first) (counters_declared second) _ _ _ lengths.0 lengths.1 lengths.2 n) in
        λ k. program.branch (condition k) (one k) (two k)
