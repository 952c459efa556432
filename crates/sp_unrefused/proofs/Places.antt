-- Places further on in a program's tree.
use Rattle.std.proofs.Common.{◌≡◌, ℕ, suc, ◌+◌, Bool, true, false, if◌then◌else◌, List, [], ◌∷◌, ◌++◌, slice_index_or, Contains, Some, None, is_some, refl, sym, ap, ap₂, subst, ◌∙◌, inl, inr, arith}
use Rattle.std.specs.Prelude.{◌⊎◌}
use Rattle.std.proofs.lemmas.List.{map-append}
use Rattle.std.proofs.lemmas.List.Elements.{Contains-append_cases}
use Rattle.sp_reader.specs.PlainTree as tree
use Rattle.sp_reader.specs.PlainStatement as tree_of
use Rattle.sp_tree.specs.PlainProgram.{PlainProgram}
use Rattle.sp_tree.specs.PlainStatement as program
use Rattle.sp_tree.specs.Structure.{mems_in, vals_in, counters_in, counter_numbers}
use Rattle.sp_tree.specs.Typing.{Scope, mem_at, IsFresh, BindersFresh, StmtTyped, after, with_mem, with_val, with_counter, with_counters}
use Rattle.sp_printer.specs.Names.{names_in}
use Rattle.sp_printed.specs.LoopTrees.{AreBindTrees}
use Rattle.sp_printed.specs.StatementTrees.{IsDeclareTree, IsStmtTree}
use Rattle.sp_types.specs.Spans.{twice, binds_refusals, with_binds}
use Rattle.sp_types.specs.Statements as rule
use Rattle.sp_types.specs.Visible.{PlainSymbol, value, counter, Visible, symbol_of, declare, with_acc}
use Rattle.sp_typed.specs.Declarations as typed
use Rattle.sp_typed.specs.Expressions.{symbol_if}
use Rattle.sp_typed.specs.Named.{Here, find, given}
use Rattle.sp_retyped.specs.Shown.{Shown}
use Rattle.sp_retyped.proofs.Bodies.{Numbered, shown_after, itself}
use Rattle.sp_retyped.proofs.Declared.{Right}
use Rattle.sp_retyped.proofs.Names.{symbols, looked_up, none_if, two_none}
use Rattle.sp_retyped.proofs.Numbered.{IsRun}
use Rattle.sp_retyped.proofs.Owns.{own_is, by_itself}
use Rattle.sp_retyped.proofs.Scopes.{given_fresh, shown_counter, one_more, first_or_rest}
use Rattle.sp_unrefused.specs.Placed.{Placed, IsRun as IsRunHere}

pub as_run : (n : ℕ) (xs : List ℕ) → IsRunHere n xs → IsRun n xs
as_run n [] h = tt
as_run n (x ∷ xs) h = (h.0, as_run (suc n) xs h.1)

-- a name more, in the tree's view and in the rules'
declared_names : (seen : Visible) (w : List ℕ) (s : PlainSymbol) → symbol_of seen w ≡ None → (declare seen w s).names ≡ seen.names ++ (w, s) ∷ []
unfolding declare
declared_names seen w s e = ap (λ o. (if is_some o then seen else record seen { names = seen.names ++ (w, s) ∷ [] }).names) e

declared_busy : (seen : Visible) (w : List ℕ) (s : PlainSymbol) → (declare seen w s).busy ≡ seen.busy
unfolding declare
declared_busy seen w s = go (is_some (symbol_of seen w))
  where
    go : (b : Bool) → (if b then seen else record seen { names = seen.names ++ (w, s) ∷ [] }).busy ≡ seen.busy
    go true = refl
    go false = refl

module _ (p : PlainProgram) where
  pub symbol_none : (scope : Scope) (here : Here) (seen : Visible) (accs : List ℕ) → Placed p scope here seen accs → (w v : List ℕ) → v ≡ w → IsFresh p scope w → symbol_of seen v ≡ None
  symbol_none scope here seen accs h w v text fresh =
      ap (symbol_of seen) text ∙ ap (λ l. Rattle.sp_types.specs.Visible.lookup l w) h.same ∙ looked_up here.names w ∙ ap symbol_if (h.shown.fresh w fresh)

  pub twice_none : (scope : Scope) (here : Here) (seen : Visible) (accs : List ℕ) → Placed p scope here seen accs → (i : tree.PlainIdent) (w : List ℕ) → i.text ≡ w → IsFresh p scope w → twice seen i ≡ []
  twice_none scope here seen accs h i w text fresh = none_if (is_some (symbol_of seen i.text)) _ (ap is_some (symbol_none scope here seen accs h w i.text text fresh))

  -- the views go along
  along : (scope : Scope) (here : Here) (seen : Visible) (accs : List ℕ) → Placed p scope here seen accs → (w v : List ℕ) → v ≡ w → IsFresh p scope w → (s t : PlainSymbol) (n : ℕ) → s ≡ t
      → (declare seen v s).names ≡ symbols (given here.names v t n)
  along scope here seen accs h w v text fresh s t n same =
      let none = symbol_none scope here seen accs h w v text fresh in
      let found : find here.names v ≡ None = ap (find here.names) text ∙ h.shown.fresh w fresh in
      declared_names seen v s none ∙ ap₂ (λ l x. l ++ (v, x) ∷ []) h.same same ∙ sym (map-append (λ entry. (entry.0, entry.1.symbol)) here.names ((v, record { symbol = t; number = n }) ∷ []))
      ∙ sym (ap symbols (given_fresh here.names v t n found))

  -- a place after one more name
  pub placed_next : (scope next : Scope) (here there : Here) (seen : Visible) (accs : List ℕ) → Placed p scope here seen accs → (w v : List ℕ) → v ≡ w → IsFresh p scope w → (s t : PlainSymbol) (n : ℕ) → s ≡ t
      → there.names ≡ given here.names v t n → Shown p next there.names → ((a : ℕ) → Contains scope.mems a → Contains next.mems a) → Placed p next there (declare seen v s) accs
  placed_next scope next here there seen accs h w v text fresh s t n same names shown more = record {
    shown = shown;
    same = along scope here seen accs h w v text fresh s t n same ∙ sym (ap symbols names);
    busy_is = declared_busy seen v s ∙ h.busy_is;
    acc_seen = λ a at. more a (h.acc_seen a at);
  }

  -- the same place with other counts
  pub placed_like : (scope next : Scope) (here there : Here) (seen : Visible) (accs : List ℕ) → Placed p scope here seen accs → there.names ≡ here.names → Shown p next there.names → ((a : ℕ) → Contains scope.mems a → Contains next.mems a) → Placed p next there seen accs
  placed_like scope next here there seen accs h names shown more = record { shown = shown; same = h.same ∙ sym (ap symbols names); busy_is = h.busy_is; acc_seen = λ a at. more a (h.acc_seen a at) }

  declare_placed : (scope : Scope) (here there : Here) (seen : Visible) (accs : List ℕ) (m : ℕ) {x : tree_of.PlainStmtKind} → Placed p scope here seen accs → IsDeclareTree (mem_at p m) x → IsFresh p scope (mem_at p m).name → there.names ≡ typed.names_after here x
      → Shown p (with_mem scope m) there.names → Placed p (with_mem scope m) there (rule.after seen x) accs
  declare_placed scope here there seen accs m h (IsDeclareTree.a_reg {i = i} k text ty st) fresh names shown = placed_next scope (with_mem scope m) here there seen accs h (mem_at p m).name i.text text fresh _ _ here.mems refl names shown (λ a at. one_more m scope.mems a at)
  declare_placed scope here there seen accs m h (IsDeclareTree.an_sram {i = i} k text ty) fresh names shown = placed_next scope (with_mem scope m) here there seen accs h (mem_at p m).name i.text text fresh _ _ here.mems refl names shown (λ a at. one_more m scope.mems a at)
  declare_placed scope here there seen accs m h (IsDeclareTree.a_fifo {i = i} k text ty dims) fresh names shown = placed_next scope (with_mem scope m) here there seen accs h (mem_at p m).name i.text text fresh _ _ here.mems refl names shown (λ a at. one_more m scope.mems a at)
  declare_placed scope here there seen accs m h (IsDeclareTree.a_line {i = i} k text ty dims) fresh names shown = placed_next scope (with_mem scope m) here there seen accs h (mem_at p m).name i.text text fresh _ _ here.mems refl names shown (λ a at. one_more m scope.mems a at)

  pub placed_after : {s : program.PlainStmtKind} {x : tree_of.PlainStmtKind} (scope : Scope) (here : Here) (seen : Visible) (accs : List ℕ) → IsStmtTree (names_in p) s x → Placed p scope here seen accs → StmtTyped p scope s → Right p (mems_in s)
      → Numbered here (mems_in s) (vals_in s) (counters_in s) → Placed p (after scope s) (typed.after here x) (rule.after seen x) accs
  placed_after scope here seen accs (IsStmtTree.declared {m = m} {x = x} t) h typed_is r n =
      declare_placed scope here (typed.after here x) seen accs m h t typed_is refl (shown_after p scope here (IsStmtTree.declared t) h.shown typed_is r n)
  placed_after scope here seen accs (IsStmtTree.bound {v = v} {e = e} {i = i} {x = x} text t) h typed_is r n =
      let own_type = by_itself (own_is p scope here h.shown seen h.same t typed_is.1) ∙ ap (λ k. Some k) (sym (itself p scope here h.shown t typed_is.1)) in
      placed_next scope (with_val scope v _) here (typed.after here (tree_of.bind i x)) seen accs h (slice_index_or p.vals v []) i.text text typed_is.0 _ _ here.vals (ap (λ o. value o) own_type) refl
      (shown_after p scope here (IsStmtTree.bound {e = e} {i = i} text t) h.shown typed_is r n) (λ a at. at)
  placed_after scope here seen accs (IsStmtTree.reg_set a b) h t r n = placed_like scope scope here _ seen accs h refl h.shown (λ a at. at)
  placed_after scope here seen accs (IsStmtTree.out_set a b) h t r n = placed_like scope scope here _ seen accs h refl h.shown (λ a at. at)
  placed_after scope here seen accs (IsStmtTree.sram_set a b c) h t r n = placed_like scope scope here _ seen accs h refl h.shown (λ a at. at)
  placed_after scope here seen accs (IsStmtTree.put a b) h t r n = placed_like scope scope here _ seen accs h refl h.shown (λ a at. at)
  placed_after scope here seen accs (IsStmtTree.sram_loaded a b c) h t r n = placed_like scope scope here _ seen accs h refl h.shown (λ a at. at)
  placed_after scope here seen accs (IsStmtTree.line_loaded a b c) h t r n = placed_like scope scope here _ seen accs h refl h.shown (λ a at. at)
  placed_after scope here seen accs (IsStmtTree.stored a b c) h t r n = placed_like scope scope here _ seen accs h refl h.shown (λ a at. at)
  placed_after scope here seen accs (IsStmtTree.gathered a b c d) h t r n = placed_like scope scope here _ seen accs h refl h.shown (λ a at. at)
  placed_after scope here seen accs (IsStmtTree.scattered a b c d) h t r n = placed_like scope scope here _ seen accs h refl h.shown (λ a at. at)
  placed_after scope here seen accs (IsStmtTree.blocked b) h t r n = placed_like scope scope here _ seen accs h refl h.shown (λ a at. at)
  placed_after scope here seen accs (IsStmtTree.looped a b) h t r n = placed_like scope scope here _ seen accs h refl h.shown (λ a at. at)
  placed_after scope here seen accs (IsStmtTree.reduced a b c d e) h t r n = placed_like scope scope here _ seen accs h refl h.shown (λ a at. at)
  placed_after scope here seen accs (IsStmtTree.folded a b c d e) h t r n = placed_like scope scope here _ seen accs h refl h.shown (λ a at. at)
  placed_after scope here seen accs (IsStmtTree.mem_reduced a b c d e) h t r n = placed_like scope scope here _ seen accs h refl h.shown (λ a at. at)
  placed_after scope here seen accs (IsStmtTree.machine a b c d e f g) h t r n = placed_like scope scope here _ seen accs h refl h.shown (λ a at. at)
  placed_after scope here seen accs (IsStmtTree.branched a b c) h t r n = placed_like scope scope here _ seen accs h refl h.shown (λ a at. at)

  -- inside of the body of one more accumulator
  pub placed_inside : (scope : Scope) (here : Here) (seen : Visible) (accs : List ℕ) (acc : ℕ) (w : List ℕ) → w ≡ (mem_at p acc).name → Contains scope.mems acc → Placed p scope here seen accs → Placed p scope here (with_acc seen w) (accs ++ acc ∷ [])
  placed_inside scope here seen accs acc w text at h = record {
    shown = h.shown;
    same = h.same;
    busy_is = ap₂ (λ l x. l ++ x ∷ []) h.busy_is text ∙ sym (map-append (λ a. (mem_at p a).name) accs (acc ∷ []));
    acc_seen = λ a there. by a (Contains-append_cases accs (acc ∷ []) a there);
  }
    where
      one : (a : ℕ) → (acc ≡ a) ⊎ Contains [] a → Contains scope.mems a
      one a (inl e) = subst (Contains scope.mems) e at
      one a (inr (k, lt, e)) = absurd (omega (arith, lt))

      by : (a : ℕ) → Contains accs a ⊎ Contains (acc ∷ []) a → Contains scope.mems a
      by a (inl k) = h.acc_seen a k
      by a (inr k) = one a (first_or_rest acc [] a k)

  -- behind the binders of a loop
  pub placed_binders : {counters : List program.PlainCounter} {binds : List tree.PlainIdent} (scope : Scope) (here : Here) (seen : Visible) (accs : List ℕ) (n : ℕ) → AreBindTrees (names_in p) counters binds → BindersFresh p scope counters → IsRun n (counter_numbers counters)
      → Placed p scope here seen accs → Placed p (with_counters scope counters) (record here { names = typed.with_counters here.names n binds }) (with_binds seen binds) accs × (binds_refusals seen binds ≡ [])
  placed_binders scope here seen accs n AreBindTrees.no_binds fresh r h = (h, refl)
  placed_binders scope here seen accs n (AreBindTrees.more_binds {c = c} {i = i} {rest = rest} {all = all} text ts) fresh r h =
      let follows : n + 1 ≡ suc n = omega arith in
      let named = given here.names i.text counter n in
      let one = subst (λ w. Shown p (with_counter scope c.number) (given here.names w counter n)) (sym text) (subst (λ k. Shown p (with_counter scope c.number) (given here.names (slice_index_or p.counters c.number []) counter k)) r.0 (shown_counter p scope here.names c.number h.shown fresh.0)) in
      let placed = placed_next scope (with_counter scope c.number) here (record here { names = named }) seen accs h (slice_index_or p.counters c.number []) i.text text fresh.0 counter counter n refl refl one (λ a at. at) in
      let more = placed_binders (with_counter scope c.number) (record here { names = named }) (declare seen i.text counter) accs (n + 1) ts fresh.1 (subst (λ k. IsRun k (counter_numbers rest)) (sym follows) r.1) placed in
      (more.0, two_none _ _ (twice_none scope here seen accs h i (slice_index_or p.counters c.number []) text fresh.0) more.1)
