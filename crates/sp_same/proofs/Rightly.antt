-- Memories go on holding contents of their kinds.
use Rattle.std.proofs.Common.{◌≡◌, ℕ, zero, suc, ◌≤◌, Bool, true, false, ◌==◌, nat_lt, List, [], ◌∷◌, ◌++◌, Option, Some, None, refl, sym, ◌∙◌, ap, subst, arith, length-append}
use Rattle.std.proofs.lemmas.Bool.{eqb-true, eqb-false, ltb-true, ltb-false}
use Rattle.std.proofs.lemmas.List.{length-replicate, length-drop}
use Rattle.std.specs.Prelude.{length, drop, replicate, slice_index, slice_index_or, slice_set, Contains, All}
use Rattle.sp_words.specs.declared.kind.Kind.{Kind}
use Rattle.sp_words.specs.declared.kind.Kind.TheVariants.{Reg, Sram, Fifo, LineBuf, Dram, ArgIn, ArgOut}
use Rattle.sp_words.specs.declared.types.Ty.{Ty}
use Rattle.sp_words.specs.Interface.{word_count, IsCount}
use Rattle.sp_words.specs.Memory.{Contents, cells, queue, rows, words, fresh_of, fresh_rows}
use Rattle.sp_tree.specs.declared.statement.Comb.{Comb}
use Rattle.sp_tree.specs.declared.statement.FaultKind.{FaultKind}
use Rattle.sp_tree.specs.Accesses.{hold_now, written, read_cell, write_cell, take_oldest, enqueue, read_word, write_word}
use Rattle.sp_tree.specs.Declarations.{IsDeclaration, HasRank}
use Rattle.sp_tree.specs.Elements.{index_value, natural, row_major, numbers_below, tuples}
use Rattle.sp_tree.specs.Expressions.{mem, dims, element, word, word_of, words as all_words}
use Rattle.sp_tree.specs.PlainExpression.{PlainExpr, PlainExprKind, PlainExprs, expr, literal, counter, value, get_reg, get_arg, get_sram, get_line, deq, one, two, shift, mux, cast, no_expr, more_expr, type_of}
use Rattle.sp_tree.specs.PlainProgram.{PlainMem, PlainProgram, no_mem}
use Rattle.sp_tree.specs.PlainStatement.{PlainSpan, single, range, PlainCounter, PlainStmtKind, PlainStmts, stmt, declare, name, set_reg, set_out, set_sram, enq, load_sram, load_line, store, gather, scatter, block, foreach, reduce, mem_reduce, fsm, branch, no_stmt, more_stmt}
use Rattle.sp_tree.specs.Sequential.{combining, count_now, name_now, counter_range, part, assign, assign_all, run, run_kind, run_all}
use Rattle.sp_tree.specs.Shape.{Shape, ran, shapes}
use Rattle.sp_tree.specs.Step.{Step, went, pure, ◌>>=◌, ◌>>◌, turn, out_of_turns, fault, ensure, read, change, in_order, repeated, as_long_as}
use Rattle.sp_tree.specs.Store.{Store, hold, rows_of}
use Rattle.sp_tree.specs.Streams.{fifos_with_room}
use Rattle.sp_tree.specs.Transfers.{Part, lengths, has_none, row_of, places_of, all_offsets, load_row, transfer, place_held}
use Rattle.sp_tree.specs.Typing.{Scope, with_val, with_counters, Typed, KindTyped, IndicesTyped, SpansTyped, BoundsTyped, StmtTyped, BodyTyped, after as scope_after, after_all}
use Rattle.sp_sugar.proofs.Entering.{same_mems}
use Rattle.sp_sugar.proofs.MemoryLemmas.{changed_here, changed_elsewhere}
use Rattle.sp_sugar.proofs.NumberLemmas.{either}
use Rattle.sp_sugar.proofs.StepLemmas.{not_faulted, not_more, taken_apart, same_answer, same_store, turn_taken}
use Rattle.sp_same.specs.Contents.{IsContents, HoldRightly}
use Rattle.sp_same.proofs.InnerBodies.{after_mems}

module _ (p : PlainProgram) (S : List ℕ) where
  -- a step keeps this
  abbrev pub Keeps : {A : Type 0} → Step A → Type 0
  Keeps {A = A} step = (left rest : ℕ) (s after : Store) (a : A) → HoldRightly p S s → step left s ≡ went a rest after → HoldRightly p S after

  keep_pure : {A : Type 0} (a : A) → Keeps (pure a)
  unfolding pure
  keep_pure a left rest s after b h e = subst (HoldRightly p S) (same_store a b left rest s after e) h

  keep_bind : {A B : Type 0} (step : Step A) (rest : A → Step B) → Keeps step → ((a : A) → Keeps (rest a)) → Keeps (step >>= rest)
  keep_bind step rest f g left last s after b h e =
      let x = taken_apart step rest left s b last after e in
      g x.answer x.between last x.store after b (f left x.between s x.store x.answer h x.first) x.second

  keep_read : {A : Type 0} (look : Store → A) → Keeps (read look)
  unfolding read
  keep_read look left rest s after b h e = subst (HoldRightly p S) (same_store (look s) b left rest s after e) h

  pub keep_turn : Keeps turn
  keep_turn left rest s after b h e = subst (HoldRightly p S) (sym (turn_taken b left rest s after e)) h

  keep_fault : {A : Type 0} (kind : FaultKind) (place : ℕ) → Keeps {A = A} (fault kind place)
  unfolding fault
  keep_fault kind place left rest s after b h e = not_faulted kind place b rest after e

  keep_no_turn : {A : Type 0} → Keeps {A = A} out_of_turns
  unfolding out_of_turns
  keep_no_turn left rest s after b h e = not_more b rest after e

  keep_ensure : (b : Bool) (kind : FaultKind) (place : ℕ) → Keeps (ensure b kind place)
  keep_ensure true kind place = keep_pure tt
  keep_ensure false kind place = keep_fault kind place

  pub keep_name : (v w : ℕ) → Keeps (name_now v w)
  unfolding change
  keep_name v w left rest s after b h e = subst (HoldRightly p S) (same_store tt b left rest _ after e) h

  pub keep_counts : (loops : List PlainCounter) (ws : List ℕ) → Keeps (count_now loops ws)
  unfolding change
  keep_counts [] ws = keep_pure tt
  keep_counts (c ∷ loops) [] = keep_pure tt
  keep_counts (c ∷ loops) (w ∷ ws) = keep_bind _ _ (λ left rest s after b h e. subst (HoldRightly p S) (same_store tt b left rest _ after e) h) (λ _. keep_counts loops ws)

  pub right_held : (s : Store) (m : ℕ) (c : Contents) → IsContents (mem p.mems m).kind (mem p.mems m).dims (Some c) → HoldRightly p S s → HoldRightly p S (hold s m c)
  right_held s m c is h k seen = either (k == m)
      (λ e. let f : k ≡ m = eqb-true k m e in
      subst (IsContents (mem p.mems k).kind (mem p.mems k).dims) (sym (changed_here s.held m k (Some c) f)) (subst (λ j. IsContents (mem p.mems j).kind (mem p.mems j).dims (Some c)) (sym f) is))
      (λ e. subst (IsContents (mem p.mems k).kind (mem p.mems k).dims) (sym (changed_elsewhere s.held m k (Some c) (eqb-false k m e))) (h k seen))

  keep_hold : (m : ℕ) (c : Contents) → IsContents (mem p.mems m).kind (mem p.mems m).dims (Some c) → Keeps (hold_now m c)
  unfolding change
  keep_hold m c is left rest s after b h e = subst (HoldRightly p S) (same_store tt b left rest _ after e) (right_held s m c is h)

  keep_in_order : {A B : Type 0} (step : A → Step B) → ((a : A) → Keeps (step a)) → (xs : List A) → Keeps (in_order step xs)
  unfolding in_order
  keep_in_order step f [] = keep_pure []
  keep_in_order step f (x ∷ xs) = keep_bind _ _ (f x) (λ first. keep_bind _ _ (keep_in_order step f xs) (λ others. keep_pure (first ∷ others)))

  keep_chosen : {A : Type 0} (x y : Step A) → Keeps x → Keeps y → (b : Bool) → Keeps (elim b as (λ _. Step A) [ true ↦ x | false ↦ y ])
  keep_chosen x y f g true = f
  keep_chosen x y f g false = g

  keep_repeated : {A B : Type 0} (test : A → Step Bool) (step : A → Step (A × B)) → ((a : A) → Keeps (test a)) → ((a : A) → Keeps (step a)) → (most : ℕ) (a : A) → Keeps (repeated most test step a)
  unfolding repeated
  keep_repeated test step f g zero a = keep_bind _ _ (f a) (λ holds. keep_chosen _ _ keep_no_turn (keep_pure []) holds)
  keep_repeated test step f g (suc most) a = keep_bind _ _ (f a) (λ holds. keep_chosen _ _
      (keep_bind _ _ (g a) (λ r. keep_bind _ _ (keep_repeated test step f g most r.0) (λ others. keep_pure (r.1 ∷ others)))) (keep_pure []) holds)

  keep_as_long_as : {A B : Type 0} (test : A → Step Bool) (step : A → Step (A × B)) → ((a : A) → Keeps (test a)) → ((a : A) → Keeps (step a)) → (a : A) → Keeps (as_long_as test step a)
  unfolding as_long_as
  keep_as_long_as test step f g a left rest s after b h e = keep_repeated test step f g left a left rest s after b h e

  -- accesses
  keep_written : (place : ℕ) (o : Option ℕ) → Keeps (written place o)
  keep_written place None = keep_fault _ place
  keep_written place (Some w) = keep_pure w

  keep_read_cell : (m at place : ℕ) → Keeps (read_cell m at place)
  keep_read_cell m at place = keep_bind _ _ (keep_read _) (λ cs. keep_written place _)

  abbrev Holds_cells : Kind → Type 0
  Holds_cells k = (ds : List ℕ) (cs : List (Option ℕ)) → IsContents k ds (Some (cells cs))

  keep_write_cell : (m at w : ℕ) (k : Kind) → Holds_cells k → (mem p.mems m).kind ≡ k → Keeps (write_cell m at w)
  keep_write_cell m at w k f is = keep_bind _ _ (keep_read _) (λ cs. keep_hold m (cells (slice_set cs at (Some w))) (subst (λ x. IsContents x (mem p.mems m).dims (Some (cells (slice_set cs at (Some w))))) (sym is) (f (mem p.mems m).dims (slice_set cs at (Some w)))))

  keep_write_word : (m at w : ℕ) (k : Kind) → ((ds ws : List ℕ) → IsContents k ds (Some (words ws))) → (mem p.mems m).kind ≡ k → Keeps (write_word m at w)
  keep_write_word m at w k f is = keep_bind _ _ (keep_read _) (λ ws. keep_hold m (words (slice_set ws at w)) (subst (λ x. IsContents x (mem p.mems m).dims (Some (words (slice_set ws at w)))) (sym is) (f (mem p.mems m).dims (slice_set ws at w))))

  fifo_holds : (m : ℕ) (ws : List ℕ) → (mem p.mems m).kind ≡ Fifo → IsContents (mem p.mems m).kind (mem p.mems m).dims (Some (queue ws))
  fifo_holds m ws is = subst (λ x. IsContents x (mem p.mems m).dims (Some (queue ws))) (sym is) tt

  keep_oldest : (m place : ℕ) (ws : List ℕ) → (mem p.mems m).kind ≡ Fifo → Keeps (take_oldest m place ws)
  keep_oldest m place [] is = keep_fault _ place
  keep_oldest m place (w ∷ ws) is = keep_bind _ _ (keep_hold m (queue ws) (fifo_holds m ws is)) (λ _. keep_pure w)

  keep_enqueue : (m depth w place : ℕ) → (mem p.mems m).kind ≡ Fifo → Keeps (enqueue m depth w place)
  keep_enqueue m depth w place is = keep_bind _ _ (keep_read _) (λ ws. keep_bind _ _ (keep_ensure (nat_lt (length ws) depth) _ place) (λ _. keep_hold m (queue (ws ++ w ∷ [])) (fifo_holds m (ws ++ w ∷ []) is)))

  keep_element : (m place : ℕ) (indices : List ℕ) → Keeps (element p.mems m place indices)
  keep_element m place indices = keep_bind _ _ (keep_ensure _ _ place) (λ _. keep_pure _)

  mutual
    unfolding word word_of all_words

    pub keep_word : (scope : Scope) (e : PlainExpr) → Typed p scope e → Keeps (word p.mems e)
    keep_word scope (expr place ty k) typed = keep_kind scope k place ty typed

    keep_kind : (scope : Scope) (k : PlainExprKind) (place : ℕ) (ty : Ty) → KindTyped p scope k ty → Keeps (word_of p.mems k place ty)
    keep_kind scope (literal w) place ty t = keep_pure w
    keep_kind scope (counter c) place ty t = keep_read _
    keep_kind scope (value v) place ty t = keep_read _
    keep_kind scope (get_reg m) place ty t = keep_read_cell m 0 place
    keep_kind scope (get_arg m) place ty t = keep_read _
    keep_kind scope (get_sram m xs) place ty t = keep_bind _ _ (keep_words scope xs t.2) (λ is. keep_bind _ _ (keep_element m place is) (λ at. keep_read_cell m at place))
    keep_kind scope (get_line m r c) place ty t =
        keep_bind _ _ (keep_word scope r t.1) (λ x. keep_bind _ _ (keep_word scope c t.3) (λ y. keep_bind _ _ (keep_ensure _ _ place) (λ _. keep_bind _ _ (keep_read _) (λ rs. keep_written place _))))
    keep_kind scope (deq m) place ty t = keep_bind _ _ (keep_read _) (λ ws. keep_oldest m place ws t.is_kind)
    keep_kind scope (one op a) place ty t = keep_bind _ _ (keep_word scope a t.0) (λ x. keep_pure _)
    keep_kind scope (two op a b) place ty t = keep_bind _ _ (keep_word scope a t.0) (λ x. keep_bind _ _ (keep_word scope b t.1) (λ y. keep_pure _))
    keep_kind scope (shift left a by) place ty t = keep_bind _ _ (keep_word scope a t.0) (λ x. keep_pure _)
    keep_kind scope (mux c a b) place ty t = keep_bind _ _ (keep_word scope c t.0) (λ x. keep_bind _ _ (keep_word scope a t.2) (λ y. keep_bind _ _ (keep_word scope b t.4) (λ z. keep_pure _)))
    keep_kind scope (cast a) place ty t = keep_bind _ _ (keep_word scope a t) (λ x. keep_pure _)

    keep_words : (scope : Scope) (xs : PlainExprs) → IndicesTyped p scope xs → Keeps (all_words p.mems xs)
    keep_words scope no_expr t = keep_pure []
    keep_words scope (more_expr e rest) t = keep_bind _ _ (keep_word scope e t.0) (λ first. keep_bind _ _ (keep_words scope rest t.2) (λ others. keep_pure _))

  keep_ranges : (scope : Scope) (loops : List PlainCounter) → BoundsTyped p scope loops → Keeps (in_order (counter_range p.mems) loops)
  unfolding in_order
  keep_ranges scope [] t = keep_pure []
  keep_ranges scope (c ∷ loops) t =
      keep_bind _ _ (keep_bind _ _ (keep_word scope c.from t.0.0.0) (λ x. keep_bind _ _ (keep_word scope c.until t.1.0.0) (λ y. keep_pure _)))
      (λ first. keep_bind _ _ (keep_ranges scope loops t.4) (λ others. keep_pure _))

  keep_parts : (scope : Scope) (spans : List PlainSpan) → SpansTyped p scope spans → Keeps (in_order (part p.mems) spans)
  unfolding in_order
  keep_parts scope [] t = keep_pure []
  keep_parts scope (single e ∷ spans) t = keep_bind _ _ (keep_bind _ _ (keep_word scope e t.0.0.0) (λ x. keep_pure _)) (λ first. keep_bind _ _ (keep_parts scope spans t.1) (λ others. keep_pure _))
  keep_parts scope (range a b par ∷ spans) t =
      keep_bind _ _ (keep_bind _ _ (keep_word scope a t.0.0.0) (λ x. keep_bind _ _ (keep_word scope b t.1.0.0) (λ y. keep_pure _))) (λ first. keep_bind _ _ (keep_parts scope spans t.3) (λ others. keep_pure _))

  keep_transfer : {A : Type 0} (place : ℕ) (ds : List ℕ) (parts : List Part) (too_long : FaultKind) (limits : List ℕ) (move : Step A) → Keeps move → Keeps (transfer place ds parts too_long limits move)
  keep_transfer place ds parts too_long limits move f = keep_chosen _ _ (keep_pure tt)
      (keep_bind _ _ (keep_ensure _ _ place) (λ _. keep_bind _ _ (keep_ensure _ _ place) (λ _. keep_bind _ _ f (λ _. keep_pure tt)))) (has_none (lengths parts))

  keep_assign : (comb : Comb) (acc at : ℕ) (combines : Bool) (w place : ℕ) (k : Kind) → Holds_cells k → (mem p.mems acc).kind ≡ k → Keeps (assign p.mems comb acc at combines w place)
  keep_assign comb acc at false w place k f is = keep_write_cell acc at w k f is
  keep_assign comb acc at true w place k f is = keep_bind _ _ (keep_read_cell acc at place) (λ before. keep_write_cell acc at _ k f is)

  -- a row more
  keep_row : (line width dram : ℕ) (ds : List ℕ) (parts : List Part) → Contains S line → (mem p.mems line).kind ≡ LineBuf → 1 ≤ slice_index (mem p.mems line).dims 0 → Keeps (load_row line width dram ds parts)
  unfolding read change
  keep_row line width dram ds parts seen is some left rest s after a h e =
      let x = taken_apart (in_order (λ offsets. read_word dram (row_major ds (places_of parts offsets)) >>= (λ w. turn >> pure w)) (all_offsets parts)) (λ ws. read (λ s. rows_of (s.held line)) >>= (λ rs. hold_now line (rows (drop 1 rs ++ row_of width ws ∷ [])))) left s a rest after e in
      let h2 = keep_in_order _ (λ offsets. keep_bind _ _ (keep_read _) (λ w. keep_bind _ _ keep_turn (λ _. keep_pure w))) (all_offsets parts) left x.between s x.store x.answer h x.first in
      let y = taken_apart (read (λ s. rows_of (s.held line))) (λ rs. hold_now line (rows (drop 1 rs ++ row_of width x.answer ∷ []))) x.between x.store a rest after x.second in
      let same : rows_of (x.store.held line) ≡ y.answer = same_answer (rows_of (x.store.held line)) y.answer x.between y.between x.store y.store y.first in
      let long : length y.answer ≡ slice_index (mem p.mems line).dims 0 = ap length (sym same) ∙ held_rows (x.store.held line) (subst (λ k. IsContents k (mem p.mems line).dims (x.store.held line)) is (h2 line seen)) in
      let next : length (drop 1 y.answer ++ row_of width x.answer ∷ []) ≡ slice_index (mem p.mems line).dims 0 = omega (arith, length-append (drop 1 y.answer) (row_of width x.answer ∷ []), length-drop 1 y.answer, long, some) in
      keep_hold line (rows (drop 1 y.answer ++ row_of width x.answer ∷ [])) (subst (λ k. IsContents k (mem p.mems line).dims (Some (rows (drop 1 y.answer ++ row_of width x.answer ∷ [])))) (sym is) next) y.between rest y.store after a
      (subst (HoldRightly p S) (same_store (rows_of (x.store.held line)) y.answer x.between y.between x.store y.store y.first) h2) y.second
    where
      held_rows : (c : Option Contents) → IsContents LineBuf (mem p.mems line).dims c → length (rows_of c) ≡ slice_index (mem p.mems line).dims 0
      held_rows (Some (rows rs)) f = f
      held_rows (Some (cells cs)) f = absurd f
      held_rows (Some (queue ws)) f = absurd f
      held_rows (Some (words ws)) f = absurd f
      held_rows None f = absurd f

  keep_place : (places held dram_words k place : ℕ) → Keeps (place_held places held dram_words k place)
  keep_place places held dram_words k place = keep_bind _ _ (keep_ensure _ _ place) (λ _. keep_bind _ _ (keep_read_cell places k place) (λ w. keep_bind _ _ (keep_ensure _ _ place) (λ _. keep_pure _)))

out_of_range : (mems : List PlainMem) (m : ℕ) → length mems ≤ m → slice_index_or mems m no_mem ≡ no_mem
out_of_range [] m le = refl
out_of_range (x ∷ xs) zero le = absurd (omega arith)
out_of_range (x ∷ xs) (suc m) le = out_of_range xs m (omega arith)

module _ (p : PlainProgram) (declared : All IsDeclaration p.mems) where
  -- a line buffer has two dimensions, and some rows
  line_dims : (m : ℕ) → (mem p.mems m).kind ≡ LineBuf → (length (mem p.mems m).dims ≡ 2) × All IsCount (mem p.mems m).dims
  line_dims m is = either (nat_lt m (length p.mems))
      (λ e. let d = declared m no_mem (ltb-true m (length p.mems) e) in (subst (λ k. HasRank k (length (mem p.mems m).dims)) is d.rank, d.dims))
      (λ e. absurd (not_line (ap (λ (x : PlainMem). x.kind) (sym (out_of_range p.mems m (ltb-false m (length p.mems) e))) ∙ is)))
    where
      not_line : Reg ≡ LineBuf → ⊥
      not_line e = cc

  some_rows : (ds : List ℕ) → length ds ≡ 2 → All IsCount ds → 1 ≤ slice_index ds 0
  some_rows ds long f = let g = f 0 0 (omega (arith, long)) in g.0

  rows_of_fresh : (ds : List ℕ) → length ds ≡ 2 → length (fresh_rows ds) ≡ slice_index ds 0
  rows_of_fresh [] e = absurd (omega (arith, e))
  rows_of_fresh (r ∷ []) e = absurd (omega (arith, e))
  rows_of_fresh (r ∷ c ∷ []) e = length-replicate r (replicate c None)
  rows_of_fresh (r ∷ c ∷ d ∷ ds) e = absurd (omega (arith, e))

  fresh_right : (k : Kind) (ds : List ℕ) (start : Option ℕ) → (k ≡ LineBuf → length ds ≡ 2) → IsContents k ds (Some (fresh_of k ds start []))
  fresh_right Reg ds start f = tt
  fresh_right Sram ds start f = tt
  fresh_right Fifo ds start f = tt
  fresh_right LineBuf ds start f = rows_of_fresh ds (f refl)
  fresh_right Dram ds start f = tt
  fresh_right ArgIn ds start f = tt
  fresh_right ArgOut ds start f = tt

  held_store : (m : ℕ) (c : Contents) (left rest : ℕ) (s after : Store) (a : Unit {0}) → hold_now m c left s ≡ went a rest after → hold s m c ≡ after
  unfolding change
  held_store m c left rest s after a e = same_store tt a left rest (hold s m c) after e

  -- one memory more
  more_held : (m : ℕ) (c : Contents) (s : Store) (S : List ℕ) → IsContents (mem p.mems m).kind (mem p.mems m).dims (Some c) → HoldRightly p S s → HoldRightly p (m ∷ S) (hold s m c)
  more_held m c s S is h k (zero, lt, e) = subst (λ j. IsContents (mem p.mems j).kind (mem p.mems j).dims ((hold s m c).held j)) e (subst (IsContents (mem p.mems m).kind (mem p.mems m).dims) (sym (changed_here s.held m m (Some c) refl)) is)
  more_held m c s S is h k (suc j, lt, e) = right_held p S s m c is h k (j, omega arith, e)

  module _ (roomy : List ℕ) where
    -- where a body goes on its memories hold rightly, too
    abbrev pub IsRightly : Scope → PlainStmts → Type 0
    IsRightly scope body = (left rest : ℕ) (s after : Store) (did : List Shape) → HoldRightly p scope.mems s → run_all p.mems roomy body left s ≡ went did rest after → HoldRightly p (after_all scope body).mems after

    pub keep_body : (scope : Scope) (body : PlainStmts) (inner : Scope) → inner.mems ≡ scope.mems → IsRightly inner body → Keeps p scope.mems (run_all p.mems roomy body)
    keep_body scope body inner same f left rest s after did h e m c =
        f left rest s after did (subst (λ l. HoldRightly p l s) (sym same) h) e m (after_mems inner body m (subst (λ l. Contains l m) (sym same) c))

    -- a combination of words, and of elements
    pub keep_word_after : (scope : Scope) (body : PlainStmts) (loops : List PlainCounter) (fold : Bool) (acc place : ℕ) (e : PlainExpr) (comb : Comb) → IsRightly (with_counters scope loops) body → Typed p (after_all (with_counters scope loops) body) e → (mem p.mems acc).kind ≡ Reg
        → (it : Bool × List ℕ) → Keeps p scope.mems (turn >> (count_now loops it.1 >> (run_all p.mems roomy body >>= (λ inner. word p.mems e >>= (λ w. assign p.mems comb acc 0 it.0 w place >> pure (ran (shapes inner)))))))
    keep_word_after scope body loops fold acc place e comb f typed is it =
        let S : List ℕ = scope.mems in
        keep_bind p S _ _ (keep_turn p S) (λ _. keep_bind p S _ _ (keep_counts p S loops it.1) (λ _. keep_bind p S _ _ (keep_body scope body (with_counters scope loops) (same_mems scope loops) f)
        (λ inner. keep_bind p S _ _ (keep_word p S (after_all (with_counters scope loops) body) e typed) (λ w. keep_bind p S _ _ (keep_assign p S comb acc 0 it.0 w place Reg (λ ds cs. tt) is) (λ _. keep_pure p S _)))))

    pub keep_elements_after : (scope : Scope) (body : PlainStmts) (loops : List PlainCounter) (acc part place : ℕ) (comb : Comb) → IsRightly (with_counters scope loops) body → (mem p.mems acc).kind ≡ Sram
        → (it : Bool × List ℕ) → Keeps p scope.mems (turn >> (count_now loops it.1 >> (run_all p.mems roomy body >>= (λ inner. assign_all p.mems comb acc part it.0 place >> pure (ran (shapes inner))))))
    keep_elements_after scope body loops acc part place comb f is it =
        let S : List ℕ = scope.mems in
        keep_bind p S _ _ (keep_turn p S) (λ _. keep_bind p S _ _ (keep_counts p S loops it.1) (λ _. keep_bind p S _ _ (keep_body scope body (with_counters scope loops) (same_mems scope loops) f)
        (λ inner. keep_bind p S _ _ (keep_in_order p S _ (λ at. keep_bind p S _ _ (keep_read_cell p S part at place) (λ w. keep_bind p S _ _ (keep_turn p S) (λ _. keep_assign p S comb acc at it.0 w place Sram (λ ds cs. tt) is))) (numbers_below (word_count (dims p.mems acc)))) (λ _. keep_pure p S _))))

    declare_rightly : (m : ℕ) (scope : Scope) (place left rest : ℕ) (s after : Store) (did : List Shape) → HoldRightly p scope.mems s → run_kind p.mems roomy (declare m) place left s ≡ went did rest after → HoldRightly p (m ∷ scope.mems) after
    unfolding run_kind
    declare_rightly m scope place left rest s after did h e =
        let c : Contents = fresh_of (mem p.mems m).kind (mem p.mems m).dims (mem p.mems m).start [] in
        let is : IsContents (mem p.mems m).kind (mem p.mems m).dims (Some c) = fresh_right (mem p.mems m).kind (mem p.mems m).dims (mem p.mems m).start (λ f. (line_dims m f).0) in
        let x = taken_apart (hold_now m c) (λ _. pure []) left s did rest after e in
        let y : hold s m c ≡ x.store = held_store m c left x.between s x.store x.answer x.first in
        keep_pure p (m ∷ scope.mems) [] x.between rest x.store after did (subst (HoldRightly p (m ∷ scope.mems)) y (more_held m c s scope.mems is h)) x.second

    mutual
      unfolding run run_kind run_all

      -- a body
      pub body_rightly : (body : PlainStmts) (scope : Scope) → BodyTyped p scope body → IsRightly scope body
      body_rightly no_stmt scope typed left rest s after did h e = keep_pure p scope.mems [] left rest s after did h e
      body_rightly (more_stmt (stmt place k) rest_body) scope typed left rest s after did h e =
          let x = taken_apart (run p.mems roomy (stmt place k)) (λ x. run_all p.mems roomy rest_body >>= (λ y. pure (x ++ y))) left s did rest after e in
          let c = taken_apart turn (λ _. run_kind p.mems roomy k place) left s x.answer x.between x.store x.first in
          let first = kind_rightly k scope place typed.0 c.between x.between c.store x.store x.answer (keep_turn p scope.mems left c.between s c.store c.answer h c.first) c.second in
          let d = taken_apart (run_all p.mems roomy rest_body) (λ y. pure (x.answer ++ y)) x.between x.store did rest after x.second in
          keep_pure p (after_all (scope_after scope k) rest_body).mems (x.answer ++ d.answer) d.between rest d.store after did
          (body_rightly rest_body (scope_after scope k) typed.1 x.between d.between x.store d.store d.answer first d.first) d.second

      -- a statement
      pub kind_rightly : (k : PlainStmtKind) (scope : Scope) (place : ℕ) → StmtTyped p scope k → (left rest : ℕ) (s after : Store) (did : List Shape) → HoldRightly p scope.mems s → run_kind p.mems roomy k place left s ≡ went did rest after → HoldRightly p (scope_after scope k).mems after
      kind_rightly (declare m) scope place typed = declare_rightly m scope place
      kind_rightly (name v e) scope place typed = keep_bind p scope.mems _ _ (keep_word p scope.mems scope e typed.1) (λ w. keep_bind p scope.mems _ _ (keep_name p scope.mems v w) (λ _. keep_pure p scope.mems []))
      kind_rightly (set_reg m e) scope place typed = keep_bind p scope.mems _ _ (keep_word p scope.mems scope e typed.1) (λ w. keep_bind p scope.mems _ _ (keep_write_cell p scope.mems m 0 w Reg (λ ds cs. tt) typed.0.is_kind) (λ _. keep_pure p scope.mems []))
      kind_rightly (set_out m e) scope place typed = keep_bind p scope.mems _ _ (keep_word p scope.mems scope e typed.1) (λ w. keep_bind p scope.mems _ _ (keep_write_word p scope.mems m 0 w ArgOut (λ ds ws. tt) typed.0.is_kind) (λ _. keep_pure p scope.mems []))
      kind_rightly (set_sram m xs e) scope place typed = keep_bind p scope.mems _ _ (keep_words p scope.mems scope xs typed.2) (λ is. keep_bind p scope.mems _ _ (keep_word p scope.mems scope e typed.3) (λ w. keep_bind p scope.mems _ _ (keep_element p scope.mems m place is)
          (λ at. keep_bind p scope.mems _ _ (keep_write_cell p scope.mems m at w Sram (λ ds cs. tt) typed.0.is_kind) (λ _. keep_pure p scope.mems []))))
      kind_rightly (enq m e) scope place typed = keep_bind p scope.mems _ _ (keep_word p scope.mems scope e typed.1) (λ w. keep_bind p scope.mems _ _ (keep_enqueue p scope.mems m _ w place typed.0.is_kind) (λ _. keep_pure p scope.mems []))
      kind_rightly (load_sram sram dram spans) scope place typed = keep_bind p scope.mems _ _ (keep_parts p scope.mems scope spans typed.1.spans_typed) (λ parts. keep_bind p scope.mems _ _
          (keep_transfer p scope.mems place _ parts _ _ _ (keep_in_order p scope.mems _ (λ offsets. keep_bind p scope.mems _ _ (keep_read p scope.mems _) (λ w. keep_bind p scope.mems _ _ (keep_turn p scope.mems) (λ _. keep_write_cell p scope.mems sram _ w Sram (λ ds cs. tt) typed.0.is_kind))) (all_offsets parts)))
          (λ _. keep_pure p scope.mems _))
      kind_rightly (load_line line dram spans) scope place typed =
          let d = line_dims line typed.0.is_kind in
          keep_bind p scope.mems _ _ (keep_parts p scope.mems scope spans typed.1.spans_typed) (λ parts. keep_bind p scope.mems _ _
          (keep_transfer p scope.mems place _ parts _ _ _ (keep_row p scope.mems line _ dram _ parts typed.0.seen typed.0.is_kind (some_rows (mem p.mems line).dims d.0 d.1)))
          (λ _. keep_pure p scope.mems _))
      kind_rightly (store dram spans sram) scope place typed = keep_bind p scope.mems _ _ (keep_parts p scope.mems scope spans typed.1.spans_typed) (λ parts. keep_bind p scope.mems _ _
          (keep_transfer p scope.mems place _ parts _ _ _ (keep_in_order p scope.mems _ (λ offsets. keep_bind p scope.mems _ _ (keep_read_cell p scope.mems sram _ place) (λ w. keep_bind p scope.mems _ _ (keep_turn p scope.mems) (λ _. keep_write_word p scope.mems dram _ w Dram (λ ds ws. tt) typed.1.from_dram.is_kind))) (all_offsets parts)))
          (λ _. keep_pure p scope.mems _))
      kind_rightly (gather sram dram places n) scope place typed = keep_bind p scope.mems _ _ (keep_word p scope.mems scope n typed.1.how_many.0.0) (λ w. keep_bind p scope.mems _ _
          (keep_in_order p scope.mems _ (λ k. keep_bind p scope.mems _ _ (keep_place p scope.mems places _ _ k place) (λ at. keep_bind p scope.mems _ _ (keep_ensure p scope.mems _ _ place) (λ _. keep_bind p scope.mems _ _ (keep_read p scope.mems _) (λ x. keep_bind p scope.mems _ _ (keep_turn p scope.mems)
          (λ _. keep_write_cell p scope.mems sram k x Sram (λ ds cs. tt) typed.0.is_kind))))) (numbers_below (natural (index_value w)))) (λ _. keep_pure p scope.mems _))
      kind_rightly (scatter dram places n sram) scope place typed = keep_bind p scope.mems _ _ (keep_word p scope.mems scope n typed.1.how_many.0.0) (λ w. keep_bind p scope.mems _ _
          (keep_in_order p scope.mems _ (λ k. keep_bind p scope.mems _ _ (keep_place p scope.mems places _ _ k place) (λ at. keep_bind p scope.mems _ _ (keep_ensure p scope.mems _ _ place) (λ _. keep_bind p scope.mems _ _ (keep_read_cell p scope.mems sram k place) (λ x. keep_bind p scope.mems _ _ (keep_turn p scope.mems)
          (λ _. keep_write_word p scope.mems dram at x Dram (λ ds ws. tt) typed.1.in_dram.is_kind))))) (numbers_below (natural (index_value w)))) (λ _. keep_pure p scope.mems _))
      kind_rightly (block style body) scope place typed = keep_bind p scope.mems _ _ (keep_body scope body scope refl (body_rightly body scope typed)) (λ inner. keep_bind p scope.mems _ _
          (keep_in_order p scope.mems _ (λ m. keep_bind p scope.mems _ _ (keep_read p scope.mems _) (λ ws. keep_ensure p scope.mems _ _ place)) (fifos_with_room p.mems style body)) (λ _. keep_pure p scope.mems _))
      kind_rightly (foreach style loops body) scope place typed =
          let inner : IsRightly (with_counters scope loops) body = body_rightly body (with_counters scope loops) typed.2 in
          keep_bind p scope.mems _ _ (keep_ranges p scope.mems scope loops typed.1.bounds) (λ ranges. keep_bind p scope.mems _ _
          (keep_in_order p scope.mems _ (λ ws. keep_bind p scope.mems _ _ (keep_turn p scope.mems) (λ _. keep_bind p scope.mems _ _ (keep_counts p scope.mems loops ws) (λ _. keep_bind p scope.mems _ _ (keep_body scope body (with_counters scope loops) (same_mems scope loops) inner) (λ did. keep_pure p scope.mems _)))) (tuples ranges))
          (λ _. keep_pure p scope.mems _))
      kind_rightly (reduce style fold acc loops body e comb) scope place typed =
          let inner : IsRightly (with_counters scope loops) body = body_rightly body (with_counters scope loops) typed.2 in
          keep_bind p scope.mems _ _ (keep_ranges p scope.mems scope loops typed.1.bounds) (λ ranges. keep_bind p scope.mems _ _
          (keep_in_order p scope.mems _ (keep_word_after scope body loops fold acc place e comb inner typed.5 typed.3.is_kind) (combining fold (tuples ranges))) (λ _. keep_pure p scope.mems _))
      kind_rightly (mem_reduce style acc loops body part_mem comb) scope place typed =
          let inner : IsRightly (with_counters scope loops) body = body_rightly body (with_counters scope loops) typed.2 in
          keep_bind p scope.mems _ _ (keep_ranges p scope.mems scope loops typed.1.bounds) (λ ranges. keep_bind p scope.mems _ _
          (keep_in_order p scope.mems _ (keep_elements_after scope body loops acc part_mem place comb inner typed.3.is_kind) (combining false (tuples ranges))) (λ _. keep_pure p scope.mems _))
      kind_rightly (fsm start tested test state body last next) scope place typed =
          let inner : IsRightly (with_val scope state (type_of start)) body = body_rightly body (with_val scope state (type_of start)) typed.4 in
          keep_bind p scope.mems _ _ (keep_word p scope.mems scope start typed.0.0.0) (λ first. keep_bind p scope.mems _ _
          (keep_as_long_as p scope.mems _ _
          (λ w. keep_bind p scope.mems _ _ (keep_name p scope.mems tested w) (λ _. keep_bind p scope.mems _ _ (keep_word p scope.mems (with_val scope tested (type_of start)) test typed.2.0.0) (λ holds. keep_pure p scope.mems _)))
          (λ w. keep_bind p scope.mems _ _ (keep_turn p scope.mems) (λ _. keep_bind p scope.mems _ _ (keep_name p scope.mems state w) (λ _. keep_bind p scope.mems _ _ (keep_body scope body (with_val scope state (type_of start)) refl inner)
          (λ did. keep_bind p scope.mems _ _ (keep_name p scope.mems last w) (λ _. keep_bind p scope.mems _ _ (keep_word p scope.mems (with_val scope last (type_of start)) next typed.6.0.0) (λ after. keep_pure p scope.mems _)))))) first)
          (λ _. keep_pure p scope.mems _))
      kind_rightly (branch test first second) scope place typed =
          let one_inner : IsRightly scope first = body_rightly first scope typed.1 in
          let other_inner : IsRightly scope second = body_rightly second scope typed.2 in
          keep_bind p scope.mems _ _ (keep_word p scope.mems scope test typed.0.0.0) (λ holds. keep_bind p scope.mems _ _
          (keep_chosen p scope.mems _ _ (keep_body scope first scope refl one_inner) (keep_body scope second scope refl other_inner) (holds == 1)) (λ inner. keep_pure p scope.mems _))
