-- The FIFOs that a block declares, at its end.
use Rattle.std.proofs.Common.{◌≡◌, ℕ, zero, suc, ◌<◌, ◌≤◌, ◌+◌, ◌⊎◌, inl, inr, ⊎_elim, Bool, true, false, cond, List, [], ◌∷◌, length, get_or, drop, refl, sym, ◌∙◌, ap, subst, arith, Contains}
use Rattle.std.specs.Prelude.{nat_le, filter, max}
use Rattle.std.proofs.lemmas.Bool.{cases_lt, le-leb, lt-leb}
use Rattle.std.proofs.lemmas.List.{drop_all}
use Rattle.sp_words.specs.declared.kind.Kind.{Kind}
use Rattle.sp_words.specs.declared.kind.Kind.TheVariants.{Reg, Sram, Fifo, LineBuf, Dram, ArgIn, ArgOut}
use Rattle.sp_words.specs.declared.kind.Style.TheVariants.{Stream}
use Rattle.sp_words.specs.Interface.{word_count}
use Rattle.sp_tree.specs.declared.statement.FaultKind.TheVariants.{FifoFull}
use Rattle.sp_tree.specs.declared.statement.Stmt.{Stmt}
use Rattle.sp_tree.specs.Expressions.{mem, dims}
use Rattle.sp_tree.specs.PlainProgram.{PlainMem}
use Rattle.sp_tree.specs.PlainStatement.{PlainStmtKind, PlainStmts, stmt, declare, name, set_reg, set_out, set_sram, enq, load_sram, load_line, store, gather, scatter, block, foreach, reduce, mem_reduce, fsm, branch, more_stmt}
use Rattle.sp_tree.specs.PlainTree.{plain_stmt_kind, plain_stmts}
use Rattle.sp_tree.specs.Sequential.{keep_depth, end_block}
use Rattle.sp_tree.specs.Step.{Went, went, faulted, ◌>>=◌, pure, fault, ensure, read, in_order}
use Rattle.sp_tree.specs.Store.{queue_of}
use Rattle.sp_tree.specs.Streams.{is_fifo, is_proper, own_fifos, room, stream_room}
use Rattle.sp_tree.specs.Structure.{own_mems}
use Rattle.sp_seq.specs.declared.memory.Storage.TheVariants.{Cells, Queue, Rows, Words}
use Rattle.sp_seq.specs.declared.state.State.{State}
use Rattle.sp_seq.specs.declared.state.Stop.TheVariants.{Fault}
use Rattle.sp_seq.specs.Ending.{CanEnd, IsOver, DoesFit}
use Rattle.sp_seq.specs.Rows.{CellRow, WordRow, WordQueue}
use Rattle.sp_seq.specs.States.{CellRows, store_of, held_of, memory_of, IsStorage}
use Rattle.sp_seq.proofs.RunningLemmas.{first_or_rest, contained_first}
use Rattle.sp_seq.proofs.ScopeLemmas.{contained_later}
use Rattle.sp_seq.proofs.StepLemmas.{bind_went, bind_halted}

-- only a FIFO is stored as a queue
pub queue_is : (d : PlainMem) (n : ℕ) (kind : Kind) (q : WordQueue) → IsStorage d n kind (Queue q) → (is_fifo kind ≡ true) × (q.room ≡ n)
queue_is d n Fifo q h = (refl, h.1)
queue_is d n Reg q h = absurd h
queue_is d n Sram q h = absurd h
queue_is d n LineBuf q h = absurd h
queue_is d n Dram q h = absurd h
queue_is d n ArgIn q h = absurd h
queue_is d n ArgOut q h = absurd h

no : false ≡ true → ⊥
no e = cc

pub cells_are_none : (d : PlainMem) (n : ℕ) (kind : Kind) (c : CellRow) → IsStorage d n kind (Cells c) → is_fifo kind ≡ true → ⊥
cells_are_none d n Fifo c h e = h
cells_are_none d n Reg c h e = no e
cells_are_none d n Sram c h e = no e
cells_are_none d n LineBuf c h e = no e
cells_are_none d n Dram c h e = no e
cells_are_none d n ArgIn c h e = no e
cells_are_none d n ArgOut c h e = no e

pub rows_are_none : (d : PlainMem) (n : ℕ) (kind : Kind) (c : CellRows) → IsStorage d n kind (Rows c) → is_fifo kind ≡ true → ⊥
rows_are_none d n Fifo c h e = h
rows_are_none d n Reg c h e = no e
rows_are_none d n Sram c h e = no e
rows_are_none d n LineBuf c h e = no e
rows_are_none d n Dram c h e = no e
rows_are_none d n ArgIn c h e = no e
rows_are_none d n ArgOut c h e = no e

pub words_are_none : (d : PlainMem) (n : ℕ) (kind : Kind) (c : WordRow) → IsStorage d n kind (Words c) → is_fifo kind ≡ true → ⊥
words_are_none d n Fifo c h e = h
words_are_none d n Reg c h e = no e
words_are_none d n Sram c h e = no e
words_are_none d n LineBuf c h e = no e
words_are_none d n Dram c h e = no e
words_are_none d n ArgIn c h e = no e
words_are_none d n ArgOut c h e = no e

-- memories that a body declares
own_more : (place : ℕ) (kind : PlainStmtKind) (rest : PlainStmts) (m : ℕ) → Contains (own_mems (more_stmt (stmt place kind) rest)) m → (kind ≡ declare m) ⊎ Contains (own_mems rest) m
own_more place (declare k) rest m h = ⊎_elim (λ e. inl (ap declare e)) (λ r. inr r) (first_or_rest k m (own_mems rest) h)
own_more place (name v e) rest m h = inr h
own_more place (set_reg n e) rest m h = inr h
own_more place (set_out n e) rest m h = inr h
own_more place (set_sram n es e) rest m h = inr h
own_more place (enq n e) rest m h = inr h
own_more place (load_sram a b spans) rest m h = inr h
own_more place (load_line a b spans) rest m h = inr h
own_more place (store a spans b) rest m h = inr h
own_more place (gather a b c e) rest m h = inr h
own_more place (scatter a b e c) rest m h = inr h
own_more place (block style body) rest m h = inr h
own_more place (foreach style counters body) rest m h = inr h
own_more place (reduce style fold acc counters body word comb) rest m h = inr h
own_more place (mem_reduce style acc counters body part comb) rest m h = inr h
own_more place (fsm start tested test state body last next) rest m h = inr h
own_more place (branch test first second) rest m h = inr h

own_later : (place : ℕ) (kind : PlainStmtKind) (rest : PlainStmts) (m : ℕ) → Contains (own_mems rest) m → Contains (own_mems (more_stmt (stmt place kind) rest)) m
own_later place (declare k) rest m h = contained_later k m (own_mems rest) h
own_later place (name v e) rest m h = h
own_later place (set_reg n e) rest m h = h
own_later place (set_out n e) rest m h = h
own_later place (set_sram n es e) rest m h = h
own_later place (enq n e) rest m h = h
own_later place (load_sram a b spans) rest m h = h
own_later place (load_line a b spans) rest m h = h
own_later place (store a spans b) rest m h = h
own_later place (gather a b c e) rest m h = h
own_later place (scatter a b e c) rest m h = h
own_later place (block style body) rest m h = h
own_later place (foreach style counters body) rest m h = h
own_later place (reduce style fold acc counters body word comb) rest m h = h
own_later place (mem_reduce style acc counters body part comb) rest m h = h
own_later place (fsm start tested test state body last next) rest m h = h
own_later place (branch test first second) rest m h = h

-- the statement at a place declares it
pub own_at : (body : List Stmt) (k : ℕ) (x : Stmt) (m : ℕ) → k < length body → x ≡ get_or body k x → plain_stmt_kind x.kind ≡ declare m → Contains (own_mems (plain_stmts body)) m
own_at [] k x m l e h = absurd (omega arith)
own_at (y ∷ ys) zero x m l e h =
    subst (λ kind. Contains (own_mems (more_stmt (stmt y.at kind) (plain_stmts ys))) m) (sym h ∙ ap (λ (z : Stmt). plain_stmt_kind z.kind) e) (contained_first m (own_mems (plain_stmts ys)))
own_at (y ∷ ys) (suc k) x m l e h = own_later y.at (plain_stmt_kind y.kind) (plain_stmts ys) m (own_at ys k x m (omega arith) e h)

-- so far: the FIFOs before hold no more words than their depth
pub record EndGo (mems : List PlainMem) (body : List Stmt) (s : State) (k : ℕ) : Type 0 where
  pub fits : (m : ℕ) → Contains (own_mems (plain_stmts body)) m → is_fifo (mem mems m).kind ≡ true → DoesFit mems s m ⊎ Contains (own_mems (plain_stmts (drop k body))) m

pub end_begin : (mems : List PlainMem) (body : List Stmt) (s : State) → EndGo mems body s 0
end_begin mems body s = record { fits = λ m c q. inr c }

pub end_done : (mems : List PlainMem) (body : List Stmt) (s : State) (k : ℕ) → length body ≤ k → EndGo mems body s k → (m : ℕ) → Contains (own_mems (plain_stmts body)) m → is_fifo (mem mems m).kind ≡ true → DoesFit mems s m
end_done mems body s k l h m c q = ⊎_elim
    (λ y. y)
    (λ y. let none : Contains (own_mems (plain_stmts [])) m = subst (λ xs. Contains (own_mems (plain_stmts xs)) m) (drop_all k body l) y in absurd (omega (arith, none.1)))
    (h.fits m c q)

pub end_more : (mems : List PlainMem) (body : List Stmt) (s : State) (k : ℕ) (x : Stmt) → EndGo mems body s k → drop k body ≡ x ∷ drop (k + 1) body → ((m : ℕ) → plain_stmt_kind x.kind ≡ declare m → is_fifo (mem mems m).kind ≡ true → DoesFit mems s m) → EndGo mems body s (k + 1)
end_more mems body s k x h e f = record {
  fits = λ m c q. ⊎_elim (λ y. inl y) (λ y. ⊎_elim
      (λ is. inl (f m is q))
      (λ r. inr r)
      (own_more x.at (plain_stmt_kind x.kind) (plain_stmts (drop (k + 1) body)) m (subst (λ xs. Contains (own_mems (plain_stmts xs)) m) e y))) (h.fits m c q);
}

-- what a filter keeps
pub kept_front : (b : Bool) (x : ℕ) (xs : List ℕ) (m : ℕ) → Contains (cond b (x ∷ xs) xs) m → ((x ≡ m) × (b ≡ true)) ⊎ Contains xs m
kept_front true x xs m h = ⊎_elim (λ e. inl (e, refl)) (λ r. inr r) (first_or_rest x m xs h)
kept_front false x xs m h = inr h

pub filtered : (p : ℕ → Bool) (xs : List ℕ) (m : ℕ) → Contains (filter p xs) m → Contains xs m × (p m ≡ true)
filtered p [] m h = absurd (omega (arith, h.1))
filtered p (x ∷ xs) m h = ⊎_elim
    (λ e. (subst (λ j. Contains (x ∷ xs) j) e.0 (contained_first x xs), ap p (sym e.0) ∙ e.1))
    (λ r. let k = filtered p xs m r in (contained_later x m xs k.0, k.1))
    (kept_front (p x) x (filter p xs) m h)

back_front : (b : Bool) (x : ℕ) (xs : List ℕ) (m : ℕ) → Contains xs m → Contains (cond b (x ∷ xs) xs) m
back_front true x xs m h = contained_later x m xs h
back_front false x xs m h = h

filter_has : (p : ℕ → Bool) (xs : List ℕ) (m : ℕ) → Contains xs m → p m ≡ true → Contains (filter p xs) m
filter_has p [] m h e = absurd (omega (arith, h.1))
filter_has p (x ∷ xs) m h e = ⊎_elim
    (λ q. subst (λ b. Contains (cond b (x ∷ filter p xs) (filter p xs)) m) (sym (ap p q ∙ e)) (subst (λ j. Contains (x ∷ filter p xs) j) q (contained_first x (filter p xs))))
    (λ r. back_front (p x) x (filter p xs) m (filter_has p xs m r e))
    (first_or_rest x m xs h)

module _ (mems : List PlainMem) (place : ℕ) (s : State) where
  keeps_as : (m : ℕ) → Bool → Went (Unit {0})
  keeps_as m b = ensure b FifoFull place s.left (store_of s)

  keep_is : (m : ℕ) → keep_depth mems m place s.left (store_of s) ≡ keeps_as m (nat_le (length (queue_of (held_of (memory_of s m)))) (word_count (dims mems m)))
  unfolding ◌>>=◌ read store_of keeps_as
  keep_is m = refl

  keep_fits : (m : ℕ) → DoesFit mems s m → keep_depth mems m place s.left (store_of s) ≡ went tt s.left (store_of s)
  unfolding pure keeps_as
  keep_fits m h = keep_is m ∙ ap (keeps_as m) (le-leb _ _ h)

  keep_over : (m : ℕ) → IsOver mems s m → keep_depth mems m place s.left (store_of s) ≡ faulted FifoFull place
  unfolding fault keeps_as
  keep_over m h = keep_is m ∙ ap (keeps_as m) (lt-leb _ _ h.over)

  full_is : (m : ℕ) → keeps_as m false ≡ faulted FifoFull place
  unfolding fault keeps_as
  full_is m = refl

  all_fit : (ms : List ℕ) → ((m : ℕ) → Contains ms m → DoesFit mems s m) → (done : List (Unit {0})) × (in_order (λ m. keep_depth mems m place) ms s.left (store_of s) ≡ went done s.left (store_of s))
  unfolding in_order pure
  all_fit [] h = ([], refl)
  all_fit (m ∷ ms) h =
      let rest = all_fit ms (λ k c. h k (contained_later m k ms c)) in
      (tt ∷ rest.0, bind_went (keep_depth mems m place) _ s.left (store_of s) tt s.left (store_of s) (keep_fits m (h m (contained_first m ms))) ∙ bind_went (in_order (λ m. keep_depth mems m place) ms) _ s.left (store_of s) rest.0 s.left (store_of s) rest.1)

  one_over : (ms : List ℕ) (m : ℕ) → Contains ms m → IsOver mems s m → in_order (λ m. keep_depth mems m place) ms s.left (store_of s) ≡ faulted FifoFull place
  unfolding in_order
  one_over [] m c h = absurd (omega (arith, c.1))
  one_over (k ∷ ms) m c h = ⊎_elim
      (λ (e : DoesFit mems s k).
      let later : Contains ms m = ⊎_elim (λ q. absurd (omega (arith, (subst (IsOver mems s) (sym q) h).over))) (λ r. r) (first_or_rest k m ms c) in
      bind_went (keep_depth mems k place) _ s.left (store_of s) tt s.left (store_of s) (keep_fits k e) ∙ bind_halted (in_order (λ m. keep_depth mems m place) ms) _ s.left (store_of s) (Fault FifoFull place) (one_over ms m later h))
      (λ l. bind_halted (keep_depth mems k place) _ s.left (store_of s) (Fault FifoFull place) (keep_is k ∙ ap (keeps_as k) (lt-leb _ _ l) ∙ full k))
      (fit_or_over k)
    where
      fit_or_over : (k : ℕ) → DoesFit mems s k ⊎ (word_count (dims mems k) < length (queue_of (held_of (memory_of s k))))
      fit_or_over k = ⊎_elim (λ l. inr l) (λ l. inl l) (cases_lt (word_count (dims mems k)) (length (queue_of (held_of (memory_of s k)))))

      full : (k : ℕ) → keeps_as k false ≡ faulted FifoFull place
      full k = full_is k

  module _ (body : PlainStmts) where
    ended_as : Bool → Went (List (Unit {0}))
    ended_as b = in_order (λ m. keep_depth mems m place) (cond b (own_fifos mems body) []) s.left (store_of s)

    ended_fits : ((m : ℕ) → Contains (own_mems body) m → is_fifo (mem mems m).kind ≡ true → DoesFit mems s m) → (b : Bool) → (done : List (Unit {0})) × (ended_as b ≡ went done s.left (store_of s))
    unfolding ended_as in_order pure
    ended_fits f true = all_fit (own_fifos mems body) (λ m c. let k = filtered (λ j. is_fifo (mem mems j).kind) (own_mems body) m c in f m k.0 k.1)
    ended_fits f false = ([], refl)

    -- all of them fit
    pub end_fits : ((m : ℕ) → Contains (own_mems body) m → is_fifo (mem mems m).kind ≡ true → DoesFit mems s m) → (done : List (Unit {0})) × (end_block mems Stream body place s.left (store_of s) ≡ went done s.left (store_of s))
    unfolding ended_as
    end_fits f = ended_fits f (is_proper mems body)

    ended_over : (can : CanEnd mems body s) (m : ℕ) → Contains (own_mems body) m → IsOver mems s m → (b : Bool) → is_proper mems body ≡ b → ended_as b ≡ faulted FifoFull place
    unfolding ended_as
    ended_over can m c h true e = one_over (own_fifos mems body) m (filter_has (λ j. is_fifo (mem mems j).kind) (own_mems body) m c h.fifo) h
    ended_over can m c h false e =
        let own = filter_has (λ j. is_fifo (mem mems j).kind) (own_mems body) m c h.fifo in
        let narrow = can.told e m own in
        let inside = (can.setting.sees.live m (can.seen m c)).0 in
        let more = h.roomy (room mems can.setting.roomy m) (can.setting.sees.stored m inside) in
        let same : room mems can.setting.roomy m ≡ word_count (dims mems m) = ap (λ b. cond b (max (word_count (dims mems m)) stream_room) (word_count (dims mems m))) narrow in
        absurd (omega (arith, more, same))

    -- one of them doesn't
    pub end_over : (can : CanEnd mems body s) (m : ℕ) → Contains (own_mems body) m → IsOver mems s m → end_block mems Stream body place s.left (store_of s) ≡ faulted FifoFull place
    unfolding ended_as
    end_over can m c h = ended_over can m c h (is_proper mems body) refl
