-- What holds of the simplest steps and passes from steps to their sequence holds of every run.
use Rattle.std.proofs.Common.{ℕ, zero, suc, Bool, true, false, IsTrue, List, [], ◌∷◌, Option, Some, None}
use Rattle.std.specs.Prelude.{drop, filter, slice_index, slice_index_or, slice_set, nat_lt, nat_le, length, map, ◌++◌, ◌==◌, if◌then◌else◌}
use Rattle.sp_words.specs.declared.kind.Style.{Style}
use Rattle.sp_words.specs.declared.kind.Style.TheVariants.{Pipe, Sequential, Parallel, Stream}
use Rattle.sp_words.specs.Interface.{word_count}
use Rattle.sp_words.specs.Memory.{Contents, cells, queue, rows, words}
use Rattle.sp_tree.specs.declared.statement.Comb.{Comb}
use Rattle.sp_tree.specs.declared.statement.FaultKind.{FaultKind}
use Rattle.sp_tree.specs.Accesses.{written, read_cell, write_cell, read_line, take_oldest, dequeue, enqueue, read_word, write_word}
use Rattle.sp_tree.specs.Elements.{index_value, natural, is_below, are_inside, tuples, numbers_below}
use Rattle.sp_tree.specs.Expressions.{dims, element, word, word_of, words as all_words}
use Rattle.sp_tree.specs.Footprint.{Names, KindNames, AllName, SpansName, CountersName, StmtNames, StmtKindNames, BodyNames}
use Rattle.sp_tree.specs.PlainExpression.{PlainExpr, PlainExprKind, PlainExprs, expr, literal, counter, value, get_reg, get_arg, get_sram, get_line, deq, one, two, shift, mux, cast, no_expr, more_expr}
use Rattle.sp_tree.specs.PlainProgram.{PlainMem}
use Rattle.sp_tree.specs.PlainStatement.{PlainSpan, single, range, PlainCounter, PlainStmt, PlainStmtKind, PlainStmts, stmt, declare, name, set_reg, set_out, set_sram, enq, load_sram, load_line, store, gather, scatter, block, foreach, reduce, mem_reduce, fsm, branch, no_stmt, more_stmt}
use Rattle.sp_tree.specs.Sequential.{combining, count_now, counter_range, part, assign, assign_all, keep_depth, end_block, run, run_kind, run_all}
use Rattle.sp_tree.specs.Shape.{Shape}
use Rattle.sp_tree.specs.Step.{Step, pure, ◌>>=◌, ◌>>◌, turn, out_of_turns, fault, ensure, read, change, in_order, repeated, as_long_as}
use Rattle.sp_tree.specs.Store.{cells_of, queue_of, rows_of, words_of, hold, name_value, set_counter}
use Rattle.sp_tree.specs.Streams.{own_fifos, is_proper, fifos_with_room}
use Rattle.sp_tree.specs.Structure.{own_mems}
use Rattle.sp_tree.specs.Transfers.{Part, lengths, has_none, are_parts_inside, do_fit, row_of, load_words, store_words, load_row, transfer, all_offsets, place_held, gather_words, scatter_words}

-- the simplest steps, whose memories pass a test, and sequences of steps
pub record IsClosed (Q : (A : Type 0) → Step A → Type 0) (is : ℕ → Bool) : Type 1 where
  pub of_pure : {A : Type 0} (a : A) → Q A (pure a)
  pub of_bind : {A B : Type 0} (step : Step A) (rest : A → Step B) → Q A step → ((a : A) → Q B (rest a)) → Q B (step >>= rest)
  pub of_turn : Q (Unit {0}) turn
  pub of_no_turn : {A : Type 0} → Q A out_of_turns
  pub of_fault : {A : Type 0} (kind : FaultKind) (place : ℕ) → Q A (fault kind place)
  pub of_held : {A : Type 0} (m : ℕ) (f : Option Contents → A) → IsTrue (is m) → Q A (read (λ s. f (s.held m)))
  pub of_value : (v : ℕ) → Q ℕ (read (λ s. s.values v))
  pub of_count : (c : ℕ) → Q ℕ (read (λ s. s.counts c))
  pub of_hold : (m : ℕ) (contents : Contents) → IsTrue (is m) → Q (Unit {0}) (change (λ s. hold s m contents))
  pub of_name : (v w : ℕ) → Q (Unit {0}) (change (λ s. name_value s v w))
  pub of_set : (c w : ℕ) → Q (Unit {0}) (change (λ s. set_counter s c w))

-- loops of turns
abbrev pub Loops : (Q : (A : Type 0) → Step A → Type 0) → Type 1
Loops Q = (A B : Type 0) (test : A → Step Bool) (step : A → Step (A × B)) → ((a : A) → Q Bool (test a)) → ((a : A) → Q (A × B) (step a)) → (a : A) → Q (List B) (as_long_as test (λ x. turn >> step x) a)

module _ (Q : (A : Type 0) → Step A → Type 0) (is : ℕ → Bool) (c : IsClosed Q is) where
  -- memories that pass the test
  abbrev EachPasses : List ℕ → Type 0
  EachPasses [] = Unit {0}
  EachPasses (m ∷ ms) = IsTrue (is m) × EachPasses ms

  pub then_Q : {A B : Type 0} (step : Step A) (rest : Step B) → Q A step → Q B rest → Q B (step >> rest)
  then_Q step rest q r = c.of_bind step (λ _. rest) q (λ _. r)

  ensure_Q : (b : Bool) (kind : FaultKind) (place : ℕ) → Q (Unit {0}) (ensure b kind place)
  ensure_Q true kind place = c.of_pure tt
  ensure_Q false kind place = c.of_fault kind place

  in_order_Q : {A B : Type 0} (step : A → Step B) → ((a : A) → Q B (step a)) → (xs : List A) → Q (List B) (in_order step xs)
  unfolding in_order
  in_order_Q step q [] = c.of_pure []
  in_order_Q step q (x ∷ xs) = c.of_bind _ _ (q x) (λ first. c.of_bind _ _ (in_order_Q step q xs) (λ others. c.of_pure (first ∷ others)))

  chosen_Q : {A : Type 0} (left right : Step A) → Q A left → Q A right → (b : Bool) → Q A (elim b [ true ↦ left | false ↦ right ])
  chosen_Q left right p q true = p
  chosen_Q left right p q false = q

  pub repeated_Q : {A B : Type 0} (test : A → Step Bool) (step : A → Step (A × B)) → ((a : A) → Q Bool (test a)) → ((a : A) → Q (A × B) (step a)) → (most : ℕ) (a : A) → Q (List B) (repeated most test step a)
  unfolding repeated
  repeated_Q test step t q zero a = c.of_bind _ _ (t a) (λ holds. chosen_Q _ _ c.of_no_turn (c.of_pure []) holds)
  repeated_Q test step t q (suc most) a =
      c.of_bind _ _ (t a) (λ holds. chosen_Q _ _
      (c.of_bind _ _ (q a) (λ r. c.of_bind _ _ (repeated_Q test step t q most r.0) (λ others. c.of_pure (r.1 ∷ others)))) (c.of_pure []) holds)

  written_Q : (place : ℕ) (o : Option ℕ) → Q ℕ (written place o)
  written_Q place None = c.of_fault _ place
  written_Q place (Some w) = c.of_pure w

  read_cell_Q : (m at place : ℕ) → IsTrue (is m) → Q ℕ (read_cell m at place)
  read_cell_Q m at place h = c.of_bind _ _ (c.of_held m cells_of h) (λ cs. written_Q place (slice_index_or cs at None))

  write_cell_Q : (m at w : ℕ) → IsTrue (is m) → Q (Unit {0}) (write_cell m at w)
  write_cell_Q m at w h = c.of_bind _ _ (c.of_held m cells_of h) (λ cs. c.of_hold m (cells (slice_set cs at (Some w))) h)

  read_line_Q : (m row column place : ℕ) → IsTrue (is m) → Q ℕ (read_line m row column place)
  read_line_Q m row column place h = c.of_bind _ _ (c.of_held m rows_of h) (λ rs. written_Q place (slice_index_or (slice_index_or rs row []) column None))

  take_oldest_Q : (m place : ℕ) (ws : List ℕ) → IsTrue (is m) → Q ℕ (take_oldest m place ws)
  take_oldest_Q m place [] h = c.of_fault _ place
  take_oldest_Q m place (w ∷ ws) h = then_Q _ _ (c.of_hold m (queue ws) h) (c.of_pure w)

  dequeue_Q : (m place : ℕ) → IsTrue (is m) → Q ℕ (dequeue m place)
  dequeue_Q m place h = c.of_bind _ _ (c.of_held m queue_of h) (λ ws. take_oldest_Q m place ws h)

  enqueue_Q : (m depth w place : ℕ) → IsTrue (is m) → Q (Unit {0}) (enqueue m depth w place)
  enqueue_Q m depth w place h = c.of_bind _ _ (c.of_held m queue_of h) (λ ws. then_Q _ _ (ensure_Q (nat_lt (length ws) depth) _ place) (c.of_hold m (queue (ws ++ w ∷ [])) h))

  read_word_Q : (m at : ℕ) → IsTrue (is m) → Q ℕ (read_word m at)
  read_word_Q m at h = c.of_held m (λ o. slice_index (words_of o) at) h

  write_word_Q : (m at w : ℕ) → IsTrue (is m) → Q (Unit {0}) (write_word m at w)
  write_word_Q m at w h = c.of_bind _ _ (c.of_held m words_of h) (λ ws. c.of_hold m (words (slice_set ws at w)) h)

  count_now_Q : (counters : List PlainCounter) (ws : List ℕ) → Q (Unit {0}) (count_now counters ws)
  count_now_Q [] ws = c.of_pure tt
  count_now_Q (n ∷ counters) [] = c.of_pure tt
  count_now_Q (n ∷ counters) (w ∷ ws) = then_Q _ _ (c.of_set n.number w) (count_now_Q counters ws)

  module _ (mems : List PlainMem) where
    element_Q : (m place : ℕ) (indices : List ℕ) → Q ℕ (element mems m place indices)
    element_Q m place indices = then_Q _ _ (ensure_Q (are_inside (dims mems m) (map index_value indices)) _ place) (c.of_pure _)

    mutual
      unfolding word

      pub word_Q : (e : PlainExpr) → Names is e → Q ℕ (word mems e)
      word_Q (expr place ty kind) h = word_of_Q kind place ty h

      pub word_of_Q : (k : PlainExprKind) (place : ℕ) (ty : _) → KindNames is k → Q ℕ (word_of mems k place ty)
      word_of_Q (literal w) place ty h = c.of_pure w
      word_of_Q (counter n) place ty h = c.of_count n
      word_of_Q (value v) place ty h = c.of_value v
      word_of_Q (get_reg m) place ty h = read_cell_Q m 0 place h
      word_of_Q (get_arg m) place ty h = read_word_Q m 0 h
      word_of_Q (get_sram m indices) place ty h =
          c.of_bind _ _ (words_Q indices h.1) (λ is. c.of_bind _ _ (element_Q m place is) (λ at. read_cell_Q m at place h.0))
      word_of_Q (get_line m row column) place ty h =
          c.of_bind _ _ (word_Q row h.1) (λ r. c.of_bind _ _ (word_Q column h.2) (λ k. then_Q _ _ (ensure_Q (are_inside (dims mems m) (map index_value (r ∷ k ∷ []))) _ place) (read_line_Q m _ _ place h.0)))
      word_of_Q (deq m) place ty h = dequeue_Q m place h
      word_of_Q (one op a) place ty h = c.of_bind _ _ (word_Q a h) (λ x. c.of_pure _)
      word_of_Q (two op a b) place ty h = c.of_bind _ _ (word_Q a h.0) (λ x. c.of_bind _ _ (word_Q b h.1) (λ y. c.of_pure _))
      word_of_Q (shift left a by) place ty h = c.of_bind _ _ (word_Q a h) (λ x. c.of_pure _)
      word_of_Q (mux k a b) place ty h =
          c.of_bind _ _ (word_Q k h.0) (λ x. c.of_bind _ _ (word_Q a h.1) (λ y. c.of_bind _ _ (word_Q b h.2) (λ z. c.of_pure _)))
      word_of_Q (cast a) place ty h = c.of_bind _ _ (word_Q a h) (λ x. c.of_pure _)

      pub words_Q : (es : PlainExprs) → AllName is es → Q (List ℕ) (all_words mems es)
      words_Q no_expr h = c.of_pure []
      words_Q (more_expr e rest) h = c.of_bind _ _ (word_Q e h.0) (λ first. c.of_bind _ _ (words_Q rest h.1) (λ others. c.of_pure _))

    counter_range_Q : (n : PlainCounter) → Names is n.from → Names is n.until → Q (List ℕ) (counter_range mems n)
    counter_range_Q n f u = c.of_bind _ _ (word_Q n.from f) (λ a. c.of_bind _ _ (word_Q n.until u) (λ b. c.of_pure _))

    ranges_Q : (counters : List PlainCounter) → CountersName is counters → Q (List (List ℕ)) (in_order (counter_range mems) counters)
    unfolding in_order
    ranges_Q [] h = c.of_pure []
    ranges_Q (n ∷ counters) h = c.of_bind _ _ (counter_range_Q n h.0 h.1) (λ first. c.of_bind _ _ (ranges_Q counters h.2) (λ others. c.of_pure (first ∷ others)))

    parts_Q : (spans : List PlainSpan) → SpansName is spans → Q (List Part) (in_order (part mems) spans)
    unfolding in_order
    parts_Q [] h = c.of_pure []
    parts_Q (single e ∷ spans) h =
        c.of_bind _ _ (c.of_bind _ _ (word_Q e h.0) (λ i. c.of_pure _)) (λ first. c.of_bind _ _ (parts_Q spans h.1) (λ others. c.of_pure (first ∷ others)))
    parts_Q (range a b par ∷ spans) h =
        c.of_bind _ _ (c.of_bind _ _ (word_Q a h.0) (λ x. c.of_bind _ _ (word_Q b h.1) (λ y. c.of_pure _))) (λ first. c.of_bind _ _ (parts_Q spans h.2) (λ others. c.of_pure (first ∷ others)))

    assign_Q : (comb : Comb) (acc at : ℕ) (combines : Bool) (w place : ℕ) → IsTrue (is acc) → Q (Unit {0}) (assign mems comb acc at combines w place)
    assign_Q comb acc at false w place h = write_cell_Q acc at w h
    assign_Q comb acc at true w place h = c.of_bind _ _ (read_cell_Q acc at place h) (λ before. write_cell_Q acc at _ h)

    assign_all_Q : (comb : Comb) (acc part : ℕ) (combines : Bool) (place : ℕ) → IsTrue (is acc) → IsTrue (is part) → Q (List (Unit {0})) (assign_all mems comb acc part combines place)
    assign_all_Q comb acc part combines place h k =
        in_order_Q _ (λ at. c.of_bind _ _ (read_cell_Q part at place k) (λ w. then_Q _ _ c.of_turn (assign_Q comb acc at combines w place h))) _

    load_words_Q : (sram : ℕ) (sd : List ℕ) (dram : ℕ) (dd : List ℕ) (parts : List Part) → IsTrue (is sram) → IsTrue (is dram) → Q (List (Unit {0})) (load_words sram sd dram dd parts)
    load_words_Q sram sd dram dd parts h k =
        in_order_Q _ (λ offsets. c.of_bind _ _ (read_word_Q dram _ k) (λ w. then_Q _ _ c.of_turn (write_cell_Q sram _ w h))) (all_offsets parts)

    store_words_Q : (place sram : ℕ) (sd : List ℕ) (dram : ℕ) (dd : List ℕ) (parts : List Part) → IsTrue (is sram) → IsTrue (is dram) → Q (List (Unit {0})) (store_words place sram sd dram dd parts)
    store_words_Q place sram sd dram dd parts h k =
        in_order_Q _ (λ offsets. c.of_bind _ _ (read_cell_Q sram _ place h) (λ w. then_Q _ _ c.of_turn (write_word_Q dram _ w k))) (all_offsets parts)

    load_row_Q : (line width dram : ℕ) (dd : List ℕ) (parts : List Part) → IsTrue (is line) → IsTrue (is dram) → Q (Unit {0}) (load_row line width dram dd parts)
    load_row_Q line width dram dd parts h k =
        c.of_bind _ _ (in_order_Q _ (λ offsets. c.of_bind _ _ (read_word_Q dram _ k) (λ w. then_Q _ _ c.of_turn (c.of_pure w))) (all_offsets parts))
        (λ ws. c.of_bind _ _ (c.of_held line rows_of h) (λ rs. c.of_hold line (rows (drop 1 rs ++ row_of width ws ∷ [])) h))

    transfer_Q : {A : Type 0} (place : ℕ) (dd : List ℕ) (parts : List Part) (kind : FaultKind) (limits : List ℕ) (move : Step A) → Q A move → Q (Unit {0}) (transfer place dd parts kind limits move)
    transfer_Q place dd parts kind limits move q =
        chosen_Q _ _ (c.of_pure tt)
        (then_Q _ _ (ensure_Q (are_parts_inside dd parts) _ place) (then_Q _ _ (ensure_Q (do_fit limits (lengths parts)) kind place) (then_Q _ _ q (c.of_pure _))))
        (has_none (lengths parts))

    place_held_Q : (places held size k place : ℕ) → IsTrue (is places) → Q ℕ (place_held places held size k place)
    place_held_Q places held size k place h =
        then_Q _ _ (ensure_Q (nat_lt k held) _ place) (c.of_bind _ _ (read_cell_Q places k place h) (λ w. then_Q _ _ (ensure_Q (is_below (index_value w) size) _ place) (c.of_pure _)))

    gather_words_Q : (place sram size dram dram_words places held count : ℕ) → IsTrue (is sram) → IsTrue (is dram) → IsTrue (is places) → Q (List (Unit {0})) (gather_words place sram size dram dram_words places held count)
    gather_words_Q place sram size dram dram_words places held count h k l =
        in_order_Q _ (λ i. c.of_bind _ _ (place_held_Q places held dram_words i place l) (λ at. then_Q _ _ (ensure_Q (nat_lt i size) _ place) (c.of_bind _ _ (read_word_Q dram at k) (λ w. then_Q _ _ c.of_turn (write_cell_Q sram i w h))))) (numbers_below count)

    scatter_words_Q : (place dram dram_words places held count sram size : ℕ) → IsTrue (is dram) → IsTrue (is places) → IsTrue (is sram) → Q (List (Unit {0})) (scatter_words place dram dram_words places held count sram size)
    scatter_words_Q place dram dram_words places held count sram size h k l =
        in_order_Q _ (λ i. c.of_bind _ _ (place_held_Q places held dram_words i place k) (λ at. then_Q _ _ (ensure_Q (nat_lt i size) _ place) (c.of_bind _ _ (read_cell_Q sram i place l) (λ w. then_Q _ _ c.of_turn (write_word_Q dram at w h))))) (numbers_below count)

    -- the FIFOs of a block are among the memories that its statements name
    own_pass : (body : PlainStmts) → BodyNames is body → EachPasses (own_mems body)
    own_pass no_stmt h = tt
    own_pass (more_stmt (stmt place (declare m)) rest) h = (h.0, own_pass rest h.1)
    own_pass (more_stmt (stmt place (name v e)) rest) h = own_pass rest h.1
    own_pass (more_stmt (stmt place (set_reg m e)) rest) h = own_pass rest h.1
    own_pass (more_stmt (stmt place (set_out m e)) rest) h = own_pass rest h.1
    own_pass (more_stmt (stmt place (set_sram m indices e)) rest) h = own_pass rest h.1
    own_pass (more_stmt (stmt place (enq m e)) rest) h = own_pass rest h.1
    own_pass (more_stmt (stmt place (load_sram sram dram spans)) rest) h = own_pass rest h.1
    own_pass (more_stmt (stmt place (load_line line dram spans)) rest) h = own_pass rest h.1
    own_pass (more_stmt (stmt place (store dram spans sram)) rest) h = own_pass rest h.1
    own_pass (more_stmt (stmt place (gather sram dram places count)) rest) h = own_pass rest h.1
    own_pass (more_stmt (stmt place (scatter dram places count sram)) rest) h = own_pass rest h.1
    own_pass (more_stmt (stmt place (block style body)) rest) h = own_pass rest h.1
    own_pass (more_stmt (stmt place (foreach style counters body)) rest) h = own_pass rest h.1
    own_pass (more_stmt (stmt place (reduce style fold acc counters body e comb)) rest) h = own_pass rest h.1
    own_pass (more_stmt (stmt place (mem_reduce style acc counters body part comb)) rest) h = own_pass rest h.1
    own_pass (more_stmt (stmt place (fsm start tested test state body last next)) rest) h = own_pass rest h.1
    own_pass (more_stmt (stmt place (branch test first second)) rest) h = own_pass rest h.1

    filter_pass : (p : ℕ → Bool) (ms : List ℕ) → EachPasses ms → EachPasses (filter p ms)
    filter_pass p [] h = tt
    filter_pass p (m ∷ ms) h =
        let rest = filter_pass p ms h.1 in
        elim (p m) as (λ b. EachPasses (if b then m ∷ filter p ms else filter p ms)) [ true ↦ (h.0, rest) | false ↦ rest ]

    keep_all_Q : (place : ℕ) (ms : List ℕ) → EachPasses ms → Q (List (Unit {0})) (in_order (λ m. keep_depth mems m place) ms)
    unfolding in_order
    keep_all_Q place [] h = c.of_pure []
    keep_all_Q place (m ∷ ms) h =
        c.of_bind _ _ (c.of_bind _ _ (c.of_held m queue_of h.0) (λ ws. ensure_Q (nat_le (length ws) (word_count (dims mems m))) _ place)) (λ first. c.of_bind _ _ (keep_all_Q place ms h.1) (λ others. c.of_pure (first ∷ others)))

    with_room_pass : (style : Style) (body : PlainStmts) → BodyNames is body → EachPasses (fifos_with_room mems style body)
    with_room_pass Pipe body h = tt
    with_room_pass Sequential body h = tt
    with_room_pass Parallel body h = tt
    with_room_pass Stream body h = chosen (is_proper mems body)
      where
        chosen : (b : Bool) → EachPasses (if b then own_fifos mems body else [])
        chosen true = filter_pass _ (own_mems body) (own_pass body h)
        chosen false = tt

    end_block_Q : (style : Style) (body : PlainStmts) (place : ℕ) → BodyNames is body → Q (List (Unit {0})) (end_block mems style body place)
    end_block_Q style body place h = keep_all_Q place (fifos_with_room mems style body) (with_room_pass style body h)

    module _ (roomy : List ℕ) (loops : Loops Q) where
      mutual
        unfolding run

        pub run_Q : (s : PlainStmt) → StmtNames is s → Q (List Shape) (run mems roomy s)
        run_Q (stmt place kind) h = then_Q _ _ c.of_turn (run_kind_Q kind place h)

        pub run_kind_Q : (k : PlainStmtKind) (place : ℕ) → StmtKindNames is k → Q (List Shape) (run_kind mems roomy k place)
        run_kind_Q (declare m) place h = then_Q _ _ (c.of_hold m _ h) (c.of_pure [])
        run_kind_Q (name v e) place h = c.of_bind _ _ (word_Q e h) (λ w. then_Q _ _ (c.of_name v w) (c.of_pure []))
        run_kind_Q (set_reg m e) place h = c.of_bind _ _ (word_Q e h.1) (λ w. then_Q _ _ (write_cell_Q m 0 w h.0) (c.of_pure []))
        run_kind_Q (set_out m e) place h = c.of_bind _ _ (word_Q e h.1) (λ w. then_Q _ _ (write_word_Q m 0 w h.0) (c.of_pure []))
        run_kind_Q (set_sram m indices e) place h =
            c.of_bind _ _ (words_Q indices h.1) (λ is. c.of_bind _ _ (word_Q e h.2) (λ w. c.of_bind _ _ (element_Q m place is) (λ at. then_Q _ _ (write_cell_Q m at w h.0) (c.of_pure []))))
        run_kind_Q (enq m e) place h = c.of_bind _ _ (word_Q e h.1) (λ w. then_Q _ _ (enqueue_Q m _ w place h.0) (c.of_pure []))
        run_kind_Q (load_sram sram dram spans) place h =
            c.of_bind _ _ (parts_Q spans h.2) (λ parts. then_Q _ _ (transfer_Q place (dims mems dram) parts _ (dims mems sram) _ (load_words_Q sram (dims mems sram) dram (dims mems dram) parts h.0 h.1)) (c.of_pure _))
        run_kind_Q (load_line line dram spans) place h =
            c.of_bind _ _ (parts_Q spans h.2) (λ parts. then_Q _ _ (transfer_Q place (dims mems dram) parts _ (drop 1 (dims mems line)) _ (load_row_Q line _ dram (dims mems dram) parts h.0 h.1)) (c.of_pure _))
        run_kind_Q (store dram spans sram) place h =
            c.of_bind _ _ (parts_Q spans h.2) (λ parts. then_Q _ _ (transfer_Q place (dims mems dram) parts _ (dims mems sram) _ (store_words_Q place sram (dims mems sram) dram (dims mems dram) parts h.0 h.1)) (c.of_pure _))
        run_kind_Q (gather sram dram places count) place h =
            c.of_bind _ _ (word_Q count h.3) (λ n. then_Q _ _ (gather_words_Q place sram (word_count (dims mems sram)) dram (word_count (dims mems dram)) places (word_count (dims mems places)) (natural (index_value n)) h.0 h.1 h.2) (c.of_pure _))
        run_kind_Q (scatter dram places count sram) place h =
            c.of_bind _ _ (word_Q count h.2) (λ n. then_Q _ _ (scatter_words_Q place dram (word_count (dims mems dram)) places (word_count (dims mems places)) (natural (index_value n)) sram (word_count (dims mems sram)) h.0 h.1 h.3) (c.of_pure _))
        run_kind_Q (block style body) place h =
            c.of_bind _ _ (run_all_Q body h) (λ inner. then_Q _ _ (end_block_Q style body place h) (c.of_pure _))
        run_kind_Q (foreach style counters body) place h =
            c.of_bind _ _ (ranges_Q counters h.0) (λ ranges. c.of_bind _ _
            (in_order_Q _ (λ ws. then_Q _ _ c.of_turn (then_Q _ _ (count_now_Q counters ws) (c.of_bind _ _ (run_all_Q body h.1) (λ inner. c.of_pure _)))) (tuples ranges))
            (λ bodies. c.of_pure _))
        run_kind_Q (reduce style fold acc counters body e comb) place h =
            c.of_bind _ _ (ranges_Q counters h.1) (λ ranges. c.of_bind _ _
            (in_order_Q _ (λ it. then_Q _ _ c.of_turn (then_Q _ _ (count_now_Q counters it.1) (c.of_bind _ _ (run_all_Q body h.2) (λ inner. c.of_bind _ _ (word_Q e h.3) (λ w. then_Q _ _ (assign_Q comb acc 0 it.0 w place h.0) (c.of_pure _)))))) (combining fold (tuples ranges)))
            (λ bodies. c.of_pure _))
        run_kind_Q (mem_reduce style acc counters body part comb) place h =
            c.of_bind _ _ (ranges_Q counters h.2) (λ ranges. c.of_bind _ _
            (in_order_Q _ (λ it. then_Q _ _ c.of_turn (then_Q _ _ (count_now_Q counters it.1) (c.of_bind _ _ (run_all_Q body h.3) (λ inner. then_Q _ _ (assign_all_Q comb acc part it.0 place h.0 h.1) (c.of_pure _))))) (combining false (tuples ranges)))
            (λ bodies. c.of_pure _))
        run_kind_Q (fsm start tested test state body last next) place h =
            c.of_bind _ _ (word_Q start h.0) (λ first. c.of_bind _ _
            (loops _ _ _ _ (λ w. then_Q _ _ (c.of_name tested w) (c.of_bind _ _ (word_Q test h.1) (λ holds. c.of_pure _)))
            (λ w. then_Q _ _ (c.of_name state w) (c.of_bind _ _ (run_all_Q body h.2) (λ inner. then_Q _ _ (c.of_name last w) (c.of_bind _ _ (word_Q next h.3) (λ after. c.of_pure _))))) first)
            (λ bodies. c.of_pure _))
        run_kind_Q (branch test first second) place h =
            c.of_bind _ _ (word_Q test h.0) (λ holds. c.of_bind _ _ (chosen_Q _ _ (run_all_Q first h.1) (run_all_Q second h.2) (holds == 1)) (λ inner. c.of_pure _))

        pub run_all_Q : (b : PlainStmts) → BodyNames is b → Q (List Shape) (run_all mems roomy b)
        run_all_Q no_stmt h = c.of_pure []
        run_all_Q (more_stmt s rest) h = c.of_bind _ _ (run_Q s h.0) (λ first. c.of_bind _ _ (run_all_Q rest h.1) (λ others. c.of_pure _))
