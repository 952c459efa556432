-- What a program means: one statement at a time, in the order of the text, by cases on what it is. `roomy` are the FIFOs
-- that proper Stream blocks declare.
use Rattle.std.specs.Prelude.{ℕ, ◌==◌, nat_le, Bool, true, false, List, [], ◌∷◌, ◌++◌, map, length, drop, slice_index}
use Rattle.sp_words.specs.declared.kind.Style.{Style}
use Rattle.sp_words.specs.Interface.{word_count}
use Rattle.sp_words.specs.Memory.{fresh_of}
use Rattle.sp_tree.specs.declared.statement.Comb.{Comb}
use Rattle.sp_tree.specs.declared.statement.FaultKind.TheVariants.{Bounds, RowLength, FifoFull}
use Rattle.sp_tree.specs.Accesses.{hold_now, read_cell, write_cell, enqueue, write_word}
use Rattle.sp_tree.specs.Elements.{index_value, natural, numbers_below, tuples, counter_words}
use Rattle.sp_tree.specs.Expressions.{mem, dims, element, word, words}
use Rattle.sp_tree.specs.Operators.{combined}
use Rattle.sp_tree.specs.PlainProgram.{PlainMem}
use Rattle.sp_tree.specs.PlainStatement.{PlainSpan, single, range, PlainCounter, PlainStmt, PlainStmtKind, PlainStmts, stmt, declare, name, set_reg, set_out, set_sram, enq, load_sram, load_line, store, gather, scatter, block, foreach, reduce, mem_reduce, fsm, branch, no_stmt, more_stmt}
use Rattle.sp_tree.specs.Shape.{Shape, ran, looped, turned, branched, moved, shapes}
use Rattle.sp_tree.specs.Step.{Step, pure, ◌>>=◌, ◌>>◌, turn, ensure, read, change, in_order, as_long_as}
use Rattle.sp_tree.specs.Store.{name_value, set_counter, queue_of}
use Rattle.sp_tree.specs.Streams.{room, fifos_with_room}
use Rattle.sp_tree.specs.Structure.{slice_lanes}
use Rattle.sp_tree.specs.Transfers.{Part, index, between, lengths, load_words, store_words, load_row, transfer, words_by_lane, gather_words, scatter_words}

-- each iteration, with whether it combines: all but the first one do, and that one where the flag is set
abbrev pub combining : Bool → List (List ℕ) → List (Bool × List ℕ)
combining first [] = []
combining first (ws ∷ rest) = (first, ws) ∷ map (λ others. (true, others)) rest

-- the counters stand for these words, and a value for a word
abbrev pub count_now : List PlainCounter → List ℕ → Step (Unit {0})
count_now (c ∷ counters) (w ∷ ws) = do
  change (λ s. set_counter s c.number w)
  count_now counters ws
count_now _ _ = pure tt

abbrev pub name_now : ℕ → ℕ → Step (Unit {0})
name_now number word = change (λ s. name_value s number word)

-- by the declarations of the memories
module _ (mems : List PlainMem) where
  -- the words that a counter takes, by its two bounds
  abbrev pub counter_range : PlainCounter → Step (List ℕ)
  counter_range c = do
    from ← word mems c.from
    until ← word mems c.until
    pure (counter_words from until c.step)

  -- what a span takes
  abbrev pub part : PlainSpan → Step Part
  part (single e) = do
    i ← word mems e
    pure (index (index_value i))
  part (range a b par) = do
    from ← word mems a
    until ← word mems b
    pure (between (index_value from) (index_value until))

  -- a word goes into a cell, alone or combined with what the cell holds
  abbrev pub assign : Comb → (acc : ℕ) → (at : ℕ) → (combines : Bool) → ℕ → (place : ℕ) → Step (Unit {0})
  assign comb acc at false w place = write_cell acc at w
  assign comb acc at true w place = do
    before ← read_cell acc at place
    write_cell acc at (combined comb (mem mems acc).ty before w)

  -- the same for each element of a memory, which takes a turn
  abbrev pub assign_all : Comb → (acc part : ℕ) → (combines : Bool) → (place : ℕ) → Step (List (Unit {0}))
  assign_all comb acc part combines place = in_order (λ at. do
    w ← read_cell part at place
    turn
    assign comb acc at combines w place) (numbers_below (word_count (dims mems acc)))

  -- a FIFO holds no more words than its depth
  abbrev pub keep_depth : ℕ → (place : ℕ) → Step (Unit {0})
  keep_depth m place = do
    ws ← read (λ s. queue_of (s.held m))
    ensure (nat_le (length ws) (word_count (dims mems m))) FifoFull place

  -- so it is at the end of a proper Stream block with each FIFO that the block declares
  abbrev pub end_block : Style → PlainStmts → (place : ℕ) → Step (List (Unit {0}))
  end_block style body place = in_order (λ m. keep_depth m place) (fifos_with_room mems style body)

  module _ (roomy : List ℕ) where
    unfoldable mutual
      pub run : PlainStmt → Step (List Shape)
      run (stmt place kind) = do
        turn
        run_kind kind place

      pub run_kind : PlainStmtKind → (place : ℕ) → Step (List Shape)
      run_kind (declare m) place = do
        hold_now m (fresh_of (mem mems m).kind (dims mems m) (mem mems m).start [])
        pure []
      run_kind (name value e) place = do
        w ← word mems e
        name_now value w
        pure []
      run_kind (set_reg m e) place = do
        w ← word mems e
        write_cell m 0 w
        pure []
      run_kind (set_out m e) place = do
        w ← word mems e
        write_word m 0 w
        pure []
      run_kind (set_sram m indices e) place = do
        is ← words mems indices
        w ← word mems e
        at ← element mems m place is
        write_cell m at w
        pure []
      run_kind (enq m e) place = do
        w ← word mems e
        enqueue m (room mems roomy m) w place
        pure []
      run_kind (load_sram sram dram spans) place = do
        parts ← in_order part spans
        transfer place (dims mems dram) parts Bounds (dims mems sram) (load_words sram (dims mems sram) dram (dims mems dram) parts)
        pure (moved (words_by_lane (slice_lanes spans) (lengths parts)) ∷ [])
      run_kind (load_line line dram spans) place = do
        parts ← in_order part spans
        transfer place (dims mems dram) parts RowLength (drop 1 (dims mems line)) (load_row line (slice_index (dims mems line) 1) dram (dims mems dram) parts)
        pure (moved (words_by_lane (slice_lanes spans) (lengths parts)) ∷ [])
      run_kind (store dram spans sram) place = do
        parts ← in_order part spans
        transfer place (dims mems dram) parts Bounds (dims mems sram) (store_words place sram (dims mems sram) dram (dims mems dram) parts)
        pure (moved (words_by_lane (slice_lanes spans) (lengths parts)) ∷ [])
      run_kind (gather sram dram places e) place = do
        n ← word mems e
        gather_words place sram (word_count (dims mems sram)) dram (word_count (dims mems dram)) places (word_count (dims mems places)) (natural (index_value n))
        pure (moved (natural (index_value n) ∷ []) ∷ [])
      run_kind (scatter dram places e sram) place = do
        n ← word mems e
        scatter_words place dram (word_count (dims mems dram)) places (word_count (dims mems places)) (natural (index_value n)) sram (word_count (dims mems sram))
        pure (moved (natural (index_value n) ∷ []) ∷ [])
      run_kind (block style body) place = do
        inner ← run_all body
        end_block style body place
        pure (ran (shapes inner) ∷ [])
      run_kind (foreach style counters body) place = do
        ranges ← in_order counter_range counters
        bodies ← in_order (λ ws. do
          turn
          count_now counters ws
          inner ← run_all body
          pure (ran (shapes inner))) (tuples ranges)
        pure (looped (map length ranges) (shapes bodies) ∷ [])
      run_kind (reduce style fold acc counters body e comb) place = do
        ranges ← in_order counter_range counters
        bodies ← in_order (λ (combines, ws). do
          turn
          count_now counters ws
          inner ← run_all body
          w ← word mems e
          assign comb acc 0 combines w place
          pure (ran (shapes inner))) (combining fold (tuples ranges))
        pure (looped (map length ranges) (shapes bodies) ∷ [])
      run_kind (mem_reduce style acc counters body part_mem comb) place = do
        ranges ← in_order counter_range counters
        bodies ← in_order (λ (combines, ws). do
          turn
          count_now counters ws
          inner ← run_all body
          assign_all comb acc part_mem combines place
          pure (ran (shapes inner))) (combining false (tuples ranges))
        pure (looped (map length ranges) (shapes bodies) ∷ [])
      run_kind (fsm start tested test state body last next) place = do
        first ← word mems start
        bodies ← as_long_as (λ w. do
          name_now tested w
          holds ← word mems test
          pure (holds == 1)) (λ w. do
            turn
            name_now state w
            inner ← run_all body
            name_now last w
            after ← word mems next
            pure (after, ran (shapes inner))) first
        pure (turned (length bodies) (shapes bodies) ∷ [])
      run_kind (branch test then_body else_body) place = do
        holds ← word mems test
        inner ← elim (holds == 1) [ true ↦ run_all then_body | false ↦ run_all else_body ]
        pure (branched (holds == 1) (ran (shapes inner)) ∷ [])

      -- the statements of a body, with what was run of its controllers and transfers
      pub run_all : PlainStmts → Step (List Shape)
      run_all no_stmt = pure []
      run_all (more_stmt first rest) = do
        one ← run first
        others ← run_all rest
        pure (one ++ others)
