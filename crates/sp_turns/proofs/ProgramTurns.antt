-- The run of a body takes at least as many turns as what is counted in it is read as, along the outline of the body.
use Rattle.std.proofs.Common.{◌≡◌, ℕ, suc, ◌+◌, ◌≤◌, Bool, true, false, ◌==◌, List, [], ◌∷◌, ◌++◌, refl, sym, ◌∙◌, ap, arith}
use Rattle.std.specs.Prelude.{length, map, drop, slice_index}
use Rattle.sp_words.specs.Interface.{word_count}
use Rattle.sp_words.specs.Memory.{fresh_of}
use Rattle.sp_tree.specs.declared.statement.FaultKind.TheVariants.{Bounds, RowLength}
use Rattle.sp_tree.specs.Accesses.{hold_now, write_cell, write_word, enqueue}
use Rattle.sp_tree.specs.Elements.{index_value, natural, tuples}
use Rattle.sp_tree.specs.Expressions.{mem, dims, element, word, words as all_words}
use Rattle.sp_tree.specs.PlainExpression.{PlainExpr}
use Rattle.sp_tree.specs.PlainProgram.{PlainMem}
use Rattle.sp_tree.specs.PlainStatement.{PlainSpan, single, range, PlainStmtKind, PlainStmts, stmt, declare, name, set_reg, set_out, set_sram, enq, load_sram, load_line, store, gather, scatter, block, foreach, reduce, mem_reduce, fsm, branch, no_stmt, more_stmt}
use Rattle.sp_tree.specs.Sequential.{combining, count_now, name_now, counter_range, part, assign, assign_all, end_block, run, run_kind, run_all}
use Rattle.sp_tree.specs.Shape.{Shape, ran, looped, turned, branched, moved, shapes}
use Rattle.sp_tree.specs.Step.{Step, went, pure, ◌>>=◌, ◌>>◌, turn, in_order, as_long_as}
use Rattle.sp_tree.specs.Store.{Store}
use Rattle.sp_tree.specs.Streams.{room}
use Rattle.sp_tree.specs.Structure.{slice_lanes}
use Rattle.sp_tree.specs.Transfers.{Part, index, between, lengths, has_none, all_offsets, load_words, store_words, load_row, transfer, words_by_lane, gather_words, scatter_words}
use Rattle.sp_core.specs.Cost.{sum_of}
use Rattle.sp_sugar.proofs.StepLemmas.{same_answer, taken_apart}
use Rattle.sp_same.specs.Counts.{Count, taken, words, counts_in, counts_in_all}
use Rattle.sp_same.proofs.LaneCounts.{numbers_length}
use Rattle.sp_turns.proofs.Outlines.{Outlines, loop_of, fsm_of, branch_of, transfer as transferred, no_outline, only, joined, Spent, besides, spent, spent_all, Reads, reads_nothing, reads_only, reads_besides, reads_joined}
use Rattle.sp_turns.proofs.Falling.{Takes, takes_less, pure_takes, still_bind, turn_takes}
use Rattle.sp_turns.proofs.LaneSums.{tuple_count, offset_count, none_counted, lane_words_within}
use Rattle.sp_turns.proofs.Steady.{hold_takes, write_takes, put_takes, enqueue_takes, name_takes, count_takes, word_takes, words_take, element_takes, ranges_take, parts_take, assign_takes, assign_all_takes, load_takes, store_takes, row_takes, transfer_takes, gather_takes, scatter_takes, end_takes}
use Rattle.sp_turns.proofs.Counted.{no_more_counts, did, counts_of_both, reads_same, Counted, Gives, gives_pure, gives_after, counted_pure, counted_after, counted_known, counted_then, each_counted, turns_counted, reads_loop, reads_fsm}

combining_count : (b : Bool) (xs : List (List ℕ)) → length (combining b xs) ≡ length xs
combining_count b [] = refl
combining_count b (x ∷ xs) = ap suc (go xs)
  where
    go : (ys : List (List ℕ)) → length {A = Bool × List ℕ} (map (λ others. (true, others)) ys) ≡ length ys
    go [] = refl
    go (y ∷ ys) = ap suc (go ys)

module _ (mems : List PlainMem) where
  -- what is counted in the runs of a statement
  unfoldable mutual
    pub outline_of : PlainStmtKind → Outlines
    outline_of (load_sram sram dram spans) = only transferred
    outline_of (load_line line dram spans) = only transferred
    outline_of (store dram spans sram) = only transferred
    outline_of (gather sram dram places e) = only transferred
    outline_of (scatter dram places e sram) = only transferred
    outline_of (block style body) = outline body
    outline_of (foreach style counters body) = only (loop_of 0 (outline body))
    outline_of (reduce style fold acc counters body e comb) = only (loop_of 0 (outline body))
    outline_of (mem_reduce style acc counters body part_mem comb) = only (loop_of (word_count (dims mems acc)) (outline body))
    outline_of (fsm start tested test state body last next) = only (fsm_of (outline body))
    outline_of (branch test first second) = only (branch_of (outline first) (outline second))
    outline_of _ = no_outline

    pub outline : PlainStmts → Outlines
    outline no_stmt = no_outline
    outline (more_stmt (stmt place kind) rest) = joined (outline_of kind) (outline rest)

  -- a slice without ranges has one lane
  no_lanes : (spans : List PlainSpan) (left rest : ℕ) (s after : Store) (parts : List Part) → in_order (part mems) spans left s ≡ went parts rest after → lengths parts ≡ [] → slice_lanes spans ≡ 1
  unfolding in_order pure
  no_lanes [] left rest s after parts e none = refl
  no_lanes (single i ∷ spans) left rest s after parts e none =
      let x = taken_apart (part mems (single i)) (λ first. in_order (part mems) spans >>= (λ others. pure (first ∷ others))) left s parts rest after e in
      let y = taken_apart (in_order (part mems) spans) (λ others. pure (x.answer ∷ others)) x.between x.store parts rest after x.second in
      let z = taken_apart (word mems i) (λ w. pure (index (index_value w))) left s x.answer x.between x.store x.first in
      let first : index (index_value z.answer) ≡ x.answer = same_answer (index (index_value z.answer)) x.answer z.between x.between z.store x.store z.second in
      no_lanes spans x.between y.between x.store y.store y.answer y.first
      (ap (λ p. lengths (p ∷ y.answer)) first ∙ ap lengths (same_answer (x.answer ∷ y.answer) parts y.between rest y.store after y.second) ∙ none)
  no_lanes (range a b par ∷ spans) left rest s after parts e none =
      let x = taken_apart (part mems (range a b par)) (λ first. in_order (part mems) spans >>= (λ others. pure (first ∷ others))) left s parts rest after e in
      let y = taken_apart (in_order (part mems) spans) (λ others. pure (x.answer ∷ others)) x.between x.store parts rest after x.second in
      let z = taken_apart (word mems a) (λ v. word mems b >>= (λ w. pure (between (index_value v) (index_value w)))) left s x.answer x.between x.store x.first in
      let u = taken_apart (word mems b) (λ w. pure (between (index_value z.answer) (index_value w))) z.between z.store x.answer x.between x.store z.second in
      let range_part : Part = between (index_value z.answer) (index_value u.answer) in
      let first : range_part ≡ x.answer = same_answer range_part x.answer u.between x.between u.store x.store u.second in
      let some : suc (length (lengths y.answer)) ≡ 0 = ap (λ p. length (lengths (p ∷ y.answer))) first ∙ ap (λ l. length (lengths l)) (same_answer (x.answer ∷ y.answer) parts y.between rest y.store after y.second) ∙ ap length none in
      absurd (omega (arith, some))

  -- a transfer that moves so many words, by lanes
  module _ {A : Type 0} (move : Step A) (ns : List ℕ) (takes : Takes move (sum_of ns)) where
    reads_moved : Reads (spent_all (only transferred)) (did (moved ns ∷ [])) (suc (sum_of ns))
    unfolding spent counts_in counts_in_all
    reads_moved = reads_only transferred (words ns ∷ []) (suc (sum_of ns)) (λ rest. refl)

    moved_counts : Counted 1 (move >>= (λ _. pure (moved ns ∷ []))) (spent_all (only transferred)) did
    moved_counts = counted_after move (λ _. pure (moved ns ∷ [])) (sum_of ns) 1 (suc (sum_of ns)) (spent_all (only transferred)) did (omega arith) takes (λ _. counted_pure (moved ns ∷ []) (suc (sum_of ns)) (suc (sum_of ns)) (spent_all (only transferred)) did reads_moved (omega arith))

  -- of the words of a slice
  module _ (spans : List PlainSpan) (moves : List Part → Step (Unit {0})) (takes : (parts : List Part) (n : ℕ) → (has_none (lengths parts) ≡ true → n ≡ 0) → n ≤ length (all_offsets parts) → Takes (moves parts) n) where
    abbrev by_lane : List Part → List ℕ
    by_lane parts = words_by_lane (slice_lanes spans) (lengths parts)

    slice_counts : Counted 1 (in_order (part mems) spans >>= (λ parts. moves parts >>= (λ _. pure (moved (by_lane parts) ∷ [])))) (spent_all (only transferred)) did
    slice_counts = counted_known (in_order (part mems) spans) (λ parts. moves parts >>= (λ _. pure (moved (by_lane parts) ∷ []))) 1 (spent_all (only transferred)) did (parts_take mems spans)
        (λ parts left rest s after e.
        let few = lane_words_within (slice_lanes spans) (lengths parts) (no_lanes spans left rest s after parts e) in
        let all = offset_count (lengths parts) in
        moved_counts (moves parts) (by_lane parts) (takes parts (sum_of (by_lane parts)) (λ none. let f = none_counted (lengths parts) none in omega (arith, f, few)) (omega (arith, few, all))))

  module _ (roomy : List ℕ) where
    -- the whole body, and a loop's iteration
    BodyCounts : PlainStmts → Type 0
    BodyCounts body = Counted 0 (run_all mems roomy body) (spent_all (outline body)) did

    -- an iteration takes a turn, enters, runs its body, and takes so many turns more
    iteration : {A B : Type 0} (counts : B → List Count) (enter : Step A) (body : PlainStmts) (more : List Shape → Step B) (n : ℕ) → Takes enter 0 → BodyCounts body → ((inner : List Shape) → Gives counts (more inner) n (did inner))
        → Counted 0 (turn >> (enter >> (run_all mems roomy body >>= more))) (besides (suc n) (spent_all (outline body))) counts
    unfolding BodyCounts
    iteration counts enter body more n still counted gives =
        let read : List Count → Spent = besides (suc n) (spent_all (outline body)) in
        counted_after turn (λ _. enter >> (run_all mems roomy body >>= more)) 1 0 1 read counts (omega arith) turn_takes
        (λ _. counted_after enter (λ _. run_all mems roomy body >>= more) 0 1 1 read counts (omega arith) still
        (λ _. counted_then (run_all mems roomy body) more 0 n (suc n) 1 (spent_all (outline body)) read did did counts counted gives
        (λ inner k h. reads_besides (suc n) (spent_all (outline body)) (did inner) k h) (omega arith)))

    -- a loop, by its iterations
    loop_counts : {X : Type 0} (ns : List ℕ) (each : X → Step Shape) (xs : List X) (more : ℕ) (body : PlainStmts) → length xs ≡ word_count ns → ((x : X) → Counted 0 (each x) (besides (suc more) (spent_all (outline body))) counts_in)
        → Counted 1 (in_order each xs >>= (λ bodies. pure (looped ns (shapes bodies) ∷ []))) (spent_all (only (loop_of more (outline body)))) did
    loop_counts ns each xs more body e one left rest s after a goes =
        let x = taken_apart (in_order each xs) (λ bodies. pure (looped ns (shapes bodies) ∷ [])) left s a rest after goes in
        let y = each_counted each (besides (suc more) (spent_all (outline body))) counts_in one xs left x.between s x.store x.answer x.first in
        let z = counted_pure (looped ns (shapes x.answer) ∷ []) y.0 y.0 (spent_all (only (loop_of more (outline body)))) did (reads_loop more (outline body) ns x.answer y.0 (y.2 ∙ e) y.1) (omega arith) x.between rest x.store after a x.second in
        (z.0, z.1, omega (arith, z.2, y.3))

    -- an FSM, by its turns
    fsm_counts : (test : ℕ → Step Bool) (step : ℕ → Step (ℕ × Shape)) (first : ℕ) (body : PlainStmts) → ((w : ℕ) → Takes (test w) 0) → ((w : ℕ) → Counted 0 (step w) (besides 1 (spent_all (outline body))) (λ (r : ℕ × Shape). counts_in r.1))
        → Counted 1 (as_long_as test step first >>= (λ bodies. pure (turned (length bodies) (shapes bodies) ∷ []))) (spent_all (only (fsm_of (outline body)))) did
    unfolding as_long_as
    fsm_counts test step first body still one left rest s after a goes =
        let x = taken_apart (as_long_as test step first) (λ bodies. pure (turned (length bodies) (shapes bodies) ∷ [])) left s a rest after goes in
        let y = turns_counted test step (besides 1 (spent_all (outline body))) counts_in still one left first left x.between s x.store x.answer x.first in
        let z = counted_pure (turned (length x.answer) (shapes x.answer) ∷ []) y.0 y.0 (spent_all (only (fsm_of (outline body)))) did (reads_fsm (outline body) x.answer y.0 y.1) (omega arith) x.between rest x.store after a x.second in
        (z.0, z.1, omega (arith, z.2, y.2))

    -- one run of a body
    did_ran : (inner : List Shape) → did inner ≡ did (ran (shapes inner) ∷ [])
    unfolding counts_in counts_in_all
    did_ran inner = sym (no_more_counts (did inner))

    -- the block of a branch that was taken
    taken_counts : (b : Bool) (first second : PlainStmts) → BodyCounts first → BodyCounts second
        → Counted 1 ((elim b as (λ _. Step (List Shape)) [ true ↦ run_all mems roomy first | false ↦ run_all mems roomy second ]) >>= (λ inner. pure (branched b (ran (shapes inner)) ∷ []))) (spent_all (only (branch_of (outline first) (outline second)))) did
    unfolding BodyCounts spent counts_in counts_in_all
    taken_counts true first second f g =
        counted_then (run_all mems roomy first) (λ inner. pure (branched true (ran (shapes inner)) ∷ [])) 0 0 0 1 (spent_all (outline first)) (spent_all (only (branch_of (outline first) (outline second)))) did (λ inner. did (branched true (ran (shapes inner)) ∷ [])) did f
        (λ inner. gives_pure did (branched true (ran (shapes inner)) ∷ []))
        (λ inner k h. reads_same (spent_all (only (branch_of (outline first) (outline second)))) (taken true ∷ did inner) (taken true ∷ did inner ++ []) k (0 + k) (ap (λ l. taken true ∷ l) (sym (no_more_counts (did inner)))) (omega arith) (reads_only (branch_of (outline first) (outline second)) (taken true ∷ did inner) k h)) (omega arith)
    taken_counts false first second f g =
        counted_then (run_all mems roomy second) (λ inner. pure (branched false (ran (shapes inner)) ∷ [])) 0 0 0 1 (spent_all (outline second)) (spent_all (only (branch_of (outline first) (outline second)))) did (λ inner. did (branched false (ran (shapes inner)) ∷ [])) did g
        (λ inner. gives_pure did (branched false (ran (shapes inner)) ∷ []))
        (λ inner k h. reads_same (spent_all (only (branch_of (outline first) (outline second)))) (taken false ∷ did inner) (taken false ∷ did inner ++ []) k (0 + k) (ap (λ l. taken false ∷ l) (sym (no_more_counts (did inner)))) (omega arith) (reads_only (branch_of (outline first) (outline second)) (taken false ∷ did inner) k h)) (omega arith)

    quietly : {A : Type 0} (step : Step A) → Takes step 0 → Counted 1 (step >>= (λ _. pure [])) (spent_all no_outline) did
    unfolding counts_in_all
    quietly step f = counted_after step (λ _. pure []) 0 1 1 (spent_all no_outline) did (omega arith) f (λ _. counted_pure [] 1 0 (spent_all no_outline) did reads_nothing (omega arith))

    -- after a word
    with_word : (e : PlainExpr) (more : ℕ → Step (List Shape)) → ((w : ℕ) → Counted 1 (more w) (spent_all no_outline) did) → Counted 1 (word mems e >>= more) (spent_all no_outline) did
    with_word e more f = counted_after (word mems e) more 0 1 1 (spent_all no_outline) did (omega arith) (word_takes mems e) f

    counted_ran : (inner : List Shape) → Gives counts_in (pure (ran (shapes inner))) 0 (did inner)
    unfolding counts_in
    counted_ran inner = gives_pure counts_in (ran (shapes inner))

    counted_state : (after : ℕ) (inner : List Shape) → Gives (λ (r : ℕ × Shape). counts_in r.1) (pure (after, ran (shapes inner))) 0 (did inner)
    unfolding counts_in
    counted_state after inner = gives_pure (λ (r : ℕ × Shape). counts_in r.1) (after, ran (shapes inner))

    nothing_counted : Counted 0 (pure []) (spent_all no_outline) did
    unfolding counts_in_all
    nothing_counted = counted_pure [] 0 0 (spent_all no_outline) did reads_nothing (omega arith)

    -- a statement takes a turn, and then the rest of the body
    both_counted : (place : ℕ) (kind : PlainStmtKind) (rest : PlainStmts) → ((place : ℕ) → Counted 1 (run_kind mems roomy kind place) (spent_all (outline_of kind)) did) → Counted 0 (run_all mems roomy rest) (spent_all (outline rest)) did
        → Counted 0 ((turn >> run_kind mems roomy kind place) >>= (λ one. run_all mems roomy rest >>= (λ others. pure (one ++ others)))) (spent_all (joined (outline_of kind) (outline rest))) did
    both_counted place kind body f g left rest s after a e =
        let x = taken_apart (turn >> run_kind mems roomy kind place) (λ one. run_all mems roomy body >>= (λ others. pure (one ++ others))) left s a rest after e in
        let y = taken_apart (run_all mems roomy body) (λ others. pure (x.answer ++ others)) x.between x.store a rest after x.second in
        let one = counted_after turn (λ _. run_kind mems roomy kind place) 1 0 1 (spent_all (outline_of kind)) did (omega arith) turn_takes (λ _. f place) left x.between s x.store x.answer x.first in
        let others = g x.between y.between x.store y.store y.answer y.first in
        let all = reads_same (spent_all (joined (outline_of kind) (outline body))) (did x.answer ++ did y.answer) (did (x.answer ++ y.answer)) (one.0 + others.0) (one.0 + others.0) (sym (counts_of_both x.answer y.answer)) refl
        (reads_joined (outline_of kind) (outline body) (did x.answer) (did y.answer) one.0 others.0 one.1 others.1) in
        let z = counted_pure (x.answer ++ y.answer) (one.0 + others.0) (one.0 + others.0) (spent_all (joined (outline_of kind) (outline body))) did all (omega arith) y.between rest y.store after a y.second in
        (z.0, z.1, omega (arith, z.2, one.2, others.2))

    mutual
      unfolding run outline BodyCounts

      kind_counts : (kind : PlainStmtKind) (place : ℕ) → Counted 1 (run_kind mems roomy kind place) (spent_all (outline_of kind)) did
      kind_counts (declare m) place = quietly (hold_now m (fresh_of (mem mems m).kind (dims mems m) (mem mems m).start [])) (hold_takes m (fresh_of (mem mems m).kind (dims mems m) (mem mems m).start []))
      kind_counts (name v e) place = with_word e (λ w. name_now v w >> pure []) (λ w. quietly (name_now v w) (name_takes v w))
      kind_counts (set_reg m e) place = with_word e (λ w. write_cell m 0 w >> pure []) (λ w. quietly (write_cell m 0 w) (write_takes m 0 w))
      kind_counts (set_out m e) place = with_word e (λ w. write_word m 0 w >> pure []) (λ w. quietly (write_word m 0 w) (put_takes m 0 w))
      kind_counts (set_sram m indices e) place =
          counted_after (all_words mems indices) (λ is. word mems e >>= (λ w. element mems m place is >>= (λ at. write_cell m at w >> pure []))) 0 1 1 (spent_all no_outline) did (omega arith) (words_take mems indices)
          (λ is. with_word e (λ w. element mems m place is >>= (λ at. write_cell m at w >> pure []))
          (λ w. counted_after (element mems m place is) (λ at. write_cell m at w >> pure []) 0 1 1 (spent_all no_outline) did (omega arith) (element_takes mems m place is) (λ at. quietly (write_cell m at w) (write_takes m at w))))
      kind_counts (enq m e) place = with_word e (λ w. enqueue m (room mems roomy m) w place >> pure []) (λ w. quietly (enqueue m (room mems roomy m) w place) (enqueue_takes m (room mems roomy m) w place))
      kind_counts (load_sram sram dram spans) place =
          slice_counts spans (λ parts. transfer place (dims mems dram) parts Bounds (dims mems sram) (load_words sram (dims mems sram) dram (dims mems dram) parts))
          (λ parts n none le. transfer_takes mems place (dims mems dram) parts Bounds (dims mems sram) (load_words sram (dims mems sram) dram (dims mems dram) parts) n none
          (takes_less (load_words sram (dims mems sram) dram (dims mems dram) parts) n (length (all_offsets parts)) le (load_takes mems sram (dims mems sram) dram (dims mems dram) parts (length (all_offsets parts)) refl)))
      kind_counts (load_line line dram spans) place =
          slice_counts spans (λ parts. transfer place (dims mems dram) parts RowLength (drop 1 (dims mems line)) (load_row line (slice_index (dims mems line) 1) dram (dims mems dram) parts))
          (λ parts n none le. transfer_takes mems place (dims mems dram) parts RowLength (drop 1 (dims mems line)) (load_row line (slice_index (dims mems line) 1) dram (dims mems dram) parts) n none
          (takes_less (load_row line (slice_index (dims mems line) 1) dram (dims mems dram) parts) n (length (all_offsets parts)) le (row_takes mems line (slice_index (dims mems line) 1) dram (dims mems dram) parts (length (all_offsets parts)) refl)))
      kind_counts (store dram spans sram) place =
          slice_counts spans (λ parts. transfer place (dims mems dram) parts Bounds (dims mems sram) (store_words place sram (dims mems sram) dram (dims mems dram) parts))
          (λ parts n none le. transfer_takes mems place (dims mems dram) parts Bounds (dims mems sram) (store_words place sram (dims mems sram) dram (dims mems dram) parts) n none
          (takes_less (store_words place sram (dims mems sram) dram (dims mems dram) parts) n (length (all_offsets parts)) le (store_takes mems place sram (dims mems sram) dram (dims mems dram) parts (length (all_offsets parts)) refl)))
      kind_counts (gather sram dram places e) place =
          counted_after (word mems e) (λ n. gather_words place sram (word_count (dims mems sram)) dram (word_count (dims mems dram)) places (word_count (dims mems places)) (natural (index_value n)) >> pure (moved (natural (index_value n) ∷ []) ∷ [])) 0 1 1 (spent_all (only transferred)) did (omega arith) (word_takes mems e)
          (λ n. moved_counts (gather_words place sram (word_count (dims mems sram)) dram (word_count (dims mems dram)) places (word_count (dims mems places)) (natural (index_value n))) (natural (index_value n) ∷ [])
          (takes_less (gather_words place sram (word_count (dims mems sram)) dram (word_count (dims mems dram)) places (word_count (dims mems places)) (natural (index_value n))) (natural (index_value n) + 0) (natural (index_value n)) (omega arith)
          (gather_takes mems place sram (word_count (dims mems sram)) dram (word_count (dims mems dram)) places (word_count (dims mems places)) (natural (index_value n)) (natural (index_value n)) (numbers_length (natural (index_value n))))))
      kind_counts (scatter dram places e sram) place =
          counted_after (word mems e) (λ n. scatter_words place dram (word_count (dims mems dram)) places (word_count (dims mems places)) (natural (index_value n)) sram (word_count (dims mems sram)) >> pure (moved (natural (index_value n) ∷ []) ∷ [])) 0 1 1 (spent_all (only transferred)) did (omega arith) (word_takes mems e)
          (λ n. moved_counts (scatter_words place dram (word_count (dims mems dram)) places (word_count (dims mems places)) (natural (index_value n)) sram (word_count (dims mems sram))) (natural (index_value n) ∷ [])
          (takes_less (scatter_words place dram (word_count (dims mems dram)) places (word_count (dims mems places)) (natural (index_value n)) sram (word_count (dims mems sram))) (natural (index_value n) + 0) (natural (index_value n)) (omega arith)
          (scatter_takes mems place dram (word_count (dims mems dram)) places (word_count (dims mems places)) (natural (index_value n)) sram (word_count (dims mems sram)) (natural (index_value n)) (numbers_length (natural (index_value n))))))
      kind_counts (block style body) place =
          counted_then (run_all mems roomy body) (λ inner. end_block mems style body place >> pure (ran (shapes inner) ∷ [])) 0 0 0 1 (spent_all (outline body)) (spent_all (outline body)) did (λ inner. did (ran (shapes inner) ∷ [])) did (body_counts body)
          (λ inner. gives_after did (end_block mems style body place) (λ _. pure (ran (shapes inner) ∷ [])) 0 0 0 (did (ran (shapes inner) ∷ [])) (omega arith) (end_takes mems style body place) (λ _. gives_pure did (ran (shapes inner) ∷ [])))
          (λ inner k h. reads_same (spent_all (outline body)) (did inner) (did (ran (shapes inner) ∷ [])) k (0 + k) (did_ran inner) (omega arith) h) (omega arith)
      kind_counts (foreach style counters body) place =
          counted_after (in_order (counter_range mems) counters) (λ ranges. in_order (λ ws. turn >> (count_now counters ws >> (run_all mems roomy body >>= (λ inner. pure (ran (shapes inner)))))) (tuples ranges) >>= (λ bodies. pure (looped (map length ranges) (shapes bodies) ∷ []))) 0 1 1
          (spent_all (only (loop_of 0 (outline body)))) did (omega arith) (ranges_take mems counters)
          (λ ranges. loop_counts (map length ranges) (λ ws. turn >> (count_now counters ws >> (run_all mems roomy body >>= (λ inner. pure (ran (shapes inner)))))) (tuples ranges) 0 body (tuple_count ranges)
          (λ ws. iteration counts_in (count_now counters ws) body (λ inner. pure (ran (shapes inner))) 0 (count_takes counters ws) (body_counts body) (λ inner. counted_ran inner)))
      kind_counts (reduce style fold acc counters body e comb) place =
          counted_after (in_order (counter_range mems) counters) (λ ranges. in_order (λ it. turn >> (count_now counters it.1 >> (run_all mems roomy body >>= (λ inner. word mems e >>= (λ w. assign mems comb acc 0 it.0 w place >> pure (ran (shapes inner))))))) (combining fold (tuples ranges)) >>= (λ bodies. pure (looped (map length ranges) (shapes bodies) ∷ []))) 0 1 1
          (spent_all (only (loop_of 0 (outline body)))) did (omega arith) (ranges_take mems counters)
          (λ ranges. loop_counts (map length ranges) (λ it. turn >> (count_now counters it.1 >> (run_all mems roomy body >>= (λ inner. word mems e >>= (λ w. assign mems comb acc 0 it.0 w place >> pure (ran (shapes inner))))))) (combining fold (tuples ranges)) 0 body (combining_count fold (tuples ranges) ∙ tuple_count ranges)
          (λ it. iteration counts_in (count_now counters it.1) body (λ inner. word mems e >>= (λ w. assign mems comb acc 0 it.0 w place >> pure (ran (shapes inner)))) 0 (count_takes counters it.1) (body_counts body)
          (λ inner. gives_after counts_in (word mems e) (λ w. assign mems comb acc 0 it.0 w place >> pure (ran (shapes inner))) 0 0 0 (did inner) (omega arith) (word_takes mems e)
          (λ w. gives_after counts_in (assign mems comb acc 0 it.0 w place) (λ _. pure (ran (shapes inner))) 0 0 0 (did inner) (omega arith) (assign_takes mems comb acc 0 it.0 w place) (λ _. counted_ran inner)))))
      kind_counts (mem_reduce style acc counters body part_mem comb) place =
          counted_after (in_order (counter_range mems) counters) (λ ranges. in_order (λ it. turn >> (count_now counters it.1 >> (run_all mems roomy body >>= (λ inner. assign_all mems comb acc part_mem it.0 place >> pure (ran (shapes inner)))))) (combining false (tuples ranges)) >>= (λ bodies. pure (looped (map length ranges) (shapes bodies) ∷ []))) 0 1 1
          (spent_all (only (loop_of (word_count (dims mems acc)) (outline body)))) did (omega arith) (ranges_take mems counters)
          (λ ranges. loop_counts (map length ranges) (λ it. turn >> (count_now counters it.1 >> (run_all mems roomy body >>= (λ inner. assign_all mems comb acc part_mem it.0 place >> pure (ran (shapes inner)))))) (combining false (tuples ranges)) (word_count (dims mems acc)) body (combining_count false (tuples ranges) ∙ tuple_count ranges)
          (λ it. iteration counts_in (count_now counters it.1) body (λ inner. assign_all mems comb acc part_mem it.0 place >> pure (ran (shapes inner))) (word_count (dims mems acc)) (count_takes counters it.1) (body_counts body)
          (λ inner. gives_after counts_in (assign_all mems comb acc part_mem it.0 place) (λ _. pure (ran (shapes inner))) (word_count (dims mems acc)) 0 (word_count (dims mems acc)) (did inner) (omega arith)
          (assign_all_takes mems comb acc part_mem it.0 place (word_count (dims mems acc)) (numbers_length (word_count (dims mems acc)))) (λ _. counted_ran inner))))
      kind_counts (fsm start tested test state body last next) place =
          counted_after (word mems start) (λ first. as_long_as (λ w. name_now tested w >> (word mems test >>= (λ holds. pure (holds == 1)))) (λ w. turn >> (name_now state w >> (run_all mems roomy body >>= (λ inner. name_now last w >> (word mems next >>= (λ after. pure (after, ran (shapes inner)))))))) first >>= (λ bodies. pure (turned (length bodies) (shapes bodies) ∷ []))) 0 1 1
          (spent_all (only (fsm_of (outline body)))) did (omega arith) (word_takes mems start)
          (λ first. fsm_counts (λ w. name_now tested w >> (word mems test >>= (λ holds. pure (holds == 1)))) (λ w. turn >> (name_now state w >> (run_all mems roomy body >>= (λ inner. name_now last w >> (word mems next >>= (λ after. pure (after, ran (shapes inner)))))))) first body
          (λ w. still_bind (name_now tested w) (λ _. word mems test >>= (λ holds. pure (holds == 1))) (name_takes tested w) (λ _. still_bind (word mems test) (λ holds. pure (holds == 1)) (word_takes mems test) (λ holds. pure_takes (holds == 1))))
          (λ w. iteration (λ (r : ℕ × Shape). counts_in r.1) (name_now state w) body (λ inner. name_now last w >> (word mems next >>= (λ after. pure (after, ran (shapes inner))))) 0 (name_takes state w) (body_counts body)
          (λ inner. gives_after (λ (r : ℕ × Shape). counts_in r.1) (name_now last w) (λ _. word mems next >>= (λ after. pure (after, ran (shapes inner)))) 0 0 0 (did inner) (omega arith) (name_takes last w)
          (λ _. gives_after (λ (r : ℕ × Shape). counts_in r.1) (word mems next) (λ after. pure (after, ran (shapes inner))) 0 0 0 (did inner) (omega arith) (word_takes mems next) (λ after. counted_state after inner)))))
      kind_counts (branch test first second) place =
          counted_after (word mems test) (λ holds. (elim (holds == 1) as (λ _. Step (List Shape)) [ true ↦ run_all mems roomy first | false ↦ run_all mems roomy second ]) >>= (λ inner. pure (branched (holds == 1) (ran (shapes inner)) ∷ []))) 0 1 1
          (spent_all (only (branch_of (outline first) (outline second)))) did (omega arith) (word_takes mems test) (λ holds. taken_counts (holds == 1) first second (body_counts first) (body_counts second))

      pub body_counts : (body : PlainStmts) → Counted 0 (run_all mems roomy body) (spent_all (outline body)) did
      body_counts no_stmt = nothing_counted
      body_counts (more_stmt (stmt place kind) rest) = both_counted place kind rest (kind_counts kind) (body_counts rest)
