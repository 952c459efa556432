-- What holds of the simplest steps and passes from steps to their sequence holds of every run.
use Rattle.std.proofs.Common.{ℕ, zero, suc, Bool, true, false, IsTrue, List, [], ◌∷◌, Option, Some, None}
use Rattle.std.specs.Prelude.{length, nat_lt, nat_le, map, ◌==◌, pos}
use Rattle.sp_words.specs.Memory.{Contents}
use Rattle.sp_words.specs.declared.kind.Kind.{Kind}
use Rattle.sp_words.specs.declared.kind.Kind.TheVariants.{Reg, Sram, Fifo, LineBuf, Dram, ArgIn, ArgOut}
use Rattle.sp_words.specs.declared.kind.Style.{Style}
use Rattle.sp_words.specs.declared.kind.Style.TheVariants.{Pipe, Sequential, Parallel, Stream}
use Rattle.sp_words.specs.declared.types.Ty.{Ty}
use Rattle.sp_core.specs.declared.node.SparseKind.TheVariants.{Gather, Scatter, WideLoad, WideStore}
use Rattle.sp_core.specs.declared.operation.OpKind.{OpKind}
use Rattle.sp_core.specs.declared.operation.OpKind.TheVariants.{Word, Count, Live, Read, Write, Enq, Deq, Reset, One, Two, Shift, Mux, Cast}
use Rattle.sp_core.specs.Accesses.{word_in, with_word, with_newest, without_oldest, with_new_row, hold_now, written, first_of_queue, read_in, write_in, turn_rows, enqueue, dequeue, inside, read_at, write_at}
use Rattle.sp_core.specs.Declarations.{mem, kind_of, dims, room, depth, fresh, dram_number}
use Rattle.sp_core.specs.Elements.{index_value, are_inside}
use Rattle.sp_core.specs.Footprint.{MayName, AllPass, ListNames, CountersName, SpansName, NodeNames, StagesName}
use Rattle.sp_core.specs.History.{Entry, Bounds, Taken, History, Runs, last_word}
use Rattle.sp_core.specs.Operations.{is_masked, access, access_of, done_by, operation, operations_after, operations}
use Rattle.sp_core.specs.PlainCore.{PlainOp, PlainCounter, PlainSpan, single, range, PlainNode, PlainStages, inner, outer, fsm, branch, load, store, sparse, no_stage, more_stage, PlainCore}
use Rattle.sp_core.specs.Scope.{Reading, Scope, is_some_live, loops_of, in_group, group_values}
use Rattle.sp_core.specs.Sequential.{has_reset, renew, renew_in_body, holds_depth, end_of_group, bounds, taken, state_now, run, run_stages}
use Rattle.sp_core.specs.Step.{Step, pure, ◌>>=◌, ◌>>◌, stop, ensure, out_of_turns, look, change, in_order, repeated}
use Rattle.sp_core.specs.Store.{hold, queue_of}
use Rattle.sp_core.specs.Transfers.{Part, part_of, lengths, has_none, all_offsets, are_parts_inside, do_fit, range_limits, make_room, load_words, store_words, transfer, load_slice, store_slice, has_place, place_at, gather_word, scatter_word}

-- the simplest steps, whose memories pass a test, and sequences of steps
pub record IsClosed (Q : (A : Type 0) → Step A → Type 0) (is : ℕ → Bool) : Type 1 where
  pub of_pure : {A : Type 0} (a : A) → Q A (pure a)
  pub of_bind : {A B : Type 0} (step : Step A) (rest : A → Step B) → Q A step → ((a : A) → Q B (rest a)) → Q B (step >>= rest)
  pub of_stop : {A : Type 0} → Q A stop
  pub of_no_turn : {A : Type 0} → Q A out_of_turns
  pub of_look : {A : Type 0} (m : ℕ) (f : Option Contents → A) → IsTrue (is m) → Q A (look (λ s. f (s m)))
  pub of_change : (m : ℕ) (f : Option Contents → Contents) → IsTrue (is m) → Q (Unit {0}) (change (λ s. hold s m (f (s m))))

module _ (Q : (A : Type 0) → Step A → Type 0) (is : ℕ → Bool) (c : IsClosed Q is) where
  then_Q : {A B : Type 0} (step : Step A) (rest : Step B) → Q A step → Q B rest → Q B (step >> rest)
  then_Q step rest q r = c.of_bind step (λ _. rest) q (λ _. r)

  ensure_Q : (b : Bool) → Q (Unit {0}) (ensure b)
  ensure_Q true = c.of_pure tt
  ensure_Q false = c.of_stop

  in_order_Q : {A B : Type 0} (step : A → Step B) → ((a : A) → Q B (step a)) → (xs : List A) → Q (List B) (in_order step xs)
  unfolding in_order
  in_order_Q step q [] = c.of_pure []
  in_order_Q step q (x ∷ xs) = c.of_bind _ _ (q x) (λ first. c.of_bind _ _ (in_order_Q step q xs) (λ others. c.of_pure (first ∷ others)))

  chosen_Q : {A : Type 0} (left right : Step A) → Q A left → Q A right → (b : Bool) → Q A (elim b [ true ↦ left | false ↦ right ])
  chosen_Q left right p q true = p
  chosen_Q left right p q false = q

  repeated_Q : {A B : Type 0} (test : Step A) (holds : A → Bool) (turn : A → Step B) → Q A test → ((a : A) → Q B (turn a)) → (most : ℕ) → Q (List B × A) (repeated most test holds turn)
  unfolding repeated
  repeated_Q test holds turn t q zero = c.of_bind _ _ t (λ tested. chosen_Q _ _ c.of_no_turn (c.of_pure _) (holds tested))
  repeated_Q test holds turn t q (suc most) = c.of_bind _ _ t (λ tested. chosen_Q _ _
      (c.of_bind _ _ (q tested) (λ first. c.of_bind _ _ (repeated_Q test holds turn t q most) (λ r. c.of_pure _))) (c.of_pure _) (holds tested))

  written_Q : (o : Option ℕ) → Q ℕ (written o)
  written_Q None = c.of_stop
  written_Q (Some w) = c.of_pure w

  first_of_queue_Q : (ws : List ℕ) → Q ℕ (first_of_queue ws)
  first_of_queue_Q [] = c.of_stop
  first_of_queue_Q (w ∷ ws) = c.of_pure w

  hold_now_Q : (m : ℕ) (contents : Contents) → IsTrue (is m) → Q (Unit {0}) (hold_now m contents)
  hold_now_Q m contents h = c.of_change m (λ _. contents) h

  module _ (core : PlainCore) where
    read_in_Q : (m : ℕ) (at : List ℕ) → IsTrue (is m) → Q ℕ (read_in core m at)
    read_in_Q m at h = c.of_bind _ _ (c.of_look m (λ x. word_in (kind_of core m) (dims core m) at x) h) written_Q

    write_in_Q : (m : ℕ) (at : List ℕ) (w : ℕ) → IsTrue (is m) → Q (Unit {0}) (write_in core m at w)
    write_in_Q m at w h = c.of_change m (λ x. with_word (kind_of core m) (dims core m) at w x) h

    turn_rows_Q : (m : ℕ) → IsTrue (is m) → Q (Unit {0}) (turn_rows core m)
    turn_rows_Q m h = c.of_change m (λ x. with_new_row (dims core m) x) h

    enqueue_Q : (m w : ℕ) → IsTrue (is m) → Q (Unit {0}) (enqueue core m w)
    enqueue_Q m w h = c.of_bind _ _ (c.of_look m queue_of h) (λ ws. then_Q _ _ (ensure_Q (nat_lt (length ws) (room core m))) (c.of_change m (λ x. with_newest w x) h))

    dequeue_Q : (m : ℕ) → IsTrue (is m) → Q ℕ (dequeue core m)
    dequeue_Q m h = c.of_bind _ _ (c.of_look m queue_of h) (λ ws. c.of_bind _ _ (first_of_queue_Q ws) (λ w. then_Q _ _ (c.of_change m (λ x. without_oldest x) h) (c.of_pure w)))

    inside_Q : (m : ℕ) (indices : List ℕ) → Q (List ℕ) (inside core m indices)
    inside_Q m indices = then_Q _ _ (ensure_Q (are_inside (dims core m) (map index_value indices))) (c.of_pure _)

    read_at_Q : (m : ℕ) (indices : List ℕ) → IsTrue (is m) → Q Entry (read_at core m indices)
    read_at_Q m indices h = c.of_bind _ _ (inside_Q m indices) (λ at. c.of_bind _ _ (read_in_Q m at h) (λ w. c.of_pure _))

    write_at_Q : (m : ℕ) (indices : List ℕ) (w : ℕ) → IsTrue (is m) → Q Entry (write_at core m indices w)
    write_at_Q m indices w h = c.of_bind _ _ (inside_Q m indices) (λ at. then_Q _ _ (write_in_Q m at w h) (c.of_pure _))

    module _ (scope : Scope) where
      access_Q : (kind : OpKind) (m : ℕ) (args : List ℕ) → IsTrue (is m) → Q Entry (access core scope kind m args)
      access_Q Read m args h = read_at_Q m args h
      access_Q Write m args h = write_at_Q m _ _ h
      access_Q Enq m args h = then_Q _ _ (enqueue_Q m _ h) (c.of_pure _)
      access_Q Deq m args h = c.of_bind _ _ (dequeue_Q m h) (λ w. c.of_pure _)
      access_Q Reset m args h = then_Q _ _ (hold_now_Q m (fresh core m) h) (c.of_pure _)
      access_Q (Word w) m args h = c.of_stop
      access_Q (Count n lane) m args h = c.of_stop
      access_Q (Live n first last) m args h = c.of_stop
      access_Q (One op) m args h = c.of_stop
      access_Q (Two op) m args h = c.of_stop
      access_Q (Shift left by) m args h = c.of_stop
      access_Q Mux m args h = c.of_stop
      access_Q (Cast to) m args h = c.of_stop

      access_of_Q : (kind : OpKind) (m : Option ℕ) (args : List ℕ) → MayName core is m → Q Entry (access_of core scope kind m args)
      access_of_Q kind None args h = c.of_stop
      access_of_Q kind (Some m) args h = access_Q kind m args h

      done_by_Q : (kind : OpKind) (ty : Ty) (m : Option ℕ) (args : List ℕ) → MayName core is m → Q Entry (done_by core scope kind ty m args)
      done_by_Q (Word w) ty m args h = c.of_pure _
      done_by_Q (Count n lane) ty m args h = c.of_pure _
      done_by_Q (Live n first last) ty m args h = c.of_pure _
      done_by_Q (One op) ty m args h = c.of_pure _
      done_by_Q (Two op) ty m args h = c.of_pure _
      done_by_Q (Shift left by) ty m args h = c.of_pure _
      done_by_Q Mux ty m args h = c.of_pure _
      done_by_Q (Cast to) ty m args h = c.of_pure _
      done_by_Q Read ty m args h = access_of_Q Read m args h
      done_by_Q Write ty m args h = access_of_Q Write m args h
      done_by_Q Enq ty m args h = access_of_Q Enq m args h
      done_by_Q Deq ty m args h = access_of_Q Deq m args h
      done_by_Q Reset ty m args h = access_of_Q Reset m args h

      operation_Q : (op : PlainOp) (done : List Entry) → MayName core is op.mem → Q Entry (operation core scope op done)
      operation_Q op done h = chosen_Q _ _ (c.of_pure _) (done_by_Q op.kind op.ty op.mem _ h) (is_masked op.mask done)

      operations_after_Q : (done : List Entry) (ops : List PlainOp) → ListNames core is ops → Q (List Entry) (operations_after core scope done ops)
      unfolding operations_after
      operations_after_Q done [] h = c.of_pure done
      operations_after_Q done (op ∷ ops) h = c.of_bind _ _ (operation_Q op done h.0) (λ e. operations_after_Q _ ops h.1)

      pub operations_Q : (ops : List PlainOp) → ListNames core is ops → Q (List Entry) (operations core scope ops)
      operations_Q ops h = operations_after_Q [] ops h

    make_room_Q : (kind : Kind) (m : ℕ) → IsTrue (is m) → Q (Unit {0}) (make_room core kind m)
    make_room_Q LineBuf m h = turn_rows_Q m h
    make_room_Q Reg m h = c.of_pure tt
    make_room_Q Sram m h = c.of_pure tt
    make_room_Q Fifo m h = c.of_pure tt
    make_room_Q Dram m h = c.of_pure tt
    make_room_Q ArgIn m h = c.of_pure tt
    make_room_Q ArgOut m h = c.of_pure tt

    load_words_Q : (r m : ℕ) (parts : List Part) → IsTrue (is (dram_number core r)) → IsTrue (is m) → Q (List ℕ) (load_words core r m parts)
    load_words_Q r m parts d h = then_Q _ _ (make_room_Q (kind_of core m) m h)
        (in_order_Q _ (λ offsets. c.of_bind _ _ (read_in_Q (dram_number core r) _ d) (λ w. then_Q _ _ (write_in_Q m _ w h) (c.of_pure w))) (all_offsets parts))

    store_words_Q : (r m : ℕ) (parts : List Part) → IsTrue (is (dram_number core r)) → IsTrue (is m) → Q (List ℕ) (store_words core r m parts)
    store_words_Q r m parts d h = in_order_Q _ (λ offsets. c.of_bind _ _ (read_in_Q m offsets h) (λ w. then_Q _ _ (write_in_Q (dram_number core r) _ w d) (c.of_pure w))) (all_offsets parts)

    transfer_Q : (r m : ℕ) (ts : List Taken) (move : Step (List ℕ)) → Q (List ℕ) move → Q History (transfer core r m ts move)
    transfer_Q r m ts move q = chosen_Q _ _ (c.of_pure _)
        (then_Q _ _ (ensure_Q (are_parts_inside (dims core (dram_number core r)) (map part_of ts))) (then_Q _ _ (ensure_Q (do_fit (range_limits (kind_of core m) (dims core m)) (lengths (map part_of ts)))) (c.of_bind _ _ q (λ ws. c.of_pure _))))
        (has_none (lengths (map part_of ts)))

    has_place_Q : (m k : ℕ) → Q (Unit {0}) (has_place core m k)
    has_place_Q m k = ensure_Q (are_inside (dims core m) (pos k ∷ []))

    place_at_Q : (r p k : ℕ) → IsTrue (is p) → Q ℕ (place_at core r p k)
    place_at_Q r p k h = then_Q _ _ (has_place_Q p k) (c.of_bind _ _ (read_in_Q p _ h) (λ i. then_Q _ _ (ensure_Q (are_inside (dims core (dram_number core r)) (index_value i ∷ []))) (c.of_pure i)))

    gather_word_Q : (r m p k : ℕ) → IsTrue (is (dram_number core r)) → IsTrue (is m) → IsTrue (is p) → Q (ℕ × ℕ) (gather_word core r m p k)
    gather_word_Q r m p k d h i = c.of_bind _ _ (place_at_Q r p k i) (λ at. c.of_bind _ _ (read_in_Q (dram_number core r) _ d) (λ w. then_Q _ _ (has_place_Q m k) (then_Q _ _ (write_in_Q m _ w h) (c.of_pure _))))

    scatter_word_Q : (r m p k : ℕ) → IsTrue (is (dram_number core r)) → IsTrue (is m) → IsTrue (is p) → Q (ℕ × ℕ) (scatter_word core r m p k)
    scatter_word_Q r m p k d h i = c.of_bind _ _ (place_at_Q r p k i) (λ at. then_Q _ _ (has_place_Q m k) (c.of_bind _ _ (read_in_Q m _ h) (λ w. then_Q _ _ (write_in_Q (dram_number core r) _ w d) (c.of_pure _))))

    module _ (reading : Reading) (most : ℕ) where
      renew_Q : (m : ℕ) → IsTrue (is m) → Q (Unit {0}) (renew core reading most m)
      renew_Q m h = hold_now_Q m (fresh core m) h

      renew_in_body_Q : (m : ℕ) → IsTrue (is m) → Q (Unit {0}) (renew_in_body core reading most m)
      renew_in_body_Q m h = chosen_Q _ _ (c.of_pure tt) (renew_Q m h) (has_reset (mem core m).kind (mem core m).start)

      holds_depth_Q : (m : ℕ) → IsTrue (is m) → Q (Unit {0}) (holds_depth core reading most m)
      holds_depth_Q m h = c.of_bind _ _ (c.of_look m queue_of h) (λ ws. ensure_Q (nat_le (length ws) (depth core m)))

      all_Q : (step : ℕ → Step (Unit {0})) → ((m : ℕ) → IsTrue (is m) → Q (Unit {0}) (step m)) → (owned : List ℕ) → AllPass core is owned → Q (List (Unit {0})) (in_order step owned)
      unfolding in_order
      all_Q step q [] h = c.of_pure []
      all_Q step q (m ∷ owned) h = c.of_bind _ _ (q m h.0) (λ first. c.of_bind _ _ (all_Q step q owned h.1) (λ others. c.of_pure _))

      end_of_group_Q : (style : Style) (owned : List ℕ) → AllPass core is owned → Q (List (Unit {0})) (end_of_group core reading most style owned)
      end_of_group_Q Stream owned h = all_Q _ holds_depth_Q owned h
      end_of_group_Q Pipe owned h = c.of_pure []
      end_of_group_Q Sequential owned h = c.of_pure []
      end_of_group_Q Parallel owned h = c.of_pure []

      bounds_Q : (scope : Scope) (n : PlainCounter) → ListNames core is n.from → ListNames core is n.until → Q Bounds (bounds core reading most scope n)
      bounds_Q scope n f u = c.of_bind _ _ (operations_Q scope n.from f) (λ a. c.of_bind _ _ (operations_Q scope n.until u) (λ b. c.of_pure _))

      all_bounds_Q : (scope : Scope) (counters : List PlainCounter) → CountersName core is counters → Q (List Bounds) (in_order (bounds core reading most scope) counters)
      unfolding in_order
      all_bounds_Q scope [] h = c.of_pure []
      all_bounds_Q scope (n ∷ counters) h = c.of_bind _ _ (bounds_Q scope n h.0 h.1) (λ first. c.of_bind _ _ (all_bounds_Q scope counters h.2) (λ others. c.of_pure _))

      all_taken_Q : (scope : Scope) (spans : List PlainSpan) → SpansName core is spans → Q (List Taken) (in_order (taken core reading most scope) spans)
      unfolding in_order
      all_taken_Q scope [] h = c.of_pure []
      all_taken_Q scope (single ops ∷ spans) h =
          c.of_bind _ _ (c.of_bind _ _ (operations_Q scope ops h.0) (λ i. c.of_pure _)) (λ first. c.of_bind _ _ (all_taken_Q scope spans h.1) (λ others. c.of_pure _))
      all_taken_Q scope (range a b ∷ spans) h =
          c.of_bind _ _ (c.of_bind _ _ (operations_Q scope a h.0) (λ x. c.of_bind _ _ (operations_Q scope b h.1) (λ y. c.of_pure _))) (λ first. c.of_bind _ _ (all_taken_Q scope spans h.2) (λ others. c.of_pure _))

      state_now_Q : (scope : Scope) (state : ℕ) (ops : List PlainOp) → IsTrue (is state) → ListNames core is ops → Q (List Entry) (state_now core reading most scope state ops)
      state_now_Q scope state ops h k = c.of_bind _ _ (operations_Q scope ops k) (λ es. then_Q _ _ (hold_now_Q state _ h) (c.of_pure es))

      load_Q : (scope : Scope) (r m : ℕ) (spans : List PlainSpan) → IsTrue (is (dram_number core r)) → IsTrue (is m) → SpansName core is spans → Q History (in_order (taken core reading most scope) spans >>= load_slice core r m)
      load_Q scope r m spans d h k = c.of_bind _ _ (all_taken_Q scope spans k) (λ ts. transfer_Q r m ts _ (load_words_Q r m (map part_of ts) d h))

      store_Q : (scope : Scope) (r m : ℕ) (spans : List PlainSpan) → IsTrue (is (dram_number core r)) → IsTrue (is m) → SpansName core is spans → Q History (in_order (taken core reading most scope) spans >>= store_slice core r m)
      store_Q scope r m spans d h k = c.of_bind _ _ (all_taken_Q scope spans k) (λ ts. transfer_Q r m ts _ (store_words_Q r m (map part_of ts) d h))

      mutual
        unfolding run run_stages

        pub run_Q : (node : PlainNode) (scope : Scope) → NodeNames core is node → Q History (run core reading most node scope)
        run_Q (inner counters owned ops comb) scope h =
            c.of_bind _ _ (all_bounds_Q scope counters h.0) (λ bs. c.of_bind _ _
            (in_order_Q _ (λ values. then_Q _ _ (all_Q _ renew_in_body_Q owned h.1) (operations_Q (in_group scope (loops_of reading counters bs) values) ops h.2)) (group_values (loops_of reading counters bs))) (λ groups. c.of_pure _))
        run_Q (outer counters style owned stages) scope h =
            c.of_bind _ _ (all_bounds_Q scope counters h.0) (λ bs. c.of_bind _ _
            (in_order_Q _ (λ values. then_Q _ _ (all_Q _ renew_Q owned h.1) (c.of_bind _ _ (run_stages_Q stages _ _ h.2) (λ runs. then_Q _ _ (end_of_group_Q style owned h.1) (c.of_pure runs)))) (group_values (loops_of reading counters bs))) (λ groups. c.of_pure _))
        run_Q (fsm start state test body next) scope h =
            c.of_bind _ _ (state_now_Q scope state start h.1 h.0) (λ first. c.of_bind _ _
            (repeated_Q _ _ _ (operations_Q scope test h.2) (λ tested. c.of_bind _ _ (run_Q body scope h.3) (λ k. c.of_bind _ _ (state_now_Q scope state next h.1 h.4) (λ es. c.of_pure _))) most) (λ r. c.of_pure _))
        run_Q (branch test first second) scope h =
            c.of_bind _ _ (operations_Q scope test h.0) (λ es. c.of_bind _ _ (chosen_Q _ _ (run_Q first scope h.1) (run_Q second scope h.2) (last_word es == 1)) (λ k. c.of_pure _))
        run_Q (load r m spans) scope h = load_Q scope r m spans h.0 h.1 h.2
        run_Q (store r m spans) scope h = store_Q scope r m spans h.0 h.1 h.2
        run_Q (sparse Gather r m (Some p) spans count par) scope h =
            c.of_bind _ _ (operations_Q scope count h.4) (λ es. c.of_bind _ _ (in_order_Q _ (λ k. gather_word_Q r m p k h.0 h.1 h.2) _) (λ ws. c.of_pure _))
        run_Q (sparse Scatter r m (Some p) spans count par) scope h =
            c.of_bind _ _ (operations_Q scope count h.4) (λ es. c.of_bind _ _ (in_order_Q _ (λ k. scatter_word_Q r m p k h.0 h.1 h.2) _) (λ ws. c.of_pure _))
        run_Q (sparse Gather r m None spans count par) scope h = load_Q scope r m spans h.0 h.1 h.3
        run_Q (sparse Scatter r m None spans count par) scope h = load_Q scope r m spans h.0 h.1 h.3
        run_Q (sparse WideLoad r m places spans count par) scope h = load_Q scope r m spans h.0 h.1 h.3
        run_Q (sparse WideStore r m places spans count par) scope h = store_Q scope r m spans h.0 h.1 h.3

        pub run_stages_Q : (stages : PlainStages) (live : ℕ → Bool) (scope : Scope) → StagesName core is stages → Q Runs (run_stages core reading most stages live scope)
        run_stages_Q no_stage live scope h = c.of_pure _
        run_stages_Q (more_stage first last comb node rest) live scope h = chosen_Q _ _
            (c.of_bind _ _ (run_Q node scope h.0) (λ k. c.of_bind _ _ (run_stages_Q rest live scope h.1) (λ others. c.of_pure _)))
            (c.of_bind _ _ (run_stages_Q rest live scope h.1) (λ others. c.of_pure _)) (is_some_live live first last)
