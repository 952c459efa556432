-- A run leaves each memory on the chip that none of its parts may change.
use Rattle.std.proofs.Common.{◌≡◌, ℕ, zero, suc, ◌+◌, ◌<◌, Bool, true, false, IsTrue, List, [], ◌∷◌, Option, Some, None, refl, sym, ◌∙◌, ap, arith}
use Rattle.std.proofs.lemmas.Bool.{true≢false, eqb-true}
use Rattle.std.specs.Prelude.{length, nat_lt, nat_le, map, ◌==◌, pos}
use Rattle.sp_words.specs.Memory.{Contents}
use Rattle.sp_words.specs.declared.kind.Kind.{Kind}
use Rattle.sp_words.specs.declared.kind.Kind.TheVariants.{Reg, Sram, Fifo, LineBuf, Dram, ArgIn, ArgOut}
use Rattle.sp_words.specs.declared.kind.Style.{Style}
use Rattle.sp_words.specs.declared.kind.Style.TheVariants.{Pipe, Sequential, Parallel, Stream}
use Rattle.sp_words.specs.declared.types.Ty.{Ty}
use Rattle.sp_core.specs.declared.node.SparseKind.TheVariants.{Gather, Scatter, WideLoad, WideStore}
use Rattle.sp_core.specs.declared.operation.OpKind.{OpKind}
use Rattle.sp_core.specs.declared.operation.OpKind.TheVariants.{Word, Count, Live, Read, Write, Enq, Deq, Reset, One, Two, Shift, Mux, Cast}
use Rattle.sp_core.specs.Accesses.{word_in, with_word, with_newest, without_oldest, with_new_row, hold_now, written, first_of_queue, read_in, write_in, turn_rows, enqueue, dequeue, inside, read_at, write_at}
use Rattle.sp_core.specs.Declarations.{mem, kind_of, dims, room, depth, fresh, dram_number}
use Rattle.sp_core.specs.Elements.{index_value, are_inside}
use Rattle.sp_core.specs.Footprint.{AllPass}
use Rattle.sp_core.specs.History.{Entry, Bounds, Taken, History, Runs, last_word}
use Rattle.sp_core.specs.Operations.{is_masked, access, access_of, done_by, operation, operations_after, operations}
use Rattle.sp_core.specs.PlainCore.{PlainOp, PlainCounter, PlainSpan, single, range, PlainNode, PlainStages, inner, outer, fsm, branch, load, store, sparse, no_stage, more_stage, PlainCore}
use Rattle.sp_core.specs.Scope.{Reading, Scope, is_some_live, loops_of, in_group, group_values}
use Rattle.sp_core.specs.Sequential.{has_reset, renew, renew_in_body, holds_depth, end_of_group, bounds, taken, state_now, run, run_stages}
use Rattle.sp_core.specs.Step.{Step, went, pure, ◌>>=◌, ◌>>◌, stop, ensure, out_of_turns, look, change, in_order, repeated}
use Rattle.sp_core.specs.Store.{Store, hold, queue_of}
use Rattle.sp_core.specs.Transfers.{Part, part_of, lengths, has_none, all_offsets, are_parts_inside, do_fit, range_limits, make_room, load_words, store_words, transfer, load_slice, store_slice, has_place, place_at, gather_word, scatter_word}
use Rattle.sp_lane_groups.proofs.LiveAlong.{did_go, store_of}
use Rattle.sp_lane_groups.proofs.Renewed.{bind_split}
use Rattle.sp_lane_trees.specs.ReductionsChanges.{MayChange, ListChanges, CountersChange, SpansChange, NodeChanges, StagesChange}

module _ (core : PlainCore) (is : ℕ → Bool) where
  -- a memory on the chip that doesn't pass the test holds after a step what it did before
  pub record Keeps (A : Type 0) (step : Step A) : Type 0 where
    pub kept : (s after : Store) (a : A) → step s ≡ went a after → (m : ℕ) → m < length core.mems → is m ≡ false → after m ≡ s m

  pub of_bind : {A B : Type 0} (step : Step A) (rest : A → Step B) → Keeps A step → ((a : A) → Keeps B (rest a)) → Keeps B (step >>= rest)
  of_bind {A = A} {B = B} step rest f g = record { kept = goes }
    where
      goes : (s after : Store) (b : B) → (step >>= rest) s ≡ went b after → (m : ℕ) → m < length core.mems → is m ≡ false → after m ≡ s m
      goes s after b e m lt n =
          let r = bind_split step rest s after b e in
          (g r.0).kept r.1 after b r.3 m lt n ∙ f.kept s r.1 r.0 r.2 m lt n

  pub of_pure : {A : Type 0} (a : A) → Keeps A (pure a)
  unfolding pure
  of_pure a = record { kept = λ s after b e m lt n. ap (λ (u : Store). u m) (sym (ap (store_of s) e)) }

  of_stop : {A : Type 0} → Keeps A stop
  unfolding stop
  of_stop = record { kept = λ s after b e m lt n. absurd (true≢false (sym (ap did_go e))) }

  of_no_turn : {A : Type 0} → Keeps A out_of_turns
  unfolding out_of_turns
  of_no_turn = record { kept = λ s after b e m lt n. absurd (true≢false (sym (ap did_go e))) }

  of_look : {A : Type 0} (m : ℕ) (f : Option Contents → A) → Keeps A (look (λ s. f (s m)))
  unfolding look
  of_look m f = record { kept = λ s after b e k lt n. ap (λ (u : Store). u k) (sym (ap (store_of s) e)) }

  -- what may be changed passes the test, or isn't on the chip
  abbrev MayBe : ℕ → Type 0
  MayBe m = (k : ℕ) → k < length core.mems → is k ≡ false → (k == m) ≡ false

  passes : (m : ℕ) → IsTrue (is m) → MayBe m
  passes m h k lt n = by (k == m) refl
    where
      by : (b : Bool) → (k == m) ≡ b → b ≡ false
      by true i = absurd (true≢false (sym h ∙ ap is (sym (eqb-true k m i)) ∙ n))
      by false i = refl

  off_chip : (r : ℕ) → MayBe (dram_number core r)
  off_chip r k lt n = by (k == dram_number core r) refl
    where
      past : (n r k : ℕ) → k < n → k ≡ n + r → ⊥
      past n r k lt e = omega (arith, lt, e)

      by : (b : Bool) → (k == dram_number core r) ≡ b → b ≡ false
      by true i = absurd (past (length core.mems) r k lt (eqb-true k (dram_number core r) i))
      by false i = refl

  of_change : (m : ℕ) (f : Option Contents → Contents) → MayBe m → Keeps (Unit {0}) (change (λ s. hold s m (f (s m))))
  unfolding change
  of_change m f h = record { kept = λ s after a e k lt n. ap (λ (u : Store). u k) (sym (ap (store_of s) e)) ∙ apart s k (k == m) (h k lt n) }
    where
      apart : (s : Store) (k : ℕ) (b : Bool) → b ≡ false → (elim b as (λ _. Option Contents) [ true ↦ Some (f (s m)) | false ↦ s k ]) ≡ s k
      apart s k true i = absurd (true≢false i)
      apart s k false i = refl

  then_keeps : {A B : Type 0} (step : Step A) (rest : Step B) → Keeps A step → Keeps B rest → Keeps B (step >> rest)
  then_keeps step rest q r = of_bind step (λ _. rest) q (λ _. r)

  ensure_keeps : (b : Bool) → Keeps (Unit {0}) (ensure b)
  ensure_keeps true = of_pure tt
  ensure_keeps false = of_stop

  in_order_keeps : {A B : Type 0} (step : A → Step B) → ((a : A) → Keeps B (step a)) → (xs : List A) → Keeps (List B) (in_order step xs)
  unfolding in_order
  in_order_keeps step q [] = of_pure []
  in_order_keeps step q (x ∷ xs) = of_bind (step x) _ (q x) (λ first. of_bind (in_order step xs) _ (in_order_keeps step q xs) (λ others. of_pure (first ∷ others)))

  chosen_keeps : {A : Type 0} (left right : Step A) → Keeps A left → Keeps A right → (b : Bool) → Keeps A (elim b [ true ↦ left | false ↦ right ])
  chosen_keeps left right p q true = p
  chosen_keeps left right p q false = q

  repeated_keeps : {A B : Type 0} (test : Step A) (holds : A → Bool) (turn : A → Step B) → Keeps A test → ((a : A) → Keeps B (turn a)) → (most : ℕ) → Keeps (List B × A) (repeated most test holds turn)
  unfolding repeated
  repeated_keeps test holds turn t q zero = of_bind test _ t (λ tested. chosen_keeps _ _ of_no_turn (of_pure ([], tested)) (holds tested))
  repeated_keeps test holds turn t q (suc most) = of_bind test _ t (λ tested. chosen_keeps _ _
      (of_bind (turn tested) _ (q tested) (λ first. of_bind (repeated most test holds turn) _ (repeated_keeps test holds turn t q most) (λ r. of_pure (first ∷ r.0, r.1)))) (of_pure ([], tested)) (holds tested))

  written_keeps : (o : Option ℕ) → Keeps ℕ (written o)
  written_keeps None = of_stop
  written_keeps (Some w) = of_pure w

  first_of_queue_keeps : (ws : List ℕ) → Keeps ℕ (first_of_queue ws)
  first_of_queue_keeps [] = of_stop
  first_of_queue_keeps (w ∷ ws) = of_pure w

  hold_now_keeps : (m : ℕ) (contents : Contents) → MayBe m → Keeps (Unit {0}) (hold_now m contents)
  hold_now_keeps m contents h = of_change m (λ _. contents) h

  read_in_keeps : (m : ℕ) (at : List ℕ) → Keeps ℕ (read_in core m at)
  read_in_keeps m at = of_bind _ _ (of_look m (λ x. word_in (kind_of core m) (dims core m) at x)) written_keeps

  write_in_keeps : (m : ℕ) (at : List ℕ) (w : ℕ) → MayBe m → Keeps (Unit {0}) (write_in core m at w)
  write_in_keeps m at w h = of_change m (λ x. with_word (kind_of core m) (dims core m) at w x) h

  turn_rows_keeps : (m : ℕ) → MayBe m → Keeps (Unit {0}) (turn_rows core m)
  turn_rows_keeps m h = of_change m (λ x. with_new_row (dims core m) x) h

  enqueue_keeps : (m w : ℕ) → MayBe m → Keeps (Unit {0}) (enqueue core m w)
  enqueue_keeps m w h = of_bind _ _ (of_look m queue_of) (λ ws. then_keeps _ _ (ensure_keeps (nat_lt (length ws) (room core m))) (of_change m (λ x. with_newest w x) h))

  dequeue_keeps : (m : ℕ) → MayBe m → Keeps ℕ (dequeue core m)
  dequeue_keeps m h = of_bind _ _ (of_look m queue_of) (λ ws. of_bind _ _ (first_of_queue_keeps ws) (λ w. then_keeps _ _ (of_change m (λ x. without_oldest x) h) (of_pure w)))

  inside_keeps : (m : ℕ) (indices : List ℕ) → Keeps (List ℕ) (inside core m indices)
  inside_keeps m indices = then_keeps _ _ (ensure_keeps (are_inside (dims core m) (map index_value indices))) (of_pure _)

  read_at_keeps : (m : ℕ) (indices : List ℕ) → Keeps Entry (read_at core m indices)
  read_at_keeps m indices = of_bind _ _ (inside_keeps m indices) (λ at. of_bind _ _ (read_in_keeps m at) (λ w. of_pure _))

  write_at_keeps : (m : ℕ) (indices : List ℕ) (w : ℕ) → MayBe m → Keeps Entry (write_at core m indices w)
  write_at_keeps m indices w h = of_bind _ _ (inside_keeps m indices) (λ at. then_keeps _ _ (write_in_keeps m at w h) (of_pure _))

  module _ (scope : Scope) where
    access_keeps : (kind : OpKind) (m : ℕ) (args : List ℕ) → MayChange core is kind (Some m) → Keeps Entry (access core scope kind m args)
    access_keeps Read m args h = read_at_keeps m args
    access_keeps Write m args h = write_at_keeps m _ _ (passes m h)
    access_keeps Enq m args h = then_keeps _ _ (enqueue_keeps m _ (passes m h)) (of_pure _)
    access_keeps Deq m args h = of_bind _ _ (dequeue_keeps m (passes m h)) (λ w. of_pure _)
    access_keeps Reset m args h = then_keeps _ _ (hold_now_keeps m (fresh core m) (passes m h)) (of_pure _)
    access_keeps (Word w) m args h = of_stop
    access_keeps (Count n lane) m args h = of_stop
    access_keeps (Live n first last) m args h = of_stop
    access_keeps (One op) m args h = of_stop
    access_keeps (Two op) m args h = of_stop
    access_keeps (Shift left by) m args h = of_stop
    access_keeps Mux m args h = of_stop
    access_keeps (Cast to) m args h = of_stop

    access_of_keeps : (kind : OpKind) (m : Option ℕ) (args : List ℕ) → MayChange core is kind m → Keeps Entry (access_of core scope kind m args)
    access_of_keeps kind None args h = of_stop
    access_of_keeps kind (Some m) args h = access_keeps kind m args h

    done_by_keeps : (kind : OpKind) (ty : Ty) (m : Option ℕ) (args : List ℕ) → MayChange core is kind m → Keeps Entry (done_by core scope kind ty m args)
    done_by_keeps (Word w) ty m args h = of_pure _
    done_by_keeps (Count n lane) ty m args h = of_pure _
    done_by_keeps (Live n first last) ty m args h = of_pure _
    done_by_keeps (One op) ty m args h = of_pure _
    done_by_keeps (Two op) ty m args h = of_pure _
    done_by_keeps (Shift left by) ty m args h = of_pure _
    done_by_keeps Mux ty m args h = of_pure _
    done_by_keeps (Cast to) ty m args h = of_pure _
    done_by_keeps Read ty m args h = access_of_keeps Read m args h
    done_by_keeps Write ty m args h = access_of_keeps Write m args h
    done_by_keeps Enq ty m args h = access_of_keeps Enq m args h
    done_by_keeps Deq ty m args h = access_of_keeps Deq m args h
    done_by_keeps Reset ty m args h = access_of_keeps Reset m args h

    operation_keeps : (op : PlainOp) (done : List Entry) → MayChange core is op.kind op.mem → Keeps Entry (operation core scope op done)
    operation_keeps op done h = chosen_keeps _ _ (of_pure _) (done_by_keeps op.kind op.ty op.mem _ h) (is_masked op.mask done)

    operations_after_keeps : (done : List Entry) (ops : List PlainOp) → ListChanges core is ops → Keeps (List Entry) (operations_after core scope done ops)
    unfolding operations_after
    operations_after_keeps done [] h = of_pure done
    operations_after_keeps done (op ∷ ops) h = of_bind _ _ (operation_keeps op done h.0) (λ e. operations_after_keeps _ ops h.1)

    operations_keeps : (ops : List PlainOp) → ListChanges core is ops → Keeps (List Entry) (operations core scope ops)
    operations_keeps ops h = operations_after_keeps [] ops h

  make_room_keeps : (kind : Kind) (m : ℕ) → MayBe m → Keeps (Unit {0}) (make_room core kind m)
  make_room_keeps LineBuf m h = turn_rows_keeps m h
  make_room_keeps Reg m h = of_pure tt
  make_room_keeps Sram m h = of_pure tt
  make_room_keeps Fifo m h = of_pure tt
  make_room_keeps Dram m h = of_pure tt
  make_room_keeps ArgIn m h = of_pure tt
  make_room_keeps ArgOut m h = of_pure tt

  load_words_keeps : (r m : ℕ) (parts : List Part) → MayBe m → Keeps (List ℕ) (load_words core r m parts)
  load_words_keeps r m parts h = then_keeps _ _ (make_room_keeps (kind_of core m) m h)
      (in_order_keeps _ (λ offsets. of_bind _ _ (read_in_keeps (dram_number core r) _) (λ w. then_keeps _ _ (write_in_keeps m _ w h) (of_pure w))) (all_offsets parts))

  store_words_keeps : (r m : ℕ) (parts : List Part) → Keeps (List ℕ) (store_words core r m parts)
  store_words_keeps r m parts = in_order_keeps _ (λ offsets. of_bind _ _ (read_in_keeps m offsets) (λ w. then_keeps _ _ (write_in_keeps (dram_number core r) _ w (off_chip r)) (of_pure w))) (all_offsets parts)

  transfer_keeps : (r m : ℕ) (ts : List Taken) (move : Step (List ℕ)) → Keeps (List ℕ) move → Keeps History (transfer core r m ts move)
  transfer_keeps r m ts move q = chosen_keeps _ _ (of_pure _)
      (then_keeps _ _ (ensure_keeps (are_parts_inside (dims core (dram_number core r)) (map part_of ts))) (then_keeps _ _ (ensure_keeps (do_fit (range_limits (kind_of core m) (dims core m)) (lengths (map part_of ts)))) (of_bind _ _ q (λ ws. of_pure _))))
      (has_none (lengths (map part_of ts)))

  has_place_keeps : (m k : ℕ) → Keeps (Unit {0}) (has_place core m k)
  has_place_keeps m k = ensure_keeps (are_inside (dims core m) (pos k ∷ []))

  place_at_keeps : (r p k : ℕ) → Keeps ℕ (place_at core r p k)
  place_at_keeps r p k = then_keeps _ _ (has_place_keeps p k) (of_bind _ _ (read_in_keeps p _) (λ i. then_keeps _ _ (ensure_keeps (are_inside (dims core (dram_number core r)) (index_value i ∷ []))) (of_pure i)))

  gather_word_keeps : (r m p k : ℕ) → MayBe m → Keeps (ℕ × ℕ) (gather_word core r m p k)
  gather_word_keeps r m p k h = of_bind _ _ (place_at_keeps r p k) (λ at. of_bind _ _ (read_in_keeps (dram_number core r) _) (λ w. then_keeps _ _ (has_place_keeps m k) (then_keeps _ _ (write_in_keeps m _ w h) (of_pure _))))

  scatter_word_keeps : (r m p k : ℕ) → Keeps (ℕ × ℕ) (scatter_word core r m p k)
  scatter_word_keeps r m p k = of_bind _ _ (place_at_keeps r p k) (λ at. then_keeps _ _ (has_place_keeps m k) (of_bind _ _ (read_in_keeps m _) (λ w. then_keeps _ _ (write_in_keeps (dram_number core r) _ w (off_chip r)) (of_pure _))))

  module _ (reading : Reading) (most : ℕ) where
    renew_keeps : (m : ℕ) → MayBe m → Keeps (Unit {0}) (renew core reading most m)
    renew_keeps m h = hold_now_keeps m (fresh core m) h

    renew_in_body_keeps : (m : ℕ) → MayBe m → Keeps (Unit {0}) (renew_in_body core reading most m)
    renew_in_body_keeps m h = chosen_keeps _ _ (of_pure tt) (renew_keeps m h) (has_reset (mem core m).kind (mem core m).start)

    holds_depth_keeps : (m : ℕ) → Keeps (Unit {0}) (holds_depth core reading most m)
    holds_depth_keeps m = of_bind _ _ (of_look m queue_of) (λ ws. ensure_keeps (nat_le (length ws) (depth core m)))

    all_keep : (step : ℕ → Step (Unit {0})) → ((m : ℕ) → MayBe m → Keeps (Unit {0}) (step m)) → (owned : List ℕ) → AllPass core is owned → Keeps (List (Unit {0})) (in_order step owned)
    unfolding in_order
    all_keep step q [] h = of_pure []
    all_keep step q (m ∷ owned) h = of_bind (step m) _ (q m (passes m h.0)) (λ first. of_bind (in_order step owned) _ (all_keep step q owned h.1) (λ others. of_pure (first ∷ others)))

    pub all_renewed_keep : (owned : List ℕ) → AllPass core is owned → Keeps (List (Unit {0})) (in_order (renew core reading most) owned)
    all_renewed_keep owned h = all_keep (renew core reading most) renew_keeps owned h

    pub end_of_group_keeps : (style : Style) (owned : List ℕ) → Keeps (List (Unit {0})) (end_of_group core reading most style owned)
    end_of_group_keeps Stream owned = in_order_keeps (holds_depth core reading most) holds_depth_keeps owned
    end_of_group_keeps Pipe owned = of_pure []
    end_of_group_keeps Sequential owned = of_pure []
    end_of_group_keeps Parallel owned = of_pure []

    bounds_keeps : (scope : Scope) (n : PlainCounter) → ListChanges core is n.from → ListChanges core is n.until → Keeps Bounds (bounds core reading most scope n)
    bounds_keeps scope n f u = of_bind _ _ (operations_keeps scope n.from f) (λ a. of_bind _ _ (operations_keeps scope n.until u) (λ b. of_pure _))

    all_bounds_keep : (scope : Scope) (counters : List PlainCounter) → CountersChange core is counters → Keeps (List Bounds) (in_order (bounds core reading most scope) counters)
    unfolding in_order
    all_bounds_keep scope [] h = of_pure []
    all_bounds_keep scope (n ∷ counters) h = of_bind _ _ (bounds_keeps scope n h.0 h.1) (λ first. of_bind _ _ (all_bounds_keep scope counters h.2) (λ others. of_pure _))

    all_taken_keep : (scope : Scope) (spans : List PlainSpan) → SpansChange core is spans → Keeps (List Taken) (in_order (taken core reading most scope) spans)
    unfolding in_order
    all_taken_keep scope [] h = of_pure []
    all_taken_keep scope (single ops ∷ spans) h =
        of_bind _ _ (of_bind _ _ (operations_keeps scope ops h.0) (λ i. of_pure _)) (λ first. of_bind _ _ (all_taken_keep scope spans h.1) (λ others. of_pure _))
    all_taken_keep scope (range a b ∷ spans) h =
        of_bind _ _ (of_bind _ _ (operations_keeps scope a h.0) (λ x. of_bind _ _ (operations_keeps scope b h.1) (λ y. of_pure _))) (λ first. of_bind _ _ (all_taken_keep scope spans h.2) (λ others. of_pure _))

    state_now_keeps : (scope : Scope) (state : ℕ) (ops : List PlainOp) → MayBe state → ListChanges core is ops → Keeps (List Entry) (state_now core reading most scope state ops)
    state_now_keeps scope state ops h k = of_bind _ _ (operations_keeps scope ops k) (λ es. then_keeps _ _ (hold_now_keeps state _ h) (of_pure es))

    load_keeps : (scope : Scope) (r m : ℕ) (spans : List PlainSpan) → MayBe m → SpansChange core is spans → Keeps History (in_order (taken core reading most scope) spans >>= load_slice core r m)
    load_keeps scope r m spans h k = of_bind _ _ (all_taken_keep scope spans k) (λ ts. transfer_keeps r m ts _ (load_words_keeps r m (map part_of ts) h))

    store_keeps : (scope : Scope) (r m : ℕ) (spans : List PlainSpan) → SpansChange core is spans → Keeps History (in_order (taken core reading most scope) spans >>= store_slice core r m)
    store_keeps scope r m spans k = of_bind _ _ (all_taken_keep scope spans k) (λ ts. transfer_keeps r m ts _ (store_words_keeps r m (map part_of ts)))

    mutual
      unfolding run run_stages

      pub run_keeps : (node : PlainNode) (scope : Scope) → NodeChanges core is node → Keeps History (run core reading most node scope)
      run_keeps (inner counters owned ops comb) scope h =
          of_bind _ _ (all_bounds_keep scope counters h.0) (λ bs. of_bind _ _
          (in_order_keeps _ (λ values. then_keeps _ _ (all_keep _ renew_in_body_keeps owned h.1) (operations_keeps (in_group scope (loops_of reading counters bs) values) ops h.2)) (group_values (loops_of reading counters bs))) (λ groups. of_pure _))
      run_keeps (outer counters style owned stages) scope h =
          of_bind _ _ (all_bounds_keep scope counters h.0) (λ bs. of_bind _ _
          (in_order_keeps _ (λ values. then_keeps _ _ (all_keep _ renew_keeps owned h.1) (of_bind _ _ (run_stages_keep stages _ _ h.2) (λ runs. then_keeps _ _ (end_of_group_keeps style owned) (of_pure runs)))) (group_values (loops_of reading counters bs))) (λ groups. of_pure _))
      run_keeps (fsm start state test body next) scope h =
          of_bind _ _ (state_now_keeps scope state start (passes state h.1) h.0) (λ first. of_bind _ _
          (repeated_keeps _ _ _ (operations_keeps scope test h.2) (λ tested. of_bind _ _ (run_keeps body scope h.3) (λ k. of_bind _ _ (state_now_keeps scope state next (passes state h.1) h.4) (λ es. of_pure _))) most) (λ r. of_pure _))
      run_keeps (branch test first second) scope h =
          of_bind _ _ (operations_keeps scope test h.0) (λ es. of_bind _ _ (chosen_keeps _ _ (run_keeps first scope h.1) (run_keeps second scope h.2) (last_word es == 1)) (λ k. of_pure _))
      run_keeps (load r m spans) scope h = load_keeps scope r m spans (passes m h.0) h.1
      run_keeps (store r m spans) scope h = store_keeps scope r m spans h
      run_keeps (sparse Gather r m (Some p) spans count par) scope h =
          of_bind _ _ (operations_keeps scope count h.2) (λ es. of_bind _ _ (in_order_keeps _ (λ k. gather_word_keeps r m p k (passes m h.0)) _) (λ ws. of_pure _))
      run_keeps (sparse Scatter r m (Some p) spans count par) scope h =
          of_bind _ _ (operations_keeps scope count h.2) (λ es. of_bind _ _ (in_order_keeps _ (λ k. scatter_word_keeps r m p k) _) (λ ws. of_pure _))
      run_keeps (sparse Gather r m None spans count par) scope h = load_keeps scope r m spans (passes m h.0) h.1
      run_keeps (sparse Scatter r m None spans count par) scope h = load_keeps scope r m spans (passes m h.0) h.1
      run_keeps (sparse WideLoad r m places spans count par) scope h = load_keeps scope r m spans (passes m h.0) h.1
      run_keeps (sparse WideStore r m places spans count par) scope h = store_keeps scope r m spans h.1

      pub run_stages_keep : (stages : PlainStages) (live : ℕ → Bool) (scope : Scope) → StagesChange core is stages → Keeps Runs (run_stages core reading most stages live scope)
      run_stages_keep no_stage live scope h = of_pure _
      run_stages_keep (more_stage first last comb node rest) live scope h = chosen_keeps _ _
          (of_bind _ _ (run_keeps node scope h.0) (λ k. of_bind _ _ (run_stages_keep rest live scope h.1) (λ others. of_pure _)))
          (of_bind _ _ (run_stages_keep rest live scope h.1) (λ others. of_pure _)) (is_some_live live first last)
