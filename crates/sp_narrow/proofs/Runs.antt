-- A narrow core does in each run what its core does.
use mathlib.Core.Path.{fun_ext}
use Rattle.std.proofs.Common.{◌≡◌, ℕ, Bool, true, false, List, [], ◌∷◌, ◌++◌, Option, Some, None, refl, sym, ◌∙◌, ap}
use Rattle.std.specs.Prelude.{◌==◌, max, nat_lt, length, map, slice_index, if◌then◌else◌}
use Rattle.sp_words.specs.Ports.{PlainInput}
use Rattle.sp_words.specs.declared.kind.Style.{Style}
use Rattle.sp_words.specs.declared.kind.Style.TheVariants.{Pipe, Sequential, Parallel, Stream}
use Rattle.sp_words.specs.declared.types.Ty.{Ty}
use Rattle.sp_core.specs.declared.node.SparseKind.TheVariants.{Gather, Scatter, WideLoad, WideStore}
use Rattle.sp_core.specs.declared.operation.OpKind.{OpKind}
use Rattle.sp_core.specs.declared.operation.OpKind.TheVariants.{Word, Count, Live, Read, Write, Enq, Deq, Reset, One, Two, Shift, Mux, Cast}
use Rattle.sp_words.specs.Memory.{cells}
use Rattle.sp_core.specs.Accesses.{enqueue, hold_now, with_newest}
use Rattle.sp_core.specs.Declarations.{is_stream, streamed, streamed_in, is_among, depth}
use Rattle.sp_core.specs.History.{Entry, Bounds, Taken, History, Runs, one, both, last_word, inner_ran, outer_ran, fsm_ran, branch_ran, groups_of, turns_of, more_run, masked_run, picked, touched, left_out, word_at}
use Rattle.sp_core.specs.Meaning.{first_store, run_core}
use Rattle.sp_core.specs.Operations.{is_masked, access, access_of, done_by, operation, operations_after, operations}
use Rattle.sp_core.specs.PlainCore.{PlainOp, PlainCounter, PlainSpan, single, range, PlainNode, PlainStages, inner, outer, fsm, branch, load, store, sparse, no_stage, more_stage, PlainCore}
use Rattle.sp_core.specs.Scope.{Reading, Scope, no_scope, loops_of, counts_of, group_values, in_group, is_live, is_some_live}
use Rattle.sp_core.specs.Sequential.{renew, renew_in_body, end_of_group, taken, run, run_stages}
use Rattle.sp_core.specs.Step.{Step, pure, ◌>>=◌, ◌>>◌, ensure, look, change, in_order, repeated}
use Rattle.sp_core.specs.Store.{hold, queue_of}
use Rattle.sp_core.specs.Transfers.{load_slice, store_slice, gather_word, scatter_word}
use Rattle.sp_core.specs.Elements.{index_value, natural, numbers_below}
use Rattle.sp_narrow.specs.Narrow.{narrow_node, narrow_stages, narrow}

-- its `Stream` blocks own the same FIFOs
mutual
  same_streamed : (node : PlainNode) → streamed (narrow_node node) ≡ streamed node
  same_streamed (inner counters owned ops comb) = refl
  same_streamed (outer counters style owned stages) = ap (λ l. (if is_stream style then owned else []) ++ l) (same_streamed_in stages)
  same_streamed (fsm start state test body next) = same_streamed body
  same_streamed (branch test first second) = ap (λ l. l ++ streamed (narrow_node second)) (same_streamed first) ∙ ap (λ l. streamed first ++ l) (same_streamed second)
  same_streamed (load r m spans) = refl
  same_streamed (store r m spans) = refl
  same_streamed (sparse Gather r m places spans count par) = refl
  same_streamed (sparse Scatter r m places spans count par) = refl
  same_streamed (sparse WideLoad r m places spans count par) = refl
  same_streamed (sparse WideStore r m places spans count par) = refl

  same_streamed_in : (stages : PlainStages) → streamed_in (narrow_stages stages) ≡ streamed_in stages
  same_streamed_in no_stage = refl
  same_streamed_in (more_stage first last comb node rest) = ap (λ l. l ++ streamed_in (narrow_stages rest)) (same_streamed node) ∙ ap (λ l. streamed node ++ l) (same_streamed_in rest)

module _ (core : PlainCore) where
  -- a FIFO holds as many words
  enqueue_same : (m w : ℕ) → enqueue (narrow core) m w ≡ enqueue core m w
  enqueue_same m w = ap put_with (same_streamed core.root)
    where
      put_with : List ℕ → Step (Unit {0})
      put_with fifos = look (λ s. queue_of (s m)) >>= (λ ws. ensure (nat_lt (length ws) (if is_among m fifos then max (depth core m) 65536 else depth core m)) >> change (λ s. hold s m (with_newest w (s m))))

  module _ (scope : Scope) where
    access_same : (kind : OpKind) (m : ℕ) (args : List ℕ) → access (narrow core) scope kind m args ≡ access core scope kind m args
    access_same (Word w) m args = refl
    access_same (Count c l) m args = refl
    access_same (Live c a b) m args = refl
    access_same Read m args = refl
    access_same Write m args = refl
    access_same Enq m args = ap (λ (put : Step (Unit {0})). put >> pure (touched [] (slice_index args 0))) (enqueue_same m (slice_index args 0))
    access_same Deq m args = refl
    access_same Reset m args = refl
    access_same (One op) m args = refl
    access_same (Two op) m args = refl
    access_same (Shift l by) m args = refl
    access_same Mux m args = refl
    access_same (Cast to) m args = refl

    named_same : (kind : OpKind) (m : Option ℕ) (args : List ℕ) → access_of (narrow core) scope kind m args ≡ access_of core scope kind m args
    named_same kind None args = refl
    named_same kind (Some m) args = access_same kind m args

    done_same : (kind : OpKind) (ty : Ty) (m : Option ℕ) (args : List ℕ) → done_by (narrow core) scope kind ty m args ≡ done_by core scope kind ty m args
    done_same (Word w) ty m args = refl
    done_same (Count c l) ty m args = refl
    done_same (Live c a b) ty m args = refl
    done_same Read ty m args = named_same Read m args
    done_same Write ty m args = named_same Write m args
    done_same Enq ty m args = named_same Enq m args
    done_same Deq ty m args = named_same Deq m args
    done_same Reset ty m args = named_same Reset m args
    done_same (One op) ty m args = refl
    done_same (Two op) ty m args = refl
    done_same (Shift l by) ty m args = refl
    done_same Mux ty m args = refl
    done_same (Cast to) ty m args = refl

    operation_same : (op : PlainOp) (done : List Entry) → operation (narrow core) scope op done ≡ operation core scope op done
    operation_same op done = ap (λ (here : Step Entry). elim (is_masked op.mask done) as (λ _. Step Entry) [ true ↦ pure left_out | false ↦ here ]) (done_same op.kind op.ty op.mem (map (word_at done) op.args))

    after_same : (ops : List PlainOp) (done : List Entry) → operations_after (narrow core) scope done ops ≡ operations_after core scope done ops
    unfolding operations_after
    after_same [] done = refl
    after_same (op ∷ ops) done =
        ap (λ (here : Step Entry). here >>= (λ e. operations_after (narrow core) scope (done ++ e ∷ []) ops)) (operation_same op done)
        ∙ ap (λ (more : Entry → Step (List Entry)). operation core scope op done >>= more) (fun_ext (λ e. after_same ops (done ++ e ∷ [])))

  -- what a list does, in each scope
  abbrev Lists : Type 0
  Lists = Scope → List PlainOp → Step (List Entry)

  lists_same : operations (narrow core) ≡ operations core
  lists_same = fun_ext (λ scope. fun_ext (λ ops. after_same scope ops []))

  module _ (reading : Reading) (most : ℕ) where
    abbrev bounds_by : Lists → Scope → PlainCounter → Step Bounds
    bounds_by lists scope c = lists scope c.from >>= (λ a. lists scope c.until >>= (λ b. pure (record { from = a; until = b })))

    taken_by : Lists → Scope → PlainSpan → Step Taken
    taken_by lists scope (single ops) = lists scope ops >>= (λ i. pure (one i))
    taken_by lists scope (range from until) = lists scope from >>= (λ a. lists scope until >>= (λ b. pure (both a b)))

    taken_is : (c : PlainCore) (scope : Scope) (span : PlainSpan) → taken c reading most scope span ≡ taken_by (operations c) scope span
    unfolding taken_by
    taken_is c scope (single ops) = refl
    taken_is c scope (range from until) = refl

    taken_same : (scope : Scope) → taken (narrow core) reading most scope ≡ taken core reading most scope
    taken_same scope = fun_ext (λ span. taken_is (narrow core) scope span ∙ ap (λ (lists : Lists). taken_by lists scope span) lists_same ∙ sym (taken_is core scope span))

    abbrev state_by : Lists → Scope → (state : ℕ) → List PlainOp → Step (List Entry)
    state_by lists scope state ops = lists scope ops >>= (λ es. hold_now state (cells (Some (last_word es) ∷ [])) >> pure es)

    end_same : (style : Style) (owned : List ℕ) → end_of_group (narrow core) reading most style owned ≡ end_of_group core reading most style owned
    end_same Pipe owned = refl
    end_same Sequential owned = refl
    end_same Parallel owned = refl
    end_same Stream owned = refl

    inner_by : List PlainCounter → (owned : List ℕ) → List PlainOp → Scope → Lists → Step History
    inner_by counters owned ops scope lists =
        in_order (bounds_by lists scope) counters >>= (λ bs.
        in_order (λ values. in_order (renew_in_body core reading most) owned >> lists (in_group scope (loops_of reading counters bs) values) ops) (group_values (loops_of reading counters bs)) >>= (λ groups.
        pure (inner_ran bs (counts_of (loops_of reading counters bs)) groups)))

    outer_by : List PlainCounter → (owned : List ℕ) → Scope → Lists → Step (List (Unit {0})) → ((ℕ → Bool) → Scope → Step Runs) → Step History
    outer_by counters owned scope lists ends stages =
        in_order (bounds_by lists scope) counters >>= (λ bs.
        in_order (λ values. in_order (renew core reading most) owned >> (stages (is_live (loops_of reading counters bs) values) (in_group scope (loops_of reading counters bs) values) >>= (λ runs. ends >> pure runs))) (group_values (loops_of reading counters bs)) >>= (λ groups.
        pure (outer_ran bs (counts_of (loops_of reading counters bs)) (groups_of groups))))

    fsm_by : (start : List PlainOp) → (state : ℕ) → (test next : List PlainOp) → Scope → Lists → Step History → Step History
    fsm_by start state test next scope lists body =
        state_by lists scope state start >>= (λ first.
        repeated most (lists scope test) (λ es. last_word es == 1) (λ tested. body >>= (λ h. state_by lists scope state next >>= (λ es. pure (record { test = tested; body = h; next = es })))) >>= (λ r.
        pure (fsm_ran first (turns_of r.0) r.1)))

    branch_by : (test : List PlainOp) → Scope → Lists → Step History → Step History → Step History
    branch_by test scope lists first second =
        lists scope test >>= (λ es. (elim (last_word es == 1) as (λ _. Step History) [ true ↦ first | false ↦ second ]) >>= (λ h. pure (branch_ran es (last_word es == 1) h)))

    slice_by : List PlainSpan → (List Taken → Step History) → (PlainSpan → Step Taken) → Step History
    slice_by spans move here = in_order here spans >>= move

    stages_by : (live : ℕ → Bool) → (first last : ℕ) → Step History → Step Runs → Step Runs
    stages_by live first last node rest = elim (is_some_live live first last) as (λ _. Step Runs) [
      | true ↦ node >>= (λ h. rest >>= (λ others. pure (more_run h others)))
      | false ↦ rest >>= (λ others. pure (masked_run others))
    ]

    mutual
      unfolding run run_stages inner_by outer_by fsm_by branch_by slice_by stages_by

      pub run_same : (node : PlainNode) (scope : Scope) → run (narrow core) reading most (narrow_node node) scope ≡ run core reading most node scope
      run_same (inner counters owned ops comb) scope = ap (inner_by counters owned ops scope) lists_same
      run_same (outer counters style owned stages) scope =
          ap (λ (lists : Lists). outer_by counters owned scope lists (end_of_group (narrow core) reading most style owned) (run_stages (narrow core) reading most (narrow_stages stages))) lists_same
          ∙ ap (λ (ends : Step (List (Unit {0}))). outer_by counters owned scope (operations core) ends (run_stages (narrow core) reading most (narrow_stages stages))) (end_same style owned)
          ∙ ap (outer_by counters owned scope (operations core) (end_of_group core reading most style owned)) (fun_ext (λ live. fun_ext (λ inside. stages_same stages live inside)))
      run_same (fsm start state test body next) scope =
          ap (λ (lists : Lists). fsm_by start state test next scope lists (run (narrow core) reading most (narrow_node body) scope)) lists_same
          ∙ ap (fsm_by start state test next scope (operations core)) (run_same body scope)
      run_same (branch test first second) scope =
          ap (λ (lists : Lists). branch_by test scope lists (run (narrow core) reading most (narrow_node first) scope) (run (narrow core) reading most (narrow_node second) scope)) lists_same
          ∙ ap (λ (one : Step History). branch_by test scope (operations core) one (run (narrow core) reading most (narrow_node second) scope)) (run_same first scope)
          ∙ ap (branch_by test scope (operations core) (run core reading most first scope)) (run_same second scope)
      run_same (load r m spans) scope = ap (slice_by spans (load_slice core r m)) (taken_same scope)
      run_same (store r m spans) scope = ap (slice_by spans (store_slice core r m)) (taken_same scope)
      run_same (sparse WideLoad r m places spans count par) scope = ap (slice_by spans (load_slice core r m)) (taken_same scope)
      run_same (sparse WideStore r m places spans count par) scope = ap (slice_by spans (store_slice core r m)) (taken_same scope)
      run_same (sparse Gather r m (Some p) spans count par) scope = ap (λ (lists : Lists). lists scope count >>= (λ es. in_order (gather_word core r m p) (numbers_below (natural (index_value (last_word es)))) >>= (λ ws. pure (picked es ws)))) lists_same
      run_same (sparse Scatter r m (Some p) spans count par) scope = ap (λ (lists : Lists). lists scope count >>= (λ es. in_order (scatter_word core r m p) (numbers_below (natural (index_value (last_word es)))) >>= (λ ws. pure (picked es ws)))) lists_same
      run_same (sparse Gather r m None spans count par) scope = ap (slice_by spans (load_slice core r m)) (taken_same scope)
      run_same (sparse Scatter r m None spans count par) scope = ap (slice_by spans (load_slice core r m)) (taken_same scope)

      stages_same : (stages : PlainStages) (live : ℕ → Bool) (scope : Scope) → run_stages (narrow core) reading most (narrow_stages stages) live scope ≡ run_stages core reading most stages live scope
      stages_same no_stage live scope = refl
      stages_same (more_stage first last comb node rest) live scope =
          ap (λ (here : Step History). stages_by live first last here (run_stages (narrow core) reading most (narrow_stages rest) live scope)) (run_same node scope)
          ∙ ap (stages_by live first last (run core reading most node scope)) (stages_same rest live scope)

  pub runs_alike : (reading : Reading) (n : ℕ) (input : PlainInput) → run_core reading n (narrow core) input ≡ run_core reading n core input
  unfolding run_core
  runs_alike reading n input = ap (λ (step : Step History). step (first_store core input)) (run_same reading n core.root no_scope)
