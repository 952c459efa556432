-- What a core means: one node at a time, in the order of the tree, by cases on what it is. Lanes are groups of
-- iterations that stand one after the other, so nothing is said of what is done at once.
use Rattle.std.specs.Prelude.{ℕ, ◌==◌, nat_le, Bool, true, false, List, [], ◌∷◌, length, Option, Some}
use Rattle.sp_words.specs.declared.kind.Kind.{Kind}
use Rattle.sp_words.specs.declared.kind.Kind.TheVariants.{Reg, Fifo}
use Rattle.sp_words.specs.declared.kind.Style.{Style}
use Rattle.sp_words.specs.declared.kind.Style.TheVariants.{Stream}
use Rattle.sp_words.specs.Memory.{cells}
use Rattle.sp_core.specs.declared.node.SparseKind.TheVariants.{Gather, Scatter, WideStore}
use Rattle.sp_core.specs.Accesses.{hold_now}
use Rattle.sp_core.specs.Declarations.{mem, depth, fresh}
use Rattle.sp_core.specs.Elements.{index_value, natural, numbers_below}
use Rattle.sp_core.specs.History.{Entry, Bounds, Taken, one, both, last_word, History, Runs, inner_ran, outer_ran, fsm_ran, branch_ran, picked, no_run, masked_run, more_run, groups_of, turns_of}
use Rattle.sp_core.specs.Operations.{operations}
use Rattle.sp_core.specs.PlainCore.{PlainOp, PlainCounter, PlainSpan, single, range, PlainNode, PlainStages, inner, outer, fsm, branch, load, store, sparse, no_stage, more_stage, PlainCore}
use Rattle.sp_core.specs.Scope.{Reading, loops_of, counts_of, group_values, is_live, is_some_live, Scope, in_group}
use Rattle.sp_core.specs.Step.{Step, pure, ◌>>=◌, ◌>>◌, ensure, look, in_order, repeated}
use Rattle.sp_core.specs.Store.{queue_of}
use Rattle.sp_core.specs.Transfers.{load_slice, store_slice, gather_word, scatter_word}

-- whether a memory is made fresh by a reset operation in an inner body: a FIFO, and a register with a start
abbrev pub has_reset : Kind → Option ℕ → Bool
has_reset Fifo start = true
has_reset Reg (Some w) = true
has_reset _ _ = false

module _ (core : PlainCore) (reading : Reading) (most : ℕ) where
  -- an owner makes its memory fresh
  abbrev pub renew : ℕ → Step (Unit {0})
  renew m = hold_now m (fresh core m)

  -- an inner body leaves those to their reset operations that have one
  abbrev pub renew_in_body : ℕ → Step (Unit {0})
  renew_in_body m = elim (has_reset (mem core m).kind (mem core m).start) [ true ↦ pure tt | false ↦ renew m ]

  -- at the end of a `Stream` block none of its FIFOs holds more words than its depth
  abbrev pub holds_depth : ℕ → Step (Unit {0})
  holds_depth m = do
    ws ← look (λ s. queue_of (s m))
    ensure (nat_le (length ws) (depth core m))

  abbrev pub end_of_group : Style → (owned : List ℕ) → Step (List (Unit {0}))
  end_of_group Stream owned = in_order holds_depth owned
  end_of_group _ owned = pure []

  -- the bounds of a counter, and a span of a slice
  abbrev pub bounds : Scope → PlainCounter → Step Bounds
  bounds scope c = do
    a ← operations core scope c.from
    b ← operations core scope c.until
    pure (record { from = a; until = b })

  abbrev pub taken : Scope → PlainSpan → Step Taken
  taken scope (single ops) = do
    i ← operations core scope ops
    pure (one i)
  taken scope (range from until) = do
    a ← operations core scope from
    b ← operations core scope until
    pure (both a b)

  -- a register holds the word of a list
  abbrev pub state_now : Scope → (state : ℕ) → List PlainOp → Step (List Entry)
  state_now scope state ops = do
    es ← operations core scope ops
    hold_now state (cells (Some (last_word es) ∷ []))
    pure es

  unfoldable mutual
    pub run : PlainNode → Scope → Step History
    run (inner counters owned ops comb) scope = do
      bs ← in_order (bounds scope) counters
      groups ← in_order (λ values. do
        in_order renew_in_body owned
        operations core (in_group scope (loops_of reading counters bs) values) ops) (group_values (loops_of reading counters bs))
      pure (inner_ran bs (counts_of (loops_of reading counters bs)) groups)
    run (outer counters style owned stages) scope = do
      bs ← in_order (bounds scope) counters
      groups ← in_order (λ values. do
        in_order renew owned
        runs ← run_stages stages (is_live (loops_of reading counters bs) values) (in_group scope (loops_of reading counters bs) values)
        end_of_group style owned
        pure runs) (group_values (loops_of reading counters bs))
      pure (outer_ran bs (counts_of (loops_of reading counters bs)) (groups_of groups))
    run (fsm start state test body next) scope = do
      first ← state_now scope state start
      (turns, last) ← repeated most (operations core scope test) (λ es. last_word es == 1) (λ tested. do
        h ← run body scope
        es ← state_now scope state next
        pure (record { test = tested; body = h; next = es }))
      pure (fsm_ran first (turns_of turns) last)
    run (branch test first second) scope = do
      es ← operations core scope test
      h ← elim (last_word es == 1) [ true ↦ run first scope | false ↦ run second scope ]
      pure (branch_ran es (last_word es == 1) h)
    run (load r m spans) scope = do
      ts ← in_order (taken scope) spans
      load_slice core r m ts
    run (store r m spans) scope = do
      ts ← in_order (taken scope) spans
      store_slice core r m ts
    run (sparse Gather r m (Some p) spans count par) scope = do
      es ← operations core scope count
      ws ← in_order (gather_word core r m p) (numbers_below (natural (index_value (last_word es))))
      pure (picked es ws)
    run (sparse Scatter r m (Some p) spans count par) scope = do
      es ← operations core scope count
      ws ← in_order (scatter_word core r m p) (numbers_below (natural (index_value (last_word es))))
      pure (picked es ws)
    run (sparse WideStore r m index spans count par) scope = do
      ts ← in_order (taken scope) spans
      store_slice core r m ts
    run (sparse kind r m index spans count par) scope = do
      ts ← in_order (taken scope) spans
      load_slice core r m ts

    -- each stage of which some lane isn't masked, in a group
    pub run_stages : PlainStages → (live : ℕ → Bool) → Scope → Step Runs
    run_stages no_stage live scope = pure no_run
    run_stages (more_stage first last comb node rest) live scope = elim (is_some_live live first last) [
      | true ↦ do
        h ← run node scope
        others ← run_stages rest live scope
        pure (more_run h others)
      | false ↦ do
        others ← run_stages rest live scope
        pure (masked_run others)
    ]
