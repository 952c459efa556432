-- What happens in a run, in the order of the text, taken from its history.
use Rattle.std.specs.Prelude.{ℕ, suc, ◌+◌, true, false, ℤ, List, [], ◌∷◌, ◌++◌, map, flat_map, length, Option, Some, None}
use Rattle.sp_words.specs.declared.kind.Kind.{Kind}
use Rattle.sp_words.specs.declared.kind.Kind.TheVariants.{LineBuf}
use Rattle.sp_core.specs.declared.node.SparseKind.TheVariants.{Gather, Scatter, WideStore}
use Rattle.sp_core.specs.declared.operation.OpKind.{OpKind}
use Rattle.sp_core.specs.declared.operation.OpKind.TheVariants.{Read, Write, Enq, Deq, Reset}
use Rattle.sp_core.specs.Declarations.{mem, kind_of, dram_number}
use Rattle.sp_core.specs.Elements.{index_value, natural}
use Rattle.sp_core.specs.History.{Entry, touched, last_word, Bounds, Taken, one, both, History, Groups, Runs, Turns, inner_ran, outer_ran, fsm_ran, branch_ran, moved, picked, more_group, masked_run, more_run, no_turn, more_turn}
use Rattle.sp_core.specs.Numbering.{counters_size, spans_size, node_count, number_count}
use Rattle.sp_core.specs.PlainCore.{PlainOp, PlainCounter, PlainSpan, single, range, PlainNode, PlainStages, inner, outer, fsm, branch, load, store, sparse, more_stage, PlainCore}
use Rattle.sp_core.specs.Scope.{Reading, loops_of, group_values}
use Rattle.sp_core.specs.Sequential.{has_reset}
use Rattle.sp_core.specs.Transfers.{Part, index, between, part_of, lengths, has_none, places_of, all_offsets, loaded_at}

-- what is done to a memory
pub data Act : Type 0 where
  -- a word is looked at, or is written
  reads : (word : ℕ) → Act
  writes : (word : ℕ) → Act
  -- a FIFO gets a word, or gives its oldest one
  puts : (word : ℕ) → Act
  takes : (word : ℕ) → Act
  -- a FIFO becomes empty, or a register takes its start
  resets : Act
  -- the rows of a line buffer turn
  turns : Act

-- where in a run something is done, at one of the controllers around: before its groups, which is where its bounds and the
-- start of an FSM stand; in a group of a loop, in a stage, which is 0 in an inner body; or in a turn of an FSM or, as turn
-- 0, in a branch
pub data When : Type 0 where
  before : When
  in_group_of : (group stage : ℕ) → When
  in_turn : (turn : ℕ) → When

-- by the number of the controller among all nodes in preorder
pub record At : Type 0 where
  pub node : ℕ
  pub when : When

-- the controllers around, and the values of their counters, outermost first
pub record Standing : Type 0 where
  pub path : List At
  pub counters : List ℤ

abbrev pub inside_at : Standing → (node : ℕ) → When → List ℤ → Standing
inside_at st k when values = record { path = st.path ++ record { node = k; when = when } ∷ []; counters = st.counters ++ values }

-- an operation or a transfer, by its number, touches its memory at these indices
pub record Event : Type 0 where
  pub number : ℕ
  pub standing : Standing
  pub mem : ℕ
  pub indices : List ℕ
  pub act : Act

-- a transfer that moves a word takes a slice: the first index of each span, and the length of each range; a gather or
-- scatter takes a length alone
pub record Slice : Type 0 where
  pub number : ℕ
  pub standing : Standing
  pub firsts : List ℤ
  pub lengths : List ℕ

pub data Moment : Type 0 where
  touches : Event → Moment
  slices : Slice → Moment
  -- its owner makes a memory fresh
  renews : (mem : ℕ) → Moment
  -- an FSM keeps its state
  keeps : (mem word : ℕ) → Moment

-- the act of an operation
abbrev pub act_of : OpKind → (word : ℕ) → Option Act
act_of Read w = Some (reads w)
act_of Write w = Some (writes w)
act_of Enq w = Some (puts w)
act_of Deq w = Some (takes w)
act_of Reset w = Some resets
act_of _ w = None

abbrev pub event_of : (number : ℕ) → Standing → Option ℕ → (indices : List ℕ) → Option Act → List Moment
event_of n st (Some m) is (Some act) = touches (record { number = n; standing = st; mem = m; indices = is; act = act }) ∷ []
event_of n st _ is _ = []

abbrev pub entry_moments : (number : ℕ) → Standing → OpKind → Option ℕ → Entry → List Moment
entry_moments n st kind m (touched is w) = event_of n st m is (act_of kind w)
entry_moments n st kind m _ = []

-- those of a list, by the number of its first operation
abbrev pub list_moments : (number : ℕ) → Standing → List PlainOp → List Entry → List Moment
list_moments n st (op ∷ ops) (e ∷ entries) = entry_moments n st op.kind op.mem e ++ list_moments (suc n) st ops entries
list_moments n st _ _ = []

abbrev pub bounds_moments : (number : ℕ) → Standing → List PlainCounter → List Bounds → List Moment
bounds_moments n st (c ∷ counters) (b ∷ bounds) =
    (list_moments n st c.from b.from ++ list_moments (n + length c.from) st c.until b.until)
    ++ bounds_moments (n + (length c.from + length c.until)) st counters bounds
bounds_moments n st _ _ = []

abbrev pub spans_moments : (number : ℕ) → Standing → List PlainSpan → List Taken → List Moment
spans_moments n st (single ops ∷ spans) (one es ∷ taken) = list_moments n st ops es ++ spans_moments (n + length ops) st spans taken
spans_moments n st (range a b ∷ spans) (both es fs ∷ taken) =
    (list_moments n st a es ++ list_moments (n + length a) st b fs) ++ spans_moments (n + (length a + length b)) st spans taken
spans_moments n st _ _ = []

-- the first index of each span
abbrev pub first_of : Part → ℤ
first_of (index i) = i
first_of (between a b) = a

module _ (core : PlainCore) where
  module _ (n : ℕ) (st : Standing) where
    abbrev pub dram_event : (dram : ℕ) → (places : List ℕ) → Act → Moment
    dram_event r places act = touches (record { number = n; standing = st; mem = dram_number core r; indices = places; act = act })

    abbrev pub mem_event : (mem : ℕ) → (indices : List ℕ) → Act → Moment
    mem_event m is act = touches (record { number = n; standing = st; mem = m; indices = is; act = act })

    abbrev pub rows_turn : Kind → ℕ → List Moment
    rows_turn LineBuf m = mem_event m [] turns ∷ []
    rows_turn kind m = []

    abbrev pub load_moments : (dram mem : ℕ) → List Part → (offsets : List (List ℕ)) → (words : List ℕ) → List Moment
    load_moments r m parts (o ∷ offsets) (w ∷ words) =
        dram_event r (places_of parts o) (reads w) ∷ mem_event m (loaded_at core (kind_of core m) m o) (writes w) ∷ load_moments r m parts offsets words
    load_moments r m parts _ _ = []

    abbrev pub store_moments : (dram mem : ℕ) → List Part → (offsets : List (List ℕ)) → (words : List ℕ) → List Moment
    store_moments r m parts (o ∷ offsets) (w ∷ words) =
        mem_event m o (reads w) ∷ dram_event r (places_of parts o) (writes w) ∷ store_moments r m parts offsets words
    store_moments r m parts _ _ = []

    -- where a range is empty nothing happens
    abbrev pub slice_moments : List Part → List Moment → List Moment
    slice_moments parts words = elim (has_none (lengths parts)) [
      | true ↦ []
      | false ↦ slices (record { number = n; standing = st; firsts = map first_of parts; lengths = lengths parts }) ∷ words
    ]

    abbrev pub loaded : (dram mem : ℕ) → List Part → (words : List ℕ) → List Moment
    loaded r m parts words = slice_moments parts (rows_turn (kind_of core m) m ++ load_moments r m parts (all_offsets parts) words)

    abbrev pub stored : (dram mem : ℕ) → List Part → (words : List ℕ) → List Moment
    stored r m parts words = slice_moments parts (store_moments r m parts (all_offsets parts) words)

    -- word k and those after it, each with the word that is its place
    abbrev pub gather_moments : (dram mem places k : ℕ) → List (ℕ × ℕ) → List Moment
    gather_moments r m p k [] = []
    gather_moments r m p k ((i, w) ∷ rest) =
        mem_event p (k ∷ []) (reads i) ∷ dram_event r (natural (index_value i) ∷ []) (reads w) ∷ mem_event m (k ∷ []) (writes w) ∷ gather_moments r m p (suc k) rest

    abbrev pub scatter_moments : (dram mem places k : ℕ) → List (ℕ × ℕ) → List Moment
    scatter_moments r m p k [] = []
    scatter_moments r m p k ((i, w) ∷ rest) =
        mem_event p (k ∷ []) (reads i) ∷ mem_event m (k ∷ []) (reads w) ∷ dram_event r (natural (index_value i) ∷ []) (writes w) ∷ scatter_moments r m p (suc k) rest

    abbrev pub picked_moments : List (ℕ × ℕ) → List Moment → List Moment
    picked_moments [] moments = []
    picked_moments (w ∷ ws) moments = slices (record { number = n; standing = st; firsts = []; lengths = length (w ∷ ws) ∷ [] }) ∷ moments

  -- an inner body leaves memories to their reset operations that have one
  abbrev pub renewal_in_body : ℕ → List Moment
  renewal_in_body m = elim (has_reset (mem core m).kind (mem core m).start) [ true ↦ [] | false ↦ renews m ∷ [] ]

  module _ (reading : Reading) where
    -- the groups of an inner body, from group g on, where the body's first operation has number n
    abbrev pub body_moments : (node n g : ℕ) → Standing → (owned : List ℕ) → List PlainOp → List (List ℤ) → List (List Entry) → List Moment
    body_moments k n g st owned ops (v ∷ values) (es ∷ groups) =
        (flat_map renewal_in_body owned ++ list_moments n (inside_at st k (in_group_of g 0) v) ops es) ++ body_moments k n (suc g) st owned ops values groups
    body_moments k n g st owned ops _ _ = []

    -- by the number of the node, that of its first operation, and what stands around
    unfoldable mutual
      pub moments : PlainNode → (node n : ℕ) → Standing → History → List Moment
      moments (inner counters owned ops comb) k n st (inner_ran bs counts groups) =
          bounds_moments n (inside_at st k before []) counters bs
          ++ body_moments k (n + counters_size counters) 0 st owned ops (group_values (loops_of reading counters bs)) groups
      moments (outer counters style owned stages) k n st (outer_ran bs counts groups) =
          bounds_moments n (inside_at st k before []) counters bs
          ++ group_moments stages k (n + counters_size counters) 0 st owned (group_values (loops_of reading counters bs)) groups
      moments (fsm start state test body next) k n st (fsm_ran first ts last) =
          (list_moments n (inside_at st k before []) start first ++ keeps state (last_word first) ∷ [])
          ++ turn_moments start state test body next k n 0 st ts last
      moments (branch test first second) k n st (branch_ran es true h) =
          list_moments n (inside_at st k (in_turn 0) []) test es ++ moments first (suc k) (n + length test) (inside_at st k (in_turn 0) []) h
      moments (branch test first second) k n st (branch_ran es false h) =
          list_moments n (inside_at st k (in_turn 0) []) test es
          ++ moments second (suc k + node_count first) (n + (length test + number_count first)) (inside_at st k (in_turn 0) []) h
      moments (load r m spans) k n st (moved taken words) =
          spans_moments n st spans taken ++ loaded (n + spans_size spans) st r m (map part_of taken) words
      moments (store r m spans) k n st (moved taken words) =
          spans_moments n st spans taken ++ stored (n + spans_size spans) st r m (map part_of taken) words
      moments (sparse Gather r m (Some p) spans count par) k n st (picked es ws) =
          list_moments (n + spans_size spans) st count es ++ picked_moments (n + (spans_size spans + length count)) st ws (gather_moments (n + (spans_size spans + length count)) st r m p 0 ws)
      moments (sparse Scatter r m (Some p) spans count par) k n st (picked es ws) =
          list_moments (n + spans_size spans) st count es ++ picked_moments (n + (spans_size spans + length count)) st ws (scatter_moments (n + (spans_size spans + length count)) st r m p 0 ws)
      moments (sparse WideStore r m places spans count par) k n st (moved taken words) =
          spans_moments n st spans taken ++ stored (n + (spans_size spans + length count)) st r m (map part_of taken) words
      moments (sparse kind r m places spans count par) k n st (moved taken words) =
          spans_moments n st spans taken ++ loaded (n + (spans_size spans + length count)) st r m (map part_of taken) words
      moments _ k n st _ = []

      -- the groups of an outer, from group g on, where its stages' first operation has number n
      pub group_moments : PlainStages → (node n g : ℕ) → Standing → (owned : List ℕ) → List (List ℤ) → Groups → List Moment
      group_moments stages k n g st owned (v ∷ values) (more_group runs rest) =
          (map renews owned ++ stage_moments stages k n 0 g (suc k) v st runs) ++ group_moments stages k n (suc g) st owned values rest
      group_moments stages k n g st owned _ _ = []

      -- the stages from stage s on, in a group of these values, where the first node has number j
      pub stage_moments : PlainStages → (node n s g j : ℕ) → List ℤ → Standing → Runs → List Moment
      stage_moments (more_stage first last comb node rest) k n s g j v st (more_run h hs) =
          moments node j n (inside_at st k (in_group_of g s) v) h ++ stage_moments rest k (n + number_count node) (suc s) g (j + node_count node) v st hs
      stage_moments (more_stage first last comb node rest) k n s g j v st (masked_run hs) =
          stage_moments rest k (n + number_count node) (suc s) g (j + node_count node) v st hs
      stage_moments _ k n s g j v st _ = []

      -- the turns of an FSM, from turn t on, and its last test
      pub turn_moments : (start : List PlainOp) → (state : ℕ) → (test : List PlainOp) → PlainNode → (next : List PlainOp) → (node n t : ℕ) → Standing → Turns → List Entry → List Moment
      turn_moments start state test body next k n t st no_turn last =
          list_moments (n + length start) (inside_at st k (in_turn t) []) test last
      turn_moments start state test body next k n t st (more_turn es h ns rest) last =
          (list_moments (n + length start) (inside_at st k (in_turn t) []) test es
          ++ (moments body (suc k) (n + (length start + length test)) (inside_at st k (in_turn t) []) h
          ++ (list_moments (n + (length start + (length test + number_count body))) (inside_at st k (in_turn t) []) next ns ++ keeps state (last_word ns) ∷ [])))
          ++ turn_moments start state test body next k n (suc t) st rest last

    -- a run of a whole core
    abbrev pub core_moments : History → List Moment
    core_moments h = moments core.root 0 0 (record { path = []; counters = [] }) h

-- the events among them
abbrev pub events_of : List Moment → List Event
events_of [] = []
events_of (touches e ∷ rest) = e ∷ events_of rest
events_of (moment ∷ rest) = events_of rest
