-- Stream blocks: which are proper, and how many words their FIFOs hold while they run. In a proper block the stages may run
-- at once, each waiting for the words of the others, and the block ends as if they ran one after the other.
use Rattle.std.specs.Prelude.{ℕ, max, ◌==◌, nat_le, Bool, true, false, not, ◌&&◌, ◌||◌, List, [], ◌∷◌, ◌++◌, filter, flat_map, count_by, position, Option, Some, None, if◌then◌else◌}
use Rattle.std.specs.List.{list_all, list_any}
use Rattle.sp_words.specs.declared.kind.Kind.{Kind}
use Rattle.sp_words.specs.declared.kind.Kind.TheVariants.{Fifo}
use Rattle.sp_words.specs.declared.kind.Style.{Style}
use Rattle.sp_words.specs.declared.kind.Style.TheVariants.{Stream}
use Rattle.sp_words.specs.Interface.{word_count}
use Rattle.sp_tree.specs.Expressions.{mem, dims}
use Rattle.sp_tree.specs.PlainProgram.{PlainMem}
use Rattle.sp_tree.specs.PlainStatement.{PlainStmtKind, PlainStmts, stmt, declare, block, foreach, reduce, mem_reduce, fsm, branch, no_stmt, more_stmt}
use Rattle.sp_tree.specs.Structure.{own_mems, is_inner}
use Rattle.sp_tree.specs.Tallies.{Tally, nothing, ◌&◌, changes_of, uses_of, is_among, a_write, tally, bound_tallies, primitive}

abbrev pub is_fifo : Kind → Bool
is_fifo Fifo = true
is_fifo _ = false

-- all together
abbrev pub all_tallies : List Tally → Tally
all_tallies [] = nothing
all_tallies (t ∷ ts) = t & all_tallies ts

-- an inner body
abbrev pub body_tally : PlainStmts → Tally
body_tally no_stmt = nothing
body_tally (more_stmt (stmt place kind) rest) = elim (primitive kind) [ Some t ↦ t & body_tally rest | None ↦ body_tally rest ]

-- a stage of a block: what it does in its bounds, and what it does in all
pub record StreamStage : Type 0 where
  pub bounds : Tally
  pub whole : Tally

-- a loop with an inner body
abbrev pub stream_stage : PlainStmtKind → Option StreamStage
stream_stage (foreach style counters body) =
    if is_inner body then Some (record { bounds = all_tallies (bound_tallies counters); whole = all_tallies (bound_tallies counters) & body_tally body }) else None
stream_stage (reduce style fold acc counters body word comb) =
    if is_inner body
    then Some (record { bounds = all_tallies (bound_tallies counters); whole = all_tallies (bound_tallies counters) & body_tally body & tally word & a_write acc })
    else None
stream_stage _ = None

abbrev pub is_declaration : PlainStmtKind → Bool
is_declaration (declare m) = true
is_declaration _ = false

-- each statement is a declaration or a stage
abbrev pub are_stages : PlainStmts → Bool
are_stages no_stmt = true
are_stages (more_stmt (stmt place kind) rest) = elim (stream_stage kind) [ Some s ↦ are_stages rest | None ↦ is_declaration kind && are_stages rest ]

abbrev pub stream_stages : PlainStmts → List StreamStage
stream_stages no_stmt = []
stream_stages (more_stmt (stmt place kind) rest) = elim (stream_stage kind) [ Some s ↦ s ∷ stream_stages rest | None ↦ stream_stages rest ]

abbrev pub puts_into : ℕ → StreamStage → Bool
puts_into m s = is_among m s.whole.puts

abbrev pub takes_from : ℕ → StreamStage → Bool
takes_from m s = is_among m s.whole.takes

-- at most one stage puts into a FIFO and at most one takes from it, and no stage does both
abbrev pub has_one_at_each_end : List StreamStage → ℕ → Bool
has_one_at_each_end stages m =
    nat_le (count_by (puts_into m) stages) 1 && nat_le (count_by (takes_from m) stages) 1
    && not (list_any (λ s. puts_into m s && takes_from m s) stages)

-- a memory that two stages name is changed by none
abbrev pub is_shared_unchanged : List StreamStage → ℕ → Bool
is_shared_unchanged stages m =
    nat_le (count_by (λ s. is_among m (uses_of s.whole)) stages) 1 || not (list_any (λ s. is_among m (changes_of s.whole)) stages)

-- the two stages that a FIFO joins, by their numbers
abbrev pub joined_by : List StreamStage → ℕ → List (ℕ × ℕ)
joined_by stages m = elim (position (puts_into m) stages) [
  | Some a ↦ elim (position (takes_from m) stages) [ Some b ↦ (a, b) ∷ [] | None ↦ [] ]
  | None ↦ []
]

-- whether these edges join two vertices: by a way without the first edge, or over it in one direction or the other
abbrev pub are_joined : List (ℕ × ℕ) → ℕ → ℕ → Bool
are_joined [] a b = a == b
are_joined ((c, d) ∷ edges) a b = are_joined edges a b || (are_joined edges a c && are_joined edges d b) || (are_joined edges a d && are_joined edges c b)

-- no edge joins two vertices that those after it join already
abbrev pub is_forest : List (ℕ × ℕ) → Bool
is_forest [] = true
is_forest ((a, b) ∷ edges) = not (are_joined edges a b) && is_forest edges

-- the room of a FIFO that a proper Stream block declares, where its depth is less
abbrev pub stream_room : ℕ
stream_room = 65536

module _ (mems : List PlainMem) where
  -- the FIFOs that a block declares, and the other memories that its stages name
  abbrev pub own_fifos : PlainStmts → List ℕ
  own_fifos body = filter (λ m. is_fifo (mem mems m).kind) (own_mems body)

  abbrev pub other_mems : PlainStmts → List ℕ
  other_mems body = filter (λ m. not (is_among m (own_fifos body))) (flat_map (λ s. uses_of s.whole) (stream_stages body))

  -- the block is proper: its statements are declarations and loops with inner bodies; no bound names an SRAM or a line
  -- buffer; its FIFOs join at most two stages each, in one direction; all else that two stages name is changed by none;
  -- and the stages that its FIFOs join are a forest
  abbrev pub is_proper : PlainStmts → Bool
  is_proper body =
      are_stages body
      && list_all (λ s. not s.bounds.arrays) (stream_stages body)
      && list_all (has_one_at_each_end (stream_stages body)) (own_fifos body)
      && list_all (is_shared_unchanged (stream_stages body)) (other_mems body)
      && is_forest (flat_map (joined_by (stream_stages body)) (own_fifos body))

  -- the FIFOs that a block gives more room than their depth
  abbrev pub fifos_with_room : Style → PlainStmts → List ℕ
  fifos_with_room Stream body = if is_proper body then own_fifos body else []
  fifos_with_room _ body = []

  -- all such FIFOs
  abbrev mutual
    pub roomy_in : PlainStmts → List ℕ
    roomy_in no_stmt = []
    roomy_in (more_stmt (stmt place kind) rest) = kind_roomy kind ++ roomy_in rest

    pub kind_roomy : PlainStmtKind → List ℕ
    kind_roomy (block style body) = fifos_with_room style body ++ roomy_in body
    kind_roomy (foreach style counters body) = roomy_in body
    kind_roomy (reduce style fold acc counters body word comb) = roomy_in body
    kind_roomy (mem_reduce style acc counters body part comb) = roomy_in body
    kind_roomy (fsm start tested test state body last next) = roomy_in body
    kind_roomy (branch test first second) = roomy_in first ++ roomy_in second
    kind_roomy _ = []

  -- how many words a memory holds: a FIFO its depth, or its room
  abbrev pub room : (roomy : List ℕ) → ℕ → ℕ
  room roomy m = if is_among m roomy then max (word_count (dims mems m)) stream_room else word_count (dims mems m)
