-- What stands in a body: its declarations in the order of the text, how deep its controllers stand one inside another,
-- and which of its statements are stages.
use Rattle.std.specs.Prelude.{ℕ, ◌+◌, ◌*◌, max, ◌==◌, not, Bool, true, false, List, [], ◌∷◌, ◌++◌, map, filter, flat_map, Some, None, if◌then◌else◌}
use Rattle.sp_tree.specs.PlainStatement.{PlainSpan, single, range, PlainCounter, PlainStmtKind, PlainStmts, stmt, declare, name, set_reg, set_out, set_sram, enq, load_sram, load_line, store, gather, scatter, block, foreach, reduce, mem_reduce, fsm, branch, no_stmt, more_stmt}
use Rattle.sp_tree.specs.Tallies.{Tally, nothing, ◌&◌, uses_of, tally, slice_tally, bound_tallies, primitive}

-- the numbers of the memories, values and counters that are declared, in order
abbrev mutual
  pub mems_declared : PlainStmts → List ℕ
  mems_declared no_stmt = []
  mems_declared (more_stmt (stmt place kind) rest) = mems_in kind ++ mems_declared rest

  pub mems_in : PlainStmtKind → List ℕ
  mems_in (declare m) = m ∷ []
  mems_in (block style body) = mems_declared body
  mems_in (foreach style counters body) = mems_declared body
  mems_in (reduce style fold acc counters body word comb) = mems_declared body
  mems_in (mem_reduce style acc counters body part comb) = mems_declared body
  mems_in (fsm start tested test state body last next) = mems_declared body
  mems_in (branch test first second) = mems_declared first ++ mems_declared second
  mems_in _ = []

abbrev mutual
  pub vals_declared : PlainStmts → List ℕ
  vals_declared no_stmt = []
  vals_declared (more_stmt (stmt place kind) rest) = vals_in kind ++ vals_declared rest

  pub vals_in : PlainStmtKind → List ℕ
  vals_in (name v e) = v ∷ []
  vals_in (block style body) = vals_declared body
  vals_in (foreach style counters body) = vals_declared body
  vals_in (reduce style fold acc counters body word comb) = vals_declared body
  vals_in (mem_reduce style acc counters body part comb) = vals_declared body
  vals_in (fsm start tested test state body last next) = tested ∷ state ∷ vals_declared body ++ last ∷ []
  vals_in (branch test first second) = vals_declared first ++ vals_declared second
  vals_in _ = []

abbrev pub counter_numbers : List PlainCounter → List ℕ
counter_numbers counters = map (λ c. c.number) counters

abbrev mutual
  pub counters_declared : PlainStmts → List ℕ
  counters_declared no_stmt = []
  counters_declared (more_stmt (stmt place kind) rest) = counters_in kind ++ counters_declared rest

  pub counters_in : PlainStmtKind → List ℕ
  counters_in (block style body) = counters_declared body
  counters_in (foreach style counters body) = counter_numbers counters ++ counters_declared body
  counters_in (reduce style fold acc counters body word comb) = counter_numbers counters ++ counters_declared body
  counters_in (mem_reduce style acc counters body part comb) = counter_numbers counters ++ counters_declared body
  counters_in (fsm start tested test state body last next) = counters_declared body
  counters_in (branch test first second) = counters_declared first ++ counters_declared second
  counters_in _ = []

-- how many controllers stand one inside another
abbrev mutual
  pub depth : PlainStmts → ℕ
  depth no_stmt = 0
  depth (more_stmt (stmt place kind) rest) = max (depth_in kind) (depth rest)

  pub depth_in : PlainStmtKind → ℕ
  depth_in (block style body) = 1 + depth body
  depth_in (foreach style counters body) = 1 + depth body
  depth_in (reduce style fold acc counters body word comb) = 1 + depth body
  depth_in (mem_reduce style acc counters body part comb) = 1 + depth body
  depth_in (fsm start tested test state body last next) = 1 + depth body
  depth_in (branch test first second) = 1 + max (depth first) (depth second)
  depth_in _ = 0

-- the memories that the statements of a body declare themselves
abbrev pub own_mems : PlainStmts → List ℕ
own_mems no_stmt = []
own_mems (more_stmt (stmt place (declare m)) rest) = m ∷ own_mems rest
own_mems (more_stmt _ rest) = own_mems rest

-- the lanes of a controller
abbrev pub lanes_of : List PlainCounter → ℕ
lanes_of [] = 1
lanes_of (c ∷ counters) = c.par * lanes_of counters

-- and of a slice
abbrev pub slice_lanes : List PlainSpan → ℕ
slice_lanes [] = 1
slice_lanes (single e ∷ spans) = slice_lanes spans
slice_lanes (range a b par ∷ spans) = par * slice_lanes spans

-- a body without controllers and transfers is inner
abbrev pub is_inner : PlainStmts → Bool
is_inner no_stmt = true
is_inner (more_stmt (stmt place kind) rest) = elim (primitive kind) [ Some t ↦ is_inner rest | None ↦ false ]

-- bounds and slices that read an SRAM or a line buffer are computed in a stage before their controller or transfer,
-- others in it
abbrev pub stages_before : List Tally → List (List ℕ)
stages_before ts = map uses_of (filter (λ t. t.arrays) ts)

abbrev pub uses_inside : List Tally → List ℕ
uses_inside ts = flat_map uses_of (filter (λ t. not t.arrays) ts)

-- the bounds of a controller, the slice of a transfer, and the number of words of a gather or scatter
abbrev pub outside : PlainStmtKind → List Tally
outside (load_sram sram dram spans) = slice_tally spans ∷ []
outside (load_line line dram spans) = slice_tally spans ∷ []
outside (store dram spans sram) = slice_tally spans ∷ []
outside (gather sram dram places count) = tally count ∷ []
outside (scatter dram places count sram) = tally count ∷ []
outside (foreach style counters body) = bound_tallies counters
outside (reduce style fold acc counters body word comb) = bound_tallies counters
outside (mem_reduce style acc counters body part comb) = bound_tallies counters
outside (declare m) = []
outside (name v e) = []
outside (set_reg m e) = []
outside (set_out m e) = []
outside (set_sram m indices e) = []
outside (enq m e) = []
outside (block style body) = []
outside (fsm start tested test state body last next) = []
outside (branch test first second) = []

-- the memories that are used by a statement that is no controller and no transfer
abbrev pub primitive_uses : PlainStmtKind → List ℕ
primitive_uses kind = elim (primitive kind) [ Some t ↦ uses_of t | None ↦ [] ]

-- the memories that are used anywhere in a body, and inside a controller or transfer
abbrev mutual
  pub body_uses : PlainStmts → List ℕ
  body_uses no_stmt = []
  body_uses (more_stmt (stmt place kind) rest) = primitive_uses kind ++ flat_map uses_of (outside kind) ++ inside kind ++ body_uses rest

  pub inside : PlainStmtKind → List ℕ
  inside (load_sram sram dram spans) = sram ∷ dram ∷ []
  inside (load_line line dram spans) = line ∷ dram ∷ []
  inside (store dram spans sram) = dram ∷ sram ∷ []
  inside (gather sram dram places count) = sram ∷ dram ∷ places ∷ []
  inside (scatter dram places count sram) = dram ∷ places ∷ sram ∷ []
  inside (block style body) = body_uses body
  inside (foreach style counters body) = body_uses body
  inside (reduce style fold acc counters body word comb) = acc ∷ body_uses body ++ uses_of (tally word)
  inside (mem_reduce style acc counters body part comb) = acc ∷ part ∷ body_uses body
  inside (fsm start tested test state body last next) = uses_of (tally start & tally test & tally next) ++ body_uses body
  inside (branch test first second) = uses_of (tally test) ++ body_uses first ++ body_uses second
  inside (declare m) = []
  inside (name v e) = []
  inside (set_reg m e) = []
  inside (set_out m e) = []
  inside (set_sram m indices e) = []
  inside (enq m e) = []

-- an inner stage, if it has an operation
abbrev pub inner_stage : Tally → List (List ℕ)
inner_stage t = if t.operations == 0 then [] else uses_of t ∷ []

-- the stages of a body that isn't inner, each by the memories that it uses: a stage for each run of statements that are
-- neither controllers nor transfers, of which some stand before the first statement here; `tail` is one more such
-- statement at the end
abbrev pub stages : PlainStmts → (before tail : Tally) → List (List ℕ)
stages no_stmt before tail = inner_stage (before & tail)
stages (more_stmt (stmt place kind) rest) before tail = elim (primitive kind) [
  | Some t ↦ stages rest (before & t) tail
  | None ↦ inner_stage before ++ stages_before (outside kind) ++ (uses_inside (outside kind) ++ inside kind) ∷ stages rest nothing tail
]
