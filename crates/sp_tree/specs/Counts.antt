-- The seven counts of a program that have a greatest number.
use Rattle.std.specs.Prelude.{ℕ, suc, ◌+◌, ◌*◌, max, ◌==◌, ◌||◌, ◌&&◌, not, Bool, true, false, List, [], ◌∷◌, ◌++◌, map, filter, sum_by, count_by, Some, None, if◌then◌else◌}
use Rattle.sp_words.specs.declared.kind.Kind.{Kind}
use Rattle.sp_words.specs.declared.kind.Kind.TheVariants.{Dram, ArgIn, ArgOut}
use Rattle.sp_words.specs.Interface.{word_count}
use Rattle.sp_tree.specs.Expressions.{dims}
use Rattle.sp_tree.specs.Meaning.{is_dram}
use Rattle.sp_tree.specs.PlainExpression.{PlainExpr}
use Rattle.sp_tree.specs.PlainProgram.{PlainMem, PlainProgram}
use Rattle.sp_tree.specs.PlainStatement.{PlainCounter, PlainStmtKind, PlainStmts, stmt, declare, name, set_reg, set_out, set_sram, enq, load_sram, load_line, store, gather, scatter, block, foreach, reduce, mem_reduce, fsm, branch, no_stmt, more_stmt}
use Rattle.sp_tree.specs.Streams.{room, roomy_in}
use Rattle.sp_tree.specs.Structure.{lanes_of, slice_lanes, is_inner, outside, stages}
use Rattle.sp_tree.specs.Tallies.{Tally, nothing, ◌&◌, uses_of, is_among, tally, primitive}

-- arguments, outputs and DRAMs
abbrev pub is_port : Kind → Bool
is_port Dram = true
is_port ArgIn = true
is_port ArgOut = true
is_port _ = false

-- statements and expressions
abbrev mutual
  pub nodes_in : PlainStmts → ℕ
  nodes_in no_stmt = 0
  nodes_in (more_stmt (stmt place kind) rest) = 1 + sum_by (λ t. t.nodes) (outside kind) + kind_nodes kind + nodes_in rest

  pub kind_nodes : PlainStmtKind → ℕ
  kind_nodes (block style body) = nodes_in body
  kind_nodes (foreach style counters body) = nodes_in body
  kind_nodes (reduce style fold acc counters body word comb) = nodes_in body + (tally word).nodes
  kind_nodes (mem_reduce style acc counters body part comb) = nodes_in body
  kind_nodes (fsm start tested test state body last next) = (tally start & tally test & tally next).nodes + nodes_in body
  kind_nodes (branch test first second) = (tally test).nodes + nodes_in first + nodes_in second
  kind_nodes kind = elim (primitive kind) [ Some t ↦ t.nodes | None ↦ 0 ]

-- declarations, statements and expressions; a declaration on the chip is a statement
abbrev pub node_count : PlainProgram → ℕ
node_count p = count_by (λ m. is_port m.kind) p.mems + nodes_in p.body

-- the greatest product of the lanes of a controller or a slice and of the controllers around it, which have so many
abbrev mutual
  pub lanes_in : PlainStmts → (around : ℕ) → ℕ
  lanes_in no_stmt around = around
  lanes_in (more_stmt (stmt place kind) rest) around = max (kind_lanes kind around) (lanes_in rest around)

  pub kind_lanes : PlainStmtKind → (around : ℕ) → ℕ
  kind_lanes (load_sram sram dram spans) around = around * slice_lanes spans
  kind_lanes (load_line line dram spans) around = around * slice_lanes spans
  kind_lanes (store dram spans sram) around = around * slice_lanes spans
  kind_lanes (block style body) around = lanes_in body around
  kind_lanes (foreach style counters body) around = lanes_in body (around * lanes_of counters)
  kind_lanes (reduce style fold acc counters body word comb) around = lanes_in body (around * lanes_of counters)
  kind_lanes (mem_reduce style acc counters body part comb) around = lanes_in body (around * lanes_of counters)
  kind_lanes (fsm start tested test state body last next) around = lanes_in body around
  kind_lanes (branch test first second) around = max (lanes_in first around) (lanes_in second around)
  kind_lanes (declare m) around = around
  kind_lanes (name v e) around = around
  kind_lanes (set_reg m e) around = around
  kind_lanes (set_out m e) around = around
  kind_lanes (set_sram m indices e) around = around
  kind_lanes (enq m e) around = around
  kind_lanes (gather sram dram places count) around = around
  kind_lanes (scatter dram places count sram) around = around

abbrev pub lane_count : PlainProgram → ℕ
lane_count p = lanes_in p.body 1

-- a piece of a program that is done at one place: a run of statements that are neither controllers nor transfers, or
-- a bound, a slice, a start, a test, a next state, a transfer or a combination; with the lanes of the controllers
-- around it, its operations and the memories that it reads
pub record Piece : Type 0 where
  pub is_run : Bool
  pub lanes : ℕ
  pub operations : ℕ
  pub reads : List ℕ

abbrev pub a_run : (lanes : ℕ) → Tally → Piece
a_run lanes t = record { is_run = true; lanes = lanes; operations = t.operations; reads = t.reads }

abbrev pub a_part : (lanes : ℕ) → Tally → Piece
a_part lanes t = record { is_run = false; lanes = lanes; operations = t.operations; reads = t.reads }

-- a transfer counts as one operation; a combination adds none
abbrev pub a_transfer : (lanes : ℕ) → List ℕ → Piece
a_transfer lanes reads = record { is_run = false; lanes = lanes; operations = 1; reads = reads }

abbrev pub a_combination : (lanes : ℕ) → List ℕ → Piece
a_combination lanes reads = record { is_run = false; lanes = lanes; operations = 0; reads = reads }

-- whether the value of a Reduce or Fold is a run of its own: its body isn't inner and it has one lane
abbrev pub is_value_apart : PlainStmts → List PlainCounter → Bool
is_value_apart body counters = not (is_inner body) && (lanes_of counters == 1)

-- the pieces of a body: some statements of the run stand before the first statement here, and `tail` is one more
-- statement at the end
abbrev mutual
  pub pieces : PlainStmts → (lanes : ℕ) → (before tail : Tally) → List Piece
  pieces no_stmt lanes before tail = a_run lanes (before & tail) ∷ []
  pieces (more_stmt (stmt place kind) rest) lanes before tail = elim (primitive kind) [
    | Some t ↦ pieces rest lanes (before & t) tail
    | None ↦ a_run lanes before ∷ map (a_part lanes) (outside kind) ++ inner_pieces kind lanes ++ pieces rest lanes nothing tail
  ]

  pub inner_pieces : PlainStmtKind → (lanes : ℕ) → List Piece
  inner_pieces (load_sram sram dram spans) lanes = a_transfer lanes [] ∷ []
  inner_pieces (load_line line dram spans) lanes = a_transfer lanes [] ∷ []
  inner_pieces (store dram spans sram) lanes = a_transfer lanes (sram ∷ []) ∷ []
  inner_pieces (gather sram dram places count) lanes = a_transfer lanes (places ∷ []) ∷ []
  inner_pieces (scatter dram places count sram) lanes = a_transfer lanes (places ∷ sram ∷ []) ∷ []
  inner_pieces (block style body) lanes = pieces body lanes nothing nothing
  inner_pieces (foreach style counters body) lanes = pieces body (lanes * lanes_of counters) nothing nothing
  inner_pieces (reduce style fold acc counters body word comb) lanes =
      if is_value_apart body counters
      then pieces body lanes nothing nothing ++ a_run lanes (tally word) ∷ []
      else pieces body (lanes * lanes_of counters) nothing (tally word)
  inner_pieces (mem_reduce style acc counters body part comb) lanes =
      pieces body (lanes * lanes_of counters) nothing nothing ++ a_combination lanes (acc ∷ part ∷ []) ∷ []
  inner_pieces (fsm start tested test state body last next) lanes =
      a_part lanes (tally start) ∷ a_part lanes (tally test) ∷ a_part lanes (tally next) ∷ pieces body lanes nothing nothing
  inner_pieces (branch test first second) lanes = a_part lanes (tally test) ∷ pieces first lanes nothing nothing ++ pieces second lanes nothing nothing
  inner_pieces (declare m) lanes = []
  inner_pieces (name v e) lanes = []
  inner_pieces (set_reg m e) lanes = []
  inner_pieces (set_out m e) lanes = []
  inner_pieces (set_sram m indices e) lanes = []
  inner_pieces (enq m e) lanes = []

abbrev pub program_pieces : PlainProgram → List Piece
program_pieces p = pieces p.body 1 nothing nothing

abbrev pub greatest : List ℕ → ℕ
greatest [] = 0
greatest (n ∷ ns) = max n (greatest ns)

-- the operations of one run, times its lanes; and all operations and transfers, times their lanes
abbrev pub body_count : PlainProgram → ℕ
body_count p = greatest (map (λ (x : Piece). x.operations * x.lanes) (filter (λ (x : Piece). x.is_run) (program_pieces p)))

abbrev pub operation_count : PlainProgram → ℕ
operation_count p = sum_by (λ (x : Piece). x.operations * x.lanes) (program_pieces p)

-- words as declared, on the chip and in DRAMs; a FIFO that a proper Stream block declares counts with its room
abbrev pub words_from : PlainProgram → (first : ℕ) → List PlainMem → ℕ
words_from p first [] = 0
words_from p first (m ∷ rest) = (if is_port m.kind then 0 else room p.mems (roomy_in p.mems p.body) first) + words_from p (suc first) rest

abbrev pub chip_words : PlainProgram → ℕ
chip_words p = words_from p 0 p.mems

abbrev pub dram_count : PlainProgram → ℕ
dram_count p = sum_by (λ (m : PlainMem). if is_dram m.kind then word_count m.dims else 0) p.mems

-- how many places of a list there are up to the last that is true, and from the first that is
abbrev pub up_to_last : List Bool → ℕ
up_to_last [] = 0
up_to_last (b ∷ bs) = if b || not (up_to_last bs == 0) then 1 + up_to_last bs else 0

abbrev pub first_to_last : List Bool → ℕ
first_to_last [] = 0
first_to_last (true ∷ bs) = 1 + up_to_last bs
first_to_last (false ∷ bs) = first_to_last bs

-- from the first stage that uses a memory to the last, at least 1
abbrev pub span_of : List (List ℕ) → ℕ → ℕ
span_of all m = max 1 (first_to_last (map (is_among m) all))

-- the stages of the body of a loop; none where it is inner
abbrev pub loop_stages : PlainStmts → (tail : Tally) → (end : List (List ℕ)) → List (List ℕ)
loop_stages body tail end = if is_inner body then [] else stages body nothing tail ++ end

abbrev pub reduce_stages : PlainStmts → List PlainCounter → (acc : ℕ) → PlainExpr → List (List ℕ)
reduce_stages body counters acc word =
    if lanes_of counters == 1 then loop_stages body nothing ((acc ∷ uses_of (tally word)) ∷ []) else loop_stages body (tally word) ((acc ∷ []) ∷ [])

-- each memory that is declared, with the lanes of the controllers around it times its stages, in a body with so many
-- lanes and these stages; a body that runs once for each entry has none
abbrev mutual
  pub copies_in : PlainStmts → (lanes : ℕ) → List (List ℕ) → List (ℕ × ℕ)
  copies_in no_stmt lanes all = []
  copies_in (more_stmt (stmt place kind) rest) lanes all = kind_copies kind lanes all ++ copies_in rest lanes all

  pub kind_copies : PlainStmtKind → (lanes : ℕ) → List (List ℕ) → List (ℕ × ℕ)
  kind_copies (declare m) lanes all = (m, lanes * span_of all m) ∷ []
  kind_copies (block style body) lanes all = copies_in body lanes []
  kind_copies (foreach style counters body) lanes all = copies_in body (lanes * lanes_of counters) (loop_stages body nothing [])
  kind_copies (reduce style fold acc counters body word comb) lanes all = copies_in body (lanes * lanes_of counters) (reduce_stages body counters acc word)
  kind_copies (mem_reduce style acc counters body part comb) lanes all =
      copies_in body (lanes * lanes_of counters) (stages body nothing nothing ++ (acc ∷ part ∷ []) ∷ [])
  kind_copies (fsm start tested test state body last next) lanes all = copies_in body lanes []
  kind_copies (branch test first second) lanes all = copies_in first lanes [] ++ copies_in second lanes []
  kind_copies (name v e) lanes all = []
  kind_copies (set_reg m e) lanes all = []
  kind_copies (set_out m e) lanes all = []
  kind_copies (set_sram m indices e) lanes all = []
  kind_copies (enq m e) lanes all = []
  kind_copies (load_sram sram dram spans) lanes all = []
  kind_copies (load_line line dram spans) lanes all = []
  kind_copies (store dram spans sram) lanes all = []
  kind_copies (gather sram dram places count) lanes all = []
  kind_copies (scatter dram places count sram) lanes all = []

-- the pieces that read a memory, at least 1
abbrev pub readers_of : PlainProgram → ℕ → ℕ
readers_of p m = max 1 (count_by (λ (x : Piece). is_among m x.reads) (program_pieces p))

-- the words of each memory on the chip times its lanes, its readers and its stages
abbrev pub copy_count : PlainProgram → ℕ
copy_count p = sum_by (λ (c : ℕ × ℕ). word_count (dims p.mems c.0) * c.1 * readers_of p c.0) (copies_in p.body 1 [])

-- in the order of their limits
abbrev pub counts_of : PlainProgram → List ℕ
counts_of p = node_count p ∷ lane_count p ∷ body_count p ∷ operation_count p ∷ chip_words p ∷ copy_count p ∷ dram_count p ∷ []
