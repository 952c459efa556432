-- How statements are written: one a line, and the statements of a body two blanks further in than what holds it.
use Rattle.std.specs.Prelude.{ℕ, nat_lt, Bool, true, false, List, [], ◌++◌, length, slice_index_or, codes, if◌then◌else◌}
use Rattle.sp_tree.specs.PlainStatement.{PlainStmtKind, PlainStmts, stmt, declare, name, set_reg, set_out, set_sram, enq, load_sram, load_line, store, gather, scatter, block, foreach, reduce, mem_reduce, fsm, branch, no_stmt, more_stmt}
use Rattle.sp_tree.specs.PlainExpression.{PlainExpr}
use Rattle.sp_tree.specs.PlainProgram.{PlainMem, no_mem}
use Rattle.sp_tree.specs.PlainStatement.{PlainSpan, PlainCounter}
use Rattle.sp_tree.specs.declared.statement.Comb.{Comb}
use Rattle.sp_words.specs.declared.kind.Style.{Style}
use Rattle.sp_printer.specs.Expressions.{whole_text, list_text}
use Rattle.sp_printer.specs.Names.{Names, mem_name, val_name}
use Rattle.sp_printer.specs.Pieces.{mem_text, spans_text, style_prefix, block_word, comb_text, loop_head}

-- the margin of the statements inside
abbrev pub deeper : List ℕ → List ℕ
deeper margin = margin ++ codes "  "

-- a declaration by its number
abbrev pub declare_text : List PlainMem → ℕ → List ℕ
declare_text mems m = if nat_lt m (length mems) then mem_text (slice_index_or mems m no_mem) else []

-- a write, and what is put into a FIFO
abbrev pub set_text : Names → ℕ → PlainExpr → List ℕ
set_text names m e = mem_name names m ++ (codes " := " ++ whole_text names e)

abbrev pub enq_text : Names → ℕ → PlainExpr → List ℕ
enq_text names m e = mem_name names m ++ (codes ".enq(" ++ (whole_text names e ++ codes ")"))

abbrev pub let_text : Names → ℕ → PlainExpr → List ℕ
let_text names v e = codes "val " ++ (val_name names v ++ (codes " = " ++ whole_text names e))

-- a slice of a DRAM, and the places of a DRAM that an SRAM holds
abbrev pub slice_text : Names → ℕ → List PlainSpan → List ℕ
slice_text names dram spans = mem_name names dram ++ (codes "(" ++ (spans_text names true spans ++ codes ")"))

abbrev pub places_text : Names → ℕ → ℕ → PlainExpr → List ℕ
places_text names dram places count = mem_name names dram ++ (codes "(" ++ (mem_name names places ++ (codes ", " ++ (whole_text names count ++ codes ")"))))

abbrev pub load_text : Names → ℕ → ℕ → List PlainSpan → List ℕ
load_text names into dram spans = mem_name names into ++ (codes " load " ++ slice_text names dram spans)

-- a loop that combines begins with its accumulator
unfoldable pub acc_head : Names → ℕ → List ℕ
acc_head names acc = codes "(" ++ (mem_name names acc ++ codes ")")

abbrev pub reduce_word : Bool → List ℕ
reduce_word fold = if fold then codes "Fold" else codes "Reduce"

-- the first line of a block, a loop and a loop that combines
unfoldable pub block_head : Style → List ℕ
block_head style = block_word style ++ (codes " {" ++ codes "\n")

unfoldable pub foreach_head : Names → Style → List PlainCounter → List ℕ
foreach_head names style counters = style_prefix style ++ (codes "Foreach" ++ loop_head names counters)

unfoldable pub reduce_head : Names → Style → Bool → ℕ → List PlainCounter → List ℕ
reduce_head names style fold acc counters = style_prefix style ++ (reduce_word fold ++ (acc_head names acc ++ loop_head names counters))

unfoldable pub mem_reduce_head : Names → Style → ℕ → List PlainCounter → List ℕ
mem_reduce_head names style acc counters = style_prefix style ++ (codes "MemReduce" ++ (acc_head names acc ++ loop_head names counters))

-- the end of a body
unfoldable pub end_text : List ℕ → List ℕ
end_text margin = margin ++ codes "}"

-- the value that a body ends with stands on a line of its own, and its combination behind the body
unfoldable pub comb_tail : List ℕ → Comb → List ℕ
comb_tail margin comb = codes "\n" ++ (end_text margin ++ comb_text comb)

unfoldable pub reduce_tail : Names → List ℕ → PlainExpr → Comb → List ℕ
reduce_tail names margin word comb = deeper margin ++ (whole_text names word ++ comb_tail margin comb)

unfoldable pub mem_reduce_tail : Names → List ℕ → ℕ → Comb → List ℕ
mem_reduce_tail names margin part comb = deeper margin ++ (mem_name names part ++ comb_tail margin comb)

-- the first line of a state machine, and what follows its body
unfoldable pub fsm_test : Names → ℕ → PlainExpr → List ℕ
fsm_test names tested test = codes "(" ++ (val_name names tested ++ (codes " => " ++ (whole_text names test ++ codes "){ ")))

unfoldable pub fsm_head : Names → PlainExpr → ℕ → PlainExpr → ℕ → List ℕ
fsm_head names start tested test state =
    codes "FSM(" ++ (whole_text names start ++ (codes ")" ++ (fsm_test names tested test ++ (val_name names state ++ (codes " =>" ++ codes "\n")))))

unfoldable pub fsm_tail : Names → ℕ → PlainExpr → List ℕ
fsm_tail names last next = codes "}{ " ++ (val_name names last ++ (codes " => " ++ (whole_text names next ++ codes " }")))

unfoldable pub if_head : Names → PlainExpr → List ℕ
if_head names test = codes "if (" ++ (whole_text names test ++ (codes ") {" ++ codes "\n"))

abbrev pub is_empty : PlainStmts → Bool
is_empty no_stmt = true
is_empty (more_stmt s rest) = false

-- an empty second block isn't written
unfoldable pub else_text : (margin : List ℕ) → (empty : Bool) → List ℕ
else_text margin empty = if empty then [] else margin ++ (codes "} else {" ++ codes "\n")

abbrev mutual
  -- the lines of a body
  pub body_text : Names → (margin : List ℕ) → PlainStmts → List ℕ
  body_text names margin no_stmt = []
  body_text names margin (more_stmt (stmt place kind) rest) = margin ++ (stmt_text names margin kind ++ (codes "\n" ++ body_text names margin rest))

  -- a statement that begins behind the margin, without the end of its last line
  pub stmt_text : Names → (margin : List ℕ) → PlainStmtKind → List ℕ
  stmt_text names margin (declare m) = declare_text names.mems m
  stmt_text names margin (name v e) = let_text names v e
  stmt_text names margin (set_reg m e) = set_text names m e
  stmt_text names margin (set_out m e) = set_text names m e
  stmt_text names margin (set_sram m indices e) = mem_name names m ++ (codes "(" ++ (list_text names true indices ++ (codes ") = " ++ whole_text names e)))
  stmt_text names margin (enq m e) = enq_text names m e
  stmt_text names margin (load_sram sram dram spans) = load_text names sram dram spans
  stmt_text names margin (load_line line dram spans) = load_text names line dram spans
  stmt_text names margin (store dram spans sram) = slice_text names dram spans ++ (codes " store " ++ mem_name names sram)
  stmt_text names margin (gather sram dram places count) = mem_name names sram ++ (codes " gather " ++ places_text names dram places count)
  stmt_text names margin (scatter dram places count sram) = places_text names dram places count ++ (codes " scatter " ++ mem_name names sram)
  stmt_text names margin (block style body) = block_head style ++ (body_text names (deeper margin) body ++ end_text margin)
  stmt_text names margin (foreach style counters body) = foreach_head names style counters ++ (body_text names (deeper margin) body ++ end_text margin)
  stmt_text names margin (reduce style fold acc counters body word comb) =
      reduce_head names style fold acc counters ++ (body_text names (deeper margin) body ++ reduce_tail names margin word comb)
  stmt_text names margin (mem_reduce style acc counters body part comb) =
      mem_reduce_head names style acc counters ++ (body_text names (deeper margin) body ++ mem_reduce_tail names margin part comb)
  stmt_text names margin (fsm start tested test state body last next) =
      fsm_head names start tested test state ++ (body_text names (deeper margin) body ++ (margin ++ fsm_tail names last next))
  stmt_text names margin (branch test first second) =
      if_head names test ++ (body_text names (deeper margin) first ++ (else_text margin (is_empty second) ++ (body_text names (deeper margin) second ++ end_text margin)))
