-- The node of a controller, and the registers inside of it, by the parts that are found for them.
use Rattle.std.proofs.Common.{◌≡◌, ◌+◌, ℕ, suc, Bool, List, [], ◌∷◌, ◌++◌, length, length-append, take, drop, ◌-◌, map, Vec, Global, arith, sym, ap, ◌∙◌}
use Rattle.std.proofs.lemmas.Grind.{common_steps}
use Rattle.sp_words.specs.declared.kind.Style.{Style}
use Rattle.sp_tree.specs.declared.expression.Expr.{Expr}
use Rattle.sp_tree.specs.declared.statement.Comb.{Comb}
use Rattle.sp_tree.specs.declared.statement.Counter.{Counter}
use Rattle.sp_tree.specs.declared.statement.Ctl.{Ctl, Block, Foreach, Reduce, MemReduce, Fsm, Branch}
use Rattle.sp_tree.specs.declared.statement.Span.{Span}
use Rattle.sp_tree.specs.declared.statement.Stmt.{Stmt}
use Rattle.sp_tree.specs.declared.statement.StmtKind.{StmtKind, LoadSram, LoadLine, Store}
use Rattle.sp_tree.specs.Plain.{plain_expr}
use Rattle.sp_tree.specs.PlainProgram as program
use Rattle.sp_tree.specs.PlainTree.{plain_counter, plain_ctl, plain_span, plain_stmt_kind, plain_stmts}
use Rattle.sp_core.specs.PlainCore as core
use Rattle.sp_core.specs.PlainCore.{PlainMem, PlainNode}
use Rattle.sp_sugar.specs.Early.{bounds_of, is_early, registers_for, counters_of}
use Rattle.sp_sugar.specs.Numbers.{mem_number, state_register}
use Rattle.sp_sugar.specs.Operations.{word_list}
use Rattle.sp_sugar.specs.Registers.{ending_of, inside, registers, registers_in}
use Rattle.sp_sugar.specs.Runs.{no_run}
use Rattle.sp_sugar.specs.Stages.{Combines, nothing, reduces_elements, combines, style_of, load_node, outer_node, body_node, node, stages}
use Rattle.sp_sugar.specs.Stages as plain
use Rattle.sp_sugar.specs.Uses.{Ending, no_more}
use Rattle.sp_sugar.specs.Values.{Sources, with_state}
use Rattle.sp_desugar.specs.Tree.{alone_node}
use Rattle.sp_desugar.proofs.TreeLemmas.{plain_block, plain_foreach, plain_reduce, plain_mem_reduce, plain_fsm, plain_branch}

-- the registers
pub block_inside : (ctl : Ctl) (style : Style) (body : Vec Stmt Global) (stmts : List Stmt) → ctl ≡ Block style body → stmts ≡ body.items → registers_in (plain_stmts stmts) no_more ≡ inside (plain_ctl ctl)
unfolding inside
block_inside ctl style body stmts is e = ap (λ b. registers_in (plain_stmts b) no_more) e ∙ sym (ap inside (ap plain_ctl is ∙ plain_block style body))

pub foreach_inside : (ctl : Ctl) (style : Style) (all : Vec Counter Global) (body : Vec Stmt Global) (stmts : List Stmt) → ctl ≡ Foreach style all body → stmts ≡ body.items
    → registers_in (plain_stmts stmts) no_more ≡ inside (plain_ctl ctl)
unfolding inside
foreach_inside ctl style all body stmts is e = ap (λ b. registers_in (plain_stmts b) no_more) e ∙ sym (ap inside (ap plain_ctl is ∙ plain_foreach style all body))

pub reduce_inside : (ctl : Ctl) (style : Style) (fold : Bool) (acc : ℕ) (all : Vec Counter Global) (body : Vec Stmt Global) (value : Expr) (comb : Comb) (stmts : List Stmt) (ending : Ending)
    → ctl ≡ Reduce style fold acc all body value comb → stmts ≡ body.items → ending ≡ ending_of (map plain_counter all.items) (plain_expr value)
    → registers_in (plain_stmts stmts) ending ≡ inside (plain_ctl ctl)
unfolding inside
reduce_inside ctl style fold acc all body value comb stmts ending is e f =
    ap (λ b. registers_in (plain_stmts b) ending) e ∙ ap (registers_in (plain_stmts body.items)) f
    ∙ sym (ap inside (ap plain_ctl is ∙ plain_reduce style fold acc all body value comb))

pub mem_reduce_inside : (ctl : Ctl) (style : Style) (acc : ℕ) (all : Vec Counter Global) (body : Vec Stmt Global) (part : ℕ) (comb : Comb) (stmts : List Stmt)
    → ctl ≡ MemReduce style acc all body part comb → stmts ≡ body.items → registers (plain_stmts stmts) no_more ≡ inside (plain_ctl ctl)
unfolding inside
mem_reduce_inside ctl style acc all body part comb stmts is e =
    ap (λ b. registers (plain_stmts b) no_more) e ∙ sym (ap inside (ap plain_ctl is ∙ plain_mem_reduce style acc all body part comb))

pub fsm_inside : (ctl : Ctl) (start : Expr) (tested : ℕ) (test : Expr) (state : ℕ) (body : Vec Stmt Global) (last : ℕ) (next : Expr) (stmts : List Stmt)
    → ctl ≡ Fsm start tested test state body last next → stmts ≡ body.items → state_register start.ty ∷ registers_in (plain_stmts stmts) no_more ≡ inside (plain_ctl ctl)
unfolding inside
fsm_inside ctl start tested test state body last next stmts is e =
    ap (λ b. state_register start.ty ∷ registers_in (plain_stmts b) no_more) e ∙ sym (ap inside (ap plain_ctl is ∙ plain_fsm start tested test state body last next))

pub branch_inside : (ctl : Ctl) (test : Expr) (yes no : Vec Stmt Global) (first second : List Stmt) → ctl ≡ Branch test yes no → first ≡ yes.items → second ≡ no.items
    → registers_in (plain_stmts first) no_more ++ registers_in (plain_stmts second) no_more ≡ inside (plain_ctl ctl)
unfolding inside
branch_inside ctl test one two first second is e f =
    ap (λ b. registers_in (plain_stmts b) no_more ++ registers_in (plain_stmts second) no_more) e
    ∙ ap (λ b. registers_in (plain_stmts one.items) no_more ++ registers_in (plain_stmts b) no_more) f
    ∙ sym (ap inside (ap plain_ctl is ∙ plain_branch test one two))

-- the numbers after some registers
pub after_one : (now after : List PlainMem) (m : PlainMem) → after ≡ now ++ m ∷ [] → length after ≡ suc (length now)
after_one now after m e = ap length e ∙ length-append now (m ∷ []) ∙ omega arith

pub after_all : (now after added : List PlainMem) → after ≡ now ++ added → length after ≡ length now + length added
after_all now after added e = ap length e ∙ length-append now added

-- the rest of a body, as a slice
pub rest_is : (body : List Stmt) (a i : ℕ) → a ≡ i → take (length body - (a + 1)) (drop (a + 1) body) ≡ drop (i + 1) body
rest_is body a i e = ap (λ k. take (length body - (k + 1)) (drop (k + 1) body)) e ∙ grind (arith, common_steps)

-- the nodes
module _ (mems : List program.PlainMem) (counters : ℕ) where
  pub load_sram_node : (kind : StmtKind) (m d : ℕ) (spans : Vec Span Global) (all : List Span) (sources : Sources) (b n mem dram : ℕ) → kind ≡ LoadSram m d spans → mem ≡ m → dram ≡ d → all ≡ spans.items
      → load_node mems counters sources b mem dram (map plain_span all) ≡ node mems counters sources b n (plain_stmt_kind kind)
  unfolding node
  load_sram_node kind m d spans all sources b n mem dram is e f g =
      (λ i. load_node mems counters sources b (e i) (f i) (map plain_span (g i))) ∙ sym (ap (λ k. node mems counters sources b n (plain_stmt_kind k)) is)

  pub load_line_node : (kind : StmtKind) (m d : ℕ) (spans : Vec Span Global) (all : List Span) (sources : Sources) (b n mem dram : ℕ) → kind ≡ LoadLine m d spans → mem ≡ m → dram ≡ d → all ≡ spans.items
      → load_node mems counters sources b mem dram (map plain_span all) ≡ node mems counters sources b n (plain_stmt_kind kind)
  unfolding node
  load_line_node kind m d spans all sources b n mem dram is e f g =
      (λ i. load_node mems counters sources b (e i) (f i) (map plain_span (g i))) ∙ sym (ap (λ k. node mems counters sources b n (plain_stmt_kind k)) is)

  pub store_node : (kind : StmtKind) (m d : ℕ) (spans : Vec Span Global) (all : List Span) (sources : Sources) (b n mem dram : ℕ) → kind ≡ Store d spans m → mem ≡ m → dram ≡ d → all ≡ spans.items
      → plain.store_node mems counters sources b dram mem (map plain_span all) ≡ node mems counters sources b n (plain_stmt_kind kind)
  unfolding node
  store_node kind m d spans all sources b n mem dram is e f g =
      (λ i. plain.store_node mems counters sources b (f i) (e i) (map plain_span (g i))) ∙ sym (ap (λ k. node mems counters sources b n (plain_stmt_kind k)) is)

  pub block_node : (ctl : Ctl) (style : Style) (body : Vec Stmt Global) (stmts : List Stmt) (sources : Sources) (b n : ℕ) (loops : List core.PlainCounter) (made : Style)
      → ctl ≡ Block style body → stmts ≡ body.items → loops ≡ [] → made ≡ style_of mems counters style (plain_stmts stmts)
      → body_node mems counters sources n loops made (plain_stmts stmts) no_more nothing (stages mems counters (no_run sources) n (plain_stmts stmts) no_more nothing)
      ≡ node mems counters sources b n (plain_ctl ctl)
  unfolding node
  block_node ctl style body stmts sources b n loops made is e f g =
      let one : made ≡ style_of mems counters style (plain_stmts body.items) = g ∙ ap (λ s. style_of mems counters style (plain_stmts s)) e in
      ap (λ s. body_node mems counters sources n loops made (plain_stmts s) no_more nothing (stages mems counters (no_run sources) n (plain_stmts s) no_more nothing)) e
      ∙ ap (λ l. body_node mems counters sources n l made (plain_stmts body.items) no_more nothing (stages mems counters (no_run sources) n (plain_stmts body.items) no_more nothing)) f
      ∙ ap (λ s. body_node mems counters sources n [] s (plain_stmts body.items) no_more nothing (stages mems counters (no_run sources) n (plain_stmts body.items) no_more nothing)) one
      ∙ sym (ap (node mems counters sources b n) (ap plain_ctl is ∙ plain_block style body))

  pub foreach_node : (ctl : Ctl) (style : Style) (all : Vec Counter Global) (body : Vec Stmt Global) (stmts : List Stmt) (sources : Sources) (b n : ℕ) (loops : List core.PlainCounter)
      → ctl ≡ Foreach style all body → stmts ≡ body.items → loops ≡ counters_of mems sources b (map plain_counter all.items)
      → body_node mems counters sources n loops style (plain_stmts stmts) no_more nothing (stages mems counters (no_run sources) n (plain_stmts stmts) no_more nothing)
      ≡ node mems counters sources b n (plain_ctl ctl)
  unfolding node
  foreach_node ctl style all body stmts sources b n loops is e f =
      ap (λ s. body_node mems counters sources n loops style (plain_stmts s) no_more nothing (stages mems counters (no_run sources) n (plain_stmts s) no_more nothing)) e
      ∙ ap (λ l. body_node mems counters sources n l style (plain_stmts body.items) no_more nothing (stages mems counters (no_run sources) n (plain_stmts body.items) no_more nothing)) f
      ∙ sym (ap (node mems counters sources b n) (ap plain_ctl is ∙ plain_foreach style all body))

  pub reduce_node : (ctl : Ctl) (style : Style) (fold : Bool) (acc : ℕ) (all : Vec Counter Global) (body : Vec Stmt Global) (value : Expr) (comb : Comb)
      (stmts : List Stmt) (sources : Sources) (b n : ℕ) (loops : List core.PlainCounter) (ending : Ending) (c : Combines)
      → ctl ≡ Reduce style fold acc all body value comb → stmts ≡ body.items → loops ≡ counters_of mems sources b (map plain_counter all.items)
      → ending ≡ ending_of (map plain_counter all.items) (plain_expr value)
      → c ≡ combines mems fold acc (b + length (registers_for is_early (bounds_of (map plain_counter all.items)))) comb (plain_expr value)
      → body_node mems counters sources n loops style (plain_stmts stmts) ending c (stages mems counters (no_run sources) n (plain_stmts stmts) ending c)
      ≡ node mems counters sources b n (plain_ctl ctl)
  unfolding node
  reduce_node ctl style fold acc all body value comb stmts sources b n loops ending c is e f g h =
      let last = ending_of (map plain_counter all.items) (plain_expr value) in
      ap (λ s. body_node mems counters sources n loops style (plain_stmts s) ending c (stages mems counters (no_run sources) n (plain_stmts s) ending c)) e
      ∙ ap (λ l. body_node mems counters sources n l style (plain_stmts body.items) ending c (stages mems counters (no_run sources) n (plain_stmts body.items) ending c)) f
      ∙ ap (λ x. body_node mems counters sources n (counters_of mems sources b (map plain_counter all.items)) style (plain_stmts body.items) x c (stages mems counters (no_run sources) n (plain_stmts body.items) x c)) g
      ∙ ap (λ x. body_node mems counters sources n (counters_of mems sources b (map plain_counter all.items)) style (plain_stmts body.items) last x (stages mems counters (no_run sources) n (plain_stmts body.items) last x)) h
      ∙ sym (ap (node mems counters sources b n) (ap plain_ctl is ∙ plain_reduce style fold acc all body value comb))

  pub mem_reduce_node : (ctl : Ctl) (style : Style) (acc : ℕ) (all : Vec Counter Global) (body : Vec Stmt Global) (part : ℕ) (comb : Comb)
      (stmts : List Stmt) (sources : Sources) (b n : ℕ) (loops : List core.PlainCounter) (c : Combines)
      → ctl ≡ MemReduce style acc all body part comb → stmts ≡ body.items → loops ≡ counters_of mems sources b (map plain_counter all.items)
      → c ≡ reduces_elements part (mem_number mems acc) (b + length (registers_for is_early (bounds_of (map plain_counter all.items)))) comb
      → outer_node mems counters n loops style (plain_stmts stmts) no_more (stages mems counters (no_run sources) n (plain_stmts stmts) no_more c)
      ≡ node mems counters sources b n (plain_ctl ctl)
  unfolding node
  mem_reduce_node ctl style acc all body part comb stmts sources b n loops c is e f g =
      ap (λ s. outer_node mems counters n loops style (plain_stmts s) no_more (stages mems counters (no_run sources) n (plain_stmts s) no_more c)) e
      ∙ ap (λ l. outer_node mems counters n l style (plain_stmts body.items) no_more (stages mems counters (no_run sources) n (plain_stmts body.items) no_more c)) f
      ∙ ap (λ x. outer_node mems counters n (counters_of mems sources b (map plain_counter all.items)) style (plain_stmts body.items) no_more (stages mems counters (no_run sources) n (plain_stmts body.items) no_more x)) g
      ∙ sym (ap (node mems counters sources b n) (ap plain_ctl is ∙ plain_mem_reduce style acc all body part comb))

  pub fsm_node : (ctl : Ctl) (start : Expr) (tested : ℕ) (test : Expr) (state : ℕ) (body : Vec Stmt Global) (last : ℕ) (next : Expr)
      (stmts : List Stmt) (sources kept : Sources) (b n r m : ℕ)
      → ctl ≡ Fsm start tested test state body last next → stmts ≡ body.items → r ≡ n → m ≡ suc n → kept ≡ with_state sources tested state last r
      → core.fsm (word_list mems sources (plain_expr start)) r (word_list mems kept (plain_expr test)) (alone_node mems counters kept m (plain_stmts stmts)) (word_list mems kept (plain_expr next))
      ≡ node mems counters sources b n (plain_ctl ctl)
  unfolding node
  fsm_node ctl start tested test state body last next stmts sources kept b n r m is e f g h =
      let all : kept ≡ with_state sources tested state last n = h ∙ ap (with_state sources tested state last) f in
      let s0 = word_list mems sources (plain_expr start) in
      ap (λ s. core.fsm s0 r (word_list mems kept (plain_expr test)) (alone_node mems counters kept m (plain_stmts s)) (word_list mems kept (plain_expr next))) e
      ∙ ap (λ x. core.fsm s0 x (word_list mems kept (plain_expr test)) (alone_node mems counters kept m (plain_stmts body.items)) (word_list mems kept (plain_expr next))) f
      ∙ ap (λ x. core.fsm s0 n (word_list mems kept (plain_expr test)) (alone_node mems counters kept x (plain_stmts body.items)) (word_list mems kept (plain_expr next))) g
      ∙ ap (λ k. core.fsm s0 n (word_list mems k (plain_expr test)) (alone_node mems counters k (suc n) (plain_stmts body.items)) (word_list mems k (plain_expr next))) all
      ∙ sym (ap (node mems counters sources b n) (ap plain_ctl is ∙ plain_fsm start tested test state body last next))

  pub branch_node : (ctl : Ctl) (test : Expr) (yes no : Vec Stmt Global) (first second : List Stmt) (sources : Sources) (b n m : ℕ)
      → ctl ≡ Branch test yes no → first ≡ yes.items → second ≡ no.items → m ≡ n + length (registers_in (plain_stmts first) no_more)
      → core.branch (word_list mems sources (plain_expr test)) (alone_node mems counters sources n (plain_stmts first)) (alone_node mems counters sources m (plain_stmts second))
      ≡ node mems counters sources b n (plain_ctl ctl)
  unfolding node
  branch_node ctl test one two first second sources b n m is e f g =
      let k : m ≡ n + length (registers_in (plain_stmts one.items) no_more) = g ∙ ap (λ s. n + length (registers_in (plain_stmts s) no_more)) e in
      let t0 = word_list mems sources (plain_expr test) in
      ap (λ s. core.branch t0 (alone_node mems counters sources n (plain_stmts s)) (alone_node mems counters sources m (plain_stmts second))) e
      ∙ ap (λ s. core.branch t0 (alone_node mems counters sources n (plain_stmts one.items)) (alone_node mems counters sources m (plain_stmts s))) f
      ∙ ap (λ x. core.branch t0 (alone_node mems counters sources n (plain_stmts one.items)) (alone_node mems counters sources x (plain_stmts two.items))) k
      ∙ sym (ap (node mems counters sources b n) (ap plain_ctl is ∙ plain_branch test one two))
