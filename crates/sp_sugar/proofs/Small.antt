-- The core of a program is small enough.
use Rattle.std.proofs.Common.{◌≡◌, ℕ, zero, suc, ◌+◌, ◌*◌, ◌^◌, ◌≤◌, Bool, true, false, cond, List, [], ◌∷◌, ◌++◌, refl, sym, ◌∙◌, ap, subst, arith, length-append, nat_lt, if◌then◌else◌}
use Rattle.std.proofs.lemmas.Bool.{lt-ltb, ltb-true, ltb-false}
use Rattle.std.proofs.lemmas.List.Sums.{sum_by-cons}
use Rattle.std.specs.Prelude.{length, map, filter, count_by, slice_index_or, IsTrue}
use Rattle.sp_words.specs.declared.kind.Kind.{Kind}
use Rattle.sp_words.specs.declared.kind.Kind.TheVariants.{Reg, Sram, Fifo, LineBuf, Dram, ArgIn, ArgOut}
use Rattle.sp_words.specs.declared.kind.Style.TheVariants.{Pipe}
use Rattle.sp_words.specs.Ports.{PlainPorts}
use Rattle.sp_tree.specs.Counts.{is_port, nodes_in, kind_nodes, node_count}
use Rattle.sp_tree.specs.Declarations.{HasRank}
use Rattle.sp_tree.specs.Elements.{numbers_below}
use Rattle.sp_tree.specs.Expressions.{mem, dims}
use Rattle.sp_tree.specs.Invariant.{IsProgram, port_of, outer_scope}
use Rattle.sp_tree.specs.Meaning.{numbers_of, is_dram}
use Rattle.sp_tree.specs.PlainProgram.{PlainMem, PlainProgram, no_mem}
use Rattle.sp_tree.specs.PlainExpression.{type_of}
use Rattle.sp_tree.specs.PlainStatement.{PlainStmtKind, PlainStmts, stmt, declare, name, set_reg, set_out, set_sram, enq, load_sram, load_line, store, gather, scatter, block, foreach, reduce, mem_reduce, fsm, branch, no_stmt, more_stmt}
use Rattle.sp_tree.specs.Structure.{mems_declared, mems_in}
use Rattle.sp_tree.specs.Typing.{Scope, BodyTyped, StmtTyped, after, with_counters, with_val}
use Rattle.sp_core.specs.Invariant.{is_small}
use Rattle.sp_core.specs.Numbering.{node_count as core_nodes, operation_count, core_size}
use Rattle.sp_sugar.specs.Core.{core_of}
use Rattle.sp_sugar.specs.Numbers.{is_off_dram, written_mems}
use Rattle.sp_sugar.specs.Registers.{registers_in}
use Rattle.sp_sugar.specs.Runs.{no_run}
use Rattle.sp_sugar.specs.Stages.{nothing, stages}
use Rattle.sp_sugar.specs.Uses.{no_more}
use Rattle.sp_sugar.specs.Values.{no_sources}
use Rattle.sp_sugar.proofs.NumberLemmas.{either, written_kept, written_skipped}
use Rattle.sp_sugar.proofs.RegisterCounts.{registers_in_count}
use Rattle.sp_sugar.proofs.Sizes.{Looped, IsLooped, body_size, stages_fit}

written_le : (l : List PlainMem) → length (written_mems l) ≤ length l
written_le [] = omega arith
written_le (x ∷ l) = either (is_off_dram x)
    (λ e. omega (arith, written_le l, ap length (written_kept x l e)))
    (λ e. omega (arith, written_le l, ap length (written_skipped x l e)))

ports_le : (f : PlainMem → Bool) (l : List PlainMem) → length (map port_of (filter f l)) ≤ length l
ports_le f [] = omega arith
ports_le f (x ∷ l) = either (f x)
    (λ e. subst (λ b. length (map port_of (cond b (x ∷ filter f l) (filter f l))) ≤ suc (length l)) (sym e) (omega (arith, ports_le f l)))
    (λ e. subst (λ b. length (map port_of (cond b (x ∷ filter f l) (filter f l))) ≤ suc (length l)) (sym e) (omega (arith, ports_le f l)))

below_length : (n : ℕ) → length (numbers_below n) ≡ n
below_length zero = refl
below_length (suc n) = omega (arith, below_length n, length-append (numbers_below n) (n ∷ []))

ports_length : (is : Kind → Bool) (first : ℕ) (l : List PlainMem) → length (numbers_of is first l) ≡ count_by (λ (m : PlainMem). is m.kind) l
ports_length is first [] = refl
ports_length is first (x ∷ l) =
    let e : count_by (λ (m : PlainMem). is m.kind) (x ∷ l) ≡ cond (is x.kind) 1 0 + count_by (λ (m : PlainMem). is m.kind) l = sum_by-cons (λ (m : PlainMem). cond (is m.kind) 1 0) x l in
    let f : length (if is x.kind then first ∷ [] else []) ≡ cond (is x.kind) 1 0 = one_or_none (is x.kind) in
    omega (arith, e, f, ports_length is (suc first) l, length-append (if is x.kind then first ∷ [] else []) (numbers_of is (suc first) l))
  where
    one_or_none : (b : Bool) → length (if b then first ∷ [] else []) ≡ cond b 1 0
    one_or_none true = refl
    one_or_none false = refl

mutual
  declared_le : (body : PlainStmts) → length (mems_declared body) ≤ nodes_in body
  declared_le no_stmt = omega arith
  declared_le (more_stmt (stmt place kind) rest) = omega (arith, in_le kind, declared_le rest, length-append (mems_in kind) (mems_declared rest))

  in_le : (kind : PlainStmtKind) → length (mems_in kind) ≤ 1 + kind_nodes kind
  in_le (block style body) = omega (arith, declared_le body)
  in_le (foreach style counters body) = omega (arith, declared_le body)
  in_le (reduce style fold acc counters body word comb) = omega (arith, declared_le body)
  in_le (mem_reduce style acc counters body part comb) = omega (arith, declared_le body)
  in_le (fsm start tested test state body last next) = omega (arith, declared_le body)
  in_le (branch test first second) = omega (arith, declared_le first, declared_le second, length-append (mems_declared first) (mems_declared second))
  in_le _ = omega arith

rank_le : (k : Kind) (n : ℕ) → HasRank k n → n ≤ 3
rank_le Reg n h = omega (arith, h)
rank_le Sram n h = h.1
rank_le Fifo n h = omega (arith, h)
rank_le LineBuf n h = omega (arith, h)
rank_le Dram n h = h.1
rank_le ArgIn n h = omega (arith, h)
rank_le ArgOut n h = omega (arith, h)

past_end : (l : List PlainMem) (m : ℕ) → length l ≤ m → slice_index_or l m no_mem ≡ no_mem
past_end [] m le = refl
past_end (x ∷ l) zero le = absurd (omega arith)
past_end (x ∷ l) (suc m) le = past_end l m (omega arith)

-- a typed body has a counter in each loop
module _ (p : PlainProgram) where
  mutual
    body_looped : (scope : Scope) (body : PlainStmts) → BodyTyped p scope body → Looped body
    body_looped scope no_stmt h = tt
    body_looped scope (more_stmt (stmt place kind) rest) h = (kind_looped scope kind h.0, body_looped (after scope kind) rest h.1)

    kind_looped : (scope : Scope) (kind : PlainStmtKind) → StmtTyped p scope kind → IsLooped kind
    kind_looped scope (block style body) h = body_looped scope body h
    kind_looped scope (foreach style loops body) h = body_looped (with_counters scope loops) body h.2
    kind_looped scope (reduce style fold acc loops body e comb) h = body_looped (with_counters scope loops) body h.2
    kind_looped scope (mem_reduce style acc loops body part comb) h = (h.1.one_to_four.0, body_looped (with_counters scope loops) body h.2)
    kind_looped scope (fsm start tested test state body last next) h = body_looped (with_val scope state (type_of start)) body h.4
    kind_looped scope (branch test first second) h = (body_looped scope first h.1, body_looped scope second h.2)
    kind_looped scope (declare m) h = tt
    kind_looped scope (name v e) h = tt
    kind_looped scope (set_reg m e) h = tt
    kind_looped scope (set_out m e) h = tt
    kind_looped scope (set_sram m is e) h = tt
    kind_looped scope (enq m e) h = tt
    kind_looped scope (load_sram sram dram spans) h = tt
    kind_looped scope (load_line line dram spans) h = tt
    kind_looped scope (store dram spans sram) h = tt
    kind_looped scope (gather sram dram places e) h = tt
    kind_looped scope (scatter dram places e sram) h = tt

-- nodes and operations of the core, and its memories, by the nodes of the program
pub core_tree_size : (p : PlainProgram) → IsProgram p → core_nodes (core_of p).root + operation_count (core_of p).root ≤ 24 * node_count p + 12
unfolding core_of
core_tree_size p h =
    let first : ℕ = length (written_mems p.mems) in
    let few : (m : ℕ) → length (dims p.mems m) ≤ 3 = λ m. either (nat_lt m (length p.mems))
    (λ e. rank_le (mem p.mems m).kind (length (mem p.mems m).dims) (h.declarations m no_mem (ltb-true m (length p.mems) e)).rank)
    (λ e. let f : length (mem p.mems m).dims ≡ 0 = ap (λ (x : PlainMem). length x.dims) (past_end p.mems m (ltb-false m (length p.mems) e)) in omega (arith, f)) in
    omega (
      arith,
      body_size p.mems few (length p.counters) no_sources first [] Pipe p.body no_more nothing (stages p.mems (length p.counters) (no_run no_sources) first p.body no_more nothing)
          (stages_fit p.mems few (length p.counters) (no_run no_sources) first p.body no_more nothing (body_looped p (outer_scope p) p.body h.typed)),
    )

pub core_mems_count : (p : PlainProgram) → IsProgram p → length (core_of p).mems ≤ 5 * node_count p + 1
unfolding core_of
core_mems_count p h =
    let mems_le : length p.mems ≤ node_count p =
    let f : length (numbers_of is_port 0 p.mems ++ mems_declared p.body) ≡ length p.mems = ap length h.mem_numbers ∙ below_length (length p.mems) in
    omega (arith, f, length-append (numbers_of is_port 0 p.mems) (mems_declared p.body), ports_length is_port 0 p.mems, declared_le p.body) in
    omega (arith, mems_le, length-append (written_mems p.mems) (registers_in p.body no_more), written_le p.mems, registers_in_count p.body no_more)

pub core_drams_count : (p : PlainProgram) → IsProgram p → length (core_of p).ports.drams ≤ node_count p
unfolding core_of
core_drams_count p h =
    let f : length (numbers_of is_port 0 p.mems ++ mems_declared p.body) ≡ length p.mems = ap length h.mem_numbers ∙ below_length (length p.mems) in
    let drams_le : length p.ports.drams ≤ length p.mems = subst (λ (x : PlainPorts). length x.drams ≤ length p.mems) (sym h.ports) (ports_le (λ (m : PlainMem). is_dram m.kind) p.mems) in
    omega (arith, f, drams_le, length-append (numbers_of is_port 0 p.mems) (mems_declared p.body), ports_length is_port 0 p.mems, declared_le p.body)

pub core_is_small : (p : PlainProgram) → IsProgram p → IsTrue (is_small (core_of p))
core_is_small p h =
    lt-ltb (core_size (core_of p)) (2 ^ 29) (omega (arith, core_tree_size p h, core_mems_count p h, core_drams_count p h, h.limits.nodes))
