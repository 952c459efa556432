-- Laws of what cores mean, as statements.
use Rattle.std.specs.Prelude.{◌≡◌, ℕ, suc, ◌+◌, ◌≤◌, Bool, false, IsTrue, List, [], ◌∷◌, ◌++◌, length, slice_index, Contains, Some}
use Rattle.sp_words.specs.declared.kind.Style.{Style}
use Rattle.sp_words.specs.declared.kind.Style.TheVariants.{Pipe}
use Rattle.sp_words.specs.declared.types.Ty.TheVariants.{Bit}
use Rattle.sp_words.specs.Ports.{PlainInput}
use Rattle.sp_tree.specs.declared.statement.Comb.{Comb}
use Rattle.sp_tree.specs.Invariant.{ports_of}
use Rattle.sp_tree.specs.Meaning as program
use Rattle.sp_tree.specs.PlainExpression.{PlainExpr, type_of}
use Rattle.sp_tree.specs.PlainProgram.{PlainProgram}
use Rattle.sp_tree.specs.PlainStatement.{PlainCounter, PlainStmtKind, PlainStmts, load_sram, load_line, store, gather, scatter, block, foreach, reduce, mem_reduce, fsm, branch}
use Rattle.sp_tree.specs.Sequential.{run_kind}
use Rattle.sp_tree.specs.Shape.{Shape}
use Rattle.sp_tree.specs.Step as program_step
use Rattle.sp_tree.specs.Store as program_store
use Rattle.sp_tree.specs.Store.{rows_of}
use Rattle.sp_tree.specs.Expressions.{dims}
use Rattle.sp_tree.specs.Streams.{fifos_with_room}
use Rattle.sp_tree.specs.Structure.{own_mems, is_inner}
use Rattle.sp_tree.specs.Typing.{StmtTyped, BodyTyped, HasTypeStill, CountersTyped, with_counters, with_val}
use Rattle.sp_core.specs.History.{Entry}
use Rattle.sp_core.specs.Meaning as core_meaning
use Rattle.sp_core.specs.PlainCore.{PlainCore}
use Rattle.sp_core.specs.Scope as counters
use Rattle.sp_core.specs.Store as store
use Rattle.sp_sugar.specs.Agreement.{HasMemories, View, HaveRooms, Apart, IsAdded, Agree}
use Rattle.sp_sugar.specs.Core.{core_of}
use Rattle.sp_sugar.specs.Early.{is_early, is_early_part, registers_for, bounds_of, parts_of, early_stages}
use Rattle.sp_sugar.specs.Registers.{registers_in}
use Rattle.sp_sugar.specs.Stages.{style_of, node}
use Rattle.sp_sugar.specs.Uses.{no_more}
use Rattle.sp_sugar.specs.Values.{Sources, with_state}
use Rattle.sp_same.specs.Contents.{HoldRightly}
use Rattle.sp_same.specs.Following.{SourcesSeen, AreSpare, HoldsWord, AreReady, AreCells, EarlyGoes, NodeGoes, IsOwn, BodyFollowed, BodyFollowedRightly, alone, first_view}

-- a transfer; the line buffer that a row is loaded into has as many rows as its first dimension
abbrev pub IsTransfer : PlainProgram → program_store.Store → PlainStmtKind → Type 0
IsTransfer p s (load_sram sram dram spans) = Unit {0}
IsTransfer p s (load_line line dram spans) = length (rows_of (s.held line)) ≡ slice_index (dims p.mems line) 0
IsTransfer p s (store dram spans sram) = Unit {0}
IsTransfer p s (gather sram dram places n) = Unit {0}
IsTransfer p s (scatter dram places n sram) = Unit {0}
IsTransfer _ _ _ = ⊥

-- which of the indices, bounds and counts of a statement are computed before it, and all of them
abbrev pub crosses_in : PlainStmtKind → PlainExpr → Bool
crosses_in (load_sram sram dram spans) e = is_early_part spans e
crosses_in (load_line line dram spans) e = is_early_part spans e
crosses_in (store dram spans sram) e = is_early_part spans e
crosses_in _ e = is_early e

abbrev pub words_in : PlainStmtKind → List PlainExpr
words_in (load_sram sram dram spans) = parts_of spans
words_in (load_line line dram spans) = parts_of spans
words_in (store dram spans sram) = parts_of spans
words_in (gather sram dram places n) = n ∷ []
words_in (scatter dram places n sram) = n ∷ []
words_in (foreach style loops body) = bounds_of loops
words_in (reduce style fold acc loops body e comb) = bounds_of loops
words_in (mem_reduce style acc loops body part comb) = bounds_of loops
words_in _ = []

-- where a typed transfer of a program goes on, its node does the same, if the stores agree before and the words that were
-- computed early stand in their registers
abbrev pub IsTransferFollowed : PlainProgram → (roomy : List ℕ) → PlainCore → PlainStmtKind → Type 0
IsTransferFollowed p roomy core kind =
    (most : ℕ) (view : View) (b n place : ℕ) (s after : program_store.Store) (t : store.Store) (left rest : ℕ) (did : List Shape)
    → HasMemories p core → p.ports ≡ ports_of p.mems → IsTransfer p s kind → StmtTyped p view.scope kind
    → Agree p core view [] s t → AreReady p core (crosses_in kind) left s t b (words_in kind)
    → run_kind p.mems roomy kind place left s ≡ program_step.went did rest after
    → NodeGoes p core most view (node p.mems (length p.counters) view.sources b n kind) t after did

-- where the body of a loop is followed inside of it, by its node without the counters, the loop's node does what the loop
-- does; the bounds that were computed early stand in their registers
abbrev pub IsLoopFollowed : PlainProgram → (roomy : List ℕ) → PlainCore → PlainStmts → Type 0
IsLoopFollowed p roomy core body =
    (most : ℕ) (view : View) (style : Style) (loops : List PlainCounter) (b n place : ℕ) (s after : program_store.Store) (t : store.Store) (left rest : ℕ) (did : List Shape)
    → HasMemories p core → CountersTyped p view.scope loops → BodyTyped p (with_counters view.scope loops) body → SourcesSeen view.scope view.sources → left ≤ most
    → HoldRightly p view.scope.mems s → Agree p core view [] s t → AreReady p core is_early left s t b (bounds_of loops)
    → ((around : counters.Scope) → BodyFollowedRightly p core roomy most (record view { scope = with_counters view.scope loops; around = around }) (alone p view.sources n style body) body)
    → run_kind p.mems roomy (foreach style loops body) place left s ≡ program_step.went did rest after
    → NodeGoes p core most view (node p.mems (length p.counters) view.sources b n (foreach style loops body)) t after did

-- where its body is followed, so is a block that is no proper stream block
abbrev pub IsBlockFollowed : PlainProgram → (roomy : List ℕ) → PlainCore → PlainStmts → Type 0
IsBlockFollowed p roomy core body =
    (most : ℕ) (view : View) (style : Style) (b n place : ℕ) (s after : program_store.Store) (t : store.Store) (left rest : ℕ) (did : List Shape)
    → fifos_with_room p.mems style body ≡ [] → left ≤ most → HoldRightly p view.scope.mems s → Agree p core view [] s t
    → BodyFollowedRightly p core roomy most view (alone p view.sources n (style_of p.mems (length p.counters) style body) body) body
    → run_kind p.mems roomy (block style body) place left s ≡ program_step.went did rest after
    → NodeGoes p core most view (node p.mems (length p.counters) view.sources b n (block style body)) t after did

-- where its blocks are followed, so is a branch
abbrev pub IsBranchFollowed : PlainProgram → (roomy : List ℕ) → PlainCore → PlainExpr → Type 0
IsBranchFollowed p roomy core test =
    (most : ℕ) (view : View) (first second : PlainStmts) (b n place : ℕ) (s after : program_store.Store) (t : store.Store) (left rest : ℕ) (did : List Shape)
    → HasMemories p core → HasTypeStill p view.scope Bit test → left ≤ most → HoldRightly p view.scope.mems s → Agree p core view [] s t
    → BodyFollowedRightly p core roomy most view (alone p view.sources n Pipe first) first
    → BodyFollowedRightly p core roomy most view (alone p view.sources (n + length (registers_in first no_more)) Pipe second) second
    → run_kind p.mems roomy (branch test first second) place left s ≡ program_step.went did rest after
    → NodeGoes p core most view (node p.mems (length p.counters) view.sources b n (branch test first second)) t after did

-- where the body of an FSM is followed, whatever word its state holds then, so is the FSM; the register of its state is spare
abbrev pub IsMachineFollowed : PlainProgram → (roomy : List ℕ) → PlainCore → PlainStmts → Type 0
IsMachineFollowed p roomy core body =
    (most : ℕ) (view : View) (start : PlainExpr) (tested : ℕ) (test : PlainExpr) (state last : ℕ) (next : PlainExpr) (b n place : ℕ) (s after : program_store.Store) (t : store.Store) (left rest : ℕ) (did : List Shape)
    → let kept : Sources = with_state view.sources tested state last n in
    HasMemories p core → StmtTyped p view.scope (fsm start tested test state body last next) → IsAdded p core n → AreSpare n (suc n) view → left ≤ most → HoldRightly p view.scope.mems s → Agree p core view [] s t
    → ((w : ℕ) → BodyFollowedRightly p core roomy most (record view { scope = with_val view.scope state (type_of start); sources = kept; registers = (n, Some w) ∷ view.registers }) (alone p kept (suc n) Pipe body) body)
    → run_kind p.mems roomy (fsm start tested test state body last next) place left s ≡ program_step.went did rest after
    → NodeGoes p core most view (node p.mems (length p.counters) view.sources b n (fsm start tested test state body last next)) t after did

-- a typed inner body is followed by its node: its memories aren't visible outside of it, and wait for their declarations
-- beside those that wait already
abbrev pub IsInnerBodyFollowed : PlainProgram → (roomy : List ℕ) → PlainCore → PlainStmts → Type 0
IsInnerBodyFollowed p roomy core body =
    (most : ℕ) (view : View) (n : ℕ) (style : Style)
    → HasMemories p core → HaveRooms p roomy core body → IsTrue (is_inner body) → BodyTyped p view.scope body → Apart (own_mems body ++ view.waiting)
    → ((m : ℕ) → Contains (own_mems body) m → IsOwn p view.scope m) → ((m : ℕ) → view.resets m ≡ false)
    → BodyFollowed p core roomy most view (alone p view.sources n style body) body

-- a typed Reduce or Fold over an inner body is followed by its node; before a Reduce the register that tells whether it has
-- begun holds 0
abbrev pub IsReductionFollowed : PlainProgram → (roomy : List ℕ) → PlainCore → PlainStmts → Type 0
IsReductionFollowed p roomy core body =
    (most : ℕ) (view : View) (style : Style) (fold : Bool) (acc : ℕ) (loops : List PlainCounter) (e : PlainExpr) (comb : Comb) (b n place : ℕ) (s after : program_store.Store) (t : store.Store) (left rest : ℕ) (did : List Shape)
    → let begun : ℕ = b + length (registers_for is_early (bounds_of loops)) in
    HasMemories p core → HaveRooms p roomy core body → IsTrue (is_inner body) → StmtTyped p view.scope (reduce style fold acc loops body e comb) → SourcesSeen view.scope view.sources → Apart (own_mems body ++ view.waiting)
    → ((m : ℕ) → Contains (own_mems body) m → IsOwn p (with_counters view.scope loops) m) → ((m : ℕ) → view.resets m ≡ false)
    → Agree p core view [] s t → AreReady p core is_early left s t b (bounds_of loops) → (fold ≡ false → IsAdded p core begun × AreSpare begun (suc begun) view × HoldsWord p core t begun 0)
    → run_kind p.mems roomy (reduce style fold acc loops body e comb) place left s ≡ program_step.went did rest after
    → NodeGoes p core most view (node p.mems (length p.counters) view.sources b n (reduce style fold acc loops body e comb)) t after did

-- where a typed statement goes on, the stages before it put its early words into their registers, which are spare
abbrev pub AreEarlyFollowed : PlainProgram → (roomy : List ℕ) → PlainCore → PlainStmtKind → Type 0
AreEarlyFollowed p roomy core kind =
    (most : ℕ) (view : View) (b place : ℕ) (s after : program_store.Store) (t : store.Store) (left rest : ℕ) (did : List Shape)
    → HasMemories p core → StmtTyped p view.scope kind → AreSpare b (b + length (registers_for (crosses_in kind) (words_in kind))) view → AreCells p core (crosses_in kind) t b (words_in kind) → Agree p core view [] s t
    → run_kind p.mems roomy kind place left s ≡ program_step.went did rest after
    → EarlyGoes p core most view (crosses_in kind) (words_in kind) b (early_stages p.mems view.sources b kind) left t s

-- before a program begins its store and that of its core agree, for each input
abbrev pub BeginAlike : PlainProgram → Type 0
BeginAlike p = (input : PlainInput) → Agree p (core_of p) (first_view p) [] (program.first_store p input) (core_meaning.first_store (core_of p) input)

-- where stores agree in outputs and DRAMs, their words are the same
abbrev pub ArePutOutAlike : PlainProgram → Type 0
ArePutOutAlike p =
    (view : View) (done : List Entry) (s : program_store.Store) (t : store.Store)
    → Agree p (core_of p) view done s t → ((m : ℕ) → Contains (program.outs_of p ++ program.drams_of p) m → Contains view.scope.mems m)
    → (core_meaning.out_words (core_of p) t ≡ program.out_words p s) × (core_meaning.dram_words (core_of p) t ≡ program.dram_words p s)
