-- When a body with stages is followed: each controller and transfer in it is, wherever it stands.
use Rattle.std.specs.Prelude.{◌≡◌, ℕ, ◌+◌, ◌<◌, ◌≤◌, false, List, [], ◌∷◌, ◌++◌, length, slice_index_or, Contains, Some, None, if◌then◌else◌}
use Rattle.sp_words.specs.declared.kind.Kind.TheVariants.{Fifo}
use Rattle.sp_tree.specs.Expressions.{mem}
use Rattle.sp_tree.specs.PlainProgram.{PlainProgram}
use Rattle.sp_tree.specs.PlainStatement.{PlainStmtKind, PlainStmts, stmt, reduce, mem_reduce, no_stmt, more_stmt}
use Rattle.sp_tree.specs.Sequential.{run_kind}
use Rattle.sp_tree.specs.Shape.{Shape}
use Rattle.sp_tree.specs.Step as program_step
use Rattle.sp_tree.specs.Store as program_store
use Rattle.sp_tree.specs.Streams.{room}
use Rattle.sp_tree.specs.Structure.{mems_in}
use Rattle.sp_tree.specs.Tallies.{primitive}
use Rattle.sp_tree.specs.Typing.{StmtTyped}
use Rattle.sp_core.specs.Declarations.{mem as core_mem, room as core_room}
use Rattle.sp_core.specs.PlainCore.{PlainMem, PlainCore, no_mem}
use Rattle.sp_core.specs.Store as store
use Rattle.sp_sugar.specs.Agreement.{View, Apart, Agree}
use Rattle.sp_sugar.specs.Early.{is_early, bounds_of, early_registers, registers_for}
use Rattle.sp_sugar.specs.Numbers.{begun_register, mem_number, written_mems}
use Rattle.sp_sugar.specs.Registers.{inside}
use Rattle.sp_sugar.specs.Stages.{node}
use Rattle.sp_same.specs.Contents.{HoldRightly}
use Rattle.sp_same.specs.Following.{SourcesSeen, AreSpare, IsOwn, HoldsWord, AreReady, NodeGoes}
use Rattle.sp_same.specs.Laws.{crosses_in, words_in}

-- each FIFO has the room in the core that it has in the program
abbrev pub HaveRoomsAlike : PlainProgram → (roomy : List ℕ) → PlainCore → Type 0
HaveRoomsAlike p roomy core = (m : ℕ) → m < length p.mems → (mem p.mems m).kind ≡ Fifo → core_room core (mem_number p.mems m) ≡ room p.mems roomy m

-- whether an accumulator of the program's has begun stands in a register of its own
abbrev pub begun_of : PlainStmtKind → List PlainMem
begun_of (reduce style fold acc loops body e comb) = if fold then [] else begun_register ∷ []
begun_of (mem_reduce style acc loops body part comb) = begun_register ∷ []
begun_of _ = []

-- the registers beside a controller or transfer
abbrev pub beside_of : PlainStmtKind → List PlainMem
beside_of kind = early_registers kind ++ begun_of kind

-- where a statement has such a register, it holds 0 before it
abbrev pub HasBegun : PlainProgram → PlainCore → store.Store → (first : ℕ) → PlainStmtKind → Type 0
HasBegun p core t b (reduce style fold acc loops body e comb) = fold ≡ false → HoldsWord p core t (b + length (registers_for is_early (bounds_of loops))) 0
HasBegun p core t b (mem_reduce style acc loops body part comb) = HoldsWord p core t (b + length (registers_for is_early (bounds_of loops))) 0
HasBegun p core t b _ = Unit {0}

-- these registers of the compiler's stand from a number on
abbrev pub AreDeclared : PlainProgram → PlainCore → (first : ℕ) → List PlainMem → Type 0
AreDeclared p core first ms =
    (length (written_mems p.mems) ≤ first)
    × ((j : ℕ) → j < length ms → (first + j < length core.mems) × (core_mem core (first + j) ≡ slice_index_or ms j no_mem))

-- a typed controller or transfer is followed: its registers are spare, those beside it hold what was put into them, and its
-- memories are its own
abbrev pub IsStageFollowed : PlainProgram → (roomy : List ℕ) → PlainCore → PlainStmtKind → Type 0
IsStageFollowed p roomy core kind =
    (most : ℕ) (view : View) (b n place : ℕ) (s after : program_store.Store) (t : store.Store) (left rest : ℕ) (did : List Shape)
    → StmtTyped p view.scope kind → SourcesSeen view.scope view.sources → HoldRightly p view.scope.mems s → n ≡ b + length (beside_of kind)
    → AreSpare b (n + length (inside kind)) view → AreDeclared p core b (beside_of kind ++ inside kind)
    → ((m : ℕ) → Contains (mems_in kind) m → IsOwn p view.scope m) → Apart (mems_in kind ++ view.waiting) → ((m : ℕ) → view.resets m ≡ false)
    → left ≤ most → Agree p core view [] s t → AreReady p core (crosses_in kind) left s t b (words_in kind) → HasBegun p core t b kind
    → run_kind p.mems roomy kind place left s ≡ program_step.went did rest after
    → NodeGoes p core most view (node p.mems (length p.counters) view.sources b n kind) t after did

-- all controllers and transfers of a body are
abbrev pub AreStagesFollowed : PlainProgram → (roomy : List ℕ) → PlainCore → PlainStmts → Type 0
AreStagesFollowed p roomy core no_stmt = Unit {0}
AreStagesFollowed p roomy core (more_stmt (stmt place kind) rest) = elim (primitive kind) [
  | Some t ↦ AreStagesFollowed p roomy core rest
  | None ↦ IsStageFollowed p roomy core kind × AreStagesFollowed p roomy core rest
]
