-- What a state stands for, and what it has by the declarations of a program.
use Rattle.std.specs.Prelude.{◌≡◌, ℕ, ◌<◌, ◌≤◌, ◌^◌, Bool, true, false, List, [], ◌∷◌, map, length, replicate, slice_index, slice_index_or, slice_set, Option, Some, None, Result, Ok, Err, All, Contains}
use Rattle.std.specs.Global.{Vec}
use Rattle.sp_words.specs.declared.kind.Kind.{Kind}
use Rattle.sp_words.specs.declared.kind.Kind.TheVariants as kinds
use Rattle.sp_words.specs.declared.types.Ty.{Ty}
use Rattle.sp_words.specs.Interface.{word_count}
use Rattle.sp_words.specs.Memory.{Contents, cells, queue, rows, words}
use Rattle.sp_words.specs.Types.{width_of, int_type}
use Rattle.sp_words.specs.Words.{IsWord}
use Rattle.sp_tree.specs.declared.statement.FaultKind.TheVariants.{Unwritten}
use Rattle.sp_tree.specs.Declarations.{IsDeclaration}
use Rattle.sp_tree.specs.Expressions.{mem}
use Rattle.sp_tree.specs.PlainProgram.{PlainMem}
use Rattle.sp_tree.specs.Step.{Went, went, faulted, more}
use Rattle.sp_tree.specs.Store.{Store}
use Rattle.sp_tree.specs.Streams.{room}
use Rattle.sp_tree.specs.Typing.{Scope}
use Rattle.sp_seq.specs.declared.memory.Memory.{Memory}
use Rattle.sp_seq.specs.declared.memory.Storage.{Storage}
use Rattle.sp_seq.specs.declared.memory.Storage.TheVariants.{Cells, Queue, Rows, Words}
use Rattle.sp_seq.specs.declared.state.State.{State}
use Rattle.sp_seq.specs.declared.state.Stop.{Stop}
use Rattle.sp_seq.specs.declared.state.Stop.TheVariants.{Fault, Turns}
use Rattle.sp_seq.specs.Rows.{CellRow}

-- what lies in a storage
abbrev pub contents_of : Storage → Contents
contents_of (Cells c) = cells c.cells
contents_of (Queue q) = queue q.words
contents_of (Rows rs) = rows (map (λ r. r.cells) rs.items)
contents_of (Words w) = words w.words

-- what a memory holds, if it is live
abbrev pub held_if : Bool → Storage → Option Contents
held_if true storage = Some (contents_of storage)
held_if false storage = None

abbrev pub held_of : Memory → Option Contents
held_of m = held_if m.live m.storage

abbrev pub no_memory : Memory
no_memory = record { live = false; storage = Words (record { width = 0; words = [] }) }

-- the memory of a number
abbrev pub memory_of : State → ℕ → Memory
memory_of s m = slice_index_or s.memories.items m no_memory

-- what the state stands for
unfoldable pub store_of : State → Store
store_of s = record {
  held = λ m. held_of (memory_of s m);
  values = λ v. slice_index s.values.items v;
  counts = λ c. slice_index s.counts.items c;
}

-- how a step went that stopped, and how it went by what came back and the state that is left
abbrev pub halted : {A : Type 0} → Stop → Went A
halted (Fault kind place) = faulted kind place
halted Turns = more

abbrev pub Ran : {A : Type 0} → Went A → Result A Stop → State → Type 0
Ran w (Ok a) s = w ≡ went a s.left (store_of s)
Ran w (Err stop) s = w ≡ halted stop

-- the word of a cell that is written, else a fault
abbrev pub word_or_fault : Option ℕ → (place : ℕ) → Result ℕ Stop
word_or_fault (Some w) place = Ok w
word_or_fault None place = Err (Fault Unwritten place)

-- rows of cells in memory
abbrev pub CellRows : Type 0
CellRows = Vec CellRow

-- so many rows of so many cells
abbrev pub AreRows : (width : ℕ) → (dims : List ℕ) → List CellRow → Type 0
AreRows width (r ∷ c ∷ []) rs = (length rs ≡ r) × All (λ row. (row.width ≡ width) × (length row.cells ≡ c)) rs
AreRows width _ rs = ⊥

-- a storage is as its memory is declared, with room for so many words in a queue
abbrev pub IsStorage : PlainMem → (room : ℕ) → Kind → Storage → Type 0
IsStorage m n kinds.Reg (Cells c) = (c.width ≡ width_of m.ty) × (length c.cells ≡ 1)
IsStorage m n kinds.Sram (Cells c) = (c.width ≡ width_of m.ty) × (length c.cells ≡ word_count m.dims)
IsStorage m n kinds.Fifo (Queue q) = (q.width ≡ width_of m.ty) × (q.room ≡ n)
IsStorage m n kinds.LineBuf (Rows rs) = AreRows (width_of m.ty) m.dims rs.items
IsStorage m n kinds.Dram (Words w) = (w.width ≡ width_of m.ty) × (length w.words ≡ word_count m.dims)
IsStorage m n kinds.ArgIn (Words w) = (w.width ≡ width_of m.ty) × (length w.words ≡ 1)
IsStorage m n kinds.ArgOut (Words w) = (w.width ≡ width_of m.ty) × (length w.words ≡ 1)
IsStorage m n _ _ = ⊥

-- what a state has where these memories, values and counters are visible
pub record Sees (mems : List PlainMem) (roomy : List ℕ) (scope : Scope) (s : State) : Type 0 where
  pub declared : All IsDeclaration mems
  pub sizes : (m : ℕ) → word_count (mem mems m).dims < 2 ^ 32
  pub memories : length s.memories.items ≡ length mems
  pub stored : (m : ℕ) → m < length mems → IsStorage (mem mems m) (room mems roomy m) (mem mems m).kind (memory_of s m).storage
  pub live : (m : ℕ) → Contains scope.mems m → (m < length mems) × ((memory_of s m).live ≡ true)
  pub values : (v : ℕ) (ty : Ty) → Contains scope.vals (v, ty) → (v < length s.values.items) × IsWord ty (slice_index s.values.items v)
  pub counters : (c : ℕ) → Contains scope.counters c → (c < length s.counts.items) × IsWord int_type (slice_index s.counts.items c)

-- the memories of the second state are stored as those of the first are, and live where those are
pub record KeepsMemories (s t : State) : Type 0 where
  pub memories : length t.memories.items ≡ length s.memories.items
  pub stored : (d : PlainMem) (n : ℕ) (kind : Kind) (m : ℕ) → IsStorage d n kind (memory_of s m).storage → IsStorage d n kind (memory_of t m).storage
  pub live : (m : ℕ) → (memory_of s m).live ≡ true → (memory_of t m).live ≡ true

-- values and counters stand as before, and there are no more turns
pub record Keeps (s t : State) : Type 0 where
  pub in_memory : KeepsMemories s t
  pub values : t.values.items ≡ s.values.items
  pub counts : t.counts.items ≡ s.counts.items
  pub left : t.left ≤ s.left

-- a memory of the state that is live, with what lies in its storage
pub record IsLive (s : State) (m : ℕ) (storage : Storage) : Type 0 where
  pub inside : m < length s.memories.items
  pub live : (memory_of s m).live ≡ true
  pub is : (memory_of s m).storage ≡ storage

-- the cells of a row, none of them written
abbrev pub blank : CellRow → CellRow
blank r = record { width = r.width; cells = replicate (length r.cells) None }

-- what lies in a storage that is cleared, where a register may have a start
abbrev pub with_start : Option ℕ → List (Option ℕ) → List (Option ℕ)
with_start (Some w) cs = slice_set cs 0 (Some w)
with_start None cs = cs

abbrev pub cleared : Option ℕ → Storage → Contents
cleared start (Cells c) = cells (with_start start (replicate (length c.cells) None))
cleared start (Queue q) = queue []
cleared start (Rows rs) = rows (map (λ r. (blank r).cells) rs.items)
cleared start (Words w) = words w.words

-- the storage can begin with that start
abbrev pub CanBegin : Option ℕ → Storage → Type 0
CanBegin (Some w) (Cells c) = (0 < length c.cells) × (w < 2 ^ c.width)
CanBegin None (Cells c) = Unit {0}
CanBegin start (Words w) = ⊥
CanBegin start _ = Unit {0}
