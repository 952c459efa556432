-- How what stands in a run of a program and in a run of its core belong together: memories, values and counters.
use Rattle.std.specs.Prelude.{◌≡◌, ℕ, ◌+◌, ◌<◌, ◌≤◌, true, false, List, [], ◌∷◌, ◌++◌, length, Contains, All, Option, Some, Bool, ◌&&◌}
use Rattle.sp_words.specs.declared.kind.Kind.TheVariants.{Reg, Fifo}
use Rattle.sp_words.specs.Memory.{cells, fresh_of}
use Rattle.sp_tree.specs.Declarations.{IsDeclaration}
use Rattle.sp_tree.specs.Expressions.{mem}
use Rattle.sp_tree.specs.Meaning.{is_dram}
use Rattle.sp_tree.specs.PlainProgram.{PlainProgram}
use Rattle.sp_tree.specs.PlainStatement.{PlainStmts, stmt, enq, no_stmt, more_stmt}
use Rattle.sp_tree.specs.Store as program
use Rattle.sp_tree.specs.Streams.{room}
use Rattle.sp_tree.specs.Typing.{Scope}
use Rattle.sp_core.specs.Declarations.{kind_of, dims, dram_number as dram_place, room as core_room}
use Rattle.sp_core.specs.History.{Entry, word_at}
use Rattle.sp_core.specs.Operations.{operations_after}
use Rattle.sp_core.specs.PlainCore.{PlainOp, PlainMem, PlainCore}
use Rattle.sp_core.specs.Scope as counters
use Rattle.sp_core.specs.Sequential.{has_reset}
use Rattle.sp_core.specs.Step.{went}
use Rattle.sp_core.specs.Store as store
use Rattle.sp_sugar.specs.Numbers.{is_off_dram, written_mems, mem_number, dram_number}
use Rattle.sp_sugar.specs.Runs.{Run}
use Rattle.sp_sugar.specs.Values.{Source, at_place, in_register, constant, count, Sources}

-- the core has the memories of the program, and others after them, and its ports
pub record HasMemories (p : PlainProgram) (core : PlainCore) : Type 0 where
  pub declared : All IsDeclaration p.mems
  pub others : List PlainMem
  pub mems : core.mems ≡ written_mems p.mems ++ others
  pub ports : core.ports ≡ p.ports

-- these words stand at these places
abbrev pub GiveAt : List Entry → (places words : List ℕ) → Type 0
GiveAt all [] [] = Unit {0}
GiveAt all (k ∷ places) (w ∷ words) = (k < length all) × (word_at all k ≡ w) × GiveAt all places words
GiveAt all _ _ = ⊥

-- what is known at a place of a run: what is visible there, where its values are found, the counters around, the memories of
-- the bodies around that aren't declared yet, which of them stand in a body with reset operations, as an inner one has, and
-- registers that are kept, each with what its cell holds
pub record View : Type 0 where
  pub scope : Scope
  pub sources : Sources
  pub around : counters.Scope
  pub waiting : List ℕ
  pub resets : ℕ → Bool
  pub registers : List (ℕ × Option ℕ)

module _ (p : PlainProgram) (core : PlainCore) where
  -- where the core's store has a memory of the program
  abbrev pub place_of : ℕ → ℕ
  place_of m = elim (is_dram (mem p.mems m).kind) [ true ↦ dram_place core (dram_number p.mems m) | false ↦ mem_number p.mems m ]

  -- a register that the compiler added
  pub record IsAdded (r : ℕ) : Type 0 where
    pub after : length (written_mems p.mems) ≤ r
    pub exists : r < length core.mems
    pub is_kind : kind_of core r ≡ Reg
    pub has_none : dims core r ≡ []

  -- a word is found at a source: by the counters around, in a list of which this much is done
  abbrev pub Finds : counters.Scope → (done : List Entry) → store.Store → Source → (word : ℕ) → Type 0
  Finds around done t (at_place k) w = (k < length done) × (word_at done k ≡ w)
  Finds around done t (in_register r) w = IsAdded r × (t r ≡ Some (cells (Some w ∷ [])))
  Finds around done t (constant c) w = c ≡ w
  Finds around done t (count c) w = counters.count_word (around c) 0 ≡ w

  -- a memory on the chip that isn't visible yet, and that is fresh already unless a reset operation makes it so
  pub record IsWaiting (view : View) (t : store.Store) (m : ℕ) : Type 0 where
    pub exists : m < length p.mems
    pub on_chip : is_off_dram (mem p.mems m) ≡ true
    pub unseen : Contains view.scope.mems m → ⊥
    pub holds : (view.resets m && has_reset (mem p.mems m).kind (mem p.mems m).start) ≡ false → t (mem_number p.mems m) ≡ Some (fresh_of (mem p.mems m).kind (mem p.mems m).dims (mem p.mems m).start [])

  -- what is visible is the same in both: memories hold the same, values are found, and counters have their words
  pub record Agree (view : View) (done : List Entry) (s : program.Store) (t : store.Store) : Type 0 where
    pub mems : (m : ℕ) → Contains view.scope.mems m → (m < length p.mems) × (t (place_of m) ≡ s.held m)
    pub vals : (v : ℕ × _) → Contains view.scope.vals v → Finds view.around done t (view.sources v.0) (s.values v.0)
    pub counts : (c : ℕ) → Contains view.scope.counters c → counters.count_word (view.around c) 0 ≡ s.counts c
    pub waiting : (m : ℕ) → Contains view.waiting m → IsWaiting view t m
    pub registers : (x : ℕ × Option ℕ) → Contains view.registers x → IsAdded x.0 × (t x.0 ≡ Some (cells (x.1 ∷ [])))

  -- operations go on after those that are done, to a store that agrees with another one, and give words at places
  pub record GoOn (view : View) (done : List Entry) (ops : List PlainOp) (t : store.Store) (s : program.Store) (places words : List ℕ) : Type 0 where
    pub all : List Entry
    pub after : store.Store
    pub goes : operations_after core view.around done ops t ≡ went all after
    pub counted : length all ≡ length done + length ops
    pub kept : (k : ℕ) → k < length done → word_at all k ≡ word_at done k
    pub agree : Agree view all s after
    pub give : GiveAt all places words

-- what is known after a run of statements so far
abbrev pub at_run : View → Run → View
at_run view run = record view { sources = run.values.here }

-- the FIFOs that the statements of an inner body put words into
abbrev pub puts_in : PlainStmts → List ℕ
puts_in no_stmt = []
puts_in (more_stmt (stmt place (enq m e)) rest) = m ∷ puts_in rest
puts_in (more_stmt _ rest) = puts_in rest

-- these FIFOs hold as many words in the core as in the program
abbrev pub HaveRooms : PlainProgram → (roomy : List ℕ) → PlainCore → PlainStmts → Type 0
HaveRooms p roomy core body =
    (m : ℕ) → Contains (puts_in body) m → m < length p.mems → (mem p.mems m).kind ≡ Fifo → core_room core (mem_number p.mems m) ≡ room p.mems roomy m

-- no memory is declared twice
abbrev pub Apart : List ℕ → Type 0
Apart [] = Unit {0}
Apart (m ∷ ms) = (Contains ms m → ⊥) × Apart ms
