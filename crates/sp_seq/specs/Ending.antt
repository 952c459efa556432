-- The end of a Stream block, where its FIFOs hold no more words than their depth.
use Rattle.std.specs.Prelude.{◌≡◌, ℕ, ◌<◌, ◌≤◌, true, List, length, Contains}
use Rattle.sp_words.specs.declared.kind.Style.TheVariants.{Stream}
use Rattle.sp_words.specs.Interface.{word_count}
use Rattle.sp_tree.specs.Expressions.{mem, dims}
use Rattle.sp_tree.specs.PlainProgram.{PlainMem}
use Rattle.sp_tree.specs.PlainStatement.{PlainStmtKind, PlainStmts, declare}
use Rattle.sp_tree.specs.Store.{queue_of}
use Rattle.sp_tree.specs.Streams.{is_fifo}
use Rattle.sp_tree.specs.Structure.{own_mems}
use Rattle.sp_seq.specs.declared.state.State.{State}
use Rattle.sp_seq.specs.Evaluating.{Setting}
use Rattle.sp_seq.specs.Running.{BlockTold}
use Rattle.sp_seq.specs.States.{IsStorage, memory_of, held_of}

-- a memory that is visible, one that a statement declares, and those that the statements of a block declare
pub record CanHold (mems : List PlainMem) (s : State) (m : ℕ) : Type 0 where
  pub setting : Setting mems s
  pub seen : Contains setting.scope.mems m

pub record CanOwn (mems : List PlainMem) (kind : PlainStmtKind) (s : State) : Type 0 where
  pub setting : Setting mems s
  pub seen : (m : ℕ) → kind ≡ declare m → Contains setting.scope.mems m

pub record CanEnd (mems : List PlainMem) (body : PlainStmts) (s : State) : Type 0 where
  pub setting : Setting mems s
  pub seen : (m : ℕ) → Contains (own_mems body) m → Contains setting.scope.mems m
  pub told : BlockTold mems setting.roomy Stream body

-- a FIFO that holds more words than its depth, for which there is room, and a memory that doesn't
pub record IsOver (mems : List PlainMem) (s : State) (m : ℕ) : Type 0 where
  pub fifo : is_fifo (mem mems m).kind ≡ true
  pub over : word_count (dims mems m) < length (queue_of (held_of (memory_of s m)))
  pub roomy : (n : ℕ) → IsStorage (mem mems m) n (mem mems m).kind (memory_of s m).storage → word_count (dims mems m) < n

abbrev pub DoesFit : List PlainMem → State → ℕ → Type 0
DoesFit mems s m = length (queue_of (held_of (memory_of s m))) ≤ word_count (dims mems m)
