-- When statements can run in a state, and how a run of them leaves it.
use Rattle.std.specs.Prelude.{◌≡◌, ℕ, ◌<◌, ◌≤◌, false, List, length, Result, Ok, Err, Contains}
use Rattle.sp_words.specs.declared.kind.Style.{Style}
use Rattle.sp_words.specs.declared.kind.Style.TheVariants.{Stream}
use Rattle.sp_tree.specs.Counts.{is_port}
use Rattle.sp_tree.specs.Expressions.{mem}
use Rattle.sp_tree.specs.PlainProgram.{PlainMem}
use Rattle.sp_tree.specs.PlainStatement.{PlainStmtKind, PlainStmts, stmt, block, foreach, reduce, mem_reduce, fsm, branch, no_stmt, more_stmt}
use Rattle.sp_tree.specs.Step.{Went, went}
use Rattle.sp_tree.specs.Streams.{is_proper, own_fifos}
use Rattle.sp_tree.specs.Structure.{mems_declared, mems_in, vals_declared, vals_in, counters_declared, counters_in}
use Rattle.sp_tree.specs.Tallies.{is_among}
use Rattle.sp_tree.specs.Typing.{Scope, StmtTyped, BodyTyped}
use Rattle.sp_seq.specs.declared.state.State.{State}
use Rattle.sp_seq.specs.declared.state.Stop.{Stop}
use Rattle.sp_seq.specs.Evaluating.{Setting}
use Rattle.sp_seq.specs.States.{Sees, store_of, halted}

-- memories on the chip, values and counters of the state
pub record Numbered (mems : List PlainMem) (s : State) (ms vs cs : List ℕ) : Type 0 where
  pub chip : (m : ℕ) → Contains ms m → (m < length mems) × (is_port (mem mems m).kind ≡ false)
  pub vals : (v : ℕ) → Contains vs v → v < length s.values.items
  pub counters : (c : ℕ) → Contains cs c → c < length s.counts.items

-- by the declarations of the memories, and the FIFOs that have more room than their depth
module _ (mems : List PlainMem) (roomy : List ℕ) where
  -- of a Stream block that isn't proper no FIFO has more room
  abbrev pub BlockTold : Style → PlainStmts → Type 0
  BlockTold Stream body = is_proper mems body ≡ false → (m : ℕ) → Contains (own_fifos mems body) m → is_among m roomy ≡ false
  BlockTold _ body = Unit {0}

  -- so it is with all blocks
  abbrev mutual
    pub BodyTold : PlainStmts → Type 0
    BodyTold no_stmt = Unit {0}
    BodyTold (more_stmt (stmt place kind) rest) = KindTold kind × BodyTold rest

    pub KindTold : PlainStmtKind → Type 0
    KindTold (block style body) = BlockTold style body × BodyTold body
    KindTold (foreach style counters body) = BodyTold body
    KindTold (reduce style fold acc counters body word comb) = BodyTold body
    KindTold (mem_reduce style acc counters body part comb) = BodyTold body
    KindTold (fsm start tested test state body last next) = BodyTold body
    KindTold (branch test first second) = BodyTold first × BodyTold second
    KindTold _ = Unit {0}

-- a statement that is typed under what is visible, and the statements of a body
pub record CanRun (mems : List PlainMem) (kind : PlainStmtKind) (s : State) : Type 0 where
  pub setting : Setting mems s
  pub typed : StmtTyped setting.program setting.scope kind
  pub numbered : Numbered mems s (mems_in kind) (vals_in kind) (counters_in kind)
  pub told : KindTold mems setting.roomy kind

pub record CanRunAll (mems : List PlainMem) (body : PlainStmts) (s : State) : Type 0 where
  pub setting : Setting mems s
  pub typed : BodyTyped setting.program setting.scope body
  pub numbered : Numbered mems s (mems_declared body) (vals_declared body) (counters_declared body)
  pub told : BodyTold mems setting.roomy body

-- what is visible then is there in the second state, which has as many values and counters as the first, and no more
-- turns
pub record Stands (mems : List PlainMem) (roomy : List ℕ) (scope : Scope) (s t : State) : Type 0 where
  pub sees : Sees mems roomy scope t
  pub values : length t.values.items ≡ length s.values.items
  pub counts : length t.counts.items ≡ length s.counts.items
  pub left : t.left ≤ s.left

-- how a run went that left the second state, by what came back
abbrev pub Finished : {A : Type 0} → List PlainMem → (roomy : List ℕ) → Scope → (s : State) → Went A → Result (Unit {0}) Stop → (t : State) → Type 0
Finished {A} mems roomy scope s w (Ok u) t = (a : A) × (w ≡ went a t.left (store_of t)) × Stands mems roomy scope s t
Finished {A} mems roomy scope s w (Err stop) t = w ≡ halted stop
