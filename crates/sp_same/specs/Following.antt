-- What it means that a node of a core does what a statement of its program does.
use Rattle.std.specs.Prelude.{◌≡◌, ℕ, ◌<◌, ◌≤◌, Bool, true, false, List, [], ◌∷◌, length, Contains, Option, Some}
use Rattle.sp_words.specs.declared.kind.Style.{Style}
use Rattle.sp_words.specs.declared.types.Ty.{Ty}
use Rattle.sp_words.specs.Memory.{cells}
use Rattle.sp_tree.specs.Expressions.{mem, word}
use Rattle.sp_tree.specs.Invariant.{outer_scope}
use Rattle.sp_tree.specs.PlainExpression.{PlainExpr}
use Rattle.sp_tree.specs.PlainProgram.{PlainProgram}
use Rattle.sp_tree.specs.PlainStatement.{PlainStmts}
use Rattle.sp_tree.specs.Sequential.{run_all}
use Rattle.sp_tree.specs.Shape as program_shape
use Rattle.sp_tree.specs.Shape.{shapes}
use Rattle.sp_tree.specs.Step as program_step
use Rattle.sp_tree.specs.Store as program_store
use Rattle.sp_tree.specs.Typing.{Scope}
use Rattle.sp_core.specs.History.{History, Runs}
use Rattle.sp_core.specs.PlainCore.{PlainNode, PlainStages, PlainCore}
use Rattle.sp_core.specs.Scope.{plainly, no_scope}
use Rattle.sp_core.specs.Sequential.{run, run_stages}
use Rattle.sp_core.specs.Shape.{shape_of, stage_shapes}
use Rattle.sp_core.specs.Step.{went}
use Rattle.sp_core.specs.Store as store
use Rattle.sp_sugar.specs.Agreement.{View, IsAdded, Agree}
use Rattle.sp_sugar.specs.Early.{after}
use Rattle.sp_sugar.specs.Numbers.{is_off_dram}
use Rattle.sp_sugar.specs.Runs.{no_run}
use Rattle.sp_sugar.specs.Stages.{nothing, body_node, stages}
use Rattle.sp_sugar.specs.Uses.{no_more}
use Rattle.sp_sugar.specs.Values.{Source, in_register, count, Sources, no_sources}
use Rattle.sp_same.specs.Contents.{HoldRightly}
use Rattle.sp_same.specs.Counts.{counts_in_all, counts_of, stage_counts}

-- a value that stands for a counter stands for one that is visible
abbrev pub SourceSeen : Scope → Source → Type 0
SourceSeen scope (count c) = Contains scope.counters c
SourceSeen scope _ = Unit {0}

abbrev pub SourcesSeen : Scope → Sources → Type 0
SourcesSeen scope sources = (v : ℕ × Ty) → Contains scope.vals v → SourceSeen scope (sources v.0)

-- the registers from a number up to another one are spare: no value that is visible stands in one of that number or after
-- it, and no register that is kept is one of them
abbrev pub SourceBefore : ℕ → Source → Type 0
SourceBefore n (in_register r) = r < n
SourceBefore n _ = Unit {0}

abbrev pub AreSpare : (first last : ℕ) → View → Type 0
AreSpare first last view =
    ((v : ℕ × Ty) → Contains view.scope.vals v → SourceBefore first (view.sources v.0))
    × ((x : ℕ × Option ℕ) → Contains view.registers x → (k : ℕ) → first ≤ k → k < last → x.0 ≡ k → ⊥)

-- a memory on the chip that isn't visible
pub record IsOwn (p : PlainProgram) (scope : Scope) (m : ℕ) : Type 0 where
  pub exists : m < length p.mems
  pub on_chip : is_off_dram (mem p.mems m) ≡ true
  pub unseen : Contains scope.mems m → ⊥

module _ (p : PlainProgram) (core : PlainCore) where
  -- a register that the compiler added holds a word
  abbrev pub HoldsWord : store.Store → (register word : ℕ) → Type 0
  HoldsWord t r w = IsAdded p core r × (t r ≡ Some (cells (Some w ∷ [])))

  -- the registers from a number on, one for each expression that crosses, hold the words of these
  abbrev pub AreReady : (PlainExpr → Bool) → (left : ℕ) → program_store.Store → store.Store → (register : ℕ) → List PlainExpr → Type 0
  AreReady crosses left s t r [] = Unit {0}
  AreReady crosses left s t r (e ∷ es) =
      (crosses e ≡ true → (w : ℕ) → word p.mems e left s ≡ program_step.went w left s → HoldsWord t r w)
      × AreReady crosses left s t (after crosses r e) es

  -- a node goes on, at most so many turns to each FSM, to a store that agrees with that of the program, and does
  -- all as often as the program did
  pub record NodeGoes (most : ℕ) (view : View) (node : PlainNode) (t : store.Store) (s : program_store.Store) (did : List program_shape.Shape) : Type 0 where
    pub history : History
    pub after : store.Store
    pub goes : run core plainly most node view.around t ≡ went history after
    pub agree : Agree p core view [] s after
    pub counts : counts_of node (shape_of node history) ≡ counts_in_all (shapes did)

  -- a node does what the statements of a body do, wherever the stores agree
  abbrev pub BodyFollowed : (roomy : List ℕ) (most : ℕ) (view : View) → PlainNode → PlainStmts → Type 0
  BodyFollowed roomy most view node body =
      (s after : program_store.Store) (t : store.Store) (left rest : ℕ) (did : List program_shape.Shape)
      → left ≤ most → Agree p core view [] s t → run_all p.mems roomy body left s ≡ program_step.went did rest after → NodeGoes most view node t after did

  -- the registers from a number on, one for each expression that crosses, were added, and have a cell each
  abbrev pub AreCells : (PlainExpr → Bool) → store.Store → (register : ℕ) → List PlainExpr → Type 0
  AreCells crosses t r [] = Unit {0}
  AreCells crosses t r (e ∷ es) = (crosses e ≡ true → IsAdded p core r × ((o : Option ℕ) × (t r ≡ Some (cells (o ∷ []))))) × AreCells crosses t (after crosses r e) es

  -- the same where the memories that are visible hold contents of their kinds
  abbrev pub BodyFollowedRightly : (roomy : List ℕ) (most : ℕ) (view : View) → PlainNode → PlainStmts → Type 0
  BodyFollowedRightly roomy most view node body =
      (s after : program_store.Store) (t : store.Store) (left rest : ℕ) (did : List program_shape.Shape)
      → left ≤ most → HoldRightly p view.scope.mems s → Agree p core view [] s t → run_all p.mems roomy body left s ≡ program_step.went did rest after → NodeGoes most view node t after did

  -- the stages before a statement put its early words into their registers, from a number on; whatever stages come after
  -- them go on from there, and the stages before count nothing
  pub record EarlyGoes (most : ℕ) (view : View) (crosses : PlainExpr → Bool) (es : List PlainExpr) (b : ℕ) (early : PlainStages → PlainStages) (left : ℕ) (t : store.Store) (s : program_store.Store) : Type 0 where
    pub after : store.Store
    pub agree : Agree p core view [] s after
    pub ready : AreReady crosses left s after b es
    pub goes : (rest : PlainStages) (live : ℕ → Bool) (runs : Runs) (end : store.Store) → live 0 ≡ true → run_stages core plainly most rest live view.around after ≡ went runs end
        → (all : Runs) × (run_stages core plainly most (early rest) live view.around t ≡ went all end) × (stage_counts (early rest) (stage_shapes (early rest) all) ≡ stage_counts rest (stage_shapes rest runs))

-- the node of a body without a loop, by the first number that its registers take
abbrev pub alone : PlainProgram → Sources → (n : ℕ) → Style → PlainStmts → PlainNode
alone p sources n style body =
    body_node p.mems (length p.counters) sources n [] style body no_more nothing (stages p.mems (length p.counters) (no_run sources) n body no_more nothing)

-- what is known where a program begins: its ports are visible
abbrev pub first_view : PlainProgram → View
first_view p = record { scope = outer_scope p; sources = no_sources; around = no_scope; waiting = []; resets = λ m. false; registers = [] }
