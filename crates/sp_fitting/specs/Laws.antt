-- What is said of words and their types, as statements.
use Rattle.std.specs.Prelude.{◌≡◌, ℕ, true, List, Some}
use Rattle.std.specs.List.{All}
use Rattle.sp_words.specs.Laws.{IsInRange}
use Rattle.sp_words.specs.Ports.{PlainInput}
use Rattle.sp_words.specs.Types.{int_type}
use Rattle.sp_words.specs.Words.{IsWord}
use Rattle.sp_core.specs.Accesses.{word_in}
use Rattle.sp_core.specs.Around.{Around}
use Rattle.sp_core.specs.Declarations.{mem, kind_of, dims}
use Rattle.sp_core.specs.Events.{Standing, Moment, list_moments, moments, core_moments}
use Rattle.sp_core.specs.Forms.{PlainForms, symbol_in}
use Rattle.sp_core.specs.History.{Entry, History}
use Rattle.sp_core.specs.Inputs.{InputFits}
use Rattle.sp_core.specs.Invariant.{IsRight, IsCore}
use Rattle.sp_core.specs.Meaning.{first_store, run_core}
use Rattle.sp_core.specs.MemoryRules.{are_memories_right}
use Rattle.sp_core.specs.OperationRules.{are_operations_right}
use Rattle.sp_core.specs.Operations.{operations}
use Rattle.sp_core.specs.PlainCore.{PlainOp, PlainNode, PlainCore}
use Rattle.sp_core.specs.Scope.{Reading, Scope}
use Rattle.sp_core.specs.Sequential.{run}
use Rattle.sp_core.specs.Step.{went}
use Rattle.sp_core.specs.Store.{Store}
use Rattle.sp_core.specs.Typed.{is_type}
use Rattle.sp_fitting.specs.Fitting.{type_at, StoreFits, EntriesFit, MasksAreBits, HistoryFits, MomentFits, EachStore}

-- the symbol of each memory of `Int` is a number of `Int`
abbrev pub SymbolsAreInts : PlainCore → PlainForms → Store → Type 0
SymbolsAreInts core forms s = (m : ℕ) → is_type int_type (mem core m).ty ≡ true → IsInRange int_type (symbol_in core forms s m)

-- in a store whose words fit a list of operations that keeps the rules leaves such a store, so does each of its accesses;
-- it gives words of its operations' types, and its masks are 0 or 1
pub record ListFits (core : PlainCore) (ops : List PlainOp) (s : Store) (es : List Entry) (t : Store) : Type 0 where
  pub left : StoreFits core t
  pub entries : EntriesFit ops es
  pub masks : MasksAreBits ops es
  pub stores : (n : ℕ) (st : Standing) → EachStore core (StoreFits core) (list_moments n st ops es) s

abbrev pub ListsFit : PlainCore → Type 0
ListsFit core =
    (around : Around) (scope : Scope) (ops : List PlainOp) (s t : Store) (es : List Entry) →
    are_memories_right core ≡ true → are_operations_right core around ops ≡ true → StoreFits core s → operations core scope ops s ≡ went es t → ListFits core ops s es t

-- so does a node; its lists give and its transfers move words of their types, and so is each word that is read or written
pub record NodeFits (core : PlainCore) (reading : Reading) (node : PlainNode) (s : Store) (h : History) (t : Store) : Type 0 where
  pub left : StoreFits core t
  pub history : HistoryFits core node h
  pub happening : (k n : ℕ) (st : Standing) → All (MomentFits core) (moments core reading node k n st h)
  pub stores : (k n : ℕ) (st : Standing) → EachStore core (StoreFits core) (moments core reading node k n st h) s

abbrev pub NodesFit : PlainCore → Type 0
NodesFit core =
    (reading : Reading) (turns : ℕ) (node : PlainNode) (around : Around) (earlier : List ℕ) (scope : Scope) (s t : Store) (h : History) →
    are_memories_right core ≡ true → IsRight core around earlier node → StoreFits core s → run core reading turns node scope s ≡ went h t → NodeFits core reading node s h t

-- from an input that fits, in a run of a core in either reading, words fit in each store, in the history and at each moment,
-- and symbols are numbers of `Int` where their memories are of `Int`
pub record RunFits (core : PlainCore) (first : Store) (ms : List Moment) (h : History) (t : Store) : Type 0 where
  pub left : StoreFits core t
  pub history : HistoryFits core core.root h
  pub happening : All (MomentFits core) ms
  pub stores : EachStore core (StoreFits core) ms first
  pub symbols : (forms : PlainForms) → EachStore core (SymbolsAreInts core forms) ms first

abbrev pub RunsFit : PlainCore → Type 0
RunsFit core =
    (reading : Reading) (input : PlainInput) (turns : ℕ) (t : Store) (h : History) → IsCore core → InputFits core input → run_core reading turns core input ≡ went h t →
    RunFits core (first_store core input) (core_moments core reading h) h t

-- in a store whose words fit, a word that stands in a memory is one of its type
abbrev pub WordsFit : PlainCore → Type 0
WordsFit core = (s : Store) (m : ℕ) (indices : List ℕ) (w : ℕ) → StoreFits core s → word_in (kind_of core m) (dims core m) indices (s m) ≡ Some w → IsWord (type_at core m) w

-- and symbols are numbers of `Int`
abbrev pub SymbolsFit : PlainCore → Type 0
SymbolsFit core = (forms : PlainForms) (s : Store) → StoreFits core s → SymbolsAreInts core forms s
