-- What is said of symbols in runs, as statements.
use Rattle.std.specs.Prelude.{◌≡◌, ℕ, true, ℤ, List, [], All}
use Rattle.sp_words.specs.Ports.{PlainInput}
use Rattle.sp_core.specs.Around.{Around}
use Rattle.sp_core.specs.Events.{At, Standing, list_moments}
use Rattle.sp_core.specs.Forms.{symbol_in}
use Rattle.sp_core.specs.History.{Entry, History}
use Rattle.sp_core.specs.Inputs.{InputFits}
use Rattle.sp_core.specs.Invariant.{IsRight, IsCore}
use Rattle.sp_core.specs.Meaning.{run_core}
use Rattle.sp_core.specs.MemoryRules.{are_memories_right}
use Rattle.sp_core.specs.OperationRules.{are_operations_right}
use Rattle.sp_core.specs.Operations.{operations}
use Rattle.sp_core.specs.PlainCore.{PlainOp, PlainNode, PlainCore}
use Rattle.sp_core.specs.Scope.{Reading, Scope}
use Rattle.sp_core.specs.Sequential.{run}
use Rattle.sp_core.specs.Step.{went}
use Rattle.sp_core.specs.Store.{Store}
use Rattle.sp_fitting.specs.Fitting.{StoreFits}
use Rattle.sp_patterns.specs.Patterns.{patterns_of}
use Rattle.sp_patterns.specs.Ranges.{PlainAround}
use Rattle.sp_forms_hold.specs.RunsLaws.{IsPlaced}
use Rattle.sp_forms_hold.specs.RunsStanding.{ListStands, NodeStands}
use Rattle.sp_forms_hold.specs.GroupsAtForms.{IsAtOwnForms, InnersAtForms}

-- in a run of a list a symbol may be taken to be the word that its memory holds as the list begins, since forms take no symbol
-- that the list changes
abbrev pub ListsKeepSymbols : PlainCore → Type 0
ListsKeepSymbols core =
    (outside : Around) (around : PlainAround) (scope : Scope) (n : ℕ) (st : Standing) (ops : List PlainOp) (s t : Store) (es : List Entry) (symbols : List At → ℕ → ℤ) →
    are_memories_right core ≡ true → are_operations_right core outside ops ≡ true → ListStands core n around ops → IsPlaced scope around st.counters → StoreFits core s → operations core scope ops s ≡ went es t → symbols st.path ≡ symbol_in core (patterns_of core) s →
    All (IsAtOwnForms core (patterns_of core) symbols) (list_moments n st ops es)

-- so each run of an inner body, in a run of a node that keeps its rules, is at its forms with one word for each symbol in each
-- group of iterations
abbrev pub NodesKeepSymbols : PlainCore → Type 0
NodesKeepSymbols core =
    (reading : Reading) (turns : ℕ) (node : PlainNode) (outside : Around) (earlier : List ℕ) (around : PlainAround) (scope : Scope) (k n : ℕ) (st : Standing) (s t : Store) (h : History) →
    are_memories_right core ≡ true → IsRight core outside earlier node → NodeStands core n around node → IsPlaced scope around st.counters → StoreFits core s → run core reading turns node scope s ≡ went h t →
    InnersAtForms core (patterns_of core) reading node k n st h

-- and in each run of a core
abbrev pub CoresKeepSymbols : Type 0
CoresKeepSymbols =
    (core : PlainCore) (reading : Reading) (input : PlainInput) (turns : ℕ) (h : History) (t : Store) → IsCore core → InputFits core input → run_core reading turns core input ≡ went h t →
    InnersAtForms core (patterns_of core) reading core.root 0 0 (record { path = []; counters = [] }) h
