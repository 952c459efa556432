-- Inputs that fit a core, and what is said of all of its runs in lanes.
use Rattle.std.specs.Prelude.{◌≡◌, ℕ, Bool, IsTrue, List, length}
use Rattle.std.specs.List.{All, AllZip}
use Rattle.sp_words.specs.Interface.{word_count}
use Rattle.sp_words.specs.Ports.{PlainPort, PlainInput}
use Rattle.sp_words.specs.Words.{IsWord}
use Rattle.sp_core.specs.Events.{Moment, core_moments}
use Rattle.sp_core.specs.History.{History}
use Rattle.sp_core.specs.Meaning.{first_store, run_core}
use Rattle.sp_core.specs.PlainCore.{PlainCore}
use Rattle.sp_core.specs.Scope.{in_lanes}
use Rattle.sp_core.specs.Step.{went}
use Rattle.sp_core.specs.Store.{Store}

-- a word for each argument, and the words of each DRAM, of their types
pub record InputFits (core : PlainCore) (input : PlainInput) : Type 0 where
  pub args : AllZip (λ (port : PlainPort) word. IsWord port.ty word) core.ports.args input.args
  pub drams : AllZip (λ (port : PlainPort) words. (length words ≡ word_count port.dims) × All (IsWord port.ty) words) core.ports.drams input.drams

-- a test of a store and of what happens from there on holds of each run in lanes that ends
abbrev pub EachRun : PlainCore → (Store → List Moment → Bool) → Type 0
EachRun core test =
    (input : PlainInput) (turns : ℕ) (h : History) (t : Store) → InputFits core input → run_core in_lanes turns core input ≡ went h t →
    IsTrue (test (first_store core input) (core_moments core in_lanes h))
