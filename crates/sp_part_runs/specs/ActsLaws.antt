-- What the circuit of an inner body does in a group, as statements.
use Rattle.std.specs.Prelude.{◌≡◌, ℕ, ◌+◌, ◌<◌, ◌≤◌, ◌&&◌, Bool, true, false, not, IsTrue, List, [], length, map, slice_index}
use Rattle.sp_netlist.specs.Draft.{Draft}
use Rattle.sp_netlist.specs.Signals.{Signals}
use Rattle.sp_gates.specs.Runs.{RunsOn}
use Rattle.sp_gates.specs.Tested.{is_on}
use Rattle.sp_core.specs.History.{Entry, left_out, gave, touched, word_at}
use Rattle.sp_core.specs.Operations.{operations}
use Rattle.sp_core.specs.PlainCore.{PlainOp, PlainCore}
use Rattle.sp_core.specs.Scope.{Scope}
use Rattle.sp_core.specs.Step.{went}
use Rattle.sp_core.specs.Store.{Store}
use Rattle.sp_fitting.specs.Fitting.{MasksAreBits}
use Rattle.sp_pipe.specs.declared.part.PipeOp.{PipeOp}
use Rattle.sp_pipe.specs.Acts.{ActsAt}
use Rattle.sp_pipe.specs.Right.{IsAt, OpsFit}
use Rattle.sp_pipe.specs.Values.{gives_word, time_of, words_of}
use Rattle.sp_part_runs.specs.ActsCircuits.{AreOpsOf, AreGiven, AreAnswered}
use Rattle.sp_part_runs.specs.ActsEntries.{AreEntries, IndicesAreWords, entry_at}

-- the entries of a list that ran are what its operations did
abbrev pub EntriesAreDone : Type 0
EntriesAreDone = (core : PlainCore) (scope : Scope) (ops : List PlainOp) (s t : Store) (es : List Entry) → operations core scope ops s ≡ went es t → AreEntries scope ops es

-- A group of a body: its operations as those of a circuit that fits some draft, what they did, and that masks are bits and
-- indices words of `Int`.
pub record IsGroup (d : Draft) (scope : Scope) (ops : List PlainOp) (ps : List PipeOp) (es : List Entry) : Type 0 where
  pub ops_of : AreOpsOf ops ps
  pub fits : OpsFit d ps
  pub entries : AreEntries scope ops es
  pub bits : MasksAreBits ops es
  pub indices : IndicesAreWords ops es

-- A group is issued in a cycle with its counters' words, and up to a cycle its accesses are answered with what they found: up
-- to that cycle the words over the run's nets are those of its entries.
abbrev pub WordsAgree : Type 0
WordsAgree =
    (d : Draft) (scope : Scope) (ops : List PlainOp) (ps : List PipeOp) (es : List Entry) (s : Signals) (u last : ℕ) → IsGroup d scope ops ps es → AreGiven s u scope ops ps → AreAnswered s u last ps es
    → (k : ℕ) (p : PipeOp) → IsAt ps k p → IsTrue (gives_word p.act) → u + time_of p.act p.mask p.time ≤ last → slice_index (words_of s u ps) k ≡ word_at es k

abbrev pub is_made : Entry → Bool
is_made left_out = false
is_made e = true

-- So an access acts at its time after the issue exactly where the core made it, with the words that it took there.
pub record ActsAsMade (s : Signals) (issue u : ℕ) (p : PipeOp) (es : List Entry) (e : Entry) (enable : ℕ) (operands : List ℕ) : Type 0 where
  pub enabled : is_on s enable (u + p.time) ≡ (is_on s issue u && is_made e)
  pub words : map (s.net (u + p.time)) operands ≡ map (word_at es) p.args.items

abbrev pub AccessesAgree : Type 0
AccessesAgree =
    (d : Draft) (scope : Scope) (ops : List PlainOp) (ps : List PipeOp) (es : List Entry) (s : Signals) (u last : ℕ) → IsGroup d scope ops ps es → AreGiven s u scope ops ps → AreAnswered s u last ps es
    → RunsOn s d.cells → (issue enable : ℕ) (operands : List ℕ) (k : ℕ) (p : PipeOp) → IsAt ps k p → ActsAt d issue ps p enable operands → u + p.time ≤ last
    → ActsAsMade s issue u p es (entry_at es k) enable operands
