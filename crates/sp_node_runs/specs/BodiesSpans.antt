-- The spans of a slice, which stand in the cycle in which its transfer is started, as a statement.
use Rattle.std.specs.Prelude.{◌≡◌, ℕ, ◌+◌, ◌≤◌, List, [], ◌∷◌, length}
use Rattle.std.specs.List.{Contains}
use Rattle.sp_netlist.specs.Draft.{Draft}
use Rattle.sp_netlist.specs.Signals.{Signals}
use Rattle.sp_gates.specs.Runs.{RunsOn}
use Rattle.sp_core.specs.Around.{Near}
use Rattle.sp_core.specs.Events.{Standing, spans_moments}
use Rattle.sp_core.specs.History.{Taken, one, both, last_word}
use Rattle.sp_core.specs.PlainCore.{PlainOp, PlainSpan, single, range}
use Rattle.sp_core.specs.Scope.{Scope}
use Rattle.sp_machine.specs.Stamps.{Stamped, Copies, stamped}
use Rattle.sp_node_runs.specs.BodiesBounds.{IsBoundNet}
use Rattle.sp_node_runs.specs.BodiesGiven.{Nets, AreStanding}
use Rattle.sp_node_runs.specs.BodiesLists.{DidList}

-- the net of an index, or those of both ends of a range
pub data SpanNets : Type 0 where
  one_net : (net : ℕ) → SpanNets
  two_nets : (from until : ℕ) → SpanNets

-- what the operations of each span did
abbrev pub DidSpans : Scope → List PlainSpan → List Taken → Type 0
DidSpans scope [] [] = Unit {0}
DidSpans scope (single ops ∷ spans) (one es ∷ taken) = DidList scope ops es × DidSpans scope spans taken
DidSpans scope (range a b ∷ spans) (both es fs ∷ taken) = DidList scope a es × DidList scope b fs × DidSpans scope spans taken
DidSpans scope _ _ = ⊥

-- nets of spans, by the number of their first operation
pub data AreSpanNets (s : Signals) (d : Draft) (events : List Stamped) (last : ℕ) (near : List Near) (env : Nets) : (number : ℕ) → List PlainSpan → List SpanNets → Type 0 where
  no_span : {n : ℕ} → AreSpanNets s d events last near env n [] []
  one_index : {n net : ℕ} {ops : List PlainOp} {spans : List PlainSpan} {nets : List SpanNets} → IsBoundNet s d events last near env n ops net → AreSpanNets s d events last near env (n + length ops) spans nets → AreSpanNets s d events last near env n (single ops ∷ spans) (one_net net ∷ nets)
  one_range : {n from until : ℕ} {a b : List PlainOp} {spans : List PlainSpan} {nets : List SpanNets} → IsBoundNet s d events last near env n a from → IsBoundNet s d events last near env (n + length a) b until
      → AreSpanNets s d events last near env (n + (length a + length b)) spans nets → AreSpanNets s d events last near env n (range a b ∷ spans) (two_nets from until ∷ nets)

-- in a cycle they have the words of what was taken
abbrev pub HaveSpans : Signals → (cycle : ℕ) → List SpanNets → List Taken → Type 0
HaveSpans s u [] [] = Unit {0}
HaveSpans s u (one_net net ∷ nets) (one es ∷ taken) = (s.net u net ≡ last_word es) × HaveSpans s u nets taken
HaveSpans s u (two_nets from until ∷ nets) (both es fs ∷ taken) = (s.net u from ≡ last_word es) × (s.net u until ≡ last_word fs) × HaveSpans s u nets taken
HaveSpans s u _ _ = ⊥

-- where the counters around stand in a cycle in which a slice is taken, the nets have its ends
abbrev pub SpansStand : Type 0
SpansStand =
    (s : Signals) (d : Draft) (events : List Stamped) (last : ℕ) (near : List Near) (env : Nets) (n : ℕ) (spans : List PlainSpan) (nets : List SpanNets) (scope : Scope) (st : Standing) (copies : Copies) (taken : List Taken) (u : ℕ)
    → RunsOn s d.cells → u ≤ last → AreSpanNets s d events last near env n spans nets → DidSpans scope spans taken → AreStanding s u near env scope
    → ((x : Stamped) → Contains (stamped copies u (spans_moments n st spans taken)) x → Contains events x) → HaveSpans s u nets taken
