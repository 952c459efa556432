-- The bounds of a loop, which stand in the cycle in which it is started, and the loops that they give, as statements.
use Rattle.std.specs.Prelude.{◌≡◌, ℕ, suc, ◌+◌, ◌*◌, ◌<◌, ◌≤◌, ◌^◌, true, IsTrue, List, [], ◌∷◌, length, Option}
use Rattle.std.specs.List.{Contains}
use Rattle.sp_words.specs.declared.kind.Style.{Style}
use Rattle.sp_netlist.specs.Draft.{Draft}
use Rattle.sp_netlist.specs.Signals.{Signals}
use Rattle.sp_gates.specs.Runs.{RunsOn}
use Rattle.sp_core.specs.Around.{Around, Near}
use Rattle.sp_core.specs.Events.{Standing, bounds_moments}
use Rattle.sp_core.specs.History.{Entry, Bounds, last_word, Groups, inner_ran, outer_ran}
use Rattle.sp_core.specs.Invariant.{IsRight}
use Rattle.sp_core.specs.MemoryRules.{are_memories_right}
use Rattle.sp_core.specs.PlainCore.{PlainOp, PlainCounter, PlainStages, inner, outer, PlainCore}
use Rattle.sp_core.specs.Scope.{Reading, Scope, in_lanes, loops_of}
use Rattle.sp_core.specs.Sequential.{run}
use Rattle.sp_core.specs.Step.{went}
use Rattle.sp_core.specs.Store.{Store}
use Rattle.sp_fitting.specs.Fitting.{StoreFits}
use Rattle.sp_counters.specs.declared.part.Count.{Count}
use Rattle.sp_counters.specs.Laws.{AreLoopsAt}
use Rattle.sp_machine.specs.Stamps.{Stamped, Copies, stamped}
use Rattle.sp_pipe.specs.declared.part.PipeOp.{PipeOp}
use Rattle.sp_pipe.specs.Acts.{HasWord}
use Rattle.sp_pipe.specs.Right.{IsAt}
use Rattle.sp_pipe.specs.Values.{gives_word}
use Rattle.sp_part_runs.specs.ActsCircuits.{answer_of}
use Rattle.sp_node_runs.specs.Bodies.{AreTimedOps}
use Rattle.sp_node_runs.specs.BodiesGiven.{Nets, AreStanding, AreGivenBy}
use Rattle.sp_node_runs.specs.BodiesLists.{DidList}
use Rattle.sp_node_runs.specs.BodiesTold.{AreAnsweredInTime}

-- what the operations of a bound did; its word is one of `Int`
pub record DidBound (scope : Scope) (ops : List PlainOp) (es : List Entry) : Type 0 where
  pub list : DidList scope ops es
  pub fits : last_word es < 2 ^ 32

-- of both bounds of each counter
abbrev pub DidBounds : Scope → List PlainCounter → List Bounds → Type 0
DidBounds scope [] [] = Unit {0}
DidBounds scope (c ∷ counters) (b ∷ bounds) = DidBound scope c.from b.from × DidBound scope c.until b.until × DidBounds scope counters bounds
DidBounds scope [] (b ∷ bounds) = ⊥
DidBounds scope (c ∷ counters) [] = ⊥

module _ (s : Signals) (d : Draft) (events : List Stamped) (last : ℕ) (near : List Near) (env : Nets) where
  -- the net of a bound, of which all stands in the cycle itself: it reads registers directly, each of which has the word of the
  -- timeline
  pub record IsBoundNet (number : ℕ) (ops : List PlainOp) (net : ℕ) : Type 0 where
    pub ps : List PipeOp
    pub timed : AreTimedOps d ops ps (λ k. 0)
    pub given : AreGivenBy s near env ops ps
    pub directly : (k : ℕ) (p : PipeOp) → IsAt ps k p → answer_of p.act ≡ 0
    pub place : ℕ
    pub is_last : suc place ≡ length ops
    pub gives : (p : PipeOp) → IsAt ps place p → IsTrue (gives_word p.act)
    pub word : HasWord d net 0 ps place
    pub answered : AreAnsweredInTime s events last number ops ps

  -- those of counters, by the number of their first operation
  pub data AreBoundNets : (number : ℕ) → List PlainCounter → List Count → Type 0 where
    no_bound : {n : ℕ} → AreBoundNets n [] []
    two_bounds : {n : ℕ} {c : PlainCounter} {count : Count} {counters : List PlainCounter} {counts : List Count} → IsBoundNet n c.from count.from → IsBoundNet (n + length c.from) c.until count.until → c.by ≡ count.by → c.par ≡ count.par → 1 ≤ c.by * c.par
        → AreBoundNets (n + (length c.from + length c.until)) counters counts → AreBoundNets n (c ∷ counters) (count ∷ counts)

-- where the counters around stand in a cycle in which bounds are taken, the nets have the bounds of the loops
abbrev pub BoundsStand : Type 0
BoundsStand =
    (s : Signals) (d : Draft) (events : List Stamped) (last : ℕ) (near : List Near) (env : Nets) (n : ℕ) (counters : List PlainCounter) (counts : List Count) (scope : Scope) (st : Standing) (copies : Copies) (bounds : List Bounds) (u : ℕ)
    → RunsOn s d.cells → u ≤ last → AreBoundNets s d events last near env n counters counts → DidBounds scope counters bounds → AreStanding s u near env scope
    → ((x : Stamped) → Contains (stamped copies u (bounds_moments n st counters bounds)) x → Contains events x) → AreLoopsAt s u counts (loops_of in_lanes counters bounds)

-- the bounds of each run of a loop did so
pub record RunsTakeBounds (core : PlainCore) : Type 0 where
  pub of_inner : (reading : Reading) (turns : ℕ) (around : Around) (earlier : List ℕ) (counters : List PlainCounter) (owned : List ℕ) (ops : List PlainOp) (comb : Option ℕ) (scope : Scope) (s t : Store) (bounds : List Bounds) (counts : List ℕ) (groups : List (List Entry))
      → are_memories_right core ≡ true → IsRight core around earlier (inner counters owned ops comb) → StoreFits core s → run core reading turns (inner counters owned ops comb) scope s ≡ went (inner_ran bounds counts groups) t → DidBounds scope counters bounds
  pub of_outer : (reading : Reading) (turns : ℕ) (around : Around) (earlier : List ℕ) (counters : List PlainCounter) (style : Style) (owned : List ℕ) (stages : PlainStages) (scope : Scope) (s t : Store) (bounds : List Bounds) (counts : List ℕ) (groups : Groups)
      → are_memories_right core ≡ true → IsRight core around earlier (outer counters style owned stages) → StoreFits core s → run core reading turns (outer counters style owned stages) scope s ≡ went (outer_ran bounds counts groups) t → DidBounds scope counters bounds
