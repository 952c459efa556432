-- A part of a tree in its runs: what is asked of it up to a cycle, and what it does there.
use Rattle.std.proofs.Common.{ℕ, ◌+◌, ◌<◌, ◌≤◌, Bool, List, Some, sym, ap, ◌∙◌, arith}
use Rattle.sp_netlist.specs.declared.parts.Child.{Child}
use Rattle.sp_netlist.specs.Signals.{Signals}
use Rattle.sp_core.specs.declared.operation.OpKind.{OpKind}
use Rattle.sp_core.specs.Around.{Near}
use Rattle.sp_core.specs.Numbering.{number_count}
use Rattle.sp_core.specs.PlainCore.{PlainOp, PlainNode, inner, outer, fsm, branch, load, store, sparse, PlainCore}
use Rattle.sp_pipe.specs.declared.part.PipeOp.{PipeOp}
use Rattle.sp_part_runs.specs.BodiesRuns.{IsOnAt}
use Rattle.sp_plan.specs.PlainPlan.{PlainPlan}
use Rattle.sp_machine.specs.Stamps.{Stamped}
use Rattle.sp_machine.specs.Transfers.{Delays}
use Rattle.sp_node_runs.specs.RunsTold.{all_events}
use Rattle.sp_node_runs.specs.ControlLaws.{Does, IsStarted}
use Rattle.sp_node_runs.specs.ControlRuns.{rans}
use Rattle.sp_node_runs.specs.BodiesGiven.{Nets}
use Rattle.sp_node_runs.specs.BodiesTold.{ActsInTime, AreAnsweredInTime}
use Rattle.sp_tree_runs.specs.BodiesScoped.{Scoped, placed}
use Rattle.sp_tree_circuits.specs.Circuits.{Circuit}
use Rattle.sp_tree_circuits.specs.Acts.{AreEventsOf, PartGoes, Acts}
use Rattle.sp_tree_circuits.specs.Laws.{DidRuns, StandAround}

-- a wire that is right up to a cycle is up to each cycle before
pub earlier : (wire : ℕ → Bool) (P : ℕ → Type 0) (t u : ℕ) → u ≤ t → IsOnAt wire P t → IsOnAt wire P u
earlier wire P t u le h = record { on = λ v l p. h.on v (omega (arith, l, le)) p; only = λ v l e. h.only v (omega (arith, l, le)) e }

module _ (core : PlainCore) (plan : PlainPlan) (delays : Delays) (s : Signals) (events : List Stamped) where
  -- all but that it is started
  pub record Ready (node : PlainNode) (near : List Near) (env : Nets) (k n : ℕ) (qs : List Scoped) (t : ℕ) : Type 0 where
    pub from : ℕ
    pub until : ℕ
    pub did : DidRuns core plan delays node k n from until qs
    pub told : AreEventsOf events (all_events core plan delays node k n (placed qs)) n (number_count node)
    pub stand : StandAround core plan delays s node near env k n qs t

  pub ready_earlier : (node : PlainNode) (near : List Near) (env : Nets) (k n : ℕ) (qs : List Scoped) (t u : ℕ) → u ≤ t → Ready node near env k n qs t → Ready node near env k n qs u
  ready_earlier node near env k n qs t u le r = record { from = r.from; until = r.until; did = r.did; told = r.told; stand = λ q v c a b l. r.stand q v c a b (omega (arith, l, le)) }

  -- a part acts up to each cycle up to which it is started
  abbrev pub Goes : (node : PlainNode) (near : List Near) (env : Nets) (k n : ℕ) (qs : List Scoped) (c : Child) → Circuit core plan s node near env k c → (t : ℕ) → Type 0
  Goes node near env k n qs c w t = (u : ℕ) → u ≤ t → IsStarted s c.start (rans core plan delays node k n (placed qs)) u → Acts core plan delays s events u node near env k n qs c w

  pub part_of : (t : ℕ) (node : PlainNode) (near : List Near) (env : Nets) (k n : ℕ) (qs : List Scoped) (c : Child) (w : Circuit core plan s node near env k c) → Acts core plan delays s events t node near env k n qs c w → PartGoes core plan delays s events t node k n qs c
  part_of t (branch ops first second) near env k n qs c w h = h.0
  part_of t (fsm start state ops node after) near env k n qs c w h = h.0
  part_of t (outer counters style owned stages) near env k n qs c w h = h.0
  part_of t (inner counters owned ops comb) near env k n qs c w h = h.0
  part_of t (load r m spans) near env k n qs c w h = h.0
  part_of t (store r m spans) near env k n qs c w h = h.0
  part_of t (sparse kind r m places spans count par) near env k n qs c w h = elim h [ ]

  pub does_of : (node : PlainNode) (near : List Near) (env : Nets) (k n : ℕ) (qs : List Scoped) (c : Child) (w : Circuit core plan s node near env k c) (t : ℕ) → Goes node near env k n qs c w t → Does s c (rans core plan delays node k n (placed qs)) t
  does_of node near env k n qs c w t goes u le started = (part_of u node near env k n qs c w (goes u le started)).ends

  -- what is read is answered by the events of a part, too, and accesses that act at those of a part do at those of the whole
  module _ (part : List Stamped) (m few : ℕ) (told : AreEventsOf events part m few) where
    pub answered_in : (last t n : ℕ) (ops : List PlainOp) (ps : List PipeOp) → t ≤ last → AreAnsweredInTime s events last n ops ps → AreAnsweredInTime s part t n ops ps
    answered_in last t n ops ps le h k op p at has is u e happens late w act =
        let x = told.within (n + k) u e happens in
        h k op p at has is u x.0 x.1 (omega (arith, late, le)) w (act ∙ ap (λ a. Some a) (sym x.3))

    pub acts_in : (t number : ℕ) (kind : OpKind) (enable : ℕ) (operands : List ℕ) → m ≤ number → number < m + few → ActsInTime s part t number kind enable operands → ActsInTime s events t number kind enable operands
    acts_in t number kind enable operands low high h = record {
      enabled = record {
        on = λ u l (e, happens). let x = told.all number u e low high happens in h.enabled.on u l (x.0, x.1);
        only = λ u l e. let y = h.enabled.only u l e in let x = told.within number u y.0 y.1 in (x.0, x.1);
      };
      at = λ u e l happens. let x = told.all number u e low high happens in sym x.2 ∙ h.at u x.0 l x.1;
      word = λ u e l happens is. let x = told.all number u e low high happens in h.word u x.0 l x.1 is ∙ ap (λ a. Some a) x.3;
      index = λ u e l happens. let x = told.all number u e low high happens in h.index u x.0 l x.1;
    }
