-- Counters of a circuit go on, and there is a lane at least.
use Rattle.std.proofs.Common.{◌≡◌, ℕ, zero, suc, ◌*◌, ◌≤◌, ◌⊎◌, inl, inr, true, List, [], ◌∷◌, subst, arith}
use Rattle.std.specs.List.{Contains}
use Rattle.std.proofs.lemmas.Bool.{and_parts}
use Rattle.sp_words.specs.declared.kind.Style.{Style}
use Rattle.sp_netlist.specs.Draft.{Draft}
use Rattle.sp_netlist.specs.Signals.{Signals}
use Rattle.sp_core.specs.Around.{Around, Near, lanes_of}
use Rattle.sp_core.specs.History.{Bounds, History, outer_ran}
use Rattle.sp_core.specs.Invariant.{IsRight}
use Rattle.sp_core.specs.NodeRules.{are_counters_right, are_lanes_right, is_node_right, is_owned_once, owned_by}
use Rattle.sp_core.specs.PlainCore.{PlainCounter, PlainStages, outer, PlainCore}
use Rattle.sp_core.specs.Scope.{Loop, in_lanes, loop_of, loops_of}
use Rattle.sp_counters.specs.declared.part.Count.{Count}
use Rattle.sp_plan.specs.PlainPlan.{PlainPlan}
use Rattle.sp_node_runs.specs.BodiesGiven.{Nets}
use Rattle.sp_node_runs.proofs.BodiesListed.{none_there, first_or_later}
use Rattle.sp_tree_runs.specs.BodiesLanes.{loops_ran}
use Rattle.sp_tree_circuits.specs.Parts.{BoundCircuits}

pub lanes_right : (core : PlainCore) (around : Around) (earlier : List ℕ) (counters : List PlainCounter) (style : Style) (owned : List ℕ) (stages : PlainStages) → IsRight core around earlier (outer counters style owned stages) → are_lanes_right (lanes_of counters) stages ≡ true
lanes_right core around earlier counters style owned stages right =
    (and_parts (are_counters_right core around counters) (are_lanes_right (lanes_of counters) stages)
    (and_parts (is_node_right core around (outer counters style owned stages)) (is_owned_once core earlier (owned_by core (outer counters style owned stages))) right.0).0).1

module _ (core : PlainCore) (plan : PlainPlan) (s : Signals) (near : List Near) (env : Nets) (draft : Draft) where
  some_factor : (a b : ℕ) → 1 ≤ a * b → 1 ≤ b
  some_factor a zero h = absurd (omega (arith, h))
  some_factor a (suc b) h = omega arith

  pub lanes_some : (counters : List PlainCounter) (counts : List Count) → BoundCircuits core plan s near env draft counters counts → 1 ≤ lanes_of counters
  lanes_some [] counts w = omega arith
  lanes_some (c ∷ []) [] w = elim w [ ]
  lanes_some (c ∷ []) (x ∷ counts) w = some_factor c.by c.par w.0.goes_on
  lanes_some (c ∷ d ∷ counters) [] w = elim w [ ]
  lanes_some (c ∷ d ∷ counters) (x ∷ counts) w = lanes_some (d ∷ counters) counts w.1

  go_on : (counters : List PlainCounter) (counts : List Count) → BoundCircuits core plan s near env draft counters counts → (bs : List Bounds) (l : Loop) → Contains (loops_of in_lanes counters bs) l → 1 ≤ l.advance
  go_on [] counts w bs l c = absurd (none_there l c)
  go_on (x ∷ counters) counts w [] l c = absurd (none_there l c)
  go_on (x ∷ counters) [] w (b ∷ bs) l c = elim w [ ]
  go_on (x ∷ counters) (y ∷ counts) w (b ∷ bs) l c = by (first_or_later (loop_of in_lanes x b) l (loops_of in_lanes counters bs) c) (go_on counters counts w.1 bs l)
    where
      by : (loop_of in_lanes x b ≡ l) ⊎ Contains (loops_of in_lanes counters bs) l → (Contains (loops_of in_lanes counters bs) l → 1 ≤ l.advance) → 1 ≤ l.advance
      by (inl same) rest = subst (λ (z : Loop). 1 ≤ z.advance) same w.0.goes_on
      by (inr later) rest = rest later

  pub loops_go_on : (counters : List PlainCounter) (counts : List Count) → BoundCircuits core plan s near env draft counters counts → (h : History) (l : Loop) → Contains (loops_ran counters h) l → 1 ≤ l.advance
  loops_go_on counters counts w (outer_ran bs ns groups) l c = go_on counters counts w bs l c
  loops_go_on counters counts w h l c = absurd (none_there l c)
