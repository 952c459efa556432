-- A node with its best plan keeps the rules of valid plans on kinds, times, slots and chains.
use Rattle.std.proofs.Common.{◌≡◌, ℕ, suc, ◌+◌, ◌==◌, Bool, true, false, IsTrue, List, [], ◌∷◌, length, Option, Some, None, refl, ap, ◌∙◌, eq-eqb}
use Rattle.std.proofs.lemmas.Bool.{and_parts}
use Rattle.std.proofs.lemmas.List.{length-map}
use Rattle.sp_bank.specs.Banking.{Banking}
use Rattle.sp_core.specs.declared.access.Meet.{Meet}
use Rattle.sp_core.specs.Forms.{PlainForms}
use Rattle.sp_core.specs.Latency.{latency}
use Rattle.sp_core.specs.Numbering.{counters_size}
use Rattle.sp_core.specs.PlainCore.{PlainOp, PlainNode, inner, outer, fsm, branch, load, store, sparse, PlainCore}
use Rattle.sp_plan.specs.Bodies.{are_in_turn, are_times_right}
use Rattle.sp_plan.specs.Nodes.{Site, site_at, keeps_at}
use Rattle.sp_plan.specs.PlainPlan.{PlainNodePlan, inner_plan, outer_plan, other_plan, PlainPlan, node_plan}
use Rattle.sp_plan.specs.Validity.{schemes_of, is_kind_of, is_timed, are_runs_right, kind_rule, time_rule, slot_rule}
use Rattle.sp_plans.specs.Planned.{IsBestBy, IsBestPlan}
use Rattle.sp_sched.specs.Least.{IsLeastBy, IsLeastBody, IsLeastOf, IsLeastAt}
use Rattle.sp_stages.specs.Plans.{is_outer, is_outer_at, is_outer_of, IsFinestPlan, IsRightPlan}

-- the laws of the parts
abbrev pub TimesAreRight : Type 0
TimesAreRight = (core : PlainCore) (schemes : List (Option Banking)) (meets : List Meet) (number : ℕ) (streamed : Bool) (ops : List PlainOp) (times : List ℕ) (ii latency : ℕ) (serial : Bool)
    → IsLeastBody core schemes meets number streamed ops (inner_plan times ii latency serial) → IsTrue (are_times_right core schemes meets number streamed ops times ii latency serial)

abbrev pub FinestAreRight : Type 0
FinestAreRight = (core : PlainCore) (meets : List Meet) (node : ℕ) → IsTrue (is_outer_of core node) → (plan : PlainNodePlan) → IsFinestPlan core meets node plan → IsRightPlan core meets node plan

module _ (core : PlainCore) where
  -- operations one after the other have a time each
  turn_each : (begin : ℕ) (ops : List PlainOp) (times : List ℕ) → are_in_turn core begin ops times ≡ true → length times ≡ length ops
  turn_each begin [] [] h = refl
  turn_each begin (op ∷ ops) (t ∷ times) h = ap suc (turn_each (begin + latency core op) ops times (and_parts (t == begin) (are_in_turn core (begin + latency core op) ops times) h).1)
  turn_each begin [] (t ∷ times) h = absurd (cc)
  turn_each begin (op ∷ ops) [] h = absurd (cc)

  one_each : (schemes : List (Option Banking)) (meets : List Meet) (number : ℕ) (streamed : Bool) (ops : List PlainOp) (serial : Bool) (times : List ℕ) (ii last : ℕ) → IsLeastBy core schemes meets number streamed ops serial times ii last → length times ≡ length ops
  one_each schemes meets number streamed ops true times ii last h = turn_each 0 ops times h.1.in_turn
  one_each schemes meets number streamed ops false times ii last h = h.least.in_time.obey.one_each ∙ length-map ops (latency core)

module _ (core : PlainCore) (forms : PlainForms) (meets : List Meet) (plan : PlainPlan) where
  kind_of : (s : Site) (node : PlainNode) (mine : PlainNodePlan) → is_outer node ≡ false → IsLeastOf core (schemes_of plan) meets s node mine → is_kind_of node mine ≡ true
  kind_of s (inner counters owned ops comb) (inner_plan times ii last serial) e h = eq-eqb (length times) (length ops) (one_each core (schemes_of plan) meets (s.number + counters_size counters) s.streamed ops serial times ii last h)
  kind_of s (inner counters owned ops comb) (outer_plan slots chains) e h = absurd h
  kind_of s (inner counters owned ops comb) other_plan e h = absurd h
  kind_of s (outer counters style owned stages) mine e h = absurd (cc)
  kind_of s (fsm start state test body next) mine e h = ap (is_kind_of (fsm start state test body next)) h
  kind_of s (branch test first second) mine e h = ap (is_kind_of (branch test first second)) h
  kind_of s (load r m spans) mine e h = ap (is_kind_of (load r m spans)) h
  kind_of s (store r m spans) mine e h = ap (is_kind_of (store r m spans)) h
  kind_of s (sparse kind r m places spans count par) mine e h = ap (is_kind_of (sparse kind r m places spans count par)) h

  timed : TimesAreRight → (s : Site) (node : PlainNode) (mine : PlainNodePlan) → is_outer node ≡ false → IsLeastOf core (schemes_of plan) meets s node mine → is_timed core forms meets plan s.number s.streamed node mine ≡ true
  timed right s (inner counters owned ops comb) (inner_plan times ii last serial) e h = right core (schemes_of plan) meets (s.number + counters_size counters) s.streamed ops times ii last serial h
  timed right s (inner counters owned ops comb) (outer_plan slots chains) e h = refl
  timed right s (inner counters owned ops comb) other_plan e h = refl
  timed right s (outer counters style owned stages) mine e h = refl
  timed right s (fsm start state test body next) mine e h = refl
  timed right s (branch test first second) mine e h = refl
  timed right s (load r m spans) mine e h = refl
  timed right s (store r m spans) mine e h = refl
  timed right s (sparse kind r m places spans count par) mine e h = refl

  -- an outer body has no times
  untimed : (n : ℕ) (streamed : Bool) (node : PlainNode) (mine : PlainNodePlan) → is_outer node ≡ true → is_timed core forms meets plan n streamed node mine ≡ true
  untimed n st (inner counters owned ops comb) mine e = absurd (cc)
  untimed n st (outer counters style owned stages) mine e = refl
  untimed n st (fsm start state test body next) mine e = refl
  untimed n st (branch test first second) mine e = refl
  untimed n st (load r m spans) mine e = refl
  untimed n st (store r m spans) mine e = refl
  untimed n st (sparse kind r m places spans count par) mine e = refl

  -- other nodes have no slots
  unslotted : (n : ℕ) (node : PlainNode) (mine : PlainNodePlan) → is_outer node ≡ false → are_runs_right core forms meets plan n node mine ≡ true
  unslotted n (inner counters owned ops comb) mine e = refl
  unslotted n (outer counters style owned stages) mine e = absurd (cc)
  unslotted n (fsm start state test body next) mine e = refl
  unslotted n (branch test first second) mine e = refl
  unslotted n (load r m spans) mine e = refl
  unslotted n (store r m spans) mine e = refl
  unslotted n (sparse kind r m places spans count par) mine e = refl

  module _ (k : ℕ) where
    kind_at : (site : Option Site) → is_outer_at site ≡ false → IsLeastAt core (schemes_of plan) meets site (node_plan plan k) → keeps_at (kind_rule core forms meets plan) k site ≡ true
    kind_at None e h = refl
    kind_at (Some s) e h = kind_of s s.node (node_plan plan k) e h

    time_at : TimesAreRight → (site : Option Site) → is_outer_at site ≡ false → IsLeastAt core (schemes_of plan) meets site (node_plan plan k) → keeps_at (time_rule core forms meets plan) k site ≡ true
    time_at right None e h = refl
    time_at right (Some s) e h = timed right s s.node (node_plan plan k) e h

    no_times_at : (site : Option Site) → is_outer_at site ≡ true → keeps_at (time_rule core forms meets plan) k site ≡ true
    no_times_at None e = refl
    no_times_at (Some s) e = untimed s.number s.streamed s.node (node_plan plan k) e

    no_slots_at : (site : Option Site) → is_outer_at site ≡ false → keeps_at (slot_rule core forms meets plan) k site ≡ true
    no_slots_at None e = refl
    no_slots_at (Some s) e = unslotted s.number s.node (node_plan plan k) e

    kind_by : FinestAreRight → (b : Bool) → is_outer_of core k ≡ b → IsBestBy core meets (schemes_of plan) b k (node_plan plan k) → keeps_at (kind_rule core forms meets plan) k (site_at k 0 false core.root) ≡ true
    kind_by right true e h = (right core meets k e (node_plan plan k) h).kind forms plan refl
    kind_by right false e h = kind_at (site_at k 0 false core.root) e h

    time_by : TimesAreRight → (b : Bool) → is_outer_of core k ≡ b → IsBestBy core meets (schemes_of plan) b k (node_plan plan k) → keeps_at (time_rule core forms meets plan) k (site_at k 0 false core.root) ≡ true
    time_by right true e h = no_times_at (site_at k 0 false core.root) e
    time_by right false e h = time_at right (site_at k 0 false core.root) e h

    slot_by : FinestAreRight → (b : Bool) → is_outer_of core k ≡ b → IsBestBy core meets (schemes_of plan) b k (node_plan plan k) → keeps_at (slot_rule core forms meets plan) k (site_at k 0 false core.root) ≡ true
    slot_by right true e h = (right core meets k e (node_plan plan k) h).slots forms plan refl
    slot_by right false e h = no_slots_at (site_at k 0 false core.root) e

    module _ (best : IsBestPlan core meets (schemes_of plan) k (node_plan plan k)) where
      pub kind_kept : FinestAreRight → keeps_at (kind_rule core forms meets plan) k (site_at k 0 false core.root) ≡ true
      kind_kept right = kind_by right (is_outer_of core k) refl best

      pub time_kept : TimesAreRight → keeps_at (time_rule core forms meets plan) k (site_at k 0 false core.root) ≡ true
      time_kept right = time_by right (is_outer_of core k) refl best

      pub slot_kept : FinestAreRight → keeps_at (slot_rule core forms meets plan) k (site_at k 0 false core.root) ≡ true
      slot_kept right = slot_by right (is_outer_of core k) refl best
