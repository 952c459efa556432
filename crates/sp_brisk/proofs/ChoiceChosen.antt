-- The least plans of inner bodies are brisk, and so is a plan that is chosen of these.
use Rattle.std.proofs.Common.{◌≡◌, ℕ, ◌+◌, ◌≤◌, ◌==◌, Bool, true, false, List, [], ◌∷◌, max, Option, Some, None, arith, refl, ap, ◌∙◌, le-leb}
use Rattle.std.proofs.lemmas.Bool.{and_from, and_parts, eqb-true, false≢true}
use Rattle.std.specs.List.{All}
use Rattle.std.specs.Prelude.{nat_le}
use Rattle.sp_bank.specs.Banking.{Banking}
use Rattle.sp_core.specs.declared.access.Meet.{Meet}
use Rattle.sp_core.specs.Cost.{sum_of}
use Rattle.sp_core.specs.Forms.{PlainForms}
use Rattle.sp_core.specs.Invariant.{IsCore}
use Rattle.sp_core.specs.Latency.{latency, latency_of_all}
use Rattle.sp_core.specs.Numbering.{counters_size}
use Rattle.sp_core.specs.PlainCore.{PlainOp, PlainNode, inner, outer, fsm, branch, load, store, sparse, PlainCore}
use Rattle.sp_modulo.specs.Times.{end_of, IsFitting}
use Rattle.sp_plan.specs.Bodies.{latencies, are_in_turn}
use Rattle.sp_plan.specs.Nodes.{Site, site_at, keeps_at}
use Rattle.sp_plan.specs.Orders.{body_orders}
use Rattle.sp_plan.specs.PlainPlan.{PlainNodePlan, inner_plan, outer_plan, other_plan, PlainPlan, node_plan}
use Rattle.sp_plan.specs.Validity.{schemes_of}
use Rattle.sp_plans.proofs.FromSites.{from_sites}
use Rattle.sp_plans.specs.Planned.{IsBestBy}
use Rattle.sp_sched.proofs.BodyAt.{IsBody, body_at}
use Rattle.sp_sched.specs.Least.{IsLeastBy, IsLeastOf, IsLeastAt}
use Rattle.sp_stages.specs.Plans.{is_outer, is_outer_at, is_outer_of}
use Rattle.sp_brisk.specs.RunsBrisk.{is_brisk, brisk_rule}
use Rattle.sp_brisk.specs.ChoiceLaws.{ChosenPlansAreBrisk}
use Rattle.sp_brisk.proofs.ChoiceRanks.{latency_short, interval_short}

module _ (core : PlainCore) where
  latencies_sum : (ops : List PlainOp) → sum_of (latencies core ops) ≡ latency_of_all core ops
  latencies_sum [] = refl
  latencies_sum (op ∷ ops) = let a : sum_of (latencies core ops) ≡ latency_of_all core ops = latencies_sum ops in omega arith

  -- operations one after the other
  turn_short : (begin : ℕ) (ops : List PlainOp) (times : List ℕ) → are_in_turn core begin ops times ≡ true → end_of (latencies core ops) times ≤ begin + latency_of_all core ops
  turn_short begin [] times h = omega arith
  turn_short begin (op ∷ ops) [] h = omega arith
  turn_short begin (op ∷ ops) (t ∷ times) h =
      let q = and_parts (t == begin) (are_in_turn core (begin + latency core op) ops times) h in
      let a : t ≡ begin = eqb-true _ _ q.0 in
      let b : end_of (latencies core ops) times ≤ (begin + latency core op) + latency_of_all core ops = turn_short (begin + latency core op) ops times q.1 in
      omega arith

  module _ (schemes : List (Option Banking)) (meets : List Meet) where
    least_brisk : (number : ℕ) (streamed : Bool) (ops : List PlainOp) (serial : Bool) (times : List ℕ) (ii last : ℕ) → All (IsFitting (latencies core ops)) (body_orders core ops schemes number meets) → IsLeastBy core schemes meets number streamed ops serial times ii last
        → is_brisk core ops (inner_plan times ii last serial) ≡ true
    least_brisk number streamed ops true times ii last fits h =
        let t = h.1 in
        let over : end_of (latencies core ops) times ≡ last = t.over in
        let interval : ii ≡ max 1 last = t.interval in
        let short : end_of (latencies core ops) times ≤ 0 + latency_of_all core ops = turn_short 0 ops times t.in_turn in
        and_from (nat_le last (latency_of_all core ops)) (nat_le ii (max 1 last)) (le-leb last (latency_of_all core ops) (omega (arith, over, short))) (le-leb ii (max 1 last) (omega (arith, interval)))
    least_brisk number streamed ops false times ii last fits h =
        let a : last ≤ sum_of (latencies core ops) = latency_short (latencies core ops) (body_orders core ops schemes number meets) last fits h.least.latency_is in
        let b : sum_of (latencies core ops) ≡ latency_of_all core ops = latencies_sum ops in
        let c : ii ≤ max 1 last = interval_short (latencies core ops) (body_orders core ops schemes number meets) last ii times fits h.least in
        and_from (nat_le last (latency_of_all core ops)) (nat_le ii (max 1 last)) (le-leb last (latency_of_all core ops) (omega (arith, a, b))) (le-leb ii (max 1 last) c)

module _ (core : PlainCore) (forms : PlainForms) (meets : List Meet) (plan : PlainPlan) (ok : IsCore core) where
  -- an outer body has nothing to keep
  outer_keeps : (k n : ℕ) (streamed : Bool) (node : PlainNode) → is_outer node ≡ true → brisk_rule core plan k n streamed node ≡ true
  outer_keeps k n st (inner counters owned ops comb) e = absurd (false≢true e)
  outer_keeps k n st (outer counters style owned stages) e = refl
  outer_keeps k n st (fsm start state test body next) e = refl
  outer_keeps k n st (branch test first second) e = refl
  outer_keeps k n st (load r m spans) e = refl
  outer_keeps k n st (store r m spans) e = refl
  outer_keeps k n st (sparse kind r m places spans count par) e = refl

  outer_keeps_at : (k : ℕ) (site : Option Site) → is_outer_at site ≡ true → keeps_at (brisk_rule core plan) k site ≡ true
  outer_keeps_at k None e = refl
  outer_keeps_at k (Some s) e = outer_keeps k s.number s.streamed s.node e

  -- any other node keeps it by its least plan
  node_keeps : (k : ℕ) (s : Site) → site_at k 0 false core.root ≡ Some s → (node : PlainNode) → s.node ≡ node → (p : PlainNodePlan) → node_plan plan k ≡ p → IsLeastOf core (schemes_of plan) meets s node p → brisk_rule core plan k s.number s.streamed node ≡ true
  node_keeps k s at (inner counters owned ops comb) is (inner_plan times ii last serial) e h =
      let body : IsBody core s.number counters ops = body_at core k s counters owned ops comb ok at is in
      ap (is_brisk core ops) e ∙ least_brisk core (schemes_of plan) meets (s.number + counters_size counters) s.streamed ops serial times ii last (body.fitting (schemes_of plan) (s.number + counters_size counters) meets) h
  node_keeps k s at (inner counters owned ops comb) is (outer_plan slots chains) e h = absurd h
  node_keeps k s at (inner counters owned ops comb) is other_plan e h = absurd h
  node_keeps k s at (outer counters style owned stages) is p e h = refl
  node_keeps k s at (fsm start state test body next) is p e h = refl
  node_keeps k s at (branch test first second) is p e h = refl
  node_keeps k s at (load r m spans) is p e h = refl
  node_keeps k s at (store r m spans) is p e h = refl
  node_keeps k s at (sparse kind r m places spans count par) is p e h = refl

  least_keeps_at : (k : ℕ) (site : Option Site) → site_at k 0 false core.root ≡ site → IsLeastAt core (schemes_of plan) meets site (node_plan plan k) → keeps_at (brisk_rule core plan) k site ≡ true
  least_keeps_at k None at h = refl
  least_keeps_at k (Some s) at h = node_keeps k s at s.node refl (node_plan plan k) refl h

  best_keeps : (k : ℕ) (b : Bool) → is_outer_of core k ≡ b → IsBestBy core meets (schemes_of plan) b k (node_plan plan k) → keeps_at (brisk_rule core plan) k (site_at k 0 false core.root) ≡ true
  best_keeps k true e h = outer_keeps_at k (site_at k 0 false core.root) e
  best_keeps k false e h = least_keeps_at k (site_at k 0 false core.root) refl h

pub chosen_plans_are_brisk : ChosenPlansAreBrisk
chosen_plans_are_brisk core forms meets plan ok h = from_sites (brisk_rule core plan) core.root (λ k lt. best_keeps core forms meets plan ok k (is_outer_of core k) refl (h.best k lt))
