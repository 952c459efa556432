-- What owners do in the events of runs is done by their nodes' loops and FSMs, and to memories that these own.
use Rattle.std.proofs.Common.{◌≡◌, ℕ, zero, suc, List, [], ◌∷◌, ap, subst, arith}
use Rattle.std.specs.List.{Contains}
use Rattle.sp_core.specs.Events.{moments}
use Rattle.sp_core.specs.Invariant.{owned_in}
use Rattle.sp_core.specs.PlainCore.{PlainNode, PlainCore}
use Rattle.sp_core.specs.Scope.{in_lanes}
use Rattle.sp_plan.specs.PlainPlan.{PlainPlan}
use Rattle.sp_time.specs.Lists.{Each}
use Rattle.sp_machine.specs.Laws.{told}
use Rattle.sp_machine.specs.Stamps.{Stamped, moved}
use Rattle.sp_machine.specs.Transfers.{Delays}
use Rattle.sp_overlap.specs.Whole.{IsTimed}
use Rattle.sp_node_runs.specs.Runs.{Placed, events_of}
use Rattle.sp_node_runs.specs.Runs as runs
use Rattle.sp_node_runs.specs.RunsTold.{all_events}
use Rattle.sp_node_runs.proofs.BodiesListed.{mapped_to, mapped_from, joined_from}
use Rattle.sp_tree_events.specs.OwnersOwning.{Deed, moment_of, Shows, IsOwned}
use Rattle.sp_owner_runs.specs.Deeds.{renewed_in, kept_in, IsDeed}
use Rattle.sp_owner_runs.specs.Given.{Laws}

pub each_at : {A : Type 0} (Q : A → Type 0) (xs : List A) (x : A) → Each Q xs → Contains xs x → Q x
each_at Q [] x h (i, l, e) = absurd (omega (arith, l))
each_at Q (y ∷ xs) x h (zero, l, e) = subst Q e h.0
each_at Q (y ∷ xs) x h (suc i, l, e) = each_at Q xs x h.1 (i, omega (arith, l), e)

module _ (core : PlainCore) (plan : PlainPlan) (delays : Delays) (laws : Laws core plan delays) (node : PlainNode) (k n : ℕ) (rs : List Placed) (u c : ℕ) (d : Deed) (shown : Shows (all_events core plan delays node k n rs) u c d) where
  -- a deed is a moment of one of the runs
  pub deed_in : (r : Placed) × Contains (moments core in_lanes node k n r.standing r.history) (moment_of d)
  deed_in =
      let x = joined_from (events_of core plan delays node k n) rs (record { cycle = u; copy = c; moment = moment_of d }) shown in
      let es : List Stamped = (runs.told core plan delays node k n x.0).events in
      let y = mapped_from (moved x.0.cycle) es (record { cycle = u; copy = c; moment = moment_of d }) x.2 in
      let there = mapped_to (λ (z : Stamped). z.moment) es y.0 y.1 in
      let same : y.0.moment ≡ moment_of d = ap (λ (z : Stamped). z.moment) y.2 in
      (x.0, subst (λ ms. Contains ms (moment_of d)) (laws.tells_all node k n x.0.standing x.0.copies x.0.history) (subst (λ m. Contains (told es) m) same there))

  pub deed_is : IsTimed node → IsDeed core (renewed_in node) (kept_in node) (moment_of d)
  deed_is timed = let x = deed_in in each_at (IsDeed core (renewed_in node) (kept_in node)) _ (moment_of d) (laws.owners_do node timed k n x.0.standing x.0.history) x.1

  pub deed_owned : IsTimed node → IsOwned (owned_in node) (moment_of d)
  deed_owned timed = let x = deed_in in each_at (IsOwned (owned_in node)) _ (moment_of d) (laws.runs_own node timed k n x.0.standing x.0.history) x.1
