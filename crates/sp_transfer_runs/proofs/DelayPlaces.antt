-- Where the runs of the parts of a node stand in the timeline, and what was done in them, comes from the history alone.
use Rattle.std.proofs.Common.{◌≡◌, ℕ, suc, ◌+◌, Bool, true, false, ℤ, List, [], ◌∷◌, ◌++◌, map, flat_map, length, Option, Some, None, refl, ap, ap₂, ◌∙◌}
use Rattle.sp_core.specs.Events.{in_turn, At}
use Rattle.sp_core.specs.History.{History, Groups, Turns, inner_ran, outer_ran, fsm_ran, branch_ran, moved, picked, no_group, more_group, no_turn, more_turn}
use Rattle.sp_core.specs.PlainCore.{PlainOp, PlainCounter, PlainNode, PlainStages, PlainCore}
use Rattle.sp_core.specs.Scope.{in_lanes, loops_of, group_values}
use Rattle.sp_plan.specs.PlainPlan.{PlainPlan, node_plan}
use Rattle.sp_time.specs.Beats.{took_at, starts}
use Rattle.sp_machine.specs.Timeline.{slots_of}
use Rattle.sp_machine.specs.Transfers.{Delays}
use Rattle.sp_node_runs.specs.Runs.{Placed, stage_history, side_in, side_runs, over_at, list_took, turn_of, turns_from, body_in, body_runs, table, stage_of, groups_from, stage_in, stage_runs}
use Rattle.sp_transfer_runs.specs.Delays.{Went, went, went_in, inside, side_went, turns_went, body_went, lane_went, groups_went, stage_went, each_went}

pub placed_join : (a b : List Placed) → map went_in (a ++ b) ≡ map went_in a ++ map went_in b
placed_join [] b = refl
placed_join (r ∷ a) b = ap (λ ws. went_in r ∷ ws) (placed_join a b)

placed_flat : (f : Placed → List Placed) (part : List At → History → List Went) → ((r : Placed) → map went_in (f r) ≡ part r.standing.path r.history) → (runs : List Placed) → map went_in (flat_map f runs) ≡ each_went part (map went_in runs)
placed_flat f part e [] = refl
placed_flat f part e (r ∷ runs) = placed_join (f r) (flat_map f runs) ∙ ap₂ (λ a b. a ++ b) (e r) (placed_flat f part e runs)

module _ (core : PlainCore) (plan : PlainPlan) (delays : Delays) where
  side_placed : (test : List PlainOp) (k : ℕ) (side : Bool) (r : Placed) (h : History) → map went_in (side_in core plan delays test k side r h) ≡ side_went k side r.standing.path h
  side_placed test k true r (branch_ran es true h) = refl
  side_placed test k true r (branch_ran es false h) = refl
  side_placed test k false r (branch_ran es true h) = refl
  side_placed test k false r (branch_ran es false h) = refl
  side_placed test k true r (inner_ran bs counts groups) = refl
  side_placed test k true r (outer_ran bs counts groups) = refl
  side_placed test k true r (fsm_ran first turns last) = refl
  side_placed test k true r (moved ts ws) = refl
  side_placed test k true r (picked es places) = refl
  side_placed test k false r (inner_ran bs counts groups) = refl
  side_placed test k false r (outer_ran bs counts groups) = refl
  side_placed test k false r (fsm_ran first turns last) = refl
  side_placed test k false r (moved ts ws) = refl
  side_placed test k false r (picked es places) = refl

  pub sides_placed : (test : List PlainOp) (k : ℕ) (side : Bool) (runs : List Placed) → map went_in (side_runs core plan delays test k side runs) ≡ each_went (side_went k side) (map went_in runs)
  sides_placed test k side = placed_flat (λ r. side_in core plan delays test k side r r.history) (side_went k side) (λ r. side_placed test k side r r.history)

  module _ (start test next : List PlainOp) (body : PlainNode) (k n : ℕ) where
    turns_placed : (r : Placed) (t c : ℕ) (turns : Turns) → map went_in (turns_from core plan delays start test next body k n r t c turns) ≡ turns_went k t r.standing.path turns
    turns_placed r t c no_turn = refl
    turns_placed r t c (more_turn es h ns rest) =
        ap (λ ws. went (inside r.standing.path k (in_turn t)) h ∷ ws) (turns_placed r (suc t) (over_at core plan delays body (suc k) (n + (length start + length test)) (turn_of core plan delays start test next body k n r t c h) + list_took core plan delays next) rest)

    body_placed : (r : Placed) (h : History) → map went_in (body_in core plan delays start test next body k n r h) ≡ body_went k r.standing.path h
    body_placed r (fsm_ran first turns last) = turns_placed r 0 (r.cycle + (1 + list_took core plan delays start)) turns
    body_placed r (inner_ran bs counts groups) = refl
    body_placed r (outer_ran bs counts groups) = refl
    body_placed r (branch_ran es b h) = refl
    body_placed r (moved ts ws) = refl
    body_placed r (picked es places) = refl

    pub bodies_placed : (runs : List Placed) → map went_in (body_runs core plan delays start test next body k n runs) ≡ each_went (body_went k) (map went_in runs)
    bodies_placed = placed_flat (λ r. body_in core plan delays start test next body k n r r.history) (body_went k) (λ r. body_placed r r.history)

  module _ (counters : List PlainCounter) (owned : List ℕ) (stages : PlainStages) (k n s : ℕ) where
    lane_placed : (r : Placed) (c g : ℕ) (v : List ℤ) (h : Option History) → map went_in (stage_of core plan delays counters owned stages k n s r c g v h) ≡ lane_went stages k s r.standing.path g h
    lane_placed r c g v None = refl
    lane_placed r c g v (Some h) = refl

    groups_placed : (r : Placed) (begins : ℕ → ℕ) (g : ℕ) (values : List (List ℤ)) (groups : Groups) → map went_in (groups_from core plan delays counters owned stages k n s r begins g values groups) ≡ groups_went stages k s r.standing.path g values groups
    groups_placed r begins g [] groups = refl
    groups_placed r begins g (v ∷ values) no_group = refl
    groups_placed r begins g (v ∷ values) (more_group row rest) =
        placed_join (stage_of core plan delays counters owned stages k n s r (begins g) g v (stage_history stages row s)) (groups_from core plan delays counters owned stages k n s r begins (suc g) values rest)
        ∙ ap₂ (λ a b. a ++ b) (lane_placed r (begins g) g v (stage_history stages row s)) (groups_placed r begins (suc g) values rest)

    stage_placed : (r : Placed) (h : History) → map went_in (stage_in core plan delays counters owned stages k n s r h) ≡ stage_went stages k s counters r.standing.path h
    stage_placed r (outer_ran bs counts groups) =
        groups_placed r (λ g. starts (slots_of (node_plan plan k)) (took_at (table core plan delays counters owned stages k n s r (group_values (loops_of in_lanes counters bs)) groups)) g s) 0 (group_values (loops_of in_lanes counters bs)) groups
    stage_placed r (inner_ran bs counts groups) = refl
    stage_placed r (fsm_ran first turns last) = refl
    stage_placed r (branch_ran es b h) = refl
    stage_placed r (moved ts ws) = refl
    stage_placed r (picked es places) = refl

    pub stages_placed : (runs : List Placed) → map went_in (stage_runs core plan delays counters owned stages k n s runs) ≡ each_went (stage_went stages k s counters) (map went_in runs)
    stages_placed = placed_flat (λ r. stage_in core plan delays counters owned stages k n s r r.history) (stage_went stages k s counters) (λ r. stage_placed r r.history)
