-- What transfers move in the runs of parts.
use Rattle.std.proofs.Common.{◌≡◌, ℕ, zero, suc, true, false, ℤ, List, [], ◌∷◌, ◌++◌, flat_map, Option, Some, None, refl, subst}
use Rattle.sp_words.specs.declared.kind.Style.{Style}
use Rattle.sp_core.specs.History.{History, Groups, Runs, Turns, outer_ran, fsm_ran, branch_ran, no_group, more_group, no_run, masked_run, more_run, no_turn, more_turn}
use Rattle.sp_core.specs.PlainCore.{PlainOp, PlainCounter, PlainNode, PlainStages, outer, fsm, branch, no_stage, more_stage, PlainCore}
use Rattle.sp_core.specs.Scope.{in_lanes, loops_of, group_values}
use Rattle.sp_plan.specs.PlainPlan.{PlainPlan}
use Rattle.sp_machine.specs.Transfers.{Delays}
use Rattle.sp_node_runs.specs.Runs.{Placed, side_in, side_runs, turns_from, body_in, body_runs, stage_at, stage_history, stage_of, groups_from, stage_in, stage_runs}
use Rattle.sp_transfer_runs.specs.Trees.{AllMoved, GroupsMoved, RunsMoved, TurnsMoved, EachMoved}

module _ (core : PlainCore) (plan : PlainPlan) (delays : Delays) where
  abbrev Moved : PlainNode → List Placed → Type 0
  Moved node runs = EachMoved core node runs

  both_moved : (node : PlainNode) (xs ys : List Placed) → Moved node xs → Moved node ys → Moved node (xs ++ ys)
  both_moved node [] ys f g = g
  both_moved node (x ∷ xs) ys f g = (f.0, both_moved node xs ys f.1 g)

  -- parts of each run
  parts_moved : (whole part : PlainNode) (parts : Placed → List Placed) → ((r : Placed) → AllMoved core whole r.history → Moved part (parts r)) → (runs : List Placed) → Moved whole runs → Moved part (flat_map parts runs)
  parts_moved whole part parts one [] h = tt
  parts_moved whole part parts one (r ∷ runs) h = both_moved part (parts r) (flat_map parts runs) (one r h.0) (parts_moved whole part parts one runs h.1)

  module _ (k : ℕ) (test : List PlainOp) (first second : PlainNode) where
    first_moved : (r : Placed) (h : History) → AllMoved core (branch test first second) h → Moved first (side_in core plan delays test k true r h)
    first_moved r (branch_ran es true h) f = (f, tt)
    first_moved r (branch_ran es false h) f = tt
    first_moved r h f = tt

    second_moved : (r : Placed) (h : History) → AllMoved core (branch test first second) h → Moved second (side_in core plan delays test k false r h)
    second_moved r (branch_ran es true h) f = tt
    second_moved r (branch_ran es false h) f = (f, tt)
    second_moved r h f = tt

  module _ (k n : ℕ) (start : List PlainOp) (state : ℕ) (test : List PlainOp) (body : PlainNode) (next : List PlainOp) where
    turns_moved : (r : Placed) (ts : Turns) (t c : ℕ) → TurnsMoved core body ts → Moved body (turns_from core plan delays start test next body k n r t c ts)
    turns_moved r no_turn t c f = tt
    turns_moved r (more_turn es h ns rest) t c f = (f.0, turns_moved r rest (suc t) _ f.1)

    body_moved : (r : Placed) (h : History) → AllMoved core (fsm start state test body next) h → Moved body (body_in core plan delays start test next body k n r h)
    body_moved r (fsm_ran first ts last) f = turns_moved r ts 0 _ f
    body_moved r h f = tt

  -- a stage with a lane has a history
  stage_moved : (stages : PlainStages) (hs : Runs) (s : ℕ) (h : History) → RunsMoved core stages hs → stage_history stages hs s ≡ Some h → AllMoved core (stage_at stages s) h
  stage_moved (more_stage first last comb node rest) (more_run b hs) zero h f e = let same : b ≡ h = cc in subst (λ x. AllMoved core node x) same f.0
  stage_moved (more_stage first last comb node rest) (more_run b hs) (suc s) h f e = stage_moved rest hs s h f.1 e
  stage_moved (more_stage first last comb node rest) (masked_run hs) (suc s) h f e = stage_moved rest hs s h f e
  stage_moved (more_stage first last comb node rest) (masked_run hs) zero h f e = let z : None ≡ Some h = e in absurd (cc)
  stage_moved (more_stage first last comb node rest) no_run s h f e = let z : None ≡ Some h = e in absurd (cc)
  stage_moved no_stage hs s h f e = let z : None ≡ Some h = e in absurd (cc)

  module _ (k n : ℕ) (counters : List PlainCounter) (owned : List ℕ) (stages : PlainStages) (s : ℕ) (r : Placed) (begins : ℕ → ℕ) where
    groups_moved : (g : ℕ) (values : List (List ℤ)) (groups : Groups) → GroupsMoved core stages groups → Moved (stage_at stages s) (groups_from core plan delays counters owned stages k n s r begins g values groups)
    groups_moved g [] groups f = tt
    groups_moved g (v ∷ values) no_group f = tt
    groups_moved g (v ∷ values) (more_group hs rest) f = both_moved (stage_at stages s) (stage_of core plan delays counters owned stages k n s r (begins g) g v (stage_history stages hs s)) _ (by (stage_history stages hs s) refl f.0) (groups_moved (suc g) values rest f.1)
      where
        by : (o : Option History) → stage_history stages hs s ≡ o → RunsMoved core stages hs → Moved (stage_at stages s) (stage_of core plan delays counters owned stages k n s r (begins g) g v o)
        by None e f = tt
        by (Some h) e f = (stage_moved stages hs s h f e, tt)

  module _ (k n : ℕ) (counters : List PlainCounter) (style : Style) (owned : List ℕ) (stages : PlainStages) where
    stages_moved : (s : ℕ) (r : Placed) (h : History) → AllMoved core (outer counters style owned stages) h → Moved (stage_at stages s) (stage_in core plan delays counters owned stages k n s r h)
    stages_moved s r (outer_ran bs counts groups) f = groups_moved k n counters owned stages s r _ 0 (group_values (loops_of in_lanes counters bs)) groups f
    stages_moved s r h f = tt

  pub sides : (k : ℕ) (test : List PlainOp) (first second : PlainNode) (runs : List Placed) → Moved (branch test first second) runs → Moved first (side_runs core plan delays test k true runs) × Moved second (side_runs core plan delays test k false runs)
  sides k test first second runs f = (
    parts_moved (branch test first second) first (λ r. side_in core plan delays test k true r r.history) (λ r g. first_moved k test first second r r.history g) runs f,
    parts_moved (branch test first second) second (λ r. side_in core plan delays test k false r r.history) (λ r g. second_moved k test first second r r.history g) runs f,
  )

  pub bodies : (k n : ℕ) (start : List PlainOp) (state : ℕ) (test : List PlainOp) (body : PlainNode) (next : List PlainOp) (runs : List Placed) → Moved (fsm start state test body next) runs → Moved body (body_runs core plan delays start test next body k n runs)
  bodies k n start state test body next runs f = parts_moved (fsm start state test body next) body (λ r. body_in core plan delays start test next body k n r r.history) (λ r g. body_moved k n start state test body next r r.history g) runs f

  pub stages_in : (k n : ℕ) (counters : List PlainCounter) (style : Style) (owned : List ℕ) (stages : PlainStages) (s : ℕ) (runs : List Placed) → Moved (outer counters style owned stages) runs → Moved (stage_at stages s) (stage_runs core plan delays counters owned stages k n s runs)
  stages_in k n counters style owned stages s runs f = parts_moved (outer counters style owned stages) (stage_at stages s) (λ r. stage_in core plan delays counters owned stages k n s r r.history) (λ r g. stages_moved k n counters style owned stages s r r.history g) runs f
