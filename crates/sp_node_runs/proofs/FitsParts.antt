-- Histories of parts fit.
use Rattle.std.proofs.Common.{◌≡◌, ℕ, zero, suc, true, false, ℤ, List, [], ◌∷◌, ◌++◌, flat_map, Option, Some, None, refl, subst}
use Rattle.sp_words.specs.declared.kind.Style.{Style}
use Rattle.sp_core.specs.History.{History, Groups, Runs, Turns, outer_ran, fsm_ran, branch_ran, no_group, more_group, no_run, masked_run, more_run, no_turn, more_turn}
use Rattle.sp_core.specs.PlainCore.{PlainOp, PlainCounter, PlainNode, PlainStages, outer, fsm, branch, no_stage, more_stage, PlainCore}
use Rattle.sp_core.specs.Scope.{in_lanes, loops_of, group_values}
use Rattle.sp_fitting.specs.Fitting.{HistoryFits, GroupsFit, RunsFit, TurnsFit}
use Rattle.sp_plan.specs.PlainPlan.{PlainPlan}
use Rattle.sp_machine.specs.Transfers.{Delays}
use Rattle.sp_node_runs.specs.Runs.{Placed, side_in, turns_from, body_in, stage_at, stage_history, stage_of, groups_from, stage_in}
use Rattle.sp_node_runs.specs.ControlBeating.{IsOuter, AreOuters}
use Rattle.sp_node_runs.specs.ControlRuns.{IsBranch, AreBranches, IsMachine, AreMachines}
use Rattle.sp_node_runs.specs.FitsLaws.{AllFit, PartsFit}

module _ (core : PlainCore) (plan : PlainPlan) (delays : Delays) where
  abbrev Fit : PlainNode → List Placed → Type 0
  Fit node runs = AllFit core plan delays node runs

  both_fit : (node : PlainNode) (xs ys : List Placed) → Fit node xs → Fit node ys → Fit node (xs ++ ys)
  both_fit node [] ys f g = g
  both_fit node (x ∷ xs) ys f g = (f.0, both_fit node xs ys f.1 g)

  -- parts of each run
  each_fit : (whole part : PlainNode) (parts : Placed → List Placed) → ((r : Placed) → HistoryFits core whole r.history → Fit part (parts r)) → (runs : List Placed) → Fit whole runs → Fit part (flat_map parts runs)
  each_fit whole part parts one [] h = tt
  each_fit whole part parts one (r ∷ runs) h = both_fit part (parts r) (flat_map parts runs) (one r h.0) (each_fit whole part parts one runs h.1)

  module _ (k : ℕ) (test : List PlainOp) (first second : PlainNode) where
    is_branch : (h : History) → HistoryFits core (branch test first second) h → IsBranch core plan delays h
    is_branch (branch_ran es side h) f = tt
    is_branch h f = elim f [ ]

    are_branches : (runs : List Placed) → Fit (branch test first second) runs → AreBranches core plan delays runs
    are_branches [] f = tt
    are_branches (r ∷ runs) f = (is_branch r.history f.0, are_branches runs f.1)

    first_fits : (r : Placed) (h : History) → HistoryFits core (branch test first second) h → Fit first (side_in core plan delays test k true r h)
    first_fits r (branch_ran es true h) f = (f.1, tt)
    first_fits r (branch_ran es false h) f = tt
    first_fits r h f = elim f [ ]

    second_fits : (r : Placed) (h : History) → HistoryFits core (branch test first second) h → Fit second (side_in core plan delays test k false r h)
    second_fits r (branch_ran es true h) f = tt
    second_fits r (branch_ran es false h) f = (f.1, tt)
    second_fits r h f = elim f [ ]

  module _ (k n : ℕ) (start : List PlainOp) (state : ℕ) (test : List PlainOp) (body : PlainNode) (next : List PlainOp) where
    is_machine : (h : History) → HistoryFits core (fsm start state test body next) h → IsMachine core plan delays h
    is_machine (fsm_ran first ts last) f = tt
    is_machine h f = elim f [ ]

    are_machines : (runs : List Placed) → Fit (fsm start state test body next) runs → AreMachines core plan delays runs
    are_machines [] f = tt
    are_machines (r ∷ runs) f = (is_machine r.history f.0, are_machines runs f.1)

    turns_fit : (r : Placed) (ts : Turns) (t c : ℕ) → TurnsFit core test body next ts → Fit body (turns_from core plan delays start test next body k n r t c ts)
    turns_fit r no_turn t c f = tt
    turns_fit r (more_turn es h ns rest) t c f = (f.0.1.0, turns_fit r rest (suc t) _ f.1)

    bodies_fit : (r : Placed) (h : History) → HistoryFits core (fsm start state test body next) h → Fit body (body_in core plan delays start test next body k n r h)
    bodies_fit r (fsm_ran first ts last) f = turns_fit r ts 0 _ f.1.0
    bodies_fit r h f = elim f [ ]

  -- a stage with a lane has a history that fits
  stage_fits : (stages : PlainStages) (hs : Runs) (s : ℕ) (h : History) → RunsFit core stages hs → stage_history stages hs s ≡ Some h → HistoryFits core (stage_at stages s) h
  stage_fits (more_stage first last comb node rest) (more_run b hs) zero h f e = let same : b ≡ h = cc in subst (λ x. HistoryFits core node x) same f.0
  stage_fits (more_stage first last comb node rest) (more_run b hs) (suc s) h f e = stage_fits rest hs s h f.1 e
  stage_fits (more_stage first last comb node rest) (masked_run hs) (suc s) h f e = stage_fits rest hs s h f e
  stage_fits (more_stage first last comb node rest) (masked_run hs) zero h f e = let z : None ≡ Some h = e in absurd (cc)
  stage_fits (more_stage first last comb node rest) no_run s h f e = elim f [ ]
  stage_fits no_stage hs s h f e = let z : None ≡ Some h = e in absurd (cc)

  module _ (k n : ℕ) (counters : List PlainCounter) (owned : List ℕ) (stages : PlainStages) (s : ℕ) (r : Placed) (begins : ℕ → ℕ) where
    groups_fit : (g : ℕ) (values : List (List ℤ)) (groups : Groups) → GroupsFit core stages groups → Fit (stage_at stages s) (groups_from core plan delays counters owned stages k n s r begins g values groups)
    groups_fit g [] groups f = tt
    groups_fit g (v ∷ values) no_group f = tt
    groups_fit g (v ∷ values) (more_group hs rest) f = both_fit (stage_at stages s) (stage_of core plan delays counters owned stages k n s r (begins g) g v (stage_history stages hs s)) _ (by (stage_history stages hs s) refl f.0) (groups_fit (suc g) values rest f.1)
      where
        by : (o : Option History) → stage_history stages hs s ≡ o → RunsFit core stages hs → Fit (stage_at stages s) (stage_of core plan delays counters owned stages k n s r (begins g) g v o)
        by None e f = tt
        by (Some h) e f = (stage_fits stages hs s h f e, tt)

  module _ (k n : ℕ) (counters : List PlainCounter) (style : Style) (owned : List ℕ) (stages : PlainStages) where
    is_outer : (h : History) → HistoryFits core (outer counters style owned stages) h → IsOuter h
    is_outer (outer_ran bs counts groups) f = tt
    is_outer h f = elim f [ ]

    are_outers : (runs : List Placed) → Fit (outer counters style owned stages) runs → AreOuters runs
    are_outers [] f = tt
    are_outers (r ∷ runs) f = (is_outer r.history f.0, are_outers runs f.1)

    stages_fit : (s : ℕ) (r : Placed) (h : History) → HistoryFits core (outer counters style owned stages) h → Fit (stage_at stages s) (stage_in core plan delays counters owned stages k n s r h)
    stages_fit s r (outer_ran bs counts groups) f = groups_fit k n counters owned stages s r _ 0 (group_values (loops_of in_lanes counters bs)) groups f.1
    stages_fit s r h f = elim f [ ]

  pub parts_fit : PartsFit core plan delays
  parts_fit = record {
    branches = λ k test first second runs f. (
      are_branches k test first second runs f,
      each_fit (branch test first second) first (λ r. side_in core plan delays test k true r r.history) (λ r g. first_fits k test first second r r.history g) runs f,
      each_fit (branch test first second) second (λ r. side_in core plan delays test k false r r.history) (λ r g. second_fits k test first second r r.history g) runs f,
    );
    machines = λ k n start state test body next runs f. (
      are_machines k n start state test body next runs f,
      each_fit (fsm start state test body next) body (λ r. body_in core plan delays start test next body k n r r.history) (λ r g. bodies_fit k n start state test body next r r.history g) runs f,
    );
    outers = λ k n counters style owned stages runs f. (
      are_outers k n counters style owned stages runs f,
      λ s. each_fit (outer counters style owned stages) (stage_at stages s) (λ r. stage_in core plan delays counters owned stages k n s r r.history) (λ r g. stages_fit k n counters style owned stages s r r.history g) runs f,
    );
  }
