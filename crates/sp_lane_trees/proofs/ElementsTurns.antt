-- The iterations of a loop whose last stage combines elements: each is its own stages, and then the operations at each element.
use mathlib.Core.Path.{fun_ext}
use Rattle.std.proofs.Common.{◌≡◌, ℕ, zero, suc, ◌+◌, ◌<◌, Bool, true, false, ℤ, List, [], Option, Some, refl, sym, ◌∙◌, ap, subst, map, ◌∷◌}
use Rattle.sp_words.specs.declared.kind.Style.{Style}
use Rattle.sp_core.specs.Declarations.{is_stream}
use Rattle.sp_core.specs.History.{Bounds, Entry, History, Runs, inner_ran}
use Rattle.sp_core.specs.Operations.{operations}
use Rattle.sp_core.specs.PlainCore.{PlainOp, PlainNode, PlainStages, inner, PlainCore}
use Rattle.sp_core.specs.Scope.{Reading, plainly, in_lanes, Loop, loops_of, counts_of, group_values, Scope, in_group}
use Rattle.sp_core.specs.Sequential.{renew, renew_in_body, bounds, end_of_group, run, run_stages}
use Rattle.sp_core.specs.Step.{Step, went, pure, ◌>>=◌, ◌>>◌, in_order}
use Rattle.sp_core.specs.Store.{Store}
use Rattle.sp_sugar.specs.Combination.{element_counters}
use Rattle.sp_lanes.specs.Unrolled.{combination_of}
use Rattle.sp_lane_groups.proofs.LiveAlong.{answer_of, store_of}
use Rattle.sp_lane_groups.specs.Groups.{lanes_from}
use Rattle.sp_lane_groups.proofs.Renewed.{bind_known, bind_split, order_split, order_none}
use Rattle.sp_lane_trees.proofs.LanesAlike.{HasEnd, AreEnded}
use Rattle.sp_lane_trees.proofs.OutersLone.{turn_of}
use Rattle.sp_lane_trees.specs.ElementsReduction.{LastElements}
use Rattle.sp_lane_trees.specs.StagesLaws.{AreOfFirst}
use Rattle.sp_lane_trees.proofs.StagesLanes.{nothing_ends, less_of, next_of}
use Rattle.sp_lane_groups.specs.InnersAlike.{own_stages, own_runs}
use Rattle.sp_lane_trees.proofs.ElementsOwn.{Parted, parted}
use Rattle.sp_lane_trees.proofs.ElementsValues.{element_bounds, element_loops, element_values, in_element, bounds_run, loops_plainly, loops_in_lanes, groups_same}

-- steps that are the same go alike
order_alike : {A B : Type 0} (f g : A → Step B) (xs : List A) (s : Store) → ((x : A) (u : Store) → f x u ≡ g x u) → in_order f xs s ≡ in_order g xs s
order_alike f g xs s h = ap (λ (k : _ → Step _). in_order k xs s) (fun_ext (λ x. fun_ext (λ u. h x u)))

-- an inner body over elements that owns nothing is its operations at each of them
module _ (core : PlainCore) (turns : ℕ) (c : ℕ) (ds : List ℕ) (ops : List PlainOp) (comb : Option ℕ) (scope : Scope) where
  abbrev pub element_step : List ℤ → Step (List Entry)
  element_step v = operations core (in_element scope c ds v) ops

  abbrev whole_step : Reading → List Loop → List ℤ → Step (List Entry)
  whole_step reading loops values = in_order (renew_in_body core reading turns) [] >> operations core (in_group scope loops values) ops

  step_is : (reading : Reading) (v : List ℤ) (s : Store) → whole_step reading (element_loops c ds) v s ≡ element_step v s
  unfolding in_order pure ◌>>=◌
  step_is reading v s = refl

  abbrev groups_step : Reading → List Loop → Step (List (List Entry))
  groups_step reading loops = in_order (whole_step reading loops) (group_values loops)

  groups_are : (reading : Reading) (loops : List Loop) (s : Store) → loops ≡ element_loops c ds → groups_step reading loops s ≡ in_order element_step (element_values ds) s
  groups_are reading loops s e =
      ap (λ ls. groups_step reading ls s) e
      ∙ ap (λ vs. in_order (whole_step reading (element_loops c ds)) vs s) (groups_same c ds)
      ∙ order_alike (whole_step reading (element_loops c ds)) element_step (element_values ds) s (λ v u. step_is reading v u)

  pub elements_ran : (s after : Store) (h : History) → run core plainly turns (inner (element_counters c ds) [] ops comb) scope s ≡ went h after
      → (ess : List (List Entry)) × (in_order element_step (element_values ds) s ≡ went ess after) × (h ≡ inner_ran (element_bounds ds) (counts_of (element_loops c ds)) ess)
  unfolding run pure
  elements_ran s after h ran =
      let bs : List Bounds = element_bounds ds in
      let loops : List Loop = loops_of plainly (element_counters c ds) bs in
      let first : (groups_step plainly loops >>= (λ groups. pure (inner_ran bs (counts_of loops) groups))) s ≡ went h after =
      sym (bind_known (in_order (bounds core plainly turns scope) (element_counters c ds)) (λ bs. groups_step plainly (loops_of plainly (element_counters c ds) bs) >>= (λ groups. pure (inner_ran bs (counts_of (loops_of plainly (element_counters c ds) bs)) groups))) s s bs
      (bounds_run core plainly turns scope c ds s)) ∙ ran in
      let second = bind_split (groups_step plainly loops) (λ groups. pure (inner_ran bs (counts_of loops) groups)) s after h first in (
        second.0,
        sym (groups_are plainly loops s (loops_plainly c ds)) ∙ second.2 ∙ ap (λ (u : Store). went second.0 u) (ap (store_of s) second.3),
        sym (ap (answer_of h) second.3) ∙ ap (λ ls. inner_ran bs (counts_of ls) second.0) (loops_plainly c ds),
      )

  pub elements_run : (s after : Store) (ess : List (List Entry)) → in_order element_step (element_values ds) s ≡ went ess after
      → (h : History) × (run core in_lanes turns (inner (element_counters c ds) [] ops comb) scope s ≡ went h after) × (h ≡ inner_ran (element_bounds ds) (counts_of (element_loops c ds)) ess)
  unfolding run pure
  elements_run s after ess ran =
      let bs : List Bounds = element_bounds ds in
      let loops : List Loop = loops_of in_lanes (element_counters c ds) bs in (
        inner_ran bs (counts_of loops) ess,
        bind_known (in_order (bounds core in_lanes turns scope) (element_counters c ds)) (λ bs. groups_step in_lanes (loops_of in_lanes (element_counters c ds) bs) >>= (λ groups. pure (inner_ran bs (counts_of (loops_of in_lanes (element_counters c ds) bs)) groups))) s s bs
            (bounds_run core in_lanes turns scope c ds s)
            ∙ bind_known (groups_step in_lanes loops) (λ groups. pure (inner_ran bs (counts_of loops) groups)) s after ess (groups_are in_lanes loops s (loops_in_lanes c ds) ∙ ran),
        ap (λ ls. inner_ran bs (counts_of ls) ess) (loops_in_lanes c ds),
      )

module _ (core : PlainCore) (turns : ℕ) (style : Style) (owned : List ℕ) (no_stream : is_stream style ≡ false) (stages : PlainStages) (is : ℕ → Bool) (reduces : LastElements core owned is stages) (firsts : AreOfFirst stages)
    (c : ℕ) (ds : List ℕ) (ops : List PlainOp) (at : ℕ) (node : PlainNode) (combines : combination_of stages ≡ Some node) (node_is : node ≡ inner (element_counters c ds) [] ops (Some at)) (plain : ℕ → Scope) (live_at : ℕ → ℕ → Bool) (count : ℕ) (first_live : (l : ℕ) → l < count → live_at l 0 ≡ true) where
  abbrev pub whole_turn : ℕ → Step Runs
  whole_turn l = turn_of core plainly turns style owned stages (live_at l) (plain l)

  abbrev pub own_turn : ℕ → Step Runs
  own_turn l = turn_of core plainly turns style owned (own_stages stages) (live_at l) (plain l)

  -- an iteration
  pub record OneTurn (l : ℕ) (s after : Store) : Type 0 where
    pub runs : Runs
    pub between : Store
    pub own : own_turn l s ≡ went runs between
    pub entries : List (List Entry)
    pub ran : in_order (element_step core turns c ds ops (Some at) (plain l)) (element_values ds) between ≡ went entries after

  -- so many, from one on
  abbrev pub Turns : (k l : ℕ) → (s after : Store) → (runs : List Runs) → Type 0
  Turns zero l s after rs = (s ≡ after) × (rs ≡ [])
  Turns (suc k) l s after rs = (u : Store) × (one : OneTurn l s u) × (others : List Runs) × (rs ≡ one.runs ∷ others) × Turns k (suc l) u after others

  one_turn : (l : ℕ) → l < count → (s after : Store) (r : Runs) → whole_turn l s ≡ went r after → (one : OneTurn l s after) × (own_runs stages r ≡ one.runs) × (groups : List (List Entry)) × HasEnd stages r (inner (element_counters c ds) [] ops (Some at)) (inner_ran (element_bounds ds) (counts_of (element_loops c ds)) groups)
  unfolding pure
  one_turn l lt s after r ran =
      let first = bind_split (in_order (renew core plainly turns) owned) (λ _. run_stages core plainly turns stages (live_at l) (plain l) >>= (λ runs. end_of_group core plainly turns style owned >> pure runs)) s after r ran in
      let second = bind_split (run_stages core plainly turns stages (live_at l) (plain l)) (λ runs. end_of_group core plainly turns style owned >> pure runs) first.1 after r first.3 in
      let third = bind_split (end_of_group core plainly turns style owned) (λ _. pure second.0) second.1 after r second.3 in
      let done : second.1 ≡ after = ap (store_of s) (sym (nothing_ends core plainly turns style owned second.1 no_stream) ∙ third.2) ∙ ap (store_of s) third.3 in
      let x : Parted core owned is turns stages (live_at l) (plain l) first.1 second.1 second.0 = parted core owned is turns (live_at l) (plain l) (first_live l lt) stages reduces firsts first.1 second.1 second.0 second.2 in
      let same : x.node ≡ inner (element_counters c ds) [] ops (Some at) = only (sym x.combines ∙ combines) ∙ node_is in
      let last = elements_ran core turns c ds ops (Some at) (plain l) x.between second.1 x.history (subst (λ n. run core plainly turns n (plain l) x.between ≡ went x.history second.1) same x.ran) in (
        record {
          runs = x.runs;
          between = x.between;
          own = bind_known (in_order (renew core plainly turns) owned) (λ _. run_stages core plainly turns (own_stages stages) (live_at l) (plain l) >>= (λ runs. end_of_group core plainly turns style owned >> pure runs)) s first.1 first.0 first.2
              ∙ bind_known (run_stages core plainly turns (own_stages stages) (live_at l) (plain l)) (λ runs. end_of_group core plainly turns style owned >> pure runs) first.1 x.between x.runs x.own
              ∙ bind_known (end_of_group core plainly turns style owned) (λ _. pure x.runs) x.between x.between [] (nothing_ends core plainly turns style owned x.between no_stream);
          entries = last.0;
          ran = last.1 ∙ ap (λ (u : Store). went last.0 u) done;
        },
        subst (λ q. own_runs stages q ≡ x.runs) (ap (answer_of r) third.3) x.runs_are,
        last.0,
        subst (λ q. HasEnd stages q (inner (element_counters c ds) [] ops (Some at)) (inner_ran (element_bounds ds) (counts_of (element_loops c ds)) last.0)) (ap (answer_of r) third.3)
            (subst (λ n. HasEnd stages second.0 n (inner_ran (element_bounds ds) (counts_of (element_loops c ds)) last.0)) same (subst (HasEnd stages second.0 x.node) last.2 x.ended)),
      )
    where
      only : {a b : PlainNode} → Some a ≡ Some b → a ≡ b
      only e = cc

  pub turns_of : (k l : ℕ) → l + k ≡ count → (s after : Store) (gs : List Runs) → in_order whole_turn (lanes_from l k) s ≡ went gs after
      → Turns k l s after (map (own_runs stages) gs) × AreEnded stages (element_counters c ds) [] ops (Some at) (element_bounds ds) (counts_of (element_loops c ds)) gs
  turns_of zero l e s after gs ran =
      let r = order_none whole_turn s after gs ran in
      ((r.0, sym (ap (map (own_runs stages)) r.1)), subst (AreEnded stages (element_counters c ds) [] ops (Some at) (element_bounds ds) (counts_of (element_loops c ds))) r.1 tt)
  turns_of (suc k) l e s after gs ran =
      let r = order_split whole_turn l (lanes_from (suc l) k) s after gs ran in
      let o = one_turn l (less_of l k count e) s r.1 r.0 r.3 in
      let z = turns_of k (suc l) (next_of l k count e) r.1 after r.2 r.4 in (
        (r.1, o.0, map (own_runs stages) r.2, sym (ap (map (own_runs stages)) r.5) ∙ ap (λ x. x ∷ map (own_runs stages) r.2) o.1, z.0),
        subst (AreEnded stages (element_counters c ds) [] ops (Some at) (element_bounds ds) (counts_of (element_loops c ds))) r.5 ((o.2, o.3), z.1),
      )
