-- The iterations of a loop whose last stage combines a word: each is its own stages, and then the operations of the combination.
use Rattle.std.proofs.Common.{◌≡◌, ℕ, zero, suc, ◌+◌, ◌<◌, Bool, true, false, List, [], ◌∷◌, Option, Some, refl, sym, ◌∙◌, ap, subst, map}
use Rattle.sp_words.specs.declared.kind.Style.{Style}
use Rattle.sp_core.specs.Declarations.{is_stream}
use Rattle.sp_core.specs.History.{Entry, History, Runs, inner_ran}
use Rattle.sp_core.specs.Operations.{operations}
use Rattle.sp_core.specs.PlainCore.{PlainOp, PlainNode, PlainStages, inner, PlainCore}
use Rattle.sp_core.specs.Scope.{Reading, plainly, Loop, loops_of, counts_of, group_values, Scope, in_group}
use Rattle.sp_core.specs.Sequential.{renew, renew_in_body, bounds, end_of_group, run, run_stages}
use Rattle.sp_core.specs.Step.{Step, went, pure, ◌>>=◌, ◌>>◌, in_order}
use Rattle.sp_core.specs.Store.{Store}
use Rattle.sp_lanes.specs.Unrolled.{combination_of}
use Rattle.sp_lane_groups.proofs.LiveAlong.{answer_of, store_of}
use Rattle.sp_lane_groups.specs.Groups.{lanes_from}
use Rattle.sp_lane_groups.proofs.Renewed.{bind_known, bind_split, order_on, order_split, order_none}
use Rattle.sp_lane_trees.proofs.LanesAlike.{HasEnd, AreEnded}
use Rattle.sp_lane_trees.proofs.OutersLone.{turn_of}
use Rattle.sp_lane_trees.specs.StagesLaws.{AreOfFirst}
use Rattle.sp_lane_trees.proofs.StagesLanes.{nothing_ends, less_of, next_of}
use Rattle.sp_lane_groups.specs.InnersAlike.{own_stages, own_runs}
use Rattle.sp_lane_trees.specs.ReductionsReduction.{LastReduces}
use Rattle.sp_lane_trees.proofs.ReductionsOwn.{Parted, parted}

-- an inner body that has no counter and owns nothing is its operations
module _ (core : PlainCore) (reading : Reading) (turns : ℕ) (ops : List PlainOp) (comb : Option ℕ) (scope : Scope) where
  abbrev step_of : List Loop → Step (List (List Entry))
  step_of loops = in_order (λ values. in_order (renew_in_body core reading turns) [] >> operations core (in_group scope loops values) ops) (group_values loops)

  pub alone_ran : (s after : Store) (h : History) → run core reading turns (inner [] [] ops comb) scope s ≡ went h after → (es : List Entry) × (operations core scope ops s ≡ went es after) × (groups : List (List Entry)) × (h ≡ inner_ran [] [] groups)
  unfolding run pure
  alone_ran s after h ran =
      let first = bind_split (in_order (bounds core reading turns scope) []) (λ bs. step_of (loops_of reading [] bs) >>= (λ groups. pure (inner_ran bs (counts_of (loops_of reading [] bs)) groups))) s after h ran in
      let here = order_none (bounds core reading turns scope) s first.1 first.0 first.2 in
      let second = bind_split (step_of []) (λ groups. pure (inner_ran first.0 [] groups)) first.1 after h first.3 in
      let one = order_split (λ values. in_order (renew_in_body core reading turns) [] >> operations core (in_group scope [] values) ops) [] [] first.1 second.1 second.0 second.2 in
      let last = order_none (λ values. in_order (renew_in_body core reading turns) [] >> operations core (in_group scope [] values) ops) one.1 second.1 one.2 one.4 in
      let parts = bind_split (in_order (renew_in_body core reading turns) []) (λ _. operations core scope ops) first.1 one.1 one.0 one.3 in
      let none = order_none (renew_in_body core reading turns) first.1 parts.1 parts.0 parts.2 in (
        one.0,
        ap (λ (u : Store). operations core scope ops u) (here.0 ∙ none.0) ∙ parts.3 ∙ ap (λ (u : Store). went one.0 u) (last.0 ∙ ap (store_of s) second.3),
        second.0,
        sym (ap (answer_of h) second.3) ∙ ap (λ bs. inner_ran bs [] second.0) (sym here.1),
      )

  pub alone_runs : (s after : Store) (es : List Entry) → operations core scope ops s ≡ went es after → (h : History) × (run core reading turns (inner [] [] ops comb) scope s ≡ went h after) × (h ≡ inner_ran [] [] (es ∷ []))
  unfolding run pure in_order
  alone_runs s after es ran = (
    inner_ran [] [] (es ∷ []),
    bind_known (in_order (bounds core reading turns scope) []) (λ bs. step_of (loops_of reading [] bs) >>= (λ groups. pure (inner_ran bs (counts_of (loops_of reading [] bs)) groups))) s s [] refl
        ∙ bind_known (step_of []) (λ groups. pure (inner_ran [] [] groups)) s after (es ∷ [])
        (order_on (λ values. in_order (renew_in_body core reading turns) [] >> operations core (in_group scope [] values) ops) [] [] s after after es []
        (bind_known (in_order (renew_in_body core reading turns) []) (λ _. operations core scope ops) s s [] refl ∙ ran) refl),
    refl,
  )

module _ (core : PlainCore) (turns : ℕ) (style : Style) (owned : List ℕ) (no_stream : is_stream style ≡ false) (stages : PlainStages) (is : ℕ → Bool) (reduces : LastReduces core owned is stages) (firsts : AreOfFirst stages)
    (ops : List PlainOp) (at : ℕ) (node : PlainNode) (combines : combination_of stages ≡ Some node) (node_is : node ≡ inner [] [] ops (Some at)) (plain : ℕ → Scope) (live_at : ℕ → ℕ → Bool) (count : ℕ) (first_live : (l : ℕ) → l < count → live_at l 0 ≡ true) where
  abbrev pub whole_turn : ℕ → Step Runs
  whole_turn l = turn_of core plainly turns style owned stages (live_at l) (plain l)

  abbrev pub own_turn : ℕ → Step Runs
  own_turn l = turn_of core plainly turns style owned (own_stages stages) (live_at l) (plain l)

  -- an iteration
  pub record OneTurn (l : ℕ) (s after : Store) : Type 0 where
    pub runs : Runs
    pub between : Store
    pub own : own_turn l s ≡ went runs between
    pub entries : List Entry
    pub ran : operations core (plain l) ops between ≡ went entries after

  -- so many, from one on
  abbrev pub Turns : (k l : ℕ) → (s after : Store) → (runs : List Runs) → Type 0
  Turns zero l s after rs = (s ≡ after) × (rs ≡ [])
  Turns (suc k) l s after rs = (u : Store) × (one : OneTurn l s u) × (others : List Runs) × (rs ≡ one.runs ∷ others) × Turns k (suc l) u after others

  one_turn : (l : ℕ) → l < count → (s after : Store) (r : Runs) → whole_turn l s ≡ went r after → (one : OneTurn l s after) × (own_runs stages r ≡ one.runs) × (groups : List (List Entry)) × HasEnd stages r (inner [] [] ops (Some at)) (inner_ran [] [] groups)
  unfolding pure
  one_turn l lt s after r ran =
      let first = bind_split (in_order (renew core plainly turns) owned) (λ _. run_stages core plainly turns stages (live_at l) (plain l) >>= (λ runs. end_of_group core plainly turns style owned >> pure runs)) s after r ran in
      let second = bind_split (run_stages core plainly turns stages (live_at l) (plain l)) (λ runs. end_of_group core plainly turns style owned >> pure runs) first.1 after r first.3 in
      let third = bind_split (end_of_group core plainly turns style owned) (λ _. pure second.0) second.1 after r second.3 in
      let done : second.1 ≡ after = ap (store_of s) (sym (nothing_ends core plainly turns style owned second.1 no_stream) ∙ third.2) ∙ ap (store_of s) third.3 in
      let x : Parted core owned is reduces.0 turns stages (live_at l) (plain l) first.1 second.1 second.0 = parted core owned is reduces.0 turns (live_at l) (plain l) (first_live l lt) stages reduces.1 firsts first.1 second.1 second.0 second.2 in
      let same : x.node ≡ inner [] [] ops (Some at) = only (sym x.combines ∙ combines) ∙ node_is in
      let last = alone_ran core plainly turns ops (Some at) (plain l) x.between second.1 x.history (subst (λ n. run core plainly turns n (plain l) x.between ≡ went x.history second.1) same x.ran) in (
        record {
          runs = x.runs;
          between = x.between;
          own = bind_known (in_order (renew core plainly turns) owned) (λ _. run_stages core plainly turns (own_stages stages) (live_at l) (plain l) >>= (λ runs. end_of_group core plainly turns style owned >> pure runs)) s first.1 first.0 first.2
              ∙ bind_known (run_stages core plainly turns (own_stages stages) (live_at l) (plain l)) (λ runs. end_of_group core plainly turns style owned >> pure runs) first.1 x.between x.runs x.own
              ∙ bind_known (end_of_group core plainly turns style owned) (λ _. pure x.runs) x.between x.between [] (nothing_ends core plainly turns style owned x.between no_stream);
          entries = last.0;
          ran = last.1 ∙ ap (λ (u : Store). went last.0 u) done;
        },
        subst (λ q. own_runs stages q ≡ x.runs) (ap (answer_of r) third.3) x.runs_are,
        last.2,
        subst (λ q. HasEnd stages q (inner [] [] ops (Some at)) (inner_ran [] [] last.2)) (ap (answer_of r) third.3) (subst (λ n. HasEnd stages second.0 n (inner_ran [] [] last.2)) same (subst (HasEnd stages second.0 x.node) last.3 x.ended)),
      )
    where
      only : {a b : PlainNode} → Some a ≡ Some b → a ≡ b
      only e = cc

  pub turns_of : (k l : ℕ) → l + k ≡ count → (s after : Store) (gs : List Runs) → in_order whole_turn (lanes_from l k) s ≡ went gs after → Turns k l s after (map (own_runs stages) gs) × AreEnded stages [] [] ops (Some at) [] [] gs
  turns_of zero l e s after gs ran =
      let r = order_none whole_turn s after gs ran in
      ((r.0, sym (ap (map (own_runs stages)) r.1)), subst (AreEnded stages [] [] ops (Some at) [] []) r.1 tt)
  turns_of (suc k) l e s after gs ran =
      let r = order_split whole_turn l (lanes_from (suc l) k) s after gs ran in
      let o = one_turn l (less_of l k count e) s r.1 r.0 r.3 in
      let z = turns_of k (suc l) (next_of l k count e) r.1 after r.2 r.4 in (
        (r.1, o.0, map (own_runs stages) r.2, sym (ap (map (own_runs stages)) r.5) ∙ ap (λ x. x ∷ map (own_runs stages) r.2) o.1, z.0),
        subst (AreEnded stages [] [] ops (Some at) [] []) r.5 ((o.2, o.3), z.1),
      )
