-- The stages of a loop but the one that combines elements, and what holds of them.
use Rattle.std.proofs.Common.{◌≡◌, ℕ, Bool, true, false, List, ◌++◌, Some, refl, sym, ◌∙◌, ap, subst}
use Rattle.sp_core.specs.Around.{Around}
use Rattle.sp_core.specs.Footprint.{StagesName}
use Rattle.sp_core.specs.History.{History, Runs, no_run, masked_run, more_run}
use Rattle.sp_core.specs.Invariant.{owned_in, AreRight, IsRight}
use Rattle.sp_core.specs.PlainCore.{PlainNode, PlainStages, no_stage, more_stage, PlainCore}
use Rattle.sp_core.specs.Scope.{plainly, is_some_live, Scope}
use Rattle.sp_core.specs.Sequential.{run, run_stages}
use Rattle.sp_core.specs.Step.{Step, went, pure, ◌>>=◌}
use Rattle.sp_core.specs.Store.{Store}
use Rattle.sp_lanes.specs.Unrolled.{combination_of}
use Rattle.sp_lane_rules.specs.Copies.{OwnInLanes}
use Rattle.sp_lane_cores.specs.LanedMarks.{NoneCombines}
use Rattle.sp_lane_groups.proofs.LiveAlong.{answer_of, store_of}
use Rattle.sp_lane_groups.proofs.Renewed.{bind_known, bind_split}
use Rattle.sp_lane_groups.specs.PlainNodes.{IsNodePlain, AreStagesPlain}
use Rattle.sp_lane_trees.proofs.LanesAlike.{HasEnd, here, later}
use Rattle.sp_lane_trees.specs.StagesLaws.{AreOfFirst}
use Rattle.sp_lane_groups.specs.InnersAlike.{own_stages, own_runs}
use Rattle.sp_lane_trees.specs.ElementsReduction.{CombinesElements, LastElements}

-- steps by a choice that is made
chosen_true : {A : Type 0} (b : Bool) (one other : Step A) (s : Store) → b ≡ true → (elim b as (λ _. Step A) [ true ↦ one | false ↦ other ]) s ≡ one s
chosen_true {A = A} b one other s e = ap (λ c. (elim c as (λ _. Step A) [ true ↦ one | false ↦ other ]) s) e

module _ (core : PlainCore) (owned : List ℕ) (is : ℕ → Bool) where
  pub none_combines : (stages : PlainStages) → LastElements core owned is stages → NoneCombines core (own_stages stages)
  none_combines no_stage h = tt
  none_combines (more_stage first last true node no_stage) h = tt
  none_combines (more_stage first last true node (more_stage f l c n rest)) h = absurd h
  none_combines (more_stage first last false node rest) h = none_combines rest h.1

  pub own_names : (stages : PlainStages) → LastElements core owned is stages → StagesName core is (own_stages stages)
  own_names no_stage h = tt
  own_names (more_stage first last true node no_stage) h = tt
  own_names (more_stage first last true node (more_stage f l c n rest)) h = absurd h
  own_names (more_stage first last false node rest) h = (h.0, own_names rest h.1)

  pub own_first : (stages : PlainStages) → LastElements core owned is stages → AreOfFirst stages → AreOfFirst (own_stages stages)
  own_first no_stage h f = tt
  own_first (more_stage first last true node no_stage) h f = tt
  own_first (more_stage first last true node (more_stage f l c n rest)) h k = absurd h
  own_first (more_stage first last false node rest) h f = (f.0, f.1, own_first rest h.1 f.2)

  pub own_right : (around : Around) (stages : PlainStages) (earlier : List ℕ) → LastElements core owned is stages → AreRight core around earlier stages → AreRight core around earlier (own_stages stages)
  own_right around no_stage earlier h r = tt
  own_right around (more_stage first last true node no_stage) earlier h r = tt
  own_right around (more_stage first last true node (more_stage f l c n rest)) earlier h r = absurd h
  own_right around (more_stage first last false node rest) earlier h r = (r.0, own_right around rest (earlier ++ owned_in node) h.1 r.1)

  pub own_lanes : (stages : PlainStages) → LastElements core owned is stages → OwnInLanes stages → OwnInLanes (own_stages stages)
  own_lanes no_stage h o = tt
  own_lanes (more_stage first last true node no_stage) h o = tt
  own_lanes (more_stage first last true node (more_stage f l c n rest)) h o = absurd h
  own_lanes (more_stage first last false node rest) h o = (o.0, own_lanes rest h.1 o.1)

  -- the one that combines: what it is, and that it is right by what stands around
  pub record Last (around : Around) (stages : PlainStages) : Type 0 where
    pub node : PlainNode
    pub combines : combination_of stages ≡ Some node
    pub reduces : CombinesElements core owned is node
    pub earlier : List ℕ
    pub right : IsRight core around earlier node
    pub plain : IsNodePlain node

  pub last_of : (around : Around) (stages : PlainStages) (earlier : List ℕ) → LastElements core owned is stages → AreRight core around earlier stages → AreStagesPlain stages → Last around stages
  last_of around no_stage earlier h r p = absurd h
  last_of around (more_stage first last true node no_stage) earlier h r p = record { node = node; combines = refl; reduces = h; earlier = earlier; right = r.0; plain = p.0 }
  last_of around (more_stage first last true node (more_stage f l c n rest)) earlier h r p = absurd h
  last_of around (more_stage first last false node rest) earlier h r p =
      let x : Last around rest = last_of around rest (earlier ++ owned_in node) h.1 r.1 p.1 in
      record { node = x.node; combines = x.combines; reduces = x.reduces; earlier = x.earlier; right = x.right; plain = x.plain }

  -- a run of all stages is one of the others, and then one of the combination
  pub record Parted (turns : ℕ) (stages : PlainStages) (live : ℕ → Bool) (scope : Scope) (s after : Store) (whole : Runs) : Type 0 where
    pub runs : Runs
    pub between : Store
    pub own : run_stages core plainly turns (own_stages stages) live scope s ≡ went runs between
    pub node : PlainNode
    pub combines : combination_of stages ≡ Some node
    pub history : History
    pub ran : run core plainly turns node scope between ≡ went history after
    pub runs_are : own_runs stages whole ≡ runs
    pub ended : HasEnd stages whole node history

  pub parted : (turns : ℕ) (live : ℕ → Bool) (scope : Scope) → live 0 ≡ true → (stages : PlainStages) → LastElements core owned is stages → AreOfFirst stages → (s after : Store) (r : Runs) → run_stages core plainly turns stages live scope s ≡ went r after
      → Parted turns stages live scope s after r
  unfolding run_stages pure
  parted turns live scope on no_stage h firsts s after r ran = absurd h
  parted turns live scope on (more_stage f e true node (more_stage f2 e2 c2 n2 rest)) h firsts s after r ran = absurd h
  parted turns live scope on (more_stage f e true node no_stage) h firsts s after r ran =
      let is_on : is_some_live live f e ≡ true = ap (λ x. is_some_live live x e) firsts.0 ∙ ap (is_some_live live 0) firsts.1 ∙ on in
      let rest : Step Runs = run_stages core plainly turns no_stage live scope in
      let goes : (run core plainly turns node scope >>= (λ h. rest >>= (λ others. pure (more_run h others)))) s ≡ went r after =
      sym (chosen_true (is_some_live live f e) (run core plainly turns node scope >>= (λ h. rest >>= (λ others. pure (more_run h others)))) (rest >>= (λ others. pure (masked_run others))) s is_on) ∙ ran in
      let one = bind_split (run core plainly turns node scope) (λ h. rest >>= (λ others. pure (more_run h others))) s after r goes in
      let two = bind_split rest (λ others. pure (more_run one.0 others)) one.1 after r one.3 in
      record {
        runs = no_run;
        between = s;
        own = refl;
        node = node;
        combines = refl;
        history = one.0;
        ran = one.2 ∙ ap (λ u. went one.0 u) (ap (store_of s) two.2 ∙ ap (store_of s) two.3);
        runs_are = subst (λ q. own_runs (more_stage f e true node no_stage) q ≡ no_run) (ap (answer_of r) two.3) refl;
        ended = subst (λ q. HasEnd (more_stage f e true node no_stage) q node one.0) (ap (answer_of r) two.3) here;
      }
  parted turns live scope on (more_stage f e false node rest) h firsts s after r ran =
      let is_on : is_some_live live f e ≡ true = ap (λ x. is_some_live live x e) firsts.0 ∙ ap (is_some_live live 0) firsts.1 ∙ on in
      let goes : (run core plainly turns node scope >>= (λ h. run_stages core plainly turns rest live scope >>= (λ others. pure (more_run h others)))) s ≡ went r after =
      sym (chosen_true (is_some_live live f e) (run core plainly turns node scope >>= (λ h. run_stages core plainly turns rest live scope >>= (λ others. pure (more_run h others))))
      (run_stages core plainly turns rest live scope >>= (λ others. pure (masked_run others))) s is_on) ∙ ran in
      let one = bind_split (run core plainly turns node scope) (λ h. run_stages core plainly turns rest live scope >>= (λ others. pure (more_run h others))) s after r goes in
      let two = bind_split (run_stages core plainly turns rest live scope) (λ others. pure (more_run one.0 others)) one.1 after r one.3 in
      let x : Parted turns rest live scope one.1 two.1 two.0 = parted turns live scope on rest h.1 firsts.2 one.1 two.1 two.0 two.2 in
      record {
        runs = more_run one.0 x.runs;
        between = x.between;
        own = chosen_true (is_some_live live f e) (run core plainly turns node scope >>= (λ h. run_stages core plainly turns (own_stages rest) live scope >>= (λ others. pure (more_run h others))))
            (run_stages core plainly turns (own_stages rest) live scope >>= (λ others. pure (masked_run others))) s is_on
            ∙ bind_known (run core plainly turns node scope) (λ h. run_stages core plainly turns (own_stages rest) live scope >>= (λ others. pure (more_run h others))) s one.1 one.0 one.2
            ∙ bind_known (run_stages core plainly turns (own_stages rest) live scope) (λ others. pure (more_run one.0 others)) one.1 x.between x.runs x.own;
        node = x.node;
        combines = x.combines;
        history = x.history;
        ran = x.ran ∙ ap (λ u. went x.history u) (ap (store_of after) two.3);
        runs_are = subst (λ q. own_runs (more_stage f e false node rest) q ≡ more_run one.0 x.runs) (ap (answer_of r) two.3) (ap (λ z. more_run one.0 z) x.runs_are);
        ended = subst (λ q. HasEnd (more_stage f e false node rest) q x.node x.history) (ap (answer_of r) two.3) (later x.ended);
      }
