-- The stages of one lane, before those of the lanes after it.
use Rattle.std.proofs.Common.{◌≡◌, ℕ, ◌<◌, Bool, true, false, ◌||◌, List, [], ◌∷◌, ◌++◌, length, refl, sym, ◌∙◌, ap, subst}
use Rattle.std.proofs.lemmas.Bool.{true≢false}
use Rattle.std.specs.Prelude.{flat_map}
use Rattle.sp_core.specs.Around.{Around, is_usable}
use Rattle.sp_core.specs.Declarations.{is_among}
use Rattle.sp_core.specs.History.{Runs, masked_run, more_run}
use Rattle.sp_core.specs.Invariant.{owned_in, AreRight}
use Rattle.sp_core.specs.MemoryRules.{are_memories_right}
use Rattle.sp_core.specs.PlainCore.{PlainNode, PlainStages, no_stage, more_stage, PlainCore}
use Rattle.sp_core.specs.Scope.{plainly, is_some_live, Scope}
use Rattle.sp_core.specs.Scope as scope
use Rattle.sp_core.specs.Sequential.{run, run_stages}
use Rattle.sp_core.specs.Step.{Step, went, pure, ◌>>=◌}
use Rattle.sp_core.specs.Store.{Store}
use Rattle.sp_fitting.specs.Fitting.{StoreFits}
use Rattle.sp_fitting.specs.Laws.{NodesFit}
use Rattle.sp_lanes.specs.Order.{memory_order}
use Rattle.sp_lanes.specs.Unrolled.{unrolled, node_in, nodes_in, stages_in}
use Rattle.sp_lanes.specs.Within.{Within}
use Rattle.sp_lane_cores.specs.LanedMarks.{NoneCombines}
use Rattle.sp_lane_rules.proofs.UnrolledPlaces.{among_both}
use Rattle.sp_lane_groups.specs.LiveStores.{ScopesAgree}
use Rattle.sp_lane_groups.proofs.LiveAlong.{answer_of, store_of}
use Rattle.sp_lane_groups.proofs.Renewed.{bind_known, bind_split}
use Rattle.sp_lane_groups.proofs.WordsMasks.{one_live}
use Rattle.sp_lane_groups.specs.InnersAlike.{own_stages, left_out, LaneAlike, lane_over, stage_ran}
use Rattle.sp_lane_groups.specs.InnersAlong.{AgreeAt}
use Rattle.sp_lane_trees.specs.OutersStages.{AllGoAlong}
use Rattle.sp_lane_trees.specs.StagesLaws.{AreOfFirst}

-- what is in none of two lists
pub neither : (xs ys : List ℕ) (n : ℕ) → is_among n (xs ++ ys) ≡ false → (is_among n xs ≡ false) × (is_among n ys ≡ false)
neither xs ys n e = by (is_among n xs) (is_among n ys) (sym (among_both n xs ys) ∙ e)
  where
    by : (a b : Bool) → (a || b) ≡ false → (a ≡ false) × (b ≡ false)
    by true b e = absurd (true≢false e)
    by false b e = (refl, e)

-- steps by a choice that is made
chosen_true : {A : Type 0} (b : Bool) (one other : Step A) (s : Store) → b ≡ true → (elim b as (λ _. Step A) [ true ↦ one | false ↦ other ]) s ≡ one s
chosen_true {A = A} b one other s e = ap (λ c. (elim c as (λ _. Step A) [ true ↦ one | false ↦ other ]) s) e

chosen_false : {A : Type 0} (b : Bool) (one other : Step A) (s : Store) → b ≡ false → (elim b as (λ _. Step A) [ true ↦ one | false ↦ other ]) s ≡ other s
chosen_false {A = A} b one other s e = ap (λ c. (elim c as (λ _. Step A) [ true ↦ one | false ↦ other ]) s) e

-- what the stages of a lane without an iteration leave of a run
abbrev pub left_nodes : List PlainNode → Runs → Runs
left_nodes [] g = g
left_nodes (node ∷ ns) g = masked_run (left_nodes ns g)

pub left_alike : (order : List ℕ) (w : Within) (stages : PlainStages) (g : Runs) → left_nodes (nodes_in order w stages) g ≡ left_out (own_stages stages) g
unfolding nodes_in
left_alike order w no_stage g = refl
left_alike order w (more_stage f e true node rest) g = left_alike order w rest g
left_alike order w (more_stage f e false node rest) g = ap masked_run (left_alike order w rest g)

module _ (core : PlainCore) (nodes : NodesFit core) (memories : are_memories_right core ≡ true) (turns : ℕ) (place : Around) (w : Within) (plain lanes : Scope) (agree : ScopesAgree w plain lanes) (l : ℕ) (too : ℕ → Bool) where
  abbrev run_there : PlainStages → Step Runs
  run_there xs = run_stages (unrolled core) scope.in_lanes turns xs too lanes

  -- after the stages of the lane, and before those that follow
  pub record Passed (xs : PlainStages) (t after : Store) (done : Runs) : Type 0 where
    pub ended : Store
    pub agrees : AgreeAt core place w after ended
    pub fits : StoreFits core after
    pub left : (n : ℕ) → n < length (unrolled core).mems → ((m : ℕ) → is_usable core place m ≡ true → w.number m ≡ n → ⊥) → is_among n (flat_map owned_in (nodes_in (memory_order core) w xs)) ≡ false → ended n ≡ t n
    pub runs : (rest : PlainStages) (g : Runs) (last : Store) → run_there rest ended ≡ went g last → (h : Runs) × (run_there (stages_in l (nodes_in (memory_order core) w xs) rest) t ≡ went h last)
        × LaneAlike xs done g h

  -- a lane that has an iteration
  pub passes : too l ≡ true → (live : ℕ → Bool) → live 0 ≡ true → (xs : PlainStages) (earlier : List ℕ) → AreOfFirst xs → NoneCombines core xs → AllGoAlong core turns place w xs → AreRight core place earlier xs
      → (s t after : Store) (r : Runs) → StoreFits core s → AgreeAt core place w s t → run_stages core plainly turns xs live plain s ≡ went r after → Passed xs t after r
  unfolding run_stages nodes_in pure
  passes on live first no_stage earlier firsts none go right s t after r fits agrees ran = record {
    ended = t;
    agrees = subst (λ (u : Store). AgreeAt core place w u t) (ap (store_of s) ran) agrees;
    fits = subst (StoreFits core) (ap (store_of s) ran) fits;
    left = λ n lt outer free. refl;
    runs = λ rest g last there. (g, there, subst (λ q. LaneAlike no_stage q g g) (ap (answer_of r) ran) lane_over);
  }
  passes on live first (more_stage f e true node rest) earlier firsts none go right s t after r fits agrees ran = absurd none
  passes on live first (more_stage f e false node rest) earlier firsts none go right s t after r fits agrees ran =
      let here : PlainNode = node_in (memory_order core) w node in
      let others : List PlainNode = nodes_in (memory_order core) w rest in
      let is_on : is_some_live live f e ≡ true = ap (λ x. is_some_live live x e) firsts.0 ∙ ap (is_some_live live 0) firsts.1 ∙ first in
      let goes : (run core plainly turns node plain >>= (λ h. run_stages core plainly turns rest live plain >>= (λ others. pure (more_run h others)))) s ≡ went r after =
      sym (chosen_true (is_some_live live f e) (run core plainly turns node plain >>= (λ h. run_stages core plainly turns rest live plain >>= (λ others. pure (more_run h others))))
      (run_stages core plainly turns rest live plain >>= (λ others. pure (masked_run others))) s is_on) ∙ ran in
      let one = bind_split (run core plainly turns node plain) (λ h. run_stages core plainly turns rest live plain >>= (λ others. pure (more_run h others))) s after r goes in
      let two = bind_split (run_stages core plainly turns rest live plain) (λ others. pure (more_run one.0 others)) one.1 after r one.3 in
      let x = go.0 plain lanes agree s t one.1 one.0 fits agrees one.2 in
      let fits_after : StoreFits core one.1 = (nodes plainly turns node place earlier plain s one.1 one.0 memories right.0 fits one.2).left in
      let y : Passed rest x.1 two.1 two.0 = passes on live first rest (earlier ++ owned_in node) firsts.2 none go.1 right.1 one.1 x.1 two.1 two.0 fits_after x.3 two.2 in
      let done : two.1 ≡ after = ap (store_of after) two.3 in
      record {
        ended = y.ended;
        agrees = subst (λ (u : Store). AgreeAt core place w u y.ended) done y.agrees;
        fits = subst (StoreFits core) done y.fits;
        left = λ n lt outer free. (let p = neither (owned_in here) (flat_map owned_in others) n free in y.left n lt outer p.1 ∙ x.4 n lt outer p.0);
        runs = λ more g last there. (let z = y.runs more g last there in (
          more_run x.0 z.0,
          chosen_true (is_some_live too l l) (run (unrolled core) scope.in_lanes turns here lanes >>= (λ h. run_there (stages_in l others more) >>= (λ rs. pure (more_run h rs)))) (run_there (stages_in l others more) >>= (λ rs. pure (masked_run rs))) t (one_live too l ∙ on)
              ∙ bind_known (run (unrolled core) scope.in_lanes turns here lanes) (λ h. run_there (stages_in l others more) >>= (λ rs. pure (more_run h rs))) t x.1 x.0 x.2
              ∙ bind_known (run_there (stages_in l others more)) (λ rs. pure (more_run x.0 rs)) x.1 last z.0 z.1,
          subst (λ q. LaneAlike (more_stage f e false node rest) q g (more_run x.0 z.0)) (ap (answer_of r) two.3) (stage_ran x.5 z.2),
        ));
      }

  -- and one that has none
  pub rests : too l ≡ false → (ns : List PlainNode) (rest : PlainStages) (g : Runs) (t last : Store) → run_there rest t ≡ went g last → (h : Runs) × (run_there (stages_in l ns rest) t ≡ went h last) × (h ≡ left_nodes ns g)
  unfolding run_stages pure
  rests off [] rest g t last there = (g, there, refl)
  rests off (node ∷ ns) rest g t last there =
      let z = rests off ns rest g t last there in (
        masked_run z.0,
        chosen_false (is_some_live too l l) (run (unrolled core) scope.in_lanes turns node lanes >>= (λ h. run_there (stages_in l ns rest) >>= (λ rs. pure (more_run h rs)))) (run_there (stages_in l ns rest) >>= (λ rs. pure (masked_run rs))) t (one_live too l ∙ off)
            ∙ bind_known (run_there (stages_in l ns rest)) (λ rs. pure (masked_run rs)) t last z.0 z.1,
        ap masked_run z.2,
      )
