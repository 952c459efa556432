-- The iterations of a group in the core, and the stages of their lanes: each iteration's own stages, and what the combinations of
-- elements leave.
use Rattle.std.proofs.Common.{◌≡◌, ℕ, zero, suc, ◌+◌, ◌<◌, ◌≤◌, Bool, true, false, ℤ, List, [], ◌∷◌, ◌++◌, length, map, Some, refl, sym, ◌∙◌, ap, subst, arith, ◌==◌}
use Rattle.std.specs.Prelude.{flat_map, IfSome}
use Rattle.sp_words.specs.declared.kind.Style.{Style}
use Rattle.sp_words.specs.declared.types.Ty.{Ty}
use Rattle.sp_tree.specs.declared.statement.Comb.{Comb}
use Rattle.sp_tree.specs.PlainProgram.{PlainMem}
use Rattle.sp_core.specs.Around.{Around, within, lanes_of, is_usable}
use Rattle.sp_core.specs.Declarations.{dram_number, is_stream, is_among}
use Rattle.sp_core.specs.Footprint.{ListNames}
use Rattle.sp_core.specs.History.{Entry, Runs}
use Rattle.sp_core.specs.Invariant.{owned_in, owned_in_stages, AreRight}
use Rattle.sp_core.specs.MemoryRules.{are_memories_right}
use Rattle.sp_core.specs.OperationRules.{are_operations_right}
use Rattle.sp_core.specs.Operators.{two_word}
use Rattle.sp_core.specs.PlainCore.{PlainOp, PlainCounter, PlainNode, PlainStages, inner, PlainCore}
use Rattle.sp_core.specs.Scope.{plainly, Scope}
use Rattle.sp_core.specs.Scope as scope
use Rattle.sp_core.specs.Sequential.{renew, end_of_group, run_stages}
use Rattle.sp_core.specs.Step.{Step, went, in_order}
use Rattle.sp_core.specs.Store.{Store}
use Rattle.sp_core.proofs.Closure.{run_stages_Q}
use Rattle.sp_fitting.specs.Fitting.{type_at, AreWords, StoreFits}
use Rattle.sp_fitting.specs.Laws.{ListsFit, NodesFit}
use Rattle.sp_sugar.specs.Combination.{operator_of, element_counters, element_ops}
use Rattle.sp_lanes.specs.Order.{memory_order}
use Rattle.sp_lanes.specs.Unrolled.{unrolled, owned_in_lanes, nodes_in, stages_by_lane, combination_of}
use Rattle.sp_lanes.specs.Within.{Within, in_lane}
use Rattle.sp_lane_cores.specs.LanedMarks.{NoneCombines}
use Rattle.sp_lane_groups.specs.Groups.{lanes_from, IsGroup}
use Rattle.sp_lane_groups.proofs.Apart.{own_own}
use Rattle.sp_lane_groups.specs.InnersAlong.{AgreeAt}
use Rattle.sp_lane_trees.specs.OutersStages.{AllGoAlong}
use Rattle.sp_lane_trees.specs.StagesLaws.{AreOfFirst}
use Rattle.sp_lane_trees.proofs.StagesLanes as lanes_group
use Rattle.sp_lane_trees.proofs.StagesLanes.{among_stages, less_of, next_of}
use Rattle.sp_lane_trees.proofs.StagesAlike.{own_same}
use Rattle.sp_lane_trees.proofs.StagesPassing.{left_alike, neither, Passed, rests}
use Rattle.sp_lane_trees.proofs.CombinationsFrames.{AgreeOn, KeptBut, Framed, FramedAt, bind_framed, pure_framed, framed_closed}
use Rattle.sp_lane_trees.specs.ElementsReduction.{LastElements}
use Rattle.sp_lane_groups.specs.InnersAlike.{own_stages, left_out, LanesAlike, all_lanes, with_one, without}
use Rattle.sp_lane_trees.specs.ReductionsReduction.{AreStill}
use Rattle.sp_lane_trees.proofs.ReductionsLanes.{renewed_framed, end_framed, all_in}
use Rattle.sp_lane_trees.proofs.ElementsChain as chain
use Rattle.sp_lane_trees.proofs.ElementsChain.{AsksElements}
use Rattle.sp_lane_trees.proofs.ElementsForms.{element}
use Rattle.sp_lane_trees.proofs.ElementsFronts as fronts_ran
use Rattle.sp_lane_trees.proofs.ElementsOwn.{none_combines, own_names, own_first, own_right}
use Rattle.sp_lane_trees.proofs.ElementsStores.{Element, Looped, Accumulated, loop_left, loop_other, more_left}
use Rattle.sp_lane_trees.proofs.ElementsTurns.{element_step, own_turn, OneTurn, Turns}
use Rattle.sp_lane_trees.proofs.ElementsWords.{front_words, lane_words, EachSized, FrontsFit, LanesFit}
use Rattle.sp_lane_trees.proofs.ElementsValues.{element_at, element_values, values_long, last_alone, places_apart}

module _ (core : PlainCore) (nodes : NodesFit core) (lists : ListsFit core) (memories : are_memories_right core ≡ true) (turns : ℕ) (around inside_lanes : Around) (w : Within) (counters : List PlainCounter) (style : Style) (owned : List ℕ) (no_stream : is_stream style ≡ false)
    (plain : ℕ → Scope) (lanes : Scope) (count : ℕ) (g : IsGroup core around inside_lanes w counters owned plain lanes count) (several : (lanes_of counters == 1) ≡ false)
    (not_dram : (r : ℕ) → is_among (dram_number core r) owned ≡ false) (stages : PlainStages) (earlier : List ℕ) (is : ℕ → Bool) (reduces : LastElements core owned is stages) (firsts : AreOfFirst stages) (right : AreRight core (within around counters owned) earlier stages)
    (go : (l : ℕ) → l < lanes_of counters → AllGoAlong core turns (within around counters owned) (in_lane (memory_order core) counters owned w l) (own_stages stages))
    (apart : (m l j : ℕ) → is_among m owned ≡ true → l < lanes_of counters → j < lanes_of counters
    → is_among ((in_lane (memory_order core) counters owned w j).number m) (flat_map owned_in (nodes_in (memory_order core) (in_lane (memory_order core) counters owned w l) (own_stages stages))) ≡ false)
    (live_at : ℕ → ℕ → Bool) (too : ℕ → Bool) (first_live : (l : ℕ) → l < count → live_at l 0 ≡ true) (live : (l : ℕ) → l < count → too l ≡ true) (masked : (l : ℕ) → count ≤ l → l < lanes_of counters → too l ≡ false)
    (mems : List PlainMem) (c : ℕ) (ds : List ℕ) (ops : List PlainOp) (at : ℕ) (node : PlainNode) (combines : combination_of stages ≡ Some node) (node_is : node ≡ inner (element_counters c ds) [] ops (Some at))
    (before : List PlainOp) (word acc begun : ℕ) (ty : Ty) (comb : Comb) (asks : AsksElements core owned before at word acc begun ds is) (list : ops ≡ before ++ element_ops mems at word c ds acc begun ty comb)
    (still : AreStill before) (own : ListNames core (λ m. is_among m owned) before) (ops_right : are_operations_right core (within (within around counters owned) (element_counters c ds) []) (before ++ element mems c ds ty comb at word acc begun) ≡ true) (tail : PlainStages) where
  abbrev place : Around
  place = within around counters owned

  abbrev lane_at : ℕ → Within
  lane_at l = in_lane (memory_order core) counters owned w l

  abbrev all_owned : List ℕ
  all_owned = owned_in_lanes (memory_order core) counters owned w

  abbrev mine : PlainStages
  mine = own_stages stages

  pub mine_none : NoneCombines core mine
  mine_none = none_combines core owned is stages reduces

  pub mine_first : AreOfFirst mine
  mine_first = own_first core owned is stages reduces firsts

  pub mine_right : AreRight core place earlier mine
  mine_right = own_right core owned is place stages earlier reduces right

  -- the stages of so many lanes from one on
  abbrev pub rest_of : (l more : ℕ) → PlainStages
  rest_of l more = stages_by_lane l (map (λ l. nodes_in (memory_order core) (lane_at l) mine) (lanes_from l more)) tail

  abbrev pub run_there : PlainStages → Step Runs
  run_there xs = run_stages (unrolled core) scope.in_lanes turns xs too lanes

  abbrev whole : List ℕ
  whole = all_owned ++ owned_in_stages (rest_of 0 (lanes_of counters))

  -- what lanes leave
  abbrev pub Left : Store → Store → Type 0
  Left t ended = (n : ℕ) → n < length (unrolled core).mems → ((m : ℕ) → is_usable core around m ≡ true → w.number m ≡ n → ⊥) → is_among n whole ≡ false → ended n ≡ t n

  pub none_left : (t : Store) → Left t t
  none_left t n lt outer free = refl

  pub both_left : (t u v : Store) → Left t u → Left u v → Left t v
  both_left t u v f g n lt outer free = g n lt outer free ∙ f n lt outer free

  abbrev pub Reached : (l : ℕ) → (s t : Store) → Type 0
  Reached l s t =
      lanes_group.Reached core nodes memories turns around inside_lanes w counters style owned no_stream plain lanes count g not_dram mine earlier mine_first mine_none mine_right go apart live_at too first_live live masked l s t

  abbrev After : (l : ℕ) → l < lanes_of counters → (t after : Store) → Runs → Type 0
  After l lt t after done = Passed core nodes memories turns place (lane_at l) (plain l) lanes (g.scopes l lt) l too mine t after done

  abbrev turn : ℕ → Step Runs
  turn l = own_turn core turns style owned no_stream stages is reduces firsts c ds ops at node combines node_is plain live_at count first_live l

  abbrev pub Many : (k l : ℕ) → (s after : Store) → (runs : List Runs) → Type 0
  Many k l s after n = Turns core turns style owned no_stream stages is reduces firsts c ds ops at node combines node_is plain live_at count first_live k l s after n

  abbrev One : (l : ℕ) → (s after : Store) → Type 0
  One l s after = OneTurn core turns style owned no_stream stages is reduces firsts c ds ops at node combines node_is plain live_at count first_live l s after

  turn_framed : (l : ℕ) → Framed is Runs (turn l)
  turn_framed l =
      bind_framed is (in_order (renew core plainly turns) owned) _ (renewed_framed core turns is owned asks.owns) (λ a. bind_framed is (run_stages core plainly turns mine (live_at l) (plain l)) _
      (run_stages_Q (Framed is) is (framed_closed is) core plainly turns mine (live_at l) (plain l) (own_names core owned is stages reduces))
      (λ runs. bind_framed is (end_of_group core plainly turns style owned) _ (end_framed core turns is style owned no_stream) (λ b. pure_framed is runs)))

  -- a store that holds what two others do fits where they do
  merged_fits : (s v u : Store) → StoreFits core s → StoreFits core v → AgreeOn is u v → KeptBut is s u → StoreFits core u
  merged_fits s v u f h on kept m = by (is m) refl
    where
      by : (b : Bool) → is m ≡ b → IfSome (u m) (AreWords (type_at core m))
      by true e = subst (λ c. IfSome c (AreWords (type_at core m))) (on m e) (h m)
      by false e = subst (λ c. IfSome c (AreWords (type_at core m))) (sym (kept m e)) (f m)

  -- with the counters of elements around
  abbrev inner_place : Around
  inner_place = within place (element_counters c ds) []

  abbrev pub es : List Element
  es = map (element_at ds) (element_values ds)

  abbrev pub joint : ℕ → ℕ → ℕ
  joint = two_word (operator_of comb) ty

  abbrev Fronts : (l : ℕ) → (first : Store) → List (List ℤ) → List (List Entry) → Type 0
  Fronts l first vs fronts = chain.FrontsRan core lists memories inner_place owned is mems c ds ty comb before at word acc begun asks still ops_right (plain l) first vs fronts

  not_is : (m : ℕ) → (is m ≡ true → ⊥) → is m ≡ false
  not_is m h = by (is m) refl
    where
      by : (b : Bool) → is m ≡ b → b ≡ false
      by true i = absurd (h i)
      by false i = refl

  acc_not : is acc ≡ false
  acc_not = not_is acc (λ i. (asks.other acc i).0 refl)

  flag_not : is begun ≡ false
  flag_not = not_is begun (λ i. (asks.other begun i).1 refl)

  -- the combinations of one iteration
  record Combined (l : ℕ) (s between after : Store) : Type 0 where
    fronts : List (List Entry)
    sized : length fronts ≡ length (element_values ds)
    fits : FrontsFit before fronts
    ran : Fronts l between (element_values ds) fronts
    looped : Looped core acc begun joint es (front_words word fronts) (s acc) (s begun) after
    others : (m : ℕ) → is m ≡ true → after m ≡ between m
    left : StoreFits core after

  combined : (l : ℕ) (s between after : Store) (ess : List (List Entry)) → StoreFits core between → KeptBut is s between → in_order (element_step core turns c ds ops (Some at) (plain l)) (element_values ds) between ≡ went ess after → Combined l s between after
  combined l s between after ess between_fits kept ran =
      let z = chain.elements_gone core lists memories inner_place owned is mems c ds ty comb before at word acc begun asks still ops_right (plain l) between ops list (element_values ds) (values_long ds) between after ess between_fits (λ m ne away. refl) ran in
      let x : Looped core acc begun joint es (front_words word z.fronts) (between acc) (between begun) after =
      loop_left core acc begun asks.sram asks.flag_both asks.apart joint es (front_words word z.fronts) between after (last_alone ds asks.counted) (places_apart core acc begun ds asks.counted asks.sized) z.loop in
      record {
        fronts = z.fronts;
        sized = z.long;
        fits = z.fit;
        ran = z.ran;
        looped = subst (λ d. Looped core acc begun joint es (front_words word z.fronts) (s acc) d after) (kept begun flag_not) (subst (λ e. Looped core acc begun joint es (front_words word z.fronts) e (between begun) after) (kept acc acc_not) x);
        others = λ m i. (let o = asks.other m i in loop_other core acc begun asks.sram asks.flag_both asks.apart joint es (front_words word z.fronts) between after z.loop m o.0 o.1);
        left = z.left;
      }

  abbrev pub FrontsRan : (t : Store) → (l : ℕ) → List (List ℤ) → List (List Entry) → Type 0
  FrontsRan t l vs fs = fronts_ran.FrontsRan core w counters owned plain c ds before t l vs fs

  abbrev pub Ran : (t : Store) → (l : ℕ) → List (List (List Entry)) → Type 0
  Ran t l lanes = fronts_ran.LanesRan core w counters owned plain c ds before t (element_values ds) l lanes

  fronts_held : (t : Store) (l : ℕ) (first : Store) → ((m : ℕ) → is_among m owned ≡ true → t ((lane_at l).number m) ≡ first m) → (vs : List (List ℤ)) (fs : List (List Entry)) → Fronts l first vs fs → FrontsRan t l vs fs
  fronts_held t l first has [] [] h = tt
  fronts_held t l first has [] (f ∷ fs) h = absurd h
  fronts_held t l first has (v ∷ vs) [] h = absurd h
  fronts_held t l first has (v ∷ vs) (f ∷ fs) h = (
    record {
      store = h.0.store;
      after = h.0.after;
      has = λ m i. has m i ∙ sym (let o = asks.other m (all_in core is owned asks.owns m i) in h.0.near m o.0 o.1);
      ran = h.0.ran;
      bits = h.0.bits;
    },
    fronts_held t l first has vs fs h.1,
  )

  -- so many iterations from one on, from a store of the core, one that no combination changes, and one of the lanes: their own stages
  -- from the last two, where the words that are combined stand after all lanes, and what the combinations leave
  pub record Reduced (more k l : ℕ) (s v t after : Store) (most : List Runs) : Type 0 where
    pub words : List (List (List Entry))
    pub long : length words ≡ more
    pub sized : EachSized (length (element_values ds)) words
    pub fit : LanesFit before words
    pub alone : Store
    pub ended : Store
    pub runs : (x : Runs) (last : Store) → run_there tail ended ≡ went x last → (h : Runs) × (run_there (rest_of l k) t ≡ went h last) × LanesAlike mine too x l k most h
    pub agrees : AgreeAt core around w alone ended
    pub on : AgreeOn is after alone
    pub kept : KeptBut is v alone
    pub left : Left t ended
    pub fits : StoreFits core after
    pub stays : (m j : ℕ) → is_among m owned ≡ true → j < l → j < lanes_of counters → ended ((lane_at j).number m) ≡ t ((lane_at j).number m)
    pub ran : Ran ended l words
    pub accumulated : Accumulated core acc begun joint es (s acc) (s begun) after (lane_words word words)

  -- lanes without an iteration
  dead_run : (more l : ℕ) → count ≤ l → l + more ≡ lanes_of counters → (t : Store) (x : Runs) (last : Store) → run_there tail t ≡ went x last → (h : Runs) × (run_there (rest_of l more) t ≡ went h last) × LanesAlike mine too x l more [] h
  dead_run zero l le e t x last there = (x, there, all_lanes)
  dead_run (suc more) l le e t x last there =
      let z = dead_run more (suc l) (omega (arith, le)) (omega (arith, e)) t x last there in
      let q = rests core nodes memories turns place (lane_at l) (plain l) lanes (g.scopes l (omega (arith, e))) l too (masked l le (omega (arith, e))) (nodes_in (memory_order core) (lane_at l) mine) (rest_of (suc l) more) z.0 t last z.1 in
      (q.0, q.1, subst (LanesAlike mine too x l (suc more) []) (sym (q.2 ∙ left_alike (memory_order core) (lane_at l) mine z.0 ∙ ap (λ xs. left_out xs z.0) (own_same core mine mine_none))) (without (masked l le (omega (arith, e))) z.2))

  -- where no iteration follows nothing does
  no_more : (k l : ℕ) (s after : Store) (n : List Runs) → Many k l s after n → (words : List (List (List Entry))) → length words ≡ k → lane_words word words ≡ [] → s ≡ after
  no_more zero l s after n h words long e = h.0
  no_more (suc k) l s after n h [] long e = absurd (omega (arith, long))
  no_more (suc k) l s after n h (fs ∷ words) long e = cc

  abbrev IsWithin : List ℕ → Type 0
  IsWithin xs = (n : ℕ) → is_among n whole ≡ false → is_among n xs ≡ false

  pub reduces_run : (more k l : ℕ) → l + more ≡ count → l + k ≡ lanes_of counters → IsWithin (owned_in_stages (rest_of l k)) → (s v t after : Store) (n : List Runs) → StoreFits core s → StoreFits core v → AgreeOn is s v → Reached l v t → Many more l s after n → Reduced more k l s v t after n
  reduces_run zero k l e f inside s v t after n fits fits_too agree h many = record {
    words = [];
    long = refl;
    sized = tt;
    fit = tt;
    alone = v;
    ended = t;
    runs = λ x last there. (let q = dead_run k l (omega (arith, e)) f t x last there in (q.0, q.1, subst (λ rs. LanesAlike mine too x l k rs q.0) (sym many.1) q.2));
    agrees = h.agrees;
    on = subst (λ (u : Store). AgreeOn is u v) many.0 agree;
    kept = λ m n. refl;
    left = none_left t;
    fits = subst (StoreFits core) many.0 fits;
    stays = λ m j i lt less. refl;
    ran = tt;
    accumulated = tt;
  }
  reduces_run (suc more) zero l e f inside s v t after n fits fits_too agree h many = absurd (let most = g.most in omega (arith, e, f, most))
  reduces_run (suc more) (suc k) l e f inside s v t after n fits fits_too agree h many =
      let below : l < lanes_of counters = omega (arith, f) in
      let lt : l < count = less_of l more count e in
      let one : One l s many.0 = many.1 in
      let frame : FramedAt is (turn l) s v one.between one.runs = turn_framed l s v one.between one.runs agree one.own in
      let y : After l below t frame.ended one.runs =
      lanes_group.one_turn core nodes memories turns around inside_lanes w counters style owned no_stream plain lanes count g not_dram mine earlier mine_first mine_none mine_right go apart live_at too first_live live masked l below lt v t frame.ended one.runs fits_too h frame.ran in
      let between_fits : StoreFits core one.between = merged_fits s frame.ended one.between fits y.fits frame.agree frame.kept in
      let z0 : Combined l s one.between many.0 = combined l s one.between many.0 one.entries between_fits frame.kept one.ran in
      let on : AgreeOn is many.0 frame.ended = λ m i. frame.agree m i ∙ sym (z0.others m i) in
      let split : (n : ℕ) → is_among n whole ≡ false → (is_among n (flat_map owned_in (nodes_in (memory_order core) (lane_at l) mine)) ≡ false) × (is_among n (owned_in_stages (rest_of (suc l) k)) ≡ false) =
      λ n free. among_stages n l (nodes_in (memory_order core) (lane_at l) mine) (rest_of (suc l) k) (inside n free) in
      let reached : Reached (suc l) frame.ended y.ended =
      lanes_group.next_reached core nodes memories turns around inside_lanes w counters style owned no_stream plain lanes count g not_dram mine earlier mine_first mine_none mine_right go apart live_at too first_live live masked l below v t frame.ended one.runs h y in
      let z : Reduced more k (suc l) many.0 frame.ended y.ended after many.2 =
      reduces_run more k (suc l) (next_of l more count e) (omega (arith, f)) (λ n free. (split n free).1) many.0 frame.ended y.ended after many.2 z0.left y.fits on reached many.4 in
      record {
        words = z0.fronts ∷ z.words;
        long = ap suc z.long;
        sized = (z0.sized, z.sized);
        fit = (z0.fits, z.fit);
        alone = z.alone;
        ended = z.ended;
        runs = λ x last there. (let q = z.runs x last there in let r = y.runs (rest_of (suc l) k) q.0 last q.1 in (r.0, r.1, subst (λ rs. LanesAlike mine too x l (suc k) rs r.0) (sym many.3) (with_one (live l lt) r.2 q.2)));
        agrees = z.agrees;
        on = z.on;
        kept = λ m n. z.kept m n ∙ frame.kept_too m n;
        left = both_left t y.ended z.ended
            (λ n low outer free. y.left n low
            (lanes_group.not_inside core nodes memories turns around inside_lanes w counters style owned no_stream plain lanes count g not_dram mine earlier mine_first mine_none mine_right go apart live_at too first_live live masked l n below outer
            (neither all_owned (owned_in_stages (rest_of 0 (lanes_of counters))) n free).0) (split n free).0) z.left;
        fits = z.fits;
        stays = λ m j i less low. z.stays m j i (omega (arith, less)) low
            ∙ y.left ((lane_at j).number m)
            (lanes_group.copy_low core nodes memories turns around inside_lanes w counters style owned no_stream plain lanes count g not_dram mine earlier mine_first mine_none mine_right go apart live_at too first_live live masked j m low i)
            (λ x u same. own_own core around inside_lanes w counters owned plain lanes count g m l j x i below low (λ a. earlier_lane l j less a) u same) (apart m l j i below low);
        ran = (
          fronts_held z.ended l one.between (λ m i. z.stays m l i (omega arith) below ∙ y.agrees.memories m (g.valid m i) ∙ frame.agree m (all_in core is owned asks.owns m i)) (element_values ds) z0.fronts z0.ran,
          z.ran,
        );
        accumulated = more_left core acc begun asks.sram asks.flag_both asks.apart joint es (front_words word z0.fronts) (s acc) (s begun) many.0 after (lane_words word z.words) z0.looped (λ e. no_more more (suc l) many.0 after many.2 many.4 z.words z.long e) z.accumulated;
      }
    where
      earlier_lane : (l j : ℕ) → j < l → l ≡ j → ⊥
      earlier_lane l j lt e = omega (arith, lt, e)
