-- A group of a loop whose last stage combines elements: the stages of its lanes, and the combination after all of them.
use Rattle.std.proofs.Common.{◌≡◌, ℕ, zero, suc, ◌+◌, ◌-◌, ◌<◌, ◌≤◌, Bool, true, false, ◌&&◌, ◌||◌, List, [], ◌++◌, length, Some, None, refl, sym, ◌∙◌, ap, subst, arith, inl, inr, ◌==◌, nat_lt, map}
use Rattle.std.proofs.lemmas.Bool.{and_parts, ltb-true, le-leb}
use Rattle.std.proofs.lemmas.Bool.Decides.{eqb_tells}
use Rattle.std.specs.Prelude.{flat_map}
use Rattle.sp_words.specs.Memory.{fresh_of}
use Rattle.sp_words.specs.declared.kind.Style.{Style}
use Rattle.sp_words.specs.declared.types.Ty.{Ty}
use Rattle.sp_tree.specs.declared.statement.Comb.{Comb}
use Rattle.sp_tree.specs.PlainProgram as tree
use Rattle.sp_core.specs.Around.{Around, within, lanes_of, is_port_kind, is_usable}
use Rattle.sp_core.specs.Declarations.{mem, dram_number, is_stream, is_among}
use Rattle.sp_core.specs.Footprint.{ListNames}
use Rattle.sp_core.specs.History.{Entry, Runs, inner_ran, no_run, masked_run, more_run}
use Rattle.sp_core.specs.Invariant.{owned_in, owned_in_stages, AreRight}
use Rattle.sp_core.specs.MemoryRules.{are_memories_right}
use Rattle.sp_core.specs.OperationRules.{are_operations_right}
use Rattle.sp_core.specs.PlainCore.{PlainOp, PlainCounter, PlainMem, PlainNode, PlainStages, inner, no_stage, more_stage, PlainCore}
use Rattle.sp_core.specs.Scope.{plainly, counts_of, is_some_up_to, is_some_live, Scope}
use Rattle.sp_core.specs.Scope as scope
use Rattle.sp_core.specs.Sequential.{renew, end_of_group, run, run_stages}
use Rattle.sp_core.specs.Step.{Step, went, pure, ◌>>=◌, ◌>>◌, in_order}
use Rattle.sp_core.specs.Store.{Store}
use Rattle.sp_fitting.specs.Fitting.{StoreFits}
use Rattle.sp_fitting.specs.Laws.{ListsFit, NodesFit, WordsFit}
use Rattle.sp_sugar.specs.Combination.{element_counters, element_ops}
use Rattle.sp_lanes.specs.Order.{memory_order}
use Rattle.sp_lanes.specs.Unrolled.{unrolled, owned_in_lanes, nodes_in, combination_of}
use Rattle.sp_lanes.specs.Within.{Within, in_lane}
use Rattle.sp_lane_cores.specs.LanedMarks.{NoneCombines}
use Rattle.sp_lane_rules.specs.CombinedStanding.{numbers_of, AreApart}
use Rattle.sp_lane_groups.specs.LiveStores.{ArePlain}
use Rattle.sp_lane_groups.specs.Groups.{lanes_from, IsGroup}
use Rattle.sp_lane_groups.proofs.Apart.{out_number, out_usable}
use Rattle.sp_lane_groups.proofs.Renewed.{bind_known}
use Rattle.sp_lane_groups.proofs.JoinedBalanced.{Laws}
use Rattle.sp_lane_groups.proofs.InnersBounds.{order_long}
use Rattle.sp_lane_groups.proofs.InnersFollows.{no_copy, Follows}
use Rattle.sp_lane_trees.specs.OutersStages.{AllGoAlong}
use Rattle.sp_lane_trees.proofs.OutersLone.{turn_of}
use Rattle.sp_lane_trees.proofs.OutersRenewing.{Made, make_all}
use Rattle.sp_lane_trees.specs.StagesLaws.{AreOfFirst}
use Rattle.sp_lane_trees.proofs.ElementsValues.{element_bounds, element_loops}
use Rattle.sp_lane_trees.proofs.LanesAlike.{gathered}
use Rattle.sp_lane_trees.proofs.StagesLanes as lanes_group
use Rattle.sp_lane_trees.proofs.StagesLanes.{lanes_long, nothing_ends}
use Rattle.sp_lane_trees.proofs.StagesPassing.{neither}
use Rattle.sp_lane_trees.specs.ElementsReduction.{LastElements}
use Rattle.sp_lane_groups.specs.InnersAlike.{own_stages, own_runs, GroupAlike, LanesAlike}
use Rattle.sp_lane_trees.specs.ReductionsReduction.{AreStill}
use Rattle.sp_lane_trees.proofs.ElementsChain.{AsksElements}
use Rattle.sp_lane_trees.proofs.ElementsForms.{element}
use Rattle.sp_lane_trees.proofs.ElementsLanes as lane_turns
use Rattle.sp_lane_trees.proofs.ElementsOwn.{none_combines, own_first, own_right}
use Rattle.sp_lane_trees.proofs.ElementsPlaced.{NoLanes}
use Rattle.sp_lane_trees.proofs.ElementsThere as there
use Rattle.sp_lane_trees.proofs.ElementsTurns.{elements_run, turns_of}

-- where the first lane has an iteration, some lane has
some_up_to : (live : ℕ → Bool) → live 0 ≡ true → (n : ℕ) → is_some_up_to live 0 n ≡ true
some_up_to live e zero = e
some_up_to live e (suc n) = ap (λ b. b || live (0 + suc n)) (some_up_to live e n)

some_live : (live : ℕ → Bool) → live 0 ≡ true → (n : ℕ) → is_some_live live 0 n ≡ true
some_live live e n = ap (λ b. b && is_some_up_to live 0 (n - 0)) (le-leb 0 n (omega arith)) ∙ some_up_to live e (n - 0)

chosen_true : {A : Type 0} (b : Bool) (one other : Step A) (s : Store) → b ≡ true → (elim b as (λ _. Step A) [ true ↦ one | false ↦ other ]) s ≡ one s
chosen_true {A = A} b one other s e = ap (λ c. (elim c as (λ _. Step A) [ true ↦ one | false ↦ other ]) s) e

module _ (core : PlainCore) (nodes : NodesFit core) (lists : ListsFit core) (fitting : WordsFit core) (laws : Laws) (memories : are_memories_right core ≡ true) (turns : ℕ) (around inside_lanes : Around) (w : Within) (counters : List PlainCounter) (style : Style) (owned : List ℕ) (no_stream : is_stream style ≡ false)
    (plain : ℕ → Scope) (lanes : Scope) (count : ℕ) (g : IsGroup core around inside_lanes w counters owned plain lanes count) (several : (lanes_of counters == 1) ≡ false)
    (not_dram : (r : ℕ) → is_among (dram_number core r) owned ≡ false) (stages : PlainStages) (earlier : List ℕ) (is : ℕ → Bool) (reduces : LastElements core owned is stages) (firsts : AreOfFirst stages) (right : AreRight core (within around counters owned) earlier stages)
    (go : (l : ℕ) → l < lanes_of counters → AllGoAlong core turns (within around counters owned) (in_lane (memory_order core) counters owned w l) (own_stages stages))
    (apart : (m l j : ℕ) → is_among m owned ≡ true → l < lanes_of counters → j < lanes_of counters
    → is_among ((in_lane (memory_order core) counters owned w j).number m) (flat_map owned_in (nodes_in (memory_order core) (in_lane (memory_order core) counters owned w l) (own_stages stages))) ≡ false)
    (live_at : ℕ → ℕ → Bool) (too : ℕ → Bool) (first_live : (l : ℕ) → l < count → live_at l 0 ≡ true) (live : (l : ℕ) → l < count → too l ≡ true) (masked : (l : ℕ) → count ≤ l → l < lanes_of counters → too l ≡ false)
    (mems : List tree.PlainMem) (c : ℕ) (ds : List ℕ) (ops : List PlainOp) (at : ℕ) (node : PlainNode) (combines : combination_of stages ≡ Some node) (node_is : node ≡ inner (element_counters c ds) [] ops (Some at))
    (before : List PlainOp) (word acc begun : ℕ) (ty : Ty) (comb : Comb) (asks : AsksElements core owned before at word acc begun ds is) (list : ops ≡ before ++ element_ops mems at word c ds acc begun ty comb)
    (plain_before : ArePlain before) (still : AreStill before) (own : ListNames core (λ m. is_among m owned) before) (ops_right : are_operations_right core (within (within around counters owned) (element_counters c ds) []) (before ++ element mems c ds ty comb at word acc begun) ≡ true)
    (acc_out : is_among acc owned ≡ false) (flag_out : is_among begun owned ≡ false) (apart_counters : AreApart (numbers_of counters) (element_counters c ds)) (zero_lanes : (l : ℕ) → NoLanes (in_lane (memory_order core) counters owned w l) c (length ds)) where
  abbrev place : Around
  place = within around counters owned

  abbrev all_owned : List ℕ
  all_owned = owned_in_lanes (memory_order core) counters owned w

  -- the combination in lanes
  abbrev pub last_node : PlainNode
  last_node = inner (element_counters c ds) [] (there.last_ops core fitting laws turns around inside_lanes w counters owned plain lanes count g several is mems c ds before at word acc begun ty comb asks plain_before still own ops_right acc_out flag_out apart_counters zero_lanes) None

  abbrev pub tail : PlainStages
  tail = more_stage 0 (lanes_of counters - 1) true last_node no_stage

  abbrev mine : PlainStages
  mine = own_stages stages

  -- the stages of all lanes, and the combination
  abbrev pub all_stages : PlainStages
  all_stages = lane_turns.rest_of core nodes lists memories turns around inside_lanes w counters style owned no_stream plain lanes count g several not_dram stages earlier is reduces firsts right go apart live_at too first_live live masked mems c ds ops at node combines node_is before word acc begun ty comb asks list still own ops_right tail 0 (lanes_of counters)

  abbrev pub Left : Store → Store → Type 0
  Left t ended = lane_turns.Left core nodes lists memories turns around inside_lanes w counters style owned no_stream plain lanes count g several not_dram stages earlier is reduces firsts right go apart live_at too first_live live masked mems c ds ops at node combines node_is before word acc begun ty comb asks list still own ops_right tail t ended

  pub none_left : (t : Store) → Left t t
  none_left = lane_turns.none_left core nodes lists memories turns around inside_lanes w counters style owned no_stream plain lanes count g several not_dram stages earlier is reduces firsts right go apart live_at too first_live live masked mems c ds ops at node combines node_is before word acc begun ty comb asks list still own ops_right tail

  pub both_left : (t u v : Store) → Left t u → Left u v → Left t v
  both_left = lane_turns.both_left core nodes lists memories turns around inside_lanes w counters style owned no_stream plain lanes count g several not_dram stages earlier is reduces firsts right go apart live_at too first_live live masked mems c ds ops at node combines node_is before word acc begun ty comb asks list still own ops_right tail

  abbrev Reduced : (more k l : ℕ) → (s v t after : Store) → (most : List Runs) → Type 0
  Reduced more k l s v t after n = lane_turns.Reduced core nodes lists memories turns around inside_lanes w counters style owned no_stream plain lanes count g several not_dram stages earlier is reduces firsts right go apart live_at too first_live live masked mems c ds ops at node combines node_is before word acc begun ty comb asks list still own ops_right tail more k l s v t after n

  abbrev run_there : PlainStages → Step Runs
  run_there xs = run_stages (unrolled core) scope.in_lanes turns xs too lanes

  -- what is known of the combination's memories
  acc_usable : is_usable core around acc ≡ true
  acc_usable = there.acc_usable core fitting laws turns around inside_lanes w counters owned plain lanes count g several is mems c ds before at word acc begun ty comb asks plain_before still own ops_right acc_out flag_out apart_counters zero_lanes

  flag_usable : is_usable core around begun ≡ true
  flag_usable = there.flag_usable core fitting laws turns around inside_lanes w counters owned plain lanes count g several is mems c ds before at word acc begun ty comb asks plain_before still own ops_right acc_out flag_out apart_counters zero_lanes

  copies_differ : (m k : ℕ) → is_usable core around m ≡ true → is_usable core around k ≡ true → (m ≡ k → ⊥) → w.number m ≡ w.number k → ⊥
  copies_differ = there.copies_differ core fitting laws turns around inside_lanes w counters owned plain lanes count g several is mems c ds before at word acc begun ty comb asks plain_before still own ops_right acc_out flag_out apart_counters zero_lanes

  not_is : (m : ℕ) → (is m ≡ true → ⊥) → is m ≡ false
  not_is m h = by (is m) refl
    where
      by : (b : Bool) → is m ≡ b → b ≡ false
      by true i = absurd (h i)
      by false i = refl

  -- a DRAM is no memory of the combination
  low : (m : ℕ) → is_usable core around m ≡ true → (r : ℕ) → dram_number core r ≡ m → ⊥
  low m u r e = past (length core.mems) r m (ltb-true m (length core.mems) (and_parts (nat_lt m (length core.mems)) (is_port_kind (mem core m).kind || is_among m around.owned) u).0) e
    where
      past : (n r m : ℕ) → m < n → n + r ≡ m → ⊥
      past n r m lt e = omega (arith, lt, e)

  zero_lane : 0 < lanes_of counters
  zero_lane = let some = g.some in let most = g.most in omega (arith, some, most)

  low_there : (m : ℕ) → is_usable core around m ≡ true → (r : ℕ) → dram_number (unrolled core) r ≡ w.number m → ⊥
  low_there m u r e =
      no_copy core place inside_lanes (in_lane (memory_order core) counters owned w 0) (g.together 0 zero_lane) m r (out_usable core around inside_lanes w counters owned plain lanes count g m u)
      (out_number core around inside_lanes w counters owned plain lanes count g 0 m (g.apart m u) ∙ sym e)

  pub mine_none : NoneCombines core mine
  mine_none = none_combines core owned is stages reduces

  pub mine_first : AreOfFirst mine
  mine_first = own_first core owned is stages reduces firsts

  pub mine_right : AreRight core place earlier mine
  mine_right = own_right core owned is place stages earlier reduces right

  -- the combination after all lanes
  module _ (s t after : Store) (n : List Runs) (fits : StoreFits core s) (x : Reduced count (lanes_of counters) 0 s s t after n) where
    acc_is : x.ended (w.number acc) ≡ s acc
    acc_is = x.agrees.memories acc acc_usable ∙ x.kept acc (not_is acc (λ i. (asks.other acc i).0 refl))

    flag_is : x.ended (w.number begun) ≡ s begun
    flag_is = x.agrees.memories begun flag_usable ∙ x.kept begun (not_is begun (λ i. (asks.other begun i).1 refl))

    abbrev AllMade : Type 0
    AllMade = there.AllCombined core fitting laws turns around inside_lanes w counters owned plain lanes count g several is mems c ds before at word acc begun ty comb asks plain_before still own ops_right acc_out flag_out apart_counters zero_lanes x.ended after

    made : AllMade
    made = there.all_combined core fitting laws turns around inside_lanes w counters owned plain lanes count g several is mems c ds before at word acc begun ty comb asks plain_before still own ops_right acc_out flag_out apart_counters zero_lanes x.ended s after fits acc_is flag_is x.words x.long x.sized x.fit x.ran x.accumulated

    at_memory : (m : ℕ) → is_usable core around m ≡ true → made.ended (w.number m) ≡ after m
    at_memory m u = elim (eqb_tells m acc) [
      | inl same ↦ subst (λ k. made.ended (w.number k) ≡ after k) (sym same.1) made.acc_same
      | inr ne ↦ elim (eqb_tells m begun) [
        | inl same ↦ subst (λ k. made.ended (w.number k) ≡ after k) (sym same.1) made.flag_same
        | inr away ↦ made.near (w.number m) (copies_differ m acc u acc_usable ne.1) (copies_differ m begun u flag_usable away.1) ∙ x.agrees.memories m u ∙ x.on m (asks.all m ne.1 away.1)
      ]
    ]

    at_dram : (r : ℕ) → made.ended (dram_number (unrolled core) r) ≡ after (dram_number core r)
    at_dram r =
        made.near (dram_number (unrolled core) r) (low_there acc acc_usable r) (low_there begun flag_usable r)
        ∙ x.agrees.drams r ∙ x.on (dram_number core r) (asks.all (dram_number core r) (low acc acc_usable r) (low begun flag_usable r))

    left_there : Left x.ended made.ended
    left_there n lt outer free = made.near n (λ i. outer acc acc_usable (sym i)) (λ i. outer begun flag_usable (sym i))

    -- its run
    record TailRan : Type 0 where
      runs : Runs
      ran : run_there tail x.ended ≡ went runs made.ended
      form : (groups : List (List Entry)) × (runs ≡ more_run (inner_ran (element_bounds ds) (counts_of (element_loops c ds)) groups) no_run)

    tail_ran : TailRan
    unfolding run_stages pure
    tail_ran =
        let h = elements_run (unrolled core) turns c ds (there.last_ops core fitting laws turns around inside_lanes w counters owned plain lanes count g several is mems c ds before at word acc begun ty comb asks plain_before still own ops_right acc_out flag_out apart_counters zero_lanes) None lanes x.ended made.ended made.answers made.ran in
        record {
          runs = more_run h.0 no_run;
          ran = chosen_true (is_some_live too 0 (lanes_of counters - 1)) (run (unrolled core) scope.in_lanes turns last_node lanes >>= (λ h. run_there no_stage >>= (λ rs. pure (more_run h rs)))) (run_there no_stage >>= (λ rs. pure (masked_run rs))) x.ended
              (some_live too (live 0 g.some) (lanes_of counters - 1))
              ∙ bind_known (run (unrolled core) scope.in_lanes turns last_node lanes) (λ h. run_there no_stage >>= (λ rs. pure (more_run h rs))) x.ended made.ended h.0 h.1
              ∙ bind_known (run_there no_stage) (λ rs. pure (more_run h.0 rs)) made.ended made.ended no_run refl;
          form = (made.answers, ap (λ x. more_run x no_run) h.2);
        }

  pub group_follows : Follows core around w Left none_left both_left (GroupAlike counters stages too) (in_order (λ l. turn_of core plainly turns style owned stages (live_at l) (plain l)) (lanes_from 0 count)) (turn_of (unrolled core) scope.in_lanes turns style all_owned all_stages too lanes)
  unfolding pure
  group_follows s t after gs fits agree ran =
      let made0 : Made (unrolled core) scope.in_lanes turns all_owned t = make_all (unrolled core) scope.in_lanes turns all_owned t in
      let reached : lane_turns.Reached core nodes lists memories turns around inside_lanes w counters style owned no_stream plain lanes count g several not_dram stages earlier is reduces firsts right go apart live_at too first_live live masked mems c ds ops at node combines node_is before word acc begun ty comb asks list still own ops_right tail 0 s made0.after = record {
        agrees = record {
          memories = λ m u. made0.outside (w.number m) (lanes_group.own_not core nodes memories turns around inside_lanes w counters style owned no_stream plain lanes count g not_dram mine earlier mine_first mine_none mine_right go apart live_at too first_live live masked m u) ∙ agree.memories m u;
          drams = λ r. made0.outside (dram_number (unrolled core) r) (lanes_group.own_dram core nodes memories turns around inside_lanes w counters style owned no_stream plain lanes count g not_dram mine earlier mine_first mine_none mine_right go apart live_at too first_live live masked r) ∙ agree.drams r;
        };
        own = λ m j i le less. made0.inside ((in_lane (memory_order core) counters owned w j).number m) (lanes_group.own_in core nodes memories turns around inside_lanes w counters style owned no_stream plain lanes count g not_dram mine earlier mine_first mine_none mine_right go apart live_at too first_live live masked j m less i) ∙ ap (λ (x : PlainMem). Some (fresh_of x.kind x.dims x.start [])) ((g.together j less).memories m (g.valid m i)).1;
      } in
      let many = turns_of core turns style owned no_stream stages is reduces firsts c ds ops at node combines node_is plain live_at count first_live count 0 (omega arith) s after gs ran in
      let n : List Runs = map (own_runs stages) gs in
      let x : Reduced count (lanes_of counters) 0 s s made0.after after n =
      lane_turns.reduces_run core nodes lists memories turns around inside_lanes w counters style owned no_stream plain lanes count g several not_dram stages earlier is reduces firsts right go apart live_at too first_live live masked mems c ds ops at node combines node_is before word acc begun ty comb asks list still own ops_right tail count (lanes_of counters) 0 (omega arith) (omega arith) (λ n free. (neither all_owned (owned_in_stages all_stages) n free).1) s s made0.after after n fits fits (λ m i. refl) reached many.0 in
      let z = tail_ran s made0.after after n fits x in
      let done : Store = (made s made0.after after n fits x).ended in
      let q = x.runs z.runs done z.ran in
      record {
        answer = q.0;
        ended = done;
        ran =
            bind_known (in_order (renew (unrolled core) scope.in_lanes turns) all_owned) (λ _. run_there all_stages >>= (λ runs. end_of_group (unrolled core) scope.in_lanes turns style all_owned >> pure runs)) t made0.after made0.answers made0.ran
            ∙ bind_known (run_there all_stages) (λ runs. end_of_group (unrolled core) scope.in_lanes turns style all_owned >> pure runs) made0.after done q.0 q.1
            ∙ bind_known (end_of_group (unrolled core) scope.in_lanes turns style all_owned) (λ _. pure q.0) done done [] (nothing_ends (unrolled core) scope.in_lanes turns style all_owned done no_stream);
        agree = record { memories = at_memory s made0.after after n fits x; drams = at_dram s made0.after after n fits x };
        left = both_left t made0.after done (λ n low outer free. made0.outside n (neither all_owned (owned_in_stages all_stages) n free).0) (both_left made0.after x.ended done x.left (left_there s made0.after after n fits x));
        fits = x.fits;
        related = gathered counters stages several too gs q.0
            (let long = order_long (λ l. turn_of core plainly turns style owned stages (live_at l) (plain l)) (lanes_from 0 count) s after gs ran in let some = g.some in omega (arith, long, some, lanes_long 0 count))
            (element_counters c ds) [] ops (Some at) (element_bounds ds) (counts_of (element_loops c ds)) z.form.0 many.1
            (subst (λ xs. LanesAlike (own_stages stages) too xs 0 (lanes_of counters) n q.0) z.form.1 q.2);
      }
