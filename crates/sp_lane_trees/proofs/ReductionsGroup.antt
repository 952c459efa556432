-- A group of a loop whose last stage combines a word: the stages of its lanes, and the combination after all of them.
use Rattle.std.proofs.Common.{◌≡◌, ℕ, zero, suc, ◌+◌, ◌-◌, ◌<◌, ◌≤◌, Bool, true, false, ◌&&◌, ◌||◌, List, [], ◌∷◌, ◌++◌, length, Option, Some, None, refl, sym, ◌∙◌, ap, subst, arith, inl, inr, ◌==◌, nat_lt, map}
use Rattle.std.proofs.lemmas.Bool.{and_parts, ltb-true, le-leb}
use Rattle.std.proofs.lemmas.Bool.Decides.{eqb_tells}
use Rattle.std.specs.Prelude.{flat_map, option_map}
use Rattle.sp_words.specs.Memory.{fresh_of}
use Rattle.sp_words.specs.declared.kind.Style.{Style}
use Rattle.sp_words.specs.declared.types.Ty.{Ty}
use Rattle.sp_tree.specs.declared.statement.Comb.{Comb}
use Rattle.sp_core.specs.Around.{Around, within, lanes_of, is_port_kind, is_usable}
use Rattle.sp_core.specs.Declarations.{mem, dram_number, is_stream, is_among}
use Rattle.sp_core.specs.Footprint.{ListNames}
use Rattle.sp_core.specs.History.{Entry, Runs, inner_ran, no_run, masked_run, more_run, word_at}
use Rattle.sp_core.specs.Invariant.{owned_in, owned_in_stages, AreRight}
use Rattle.sp_core.specs.MemoryRules.{are_memories_right}
use Rattle.sp_core.specs.OperationRules.{are_operations_right}
use Rattle.sp_core.specs.Operations.{operations}
use Rattle.sp_core.specs.Operators.{two_word}
use Rattle.sp_core.specs.PlainCore.{PlainOp, PlainCounter, PlainMem, PlainNode, PlainStages, inner, no_stage, more_stage, PlainCore}
use Rattle.sp_core.specs.Scope.{plainly, is_some_up_to, is_some_live, Scope}
use Rattle.sp_core.specs.Scope as scope
use Rattle.sp_core.specs.Sequential.{renew, end_of_group, run, run_stages}
use Rattle.sp_core.specs.Step.{Step, went, pure, ◌>>=◌, ◌>>◌, in_order}
use Rattle.sp_core.specs.Store.{Store}
use Rattle.sp_fitting.specs.Fitting.{StoreFits}
use Rattle.sp_fitting.specs.Laws.{ListsFit, NodesFit, WordsFit}
use Rattle.sp_sugar.specs.Combination.{operator_of}
use Rattle.sp_lanes.specs.Bodies.{Body, lane_bodies, all_ops}
use Rattle.sp_lanes.specs.Combined.{combined}
use Rattle.sp_lanes.specs.Joined.{is_balanced}
use Rattle.sp_lanes.specs.Order.{memory_order}
use Rattle.sp_lanes.specs.Unrolled.{unrolled, last_number, owned_in_lanes, ops_in_lanes, nodes_in, combination_of}
use Rattle.sp_lanes.specs.Within.{Within, in_lane}
use Rattle.sp_lane_cores.specs.LanedMarks.{NoneCombines}
use Rattle.sp_lane_groups.specs.LiveStores.{ArePlain}
use Rattle.sp_lane_groups.specs.Groups.{lanes_from, IsGroup}
use Rattle.sp_lane_groups.proofs.Apart.{out_number, out_usable}
use Rattle.sp_lane_groups.proofs.Renewed.{bind_known}
use Rattle.sp_lane_groups.proofs.RunsWhole.{runs_append, run_long}
use Rattle.sp_lane_groups.specs.WordsStanding.{LanesStand}
use Rattle.sp_lane_groups.specs.JoinedWords.{in_turn, words_of, EachHasWord}
use Rattle.sp_lane_groups.proofs.JoinedBalanced.{Laws}
use Rattle.sp_lane_groups.proofs.InnersBounds.{order_long}
use Rattle.sp_lane_groups.proofs.InnersFollows.{no_copy, Follows}
use Rattle.sp_lane_trees.specs.OutersStages.{AllGoAlong}
use Rattle.sp_lane_trees.proofs.OutersLone.{turn_of}
use Rattle.sp_lane_trees.proofs.OutersRenewing.{Made, make_all}
use Rattle.sp_lane_trees.specs.StagesLaws.{AreOfFirst}
use Rattle.sp_lane_trees.proofs.StagesLanes as lanes_group
use Rattle.sp_lane_trees.proofs.StagesLanes.{lanes_long, nothing_ends}
use Rattle.sp_lane_trees.proofs.StagesPassing.{neither}
use Rattle.sp_lane_trees.proofs.CombinationsChain.{Asks, Accumulated}
use Rattle.sp_lane_trees.proofs.CombinationsCombining.{after_word, combining, Holds, combined_in}
use Rattle.sp_lane_trees.proofs.CombinationsCopies.{holds_alike, put_alike, left_acc, left_flag, left_other}
use Rattle.sp_lane_trees.proofs.CombinationsGroup as combined_group
use Rattle.sp_lane_trees.proofs.CombinationsGroup.{have_words}
use Rattle.sp_lane_trees.proofs.CombinationsRegisters.{put_in}
use Rattle.sp_lane_trees.proofs.CombinationsRights.{plain_front}
use Rattle.sp_lane_groups.specs.InnersAlike.{own_stages, own_runs, GroupAlike, LanesAlike}
use Rattle.sp_lane_trees.specs.ReductionsReduction.{AreStill, LastReduces}
use Rattle.sp_lane_trees.proofs.LanesAlike.{gathered}
use Rattle.sp_lane_trees.proofs.ReductionsFronts.{fronts_stand}
use Rattle.sp_lane_trees.proofs.ReductionsLanes as lane_turns
use Rattle.sp_lane_trees.proofs.ReductionsOwn.{named_before, none_combines, own_first, own_right}
use Rattle.sp_lane_trees.proofs.ReductionsTurns.{turns_of, alone_runs}

-- where the first lane has an iteration, some lane has
some_up_to : (live : ℕ → Bool) → live 0 ≡ true → (n : ℕ) → is_some_up_to live 0 n ≡ true
some_up_to live e zero = e
some_up_to live e (suc n) = ap (λ b. b || live (0 + suc n)) (some_up_to live e n)

some_live : (live : ℕ → Bool) → live 0 ≡ true → (n : ℕ) → is_some_live live 0 n ≡ true
some_live live e n = ap (λ b. b && is_some_up_to live 0 (n - 0)) (le-leb 0 n (omega arith)) ∙ some_up_to live e (n - 0)

chosen_true : {A : Type 0} (b : Bool) (one other : Step A) (s : Store) → b ≡ true → (elim b as (λ _. Step A) [ true ↦ one | false ↦ other ]) s ≡ one s
chosen_true {A = A} b one other s e = ap (λ c. (elim c as (λ _. Step A) [ true ↦ one | false ↦ other ]) s) e

module _ (core : PlainCore) (nodes : NodesFit core) (lists : ListsFit core) (fitting : WordsFit core) (laws : Laws) (memories : are_memories_right core ≡ true) (turns : ℕ) (around inside_lanes : Around) (w : Within) (counters : List PlainCounter) (style : Style) (owned : List ℕ) (no_stream : is_stream style ≡ false)
    (plain : ℕ → Scope) (lanes : Scope) (count : ℕ) (g : IsGroup core around inside_lanes w counters owned plain lanes count) (several : (lanes_of counters == 1) ≡ false)
    (not_dram : (r : ℕ) → is_among (dram_number core r) owned ≡ false) (stages : PlainStages) (earlier : List ℕ) (is : ℕ → Bool) (reduces : LastReduces core owned is stages) (firsts : AreOfFirst stages) (right : AreRight core (within around counters owned) earlier stages)
    (go : (l : ℕ) → l < lanes_of counters → AllGoAlong core turns (within around counters owned) (in_lane (memory_order core) counters owned w l) (own_stages stages))
    (apart : (m l j : ℕ) → is_among m owned ≡ true → l < lanes_of counters → j < lanes_of counters
    → is_among ((in_lane (memory_order core) counters owned w j).number m) (flat_map owned_in (nodes_in (memory_order core) (in_lane (memory_order core) counters owned w l) (own_stages stages))) ≡ false)
    (live_at : ℕ → ℕ → Bool) (too : ℕ → Bool) (first_live : (l : ℕ) → l < count → live_at l 0 ≡ true) (live : (l : ℕ) → l < count → too l ≡ true) (masked : (l : ℕ) → count ≤ l → l < lanes_of counters → too l ≡ false)
    (ops : List PlainOp) (at : ℕ) (node : PlainNode) (combines : combination_of stages ≡ Some node) (node_is : node ≡ inner [] [] ops (Some at))
    (before : List PlainOp) (begun : Option ℕ) (word acc : ℕ) (ty : Ty) (comb : Comb) (asks : Asks core plain owned before begun at word acc ty comb is) (list : ops ≡ before ++ combining begun at word acc ty comb)
    (p : ArePlain (before ++ combining begun at word acc ty comb)) (still : AreStill before) (own : ListNames core (named_before core around owned is reduces.0) before) (ops_right : are_operations_right core (within around counters owned) (before ++ combining begun at word acc ty comb) ≡ true)
    (acc_out : is_among acc owned ≡ false) (flag_out : (b : ℕ) → begun ≡ Some b → is_among b owned ≡ false) where
  abbrev place : Around
  place = within around counters owned

  abbrev all_owned : List ℕ
  all_owned = owned_in_lanes (memory_order core) counters owned w

  abbrev all : List PlainOp
  all = before ++ combining begun at word acc ty comb

  -- the combination in lanes
  abbrev last_ops : List PlainOp
  last_ops = ops_in_lanes (memory_order core) w counters owned all (Some at)

  abbrev last_node : PlainNode
  last_node = inner [] [] last_ops None

  abbrev pub tail : PlainStages
  tail = more_stage 0 (lanes_of counters - 1) true last_node no_stage

  pub front_plain : ArePlain before
  front_plain = plain_front before (combining begun at word acc ty comb) p

  abbrev mine : PlainStages
  mine = own_stages stages

  -- the stages of all lanes, and the combination
  abbrev pub all_stages : PlainStages
  all_stages = lane_turns.rest_of core nodes lists memories turns around inside_lanes w counters style owned no_stream plain lanes count g several not_dram stages earlier is reduces firsts right go apart live_at too first_live live masked ops at node combines node_is before begun word acc ty comb asks list front_plain still own ops_right tail 0 (lanes_of counters)

  abbrev pub Left : Store → Store → Type 0
  Left t ended = lane_turns.Left core nodes lists memories turns around inside_lanes w counters style owned no_stream plain lanes count g several not_dram stages earlier is reduces firsts right go apart live_at too first_live live masked ops at node combines node_is before begun word acc ty comb asks list front_plain still own ops_right tail t ended

  pub none_left : (t : Store) → Left t t
  none_left = lane_turns.none_left core nodes lists memories turns around inside_lanes w counters style owned no_stream plain lanes count g several not_dram stages earlier is reduces firsts right go apart live_at too first_live live masked ops at node combines node_is before begun word acc ty comb asks list front_plain still own ops_right tail

  pub both_left : (t u v : Store) → Left t u → Left u v → Left t v
  both_left = lane_turns.both_left core nodes lists memories turns around inside_lanes w counters style owned no_stream plain lanes count g several not_dram stages earlier is reduces firsts right go apart live_at too first_live live masked ops at node combines node_is before begun word acc ty comb asks list front_plain still own ops_right tail

  abbrev Reduced : (more k l : ℕ) → (s v t after : Store) → (most : List Runs) → Type 0
  Reduced more k l s v t after n = lane_turns.Reduced core nodes lists memories turns around inside_lanes w counters style owned no_stream plain lanes count g several not_dram stages earlier is reduces firsts right go apart live_at too first_live live masked ops at node combines node_is before begun word acc ty comb asks list front_plain still own ops_right tail more k l s v t after n

  abbrev run_there : PlainStages → Step Runs
  run_there xs = run_stages (unrolled core) scope.in_lanes turns xs too lanes

  -- what is known of the combination's memories
  acc_usable : is_usable core around acc ≡ true
  acc_usable = combined_group.acc_usable core lists fitting laws memories around inside_lanes w counters owned plain lanes count g several before begun at word acc ty comb is asks p ops_right acc_out flag_out

  flag_usable : (b : ℕ) → begun ≡ Some b → is_usable core around b ≡ true
  flag_usable = combined_group.flag_usable core lists fitting laws memories around inside_lanes w counters owned plain lanes count g several before begun at word acc ty comb is asks p ops_right acc_out flag_out

  copies_differ : (m k : ℕ) → is_usable core around m ≡ true → is_usable core around k ≡ true → (m ≡ k → ⊥) → w.number m ≡ w.number k → ⊥
  copies_differ = combined_group.copies_differ core lists fitting laws memories around inside_lanes w counters owned plain lanes count g several before begun at word acc ty comb is asks p ops_right acc_out flag_out

  abbrev begun_there : Option ℕ
  begun_there = option_map w.number begun

  abbrev bodies : List Body
  bodies = lane_bodies (last_number counters) (in_lane (memory_order core) counters owned w) before owned (lanes_of counters)

  not_is : (m : ℕ) → (is m ≡ true → ⊥) → is m ≡ false
  not_is m h = by (is m) refl
    where
      by : (b : Bool) → is m ≡ b → b ≡ false
      by true i = absurd (h i)
      by false i = refl

  -- a DRAM is no memory of the combination
  low : (m : ℕ) → is_usable core around m ≡ true → (r : ℕ) → dram_number core r ≡ m → ⊥
  low m u r e = past (length core.mems) r m (ltb-true m (length core.mems) (and_parts (nat_lt m (length core.mems)) (is_port_kind (mem core m).kind || is_among m around.owned) u).0) e
    where
      past : (n r m : ℕ) → m < n → n + r ≡ m → ⊥
      past n r m lt e = omega (arith, lt, e)

  zero_lane : 0 < lanes_of counters
  zero_lane = let some = g.some in let most = g.most in omega (arith, some, most)

  low_there : (m : ℕ) → is_usable core around m ≡ true → (r : ℕ) → dram_number (unrolled core) r ≡ w.number m → ⊥
  low_there m u r e =
      no_copy core place inside_lanes (in_lane (memory_order core) counters owned w 0) (g.together 0 zero_lane) m r (out_usable core around inside_lanes w counters owned plain lanes count g m u)
      (out_number core around inside_lanes w counters owned plain lanes count g 0 m (g.apart m u) ∙ sym e)

  pub mine_none : NoneCombines core mine
  mine_none = none_combines core owned is reduces.0 stages reduces.1

  pub mine_first : AreOfFirst mine
  mine_first = own_first core owned is reduces.0 stages reduces.1 firsts

  pub mine_right : AreRight core place earlier mine
  mine_right = own_right core owned is reduces.0 place stages earlier reduces.1 right

  abbrev op : ℕ → ℕ → ℕ
  op = two_word (operator_of comb) ty

  some_words : (k : ℕ) → 1 ≤ k → (words : List (List Entry)) → length words ≡ k → (v : List Entry) × (vs : List (List Entry)) × (v ∷ vs ≡ words)
  some_words k some [] long = absurd (omega (arith, some, long))
  some_words k some (v ∷ vs) long = (v, vs, refl)

  -- where stores agree after the lanes, they do after the combination
  module _ (s t after : Store) (n : List Runs) (x : Reduced count (lanes_of counters) 0 s s t after n) (value : ℕ) where
    abbrev ended : Store
    ended = combined_in (unrolled core) begun_there (w.number acc) value x.ended

    acc_there : x.ended (w.number acc) ≡ s acc
    acc_there = x.agrees.memories acc acc_usable ∙ x.kept acc (not_is acc (λ i. (asks.other acc i).0 refl))

    flag_there : (b : ℕ) → begun ≡ Some b → x.ended (w.number b) ≡ s b
    flag_there b e = x.agrees.memories b (flag_usable b e) ∙ x.kept b (not_is b (λ i. (asks.other b i).1 b e refl))

    far_flag : (b : ℕ) → begun ≡ Some b → w.number acc ≡ w.number b → ⊥
    far_flag b e = copies_differ acc b acc_usable (flag_usable b e) (asks.apart b e)

    at_others : (m : ℕ) → is_usable core around m ≡ true → (m ≡ acc → ⊥) → ((b : ℕ) → begun ≡ Some b → m ≡ b → ⊥) → ended (w.number m) ≡ after m
    at_others m u ne far =
        left_other core (unrolled core) w.number begun acc value x.ended (w.number m) (copies_differ m acc u acc_usable ne) (λ b e. copies_differ m b u (flag_usable b e) (far b e))
        ∙ x.agrees.memories m u ∙ x.on m (asks.all m ne far)

    at_memory : (after acc ≡ Some (put_in core acc value (s acc))) × ((b : ℕ) → begun ≡ Some b → after b ≡ Some (put_in core b 1 (s b))) → (m : ℕ) → is_usable core around m ≡ true → ended (w.number m) ≡ after m
    at_memory left m u = elim (eqb_tells m acc) [
      | inl same ↦ subst (λ k. ended (w.number k) ≡ after k) (sym same.1)
          (left_acc core (unrolled core) w.number begun acc value x.ended far_flag ∙ ap (λ c. Some (put_in (unrolled core) (w.number acc) value c)) acc_there
          ∙ ap Some (put_alike core (unrolled core) acc (w.number acc) (combined_group.acc_alike core lists fitting laws memories around inside_lanes w counters owned plain lanes count g several before begun at word acc ty comb is asks p ops_right acc_out flag_out) value (s acc)) ∙ sym left.0)
      | inr apart ↦ by begun refl apart.1
    ]
      where
        at_flag : (b : ℕ) → begun ≡ Some b → ended (w.number b) ≡ after b
        at_flag b e =
            left_flag core (unrolled core) w.number begun acc value x.ended far_flag b e ∙ ap (λ c. Some (put_in (unrolled core) (w.number b) 1 c)) (flag_there b e)
            ∙ ap Some (put_alike core (unrolled core) b (w.number b) (combined_group.flag_alike core lists fitting laws memories around inside_lanes w counters owned plain lanes count g several before begun at word acc ty comb is asks p ops_right acc_out flag_out b e) 1 (s b)) ∙ sym (left.1 b e)

        by : (o : Option ℕ) → begun ≡ o → (m ≡ acc → ⊥) → ended (w.number m) ≡ after m
        by None e ne = at_others m u ne (λ b f. absurd (nothing b (sym e ∙ f)))
          where
            nothing : (b : ℕ) → ◌≡◌ {A = Option ℕ} None (Some b) → ⊥
            nothing b i = cc
        by (Some y) e ne = elim (eqb_tells m y) [
          | inl same ↦ subst (λ k. ended (w.number k) ≡ after k) (sym same.1) (at_flag y e)
          | inr apart ↦ at_others m u ne (λ b f i. apart.1 (i ∙ only b (sym f ∙ e)))
        ]
          where
            only : (b : ℕ) → Some b ≡ Some y → b ≡ y
            only b i = cc

    at_dram : (r : ℕ) → ended (dram_number (unrolled core) r) ≡ after (dram_number core r)
    at_dram r =
        left_other core (unrolled core) w.number begun acc value x.ended (dram_number (unrolled core) r) (low_there acc acc_usable r) (λ b e. low_there b (flag_usable b e) r)
        ∙ x.agrees.drams r ∙ x.on (dram_number core r) (asks.all (dram_number core r) (low acc acc_usable r) (λ b e. low b (flag_usable b e) r))

    left_there : Left x.ended ended
    left_there n lt outer free = left_other core (unrolled core) w.number begun acc value x.ended n (λ i. outer acc acc_usable (sym i)) (λ b e i. outer b (flag_usable b e) (sym i))

  -- the combination after all lanes
  record Combines (s t after : Store) (n : List Runs) (x : Reduced count (lanes_of counters) 0 s s t after n) : Type 0 where
    value : ℕ
    written : (after acc ≡ Some (put_in core acc value (s acc))) × ((b : ℕ) → begun ≡ Some b → after b ≡ Some (put_in core b 1 (s b)))
    runs : Runs
    ran : run_there tail x.ended ≡ went runs (combined_in (unrolled core) begun_there (w.number acc) value x.ended)
    form : (groups : List (List Entry)) × (runs ≡ more_run (inner_ran [] [] groups) no_run)

  combines_there : (s t after : Store) (n : List Runs) → StoreFits core s → (x : Reduced count (lanes_of counters) 0 s s t after n) → Combines s t after n x
  unfolding run_stages pure
  combines_there s t after n fits x =
      let v = some_words count g.some x.words x.long in
      let parts = combined_group.parts core lists fitting laws memories around inside_lanes w counters owned plain lanes count g several before begun at word acc ty comb is asks p ops_right acc_out flag_out in
      let f = fronts_stand core around inside_lanes w counters owned plain lanes count g several (named_before core around owned is reduces.0) before front_plain (lane_turns.front_right core nodes lists memories turns around inside_lanes w counters style owned no_stream plain lanes count g several not_dram stages earlier is reduces firsts right go apart live_at too first_live live masked ops at node combines node_is before begun word acc ty comb asks list front_plain still own ops_right tail) still own x.ended x.words x.long x.ran in
      let left : Accumulated core plain owned before begun at word acc ty comb is asks s after (words_of word (v.0 ∷ v.1)) = subst (λ ws. Accumulated core plain owned before begun at word acc ty comb is asks s after (words_of word ws)) (sym v.2) x.accumulated in
      let has : EachHasWord ty word (v.0 ∷ v.1) = subst (EachHasWord ty word) (sym v.2) (have_words before word ty (let lt = asks.earlier in let same = asks.place in omega (arith, lt, same)) parts.1.given x.words x.fit) in
      let stand : LanesStand (lanes (last_number counters)).live f.0 0 bodies (v.0 ∷ v.1) = subst (LanesStand (lanes (last_number counters)).live f.0 0 bodies) (sym v.2) f.2 in
      let holds : Holds (unrolled core) begun_there (w.number acc) x.ended left.0 =
      holds_alike core (unrolled core) w.number begun acc (combined_group.acc_alike core lists fitting laws memories around inside_lanes w counters owned plain lanes count g several before begun at word acc ty comb is asks p ops_right acc_out flag_out) (combined_group.flag_alike core lists fitting laws memories around inside_lanes w counters owned plain lanes count g several before begun at word acc ty comb is asks p ops_right acc_out flag_out) s x.ended (acc_there s t after n x 0) (flag_there s t after n x 0) left.0 left.1 in
      let long : length f.0 ≡ length (all_ops bodies) = (let n = run_long (unrolled core) lanes (all_ops bodies) [] x.ended f.0 x.ended f.1 in omega (arith, n)) in
      let value : ℕ = in_turn op (after_word op left.0 (word_at v.0 word)) (words_of word v.1) in
      let last = combined_group.combine core lists fitting laws memories around inside_lanes w counters owned plain lanes count g several before begun at word acc ty comb is asks p ops_right acc_out flag_out s fits f.0 x.ended v.0 v.1 stand has long left.0 left.1 holds (is_balanced (operator_of comb) ty) refl in
      let done : Store = combined_in (unrolled core) begun_there (w.number acc) value x.ended in
      let ran : operations (unrolled core) lanes last_ops x.ended ≡ went last.0 done =
      ap (λ xs. operations (unrolled core) lanes xs x.ended) (combined_group.lane_ops_are core lists fitting laws memories around inside_lanes w counters owned plain lanes count g several before begun at word acc ty comb is asks p ops_right acc_out flag_out)
      ∙ runs_append (unrolled core) lanes (all_ops bodies) (combined (last_number counters) at bodies (combining begun_there at word (w.number acc) ty comb)) [] f.0 x.ended x.ended f.1
      ∙ last.1 in
      let h = alone_runs (unrolled core) scope.in_lanes turns last_ops None lanes x.ended done last.0 ran in
      record {
        value = value;
        written = left.2;
        runs = more_run h.0 no_run;
        form = (last.0 ∷ [], ap (λ x. more_run x no_run) h.2);
        ran = chosen_true (is_some_live too 0 (lanes_of counters - 1)) (run (unrolled core) scope.in_lanes turns last_node lanes >>= (λ h. run_there no_stage >>= (λ rs. pure (more_run h rs)))) (run_there no_stage >>= (λ rs. pure (masked_run rs))) x.ended
            (some_live too (live 0 g.some) (lanes_of counters - 1))
            ∙ bind_known (run (unrolled core) scope.in_lanes turns last_node lanes) (λ h. run_there no_stage >>= (λ rs. pure (more_run h rs))) x.ended done h.0 h.1
            ∙ bind_known (run_there no_stage) (λ rs. pure (more_run h.0 rs)) done done no_run refl;
      }

  pub group_follows : Follows core around w Left none_left both_left (GroupAlike counters stages too) (in_order (λ l. turn_of core plainly turns style owned stages (live_at l) (plain l)) (lanes_from 0 count)) (turn_of (unrolled core) scope.in_lanes turns style all_owned all_stages too lanes)
  unfolding pure
  group_follows s t after gs fits agree ran =
      let made : Made (unrolled core) scope.in_lanes turns all_owned t = make_all (unrolled core) scope.in_lanes turns all_owned t in
      let reached : lane_turns.Reached core nodes lists memories turns around inside_lanes w counters style owned no_stream plain lanes count g several not_dram stages earlier is reduces firsts right go apart live_at too first_live live masked ops at node combines node_is before begun word acc ty comb asks list front_plain still own ops_right tail 0 s made.after = record {
        agrees = record {
          memories = λ m u. made.outside (w.number m) (lanes_group.own_not core nodes memories turns around inside_lanes w counters style owned no_stream plain lanes count g not_dram mine earlier mine_first mine_none mine_right go apart live_at too first_live live masked m u) ∙ agree.memories m u;
          drams = λ r. made.outside (dram_number (unrolled core) r) (lanes_group.own_dram core nodes memories turns around inside_lanes w counters style owned no_stream plain lanes count g not_dram mine earlier mine_first mine_none mine_right go apart live_at too first_live live masked r) ∙ agree.drams r;
        };
        own = λ m j i le less. made.inside ((in_lane (memory_order core) counters owned w j).number m) (lanes_group.own_in core nodes memories turns around inside_lanes w counters style owned no_stream plain lanes count g not_dram mine earlier mine_first mine_none mine_right go apart live_at too first_live live masked j m less i) ∙ ap (λ (x : PlainMem). Some (fresh_of x.kind x.dims x.start [])) ((g.together j less).memories m (g.valid m i)).1;
      } in
      let many = turns_of core turns style owned no_stream stages is reduces firsts ops at node combines node_is plain live_at count first_live count 0 (omega arith) s after gs ran in
      let x : Reduced count (lanes_of counters) 0 s s made.after after (map (own_runs stages) gs) =
      lane_turns.reduces_run core nodes lists memories turns around inside_lanes w counters style owned no_stream plain lanes count g several not_dram stages earlier is reduces firsts right go apart live_at too first_live live masked ops at node combines node_is before begun word acc ty comb asks list front_plain still own ops_right tail count (lanes_of counters) 0 (omega arith) (omega arith) (λ n free. (neither all_owned (owned_in_stages all_stages) n free).1) s s made.after after (map (own_runs stages) gs) fits fits (λ m i. refl) reached many.0 in
      let c : Combines s made.after after (map (own_runs stages) gs) x = combines_there s made.after after (map (own_runs stages) gs) fits x in
      let done : Store = combined_in (unrolled core) begun_there (w.number acc) c.value x.ended in
      let q = x.runs c.runs done c.ran in
      record {
        answer = q.0;
        ended = done;
        ran =
            bind_known (in_order (renew (unrolled core) scope.in_lanes turns) all_owned) (λ _. run_there all_stages >>= (λ runs. end_of_group (unrolled core) scope.in_lanes turns style all_owned >> pure runs)) t made.after made.answers made.ran
            ∙ bind_known (run_there all_stages) (λ runs. end_of_group (unrolled core) scope.in_lanes turns style all_owned >> pure runs) made.after done q.0 q.1
            ∙ bind_known (end_of_group (unrolled core) scope.in_lanes turns style all_owned) (λ _. pure q.0) done done [] (nothing_ends (unrolled core) scope.in_lanes turns style all_owned done no_stream);
        agree = record { memories = at_memory s made.after after (map (own_runs stages) gs) x c.value c.written; drams = at_dram s made.after after (map (own_runs stages) gs) x c.value };
        left = both_left t made.after done (λ n low outer free. made.outside n (neither all_owned (owned_in_stages all_stages) n free).0) (both_left made.after x.ended done x.left (left_there s made.after after (map (own_runs stages) gs) x c.value));
        fits = x.fits;
        related = gathered counters stages several too gs q.0 (let long = order_long (λ l. turn_of core plainly turns style owned stages (live_at l) (plain l)) (lanes_from 0 count) s after gs ran in let some = g.some in omega (arith, long, some, lanes_long 0 count)) [] [] ops (Some at) [] [] c.form.0 many.1
            (subst (λ xs. LanesAlike (own_stages stages) too xs 0 (lanes_of counters) (map (own_runs stages) gs) q.0) c.form.1 q.2);
      }
