-- The iterations of a group in the core, and the stages of their lanes: each iteration's own stages, and what the combinations leave.
use Rattle.std.proofs.Common.{◌≡◌, ℕ, zero, suc, ◌+◌, ◌<◌, ◌≤◌, Bool, true, false, not, ◌||◌, ◌&&◌, List, [], ◌∷◌, ◌++◌, length, map, Option, Some, None, refl, sym, ◌∙◌, ap, subst, arith, ◌==◌}
use Rattle.std.proofs.lemmas.Bool.{true≢false, eqb-true, eq-eqb, and_parts, ltb-true}
use Rattle.std.specs.Prelude.{flat_map, IfSome, nat_lt}
use Rattle.sp_words.specs.declared.kind.Style.{Style}
use Rattle.sp_words.specs.declared.kind.Style.TheVariants.{Pipe, Sequential, Parallel, Stream}
use Rattle.sp_words.specs.declared.types.Ty.{Ty}
use Rattle.sp_tree.specs.declared.statement.Comb.{Comb}
use Rattle.sp_core.specs.Around.{Around, within, lanes_of, is_port_kind, is_usable}
use Rattle.sp_core.specs.Declarations.{mem, dram_number, fresh, is_stream, is_among}
use Rattle.sp_core.specs.Footprint.{AllPass, ListNames}
use Rattle.sp_core.specs.History.{Entry, Runs, word_at}
use Rattle.sp_core.specs.Invariant.{owned_in, owned_in_stages, AreRight}
use Rattle.sp_core.specs.MemoryRules.{are_memories_right}
use Rattle.sp_core.specs.OperationRules.{are_operations_right}
use Rattle.sp_core.specs.Operations.{operations}
use Rattle.sp_core.specs.PlainCore.{PlainOp, PlainCounter, PlainNode, PlainStages, inner, PlainCore}
use Rattle.sp_core.specs.Scope.{plainly, Scope}
use Rattle.sp_core.specs.Scope as scope
use Rattle.sp_core.specs.Sequential.{renew, end_of_group, run_stages}
use Rattle.sp_core.specs.Step.{Step, went, pure, ◌>>=◌, ◌>>◌, in_order}
use Rattle.sp_core.specs.Store.{Store}
use Rattle.sp_core.proofs.Closure.{run_stages_Q}
use Rattle.sp_fitting.specs.Fitting.{type_at, AreWords, StoreFits, EntriesFit, MasksAreBits}
use Rattle.sp_fitting.specs.Laws.{ListFits, ListsFit, NodesFit}
use Rattle.sp_lanes.specs.Order.{memory_order}
use Rattle.sp_lanes.specs.Unrolled.{unrolled, owned_in_lanes, nodes_in, stages_by_lane, combination_of}
use Rattle.sp_lanes.specs.Within.{Within, in_lane}
use Rattle.sp_lane_cores.specs.LanedMarks.{NoneCombines}
use Rattle.sp_lane_groups.specs.LiveStores.{ArePlain}
use Rattle.sp_lane_groups.specs.Groups.{lanes_from, IsGroup}
use Rattle.sp_lane_groups.proofs.Apart.{own_own, out_number}
use Rattle.sp_lane_groups.proofs.Renewed.{bind_split}
use Rattle.sp_lane_groups.proofs.RunsWhole.{run_long}
use Rattle.sp_lane_groups.specs.JoinedWords.{words_of}
use Rattle.sp_lane_groups.specs.InnersAlong.{AgreeAt}
use Rattle.sp_lane_trees.specs.OutersStages.{AllGoAlong}
use Rattle.sp_lane_trees.specs.StagesLaws.{AreOfFirst}
use Rattle.sp_lane_trees.proofs.StagesLanes as lanes_group
use Rattle.sp_lane_trees.proofs.StagesLanes.{among_stages, less_of, next_of}
use Rattle.sp_lane_trees.proofs.StagesAlike.{own_same}
use Rattle.sp_lane_trees.proofs.StagesPassing.{left_alike, neither, Passed, rests}
use Rattle.sp_lane_trees.proofs.CombinationsChain.{Asks, Accumulated, Written, joint, runs_parts, left_other, left_acc, left_flag, acc_not, flag_not, holds_same, more_left}
use Rattle.sp_lane_trees.proofs.CombinationsCombining.{after_word, combining, Holds, combined_in, IsBegun, was_combined}
use Rattle.sp_lane_trees.proofs.CombinationsFrames.{AgreeOn, KeptBut, Framed, FramedAt, bind_framed, pure_framed, change_framed, framed_closed}
use Rattle.sp_lane_trees.proofs.CombinationsRegisters.{put_in}
use Rattle.sp_lane_trees.proofs.CombinationsRights.{masks_back, right_parts}
use Rattle.sp_lane_groups.specs.InnersAlike.{own_stages, left_out, LanesAlike, all_lanes, with_one, without}
use Rattle.sp_lane_trees.specs.ReductionsReduction.{AreStill, LastReduces}
use Rattle.sp_lane_trees.proofs.ReductionsFronts.{still_run, AllRan}
use Rattle.sp_lane_trees.proofs.ReductionsKept.{Keeps, of_bind, of_pure, all_renewed_keep, end_of_group_keeps, run_stages_keep}
use Rattle.sp_lane_trees.proofs.ReductionsOwn.{named_before, none_combines, own_names, own_change, own_first, own_right}
use Rattle.sp_lane_trees.proofs.ReductionsTurns.{own_turn, OneTurn, Turns}

-- steps of a group look at and change only what they name or own
module _ (core : PlainCore) (turns : ℕ) (is : ℕ → Bool) where
  pub renewed_framed : (owned : List ℕ) → AllPass core is owned → Framed is (List (Unit {0})) (in_order (renew core plainly turns) owned)
  unfolding in_order
  renewed_framed [] h = pure_framed is []
  renewed_framed (m ∷ owned) h =
      bind_framed is (renew core plainly turns m) _ (change_framed is m (λ c. fresh core m) h.0) (λ a. bind_framed is (in_order (renew core plainly turns) owned) _ (renewed_framed owned h.1) (λ others. pure_framed is (a ∷ others)))

  pub end_framed : (style : Style) (owned : List ℕ) → is_stream style ≡ false → Framed is (List (Unit {0})) (end_of_group core plainly turns style owned)
  end_framed Pipe owned e = pure_framed is []
  end_framed Sequential owned e = pure_framed is []
  end_framed Parallel owned e = pure_framed is []
  end_framed Stream owned e = absurd (true≢false e)

-- what is owned is among it
all_among : (core : PlainCore) (owned xs : List ℕ) → ((m : ℕ) → is_among m xs ≡ true → is_among m owned ≡ true) → AllPass core (λ m. is_among m owned) xs
all_among core owned [] h = tt
all_among core owned (x ∷ xs) h = (h x (ap (λ b. b || is_among x xs) (eq-eqb x x refl)), all_among core owned xs (λ m i. h m (later (m == x) (is_among m xs) i)))
  where
    later : (a b : Bool) → b ≡ true → (a || b) ≡ true
    later true b e = refl
    later false b e = e

pub all_in : (core : PlainCore) (is : ℕ → Bool) (owned : List ℕ) → AllPass core is owned → (m : ℕ) → is_among m owned ≡ true → is m ≡ true
all_in core is [] h m i = absurd (true≢false (sym i))
all_in core is (x ∷ owned) h m i = by (m == x) refl (λ j. all_in core is owned h.1 m j) i
  where
    by : (b : Bool) → (m == x) ≡ b → (is_among m owned ≡ true → is m ≡ true) → (b || is_among m owned) ≡ true → is m ≡ true
    by true e rest j = ap is (eqb-true m x e) ∙ h.0
    by false e rest j = rest j

module _ (core : PlainCore) (nodes : NodesFit core) (lists : ListsFit core) (memories : are_memories_right core ≡ true) (turns : ℕ) (around inside_lanes : Around) (w : Within) (counters : List PlainCounter) (style : Style) (owned : List ℕ) (no_stream : is_stream style ≡ false)
    (plain : ℕ → Scope) (lanes : Scope) (count : ℕ) (g : IsGroup core around inside_lanes w counters owned plain lanes count) (several : (lanes_of counters == 1) ≡ false)
    (not_dram : (r : ℕ) → is_among (dram_number core r) owned ≡ false) (stages : PlainStages) (earlier : List ℕ) (is : ℕ → Bool) (reduces : LastReduces core owned is stages) (firsts : AreOfFirst stages) (right : AreRight core (within around counters owned) earlier stages)
    (go : (l : ℕ) → l < lanes_of counters → AllGoAlong core turns (within around counters owned) (in_lane (memory_order core) counters owned w l) (own_stages stages))
    (apart : (m l j : ℕ) → is_among m owned ≡ true → l < lanes_of counters → j < lanes_of counters
    → is_among ((in_lane (memory_order core) counters owned w j).number m) (flat_map owned_in (nodes_in (memory_order core) (in_lane (memory_order core) counters owned w l) (own_stages stages))) ≡ false)
    (live_at : ℕ → ℕ → Bool) (too : ℕ → Bool) (first_live : (l : ℕ) → l < count → live_at l 0 ≡ true) (live : (l : ℕ) → l < count → too l ≡ true) (masked : (l : ℕ) → count ≤ l → l < lanes_of counters → too l ≡ false)
    (ops : List PlainOp) (at : ℕ) (node : PlainNode) (combines : combination_of stages ≡ Some node) (node_is : node ≡ inner [] [] ops (Some at))
    (before : List PlainOp) (begun : Option ℕ) (word acc : ℕ) (ty : Ty) (comb : Comb) (asks : Asks core plain owned before begun at word acc ty comb is) (list : ops ≡ before ++ combining begun at word acc ty comb)
    (p : ArePlain before) (still : AreStill before) (own : ListNames core (named_before core around owned is reduces.0) before) (ops_right : are_operations_right core (within around counters owned) (before ++ combining begun at word acc ty comb) ≡ true) (tail : PlainStages) where
  abbrev place : Around
  place = within around counters owned

  abbrev lane_at : ℕ → Within
  lane_at l = in_lane (memory_order core) counters owned w l

  abbrev all_owned : List ℕ
  all_owned = owned_in_lanes (memory_order core) counters owned w

  abbrev mine : PlainStages
  mine = own_stages stages

  abbrev all_ops : List PlainOp
  all_ops = before ++ combining begun at word acc ty comb

  pub front_right : are_operations_right core place before ≡ true
  front_right = (right_parts core place [] before (combining begun at word acc ty comb) ops_right).0

  pub mine_none : NoneCombines core mine
  mine_none = none_combines core owned is reduces.0 stages reduces.1

  pub mine_first : AreOfFirst mine
  mine_first = own_first core owned is reduces.0 stages reduces.1 firsts

  pub mine_right : AreRight core place earlier mine
  mine_right = own_right core owned is reduces.0 place stages earlier reduces.1 right

  -- the stages of so many lanes from one on
  abbrev pub rest_of : (l more : ℕ) → PlainStages
  rest_of l more = stages_by_lane l (map (λ l. nodes_in (memory_order core) (lane_at l) mine) (lanes_from l more)) tail

  abbrev pub run_there : PlainStages → Step Runs
  run_there xs = run_stages (unrolled core) scope.in_lanes turns xs too lanes

  abbrev whole : List ℕ
  whole = all_owned ++ owned_in_stages (rest_of 0 (lanes_of counters))

  -- what lanes leave
  abbrev pub Left : Store → Store → Type 0
  Left t ended = (n : ℕ) → n < length (unrolled core).mems → ((m : ℕ) → is_usable core around m ≡ true → w.number m ≡ n → ⊥) → is_among n whole ≡ false → ended n ≡ t n

  pub none_left : (t : Store) → Left t t
  none_left t n lt outer free = refl

  pub both_left : (t u v : Store) → Left t u → Left u v → Left t v
  both_left t u v f g n lt outer free = g n lt outer free ∙ f n lt outer free

  abbrev pub Reached : (l : ℕ) → (s t : Store) → Type 0
  Reached l s t =
      lanes_group.Reached core nodes memories turns around inside_lanes w counters style owned no_stream plain lanes count g not_dram mine earlier mine_first mine_none mine_right go apart live_at too first_live live masked l s t

  abbrev After : (l : ℕ) → l < lanes_of counters → (t after : Store) → Runs → Type 0
  After l lt t after done = Passed core nodes memories turns place (lane_at l) (plain l) lanes (g.scopes l lt) l too mine t after done

  abbrev turn : ℕ → Step Runs
  turn l = own_turn core turns style owned no_stream stages is reduces firsts ops at node combines node_is plain live_at count first_live l

  abbrev pub Many : (k l : ℕ) → (s after : Store) → (runs : List Runs) → Type 0
  Many k l s after n = Turns core turns style owned no_stream stages is reduces firsts ops at node combines node_is plain live_at count first_live k l s after n

  abbrev One : (l : ℕ) → (s after : Store) → Type 0
  One l s after = OneTurn core turns style owned no_stream stages is reduces firsts ops at node combines node_is plain live_at count first_live l s after

  turn_framed : (l : ℕ) → Framed is Runs (turn l)
  turn_framed l =
      bind_framed is (in_order (renew core plainly turns) owned) _ (renewed_framed core turns is owned asks.owns) (λ a. bind_framed is (run_stages core plainly turns mine (live_at l) (plain l)) _
      (run_stages_Q (Framed is) is (framed_closed is) core plainly turns mine (live_at l) (plain l) (own_names core owned is reduces.0 stages reduces.1))
      (λ runs. bind_framed is (end_of_group core plainly turns style owned) _ (end_framed core turns is style owned no_stream) (λ b. pure_framed is runs)))

  -- a turn leaves what is kept
  turn_keeps : (l : ℕ) (s after : Store) (r : Runs) → turn l s ≡ went r after → (m : ℕ) → reduces.0 m ≡ true → is_usable core around m ≡ true → after m ≡ s m
  turn_keeps l s after r ran m kept u =
      let there : m < length core.mems = ltb-true m (length core.mems) (and_parts (nat_lt m (length core.mems)) (is_port_kind (mem core m).kind || is_among m around.owned) u).0 in
      let first = bind_split (in_order (renew core plainly turns) owned) (λ _. run_stages core plainly turns mine (live_at l) (plain l) >>= (λ runs. end_of_group core plainly turns style owned >> pure runs)) s after r ran in
      let second = bind_split (run_stages core plainly turns mine (live_at l) (plain l)) (λ runs. end_of_group core plainly turns style owned >> pure runs) first.1 after r first.3 in
      let renewed : Keeps core (λ k. is_among k owned) (List (Unit {0})) (in_order (renew core plainly turns) owned) = all_renewed_keep core (λ k. is_among k owned) plainly turns owned (all_among core owned owned (λ k i. i)) in
      let ran_on : Keeps core (λ k. not (reduces.0 k)) Runs (run_stages core plainly turns mine (live_at l) (plain l)) = run_stages_keep core (λ k. not (reduces.0 k)) plainly turns mine (live_at l) (plain l) (own_change core owned is reduces.0 stages reduces.1) in
      let none : Keeps core (λ k. false) Runs (end_of_group core plainly turns style owned >> pure second.0) =
      of_bind core (λ k. false) (end_of_group core plainly turns style owned) (λ _. pure second.0) (end_of_group_keeps core (λ k. false) plainly turns style owned) (λ _. of_pure core (λ k. false) second.0) in
      none.kept second.1 after r second.3 m there refl ∙ ran_on.kept first.1 second.1 second.0 second.2 m there (ap not kept) ∙ renewed.kept s first.1 first.0 first.2 m there (g.apart m u)

  -- what is named before a combination is owned, or it is kept
  named_by : {X : Type 0} (m : ℕ) → named_before core around owned is reduces.0 m ≡ true → (is_among m owned ≡ true → X) → (reduces.0 m ≡ true → is m ≡ true → is_usable core around m ≡ true → X) → X
  named_by {X = X} m h one other = by (is_among m owned) refl h
    where
      by : (b : Bool) → is_among m owned ≡ b → (b || (reduces.0 m && (is m && is_usable core around m))) ≡ true → X
      by true i h = one i
      by false i h =
          let a = and_parts (reduces.0 m) (is m && is_usable core around m) h in
          let b = and_parts (is m) (is_usable core around m) a.1 in
          other a.0 b.0 b.1

  -- a store that holds what two others do fits where they do
  merged_fits : (s v u : Store) → StoreFits core s → StoreFits core v → AgreeOn is u v → KeptBut is s u → StoreFits core u
  merged_fits s v u f h on kept m = by (is m) refl
    where
      by : (b : Bool) → is m ≡ b → IfSome (u m) (AreWords (type_at core m))
      by true e = subst (λ c. IfSome c (AreWords (type_at core m))) (on m e) (h m)
      by false e = subst (λ c. IfSome c (AreWords (type_at core m))) (sym (kept m e)) (f m)

  -- the operations of a combination in one iteration
  record Combined (l : ℕ) (s between after : Store) : Type 0 where
    front : List Entry
    mid : Store
    ran : operations core (plain l) before between ≡ went front mid
    fits : EntriesFit before front
    bits : MasksAreBits before front
    held : Option ℕ
    holds : Holds core begun acc s held
    written : Written core plain owned before begun at word acc ty comb (after_word (joint core plain owned before begun at word acc ty comb) held (word_at front word)) s after
    others : (m : ℕ) → is m ≡ true → after m ≡ between m
    left : StoreFits core after

  combined : (l : ℕ) (s between after : Store) (es : List Entry) → StoreFits core between → KeptBut is s between → operations core (plain l) ops between ≡ went es after → Combined l s between after
  combined l s between after es between_fits kept ops_ran =
      let ran : operations core (plain l) all_ops between ≡ went es after = subst (λ xs. operations core (plain l) xs between ≡ went es after) list ops_ran in
      let fit : ListFits core all_ops between es after = lists place (plain l) all_ops between after es memories ops_right between_fits ran in
      let q = runs_parts core (plain l) before (combining begun at word acc ty comb) [] between es after ran in
      let front_fit : ListFits core before between q.0 q.1 = lists place (plain l) before between q.1 q.0 memories front_right between_fits q.2 in
      let same : q.1 ≡ between = still_run core (plain l) before [] between q.0 q.1 still q.2 in
      let long : length q.0 ≡ at = run_long core (plain l) before [] between q.0 q.1 q.2 ∙ sized (length before) at asks.place in
      let c = was_combined core (plain l) ty comb at word acc q.0 (sym long) asks.earlier begun q.1 after es (flag q.0 (sym long) begun (masks_back before (combining begun at word acc ty comb) es fit.masks)) q.3 in
      let value : ℕ = after_word (joint core plain owned before begun at word acc ty comb) c.0 (word_at q.0 word) in
      let is_left : combined_in core begun acc value between ≡ after = ap (λ (u : Store). combined_in core begun acc value u) (sym same) ∙ c.2 in
      let acc_kept : between acc ≡ s acc = kept acc (acc_not core plain owned before begun at word acc ty comb is asks) in
      let flags_kept : (b : ℕ) → begun ≡ Some b → between b ≡ s b = λ b e. kept b (flag_not core plain owned before begun at word acc ty comb is asks b e) in
      record {
        front = q.0;
        mid = q.1;
        ran = q.2;
        fits = front_fit.entries;
        bits = front_fit.masks;
        held = c.0;
        holds = holds_same core plain owned before begun at word acc ty comb is asks begun s between c.0 acc_kept flags_kept (subst (λ (u : Store). Holds core begun acc u c.0) same c.1);
        written = (
          ap (λ (u : Store). u acc) (sym is_left) ∙ left_acc core plain owned before begun at word acc ty comb is asks begun value between asks.apart ∙ ap (λ c. Some (put_in core acc value c)) acc_kept,
          λ b e. ap (λ (u : Store). u b) (sym is_left) ∙ left_flag core plain owned before begun at word acc ty comb is asks begun value between asks.apart b e ∙ ap (λ c. Some (put_in core b 1 c)) (flags_kept b e),
        );
        others = λ m i. ap (λ (u : Store). u m) (sym is_left) ∙ left_other core plain owned before begun at word acc ty comb is asks begun value between m (asks.other m i).0 (asks.other m i).1;
        left = fit.left;
      }
    where
      sized : (n at : ℕ) → at ≡ n → 0 + n ≡ at
      sized n at e = omega (arith, e)

      flag : (front : List Entry) (same : at ≡ length front) (o : Option ℕ) → MasksAreBits (combining o at word acc ty comb) es → IsBegun core (plain l) ty comb at word acc front same asks.earlier o es
      flag front same None k = tt
      flag front same (Some b) k = k.1.0 at refl

  abbrev pub Ran : (t : Store) → (l : ℕ) → List (List Entry) → Type 0
  Ran t l words = AllRan core around inside_lanes w counters owned plain lanes count g several (named_before core around owned is reduces.0) before p front_right still own t l words

  abbrev pub EachFit : List (List Entry) → Type 0
  EachFit [] = Unit {0}
  EachFit (es ∷ words) = EntriesFit before es × EachFit words

  -- so many iterations from one on, from a store of the core, one that no combination changes, and one of the lanes: their own stages
  -- from the last two, where the words that are combined stand after all lanes, and what the combinations leave
  pub record Reduced (more k l : ℕ) (s v t after : Store) (most : List Runs) : Type 0 where
    pub words : List (List Entry)
    pub long : length words ≡ more
    pub fit : EachFit words
    pub alone : Store
    pub ended : Store
    pub runs : (x : Runs) (last : Store) → run_there tail ended ≡ went x last → (h : Runs) × (run_there (rest_of l k) t ≡ went h last) × LanesAlike mine too x l k most h
    pub agrees : AgreeAt core around w alone ended
    pub on : AgreeOn is after alone
    pub kept : KeptBut is v alone
    pub same : (m : ℕ) → reduces.0 m ≡ true → is_usable core around m ≡ true → alone m ≡ v m
    pub left : Left t ended
    pub fits : StoreFits core after
    pub stays : (m j : ℕ) → is_among m owned ≡ true → j < l → j < lanes_of counters → ended ((lane_at j).number m) ≡ t ((lane_at j).number m)
    pub ran : Ran ended l words
    pub accumulated : Accumulated core plain owned before begun at word acc ty comb is asks s after (words_of word words)

  -- lanes without an iteration
  dead_run : (more l : ℕ) → count ≤ l → l + more ≡ lanes_of counters → (t : Store) (x : Runs) (last : Store) → run_there tail t ≡ went x last → (h : Runs) × (run_there (rest_of l more) t ≡ went h last) × LanesAlike mine too x l more [] h
  dead_run zero l le e t x last there = (x, there, all_lanes)
  dead_run (suc more) l le e t x last there =
      let z = dead_run more (suc l) (omega (arith, le)) (omega (arith, e)) t x last there in
      let q = rests core nodes memories turns place (lane_at l) (plain l) lanes (g.scopes l (omega (arith, e))) l too (masked l le (omega (arith, e))) (nodes_in (memory_order core) (lane_at l) mine) (rest_of (suc l) more) z.0 t last z.1 in
      (q.0, q.1, subst (LanesAlike mine too x l (suc more) []) (sym (q.2 ∙ left_alike (memory_order core) (lane_at l) mine z.0 ∙ ap (λ xs. left_out xs z.0) (own_same core mine mine_none))) (without (masked l le (omega (arith, e))) z.2))

  -- where no iteration follows nothing does
  no_more : (k l : ℕ) (s after : Store) (n : List Runs) → Many k l s after n → (words : List (List Entry)) → length words ≡ k → words_of word words ≡ [] → s ≡ after
  no_more zero l s after n h words long e = h.0
  no_more (suc k) l s after n h [] long e = absurd (omega (arith, long))
  no_more (suc k) l s after n h (es ∷ words) long e = cc

  abbrev IsWithin : List ℕ → Type 0
  IsWithin xs = (n : ℕ) → is_among n whole ≡ false → is_among n xs ≡ false

  pub reduces_run : (more k l : ℕ) → l + more ≡ count → l + k ≡ lanes_of counters → IsWithin (owned_in_stages (rest_of l k)) → (s v t after : Store) (n : List Runs) → StoreFits core s → StoreFits core v → AgreeOn is s v → Reached l v t → Many more l s after n → Reduced more k l s v t after n
  reduces_run zero k l e f inside s v t after n fits fits_too agree h many = record {
    words = [];
    long = refl;
    fit = tt;
    alone = v;
    ended = t;
    runs = λ x last there. (let q = dead_run k l (omega (arith, e)) f t x last there in (q.0, q.1, subst (λ rs. LanesAlike mine too x l k rs q.0) (sym many.1) q.2));
    agrees = h.agrees;
    on = subst (λ (u : Store). AgreeOn is u v) many.0 agree;
    kept = λ m n. refl;
    same = λ m i u. refl;
    left = none_left t;
    fits = subst (StoreFits core) many.0 fits;
    stays = λ m j i lt less. refl;
    ran = tt;
    accumulated = tt;
  }
  reduces_run (suc more) zero l e f inside s v t after n fits fits_too agree h many = absurd (let most = g.most in omega (arith, e, f, most))
  reduces_run (suc more) (suc k) l e f inside s v t after n fits fits_too agree h many =
      let below : l < lanes_of counters = omega (arith, f) in
      let lt : l < count = less_of l more count e in
      let one : One l s many.0 = many.1 in
      let frame : FramedAt is (turn l) s v one.between one.runs = turn_framed l s v one.between one.runs agree one.own in
      let y : After l below t frame.ended one.runs =
      lanes_group.one_turn core nodes memories turns around inside_lanes w counters style owned no_stream plain lanes count g not_dram mine earlier mine_first mine_none mine_right go apart live_at too first_live live masked l below lt v t frame.ended one.runs fits_too h frame.ran in
      let between_fits : StoreFits core one.between = merged_fits s frame.ended one.between fits y.fits frame.agree frame.kept in
      let c : Combined l s one.between many.0 = combined l s one.between many.0 one.entries between_fits frame.kept one.ran in
      let on : AgreeOn is many.0 frame.ended = λ m i. frame.agree m i ∙ sym (c.others m i) in
      let split : (n : ℕ) → is_among n whole ≡ false → (is_among n (flat_map owned_in (nodes_in (memory_order core) (lane_at l) mine)) ≡ false) × (is_among n (owned_in_stages (rest_of (suc l) k)) ≡ false) =
      λ n free. among_stages n l (nodes_in (memory_order core) (lane_at l) mine) (rest_of (suc l) k) (inside n free) in
      let reached : Reached (suc l) frame.ended y.ended =
      lanes_group.next_reached core nodes memories turns around inside_lanes w counters style owned no_stream plain lanes count g not_dram mine earlier mine_first mine_none mine_right go apart live_at too first_live live masked l below v t frame.ended one.runs h y in
      let z : Reduced more k (suc l) many.0 frame.ended y.ended after many.2 =
      reduces_run more k (suc l) (next_of l more count e) (omega (arith, f)) (λ n free. (split n free).1) many.0 frame.ended y.ended after many.2 c.left y.fits on reached many.4 in
      record {
        words = c.front ∷ z.words;
        long = ap suc z.long;
        fit = (c.fits, z.fit);
        alone = z.alone;
        ended = z.ended;
        runs = λ x last there. (let q = z.runs x last there in let r = y.runs (rest_of (suc l) k) q.0 last q.1 in (r.0, r.1, subst (λ rs. LanesAlike mine too x l (suc k) rs r.0) (sym many.3) (with_one (live l lt) r.2 q.2)));
        agrees = z.agrees;
        on = z.on;
        kept = λ m n. z.kept m n ∙ frame.kept_too m n;
        same = λ m i u. z.same m i u ∙ turn_keeps l v frame.ended one.runs frame.ran m i u;
        left = both_left t y.ended z.ended
            (λ n low outer free. y.left n low
            (lanes_group.not_inside core nodes memories turns around inside_lanes w counters style owned no_stream plain lanes count g not_dram mine earlier mine_first mine_none mine_right go apart live_at too first_live live masked l n below outer
            (neither all_owned (owned_in_stages (rest_of 0 (lanes_of counters))) n free).0) (split n free).0) z.left;
        fits = z.fits;
        stays = λ m j i less low. z.stays m j i (omega (arith, less)) low
            ∙ y.left ((lane_at j).number m)
            (lanes_group.copy_low core nodes memories turns around inside_lanes w counters style owned no_stream plain lanes count g not_dram mine earlier mine_first mine_none mine_right go apart live_at too first_live live masked j m low i)
            (λ x u same. own_own core around inside_lanes w counters owned plain lanes count g m l j x i below low (λ a. earlier_lane l j less a) u same) (apart m l j i below low);
        ran = (
          record {
            store = one.between;
            after = c.mid;
            has = λ m i. named_by m i (λ j. z.stays m l j (omega arith) below ∙ y.agrees.memories m (g.valid m j) ∙ frame.agree m (all_in core is owned asks.owns m j))
                (λ j o u. ap z.ended (out_number core around inside_lanes w counters owned plain lanes count g l m (g.apart m u)) ∙ z.agrees.memories m u ∙ z.same m j u ∙ frame.agree m o);
            ran = c.ran;
            bits = c.bits;
          },
          z.ran,
        );
        accumulated = more_left core plain owned before begun at word acc ty comb is asks s many.0 after (word_at c.front word) (words_of word z.words) (c.held, c.holds, c.written) (λ e. no_more more (suc l) many.0 after many.2 many.4 z.words z.long e) z.accumulated;
      }
    where
      earlier_lane : (l j : ℕ) → j < l → l ≡ j → ⊥
      earlier_lane l j lt e = omega (arith, lt, e)
