-- The stages of a body with one lane, in lanes.
use Rattle.std.proofs.Common.{◌≡◌, ℕ, zero, suc, ◌+◌, ◌-◌, ◌*◌, Bool, true, false, ◌&&◌, ◌||◌, ℤ, pos, ◌+ℤ◌, List, [], ◌∷◌, ◌++◌, refl, sym, ◌∙◌, ap, subst, arith, nat_le}
use Rattle.std.proofs.Math.IntN.{+ℤ_idr}
use Rattle.std.proofs.lemmas.Bool.{true≢false}
use Rattle.std.specs.Prelude.{int_lt}
use Rattle.sp_core.specs.Around.{Around}
use Rattle.sp_core.specs.Declarations.{is_among}
use Rattle.sp_core.specs.History.{Bounds, last_word, Runs, no_run, masked_run, more_run}
use Rattle.sp_core.specs.Elements.{index_value}
use Rattle.sp_core.specs.Invariant.{owned_in, owned_in_stages, AreRight}
use Rattle.sp_core.specs.MemoryRules.{are_memories_right}
use Rattle.sp_core.specs.PlainCore.{PlainCounter, PlainNode, PlainStages, no_stage, more_stage, PlainCore}
use Rattle.sp_core.specs.Scope.{plainly, loops_of, is_live, is_some_up_to, is_some_live, Scope}
use Rattle.sp_core.specs.Scope as scope
use Rattle.sp_core.specs.Sequential.{run, run_stages}
use Rattle.sp_core.specs.Step.{Step, pure, ◌>>=◌}
use Rattle.sp_core.specs.Store.{Store}
use Rattle.sp_fitting.specs.Laws.{NodesFit}
use Rattle.sp_lanes.specs.Order.{memory_order}
use Rattle.sp_lanes.specs.Unrolled.{unrolled, node_in, left_as_they_are}
use Rattle.sp_lanes.specs.Within.{Within}
use Rattle.sp_lane_rules.proofs.UnrolledPlaces.{among_both}
use Rattle.sp_lane_groups.specs.LiveStores.{ScopesAgree, lane_values}
use Rattle.sp_lane_groups.specs.InnersAlike.{GoAlike, StagesAlike, no_stages, ran, passed}
use Rattle.sp_lane_groups.specs.InnersAlong.{LeavesBut}
use Rattle.sp_lane_groups.proofs.InnersFollows.{Follows, pure_follows, bind_follows}
use Rattle.sp_lane_trees.proofs.NodesWhole.{node_follows, choice_follows}
use Rattle.sp_lane_trees.specs.OutersStages.{AllGoAlong}

-- which lanes have an iteration is the same in both readings, in the first lane
pub live_same : (counters : List PlainCounter) (bounds : List Bounds) (values : List ℤ) (l : ℕ) → is_live (loops_of scope.in_lanes counters bounds) values l ≡ is_live (loops_of plainly counters bounds) (lane_values counters 0 values) l
live_same [] bounds values l = refl
live_same (c ∷ counters) [] values l = refl
live_same (c ∷ []) (b ∷ bounds) [] l = refl
live_same (c ∷ []) (b ∷ bounds) (v ∷ values) l = ap (λ x. int_lt (x +ℤ pos (l * c.by)) (index_value (last_word b.until))) (sym (+ℤ_idr v) ∙ ap (λ n. v +ℤ pos n) (none c.by))
  where
    none : (n : ℕ) → 0 ≡ 0 * n
    none n = omega arith
live_same (c ∷ d ∷ counters) (b ∷ []) [] l = refl
live_same (c ∷ d ∷ counters) (b ∷ []) (v ∷ values) l = refl
live_same (c ∷ d ∷ counters) (b ∷ e ∷ bounds) [] l = refl
live_same (c ∷ d ∷ counters) (b ∷ e ∷ bounds) (v ∷ values) l = live_same (d ∷ counters) (e ∷ bounds) values l

up_same : (live too : ℕ → Bool) → ((l : ℕ) → too l ≡ live l) → (first more : ℕ) → is_some_up_to too first more ≡ is_some_up_to live first more
up_same live too same first zero = same first
up_same live too same first (suc more) = ap (λ b. b || too (first + suc more)) (up_same live too same first more) ∙ ap (λ b. is_some_up_to live first more || b) (same (first + suc more))

some_same : (live too : ℕ → Bool) → ((l : ℕ) → too l ≡ live l) → (first last : ℕ) → is_some_live too first last ≡ is_some_live live first last
some_same live too same first last = ap (λ b. nat_le first last && b) (up_same live too same first (last - first))

-- what is in none of two lists
pub neither : (xs ys : List ℕ) (n : ℕ) → is_among n (xs ++ ys) ≡ false → (is_among n xs ≡ false) × (is_among n ys ≡ false)
neither xs ys n e = by (is_among n xs) (is_among n ys) (sym (among_both n xs ys) ∙ e)
  where
    by : (a b : Bool) → (a || b) ≡ false → (a ≡ false) × (b ≡ false)
    by true b e = absurd (true≢false e)
    by false b e = (refl, e)

module _ (core : PlainCore) (nodes : NodesFit core) (memories : are_memories_right core ≡ true) (turns : ℕ) (around : Around) (w : Within) (Left : Store → Store → Type 0) (none : (t : Store) → Left t t) (both : (t u v : Store) → Left t u → Left u v → Left t v)
    (whole : List ℕ) (weaker : (node : PlainNode) → ((n : ℕ) → is_among n whole ≡ false → is_among n (owned_in (node_in (memory_order core) w node)) ≡ false) → (t ended : Store) → LeavesBut core around w node t ended → Left t ended)
    (plain lanes : Scope) (agree : ScopesAgree w plain lanes) (live too : ℕ → Bool) (same : (l : ℕ) → too l ≡ live l) where
  abbrev Along : PlainStages → Step Runs → Step Runs → Type 0
  Along stages one two = Follows core around w Left none both (StagesAlike stages) one two

  -- what the stages own is owned in the whole
  abbrev IsWithin : List ℕ → Type 0
  IsWithin owned = (n : ℕ) → is_among n whole ≡ false → is_among n owned ≡ false

  -- one after the other, those of which some lane has an iteration
  pub stages_follow : (stages : PlainStages) (earlier : List ℕ) → AllGoAlong core turns around w stages → AreRight core around earlier stages → IsWithin (owned_in_stages (left_as_they_are (memory_order core) w stages))
      → Along stages (run_stages core plainly turns stages live plain) (run_stages (unrolled core) scope.in_lanes turns (left_as_they_are (memory_order core) w stages) too lanes)
  unfolding run_stages left_as_they_are
  stages_follow no_stage earlier go right inside = pure_follows core around w Left none both (StagesAlike no_stage) no_run no_run no_stages
  stages_follow (more_stage first last comb node rest) earlier go right inside =
      let here : PlainNode = node_in (memory_order core) w node in
      let all : PlainStages = more_stage first last comb node rest in
      let others : PlainStages = left_as_they_are (memory_order core) w rest in
      let both_in : (n : ℕ) → is_among n whole ≡ false → (is_among n (owned_in here) ≡ false) × (is_among n (owned_in_stages others) ≡ false) = λ n e. neither (owned_in here) (owned_in_stages others) n (inside n e) in
      let after : Along rest (run_stages core plainly turns rest live plain) (run_stages (unrolled core) scope.in_lanes turns others too lanes) = stages_follow rest (earlier ++ owned_in node) go.1 right.1 (λ n e. (both_in n e).1) in
      let one : Follows core around w Left none both (GoAlike node) (run core plainly turns node plain) (run (unrolled core) scope.in_lanes turns here lanes) =
      node_follows core around w Left none both nodes memories turns earlier node right.0 go.0 (weaker node (λ n e. (both_in n e).0)) plain lanes agree in
      subst (λ b. Along all (elim (is_some_live live first last) as (λ _. Step Runs) [
        | true ↦ run core plainly turns node plain >>= (λ h. run_stages core plainly turns rest live plain >>= (λ others. pure (more_run h others)))
        | false ↦ run_stages core plainly turns rest live plain >>= (λ others. pure (masked_run others))
      ]) (elim b as (λ _. Step Runs) [
        | true ↦ run (unrolled core) scope.in_lanes turns here lanes >>= (λ h. run_stages (unrolled core) scope.in_lanes turns others too lanes >>= (λ others. pure (more_run h others)))
        | false ↦ run_stages (unrolled core) scope.in_lanes turns others too lanes >>= (λ others. pure (masked_run others))
      ])) (sym (some_same live too same first last))
      (choice_follows core around w Left none both (StagesAlike all) (is_some_live live first last)
      (run core plainly turns node plain >>= (λ h. run_stages core plainly turns rest live plain >>= (λ others. pure (more_run h others)))) (run_stages core plainly turns rest live plain >>= (λ others. pure (masked_run others)))
      (run (unrolled core) scope.in_lanes turns here lanes >>= (λ h. run_stages (unrolled core) scope.in_lanes turns others too lanes >>= (λ others. pure (more_run h others)))) (run_stages (unrolled core) scope.in_lanes turns others too lanes >>= (λ others. pure (masked_run others)))
      (bind_follows core around w Left none both (GoAlike node) (StagesAlike all) (run core plainly turns node plain) (run (unrolled core) scope.in_lanes turns here lanes)
      (λ h. run_stages core plainly turns rest live plain >>= (λ others. pure (more_run h others))) (λ h. run_stages (unrolled core) scope.in_lanes turns others too lanes >>= (λ others. pure (more_run h others))) one
      (λ a b r. bind_follows core around w Left none both (StagesAlike rest) (StagesAlike all) (run_stages core plainly turns rest live plain) (run_stages (unrolled core) scope.in_lanes turns others too lanes) (λ others. pure (more_run a others)) (λ others. pure (more_run b others)) after
      (λ x y q. pure_follows core around w Left none both (StagesAlike all) (more_run a x) (more_run b y) (ran r q))))
      (bind_follows core around w Left none both (StagesAlike rest) (StagesAlike all) (run_stages core plainly turns rest live plain) (run_stages (unrolled core) scope.in_lanes turns others too lanes) (λ others. pure (masked_run others)) (λ others. pure (masked_run others)) after
      (λ x y q. pure_follows core around w Left none both (StagesAlike all) (masked_run x) (masked_run y) (passed q))))
