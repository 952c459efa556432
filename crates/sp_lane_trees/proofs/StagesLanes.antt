-- A group of a body with several lanes: the stages of its lanes, one lane after the other.
use Rattle.std.proofs.Common.{◌≡◌, ℕ, zero, suc, ◌+◌, ◌<◌, ◌≤◌, Bool, true, false, ◌||◌, List, [], ◌∷◌, ◌++◌, length, map, Some, refl, sym, ◌∙◌, ap, subst, arith, nat_lt}
use Rattle.std.proofs.lemmas.Bool.{and_parts, ltb-true, true≢false}
use Rattle.std.specs.Prelude.{flat_map}
use Rattle.sp_words.specs.Memory.{fresh_of}
use Rattle.sp_words.specs.declared.kind.Style.{Style}
use Rattle.sp_words.specs.declared.kind.Style.TheVariants.{Pipe, Sequential, Parallel, Stream}
use Rattle.sp_core.specs.Around.{Around, within, lanes_of, is_port_kind, is_usable}
use Rattle.sp_core.specs.Declarations.{mem, dram_number, fresh, is_stream, is_among}
use Rattle.sp_core.specs.History.{Runs, no_run}
use Rattle.sp_core.specs.Invariant.{owned_in, owned_in_stages, AreRight}
use Rattle.sp_core.specs.MemoryRules.{are_memories_right}
use Rattle.sp_core.specs.PlainCore.{PlainCounter, PlainMem, PlainNode, PlainStages, no_stage, PlainCore}
use Rattle.sp_core.specs.Scope.{Reading, plainly, Scope}
use Rattle.sp_core.specs.Scope as scope
use Rattle.sp_core.specs.Sequential.{renew, end_of_group, run_stages}
use Rattle.sp_core.specs.Step.{Step, went, pure, ◌>>=◌, ◌>>◌, in_order}
use Rattle.sp_core.specs.Store.{Store}
use Rattle.sp_fitting.specs.Fitting.{StoreFits}
use Rattle.sp_fitting.specs.Laws.{NodesFit}
use Rattle.sp_lanes.specs.Order.{memory_order}
use Rattle.sp_lanes.specs.Unrolled.{unrolled, owned_in_lanes, nodes_in, stages_in, stages_by_lane}
use Rattle.sp_lanes.specs.Within.{Within, in_lane}
use Rattle.sp_lane_cores.specs.LanedMarks.{NoneCombines}
use Rattle.sp_lane_rules.proofs.UnrolledPlaces.{among_both}
use Rattle.sp_lane_groups.proofs.LiveAlong.{answer_of, store_of}
use Rattle.sp_lane_groups.specs.Groups.{lanes_from, IsGroup}
use Rattle.sp_lane_groups.proofs.Among.{row_in, row_out}
use Rattle.sp_lane_groups.proofs.Apart.{out_number, out_usable, in_usable, own_out, own_own}
use Rattle.sp_lane_groups.proofs.Renewed.{bind_known, bind_split, order_split, order_none}
use Rattle.sp_lane_groups.specs.InnersAlike.{left_out, LanesAlike, all_lanes, with_one, without}
use Rattle.sp_lane_groups.specs.InnersAlong.{AgreeAt}
use Rattle.sp_lane_groups.proofs.InnersBounds.{order_long}
use Rattle.sp_lane_groups.proofs.InnersFollows.{no_copy, Follows}
use Rattle.sp_lane_trees.specs.OutersStages.{AllGoAlong}
use Rattle.sp_lane_trees.proofs.OutersLone.{turn_of}
use Rattle.sp_lane_trees.proofs.OutersRenewing.{Made, make_all, made_fit}
use Rattle.sp_lane_trees.specs.StagesLaws.{AreOfFirst}
use Rattle.sp_lane_trees.proofs.StagesAlike.{InLanes, own_same}
use Rattle.sp_lane_trees.proofs.StagesPassing.{neither, left_alike, Passed, passes, rests}

pub lanes_long : (l n : ℕ) → length (lanes_from l n) ≡ n
lanes_long l zero = refl
lanes_long l (suc n) = ap suc (lanes_long (suc l) n)

-- the end of a group that is of no stream block
pub nothing_ends : (core : PlainCore) (reading : Reading) (turns : ℕ) (style : Style) (owned : List ℕ) (s : Store) → is_stream style ≡ false → end_of_group core reading turns style owned s ≡ went [] s
unfolding pure
nothing_ends core reading turns Pipe owned s e = refl
nothing_ends core reading turns Sequential owned s e = refl
nothing_ends core reading turns Parallel owned s e = refl
nothing_ends core reading turns Stream owned s e = absurd (true≢false e)

-- what the stages of a lane own
pub among_stages : (n l : ℕ) (ns : List PlainNode) (rest : PlainStages) → is_among n (owned_in_stages (stages_in l ns rest)) ≡ false → (is_among n (flat_map owned_in ns) ≡ false) × (is_among n (owned_in_stages rest) ≡ false)
among_stages n l [] rest e = (refl, e)
among_stages n l (node ∷ ns) rest e =
    let p = neither (owned_in node) (owned_in_stages (stages_in l ns rest)) n e in
    let q = among_stages n l ns rest p.1 in
    (among_both n (owned_in node) (flat_map owned_in ns) ∙ ap (λ b. b || is_among n (flat_map owned_in ns)) p.0 ∙ q.0, q.1)

-- places of lanes, over variables
pub less_of : (l more count : ℕ) → l + suc more ≡ count → l < count
less_of l more count e = omega (arith, e)

pub next_of : (l more count : ℕ) → l + suc more ≡ count → suc l + more ≡ count
next_of l more count e = omega (arith, e)

module _ (core : PlainCore) (nodes : NodesFit core) (memories : are_memories_right core ≡ true) (turns : ℕ) (around inside_lanes : Around) (w : Within) (counters : List PlainCounter) (style : Style) (owned : List ℕ) (no_stream : is_stream style ≡ false)
    (plain : ℕ → Scope) (lanes : Scope) (count : ℕ) (g : IsGroup core around inside_lanes w counters owned plain lanes count)
    (not_dram : (r : ℕ) → is_among (dram_number core r) owned ≡ false) (stages : PlainStages) (earlier : List ℕ) (firsts : AreOfFirst stages) (none : NoneCombines core stages) (right : AreRight core (within around counters owned) earlier stages)
    (go : (l : ℕ) → l < lanes_of counters → AllGoAlong core turns (within around counters owned) (in_lane (memory_order core) counters owned w l) stages)
    (apart : (m l j : ℕ) → is_among m owned ≡ true → l < lanes_of counters → j < lanes_of counters
    → is_among ((in_lane (memory_order core) counters owned w j).number m) (flat_map owned_in (nodes_in (memory_order core) (in_lane (memory_order core) counters owned w l) stages)) ≡ false)
    (live_at : ℕ → ℕ → Bool) (too : ℕ → Bool) (first_live : (l : ℕ) → l < count → live_at l 0 ≡ true) (live : (l : ℕ) → l < count → too l ≡ true) (masked : (l : ℕ) → count ≤ l → l < lanes_of counters → too l ≡ false) where
  abbrev place : Around
  place = within around counters owned

  abbrev lane_at : ℕ → Within
  lane_at l = in_lane (memory_order core) counters owned w l

  abbrev all_owned : List ℕ
  all_owned = owned_in_lanes (memory_order core) counters owned w

  -- the stages of so many lanes from one on
  abbrev pub rest_of : (l more : ℕ) → PlainStages
  rest_of l more = stages_by_lane l (map (λ l. nodes_in (memory_order core) (lane_at l) stages) (lanes_from l more)) no_stage

  abbrev run_there : PlainStages → Step Runs
  run_there xs = run_stages (unrolled core) scope.in_lanes turns xs too lanes

  abbrev whole : List ℕ
  whole = all_owned ++ owned_in_stages (rest_of 0 (lanes_of counters))

  -- what lanes leave
  abbrev pub Left : Store → Store → Type 0
  Left t ended = (n : ℕ) → n < length (unrolled core).mems → ((m : ℕ) → is_usable core around m ≡ true → w.number m ≡ n → ⊥) → is_among n whole ≡ false → ended n ≡ t n

  pub none_left : (t : Store) → Left t t
  none_left t n lt outer free = refl

  pub both_left : (t u v : Store) → Left t u → Left u v → Left t v
  both_left t u v f g n lt outer free = g n lt outer free ∙ f n lt outer free

  pub own_in : (l m : ℕ) → l < lanes_of counters → is_among m owned ≡ true → is_among ((lane_at l).number m) all_owned ≡ true
  own_in l m lt e = row_in (λ l m. (lane_at l).number m) owned (lanes_of counters) l m lt e

  pub own_not : (m : ℕ) → is_usable core around m ≡ true → is_among (w.number m) all_owned ≡ false
  own_not m u = row_out (λ l m. (lane_at l).number m) owned (lanes_of counters) (w.number m) (λ x l e lt same. own_out core around inside_lanes w counters owned plain lanes count g x l m e lt u same)

  pub own_dram : (r : ℕ) → is_among (dram_number (unrolled core) r) all_owned ≡ false
  own_dram r = row_out (λ l m. (lane_at l).number m) owned (lanes_of counters) (dram_number (unrolled core) r) (λ x l e lt same. no_copy core place inside_lanes (lane_at l) (g.together l lt) x r (g.valid x e) same)

  pub not_inside : (l n : ℕ) → l < lanes_of counters → ((m : ℕ) → is_usable core around m ≡ true → w.number m ≡ n → ⊥) → is_among n all_owned ≡ false → (m : ℕ) → is_usable core place m ≡ true → (lane_at l).number m ≡ n → ⊥
  not_inside l n lt outer free m u same = by (is_among m owned) refl
    where
      by : (b : Bool) → is_among m owned ≡ b → ⊥
      by true i = true≢false (sym (own_in l m lt i) ∙ ap (λ k. is_among k all_owned) same ∙ free)
      by false i = outer m (in_usable core around inside_lanes w counters owned plain lanes count g m u i) (sym (out_number core around inside_lanes w counters owned plain lanes count g l m i) ∙ same)

  -- before a lane: what is used outside holds alike, and what later lanes own is fresh
  pub record Reached (l : ℕ) (s t : Store) : Type 0 where
    pub agrees : AgreeAt core around w s t
    pub own : (m j : ℕ) → is_among m owned ≡ true → l ≤ j → j < lanes_of counters → t ((lane_at j).number m) ≡ Some (fresh core m)

  enters : (l : ℕ) → l < lanes_of counters → (s t : Store) → Reached l s t → (a : Made core plainly turns owned s) → AgreeAt core place (lane_at l) a.after t
  enters l lt s t h a = record {
    memories = λ m u. by m u (is_among m owned) refl;
    drams = λ r. h.agrees.drams r ∙ sym (a.outside (dram_number core r) (not_dram r));
  }
    where
      by : (m : ℕ) → is_usable core place m ≡ true → (c : Bool) → is_among m owned ≡ c → t ((lane_at l).number m) ≡ a.after m
      by m u true i = h.own m l i (omega arith) lt ∙ sym (a.inside m i)
      by m u false i =
          ap t (out_number core around inside_lanes w counters owned plain lanes count g l m i) ∙ h.agrees.memories m (in_usable core around inside_lanes w counters owned plain lanes count g m u i) ∙ sym (a.outside m i)

  -- a copy of what is owned is declared
  pub copy_low : (j m : ℕ) → j < lanes_of counters → is_among m owned ≡ true → (lane_at j).number m < length (unrolled core).mems
  copy_low j m lt i =
      let n : ℕ = (lane_at j).number m in
      ltb-true n (length (unrolled core).mems) (and_parts (nat_lt n (length (unrolled core).mems)) (is_port_kind (mem (unrolled core) n).kind || is_among n inside_lanes.owned) ((g.together j lt).memories m (g.valid m i)).0).0

  abbrev After : (l : ℕ) → l < lanes_of counters → (t after : Store) → Runs → Type 0
  After l lt t after done = Passed core nodes memories turns place (lane_at l) (plain l) lanes (g.scopes l lt) l too stages t after done

  -- after a lane, before the next one
  pub next_reached : (l : ℕ) (lt : l < lanes_of counters) (s t after : Store) (done : Runs) → Reached l s t → (x : After l lt t after done) → Reached (suc l) after x.ended
  next_reached l lt s t after done h x = record {
    agrees = record {
      memories = λ m u. ap x.ended (sym (out_number core around inside_lanes w counters owned plain lanes count g l m (g.apart m u))) ∙ x.agrees.memories m (out_usable core around inside_lanes w counters owned plain lanes count g m u);
      drams = x.agrees.drams;
    };
    own = λ m j i le less. x.left ((lane_at j).number m) (copy_low j m less i)
        (λ y u same. own_own core around inside_lanes w counters owned plain lanes count g m l j y i lt less (λ e. later l j le e) u same) (apart m l j i lt less) ∙ h.own m j i (omega (arith, le)) less;
  }
    where
      later : (l j : ℕ) → suc l ≤ j → l ≡ j → ⊥
      later l j le e = omega (arith, le, e)

  abbrev turn : ℕ → Step Runs
  turn l = turn_of core plainly turns style owned stages (live_at l) (plain l)

  -- a lane of the core is the stages of the lane
  pub one_turn : (l : ℕ) (below : l < lanes_of counters) → l < count → (s t after : Store) (runs : Runs) → StoreFits core s → Reached l s t → turn l s ≡ went runs after → After l below t after runs
  unfolding pure
  one_turn l below lt s t after runs fits h ran =
      let first = bind_split (in_order (renew core plainly turns) owned) (λ _. run_stages core plainly turns stages (live_at l) (plain l) >>= (λ runs. end_of_group core plainly turns style owned >> pure runs)) s after runs ran in
      let second = bind_split (run_stages core plainly turns stages (live_at l) (plain l)) (λ runs. end_of_group core plainly turns style owned >> pure runs) first.1 after runs first.3 in
      let third = bind_split (end_of_group core plainly turns style owned) (λ _. pure second.0) second.1 after runs second.3 in
      let made : Made core plainly turns owned s = make_all core plainly turns owned s in
      let same : made.after ≡ first.1 = ap (store_of s) (sym made.ran ∙ first.2) in
      let inside : AgreeAt core place (lane_at l) first.1 t = subst (λ (u : Store). AgreeAt core place (lane_at l) u t) same (enters l below s t h made) in
      let x : After l below t second.1 second.0 =
      passes core nodes memories turns place (lane_at l) (plain l) lanes (g.scopes l below) l too (live l lt) (live_at l) (first_live l lt) stages earlier firsts none (go l below) right
      first.1 t second.1 second.0 (made_fit core plainly turns memories owned s first.1 first.0 fits first.2) inside second.2 in
      let stayed : second.1 ≡ third.1 = ap (store_of s) (sym (nothing_ends core plainly turns style owned second.1 no_stream) ∙ third.2) in
      subst (λ r. After l below t after r) (ap (answer_of runs) third.3) (subst (λ (u : Store). After l below t u second.0) (stayed ∙ ap (store_of s) third.3) x)

  record Gone (l k : ℕ) (t after : Store) (gs : List Runs) : Type 0 where
    runs : Runs
    ended : Store
    ran : run_there (rest_of l k) t ≡ went runs ended
    agrees : AgreeAt core around w after ended
    left : Left t ended
    fits : StoreFits core after
    alike : LanesAlike stages too no_run l k gs runs

  -- lanes without an iteration
  dead_run : (more l : ℕ) → count ≤ l → l + more ≡ lanes_of counters → (t : Store) → (runs : Runs) × (run_there (rest_of l more) t ≡ went runs t) × LanesAlike stages too no_run l more [] runs
  unfolding run_stages pure
  dead_run zero l le e t = (no_run, refl, all_lanes)
  dead_run (suc more) l le e t =
      let z = dead_run more (suc l) (omega (arith, le)) (omega (arith, e)) t in
      let q = rests core nodes memories turns place (lane_at l) (plain l) lanes (g.scopes l (omega (arith, e))) l too (masked l le (omega (arith, e))) (nodes_in (memory_order core) (lane_at l) stages) (rest_of (suc l) more) z.0 t t z.1 in
      (q.0, q.1, subst (LanesAlike stages too no_run l (suc more) []) (sym (q.2 ∙ left_alike (memory_order core) (lane_at l) stages z.0 ∙ ap (λ xs. left_out xs z.0) (own_same core stages none))) (without (masked l le (omega (arith, e))) z.2))

  abbrev IsWithin : List ℕ → Type 0
  IsWithin xs = (n : ℕ) → is_among n whole ≡ false → is_among n xs ≡ false

  -- those that have one, and after them the others
  live_run : (more k l : ℕ) → l + more ≡ count → l + k ≡ lanes_of counters → IsWithin (owned_in_stages (rest_of l k)) → (s t after : Store) (gs : List Runs) → StoreFits core s → Reached l s t → in_order turn (lanes_from l more) s ≡ went gs after → Gone l k t after gs
  live_run zero k l e f inside s t after gs fits h ran =
      let r = order_none turn s after gs ran in
      let z = dead_run k l (omega (arith, e)) f t in
      record {
        runs = z.0;
        ended = t;
        ran = z.1;
        agrees = subst (λ (u : Store). AgreeAt core around w u t) r.0 h.agrees;
        left = none_left t;
        fits = subst (StoreFits core) r.0 fits;
        alike = subst (λ q. LanesAlike stages too no_run l k q z.0) r.1 z.2;
      }
  live_run (suc more) zero l e f inside s t after gs fits h ran = absurd (let most = g.most in omega (arith, e, f, most))
  live_run (suc more) (suc k) l e f inside s t after gs fits h ran =
      let below : l < lanes_of counters = omega (arith, f) in
      let lt : l < count = less_of l more count e in
      let r = order_split turn l (lanes_from (suc l) more) s after gs ran in
      let y : After l below t r.1 r.0 = one_turn l below lt s t r.1 r.0 fits h r.3 in
      let split : (n : ℕ) → is_among n whole ≡ false → (is_among n (flat_map owned_in (nodes_in (memory_order core) (lane_at l) stages)) ≡ false) × (is_among n (owned_in_stages (rest_of (suc l) k)) ≡ false) =
      λ n free. among_stages n l (nodes_in (memory_order core) (lane_at l) stages) (rest_of (suc l) k) (inside n free) in
      let z : Gone (suc l) k y.ended after r.2 =
      live_run more k (suc l) (next_of l more count e) (omega (arith, f)) (λ n free. (split n free).1) r.1 y.ended after r.2 y.fits (next_reached l below s t r.1 r.0 h y) r.4 in
      let v = y.runs (rest_of (suc l) k) z.runs z.ended z.ran in
      record {
        runs = v.0;
        ended = z.ended;
        ran = v.1;
        agrees = z.agrees;
        left = both_left t y.ended z.ended (λ n low outer free. y.left n low (not_inside l n below outer (neither all_owned (owned_in_stages (rest_of 0 (lanes_of counters))) n free).0) (split n free).0) z.left;
        fits = z.fits;
        alike = subst (λ rs. LanesAlike stages too no_run l (suc k) rs v.0) r.5 (with_one (live l lt) v.2 z.alike);
      }

  pub group_follows : Follows core around w Left none_left both_left (InLanes stages too (lanes_of counters)) (in_order turn (lanes_from 0 count)) (turn_of (unrolled core) scope.in_lanes turns style all_owned (rest_of 0 (lanes_of counters)) too lanes)
  unfolding pure
  group_follows s t after gs fits agree ran =
      let all : PlainStages = rest_of 0 (lanes_of counters) in
      let made : Made (unrolled core) scope.in_lanes turns all_owned t = make_all (unrolled core) scope.in_lanes turns all_owned t in
      let reached : Reached 0 s made.after = record {
        agrees = record {
          memories = λ m u. made.outside (w.number m) (own_not m u) ∙ agree.memories m u;
          drams = λ r. made.outside (dram_number (unrolled core) r) (own_dram r) ∙ agree.drams r;
        };
        own = λ m j i le less. made.inside ((lane_at j).number m) (own_in j m less i) ∙ ap (λ (x : PlainMem). Some (fresh_of x.kind x.dims x.start [])) ((g.together j less).memories m (g.valid m i)).1;
      } in
      let z : Gone 0 (lanes_of counters) made.after after gs =
      live_run count (lanes_of counters) 0 (omega arith) (omega arith) (λ n free. (neither all_owned (owned_in_stages all) n free).1) s made.after after gs fits reached ran in
      record {
        answer = z.runs;
        ended = z.ended;
        ran =
            bind_known (in_order (renew (unrolled core) scope.in_lanes turns) all_owned) (λ _. run_there all >>= (λ runs. end_of_group (unrolled core) scope.in_lanes turns style all_owned >> pure runs)) t made.after made.answers made.ran
            ∙ bind_known (run_there all) (λ runs. end_of_group (unrolled core) scope.in_lanes turns style all_owned >> pure runs) made.after z.ended z.runs z.ran
            ∙ bind_known (end_of_group (unrolled core) scope.in_lanes turns style all_owned) (λ _. pure z.runs) z.ended z.ended [] (nothing_ends (unrolled core) scope.in_lanes turns style all_owned z.ended no_stream);
        agree = z.agrees;
        left = both_left t made.after z.ended (λ n low outer free. made.outside n (neither all_owned (owned_in_stages all) n free).0) z.left;
        fits = z.fits;
        related = ((let long = order_long turn (lanes_from 0 count) s after gs ran in let some = g.some in omega (arith, long, some, lanes_long 0 count)), z.alike);
      }
