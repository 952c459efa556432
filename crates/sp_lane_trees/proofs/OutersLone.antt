-- A group of a body with one lane, in lanes: its memories are made fresh, its stages run, and it ends.
use Rattle.std.proofs.Common.{◌≡◌, ℕ, ◌<◌, Bool, true, false, List, [], ◌++◌, length, map, Some, refl, sym, ◌∙◌, ap, subst, arith}
use Rattle.std.proofs.lemmas.Bool.{true≢false}
use Rattle.std.specs.Prelude.{flat_map}
use Rattle.sp_words.specs.Memory.{fresh_of}
use Rattle.sp_words.specs.declared.kind.Style.{Style}
use Rattle.sp_core.specs.Around.{Around, within, lanes_of, is_usable}
use Rattle.sp_core.specs.Declarations.{dram_number, is_among}
use Rattle.sp_core.specs.Elements.{numbers_below}
use Rattle.sp_core.specs.History.{Runs}
use Rattle.sp_core.specs.Invariant.{owned_in, owned_in_stages, AreRight}
use Rattle.sp_core.specs.MemoryRules.{are_memories_right}
use Rattle.sp_core.specs.PlainCore.{PlainCounter, PlainMem, PlainNode, PlainStages, PlainCore}
use Rattle.sp_core.specs.Scope.{Reading, plainly, Scope}
use Rattle.sp_core.specs.Scope as scope
use Rattle.sp_core.specs.Sequential.{renew, end_of_group, run_stages}
use Rattle.sp_core.specs.Step.{Step, went, pure, ◌>>=◌, ◌>>◌, in_order}
use Rattle.sp_core.specs.Store.{Store}
use Rattle.sp_fitting.specs.Fitting.{StoreFits}
use Rattle.sp_fitting.specs.Laws.{NodesFit}
use Rattle.sp_lanes.specs.Order.{memory_order}
use Rattle.sp_lanes.specs.Unrolled.{unrolled, owned_in_lanes, node_in, left_as_they_are}
use Rattle.sp_lanes.specs.Within.{Within, in_lane}
use Rattle.sp_lane_rules.specs.UnrolledPlaces.{GoTogether}
use Rattle.sp_lane_rules.proofs.UnrolledGivens.{append_none}
use Rattle.sp_lane_groups.specs.LiveStores.{AreCopies}
use Rattle.sp_lane_groups.proofs.LiveAlong.{answer_of, store_of}
use Rattle.sp_lane_groups.specs.Groups.{IsGroup}
use Rattle.sp_lane_groups.proofs.Among.{row_in, row_out}
use Rattle.sp_lane_groups.proofs.Apart.{lane_copies, out_number, out_usable, in_usable, own_out}
use Rattle.sp_lane_groups.proofs.Renewed.{bind_known, bind_split}
use Rattle.sp_lane_groups.specs.InnersAlike.{StagesAlike}
use Rattle.sp_lane_groups.specs.InnersAlong.{AgreeAt, LeavesBut}
use Rattle.sp_lane_groups.proofs.InnersFollows.{no_copy, Followed, Follows}
use Rattle.sp_lane_trees.proofs.TransfersMoving.{Moved}
use Rattle.sp_lane_trees.specs.OutersStages.{AllGoAlong}
use Rattle.sp_lane_trees.proofs.OutersEnds.{end_stays, ends_move}
use Rattle.sp_lane_trees.proofs.OutersRenewing.{Made, make_all, made_fit}
use Rattle.sp_lane_trees.proofs.OutersStages.{neither, stages_follow}

-- a group
abbrev pub turn_of : PlainCore → Reading → (turns : ℕ) → Style → (owned : List ℕ) → PlainStages → (live : ℕ → Bool) → Scope → Step Runs
turn_of core reading turns style owned stages live scope =
    in_order (renew core reading turns) owned >> (run_stages core reading turns stages live scope >>= (λ runs. end_of_group core reading turns style owned >> pure runs))

module _ (core : PlainCore) (nodes : NodesFit core) (memories : are_memories_right core ≡ true) (turns : ℕ) (around inside_lanes : Around) (w : Within) (counters : List PlainCounter) (style : Style) (owned : List ℕ) (one : lanes_of counters ≡ 1)
    (plain : ℕ → Scope) (lanes : Scope) (count : ℕ) (g : IsGroup core around inside_lanes w counters owned plain lanes count)
    (not_dram : (r : ℕ) → is_among (dram_number core r) owned ≡ false) (stages : PlainStages) (earlier : List ℕ) (right : AreRight core (within around counters owned) earlier stages)
    (go : AllGoAlong core turns (within around counters owned) (in_lane (memory_order core) counters owned w 0) stages) where
  abbrev place : Around
  place = within around counters owned

  abbrev there : Within
  there = in_lane (memory_order core) counters owned w 0

  abbrev all_owned : List ℕ
  all_owned = owned_in_lanes (memory_order core) counters owned w

  abbrev lone_stages : PlainStages
  lone_stages = left_as_they_are (memory_order core) there stages

  abbrev whole : List ℕ
  whole = all_owned ++ owned_in_stages lone_stages

  -- what lanes leave
  abbrev pub Left : Store → Store → Type 0
  Left t ended = (n : ℕ) → n < length (unrolled core).mems → ((m : ℕ) → is_usable core around m ≡ true → w.number m ≡ n → ⊥) → is_among n whole ≡ false → ended n ≡ t n

  pub none_left : (t : Store) → Left t t
  none_left t n lt outer free = refl

  pub both_left : (t u v : Store) → Left t u → Left u v → Left t v
  both_left t u v f g n lt outer free = g n lt outer free ∙ f n lt outer free

  first_lane : 0 < lanes_of counters
  first_lane = omega (arith, one)

  abbrev together : GoTogether core (unrolled core) place inside_lanes there
  together = g.together 0 first_lane

  abbrev copies : AreCopies core place there
  copies = lane_copies core around inside_lanes w counters owned plain lanes count g 0 first_lane

  -- the memories that it owns, in its one lane
  owned_there : all_owned ≡ map there.number owned
  owned_there = ap (λ n. flat_map (λ l. map (in_lane (memory_order core) counters owned w l).number owned) (numbers_below n)) one ∙ append_none (map there.number owned)

  own_in : (m : ℕ) → is_among m owned ≡ true → is_among (there.number m) all_owned ≡ true
  own_in m e = row_in (λ l m. (in_lane (memory_order core) counters owned w l).number m) owned (lanes_of counters) 0 m first_lane e

  own_not : (m : ℕ) → is_usable core around m ≡ true → is_among (w.number m) all_owned ≡ false
  own_not m u = row_out (λ l m. (in_lane (memory_order core) counters owned w l).number m) owned (lanes_of counters) (w.number m)
      (λ x l e lt same. own_out core around inside_lanes w counters owned plain lanes count g x l m e lt u same)

  own_dram : (r : ℕ) → is_among (dram_number (unrolled core) r) all_owned ≡ false
  own_dram r = row_out (λ l m. (in_lane (memory_order core) counters owned w l).number m) owned (lanes_of counters) (dram_number (unrolled core) r)
      (λ x l e lt same. no_copy core place inside_lanes (in_lane (memory_order core) counters owned w l) (g.together l lt) x r (g.valid x e) same)

  -- a memory that may be used inside is owned, or it is used outside too
  not_inside : (n : ℕ) → ((m : ℕ) → is_usable core around m ≡ true → w.number m ≡ n → ⊥) → is_among n all_owned ≡ false → (m : ℕ) → is_usable core place m ≡ true → there.number m ≡ n → ⊥
  not_inside n outer free m u same = by (is_among m owned) refl
    where
      by : (b : Bool) → is_among m owned ≡ b → ⊥
      by true i = true≢false (sym (own_in m i) ∙ ap (λ k. is_among k all_owned) same ∙ free)
      by false i = outer m (in_usable core around inside_lanes w counters owned plain lanes count g m u i) (sym (out_number core around inside_lanes w counters owned plain lanes count g 0 m i) ∙ same)

  weaker : (node : PlainNode) → ((n : ℕ) → is_among n whole ≡ false → is_among n (owned_in (node_in (memory_order core) there node)) ≡ false) → (t ended : Store) → LeavesBut core place there node t ended → Left t ended
  weaker node inside t ended f n lt outer free = f n lt (not_inside n outer (neither all_owned (owned_in_stages lone_stages) n free).0) (inside n free)

  -- from outside to inside, where its memories are fresh
  enters : (s t : Store) → AgreeAt core around w s t → (a : Made core plainly turns owned s) (b : Made (unrolled core) scope.in_lanes turns all_owned t) → AgreeAt core place there a.after b.after
  enters s t agree a b = record {
    memories = λ m u. by m u (is_among m owned) refl;
    drams = λ r. b.outside (dram_number (unrolled core) r) (own_dram r) ∙ agree.drams r ∙ sym (a.outside (dram_number core r) (not_dram r));
  }
    where
      by : (m : ℕ) → is_usable core place m ≡ true → (c : Bool) → is_among m owned ≡ c → b.after (there.number m) ≡ a.after m
      by m u true i = b.inside (there.number m) (own_in m i) ∙ ap (λ (x : PlainMem). Some (fresh_of x.kind x.dims x.start [])) (together.memories m u).1 ∙ sym (a.inside m i)
      by m u false i =
          let v : is_usable core around m ≡ true = in_usable core around inside_lanes w counters owned plain lanes count g m u i in
          ap b.after (out_number core around inside_lanes w counters owned plain lanes count g 0 m i) ∙ b.outside (w.number m) (own_not m v) ∙ agree.memories m v ∙ sym (a.outside m i)

  -- and back
  exits : (s t : Store) → AgreeAt core place there s t → AgreeAt core around w s t
  exits s t agree = record {
    memories = λ m u. ap t (sym (out_number core around inside_lanes w counters owned plain lanes count g 0 m (g.apart m u))) ∙ agree.memories m (out_usable core around inside_lanes w counters owned plain lanes count g m u);
    drams = agree.drams;
  }

  -- its end
  ended_alike : (s t after : Store) (a : List (Unit {0})) → AgreeAt core place there s t → end_of_group core plainly turns style owned s ≡ went a after
      → Moved core place inside_lanes there together copies (end_of_group (unrolled core) scope.in_lanes turns style all_owned) t a after
  ended_alike s t after a agree ran =
      subst (λ xs. Moved core place inside_lanes there together copies (end_of_group (unrolled core) scope.in_lanes turns style xs) t a after) (sym owned_there)
      (ends_move core place inside_lanes there together copies plainly scope.in_lanes turns style owned g.valid s t after a agree ran)

  pub turn_follows : (live too : ℕ → Bool) → ((l : ℕ) → too l ≡ live l)
      → Follows core around w Left none_left both_left (StagesAlike stages) (turn_of core plainly turns style owned stages live (plain 0)) (turn_of (unrolled core) scope.in_lanes turns style all_owned lone_stages too lanes)
  unfolding pure
  turn_follows live too same s t after runs fits agree ran =
      let first = bind_split (in_order (renew core plainly turns) owned) (λ _. run_stages core plainly turns stages live (plain 0) >>= (λ runs. end_of_group core plainly turns style owned >> pure runs)) s after runs ran in
      let second = bind_split (run_stages core plainly turns stages live (plain 0)) (λ runs. end_of_group core plainly turns style owned >> pure runs) first.1 after runs first.3 in
      let third = bind_split (end_of_group core plainly turns style owned) (λ _. pure second.0) second.1 after runs second.3 in
      let made : Made core plainly turns owned s = make_all core plainly turns owned s in
      let made_too : Made (unrolled core) scope.in_lanes turns all_owned t = make_all (unrolled core) scope.in_lanes turns all_owned t in
      let reached : made.after ≡ first.1 = ap (store_of s) (sym made.ran ∙ first.2) in
      let inside : AgreeAt core place there first.1 made_too.after = subst (λ (u : Store). AgreeAt core place there u made_too.after) reached (enters s t agree made made_too) in
      let x : Followed core place there Left none_left both_left (StagesAlike stages) (run_stages (unrolled core) scope.in_lanes turns lone_stages too lanes) made_too.after second.0 second.1 =
      stages_follow core nodes memories turns place there Left none_left both_left whole weaker (plain 0) lanes (g.scopes 0 first_lane) live too same stages earlier go right
      (λ n free. (neither all_owned (owned_in_stages lone_stages) n free).1) first.1 made_too.after second.1 second.0 (made_fit core plainly turns memories owned s first.1 first.0 fits first.2) inside second.2 in
      let y : Moved core place inside_lanes there together copies (end_of_group (unrolled core) scope.in_lanes turns style all_owned) x.ended third.0 third.1 = ended_alike second.1 x.ended third.1 third.0 x.agree third.2 in
      let done : third.1 ≡ after = ap (store_of after) third.3 in
      let stayed : second.1 ≡ third.1 = end_stays core plainly turns style owned second.1 third.1 third.0 third.2 in
      record {
        answer = x.answer;
        ended = y.ended;
        ran =
            bind_known (in_order (renew (unrolled core) scope.in_lanes turns) all_owned) (λ _. run_stages (unrolled core) scope.in_lanes turns lone_stages too lanes >>= (λ runs. end_of_group (unrolled core) scope.in_lanes turns style all_owned >> pure runs)) t made_too.after made_too.answers made_too.ran
            ∙ bind_known (run_stages (unrolled core) scope.in_lanes turns lone_stages too lanes) (λ runs. end_of_group (unrolled core) scope.in_lanes turns style all_owned >> pure runs) made_too.after x.ended x.answer x.ran
            ∙ bind_known (end_of_group (unrolled core) scope.in_lanes turns style all_owned) (λ _. pure x.answer) x.ended y.ended third.0 y.ran;
        agree = subst (λ (u : Store). AgreeAt core around w u y.ended) done (exits third.1 y.ended y.agree);
        left = both_left t made_too.after y.ended (λ n lt outer free. made_too.outside n (neither all_owned (owned_in_stages lone_stages) n free).0)
            (both_left made_too.after x.ended y.ended x.left (λ n lt outer free. y.others n lt (not_inside n outer (neither all_owned (owned_in_stages lone_stages) n free).0)));
        fits = subst (StoreFits core) (stayed ∙ done) x.fits;
        related = subst (λ r. StagesAlike stages r x.answer) (ap (answer_of runs) third.3) x.related;
      }
