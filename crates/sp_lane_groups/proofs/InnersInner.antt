-- The run of an inner body in lanes: its bounds, and then its groups, each the iterations of its lanes.
use Rattle.std.proofs.Common.{◌≡◌, ℕ, zero, suc, ◌+◌, ◌*◌, ◌<◌, ◌≤◌, ◌⊎◌, inl, inr, Bool, true, false, cond, ℤ, List, [], ◌∷◌, ◌++◌, length, map, All, Option, None, refl, sym, ◌∙◌, ap, subst, arith}
use Rattle.std.proofs.lemmas.Bool.{and_parts, true≢false, ltb-true, eq-eqb}
use Rattle.std.proofs.lemmas.List.Elements.{All-head, All-tail}
use Rattle.std.specs.Prelude.{flat_map}
use Rattle.sp_core.specs.Around.{Around, within, lanes_of, is_usable}
use Rattle.sp_core.specs.Declarations.{dram_number, is_among}
use Rattle.sp_core.specs.Elements.{numbers_below}
use Rattle.sp_core.specs.History.{Entry, Bounds, inner_ran}
use Rattle.sp_core.specs.Invariant.{IsCore}
use Rattle.sp_core.specs.NodeRules.{is_owned_once, are_counters_right, is_node_right}
use Rattle.sp_core.specs.OperationRules.{are_operations_right}
use Rattle.sp_core.specs.Operations.{operations}
use Rattle.sp_core.specs.PlainCore.{PlainOp, PlainCounter, PlainCore, inner}
use Rattle.sp_core.specs.Scope.{plainly, loops_of, counts_of, group_values, Scope, in_group}
use Rattle.sp_core.specs.Scope as scope
use Rattle.sp_core.specs.Sequential.{renew_in_body, bounds, run}
use Rattle.sp_core.specs.Step.{Step, went, pure, ◌>>=◌, ◌>>◌, in_order}
use Rattle.sp_core.specs.Store.{Store}
use Rattle.sp_fitting.specs.Fitting.{StoreFits}
use Rattle.sp_fitting.specs.Laws.{ListsFit}
use Rattle.sp_lanes.specs.Order.{memory_order}
use Rattle.sp_lanes.specs.Unrolled.{unrolled, owned_in_lanes, ops_in_lanes, inner_ops, node_in}
use Rattle.sp_lanes.specs.Within.{Within, in_lane, ops_in, counters_in}
use Rattle.sp_lane_rules.specs.Copies.{occurrences, OwnsInLanes}
use Rattle.sp_lane_rules.proofs.CopiesMemoryRules.{count_among}
use Rattle.sp_lane_rules.proofs.CopiesOwners.{own_fits}
use Rattle.sp_lane_groups.specs.RoomLaws.{PlacesHaveRoom}
use Rattle.sp_lane_groups.specs.LiveStores.{HoldAlike, ScopesAgree, lane_values}
use Rattle.sp_lane_groups.proofs.LiveAlong.{answer_of, store_of}
use Rattle.sp_lane_groups.specs.Groups.{iteration, lanes_from, EachMasked, IsGroup, LeavesOutside}
use Rattle.sp_lane_groups.proofs.Among.{row_in}
use Rattle.sp_lane_groups.proofs.Group.{inners_go}
use Rattle.sp_lane_groups.proofs.Masked.{groups_masked}
use Rattle.sp_lane_groups.proofs.Places.{groups_are}
use Rattle.sp_lane_groups.proofs.Renewed.{bind_known, bind_split, order_on, order_none, Renewed, renew_all}
use Rattle.sp_lane_groups.proofs.RunsWhole.{run_leaves}
use Rattle.sp_lane_groups.specs.ValuesLanes.{GoOn, iterations_of, AreFirst}
use Rattle.sp_lane_groups.proofs.ValuesCut.{groups_cut, first_are_live}
use Rattle.sp_lane_groups.specs.InnersAlong.{AgreeAt, LeavesBut, GoesAlong, StandsIn}
use Rattle.sp_lane_groups.specs.InnersLaws.{InnersGo}
use Rattle.sp_lane_groups.proofs.InnersBounds.{order_long, each_right, goes_on, loops_kept, all_bounds_follow}
use Rattle.sp_lane_groups.proofs.InnersFollows.{no_change, no_copy, Followed, Follows, Same}
use Rattle.sp_lane_groups.proofs.InnersOwners.{each_owned, owned_apart, owned_inside}
use Rattle.sp_lane_groups.proofs.InnersHistories.{inner_alike}
use Rattle.sp_lane_groups.proofs.InnersSteps.{order_parts, order_mapped, Leaves, order_leaves}

-- numbers below a bound, from the first one on
lanes_end : (l k : ℕ) → lanes_from l (suc k) ≡ lanes_from l k ++ (l + k) ∷ []
lanes_end l zero = ap (λ n. n ∷ []) (plus l)
  where
    plus : (l : ℕ) → l ≡ l + 0
    plus l = omega arith
lanes_end l (suc k) = ap (λ xs. l ∷ xs) (lanes_end (suc l) k) ∙ ap (λ n. l ∷ (lanes_from (suc l) k ++ n ∷ [])) (next l k)
  where
    next : (l k : ℕ) → suc l + k ≡ l + suc k
    next l k = omega arith

numbers_are_lanes : (n : ℕ) → numbers_below n ≡ lanes_from 0 n
numbers_are_lanes zero = refl
numbers_are_lanes (suc n) = ap (λ xs. xs ++ n ∷ []) (numbers_are_lanes n) ∙ ap (λ k. lanes_from 0 n ++ k ∷ []) (none n) ∙ sym (lanes_end 0 n)
  where
    none : (n : ℕ) → n ≡ 0 + n
    none n = omega arith

module _ (core : PlainCore) (is : IsCore core) (owns : OwnsInLanes core.root) (lists : ListsFit core) (room : PlacesHaveRoom core) (turns : ℕ)
    (around inside : Around) (earlier : List ℕ) (w : Within) (counters : List PlainCounter) (owned : List ℕ) (ops : List PlainOp) (comb : Option ℕ) (h : StandsIn core around inside earlier w (inner counters owned ops comb)) where
  right : (is_node_right core around (inner counters owned ops comb) ≡ true) × (is_owned_once core earlier owned ≡ true)
  right = and_parts (is_node_right core around (inner counters owned ops comb)) (is_owned_once core earlier owned) h.right

  parts : (are_counters_right core around counters ≡ true) × (are_operations_right core (within around counters owned) ops ≡ true)
  parts = and_parts (are_counters_right core around counters) (are_operations_right core (within around counters owned) ops) right.0

  bound : (m l : ℕ) → is_among m owned ≡ true → l < lanes_of counters → w.copy * lanes_of counters + l < occurrences m (memory_order core)
  bound m l i lt =
      own_fits w.copy (lanes_of counters) l (occurrences m owned) 0 (occurrences m (memory_order core)) lt (count_among m owned i)
      (subst (λ x. (w.copy + 1) * (lanes_of counters * x) ≤ occurrences m (memory_order core)) {x = occurrences m owned} {y = occurrences m owned + 0} (omega arith) (h.enough m))

  abbrev pub Left : Store → Store → Type 0
  Left = LeavesOutside core around w counters owned

  pub none_left : (t : Store) → Left t t
  none_left t n outer own = refl

  pub both_left : (t u v : Store) → Left t u → Left u v → Left t v
  both_left t u v f g n outer own = g n outer own ∙ f n outer own

  -- DRAMs hold what they did
  abbrev DramsKept : Store → Store → Type 0
  DramsKept s after = (r : ℕ) → after (dram_number core r) ≡ s (dram_number core r)

  drams_none : (s : Store) → DramsKept s s
  drams_none s r = refl

  drams_both : (s t u : Store) → DramsKept s t → DramsKept t u → DramsKept s u
  drams_both s t u f g r = g r ∙ f r

  not_owned : (r : ℕ) → is_among (dram_number core r) owned ≡ false
  not_owned r = by (is_among (dram_number core r) owned) refl
    where
      past : (n r : ℕ) → n + r < n → ⊥
      past n r lt = omega (arith, lt)

      by : (b : Bool) → is_among (dram_number core r) owned ≡ b → b ≡ false
      by true i = absurd (past (length core.mems) r (ltb-true (dram_number core r) (length core.mems) (each_owned core earlier owned right.1 (dram_number core r) i).declared))
      by false i = refl

  iteration_leaves : (scope : Scope) → Leaves DramsKept drams_none drams_both (iteration core scope owned ops)
  iteration_leaves scope s after es ran r =
      let x : Renewed core owned s = renew_all core owned s in
      run_leaves core scope ops [] x.after es after (dram_number core r) (no_change core (within around counters owned) ops [] r parts.1)
      (sym (bind_known (in_order (renew_in_body core plainly 0) owned) (λ _. operations core scope ops) s x.after x.answers x.ran) ∙ ran)
      ∙ x.outside (dram_number core r) (not_owned r)

  -- inside of the body, in lanes
  abbrev pub inside_lanes : Around
  inside_lanes = within inside (counters_in w counters) (owned_in_lanes (memory_order core) counters owned w)

  -- the lanes of each group do what the core does in the iterations of the group
  abbrev pub GroupsGo : Type 0
  GroupsGo =
      (plain : ℕ → Scope) (lanes : Scope) (count : ℕ) → IsGroup core around inside_lanes w counters owned plain lanes count → (s t after : Store) (groups : List (List Entry)) → StoreFits core s → HoldAlike core around w s t
      → in_order (λ l. iteration core (plain l) owned ops) (lanes_from 0 count) s ≡ went groups after → EachMasked ops groups
      → (es : List Entry) × (ended : Store) × (iteration (unrolled core) lanes (owned_in_lanes (memory_order core) counters owned w) (inner_ops (memory_order core) w counters owned ops comb) t ≡ went es ended)
      × HoldAlike core around w after ended × LeavesOutside core around w counters owned t ended

  module _ (goes : GroupsGo) (plain lanes : Scope) (agree : ScopesAgree w plain lanes) (bs : List Bounds) (long : length bs ≡ length counters) where
    -- a group in the core: an iteration; and in lanes
    abbrev pub in_core : List ℤ → Step (List Entry)
    in_core values = iteration core (in_group plain (loops_of plainly counters bs) values) owned ops

    abbrev pub in_all_lanes : List ℤ → Step (List Entry)
    in_all_lanes values = iteration (unrolled core) (in_group lanes (loops_of scope.in_lanes counters bs) values) (owned_in_lanes (memory_order core) counters owned w) (inner_ops (memory_order core) w counters owned ops comb)

    abbrev pub cut : List ℤ → List (List ℤ)
    cut = iterations_of counters (loops_of scope.in_lanes counters bs)

    abbrev pub HasFirst : List ℤ → Type 0
    HasFirst values = (count : ℕ) × AreFirst counters (loops_of scope.in_lanes counters bs) values count

    abbrev pub Any : {A B : Type 0} → A → B → Type 0
    Any a b = Unit {0}

    group_follows : (values : List ℤ) → HasFirst values → Follows core around w Left none_left both_left Any (in_order in_core (cut values)) (in_all_lanes values)
    group_follows values first s t after gs fits alike ran =
        let count : ℕ = first.0 in
        let there : in_order (λ l. in_core (lane_values counters l values)) (lanes_from 0 count) s ≡ went gs after =
        sym (order_mapped in_core (λ l. lane_values counters l values) (lanes_from 0 count) s)
        ∙ ap (λ ls. in_order in_core (map (λ l. lane_values counters l values) ls) s) (sym (first.1.all ∙ numbers_are_lanes count)) ∙ ran in
        let masked = groups_masked core lists (within around counters owned) (λ l. in_group plain (loops_of plainly counters bs) (lane_values counters l values)) owned ops count s after gs is.memories parts.1 fits there in
        let g : IsGroup core around _ w counters owned (λ l. in_group plain (loops_of plainly counters bs) (lane_values counters l values)) (in_group lanes (loops_of scope.in_lanes counters bs) values) count =
        groups_are core room is owns around inside w h.together h.copies counters owned bound (owned_inside core around earlier h.owned_before counters owned right.1) (owned_apart core around earlier h.owned_before owned right.1)
        plain lanes agree bs values long first.1.values_long count first.1.some first.1.most first.1.live first.1.masked in
        let x = goes (λ l. in_group plain (loops_of plainly counters bs) (lane_values counters l values)) (in_group lanes (loops_of scope.in_lanes counters bs) values) count g s t after gs fits alike.memories there masked.0 in
        record {
          answer = x.0;
          ended = x.1;
          ran = x.2;
          agree = record {
            memories = x.3;
            drams = λ r. x.4 (dram_number (unrolled core) r) (λ m u i. no_outer m r u i) (λ m l i lt j. no_inner g m l r i lt j) ∙ alike.drams r
                ∙ sym (order_leaves DramsKept drams_none drams_both in_core (λ v. iteration_leaves (in_group plain (loops_of plainly counters bs) v)) (cut values) s after gs ran r);
          };
          left = x.4;
          fits = masked.1;
          related = tt;
        }
      where
        no_outer : (m r : ℕ) → is_usable core around m ≡ true → w.number m ≡ dram_number (unrolled core) r → ⊥
        no_outer m r u i = no_copy core around inside w h.together m r u i

        no_inner : (g : IsGroup core around (within inside (counters_in w counters) (owned_in_lanes (memory_order core) counters owned w)) w counters owned (λ l. in_group plain (loops_of plainly counters bs) (lane_values counters l values)) (in_group lanes (loops_of scope.in_lanes counters bs) values) first.0)
            → (m l r : ℕ) → is_among m owned ≡ true → l < lanes_of counters → (in_lane (memory_order core) counters owned w l).number m ≡ dram_number (unrolled core) r → ⊥
        no_inner g m l r i lt j =
            no_copy core (within around counters owned) (within inside (counters_in w counters) (owned_in_lanes (memory_order core) counters owned w)) (in_lane (memory_order core) counters owned w l) (g.together l lt) m r (g.valid m i) j

    groups_follow : (all : List (List ℤ)) → All HasFirst all → Follows core around w Left none_left both_left Any (in_order in_core (flat_map cut all)) (in_order in_all_lanes all)
    unfolding in_order pure
    groups_follow [] first s t after gs fits alike ran =
        let r = order_none in_core s after gs ran in
        record {
          answer = [];
          ended = t;
          ran = refl;
          agree = subst (λ (u : Store). AgreeAt core around w u t) r.0 alike;
          left = none_left t;
          fits = subst (StoreFits core) r.0 fits;
          related = tt;
        }
    groups_follow (values ∷ all) first s t after gs fits alike ran =
        let r = order_parts in_core (cut values) (flat_map cut all) s after gs ran in
        let x = group_follows values (All-head HasFirst values all first) s t r.1 r.0 fits alike r.3 in
        let y = groups_follow all (All-tail HasFirst values all first) r.1 x.ended after r.2 x.fits x.agree r.4 in
        record {
          answer = x.answer ∷ y.answer;
          ended = y.ended;
          ran = order_on in_all_lanes values all t x.ended y.ended x.answer y.answer x.ran y.ran;
          agree = y.agree;
          left = both_left t x.ended y.ended x.left y.left;
          fits = y.fits;
          related = tt;
        }

  -- what is left, by what the body owns in lanes
  left_but : (t ended : Store) → Left t ended → LeavesBut core around w (inner counters owned ops comb) t ended
  unfolding node_in
  left_but t ended left n lt outer free = left n outer (λ m l i below j. true≢false
      (sym (subst (λ k. is_among k (owned_in_lanes (memory_order core) counters owned w) ≡ true) j (row_in (λ l m. (in_lane (memory_order core) counters owned w l).number m) owned (lanes_of counters) l m below i)) ∙ free))

  pub inner_goes : GroupsGo → GoesAlong core turns around w (inner counters owned ops comb)
  unfolding run node_in pure
  inner_goes goes plain lanes agree s t after hist fits alike ran =
      let first = bind_split (in_order (bounds core plainly turns plain) counters)
      (λ bs. in_order (λ values. in_order (renew_in_body core plainly turns) owned >> operations core (in_group plain (loops_of plainly counters bs) values) ops) (group_values (loops_of plainly counters bs))
      >>= (λ groups. pure (inner_ran bs (counts_of (loops_of plainly counters bs)) groups))) s after hist ran in
      let bs : List Bounds = first.0 in
      let second = bind_split (in_order (λ values. in_order (renew_in_body core plainly turns) owned >> operations core (in_group plain (loops_of plainly counters bs) values) ops) (group_values (loops_of plainly counters bs)))
      (λ groups. pure (inner_ran bs (counts_of (loops_of plainly counters bs)) groups)) first.1 after hist first.3 in
      let each = each_right core around counters parts.0 in
      let long : length bs ≡ length counters = order_long (bounds core plainly turns plain) counters s first.1 bs first.2 in
      let on : GoOn counters = goes_on core around counters each in
      let x : Followed core around w Left none_left both_left (Same core around w Left none_left both_left) (in_order (bounds (unrolled core) scope.in_lanes turns lanes) (counters_in w counters)) t bs first.1 =
      all_bounds_follow core around w Left none_left both_left inside h.together h.copies (room is owns around w h.copies) plain lanes agree (λ u v l n outer own. l n outer) is.memories lists turns counters h.plain.0 each s t first.1 bs fits alike first.2 in
      let all : List (List ℤ) = group_values (loops_of scope.in_lanes counters bs) in
      let y : Followed core around w Left none_left both_left (Any goes plain lanes agree bs long) (in_order (in_all_lanes goes plain lanes agree bs long) all) x.ended second.0 second.1 =
      groups_follow goes plain lanes agree bs long all (first_are_live counters bs long h.laned.0 on) first.1 x.ended second.1 second.0 x.fits x.agree
      (ap (λ ls. in_order (in_core goes plain lanes agree bs long) ls first.1) (sym (groups_cut counters bs long h.laned.0 on)) ∙ second.2) in
      let lane_ops : List PlainOp = inner_ops (memory_order core) w counters owned ops comb in
      let own : List ℕ = owned_in_lanes (memory_order core) counters owned w in
      let there : in_order (λ values. iteration (unrolled core) (in_group lanes (loops_of scope.in_lanes (counters_in w counters) bs) values) own lane_ops) (group_values (loops_of scope.in_lanes (counters_in w counters) bs)) x.ended ≡ went y.answer y.ended =
      subst (λ loops. in_order (λ values. iteration (unrolled core) (in_group lanes loops values) own lane_ops) (group_values loops) x.ended ≡ went y.answer y.ended) (sym (loops_kept w counters bs)) y.ran in
      let done : second.1 ≡ after = ap (store_of after) second.3 in (
        inner_ran bs (counts_of (loops_of scope.in_lanes (counters_in w counters) bs)) y.answer,
        y.ended,
        bind_known (in_order (bounds (unrolled core) scope.in_lanes turns lanes) (counters_in w counters))
            (λ bs. in_order (λ values. in_order (renew_in_body (unrolled core) scope.in_lanes turns) own >> operations (unrolled core) (in_group lanes (loops_of scope.in_lanes (counters_in w counters) bs) values) lane_ops) (group_values (loops_of scope.in_lanes (counters_in w counters) bs))
            >>= (λ groups. pure (inner_ran bs (counts_of (loops_of scope.in_lanes (counters_in w counters) bs)) groups))) t x.ended bs (x.ran ∙ ap (λ b. went b x.ended) x.related)
            ∙ bind_known (in_order (λ values. in_order (renew_in_body (unrolled core) scope.in_lanes turns) own >> operations (unrolled core) (in_group lanes (loops_of scope.in_lanes (counters_in w counters) bs) values) lane_ops) (group_values (loops_of scope.in_lanes (counters_in w counters) bs)))
            (λ groups. pure (inner_ran bs (counts_of (loops_of scope.in_lanes (counters_in w counters) bs)) groups)) x.ended y.ended y.answer there,
        subst (λ (u : Store). AgreeAt core around w u y.ended) done y.agree,
        left_but t y.ended (both_left t x.ended y.ended x.left y.left),
        inner_alike w counters owned ops comb bs second.0 y.answer hist (ap (answer_of hist) second.3),
      )

  -- a body of one lane has no combination of its own in lanes
  same_ops : (comb ≡ None) ⊎ (lanes_of counters ≡ 1) → inner_ops (memory_order core) w counters owned ops None ≡ inner_ops (memory_order core) w counters owned ops comb
  same_ops (inl e) = ap (inner_ops (memory_order core) w counters owned ops) (sym e)
  same_ops (inr e) =
      ap (λ b. cond b (ops_in (in_lane (memory_order core) counters owned w 0) ops) (ops_in_lanes (memory_order core) w counters owned ops None)) (eq-eqb (lanes_of counters) 1 e)
      ∙ sym (ap (λ b. cond b (ops_in (in_lane (memory_order core) counters owned w 0) ops) (ops_in_lanes (memory_order core) w counters owned ops comb)) (eq-eqb (lanes_of counters) 1 e))

  pub alone_goes : (comb ≡ None) ⊎ (lanes_of counters ≡ 1) → GroupsGo
  alone_goes alone plain lanes count g s t after groups fits alike ran bits =
      let x = inners_go core around inside_lanes w counters owned plain lanes count g ops s t after groups h.plain.1 parts.1 h.resets alike ran bits in
      let own : List ℕ = owned_in_lanes (memory_order core) counters owned w in
      (x.0, x.1, ap (λ os. iteration (unrolled core) lanes own os t) (sym (same_ops alone)) ∙ x.2, x.3, x.4)

  pub alone_go : (comb ≡ None) ⊎ (lanes_of counters ≡ 1) → GoesAlong core turns around w (inner counters owned ops comb)
  alone_go alone = inner_goes (alone_goes alone)

pub all_go : (core : PlainCore) → ListsFit core → PlacesHaveRoom core → InnersGo core
all_go core lists room is owns turns around inside earlier w counters owned ops comb alone h = alone_go core is owns lists room turns around inside earlier w counters owned ops comb h alone
