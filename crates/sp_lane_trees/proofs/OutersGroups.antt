-- The run of a controller with stages whose body has one lane: its bounds, and then its groups.
use Rattle.std.proofs.Common.{◌≡◌, ℕ, ◌+◌, ◌*◌, ◌<◌, ◌≤◌, Bool, true, false, ℤ, List, [], ◌∷◌, ◌++◌, length, map, All, refl, sym, ◌∙◌, ap, subst, arith}
use Rattle.std.proofs.lemmas.Bool.{and_parts, ltb-true, eq-eqb}
use Rattle.std.proofs.lemmas.List.Elements.{All-head, All-tail}
use Rattle.std.specs.Prelude.{flat_map, option_map}
use Rattle.sp_words.specs.declared.kind.Style.{Style}
use Rattle.sp_core.specs.Around.{Around, within, lanes_of, is_usable}
use Rattle.sp_core.specs.Declarations.{dram_number, is_among}
use Rattle.sp_core.specs.Elements.{numbers_below}
use Rattle.sp_core.specs.History.{Bounds, History, Runs, outer_ran, groups_of}
use Rattle.sp_core.specs.Invariant.{IsCore, owned_in}
use Rattle.sp_core.specs.NodeRules.{is_owned_once, are_counters_right, are_lanes_right, is_node_right}
use Rattle.sp_core.specs.PlainCore.{PlainCounter, PlainNode, PlainStages, outer, PlainCore}
use Rattle.sp_core.specs.Scope.{plainly, Loop, loops_of, counts_of, group_values, is_live, Scope, in_group}
use Rattle.sp_core.specs.Scope as scope
use Rattle.sp_core.specs.Sequential.{bounds, run}
use Rattle.sp_core.specs.Step.{Step, went, pure, ◌>>=◌, in_order}
use Rattle.sp_core.specs.Store.{Store}
use Rattle.sp_fitting.specs.Fitting.{StoreFits}
use Rattle.sp_fitting.specs.Laws.{ListsFit, NodesFit}
use Rattle.sp_lanes.specs.Order.{memory_order}
use Rattle.sp_lanes.specs.Unrolled.{unrolled, owned_in_lanes, node_in, left_as_they_are, stages_by_lane, stage_after, combination_in, combination_of, nodes_in}
use Rattle.sp_lanes.specs.Within.{Within, in_lane, counters_in}
use Rattle.sp_lane_rules.specs.Copies.{occurrences, OwnsInLanes, copies_in_stages}
use Rattle.sp_lane_rules.proofs.CopiesMemoryRules.{count_among}
use Rattle.sp_lane_rules.proofs.CopiesOwners.{own_fits}
use Rattle.sp_lane_groups.specs.RoomLaws.{PlacesHaveRoom}
use Rattle.sp_lane_groups.specs.LiveStores.{ScopesAgree, lane_values}
use Rattle.sp_lane_groups.proofs.LiveAlong.{answer_of, store_of}
use Rattle.sp_lane_groups.specs.Groups.{IsGroup}
use Rattle.sp_lane_groups.proofs.Places.{groups_are}
use Rattle.sp_lane_groups.proofs.Renewed.{bind_known, bind_split, order_on, order_split, order_none}
use Rattle.sp_lane_groups.specs.ValuesLanes.{GoOn, iterations_of, AreFirst}
use Rattle.sp_lane_groups.proofs.ValuesCut.{groups_cut, first_are_live}
use Rattle.sp_lane_groups.specs.InnersAlike.{GoAlike, GroupAlike, GroupsAlike, no_groups, more_groups, alone}
use Rattle.sp_lane_groups.specs.InnersAlong.{AgreeAt, GoesAlong, StandsIn}
use Rattle.sp_lane_groups.proofs.InnersBounds.{order_long, each_right, goes_on, loops_kept, all_bounds_follow}
use Rattle.sp_lane_groups.proofs.InnersFollows.{Followed, Follows, Same}
use Rattle.sp_lane_groups.proofs.InnersOwners.{each_owned, owned_apart, owned_inside}
use Rattle.sp_lane_groups.proofs.InnersHistories.{outer_alike, order_answers}
use Rattle.sp_lane_groups.proofs.InnersSteps.{order_parts, order_mapped}
use Rattle.sp_lane_trees.specs.OutersLaws.{OutersGo}
use Rattle.sp_lane_trees.specs.OutersStages.{AllGoAlong}
use Rattle.sp_lane_trees.proofs.OutersLone.{turn_of, turn_follows}
use Rattle.sp_lane_trees.proofs.OutersStages.{live_same}

one_at_most : (count lanes : ℕ) → 1 ≤ count → count ≤ lanes → lanes ≡ 1 → count ≡ 1
one_at_most count lanes some most one = omega (arith, some, most, one)

module _ (core : PlainCore) (is : IsCore core) (owns : OwnsInLanes core.root) (lists : ListsFit core) (nodes : NodesFit core) (room : PlacesHaveRoom core) (turns : ℕ)
    (around inside : Around) (earlier : List ℕ) (w : Within) (counters : List PlainCounter) (style : Style) (owned : List ℕ) (stages : PlainStages) (one : lanes_of counters ≡ 1) (h : StandsIn core around inside earlier w (outer counters style owned stages))
    (go : AllGoAlong core turns (within around counters owned) (in_lane (memory_order core) counters owned w 0) stages) where
  right : (is_node_right core around (outer counters style owned stages) ≡ true) × (is_owned_once core earlier owned ≡ true)
  right = and_parts (is_node_right core around (outer counters style owned stages)) (is_owned_once core earlier owned) h.right.0

  counters_right : are_counters_right core around counters ≡ true
  counters_right = (and_parts (are_counters_right core around counters) (are_lanes_right (lanes_of counters) stages) right.0).0

  bound : (m l : ℕ) → is_among m owned ≡ true → l < lanes_of counters → w.copy * lanes_of counters + l < occurrences m (memory_order core)
  bound m l i lt = own_fits w.copy (lanes_of counters) l (occurrences m owned) (copies_in_stages stages m) (occurrences m (memory_order core)) lt (count_among m owned i) (h.enough m)

  not_dram : (r : ℕ) → is_among (dram_number core r) owned ≡ false
  not_dram r = by (is_among (dram_number core r) owned) refl
    where
      past : (n r : ℕ) → n + r < n → ⊥
      past n r lt = omega (arith, lt)

      by : (b : Bool) → is_among (dram_number core r) owned ≡ b → b ≡ false
      by true i = absurd (past (length core.mems) r (ltb-true (dram_number core r) (length core.mems) (each_owned core earlier owned right.1 (dram_number core r) i).declared))
      by false i = refl

  abbrev inside_lanes : Around
  inside_lanes = within inside (counters_in w counters) (owned_in_lanes (memory_order core) counters owned w)

  abbrev all_owned : List ℕ
  all_owned = owned_in_lanes (memory_order core) counters owned w

  abbrev lone_stages : PlainStages
  lone_stages = left_as_they_are (memory_order core) (in_lane (memory_order core) counters owned w 0) stages

  -- the node in lanes
  abbrev lone : PlainNode
  lone = outer (counters_in w counters) style all_owned lone_stages

  lone_is : node_in (memory_order core) w (outer counters style owned stages) ≡ lone
  unfolding node_in
  lone_is = ap (λ b. elim b as (λ _. PlainNode) [
    | true ↦ lone
    | false ↦ outer (counters_in w counters) style (owned_in_lanes (memory_order core) counters owned w)
        (stages_by_lane 0 (map (λ l. nodes_in (memory_order core) (in_lane (memory_order core) counters owned w l) stages) (numbers_below (lanes_of counters)))
        (stage_after (lanes_of counters) (option_map (combination_in (memory_order core) w counters owned) (combination_of stages))))
  ]) (eq-eqb (lanes_of counters) 1 one)

  abbrev Left : Store → Store → Type 0
  Left t ended = (n : ℕ) → n < length (unrolled core).mems → ((m : ℕ) → is_usable core around m ≡ true → w.number m ≡ n → ⊥) → is_among n (owned_in lone) ≡ false → ended n ≡ t n

  none_left : (t : Store) → Left t t
  none_left t n lt out free = refl

  both_left : (t u v : Store) → Left t u → Left u v → Left t v
  both_left t u v f g n lt out free = g n lt out free ∙ f n lt out free

  module _ (plain lanes : Scope) (agree : ScopesAgree w plain lanes) (bs : List Bounds) (long : length bs ≡ length counters) where
    -- a group in the core, and in lanes
    abbrev in_core : List ℤ → Step Runs
    in_core values = turn_of core plainly turns style owned stages (is_live (loops_of plainly counters bs) values) (in_group plain (loops_of plainly counters bs) values)

    abbrev in_all_lanes : List ℤ → Step Runs
    in_all_lanes values = turn_of (unrolled core) scope.in_lanes turns style all_owned lone_stages (is_live (loops_of scope.in_lanes counters bs) values) (in_group lanes (loops_of scope.in_lanes counters bs) values)

    abbrev cut : List ℤ → List (List ℤ)
    cut = iterations_of counters (loops_of scope.in_lanes counters bs)

    abbrev HasFirst : List ℤ → Type 0
    HasFirst values = (count : ℕ) × AreFirst counters (loops_of scope.in_lanes counters bs) values count

    group_follows : (values : List ℤ) → HasFirst values → Follows core around w Left none_left both_left (GroupAlike counters stages (is_live (loops_of scope.in_lanes counters bs) values)) (in_order in_core (cut values)) (in_all_lanes values)
    group_follows values first s t after gs fits alike ran =
        let count : ℕ = first.0 in
        let same : count ≡ 1 = one_at_most count (lanes_of counters) first.1.some first.1.most one in
        let there : in_order (λ l. in_core (lane_values counters l values)) (0 ∷ []) s ≡ went gs after =
        sym (order_mapped in_core (λ l. lane_values counters l values) (0 ∷ []) s)
        ∙ ap (λ ls. in_order in_core (map (λ l. lane_values counters l values) ls) s) (sym (first.1.all ∙ ap numbers_below same)) ∙ ran in
        let r = order_split (λ l. in_core (lane_values counters l values)) 0 [] s after gs there in
        let last : r.1 ≡ after = (order_none (λ l. in_core (lane_values counters l values)) r.1 after r.2 r.4).0 in
        let g : IsGroup core around inside_lanes w counters owned (λ l. in_group plain (loops_of plainly counters bs) (lane_values counters l values)) (in_group lanes (loops_of scope.in_lanes counters bs) values) count =
        groups_are core room is owns around inside w h.together h.copies counters owned bound (owned_inside core around earlier h.owned_before counters owned right.1) (owned_apart core around earlier h.owned_before owned right.1)
        plain lanes agree bs values long first.1.values_long count first.1.some first.1.most first.1.live first.1.masked in
        let x =
        turn_follows core nodes is.memories turns around inside_lanes w counters style owned one (λ l. in_group plain (loops_of plainly counters bs) (lane_values counters l values)) (in_group lanes (loops_of scope.in_lanes counters bs) values) count g not_dram stages (earlier ++ owned) h.right.1 go
        (is_live (loops_of plainly counters bs) (lane_values counters 0 values)) (is_live (loops_of scope.in_lanes counters bs) values) (live_same counters bs values) s t r.1 r.0 fits alike r.3 in
        record {
          answer = x.answer;
          ended = x.ended;
          ran = x.ran;
          agree = subst (λ (u : Store). AgreeAt core around w u x.ended) last x.agree;
          left = x.left;
          fits = subst (StoreFits core) last x.fits;
          related = subst (λ rs. GroupAlike counters stages (is_live (loops_of scope.in_lanes counters bs) values) rs x.answer) r.5
              (subst (λ q. GroupAlike counters stages (is_live (loops_of scope.in_lanes counters bs) values) (r.0 ∷ q) x.answer) (order_none (λ l. in_core (lane_values counters l values)) r.1 after r.2 r.4).1 (alone one x.related));
        }

    groups_follow : (all : List (List ℤ)) → All HasFirst all → Follows core around w Left none_left both_left (GroupsAlike counters stages (loops_of scope.in_lanes counters bs) all) (in_order in_core (flat_map cut all)) (in_order in_all_lanes all)
    unfolding in_order pure
    groups_follow [] first s t after gs fits alike ran =
        let r = order_none in_core s after gs ran in
        record {
          answer = [];
          ended = t;
          ran = refl;
          agree = subst (λ (u : Store). AgreeAt core around w u t) r.0 alike;
          left = none_left t;
          fits = subst (StoreFits core) r.0 fits;
          related = subst (λ rs. GroupsAlike counters stages (loops_of scope.in_lanes counters bs) [] rs []) r.1 no_groups;
        }
    groups_follow (values ∷ all) first s t after gs fits alike ran =
        let r = order_parts in_core (cut values) (flat_map cut all) s after gs ran in
        let x = group_follows values (All-head HasFirst values all first) s t r.1 r.0 fits alike r.3 in
        let y = groups_follow all (All-tail HasFirst values all first) r.1 x.ended after r.2 x.fits x.agree r.4 in
        record {
          answer = x.answer ∷ y.answer;
          ended = y.ended;
          ran = order_on in_all_lanes values all t x.ended y.ended x.answer y.answer x.ran y.ran;
          agree = y.agree;
          left = both_left t x.ended y.ended x.left y.left;
          fits = y.fits;
          related = subst (λ rs. GroupsAlike counters stages (loops_of scope.in_lanes counters bs) (values ∷ all) rs (x.answer ∷ y.answer)) (order_answers in_core (cut values) (flat_map cut all) s r.1 after r.0 r.2 gs ran r.3 r.4) (more_groups x.related y.related);
        }

  -- its groups, by loops
  abbrev all_groups : Scope → List Loop → Step (List Runs)
  all_groups lanes loops = in_order (λ values. turn_of (unrolled core) scope.in_lanes turns style all_owned lone_stages (is_live loops values) (in_group lanes loops values)) (group_values loops)

  lone_goes : (plain lanes : Scope) → ScopesAgree w plain lanes → (s t after : Store) (hist : History) → StoreFits core s → AgreeAt core around w s t → run core plainly turns (outer counters style owned stages) plain s ≡ went hist after
      → (g : History) × (ended : Store) × (run (unrolled core) scope.in_lanes turns lone lanes t ≡ went g ended) × AgreeAt core around w after ended × Left t ended
      × GoAlike (outer counters style owned stages) hist g
  unfolding run pure
  lone_goes plain lanes agree s t after hist fits alike ran =
      let first = bind_split (in_order (bounds core plainly turns plain) counters)
      (λ bs. in_order (λ values. turn_of core plainly turns style owned stages (is_live (loops_of plainly counters bs) values) (in_group plain (loops_of plainly counters bs) values)) (group_values (loops_of plainly counters bs))
      >>= (λ groups. pure (outer_ran bs (counts_of (loops_of plainly counters bs)) (groups_of groups)))) s after hist ran in
      let bs : List Bounds = first.0 in
      let second = bind_split (in_order (λ values. turn_of core plainly turns style owned stages (is_live (loops_of plainly counters bs) values) (in_group plain (loops_of plainly counters bs) values)) (group_values (loops_of plainly counters bs)))
      (λ groups. pure (outer_ran bs (counts_of (loops_of plainly counters bs)) (groups_of groups))) first.1 after hist first.3 in
      let each = each_right core around counters counters_right in
      let long : length bs ≡ length counters = order_long (bounds core plainly turns plain) counters s first.1 bs first.2 in
      let on : GoOn counters = goes_on core around counters each in
      let x : Followed core around w Left none_left both_left (Same core around w Left none_left both_left) (in_order (bounds (unrolled core) scope.in_lanes turns lanes) (counters_in w counters)) t bs first.1 =
      all_bounds_follow core around w Left none_left both_left inside h.together h.copies (room is owns around w h.copies) plain lanes agree (λ u v l n lt out free. l n out) is.memories lists turns counters h.plain.0 each s t first.1 bs fits alike first.2 in
      let all : List (List ℤ) = group_values (loops_of scope.in_lanes counters bs) in
      let y : Followed core around w Left none_left both_left (GroupsAlike counters stages (loops_of scope.in_lanes counters bs) all) (in_order (in_all_lanes plain lanes agree bs long) all) x.ended second.0 second.1 =
      groups_follow plain lanes agree bs long all (first_are_live counters bs long h.laned.0 on) first.1 x.ended second.1 second.0 x.fits x.agree
      (ap (λ ls. in_order (in_core plain lanes agree bs long) ls first.1) (sym (groups_cut counters bs long h.laned.0 on)) ∙ second.2) in
      let there : all_groups lanes (loops_of scope.in_lanes (counters_in w counters) bs) x.ended ≡ went y.answer y.ended =
      subst (λ loops. all_groups lanes loops x.ended ≡ went y.answer y.ended) (sym (loops_kept w counters bs)) y.ran in
      let done : second.1 ≡ after = ap (store_of after) second.3 in (
        outer_ran bs (counts_of (loops_of scope.in_lanes (counters_in w counters) bs)) (groups_of y.answer),
        y.ended,
        bind_known (in_order (bounds (unrolled core) scope.in_lanes turns lanes) (counters_in w counters))
            (λ bs. all_groups lanes (loops_of scope.in_lanes (counters_in w counters) bs) >>= (λ groups. pure (outer_ran bs (counts_of (loops_of scope.in_lanes (counters_in w counters) bs)) (groups_of groups)))) t x.ended bs (x.ran ∙ ap (λ b. went b x.ended) x.related)
            ∙ bind_known (all_groups lanes (loops_of scope.in_lanes (counters_in w counters) bs))
            (λ groups. pure (outer_ran bs (counts_of (loops_of scope.in_lanes (counters_in w counters) bs)) (groups_of groups))) x.ended y.ended y.answer there,
        subst (λ (u : Store). AgreeAt core around w u y.ended) done y.agree,
        both_left t x.ended y.ended x.left y.left,
        outer_alike w counters style owned stages bs second.0 y.answer hist (ap (answer_of hist) second.3) y.related,
      )

  pub goes : GoesAlong core turns around w (outer counters style owned stages)
  goes plain lanes agree s t after hist fits alike ran =
      let x = lone_goes plain lanes agree s t after hist fits alike ran in (
        x.0,
        x.1,
        ap (λ node. run (unrolled core) scope.in_lanes turns node lanes t) lone_is ∙ x.2,
        x.3,
        (λ n lt out free. x.4 n lt out (ap (λ node. is_among n (owned_in node)) (sym lone_is) ∙ free)),
        x.5,
      )

pub outer_goes : (core : PlainCore) → ListsFit core → NodesFit core → PlacesHaveRoom core → OutersGo core
outer_goes core lists nodes room is owns turns around inside earlier w counters style owned stages one h go = goes core is owns lists nodes room turns around inside earlier w counters style owned stages one h go
