-- The run of a loop whose last stage combines elements, in several lanes: its bounds, and then its groups.
use Rattle.std.proofs.Common.{◌≡◌, ℕ, zero, suc, ◌+◌, ◌-◌, ◌*◌, ◌<◌, Bool, true, false, cond, not, ◌&&◌, ◌||◌, ℤ, List, [], ◌∷◌, ◌++◌, length, map, All, Option, Some, None, refl, sym, ◌∙◌, ap, subst, arith, ◌==◌}
use Rattle.std.proofs.lemmas.Bool.{and_parts, and_from, ltb-true, true≢false, eq-eqb}
use Rattle.std.specs.Prelude.{flat_map, option_map, drop}
use Rattle.std.proofs.lemmas.List.Elements.{All-head, All-tail}
use Rattle.sp_words.specs.declared.kind.Style.{Style}
use Rattle.sp_words.specs.declared.types.Ty.TheVariants.{Bit}
use Rattle.sp_core.specs.Around.{Around, within, lanes_of, is_usable}
use Rattle.sp_core.specs.Declarations.{dram_number, is_stream, is_among}
use Rattle.sp_core.specs.Elements.{numbers_below}
use Rattle.sp_core.specs.History.{Bounds, History, Runs, outer_ran, groups_of}
use Rattle.sp_core.specs.Invariant.{IsCore, IsRight, owned_in}
use Rattle.sp_core.specs.NodeRules.{is_owned_once, are_counters_right, are_lanes_right, is_node_right}
use Rattle.sp_core.specs.OperationRules.{are_operations_right}
use Rattle.sp_core.specs.Footprint.{ListNames}
use Rattle.sp_core.specs.PlainCore.{PlainOp, PlainCounter, PlainNode, PlainStages, inner, outer, no_stage, more_stage, PlainCore}
use Rattle.sp_core.specs.Scope.{plainly, Loop, loops_of, counts_of, group_values, is_live, Scope, in_group}
use Rattle.sp_core.specs.Scope as scope
use Rattle.sp_core.specs.Sequential.{bounds, run}
use Rattle.sp_core.specs.Step.{Step, went, pure, ◌>>=◌, in_order}
use Rattle.sp_core.specs.Store.{Store}
use Rattle.sp_fitting.specs.Fitting.{StoreFits}
use Rattle.sp_fitting.specs.Laws.{ListsFit, NodesFit, WordsFit}
use Rattle.sp_lanes.specs.Order.{memory_order, occurrence}
use Rattle.sp_lanes.specs.Unrolled.{unrolled, owned_in_lanes, node_in, left_as_they_are, stages_by_lane, stage_after, ops_in_lanes, combination_in, combination_of, nodes_in}
use Rattle.sp_lanes.specs.Within.{Within, in_lane, counters_in}
use Rattle.sp_lane_rules.specs.Copies.{occurrences, OwnsInLanes, OwnInLanes, copies_in_stages}
use Rattle.sp_lane_rules.proofs.CopiesMemoryRules.{count_among}
use Rattle.sp_lane_rules.proofs.CopiesOwners.{lane_fits, own_fits}
use Rattle.sp_lane_groups.specs.RoomLaws.{PlacesHaveRoom}
use Rattle.sp_lane_rules.specs.UnrolledMeetings.{given_of}
use Rattle.sp_lane_rules.proofs.UnrolledGivens.{given_length}
use Rattle.sp_lane_groups.specs.PlainNodes.{IsNodePlain}
use Rattle.sp_lane_groups.specs.LiveStores.{ScopesAgree, lane_values, ArePlain}
use Rattle.sp_lane_groups.proofs.LiveAlong.{answer_of, store_of}
use Rattle.sp_lane_groups.specs.Groups.{lanes_from, IsGroup}
use Rattle.sp_lane_groups.proofs.Places.{groups_are}
use Rattle.sp_lane_groups.proofs.Renewed.{bind_known, bind_split, order_on, order_none}
use Rattle.sp_lane_groups.specs.ValuesLanes.{GoOn, iterations_of, AreFirst}
use Rattle.sp_lane_groups.proofs.ValuesCut.{groups_cut, first_are_live}
use Rattle.sp_lane_groups.specs.InnersAlike.{GoAlike, GroupAlike, GroupsAlike, no_groups, more_groups}
use Rattle.sp_lane_groups.specs.InnersAlong.{AgreeAt, GoesAlong, StandsIn}
use Rattle.sp_lane_groups.proofs.InnersBounds.{order_long, each_right, goes_on, loops_kept, all_bounds_follow}
use Rattle.sp_lane_groups.proofs.InnersFollows.{Followed, Follows, Same}
use Rattle.sp_lane_groups.proofs.InnersOwners.{each_owned, owned_apart, owned_inside}
use Rattle.sp_lane_groups.proofs.InnersHistories.{outer_alike, order_answers}
use Rattle.sp_lane_groups.proofs.InnersSteps.{order_parts, order_mapped}
use Rattle.sp_lane_trees.specs.OutersStages.{AllGoAlong}
use Rattle.sp_lane_trees.proofs.OutersLone.{turn_of}
use Rattle.sp_lane_trees.specs.StagesLaws.{AreOfFirst}
use Rattle.sp_lane_trees.proofs.StagesLive.{live_in}
use Rattle.sp_lane_trees.proofs.StagesOwned.{lane_apart, stages_apart}
use Rattle.sp_lane_groups.proofs.JoinedBalanced.{Laws}
use Rattle.sp_sugar.specs.Combination.{element_counters}
use Rattle.sp_lanes.specs.Combined.{Meeting, meeting}
use Rattle.sp_lane_rules.proofs.CombinedFollowing.{zero_inside}
use Rattle.sp_lane_rules.specs.CombinedStanding.{numbers_of, AreApart}
use Rattle.sp_lane_rules.proofs.UnrolledPlaces.{among_both}
use Rattle.sp_lane_cores.specs.Standing.{HasOthers, StandsApart, StandApart}
use Rattle.sp_lane_trees.specs.ElementsLaws.{InFirstLane, ElementsGo}
use Rattle.sp_lane_trees.specs.ElementsReduction.{CombinesElements, LastElements}
use Rattle.sp_lane_groups.specs.InnersAlike.{own_stages}
use Rattle.sp_lane_trees.proofs.CombinationsInner.{not_same, same_not, all_pass}
use Rattle.sp_lane_trees.proofs.CombinationsRights.{right_parts, register_both, plain_front}
use Rattle.sp_lane_trees.proofs.ReductionsNode.{numbers_are_lanes, map_alike}
use Rattle.sp_lane_trees.proofs.ReductionsOwn.{nodes_same}
use Rattle.sp_lane_trees.proofs.ElementsAround.{not_among}
use Rattle.sp_lane_trees.proofs.ElementsChain.{AsksElements}
use Rattle.sp_lane_trees.proofs.ElementsForms.{element, element_is}
use Rattle.sp_lane_trees.proofs.ElementsGroup as elements_group
use Rattle.sp_lane_trees.proofs.ElementsOwn.{Last, last_of}
use Rattle.sp_lane_trees.proofs.ElementsPlaced.{NoLanes, element_meets}
use Rattle.sp_lane_trees.proofs.ElementsRights.{ElementRight, element_right}
use Rattle.sp_lane_trees.proofs.ElementsValues.{counters_same}

-- the counters of the combination have other numbers
others_of : (stages : PlainStages) (numbers : List ℕ) (node : PlainNode) (cs : List PlainCounter) (ops : List PlainOp) (at : ℕ) → combination_of stages ≡ Some node → node ≡ inner cs [] ops (Some at) → StandApart numbers stages → AreApart numbers cs
others_of no_stage numbers node cs ops at e f h = cc
others_of (more_stage first last true x rest) numbers node cs ops at e f h = subst (HasOthers numbers) (only e ∙ f) h.0
  where
    only : {a b : PlainNode} → Some a ≡ Some b → a ≡ b
    only i = cc
others_of (more_stage first last false x rest) numbers node cs ops at e f h = others_of rest numbers node cs ops at e f h.1

apart_first : (xs ys : List ℕ) (c : ℕ) (ds : List ℕ) → AreApart (xs ++ ys) (element_counters c ds) → AreApart xs (element_counters c ds)
apart_first xs ys c [] h = tt
apart_first xs ys c (d ∷ ds) h = (left (is_among c xs) (is_among c ys) (sym (among_both c xs ys) ∙ h.0), apart_first xs ys (suc c) ds h.1)
  where
    left : (a b : Bool) → (a || b) ≡ false → a ≡ false
    left true b e = absurd (true≢false e)
    left false b e = refl

-- the first part of a list
dropped : (n : ℕ) (xs ys : List PlainOp) → n ≡ length xs → drop n (xs ++ ys) ≡ ys
dropped n [] ys e = ap (λ k. drop k ys) e
dropped zero (x ∷ xs) ys e = absurd (omega (arith, e))
dropped (suc n) (x ∷ xs) ys e = dropped n xs ys (omega (arith, e))

module _ (core : PlainCore) (is : IsCore core) (owns : OwnsInLanes core.root) (lists : ListsFit core) (nodes : NodesFit core) (fitting : WordsFit core) (laws : Laws) (room : PlacesHaveRoom core) (turns : ℕ)
    (around inside : Around) (earlier : List ℕ) (w : Within) (counters : List PlainCounter) (style : Style) (owned : List ℕ) (stages : PlainStages) (several : (lanes_of counters == 1) ≡ false) (no_stream : is_stream style ≡ false) (is_test : ℕ → Bool) (reduces : LastElements core owned is_test stages) (firsts : AreOfFirst stages) (own : OwnInLanes stages)
    (h : StandsIn core around inside earlier w (outer counters style owned stages)) (numbers : List ℕ) (first_lane : InFirstLane numbers w) (stand_apart : StandsApart numbers (outer counters style owned stages)) (go : (l : ℕ) → l < lanes_of counters → AllGoAlong core turns (within around counters owned) (in_lane (memory_order core) counters owned w l) (own_stages stages)) where
  right : (is_node_right core around (outer counters style owned stages) ≡ true) × (is_owned_once core earlier owned ≡ true)
  right = and_parts (is_node_right core around (outer counters style owned stages)) (is_owned_once core earlier owned) h.right.0

  counters_right : are_counters_right core around counters ≡ true
  counters_right = (and_parts (are_counters_right core around counters) (are_lanes_right (lanes_of counters) stages) right.0).0

  bound : (m l : ℕ) → is_among m owned ≡ true → l < lanes_of counters → w.copy * lanes_of counters + l < occurrences m (memory_order core)
  bound m l i lt = own_fits w.copy (lanes_of counters) l (occurrences m owned) (copies_in_stages stages m) (occurrences m (memory_order core)) lt (count_among m owned i) (h.enough m)

  not_dram : (r : ℕ) → is_among (dram_number core r) owned ≡ false
  not_dram r = by (is_among (dram_number core r) owned) refl
    where
      past : (n r : ℕ) → n + r < n → ⊥
      past n r lt = omega (arith, lt)

      by : (b : Bool) → is_among (dram_number core r) owned ≡ b → b ≡ false
      by true i = absurd (past (length core.mems) r (ltb-true (dram_number core r) (length core.mems) (each_owned core earlier owned right.1 (dram_number core r) i).declared))
      by false i = refl

  abbrev inside_lanes : Around
  inside_lanes = within inside (counters_in w counters) (owned_in_lanes (memory_order core) counters owned w)

  abbrev all_owned : List ℕ
  all_owned = owned_in_lanes (memory_order core) counters owned w

  -- the combination
  last : Last core owned is_test (within around counters owned) stages
  last = last_of core owned is_test (within around counters owned) stages (earlier ++ owned) reduces h.right.1 h.plain.1

  abbrev red : CombinesElements core owned is_test last.node
  red = last.reduces

  abbrev before : List PlainOp
  before = red.ends.combined.before

  abbrev elements : List PlainCounter
  elements = element_counters red.counter red.sizes

  abbrev el : List PlainOp
  el = element red.mems red.counter red.sizes red.ty red.comb red.at red.word red.acc red.begun

  abbrev all : List PlainOp
  all = before ++ el

  list : red.ops ≡ all
  list = red.ends.combined.is ∙ ap (λ xs. before ++ xs) (element_is red.mems red.counter red.sizes red.ty red.comb red.at red.word red.acc red.begun)

  apart_counters : AreApart (numbers_of counters ++ numbers) elements
  apart_counters = others_of stages (numbers_of counters ++ numbers) last.node elements red.ops red.at last.combines red.node_is stand_apart

  node_right : IsRight core (within around counters owned) last.earlier (inner elements [] red.ops (Some red.at))
  node_right = subst (IsRight core (within around counters owned) last.earlier) red.node_is last.right

  all_right : are_operations_right core (within (within around counters owned) elements []) all ≡ true
  all_right =
      subst (λ xs. are_operations_right core (within (within around counters owned) elements []) xs ≡ true) list
      (and_parts (are_counters_right core (within around counters owned) elements) (are_operations_right core (within (within around counters owned) elements []) red.ops)
      (and_parts (is_node_right core (within around counters owned) (inner elements [] red.ops (Some red.at))) (is_owned_once core last.earlier []) node_right).0).1

  node_plain : IsNodePlain (inner elements [] red.ops (Some red.at))
  node_plain = subst IsNodePlain red.node_is last.plain

  front_plain : ArePlain before
  front_plain = plain_front before el (subst ArePlain list node_plain.1)

  -- what is asked of it
  word_earlier : red.word < red.at
  word_earlier =
      subst (λ (m : Meeting). m.word < red.at) (element_meets red.mems red.counter red.sizes red.ty red.comb red.at red.word red.acc red.begun)
      (subst (λ xs. (meeting xs).word < red.at) (ap (drop red.at) list ∙ dropped red.at before el (sym red.ends.combined.place)) red.ends.earlier)

  test_is : (m : ℕ) → is_test m ≡ not (m == red.acc) && not (m == red.begun)
  test_is m = ap (λ (f : ℕ → Bool). f m) (sym red.tests)

  others_pass : (m : ℕ) → is_among m owned ≡ true → is_test m ≡ true
  others_pass m i = test_is m ∙ red.ends.others m i

  out_of : (m : ℕ) → is_test m ≡ false → is_among m owned ≡ false
  out_of m e = by (is_among m owned) refl
    where
      by : (b : Bool) → is_among m owned ≡ b → b ≡ false
      by true i = absurd (true≢false (sym (others_pass m i) ∙ e))
      by false i = refl

  acc_out : is_among red.acc owned ≡ false
  acc_out = out_of red.acc (test_is red.acc ∙ ap (λ b. not b && not (red.acc == red.begun)) (eq-eqb red.acc red.acc refl))

  flag_out : is_among red.begun owned ≡ false
  flag_out = out_of red.begun (test_is red.begun ∙ second (not (red.begun == red.acc)) (red.begun == red.begun) (eq-eqb red.begun red.begun refl))
    where
      second : (a b : Bool) → b ≡ true → a && not b ≡ false
      second true b e = ap not e
      second false b e = refl

  rights : ElementRight core (within (within around counters owned) elements []) red.mems red.counter red.sizes red.ty red.comb (given_of before) red.word red.acc red.begun
  rights =
      element_right core (within (within around counters owned) elements []) red.mems red.counter red.sizes red.ty red.comb (given_of before) red.at red.word red.acc red.begun
      (let lt = word_earlier in let same = red.ends.combined.place in omega (arith, lt, same, given_length before))
      (right_parts core (within (within around counters owned) elements []) [] before el all_right).1

  asks : AsksElements core owned before red.at red.word red.acc red.begun red.sizes is_test
  asks = record {
    place = sym red.ends.combined.place;
    earlier = word_earlier;
    names = subst (λ (f : ℕ → Bool). ListNames core f before) red.tests red.ends.combined.apart;
    owns = all_pass core is_test owned others_pass;
    other = λ m i. (let a = and_parts (not (m == red.acc)) (not (m == red.begun)) (sym (test_is m) ∙ i) in (not_same m red.acc a.0, not_same m red.begun a.1));
    all = λ m ne far. test_is m ∙ and_from (not (m == red.acc)) (not (m == red.begun)) (same_not m red.acc ne) (same_not m red.begun far);
    sram = red.sram;
    flag_both = register_both core (within (within around counters owned) elements []) Bit red.begun rights.flag;
    apart = red.ends.two;
    counted = red.counts;
    sized = red.sized;
  }

  zero_lanes : (l : ℕ) → NoLanes (in_lane (memory_order core) counters owned w l) red.counter (length red.sizes)
  zero_lanes l j lt = zero_inside (memory_order core) numbers counters owned w l first_lane (red.counter + j) (not_among (numbers_of counters ++ numbers) red.counter red.sizes j apart_counters lt)

  -- the stages of its lanes, one lane after the other, and the combination after them
  abbrev last_node : PlainNode
  last_node = inner elements [] (ops_in_lanes (memory_order core) w counters owned all (Some red.at)) None

  abbrev tail : PlainStages
  tail = more_stage 0 (lanes_of counters - 1) true last_node no_stage

  abbrev lane_stages : PlainStages
  lane_stages = stages_by_lane 0 (map (λ l. nodes_in (memory_order core) (in_lane (memory_order core) counters owned w l) (own_stages stages)) (lanes_from 0 (lanes_of counters))) tail

  apart : (m l j : ℕ) → is_among m owned ≡ true → l < lanes_of counters → j < lanes_of counters
      → is_among ((in_lane (memory_order core) counters owned w j).number m) (flat_map owned_in (nodes_in (memory_order core) (in_lane (memory_order core) counters owned w l) (own_stages stages))) ≡ false
  apart m l j i lt less =
      ap (λ ns. is_among ((in_lane (memory_order core) counters owned w j).number m) (flat_map owned_in ns)) (nodes_same (memory_order core) (in_lane (memory_order core) counters owned w l) stages)
      ∙ ap (λ b. is_among (cond b (occurrence m (w.copy * lanes_of counters + j) (memory_order core)) (w.number m)) (flat_map owned_in (nodes_in (memory_order core) (in_lane (memory_order core) counters owned w l) stages))) i
      ∙ lane_apart core (in_lane (memory_order core) counters owned w l) m (w.copy * lanes_of counters + j) (bound m j i less) stages own
      (λ n. lane_fits w.copy (lanes_of counters) l (occurrences n owned) (copies_in_stages stages n) (occurrences n (memory_order core)) lt (h.enough n)) (stages_apart core around earlier counters style owned stages h.right m i)

  -- the node in lanes
  abbrev laned : PlainNode
  laned = outer (counters_in w counters) style all_owned lane_stages

  abbrev in_turn : List ℕ → Option PlainNode → PlainStages
  in_turn ls o = stages_by_lane 0 (map (λ l. nodes_in (memory_order core) (in_lane (memory_order core) counters owned w l) stages) ls) (stage_after (lanes_of counters) (option_map (combination_in (memory_order core) w counters owned) o))

  abbrev with_counters : List PlainCounter → List PlainOp → PlainStages
  with_counters cs xs = more_stage 0 (lanes_of counters - 1) true (inner cs [] (ops_in_lanes (memory_order core) w counters owned xs (Some red.at)) None) no_stage

  laned_is : node_in (memory_order core) w (outer counters style owned stages) ≡ laned
  unfolding node_in
  laned_is =
      ap (λ b. elim b as (λ _. PlainNode) [
        | true ↦ outer (counters_in w counters) style all_owned (left_as_they_are (memory_order core) (in_lane (memory_order core) counters owned w 0) stages)
        | false ↦ outer (counters_in w counters) style all_owned (in_turn (numbers_below (lanes_of counters)) (combination_of stages))
      ]) several
      ∙ ap (λ o. outer (counters_in w counters) style all_owned (in_turn (numbers_below (lanes_of counters)) o)) (last.combines ∙ ap Some red.node_is)
      ∙ ap (λ cs. outer (counters_in w counters) style all_owned (stages_by_lane 0 (map (λ l. nodes_in (memory_order core) (in_lane (memory_order core) counters owned w l) stages) (numbers_below (lanes_of counters))) (with_counters cs red.ops))) (counters_same (in_lane (memory_order core) counters owned w 0) red.counter red.sizes)
      ∙ ap (λ xs. outer (counters_in w counters) style all_owned (stages_by_lane 0 (map (λ l. nodes_in (memory_order core) (in_lane (memory_order core) counters owned w l) stages) (numbers_below (lanes_of counters))) (with_counters elements xs))) list
      ∙ ap (λ ls. outer (counters_in w counters) style all_owned (stages_by_lane 0 (map (λ l. nodes_in (memory_order core) (in_lane (memory_order core) counters owned w l) stages) ls) tail)) (numbers_are_lanes (lanes_of counters))
      ∙ ap (λ nss. outer (counters_in w counters) style all_owned (stages_by_lane 0 nss tail))
      (map_alike (λ l. nodes_in (memory_order core) (in_lane (memory_order core) counters owned w l) stages) (λ l. nodes_in (memory_order core) (in_lane (memory_order core) counters owned w l) (own_stages stages)) (lanes_from 0 (lanes_of counters))
      (λ l. sym (nodes_same (memory_order core) (in_lane (memory_order core) counters owned w l) stages)))

  abbrev Left : Store → Store → Type 0
  Left t ended = (n : ℕ) → n < length (unrolled core).mems → ((m : ℕ) → is_usable core around m ≡ true → w.number m ≡ n → ⊥) → is_among n (owned_in laned) ≡ false → ended n ≡ t n

  none_left : (t : Store) → Left t t
  none_left t n lt out free = refl

  both_left : (t u v : Store) → Left t u → Left u v → Left t v
  both_left t u v f g n lt out free = g n lt out free ∙ f n lt out free

  module _ (plain lanes : Scope) (agree : ScopesAgree w plain lanes) (bs : List Bounds) (long : length bs ≡ length counters) where
    -- a group in the core, and in lanes
    abbrev in_core : List ℤ → Step Runs
    in_core values = turn_of core plainly turns style owned stages (is_live (loops_of plainly counters bs) values) (in_group plain (loops_of plainly counters bs) values)

    abbrev in_all_lanes : List ℤ → Step Runs
    in_all_lanes values = turn_of (unrolled core) scope.in_lanes turns style all_owned lane_stages (is_live (loops_of scope.in_lanes counters bs) values) (in_group lanes (loops_of scope.in_lanes counters bs) values)

    abbrev cut : List ℤ → List (List ℤ)
    cut = iterations_of counters (loops_of scope.in_lanes counters bs)

    abbrev HasFirst : List ℤ → Type 0
    HasFirst values = (count : ℕ) × AreFirst counters (loops_of scope.in_lanes counters bs) values count

    group_follows : (values : List ℤ) → HasFirst values → Follows core around w Left none_left both_left (GroupAlike counters stages (is_live (loops_of scope.in_lanes counters bs) values)) (in_order in_core (cut values)) (in_all_lanes values)
    group_follows values first s t after gs fits alike ran =
        let count : ℕ = first.0 in
        let there : in_order (λ l. in_core (lane_values counters l values)) (lanes_from 0 count) s ≡ went gs after =
        sym (order_mapped in_core (λ l. lane_values counters l values) (lanes_from 0 count) s)
        ∙ ap (λ ls. in_order in_core (map (λ l. lane_values counters l values) ls) s) (sym (first.1.all ∙ numbers_are_lanes count)) ∙ ran in
        let g : IsGroup core around inside_lanes w counters owned (λ l. in_group plain (loops_of plainly counters bs) (lane_values counters l values)) (in_group lanes (loops_of scope.in_lanes counters bs) values) count =
        groups_are core room is owns around inside w h.together h.copies counters owned bound (owned_inside core around earlier h.owned_before counters owned right.1) (owned_apart core around earlier h.owned_before owned right.1)
        plain lanes agree bs values long first.1.values_long count first.1.some first.1.most first.1.live first.1.masked in
        let x =
        elements_group.group_follows core nodes lists fitting laws is.memories turns around inside_lanes w counters style owned no_stream (λ l. in_group plain (loops_of plainly counters bs) (lane_values counters l values)) (in_group lanes (loops_of scope.in_lanes counters bs) values) count g several
        not_dram stages (earlier ++ owned) is_test reduces firsts h.right.1 go apart (λ l. is_live (loops_of plainly counters bs) (lane_values counters l values)) (is_live (loops_of scope.in_lanes counters bs) values)
        (λ l lt. live_in counters bs values l long ∙ first.1.live l lt) first.1.live first.1.masked red.mems red.counter red.sizes red.ops red.at last.node last.combines red.node_is before red.word red.acc red.begun red.ty red.comb asks red.ends.combined.is front_plain red.still red.own all_right
        acc_out flag_out (apart_first (numbers_of counters) numbers red.counter red.sizes apart_counters) zero_lanes
        s t after gs fits alike there in
        record {
          answer = x.answer;
          ended = x.ended;
          ran = x.ran;
          agree = x.agree;
          left = x.left;
          fits = x.fits;
          related = x.related;
        }

    groups_follow : (all : List (List ℤ)) → All HasFirst all → Follows core around w Left none_left both_left (GroupsAlike counters stages (loops_of scope.in_lanes counters bs) all) (in_order in_core (flat_map cut all)) (in_order in_all_lanes all)
    unfolding in_order pure
    groups_follow [] first s t after gs fits alike ran =
        let r = order_none in_core s after gs ran in
        record {
          answer = [];
          ended = t;
          ran = refl;
          agree = subst (λ (u : Store). AgreeAt core around w u t) r.0 alike;
          left = none_left t;
          fits = subst (StoreFits core) r.0 fits;
          related = subst (λ rs. GroupsAlike counters stages (loops_of scope.in_lanes counters bs) [] rs []) r.1 no_groups;
        }
    groups_follow (values ∷ all) first s t after gs fits alike ran =
        let r = order_parts in_core (cut values) (flat_map cut all) s after gs ran in
        let x = group_follows values (All-head HasFirst values all first) s t r.1 r.0 fits alike r.3 in
        let y = groups_follow all (All-tail HasFirst values all first) r.1 x.ended after r.2 x.fits x.agree r.4 in
        record {
          answer = x.answer ∷ y.answer;
          ended = y.ended;
          ran = order_on in_all_lanes values all t x.ended y.ended x.answer y.answer x.ran y.ran;
          agree = y.agree;
          left = both_left t x.ended y.ended x.left y.left;
          fits = y.fits;
          related = subst (λ rs. GroupsAlike counters stages (loops_of scope.in_lanes counters bs) (values ∷ all) rs (x.answer ∷ y.answer)) (order_answers in_core (cut values) (flat_map cut all) s r.1 after r.0 r.2 gs ran r.3 r.4) (more_groups x.related y.related);
        }

  -- its groups, by loops
  abbrev all_groups : Scope → List Loop → Step (List Runs)
  all_groups lanes loops = in_order (λ values. turn_of (unrolled core) scope.in_lanes turns style all_owned lane_stages (is_live loops values) (in_group lanes loops values)) (group_values loops)

  laned_goes : (plain lanes : Scope) → ScopesAgree w plain lanes → (s t after : Store) (hist : History) → StoreFits core s → AgreeAt core around w s t → run core plainly turns (outer counters style owned stages) plain s ≡ went hist after
      → (g : History) × (ended : Store) × (run (unrolled core) scope.in_lanes turns laned lanes t ≡ went g ended) × AgreeAt core around w after ended × Left t ended
      × GoAlike (outer counters style owned stages) hist g
  unfolding run pure
  laned_goes plain lanes agree s t after hist fits alike ran =
      let first = bind_split (in_order (bounds core plainly turns plain) counters)
      (λ bs. in_order (λ values. turn_of core plainly turns style owned stages (is_live (loops_of plainly counters bs) values) (in_group plain (loops_of plainly counters bs) values)) (group_values (loops_of plainly counters bs))
      >>= (λ groups. pure (outer_ran bs (counts_of (loops_of plainly counters bs)) (groups_of groups)))) s after hist ran in
      let bs : List Bounds = first.0 in
      let second = bind_split (in_order (λ values. turn_of core plainly turns style owned stages (is_live (loops_of plainly counters bs) values) (in_group plain (loops_of plainly counters bs) values)) (group_values (loops_of plainly counters bs)))
      (λ groups. pure (outer_ran bs (counts_of (loops_of plainly counters bs)) (groups_of groups))) first.1 after hist first.3 in
      let each = each_right core around counters counters_right in
      let long : length bs ≡ length counters = order_long (bounds core plainly turns plain) counters s first.1 bs first.2 in
      let on : GoOn counters = goes_on core around counters each in
      let x : Followed core around w Left none_left both_left (Same core around w Left none_left both_left) (in_order (bounds (unrolled core) scope.in_lanes turns lanes) (counters_in w counters)) t bs first.1 =
      all_bounds_follow core around w Left none_left both_left inside h.together h.copies (room is owns around w h.copies) plain lanes agree (λ u v l n lt out free. l n out) is.memories lists turns counters h.plain.0 each s t first.1 bs fits alike first.2 in
      let all : List (List ℤ) = group_values (loops_of scope.in_lanes counters bs) in
      let y : Followed core around w Left none_left both_left (GroupsAlike counters stages (loops_of scope.in_lanes counters bs) all) (in_order (in_all_lanes plain lanes agree bs long) all) x.ended second.0 second.1 =
      groups_follow plain lanes agree bs long all (first_are_live counters bs long h.laned.0 on) first.1 x.ended second.1 second.0 x.fits x.agree
      (ap (λ ls. in_order (in_core plain lanes agree bs long) ls first.1) (sym (groups_cut counters bs long h.laned.0 on)) ∙ second.2) in
      let there : all_groups lanes (loops_of scope.in_lanes (counters_in w counters) bs) x.ended ≡ went y.answer y.ended =
      subst (λ loops. all_groups lanes loops x.ended ≡ went y.answer y.ended) (sym (loops_kept w counters bs)) y.ran in
      let done : second.1 ≡ after = ap (store_of after) second.3 in (
        outer_ran bs (counts_of (loops_of scope.in_lanes (counters_in w counters) bs)) (groups_of y.answer),
        y.ended,
        bind_known (in_order (bounds (unrolled core) scope.in_lanes turns lanes) (counters_in w counters))
            (λ bs. all_groups lanes (loops_of scope.in_lanes (counters_in w counters) bs) >>= (λ groups. pure (outer_ran bs (counts_of (loops_of scope.in_lanes (counters_in w counters) bs)) (groups_of groups)))) t x.ended bs (x.ran ∙ ap (λ b. went b x.ended) x.related)
            ∙ bind_known (all_groups lanes (loops_of scope.in_lanes (counters_in w counters) bs))
            (λ groups. pure (outer_ran bs (counts_of (loops_of scope.in_lanes (counters_in w counters) bs)) (groups_of groups))) x.ended y.ended y.answer there,
        subst (λ (u : Store). AgreeAt core around w u y.ended) done y.agree,
        both_left t x.ended y.ended x.left y.left,
        outer_alike w counters style owned stages bs second.0 y.answer hist (ap (answer_of hist) second.3) y.related,
      )

  pub goes : GoesAlong core turns around w (outer counters style owned stages)
  goes plain lanes agree s t after hist fits alike ran =
      let x = laned_goes plain lanes agree s t after hist fits alike ran in (
        x.0,
        x.1,
        ap (λ node. run (unrolled core) scope.in_lanes turns node lanes t) laned_is ∙ x.2,
        x.3,
        (λ n lt out free. x.4 n lt out (ap (λ node. is_among n (owned_in node)) (sym laned_is) ∙ free)),
        x.5,
      )

pub elements_go : (core : PlainCore) → ListsFit core → NodesFit core → WordsFit core → Laws → PlacesHaveRoom core → ElementsGo core
elements_go core lists nodes fitting laws room is owns turns around inside earlier w counters style owned stages several no_stream is_test reduces firsts own h numbers first_lane stand_apart go =
    goes core is owns lists nodes fitting laws room turns around inside earlier w counters style owned stages several no_stream is_test reduces firsts own h numbers first_lane stand_apart go
