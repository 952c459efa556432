-- Members of a loop in beats are told whether they are wanted, in the cycle in which their turn is told.
use Rattle.std.proofs.Common.{◌≡◌, ℕ, zero, suc, ◌+◌, ◌-◌, ◌<◌, ◌≤◌, ◌==◌, ◌&&◌, Bool, true, List, [], ◌∷◌, map, length, drop, slice_index, slice_index_or, Option, Some, None, refl, sym, ap, subst, ◌∙◌, arith}
use Rattle.std.specs.List.{Contains}
use Rattle.sp_words.specs.declared.kind.Style.{Style}
use Rattle.sp_netlist.specs.declared.parts.Child.{Child}
use Rattle.sp_netlist.specs.Signals.{Signals}
use Rattle.sp_gates.specs.Tested.{is_on}
use Rattle.sp_core.specs.Around.{Around, Near, lanes_of}
use Rattle.sp_core.specs.Invariant.{IsRight}
use Rattle.sp_core.specs.PlainCore.{PlainCounter, PlainStages, outer, PlainCore}
use Rattle.sp_core.specs.Scope.{Loop, group_values, is_live, is_some_up_to}
use Rattle.sp_counters.specs.declared.part.Counter.{Counter}
use Rattle.sp_counters.specs.Laws.{AreAtGroup}
use Rattle.sp_part_runs.specs.BodiesRuns.{IsOnAt}
use Rattle.sp_part_runs.specs.BeatsRuns.{BeatsRan, Turn, beats, beat_cycle, slot_cycle, slot_found, groups_in, steps_in, step_cycle}
use Rattle.sp_part_runs.proofs.BeatsCounting.{turns_of_in, group_in_beats}
use Rattle.sp_part_runs.specs.StepsLaws.{AreInSteps}
use Rattle.sp_part_runs.specs.WordsLaws.{IsAtWork, HaveWords}
use Rattle.sp_sequence.specs.declared.part.Member.{Member}
use Rattle.sp_part_runs.specs.SequencesChains.{At, SaysWanted, turn}
use Rattle.sp_part_runs.specs.SequencesPlaces.{stage_at as stage_in, sizes, IsPlace}
use Rattle.sp_part_runs.specs.SequencesRuns.{chain_took}
use Rattle.sp_part_runs.proofs.SequencesPlacing.{map_length}
use Rattle.sp_plan.specs.PlainPlan.{PlainPlan, node_plan}
use Rattle.sp_plan.specs.Validity.{stage_count}
use Rattle.sp_time.specs.Beats.{Slot, took_at}
use Rattle.sp_machine.specs.Stamps.{Stamped}
use Rattle.sp_machine.specs.Timeline.{slots_of}
use Rattle.sp_machine.specs.Transfers.{Delays}
use Rattle.sp_overlap.specs.Whole.{IsTimed}
use Rattle.sp_node_runs.specs.Runs.{Placed}
use Rattle.sp_node_runs.specs.ControlBeating.{has_lane, groups_of, values_of, rows_of}
use Rattle.sp_node_runs.proofs.ControlBeatRuns.{as_stages, in_time, in_turn}
use Rattle.sp_node_runs.specs.BodiesGiven.{Nets}
use Rattle.sp_node_runs.specs.BodiesGiven as given
use Rattle.sp_node_runs.specs.BodiesTold.{AreAnsweredInTime}
use Rattle.sp_node_runs.specs.BodiesRows.{wires_of}
use Rattle.sp_node_runs.proofs.BodiesListed.{mapped_to, mapped_from}
use Rattle.sp_tree_runs.specs.BodiesLanes.{loops_ran}
use Rattle.sp_tree_runs.specs.BodiesScoped.{Scoped, placed}
use Rattle.sp_tree_circuits.specs.Circuits.{first_lane, last_lane, row_masks, masks_told, TakesWords, TakeWords, IsToldBy, MemberCircuit, Circuit}
use Rattle.sp_tree_circuits.specs.Answers.{EachBound}
use Rattle.sp_tree_circuits.proofs.Bounded.{loops_go_on, lanes_right, lanes_some}
use Rattle.sp_tree_circuits.specs.Given.{Laws}
use Rattle.sp_tree_circuits.proofs.Lanes.{stage_live, le_true, lanes_by_rule, first_lane_live, from_first, same_lanes}
use Rattle.sp_tree_circuits.proofs.Looping.{ran, outers, takes, found, lengths, Stepping, Looping, loops_at}
use Rattle.sp_tree_circuits.proofs.Ready.{Ready}
use Rattle.sp_tree_circuits.proofs.Sides.{done_of}
use Rattle.sp_tree_circuits.proofs.Stages.{in_slot}
use Rattle.sp_tree_circuits.proofs.Words.{have_words, behind, same_at, row_at}

module _ (core : PlainCore) (plan : PlainPlan) (delays : Delays) (laws : Laws core plan delays) (s : Signals) (events : List Stamped) (last : ℕ) (near : List Near) (env : Nets) (around : Around) (earlier : List ℕ) (k n : ℕ) (counters : List PlainCounter) (style : Style) (owned : List ℕ) (stages : PlainStages)
    (right : IsRight core around earlier (outer counters style owned stages)) (is : IsTimed (outer counters style owned stages)) (c : Child) (w : Circuit core plan s (outer counters style owned stages) near env k c)
    (answered : EachBound core plan s (AreAnsweredInTime s events last) near env w.draft n counters w.part.counters.items w.bounds) (qs : List Scoped) (t : ℕ) (le : t ≤ last) (ready : Ready core plan delays s events (outer counters style owned stages) near env k n qs t) where
  abbrev shape : List (List ℕ)
  shape = sizes w.places

  abbrev run_of : Placed → BeatsRan
  run_of r = ran core plan delays laws s events last near env around earlier k n counters style owned stages right is c w answered qs t le ready r

  abbrev runs : List BeatsRan
  runs = map run_of (placed qs)

  abbrev slots : List Slot
  slots = slots_of (node_plan plan k)

  -- the turn of a member in a group of a run
  module _ (q : Scoped) (there : Contains qs q) (g x j i : ℕ) (below : g < length (rows_of core plan delays k n counters owned stages w.places q.run)) (place : IsPlace w.places x j i) where
    abbrev b : BeatsRan
    b = run_of q.run

    abbrev told_at : ℕ
    told_at = beat_cycle shape (g + x) b + chain_took (λ i. b.found g x j i) i

    abbrev stage : ℕ
    stage = stage_in w.places x j i

    run_there : Contains (placed qs) q.run
    run_there = mapped_to (λ (q : Scoped). q.run) qs q there

    beats_there : Contains runs b
    beats_there = mapped_to run_of (placed qs) q.run run_there

    size : length shape ≡ length w.places
    size = map_length (λ (chains : List (List ℕ)). map (λ (c : List ℕ). length c) chains) w.places

    in_all : (y : ℕ) → y < length w.places → suc (g + y) ≤ beats b.groups (length shape)
    in_all y l = let z = group_in_beats b.groups (length shape) g y below (omega (arith, l, size)) in z

    -- it is told within the beat in which its slot is at work on the group
    before_next : told_at < beat_cycle shape (suc (g + x)) b
    before_next =
        let time = in_time core plan delays k n counters owned stages w.places laws.timeline w.arranged (placed qs) (takes core plan delays laws s events last near env around earlier k n counters style owned stages right is c w answered qs t le ready) q.run run_there in
        let p = place.0 in
        let all = in_all x p in
        let next = time.beats (suc (g + x)) all in
        let member = time.members g x j i below place in
        let s = in_slot w.places slots w.arranged x j i place in
        let slot = s.1 in
        let ends = (laws.order slots (took_at (rows_of core plan delays k n counters owned stages w.places q.run))).after_beat g stage (suc (g + x)) s.0 (omega (arith, slot)) in
        omega (arith, next, member, ends)

    took_some : (i' : ℕ) → i ≡ suc i' → 1 ≤ chain_took (λ i. b.found g x j i) i
    took_some i' e =
        let stages_took = as_stages core plan delays k n counters owned stages w.places (placed qs) (takes core plan delays laws s events last near env around earlier k n counters style owned stages right is c w answered qs t le ready) q.run run_there in
        let p = place.2 in
        let before_place : IsPlace w.places x j i' = (place.0, place.1, omega (arith, p, e)) in
        let a = stages_took.found g x j i' below before_place in
        let d = stages_took.takes_time g x j i' below before_place in
        subst (λ m. 1 ≤ chain_took (λ i. b.found g x j i) m) (sym e) (omega (arith, a, d))

    enough : g < length (group_values (loops_ran counters q.run.history))
    enough = let z = lengths core plan delays laws s events last near env around earlier k n counters style owned stages right is c w answered qs t le ready q.run run_there in let f = ap (λ ls. length (group_values ls)) (found core plan delays laws s events last near env around earlier k n counters style owned stages right is c w answered qs t le ready q there) in omega (arith, z, f, below)

    module _ (m : ℕ) (words : TakesWords s counters w.part w.nets w.before w.rows (length w.places)) (stepping : Stepping core plan delays laws s events last near env around earlier k n counters style owned stages right is c w answered qs t le ready (suc m)) (looping : Looping core plan delays laws s events last near env around earlier k n counters style owned stages right is c w answered qs t le ready m) where
      abbrev loops : List Loop
      loops = loops_ran counters q.run.history

      abbrev live : ℕ → Bool
      live lane = is_live loops (slice_index_or (group_values loops) g []) lane

      -- in the step in which the group comes the masks are its own
      at_step : beat_cycle shape g b ≤ suc m → (lane : ℕ) → lane < lanes_of counters → is_on s (slice_index w.nets.masks.items lane) (beat_cycle shape g b) ≡ live lane
      at_step l lane few =
          let at = subst (λ sh. AreInSteps s w.part w.nets (loops_at counters qs) sh runs (suc m)) w.shaped stepping.0 in
          let p = place.0 in
          let all = in_all x p in
          let z = words.lanes in
          (subst (λ ls. AreAtGroup s w.part w.nets ls g (beat_cycle shape g b)) (found core plan delays laws s events last near env around earlier k n counters style owned stages right is c w answered qs t le ready q there) (at b g beats_there (omega (arith, all)) l)).masks lane enough (omega (arith, few, z))

      -- and so are those of a row, while its slot is at work on the group
      rise : (y : ℕ) → beat_cycle shape g b ≤ beat_cycle shape (g + y) b
      rise zero = let e : beat_cycle shape g b ≡ beat_cycle shape (g + 0) b = ap (λ m. beat_cycle shape m b) {x = g} {y = g + 0} (omega arith) in omega (arith, e)
      rise (suc y) =
          let h = rise y in
          let e : beat_cycle shape (suc (g + y)) b ≡ beat_cycle shape (g + suc y) b = ap (λ m. beat_cycle shape m b) {x = suc (g + y)} {y = g + suc y} (omega arith) in
          omega (arith, h, e)

      in_row : (y u : ℕ) → y < length w.places → IsAtWork shape b g y m u → (lane : ℕ) → lane < lanes_of counters → is_on s (slice_index (row_masks w.nets w.rows y) lane) u ≡ live lane
      in_row y u l work lane few =
          let each = words.each in
          let turns = in_turn core plan delays k n counters owned stages w.places laws.timeline w.arranged (placed qs) (takes core plan delays laws s events last near env around earlier k n counters style owned stages right is c w answered qs t le ready) style (outers core plan delays laws s events last near env around earlier k n counters style owned stages right is c w answered qs t le ready) ready.from ready.until ready.did.in_turn in
          let all = laws.words s shape runs w.part.step w.before w.rows m words.moves words.long (omega (arith, each, size)) turns (subst (λ sh. IsOnAt (is_on s w.part.step) (At (step_cycle sh) (steps_in sh runs)) m) w.shaped looping.steps) in
          let row = row_at (λ slot row. (r : BeatsRan) (group t : ℕ) → Contains runs r → group < r.groups → IsAtWork shape r group slot m t → HaveWords s t (beat_cycle shape group r) row.wires.items w.before) (length w.before) 0 w.rows y all words.long (omega (arith, l, each)) in
          let h = row.holds b g u beats_there below (subst (λ z. IsAtWork shape b g z m u) {x = y} {y = 0 + y} (omega arith) work) in
          let same = have_words s u (beat_cycle shape g b) row.row.wires.items w.before row.long h ∙ ap (λ ns. map (s.net (beat_cycle shape g b)) ns) words.first in
          let masks = behind (s.net u) (s.net (beat_cycle shape g b)) (wires_of row.row.wires.items) (given.values_of w.nets.counters.items) w.nets.masks.items same in
          let count = map_length (λ (n : Counter). n.value) w.nets.counters.items in
          let mine : map (s.net u) (row_masks w.nets w.rows y) ≡ map (s.net (beat_cycle shape g b)) w.nets.masks.items =
          subst (λ ns. map (s.net u) (drop (length w.nets.counters.items) ns) ≡ map (s.net (beat_cycle shape g b)) w.nets.masks.items) (sym row.same)
          (subst (λ c. map (s.net u) (drop c (wires_of row.row.wires.items)) ≡ map (s.net (beat_cycle shape g b)) w.nets.masks.items) count masks) in
          let wide = words.masks in
          let up = rise y in
          let after = work.0 in
          let late = work.2 in
          ap (λ v. v == 1) (same_at (s.net u) (s.net (beat_cycle shape g b)) (row_masks w.nets w.rows y) w.nets.masks.items lane mine (omega (arith, few, wide))) ∙ at_step (omega (arith, up, after, late)) lane few

  -- so are the masks by which a member is told
  masks_are : (q : Scoped) (there : Contains qs q) (g x j i : ℕ) (below : g < length (rows_of core plan delays k n counters owned stages w.places q.run)) (place : IsPlace w.places x j i) (m : ℕ) (words : TakesWords s counters w.part w.nets w.before w.rows (length w.places)) (stepping : Stepping core plan delays laws s events last near env around earlier k n counters style owned stages right is c w answered qs t le ready (suc m)) (looping : Looping core plan delays laws s events last near env around earlier k n counters style owned stages right is c w answered qs t le ready m)
      → told_at q there g x j i below place ≤ suc m → (lane : ℕ) → lane < lanes_of counters → is_on s (slice_index (masks_told w.nets w.rows x i) lane) (told_at q there g x j i below place) ≡ live q there g x j i below place m words stepping looping lane
  masks_are q there g zero j zero below place m words stepping looping late lane few =
      let a : beat_cycle shape g (run_of q.run) ≡ beat_cycle shape (g + 0) (run_of q.run) = ap (λ m. beat_cycle shape m (run_of q.run)) {x = g} {y = g + 0} (omega arith) in
      ap (λ u. is_on s (slice_index w.nets.masks.items lane) u) {x = told_at q there g zero j zero below place} {y = beat_cycle shape g (run_of q.run)} (omega (arith, a))
      ∙ at_step q there g zero j zero below place m words stepping looping (omega (arith, a, late)) lane few
  masks_are q there g (suc y) j zero below place m words stepping looping late lane few =
      let a : beat_cycle shape (suc (g + y)) (run_of q.run) ≡ beat_cycle shape (g + suc y) (run_of q.run) = ap (λ m. beat_cycle shape m (run_of q.run)) {x = suc (g + y)} {y = g + suc y} (omega arith) in
      in_row q there g (suc y) j zero below place m words stepping looping y (told_at q there g (suc y) j zero below place) (let p = place.0 in omega (arith, p)) (omega (arith, a), omega (arith, a), late) lane few
  masks_are q there g x j (suc i) below place m words stepping looping late lane few =
      let some = took_some q there g x j (suc i) below place i refl in
      let next = before_next q there g x j (suc i) below place in
      in_row q there g x j (suc i) below place m words stepping looping x (told_at q there g x j (suc i) below place) place.0 (omega (arith, some), omega (arith, next), late) lane few

  -- what a member's net says in a group of a run
  module _ (x j i : ℕ) (place : IsPlace w.places x j i) (m : ℕ) (stepping : Stepping core plan delays laws s events last near env around earlier k n counters style owned stages right is c w answered qs t le ready (suc m)) (looping : Looping core plan delays laws s events last near env around earlier k n counters style owned stages right is c w answered qs t le ready m) where
    abbrev here_stage : ℕ
    here_stage = stage_in w.places x j i

    a_stage : here_stage < stage_count stages
    a_stage = let l = (in_slot w.places slots w.arranged x j i place).0 in let z = w.size in omega (arith, l, z)

    lanes : (first_lane stages here_stage ≤ last_lane stages here_stage) × (last_lane stages here_stage < lanes_of counters)
    lanes = lanes_by_rule (lanes_of counters) (lanes_some core plan s near env w.draft counters w.part.counters.items w.bounds) stages (lanes_right core around earlier counters style owned stages right) here_stage a_stage

    module _ (q : Scoped) (there : Contains qs q) (g : ℕ) (below : g < length (rows_of core plan delays k n counters owned stages w.places q.run)) where
      abbrev b_live : ℕ → Bool
      b_live lane = is_live (loops_ran counters q.run.history) (slice_index_or (group_values (loops_ran counters q.run.history)) g []) lane

      abbrev is_wanted : Bool
      is_wanted = has_lane stages (values_of counters q.run.history) (groups_of q.run.history) g here_stage

      wanted_is : is_wanted ≡ is_some_up_to b_live (first_lane stages here_stage) (last_lane stages here_stage - first_lane stages here_stage)
      wanted_is =
          (laws.groups k n counters style owned stages w.places q (done_of (outer counters style owned stages) qs ready.did.done q there)).lanes g here_stage (enough q there g x j i below place)
          ∙ stage_live stages b_live here_stage a_stage
          ∙ ap (λ v. v && is_some_up_to b_live (first_lane stages here_stage) (last_lane stages here_stage - first_lane stages here_stage)) (le_true (first_lane stages here_stage) (last_lane stages here_stage) lanes.0)

      always : first_lane stages here_stage ≡ 0 → is_wanted ≡ true
      always first =
          wanted_is ∙ ap (λ f. is_some_up_to b_live f (last_lane stages here_stage - first_lane stages here_stage)) first
          ∙ from_first b_live (first_lane_live (loops_ran counters q.run.history) (λ l c. loops_go_on core plan s near env w.draft counters w.part.counters.items w.bounds q.run.history l c) g (enough q there g x j i below place)) (last_lane stages here_stage - first_lane stages here_stage)

      by_masks : TakesWords s counters w.part w.nets w.before w.rows (length w.places) → (net : ℕ)
          → ((t : ℕ) → is_on s net t ≡ is_some_up_to (λ l. is_on s (slice_index (masks_told w.nets w.rows x i) l) t) (first_lane stages here_stage) (last_lane stages here_stage - first_lane stages here_stage))
          → told_at q there g x j i below place ≤ suc m → is_on s net (told_at q there g x j i below place) ≡ is_wanted
      by_masks words net says late =
          says (told_at q there g x j i below place)
          ∙ same_lanes (λ l. is_on s (slice_index (masks_told w.nets w.rows x i) l) (told_at q there g x j i below place)) b_live (first_lane stages here_stage) (last_lane stages here_stage - first_lane stages here_stage)
          (λ l few. let a = lanes.0 in let d = lanes.1 in masks_are q there g x j i below place m words stepping looping late l (omega (arith, a, d, few)))
          ∙ sym wanted_is

    -- over all groups of all runs
    over_all : (P : Turn → Type 0) → ((q : Scoped) (there : Contains qs q) (g : ℕ) → g < length (rows_of core plan delays k n counters owned stages w.places q.run) → P (record { run = run_of q.run; number = g })) → (y : Turn) → Contains (groups_in runs) y → P y
    over_all P h y c =
        let a = turns_of_in (λ (r : BeatsRan). r.groups) runs y c in
        let r = mapped_from run_of (placed qs) y.run a.0 in
        let q = mapped_from (λ (q : Scoped). q.run) qs r.0 r.1 in
        let same : run_of q.0.run ≡ y.run = ap run_of q.2 ∙ r.2 in
        subst (λ (z : BeatsRan). P (record { run = z; number = y.number })) same (h q.0 q.1 y.number (subst (λ (z : BeatsRan). y.number < z.groups) (sym same) a.1))

    abbrev Says : Option ℕ → Type 0
    Says o = SaysWanted s o (turn (slot_cycle shape x) (λ q. slot_found x q j) i) (λ q. slot_found x q j i) (groups_in runs) (suc m)

    no_net : first_lane stages here_stage ≡ 0 → Says None
    no_net first = over_all (λ y. turn (slot_cycle shape x) (λ q. slot_found x q j) i y ≤ suc m → (slot_found x y j i).wanted ≡ true) (λ q there g below late. always q there g below first)

    says_by : (cs : List PlainCounter) → counters ≡ cs → TakeWords s cs w.part w.nets w.before w.rows (length w.places) → (o : Option ℕ) → IsToldBy s cs (masks_told w.nets w.rows x i) (first_lane stages here_stage) (last_lane stages here_stage) o → Says o
    says_by [] same words None h = no_net (let a = lanes.0 in let d = lanes.1 in let z = ap lanes_of same in omega (arith, a, d, z))
    says_by [] same words (Some net) h = elim h [ ]
    says_by (y ∷ cs) same words None h = no_net h
    says_by (y ∷ cs) same words (Some net) h =
        over_all (λ y. turn (slot_cycle shape x) (λ q. slot_found x q j) i y ≤ suc m → is_on s net (turn (slot_cycle shape x) (λ q. slot_found x q j) i y) ≡ (slot_found x y j i).wanted)
        (λ q there g below late. by_masks q there g below (subst (λ z. TakesWords s z w.part w.nets w.before w.rows (length w.places)) (sym same) words) net h late)

  pub says_wanted : (x j i : ℕ) (mem : Member) → MemberCircuit s w.child counters stages w.nets w.rows w.places x j i mem → (m : ℕ) → Stepping core plan delays laws s events last near env around earlier k n counters style owned stages right is c w answered qs t le ready (suc m) → Looping core plan delays laws s events last near env around earlier k n counters style owned stages right is c w answered qs t le ready m
      → SaysWanted s mem.wanted (turn (slot_cycle shape x) (λ q. slot_found x q j) i) (λ q. slot_found x q j i) (groups_in runs) (suc m)
  says_wanted x j i mem h m stepping looping = says_by x j i h.place m stepping looping counters refl w.words mem.wanted h.wanted

  -- nothing is told in the first cycle
  pub none_told : (x j i : ℕ) (mem : Member) → SaysWanted s mem.wanted (turn (slot_cycle shape x) (λ q. slot_found x q j) i) (λ q. slot_found x q j i) (groups_in runs) 0
  none_told x j i mem = by mem.wanted
    where
      by : (o : Option ℕ) → SaysWanted s o (turn (slot_cycle shape x) (λ q. slot_found x q j) i) (λ q. slot_found x q j i) (groups_in runs) 0
      by None = λ y c late. absurd (omega (arith, late))
      by (Some net) = λ y c late. absurd (omega (arith, late))
