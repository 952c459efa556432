-- Where a loop makes its memories fresh.
use Rattle.std.proofs.Common.{◌≡◌, ℕ, zero, suc, ◌+◌, ◌<◌, ◌≤◌, ◌⊎◌, inl, inr, Bool, true, false, ◌==◌, ◌||◌, List, [], ◌∷◌, map, length, flat_map, slice_index, sum_by, refl, sym, ap, subst, ◌∙◌, arith}
use Rattle.std.specs.List.{Contains}
use Rattle.std.proofs.lemmas.Bool.{eqb-true, true≢false}
use Rattle.std.proofs.lemmas.List.Elements.{Contains-append_left, Contains-append_right, Contains-append_cases}
use Rattle.sp_words.specs.declared.kind.Style.{Style}
use Rattle.sp_netlist.specs.Signals.{Signals}
use Rattle.sp_gates.specs.Tested.{is_on}
use Rattle.sp_core.specs.Declarations.{is_among}
use Rattle.sp_core.specs.Events.{renews, inside_at, before, bounds_moments}
use Rattle.sp_core.specs.History.{Bounds, History, inner_ran, outer_ran, fsm_ran, branch_ran, moved, picked}
use Rattle.sp_core.specs.Invariant.{owned_in}
use Rattle.sp_core.specs.Numbering.{counters_size}
use Rattle.sp_core.specs.PlainCore.{PlainCounter, PlainNode, PlainStages, outer, PlainCore}
use Rattle.sp_plan.specs.PlainPlan.{PlainPlan, mem_plan, node_plan}
use Rattle.sp_plan.specs.Validity.{stage_count}
use Rattle.sp_time.specs.Beats.{Slot, Run, took_at, first_cycle}
use Rattle.sp_time.specs.Laws.{BeatsInOrder}
use Rattle.sp_machine.specs.Laws.{TellsAll}
use Rattle.sp_machine.specs.Stamps.{Stamped, stamped, moved as moved_on, later}
use Rattle.sp_machine.specs.Timeline.{slots_of, in_copies, first_slot, fresh_events}
use Rattle.sp_machine.specs.Transfers.{Delays}
use Rattle.sp_overlap.specs.Whole.{AreTimed}
use Rattle.sp_part_runs.specs.BodiesRuns.{IsOnAt}
use Rattle.sp_part_runs.specs.SequencesChains.{At}
use Rattle.sp_part_runs.specs.SequencesPlaces.{sizes, AreArranged}
use Rattle.sp_part_runs.specs.BeatsLaws.{LoopsAreInTimeline}
use Rattle.sp_part_runs.specs.BeatsRuns.{BeatsRan, beat_cycle, slot_cycle, groups_in}
use Rattle.sp_part_runs.proofs.BeatsCounting.{in_turns_of, turns_of_in}
use Rattle.sp_beat_words.specs.Numbers.{coming_number}
use Rattle.sp_part_runs.specs.WordsLaws.{NumbersGoRound}
use Rattle.sp_node_runs.specs.Runs.{Placed, table, stage_at, node_at, number_at, stage_runs}
use Rattle.sp_node_runs.specs.RunsTold.{all_events, fresh_from, outer_alone, StagesAreTold}
use Rattle.sp_node_runs.specs.ControlBeating.{IsOuter, AreOuters, groups_of, values_of, rows_of, beats_ran, TakeTime}
use Rattle.sp_node_runs.proofs.ControlBeatRuns.{here, there, mapped_from}
use Rattle.sp_tree_events.specs.CopiesStanding.{CopyNets}
use Rattle.sp_tree_events.specs.CopiesLaws.{NumbersGo}
use Rattle.sp_tree_events.proofs.CopiesGoing.{beat_at}
use Rattle.sp_tree_events.specs.OwnersOwning.{renewed, Shows, RunsOwn}
use Rattle.sp_tree_events.proofs.OwnersDeeds.{bounds_owned}
use Rattle.sp_tree_events.proofs.OwnersParting.{later_owned, stamped_owned, runs_owned, stage_timed, total_none}
use Rattle.sp_tree_events.proofs.OwnersWeighing.{weight, some_weigh, weigh_some, none_weigh}
use Rattle.sp_tree_events.specs.ActsRenewing.{Renews, LoopsRenew}

pub joined_from : {A B : Type 0} (f : A → List B) (xs : List A) (y : B) → Contains (flat_map f xs) y → (x : A) × Contains xs x × Contains (f x) y
joined_from f [] y (k, l, e) = absurd (omega (arith, l))
joined_from f (z ∷ xs) y c = by (Contains-append_cases (f z) (flat_map f xs) y c) (joined_from f xs y)
  where
    by : Contains (f z) y ⊎ Contains (flat_map f xs) y → (Contains (flat_map f xs) y → (x : _) × Contains xs x × Contains (f x) y) → (x : _) × Contains (z ∷ xs) x × Contains (f x) y
    by (inl d) rest = (z, here z xs, d)
    by (inr d) rest = let r = rest d in (r.0, there z r.0 xs r.1, r.2)

pub joined_to : {A B : Type 0} (f : A → List B) (xs : List A) (x : A) (y : B) → Contains xs x → Contains (f x) y → Contains (flat_map f xs) y
joined_to f [] x y (k, l, e) d = absurd (omega (arith, l))
joined_to f (z ∷ xs) x y (zero, l, e) d = Contains-append_left (f z) (flat_map f xs) y (subst (λ w. Contains (f w) y) (sym e) d)
joined_to f (z ∷ xs) x y (suc k, l, e) d = Contains-append_right (f z) (flat_map f xs) y (joined_to f xs x y (k, omega (arith, l), e) d)

outer_at : (rs : List Placed) → AreOuters rs → (r : Placed) → Contains rs r → IsOuter r.history
outer_at [] is r (i, l, e) = absurd (omega (arith, l))
outer_at (q ∷ rs) is r (zero, l, e) = subst (λ (x : Placed). IsOuter x.history) e is.0
outer_at (q ∷ rs) is r (suc i, l, e) = outer_at rs is.1 r (i, omega (arith, l), e)

module _ (core : PlainCore) (plan : PlainPlan) (delays : Delays) (k n : ℕ) (counters : List PlainCounter) (style : Style) (owned : List ℕ) (stages : PlainStages) (m : ℕ) where
  abbrev slots : List Slot
  slots = slots_of (node_plan plan k)

  abbrev slot : ℕ
  slot = first_slot core plan delays (node_plan plan k) stages m

  module _ (r : Placed) (runs : List (List (Run Stamped))) where
    abbrev cycle_in : (group : ℕ) → ℕ
    cycle_in g = r.cycle + first_cycle slots (took_at runs) (g + slot)

    abbrev copy_in : (group : ℕ) → ℕ
    copy_in g = in_copies core plan delays owned g r.copies m

    abbrev fresh : (group : ℕ) → (os : List ℕ) → List Stamped
    fresh g os = later r.cycle (fresh_events core plan delays slots runs (node_plan plan k) stages (in_copies core plan delays owned g r.copies) g os)

    -- in a group
    fresh_shows : (g : ℕ) (os : List ℕ) → is_among m os ≡ true → Shows (fresh g os) (cycle_in g) (copy_in g) (renewed m)
    fresh_shows g [] h = absurd (true≢false (sym h))
    fresh_shows g (x ∷ os) h = by (m == x) refl h (fresh_shows g os)
      where
        by : (b : Bool) → (m == x) ≡ b → (b || is_among m os) ≡ true → (is_among m os ≡ true → Shows (fresh g os) (cycle_in g) (copy_in g) (renewed m)) → Shows (fresh g (x ∷ os)) (cycle_in g) (copy_in g) (renewed m)
        by true q h rest = let e : x ≡ m = sym (eqb-true m x q) in (0, omega arith, ap (λ y. moved_on r.cycle (record { cycle = first_cycle slots (took_at runs) (g + first_slot core plan delays (node_plan plan k) stages y); copy = in_copies core plan delays owned g r.copies y; moment = renews y })) e)
        by false q h rest = let z = rest h in (suc z.0, (let l = z.1 in omega (arith, l)), z.2)

    fresh_is : (g : ℕ) (os : List ℕ) (t c : ℕ) → Shows (fresh g os) t c (renewed m) → (t ≡ cycle_in g) × (c ≡ copy_in g)
    fresh_is g [] t c (i, l, e) = absurd (omega (arith, l))
    fresh_is g (x ∷ os) t c (zero, l, e) =
        let same : x ≡ m = mem_same x m (ap (λ (y : Stamped). y.moment) e) in
        (sym (ap (λ (y : Stamped). y.cycle) e) ∙ ap (λ y. r.cycle + first_cycle slots (took_at runs) (g + first_slot core plan delays (node_plan plan k) stages y)) same, sym (ap (λ (y : Stamped). y.copy) e) ∙ ap (in_copies core plan delays owned g r.copies) same)
      where
        mem_same : (a b : ℕ) → renews a ≡ renews b → a ≡ b
        mem_same a b q = cc (q)
    fresh_is g (x ∷ os) t c (suc i, l, e) = fresh_is g os t c (i, omega (arith, l), e)

    -- in groups from one on
    from_shows : (own : is_among m owned ≡ true) (g : ℕ) (rows : List (List (Run Stamped))) (i : ℕ) → i < length rows → Shows (fresh_from core plan delays k n counters style owned stages r runs g rows) (cycle_in (g + i)) (copy_in (g + i)) (renewed m)
    from_shows own g [] i l = absurd (omega (arith, l))
    from_shows own g (row ∷ rows) zero l =
        Contains-append_left (fresh g owned) (fresh_from core plan delays k n counters style owned stages r runs (suc g) rows) _
        (subst (λ j. Shows (fresh g owned) (cycle_in j) (copy_in j) (renewed m)) {x = g} {y = g + 0} (omega arith) (fresh_shows g owned own))
    from_shows own g (row ∷ rows) (suc i) l =
        Contains-append_right (fresh g owned) (fresh_from core plan delays k n counters style owned stages r runs (suc g) rows) _
        (subst (λ j. Shows (fresh_from core plan delays k n counters style owned stages r runs (suc g) rows) (cycle_in j) (copy_in j) (renewed m)) {x = suc g + i} {y = g + suc i} (omega arith) (from_shows own (suc g) rows i (omega (arith, l))))

    from_is : (g : ℕ) (rows : List (List (Run Stamped))) (t c : ℕ) → Shows (fresh_from core plan delays k n counters style owned stages r runs g rows) t c (renewed m) → (i : ℕ) × (i < length rows) × (t ≡ cycle_in (g + i)) × (c ≡ copy_in (g + i))
    from_is g [] t c (i, l, e) = absurd (omega (arith, l))
    from_is g (row ∷ rows) t c h = by (Contains-append_cases (fresh g owned) (fresh_from core plan delays k n counters style owned stages r runs (suc g) rows) _ h) (from_is (suc g) rows t c)
      where
        by : Shows (fresh g owned) t c (renewed m) ⊎ Shows (fresh_from core plan delays k n counters style owned stages r runs (suc g) rows) t c (renewed m)
            → (Shows (fresh_from core plan delays k n counters style owned stages r runs (suc g) rows) t c (renewed m) → (i : ℕ) × (i < length rows) × (t ≡ cycle_in (suc g + i)) × (c ≡ copy_in (suc g + i)))
            → (i : ℕ) × (i < length (row ∷ rows)) × (t ≡ cycle_in (g + i)) × (c ≡ copy_in (g + i))
        by (inl d) rest = let z = fresh_is g owned t c d in let e : g ≡ g + 0 = omega arith in (0, omega arith, z.0 ∙ ap cycle_in e, z.1 ∙ ap copy_in e)
        by (inr d) rest = let z = rest d in let e : suc g + z.0 ≡ g + suc z.0 = omega arith in (suc z.0, (let l = z.1 in omega (arith, l)), z.2 ∙ ap cycle_in e, z.3 ∙ ap copy_in e)

  abbrev rows_in : Placed → History → List (List (Run Stamped))
  rows_in r h = table core plan delays counters owned stages k n 0 r (values_of counters h) (groups_of h)

  abbrev alone : Placed → History → List Stamped
  alone r h = outer_alone core plan delays k n counters style owned stages r h

  alone_shows : is_among m owned ≡ true → (r : Placed) (h : History) → IsOuter h → (g : ℕ) → g < length (rows_in r h) → Shows (alone r h) (cycle_in r (rows_in r h) g) (copy_in r (rows_in r h) g) (renewed m)
  alone_shows own r (outer_ran bs counts groups) is g l =
      Contains-append_right (later r.cycle (stamped r.copies 0 (bounds_moments n (inside_at r.standing k before []) counters bs))) (fresh_from core plan delays k n counters style owned stages r (rows_in r (outer_ran bs counts groups)) 0 (rows_in r (outer_ran bs counts groups))) _
      (subst (λ j. Shows (fresh_from core plan delays k n counters style owned stages r (rows_in r (outer_ran bs counts groups)) 0 (rows_in r (outer_ran bs counts groups))) (cycle_in r (rows_in r (outer_ran bs counts groups)) j) (copy_in r (rows_in r (outer_ran bs counts groups)) j) (renewed m)) {x = 0 + g} {y = g} (omega arith)
      (from_shows r (rows_in r (outer_ran bs counts groups)) own 0 (rows_in r (outer_ran bs counts groups)) g l))
  alone_shows own r (inner_ran bs counts groups) is g l = elim is [ ]
  alone_shows own r (fsm_ran first ts last) is g l = elim is [ ]
  alone_shows own r (branch_ran es side h) is g l = elim is [ ]
  alone_shows own r (moved taken words) is g l = elim is [ ]
  alone_shows own r (picked es words) is g l = elim is [ ]

  -- bounds make nothing fresh
  no_bound : (r : Placed) (bs : List Bounds) (t c : ℕ) → Shows (later r.cycle (stamped r.copies 0 (bounds_moments n (inside_at r.standing k before []) counters bs))) t c (renewed m) → ⊥
  no_bound r bs t c h =
      let some = some_weigh t c (renewed m) _ h in
      let none = none_weigh t c (renewed m) [] refl (later r.cycle (stamped r.copies 0 (bounds_moments n (inside_at r.standing k before []) counters bs)))
      (later_owned [] r.cycle _ (stamped_owned [] r.copies 0 (bounds_moments n (inside_at r.standing k before []) counters bs) (bounds_owned core [] counters bs n (inside_at r.standing k before [])))) in
      absurd (omega (arith, some, none))

  alone_is : (r : Placed) (h : History) → IsOuter h → (t c : ℕ) → Shows (alone r h) t c (renewed m) → (g : ℕ) × (g < length (rows_in r h)) × (t ≡ cycle_in r (rows_in r h) g) × (c ≡ copy_in r (rows_in r h) g)
  alone_is r (outer_ran bs counts groups) is t c h =
      by (Contains-append_cases (later r.cycle (stamped r.copies 0 (bounds_moments n (inside_at r.standing k before []) counters bs))) (fresh_from core plan delays k n counters style owned stages r (rows_in r (outer_ran bs counts groups)) 0 (rows_in r (outer_ran bs counts groups))) _ h)
    where
      by : Shows (later r.cycle (stamped r.copies 0 (bounds_moments n (inside_at r.standing k before []) counters bs))) t c (renewed m) ⊎ Shows (fresh_from core plan delays k n counters style owned stages r (rows_in r (outer_ran bs counts groups)) 0 (rows_in r (outer_ran bs counts groups))) t c (renewed m)
          → (g : ℕ) × (g < length (rows_in r (outer_ran bs counts groups))) × (t ≡ cycle_in r (rows_in r (outer_ran bs counts groups)) g) × (c ≡ copy_in r (rows_in r (outer_ran bs counts groups)) g)
      by (inl d) = absurd (no_bound r bs t c d)
      by (inr d) =
          let z = from_is r (rows_in r (outer_ran bs counts groups)) 0 (rows_in r (outer_ran bs counts groups)) t c d in
          let e : 0 + z.0 ≡ z.0 = omega arith in
          (z.0, z.1, z.2 ∙ ap (cycle_in r (rows_in r (outer_ran bs counts groups))) e, z.3 ∙ ap (copy_in r (rows_in r (outer_ran bs counts groups))) e)
  alone_is r (inner_ran bs counts groups) is t c h = elim is [ ]
  alone_is r (fsm_ran first ts last) is t c h = elim is [ ]
  alone_is r (branch_ran es side hs) is t c h = elim is [ ]
  alone_is r (moved taken words) is t c h = elim is [ ]
  alone_is r (picked es words) is t c h = elim is [ ]

  -- the whole does to the memory what it does by itself
  module _ (tells : (node : PlainNode) → TellsAll core plan delays node) (own_runs : (node : PlainNode) → RunsOwn core node) (told_stages : StagesAreTold core plan delays) (timed : AreTimed stages) (others : (i : ℕ) → is_among m (owned_in (stage_at stages i)) ≡ false) (runs : List Placed) where
    same_weight : (t c : ℕ) → sum_by (weight t c (renewed m)) (all_events core plan delays (outer counters style owned stages) k n runs) ≡ sum_by (weight t c (renewed m)) (flat_map (λ r. alone r r.history) runs)
    same_weight t c =
        let all = told_stages (weight t c (renewed m)) k n counters style owned stages runs in
        let none = total_none core plan delays tells own_runs (λ s. sum_by (weight t c (renewed m)) (all_events core plan delays (stage_at stages s) (node_at stages (suc k) s) (number_at stages (n + counters_size counters) s) (stage_runs core plan delays counters owned stages k n s runs))) (stage_count stages)
        (λ s l. none_weigh t c (renewed m) (owned_in (stage_at stages s)) (others s) _ (runs_owned core plan delays tells own_runs (stage_at stages s) (node_at stages (suc k) s) (number_at stages (n + counters_size counters) s) (stage_timed core plan delays tells own_runs stages timed s) (stage_runs core plan delays counters owned stages k n s runs))) in
        omega (arith, all, none)

    whole_is : (t c : ℕ) → Shows (all_events core plan delays (outer counters style owned stages) k n runs) t c (renewed m) → Shows (flat_map (λ r. alone r r.history) runs) t c (renewed m)
    whole_is t c h = let w = some_weigh t c (renewed m) _ h in let q = same_weight t c in weigh_some t c (renewed m) _ (omega (arith, w, q))

    whole_shows : (t c : ℕ) → Shows (flat_map (λ r. alone r r.history) runs) t c (renewed m) → Shows (all_events core plan delays (outer counters style owned stages) k n runs) t c (renewed m)
    whole_shows t c h = let w = some_weigh t c (renewed m) _ h in let q = same_weight t c in weigh_some t c (renewed m) _ (omega (arith, w, q))

pub mapped_to : {A B : Type 0} (f : A → B) (xs : List A) (x : A) → Contains xs x → Contains (map f xs) (f x)
mapped_to f [] x (i, l, e) = absurd (omega (arith, l))
mapped_to f (y ∷ xs) x (zero, l, e) = (zero, omega arith, ap f e)
mapped_to f (y ∷ xs) x (suc i, l, e) = there (f y) (f x) (map f xs) (mapped_to f xs x (i, omega (arith, l), e))

module _ (core : PlainCore) (plan : PlainPlan) (delays : Delays) (order : BeatsInOrder) (timeline : LoopsAreInTimeline) (rounds : NumbersGoRound) (tells : (node : PlainNode) → TellsAll core plan delays node) (own_runs : (node : PlainNode) → RunsOwn core node) (told_stages : StagesAreTold core plan delays)
    (s : Signals) (start : ℕ) (firsts : List ℕ) (numbers : (slot : ℕ) → CopyNets) (last k n : ℕ) (counters : List PlainCounter) (style : Style) (owned : List ℕ) (stages : PlainStages) (places : List (List (List ℕ))) (around : CopyNets) (runs : List Placed) (m : ℕ)
    (outers : AreOuters runs) (arranged : AreArranged places (slots_of (node_plan plan k))) (takes : TakeTime core plan delays k n counters owned stages places runs) (timed : AreTimed stages)
    (own : is_among m owned ≡ true) (others : (i : ℕ) → is_among m (owned_in (stage_at stages i)) ≡ false) (few : length firsts ≤ length places) (below : first_slot core plan delays (node_plan plan k) stages m < length firsts)
    (first : IsOnAt (is_on s (slice_index firsts (first_slot core plan delays (node_plan plan k) stages m))) (At (slot_cycle (sizes places) (first_slot core plan delays (node_plan plan k) stages m)) (groups_in (map (beats_ran core plan delays k n counters owned stages places) runs))) last)
    (go : NumbersGo core plan delays s start firsts numbers last k n counters owned stages places around runs) where
  abbrev x : ℕ
  x = first_slot core plan delays (node_plan plan k) stages m

  abbrev ran : Placed → BeatsRan
  ran r = beats_ran core plan delays k n counters owned stages places r

  abbrev rows : Placed → List (List (Run Stamped))
  rows r = rows_of core plan delays k n counters owned stages places r

  abbrev number : ℕ → ℕ
  number t = coming_number (is_on s start) (is_on s (slice_index firsts x)) (mem_plan plan m).depth t

  abbrev whole : List Stamped
  whole = all_events core plan delays (outer counters style owned stages) k n runs

  beat : (r : Placed) (g : ℕ) → Contains runs r → g < length (rows r) → beat_cycle (sizes places) (g + x) (ran r) ≡ r.cycle + first_cycle (slots_of (node_plan plan k)) (took_at (rows r)) (g + x)
  beat r g c l = beat_at core plan delays order timeline rounds k n counters style owned stages places arranged runs takes r g x c l (omega (arith, below, few))

  made : (t c : ℕ) → t ≤ last → Shows whole t c (renewed m) → (is_on s (slice_index firsts x) t ≡ true) × (number t ≡ c)
  made t c late h =
      let r = joined_from (λ (q : Placed). outer_alone core plan delays k n counters style owned stages q q.history) runs _ (whole_is core plan delays k n counters style owned stages m tells own_runs told_stages timed others runs t c h) in
      let z = alone_is core plan delays k n counters style owned stages m r.0 r.0.history (outer_at runs outers r.0 r.1) t c r.2 in
      let e = z.2 in
      let comes = go.come r.0 z.0 x m r.1 z.1 below own (omega (arith, e, late)) in (
        first.on t late (record { run = ran r.0; number = z.0 }, in_turns_of (λ (b : BeatsRan). b.groups) (map ran runs) (ran r.0) z.0 (mapped_to ran runs r.0 r.1) z.1, z.2 ∙ sym (beat r.0 z.0 r.1 z.1)),
        ap number z.2 ∙ comes ∙ sym z.3,
      )

  only : (t : ℕ) → t ≤ last → is_on s (slice_index firsts x) t ≡ true → Shows whole t (number t) (renewed m)
  only t late h =
      let a = first.only t late h in
      let inside = turns_of_in (λ (b : BeatsRan). b.groups) (map ran runs) a.0 a.1 in
      let r = mapped_from ran runs a.0.run inside.0 in
      let l : a.0.number < length (rows r.0) = subst (λ (b : BeatsRan). a.0.number < b.groups) (sym r.2) inside.1 in
      let at : t ≡ r.0.cycle + first_cycle (slots_of (node_plan plan k)) (took_at (rows r.0)) (a.0.number + x) = a.2 ∙ ap (λ b. beat_cycle (sizes places) (a.0.number + x) b) (sym r.2) ∙ beat r.0 a.0.number r.1 l in
      let comes = go.come r.0 a.0.number x m r.1 l below own (omega (arith, at, late)) in
      let shown = whole_shows core plan delays k n counters style owned stages m tells own_runs told_stages timed others runs _ _
      (joined_to (λ (q : Placed). outer_alone core plan delays k n counters style owned stages q q.history) runs r.0 _ r.1 (alone_shows core plan delays k n counters style owned stages m own r.0 r.0.history (outer_at runs outers r.0 r.1) a.0.number l)) in
      subst (λ u. Shows whole u (number u) (renewed m)) (sym at) (subst (λ c. Shows whole (r.0.cycle + first_cycle (slots_of (node_plan plan k)) (took_at (rows r.0)) (a.0.number + x)) c (renewed m)) (sym comes) shown)

  renews_so : Renews s whole m (slice_index firsts x) number last
  renews_so = record { made = made; only = only }

pub loops_renew : (core : PlainCore) (plan : PlainPlan) (delays : Delays) → BeatsInOrder → LoopsAreInTimeline → NumbersGoRound → ((node : PlainNode) → TellsAll core plan delays node) → ((node : PlainNode) → RunsOwn core node) → StagesAreTold core plan delays → LoopsRenew core plan delays
loops_renew core plan delays order timeline rounds tells own_runs told_stages s start firsts numbers last k n counters style owned stages places around runs m outers arranged takes timed own others few below first go =
    renews_so core plan delays order timeline rounds tells own_runs told_stages s start firsts numbers last k n counters style owned stages places around runs m outers arranged takes timed own others few below first go
