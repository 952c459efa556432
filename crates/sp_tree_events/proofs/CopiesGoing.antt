-- Numbers of copies stand around the stages of a loop in beats.
use Rattle.std.proofs.Common.{◌≡◌, ℕ, zero, suc, ◌+◌, ◌%◌, ◌<◌, ◌≤◌, Bool, true, false, List, [], ◌∷◌, map, length, slice_index, Option, Some, None, if◌then◌else◌, refl, sym, ap, subst, ◌∙◌, arith}
use Rattle.std.specs.List.{Contains}
use Rattle.sp_words.specs.declared.kind.Style.{Style}
use Rattle.sp_netlist.specs.Signals.{Signals}
use Rattle.sp_gates.specs.Tested.{is_on}
use Rattle.sp_core.specs.Declarations.{is_among}
use Rattle.sp_core.specs.PlainCore.{PlainCounter, PlainStages, outer, PlainCore}
use Rattle.sp_plan.specs.PlainPlan.{PlainPlan, mem_plan, node_plan}
use Rattle.sp_time.specs.Beats.{Slot, Run, slot_at, took_at, first_cycle}
use Rattle.sp_time.specs.Laws.{BeatsInOrder}
use Rattle.sp_machine.specs.Stamps.{Stamped}
use Rattle.sp_machine.specs.Timeline.{slots_of, in_copies}
use Rattle.sp_machine.specs.Transfers.{Delays}
use Rattle.sp_mem.specs.Copies.{copy_at}
use Rattle.sp_part_runs.specs.BodiesRuns.{IsOnAt}
use Rattle.sp_part_runs.specs.ControlParts.{Ran}
use Rattle.sp_part_runs.specs.SequencesChains.{Numbered, At}
use Rattle.sp_part_runs.specs.SequencesPlaces.{stage_at as stage_in, sizes, IsPlace, AreArranged}
use Rattle.sp_part_runs.proofs.SequencesPlacing.{map_length, same_slot, standing}
use Rattle.sp_part_runs.specs.BeatsLaws.{LoopsAreInTimeline}
use Rattle.sp_part_runs.specs.BeatsRuns.{BeatsRan, beats, beat_cycle, slot_cycle, groups_in}
use Rattle.sp_beat_words.specs.Numbers.{copy_number, coming_number}
use Rattle.sp_part_runs.specs.WordsLaws.{IsAtWork, HasNumber, NumbersGoRound}
use Rattle.sp_node_runs.specs.Runs.{Placed, AreWithin, over_at}
use Rattle.sp_node_runs.specs.ControlBeating.{IsOuter, AreOuters, rows_of, beats_ran, TakeTime}
use Rattle.sp_node_runs.specs.ControlLaws.{IsStarted}
use Rattle.sp_node_runs.specs.ControlRuns.{ran_of, rans}
use Rattle.sp_node_runs.proofs.ControlBeatRuns.{there, mapped_from, in_time, in_turn, whole_one}
use Rattle.sp_node_runs.specs.BodiesRows.{IsInStage}
use Rattle.sp_tree_events.specs.CopiesStanding.{CopyNets, AreNumbered, with_numbers, IsNumber, HaveNumbers}
use Rattle.sp_tree_events.specs.CopiesLaws.{NumbersStand}

mapped_to : {A B : Type 0} (f : A → B) (xs : List A) (x : A) → Contains xs x → Contains (map f xs) (f x)
mapped_to f [] x (i, l, e) = absurd (omega (arith, l))
mapped_to f (y ∷ xs) x (zero, l, e) = (zero, omega arith, ap f e)
mapped_to f (y ∷ xs) x (suc i, l, e) = there (f y) (f x) (map f xs) (mapped_to f xs x (i, omega (arith, l), e))

numbered_at : (Q : ℕ → ℕ → Type 0) (x : ℕ) (xs : List ℕ) (i : ℕ) → i < length xs → Numbered Q x xs → Q (x + i) (slice_index xs i)
numbered_at Q x [] i l h = absurd (omega (arith, l))
numbered_at Q x (y ∷ ys) zero l h = subst (λ n. Q n y) {x = x} {y = x + 0} (omega arith) h.0
numbered_at Q x (y ∷ ys) (suc i) l h = subst (λ n. Q n (slice_index ys i)) {x = suc x + i} {y = x + suc i} (omega arith) (numbered_at Q (suc x) ys i (omega (arith, l)) h.1)

outer_at : (rs : List Placed) → AreOuters rs → (r : Placed) → Contains rs r → IsOuter r.history
outer_at [] is r (i, l, e) = absurd (omega (arith, l))
outer_at (q ∷ rs) is r (zero, l, e) = subst (λ (x : Placed). IsOuter x.history) e is.0
outer_at (q ∷ rs) is r (suc i, l, e) = outer_at rs is.1 r (i, omega (arith, l), e)

-- the beat in which a slot works on a group is one of the run
in_beats : (groups slots g x : ℕ) → g < groups → x < slots → suc (g + x) ≤ beats groups slots
in_beats zero slots g x l m = absurd (omega (arith, l))
in_beats (suc n) zero g x l m = absurd (omega (arith, m))
in_beats (suc n) (suc k) g x l m = omega (arith, l, m)

-- a net that has a slot's number
number_stands : (s : Signals) (start first copies t : ℕ) (net : Option ℕ) (g : ℕ) → IsNumber s start first copies net → copy_number (is_on s start) (is_on s first) copies t ≡ g % copies → copy_at s t net ≡ g % copies
number_stands s start first copies t None g is e = let z : 0 ≡ g % 1 = omega arith in z ∙ ap (λ c. g % c) (sym is)
number_stands s start first copies t (Some net) g is e = is t ∙ e

module _ (core : PlainCore) (plan : PlainPlan) (delays : Delays) (order : BeatsInOrder) (timeline : LoopsAreInTimeline) (rounds : NumbersGoRound) (k n : ℕ) (counters : List PlainCounter) (style : Style) (owned : List ℕ) (stages : PlainStages) (places : List (List (List ℕ)))
    (arranged : AreArranged places (slots_of (node_plan plan k))) (runs : List Placed) (takes : TakeTime core plan delays k n counters owned stages places runs) where
  abbrev ran : Placed → BeatsRan
  ran r = beats_ran core plan delays k n counters owned stages places r

  abbrev rows_in : Placed → List (List (Run Stamped))
  rows_in r = rows_of core plan delays k n counters owned stages places r

  abbrev slots : List Slot
  slots = slots_of (node_plan plan k)

  size : length (sizes places) ≡ length places
  size = map_length (λ (chains : List (List ℕ)). map (λ (c : List ℕ). length c) chains) places

  -- a stage at a place is one of its slot
  in_slot : (x j i : ℕ) → IsPlace places x j i → (stage_in places x j i < length slots) × ((slot_at slots (stage_in places x j i)).slot ≡ x)
  in_slot x j i (a, b, c) =
      let h = arranged.chains x j a b in
      let q = standing slots (λ s. s) (record { slot = x; chain = h.0 }) (length slots) i (subst (λ (xs : List ℕ). i < length xs) h.1 c) in
      let is : stage_in places x j i ≡ q.stage = ap (λ (xs : List ℕ). slice_index xs i) h.1 ∙ q.is in
      let same : slot_at slots q.stage ≡ record { slot = x; chain = h.0 } = same_slot (slot_at slots q.stage) (record { slot = x; chain = h.0 }) q.here in
      (subst (λ m. m < length slots) (sym is) q.below, ap (λ m. (slot_at slots m).slot) is ∙ ap (λ (y : Slot). y.slot) same)

  -- the first cycle of a beat in which a slot has a group
  pub beat_at : (r : Placed) (g x : ℕ) → Contains runs r → g < length (rows_in r) → x < length places → beat_cycle (sizes places) (g + x) (ran r) ≡ r.cycle + first_cycle slots (took_at (rows_in r)) (g + x)
  beat_at r g x c below few =
      let in_all = in_beats (length (rows_in r)) (length (sizes places)) g x below (omega (arith, few, size)) in
      (in_time core plan delays k n counters owned stages places timeline arranged runs takes r c).beats (g + x) (omega (arith, in_all))

  -- while a stage is at work, so is its slot, and the loop goes on
  module _ (r : Placed) (c : Contains runs r) (g x j i t : ℕ) (below : g < length (rows_in r)) (place : IsPlace places x j i) (within : IsInStage core plan delays k n counters owned stages places r g (stage_in places x j i) t) where
    at_slot : (stage_in places x j i < length slots) × ((slot_at slots (stage_in places x j i)).slot ≡ x)
    at_slot = in_slot x j i place

    at_work : (last : ℕ) → t ≤ suc last → IsAtWork (sizes places) (ran r) g x last t
    at_work last late =
        let time = in_time core plan delays k n counters owned stages places timeline arranged runs takes r c in
        let in_all = in_beats (length (rows_in r)) (length (sizes places)) g x below (let p = place.0 in omega (arith, p, size)) in
        let this = time.beats (g + x) (omega (arith, in_all)) in
        let next = time.beats (suc (g + x)) in_all in
        let slot = at_slot.1 in
        let begins = (order slots (took_at (rows_in r))).in_beat g (stage_in places x j i) (g + x) (omega (arith, slot)) in
        let ends = (order slots (took_at (rows_in r))).after_beat g (stage_in places x j i) (suc (g + x)) at_slot.0 (omega (arith, slot)) in
        let low = within.0 in
        let high = within.1 in
        (omega (arith, this, begins, low), omega (arith, this, next, ends, high), late)

    in_run : IsOuter r.history → (r.cycle < t) × (t < over_at core plan delays (outer counters style owned stages) k n r)
    in_run is =
        let time = in_time core plan delays k n counters owned stages places timeline arranged runs takes r c in
        let e = ap (λ (w : Ran). w.took) (whole_one core plan delays k n counters owned stages places timeline arranged runs takes style r c is) in
        let lasts = time.lasts in
        let w = (order slots (took_at (rows_in r))).within (length (rows_in r)) g (stage_in places x j i) below at_slot.0 in
        let b = (order slots (took_at (rows_in r))).in_beat g (stage_in places x j i) 0 (omega arith) in
        let low = within.0 in
        let high = within.1 in
        (omega (arith, low, b), omega (arith, high, w, e, lasts))

  module _ (s : Signals) (start : ℕ) (firsts : List ℕ) (numbers : (slot : ℕ) → CopyNets) (last : ℕ) (around : CopyNets) (from until : ℕ) (outers : AreOuters runs) (turns : AreWithin core plan delays (outer counters style owned stages) k n from until runs)
      (few : length firsts ≤ length places) (deep : (m : ℕ) → is_among m owned ≡ true → 1 ≤ (mem_plan plan m).depth) (have : (x : ℕ) → x < length firsts → HaveNumbers plan s start (slice_index firsts x) owned (numbers x))
      (started : IsStarted s start (rans core plan delays (outer counters style owned stages) k n runs) last)
      (first_cycles : Numbered (λ x first. IsOnAt (is_on s first) (At (slot_cycle (sizes places) x) (groups_in (map ran runs))) last) 0 firsts)
      (stand : (r : Placed) (t : ℕ) → Contains runs r → r.cycle < t → t < over_at core plan delays (outer counters style owned stages) k n r → t ≤ suc last → AreNumbered s t around r.copies) where
    starts_at : IsOnAt (is_on s start) (At (λ (r : BeatsRan). r.cycle) (map ran runs)) last
    starts_at = record { on = on; only = only }
      where
        on : (t : ℕ) → t ≤ last → At (λ (r : BeatsRan). r.cycle) (map ran runs) t → is_on s start t ≡ true
        on t l (b, c, e) =
            let x = mapped_from ran runs b c in
            started.on t l (ran_of core plan delays (outer counters style owned stages) k n x.0, mapped_to (ran_of core plan delays (outer counters style owned stages) k n) runs x.0 x.1, e ∙ sym (ap (λ (z : BeatsRan). z.cycle) x.2))

        only : (t : ℕ) → t ≤ last → is_on s start t ≡ true → At (λ (r : BeatsRan). r.cycle) (map ran runs) t
        only t l h =
            let b = started.only t l h in
            let x = mapped_from (ran_of core plan delays (outer counters style owned stages) k n) runs b.0 b.1 in
            (ran x.0, mapped_to ran runs x.0 x.1, b.2 ∙ sym (ap (λ (z : Ran). z.cycle) x.2))

    first_at : (x : ℕ) → x < length firsts → IsOnAt (is_on s (slice_index firsts x)) (At (slot_cycle (sizes places) x) (groups_in (map ran runs))) last
    first_at x l =
        subst (λ y. IsOnAt (is_on s (slice_index firsts x)) (At (slot_cycle (sizes places) y) (groups_in (map ran runs))) last) {x = 0 + x} {y = x} (omega arith)
        (numbered_at (λ x first. IsOnAt (is_on s first) (At (slot_cycle (sizes places) x) (groups_in (map ran runs))) last) 0 firsts x l first_cycles)

    has : (r : Placed) (g x m : ℕ) → Contains runs r → g < length (rows_in r) → x < length firsts → is_among m owned ≡ true → HasNumber (sizes places) (ran r) g x last (is_on s start) (is_on s (slice_index firsts x)) (mem_plan plan m).depth
    has r g x m c below l own =
        rounds (sizes places) (map ran runs) x (is_on s start) (is_on s (slice_index firsts x)) (mem_plan plan m).depth last (deep m own) (omega (arith, l, few, size))
        (in_turn core plan delays k n counters owned stages places timeline arranged runs takes style outers from until turns) starts_at (first_at x l) (ran r) g (mapped_to ran runs r c) below

    all_stand : (r : Placed) (g x j i t : ℕ) → Contains runs r → g < length (rows_in r) → x < length firsts → IsPlace places x j i → IsInStage core plan delays k n counters owned stages places r g (stage_in places x j i) t → t ≤ suc last
        → AreNumbered s t (with_numbers around owned (numbers x)) (in_copies core plan delays owned g r.copies)
    all_stand r g x j i t c below l place within late m = by (is_among m owned) refl
      where
        by : (b : Bool) → is_among m owned ≡ b → copy_at s t (if b then numbers x m else around m) ≡ (if b then g % (mem_plan plan m).depth else r.copies m)
        by true own = number_stands s start (slice_index firsts x) (mem_plan plan m).depth t (numbers x m) g (have x l m own) ((has r g x m c below l own).stays t (at_work r c g x j i t below place within last late))
        by false out = let run = in_run r c g x j i t below place within (outer_at runs outers r c) in stand r t c run.0 run.1 late m

    all_come : (r : Placed) (g x m : ℕ) → Contains runs r → g < length (rows_in r) → x < length firsts → is_among m owned ≡ true → r.cycle + first_cycle slots (took_at (rows_in r)) (g + x) ≤ last
        → coming_number (is_on s start) (is_on s (slice_index firsts x)) (mem_plan plan m).depth (r.cycle + first_cycle slots (took_at (rows_in r)) (g + x)) ≡ in_copies core plan delays owned g r.copies m
    all_come r g x m c below l own late =
        let at = beat_at r g x c below (omega (arith, l, few)) in
        subst (λ u. coming_number (is_on s start) (is_on s (slice_index firsts x)) (mem_plan plan m).depth u ≡ g % (mem_plan plan m).depth) at ((has r g x m c below l own).comes (omega (arith, at, late)))
        ∙ sym (ap (λ b. if b then g % (mem_plan plan m).depth else r.copies m) own)

pub numbers_stand : (core : PlainCore) (plan : PlainPlan) (delays : Delays) → BeatsInOrder → LoopsAreInTimeline → NumbersGoRound → NumbersStand core plan delays
numbers_stand core plan delays order timeline rounds s start firsts numbers last k n counters style owned stages places around from until runs outers turns arranged takes few deep have started first_cycles stand = record {
  stand = all_stand core plan delays order timeline rounds k n counters style owned stages places arranged runs takes s start firsts numbers last around from until outers turns few deep have started first_cycles stand;
  come = all_come core plan delays order timeline rounds k n counters style owned stages places arranged runs takes s start firsts numbers last around from until outers turns few deep have started first_cycles stand;
}
