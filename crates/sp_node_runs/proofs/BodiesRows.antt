-- The counters of a loop in beats stand around its stages.
use Rattle.std.proofs.Common.{◌≡◌, ℕ, zero, suc, ◌+◌, ◌<◌, ◌≤◌, ◌==◌, ℤ, List, [], ◌∷◌, ◌++◌, map, length, take, drop, slice_index, slice_index_or, refl, sym, ap, subst, ◌∙◌, arith}
use Rattle.std.specs.List.{Contains}
use Rattle.sp_words.specs.declared.kind.Style.{Style}
use Rattle.sp_netlist.specs.declared.parts.Wire.{Wire}
use Rattle.sp_netlist.specs.Signals.{Signals}
use Rattle.sp_gates.specs.Tested.{is_on}
use Rattle.sp_core.specs.Around.{Near, lanes_of}
use Rattle.sp_core.specs.Events.{Standing}
use Rattle.sp_core.specs.History.{Bounds, Groups, no_group, more_group, outer_ran}
use Rattle.sp_core.specs.Numbering.{counters_size}
use Rattle.sp_core.specs.PlainCore.{PlainCounter, PlainStages, outer, PlainCore}
use Rattle.sp_core.specs.Scope.{Loop, in_lanes, loops_of, group_values, is_live}
use Rattle.sp_counters.specs.declared.part.Counter.{Counter}
use Rattle.sp_counters.specs.declared.part.Counters.{Counters}
use Rattle.sp_counters.specs.declared.part.Counted.{Counted}
use Rattle.sp_counters.specs.Counting as counting
use Rattle.sp_counters.specs.Laws.{AreAtGroup}
use Rattle.sp_plan.specs.PlainPlan.{PlainPlan, node_plan}
use Rattle.sp_time.specs.Beats.{Slot, Run, slot_at, took_at, whole}
use Rattle.sp_time.specs.Laws.{BeatsInOrder}
use Rattle.sp_machine.specs.Stamps.{Stamped, Copies}
use Rattle.sp_machine.specs.Timeline.{slots_of, timed, group_runs}
use Rattle.sp_machine.specs.Transfers.{Delays}
use Rattle.sp_part_runs.specs.BodiesRuns.{IsOnAt}
use Rattle.sp_part_runs.specs.SequencesChains.{Numbered, At}
use Rattle.sp_part_runs.specs.SequencesPlaces.{stage_at as stage_in, sizes, IsPlace, AreArranged}
use Rattle.sp_part_runs.proofs.SequencesPlacing.{map_length, same_slot, standing}
use Rattle.sp_part_runs.specs.BeatsLaws.{LoopsAreInTimeline}
use Rattle.sp_part_runs.specs.BeatsRuns.{BeatsRan, beats, beat_cycle, steps_in, step_cycle}
use Rattle.sp_beat_words.specs.declared.part.Row.{Row}
use Rattle.sp_beat_words.specs.Words.{MoveOn}
use Rattle.sp_part_runs.specs.WordsLaws.{IsAtWork, HaveWords, AreAsLong, WordsGoAlong}
use Rattle.sp_part_runs.specs.StepsLaws.{AreInSteps}
use Rattle.sp_node_runs.specs.Runs.{Placed, AreWithin, over_at, told}
use Rattle.sp_node_runs.specs.ControlBeating.{AreOuters, rows_of, beats_ran, TakeTime}
use Rattle.sp_node_runs.proofs.ControlBeatRuns.{in_time, in_turn}
use Rattle.sp_node_runs.specs.Bodies.{Scopes, group_scope}
use Rattle.sp_node_runs.specs.BodiesGiven.{Nets, values_of, AreStanding}
use Rattle.sp_node_runs.specs.BodiesLaws.{own_near}
use Rattle.sp_node_runs.specs.BodiesRows.{wires_of, with_row, TookBounds, IsInStage, RowsStand}
use Rattle.sp_node_runs.proofs.BodiesListed.{mapped_to}
use Rattle.sp_node_runs.proofs.BodiesInners.{mapped_twice}
use Rattle.sp_node_runs.proofs.BodiesStanding.{inside_stand}
use Rattle.sp_node_runs.proofs.BodiesValues.{group_length, loops_length}

-- each row takes its words along
module _ (P Q : ℕ → Row → Type 0) (count : ℕ) where
  each_row : (x : ℕ) (rows : List Row) → ((y : ℕ) (row : Row) → y < x + length rows → length row.wires.items ≡ count → P y row → Q y row) → AreAsLong count rows → Numbered P x rows → Numbered Q x rows
  each_row x [] step long h = tt
  each_row x (row ∷ rows) step long h = (step x row (omega arith) long.0 h.0, each_row (suc x) rows (λ y r l. step y r (omega (arith, l))) long.1 h.1)

module _ (s : Signals) (t u : ℕ) where
  have_words : (wires before : List Wire) → length wires ≡ length before → HaveWords s t u wires before → map (s.net t) (wires_of wires) ≡ map (s.net u) (wires_of before)
  have_words [] [] e h = refl
  have_words [] (w ∷ before) e h = absurd (omega (arith, e))
  have_words (v ∷ wires) [] e h = absurd (omega (arith, e))
  have_words (v ∷ wires) (w ∷ before) e h = ap (λ x. x ∷ map (s.net t) (wires_of wires)) h.0 ∙ ap (λ xs. s.net u w.net ∷ xs) (have_words wires before (omega (arith, e)) h.1)

module _ (f g : ℕ → ℕ) where
  heads : (x y : ℕ) (xs ys : List ℕ) → map f (x ∷ xs) ≡ map g (y ∷ ys) → (f x ≡ g y) × (map f xs ≡ map g ys)
  heads x y xs ys e = (cc (e), cc (e))

  none_more : (y : ℕ) (ys : List ℕ) → [] ≡ map g (y ∷ ys) → ⊥
  none_more y ys e = absurd (cc (e))

  split_words : (ns vs ms : List ℕ) → map f ns ≡ map g (vs ++ ms) → (map f (take (length vs) ns) ≡ map g vs) × (map f (drop (length vs) ns) ≡ map g ms)
  split_words ns [] ms e = (refl, e)
  split_words [] (v ∷ vs) ms e = absurd (none_more v (vs ++ ms) e)
  split_words (n ∷ ns) (v ∷ vs) ms e = let h = heads n v ns (vs ++ ms) e in let r = split_words ns vs ms h.1 in (ap (λ x. x ∷ map f (take (length vs) ns)) h.0 ∙ ap (λ xs. g v ∷ xs) r.0, r.1)

  same_at : (xs ms : List ℕ) (i : ℕ) → map f xs ≡ map g ms → i < length ms → f (slice_index xs i) ≡ g (slice_index ms i)
  same_at xs [] i e l = absurd (omega (arith, l))
  same_at [] (m ∷ ms) i e l = absurd (none_more m ms e)
  same_at (x ∷ xs) (m ∷ ms) zero e l = (heads x m xs ms e).0
  same_at (x ∷ xs) (m ∷ ms) (suc i) e l = same_at xs ms i (heads x m xs ms e).1 (omega (arith, l))

-- the beat in which a slot works on a group is one of the run
in_beats : (groups slots g x : ℕ) → g < groups → x < slots → suc (g + x) ≤ beats groups slots
in_beats zero slots g x l m = absurd (omega (arith, l))
in_beats (suc n) zero g x l m = absurd (omega (arith, m))
in_beats (suc n) (suc k) g x l m = omega (arith, l, m)

module _ (core : PlainCore) (plan : PlainPlan) (delays : Delays) (order : BeatsInOrder) (timeline : LoopsAreInTimeline) (k n : ℕ) (counters : List PlainCounter) (style : Style) (owned : List ℕ) (stages : PlainStages) (places : List (List (List ℕ)))
    (arranged : AreArranged places (slots_of (node_plan plan k))) (runs : List Placed) (takes : TakeTime core plan delays k n counters owned stages places runs) where
  abbrev ran : Placed → BeatsRan
  ran r = beats_ran core plan delays k n counters owned stages places r

  abbrev rows_in : Placed → List (List (Run Stamped))
  rows_in r = rows_of core plan delays k n counters owned stages places r

  abbrev slots : List Slot
  slots = slots_of (node_plan plan k)

  -- a stage at a place is one of its slot
  in_slot : (x j i : ℕ) → IsPlace places x j i → (stage_in places x j i < length slots) × ((slot_at slots (stage_in places x j i)).slot ≡ x)
  in_slot x j i (a, b, c) =
      let h = arranged.chains x j a b in
      let q = standing slots (λ s. s) (record { slot = x; chain = h.0 }) (length slots) i (subst (λ (xs : List ℕ). i < length xs) h.1 c) in
      let is : stage_in places x j i ≡ q.stage = ap (λ (xs : List ℕ). slice_index xs i) h.1 ∙ q.is in
      let same : slot_at slots q.stage ≡ record { slot = x; chain = h.0 } = same_slot (slot_at slots q.stage) (record { slot = x; chain = h.0 }) q.here in
      (subst (λ m. m < length slots) (sym is) q.below, ap (λ m. (slot_at slots m).slot) is ∙ ap (λ (y : Slot). y.slot) same)

  -- how long the loop takes
  outer_lasts : (st : Standing) (copies : Copies) (bs : List Bounds) (counts : List ℕ) (groups : Groups) → (timed core plan delays (outer counters style owned stages) k n st copies (outer_ran bs counts groups)).took
      ≡ whole slots (took_at (group_runs core plan delays stages k (n + counters_size counters) 0 st owned copies (group_values (loops_of in_lanes counters bs)) groups)) (length (group_runs core plan delays stages k (n + counters_size counters) 0 st owned copies (group_values (loops_of in_lanes counters bs)) groups))
  unfolding timed
  outer_lasts st copies bs counts groups = refl

  lasts : (r : Placed) (bs : List Bounds) (counts : List ℕ) (groups : Groups) → r.history ≡ outer_ran bs counts groups → (told core plan delays (outer counters style owned stages) k n r).took ≡ whole slots (took_at (rows_in r)) (length (rows_in r))
  lasts r bs counts groups is =
      subst (λ h. (told core plan delays (outer counters style owned stages) k n (record r { history = h })).took ≡ whole slots (took_at (rows_in (record r { history = h }))) (length (rows_in (record r { history = h })))) (sym is) (outer_lasts r.standing r.copies bs counts groups)

  -- no more groups than values
  few_rows : (b : ℕ) (st : Standing) (copies : Copies) (values : List (List ℤ)) (groups : Groups) → length (group_runs core plan delays stages k (n + counters_size counters) b st owned copies values groups) ≤ length values
  unfolding group_runs
  few_rows b st copies [] groups = omega arith
  few_rows b st copies (v ∷ values) no_group = omega arith
  few_rows b st copies (v ∷ values) (more_group row rest) = let h = few_rows (suc b) st copies values rest in omega (arith, h)

  -- while a stage is at work, so is its slot, and the loop goes on
  module _ (r : Placed) (c : Contains runs r) (g x j i t : ℕ) (below : g < length (rows_in r)) (place : IsPlace places x j i) (within : IsInStage core plan delays k n counters owned stages places r g (stage_in places x j i) t) where
    at_slot : (stage_in places x j i < length slots) × ((slot_at slots (stage_in places x j i)).slot ≡ x)
    at_slot = in_slot x j i place

    at_work : (last : ℕ) → t ≤ suc last → IsAtWork (sizes places) (ran r) g x last t
    at_work last late =
        let time = in_time core plan delays k n counters owned stages places timeline arranged runs takes r c in
        let size = map_length (λ (chains : List (List ℕ)). map (λ (c : List ℕ). length c) chains) places in
        let in_all = in_beats (length (rows_in r)) (length (sizes places)) g x below (let p = place.0 in omega (arith, p, size)) in
        let this = time.beats (g + x) (omega (arith, in_all)) in
        let next = time.beats (suc (g + x)) in_all in
        let slot = at_slot.1 in
        let begins = (order slots (took_at (rows_in r))).in_beat g (stage_in places x j i) (g + x) (omega (arith, slot)) in
        let ends = (order slots (took_at (rows_in r))).after_beat g (stage_in places x j i) (suc (g + x)) at_slot.0 (omega (arith, slot)) in
        let low = within.0 in
        let high = within.1 in
        (omega (arith, this, begins, low), omega (arith, this, next, ends, high), late)

    in_run : (bs : List Bounds) (counts : List ℕ) (groups : Groups) → r.history ≡ outer_ran bs counts groups → (r.cycle < t) × (t < over_at core plan delays (outer counters style owned stages) k n r)
    in_run bs counts groups is =
        let e = lasts r bs counts groups is in
        let w = (order slots (took_at (rows_in r))).within (length (rows_in r)) g (stage_in places x j i) below at_slot.0 in
        let b = (order slots (took_at (rows_in r))).in_beat g (stage_in places x j i) 0 (omega arith) in
        let low = within.0 in
        let high = within.1 in
        (omega (arith, low, b), omega (arith, high, w, e))

  module _ (words : WordsGoAlong) (s : Signals) (part : Counters) (nets : Counted) (step : ℕ) (before : List Wire) (rows : List Row) (last : ℕ) (near : List Near) (env : Nets) (scopes : Scopes) (from until : ℕ) (loops : BeatsRan → List Loop)
      (outers : AreOuters runs) (turns : AreWithin core plan delays (outer counters style owned stages) k n from until runs) (lanes : lanes_of counters ≡ counting.lanes_of part.counters.items) (wide : lanes_of counters ≤ length nets.masks.items)
      (wires : wires_of before ≡ values_of nets.counters.items ++ nets.masks.items) (moves : MoveOn s step before rows) (long : AreAsLong (length before) rows) (few : length rows ≤ length places)
      (steps : IsOnAt (is_on s step) (At (step_cycle (sizes places)) (steps_in (sizes places) (map ran runs))) last) (at : AreInSteps s part nets loops (sizes places) (map ran runs) last)
      (took : (r : Placed) → Contains runs r → TookBounds counters r (loops (ran r)))
      (stand : (r : Placed) (t : ℕ) → Contains runs r → r.cycle < t → t < over_at core plan delays (outer counters style owned stages) k n r → t ≤ suc last → AreStanding s t near env (scopes r)) where
    abbrev Goes : ℕ → Row → Type 0
    Goes x row = (r : BeatsRan) (group t : ℕ) → Contains (map ran runs) r → group < r.groups → IsAtWork (sizes places) r group x last t → HaveWords s t (beat_cycle (sizes places) group r) row.wires.items before

    abbrev Stands : ℕ → Row → Type 0
    Stands x row =
        (r : Placed) (g j i t : ℕ) → Contains runs r → g < length (rows_in r) → IsPlace places x j i → IsInStage core plan delays k n counters owned stages places r g (stage_in places x j i) t → t ≤ suc last
        → AreStanding s t (own_near counters near) (with_row env counters (length nets.counters.items) row) (group_scope (scopes r) (loops (ran r)) g)

    all_go : Numbered Goes 0 rows
    all_go =
        let size = map_length (λ (chains : List (List ℕ)). map (λ (c : List ℕ). length c) chains) places in
        words s (sizes places) (map ran runs) step before rows last moves long (omega (arith, few, size)) (in_turn core plan delays k n counters owned stages places timeline arranged runs takes style outers from until turns) steps

    row_stands : (x : ℕ) (row : Row) → x < 0 + length rows → length row.wires.items ≡ length before → Goes x row → Stands x row
    row_stands x row in_rows same go r g j i t c below place within late =
        let work = at_work r c g x j i t below place within last late in
        let h = took r c in
        let u : ℕ = beat_cycle (sizes places) g (ran r) in
        let have = have_words s t (beat_cycle (sizes places) g (ran r)) row.wires.items before same (go (ran r) g t (mapped_to ran runs r c) below work) in
        let size = map_length (λ (chains : List (List ℕ)). map (λ (c : List ℕ). length c) chains) places in
        let some = in_beats (length (rows_in r)) (length (sizes places)) g x below (let p = place.0 in omega (arith, p, size)) in
        let earlier = cycles_rise (ran r) g x in
        let after = work.0 in
        let group = subst (λ ls. AreAtGroup s part nets ls g (beat_cycle (sizes places) g (ran r))) h.loops_are (at (ran r) g (mapped_to ran runs r c) (omega (arith, some)) (omega (arith, earlier, after, late))) in
        let in_values = rows_below r c g below h in
        let parts = split_words (s.net t) (s.net (beat_cycle (sizes places) g (ran r))) (wires_of row.wires.items) (values_of nets.counters.items) nets.masks.items (have ∙ ap (map (s.net (beat_cycle (sizes places) g (ran r)))) wires) in
        let count = map_length (λ (n : Counter). n.value) nets.counters.items in
        let run = in_run r c g x j i t below place within h.bounds h.counts h.groups h.is in
        subst (λ ls. AreStanding s t (own_near counters near) (with_row env counters (length nets.counters.items) row) (group_scope (scopes r) ls g)) (sym h.loops_are)
        (subst (λ m. AreStanding s t (own_near counters near) (with_row env counters m row) (group_scope (scopes r) (loops_of in_lanes counters h.bounds) g)) count
        (stands_at r g t row h.bounds h.each group in_values parts (stand r t c run.0 run.1 late)))
      where
        cycles_rise : (b : BeatsRan) (g x : ℕ) → beat_cycle (sizes places) g b ≤ beat_cycle (sizes places) (g + x) b
        cycles_rise b g zero = let e : beat_cycle (sizes places) g b ≡ beat_cycle (sizes places) (g + 0) b = ap (λ m. beat_cycle (sizes places) m b) {x = g} {y = g + 0} (omega arith) in omega (arith, e)
        cycles_rise b g (suc x) =
            let h = cycles_rise b g x in
            let e : beat_cycle (sizes places) (suc (g + x)) b ≡ beat_cycle (sizes places) (g + suc x) b = ap (λ m. beat_cycle (sizes places) m b) {x = suc (g + x)} {y = g + suc x} (omega arith) in omega (arith, h, e)

        rows_below : (r : Placed) → Contains runs r → (g : ℕ) → g < length (rows_in r) → (h : TookBounds counters r (loops (ran r))) → g < length (group_values (loops_of in_lanes counters h.bounds))
        rows_below r c g l h =
            subst (λ y. g < length (rows_in (record r { history = y })) → g < length (group_values (loops_of in_lanes counters h.bounds))) (sym h.is)
            (λ l. let f = few_rows 0 r.standing r.copies (group_values (loops_of in_lanes counters h.bounds)) h.groups in omega (arith, l, f)) l

        stands_at : (r : Placed) (g t : ℕ) (row : Row) (bs : List Bounds) → length bs ≡ length counters → AreAtGroup s part nets (loops_of in_lanes counters bs) g (beat_cycle (sizes places) g (ran r)) → g < length (group_values (loops_of in_lanes counters bs))
            → (map (s.net t) (take (length (values_of nets.counters.items)) (wires_of row.wires.items)) ≡ map (s.net (beat_cycle (sizes places) g (ran r))) (values_of nets.counters.items))
            × (map (s.net t) (drop (length (values_of nets.counters.items)) (wires_of row.wires.items)) ≡ map (s.net (beat_cycle (sizes places) g (ran r))) nets.masks.items)
            → AreStanding s t near env (scopes r)
            → AreStanding s t (own_near counters near) (with_row env counters (length (values_of nets.counters.items)) row) (group_scope (scopes r) (loops_of in_lanes counters bs) g)
        stands_at r g t row bs each group l parts around q lane has =
            let u = beat_cycle (sizes places) g (ran r) in
            inside_stand s t (drop (length (values_of nets.counters.items)) (wires_of row.wires.items)) (is_live (loops_of in_lanes counters bs) (slice_index_or (group_values (loops_of in_lanes counters bs)) g [])) (lanes_of counters)
            (λ lane m. ap (λ w. w == 1) (same_at (s.net t) (s.net (beat_cycle (sizes places) g (ran r))) (drop (length (values_of nets.counters.items)) (wires_of row.wires.items)) nets.masks.items lane parts.1 (omega (arith, m, wide))) ∙ group.masks lane l (omega (arith, m, lanes)))
            counters bs (take (length (values_of nets.counters.items)) (wires_of row.wires.items)) (slice_index_or (group_values (loops_of in_lanes counters bs)) g []) near env (scopes r) q lane each
            (group_length (loops_of in_lanes counters bs) g l ∙ loops_length counters bs each)
            (parts.0 ∙ mapped_twice (s.net (beat_cycle (sizes places) g (ran r))) (λ (n : Counter). n.value) nets.counters.items ∙ group.words l) (around q lane) has

    pub all_stand : Numbered Stands 0 rows
    all_stand = each_row Goes Stands (length before) 0 rows row_stands long all_go

pub rows_stand : (core : PlainCore) (plan : PlainPlan) (delays : Delays) → BeatsInOrder → LoopsAreInTimeline → WordsGoAlong → RowsStand core plan delays
rows_stand core plan delays order timeline words s part nets step before rows last k n counters style owned stages places near env scopes from until runs loops outers turns arranged takes lanes wide wires moves long few steps at took stand =
    all_stand core plan delays order timeline k n counters style owned stages places arranged runs takes words s part nets step before rows last near env scopes from until loops outers turns lanes wide wires moves long few steps at took stand
