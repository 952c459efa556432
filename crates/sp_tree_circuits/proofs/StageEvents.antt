-- What happens in the runs of a loop in beats: its bounds, and in each stage the events of the stage's numbers.
use Rattle.std.proofs.Common.{◌≡◌, ℕ, zero, suc, ◌+◌, ◌<◌, ◌≤◌, ◌⊎◌, inl, inr, List, [], ◌∷◌, flat_map, sum_by, refl, sym, ap, subst, ◌∙◌, arith}
use Rattle.std.specs.List.{Contains}
use Rattle.std.proofs.lemmas.List.Elements.{Contains-append_cases}
use Rattle.sp_words.specs.declared.kind.Style.{Style}
use Rattle.sp_core.specs.Events.{Standing, inside_at, before, Event, touches, renews, bounds_moments}
use Rattle.sp_core.specs.History.{Bounds, History, outer_ran}
use Rattle.sp_core.specs.Numbering.{counters_size, number_count, number_count_in}
use Rattle.sp_core.specs.PlainCore.{PlainCounter, PlainNode, PlainStages, outer, no_stage, more_stage, PlainCore}
use Rattle.sp_core.specs.Scope.{in_lanes, loops_of, group_values}
use Rattle.sp_plan.specs.PlainPlan.{PlainPlan, node_plan}
use Rattle.sp_plan.specs.Validity.{stage_count}
use Rattle.sp_time.specs.Beats.{Run}
use Rattle.sp_time.specs.Lists.{total}
use Rattle.sp_machine.specs.Laws.{told}
use Rattle.sp_machine.specs.Stamps.{Stamped, Copies, stamped, later, moved}
use Rattle.sp_machine.specs.Timeline.{slots_of, in_copies, fresh_events}
use Rattle.sp_machine.specs.Transfers.{Delays}
use Rattle.sp_machine.proofs.Told.{told_stamped, told_fresh}
use Rattle.sp_overlap.specs.Whole.{IsTimed, AreTimed}
use Rattle.sp_node_runs.specs.Runs.{Placed, table, stage_at, node_at, number_at, stage_runs}
use Rattle.sp_node_runs.specs.RunsTold.{all_events, fresh_from, outer_alone}
use Rattle.sp_node_runs.specs.BodiesTold.{Happens}
use Rattle.sp_node_runs.proofs.BodiesListed.{none_there, mapped_to, mapped_from, joined_from}
use Rattle.sp_tree_runs.specs.BodiesDone.{AllDone}
use Rattle.sp_tree_runs.specs.BodiesScoped.{Scoped, placed, AllAreDone}
use Rattle.sp_tree_circuits.specs.Acts.{AreEventsOf}
use Rattle.sp_tree_circuits.proofs.Alike.{weigh, none_like, by_weights}
use Rattle.sp_tree_circuits.specs.Given.{Laws}
use Rattle.sp_tree_circuits.proofs.Numbers.{within_bounds, numbers_within}
use Rattle.sp_tree_circuits.proofs.Sides.{done_of}

-- one of several numbers, and several of which one alone isn't 0
one_of_total : (f : ℕ → ℕ) (n i : ℕ) → i < n → f i ≤ total f n
one_of_total f zero i l = absurd (omega (arith, l))
one_of_total f (suc n) i l = by (split i n l) (one_of_total f n i)
  where
    split : (i n : ℕ) → i < suc n → (i < n) ⊎ (i ≡ n)
    split i n l = grind arith

    by : (i < n) ⊎ (i ≡ n) → (i < n → f i ≤ total f n) → f i ≤ total f (suc n)
    by (inl m) rest = let r = rest m in omega (arith, r)
    by (inr e) rest = let g = ap f e in omega (arith, g)

none_in_total : (f : ℕ → ℕ) (n : ℕ) → ((j : ℕ) → j < n → f j ≡ 0) → total f n ≡ 0
none_in_total f zero h = refl
none_in_total f (suc n) h = let a = none_in_total f n (λ j l. h j (omega (arith, l))) in let b = h n (omega arith) in omega (arith, a, b)

one_alone : (f : ℕ → ℕ) (n i : ℕ) → i < n → ((j : ℕ) → j < n → (j ≡ i → ⊥) → f j ≡ 0) → total f n ≤ f i
one_alone f zero i l h = absurd (omega (arith, l))
one_alone f (suc n) i l h = by (split i n l) (λ m. one_alone f n i m (λ j k d. h j (omega (arith, k)) d))
  where
    split : (i n : ℕ) → i < suc n → (i < n) ⊎ (i ≡ n)
    split i n l = grind arith

    by : (i < n) ⊎ (i ≡ n) → (i < n → total f n ≤ f i) → total f (suc n) ≤ f i
    by (inl m) rest = let r = rest m in let z = h n (omega arith) (λ e. omega (arith, e, m)) in omega (arith, r, z)
    by (inr e) rest = let z = none_in_total f n (λ j k. h j (omega (arith, k)) (λ d. omega (arith, d, e, k))) in let g = ap f e in omega (arith, z, g)

-- the numbers of stages rise with the stages
pub from_first : (stages : PlainStages) (n i : ℕ) → n ≤ number_at stages n i
from_first no_stage n i = omega arith
from_first (more_stage first last comb node rest) n zero = omega arith
from_first (more_stage first last comb node rest) n (suc i) = let r = from_first rest (n + number_count node) i in omega (arith, r)

pub up_to_last : (stages : PlainStages) (n i : ℕ) → i < stage_count stages → number_at stages n i + number_count (stage_at stages i) ≤ n + number_count_in stages
up_to_last no_stage n i l = absurd (omega (arith, l))
up_to_last (more_stage first last comb node rest) n zero l = omega arith
up_to_last (more_stage first last comb node rest) n (suc i) l = let r = up_to_last rest (n + number_count node) i (omega (arith, l)) in omega (arith, r)

numbers_rise : (stages : PlainStages) (n i j : ℕ) → i < j → j < stage_count stages → number_at stages n i + number_count (stage_at stages i) ≤ number_at stages n j
numbers_rise no_stage n i j l m = absurd (omega (arith, m))
numbers_rise (more_stage first last comb node rest) n i zero l m = absurd (omega (arith, l))
numbers_rise (more_stage first last comb node rest) n zero (suc j) l m = from_first rest (n + number_count node) j
numbers_rise (more_stage first last comb node rest) n (suc i) (suc j) l m = numbers_rise rest (n + number_count node) i j (omega (arith, l)) (omega (arith, m))

timed_at : (stages : PlainStages) (i : ℕ) → AreTimed stages → IsTimed (stage_at stages i)
timed_at no_stage i is = tt
timed_at (more_stage first last comb node rest) zero is = is.0
timed_at (more_stage first last comb node rest) (suc i) is = timed_at rest i is.1

either_way : (i j : ℕ) → (j ≡ i → ⊥) → (i < j) ⊎ (j < i)
either_way i j d = grind arith

module _ (core : PlainCore) (plan : PlainPlan) (delays : Delays) (laws : Laws core plan delays) (k n : ℕ) (counters : List PlainCounter) (style : Style) (owned : List ℕ) (stages : PlainStages) where
  abbrev whole : PlainNode
  whole = outer counters style owned stages

  -- by itself a loop takes its bounds, and makes memories fresh, which are no events
  fresh_none : (r : Placed) (runs : List (List (Run Stamped))) (g : ℕ) (rows : List (List (Run Stamped))) (x : Stamped) (e : Event) → x.moment ≡ touches e → Contains (fresh_from core plan delays k n counters style owned stages r runs g rows) x → ⊥
  fresh_none r runs g [] x e is c = none_there x c
  fresh_none r runs g (row ∷ rows) x e is c =
      by (Contains-append_cases (later r.cycle (fresh_events core plan delays (slots_of (node_plan plan k)) runs (node_plan plan k) stages (in_copies core plan delays owned g r.copies) g owned)) (fresh_from core plan delays k n counters style owned stages r runs (suc g) rows) x c)
      (fresh_none r runs (suc g) rows x e is)
    where
      by : Contains (later r.cycle (fresh_events core plan delays (slots_of (node_plan plan k)) runs (node_plan plan k) stages (in_copies core plan delays owned g r.copies) g owned)) x ⊎ Contains (fresh_from core plan delays k n counters style owned stages r runs (suc g) rows) x
          → (Contains (fresh_from core plan delays k n counters style owned stages r runs (suc g) rows) x → ⊥) → ⊥
      by (inr d) rest = rest d
      by (inl d) rest =
          let es : List Stamped = fresh_events core plan delays (slots_of (node_plan plan k)) runs (node_plan plan k) stages (in_copies core plan delays owned g r.copies) g owned in
          let y = mapped_from (moved r.cycle) es x d in
          let m = mapped_to (λ (z : Stamped). z.moment) es y.0 y.1 in
          let f = mapped_from renews owned y.0.moment (subst (λ ms. Contains ms y.0.moment) (told_fresh core plan delays (slots_of (node_plan plan k)) runs (node_plan plan k) stages (in_copies core plan delays owned g r.copies) g owned) m) in
          let same : renews f.0 ≡ touches e = f.2 ∙ ap (λ (z : Stamped). z.moment) y.2 ∙ is in
          absurd (cc (same))

  bounds_below : (c : ℕ) (copies : Copies) (st : Standing) (bs : List Bounds) (x : Stamped) (e : Event) → x.moment ≡ touches e → Contains (later c (stamped copies 0 (bounds_moments n st counters bs))) x → e.number < n + counters_size counters
  bounds_below c copies st bs x e is d =
      let es : List Stamped = stamped copies 0 (bounds_moments n st counters bs) in
      let y = mapped_from (moved c) es x d in
      let m = mapped_to (λ (z : Stamped). z.moment) es y.0 y.1 in
      let same : y.0.moment ≡ touches e = ap (λ (z : Stamped). z.moment) y.2 ∙ is in
      (within_bounds n st counters bs e (subst (λ ms. Contains ms (touches e)) (told_stamped copies 0 (bounds_moments n st counters bs)) (subst (λ z. Contains (told es) z) same m))).1

  one_below : (q : Scoped) (h : History) → AllDone in_lanes whole q.scope h → (x : Stamped) (e : Event) → x.moment ≡ touches e → Contains (outer_alone core plan delays k n counters style owned stages q.run h) x → e.number < n + counters_size counters
  one_below q (outer_ran bs counts groups) done x e is c = by (Contains-append_cases (later q.run.cycle (stamped q.run.copies 0 (bounds_moments n (inside_at q.run.standing k before []) counters bs))) (fresh_from core plan delays k n counters style owned stages q.run rows 0 rows) x c)
    where
      rows : List (List (Run Stamped))
      rows = table core plan delays counters owned stages k n 0 q.run (group_values (loops_of in_lanes counters bs)) groups

      by : Contains (later q.run.cycle (stamped q.run.copies 0 (bounds_moments n (inside_at q.run.standing k before []) counters bs))) x ⊎ Contains (fresh_from core plan delays k n counters style owned stages q.run rows 0 rows) x → e.number < n + counters_size counters
      by (inl d) = bounds_below q.run.cycle q.run.copies (inside_at q.run.standing k before []) bs x e is d
      by (inr d) = absurd (fresh_none q.run rows 0 rows x e is d)
  one_below q h done x e is c = elim done [ ]

  module _ (qs : List Scoped) (done : AllAreDone whole qs) (is : IsTimed whole) where
    abbrev pub all : List Stamped
    all = all_events core plan delays whole k n (placed qs)

    abbrev alone : List Stamped
    alone = flat_map (λ r. outer_alone core plan delays k n counters style owned stages r r.history) (placed qs)

    abbrev pub in_stage : (stage : ℕ) → List Stamped
    in_stage i = all_events core plan delays (stage_at stages i) (node_at stages (suc k) i) (number_at stages (n + counters_size counters) i) (stage_runs core plan delays counters owned stages k n i (placed qs))

    alone_below : (m t : ℕ) (e : Event) → Happens alone m t e → m < n + counters_size counters
    alone_below m t e h =
        let x = joined_from (λ r. outer_alone core plan delays k n counters style owned stages r r.history) (placed qs) (record { cycle = t; copy = h.copy; moment = touches e }) h.there in
        let y = mapped_from (λ (q : Scoped). q.run) qs x.0 x.1 in
        let z = one_below y.0 y.0.run.history (done_of whole qs done y.0 y.1) (record { cycle = t; copy = h.copy; moment = touches e }) e refl
        (subst (λ (r : Placed). Contains (outer_alone core plan delays k n counters style owned stages r r.history) (record { cycle = t; copy = h.copy; moment = touches e })) (sym y.2) x.2) in
        let u = h.numbered in
        omega (arith, z, u)

    module _ (m t : ℕ) (e : Event) where
      sums : sum_by (weigh m t e) all ≡ sum_by (weigh m t e) alone + total (λ i. sum_by (weigh m t e) (in_stage i)) (stage_count stages)
      sums = laws.stages_told (weigh m t e) k n counters style owned stages (placed qs)

      none_alone : n + counters_size counters ≤ m → sum_by (weigh m t e) alone ≡ 0
      none_alone l = none_like m t e alone (λ x h. let b = alone_below m t x h in absurd (omega (arith, b, l)))

      in_range : (i : ℕ) (x : Event) → Happens (in_stage i) m t x → (number_at stages (n + counters_size counters) i ≤ m) × (m < number_at stages (n + counters_size counters) i + number_count (stage_at stages i))
      in_range i x h =
          numbers_within core plan delays (stage_at stages i) (laws.tells_all (stage_at stages i)) (timed_at stages i is.1) (node_at stages (suc k) i) (number_at stages (n + counters_size counters) i) (stage_runs core plan delays counters owned stages k n i (placed qs)) m t x h

      none_other : (i j : ℕ) → i < stage_count stages → j < stage_count stages → (j ≡ i → ⊥) → number_at stages (n + counters_size counters) i ≤ m → m < number_at stages (n + counters_size counters) i + number_count (stage_at stages i) → sum_by (weigh m t e) (in_stage j) ≡ 0
      none_other i j l o d low high = none_like m t e (in_stage j) (λ x h. by (either_way i j d) (in_range j x h))
        where
          by : (i < j) ⊎ (j < i) → (number_at stages (n + counters_size counters) j ≤ m) × (m < number_at stages (n + counters_size counters) j + number_count (stage_at stages j)) → ⊥
          by (inl less) r = let z = numbers_rise stages (n + counters_size counters) i j less o in let a = r.0 in omega (arith, z, a, high)
          by (inr more) r = let z = numbers_rise stages (n + counters_size counters) j i more l in let a = r.1 in omega (arith, z, a, low)

    pub stage_of : (i : ℕ) → i < stage_count stages → AreEventsOf all (in_stage i) (number_at stages (n + counters_size counters) i) (number_count (stage_at stages i))
    stage_of i l = by_weights all (in_stage i) (number_at stages (n + counters_size counters) i) (number_count (stage_at stages i))
        (λ m t e. let a = sums m t e in let b = one_of_total (λ i. sum_by (weigh m t e) (in_stage i)) (stage_count stages) i l in omega (arith, a, b))
        (λ m t e low high.
        let a = sums m t e in
        let first = from_first stages (n + counters_size counters) i in
        let b = none_alone m t e (omega (arith, low, first)) in
        let c = one_alone (λ i. sum_by (weigh m t e) (in_stage i)) (stage_count stages) i l (λ j o d. none_other m t e i j l o d low high) in
        omega (arith, a, b, c))
