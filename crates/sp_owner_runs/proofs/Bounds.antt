-- What happens at the numbers of a loop's bounds is what its bounds did, in the cycle in which it is started.
use Rattle.std.proofs.Common.{◌≡◌, ℕ, zero, suc, ◌+◌, ◌<◌, ◌≤◌, ◌⊎◌, inl, inr, List, [], ◌∷◌, ◌++◌, flat_map, map, sum_by, refl, sym, ap, subst, ◌∙◌, arith}
use Rattle.std.specs.List.{Contains}
use Rattle.std.proofs.lemmas.List.Elements.{Contains-append_cases}
use Rattle.sp_words.specs.declared.kind.Style.{Style}
use Rattle.sp_core.specs.Events.{Event, Moment, touches, inside_at, before, bounds_moments, moments}
use Rattle.sp_core.specs.History.{History, inner_ran, outer_ran, fsm_ran, branch_ran, moved, picked}
use Rattle.sp_core.specs.Numbering.{counters_size, number_count}
use Rattle.sp_core.specs.PlainCore.{PlainCounter, PlainStages, outer, no_stage, more_stage, PlainCore}
use Rattle.sp_core.specs.Scope.{in_lanes, loops_of, group_values}
use Rattle.sp_plan.specs.PlainPlan.{PlainPlan, node_plan}
use Rattle.sp_plan.specs.Validity.{stage_count}
use Rattle.sp_time.specs.Beats.{Run}
use Rattle.sp_time.specs.Lists.{Each, total}
use Rattle.sp_machine.specs.Stamps.{Stamped, Copies, copy_of, stamp, stamped, later, moved as moved_on}
use Rattle.sp_machine.specs.Timeline.{timed, slots_of, in_copies, fresh_events}
use Rattle.sp_machine.specs.Transfers.{Delays}
use Rattle.sp_overlap.specs.Whole.{IsTimed, AreTimed}
use Rattle.sp_node_runs.specs.Runs.{Placed, table, stage_at, node_at, number_at, stage_runs}
use Rattle.sp_node_runs.specs.RunsTold.{all_events, fresh_from, outer_alone}
use Rattle.sp_node_runs.specs.BodiesTold.{Happens}
use Rattle.sp_node_runs.proofs.BodiesListed.{none_there, mapped_from, joined_from}
use Rattle.sp_tree_events.specs.PartsAgreeing.{Agree}
use Rattle.sp_tree_events.specs.ToldItems.{Item, CountersHave}
use Rattle.sp_tree_events.specs.ToldLaws.{Does}
use Rattle.sp_tree_events.proofs.PartsStepping.{agree_by, runs_within}
use Rattle.sp_tree_events.proofs.PartsTests.{weight, none_weigh}
use Rattle.sp_tree_events.proofs.ToldHaving.{IsOf, bounds_has}
use Rattle.sp_owner_runs.specs.Given.{Laws}

number_low : (stages : PlainStages) (n s : ℕ) → n ≤ number_at stages n s
number_low no_stage n s = omega arith
number_low (more_stage first last comb node rest) n zero = omega arith
number_low (more_stage first last comb node rest) n (suc s) = let h = number_low rest (n + number_count node) s in omega (arith, h)

stage_timed : (stages : PlainStages) → AreTimed stages → (s : ℕ) → IsTimed (stage_at stages s)
stage_timed no_stage h s = tt
stage_timed (more_stage first last comb node rest) h zero = h.0
stage_timed (more_stage first last comb node rest) h (suc s) = stage_timed rest h.1 s

total_none : (f : ℕ → ℕ) (count : ℕ) → ((s : ℕ) → f s ≡ 0) → total f count ≡ 0
total_none f zero h = refl
total_none f (suc n) h = let a = total_none f n h in let b = h n in omega (arith, a, b)

each_at : {A : Type 0} (P : A → Type 0) (xs : List A) (x : A) → Each P xs → Contains xs x → P x
each_at P [] x h (k, l, e) = absurd (omega (arith, l))
each_at P (y ∷ xs) x h (zero, l, e) = subst P e h.0
each_at P (y ∷ xs) x h (suc k, l, e) = each_at P xs x h.1 (k, omega (arith, l), e)

each_append : {A : Type 0} (Q : A → Type 0) (xs ys : List A) → Each Q xs → Each Q ys → Each Q (xs ++ ys)
each_append Q [] ys h k = k
each_append Q (x ∷ xs) ys h k = (h.0, each_append Q xs ys h.1 k)

each_map : {A B : Type 0} (Q : B → Type 0) (f : A → B) (xs : List A) → Each (λ x. Q (f x)) xs → Each Q (map f xs)
each_map Q f [] h = tt
each_map Q f (x ∷ xs) h = (h.0, each_map Q f xs h.1)

-- no event
abbrev IsOther : Moment → Type 0
IsOther (touches e) = ⊥
IsOther _ = Unit {0}

module _ (core : PlainCore) (plan : PlainPlan) (delays : Delays) (laws : Laws core plan delays) (k n : ℕ) (counters : List PlainCounter) (style : Style) (owned : List ℕ) (stages : PlainStages) where
  abbrev alone : Placed → History → List Stamped
  alone r h = outer_alone core plan delays k n counters style owned stages r h

  -- at numbers before those of the stages
  pub bounds_agree : (runs : List Placed) → AreTimed stages → (x : ℕ) → x < n + counters_size counters → Agree (all_events core plan delays (outer counters style owned stages) k n runs) (flat_map (λ r. alone r r.history) runs) x
  bounds_agree runs is x below = agree_by _ _ x (λ t c e at.
      let all = laws.stages_told (weight t c e) k n counters style owned stages runs in
      let none = total_none (λ s. sum_by (weight t c e) (part s)) (stage_count stages) (λ s. nothing t c e at s) in
      omega (arith, all, none))
    where
      part : ℕ → List Stamped
      part s = all_events core plan delays (stage_at stages s) (node_at stages (suc k) s) (number_at stages (n + counters_size counters) s) (stage_runs core plan delays counters owned stages k n s runs)

      nothing : (t c : ℕ) (e : Event) → e.number ≡ x → (s : ℕ) → sum_by (weight t c e) (part s) ≡ 0
      nothing t c e at s =
          none_weigh t c e (number_at stages (n + counters_size counters) s) (number_at stages (n + counters_size counters) s + number_count (stage_at stages s))
          (inl (let l = number_low stages (n + counters_size counters) s in omega (arith, l, at, below))) (part s)
          (runs_within core plan delays laws.tells_all laws.within (stage_at stages s) (node_at stages (suc k) s) (number_at stages (n + counters_size counters) s) (stage_timed stages is s) (stage_runs core plan delays counters owned stages k n s runs))

  -- an event of a bound: in the cycle of its run, at the copy at hand
  pub record OfBound (runs : List Placed) (t copy : ℕ) (e : Event) : Type 0 where
    pub run : Placed
    pub there : Contains runs run
    pub cycle : run.cycle ≡ t
    pub copied : run.copies e.mem ≡ copy
    pub item : Item
    pub has : CountersHave counters n e.number item
    pub does : Does core item e

  -- what a loop makes fresh is no event
  fresh_other : (runs : List (List (Run Stamped))) (copies : Copies) (g : ℕ) (os : List ℕ) → Each (λ (x : Stamped). IsOther x.moment) (fresh_events core plan delays (slots_of (node_plan plan k)) runs (node_plan plan k) stages copies g os)
  fresh_other runs copies g [] = tt
  fresh_other runs copies g (m ∷ os) = (tt, fresh_other runs copies g os)

  from_other : (r : Placed) (runs : List (List (Run Stamped))) (g : ℕ) (rows : List (List (Run Stamped))) → Each (λ (x : Stamped). IsOther x.moment) (fresh_from core plan delays k n counters style owned stages r runs g rows)
  from_other r runs g [] = tt
  from_other r runs g (row ∷ rows) =
      each_append (λ (x : Stamped). IsOther x.moment) (later r.cycle (fresh_events core plan delays (slots_of (node_plan plan k)) runs (node_plan plan k) stages (in_copies core plan delays owned g r.copies) g owned)) _
      (each_map (λ (x : Stamped). IsOther x.moment) (moved_on r.cycle) _ (fresh_other runs (in_copies core plan delays owned g r.copies) g owned)) (from_other r runs (suc g) rows)

  module _ (runs : List Placed) (t copy : ℕ) (e : Event) where
    abbrev here : Stamped
    here = record { cycle = t; copy = copy; moment = touches e }

    of_alone : (r : Placed) (h : History) → Contains runs r → Contains (alone r h) here → OfBound runs t copy e
    unfolding timed moments
    of_alone r (outer_ran bs counts groups) there c =
        let ms : List Moment = bounds_moments n (inside_at r.standing k before []) counters bs in
        let rows : List (List (Run Stamped)) = table core plan delays counters owned stages k n 0 r (group_values (loops_of in_lanes counters bs)) groups in
        by ms (bounds_has core (CountersHave counters n) counters bs n (inside_at r.standing k before []) (λ x i q. q)) (fresh_from core plan delays k n counters style owned stages r rows 0 rows) (Contains-append_cases (later r.cycle (stamped r.copies 0 ms)) (fresh_from core plan delays k n counters style owned stages r rows 0 rows) here c)
        (λ d. each_at (λ (x : Stamped). IsOther x.moment) _ here (from_other r rows 0 rows) d)
      where
        by : (ms : List Moment) → Each (IsOf core (CountersHave counters n)) ms → (ys : List Stamped) → Contains (later r.cycle (stamped r.copies 0 ms)) here ⊎ Contains ys here → (Contains ys here → ⊥) → OfBound runs t copy e
        by ms items ys (inr d) none = absurd (none d)
        by ms items ys (inl d) none =
            let y = mapped_from (moved_on r.cycle) (stamped r.copies 0 ms) here d in
            let z = mapped_from (stamp r.copies 0) ms y.0 y.1 in
            let at : y.0.moment ≡ touches e = ap (λ (x : Stamped). x.moment) y.2 in
            let m : z.0 ≡ touches e = ap (λ (x : Stamped). x.moment) z.2 ∙ at in
            let cy : r.cycle + y.0.cycle ≡ t = ap (λ (x : Stamped). x.cycle) y.2 in
            let zero_at : 0 ≡ y.0.cycle = ap (λ (x : Stamped). x.cycle) z.2 in
            let item = subst (IsOf core (CountersHave counters n)) m (each_at (IsOf core (CountersHave counters n)) ms z.0 items z.1) in
            record {
              run = r;
              there = there;
              cycle = omega (arith, cy, zero_at);
              copied = sym (ap (copy_of r.copies) m) ∙ ap (λ (x : Stamped). x.copy) z.2 ∙ ap (λ (x : Stamped). x.copy) y.2;
              item = item.0;
              has = item.1;
              does = item.2;
            }
    of_alone r (inner_ran bs counts groups) there c = absurd (none_there here c)
    of_alone r (fsm_ran first ts last) there c = absurd (none_there here c)
    of_alone r (branch_ran es side h) there c = absurd (none_there here c)
    of_alone r (moved taken words) there c = absurd (none_there here c)
    of_alone r (picked es words) there c = absurd (none_there here c)

  pub of_bound : (runs : List Placed) (t : ℕ) (e : Event) (x : ℕ) (h : Happens (flat_map (λ r. alone r r.history) runs) x t e) → OfBound runs t h.copy e
  of_bound runs t e x h =
      let r = joined_from (λ (r : Placed). alone r r.history) runs _ h.there in
      of_alone runs t h.copy e r.0 r.0.history r.1 r.2
