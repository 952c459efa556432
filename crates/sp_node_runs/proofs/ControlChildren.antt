-- Runs of a member of a loop in beats are those of its stage.
use Rattle.std.proofs.Common.{◌≡◌, ℕ, zero, suc, ◌+◌, ◌<◌, Bool, true, false, ℤ, List, [], ◌∷◌, ◌++◌, Option, Some, None, map, length, slice_index_or, refl, sym, ◌∙◌, ap, subst, arith}
use Rattle.std.specs.List.{Contains}
use Rattle.sp_core.specs.Events.{inside_at, in_group_of}
use Rattle.sp_core.specs.History.{History, Groups, Runs, outer_ran, no_group, more_group}
use Rattle.sp_core.specs.Numbering.{counters_size}
use Rattle.sp_core.specs.PlainCore.{PlainCounter, PlainStages, PlainCore}
use Rattle.sp_plan.specs.PlainPlan.{PlainPlan, node_plan}
use Rattle.sp_time.specs.Beats.{Run, no_time, took_at, starts}
use Rattle.sp_machine.specs.Stamps.{Stamped}
use Rattle.sp_machine.specs.Timeline.{slots_of, in_copies, timed, group_runs, stage_runs as row_runs}
use Rattle.sp_machine.specs.Transfers.{Delays}
use Rattle.sp_part_runs.specs.ControlParts.{Ran}
use Rattle.sp_part_runs.specs.SequencesChains.{child_runs, turn}
use Rattle.sp_part_runs.specs.SequencesPlaces.{stage_at as stage_in_place, sizes, IsPlace, AreArranged}
use Rattle.sp_part_runs.specs.SequencesRuns.{MemberRan}
use Rattle.sp_part_runs.specs.BeatsLaws.{LoopsAreInTimeline}
use Rattle.sp_part_runs.specs.BeatsRuns.{BeatsRan, Turn, turns, slot_cycle, slot_found, groups_in}
use Rattle.sp_node_runs.specs.Runs.{Placed, stage_at, node_at, number_at, stage_history, stage_of, groups_from, stage_in, stage_runs}
use Rattle.sp_node_runs.proofs.RunsStages.{in_row}
use Rattle.sp_node_runs.specs.ControlBeating.{is_some, has_lane, groups_of, values_of, rows_of, beats_ran, TakeTime, stage_rans}
use Rattle.sp_node_runs.specs.ControlRuns.{ran_of}
use Rattle.sp_node_runs.proofs.ControlBeatRuns.{here, there, in_time}

-- the groups of a run from one on
abbrev pub turn_at : BeatsRan → ℕ → Turn
turn_at b g = record { run = b; number = g }

abbrev pub front : BeatsRan → (from count : ℕ) → List Turn
front b g zero = []
front b g (suc n) = turn_at b g ∷ front b (suc g) n

front_more : (b : BeatsRan) (g n : ℕ) → front b g (suc n) ≡ front b g n ++ turn_at b (g + n) ∷ []
front_more b g zero = ap (λ m. turn_at b m ∷ []) {x = g} {y = g + 0} (omega arith)
front_more b g (suc n) = ap (λ rest. turn_at b g ∷ rest) (front_more b (suc g) n ∙ ap (λ m. front b (suc g) n ++ turn_at b m ∷ []) {x = suc g + n} {y = g + suc n} (omega arith))

pub turns_front : (b : BeatsRan) (n : ℕ) → turns b n ≡ front b 0 n
turns_front b zero = refl
turns_front b (suc n) = ap (λ (ts : List Turn). ts ++ turn_at b n ∷ []) (turns_front b n) ∙ ap (λ m. front b 0 n ++ turn_at b m ∷ []) {x = n} {y = 0 + n} (omega arith) ∙ sym (front_more b 0 n)

mapped_both : {A B : Type 0} (f : A → B) (xs ys : List A) → map f (xs ++ ys) ≡ map f xs ++ map f ys
mapped_both f [] ys = refl
mapped_both f (x ∷ xs) ys = ap (λ rest. f x ∷ rest) (mapped_both f xs ys)

module _ (T : Turn → ℕ) (F : Turn → MemberRan) where
  skipped : (t : Turn) (ts : List Turn) → (F t).wanted ≡ false → child_runs T F (t ∷ ts) ≡ child_runs T F ts
  skipped t ts e = ap (λ w. elim w as (λ _. List Ran) [ true ↦ record { cycle = suc (T t); took = (F t).took } ∷ child_runs T F ts | false ↦ child_runs T F ts ]) e

  wanted : (t : Turn) (ts : List Turn) → (F t).wanted ≡ true → child_runs T F (t ∷ ts) ≡ record { cycle = suc (T t); took = (F t).took } ∷ child_runs T F ts
  wanted t ts e = ap (λ w. elim w as (λ _. List Ran) [ true ↦ record { cycle = suc (T t); took = (F t).took } ∷ child_runs T F ts | false ↦ child_runs T F ts ]) e

  children_both : (ts us : List Turn) → child_runs T F (ts ++ us) ≡ child_runs T F ts ++ child_runs T F us
  children_both [] us = refl
  children_both (t ∷ ts) us = by (F t).wanted refl (children_both ts us)
    where
      by : (b : Bool) → (F t).wanted ≡ b → child_runs T F (ts ++ us) ≡ child_runs T F ts ++ child_runs T F us → child_runs T F (t ∷ (ts ++ us)) ≡ child_runs T F (t ∷ ts) ++ child_runs T F us
      by true e h = wanted t (ts ++ us) e ∙ ap (λ rest. record { cycle = suc (T t); took = (F t).took } ∷ rest) h ∙ sym (ap (λ (xs : List Ran). xs ++ child_runs T F us) (wanted t ts e))
      by false e h = skipped t (ts ++ us) e ∙ h ∙ sym (ap (λ (xs : List Ran). xs ++ child_runs T F us) (skipped t ts e))

module _ (core : PlainCore) (plan : PlainPlan) (delays : Delays) (k n : ℕ) (counters : List PlainCounter) (owned : List ℕ) (stages : PlainStages) (places : List (List (List ℕ))) where
  abbrev beats : Placed → BeatsRan
  beats r = beats_ran core plan delays k n counters owned stages places r

  module _ (s : ℕ) (T : Turn → ℕ) (F : Turn → MemberRan) where
    abbrev ran : Placed → Ran
    ran r = ran_of core plan delays (stage_at stages s) (node_at stages (suc k) s) (number_at stages (n + counters_size counters) s) r

    module _ (r : Placed) (c : ℕ → ℕ) where
      abbrev rows : (group : ℕ) → List (List ℤ) → Groups → List (List (Run Stamped))
      rows g values groups = group_runs core plan delays stages k (n + counters_size counters) g r.standing owned r.copies values groups

      -- what is told of a group is what stands in the table
      abbrev Agrees : (group : ℕ) → List (List ℤ) → Groups → Type 0
      Agrees g values groups =
          (i : ℕ) → i < length (rows g values groups) → (suc (T (turn_at (beats r) (g + i))) ≡ r.cycle + c (g + i)) × ((F (turn_at (beats r) (g + i))).wanted ≡ has_lane stages values groups i s) × ((F (turn_at (beats r) (g + i))).took ≡ took_at (rows g values groups) i s)

      one_more : (v : List ℤ) (hs : Runs) (g : ℕ) (more : List Turn) (left : List Placed) → suc (T (turn_at (beats r) g)) ≡ r.cycle + c g → (F (turn_at (beats r) g)).wanted ≡ is_some (stage_history stages hs s)
          → (F (turn_at (beats r) g)).took ≡ (slice_index_or (row_runs core plan delays stages k (n + counters_size counters) 0 g (suc k) v r.standing (in_copies core plan delays owned g r.copies) hs) s no_time).took
          → child_runs T F more ≡ map ran left
          → child_runs T F (turn_at (beats r) g ∷ more) ≡ map ran (stage_of core plan delays counters owned stages k n s r (c g) g v (stage_history stages hs s) ++ left)
      one_more v hs g more left at is took h = by (stage_history stages hs s) refl is
        where
          by : (o : Option History) → stage_history stages hs s ≡ o → (F (turn_at (beats r) g)).wanted ≡ is_some o → child_runs T F (turn_at (beats r) g ∷ more) ≡ map ran (stage_of core plan delays counters owned stages k n s r (c g) g v o ++ left)
          by None e w = skipped T F (turn_at (beats r) g) more w ∙ h
          by (Some d) e w =
              let lasts = ap (λ (x : Run Stamped). x.took) (in_row core plan delays stages k (n + counters_size counters) 0 g (suc k) v r.standing (in_copies core plan delays owned g r.copies) hs s d e)
              ∙ ap (λ m. (timed core plan delays (stage_at stages s) (node_at stages (suc k) s) (number_at stages (n + counters_size counters) s) (inside_at r.standing k (in_group_of g m) v) (in_copies core plan delays owned g r.copies) d).took) {x = 0 + s} {y = s} (omega arith) in
              wanted T F (turn_at (beats r) g) more w
              ∙ ap (λ x. record { cycle = x; took = (F (turn_at (beats r) g)).took } ∷ child_runs T F more) at
              ∙ ap (λ x. record { cycle = r.cycle + c g; took = x } ∷ child_runs T F more) (took ∙ lasts)
              ∙ ap (λ rest. ran (record { cycle = r.cycle + c g; standing = inside_at r.standing k (in_group_of g s) v; copies = in_copies core plan delays owned g r.copies; history = d }) ∷ rest) h

      children : (values : List (List ℤ)) (groups : Groups) (g : ℕ) → Agrees g values groups
          → child_runs T F (front (beats r) g (length (rows g values groups))) ≡ map ran (groups_from core plan delays counters owned stages k n s r c g values groups)
      unfolding group_runs
      children [] groups g agrees = refl
      children (v ∷ values) no_group g agrees = refl
      children (v ∷ values) (more_group hs rest) g agrees =
          let here = agrees 0 (omega arith) in
          let same : g + 0 ≡ g = omega arith in
          one_more v hs g (front (beats r) (suc g) (length (rows (suc g) values rest))) (groups_from core plan delays counters owned stages k n s r c (suc g) values rest)
          (subst (λ m. suc (T (turn_at (beats r) m)) ≡ r.cycle + c m) same here.0)
          (subst (λ m. (F (turn_at (beats r) m)).wanted ≡ is_some (stage_history stages hs s)) same here.1)
          (subst (λ m. (F (turn_at (beats r) m)).took ≡ (slice_index_or (row_runs core plan delays stages k (n + counters_size counters) 0 g (suc k) v r.standing (in_copies core plan delays owned g r.copies) hs) s no_time).took) same here.2)
          (children values rest (suc g) (λ i l. let next = agrees (suc i) (omega (arith, l)) in let moved : g + suc i ≡ suc g + i = omega arith in
          (subst (λ m. suc (T (turn_at (beats r) m)) ≡ r.cycle + c m) moved next.0, subst (λ m. (F (turn_at (beats r) m)).wanted ≡ has_lane stages values rest i s) moved next.1, subst (λ m. (F (turn_at (beats r) m)).took ≡ took_at (rows (suc g) values rest) i s) moved next.2)))

      -- of a whole run
      as_in_stage : (h : History) → groups_from core plan delays counters owned stages k n s r (λ g. starts (slots_of (node_plan plan k)) (took_at (rows 0 (values_of counters h) (groups_of h))) g s) 0 (values_of counters h) (groups_of h)
          ≡ stage_in core plan delays counters owned stages k n s r h
      as_in_stage (outer_ran bs counts groups) = refl
      as_in_stage h = refl

  -- of a member, by its place
  module _ (in_timeline : LoopsAreInTimeline) (arranged : AreArranged places (slots_of (node_plan plan k))) (all : List Placed) (takes : TakeTime core plan delays k n counters owned stages places all) (x j i : ℕ) (place : IsPlace places x j i) where
    abbrev T : Turn → ℕ
    T = turn (slot_cycle (sizes places) x) (λ q. slot_found x q j) i

    abbrev F : Turn → MemberRan
    F = λ q. slot_found x q j i

    abbrev σ : ℕ
    σ = stage_in_place places x j i

    one_run : (r : Placed) → Contains all r → child_runs T F (turns (beats r) (length (rows_of core plan delays k n counters owned stages places r))) ≡ map (ran σ T F) (stage_in core plan delays counters owned stages k n σ r r.history)
    one_run r c =
        let time = in_time core plan delays k n counters owned stages places in_timeline arranged all takes r c in
        let begins : ℕ → ℕ = λ g. starts (slots_of (node_plan plan k)) (took_at (rows_of core plan delays k n counters owned stages places r)) g σ in
        ap (λ ts. child_runs T F ts) (turns_front (beats r) (length (rows_of core plan delays k n counters owned stages places r)))
        ∙ children σ T F r begins (values_of counters r.history) (groups_of r.history) 0
        (λ g l. let same : 0 + g ≡ g = omega arith in (
          subst (λ m. suc (T (turn_at (beats r) m)) ≡ r.cycle + begins m) (sym same) (time.members g x j i l place),
          ap (λ m. has_lane stages (values_of counters r.history) (groups_of r.history) m σ) same,
          ap (λ m. took_at (rows_of core plan delays k n counters owned stages places r) m σ) same,
        ))
        ∙ ap (λ ps. map (ran σ T F) ps) (as_in_stage σ T F r begins r.history)

    pub all_children : (runs : List Placed) → ((r : Placed) → Contains runs r → Contains all r) → child_runs T F (groups_in (map beats runs)) ≡ stage_rans core plan delays k n counters owned stages places σ runs
    all_children [] sub = refl
    all_children (r ∷ runs) sub =
        children_both T F (turns (beats r) (length (rows_of core plan delays k n counters owned stages places r))) (groups_in (map beats runs))
        ∙ ap (λ (xs : List Ran). xs ++ child_runs T F (groups_in (map beats runs))) (one_run r (sub r (here r runs)))
        ∙ ap (λ (xs : List Ran). map (ran σ T F) (stage_in core plan delays counters owned stages k n σ r r.history) ++ xs) (all_children runs (λ q c. sub q (there r q runs c)))
        ∙ sym (mapped_both (ran σ T F) (stage_in core plan delays counters owned stages k n σ r r.history) (stage_runs core plan delays counters owned stages k n σ runs))
