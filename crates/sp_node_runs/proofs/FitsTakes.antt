-- Each stage of an outer body takes time.
use Rattle.std.proofs.Common.{ℕ, zero, suc, ◌+◌, ◌≤◌, ◌<◌, Bool, true, false, ℤ, List, [], ◌∷◌, ◌++◌, length, slice_index, slice_index_or, sym, subst, arith}
use Rattle.std.specs.List.{Contains}
use Rattle.sp_words.specs.declared.kind.Style.{Style}
use Rattle.sp_core.specs.Events.{Standing}
use Rattle.sp_core.specs.History.{History, Groups, Runs, inner_ran, outer_ran, fsm_ran, branch_ran, moved, no_group, more_group, no_run, masked_run, more_run}
use Rattle.sp_core.specs.Numbering.{counters_size, node_count, number_count}
use Rattle.sp_core.specs.PlainCore.{PlainCounter, PlainNode, PlainStages, inner, outer, fsm, branch, load, store, sparse, no_stage, more_stage, PlainCore}
use Rattle.sp_fitting.specs.Fitting.{HistoryFits, GroupsFit, RunsFit}
use Rattle.sp_plan.specs.PlainPlan.{PlainPlan, node_plan}
use Rattle.sp_plan.specs.Validity.{stage_count}
use Rattle.sp_time.specs.Beats.{Slot, slot_at, is_slot, no_time, took_at}
use Rattle.sp_machine.specs.Stamps.{Copies}
use Rattle.sp_machine.specs.Timeline.{inner_took, slots_of, timed, group_runs, stage_runs as row_runs}
use Rattle.sp_machine.specs.Transfers.{Delays}
use Rattle.sp_overlap.specs.Whole.{IsTimed, AreTimed}
use Rattle.sp_part_runs.specs.SequencesPlaces.{stages_in, stage_at as stage_in_place}
use Rattle.sp_node_runs.specs.Runs.{Placed}
use Rattle.sp_node_runs.specs.ControlBeating.{groups_of, values_of}
use Rattle.sp_node_runs.specs.FitsLaws.{AllFit, StagesTakeTime}

inner_some : (n ii l : ℕ) → 1 ≤ inner_took n ii l
inner_some zero ii l = omega arith
inner_some (suc n) ii l = omega arith

-- stages of a chain are among the stages
abbrev Below : ℕ → List ℕ → Type 0
Below n [] = Unit {0}
Below n (x ∷ xs) = (x < n) × Below n xs

below_more : (n : ℕ) (xs : List ℕ) → Below n xs → Below (suc n) (xs ++ n ∷ [])
below_more n [] h = (omega arith, tt)
below_more n (x ∷ xs) h = (omega (arith, h.0), below_more n xs h.1)

below_next : (n : ℕ) (xs : List ℕ) → Below n xs → Below (suc n) xs
below_next n [] h = tt
below_next n (x ∷ xs) h = (omega (arith, h.0), below_next n xs h.1)

below_at : (n : ℕ) (xs : List ℕ) (i : ℕ) → Below n xs → i < length xs → slice_index xs i < n
below_at n [] i h l = absurd (omega (arith, l))
below_at n (x ∷ xs) zero h l = h.0
below_at n (x ∷ xs) (suc i) h l = below_at n xs i h.1 (omega (arith, l))

all_below : (slots : List Slot) (p : Slot) (n : ℕ) → Below n (stages_in slots p n)
all_below slots p zero = tt
all_below slots p (suc n) = by (is_slot (slot_at slots n) p) (all_below slots p n)
  where
    by : (b : Bool) → Below n (stages_in slots p n) → Below (suc n) (elim b as (λ _. List ℕ) [ true ↦ stages_in slots p n ++ n ∷ [] | false ↦ stages_in slots p n ])
    by true h = below_more n (stages_in slots p n) h
    by false h = below_next n (stages_in slots p n) h

module _ (core : PlainCore) (plan : PlainPlan) (delays : Delays) where
  pub took_some : (node : PlainNode) (k n : ℕ) (st : Standing) (copies : Copies) (h : History) → IsTimed node → HistoryFits core node h → 1 ≤ (timed core plan delays node k n st copies h).took
  unfolding timed
  took_some (inner counters owned ops comb) k n st copies (inner_ran bs counts groups) is f = inner_some (length groups) _ _
  took_some (outer counters style owned stages) k n st copies (outer_ran bs counts groups) is f = omega arith
  took_some (fsm start state test body next) k n st copies (fsm_ran first ts last) is f = omega arith
  took_some (branch test first second) k n st copies (branch_ran es true h) is f = omega arith
  took_some (branch test first second) k n st copies (branch_ran es false h) is f = omega arith
  took_some (load r m spans) k n st copies (moved taken words) is f = omega arith
  took_some (store r m spans) k n st copies (moved taken words) is f = omega arith
  took_some (sparse kind r m places spans count par) k n st copies h is f = elim is [ ]
  took_some node k n st copies h is f = elim f [ ]

  row_takes : (stages : PlainStages) (k n i g j : ℕ) (v : List ℤ) (st : Standing) (copies : Copies) (hs : Runs) (s : ℕ) → AreTimed stages → RunsFit core stages hs → s < stage_count stages
      → 1 ≤ (slice_index_or (row_runs core plan delays stages k n i g j v st copies hs) s no_time).took
  unfolding row_runs
  row_takes (more_stage first last comb node rest) k n i g j v st copies (more_run h hs) zero is f l = took_some node j n _ copies h is.0 f.0
  row_takes (more_stage first last comb node rest) k n i g j v st copies (more_run h hs) (suc s) is f l = row_takes rest k (n + number_count node) (suc i) g (j + node_count node) v st copies hs s is.1 f.1 (omega (arith, l))
  row_takes (more_stage first last comb node rest) k n i g j v st copies (masked_run hs) zero is f l = omega arith
  row_takes (more_stage first last comb node rest) k n i g j v st copies (masked_run hs) (suc s) is f l = row_takes rest k (n + number_count node) (suc i) g (j + node_count node) v st copies hs s is.1 f (omega (arith, l))
  row_takes (more_stage first last comb node rest) k n i g j v st copies no_run s is f l = elim f [ ]
  row_takes no_stage k n i g j v st copies hs s is f l = absurd (omega (arith, l))

  group_takes : (stages : PlainStages) (k n b : ℕ) (st : Standing) (owned : List ℕ) (copies : Copies) (values : List (List ℤ)) (groups : Groups) (g s : ℕ) → AreTimed stages → GroupsFit core stages groups → s < stage_count stages
      → g < length (group_runs core plan delays stages k n b st owned copies values groups) → 1 ≤ took_at (group_runs core plan delays stages k n b st owned copies values groups) g s
  unfolding group_runs
  group_takes stages k n b st owned copies (v ∷ values) (more_group hs rest) zero s is f l at = row_takes stages k n 0 b (suc k) v st _ hs s is f.0 l
  group_takes stages k n b st owned copies (v ∷ values) (more_group hs rest) (suc g) s is f l at = group_takes stages k n (suc b) st owned copies values rest g s is f.1 l (omega (arith, at))
  group_takes stages k n b st owned copies (v ∷ values) no_group g s is f l at = absurd (omega (arith, at))
  group_takes stages k n b st owned copies [] groups g s is f l at = absurd (omega (arith, at))

  fit_of : (node : PlainNode) (runs : List Placed) → AllFit core plan delays node runs → (r : Placed) → Contains runs r → HistoryFits core node r.history
  fit_of node [] f r (i, l, e) = absurd (omega (arith, l))
  fit_of node (q ∷ runs) f r (zero, l, e) = subst (λ (x : Placed). HistoryFits core node x.history) e f.0
  fit_of node (q ∷ runs) f r (suc i, l, e) = fit_of node runs f.1 r (i, omega (arith, l), e)

  groups_fit : (counters : List PlainCounter) (style : Style) (owned : List ℕ) (stages : PlainStages) (h : History) → HistoryFits core (outer counters style owned stages) h → GroupsFit core stages (groups_of h)
  groups_fit counters style owned stages (outer_ran bs counts groups) f = f.1
  groups_fit counters style owned stages h f = elim f [ ]

  pub stages_take_time : StagesTakeTime core plan delays
  stages_take_time k n counters style owned stages places runs f is arranged size r g x j i c at place =
      let chain = arranged.chains x j place.0 place.1 in
      let some : stage_in_place places x j i < length (slots_of (node_plan plan k)) =
      subst (λ (xs : List ℕ). slice_index xs i < length (slots_of (node_plan plan k))) (sym chain.1)
      (below_at (length (slots_of (node_plan plan k))) (stages_in (slots_of (node_plan plan k)) (record { slot = x; chain = chain.0 }) (length (slots_of (node_plan plan k)))) i
      (all_below (slots_of (node_plan plan k)) (record { slot = x; chain = chain.0 }) (length (slots_of (node_plan plan k)))) (subst (λ (xs : List ℕ). i < length xs) chain.1 place.2)) in
      group_takes stages k (n + counters_size counters) 0 r.standing owned r.copies (values_of counters r.history) (groups_of r.history) g (stage_in_place places x j i) is
      (groups_fit counters style owned stages r.history (fit_of (outer counters style owned stages) runs f r c)) (omega (arith, some, size)) at
