-- A memory has few copies: no body has more slots than stages.
use Rattle.std.proofs.Common.{◌≡◌, ℕ, zero, suc, ◌+◌, ◌-◌, ◌*◌, ◌<◌, ◌≤◌, ◌^◌, max, nat_le, ◌&&◌, Bool, true, false, cond, IsTrue, List, [], ◌∷◌, ◌++◌, fold, length, slice_index, slice_index_or, Option, Some, None, refl, ap, sym, subst, ◌∙◌, arith}
use Rattle.std.proofs.lemmas.Bool.{and_parts, le-leb, leb-true}
use Rattle.std.specs.Prelude.{not}
use Rattle.sp_bank.specs.Banking.{Banking}
use Rattle.sp_core.specs.declared.access.Meet.{Meet}
use Rattle.sp_core.specs.Declarations.{is_among, is_stream}
use Rattle.sp_core.specs.Invariant.{IsCore}
use Rattle.sp_core.specs.Numbering.{node_count, counters_size, number_count}
use Rattle.sp_core.specs.PlainCore.{PlainCounter, PlainNode, PlainStages, inner, outer, fsm, branch, load, store, sparse, no_stage, more_stage, PlainCore}
use Rattle.sp_depths.specs.Depths.{depth_in, depth_in_stages, depth_of}
use Rattle.sp_plan.specs.Copies.{is_loop, slots_between, used_slots, copies}
use Rattle.sp_plan.specs.Named.{uses}
use Rattle.sp_plan.specs.Nodes.{NodeRule, holds_of_each, holds_of_stages, Site, site_at, keeps_at}
use Rattle.sp_plan.specs.PlainPlan.{PlainNodePlan, inner_plan, outer_plan, other_plan}
use Rattle.sp_plan.specs.Slots.{StageRun, runs_of, run_at, is_of_all, is_in_lane_0, lane_size, stage_of}
use Rattle.sp_plans.proofs.FromSites.{from_sites}
use Rattle.sp_plans.specs.Planned.{IsBestBy, AreBestPlans}
use Rattle.sp_stages.proofs.Below.{listed, filter_most}
use Rattle.sp_stages.proofs.Sizes.{site_within, few_runs}
use Rattle.sp_stages.specs.Divided.{is_joined, slot_of, slots_of, runs_in, runs_at, runs_of_node}
use Rattle.sp_stages.specs.Finest.{are_in_place, AreFinestSlots}
use Rattle.sp_stages.specs.Plans.{is_outer, is_outer_at, is_outer_of, AreFinestIn, AreFinestOf, AreFinestAt, IsFinestBy}
use Rattle.sp_words.specs.declared.kind.Style.{Style}

-- the laws of slots
abbrev pub DividedAreFinest : Type 0
DividedAreFinest = (core : PlainCore) (meets : List Meet) (counters : List PlainCounter) (style : Style) (owned : List ℕ) (runs : List StageRun)
    → IsTrue (are_in_place runs) → AreFinestSlots core meets counters style owned runs (slots_of core meets counters style owned runs)

abbrev pub StagesAreInPlace : Type 0
StagesAreInPlace = (core : PlainCore) → IsCore core → (node : ℕ) → IsTrue (are_in_place (runs_of_node core node))

-- none of these is greater
abbrev AreAtMost : (most : ℕ) → List ℕ → Type 0
AreAtMost most [] = Unit {0}
AreAtMost most (x ∷ xs) = (x ≤ most) × AreAtMost most xs

at_most : (most : ℕ) (xs : List ℕ) → ((p : ℕ) → p < length xs → slice_index xs p ≤ most) → AreAtMost most xs
at_most most [] h = tt
at_most most (x ∷ xs) h = (h 0 (omega arith), at_most most xs (λ p lt. h (suc p) (omega arith)))

greatest : (most s : ℕ) (xs : List ℕ) → s ≤ most → AreAtMost most xs → fold max s xs ≤ most
greatest most s [] p h = p
greatest most s (x ∷ xs) p h = let q = h.0 in greatest most (max s x) xs (omega arith) h.1

between : (most : ℕ) (xs : List ℕ) → AreAtMost most xs → slots_between xs ≤ most + 1
between most [] h = omega arith
between most (s ∷ xs) h = let g = greatest most s xs h.0 h.1 in omega arith

either : (b : Bool) (x y most : ℕ) → x ≤ most → y ≤ most → cond b x y ≤ most
either true x y most p q = p
either false x y most p q = q

also : (most : ℕ) (b : Bool) (s : ℕ) (xs : List ℕ) → s ≤ most → AreAtMost most xs → AreAtMost most (cond b (s ∷ []) [] ++ xs)
also most true s xs p h = (p, h)
also most false s xs p h = h

module _ (core : PlainCore) (m most : ℕ) where
  used : (stages : PlainStages) (slots : List ℕ) → AreAtMost most slots → AreAtMost most (used_slots core m stages slots)
  used no_stage slots h = tt
  used (more_stage first last comb node rest) [] h = tt
  used (more_stage first last comb node rest) (s ∷ slots) h = also most (uses core m node) s (used_slots core m rest slots) h.0 (used rest slots h.1)

  copies_at_most : (stages : PlainStages) (slots chains : List ℕ) → AreAtMost most slots → copies core m stages (outer_plan slots chains) ≤ most + 1
  copies_at_most stages slots chains h = between most (used_slots core m stages slots) (used stages slots h)

-- as many slots begin by a stage as there are stages before it, at most
slot_at_most : (joined : ℕ → Bool) (k : ℕ) → slot_of joined k ≤ k
slot_at_most joined zero = omega arith
slot_at_most joined (suc k) =
    let h = slot_at_most joined k in
    let one = either (joined k) 0 1 1 (omega arith) (omega arith) in
    omega arith

less : (p k n : ℕ) → p < n → p - k ≤ n
less p k n lt = omega arith

stage_at_most : (runs : List StageRun) (p : ℕ) → p < length runs → stage_of runs p ≤ length runs
stage_at_most runs p lt =
    either (is_of_all (run_at runs p)) (lane_size runs) (p - (run_at runs p).first * lane_size runs) (length runs)
    (filter_most is_in_lane_0 runs) (less p ((run_at runs p).first * lane_size runs) (length runs) lt)

module _ (divided : DividedAreFinest) (core : PlainCore) (meets : List Meet) where
  finest_at_most : (counters : List PlainCounter) (style : Style) (owned : List ℕ) (runs : List StageRun) (slots : List ℕ) → are_in_place runs ≡ true → AreFinestSlots core meets counters style owned runs slots → AreAtMost (length runs) slots
  finest_at_most counters style owned runs slots placed h = at_most (length runs) slots (λ p lt.
      let each = h.may_be.one_each in
      let inside : p < length runs = omega (arith, each, lt) in
      let no_greater = (divided core meets counters style owned runs placed).finest slots h.may_be p in
      let is = listed (λ q. slot_of (is_joined core meets counters style owned runs) (stage_of runs q)) (length runs) p inside in
      let begun = slot_at_most (is_joined core meets counters style owned runs) (stage_of runs p) in
      let stage = stage_at_most runs p inside in
      omega (arith, no_greater, is, begun, stage))

  in_at_most : (b : Bool) (counters : List PlainCounter) (style : Style) (owned : List ℕ) (runs : List StageRun) (slots : List ℕ) → are_in_place runs ≡ true → AreFinestIn core meets b counters style owned runs slots → AreAtMost (length runs) slots
  in_at_most true counters style owned runs slots placed h = subst (AreAtMost (length runs)) (sym h) tt
  in_at_most false counters style owned runs slots placed h = finest_at_most counters style owned runs slots placed h

  module _ (in_place : StagesAreInPlace) (schemes : List (Option Banking)) (nodes : List PlainNodePlan) (m : ℕ) where
    -- a body asks for few copies
    abbrev few_rule : NodeRule
    few_rule k n streamed (outer counters style owned stages) = nat_le (copies core m stages (slice_index_or nodes k other_plan)) (2 ^ 30)
    few_rule k n streamed node = true

    few_of : (k : ℕ) (s : Site) (node : PlainNode) (slots chains : List ℕ) → node_count node ≤ 2 ^ 29 → are_in_place (runs_in s.number node) ≡ true → AreFinestOf core meets s node slots → slice_index_or nodes k other_plan ≡ outer_plan slots chains → few_rule k s.number s.streamed node ≡ true
    few_of k s (outer counters style owned stages) slots chains size placed h is =
        let runs = runs_of (s.number + counters_size counters) stages in
        let slots_few = in_at_most (is_stream style) counters style owned runs slots placed h in
        let most = copies_at_most core m (length runs) stages slots chains slots_few in
        let count = few_runs (s.number + counters_size counters) stages in
        ap (λ p. nat_le (copies core m stages p) (2 ^ 30)) is ∙ le-leb (copies core m stages (outer_plan slots chains)) (2 ^ 30) (omega (arith, most, count, size))
    few_of k s (inner counters owned ops comb) slots chains size placed h is = refl
    few_of k s (fsm start state test body next) slots chains size placed h is = refl
    few_of k s (branch test first second) slots chains size placed h is = refl
    few_of k s (load r q spans) slots chains size placed h is = refl
    few_of k s (store r q spans) slots chains size placed h is = refl
    few_of k s (sparse kind r q places spans count par) slots chains size placed h is = refl

    -- no other node does
    other_few : (k n : ℕ) (streamed : Bool) (node : PlainNode) → is_outer node ≡ false → few_rule k n streamed node ≡ true
    other_few k n st (outer counters style owned stages) e = absurd (cc)
    other_few k n st (inner counters owned ops comb) e = refl
    other_few k n st (fsm start state test body next) e = refl
    other_few k n st (branch test first second) e = refl
    other_few k n st (load r q spans) e = refl
    other_few k n st (store r q spans) e = refl
    other_few k n st (sparse kind r q places spans count par) e = refl

    other_at : (k : ℕ) (site : Option Site) → is_outer_at site ≡ false → keeps_at few_rule k site ≡ true
    other_at k None e = refl
    other_at k (Some s) e = other_few k s.number s.streamed s.node e

    module _ (ok : IsCore core) where
      few_at : (k : ℕ) (site : Option Site) (slots chains : List ℕ) → site_at k 0 false core.root ≡ site → are_in_place (runs_at site) ≡ true → AreFinestAt core meets site slots → slice_index_or nodes k other_plan ≡ outer_plan slots chains → keeps_at few_rule k site ≡ true
      few_at k None slots chains at placed h is = refl
      few_at k (Some s) slots chains at placed h is = few_of k s s.node slots chains (site_within core k s ok at).1 placed h is

      few_by : (k : ℕ) (mine : PlainNodePlan) → slice_index_or nodes k other_plan ≡ mine → IsFinestBy core meets k true mine → keeps_at few_rule k (site_at k 0 false core.root) ≡ true
      few_by k (outer_plan slots chains) is h = few_at k (site_at k 0 false core.root) slots chains refl (in_place core ok k) h.0 is
      few_by k (inner_plan times ii latency serial) is h = absurd h
      few_by k other_plan is h = absurd h

      best_few : (k : ℕ) (b : Bool) → is_outer_of core k ≡ b → IsBestBy core meets schemes b k (slice_index_or nodes k other_plan) → keeps_at few_rule k (site_at k 0 false core.root) ≡ true
      best_few k true e h = few_by k (slice_index_or nodes k other_plan) refl (subst (λ b. IsFinestBy core meets k b (slice_index_or nodes k other_plan)) e h)
      best_few k false e h = other_at k (site_at k 0 false core.root) e

    mutual
      few_in : (k n : ℕ) (streamed : Bool) (node : PlainNode) → holds_of_each few_rule k n streamed node ≡ true → depth_in core nodes m k node ≤ 2 ^ 30
      few_in k n st (inner counters owned ops comb) h = omega arith
      few_in k n st (outer counters style owned stages) h =
          let parts = and_parts (few_rule k n st (outer counters style owned stages)) (holds_of_stages few_rule (suc k) (n + counters_size counters) (is_stream style) stages) h in
          either ((is_loop counters && not (is_stream style)) && is_among m owned) (copies core m stages (slice_index_or nodes k other_plan)) (depth_in_stages core nodes m (suc k) stages) (2 ^ 30)
          (leb-true (copies core m stages (slice_index_or nodes k other_plan)) (2 ^ 30) parts.0) (few_in_stages (suc k) (n + counters_size counters) (is_stream style) stages parts.1)
      few_in k n st (fsm start state test body next) h = few_in (suc k) (n + (length start + length test)) false body h
      few_in k n st (branch test first second) h =
          let parts = and_parts (holds_of_each few_rule (suc k) (n + length test) false first) (holds_of_each few_rule (suc k + node_count first) ((n + length test) + number_count first) false second) h in
          let a = few_in (suc k) (n + length test) false first parts.0 in
          let b = few_in (suc k + node_count first) ((n + length test) + number_count first) false second parts.1 in
          omega (arith, a, b)
      few_in k n st (load r q spans) h = omega arith
      few_in k n st (store r q spans) h = omega arith
      few_in k n st (sparse kind r q places spans count par) h = omega arith

      few_in_stages : (k n : ℕ) (streamed : Bool) (stages : PlainStages) → holds_of_stages few_rule k n streamed stages ≡ true → depth_in_stages core nodes m k stages ≤ 2 ^ 30
      few_in_stages k n st no_stage h = omega arith
      few_in_stages k n st (more_stage first last comb node rest) h =
          let parts = and_parts (holds_of_each few_rule k n st node) (holds_of_stages few_rule (k + node_count node) (n + number_count node) st rest) h in
          let a = few_in k n st node parts.0 in
          let b = few_in_stages (k + node_count node) (n + number_count node) st rest parts.1 in
          omega (arith, a, b)

    pub few_copies : IsCore core → AreBestPlans core meets schemes nodes → depth_of core nodes m ≤ 2 ^ 30
    few_copies ok best = few_in 0 0 false core.root (from_sites few_rule core.root (λ k lt. best_few ok k (is_outer_of core k) refl (best k lt)))
