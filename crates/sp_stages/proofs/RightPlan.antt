-- A plan of an outer body with finest slots and chains keeps the rules of valid plans at its node.
use Rattle.std.proofs.Common.{◌≡◌, ℕ, ◌+◌, ◌==◌, ◌&&◌, ◌||◌, Bool, true, false, List, length, Option, Some, None, refl, ap, ◌∙◌, eq-eqb, arith}
use Rattle.sp_core.specs.declared.access.Meet.{Meet}
use Rattle.sp_core.specs.Declarations.{is_stream}
use Rattle.sp_core.specs.Forms.{PlainForms}
use Rattle.sp_core.specs.Numbering.{counters_size, number_count}
use Rattle.sp_core.specs.PlainCore.{PlainCounter, PlainNode, PlainStages, inner, outer, fsm, branch, load, store, sparse, no_stage, more_stage, PlainCore}
use Rattle.sp_plan.specs.Nodes.{Site, site_at, keeps_at}
use Rattle.sp_plan.specs.PlainPlan.{PlainNodePlan, inner_plan, outer_plan, other_plan, PlainPlan, node_plan}
use Rattle.sp_plan.specs.Slots.{StageRun, runs_of, are_slots_right, are_held, are_chains_right}
use Rattle.sp_plan.specs.Validity.{stage_count, has_slots, is_kind_of, are_runs_right, kind_rule, slot_rule}
use Rattle.sp_stages.specs.Plans.{is_outer, is_outer_at, is_outer_of, AreFinestIn, AreFinestOf, AreFinestAt, AreFinestSlotsOf, AreFinestChainsIn, AreFinestChainsFrom, AreFinestChainsAt, AreFinestChainsOf, IsFinestBy, IsFinestPlan, IsRightPlan}
use Rattle.sp_stages.proofs.Below.{and_both}
use Rattle.sp_words.specs.declared.kind.Style.{Style}

run_count : (n : ℕ) (stages : PlainStages) → length (runs_of n stages) ≡ stage_count stages
run_count n no_stage = refl
run_count n (more_stage first last comb node rest) = let k = run_count (n + number_count node) rest in omega arith

module _ (core : PlainCore) (meets : List Meet) (slots chains : List ℕ) where
  abbrev AreBothRight : (slotted held chained : Bool) → Bool
  AreBothRight a b c = a && (b && c)

  slotted : (b : Bool) (counters : List PlainCounter) (style : Style) (owned : List ℕ) (runs : List StageRun) (count : ℕ) → length runs ≡ count → AreFinestIn core meets b counters style owned runs slots → AreFinestChainsIn core meets slots b counters style owned runs chains
      → has_slots b count (length slots) (length chains) ≡ true
  slotted true counters style owned runs count is h g = and_both (length slots == 0) (length chains == 0) (eq-eqb (length slots) 0 (ap length h)) (eq-eqb (length chains) 0 (ap length g))
  slotted false counters style owned runs count is h g = and_both (length slots == count) (length chains == count) (eq-eqb (length slots) count (h.may_be.one_each ∙ is)) (eq-eqb (length chains) count (g.may_be.one_each ∙ is))

  divided : (b : Bool) (counters : List PlainCounter) (style : Style) (owned : List ℕ) (runs : List StageRun) → AreFinestIn core meets b counters style owned runs slots → AreFinestChainsIn core meets slots b counters style owned runs chains
      → (b || (are_slots_right runs slots chains counters style && (are_held runs slots chains core owned counters meets && are_chains_right runs slots chains core counters style meets))) ≡ true
  divided true counters style owned runs h g = refl
  divided false counters style owned runs h g =
      and_both (are_slots_right runs slots chains counters style) _ h.may_be.right
      (and_both (are_held runs slots chains core owned counters meets) (are_chains_right runs slots chains core counters style meets) h.may_be.held g.may_be.right)

  of_kind : (s : Site) (node : PlainNode) → is_outer node ≡ true → AreFinestOf core meets s node slots → AreFinestChainsFrom core meets slots s node chains → is_kind_of node (outer_plan slots chains) ≡ true
  of_kind s (outer counters style owned stages) e h g =
      slotted (is_stream style) counters style owned (runs_of (s.number + counters_size counters) stages) (stage_count stages) (run_count (s.number + counters_size counters) stages) h g
  of_kind s (inner counters owned ops comb) e h g = absurd (cc)
  of_kind s (fsm start state test body next) e h g = absurd (cc)
  of_kind s (branch test first second) e h g = absurd (cc)
  of_kind s (load r m spans) e h g = absurd (cc)
  of_kind s (store r m spans) e h g = absurd (cc)
  of_kind s (sparse kind r m index spans count par) e h g = absurd (cc)

  module _ (forms : PlainForms) (plan : PlainPlan) where
    runs_right : (s : Site) (node : PlainNode) → is_outer node ≡ true → AreFinestOf core meets s node slots → AreFinestChainsFrom core meets slots s node chains → are_runs_right core forms meets plan s.number node (outer_plan slots chains) ≡ true
    runs_right s (outer counters style owned stages) e h g = divided (is_stream style) counters style owned (runs_of (s.number + counters_size counters) stages) h g
    runs_right s (inner counters owned ops comb) e h g = absurd (cc)
    runs_right s (fsm start state test body next) e h g = absurd (cc)
    runs_right s (branch test first second) e h g = absurd (cc)
    runs_right s (load r m spans) e h g = absurd (cc)
    runs_right s (store r m spans) e h g = absurd (cc)
    runs_right s (sparse kind r m index spans count par) e h g = absurd (cc)

    kind_at : (k : ℕ) (site : Option Site) → is_outer_at site ≡ true → AreFinestAt core meets site slots → AreFinestChainsAt core meets slots site chains → node_plan plan k ≡ outer_plan slots chains → keeps_at (kind_rule core forms meets plan) k site ≡ true
    kind_at k None e h g is = absurd (cc)
    kind_at k (Some s) e h g is = ap (is_kind_of s.node) is ∙ of_kind s s.node e h g

    slots_at : (k : ℕ) (site : Option Site) → is_outer_at site ≡ true → AreFinestAt core meets site slots → AreFinestChainsAt core meets slots site chains → node_plan plan k ≡ outer_plan slots chains → keeps_at (slot_rule core forms meets plan) k site ≡ true
    slots_at k None e h g is = absurd (cc)
    slots_at k (Some s) e h g is = ap (are_runs_right core forms meets plan s.number s.node) is ∙ runs_right s s.node e h g

module _ (core : PlainCore) (meets : List Meet) (k : ℕ) (e : is_outer_of core k ≡ true) where
  pub right_outer : (slots chains : List ℕ) → AreFinestSlotsOf core meets k slots → AreFinestChainsOf core meets slots k chains → IsRightPlan core meets k (outer_plan slots chains)
  right_outer slots chains h g = record {
    kind = λ forms plan is. kind_at core meets slots chains forms plan k (site_at k 0 false core.root) e h g is;
    slots = λ forms plan is. slots_at core meets slots chains forms plan k (site_at k 0 false core.root) e h g is;
  }

  right_by : (b : Bool) (mine : PlainNodePlan) → b ≡ true → IsFinestBy core meets k b mine → IsRightPlan core meets k mine
  right_by true (outer_plan slots chains) is h = right_outer slots chains h.0 h.1
  right_by true (inner_plan times ii latency serial) is h = absurd h
  right_by true other_plan is h = absurd h
  right_by false mine is h = absurd (cc)

  pub right_plan : (mine : PlainNodePlan) → IsFinestPlan core meets k mine → IsRightPlan core meets k mine
  right_plan mine h = right_by (is_outer_of core k) mine e h
