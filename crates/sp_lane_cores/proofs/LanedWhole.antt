-- Where combinations stand where they are marked, and apart, they combine as lanes may.
use Rattle.std.proofs.Common.{◌≡◌, ◌⊎◌, inl, inr, ℕ, Bool, true, false, List, [], ◌++◌, Option, Some, None}
use Rattle.std.proofs.lemmas.Bool.{and_parts}
use Rattle.sp_core.specs.Around.{Around, within}
use Rattle.sp_core.specs.Invariant.{owned_in}
use Rattle.sp_core.specs.NodeRules.{with_state, are_counters_right, is_node_right}
use Rattle.sp_core.specs.OperationRules.{are_operations_right}
use Rattle.sp_core.specs.PlainCore.{PlainOp, PlainCounter, PlainNode, PlainStages, inner, outer, fsm, branch, load, store, sparse, no_stage, more_stage, PlainCore}
use Rattle.sp_lanes.specs.Unrolled.{combination_of}
use Rattle.sp_lane_rules.specs.Copies.{OwnsInLanes, OwnInLanes}
use Rattle.sp_lane_cores.specs.LanedMarks.{IsMarked, NoneCombines, LastCombines, IsLaned, AreLaned}
use Rattle.sp_lane_rules.specs.UnrolledRight.{EachRight, AllRight}
use Rattle.sp_lane_rules.specs.CombinedMeetings.{IsMet}
use Rattle.sp_lane_rules.specs.CombinedStanding.{numbers_of, MayFollow, Combines, Combine}
use Rattle.sp_lane_cores.specs.Standing.{TakesBefore, HasOthers, StandsApart, StandApart}
use Rattle.sp_lane_cores.proofs.Forms.{combination_met}

module _ (core : PlainCore) where
  -- none of the stages combines, or the last one does
  abbrev Marked : PlainStages → Type 0
  Marked stages = NoneCombines core stages ⊎ ((is : ℕ → Bool) × LastCombines core is stages)

  marked_met : (around : Around) (ops : List PlainOp) (comb : Option ℕ) → IsMarked core ops comb → TakesBefore ops comb → are_operations_right core around ops ≡ true → IsMet ops comb
  marked_met around ops None m b right = tt
  marked_met around ops (Some at) m b right = combination_met core around m.0 ops at m.1 b right

  inner_met : (around : Around) (counters : List PlainCounter) (owned : List ℕ) (ops : List PlainOp) (comb : Option ℕ) → IsMarked core ops comb → TakesBefore ops comb → is_node_right core around (inner counters owned ops comb) ≡ true → IsMet ops comb
  inner_met around counters owned ops comb m b right =
      marked_met (within around counters owned) ops comb m b (and_parts (are_counters_right core around counters) (are_operations_right core (within around counters owned) ops) right).1

  after_one : (first last : ℕ) (node : PlainNode) (rest : PlainStages) → Marked (more_stage first last false node rest) → Marked rest
  after_one first last node rest (inl h) = inl h
  after_one first last node rest (inr (is, h)) = inr (is, h.1)

  -- the last stage
  last_follows : (first last : ℕ) (node : PlainNode) (rest : PlainStages) (is : ℕ → Bool) (numbers : List ℕ) (around : Around) → LastCombines core is (more_stage first last true node rest)
      → HasOthers numbers node → StandsApart numbers node → owned_in node ≡ [] → EachRight core around node → MayFollow numbers (Some node)
  last_follows first last (inner counters owned ops (Some at)) no_stage is numbers around h o s e r = (o, e, inner_met around counters owned ops (Some at) (h.1.0, h.1.2) s r)
  last_follows first last (inner counters owned ops (Some at)) (more_stage f l c n rest) is numbers around h o s e r = absurd h
  last_follows first last (inner counters owned ops None) rest is numbers around h o s e r = absurd h
  last_follows first last (outer counters style owned stages) rest is numbers around h o s e r = absurd h
  last_follows first last (fsm start state test body next) rest is numbers around h o s e r = absurd h
  last_follows first last (branch test one two) rest is numbers around h o s e r = absurd h
  last_follows first last (load d m spans) rest is numbers around h o s e r = absurd h
  last_follows first last (store d m spans) rest is numbers around h o s e r = absurd h
  last_follows first last (sparse kind d m index spans count par) rest is numbers around h o s e r = absurd h

  last_combines : (first last : ℕ) (node : PlainNode) (rest : PlainStages) (is : ℕ → Bool) (numbers : List ℕ) (around : Around) → LastCombines core is (more_stage first last true node rest)
      → StandsApart numbers node → EachRight core around node → Combines numbers node × Combine numbers rest
  last_combines first last (inner counters owned ops (Some at)) no_stage is numbers around h s r = (inr (inner_met around counters owned ops (Some at) (h.1.0, h.1.2) s r), tt)
  last_combines first last (inner counters owned ops (Some at)) (more_stage f l c n rest) is numbers around h s r = absurd h
  last_combines first last (inner counters owned ops None) rest is numbers around h s r = absurd h
  last_combines first last (outer counters style owned stages) rest is numbers around h s r = absurd h
  last_combines first last (fsm start state test body next) rest is numbers around h s r = absurd h
  last_combines first last (branch test one two) rest is numbers around h s r = absurd h
  last_combines first last (load d m spans) rest is numbers around h s r = absurd h
  last_combines first last (store d m spans) rest is numbers around h s r = absurd h
  last_combines first last (sparse kind d m index spans count par) rest is numbers around h s r = absurd h

  stages_follow : (stages : PlainStages) (numbers : List ℕ) (around : Around) → Marked stages → StandApart numbers stages → OwnInLanes stages → AllRight core around stages → MayFollow numbers (combination_of stages)
  stages_follow no_stage numbers around m s o r = tt
  stages_follow (more_stage first last true node rest) numbers around (inl h) s o r = absurd h
  stages_follow (more_stage first last true node rest) numbers around (inr (is, h)) s o r = last_follows first last node rest is numbers around h s.0 s.1 o.0 r.0
  stages_follow (more_stage first last false node rest) numbers around m s o r = stages_follow rest numbers around (after_one first last node rest m) s.1 o.1 r.1

  mutual
    pub node_combines : (node : PlainNode) (numbers : List ℕ) (around : Around) → IsLaned core node → StandsApart numbers node → OwnsInLanes node → EachRight core around node → Combines numbers node
    node_combines (inner counters owned ops comb) numbers around h s o r = inr (inner_met around counters owned ops comb h.1 s r)
    node_combines (outer counters style owned stages) numbers around h s o r = (
      inr (stages_follow stages (numbers_of counters ++ numbers) (within around counters owned) h.1 s o r.1),
      stages_combine stages (numbers_of counters ++ numbers) (within around counters owned) h.1 h.2 s o r.1,
    )
    node_combines (fsm start state test body next) numbers around h s o r = node_combines body numbers (with_state core around state) h s o r.1
    node_combines (branch test first second) numbers around h s o r = (node_combines first numbers around h.0 s.0 o.0 r.1, node_combines second numbers around h.1 s.1 o.1 r.2)
    node_combines (load d m spans) numbers around h s o r = tt
    node_combines (store d m spans) numbers around h s o r = tt
    node_combines (sparse kind d m index spans count par) numbers around h s o r = tt

    stages_combine : (stages : PlainStages) (numbers : List ℕ) (around : Around) → Marked stages → AreLaned core stages → StandApart numbers stages → OwnInLanes stages → AllRight core around stages → Combine numbers stages
    stages_combine no_stage numbers around m h s o r = tt
    stages_combine (more_stage first last true node rest) numbers around (inl m) h s o r = absurd m
    stages_combine (more_stage first last true node rest) numbers around (inr (is, m)) h s o r = last_combines first last node rest is numbers around m s.1 r.0
    stages_combine (more_stage first last false node rest) numbers around m h s o r = (
      node_combines node numbers around h.0 s.0 o.0 r.0,
      stages_combine rest numbers around (after_one first last node rest m) h.1 s.1 o.1 r.1,
    )
