-- The side of a branch, and the body of an FSM, within a run of the whole.
use Rattle.std.proofs.Common.{ℕ, suc, ◌+◌, true, false, List, arith, length}
use Rattle.sp_core.specs.History.{History, Turns, Entry, fsm_ran, branch_ran, no_turn, more_turn}
use Rattle.sp_core.specs.Numbering.{node_count, number_count}
use Rattle.sp_core.specs.PlainCore.{PlainOp, PlainNode, fsm, branch, PlainCore}
use Rattle.sp_plan.specs.PlainPlan.{PlainPlan}
use Rattle.sp_machine.specs.Timeline.{timed, turn_runs}
use Rattle.sp_machine.specs.Transfers.{Delays}
use Rattle.sp_node_runs.specs.RunsLaws.{SidesComeInTurn, BodiesComeInTurn}
use Rattle.sp_node_runs.specs.Runs.{Placed, over_at, AreWithin, list_took, side_in, turn_of, turns_from, body_in}
use Rattle.sp_node_runs.proofs.RunsTurns.{ends_later, begins_sooner, all_within}

module _ (core : PlainCore) (plan : PlainPlan) (delays : Delays) where
  module _ (test : List PlainOp) (first second : PlainNode) (k n : ℕ) (r : Placed) where
    first_of : (h : History) → AreWithin core plan delays first (suc k) (n + length test) r.cycle (r.cycle + (timed core plan delays (branch test first second) k n r.standing r.copies h).took) (side_in core plan delays test k true r h)
    unfolding timed
    first_of (branch_ran es true h) = (omega arith, omega arith)
    first_of h = omega arith

    second_of : (h : History) → AreWithin core plan delays second (suc k + node_count first) (n + (length test + number_count first)) r.cycle (r.cycle + (timed core plan delays (branch test first second) k n r.standing r.copies h).took) (side_in core plan delays test k false r h)
    unfolding timed
    second_of (branch_ran es false h) = (omega arith, omega arith)
    second_of h = omega arith

  pub sides_come_in_turn : SidesComeInTurn core plan delays
  sides_come_in_turn k n test first second from until runs h = (
    all_within core plan delays (branch test first second) first k n (suc k) (n + length test) (λ r. side_in core plan delays test k true r r.history) (λ r. first_of test first second k n r r.history) from until runs h,
    all_within core plan delays (branch test first second) second k n (suc k + node_count first) (n + (length test + number_count first)) (λ r. side_in core plan delays test k false r r.history) (λ r. second_of test first second k n r r.history) from until runs h,
  )

  module _ (start : List PlainOp) (state : ℕ) (test : List PlainOp) (body : PlainNode) (next : List PlainOp) (k n : ℕ) (r : Placed) where
    -- where the next test begins, after the body and the next word
    abbrev test_after : (t c : ℕ) → History → ℕ
    test_after t c h = over_at core plan delays body (suc k) (n + (length start + length test)) (turn_of core plan delays start test next body k n r t c h) + list_took core plan delays next

    turns_of : (ts : Turns) (last : List Entry) (t c : ℕ) → AreWithin core plan delays body (suc k) (n + (length start + length test)) c (c + (turn_runs core plan delays start state test body next k n t r.standing r.copies ts last).took) (turns_from core plan delays start test next body k n r t c ts)
    unfolding turn_runs
    turns_of no_turn last t c = omega arith
    turns_of (more_turn es h ns rest) last t c = (
      omega arith,
      begins_sooner core plan delays body (suc k) (n + (length start + length test)) (over_at core plan delays body (suc k) (n + (length start + length test)) (turn_of core plan delays start test next body k n r t c h)) (test_after t c h)
          (c + (turn_runs core plan delays start state test body next k n t r.standing r.copies (more_turn es h ns rest) last).took)
          (turns_from core plan delays start test next body k n r (suc t) (test_after t c h) rest) (omega arith)
          (ends_later core plan delays body (suc k) (n + (length start + length test)) (test_after t c h) (test_after t c h + (turn_runs core plan delays start state test body next k n (suc t) r.standing r.copies rest last).took)
          (c + (turn_runs core plan delays start state test body next k n t r.standing r.copies (more_turn es h ns rest) last).took) (turns_from core plan delays start test next body k n r (suc t) (test_after t c h) rest) (omega arith)
          (turns_of rest last (suc t) (test_after t c h))),
    )

    body_of : (h : History) → AreWithin core plan delays body (suc k) (n + (length start + length test)) r.cycle (r.cycle + (timed core plan delays (fsm start state test body next) k n r.standing r.copies h).took) (body_in core plan delays start test next body k n r h)
    unfolding timed
    body_of (fsm_ran first ts last) =
        let b : ℕ = r.cycle + (1 + list_took core plan delays start) in
        let w : ℕ = (turn_runs core plan delays start state test body next k n 0 r.standing r.copies ts last).took in
        begins_sooner core plan delays body (suc k) (n + (length start + length test)) r.cycle b (r.cycle + (timed core plan delays (fsm start state test body next) k n r.standing r.copies (fsm_ran first ts last)).took) (turns_from core plan delays start test next body k n r 0 b ts) (omega arith)
        (ends_later core plan delays body (suc k) (n + (length start + length test)) b (b + w) (r.cycle + (timed core plan delays (fsm start state test body next) k n r.standing r.copies (fsm_ran first ts last)).took) (turns_from core plan delays start test next body k n r 0 b ts) (omega arith)
        (turns_of ts last 0 b))
    body_of h = omega arith

  pub bodies_come_in_turn : BodiesComeInTurn core plan delays
  bodies_come_in_turn k n start state test body next from until runs h =
      all_within core plan delays (fsm start state test body next) body k n (suc k) (n + (length start + length test)) (λ r. body_in core plan delays start test next body k n r r.history) (λ r. body_of start state test body next k n r r.history) from until runs h
