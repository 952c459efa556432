-- What happens in the runs of a branch, and of an FSM.
use Rattle.std.proofs.Common.{◌≡◌, ℕ, suc, ◌+◌, true, false, List, [], ◌∷◌, ◌++◌, flat_map, sum_by, length, refl, sym, ◌∙◌, ap, arith}
use Rattle.std.proofs.lemmas.List.Sums.{sum_by-append}
use Rattle.sp_core.specs.Events.{inside_at, before, in_turn}
use Rattle.sp_core.specs.History.{Entry, History, Turns, last_word, fsm_ran, branch_ran, no_turn, more_turn}
use Rattle.sp_core.specs.Numbering.{node_count, number_count}
use Rattle.sp_core.specs.PlainCore.{PlainOp, PlainNode, fsm, branch, PlainCore}
use Rattle.sp_plan.specs.PlainPlan.{PlainPlan}
use Rattle.sp_machine.specs.Stamps.{Stamped, later, list_run, kept_run}
use Rattle.sp_machine.specs.Timeline.{timed, turn_runs}
use Rattle.sp_machine.specs.Transfers.{Delays}
use Rattle.sp_node_runs.specs.Runs.{Placed, events_of, list_took, side_in, side_runs, turn_of, turns_from, body_in, body_runs}
use Rattle.sp_node_runs.specs.RunsTold.{all_events, branch_alone, turns_alone, fsm_alone}
use Rattle.sp_node_runs.proofs.RunsWeights.{later_later, later_both, parts_sum, flat_flat}

module _ (core : PlainCore) (plan : PlainPlan) (delays : Delays) (weigh : Stamped → ℕ) where
  abbrev w : List Stamped → ℕ
  w es = sum_by weigh es

  nothing_more : (es : List Stamped) → es ++ [] ≡ es
  nothing_more [] = refl
  nothing_more (e ∷ es) = ap (λ rest. e ∷ rest) (nothing_more es)

  -- of two parts one after the other within a controller
  in_two : (at own : ℕ) (es fs : List Stamped) → w (later at (later 1 (es ++ later own fs))) ≡ w (later (at + 1) es) + w (later (at + (1 + own)) fs)
  in_two at own es fs =
      ap w (later_later at 1 (es ++ later own fs) ∙ later_both (at + 1) es (later own fs))
      ∙ sum_by-append weigh (later (at + 1) es) (later (at + 1) (later own fs))
      ∙ ap (λ (xs : List Stamped). w (later (at + 1) es) + w xs) (later_later (at + 1) own fs ∙ ap (λ n. later n fs) {x = at + 1 + own} {y = at + (1 + own)} (omega arith))

  two_parts : (at own : ℕ) (es fs : List Stamped) → w (later at (later 1 (es ++ later own fs))) ≡ w (later (at + 1) es) + w (later (at + (1 + own)) fs ++ [])
  two_parts at own es fs = in_two at own es fs ∙ ap (λ (xs : List Stamped). w (later (at + 1) es) + w xs) (sym (nothing_more (later (at + (1 + own)) fs)))

  -- of a turn: its test, its body, its next word and what is left
  chain : (c x y z : ℕ) (a b d e : List Stamped) → w (later c (a ++ later x (b ++ later y (d ++ later z e)))) ≡ w (later c a) + (w (later (c + x) b) + (w (later (c + x + y) d) + w (later (c + x + y + z) e)))
  chain c x y z a b d e =
      split c x a (b ++ later y (d ++ later z e)) ∙ ap (λ m. w (later c a) + m) (split (c + x) y b (d ++ later z e) ∙ ap (λ m. w (later (c + x) b) + m) (split (c + x + y) z d e))
    where
      split : (c x : ℕ) (a b : List Stamped) → w (later c (a ++ later x b)) ≡ w (later c a) + w (later (c + x) b)
      split c x a b = ap w (later_both c a (later x b)) ∙ sum_by-append weigh (later c a) (later c (later x b)) ∙ ap (λ (xs : List Stamped). w (later c a) + w xs) (later_later c x b)

  module _ (k n : ℕ) (test : List PlainOp) (first second : PlainNode) (r : Placed) where
    abbrev of_sides : History → List Stamped
    of_sides h =
        flat_map (events_of core plan delays first (suc k) (n + length test)) (side_in core plan delays test k true r h)
        ++ flat_map (events_of core plan delays second (suc k + node_count first) (n + (length test + number_count first))) (side_in core plan delays test k false r h)

    side_told : (h : History) → w (later r.cycle (timed core plan delays (branch test first second) k n r.standing r.copies h).events) ≡ w (branch_alone core plan delays k n test first second r h) + w (of_sides h)
    unfolding timed
    side_told (branch_ran es true h) =
        two_parts r.cycle (list_took core plan delays test) (list_run core r.copies n (inside_at r.standing k (in_turn 0) []) test es).events (timed core plan delays first (suc k) (n + length test) (inside_at r.standing k (in_turn 0) []) r.copies h).events
        ∙ ap (λ (xs : List Stamped). w (branch_alone core plan delays k n test first second r (branch_ran es true h)) + w xs) (sym (nothing_more (later (r.cycle + (1 + list_took core plan delays test)) (timed core plan delays first (suc k) (n + length test) (inside_at r.standing k (in_turn 0) []) r.copies h).events ++ [])))
    side_told (branch_ran es false h) =
        two_parts r.cycle (list_took core plan delays test) (list_run core r.copies n (inside_at r.standing k (in_turn 0) []) test es).events (timed core plan delays second (suc k + node_count first) (n + (length test + number_count first)) (inside_at r.standing k (in_turn 0) []) r.copies h).events
    side_told h = omega arith

  pub sides_are_told : (k n : ℕ) (test : List PlainOp) (first second : PlainNode) (runs : List Placed) → w (all_events core plan delays (branch test first second) k n runs)
      ≡ w (flat_map (λ r. branch_alone core plan delays k n test first second r r.history) runs)
      + (w (all_events core plan delays first (suc k) (n + length test) (side_runs core plan delays test k true runs))
      + w (all_events core plan delays second (suc k + node_count first) (n + (length test + number_count first)) (side_runs core plan delays test k false runs)))
  sides_are_told k n test first second runs =
      let f : Placed → List Stamped = λ r. flat_map (events_of core plan delays first (suc k) (n + length test)) (side_in core plan delays test k true r r.history) in
      let g : Placed → List Stamped = λ r. flat_map (events_of core plan delays second (suc k + node_count first) (n + (length test + number_count first))) (side_in core plan delays test k false r r.history) in
      let a = parts_sum weigh (events_of core plan delays (branch test first second) k n) (λ r. branch_alone core plan delays k n test first second r r.history) (λ r. f r ++ g r) (λ r. side_told k n test first second r r.history) runs in
      let b = parts_sum weigh (λ r. f r ++ g r) f g (λ r. sum_by-append weigh (f r) (g r)) runs in
      let c = ap w (flat_flat (events_of core plan delays first (suc k) (n + length test)) (λ r. side_in core plan delays test k true r r.history) runs) in
      let d = ap w (flat_flat (events_of core plan delays second (suc k + node_count first) (n + (length test + number_count first))) (λ r. side_in core plan delays test k false r r.history) runs) in
      omega (arith, a, b, c, d)

  module _ (k n : ℕ) (start : List PlainOp) (state : ℕ) (test : List PlainOp) (body : PlainNode) (next : List PlainOp) (r : Placed) where
    abbrev m : ℕ
    m = n + (length start + length test)

    -- the turns from one on, where its test begins in a cycle
    turn_told : (ts : Turns) (last : List Entry) (t c : ℕ) → w (later c (turn_runs core plan delays start state test body next k n t r.standing r.copies ts last).events)
        ≡ w (turns_alone core plan delays k n start state test body next r t c ts last) + w (flat_map (events_of core plan delays body (suc k) m) (turns_from core plan delays start test next body k n r t c ts))
    unfolding turn_runs
    turn_told no_turn last t c = omega arith
    turn_told (more_turn es h ns rest) last t c =
        let here : Placed = turn_of core plan delays start test next body k n r t c h in
        let a : List Stamped = (list_run core r.copies (n + length start) (inside_at r.standing k (in_turn t) []) test es).events in
        let b : List Stamped = (timed core plan delays body (suc k) m (inside_at r.standing k (in_turn t) []) r.copies h).events in
        let d : List Stamped = (kept_run core r.copies (n + (length start + (length test + number_count body))) (inside_at r.standing k (in_turn t) []) next ns state (last_word ns)).events in
        let e : List Stamped = (turn_runs core plan delays start state test body next k n (suc t) r.standing r.copies rest last).events in
        let x : ℕ = list_took core plan delays test in
        let y : ℕ = (timed core plan delays body (suc k) m (inside_at r.standing k (in_turn t) []) r.copies h).took in
        let z : ℕ = list_took core plan delays next in
        let alone : List Stamped = turns_alone core plan delays k n start state test body next r (suc t) (c + x + y + z) rest last in
        let bodies : List Stamped = flat_map (events_of core plan delays body (suc k) m) (turns_from core plan delays start test next body k n r (suc t) (c + x + y + z) rest) in
        let p = chain c x y z a b d e in
        let q = turn_told rest last (suc t) (c + x + y + z) in
        let u = sum_by-append weigh (later c a) (later (c + x + y) d ++ alone) in
        let v = sum_by-append weigh (later (c + x + y) d) alone in
        let o = sum_by-append weigh (later (c + x) b) bodies in
        p ∙ by_parts (w (later c a)) (w (later (c + x) b)) (w (later (c + x + y) d)) (w (later (c + x + y + z) e)) (w alone) (w bodies) (w (later (c + x + y) d ++ alone)) q v ∙ sym (both (w (later c a) + w (later (c + x + y) d ++ alone)) u (w (later (c + x) b) + w bodies) o)
      where
        by_parts : (a b d e alone bodies both : ℕ) → e ≡ alone + bodies → both ≡ d + alone → a + (b + (d + e)) ≡ (a + both) + (b + bodies)
        by_parts a b d e alone bodies both p q = omega (arith, p, q)

        both : {x y : ℕ} (a : ℕ) → x ≡ a → (b : ℕ) → y ≡ b → x + y ≡ a + b
        both a p b q = omega (arith, p, q)

    fsm_told : (h : History) → w (later r.cycle (timed core plan delays (fsm start state test body next) k n r.standing r.copies h).events)
        ≡ w (fsm_alone core plan delays k n start state test body next r h) + w (flat_map (events_of core plan delays body (suc k) m) (body_in core plan delays start test next body k n r h))
    unfolding timed
    fsm_told (fsm_ran first ts last) =
        let own : List Stamped = (kept_run core r.copies n (inside_at r.standing k before []) start first state (last_word first)).events in
        let rest : List Stamped = (turn_runs core plan delays start state test body next k n 0 r.standing r.copies ts last).events in
        let x : ℕ = list_took core plan delays start in
        let alone : List Stamped = turns_alone core plan delays k n start state test body next r 0 (r.cycle + (1 + x)) ts last in
        let bodies : List Stamped = flat_map (events_of core plan delays body (suc k) m) (turns_from core plan delays start test next body k n r 0 (r.cycle + (1 + x)) ts) in
        in_two r.cycle x own rest ∙ by_parts (w (later (r.cycle + 1) own)) (w (later (r.cycle + (1 + x)) rest)) (w alone) (w bodies) (turn_told ts last 0 (r.cycle + (1 + x))) ∙ ap (λ m. m + w bodies) (sym (sum_by-append weigh (later (r.cycle + 1) own) alone))
      where
        by_parts : (a b alone bodies : ℕ) → b ≡ alone + bodies → a + b ≡ (a + alone) + bodies
        by_parts a b alone bodies p = omega (arith, p)
    fsm_told h = omega arith

  pub bodies_are_told : (k n : ℕ) (start : List PlainOp) (state : ℕ) (test : List PlainOp) (body : PlainNode) (next : List PlainOp) (runs : List Placed)
      → w (all_events core plan delays (fsm start state test body next) k n runs)
      ≡ w (flat_map (λ r. fsm_alone core plan delays k n start state test body next r r.history) runs)
      + w (all_events core plan delays body (suc k) (n + (length start + length test)) (body_runs core plan delays start test next body k n runs))
  bodies_are_told k n start state test body next runs =
      parts_sum weigh (events_of core plan delays (fsm start state test body next) k n) (λ r. fsm_alone core plan delays k n start state test body next r r.history)
      (λ r. flat_map (events_of core plan delays body (suc k) (n + (length start + length test))) (body_in core plan delays start test next body k n r r.history)) (λ r. fsm_told k n start state test body next r r.history) runs
      ∙ ap (λ (xs : List Stamped). w (flat_map (λ r. fsm_alone core plan delays k n start state test body next r r.history) runs) + w xs) (sym (flat_flat (events_of core plan delays body (suc k) (n + (length start + length test))) (λ r. body_in core plan delays start test next body k n r r.history) runs))
