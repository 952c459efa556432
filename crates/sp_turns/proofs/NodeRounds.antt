-- Each node goes around no oftener than what is counted in it is read as.
use Rattle.std.proofs.Common.{◌≡◌, ℕ, zero, suc, ◌+◌, ◌≤◌, Bool, true, false, ◌==◌, List, [], ◌∷◌, ◌++◌, refl, sym, ap, subst, arith, length, map}
use Rattle.sp_core.specs.History.{Entry, History, Turn, last_word, inner_ran, outer_ran, fsm_ran, branch_ran, moved, picked, turns_of}
use Rattle.sp_core.specs.Operations.{operations}
use Rattle.sp_core.specs.PlainCore.{PlainOp, PlainSpan, PlainNode, PlainStages, PlainCore, inner, outer, fsm, branch, load, store, sparse, no_stage, more_stage}
use Rattle.sp_core.specs.declared.node.SparseKind.{SparseKind}
use Rattle.sp_core.specs.Scope.{Scope, plainly}
use Rattle.sp_core.specs.Sequential.{state_now, run}
use Rattle.sp_core.specs.Shape.{shape_of, body_shapes}
use Rattle.sp_core.specs.Step.{Step, went, pure, out_of_turns, ◌>>=◌, repeated}
use Rattle.sp_core.specs.Store.{Store}
use Rattle.sp_within.specs.Rounds.{rounds, turn_rounds}
use Rattle.sp_sugar.proofs.StepLemmas.{core_apart, same_core_answer, no_turns}
use Rattle.sp_same.specs.Counts.{Count, turns, taken, counts_of, body_counts, turn_count}
use Rattle.sp_turns.proofs.Outlines.{Outlines, fsm_of, branch_of, transfer as transferred, no_outline, only, joined, besides, times, spent, spent_all, Reads, reads_only, reads_besides, flat, ReadsEach, reads_times}
use Rattle.sp_turns.proofs.Counted.{reads_same}
use Rattle.sp_turns.proofs.CoreRounds.{Outlined, StagesOutlined, GoesAround, NodeGoes, StagesGoes, alone_goes, inner_goes, words_go, lanes_go, loop_goes, block_goes, none_go, combination_go, stage_goes}

module _ (core : PlainCore) where
  -- the turns of an FSM
  module _ (most : ℕ) (test next : List PlainOp) (state : ℕ) (body : PlainNode) (qs : Outlines) (go : NodeGoes core body qs) (scope : Scope) where
    abbrev holds : List Entry → Bool
    holds es = last_word es == 1

    abbrev one_turn : List Entry → Step Turn
    one_turn tested = run core plainly most body scope >>= (λ h. state_now core plainly most scope state next >>= (λ es. pure (record { test = tested; body = h; next = es })))

    abbrev counted : Turn → List Count
    counted x = counts_of body (shape_of body x.body)

    record TurnsGo (ts : List Turn) : Type 0 where
      total : ℕ
      each : ReadsEach (besides 1 (spent_all qs)) (map counted ts) total
      within : turn_rounds body (body_shapes body (turns_of ts)) ≤ total

    abbrev later : ℕ → List Entry → Step (List Turn × List Entry)
    later n tested = one_turn tested >>= (λ first. repeated n (operations core scope test) holds one_turn >>= (λ r. pure (first ∷ r.0, r.1)))

    none_left : TurnsGo []
    unfolding turn_rounds body_shapes
    none_left = record { total = 0; each = refl; within = omega arith }

    by_test : (b : Bool) (again : Step (List Turn × List Entry)) (tested : List Entry) (s t : Store) (r : List Turn × List Entry) → (again s ≡ went r t → TurnsGo r.0)
        → (elim b as (λ _. Step (List Turn × List Entry)) [ true ↦ again | false ↦ pure ([], tested) ]) s ≡ went r t → TurnsGo r.0
    unfolding pure
    by_test true again tested s t r f e = f e
    by_test false again tested s t r f e = subst (λ (x : List Turn × List Entry). TurnsGo x.0) (same_core_answer ([], tested) r s t e) none_left

    turns_go : (n : ℕ) (s t : Store) (r : List Turn × List Entry) → repeated n (operations core scope test) holds one_turn s ≡ went r t → TurnsGo r.0
    unfolding repeated pure out_of_turns turn_rounds body_shapes
    turns_go zero s t r e =
        let x = core_apart (operations core scope test) (λ tested. elim (holds tested) as (λ _. Step (List Turn × List Entry)) [ true ↦ out_of_turns | false ↦ pure ([], tested) ]) s r t e in
        by_test (holds x.answer) out_of_turns x.answer x.store t r (λ f. no_turns r t f) x.second
    turns_go (suc n) s t r e =
        let x = core_apart (operations core scope test) (λ tested. elim (holds tested) as (λ _. Step (List Turn × List Entry)) [ true ↦ later n tested | false ↦ pure ([], tested) ]) s r t e in
        by_test (holds x.answer) (later n x.answer) x.answer x.store t r (λ f.
        let y = core_apart (one_turn x.answer) (λ first. repeated n (operations core scope test) holds one_turn >>= (λ r. pure (first ∷ r.0, r.1))) x.store r t f in
        let z = core_apart (repeated n (operations core scope test) holds one_turn) (λ r. pure (y.answer ∷ r.0, r.1)) y.store r t y.second in
        let b = core_apart (run core plainly most body scope) (λ h. state_now core plainly most scope state next >>= (λ es. pure (record { test = x.answer; body = h; next = es }))) x.store y.answer y.store y.first in
        let d = core_apart (state_now core plainly most scope state next) (λ es. pure (record { test = x.answer; body = b.answer; next = es })) b.store y.answer y.store b.second in
        let this : Turn = record { test = x.answer; body = b.answer; next = d.answer } in
        let same : this ≡ y.answer = same_core_answer this y.answer d.store y.store d.second in
        let one = go most scope x.store b.store b.answer b.first in
        let more = turns_go n y.store z.store z.answer z.first in
        subst (λ (w : List Turn × List Entry). TurnsGo w.0) (same_core_answer (y.answer ∷ z.answer.0, z.answer.1) r z.store t z.second)
        (subst (λ (w : Turn). TurnsGo (w ∷ z.answer.0)) same
        (record {
          total = 1 + one.k + more.total;
          each = (1 + one.k, more.total, reads_besides 1 (spent_all qs) (counted this) one.k one.reads, more.each, refl);
          within = omega (arith, one.within, more.within);
        }))) x.second

    flat_turns : (ts : List Turn) → flat (map counted ts) ≡ body_counts body (body_shapes body (turns_of ts))
    unfolding body_counts body_shapes
    flat_turns [] = refl
    flat_turns (x ∷ ts) = ap (λ l. counted x ++ l) (flat_turns ts)

    turn_number : (ts : List Turn) → length (map counted ts) ≡ turn_count (body_shapes body (turns_of ts))
    unfolding body_shapes
    turn_number [] = refl
    turn_number (x ∷ ts) = ap suc (turn_number ts)

  fsm_goes : (start : List PlainOp) (state : ℕ) (test : List PlainOp) (body : PlainNode) (next : List PlainOp) (qs : Outlines) → NodeGoes core body qs → NodeGoes core (fsm start state test body next) (only (fsm_of qs))
  unfolding run shape_of counts_of rounds spent pure
  fsm_goes start state test body next qs go most scope s t h e =
      let x = core_apart (state_now core plainly most scope state start) (λ first. repeated most (operations core scope test) (λ es. last_word es == 1) (one_turn most test next state body qs go scope) >>= (λ r. pure (fsm_ran first (turns_of r.0) r.1))) s h t e in
      let y = core_apart (repeated most (operations core scope test) (λ es. last_word es == 1) (one_turn most test next state body qs go scope)) (λ r. pure (fsm_ran x.answer (turns_of r.0) r.1)) x.store h t x.second in
      let g = turns_go most test next state body qs go scope most x.store y.store y.answer y.first in
      let ts : List Turn = y.answer.0 in
      let n : ℕ = turn_count (body_shapes body (turns_of ts)) in
      let all : List Count = body_counts body (body_shapes body (turns_of ts)) in
      let each : Reads (times n (besides 1 (spent_all qs))) all g.total =
      reads_same (times n (besides 1 (spent_all qs))) (flat (map (counted most test next state body qs go scope) ts)) all g.total g.total (flat_turns most test next state body qs go scope ts) refl
      (reads_times (besides 1 (spent_all qs)) (map (counted most test next state body qs go scope) ts) g.total n (turn_number most test next state body qs go scope ts) g.each) in
      subst (λ (w : History). GoesAround core (only (fsm_of qs)) (counts_of (fsm start state test body next) (shape_of (fsm start state test body next) w)) (rounds (fsm start state test body next) (shape_of (fsm start state test body next) w)))
      (same_core_answer (fsm_ran x.answer (turns_of ts) y.answer.1) h y.store t y.second)
      (record { k = g.total; reads = reads_only (fsm_of qs) (turns n ∷ all) g.total each; within = g.within })

  -- the side of a branch that was taken
  side_goes : (test : List PlainOp) (first second : PlainNode) (qs rs : Outlines) → NodeGoes core first qs → NodeGoes core second rs → (most : ℕ) (scope : Scope) (s t : Store) (es : List Entry) (h : History) (b : Bool)
      → (elim b as (λ _. Step History) [ true ↦ run core plainly most first scope | false ↦ run core plainly most second scope ]) s ≡ went h t
      → GoesAround core (only (branch_of qs rs)) (counts_of (branch test first second) (shape_of (branch test first second) (branch_ran es b h))) (rounds (branch test first second) (shape_of (branch test first second) (branch_ran es b h)))
  unfolding shape_of counts_of rounds spent
  side_goes test first second qs rs f g most scope s t es h true e =
      let x = f most scope s t h e in
      record { k = x.k; reads = reads_only (branch_of qs rs) (taken true ∷ counts_of first (shape_of first h)) x.k x.reads; within = x.within }
  side_goes test first second qs rs f g most scope s t es h false e =
      let x = g most scope s t h e in
      record { k = x.k; reads = reads_only (branch_of qs rs) (taken false ∷ counts_of second (shape_of second h)) x.k x.reads; within = x.within }

  branch_goes : (test : List PlainOp) (first second : PlainNode) (qs rs : Outlines) → NodeGoes core first qs → NodeGoes core second rs → NodeGoes core (branch test first second) (only (branch_of qs rs))
  unfolding run pure
  branch_goes test first second qs rs f g most scope s t h e =
      let x = core_apart (operations core scope test) (λ es. (elim (last_word es == 1) as (λ _. Step History) [ true ↦ run core plainly most first scope | false ↦ run core plainly most second scope ]) >>= (λ h. pure (branch_ran es (last_word es == 1) h))) s h t e in
      let y = core_apart (elim (last_word x.answer == 1) as (λ _. Step History) [ true ↦ run core plainly most first scope | false ↦ run core plainly most second scope ]) (λ h. pure (branch_ran x.answer (last_word x.answer == 1) h)) x.store h t x.second in
      subst (λ (w : History). GoesAround core (only (branch_of qs rs)) (counts_of (branch test first second) (shape_of (branch test first second) w)) (rounds (branch test first second) (shape_of (branch test first second) w)))
      (same_core_answer (branch_ran x.answer (last_word x.answer == 1) y.answer) h y.store t y.second)
      (side_goes test first second qs rs f g most scope x.store y.store x.answer y.answer (last_word x.answer == 1) y.first)

  -- transfers
  load_goes : (r m : ℕ) (spans : List PlainSpan) → NodeGoes core (load r m spans) (only transferred)
  unfolding shape_of counts_of rounds
  load_goes r m spans most scope s t (moved ts ws) e = words_go core (length ws)
  load_goes r m spans most scope s t (picked es ws) e = words_go core (length ws)
  load_goes r m spans most scope s t (inner_ran bs ns gs) e = words_go core 0
  load_goes r m spans most scope s t (outer_ran bs ns gs) e = words_go core 0
  load_goes r m spans most scope s t (fsm_ran es ts l) e = words_go core 0
  load_goes r m spans most scope s t (branch_ran es b h) e = words_go core 0

  store_goes : (r m : ℕ) (spans : List PlainSpan) → NodeGoes core (store r m spans) (only transferred)
  unfolding shape_of counts_of rounds
  store_goes r m spans most scope s t (moved ts ws) e = words_go core (length ws)
  store_goes r m spans most scope s t (picked es ws) e = words_go core (length ws)
  store_goes r m spans most scope s t (inner_ran bs ns gs) e = words_go core 0
  store_goes r m spans most scope s t (outer_ran bs ns gs) e = words_go core 0
  store_goes r m spans most scope s t (fsm_ran es ts l) e = words_go core 0
  store_goes r m spans most scope s t (branch_ran es b h) e = words_go core 0

  sparse_goes : (kind : SparseKind) (r m : ℕ) (places : _) (spans : List PlainSpan) (count : List PlainOp) (par : ℕ) → NodeGoes core (sparse kind r m places spans count par) (only transferred)
  unfolding shape_of counts_of rounds
  sparse_goes kind r m places spans count par most scope s t (moved ts ws) e = lanes_go core _
  sparse_goes kind r m places spans count par most scope s t (picked es ws) e = words_go core (length ws)
  sparse_goes kind r m places spans count par most scope s t (inner_ran bs ns gs) e = words_go core 0
  sparse_goes kind r m places spans count par most scope s t (outer_ran bs ns gs) e = words_go core 0
  sparse_goes kind r m places spans count par most scope s t (fsm_ran es ts l) e = words_go core 0
  sparse_goes kind r m places spans count par most scope s t (branch_ran es b h) e = words_go core 0

  as_outlined : (node : PlainNode) (ps qs : Outlines) → ps ≡ qs → NodeGoes core node qs → NodeGoes core node ps
  as_outlined node ps qs e g = subst (NodeGoes core node) (sym e) g

  stages_as : (stages : PlainStages) (m : ℕ) (ps qs : Outlines) → ps ≡ qs → StagesGoes core stages m qs → StagesGoes core stages m ps
  stages_as stages m ps qs e g = subst (StagesGoes core stages m) (sym e) g

  mutual
    pub node_goes : (node : PlainNode) (ps : Outlines) → Outlined core node ps → NodeGoes core node ps
    node_goes (inner [] owned ops comb) ps o = as_outlined (inner [] owned ops comb) ps no_outline o (alone_goes core owned ops comb)
    node_goes (inner (c ∷ counters) owned ops comb) ps o = as_outlined (inner (c ∷ counters) owned ops comb) ps _ o (inner_goes core c counters owned ops comb)
    node_goes (outer [] style owned stages) ps o = block_goes core style owned stages ps (stages_go stages 0 ps o)
    node_goes (outer (c ∷ counters) style owned stages) ps o = as_outlined (outer (c ∷ counters) style owned stages) ps _ o.4 (loop_goes core c counters style owned stages o.0 o.1 (stages_go stages o.0 o.1 o.3) o.2)
    node_goes (fsm start state test body next) ps o = as_outlined (fsm start state test body next) ps _ o.2 (fsm_goes start state test body next o.0 (node_goes body o.0 o.1))
    node_goes (branch test first second) ps o = as_outlined (branch test first second) ps _ o.4 (branch_goes test first second o.0 o.1 (node_goes first o.0 o.2) (node_goes second o.1 o.3))
    node_goes (load r m spans) ps o = as_outlined (load r m spans) ps _ o (load_goes r m spans)
    node_goes (store r m spans) ps o = as_outlined (store r m spans) ps _ o (store_goes r m spans)
    node_goes (sparse kind r m places spans count par) ps o = as_outlined (sparse kind r m places spans count par) ps _ o (sparse_goes kind r m places spans count par)

    stages_go : (stages : PlainStages) (m : ℕ) (ps : Outlines) → StagesOutlined core stages m ps → StagesGoes core stages m ps
    stages_go no_stage m ps o = stages_as no_stage m ps no_outline o (none_go core m)
    stages_go (more_stage first last true node rest) m ps o = combination_go core first last node rest m o.2 o.3 ps o.0 o.1 o.4 o.5 (stages_go rest o.3 ps o.6)
    stages_go (more_stage first last false node rest) m ps o = stages_as (more_stage first last false node rest) m ps (joined o.2 o.3) o.6 (stage_goes core first last node rest m o.2 o.3 o.0 o.1 (node_goes node o.2 o.4) (stages_go rest m o.3 o.5))
