-- How a program answers depends on its turns only by whether they are enough.
use Rattle.std.proofs.Common.{◌≡◌, ℕ, ◌+◌, ◌-◌, ◌≤◌, List, sym, ◌∙◌, ap, arith}
use Rattle.sp_tree.specs.declared.statement.FaultKind.{FaultKind}
use Rattle.sp_tree.specs.Laws.{TakesTurns, IsDecidedByTurns}
use Rattle.sp_tree.specs.Meaning.{ended, stopped, unfinished, seq, out_words, dram_words, outcome, run_program, first_store}
use Rattle.sp_words.specs.Ports.{PlainInput}
use Rattle.sp_tree.specs.PlainProgram.{PlainProgram}
use Rattle.sp_tree.specs.Shape.{Shape, ran, shapes}
use Rattle.sp_tree.specs.Step.{Went, went, faulted, more}
use Rattle.sp_tree.specs.Streams.{roomy_in}
use Rattle.sp_tree.proofs.Closure.{run_all_Q, then_Q}
use Rattle.sp_tree.proofs.Everything.{all, any_body}
use Rattle.sp_tree.proofs.Timed.{TimedAt, IsTimed, timed_closed, timed_loops}

program_timed : (p : PlainProgram) → IsTimed (List Shape) (run_program p)
unfolding run_program
program_timed p = then_Q IsTimed all timed_closed _ _ (timed_closed).of_turn (run_all_Q IsTimed all timed_closed p.mems (roomy_in p.mems p.body) timed_loops p.body (any_body p.body))

module _ (p : PlainProgram) (input : PlainInput) where
  run_with : ℕ → Went (List Shape)
  run_with n = run_program p n (first_store p input)

  answer_by : (n : ℕ) (w : Went (List Shape)) → run_with n ≡ w → seq n p input ≡ outcome p n w
  unfolding seq run_with
  answer_by n w e = ap (outcome p n) e

  at_turns : (k m n : ℕ) (w : Went (List Shape)) → k + m ≡ n → run_with (k + m) ≡ w → seq n p input ≡ outcome p n w
  at_turns k m n w sum e = answer_by n w (ap run_with (sym sum) ∙ e)

  none_with : (m : ℕ) → run_with m ≡ more → seq m p input ≡ unfinished
  none_with m e = answer_by m more e

  ends : (n : ℕ) (outs : List ℕ) (drams : List (List ℕ)) (t : ℕ) (shape : Shape) (w : Went (List Shape)) → TimedAt (run_program p) (first_store p input) n w → outcome p n w ≡ ended outs drams t shape → (t ≤ n) × TakesTurns t p input (ended outs drams t shape)
  unfolding run_with
  ends n outs drams t shape (went inner left s) r h =
      let turns : n - left ≡ t = cc in
      let k : r.0 ≡ t = omega (arith, r.1) in (
        omega arith,
        record {
          enough = λ m le. at_turns r.0 (m - t) m (went inner (m - t) s) (omega arith) (r.2 (m - t)) ∙ ap (λ x. ended (out_words p s) (dram_words p s) x (ran (shapes inner))) (let e : m - (m - t) ≡ n - left = omega arith in e) ∙ h;
          too_few = λ m lt. none_with m (r.3 m (omega arith));
        },
      )
  ends n outs drams t shape (faulted kind place) r h = absurd (cc)
  ends n outs drams t shape more r h = absurd (cc)

  stops : (n : ℕ) (kind : FaultKind) (place : ℕ) (w : Went (List Shape)) → TimedAt (run_program p) (first_store p input) n w → outcome p n w ≡ stopped kind place → (t : ℕ) × (t ≤ n) × TakesTurns t p input (stopped kind place)
  unfolding run_with
  stops n kind place (went inner left s) r h = absurd (cc)
  stops n kind place (faulted other at) r h = (
    r.0,
    r.1,
    record {
      enough = λ m le. at_turns r.0 (m - r.0) m (faulted other at) (omega arith) (r.2 (m - r.0)) ∙ h;
      too_few = λ m lt. none_with m (r.3 m lt);
    },
  )
  stops n kind place more r h = absurd (cc)

  goes_on : (n : ℕ) (w : Went (List Shape)) → TimedAt (run_program p) (first_store p input) n w → outcome p n w ≡ unfinished → (m : ℕ) → m ≤ n → seq m p input ≡ unfinished
  unfolding run_with
  goes_on n (went inner left s) r h = absurd (cc)
  goes_on n (faulted kind place) r h = absurd (cc)
  goes_on n more r h = λ m le. none_with m (r m le)

  pub decided_by_turns : IsDecidedByTurns p input
  unfolding seq
  decided_by_turns = record {
    ends = λ n outs drams t shape. ends n outs drams t shape (run_program p n (first_store p input)) (program_timed p n (first_store p input));
    stops = λ n kind place. stops n kind place (run_program p n (first_store p input)) (program_timed p n (first_store p input));
    goes_on = λ n. goes_on n (run_program p n (first_store p input)) (program_timed p n (first_store p input));
  }
