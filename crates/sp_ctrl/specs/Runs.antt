-- What the circuits of control do, as equations over time, whatever the words of others are.
use Rattle.std.specs.Prelude.{◌≡◌, ℕ, zero, suc, Bool, false, ◌&&◌, ◌||◌, not}
use Rattle.sp_netlist.specs.declared.parts.Child.{Child}
use Rattle.sp_netlist.specs.Signals.{Signals}
use Rattle.sp_gates.specs.Tested.{is_on}
use Rattle.sp_ctrl.specs.declared.part.Part.{Part}
use Rattle.sp_ctrl.specs.declared.part.Part.TheVariants.{Fsm, Branch}

-- a wire is on in the cycle after each one in which something is so, and in no other
pub record IsAfter (wire cause : ℕ → Bool) : Type 0 where
  pub off : wire zero ≡ false
  pub on : (t : ℕ) → wire (suc t) ≡ cause t

-- the test starts a cycle after the start; a cycle after the test is done the one child starts if it gave 1, else the other; and
-- the end comes a cycle after the child's
pub record RunsBranch (s : Signals) (start : ℕ) (test : Child) (tested : ℕ) (chosen left : Child) (done : ℕ) : Type 0 where
  pub tests : IsAfter (is_on s test.start) (is_on s start)
  pub goes : IsAfter (is_on s chosen.start) (λ t. is_on s test.done t && is_on s tested t)
  pub turns : IsAfter (is_on s left.start) (λ t. is_on s test.done t && not (is_on s tested t))
  pub ends : IsAfter (is_on s done) (λ t. is_on s chosen.done t || is_on s left.done t)

-- the first child starts a cycle after the start; the test a cycle after the first child or the next one is done; the body a
-- cycle after a test that gave 1, and the next child a cycle after the body; the end comes a cycle after a test that gave 0
pub record RunsFsm (s : Signals) (start : ℕ) (first test : Child) (tested : ℕ) (body next : Child) (done : ℕ) : Type 0 where
  pub begins : IsAfter (is_on s first.start) (is_on s start)
  pub tests : IsAfter (is_on s test.start) (λ t. is_on s first.done t || is_on s next.done t)
  pub goes : IsAfter (is_on s body.start) (λ t. is_on s test.done t && is_on s tested t)
  pub steps : IsAfter (is_on s next.start) (is_on s body.done)
  pub ends : IsAfter (is_on s done) (λ t. is_on s test.done t && not (is_on s tested t))

abbrev pub Runs : Part → Signals → (done : ℕ) → Type 0
Runs (Fsm start first test tested body next) s done = RunsFsm s start first test tested body next done
Runs (Branch start test tested chosen left) s done = RunsBranch s start test tested chosen left done

abbrev pub start_of : Part → ℕ
start_of (Fsm start first test tested body next) = start
start_of (Branch start test tested chosen left) = start
