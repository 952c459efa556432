-- What a run of an inner body is, as it follows from the equations of its nets.
use Rattle.std.specs.Prelude.{◌≡◌, ℕ, suc, ◌+◌, ◌*◌, ◌<◌, ◌≤◌, nat_lt, Bool, true, false}
use Rattle.sp_pipe.specs.Issues.{IssuesAll}

-- when a group of a run from a cycle is issued
abbrev pub issue_cycle : (begun interval group : ℕ) → ℕ
issue_cycle begun ii k = begun + 1 + k * ii

-- in a run from a cycle the counters tell of so many groups: in the cycle after the start, and after each group until the
-- next turn
pub record TellsOf (more : ℕ → Bool) (begun interval groups : ℕ) : Type 0 where
  pub first : more (begun + 1) ≡ nat_lt 0 groups
  pub then : (k j : ℕ) → k < groups → j < interval → more (issue_cycle begun interval k + (1 + j)) ≡ nat_lt (suc k) groups

-- A run of so many groups: a group is issued an interval after the one before, the first one in the cycle after the start, and
-- no other up to the turn after the last one; it is done so many cycles after the last group was issued.
pub record RunsInTime (step issue done : ℕ → Bool) (begun interval latency groups : ℕ) : Type 0 where
  pub turns : (k : ℕ) → k ≤ groups → step (issue_cycle begun interval k) ≡ true
  pub issued : (k : ℕ) → k < groups → issue (issue_cycle begun interval k) ≡ true
  pub between : (k j : ℕ) → k < groups → 1 ≤ j → j < interval → issue (issue_cycle begun interval k + j) ≡ false
  pub over : issue (issue_cycle begun interval groups) ≡ false
  pub empty : groups ≡ 0 → done (begun + 1) ≡ true
  pub ends : (k : ℕ) → suc k ≡ groups → 1 ≤ latency → done (issue_cycle begun interval k + latency) ≡ true

-- a body with counters that is started in a cycle, and not again until its last turn, runs its groups in time
abbrev pub BodiesRunInTime : Type 0
BodiesRunInTime =
    (start more step issue done : ℕ → Bool) (interval latency begun groups : ℕ) → 1 ≤ interval → IssuesAll start more step issue done interval latency
    → start begun ≡ true → ((t : ℕ) → begun < t → t ≤ issue_cycle begun interval groups → start t ≡ false) → TellsOf more begun interval groups
    → RunsInTime step issue done begun interval latency groups
