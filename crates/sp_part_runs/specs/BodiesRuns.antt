-- The runs of an inner body: in which cycles they begin, how many groups they have, in which cycles these are issued, and when
-- the runs are over.
use Rattle.std.specs.Prelude.{◌≡◌, ℕ, zero, suc, ◌+◌, ◌*◌, ◌<◌, ◌≤◌, nat_lt, Bool, true, List}
use Rattle.std.specs.List.{Contains}
use Rattle.sp_pipe.specs.Laws.{issue_cycle}

-- a run from a cycle on, of so many groups
pub record Begun : Type 0 where
  pub cycle : ℕ
  pub groups : ℕ

-- how many cycles pass from the issue of its first group on, with so many more; one of latency 0 is over where that is issued
abbrev pub spent : (interval latency more : ℕ) → ℕ
spent ii zero n = 0
spent ii (suc l) n = n * ii + suc l

-- how many cycles it takes: the next part starts that much later
abbrev pub took : (interval latency groups : ℕ) → ℕ
took ii latency zero = 2
took ii latency (suc n) = 2 + spent ii latency n

-- a wire is 1 in the cycles of which this holds, up to a last one, and in no other
pub record IsOnAt (wire : ℕ → Bool) (Holds : ℕ → Type 0) (last : ℕ) : Type 0 where
  pub on : (t : ℕ) → t ≤ last → Holds t → wire t ≡ true
  pub only : (t : ℕ) → t ≤ last → wire t ≡ true → Holds t

module _ (interval latency : ℕ) (runs : List Begun) where
  -- no run begins before the ones before it are over
  abbrev pub AreApart : Type 0
  AreApart = (r q : Begun) → Contains runs r → Contains runs q → r.cycle < q.cycle → r.cycle + took interval latency r.groups ≤ q.cycle

  -- in one cycle one run begins
  abbrev pub BeginAlone : Type 0
  BeginAlone = (r q : Begun) → Contains runs r → Contains runs q → r.cycle ≡ q.cycle → r ≡ q

  abbrev pub Begins : (t : ℕ) → Type 0
  Begins t = (r : Begun) × Contains runs r × (t ≡ r.cycle)

  abbrev pub Issues : (t : ℕ) → Type 0
  Issues t = (r : Begun) × (k : ℕ) × Contains runs r × (k < r.groups) × (t ≡ issue_cycle r.cycle interval k)

  abbrev pub Ends : (t : ℕ) → Type 0
  Ends t = (r : Begun) × Contains runs r × (suc t ≡ r.cycle + took interval latency r.groups)

  -- a run is the last one that began before a cycle
  pub record IsCurrent (r : Begun) (t : ℕ) : Type 0 where
    pub there : Contains runs r
    pub before : r.cycle < t
    pub latest : (q : Begun) → Contains runs q → r.cycle < q.cycle → t ≤ q.cycle

  -- up to a cycle the counters tell in each run whether a group is left: in the cycle after its start, and after each group up
  -- to the next turn
  pub record Tell (more : ℕ → Bool) (last : ℕ) : Type 0 where
    pub first : (r : Begun) → IsCurrent r (r.cycle + 1) → r.cycle + 1 ≤ last → more (r.cycle + 1) ≡ nat_lt 0 r.groups
    pub then : (r : Begun) (k j : ℕ) → k < r.groups → j < interval → IsCurrent r (issue_cycle r.cycle interval k + (1 + j)) → issue_cycle r.cycle interval k + (1 + j) ≤ last
        → more (issue_cycle r.cycle interval k + (1 + j)) ≡ nat_lt (suc k) r.groups
