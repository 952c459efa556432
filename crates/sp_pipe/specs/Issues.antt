-- When the groups of a body are issued, and when it is done: equations of its nets over time, whatever the words of others.
use Rattle.std.specs.Prelude.{◌≡◌, ℕ, zero, suc, ◌-◌, Bool, false, ◌&&◌, ◌||◌, not, Option, Some, None}
use Rattle.sp_netlist.specs.Signals.{Signals}
use Rattle.sp_gates.specs.Tested.{is_on}
use Rattle.sp_pipe.specs.declared.part.Groups.{Groups}

-- whether something was so in the cycle before, and so many cycles before
abbrev pub after : (ℕ → Bool) → (cycle : ℕ) → Bool
after w zero = false
after w (suc t) = w t

unfoldable pub later : (cycles : ℕ) → (ℕ → Bool) → (cycle : ℕ) → Bool
later zero w t = w t
later (suc n) w t = after (later n w) t

-- a group was issued so many cycles before, and the body wasn't started since
unfoldable pub due : (start issue : ℕ → Bool) → (cycles : ℕ) → (cycle : ℕ) → Bool
due start issue zero t = issue t
due start issue (suc n) t = after (λ u. due start issue n u && not (start u)) t

-- where there is no group the body is done in the cycle after the start, else so many cycles after the last group; one
-- without operations is done in the cycle after the start
abbrev pub is_end : (start more issue : ℕ → Bool) → (latency : ℕ) → (cycle : ℕ) → Bool
is_end start more issue zero t = after start t
is_end start more issue (suc l) t = (after start t && not (more t)) || later l (λ u. after issue u && not (more u)) t

-- a body without counters issues one group, in the cycle after the start
pub record IssuesOne (start issue done : ℕ → Bool) (latency : ℕ) : Type 0 where
  pub issued : (t : ℕ) → issue t ≡ after start t
  pub ends : (t : ℕ) → done t ≡ later latency issue t

-- A body with counters has a turn in the cycle after the start and an interval after each group, and issues a group where
-- there is one more; counters go on at each turn.
pub record IssuesAll (start more step issue done : ℕ → Bool) (interval latency : ℕ) : Type 0 where
  pub turned : (t : ℕ) → step t ≡ after (λ u. start u || due start issue (interval - 1) u) t
  pub issued : (t : ℕ) → issue t ≡ (step t && more t)
  pub ends : (t : ℕ) → done t ≡ is_end start more issue latency t

-- of either kind
abbrev pub Issues : Option Groups → Signals → (start issue done : ℕ) → (interval latency : ℕ) → Type 0
Issues None s start issue done ii latency = IssuesOne (is_on s start) (is_on s issue) (is_on s done) latency
Issues (Some g) s start issue done ii latency = IssuesAll (is_on s start) (is_on s g.more) (is_on s g.step) (is_on s issue) (is_on s done) ii latency
