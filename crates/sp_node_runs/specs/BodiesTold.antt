-- Accesses of a circuit in the cycles of the events of a timeline, by the numbers of their operations.
use Rattle.std.specs.Prelude.{◌≡◌, ℕ, ◌+◌, ◌^◌, ◌<◌, ◌≤◌, true, List, length, map, Some}
use Rattle.std.specs.List.{All, Contains}
use Rattle.sp_netlist.specs.Signals.{Signals}
use Rattle.sp_gates.specs.Tested.{is_on}
use Rattle.sp_core.specs.declared.operation.OpKind.{OpKind}
use Rattle.sp_core.specs.Events.{Event, act_of, touches}
use Rattle.sp_core.specs.History.{touched}
use Rattle.sp_core.specs.PlainCore.{PlainOp}
use Rattle.sp_machine.specs.Stamps.{Stamped}
use Rattle.sp_pipe.specs.declared.part.PipeOp.{PipeOp}
use Rattle.sp_pipe.specs.Right.{IsAt}
use Rattle.sp_part_runs.specs.ActsCircuits.{is_answered, net_of, answer_of}
use Rattle.sp_part_runs.specs.ActsEntries.{IsOpAt, touches_memory, touched_at, index_words, changes_by_word, word_that_changes, entry_at}
use Rattle.sp_part_runs.specs.BodiesActing.{BodyRun, entries_of, group_cycle}
use Rattle.sp_part_runs.specs.BodiesRuns.{IsOnAt}

-- an event of the operation of a number, in a cycle
pub record Happens (events : List Stamped) (number t : ℕ) (e : Event) : Type 0 where
  pub copy : ℕ
  pub there : Contains events (record { cycle = t; copy = copy; moment = touches e })
  pub numbered : e.number ≡ number

abbrev pub SomeHappens : List Stamped → (number t : ℕ) → Type 0
SomeHappens events n t = (e : Event) × Happens events n t e

-- Up to a cycle an access is enabled in the cycles of the events of its operation and in no other; its operands have the event's
-- element there, indices without a sign, and its word where it writes or puts one.
pub record ActsInTime (s : Signals) (events : List Stamped) (last number : ℕ) (kind : OpKind) (enable : ℕ) (operands : List ℕ) : Type 0 where
  pub enabled : IsOnAt (is_on s enable) (SomeHappens events number) last
  pub at : (t : ℕ) (e : Event) → t ≤ last → Happens events number t e → e.indices ≡ touched_at kind (map (s.net t) operands)
  pub word : (t : ℕ) (e : Event) → t ≤ last → Happens events number t e → changes_by_word kind ≡ true → act_of kind (word_that_changes kind (map (s.net t) operands)) ≡ Some e.act
  pub index : (t : ℕ) (e : Event) → t ≤ last → Happens events number t e → All (λ net. s.net t net < 2 ^ 31) (index_words kind operands)

-- up to a cycle each event that reads or takes a word is answered with that word
abbrev pub AreAnsweredInTime : Signals → List Stamped → (last first : ℕ) → List PlainOp → List PipeOp → Type 0
AreAnsweredInTime s events last first ops ps =
    (k : ℕ) (op : PlainOp) (p : PipeOp) → IsOpAt ops k op → IsAt ps k p → is_answered p.act ≡ true → (t : ℕ) (e : Event) → Happens events (first + k) t e → t + answer_of p.act ≤ last
    → (w : ℕ) → act_of op.kind w ≡ Some e.act → s.net (t + answer_of p.act) (net_of p.act) ≡ w

-- where an access was made in a group, by its entry
pub record MadeAt (interval : ℕ) (time : ℕ → ℕ) (runs : List BodyRun) (k : ℕ) (kind : OpKind) (t : ℕ) (e : Event) : Type 0 where
  pub run : BodyRun
  pub group : ℕ
  pub word : ℕ
  pub there : Contains runs run
  pub within : group < length run.groups
  pub entry : entry_at (entries_of run group) k ≡ touched e.indices word
  pub cycle : t ≡ group_cycle interval run group + time k
  pub act : act_of kind word ≡ Some e.act

-- what the operations of a body did in its runs are the events of their numbers, each at its time after the issue of its group
pub record AreTold (interval : ℕ) (time : ℕ → ℕ) (ops : List PlainOp) (first : ℕ) (runs : List BodyRun) (events : List Stamped) : Type 0 where
  pub made : (k : ℕ) (op : PlainOp) (r : BodyRun) (g : ℕ) (indices : List ℕ) (w : ℕ) → IsOpAt ops k op → Contains runs r → g < length r.groups → touches_memory op.kind ≡ true → entry_at (entries_of r g) k ≡ touched indices w
      → (e : Event) × Happens events (first + k) (group_cycle interval r g + time k) e × (e.indices ≡ indices) × (act_of op.kind w ≡ Some e.act)
  pub told : (k : ℕ) (op : PlainOp) (t : ℕ) (e : Event) → IsOpAt ops k op → Happens events (first + k) t e → MadeAt interval time runs k op.kind t e
