-- When an operation that reads or takes is answered, up to a cycle, with the words of its events.
use Rattle.std.specs.Prelude.{◌≡◌, ℕ, ◌+◌, ◌<◌, ◌≤◌, List, slice_index, Option, Some}
use Rattle.sp_netlist.specs.Signals.{Signals}
use Rattle.sp_core.specs.declared.operation.OpKind.{OpKind}
use Rattle.sp_core.specs.Events.{Event, act_of}
use Rattle.sp_machine.specs.Stamps.{Stamped}
use Rattle.sp_mem.specs.Copies.{copy_at}
use Rattle.sp_node_runs.specs.BodiesTold.{Happens}

module _ (s : Signals) (events : List Stamped) (last number : ℕ) where
  -- The net has the word of each event so many cycles after it. Where this holds of each answered operation of a list, by the number of
  -- its first one, the list is answered in time (`AreAnsweredInTime`).
  abbrev pub IsAnswered : OpKind → (after net : ℕ) → Type 0
  IsAnswered kind after net = (t : ℕ) (e : Event) → Happens events number t e → t + after ≤ last → (w : ℕ) → act_of kind w ≡ Some e.act → s.net (t + after) net ≡ w

  -- the operation's access names the copy of each of its events, in the event's cycle
  abbrev pub NamesCopies : (copy : Option ℕ) → Type 0
  NamesCopies copy = (t : ℕ) (e : Event) (h : Happens events number t e) → t ≤ last → copy_at s t copy ≡ h.copy

-- an operation of this kind touches one memory alone
abbrev pub IsOf : List Stamped → OpKind → (number mem : ℕ) → Type 0
IsOf events kind n m = (t : ℕ) (e : Event) → Happens events n t e → (e.mem ≡ m) × (word : ℕ) × (act_of kind word ≡ Some e.act)

-- a net has in each cycle the word of the copy whose number stands there in that cycle
abbrev pub ReadsAtOnce : Signals → (copies : ℕ) → (nets : List ℕ) → (copy : Option ℕ) → (net : ℕ) → Type 0
ReadsAtOnce s copies nets copy net = (t c : ℕ) → c < copies → copy_at s t copy ≡ c → s.net t net ≡ s.net t (slice_index nets c)
