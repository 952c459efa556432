-- Worked accesses: those of a memory in a run of a small core, and a write and a read whose circuits act in time.
use Rattle.std.specs.Prelude.{◌≡◌, ℕ, ◌==◌, if◌then◌else◌, List, [], ◌∷◌, map, Option, Some, None}
use Rattle.sp_netlist.specs.Signals.{Signals, idle}
use Rattle.sp_core.specs.declared.operation.OpKind.TheVariants as kind
use Rattle.sp_core.specs.Events.{Act, reads, writes, Event, Moment, touches}
use Rattle.sp_core.specs.Meaning.{Outcome, ended}
use Rattle.sp_core.specs.PlainCore.{PlainCore}
use Rattle.sp_plan.specs.PlainPlan.{PlainPlan}
use Rattle.sp_machine.specs.Stamps.{Stamped}
use Rattle.sp_machine.specs.Timeline.{core_timed}
use Rattle.sp_machine.specs.Transfers.{Delays}
use Rattle.sp_mem.specs.declared.part.Touch.{Touch}
use Rattle.sp_requests.specs.Elements.{element_after}
use Rattle.sp_bank_words.specs.Accesses.{reads_in, writes_in}
use Rattle.sp_bank_words.specs.Acting.{WriteGoes, ReadGoes, IsAnswered}

-- the cycle and the number of what is done
pub record Done : Type 0 where
  pub cycle : ℕ
  pub number : ℕ

abbrev pub number_of : Moment → ℕ
number_of (touches e) = e.number
number_of moment = 0

abbrev pub done : List Stamped → List Done
done events = map (λ x. record { cycle = x.cycle; number = number_of x.moment }) events

-- the writes, and the reads, of a memory in a run that ended
abbrev pub written_in : PlainCore → PlainPlan → Delays → (mem : ℕ) → Outcome → Option (List Done)
written_in core plan delays m (ended outs drams h) = Some (done (writes_in m (core_timed core plan delays h).events))
written_in core plan delays m _ = None

abbrev pub read_in : PlainCore → PlainPlan → Delays → (mem : ℕ) → Outcome → Option (List Done)
read_in core plan delays m (ended outs drams h) = Some (done (reads_in m (core_timed core plan delays h).events))
read_in core plan delays m _ = None

-- element 2 of memory 0 takes the word 7 in cycle 5, by number 4, and is read in cycle 9, by number 6
abbrev pub event : (number : ℕ) → Act → Event
event n act = record { number = n; standing = record { path = []; counters = [] }; mem = 0; indices = 2 ∷ []; act = act }

abbrev pub worked_events : List Stamped
worked_events = record { cycle = 5; copy = 0; moment = touches (event 4 (writes 7)) } ∷ record { cycle = 9; copy = 0; moment = touches (event 6 (reads 7)) } ∷ []

-- net 1 is 1 in cycle 5 alone and net 2 in cycle 9 alone, net 3 is 2, and any other one 7
abbrev pub worked_net : (cycle net : ℕ) → ℕ
worked_net t net = if net == 1 then (if t == 5 then 1 else 0) else (if net == 2 then (if t == 9 then 1 else 0) else (if net == 3 then 2 else 7))

abbrev pub worked_signals : Signals
worked_signals = record { net = worked_net; bank = λ t b x. 0; dram = λ t d x. 0; phase = λ t c. idle; asked = λ t. 0 }

pub record IsWorked (enable : ℕ) (touch : Touch) : Type 0 where
  pub enable_is : touch.enable ≡ enable
  pub index_is : touch.index.items ≡ 3 ∷ []
  pub copy_is : touch.copy ≡ None
  pub word_is : touch.word ≡ 4

pub record WorkedAccesses : Type 0 where
  -- both act in time, whatever the last cycle
  pub write : (touch : Touch) (last : ℕ) → IsWorked 1 touch → WriteGoes worked_signals (writes_in 0 worked_events) last 4 touch
  pub read : (core : PlainCore) (plan : PlainPlan) (touch : Touch) (last : ℕ) → IsWorked 2 touch → ReadGoes core plan worked_signals 0 (reads_in 0 worked_events) last 6 touch
  -- the word stands behind the write, and the read is answered with it
  pub stands : (touch : Touch) → IsWorked 1 touch → element_after worked_signals 5 0 (touch ∷ []) (2 ∷ []) 0 ≡ 7
  pub answered : (last : ℕ) → IsAnswered worked_signals (reads_in 0 worked_events) last 6 kind.Read 4 2
