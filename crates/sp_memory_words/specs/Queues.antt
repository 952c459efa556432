-- The words of a queue over a timeline.
use Rattle.std.specs.Prelude.{◌≡◌, ℕ, suc, ◌≤◌, List, [], length, Option}
use Rattle.sp_words.specs.declared.kind.Kind.TheVariants.{Fifo}
use Rattle.sp_words.specs.Memory.{Contents}
use Rattle.sp_netlist.specs.Signals.{Signals}
use Rattle.sp_core.specs.declared.operation.OpKind.TheVariants.{Deq}
use Rattle.sp_core.specs.Declarations.{kind_of, room}
use Rattle.sp_core.specs.PlainCore.{PlainCore}
use Rattle.sp_core.specs.Store.{queue_of}
use Rattle.sp_plan.specs.PlainPlan.{PlainPlan, mem_plan}
use Rattle.sp_time.specs.Places.{Place}
use Rattle.sp_machine.specs.Stamps.{Stamped}
use Rattle.sp_mem.specs.declared.part.Fresh.{Fresh}
use Rattle.sp_mem.specs.declared.part.Touch.{Touch}
use Rattle.sp_taps.specs.declared.store.Store.{Store}
use Rattle.sp_queue_copies.specs.Events.{RunQueues}
use Rattle.sp_queue.specs.Laws.{copy_queue, MayTouch}
use Rattle.sp_queue.specs.Takes.{RunsTakes}
use Rattle.sp_memory_words.specs.Moments.{HappensWell}
use Rattle.sp_memory_words.specs.Asked.{ArePuts, AreTakes, AreFresh}
use Rattle.sp_memory_words.specs.Answers.{IsAnswered, NamesCopies, IsOf}
use Rattle.sp_memory_words.specs.Registers.{copy_place, standing}

-- A circuit of a FIFO of a core in banks from one on, one for each copy that the plan has, each deep enough; the FIFO is empty at first,
-- and the circuit is asked what happens, up to a cycle.
pub record IsQueueOf (core : PlainCore) (plan : PlainPlan) (m : ℕ) (s : Signals) (events : List Stamped) (first : Place → Option Contents) (last : ℕ) (bank depth : ℕ) (stores : List Store) (fresh : List Fresh) (puts takes : List Touch) : Type 0 where
  pub kind : kind_of core m ≡ Fifo
  pub copies : length stores ≡ (mem_plan plan m).depth
  pub deep : room core m ≤ depth
  pub empty : (c : ℕ) → queue_of (first (copy_place m c)) ≡ []
  pub runs : RunQueues s bank depth stores fresh puts takes
  pub are_puts : ArePuts s events last m puts
  pub are_takes : AreTakes s events last m takes
  pub are_fresh : AreFresh s events last m core fresh

-- then up to the cycle after each copy is the queue that stands there; up to the cycle nothing is put into a full copy nor taken from an
-- empty one; and a take's net has the word of each event of its operation two cycles later
pub record QueueGoes (core : PlainCore) (m : ℕ) (s : Signals) (events : List Stamped) (first : Place → Option Contents) (last depth : ℕ) (stores : List Store) (fresh : List Fresh) (puts takes : List Touch) : Type 0 where
  pub hold : (t c : ℕ) → t ≤ suc last → copy_queue s fresh puts takes c t ≡ queue_of (standing core events first t (copy_place m c))
  pub may : (t c : ℕ) → t ≤ last → MayTouch s depth fresh puts takes c t
  pub answers : (n : ℕ) (take : Touch) → RunsTakes s (length stores) stores take → IsOf events Deq n m → NamesCopies s events last n take.copy → IsAnswered s events (suc last) n Deq 2 take.word

abbrev pub QueuesGo : PlainCore → PlainPlan → Type 0
QueuesGo core plan =
    (events : List Stamped) (first : Place → Option Contents) → HappensWell core plan events first
    → (m : ℕ) (s : Signals) (last bank depth : ℕ) (stores : List Store) (fresh : List Fresh) (puts takes : List Touch)
    → IsQueueOf core plan m s events first last bank depth stores fresh puts takes → QueueGoes core m s events first last depth stores fresh puts takes
