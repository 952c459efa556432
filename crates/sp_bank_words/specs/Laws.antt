-- The words of memories in banks in the cycles of a timeline, as statements.
use Rattle.std.specs.Prelude.{◌≡◌, ℕ, suc, ◌<◌, ◌≤◌, true, List, [], ◌∷◌, ◌++◌, Option, None}
use Rattle.std.specs.List.{AllZip}
use Rattle.sp_bank.specs.Places.{IsInside}
use Rattle.sp_netlist.specs.Signals.{Signals}
use Rattle.sp_gates.specs.Tested.{is_on}
use Rattle.sp_words.specs.Memory.{Contents}
use Rattle.sp_words.specs.declared.kind.Kind.TheVariants.{Sram}
use Rattle.sp_core.specs.declared.operation.OpKind.TheVariants as kind
use Rattle.sp_core.specs.Declarations.{kind_of, dims}
use Rattle.sp_core.specs.Elements.{row_major}
use Rattle.sp_core.specs.Forms.{PlainForms}
use Rattle.sp_core.specs.PlainCore.{PlainCore}
use Rattle.sp_plan.specs.PlainPlan.{PlainPlan}
use Rattle.sp_time.specs.Events.{InTime, content}
use Rattle.sp_time.specs.Lists.{Each, Pairs}
use Rattle.sp_time.specs.Places.{Place, is_place}
use Rattle.sp_machine.specs.Found.{events_of, does, Sees, one_cell}
use Rattle.sp_machine.specs.InOrder.{does_change}
use Rattle.sp_machine.specs.Stamps.{Stamped}
use Rattle.sp_core_ports.specs.UsedPorts.{UseNoPortTwice, HasDuplicate}
use Rattle.sp_core_ports.specs.CopiesLaws.{HasCopy}
use Rattle.sp_mem.specs.declared.part.Touch.{Touch}
use Rattle.sp_requests.specs.Elements.{AreServed}
use Rattle.sp_banked.specs.declared.part.Banked.{Banked}
use Rattle.sp_banked.specs.Runs.{reads_of, RunsBanked}
use Rattle.sp_banked.specs.Laws.{contents}
use Rattle.sp_node_runs.specs.BodiesTold.{SomeHappens, ActsInTime}
use Rattle.sp_bank_words.specs.Accesses.{reads_in, writes_in, AreInside, IsMemoryOf, IsOperation}
use Rattle.sp_bank_words.specs.Acting.{StandsInTime, WriteGoes, IsAnswered, SomeReads, ReadGoes, MemoryGoes}

-- Accesses of operations that act in time are such of a memory's circuit, and where these are answered, those are.
pub record OperationsGo (core : PlainCore) (plan : PlainPlan) (s : Signals) (events : List Stamped) (m last number : ℕ) (touch : Touch) : Type 0 where
  pub reads : IsOperation events number kind.Read m → ActsInTime s events last number kind.Read touch.enable touch.index.items → StandsInTime s events last number touch → ReadGoes core plan s m (reads_in m events) last number touch
  pub writes : IsOperation events number kind.Write m → ActsInTime s events last number kind.Write touch.enable (touch.index.items ++ touch.word ∷ []) → StandsInTime s events last number touch
      → WriteGoes s (writes_in m events) last number touch
  pub answers : IsOperation events number kind.Read m → (net after : ℕ) → IsAnswered s (reads_in m events) last number kind.Read net after → IsAnswered s events last number kind.Read net after

module _ (core : PlainCore) (plan : PlainPlan) (forms : PlainForms) where
  -- The writes of a cycle are served, and so are the reads of each duplicate in which something is read; of one whose reads are enabled at
  -- events alone in each cycle.
  pub record ServedInTime (s : Signals) (events : List Stamped) (m last : ℕ) (part : Banked) (reading : List ℕ) : Type 0 where
    pub writes : (t : ℕ) → t ≤ last → AreServed s t part.layout part.writes.items
    pub reads : (t d : ℕ) → t ≤ last → SomeReads core plan s m (reads_in m events) d t → AreServed s t part.layout (reads_of d part.reads.items)
    pub always : AllZip (λ n r. (t : ℕ) → t ≤ last → is_on s r.enable t ≡ true → SomeHappens (reads_in m events) n t) reading part.reads.items → (t d : ℕ) → t ≤ last → AreServed s t part.layout (reads_of d part.reads.items)

  -- Where reads and writes are inside of their memories, and no port of a bank is used twice in one cycle other than as one tap, the
  -- accesses of an SRAM's circuit are served.
  abbrev pub AccessesAreServed : Type 0
  AccessesAreServed =
      (s : Signals) (events : List Stamped) (m last : ℕ) (part : Banked) (reading writing : List ℕ) → kind_of core m ≡ Sram
      → AreInside core events m → Pairs (UseNoPortTwice core plan forms) events
      → IsMemoryOf core plan events m part reading writing → MemoryGoes core plan s m events last part reading writing → ServedInTime s events m last part reading

  -- what is said of events: each is found in time, at a copy that the plan has, each read of a memory in banks has a duplicate of its
  -- reader, no port is used twice in one cycle, and those of a memory are inside of it
  pub record AreFound (events : List Stamped) (first : Place → Option Contents) (m : ℕ) : Type 0 where
    pub in_time : InTime is_place (does core) (Sees core) does_change (events_of core events) first
    pub copied : Each (λ x. HasCopy core plan x.copy x.moment) events
    pub served : Each (λ x. HasDuplicate core plan x.moment) events
    pub ports : Pairs (UseNoPortTwice core plan forms) events
    pub inside : AreInside core events m

module _ (core : PlainCore) (s : Signals) (events : List Stamped) (first : Place → Option Contents) (m : ℕ) (part : Banked) where
  -- in a cycle a copy holds the word that stands at an element by the timeline, wherever one stands there
  abbrev pub HoldsWords : (cycle : ℕ) → Type 0
  HoldsWords t =
      (c w : ℕ) (x : List ℕ) → c < part.copies → IsInside part.layout.dims.items x
      → content is_place (does core) (events_of core events) t first (record { mem = m; copy = c; element = row_major (dims core m) x }) ≡ one_cell core w → contents s part c t x ≡ w

  pub record WordsStand (last : ℕ) (reading : List ℕ) : Type 0 where
    pub holds : (t : ℕ) → t ≤ suc last → HoldsWords t
    pub answers : AllZip (λ n r. IsAnswered s (reads_in m events) (suc (suc last)) n kind.Read r.word 2) reading part.reads.items

-- The circuit of an SRAM, in which nothing stands at first, and whose accesses act in time up to a cycle: in each cycle up to the next
-- one its copies hold the words of the timeline, and each read up to that cycle is answered two cycles later.
abbrev pub MemoriesHoldWords : PlainCore → PlainPlan → PlainForms → Type 0
MemoriesHoldWords core plan forms =
    (s : Signals) (events : List Stamped) (first : Place → Option Contents) (m last : ℕ) (part : Banked) (reading writing : List ℕ) → kind_of core m ≡ Sram
    → AreFound core plan forms events first m → ((c i : ℕ) → first (record { mem = m; copy = c; element = i }) ≡ None)
    → RunsBanked s part → IsMemoryOf core plan events m part reading writing → MemoryGoes core plan s m events last part reading writing → WordsStand core s events first m part last reading
