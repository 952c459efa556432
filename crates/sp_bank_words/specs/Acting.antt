-- What the accesses of a memory's circuit do up to a cycle: each acts at the events of its number.
use Rattle.std.specs.Prelude.{◌≡◌, ℕ, ◌+◌, ◌<◌, ◌≤◌, ◌^◌, true, List, [], ◌∷◌, ◌++◌, map, All, Some}
use Rattle.std.specs.List.{AllZip, Contains}
use Rattle.sp_netlist.specs.Signals.{Signals}
use Rattle.sp_gates.specs.Tested.{is_on}
use Rattle.sp_core.specs.declared.operation.OpKind.{OpKind}
use Rattle.sp_core.specs.declared.operation.OpKind.TheVariants as kind
use Rattle.sp_core.specs.Events.{writes, Event, touches, act_of}
use Rattle.sp_core.specs.PlainCore.{PlainCore}
use Rattle.sp_plan.specs.PlainPlan.{PlainPlan}
use Rattle.sp_machine.specs.Stamps.{Stamped}
use Rattle.sp_core_ports.specs.UsedReaders.{duplicate_at}
use Rattle.sp_mem.specs.declared.part.Fresh.{Fresh}
use Rattle.sp_mem.specs.declared.part.Touch.{Touch}
use Rattle.sp_mem.specs.Copies.{copy_at}
use Rattle.sp_banked.specs.declared.part.Banked.{Banked}
use Rattle.sp_lines.specs.declared.part.Lines.{Lines}
use Rattle.sp_lines.specs.Spots.{load_spot}
use Rattle.sp_part_runs.specs.BodiesRuns.{IsOnAt}
use Rattle.sp_part_runs.specs.ActsEntries.{touched_at}
use Rattle.sp_node_runs.specs.BodiesTold.{Happens, SomeHappens, ActsInTime}
use Rattle.sp_bank_words.specs.Accesses.{reads_in, writes_in, turns_in}

module _ (s : Signals) (events : List Stamped) (last : ℕ) where
  -- in the cycles of events the net of the copy has the event's copy, and the words of indices have no sign
  pub record StandsInTime (number : ℕ) (touch : Touch) : Type 0 where
    pub copy : (t c : ℕ) (e : Event) → t ≤ last → Contains events (record { cycle = t; copy = c; moment = touches e }) → e.number ≡ number → copy_at s t touch.copy ≡ c
    pub index : (t : ℕ) (e : Event) → t ≤ last → Happens events number t e → All (λ net. s.net t net < 2 ^ 31) touch.index.items

  -- a write is given its word behind its indices
  pub record WriteGoes (number : ℕ) (touch : Touch) : Type 0 where
    pub acts : ActsInTime s events last number kind.Write touch.enable (touch.index.items ++ touch.word ∷ [])
    pub stands : StandsInTime number touch

  -- an access of a kind that gives a word is answered on a net, so many cycles after each of its events
  abbrev pub IsAnswered : (number : ℕ) → OpKind → (net after : ℕ) → Type 0
  IsAnswered n kind net after = (t : ℕ) (e : Event) → Happens events n t e → t + after ≤ last → (w : ℕ) → act_of kind w ≡ Some e.act → s.net (t + after) net ≡ w

module _ (core : PlainCore) (plan : PlainPlan) (s : Signals) (m : ℕ) where
  -- one of the reads in a duplicate happens, of these events
  abbrev pub SomeReads : List Stamped → (duplicate t : ℕ) → Type 0
  SomeReads events d t = (n : ℕ) × SomeHappens events n t × (duplicate_at core plan m n ≡ d)

  -- A read is enabled at its events, with their indices; it may be enabled in other cycles, too, as a store is that reads ahead, but in none
  -- in which another read of its duplicate happens.
  pub record ReadGoes (events : List Stamped) (last number : ℕ) (touch : Touch) : Type 0 where
    pub on : (t : ℕ) → t ≤ last → SomeHappens events number t → is_on s touch.enable t ≡ true
    pub only : (t : ℕ) → t ≤ last → is_on s touch.enable t ≡ true → SomeReads events touch.duplicate t → SomeHappens events number t
    pub at : (t : ℕ) (e : Event) → t ≤ last → Happens events number t e → e.indices ≡ touched_at kind.Read (map (s.net t) touch.index.items)
    pub stands : StandsInTime s events last number touch

  pub record MemoryGoes (events : List Stamped) (last : ℕ) (part : Banked) (reading writing : List ℕ) : Type 0 where
    pub each_read : AllZip (ReadGoes (reads_in m events) last) reading part.reads.items
    pub each_write : AllZip (WriteGoes s (writes_in m events) last) writing part.writes.items

  -- the loads of a line buffer's newest row, and the turns of its rows, up to a cycle
  pub record LoadGoes (events : List Stamped) (last rows number : ℕ) (touch : Touch) : Type 0 where
    pub enabled : IsOnAt (is_on s touch.enable) (SomeHappens events number) last
    pub spot : (t : ℕ) (e : Event) → t ≤ last → Happens events number t e → load_spot rows s t touch ≡ e.indices
    pub word : (t : ℕ) (e : Event) → t ≤ last → Happens events number t e → e.act ≡ writes (s.net t touch.word)
    pub copy : (t c : ℕ) (e : Event) → t ≤ last → Contains events (record { cycle = t; copy = c; moment = touches e }) → e.number ≡ number → copy_at s t touch.copy ≡ c

  pub record TurnGoes (events : List Stamped) (last number : ℕ) (turn : Fresh) : Type 0 where
    pub enabled : IsOnAt (is_on s turn.enable) (SomeHappens events number) last
    pub copy : (t c : ℕ) (e : Event) → t ≤ last → Contains events (record { cycle = t; copy = c; moment = touches e }) → e.number ≡ number → copy_at s t turn.copy ≡ c

  pub record LinesGo (events : List Stamped) (last : ℕ) (part : Lines) (turning loading reading : List ℕ) : Type 0 where
    pub each_turn : AllZip (TurnGoes (turns_in m events) last) turning part.turns.items
    pub each_load : AllZip (LoadGoes (writes_in m events) last part.rows) loading part.loads.items
    pub each_read : AllZip (ReadGoes (reads_in m events) last) reading part.reads.items
