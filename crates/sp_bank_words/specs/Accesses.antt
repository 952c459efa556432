-- The accesses of a memory's circuit as those that a timeline has to the memory, by the numbers of their operations and transfers.
use Rattle.std.specs.Prelude.{◌≡◌, ℕ, ◌==◌, ◌&&◌, ◌||◌, ◌⊎◌, Bool, true, false, List, ◌∷◌, length, Some}
use Rattle.std.specs.List.{AllZip, Contains, filter}
use Rattle.sp_bank.specs.Places.{IsInside}
use Rattle.sp_core.specs.declared.operation.OpKind.{OpKind}
use Rattle.sp_core.specs.Declarations.{dims}
use Rattle.sp_core.specs.Events.{Act, reads, writes, turns, Event, Moment, touches, act_of}
use Rattle.sp_core.specs.PlainCore.{PlainCore}
use Rattle.sp_plan.specs.PlainPlan.{PlainPlan, mem_plan}
use Rattle.sp_machine.specs.InOrder.{is_done, memory_of, does_change}
use Rattle.sp_machine.specs.Stamps.{Stamped}
use Rattle.sp_core_ports.specs.UsedReaders.{duplicate_at}
use Rattle.sp_banked.specs.declared.part.Banked.{Banked}
use Rattle.sp_node_runs.specs.BodiesTold.{Happens}
use Rattle.sp_lines.specs.declared.part.Lines.{Lines}
use Rattle.sp_places.specs.Layouts.{banking_of}
use Rattle.sp_plan.specs.Ports.{scheme_at}
use Rattle.sp_plan.specs.Validity.{schemes_of}
use Rattle.sp_bank_words.specs.Layouts.{banking_for, IsLayoutOf}

abbrev pub is_read : Act → Bool
is_read (reads w) = true
is_read _ = false

abbrev pub is_write : Act → Bool
is_write (writes w) = true
is_write _ = false

abbrev pub is_turn : Act → Bool
is_turn turns = true
is_turn _ = false

-- whether something is done to a memory
abbrev pub is_at : (Act → Bool) → (mem : ℕ) → Moment → Bool
is_at test m (touches e) = (e.mem == m) && test e.act
is_at test m moment = false

-- the reads of a memory, and the writes; a transfer's number has events of a DRAM, too
abbrev pub reads_in : (mem : ℕ) → List Stamped → List Stamped
reads_in m events = filter (λ x. is_at is_read m x.moment) events

abbrev pub writes_in : (mem : ℕ) → List Stamped → List Stamped
writes_in m events = filter (λ x. is_at is_write m x.moment) events

-- reads and writes of a memory are inside of it
abbrev pub AreInside : PlainCore → List Stamped → (mem : ℕ) → Type 0
AreInside core events m = (x : Stamped) (e : Event) → Contains events x → x.moment ≡ touches e → e.mem ≡ m → (is_read e.act || is_write e.act) ≡ true → IsInside (dims core m) e.indices

-- the turns of a line buffer's rows
abbrev pub turns_in : (mem : ℕ) → List Stamped → List Stamped
turns_in m events = filter (λ x. is_at is_turn m x.moment) events

-- a write, and a turn, of one of these numbers
abbrev pub IsWriteOf : (numbers : List ℕ) → Stamped → Type 0
IsWriteOf numbers x = (e : Event) × (w : ℕ) × (x.moment ≡ touches e) × (e.act ≡ writes w) × Contains numbers e.number

abbrev pub IsTurnOf : (numbers : List ℕ) → Stamped → Type 0
IsTurnOf numbers x = (e : Event) × (x.moment ≡ touches e) × (e.act ≡ turns) × Contains numbers e.number

-- all that changes a memory is such
abbrev pub AreChanges : PlainCore → List Stamped → (mem : ℕ) → (Stamped → Type 0) → Type 0
AreChanges core events m Is = (x : Stamped) → Contains events x → is_done core x.moment ≡ true → memory_of x.moment ≡ m → does_change x.moment ≡ true → Is x

-- The circuit of an SRAM: its layout, copies and duplicates are those of the plan; each of its reads, by the number of its operation or
-- transfer, has the duplicate of its reader; and each change of the memory is a write of one of its numbers.
pub record IsMemoryOf (core : PlainCore) (plan : PlainPlan) (events : List Stamped) (m : ℕ) (part : Banked) (reading writing : List ℕ) : Type 0 where
  pub layout : IsLayoutOf core plan m part.layout
  pub copies : part.copies ≡ (mem_plan plan m).depth
  pub duplicates : part.duplicates ≡ (mem_plan plan m).duplicates
  pub each_read : AllZip (λ n r. r.duplicate ≡ duplicate_at core plan m n) reading part.reads.items
  pub all : AreChanges core events m (IsWriteOf writing)

-- The circuit of a line buffer: its rows and columns, and how these lie in banks, its copies and duplicates are those of the plan, and each
-- change of it is a load's write or a turn of one of its numbers.
pub record IsLinesOf (core : PlainCore) (plan : PlainPlan) (events : List Stamped) (m : ℕ) (part : Lines) (turning loading reading : List ℕ) : Type 0 where
  pub sizes : part.rows ∷ part.layout.dims.items ≡ dims core m
  pub columns : length part.layout.dims.items ≡ 1
  pub banking : banking_of part.layout ≡ banking_for (scheme_at (schemes_of plan) (Some m)) 1
  pub copies : part.copies ≡ (mem_plan plan m).depth
  pub duplicates : part.duplicates ≡ (mem_plan plan m).duplicates
  pub each_read : AllZip (λ n r. r.duplicate ≡ duplicate_at core plan m n) reading part.reads.items
  pub all : AreChanges core events m (λ x. IsWriteOf loading x ⊎ IsTurnOf turning x)

-- all that happens at an operation's number are accesses of its kind to its memory
abbrev pub IsOperation : List Stamped → (number : ℕ) → OpKind → (mem : ℕ) → Type 0
IsOperation events n kind m = (t : ℕ) (e : Event) → Happens events n t e → (e.mem ≡ m) × (w : ℕ) × (act_of kind w ≡ Some e.act)
