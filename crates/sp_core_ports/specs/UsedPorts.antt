-- The ports of banks that what happens in a run uses, and when two moments of its timeline use one in one cycle.
use Rattle.std.specs.Prelude.{◌≡◌, ◌<◌, ℕ, Bool, true, false, List, ◌∷◌, Option, Some, None, if◌then◌else◌}
use Rattle.sp_bank.specs.Banking.{Banking}
use Rattle.sp_bank.specs.Places.{bank}
use Rattle.sp_core.specs.Declarations.{mem}
use Rattle.sp_core.specs.Events.{Act, reads, writes, Event, Moment, touches}
use Rattle.sp_core.specs.Forms.{PlainForms}
use Rattle.sp_core.specs.Meeting.{changes}
use Rattle.sp_core.specs.PlainCore.{PlainCore}
use Rattle.sp_plan.specs.PlainPlan.{PlainPlan, mem_plan}
use Rattle.sp_plan.specs.Ports.{has_banks, scheme_at}
use Rattle.sp_plan.specs.Validity.{schemes_of}
use Rattle.sp_words.specs.declared.kind.Kind.{Kind}
use Rattle.sp_words.specs.declared.kind.Kind.TheVariants.{LineBuf}
use Rattle.sp_machine.specs.Stamps.{Stamped}
use Rattle.sp_ports.specs.Banks.{AreOneTap}
use Rattle.sp_core_ports.specs.UsedReaders.{readers_of, over_at, duplicate_at}

-- a bank of a copy of a memory is read by one port in each duplicate, and written by one port, which writes all duplicates and
-- is told as that of duplicate 0; in a line buffer each row has banks of its own
pub record Port : Type 0 where
  pub mem : ℕ
  pub copy : ℕ
  pub is_written : Bool
  pub duplicate : ℕ
  pub row : Option ℕ
  pub bank : ℕ

-- the row and the bank of an element; a memory without a scheme is one bank
abbrev pub row_at : Kind → Option Banking → (indices : List ℕ) → Option ℕ
row_at LineBuf (Some b) (row ∷ is) = Some row
row_at kind scheme is = None

abbrev pub bank_at : Kind → Option Banking → (indices : List ℕ) → ℕ
bank_at kind None is = 0
bank_at LineBuf (Some b) (row ∷ is) = bank b is
bank_at kind (Some b) is = bank b is

module _ (core : PlainCore) (plan : PlainPlan) where
  abbrev pub port_at : Event → (copy : ℕ) → (is_written : Bool) → (duplicate : ℕ) → Port
  port_at e copy is_written duplicate = record {
    mem = e.mem;
    copy = copy;
    is_written = is_written;
    duplicate = duplicate;
    row = row_at (mem core e.mem).kind (scheme_at (schemes_of plan) (Some e.mem)) e.indices;
    bank = bank_at (mem core e.mem).kind (scheme_at (schemes_of plan) (Some e.mem)) e.indices;
  }

  abbrev pub act_port : Event → (copy : ℕ) → Act → Option Port
  act_port e copy (reads w) = Some (port_at e copy false (duplicate_at core plan e.mem e.number))
  act_port e copy (writes w) = Some (port_at e copy true 0)
  act_port e copy act = None

  abbrev pub event_port : (copy : ℕ) → Event → Option Port
  event_port copy e = if has_banks (mem core e.mem).kind then act_port e copy e.act else None

  abbrev pub moment_port : (copy : ℕ) → Moment → Option Port
  moment_port copy (touches e) = event_port copy e
  moment_port copy moment = None

  -- the port that a moment uses, if it uses one
  abbrev pub port_of : Stamped → Option Port
  port_of s = moment_port s.copy s.moment

  -- two moments use one port
  pub record AreAtPort (s t : Stamped) : Type 0 where
    pub port : Port
    pub first : port_of s ≡ Some port
    pub second : port_of t ≡ Some port

  -- in one cycle
  abbrev pub UseOnePort : (s t : Stamped) → Type 0
  UseOnePort s t = (s.cycle ≡ t.cycle) × AreAtPort s t

  -- they don't, other than as one tap: two reads of one group of iterations whose indices are the same forms
  abbrev pub UseNoPortTwice : PlainForms → (s t : Stamped) → Type 0
  UseNoPortTwice forms s t = UseOnePort s t → AreOneTap core forms s.moment t.moment

  -- a read of a memory with banks has a duplicate of the plan that no other reader has: there are more than readers before it
  abbrev pub HasDuplicate : Moment → Type 0
  HasDuplicate (touches e) = has_banks (mem core e.mem).kind ≡ true → changes e.act ≡ false → over_at e.number (readers_of core e.mem) < (mem_plan plan e.mem).duplicates
  HasDuplicate moment = Unit {0}
