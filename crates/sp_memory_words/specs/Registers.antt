-- The words of a register, an argument and an output over a timeline.
use Rattle.std.specs.Prelude.{◌≡◌, ℕ, suc, ◌<◌, ◌≤◌, List, slice_index, slice_index_or, Option}
use Rattle.std.specs.List.{Contains}
use Rattle.sp_words.specs.declared.kind.Kind.{Kind}
use Rattle.sp_words.specs.declared.kind.Kind.TheVariants.{Reg, ArgIn, ArgOut}
use Rattle.sp_words.specs.Memory.{Contents}
use Rattle.sp_words.specs.Ports.{PlainInput}
use Rattle.sp_netlist.specs.Signals.{Signals}
use Rattle.sp_core.specs.declared.operation.OpKind.TheVariants.{Read}
use Rattle.sp_core.specs.Declarations.{mem, kind_of}
use Rattle.sp_core.specs.Meaning.{first_store}
use Rattle.sp_core.specs.PlainCore.{PlainCore}
use Rattle.sp_core.specs.Store.{words_of}
use Rattle.sp_plan.specs.PlainPlan.{PlainPlan, mem_plan}
use Rattle.sp_time.specs.Events.{content}
use Rattle.sp_time.specs.Places.{Place, is_place}
use Rattle.sp_machine.specs.Found.{events_of, does, one_cell}
use Rattle.sp_machine.specs.Stamps.{Stamped}
use Rattle.sp_contents.specs.Found.{first_contents}
use Rattle.sp_mem.specs.declared.part.Register.{Register}
use Rattle.sp_mem.specs.declared.part.Touch.{Touch}
use Rattle.sp_mem.specs.Copies.{first_word}
use Rattle.sp_mem.specs.Runs.{RunsRegister}
use Rattle.sp_memory_words.specs.Moments.{HappensWell}
use Rattle.sp_memory_words.specs.Asked.{AreWrites, AreFresh}
use Rattle.sp_memory_words.specs.Answers.{IsAnswered, NamesCopies, IsOf, ReadsAtOnce}

-- a register, or an output, which is one
abbrev pub IsRegister : Kind → Type 0
IsRegister Reg = Unit {0}
IsRegister ArgOut = Unit {0}
IsRegister _ = ⊥

-- the place of a copy of a memory that is one element
abbrev pub copy_place : (mem copy : ℕ) → Place
copy_place m c = record { mem = m; copy = c; element = 0 }

-- what stands at a place at the beginning of a cycle
abbrev pub standing : PlainCore → List Stamped → (Place → Option Contents) → (cycle : ℕ) → Place → Option Contents
standing core events first t p = content is_place (does core) (events_of core events) t first p

-- a word is the one that stands at a place, if one is written there
abbrev pub HasWord : PlainCore → Option Contents → (word : ℕ) → Type 0
HasWord core c w = (v : ℕ) → c ≡ one_cell core v → w ≡ v

-- A circuit of a register of a core, whose copies are these nets: as many as the plan has, each beginning with what stands there at
-- first and made fresh with the register's start; it is asked what happens, up to a cycle.
pub record IsRegisterOf (core : PlainCore) (plan : PlainPlan) (m : ℕ) (s : Signals) (events : List Stamped) (first : Place → Option Contents) (last : ℕ) (part : Register) (nets : List ℕ) : Type 0 where
  pub kind : IsRegister (kind_of core m)
  pub copies : part.copies ≡ (mem_plan plan m).depth
  pub start : part.first ≡ (mem core m).start
  pub begins : (c : ℕ) → c < part.copies → HasWord core (first (copy_place m c)) (first_word part.first)
  pub runs : RunsRegister s part nets
  pub writes : AreWrites s events last m part.writes.items
  pub fresh : AreFresh s events last m core part.fresh.items

-- up to the cycle after, the net of each copy has the word that stands there
abbrev pub RegistersHold : PlainCore → PlainPlan → Type 0
RegistersHold core plan =
    (events : List Stamped) (first : Place → Option Contents) → HappensWell core plan events first
    → (m : ℕ) (s : Signals) (last : ℕ) (part : Register) (nets : List ℕ) → IsRegisterOf core plan m s events first last part nets
    → (t c : ℕ) → t ≤ suc last → c < part.copies → HasWord core (standing core events first t (copy_place m c)) (s.net t (slice_index nets c))

-- so each read is answered: of a reader of the part a cycle later, of a net that reads a copy at once in the cycle itself
pub record RegisterAnswers (core : PlainCore) (plan : PlainPlan) (m : ℕ) (s : Signals) (events : List Stamped) (last : ℕ) (part : Register) (nets : List ℕ) : Type 0 where
  pub later : (n : ℕ) (reader : Touch) → Contains part.reads.items reader → IsOf events Read n m → NamesCopies s events last n reader.copy → IsAnswered s events (suc last) n Read 1 reader.word
  pub at_once : (n : ℕ) (copy : Option ℕ) (net : ℕ) → ReadsAtOnce s part.copies nets copy net → IsOf events Read n m → NamesCopies s events (suc last) n copy → IsAnswered s events (suc last) n Read 0 net

abbrev pub RegistersAnswer : PlainCore → PlainPlan → Type 0
RegistersAnswer core plan =
    (events : List Stamped) (first : Place → Option Contents) → HappensWell core plan events first
    → (m : ℕ) (s : Signals) (last : ℕ) (part : Register) (nets : List ℕ) → IsRegisterOf core plan m s events first last part nets → RegisterAnswers core plan m s events last part nets

-- a net that has the word of an argument in each cycle answers each read of it, however many cycles later
abbrev pub ArgumentsAnswer : PlainCore → PlainPlan → Type 0
ArgumentsAnswer core plan =
    (events : List Stamped) (first : Place → Option Contents) → HappensWell core plan events first
    → (m : ℕ) (s : Signals) (net word : ℕ) → kind_of core m ≡ ArgIn → ((c : ℕ) → first (copy_place m c) ≡ one_cell core word) → ((t : ℕ) → s.net t net ≡ word)
    → (last n after : ℕ) → IsOf events Read n m → IsAnswered s events last n Read after net

-- contents to begin with: a register has no word yet, an argument has that of the input, and an output has 0
pub record ContentsBegin (core : PlainCore) (input : PlainInput) : Type 0 where
  pub register : (m c : ℕ) (word : ℕ) → kind_of core m ≡ Reg → HasWord core (first_contents core input (copy_place m c)) word
  pub argument : (m c : ℕ) → kind_of core m ≡ ArgIn → first_contents core input (copy_place m c) ≡ one_cell core (slice_index_or (words_of (first_store core input m)) 0 0)
  pub output : (m c : ℕ) → kind_of core m ≡ ArgOut → first_contents core input (copy_place m c) ≡ one_cell core 0
