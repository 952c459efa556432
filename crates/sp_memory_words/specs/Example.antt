-- A worked output and a worked queue at the events of a timeline.
use Rattle.std.specs.Prelude.{◌≡◌, ℕ, nat_eq, if◌then◌else◌, List, [], ◌∷◌, Option, None, codes}
use Rattle.sp_words.specs.declared.kind.Kind.TheVariants.{Fifo, ArgOut}
use Rattle.sp_words.specs.Memory.{Contents}
use Rattle.sp_words.specs.Types.{int_type}
use Rattle.sp_netlist.specs.Signals.{Signals, idle}
use Rattle.sp_core.specs.Events.{Act, writes, puts, takes, touches}
use Rattle.sp_core.specs.ExampleForms.{lit, write, mem_of, core}
use Rattle.sp_core.specs.PlainCore.{PlainCore, inner}
use Rattle.sp_core.specs.Store.{queue_of}
use Rattle.sp_time.specs.Places.{Place}
use Rattle.sp_machine.specs.Found.{one_cell}
use Rattle.sp_machine.specs.Stamps.{Stamped}
use Rattle.sp_memory_words.specs.Moments.{Writes}
use Rattle.sp_memory_words.specs.Asked.{AreMade}
use Rattle.sp_memory_words.specs.Registers.{copy_place, standing}

-- a body writes 7 to an output; and a core with a queue of four words
unfoldable pub worked_output : PlainCore
worked_output = core (mem_of (codes "y") ArgOut int_type [] None ∷ []) [] (inner [] [] (lit 7 ∷ write 0 (0 ∷ []) ∷ []) None)

unfoldable pub worked_queue : PlainCore
worked_queue = core (mem_of (codes "q") Fifo int_type (4 ∷ []) None ∷ []) [] (inner [] (0 ∷ []) [] None)

-- an operation of a number does this to memory 0 in a cycle
abbrev pub event_at : (cycle number : ℕ) → Act → Stamped
event_at t n act = record { cycle = t; copy = 0; moment = touches (record { number = n; standing = record { path = []; counters = [] }; mem = 0; indices = []; act = act }) }

abbrev pub one_write : List Stamped
one_write = event_at 2 1 (writes 7) ∷ []

-- net 0 is 1 in cycle 2 alone, and net 1 has 7
abbrev pub worked_waves : Signals
worked_waves = record { net = λ t n. if nat_eq n 0 then (if nat_eq t 2 then 1 else 0) else 7; bank = λ t b place. 0; dram = λ t r place. 0; phase = λ t c. idle; asked = λ t. 0 }

abbrev pub zero_first : Place → Option Contents
zero_first p = one_cell worked_output 0

-- two words are put, and the first one is taken as the second one is there
abbrev pub three_events : List Stamped
three_events = event_at 1 0 (puts 10) ∷ event_at 3 1 (takes 10) ∷ event_at 2 0 (puts 11) ∷ []

abbrev pub nothing_first : Place → Option Contents
nothing_first p = None

abbrev pub queue_in : (cycle : ℕ) → List ℕ
queue_in t = queue_of (standing worked_queue three_events nothing_first t (copy_place 0 0))

pub record WorkedWords : Type 0 where
  -- net 0 is the enable of the one write, and net 1 its word
  pub asked : (last : ℕ) → AreMade worked_waves one_write last (λ n. n) (λ n. None) (λ x. (word : ℕ) × Writes 0 word x) (λ t n. Writes 0 (worked_waves.net t 1)) (0 ∷ [])
  pub before : standing worked_output one_write zero_first 2 (copy_place 0 0) ≡ one_cell worked_output 0
  pub after : standing worked_output one_write zero_first 3 (copy_place 0 0) ≡ one_cell worked_output 7
  pub empty : queue_in 1 ≡ []
  pub one : queue_in 2 ≡ 10 ∷ []
  pub two : queue_in 3 ≡ 10 ∷ 11 ∷ []
  pub last : queue_in 4 ≡ 11 ∷ []
