-- A worked DRAM of three words, to which two stores write. As cycles, by hand, with the words of the DRAM at the beginning of each:
--   cycle           0        1         2         3
--   first unit      10 at 0  11 at 1
--   second unit              20 at 2   21 at 0
--   words           7 8 9    10 8 9    10 11 20  21 11 20
use Rattle.std.specs.Prelude.{◌≡◌, ℕ, ◌<◌, List, [], ◌∷◌, slice_index, slice_index_or, Option, None, codes}
use Rattle.sp_words.specs.declared.kind.Kind.TheVariants.{Sram}
use Rattle.sp_words.specs.declared.kind.Style.TheVariants.{Pipe}
use Rattle.sp_words.specs.Memory.{Contents}
use Rattle.sp_words.specs.Types.{int_type}
use Rattle.sp_netlist.specs.Cells.{PlainCell, dram_cell, done_cell, store_unit}
use Rattle.sp_netlist.specs.Signals.{Signals, idle}
use Rattle.sp_core.specs.Events.{writes, touches}
use Rattle.sp_core.specs.ExampleForms.{mem_of, port, stages, core}
use Rattle.sp_core.specs.ExampleTransfers.{whole}
use Rattle.sp_core.specs.PlainCore.{PlainCore, outer, store}
use Rattle.sp_time.specs.Places.{Place}
use Rattle.sp_machine.specs.Found.{one_cell}
use Rattle.sp_machine.specs.Stamps.{Stamped}
use Rattle.sp_memory_words.specs.Registers.{standing}
use Rattle.sp_dram_words.specs.Units.{StoreUnit, nets_of, units_in, RunsDram}
use Rattle.sp_dram_words.specs.Moves.{stores, NodeMoves}
use Rattle.sp_dram_words.specs.Laws.{dram_place, IsInOneCopy, DramInTime}

-- a core with two stores of an SRAM, memory 0, to its DRAM, which is memory 1; they have the numbers 2 and 5, behind the ends of their slices
abbrev pub storing_core : PlainCore
storing_core = core (mem_of (codes "t") Sram int_type (3 ∷ []) None ∷ []) (port (codes "a") (3 ∷ []) ∷ []) (outer [] Pipe [] (stages (store 0 0 (whole 3 ∷ []) ∷ store 0 0 (whole 3 ∷ []) ∷ [])))

-- a word is written to an element of the DRAM
abbrev pub stored : (cycle number element word : ℕ) → Stamped
stored t n i w = record { cycle = t; copy = 0; moment = touches (record { number = n; standing = record { path = []; counters = [] }; mem = 1; indices = i ∷ []; act = writes w }) }

abbrev pub storing_events : List Stamped
storing_events = stored 0 2 0 10 ∷ stored 1 2 1 11 ∷ stored 1 5 2 20 ∷ stored 2 5 0 21 ∷ []

-- each unit is ready by the first of three nets, with an address on the second one and a word on the third one
abbrev pub first_unit : StoreUnit
first_unit = record { nets = record { ready = 0; address = 1; word = 2 }; number = 2 }

abbrev pub second_unit : StoreUnit
second_unit = record { nets = record { ready = 3; address = 4; word = 5 }; number = 5 }

abbrev pub storing_units : List StoreUnit
storing_units = first_unit ∷ second_unit ∷ []

-- the units stand among cells of which one stores to another DRAM
abbrev pub storing_cells : List PlainCell
storing_cells =
    dram_cell 0 (codes "a") int_type (3 ∷ []) ∷ dram_cell 1 (codes "b") int_type (3 ∷ []) ∷ store_unit 0 0 0 6 6 1 2 ∷ store_unit 1 1 7 6 6 7 7 ∷ store_unit 2 0 3 6 6 4 5 ∷ done_cell 8 ∷ []

-- the words of the nets in each cycle, which are 0 past these; and those of the DRAM
abbrev pub net_rows : List (List ℕ)
net_rows = (1 ∷ 0 ∷ 10 ∷ 0 ∷ 0 ∷ 0 ∷ []) ∷ (1 ∷ 1 ∷ 11 ∷ 1 ∷ 2 ∷ 20 ∷ []) ∷ (0 ∷ 1 ∷ 11 ∷ 1 ∷ 0 ∷ 21 ∷ []) ∷ []

abbrev pub word_rows : List (List ℕ)
word_rows = (7 ∷ 8 ∷ 9 ∷ []) ∷ (10 ∷ 8 ∷ 9 ∷ []) ∷ (10 ∷ 11 ∷ 20 ∷ []) ∷ []

abbrev pub storing_signals : Signals
storing_signals = record {
  net = λ t n. slice_index (slice_index_or net_rows t []) n;
  bank = λ t b place. 0;
  dram = λ t r i. slice_index (slice_index_or word_rows t (21 ∷ 11 ∷ 20 ∷ [])) i;
  phase = λ t c. idle;
  asked = λ t. 0;
}

abbrev pub words_first : Place → Option Contents
words_first p = one_cell storing_core (slice_index (7 ∷ 8 ∷ 9 ∷ []) p.element)

pub record WorkedDram : Type 0 where
  pub first_store : NodeMoves storing_core.root 0 first_unit.number (stores 0 0)
  pub second_store : NodeMoves storing_core.root 0 second_unit.number (stores 0 0)
  pub units : units_in 0 storing_cells ≡ nets_of storing_units
  pub runs : RunsDram storing_signals 0 3 (slice_index (7 ∷ 8 ∷ 9 ∷ [])) (nets_of storing_units)
  pub one : IsInOneCopy storing_events 1
  pub in_time : (last : ℕ) → DramInTime storing_core storing_signals storing_events last 0 storing_units
  -- what stands in the timeline at the beginning of each cycle
  pub words : (t i : ℕ) → t < 4 → i < 3 → standing storing_core storing_events words_first t (dram_place storing_core 0 i) ≡ one_cell storing_core (storing_signals.dram t 0 i)
