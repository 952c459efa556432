-- What a simulation begins with.
use Rattle.std.specs.Prelude.{◌≡◌, ℕ, ◌+◌, ◌<◌, ◌^◌, nat_lt, if◌then◌else◌, List, [], ◌∷◌, length, replicate, slice_index, slice_index_or, All, Contains, map, flat_map, count_by}
use Rattle.std.specs.List.{fold}
use Rattle.sp_words.specs.Types.{width_of}
use Rattle.sp_netlist.specs.Cells.{PlainCell, in_cell, const_cell, reg_cell, bank_cell, dram_cell}
use Rattle.sp_netlist.specs.Rules.{IsWidth, driven_nets, is_unit}
use Rattle.sp_netlist.specs.Signals.{idle}
use Rattle.sp_sim.specs.declared.state.State.{State}
use Rattle.sp_sim.specs.Phases.{plain_phase}
use Rattle.sp_sim.specs.Rows.{with_word}
use Rattle.sp_sim.specs.Memories.{Words}

-- the first words of a row, and how many arguments were given by then
pub record First : Type 0 where
  pub row : List (ℕ × ℕ)
  pub seen : ℕ

abbrev pub first_one : List ℕ → First → PlainCell → First
first_one args f (in_cell name net ty) = record { row = with_word f.row net (slice_index args f.seen); seen = if nat_lt f.seen (length args) then f.seen + 1 else f.seen }
first_one args f (const_cell net width word) = record { row = with_word f.row net word; seen = f.seen }
first_one args f (reg_cell net width first next enable) = record { row = with_word f.row net first; seen = f.seen }
first_one args f cell = f

-- the memory of a bank, and of a DRAM with its contents
abbrev pub fresh_bank : PlainCell → List Words
fresh_bank (bank_cell bank width len) = record { width = width; words = replicate len 0 } ∷ []
fresh_bank cell = []

abbrev pub fresh_dram : List (List ℕ) → PlainCell → List Words
fresh_dram contents (dram_cell dram name ty dims) = record { width = width_of ty; words = slice_index_or contents dram [] } ∷ []
fresh_dram contents cell = []

-- they can be made
abbrev pub HasWidth : PlainCell → Type 0
HasWidth (bank_cell bank width len) = IsWidth width
HasWidth cell = Unit {0}

abbrev pub HasContents : List (List ℕ) → PlainCell → Type 0
HasContents contents (dram_cell dram name ty dims) = (dram < length contents) × All (λ w. w < 2 ^ width_of ty) (slice_index_or contents dram [])
HasContents contents cell = Unit {0}

-- nets, each of which the cells drive
abbrev pub AreNets : List PlainCell → List ℕ → Type 0
AreNets cells nets = (net : ℕ) → (Contains nets net → Contains (map (λ p. p.0) (driven_nets cells)) net) × (Contains (map (λ p. p.0) (driven_nets cells)) net → Contains nets net)

-- the state with which a simulation begins
pub record BeginsWith (cells : List PlainCell) (args : List ℕ) (contents : List (List ℕ)) (state : State) : Type 0 where
  pub row_nets : List ℕ
  pub row_same : AreNets cells row_nets
  pub row : state.row ≡ (fold (first_one args) (record { row = map (λ n. (n, 0)) row_nets; seen = 0 }) cells).row
  pub next_nets : List ℕ
  pub next_same : AreNets cells next_nets
  pub next : state.next ≡ (fold (first_one args) (record { row = map (λ n. (n, 0)) next_nets; seen = 0 }) cells).row
  pub banks : state.banks.items ≡ flat_map fresh_bank cells
  pub drams : state.drams.items ≡ flat_map (fresh_dram contents) cells
  pub phases : map plain_phase state.phases.items ≡ replicate (count_by is_unit cells) idle
  pub taken : state.taken ≡ 0
  pub reads : length state.reads.items ≡ length state.banks.items
  pub writes : length state.writes.items ≡ length state.banks.items
