-- What the memories are of: banks and DRAMs of a netlist.
use Rattle.std.specs.Prelude.{◌≡◌, ℕ, ◌<◌, ◌^◌, List, length, slice_index_or, count_by}
use Rattle.sp_netlist.specs.Cells.{PlainCell, done_cell, bank_cell, dram_cell}
use Rattle.sp_words.specs.Interface.{word_count}
use Rattle.sp_netlist.specs.Rules.{is_bank, is_dram, bank_width, dram_width}
use Rattle.sp_sim.specs.Memories.{Words, no_words, word_at, width_at}

-- the memory of a cell is as long as the cell says
abbrev pub HasBankLen : List Words → PlainCell → Type 0
HasBankLen banks (bank_cell bank width len) = length (slice_index_or banks bank no_words).words ≡ len
HasBankLen banks cell = Unit {0}

abbrev pub HasDramLen : List Words → PlainCell → Type 0
HasDramLen drams (dram_cell dram name ty dims) = length (slice_index_or drams dram no_words).words ≡ word_count dims
HasDramLen drams cell = Unit {0}

-- one memory for each bank, and for each DRAM, in order, of its length and width
pub record AreBanks (cells : List PlainCell) (banks : List Words) : Type 0 where
  pub number : length banks ≡ count_by is_bank cells
  pub lens : (at : ℕ) → at < length cells → HasBankLen banks (slice_index_or cells at (done_cell 0))
  pub widths : (n : ℕ) → n < count_by is_bank cells → width_at banks n ≡ bank_width cells n
  pub fit : (n addr : ℕ) → word_at banks n addr < 2 ^ width_at banks n

pub record AreDrams (cells : List PlainCell) (drams : List Words) : Type 0 where
  pub number : length drams ≡ count_by is_dram cells
  pub lens : (at : ℕ) → at < length cells → HasDramLen drams (slice_index_or cells at (done_cell 0))
  pub widths : (n : ℕ) → n < count_by is_dram cells → width_at drams n ≡ dram_width cells n
  pub fit : (n addr : ℕ) → word_at drams n addr < 2 ^ width_at drams n
