-- When an input fits a netlist.
use Rattle.std.specs.Prelude.{◌≡◌, ℕ, ◌+◌, ◌<◌, ◌≤◌, List, [], ◌∷◌, ◌++◌, length, slice_index, slice_index_or, count_by, All, Option, Some, None}
use Rattle.sp_words.specs.declared.types.Ty.{Ty}
use Rattle.sp_words.specs.declared.types.Ty.TheVariants.{Bit}
use Rattle.sp_words.specs.Words.{IsWord}
use Rattle.sp_netlist.specs.Cells.{PlainCell, in_cell, dram_cell}
use Rattle.sp_words.specs.Interface.{word_count}
use Rattle.sp_words.specs.Ports.{PlainPort, PlainPorts}
use Rattle.sp_netlist.specs.Refusals.{IsLeast}
use Rattle.sp_netlist.specs.Rules.{is_in, is_dram}

-- a word of its type for each `in` cell in order, and for each DRAM as many words of its type as it has
pub record IsGiven (cells : List PlainCell) (args : List ℕ) (drams : List (List ℕ)) : Type 0 where
  pub args_number : length args ≡ count_by is_in cells
  pub args_fit : (before : List PlainCell) (name : List ℕ) (net : ℕ) (ty : Ty) (after : List PlainCell) → cells ≡ before ++ in_cell name net ty ∷ after
      → IsWord ty (slice_index args (count_by is_in before))
  pub drams_number : length drams ≡ count_by is_dram cells
  pub drams_fit : (before : List PlainCell) (dram : ℕ) (name : List ℕ) (ty : Ty) (dims : List ℕ) (after : List PlainCell) → cells ≡ before ++ dram_cell dram name ty dims ∷ after
      → (length (slice_index_or drams dram []) ≡ word_count dims) × All (IsWord ty) (slice_index_or drams dram [])

-- the port at a place
abbrev pub no_port : PlainPort
no_port = record { name = []; ty = Bit; dims = [] }

abbrev pub port_at : List PlainPort → ℕ → PlainPort
port_at ports place = slice_index_or ports place no_port

-- the argument at a place is given and is a word of its type
abbrev pub ArgGiven : List PlainPort → List ℕ → ℕ → Type 0
ArgGiven ports args place = (place < length args) × IsWord (port_at ports place).ty (slice_index args place)

-- the DRAM at a place is given as many words as it has, each of them of its type
abbrev pub DramGiven : List PlainPort → List (List ℕ) → ℕ → Type 0
DramGiven ports drams place =
    (place < length drams) × (length (slice_index_or drams place []) ≡ word_count (port_at ports place).dims)
    × All (IsWord (port_at ports place).ty) (slice_index_or drams place [])

-- The input doesn't fit, and this number shows it: arguments are numbered from 0, then DRAMs. Too many arguments are
-- shown at the number of arguments, and contents of too many DRAMs at the number of all.
pub data InputFault (ports : PlainPorts) (args : List ℕ) (drams : List (List ℕ)) (which : ℕ) : Type 0 where
  bad_arg : which < length ports.args → (ArgGiven ports.args args which → ⊥) → InputFault ports args drams which
  more_args : which ≡ length ports.args → length ports.args < length args → InputFault ports args drams which
  bad_dram : (dram : ℕ) → which ≡ length ports.args + dram → dram < length ports.drams → (DramGiven ports.drams drams dram → ⊥) → InputFault ports args drams which
  more_drams : which ≡ length ports.args + length ports.drams → length ports.drams < length drams → InputFault ports args drams which

-- the first of so many places of which a fact doesn't hold, if there is one
abbrev pub IsFirstWithout : (ℕ → Type 0) → ℕ → Option ℕ → Type 0
IsFirstWithout P count None = (place : ℕ) → place < count → P place
IsFirstWithout P count (Some place) = (place < count) × (P place → ⊥) × ((other : ℕ) → other < place → P other)

-- no number shows that the input doesn't fit
pub record NoFault (ports : PlainPorts) (args : List ℕ) (drams : List (List ℕ)) : Type 0 where
  pub each_arg : (place : ℕ) → place < length ports.args → ArgGiven ports.args args place
  pub no_more_args : length args ≤ length ports.args
  pub each_dram : (place : ℕ) → place < length ports.drams → DramGiven ports.drams drams place
  pub no_more_drams : length drams ≤ length ports.drams

-- the least number that shows that the input doesn't fit, if there is one
abbrev pub IsFirstFault : PlainPorts → List ℕ → List (List ℕ) → Option ℕ → Type 0
IsFirstFault ports args drams None = NoFault ports args drams
IsFirstFault ports args drams (Some which) = IsLeast (InputFault ports args drams) which
