-- Worked examples: three small netlists and how they end.
use Rattle.std.specs.Prelude.{ℕ, List, [], ◌∷◌, true}
use Rattle.std.proofs.Common.{lit≤}
use Rattle.sp_words.specs.declared.types.Ty.{Ty}
use Rattle.sp_words.specs.declared.types.Ty.TheVariants.{Fix, Bit}
use Rattle.sp_netlist.specs.declared.cell.CellOp.TheVariants.{Add, And, Eq}
use Rattle.sp_netlist.specs.declared.cell.Port.TheVariants.{Read}
use Rattle.sp_netlist.specs.Cells.{PlainCell, in_cell, out_cell, done_cell, const_cell, op_cell, reg_cell, bank_cell, read_tap, dram_cell, load_unit}
use Rattle.sp_netlist.specs.Signals.{Setting}
use Rattle.sp_netlist.specs.Cycle.{done_in, conflict_in, Ends}

-- whole numbers of 32 bits with a sign
abbrev pub int : Ty
int = Fix (record { signed = true; whole = 32; frac = 0; has_bits = lit≤ tt; in_a_word = lit≤ tt })

-- x + 3 goes into a register, and from there to y; done after one cycle
abbrev pub add_three : List PlainCell
add_three =
    in_cell (120 ∷ []) 0 int ∷ const_cell 1 32 3 ∷ op_cell 2 int Add 0 1 ∷ reg_cell 3 32 0 2 4 ∷ const_cell 4 1 1
    ∷ reg_cell 5 1 0 4 4 ∷ out_cell (121 ∷ []) 3 int ∷ done_cell 5 ∷ []

-- two taps read one bank, enabled from cycle 1 on
abbrev pub two_reads : List PlainCell
two_reads =
    const_cell 0 1 1 ∷ const_cell 1 32 0 ∷ reg_cell 2 1 0 0 0 ∷ bank_cell 0 8 4 ∷ read_tap 3 0 2 1 ∷ read_tap 4 0 2 1
    ∷ const_cell 5 1 0 ∷ done_cell 5 ∷ []

-- twenty words are loaded, the last at address 19
abbrev pub load_twenty : List PlainCell
load_twenty =
    dram_cell 0 (97 ∷ []) int (20 ∷ []) ∷ const_cell 0 1 1 ∷ const_cell 1 32 1 ∷ const_cell 2 32 19 ∷ op_cell 4 int Add 3 1
    ∷ reg_cell 3 32 0 4 5 ∷ load_unit 0 0 5 6 0 7 3 ∷ op_cell 7 int Eq 3 2 ∷ op_cell 8 Bit And 5 7 ∷ reg_cell 9 1 0 8 0
    ∷ out_cell (121 ∷ []) 6 int ∷ done_cell 9 ∷ []

abbrev pub twenty_zeros : List ℕ
twenty_zeros = 0 ∷ 0 ∷ 0 ∷ 0 ∷ 0 ∷ 0 ∷ 0 ∷ 0 ∷ 0 ∷ 0 ∷ 0 ∷ 0 ∷ 0 ∷ 0 ∷ 0 ∷ 0 ∷ 0 ∷ 0 ∷ 0 ∷ 0 ∷ []

-- that load with these delays
abbrev pub loading : List ℕ → Setting
loading delays = record { cells = load_twenty; args = []; drams = twenty_zeros ∷ []; delays = delays }

-- How they end. The load asks in cycle 0, and again with its 16th word, so it takes two delays.
pub record ExampleEndings : Type 0 where
  pub sum : Ends (record { cells = add_three; args = 4 ∷ []; drams = []; delays = [] }) 1000 (done_in 1 (7 ∷ []) [])
  pub clash : Ends (record { cells = two_reads; args = []; drams = []; delays = [] }) 1000 (conflict_in 1 0 Read)
  pub no_delay : Ends (loading []) 1000 (done_in 21 (0 ∷ []) (twenty_zeros ∷ []))
  pub one_delay : Ends (loading (3 ∷ [])) 1000 (done_in 24 (0 ∷ []) (twenty_zeros ∷ []))
  pub two_delays : Ends (loading (3 ∷ 2 ∷ [])) 1000 (done_in 26 (0 ∷ []) (twenty_zeros ∷ []))
