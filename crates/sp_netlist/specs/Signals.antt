-- What the cells of a netlist do over time. A run is a family of signals in which each cell's own equation
-- holds in every cycle; cycles are numbered from 0.
use Rattle.std.specs.Prelude.{◌≡◌, ℕ, zero, suc, ◌+◌, List, [], ◌∷◌, ◌++◌, Bool, false, ◌&&◌, ◌==◌, nat_lt, if◌then◌else◌, slice_index, slice_index_or, count_by}
use Rattle.sp_words.specs.declared.types.Ty.{Ty}
use Rattle.sp_words.specs.Words.{word_add, word_sub, word_mul, word_div, word_rem, word_and, word_or, word_xor, word_min, word_max, word_lt, word_eq, word_not, word_shl, word_shr, word_cast}
use Rattle.sp_netlist.specs.declared.cell.CellOp.{CellOp}
use Rattle.sp_netlist.specs.declared.cell.CellOp.TheVariants.{Add, Sub, Mul, Div, Rem, And, Or, Xor, Min, Max, Lt, Eq}
use Rattle.sp_netlist.specs.declared.cell.CellShift.{CellShift}
use Rattle.sp_netlist.specs.declared.cell.CellShift.TheVariants.{Shl, Shr}
use Rattle.sp_netlist.specs.Cells.{PlainCell, in_cell, out_cell, done_cell, const_cell, op_cell, not_cell, shift_cell, cast_cell, mux_cell, reg_cell, bank_cell, read_tap, write_tap, dram_cell, load_unit, store_unit}
use Rattle.sp_words.specs.Interface.{word_count}
use Rattle.sp_netlist.specs.Rules.{is_in}

-- the cells, and what they are given: a word for each argument in order, the words of each DRAM in row-major
-- order, and the delays of the channels
pub record Setting : Type 0 where
  pub cells : List PlainCell
  pub args : List ℕ
  pub drams : List (List ℕ)
  pub delays : List ℕ

-- A channel is idle, or waits for so many cycles after this one before a word moves, or moves a word in this
-- cycle and has moved so many since it last asked.
pub data Phase : Type 0 where
  idle : Phase
  waiting : ℕ → Phase
  moving : ℕ → Phase

-- In each cycle: the word of each net, of each place of each bank and of each DRAM, the phase of each
-- channel, and how often channels have asked before.
pub record Signals : Type 0 where
  pub net : ℕ → ℕ → ℕ
  pub bank : ℕ → ℕ → ℕ → ℕ
  pub dram : ℕ → ℕ → ℕ → ℕ
  pub phase : ℕ → ℕ → Phase
  pub asked : ℕ → ℕ

-- the operators of the cells
abbrev pub op_word : CellOp → Ty → ℕ → ℕ → ℕ
op_word Add = word_add
op_word Sub = word_sub
op_word Mul = word_mul
op_word Div = word_div
op_word Rem = word_rem
op_word And = word_and
op_word Or = word_or
op_word Xor = word_xor
op_word Min = word_min
op_word Max = word_max
op_word Lt = λ ty a b. if word_lt ty a b then 1 else 0
op_word Eq = λ ty a b. if word_eq ty a b then 1 else 0

abbrev pub shift_word : CellShift → Ty → ℕ → ℕ → ℕ
shift_word Shl = word_shl
shift_word Shr = word_shr

-- a channel moves a word in each cycle in which its READY is 1
abbrev pub ready_word : Phase → ℕ
ready_word idle = 0
ready_word (waiting k) = 0
ready_word (moving k) = 1

-- Whether a channel asks in this cycle, at these words of REQ and LAST: it is idle and asked for, or it moves
-- the 16th word since it last asked and that isn't the last.
abbrev pub asks : Phase → ℕ → ℕ → Bool
asks idle request last = request == 1
asks (waiting k) request last = false
asks (moving k) request last = (last == 0) && (k == 15)

-- a channel that asked waits for its delay
abbrev pub after_asking : ℕ → Phase
after_asking zero = moving 0
after_asking (suc k) = waiting k

-- the phase in the next cycle, where `delay` is what the channel takes if it asks
abbrev pub next_phase : Phase → ℕ → ℕ → ℕ → Phase
next_phase idle request last delay = if request == 1 then after_asking delay else idle
next_phase (waiting k) request last delay = after_asking k
next_phase (moving k) request last delay =
    if last == 0 then (if k == 15 then after_asking delay else moving (k + 1)) else idle

-- whether a cell is a unit whose channel asks in this cycle
abbrev pub cell_asks : Signals → ℕ → PlainCell → Bool
cell_asks s t (load_unit channel dram ready net request last addr) = asks (s.phase t channel) (s.net t request) (s.net t last)
cell_asks s t (store_unit channel dram ready request last addr word) = asks (s.phase t channel) (s.net t request) (s.net t last)
cell_asks s t cell = false

-- The delay that a unit after these cells takes if it asks: channels that ask in one cycle take entries in the
-- order of their numbers, which is that of their cells. Past the end of the list the delay is 0.
abbrev pub delay_of : Setting → Signals → ℕ → List PlainCell → ℕ
delay_of g s t before = slice_index g.delays (s.asked t + count_by (cell_asks s t) before)

-- a word of a bank after the taps of this cycle, at the nets' words; of several enabled taps the last one's stays
abbrev pub bank_after : List PlainCell → (ℕ → ℕ) → ℕ → ℕ → ℕ → ℕ
bank_after [] words bank addr old = old
bank_after (write_tap into enable at word ∷ cells) words bank addr old =
    bank_after cells words bank addr (if (into == bank) && ((words enable == 1) && (words at == addr)) then words word else old)
bank_after (cell ∷ cells) words bank addr old = bank_after cells words bank addr old

-- a word of a DRAM after the stores of this cycle; of several the highest channel's stays
abbrev pub dram_after : List PlainCell → (ℕ → ℕ) → ℕ → ℕ → ℕ → ℕ
dram_after [] words dram addr old = old
dram_after (store_unit channel into ready request last at word ∷ cells) words dram addr old =
    dram_after cells words dram addr (if (into == dram) && ((words ready == 1) && (words at == addr)) then words word else old)
dram_after (cell ∷ cells) words dram addr old = dram_after cells words dram addr old

-- the words that a DRAM is given
abbrev pub given_words : Setting → ℕ → List ℕ
given_words g dram = slice_index_or g.drams dram []

-- a register: its first word, and in each next cycle the word at `next` if it was enabled, else its own
abbrev pub Holds : (ℕ → ℕ) → ℕ → (ℕ → ℕ) → (ℕ → ℕ) → Type 0
Holds own first enable next = (own 0 ≡ first) × ((t : ℕ) → own (suc t) ≡ (if enable t == 1 then next t else own t))

-- a channel of a unit after these cells
pub record RunsChannel (g : Setting) (s : Signals) (before : List PlainCell) (channel ready request last : ℕ) : Type 0 where
  pub begins : s.phase 0 channel ≡ idle
  pub goes_on : (t : ℕ) → s.phase (suc t) channel ≡ next_phase (s.phase t channel) (s.net t request) (s.net t last) (delay_of g s t before)
  pub shows : (t : ℕ) → s.net t ready ≡ ready_word (s.phase t channel)

-- The equations of a cell that stands after these cells. A bank has 0 at each place past its end, and so has a
-- DRAM that is given as many words as it has, so a read there gives 0 and a write there does nothing.
abbrev pub Obeys : Setting → Signals → List PlainCell → PlainCell → Type 0
Obeys g s before (in_cell name net ty) = (t : ℕ) → s.net t net ≡ slice_index g.args (count_by is_in before)
Obeys g s before (out_cell name net ty) = Unit {0}
Obeys g s before (done_cell net) = Unit {0}
Obeys g s before (const_cell net width word) = (t : ℕ) → s.net t net ≡ word
Obeys g s before (op_cell net ty op a b) = (t : ℕ) → s.net t net ≡ op_word op ty (s.net t a) (s.net t b)
Obeys g s before (not_cell net ty a) = (t : ℕ) → s.net t net ≡ word_not ty (s.net t a)
Obeys g s before (shift_cell net ty side a places) = (t : ℕ) → s.net t net ≡ shift_word side ty (s.net t a) places
Obeys g s before (cast_cell net from to a) = (t : ℕ) → s.net t net ≡ word_cast from to (s.net t a)
Obeys g s before (mux_cell net width choice a b) = (t : ℕ) → s.net t net ≡ (if s.net t choice == 1 then s.net t a else s.net t b)
Obeys g s before (reg_cell net width first next enable) = Holds (λ t. s.net t net) first (λ t. s.net t enable) (λ t. s.net t next)
Obeys g s before (bank_cell bank width len) =
    ((addr : ℕ) → s.bank 0 bank addr ≡ 0)
    × ((t addr : ℕ) → s.bank (suc t) bank addr ≡ (if nat_lt addr len then bank_after g.cells (s.net t) bank addr (s.bank t bank addr) else 0))
Obeys g s before (read_tap net bank enable addr) = Holds (λ t. s.net t net) 0 (λ t. s.net t enable) (λ t. s.bank t bank (s.net t addr))
Obeys g s before (write_tap bank enable addr word) = Unit {0}
Obeys g s before (dram_cell dram name ty dims) =
    ((addr : ℕ) → s.dram 0 dram addr ≡ slice_index (given_words g dram) addr)
    × ((t addr : ℕ) → s.dram (suc t) dram addr ≡ (if nat_lt addr (word_count dims) then dram_after g.cells (s.net t) dram addr (s.dram t dram addr) else 0))
Obeys g s before (load_unit channel dram ready net request last addr) =
    RunsChannel g s before channel ready request last
    × Holds (λ t. s.net t net) 0 (λ t. s.net t ready) (λ t. s.dram t dram (s.net t addr))
Obeys g s before (store_unit channel dram ready request last addr word) = RunsChannel g s before channel ready request last

-- the signals are a run: each cell's equations hold, and askings are counted
pub record IsRun (g : Setting) (s : Signals) : Type 0 where
  pub cells : (before : List PlainCell) (cell : PlainCell) (after : List PlainCell) → g.cells ≡ before ++ cell ∷ after → Obeys g s before cell
  pub asked_first : s.asked 0 ≡ 0
  pub asked_next : (t : ℕ) → s.asked (suc t) ≡ s.asked t + count_by (cell_asks s t) g.cells
