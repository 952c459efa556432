-- Two small circuits, and what they do in every netlist that has them.
use Rattle.std.specs.Prelude.{◌≡◌, ℕ, suc, ◌+◌, ◌<◌, ◌≤◌, List, [], ◌∷◌, ◌++◌, ◌==◌, ◌&&◌, if◌then◌else◌, count_by}
use Rattle.sp_words.specs.declared.types.Ty.TheVariants.{Bit}
use Rattle.sp_netlist.specs.declared.cell.CellOp.TheVariants.{Add, And, Eq}
use Rattle.sp_netlist.specs.declared.cell.Port.{Port}
use Rattle.sp_netlist.specs.Cells.{PlainCell, const_cell, op_cell, not_cell, mux_cell, reg_cell, bank_cell, read_tap, write_tap}
use Rattle.sp_netlist.specs.Signals.{Setting, Signals, IsRun}
use Rattle.sp_netlist.specs.Cycle.{is_enabled_tap}
use Rattle.sp_netlist.specs.Parts.{names_bank, NoCell}
use Rattle.sp_netlist.specs.Examples.{int}

-- the nets of a counter
pub record Counter : Type 0 where
  pub start : ℕ
  pub one : ℕ
  pub zero : ℕ
  pub step : ℕ
  pub top : ℕ
  pub running : ℕ
  pub count : ℕ
  pub at_top : ℕ
  pub ends : ℕ
  pub stays : ℕ
  pub goes : ℕ
  pub next_running : ℕ
  pub more : ℕ
  pub next_count : ℕ
  pub done : ℕ

-- it counts from 0 to 3 once it is started, and then says that it is done
abbrev pub counter_cells : Counter → List PlainCell
counter_cells c =
    const_cell c.one 1 1 ∷ const_cell c.zero 32 0 ∷ const_cell c.step 32 1 ∷ const_cell c.top 32 3
    ∷ reg_cell c.running 1 0 c.next_running c.one ∷ reg_cell c.count 32 0 c.next_count c.one
    ∷ op_cell c.at_top int Eq c.count c.top ∷ op_cell c.ends Bit And c.running c.at_top
    ∷ not_cell c.stays Bit c.ends ∷ op_cell c.goes Bit And c.running c.stays
    ∷ mux_cell c.next_running 1 c.start c.one c.goes
    ∷ op_cell c.more int Add c.count c.step ∷ mux_cell c.next_count 32 c.start c.zero c.more
    ∷ reg_cell c.done 1 0 c.ends c.one ∷ []

-- Started in cycle t, and not again in the four cycles after it, it counts in those, is not done in the last
-- three of them, and is in the next.
pub record Counts (c : Counter) (s : Signals) (t : ℕ) : Type 0 where
  pub counts : (j : ℕ) → j < 4 → s.net (t + 1 + j) c.count ≡ j
  pub runs : (j : ℕ) → j < 4 → s.net (t + 1 + j) c.running ≡ 1
  pub stops : s.net (t + 5) c.running ≡ 0
  pub early : (j : ℕ) → j < 3 → s.net (t + 2 + j) c.done ≡ 0
  pub done : s.net (t + 5) c.done ≡ 1

abbrev pub CounterCounts : Type 0
CounterCounts =
    (c : Counter) (g : Setting) (s : Signals) (front rest : List PlainCell) → IsRun g s → g.cells ≡ front ++ counter_cells c ++ rest
    → (t : ℕ) → s.net t c.start ≡ 1 → ((j : ℕ) → j < 4 → s.net (t + 1 + j) c.start ≡ 0) → Counts c s t

-- the nets of a memory of four words with a port to write and two to read
pub record Memory : Type 0 where
  pub write : ℕ
  pub write_at : ℕ
  pub word : ℕ
  pub first_read : ℕ
  pub first_at : ℕ
  pub first : ℕ
  pub second_read : ℕ
  pub second_at : ℕ
  pub second : ℕ

-- it has two banks, and writes go to both
abbrev pub memory_cells : Memory → ℕ → List PlainCell
memory_cells m bank =
    bank_cell bank 8 4 ∷ bank_cell (suc bank) 8 4
    ∷ write_tap bank m.write m.write_at m.word ∷ write_tap (suc bank) m.write m.write_at m.word
    ∷ read_tap m.first bank m.first_read m.first_at ∷ read_tap m.second (suc bank) m.second_read m.second_at ∷ []

-- It is one memory: the banks are the same, writes change it, both reads read it, and no port has two taps.
pub record IsMemory (m : Memory) (bank : ℕ) (g : Setting) (s : Signals) : Type 0 where
  pub copies : (t addr : ℕ) → s.bank t (suc bank) addr ≡ s.bank t bank addr
  pub writes : (t addr : ℕ) → addr < 4 → s.bank (suc t) bank addr ≡ (if (s.net t m.write == 1) && (s.net t m.write_at == addr) then s.net t m.word else s.bank t bank addr)
  pub first : (t : ℕ) → s.net (suc t) m.first ≡ (if s.net t m.first_read == 1 then s.bank t bank (s.net t m.first_at) else s.net t m.first)
  pub second : (t : ℕ) → s.net (suc t) m.second ≡ (if s.net t m.second_read == 1 then s.bank t bank (s.net t m.second_at) else s.net t m.second)
  pub ports : (t : ℕ) (port : Port) → count_by (is_enabled_tap (s.net t) port bank) g.cells ≤ 1
  pub other_ports : (t : ℕ) (port : Port) → count_by (is_enabled_tap (s.net t) port (suc bank)) g.cells ≤ 1

abbrev pub MemoryIsOne : Type 0
MemoryIsOne =
    (m : Memory) (bank : ℕ) (g : Setting) (s : Signals) (front rest : List PlainCell) → IsRun g s → g.cells ≡ front ++ memory_cells m bank ++ rest
    → NoCell (names_bank bank) front → NoCell (names_bank bank) rest → NoCell (names_bank (suc bank)) front → NoCell (names_bank (suc bank)) rest
    → IsMemory m bank g s

-- the two together
pub record PartExamples : Type 0 where
  pub counter : CounterCounts
  pub memory : MemoryIsOne
