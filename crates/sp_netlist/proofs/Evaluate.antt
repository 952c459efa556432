-- A netlist evaluated cycle by cycle over lists, and that every run goes so.
use Rattle.std.proofs.Common.{ℕ, zero, suc, ◌+◌, List, [], ◌∷◌, ◌++◌, Bool, cond, ◌==◌, ◌&&◌, if◌then◌else◌, map, get_or, slice_index, slice_index_or, count_by, Option, Some, None}
use Rattle.std.specs.List.{range_with_len, list_any, list_all}
use Rattle.sp_words.specs.Words.{word_not, word_cast}
use Rattle.sp_netlist.specs.Cells.{PlainCell, in_cell, const_cell, op_cell, not_cell, shift_cell, cast_cell, mux_cell, reg_cell, bank_cell, read_tap, dram_cell, load_unit, store_unit}
use Rattle.sp_words.specs.Interface.{word_count}
use Rattle.sp_netlist.specs.Rules.{is_in, driven_nets}
use Rattle.sp_netlist.specs.Signals.{Setting, Phase, idle, Signals, op_word, shift_word, ready_word, next_phase, cell_asks, delay_of, bank_after, dram_after}
use Rattle.sp_netlist.proofs.Collect.{collect}

-- what is kept, as lists: the words of the kept nets, of the banks and of the DRAMs, and the phases of the channels
pub record Known : Type 0 where
  pub nets : List (ℕ × ℕ)
  pub banks : List (List ℕ)
  pub drams : List (List ℕ)
  pub phases : List Phase
  pub asked : ℕ

-- whether a net's word is known, and that word
abbrev pub has : List (ℕ × ℕ) → ℕ → Bool
has words net = list_any (λ p. p.0 == net) words

abbrev pub word_of : List (ℕ × ℕ) → ℕ → ℕ
word_of [] net = 0
word_of (p ∷ ps) net = cond (p.0 == net) p.1 (word_of ps net)

-- the words with that of a cell's net, if those of its operands are known
abbrev pub with_cell : Setting → Known → List PlainCell → List (ℕ × ℕ) → PlainCell → List (ℕ × ℕ)
with_cell g k before words (in_cell name net ty) = (net, slice_index g.args (count_by is_in before)) ∷ words
with_cell g k before words (const_cell net width word) = (net, word) ∷ words
with_cell g k before words (op_cell net ty op a b) = cond (has words a && has words b) ((net, op_word op ty (word_of words a) (word_of words b)) ∷ words) words
with_cell g k before words (not_cell net ty a) = cond (has words a) ((net, word_not ty (word_of words a)) ∷ words) words
with_cell g k before words (shift_cell net ty side a places) = cond (has words a) ((net, shift_word side ty (word_of words a) places) ∷ words) words
with_cell g k before words (cast_cell net from to a) = cond (has words a) ((net, word_cast from to (word_of words a)) ∷ words) words
with_cell g k before words (mux_cell net width choice a b) =
    cond (has words choice && (has words a && has words b)) ((net, if word_of words choice == 1 then word_of words a else word_of words b) ∷ words) words
with_cell g k before words (load_unit channel dram ready net request last addr) = (ready, ready_word (get_or k.phases channel idle)) ∷ words
with_cell g k before words (store_unit channel dram ready request last addr word) = (ready, ready_word (get_or k.phases channel idle)) ∷ words
with_cell g k before words cell = words

abbrev pub with_cells : Setting → Known → List PlainCell → List (ℕ × ℕ) → List PlainCell → List (ℕ × ℕ)
with_cells g k before words [] = words
with_cells g k before words (x ∷ xs) = with_cells g k (before ++ x ∷ []) (with_cell g k before words x) xs

abbrev pub words_known : Setting → Known → List (ℕ × ℕ)
words_known g k = with_cells g k [] k.nets g.cells

-- every driven net's word is known
abbrev pub is_complete : List PlainCell → List (ℕ × ℕ) → Bool
is_complete cells words = list_all (λ p. has words p.0) (driven_nets cells)

-- a cycle as signals
abbrev pub plain : Known → List (ℕ × ℕ) → Signals
plain k words = record {
  net = λ t. word_of words;
  bank = λ t bank addr. slice_index (slice_index_or k.banks bank []) addr;
  dram = λ t dram addr. slice_index (slice_index_or k.drams dram []) addr;
  phase = λ t channel. get_or k.phases channel idle;
  asked = λ t. k.asked;
}

-- what the cells keep first
abbrev pub first_net : List PlainCell → PlainCell → Option (ℕ × ℕ)
first_net before (reg_cell net width first next enable) = Some (net, first)
first_net before (read_tap net bank enable addr) = Some (net, 0)
first_net before (load_unit channel dram ready net request last addr) = Some (net, 0)
first_net before cell = None

abbrev pub first_known : Setting → Known
first_known g = record { nets = collect first_net [] g.cells; banks = []; drams = g.drams; phases = []; asked = 0 }

-- and next
abbrev pub next_net : Signals → List PlainCell → PlainCell → Option (ℕ × ℕ)
next_net u before (reg_cell net width first next enable) = Some (net, if u.net 0 enable == 1 then u.net 0 next else u.net 0 net)
next_net u before (read_tap net bank enable addr) = Some (net, if u.net 0 enable == 1 then u.bank 0 bank (u.net 0 addr) else u.net 0 net)
next_net u before (load_unit channel dram ready net request last addr) = Some (net, if u.net 0 ready == 1 then u.dram 0 dram (u.net 0 addr) else u.net 0 net)
next_net u before cell = None

abbrev pub next_bank : Setting → Signals → List PlainCell → PlainCell → Option (List ℕ)
next_bank g u before (bank_cell bank width len) = Some (map (λ addr. bank_after g.cells (u.net 0) bank addr (u.bank 0 bank addr)) (range_with_len 0 len))
next_bank g u before cell = None

abbrev pub next_dram : Setting → Signals → List PlainCell → PlainCell → Option (List ℕ)
next_dram g u before (dram_cell dram name ty dims) = Some (map (λ addr. dram_after g.cells (u.net 0) dram addr (u.dram 0 dram addr)) (range_with_len 0 (word_count dims)))
next_dram g u before cell = None

abbrev pub next_of_channel : Setting → Signals → List PlainCell → PlainCell → Option Phase
next_of_channel g u before (load_unit channel dram ready net request last addr) = Some (next_phase (u.phase 0 channel) (u.net 0 request) (u.net 0 last) (delay_of g u 0 before))
next_of_channel g u before (store_unit channel dram ready request last addr word) = Some (next_phase (u.phase 0 channel) (u.net 0 request) (u.net 0 last) (delay_of g u 0 before))
next_of_channel g u before cell = None

abbrev pub next_known : Setting → Signals → Known
next_known g u = record {
  nets = collect (next_net u) [] g.cells;
  banks = collect (next_bank g u) [] g.cells;
  drams = collect (next_dram g u) [] g.cells;
  phases = collect (next_of_channel g u) [] g.cells;
  asked = u.asked 0 + count_by (cell_asks u 0) g.cells;
}

abbrev pub cycle : Setting → Known → Known
cycle g k = next_known g (plain k (words_known g k))

-- what is known after n cycles
unfoldable pub after : Setting → ℕ → Known → Known
after g zero k = k
after g (suc n) k = after g n (cycle g k)
