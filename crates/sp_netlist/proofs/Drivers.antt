-- Each net of a netlist has one driver, each bank, DRAM and channel one cell.
use Rattle.std.proofs.Common.{◌≡◌, ℕ, ◌+◌, ◌≤◌, List, true, IsTrue, map, refl, Contains, count_by, arith, subst, eq-eqb, eqb-true, le_trans}
use Rattle.std.proofs.lemmas.List.Elements.{All-contains}
use Rattle.std.proofs.lemmas.Bool.{false≢true}
use Rattle.sp_netlist.specs.Cells.{PlainCell, bank_cell, dram_cell, load_unit, store_unit}
use Rattle.sp_netlist.specs.Rules.{is_bank, is_dram, is_unit, drives, reads, driven_nets, read_nets, is_computed, Feeds, IsNetlist, IsRight}
use Rattle.sp_netlist.specs.Parts.{stands_for_bank, stands_for_dram, stands_for_channel}
use Rattle.sp_netlist.proofs.Splits.{Split, one_placed, any_count, any_contains, any_first, contains_split, contains_flat, piece, Piece, source, Source}
use Rattle.sp_netlist.proofs.Machine.{is_net, drives_net}

pub net_once : (cells : List PlainCell) → IsNetlist cells → (net : ℕ) → count_by (drives_net cells net) cells ≤ 1
net_once cells h net = le_trans (any_count (is_net net) (drives cells) cells) (h.driven_once net)

bank_placed : (cells b : List PlainCell) (n : ℕ) (x : PlainCell) → IsRight cells b x → stands_for_bank n x ≡ true → (is_bank x ≡ true) × (n ≡ 0 + count_by is_bank b)
bank_placed cells b n (bank_cell bank width len) r pass = (refl, omega (arith, eqb-true bank n pass, r.0))
bank_placed cells b n _ r pass = absurd (false≢true pass)

pub bank_once : (cells : List PlainCell) → IsNetlist cells → (n : ℕ) → count_by (stands_for_bank n) cells ≤ 1
bank_once cells h n = one_placed (stands_for_bank n) is_bank n 0 cells (λ b x a e. bank_placed cells b n x (h.right b x a e))

dram_placed : (cells b : List PlainCell) (n : ℕ) (x : PlainCell) → IsRight cells b x → stands_for_dram n x ≡ true → (is_dram x ≡ true) × (n ≡ 0 + count_by is_dram b)
dram_placed cells b n (dram_cell dram name ty dims) r pass = (refl, omega (arith, eqb-true dram n pass, r.0))
dram_placed cells b n _ r pass = absurd (false≢true pass)

pub dram_once : (cells : List PlainCell) → IsNetlist cells → (n : ℕ) → count_by (stands_for_dram n) cells ≤ 1
dram_once cells h n = one_placed (stands_for_dram n) is_dram n 0 cells (λ b x a e. dram_placed cells b n x (h.right b x a e))

pub channel_placed : (cells b : List PlainCell) (n : ℕ) (x : PlainCell) → IsRight cells b x → stands_for_channel n x ≡ true → (is_unit x ≡ true) × (n ≡ 0 + count_by is_unit b)
channel_placed cells b n (load_unit channel dram ready net request last addr) r pass = (refl, omega (arith, eqb-true channel n pass, r.0))
channel_placed cells b n (store_unit channel dram ready request last addr word) r pass = (refl, omega (arith, eqb-true channel n pass, r.0))
channel_placed cells b n _ r pass = absurd (false≢true pass)

pub channel_once : (cells : List PlainCell) → IsNetlist cells → (n : ℕ) → count_by (stands_for_channel n) cells ≤ 1
channel_once cells h n = one_placed (stands_for_channel n) is_unit n 0 cells (λ b x a e. channel_placed cells b n x (h.right b x a e))

-- the cell that drives a net
pub record Driver (cells : List PlainCell) (net : ℕ) : Type 0 where
  pub cell : PlainCell
  pub split : Split cells cell
  pub width : ℕ
  pub stands : Contains (drives cells cell) (net, width)

pub driver : (cells : List PlainCell) (net width : ℕ) → Contains (driven_nets cells) (net, width) → Driver cells net
driver cells net width h = go (piece (drives cells) cells (net, width) h)
  where
    go : Piece (drives cells) cells (net, width) → Driver cells net
    go p = record { cell = p.item; split = p.split; width = width; stands = p.holds }

pub driver_drives : (cells : List PlainCell) (net : ℕ) (d : Driver cells net) → drives_net cells net d.cell ≡ true
driver_drives cells net d = any_contains (is_net net) (drives cells d.cell) d.stands.0 (net, d.width) d.stands.1 d.stands.2 (eq-eqb net net refl)

-- what a cell drives is driven, and so is what it reads
pub drives_driven : (cells : List PlainCell) (cell : PlainCell) (net width : ℕ) → Split cells cell → Contains (drives cells cell) (net, width) → Contains (driven_nets cells) (net, width)
drives_driven cells cell net width s h = contains_flat (drives cells) cells cell (net, width) s h

pub reads_driven : (cells : List PlainCell) → IsNetlist cells → (cell : PlainCell) (net width : ℕ) → Split cells cell → Contains (reads cells cell) (net, width) → Contains (driven_nets cells) (net, width)
reads_driven cells h cell net width s k =
    All-contains (Contains (driven_nets cells)) (read_nets cells) (net, width) h.read_driven (contains_flat (reads cells) cells cell (net, width) s k)

pub operand_driver : (cells : List PlainCell) → IsNetlist cells → (cell : PlainCell) (net : ℕ) → Split cells cell → Contains (map (λ p. p.0) (reads cells cell)) net → Driver cells net
operand_driver cells h cell net s k = go (source (λ (p : ℕ × ℕ). p.0) (reads cells cell) net k.0 k.1 k.2)
  where
    go : Source (λ (p : ℕ × ℕ). p.0) (reads cells cell) net → Driver cells net
    go o = subst (Driver cells) o.gives (driver cells o.item.0 o.item.1 (reads_driven cells h cell o.item.0 o.item.1 s o.stands))

-- the operands of a computed net feed it
pub feeds : (cells : List PlainCell) (cell : PlainCell) (a net : ℕ) → Split cells cell → IsTrue (is_computed cell) → Contains (map (λ p. p.0) (reads cells cell)) a → drives_net cells net cell ≡ true → Feeds cells a net
feeds cells cell a net s c k d = (cell, contains_split cells s.before cell s.after s.is, c, k, any_first net (drives cells cell) d)
