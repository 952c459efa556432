-- Where no unit stores among the cells of a frame.
use Rattle.std.proofs.Common.{◌≡◌, ℕ, false, List, [], ◌∷◌, ◌++◌, refl}
use Rattle.sp_words.specs.Ports.{PlainPort}
use Rattle.sp_netlist.specs.Cells.{PlainCell, done_cell, store_unit}
use Rattle.sp_netlist.specs.Parts.{NoCell}
use Rattle.sp_gates.specs.Grows.{is_no_gate}
use Rattle.sp_gates.proofs.Running.{none_joined}
use Rattle.sp_taps.specs.Stores.{is_no_bank_part}
use Rattle.sp_frames.specs.Framed.{front_cells, out_cells, is_store}
use Rattle.sp_frames.proofs.Framing.{no_other, front_fail, outs_fail}

-- no unit stores but those that are added as such
gate_no_store : (x : PlainCell) → is_no_gate x ≡ false → is_store x ≡ false
gate_no_store (store_unit channel dram ready request last addr word) e = absurd (cc)
gate_no_store x e = refl

bank_no_store : (x : PlainCell) → is_no_bank_part x ≡ false → is_store x ≡ false
bank_no_store (store_unit channel dram ready request last addr word) e = absurd (cc)
bank_no_store x e = refl

pub front_stores_none : (ports : List PlainPort) (nets : List ℕ) (drams : List PlainPort) → NoCell is_store (front_cells ports nets drams)
front_stores_none = front_fail is_store (λ name net ty. refl) (λ dram name ty dims. refl)

pub gates_store_none : (cells : List PlainCell) → NoCell is_no_gate cells → NoCell is_store cells
gates_store_none = no_other is_no_gate is_store gate_no_store

pub banks_store_none : (cells : List PlainCell) → NoCell is_no_bank_part cells → NoCell is_store cells
banks_store_none = no_other is_no_bank_part is_store bank_no_store

pub ends_store_none : (outs : List PlainPort) (out_nets : List ℕ) (done : ℕ) → NoCell is_store (out_cells outs out_nets ++ done_cell done ∷ [])
ends_store_none outs out_nets done = none_joined is_store (out_cells outs out_nets) (done_cell done ∷ []) (outs_fail is_store (λ name net ty. refl) outs out_nets) refl
