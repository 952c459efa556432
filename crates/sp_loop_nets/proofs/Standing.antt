-- The nets of a row as those of counters.
use Rattle.std.proofs.Common.{◌≡◌, ℕ, zero, suc, ◌<◌, ◌≤◌, inl, List, [], ◌∷◌, ◌++◌, length, take, drop, All, slice_index, slice_index_or, sym, ap, subst, ◌∙◌, arith}
use Rattle.sp_netlist.specs.declared.parts.Wire.{Wire}
use Rattle.sp_netlist.specs.Draft.{Draft}
use Rattle.sp_gates.specs.Nets.{HasNet, Awaits}
use Rattle.sp_core.specs.Around.{Near}
use Rattle.sp_core.specs.PlainCore.{PlainCounter}
use Rattle.sp_counters.specs.declared.part.Counter.{Counter}
use Rattle.sp_counters.specs.declared.part.Counted.{Counted}
use Rattle.sp_beat_words.specs.declared.part.Row.{Row}
use Rattle.sp_beat_words.specs.Fits.{IsRow, no_wire, one_wire, AreRows, no_row, one_row}
use Rattle.sp_part_runs.specs.WordsLaws.{AreAsLong}
use Rattle.sp_node_runs.specs.BodiesGiven.{with_nets}
use Rattle.sp_node_runs.specs.BodiesLaws.{own_near}
use Rattle.sp_node_runs.specs.BodiesRows.{wires_of}
use Rattle.sp_op_nets.specs.declared.table.AroundNets.{AroundNets}
use Rattle.sp_op_nets.specs.Table.{nets_at, StandAround}
use Rattle.sp_tree_circuits.specs.Circuits.{row_nets, slot_nets}
use Rattle.sp_around_tables.specs.Inside.{IsInside, StandInside}
use Rattle.sp_loop_nets.specs.Fits.{value_wires, mask_wires, counted_wires}
use Rattle.sp_loop_nets.proofs.Promising.{row_long}

-- a promised net stands
awaits_stands : (d : Draft) (net width : ℕ) → Awaits d net width → HasNet d net width
awaits_stands d net width h = record { wide = h.wide; ready = inl h.kept }

-- a row behind another one is one behind what is before that
row_over : (d : Draft) (a b c : List Wire) → IsRow d a b → IsRow d b c → IsRow d a c
row_over d _ _ _ no_wire no_wire = no_wire
row_over d _ _ _ (one_wire {w = w} {v = v} {before = before} {wires = wires} h i k e p rest) (one_wire {v = x} {wires = others} g j l f q more) =
    one_wire h (subst (Awaits d x.net) e j) k (f ∙ e) q (row_over d before wires others rest more)

pub row_at : (d : Draft) (before : List Wire) (rows : List Row) (x : ℕ) (row : Row) → AreRows d before rows → x < length rows → row ≡ slice_index_or rows x row → IsRow d before row.wires.items
row_at d before _ x row no_row lt is = absurd (omega (arith, lt))
row_at d before _ zero row (one_row {row = r} {rows = rows} h p rest) lt is = subst (λ (y : Row). IsRow d before y.wires.items) (sym is) h
row_at d before _ (suc x) row (one_row {row = r} {rows = rows} h p rest) lt is = row_over d before r.wires.items row.wires.items h (row_at d r.wires.items rows x row rest (omega (arith, lt)) is)

pub nets_at_slot : (rows : List Row) (x : ℕ) (row : Row) → x < length rows → row ≡ slice_index_or rows x row → row_nets rows x ≡ wires_of row.wires.items
nets_at_slot [] x row lt is = absurd (omega (arith, lt))
nets_at_slot (r ∷ rows) zero row lt is = ap (λ (y : Row). wires_of y.wires.items) (sym is)
nets_at_slot (r ∷ rows) (suc x) row lt is = nets_at_slot rows x row (omega (arith, lt)) is

pub long_at : (count : ℕ) (rows : List Row) (x : ℕ) (row : Row) → AreAsLong count rows → x < length rows → row ≡ slice_index_or rows x row → length row.wires.items ≡ count
long_at count [] x row h lt is = absurd (omega (arith, lt))
long_at count (r ∷ rows) zero row h lt is = ap (λ (y : Row). length y.wires.items) is ∙ h.0
long_at count (r ∷ rows) (suc x) row h lt is = long_at count rows x row h.1 (omega (arith, lt)) is

pub counters_fit : (counters : List Counter) (masks : List ℕ) → length counters ≤ length (value_wires counters ++ mask_wires masks)
counters_fit [] masks = omega arith
counters_fit (c ∷ counters) masks = (let h = counters_fit counters masks in omega (arith, h))

no_such : (d : Draft) (w : Wire) (before : List Wire) → IsRow d (w ∷ before) [] → ⊥
no_such d w before h = (let l = row_long d (w ∷ before) [] h in absurd (omega (arith, l)))

-- its first nets are those of values
pub values_in_row : (d : Draft) (counters : List Counter) (masks : List ℕ) (wires : List Wire) → IsRow d (value_wires counters ++ mask_wires masks) wires → All (λ v. HasNet d v 32) (take (length counters) (wires_of wires))
values_in_row d [] masks wires h k n lt = absurd (omega (arith, lt))
values_in_row d (c ∷ counters) masks [] h k n lt = absurd (no_such d _ _ h)
values_in_row d (c ∷ counters) masks (v ∷ wires) (one_wire f i w e p rest) zero n lt = awaits_stands d v.net 32 i
values_in_row d (c ∷ counters) masks (v ∷ wires) (one_wire f i w e p rest) (suc k) n lt = values_in_row d counters masks wires rest k n (omega (arith, lt))

-- and those behind them of masks
pub masks_in_row : (d : Draft) (counters : List Counter) (masks : List ℕ) (wires : List Wire) → IsRow d (value_wires counters ++ mask_wires masks) wires → (i : ℕ) → i < length (drop (length counters) (wires_of wires))
    → HasNet d (slice_index (drop (length counters) (wires_of wires)) i) 1
masks_in_row d (c ∷ counters) masks [] h k lt = absurd (no_such d _ _ h)
masks_in_row d (c ∷ counters) masks (v ∷ wires) (one_wire f i w e p rest) k lt = masks_in_row d counters masks wires rest k lt
masks_in_row d [] masks [] h k lt = absurd (omega (arith, lt))
masks_in_row d [] [] (v ∷ wires) h k lt = (let l = row_long d [] (v ∷ wires) h in absurd (omega (arith, l)))
masks_in_row d [] (m ∷ masks) (v ∷ wires) (one_wire f i w e p rest) zero lt = awaits_stands d v.net 1 i
masks_in_row d [] (m ∷ masks) (v ∷ wires) (one_wire f i w e p rest) (suc k) lt = masks_in_row d [] masks wires rest k (omega (arith, lt))

-- the table of a slot
module _ (inside : StandInside) (d : Draft) (near : List Near) (counters : List PlainCounter) (around table : List AroundNets) (counted : Counted) (rows : List Row) (x : ℕ) (row : Row) (values masks : List ℕ) (lt : x < length rows) (at : row ≡ slice_index_or rows x row)
    (v : values ≡ take (length counted.counters.items) (wires_of row.wires.items)) (m : masks ≡ drop (length counted.counters.items) (wires_of row.wires.items)) (is : IsInside counters around values masks table) where
  pub table_stands : StandAround d around near → AreRows d (counted_wires counted) rows → StandAround d table (own_near counters near)
  table_stands stand all =
      let here = row_at d (counted_wires counted) rows x row all lt at in
      inside d near counters around table values masks is stand (subst (All (λ n. HasNet d n 32)) (sym v) (values_in_row d counted.counters.items counted.masks.items row.wires.items here))
      (subst (λ ns. (i : ℕ) → i < length ns → HasNet d (slice_index ns i) 1) (sym m) (masks_in_row d counted.counters.items counted.masks.items row.wires.items here))
      is.lanes

module _ (counters : List PlainCounter) (around table : List AroundNets) (counted : Counted) (rows : List Row) (x : ℕ) (row : Row) (values masks : List ℕ) (lt : x < length rows) (at : row ≡ slice_index_or rows x row)
    (v : values ≡ take (length counted.counters.items) (wires_of row.wires.items)) (m : masks ≡ drop (length counted.counters.items) (wires_of row.wires.items)) (is : IsInside counters around values masks table) where
  pub table_nets : (number : ℕ) → nets_at table number ≡ slot_nets counted rows (nets_at around) counters x number
  table_nets number =
      let e = nets_at_slot rows x row lt at in
      is.nets number ∙ ap (λ ns. with_nets (nets_at around) counters ns masks number) (v ∙ ap (take (length counted.counters.items)) (sym e))
      ∙ ap (λ ns. with_nets (nets_at around) counters (take (length counted.counters.items) (row_nets rows x)) ns number) (m ∙ ap (drop (length counted.counters.items)) (sym e))
