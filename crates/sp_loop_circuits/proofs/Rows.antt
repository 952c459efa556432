-- The nets for the lanes, in rows.
use Rattle.std.proofs.Common.{◌≡◌, ℕ, zero, suc, ◌<◌, refl, sym, ap, subst, ◌∙◌, List, [], ◌∷◌, ◌++◌, length, map, drop}
use Rattle.std.specs.Prelude.{slice_index, slice_index_or, All}
use Rattle.std.proofs.lemmas.List.Elements.{All-nil, All-cons, All-head, All-tail}
use Rattle.sp_netlist.specs.declared.parts.Wire.{Wire}
use Rattle.sp_netlist.specs.Draft.{Draft}
use Rattle.sp_gates.specs.Nets.{HasNet, Awaits}
use Rattle.sp_beats.proofs.Keeping.{awaited}
use Rattle.sp_counters.specs.declared.part.Counter.{Counter}
use Rattle.sp_beat_words.specs.declared.part.Row.{Row}
use Rattle.sp_beat_words.specs.Fits.{IsRow, no_wire, one_wire, AreRows, no_row, one_row}
use Rattle.sp_node_runs.specs.BodiesRows.{wires_of}
use Rattle.sp_loop_nets.specs.Fits.{value_wires, mask_wires}
use Rattle.sp_stage_members.specs.Circuits.{masks_in}
use Rattle.sp_stage_members.specs.Members.{masks_at}
use Rattle.sp_loop_circuits.specs.Laws.{MasksInRowsStand}

abbrev IsOne : Wire → Type 0
IsOne w = w.width ≡ 1

module _ (d : Draft) where
  abbrev Stands : ℕ → Type 0
  Stands net = HasNet d net 1

  record RowStands (n : ℕ) (wires : List Wire) : Type 0 where
    nets : All Stands (drop n (wires_of wires))
    ones : All IsOne (drop n wires)

  one_net : (w v : Wire) → Awaits d v.net w.width → w.width ≡ 1 → HasNet d v.net 1
  one_net w v a e = subst (λ k. HasNet d v.net k) e (awaited d v.net w.width a)

  row_stands : (n : ℕ) (before wires : List Wire) → IsRow d before wires → All IsOne (drop n before) → RowStands n wires
  row_stands zero _ _ no_wire h = record { nets = All-nil Stands; ones = All-nil IsOne }
  row_stands (suc n) _ _ no_wire h = record { nets = All-nil Stands; ones = All-nil IsOne }
  row_stands zero _ _ (one_wire {w = w} {v = v} {before = others} {wires = more} g a i e c r) h =
      let one = All-head IsOne w others h in
      let rest = row_stands zero others more r (All-tail IsOne w others h) in
      record { nets = All-cons Stands v.net (wires_of more) (one_net w v a one) rest.nets; ones = All-cons IsOne v more (e ∙ one) rest.ones }
  row_stands (suc n) _ _ (one_wire {w = w} {v = v} {before = others} {wires = more} g a i e c r) h = let rest = row_stands n others more r h in record { nets = rest.nets; ones = rest.ones }

  rows_stand : (n : ℕ) (before : List Wire) (rows : List Row) → AreRows d before rows → All IsOne (drop n before) → (x : ℕ) → All Stands (slice_index_or (map (λ (row : Row). drop n (wires_of row.wires.items)) rows) x [])
  rows_stand n before _ no_row h x = All-nil Stands
  rows_stand n before _ (one_row {row = row} {rows = others} r a more) h zero = (row_stands n before row.wires.items r h).nets
  rows_stand n before _ (one_row {row = row} {rows = others} r a more) h (suc x) = rows_stand n row.wires.items others more (row_stands n before row.wires.items r h).ones x

-- behind the values the masks have one bit each
behind_values : (counters : List Counter) (wires : List Wire) → drop (length counters) (value_wires counters ++ wires) ≡ wires
behind_values [] wires = refl
behind_values (n ∷ counters) wires = behind_values counters wires

all_ones : (masks : List ℕ) → All IsOne (mask_wires masks)
all_ones [] = All-nil IsOne
all_ones (n ∷ masks) = All-cons IsOne (record { net = n; width = 1 }) (mask_wires masks) refl (all_ones masks)

pub masks_stand : MasksInRowsStand
masks_stand d nets before rows a e r = by
  where
    ones : All IsOne (drop (length nets.counters.items) before)
    ones = subst (All IsOne) (sym (ap (drop (length nets.counters.items)) e ∙ behind_values nets.counters.items (mask_wires nets.masks.items))) (all_ones nets.masks.items)

    by : (x i : ℕ) → i < length (masks_at (masks_in nets rows) x) → HasNet d (slice_index (masks_at (masks_in nets rows) x) i) 1
    by zero i l = a i l
    by (suc x) i l = rows_stand d (length nets.counters.items) before rows r ones x i 0 l
