-- Wires that are to be driven while others are.
use Rattle.std.proofs.Common.{◌≡◌, ℕ, List, [], ◌∷◌, Contains, refl, sym, subst, arith}
use Rattle.std.proofs.lemmas.List.Elements.{Contains-append_right, Contains-append_left}
use Rattle.sp_netlist.specs.declared.parts.Wire.{Wire}
use Rattle.sp_netlist.specs.Draft.{Draft}
use Rattle.sp_netlist.specs.Rules.{IsWidth}
use Rattle.sp_netlist.specs.Signals.{Signals}
use Rattle.sp_gates.specs.Grows.{Fills}
use Rattle.sp_gates.specs.Nets.{HasNet, Awaits}
use Rattle.sp_gates.proofs.Growing.{HasNet-stays}
use Rattle.sp_sequence.specs.Fits.{AreApart}
use Rattle.sp_sequence.proofs.Waiting.{awaits_beside}
use Rattle.sp_beat_words.specs.declared.part.Row.{Row}
use Rattle.sp_beat_words.specs.Fits.{nets_of, row_nets, IsRow, no_wire, one_wire, AreRows, no_row, one_row}
use Rattle.sp_beat_words.specs.Words.{Takes}

in_front : (x : ℕ) (xs : List ℕ) → Contains (x ∷ xs) x
in_front x xs = (0, omega arith, refl)

pub takes_none : (s : Signals) (step : ℕ) (before : List Wire) → Takes s step before []
takes_none s step [] = tt
takes_none s step (w ∷ before) = tt

pub record RowParts (d : Draft) (w v : Wire) (before wires : List Wire) : Type 0 where
  pub from : HasNet d w.net v.width
  pub into : Awaits d v.net v.width
  pub wide : IsWidth v.width
  pub apart : Contains (nets_of wires) v.net → ⊥
  pub others : IsRow d before wires

pub row_parts : (d : Draft) (w v : Wire) (before wires : List Wire) → IsRow d (w ∷ before) (v ∷ wires) → RowParts d w v before wires
row_parts d w v before wires (one_wire f i k e a h) = record { from = subst (HasNet d w.net) (sym e) f; into = subst (Awaits d v.net) (sym e) i; wide = subst IsWidth (sym e) k; apart = a; others = h }

pub none_before : (d : Draft) (wires : List Wire) → IsRow d [] wires → wires ≡ []
none_before d _ no_wire = refl

pub row_kept : (a b : Draft) (nets : List ℕ) (before wires : List Wire) → Fills a b nets → AreApart nets (nets_of wires) → IsRow a before wires → IsRow b before wires
row_kept a b nets _ _ f out no_wire = no_wire
row_kept a b nets _ _ f out (one_wire {w = w} {v = v} {before = before} {wires = wires} h i k e p rest) =
    one_wire (HasNet-stays a b w.net w.width f.grows h) (awaits_beside a b v.net w.width nets f (λ c. out v.net c (in_front v.net (nets_of wires))) i) k e p
    (row_kept a b nets before wires f (λ net c d. out net c (Contains-append_right (v.net ∷ []) (nets_of wires) net d)) rest)

pub rows_kept : (a b : Draft) (nets : List ℕ) (before : List Wire) (rows : List Row) → Fills a b nets → AreApart nets (row_nets rows) → AreRows a before rows → AreRows b before rows
rows_kept a b nets before _ f out no_row = no_row
rows_kept a b nets before _ f out (one_row {row = row} {rows = rows} h p rest) =
    one_row (row_kept a b nets before row.wires.items f (λ net i j. out net i (Contains-append_left (nets_of row.wires.items) (row_nets rows) net j)) h) p
    (rows_kept a b nets row.wires.items rows f (λ net i j. out net i (Contains-append_right (nets_of row.wires.items) (row_nets rows) net j)) rest)

pub rows_parts : (d : Draft) (before : List Wire) (row : Row) (rows : List Row) → AreRows d before (row ∷ rows) → IsRow d before row.wires.items × AreApart (nets_of row.wires.items) (row_nets rows) × AreRows d row.wires.items rows
rows_parts d before row rows (one_row h p rest) = (h, p, rest)
