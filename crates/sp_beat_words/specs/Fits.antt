-- When the words and numbers of slots can be emitted.
use Rattle.std.specs.Prelude.{◌≡◌, ℕ, ◌≤◌, List, [], ◌∷◌, ◌++◌, Contains}
use Rattle.sp_netlist.specs.declared.parts.Wire.{Wire}
use Rattle.sp_netlist.specs.Draft.{Draft}
use Rattle.sp_netlist.specs.Rules.{IsWidth}
use Rattle.sp_gates.specs.Nets.{HasNet, Awaits}
use Rattle.sp_sequence.specs.Fits.{AreApart}
use Rattle.sp_beat_words.specs.declared.part.Row.{Row}
use Rattle.sp_beat_words.specs.declared.part.Turn.{Turn}

-- the nets that are driven
abbrev pub nets_of : List Wire → List ℕ
nets_of [] = []
nets_of (v ∷ wires) = v.net ∷ nets_of wires

abbrev pub row_nets : List Row → List ℕ
row_nets [] = []
row_nets (row ∷ rows) = nets_of row.wires.items ++ row_nets rows

-- the wires before a row stand, those of the row are to be driven, each with its own net, and both have the same widths
pub data IsRow (d : Draft) : (before wires : List Wire) → Type 0 where
  no_wire : IsRow d [] []
  one_wire : {w v : Wire} {before wires : List Wire} → HasNet d w.net w.width → Awaits d v.net w.width → IsWidth w.width → v.width ≡ w.width → (Contains (nets_of wires) v.net → ⊥) → IsRow d before wires → IsRow d (w ∷ before) (v ∷ wires)

pub data AreRows (d : Draft) : (before : List Wire) → List Row → Type 0 where
  no_row : {before : List Wire} → AreRows d before []
  one_row : {before : List Wire} {row : Row} {rows : List Row} → IsRow d before row.wires.items → AreApart (nets_of row.wires.items) (row_nets rows) → AreRows d row.wires.items rows → AreRows d before (row ∷ rows)

-- a net for the number of a copy is to be driven
pub record TurnFits (d : Draft) (turn : Turn) : Type 0 where
  pub first : HasNet d turn.first 1
  pub copies : 1 ≤ turn.copies
  pub net : Awaits d turn.net 32
