-- The wires of counters, and when rows of them can be opened.
use Rattle.std.specs.Prelude.{ℕ, List, ◌++◌, map, All}
use Rattle.sp_netlist.specs.declared.parts.Wire.{Wire}
use Rattle.sp_netlist.specs.Draft.{Draft}
use Rattle.sp_netlist.specs.Rules.{IsWidth}
use Rattle.sp_gates.specs.Nets.{HasNet}
use Rattle.sp_counters.specs.declared.part.Counted.{Counted}
use Rattle.sp_counters.specs.declared.part.Counter.{Counter}
use Rattle.sp_counters.specs.Fits.{IsCounter}

-- a counter's value has 32 bits, and a mask one
abbrev pub value_wires : List Counter → List Wire
value_wires counters = map (λ (n : Counter). record { net = n.value; width = 32 }) counters

abbrev pub mask_wires : (masks : List ℕ) → List Wire
mask_wires masks = map (λ n. record { net = n; width = 1 }) masks

-- a wire is a net of the draft, of its width
pub record WireStands (d : Draft) (w : Wire) : Type 0 where
  pub net : HasNet d w.net w.width
  pub width : IsWidth w.width

-- the values and the masks of counters are nets of the draft
pub record CountedStand (d : Draft) (counted : Counted) : Type 0 where
  pub values : All (IsCounter d) counted.counters.items
  pub masks : All (λ net. HasNet d net 1) counted.masks.items

-- those of a loop: the values of its counters, and behind them the masks
abbrev pub counted_wires : Counted → List Wire
counted_wires counted = value_wires counted.counters.items ++ mask_wires counted.masks.items
