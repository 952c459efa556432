-- The words that go with the groups of a loop in beats: in each step those of a slot are taken by the next one.
use Rattle.std.specs.Prelude.{ℕ, List, [], ◌∷◌}
use Rattle.sp_netlist.specs.declared.parts.Wire.{Wire}
use Rattle.sp_netlist.specs.Signals.{Signals, Holds}
use Rattle.sp_beat_words.specs.declared.part.Row.{Row}

-- each wire of a row takes in a step the word of the wire before it, and is 0 before the first one
abbrev pub Takes : Signals → (step : ℕ) → (before wires : List Wire) → Type 0
Takes s step (w ∷ before) (v ∷ wires) = Holds (λ t. s.net t v.net) 0 (λ t. s.net t step) (λ t. s.net t w.net) × Takes s step before wires
Takes s step _ _ = Unit {0}

-- rows of wires, of which each is before the next one
abbrev pub MoveOn : Signals → (step : ℕ) → (before : List Wire) → List Row → Type 0
MoveOn s step before [] = Unit {0}
MoveOn s step before (row ∷ rows) = Takes s step before row.wires.items × MoveOn s step row.wires.items rows
