-- Laws of what a loop reserves, as statements.
use Rattle.std.specs.Prelude.{◌≡◌, ℕ, ◌⊎◌, List, [], ◌∷◌, length, Contains}
use Rattle.sp_netlist.specs.declared.parts.Wire.{Wire}
use Rattle.sp_netlist.specs.Draft.{Draft}
use Rattle.sp_netlist.specs.Signals.{Signals}
use Rattle.sp_gates.specs.Grows.{Fills}
use Rattle.sp_core.specs.PlainCore.{PlainCounter}
use Rattle.sp_counters.specs.declared.part.Counted.{Counted}
use Rattle.sp_counters.specs.declared.part.Counters.{Counters}
use Rattle.sp_beat_words.specs.declared.part.Row.{Row}
use Rattle.sp_beat_words.specs.Fits.{AreRows}
use Rattle.sp_beat_words.specs.Words.{MoveOn}
use Rattle.sp_op_nets.specs.Reserved.{Reserves}
use Rattle.sp_tree_circuits.specs.Circuits.{TakeWords}
use Rattle.sp_loop_nets.specs.Fits.{counted_wires}
use Rattle.sp_loop_nets.specs.Open.{LanesFit}

-- rows of promised wires still await what drives them, whatever is reserved behind them
abbrev pub RowsStay : Type 0
RowsStay = (first second : Draft) (before : List Wire) (rows : List Row) (nets : List ℕ) → Reserves first second nets → AreRows first before rows → AreRows second before rows

-- some of a list, in its order
pub data IsPart : (some all : List ℕ) → Type 0 where
  no_net : IsPart [] []
  kept : {n : ℕ} {some all : List ℕ} → IsPart some all → IsPart (n ∷ some) (n ∷ all)
  left_out : {n : ℕ} {some all : List ℕ} → IsPart some all → IsPart some (n ∷ all)

-- of reserved nets those are left, wherever they stand, that the part behind doesn't drive: it drives exactly the others
abbrev pub LeftAreReserved : Type 0
LeftAreReserved =
    (first second third : Draft) (nets driven left : List ℕ) → Reserves first second nets → Fills second third driven → IsPart left nets → ((n : ℕ) → Contains nets n → Contains driven n ⊎ Contains left n)
    → ((n : ℕ) → Contains driven n → Contains nets n) → ((n : ℕ) → Contains driven n → Contains left n → ⊥) → Reserves first third left

-- rows behind the wires of counters, which move on where the counters do, take the words of these along
abbrev pub RowsTakeWords : Type 0
RowsTakeWords =
    (d : Draft) (s : Signals) (part : Counters) (nets : Counted) (before : List Wire) (rows : List Row) (counters : List PlainCounter) → before ≡ counted_wires nets → LanesFit counters part nets → AreRows d before rows
    → MoveOn s part.step before rows → TakeWords s counters part nets before rows (length rows)
