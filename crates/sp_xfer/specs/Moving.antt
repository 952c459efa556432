-- How a slice moves: equations of nets over time, whatever the words of others.
use Rattle.std.specs.Prelude.{◌≡◌, ℕ, zero, suc, ◌<◌, ◌%◌, ◌^◌, Bool, false, ◌&&◌, ◌||◌, not, List, map}
use Rattle.sp_netlist.specs.Signals.{Signals}
use Rattle.sp_gates.specs.Tested.{is_on}
use Rattle.sp_core.specs.Elements.{row_major}
use Rattle.sp_slices.specs.declared.part.Walk.{Walk}
use Rattle.sp_slices.specs.declared.part.Move.{Move}
use Rattle.sp_slices.specs.Slices.{WalksSlice, all_ended, values_at, offsets_of}
use Rattle.sp_xfer.specs.declared.part.Load.{Load}
use Rattle.sp_xfer.specs.declared.part.Loaded.{Loaded}
use Rattle.sp_xfer.specs.declared.part.Moving.{Moving}
use Rattle.sp_xfer.specs.declared.part.Wires.{Wires}

-- what was so a cycle before
abbrev pub was : (ℕ → Bool) → (cycle : ℕ) → Bool
was wire zero = false
was wire (suc t) = wire t

-- a word moves in each cycle in which one stands and the channel is ready, and the last one where all indices are
abbrev pub moves_at : Signals → (ready : ℕ) → Walk → (cycle : ℕ) → Bool
moves_at s ready walk t = is_on s ready t && is_on s walk.counted.more t

abbrev pub ends_at : Signals → (ready : ℕ) → Walk → (cycle : ℕ) → Bool
ends_at s ready walk t = moves_at s ready walk t && all_ended s walk.counted.counters.items walk.axes.items t

-- A slice is asked for in the cycle after the start, where it has a word. It is done in the cycle after that in which its last
-- word moves, or, where it has none, in the second one after the start.
pub record MovesSlice (s : Signals) (wires : Wires) (dims : List ℕ) (moves : List Move) (m : Moving) : Type 0 where
  pub walks : WalksSlice s wires.start wires.ready moves m.walk
  pub request : (t : ℕ) → is_on s wires.request t ≡ (was (is_on s wires.start) t && is_on s m.walk.counted.more t)
  pub bit : (t : ℕ) → s.net t wires.last < 2
  pub last : (t : ℕ) → is_on s wires.last t ≡ all_ended s m.walk.counted.counters.items m.walk.axes.items t
  pub address : (t : ℕ) → s.net t wires.address ≡ row_major dims (values_at s m.walk.counted.counters.items t) % 2 ^ 32
  pub asks : (t : ℕ) → is_on s m.asks t ≡ (was (is_on s wires.start) t && is_on s m.walk.counted.more t)
  pub moved : (t : ℕ) → is_on s m.moved t ≡ moves_at s wires.ready m.walk t
  pub done : (t : ℕ) → is_on s m.done t ≡ was (λ u. ends_at s wires.ready m.walk u || (was (is_on s wires.start) u && not (is_on s m.walk.counted.more u))) t

-- the words of some nets
abbrev pub words_at : Signals → (cycle : ℕ) → List ℕ → List ℕ
words_at s t nets = map (s.net t) nets

-- the nets of a load's slice
abbrev pub wires_of : Load → Wires
wires_of part = record { start = part.start; ready = part.port.ready; request = part.port.request; last = part.port.last; address = part.port.address }

-- each word is written in the cycle after the one in which it moves, as far into each range as it stood
pub record RunsLoad (s : Signals) (part : Load) (nets : Loaded) : Type 0 where
  pub moves : MovesSlice s (wires_of part) part.dims.items part.moves.items nets.moving
  pub writes : (t : ℕ) → is_on s nets.write t ≡ was (moves_at s part.port.ready nets.moving.walk) t
  pub indices : (t : ℕ) → words_at s (suc t) nets.indices.items ≡ words_at s t (offsets_of part.moves.items nets.moving.walk.axes.items)
