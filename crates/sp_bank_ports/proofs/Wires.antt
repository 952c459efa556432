-- Nets that are to be driven, while others are.
use Rattle.std.proofs.Common.{ℕ, zero, suc, ◌<◌, false, List, [], ◌∷◌, Contains, arith}
use Rattle.std.proofs.lemmas.Option.{slice_get_within}
use Rattle.sp_netlist.specs.Draft.{Draft}
use Rattle.sp_gates.specs.Nets.{IsOpen}
use Rattle.sp_gates.specs.Grows.{Fills}
use Rattle.sp_taps.specs.Wires.{IsWire}
use Rattle.sp_taps.proofs.Promised.{wire_stays}

wire_open : (d : Draft) (net width : ℕ) → IsWire d net width → IsOpen d net
wire_open d net width h = record { within = slice_get_within d.promised net (width, false) h.promised; undriven = h.undriven }

pub wire_beside : (a b : Draft) (net width : ℕ) (nets : List ℕ) → Fills a b nets → (Contains nets net → ⊥) → IsWire a net width → IsWire b net width
wire_beside a b net width nets f out h = wire_stays a b net width f.grows (f.still_open net (wire_open a net width h) out) h

-- a net below another one is another one
pub not_below : (first net : ℕ) → first < net → Contains (first ∷ []) net → ⊥
not_below first net l (zero, below, same) = absurd (omega (arith, l, same))
not_below first net l (suc k, below, same) = absurd (omega (arith, below))

pub not_below_two : (first second net : ℕ) → first < net → second < net → Contains (first ∷ second ∷ []) net → ⊥
not_below_two first second net l m (zero, below, same) = absurd (omega (arith, l, same))
not_below_two first second net l m (suc zero, below, same) = absurd (omega (arith, m, same))
not_below_two first second net l m (suc (suc k), below, same) = absurd (omega (arith, below))

pub not_below_three : (first second third net : ℕ) → first < net → second < net → third < net → Contains (first ∷ second ∷ third ∷ []) net → ⊥
not_below_three first second third net l m n (zero, below, same) = absurd (omega (arith, l, same))
not_below_three first second third net l m n (suc k, below, same) = not_below_two second third net m n (k, omega (arith, below), same)
