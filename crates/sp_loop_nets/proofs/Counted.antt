-- Counters of a loop as they stand, and their lanes.
use Rattle.std.proofs.Common.{◌≡◌, ℕ, zero, suc, ◌<◌, List, [], ◌∷◌, length, All, slice_index, refl, ap, ◌∙◌, arith}
use Rattle.sp_netlist.specs.declared.parts.Wire.{Wire}
use Rattle.sp_netlist.specs.Draft.{Draft}
use Rattle.sp_netlist.specs.Signals.{Signals}
use Rattle.sp_gates.specs.Grows.{Grows}
use Rattle.sp_gates.specs.Nets.{HasNet}
use Rattle.sp_gates.proofs.Growing.{HasNet-stays}
use Rattle.sp_core.specs.Around.{Near, lanes_of}
use Rattle.sp_core.specs.PlainCore.{PlainCounter}
use Rattle.sp_counters.specs.declared.part.Count.{Count}
use Rattle.sp_counters.specs.declared.part.Counters.{Counters}
use Rattle.sp_counters.specs.declared.part.Counted.{Counted}
use Rattle.sp_counters.specs.Counting as counting
use Rattle.sp_counters.specs.Fits.{AreCounted}
use Rattle.sp_beat_words.specs.declared.part.Row.{Row}
use Rattle.sp_beat_words.specs.Fits.{AreRows}
use Rattle.sp_beat_words.specs.Words.{MoveOn}
use Rattle.sp_node_runs.specs.BodiesRows.{wires_of}
use Rattle.sp_op_nets.specs.declared.acted.ActedList.{ActedList}
use Rattle.sp_op_nets.specs.declared.table.AroundNets.{AroundNets}
use Rattle.sp_op_nets.specs.Table.{StandAround}
use Rattle.sp_tree_circuits.specs.Circuits.{TakeWords}
use Rattle.sp_bound_nets.specs.Bounds.{AreBounds, AreCountersRight, own_pars, pars_of}
use Rattle.sp_loop_nets.specs.Fits.{CountedStand, counted_wires}
use Rattle.sp_loop_nets.specs.Open.{LanesFit}
use Rattle.sp_loop_nets.proofs.Promising.{rows_long, values_are}

-- what stands, stands later
pub around_later : (a b : Draft) (table : List AroundNets) (near : List Near) → Grows a b → StandAround a table near → StandAround b table near
around_later a b table near g h c lane has =
    let was = h c lane has in
    record { within = was.within; value = HasNet-stays a b _ _ g was.value; has = was.has; masks = λ i lt. HasNet-stays a b _ _ g (was.masks i lt) }

pub right_later : (a b : Draft) (table : List AroundNets) (counters : List PlainCounter) → Grows a b → AreCountersRight a table counters → AreCountersRight b table counters
right_later a b table counters g h = record { core = h.core; around = h.around; right = h.right; stand = around_later a b table h.around.counters g h.stand }

pub bounds_earlier : (a b c : Draft) (table : List AroundNets) (number : ℕ) (counters : List PlainCounter) (counts : List Count) (acted : List ActedList) → Grows a b → AreBounds b c table number counters counts acted → AreBounds a c table number counters counts acted
bounds_earlier a b c table number counters counts acted g h core plan around right stand = h core plan around right (around_later a b table around.counters g stand)

pub counted_later : (a b : Draft) (part : Counters) (nets : Counted) → Grows a b → AreCounted a part nets → AreCounted b part nets
counted_later a b part nets g h = record {
  values = λ k n lt. HasNet-stays a b _ _ g (h.values k n lt);
  lanes = h.lanes;
  masks = λ lane lt. HasNet-stays a b _ _ g (h.masks lane lt);
  more = HasNet-stays a b _ _ g h.more;
}

-- each mask is a net
masks_all : (d : Draft) (masks : List ℕ) → ((i : ℕ) → i < length masks → HasNet d (slice_index masks i) 1) → All (λ n. HasNet d n 1) masks
masks_all d [] h k x lt = absurd (omega (arith, lt))
masks_all d (m ∷ masks) h zero x lt = h 0 (omega arith)
masks_all d (m ∷ masks) h (suc k) x lt = masks_all d masks (λ i l. h (suc i) (omega (arith, l))) k x (omega (arith, lt))

pub counted_stands : (d : Draft) (part : Counters) (nets : Counted) → AreCounted d part nets → CountedStand d nets
counted_stands d part nets h = record { values = h.values; masks = masks_all d nets.masks.items (λ i lt. h.masks i (let e = h.lanes in omega (arith, e, lt))) }

-- lanes are those of the last counter
lanes_alike : (c : PlainCounter) (counters : List PlainCounter) (counts : List Count) → pars_of counts ≡ own_pars (c ∷ counters) → lanes_of (c ∷ counters) ≡ counting.lanes_of counts
lanes_alike c counters [] e = absurd (cc)
lanes_alike c [] (k ∷ []) e = cc
lanes_alike c [] (k ∷ l ∷ counts) e = absurd (cc)
lanes_alike c (d ∷ counters) (k ∷ []) e = absurd (cc)
lanes_alike c (d ∷ counters) (k ∷ l ∷ counts) e = lanes_alike d counters (l ∷ counts) (cc)

pub lanes_fit : (d : Draft) (counters : List PlainCounter) (part : Counters) (nets : Counted) → pars_of part.counters.items ≡ own_pars counters → AreCounted d part nets → LanesFit counters part nets
lanes_fit d [] part nets e h c k = absurd (let l = k.1 in omega (arith, l))
lanes_fit d (x ∷ counters) part nets e h c k = (let same = lanes_alike x counters part.counters.items e in (same, (let l = h.lanes in omega (arith, same, l))))

-- rows that move on take the words of the counters along
pub take_words : (d : Draft) (s : Signals) (part : Counters) (nets : Counted) (before : List Wire) (rows : List Row) (counters : List PlainCounter) → before ≡ counted_wires nets → LanesFit counters part nets → AreRows d before rows → MoveOn s part.step before rows
    → TakeWords s counters part nets before rows (length rows)
take_words d s part nets before rows [] wires lanes all moves = tt
take_words d s part nets before rows (c ∷ counters) wires lanes all moves =
    let fit = lanes c (0, omega arith, refl) in
    record { lanes = fit.0; masks = fit.1; first = ap wires_of wires ∙ values_are nets.counters.items nets.masks.items; moves = moves; long = rows_long d before rows all; each = refl }
