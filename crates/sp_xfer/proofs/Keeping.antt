-- What is known of a slice that moves as the draft grows.
use Rattle.std.proofs.Common.{◌≡◌, ◌≢◌, ℕ, ◌<◌, ◌==◌, if◌then◌else◌, zero, suc, Bool, false, List, [], ◌∷◌, length, Contains, All, refl, sym, ◌∙◌, arith, true, ap, ap₂, subst, inl, option_map}
use Rattle.std.proofs.lemmas.List.Elements.{All-nil, All-cons, All-head, All-tail}
use Rattle.std.proofs.lemmas.Option.{slice_get_within}
use Rattle.sp_netlist.specs.Draft.{Draft, IsKept}
use Rattle.sp_netlist.specs.Signals.{Signals}
use Rattle.sp_gates.specs.Grows.{Grows, Fills, Opens}
use Rattle.sp_gates.specs.Nets.{HasNet, IsOpen, Awaits}
use Rattle.sp_gates.specs.Tested.{is_on}
use Rattle.sp_gates.proofs.Growing.{HasNet-stays}
use Rattle.sp_taps.specs.Wires.{IsWire}
use Rattle.sp_taps.proofs.Promised.{wire_stays}
use Rattle.sp_slices.specs.declared.part.Axis.{Axis}
use Rattle.sp_slices.specs.declared.part.Move.{Move}
use Rattle.sp_slices.specs.declared.part.Move.TheVariants.{One, Range}
use Rattle.sp_slices.specs.declared.part.Walk.{Walk}
use Rattle.sp_slices.specs.Fits.{IsAxis, IsWalk}
use Rattle.sp_slices.specs.Slices.{WalksSlice, offsets_of}
use Rattle.sp_slices.proofs.Standing.{moves_stay, counters_stay, axes_stay, as_many, one_move_each, counts_stay}
use Rattle.sp_xfer.specs.declared.part.Load.{Load}
use Rattle.sp_xfer.specs.declared.part.Moving.{Moving}
use Rattle.sp_xfer.specs.declared.part.Wires.{Wires}
use Rattle.sp_xfer.specs.Fits.{WiresFit, SliceFits, LoadFits, IsMoving, StoreFits}
use Rattle.sp_xfer.specs.Moving.{was, words_at, wires_of}
use Rattle.sp_xfer.specs.Ahead.{are_over, look_offsets, more_index, store_wires_of}
use Rattle.sp_xfer.specs.declared.part.Store.{Store}

-- a register that is driven so
pub was_on : (late next : ℕ → Bool) → late 0 ≡ false → ((t : ℕ) → late (suc t) ≡ next t) → (t : ℕ) → late t ≡ was next t
was_on late next e f zero = e
was_on late next e f (suc t) = f t

pub was_same : (f g : ℕ → Bool) → ((t : ℕ) → f t ≡ g t) → (t : ℕ) → was f t ≡ was g t
was_same f g e zero = refl
was_same f g e (suc t) = e t

none_in : (x : ℕ) → Contains [] x → ⊥
none_in x c = let l = c.1 in absurd (omega (arith, l))

one_in : (x y : ℕ) → Contains (x ∷ []) y → y ≡ x
one_in x y (zero, l, e) = sym e
one_in x y (suc k, l, e) = absurd (omega (arith, l))

pub wire_open : (d : Draft) (net width : ℕ) → IsWire d net width → IsOpen d net
wire_open d net width h = record { within = slice_get_within d.promised net (width, false) h.promised; undriven = h.undriven }

-- a net that is to be driven stays so where none is driven, or another
pub wire_kept : (a b : Draft) (net width : ℕ) → Fills a b [] → IsWire a net width → IsWire b net width
wire_kept a b net width f h = wire_stays a b net width f.grows (f.still_open net (wire_open a net width h) (none_in net)) h

pub wire_other : (a b : Draft) (other net width : ℕ) → Fills a b (other ∷ []) → other ≢ net → IsWire a net width → IsWire b net width
wire_other a b other net width f apart h = wire_stays a b net width f.grows (f.still_open net (wire_open a net width h) (λ c. apart (sym (one_in other net c)))) h

pub wires_kept : (a b : Draft) (w : Wires) → Fills a b [] → WiresFit a w → WiresFit b w
wires_kept a b w f h = record {
  start = HasNet-stays a b w.start 1 f.grows h.start;
  ready = HasNet-stays a b w.ready 1 f.grows h.ready;
  request = wire_kept a b w.request 1 f h.request;
  last = wire_kept a b w.last 1 f h.last;
  address = wire_kept a b w.address 32 f h.address;
  request_last = h.request_last;
  request_address = h.request_address;
  last_address = h.last_address;
}

pub slice_stays : (a b : Draft) (dims : List ℕ) (moves : List Move) → Grows a b → SliceFits a dims moves → SliceFits b dims moves
slice_stays a b dims moves g h = record { moves_fit = moves_stay a b moves g h.moves_fit; each = h.each }

pub walk_stays : (a b : Draft) (w : Walk) → Grows a b → IsWalk a w → IsWalk b w
walk_stays a b w g h = record {
  counts = counts_stay a b w.counters.counters.items g h.counts;
  values = counters_stay a b w.counted.counters.items g h.values;
  more = HasNet-stays a b w.counted.more 1 g h.more;
  axes = axes_stay a b w.axes.items g h.axes;
  last = HasNet-stays a b w.last 1 g h.last;
}

pub moving_stays : (a b : Draft) (m : Moving) → Grows a b → IsMoving a m → IsMoving b m
moving_stays a b m g h = record {
  walk = walk_stays a b m.walk g h.walk;
  asks = HasNet-stays a b m.asks 1 g h.asks;
  moved = HasNet-stays a b m.moved 1 g h.moved;
  done = HasNet-stays a b m.done 1 g h.done;
}

-- a slice has a counter for each dimension
pub counters_each : (s : Signals) (start step : ℕ) (moves : List Move) (w : Walk) → WalksSlice s start step moves w → length w.counted.counters.items ≡ length moves
counters_each s start step moves w h =
    sym (as_many s (is_on s w.counters.start) (is_on s w.counters.step) w.counters.counters.items w.counted.counters.items h.counts.each) ∙ one_move_each s moves w.counters.counters.items h.bounds

-- the nets of ranges have 32 bits
pub offsets_stand : (d : Draft) (moves : List Move) (axes : List Axis) → All (IsAxis d) axes → All (λ net. HasNet d net 32) (offsets_of moves axes)
offsets_stand d [] axes h = All-nil (λ net. HasNet d net 32)
offsets_stand d (m ∷ moves) [] h = All-nil (λ net. HasNet d net 32)
offsets_stand d (One i ∷ moves) (a ∷ axes) h = offsets_stand d moves axes (All-tail (IsAxis d) a axes h)
offsets_stand d (Range x y ∷ moves) (a ∷ axes) h = All-cons (λ net. HasNet d net 32) a.offset (offsets_of moves axes) (All-head (IsAxis d) a axes h).offset (offsets_stand d moves axes (All-tail (IsAxis d) a axes h))

pub nets_stay : (a b : Draft) (nets : List ℕ) → Grows a b → All (λ net. HasNet a net 32) nets → All (λ net. HasNet b net 32) nets
nets_stay a b nets g h = λ k d l. HasNet-stays a b _ 32 g (h k d l)

pub no_over : (s : Signals) (moves : List Move) (axes : List Axis) (t : ℕ) → moves ≡ [] → are_over s moves axes t ≡ true
no_over s moves axes t e = ap (λ ms. are_over s ms axes t) e

pub no_over_axes : (s : Signals) (moves : List Move) (axes : List Axis) (t : ℕ) → axes ≡ [] → are_over s moves axes t ≡ true
no_over_axes s [] axes t e = refl
no_over_axes s (m ∷ moves) axes t e = ap (λ xs. are_over s (m ∷ moves) xs t) e

pub no_looks : (s : Signals) (start : ℕ) (moves : List Move) (axes : List Axis) (t : ℕ) → moves ≡ [] → look_offsets s start moves axes t ≡ []
no_looks s start moves axes t e = ap (λ ms. look_offsets s start ms axes t) e

pub no_looks_axes : (s : Signals) (start : ℕ) (moves : List Move) (axes : List Axis) (t : ℕ) → axes ≡ [] → look_offsets s start moves axes t ≡ []
no_looks_axes s start [] axes t e = refl
no_looks_axes s start (m ∷ moves) axes t e = ap (λ xs. look_offsets s start (m ∷ moves) xs t) e

pub index_nets : (d : Draft) (m : Move) (net : ℕ) (nets : List ℕ) → HasNet d net 32 → All (λ n. HasNet d n 32) nets → All (λ n. HasNet d n 32) (more_index m net nets)
index_nets d (One i) net nets h hs = hs
index_nets d (Range x y) net nets h hs = All-cons (λ n. HasNet d n 32) net nets h hs

pub index_words : (s : Signals) (t : ℕ) (m : Move) (net w : ℕ) (nets ws : List ℕ) → s.net t net ≡ w → words_at s t nets ≡ ws → words_at s t (more_index m net nets) ≡ more_index m w ws
index_words s t (One i) net w nets ws e f = f
index_words s t (Range x y) net w nets ws e f = ap₂ (λ a b. a ∷ b) e f

pub wire_past : (a b : Draft) (w x y z net width : ℕ) → Fills a b (w ∷ x ∷ y ∷ z ∷ []) → w ≢ net → x ≢ net → y ≢ net → z ≢ net → IsWire a net width → IsWire b net width
wire_past a b w x y z net width f pw px py pz h = wire_stays a b net width f.grows (f.still_open net (wire_open a net width h) not_there) h
  where
    not_there : Contains (w ∷ x ∷ y ∷ z ∷ []) net → ⊥
    not_there (zero, l, e) = pw e
    not_there (suc zero, l, e) = px e
    not_there (suc (suc zero), l, e) = py e
    not_there (suc (suc (suc zero)), l, e) = pz e
    not_there (suc (suc (suc (suc k))), l, e) = absurd (omega (arith, l))

-- the word of a flag
pub flag_small : (b : Bool) → (if b then 1 else 0) < 2
flag_small true = omega arith
flag_small false = omega arith

pub flag_tells : (b : Bool) → ((if b then 1 else 0) == 1) ≡ b
flag_tells true = refl
flag_tells false = refl

-- a kept net that is to be driven stands
pub awaited_net : (d : Draft) (net width : ℕ) → Awaits d net width → HasNet d net width
awaited_net d net width h = record { wide = h.wide; ready = inl h.kept }

-- it isn't one that is computed
pub kept_apart : (d : Draft) (done net width : ℕ) → IsKept d done → IsWire d net width → done ≢ net
kept_apart d done net width k h e = let a = subst (IsKept d) e k in let b = ap (option_map (λ (p : ℕ × Bool). p.1)) h.promised in absurd (let f = sym b ∙ a in cc)

pub wires_beside : (a b : Draft) (done : ℕ) (w : Wires) → Fills a b (done ∷ []) → IsKept a done → WiresFit a w → WiresFit b w
wires_beside a b done w f k h = record {
  start = HasNet-stays a b w.start 1 f.grows h.start;
  ready = HasNet-stays a b w.ready 1 f.grows h.ready;
  request = wire_other a b done w.request 1 f (kept_apart a done w.request 1 k h.request) h.request;
  last = wire_other a b done w.last 1 f (kept_apart a done w.last 1 k h.last) h.last;
  address = wire_other a b done w.address 32 f (kept_apart a done w.address 32 k h.address) h.address;
  request_last = h.request_last;
  request_address = h.request_address;
  last_address = h.last_address;
}

-- where a net is promised, all others stay as they are
wire_on : (a b : Draft) (own net width : ℕ) → Opens a b own → IsWire a net width → IsWire b net width
wire_on a b own net width o h = wire_stays a b net width o.grows (o.still_open net (wire_open a net width h)) h

pub wires_on : (a b : Draft) (own : ℕ) (w : Wires) → Opens a b own → WiresFit a w → WiresFit b w
wires_on a b own w o h = record {
  start = HasNet-stays a b w.start 1 o.grows h.start;
  ready = HasNet-stays a b w.ready 1 o.grows h.ready;
  request = wire_on a b own w.request 1 o h.request;
  last = wire_on a b own w.last 1 o h.last;
  address = wire_on a b own w.address 32 o h.address;
  request_last = h.request_last;
  request_address = h.request_address;
  last_address = h.last_address;
}

pub load_fits_on : (a b : Draft) (own : ℕ) (part : Load) → Opens a b own → LoadFits a part → LoadFits b part
load_fits_on a b own part o h = record { wires = wires_on a b own (wires_of part) o h.wires; slice = slice_stays a b part.dims.items part.moves.items o.grows h.slice }

pub store_fits_on : (a b : Draft) (own : ℕ) (part : Store) → Opens a b own → StoreFits a part → StoreFits b part
store_fits_on a b own part o h = record {
  wires = wires_on a b own (store_wires_of part) o h.wires;
  slice = slice_stays a b part.dims.items part.moves.items o.grows h.slice;
  width = h.width;
  word_wire = wire_on a b own part.port.word part.width o h.word_wire;
  request_word = h.request_word;
  last_word = h.last_word;
  address_word = h.address_word;
  found = HasNet-stays a b part.found part.width o.grows h.found;
}
