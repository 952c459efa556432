-- The nets of banks that are to be driven.
use Rattle.std.proofs.Common.{◌≡◌, ℕ, zero, suc, ◌<◌, Bool, false, List, [], ◌∷◌, length, flat_map, Contains, option_map, slice_index_or, All, refl, sym, ap, subst, ◌∙◌, ◌⊎◌, inl, inr, arith}
use Rattle.std.proofs.lemmas.List.Elements.{All-tail, Contains-append_left, Contains-append_right, Contains-append_cases}
use Rattle.std.proofs.lemmas.List.Concat.{flat_map-append}
use Rattle.std.proofs.lemmas.Option.{slice_get_within}
use Rattle.sp_words.specs.Types.{width_of}
use Rattle.sp_netlist.specs.Draft.{Draft, IsKept, driver_count}
use Rattle.sp_gates.specs.Grows.{Grows}
use Rattle.sp_gates.specs.Nets.{HasNet, IsOpen}
use Rattle.sp_core.specs.Declarations.{mem}
use Rattle.sp_core.specs.PlainCore.{PlainCore}
use Rattle.sp_plan.specs.PlainPlan.{PlainPlan}
use Rattle.sp_taps.specs.declared.store.Store.{Store}
use Rattle.sp_taps.specs.Wires.{IsWire, AreWires, wires_of}
use Rattle.sp_taps.proofs.Promised.{wire_stays}
use Rattle.sp_taps.proofs.Rows.{stores_kept}
use Rattle.sp_memory_nets.specs.declared.array_array.Array.{Array}
use Rattle.sp_memory_nets.specs.ArrayBanks.{ArrayStands, ArraysStand, bank_at, stores_at, wires_at, stores_in, wires_in}

none_there : (x : ℕ) → Contains [] x → ⊥
none_there x c = let l = c.1 in omega (arith, l)

-- a net of a row of banks is one that is to be driven
abbrev pub IsSomeWire : Draft → ℕ → Type 0
IsSomeWire d net = (width : ℕ) × IsWire d net width

one_wire : (d : Draft) (width : ℕ) (store : Store) (net : ℕ) → AreWires d width store → Contains (wires_of store) net → IsSomeWire d net
one_wire d width store net w (zero, l, e) = (1, subst (λ n. IsWire d n 1) e w.write)
one_wire d width store net w (suc zero, l, e) = (32, subst (λ n. IsWire d n 32) e w.write_at)
one_wire d width store net w (suc (suc zero), l, e) = (width, subst (λ n. IsWire d n width) e w.word)
one_wire d width store net w (suc (suc (suc zero)), l, e) = (1, subst (λ n. IsWire d n 1) e w.read)
one_wire d width store net w (suc (suc (suc (suc zero))), l, e) = (32, subst (λ n. IsWire d n 32) e w.read_at)
one_wire d width store net w (suc (suc (suc (suc (suc k)))), l, e) = absurd (omega (arith, l))

pub some_wire : (d : Draft) (width : ℕ) (stores : List Store) (net : ℕ) → All (AreWires d width) stores → Contains (flat_map wires_of stores) net → IsSomeWire d net
some_wire d width [] net w c = absurd (none_there net c)
some_wire d width (store ∷ stores) net w c = elim (Contains-append_cases (wires_of store) (flat_map wires_of stores) net c) [
  | inl own ↦ one_wire d width store net (w 0 store (omega arith)) own
  | inr later ↦ some_wire d width stores net (All-tail (AreWires d width) store stores w) later
]

pub wire_within : (d : Draft) (net : ℕ) → IsSomeWire d net → net < length d.promised
wire_within d net (width, w) = slice_get_within d.promised net (width, false) w.promised

pub wire_open : (d : Draft) (net : ℕ) → IsSomeWire d net → IsOpen d net
wire_open d net (width, w) = record { within = wire_within d net (width, w); undriven = w.undriven }

-- an open net whose word stands is kept, and a net of a bank's ports isn't
pub not_answered : (d : Draft) (net width : ℕ) → IsSomeWire d net → HasNet d net width → ⊥
not_answered d net width (other, w) h = by_ready h.ready
  where
    by_ready : IsKept d net ⊎ (driver_count d.cells net ≡ 1) → ⊥
    by_ready (inl kept) = (let e = sym (ap (option_map (λ (p : ℕ × Bool). p.1)) w.promised) ∙ kept in absurd (cc))
    by_ready (inr driven) = (let u = w.undriven in omega (arith, driven, u))

-- each wire of a bank of a row is one of the row
wire_in : (stores : List Store) (k : ℕ) (d : Store) (net : ℕ) → k < length stores → Contains (wires_of (slice_index_or stores k d)) net → Contains (flat_map wires_of stores) net
wire_in [] k d net l c = absurd (omega (arith, l))
wire_in (store ∷ stores) zero d net l c = Contains-append_left (wires_of store) (flat_map wires_of stores) net c
wire_in (store ∷ stores) (suc k) d net l c = Contains-append_right (wires_of store) (flat_map wires_of stores) net (wire_in stores k d net (omega (arith, l)) c)

module _ (a b : Draft) (core : PlainCore) (plan : PlainPlan) (g : Grows a b) where
  -- banks that stand still do where the nets of their ports are open
  pub array_stays : (m bank : ℕ) (stores : List Store) → ((net : ℕ) → Contains (flat_map wires_of stores) net → IsOpen b net) → ArrayStands a core plan m bank stores → ArrayStands b core plan m bank stores
  array_stays m bank stores still h = record {
    few = h.few;
    numbers = h.numbers;
    each = h.each;
    rows = h.rows;
    wires = λ k d l.
        let was = h.wires k d l in
        let store = slice_index_or stores k d in
        let opened : (net : ℕ) → Contains (wires_of store) net → IsOpen b net = λ net c. still net (wire_in stores k d net l c) in
        record {
          write = wire_stays a b store.write 1 g (opened store.write (0, omega arith, refl)) was.write;
          write_at = wire_stays a b store.write_at 32 g (opened store.write_at (1, omega arith, refl)) was.write_at;
          word = wire_stays a b store.word (width_of (mem core m).ty) g (opened store.word (2, omega arith, refl)) was.word;
          read = wire_stays a b store.read 1 g (opened store.read (3, omega arith, refl)) was.read;
          read_at = wire_stays a b store.read_at 32 g (opened store.read_at (4, omega arith, refl)) was.read_at;
        };
    banks = stores_kept a b bank (width_of (mem core m).ty) _ stores g h.banks;
  }

-- the nets of all banks are those of each memory's
pub at_in : (arrays : List Array) (m net : ℕ) → Contains (wires_at arrays m) net → Contains (wires_in arrays) net
at_in [] m net c = absurd (none_there net c)
at_in (x ∷ xs) zero net c = subst (λ ns. Contains ns net) (sym (flat_map-append wires_of x.stores.items (stores_in xs))) (Contains-append_left (flat_map wires_of x.stores.items) (wires_in xs) net c)
at_in (x ∷ xs) (suc m) net c = subst (λ ns. Contains ns net) (sym (flat_map-append wires_of x.stores.items (stores_in xs))) (Contains-append_right (flat_map wires_of x.stores.items) (wires_in xs) net (at_in xs m net c))

pub in_at : (arrays : List Array) (net : ℕ) → Contains (wires_in arrays) net → (m : ℕ) × (m < length arrays) × Contains (wires_at arrays m) net
in_at [] net c = absurd (none_there net c)
in_at (x ∷ xs) net c = elim (Contains-append_cases (flat_map wires_of x.stores.items) (wires_in xs) net (subst (λ ns. Contains ns net) (flat_map-append wires_of x.stores.items (stores_in xs)) c)) [
  | inl own ↦ (zero, omega arith, own)
  | inr later ↦ let at = in_at xs net later in (suc at.0, (let l = at.1 in omega (arith, l)), at.2)
]

pub arrays_stay : (a b : Draft) (core : PlainCore) (plan : PlainPlan) (arrays : List Array) → Grows a b → ((net : ℕ) → Contains (wires_in arrays) net → IsOpen b net) → ArraysStand a core plan arrays → ArraysStand b core plan arrays
arrays_stay a b core plan arrays g still h = record {
  each = h.each;
  stand = λ m l. array_stays a b core plan g m (bank_at arrays m) (stores_at arrays m) (λ net c. still net (at_in arrays m net c)) (h.stand m l);
  apart = h.apart;
}

pub arrays_are_open : (d : Draft) (core : PlainCore) (plan : PlainPlan) (arrays : List Array) → ArraysStand d core plan arrays → (net : ℕ) → Contains (wires_in arrays) net → IsOpen d net
arrays_are_open d core plan arrays h net c =
    let at = in_at arrays net c in
    let within : at.0 < length core.mems = (let l = at.1 in let e = h.each in omega (arith, l, e)) in
    wire_open d net (some_wire d (width_of (mem core at.0).ty) (stores_at arrays at.0) net (h.stand at.0 within).wires at.2)
