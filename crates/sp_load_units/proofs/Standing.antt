-- The nets of units, and units in later drafts.
use Rattle.std.proofs.Common.{◌≡◌, ℕ, zero, suc, ◌<◌, false, length, List, [], ◌∷◌, Contains, refl, sym, subst, inl, inr, arith}
use Rattle.std.proofs.lemmas.List.Elements.{Contains-append_right, Contains-append_left, Contains-append_cases}
use Rattle.std.proofs.lemmas.Option.{slice_get_within}
use Rattle.std.specs.List.{AllZip}
use Rattle.sp_words.specs.Types.{width_of}
use Rattle.sp_netlist.specs.Draft.{Draft}
use Rattle.sp_gates.specs.Grows.{Grows, Opens}
use Rattle.sp_gates.specs.Nets.{HasNet, IsOpen, Awaits}
use Rattle.sp_gates.proofs.Growing.{HasNet-stays, Awaits-stays}
use Rattle.sp_taps.specs.Wires.{IsWire, Promises}
use Rattle.sp_taps.proofs.Promised.{wire_stays}
use Rattle.sp_taps.proofs.Rows.{promises_join}
use Rattle.sp_channels.proofs.Standing.{load_stays}
use Rattle.sp_channels.proofs.StoreStanding.{store_stays}
use Rattle.sp_core.specs.Declarations.{dram}
use Rattle.sp_core.specs.PlainCore.{PlainCore}
use Rattle.sp_op_nets.proofs.Reserving.{awaits_open}
use Rattle.sp_tree_handed.specs.declared.transfers.CoreTransfer.{CoreTransfer}
use Rattle.sp_load_units.specs.declared.unit.TransferUnit.{TransferUnit}
use Rattle.sp_load_units.specs.declared.unit.UnitPort.{UnitPort}
use Rattle.sp_load_units.specs.declared.unit.UnitPort.TheVariants.{Loads, Stores}
use Rattle.sp_load_units.specs.Ports.{PortRuns, PortWires, direction_of, port_wires}
use Rattle.sp_load_units.specs.Units.{unit_wires, unit_wires_in, IsTransferOf, UnitStands}
use Rattle.sp_load_units.specs.Walks.{UnitStandsAlone}

pub none_in : (x : ℕ) → Contains [] x → ⊥
none_in x c = let l = c.1 in absurd (omega (arith, l))

one_in : (x y : ℕ) → Contains (x ∷ []) y → y ≡ x
one_in x y (zero, l, e) = sym e
one_in x y (suc k, l, e) = absurd (omega (arith, l))

wire_open : (d : Draft) (net width : ℕ) → IsWire d net width → IsOpen d net
wire_open d net width h = record { within = slice_get_within d.promised net (width, false) h.promised; undriven = h.undriven }

-- the nets of a port that are to be driven are open
port_is_open : (d : Draft) (width : ℕ) (port : UnitPort) → PortWires d width port → (net : ℕ) → Contains (port_wires port) net → IsOpen d net
port_is_open d width (Loads p) h net (zero, l, e) = subst (IsOpen d) e (wire_open d p.request 1 h.request)
port_is_open d width (Loads p) h net (suc zero, l, e) = subst (IsOpen d) e (wire_open d p.last 1 h.last)
port_is_open d width (Loads p) h net (suc (suc zero), l, e) = subst (IsOpen d) e (wire_open d p.address 32 h.address)
port_is_open d width (Loads p) h net (suc (suc (suc k)), l, e) = absurd (omega (arith, l))
port_is_open d width (Stores p) h net (zero, l, e) = subst (IsOpen d) e (wire_open d p.request 1 h.request)
port_is_open d width (Stores p) h net (suc zero, l, e) = subst (IsOpen d) e (wire_open d p.last 1 h.last)
port_is_open d width (Stores p) h net (suc (suc zero), l, e) = subst (IsOpen d) e (wire_open d p.address 32 h.address)
port_is_open d width (Stores p) h net (suc (suc (suc zero)), l, e) = subst (IsOpen d) e (wire_open d p.word width h.word)
port_is_open d width (Stores p) h net (suc (suc (suc (suc k))), l, e) = absurd (omega (arith, l))

-- and so are those of a unit
pub unit_is_open : (d : Draft) (core : PlainCore) (transfer : CoreTransfer) (unit : TransferUnit) → UnitStands d core transfer unit → (net : ℕ) → Contains (unit_wires unit) net → IsOpen d net
unit_is_open d core transfer unit h net c = elim (Contains-append_cases (port_wires unit.port) (unit.done ∷ []) net c) [
  | inl own ↦ port_is_open d (width_of (dram core transfer.dram).ty) unit.port h.wires net own
  | inr last ↦ subst (IsOpen d) (sym (one_in unit.done net last)) (awaits_open d unit.done 1 h.awaits)
]

-- the nets of a port that was added are below what is promised
pub ports_below : (d : Draft) (width : ℕ) (port : UnitPort) → PortWires d width port → (net : ℕ) → Contains (port_wires port) net → net < length d.promised
ports_below d width port h net c = (port_is_open d width port h net c).within

module _ (a b : Draft) (g : Grows a b) where
  wires_stay : (width : ℕ) (port : UnitPort) → ((net : ℕ) → Contains (port_wires port) net → IsOpen b net) → PortWires a width port → PortWires b width port
  wires_stay width (Loads p) still h = record {
    request = wire_stays a b p.request 1 g (still p.request (0, omega arith, refl)) h.request;
    last = wire_stays a b p.last 1 g (still p.last (1, omega arith, refl)) h.last;
    address = wire_stays a b p.address 32 g (still p.address (2, omega arith, refl)) h.address;
  }
  wires_stay width (Stores p) still h = record {
    request = wire_stays a b p.request 1 g (still p.request (0, omega arith, refl)) h.request;
    last = wire_stays a b p.last 1 g (still p.last (1, omega arith, refl)) h.last;
    address = wire_stays a b p.address 32 g (still p.address (2, omega arith, refl)) h.address;
    word = wire_stays a b p.word width g (still p.word (3, omega arith, refl)) h.word;
  }

  port_stays : (channel r width : ℕ) (port : UnitPort) → PortRuns a channel r width port → PortRuns b channel r width port
  port_stays channel r width (Loads p) h = load_stays a b channel r width p g h
  port_stays channel r width (Stores p) h = store_stays a b channel r p g h

module _ (a b : Draft) (core : PlainCore) (g : Grows a b) where
  -- a unit that stands still does where these nets are open
  pub unit_stays : (transfer : CoreTransfer) (unit : TransferUnit) → ((net : ℕ) → Contains (unit_wires unit) net → IsOpen b net) → UnitStands a core transfer unit → UnitStands b core transfer unit
  unit_stays transfer unit still h = record {
    transfer_is = h.transfer_is;
    way = h.way;
    of_core = h.of_core;
    channel = h.channel;
    runs = port_stays a b g h.channel transfer.dram (width_of (dram core transfer.dram).ty) unit.port h.runs;
    wires = wires_stay a b g (width_of (dram core transfer.dram).ty) unit.port (λ net c. still net (Contains-append_left (port_wires unit.port) (unit.done ∷ []) net c)) h.wires;
    awaits = Awaits-stays a b unit.done 1 g (still unit.done (Contains-append_right (port_wires unit.port) (unit.done ∷ []) unit.done (0, omega arith, refl))) h.awaits;
    done = HasNet-stays a b unit.done 1 g h.done;
  }

  pub all_stay : (transfers : List CoreTransfer) (units : List TransferUnit) → ((net : ℕ) → Contains (unit_wires_in units) net → IsOpen b net) → AllZip (UnitStands a core) transfers units → AllZip (UnitStands b core) transfers units
  all_stay [] [] still h = tt
  all_stay [] (unit ∷ units) still h = absurd h
  all_stay (transfer ∷ transfers) [] still h = absurd h
  all_stay (transfer ∷ transfers) (unit ∷ units) still h = (
    unit_stays transfer unit (λ net c. still net (Contains-append_left (unit_wires unit) (unit_wires_in units) net c)) h.0,
    all_stay transfers units (λ net c. still net (Contains-append_right (unit_wires unit) (unit_wires_in units) net c)) h.1,
  )

pub all_open : (d : Draft) (core : PlainCore) (transfers : List CoreTransfer) (units : List TransferUnit) → AllZip (UnitStands d core) transfers units → (net : ℕ) → Contains (unit_wires_in units) net → IsOpen d net
all_open d core [] [] h net c = absurd (none_in net c)
all_open d core [] (unit ∷ units) h net c = absurd h
all_open d core (transfer ∷ transfers) [] h net c = absurd h
all_open d core (transfer ∷ transfers) (unit ∷ units) h net c = elim (Contains-append_cases (unit_wires unit) (unit_wires_in units) net c) [
  | inl own ↦ unit_is_open d core transfer unit h.0 net own
  | inr later ↦ all_open d core transfers units h.1 net later
]

-- one net more was promised
end_promised : (a b : Draft) (net : ℕ) → Opens a b net → Awaits b net 1 → Promises a b (net ∷ [])
end_promised a b net o w = record {
  grows = o.grows;
  longer = (let e = o.fresh in let l = (awaits_open b net 1 w).within in omega (arith, e, l));
  fresh = λ n c. (let e = o.fresh in let same = one_in net n c in omega (arith, e, same));
  still_open = o.still_open;
  no_other = λ n is out. o.no_other n is (λ e. out (0, omega arith, sym e));
}

-- a unit that was added, and behind it the net by which its transfer is done
module _ (mid new : Draft) (unit : TransferUnit) (o : Opens mid new unit.done) (w : Awaits new unit.done 1) where
  pub one_promised : (old : Draft) → Promises old mid (port_wires unit.port) → Promises old new (unit_wires unit)
  one_promised old p = promises_join old mid new (port_wires unit.port) (unit.done ∷ []) p (end_promised mid new unit.done o w)

  pub one_stands : (core : PlainCore) (channel width : ℕ) → width ≡ width_of (dram core unit.transfer.dram).ty → direction_of unit.port ≡ unit.transfer.direction → IsTransferOf core unit.transfer → PortRuns mid channel unit.transfer.dram width unit.port → PortWires mid width unit.port
      → HasNet new unit.done 1 → UnitStandsAlone new core unit
  one_stands core channel width same way of_core runs wires has = record {
    transfer_is = refl;
    way = way;
    of_core = of_core;
    channel = channel;
    runs = port_stays mid new o.grows channel unit.transfer.dram (width_of (dram core unit.transfer.dram).ty) unit.port (subst (λ n. PortRuns mid channel unit.transfer.dram n unit.port) same runs);
    wires = subst (λ n. PortWires new n unit.port) same (wires_stay mid new o.grows width unit.port (λ net c. o.still_open net (port_is_open mid width unit.port wires net c)) wires);
    awaits = w;
    done = has;
  }
