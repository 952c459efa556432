-- Units that are added one after the other.
use Rattle.std.proofs.Common.{◌≡◌, ℕ, zero, suc, ◌+◌, ◌<◌, ◌≤◌, List, [], ◌∷◌, ◌++◌, length, slice_index_or, count_by, All, Contains, Option, Some, append_assoc, refl, sym, ap, ap₂, subst, ◌∙◌, inl, inr, arith}
use Rattle.std.proofs.lemmas.Grind.{flat_map-append}
use Rattle.std.proofs.lemmas.List.{append-nil, length-append, map-append}
use Rattle.std.proofs.lemmas.List.Elements.{All-nil, All-cons, All-tail, All-append, All-weaker, Contains-append_right, Contains-append_cases}
use Rattle.sp_netlist.specs.Draft.{Draft}
use Rattle.sp_netlist.specs.Rules.{is_unit}
use Rattle.sp_gates.specs.Grows.{Opens}
use Rattle.sp_gates.specs.Nets.{HasNet, Awaits, IsOpen}
use Rattle.sp_gates.proofs.Running.{none_joined}
use Rattle.sp_taps.specs.Wires.{Promises}
use Rattle.sp_taps.proofs.Rows.{none_promised, promises_join}
use Rattle.sp_dram_words.specs.Units.{units_in}
use Rattle.sp_frames.specs.Framed.{AddsUnits, is_no_unit}
use Rattle.sp_words.specs.Types.{width_of}
use Rattle.sp_core.specs.Declarations.{dram}
use Rattle.sp_core.specs.PlainCore.{PlainCore}
use Rattle.sp_op_nets.specs.Reserved.{Rise}
use Rattle.sp_tree_handed.specs.declared.transfers.CoreTransfer.{CoreTransfer}
use Rattle.sp_tree_handed.specs.Moves.{end_at}
use Rattle.sp_load_units.specs.declared.unit.TransferUnit.{TransferUnit}
use Rattle.sp_load_units.specs.declared.walk.Walk.{Walk}
use Rattle.sp_load_units.specs.Ports.{PortRuns, PortWires, direction_of, port_wires}
use Rattle.sp_load_units.specs.Units.{IsTransferOf, unit_wires, unit_wires_in, HaveDone, StoresBehind, stores_to}
use Rattle.sp_load_units.specs.Walks.{CanGo, UnitStandsAlone, Adds}
use Rattle.sp_load_units.proofs.Standing.{one_promised, one_stands, ports_below, unit_stays, unit_is_open}
use Rattle.sp_load_units.proofs.Stores.{one_stores, stores_join}

-- each element of either part of a list, and of the two together
pub all_front : {X : Type 0} (P : X → Type 0) (xs ys : List X) → All P (xs ++ ys) → All P xs
all_front P [] ys h = All-nil P
all_front P (x ∷ xs) ys h = All-cons P x xs (h 0 x (omega arith)) (all_front P xs ys (λ k d l. h (suc k) d (omega (arith, l))))

pub all_back : {X : Type 0} (P : X → Type 0) (xs ys : List X) → All P (xs ++ ys) → All P ys
all_back P [] ys h = h
all_back P (x ∷ xs) ys h = all_back P xs ys (λ k d l. h (suc k) d (omega (arith, l)))

-- numbers that rise, behind others
pub rise_join : (from to : ℕ) (ns ms : List ℕ) → from ≤ to → Rise from ns → ((n : ℕ) → Contains ns n → n < to) → Rise to ms → Rise from (ns ++ ms)
rise_join from to [] [] le r below later = tt
rise_join from to [] (m ∷ ms) le r below later = ((let l = later.0 in omega (arith, le, l)), later.1)
rise_join from to (n ∷ ns) ms le r below later =
    (r.0, rise_join (suc n) to ns ms (let l = below n (0, omega arith, refl) in omega (arith, l)) r.1 (λ m c. below m (Contains-append_right (n ∷ []) ns m c)) later)

-- the nets of a unit rise
unit_rises : (old mid new : Draft) (width : ℕ) (unit : TransferUnit) → Promises old mid (port_wires unit.port) → Rise (length old.promised) (port_wires unit.port) → PortWires mid width unit.port → Opens mid new unit.done → Rise (length old.promised) (unit_wires unit)
unit_rises old mid new width unit p rise wires o =
    rise_join (length old.promised) (length mid.promised) (port_wires unit.port) (unit.done ∷ []) p.longer rise (ports_below mid width unit.port wires) ((let e = o.fresh in omega (arith, e)), tt)

-- cells of units, one part behind the other
no_units_added : (a : Draft) → AddsUnits a a
no_units_added a = record { added = []; stands = sym (append-nil a.cells); all = refl }

more_units : (a b c : Draft) → AddsUnits a b → AddsUnits b c → AddsUnits a c
more_units a b c g h = record {
  added = g.added ++ h.added;
  stands = h.stands ∙ ap (λ xs. xs ++ h.added) g.stands ∙ append_assoc a.cells g.added h.added;
  all = none_joined is_no_unit g.added h.added g.all h.all;
}

-- what a table has it has with more behind
end_kept : (ends more : List (Option ℕ)) (k net : ℕ) → end_at ends k ≡ Some net → end_at (ends ++ more) k ≡ Some net
end_kept [] more k net e = absurd (cc)
end_kept (x ∷ ends) more zero net e = e
end_kept (x ∷ ends) more (suc k) net e = end_kept ends more k net e

pub end_behind : (ends : List (Option ℕ)) (end : Option ℕ) → end_at (ends ++ end ∷ []) (length ends) ≡ end
end_behind [] end = refl
end_behind (x ∷ ends) end = end_behind ends end

done_kept : (ends more after : List (Option ℕ)) (units : List TransferUnit) → after ≡ ends ++ more → HaveDone ends units → HaveDone after units
done_kept ends more after units e h = λ k d l. (let u = slice_index_or units k d in subst (λ es. end_at es u.transfer.node ≡ Some u.done) (sym e) (end_kept ends more u.transfer.node u.done (h k d l)))

-- the nets of units that stand are open
units_open : (d : Draft) (core : PlainCore) (units : List TransferUnit) → All (UnitStandsAlone d core) units → (net : ℕ) → Contains (unit_wires_in units) net → IsOpen d net
units_open d core [] h net (k, l, e) = absurd (omega (arith, l))
units_open d core (unit ∷ units) h net c = elim (Contains-append_cases (unit_wires unit) (unit_wires_in units) net c) [
  | inl own ↦ unit_is_open d core unit.transfer unit (h 0 unit (omega arith)) net own
  | inr later ↦ units_open d core units (All-tail (UnitStandsAlone d core) unit units h) net later
]

module _ (core : PlainCore) (a b : Draft) (nets : List ℕ) (p : Promises a b nets) where
  unit_kept : (unit : TransferUnit) → UnitStandsAlone a core unit → UnitStandsAlone b core unit
  unit_kept unit h = unit_stays a b core p.grows unit.transfer unit (λ net c. p.still_open net (unit_is_open a core unit.transfer unit h net c)) h

-- a walk that passes what isn't a transfer adds none
pub adds_none : (core : PlainCore) (d : Draft) (before after : Walk) (ends : List (Option ℕ)) → after.units.items ≡ before.units.items → after.ends.items ≡ before.ends.items ++ ends → Adds core d before d after []
adds_none core d before after ends same more = record {
  units = [];
  ends = ends;
  units_are = same ∙ sym (append-nil before.units.items);
  ends_are = more;
  transfers_are = refl;
  promises = none_promised d;
  rise = tt;
  stand = All-nil (UnitStandsAlone d core);
  done = All-nil (λ (u : TransferUnit). end_at after.ends.items u.transfer.node ≡ Some u.done);
  cells = no_units_added d;
  stores = λ r. sym (append-nil (units_in r d.cells));
  one_each = omega arith;
}

-- one transfer alone
adds_one : (core : PlainCore) (a b : Draft) (before after : Walk) (transfer : CoreTransfer) (unit : TransferUnit) (n : ℕ) → unit.transfer ≡ transfer → transfer.node ≡ length before.ends.items → after.units.items ≡ before.units.items ++ unit ∷ []
    → after.ends.items ≡ before.ends.items ++ Some unit.done ∷ [] → Promises a b (unit_wires unit) → Rise (length a.promised) (unit_wires unit) → UnitStandsAlone b core unit → AddsUnits a b → StoresBehind a b transfer.dram unit.port → n ≡ count_by is_unit a.cells → count_by is_unit b.cells ≡ n + 1 → Adds core a before b after (transfer ∷ [])
adds_one core a b before after transfer unit n is at units ends promises rise stands cells behind had more = record {
  units = unit ∷ [];
  ends = Some unit.done ∷ [];
  units_are = units;
  ends_are = ends;
  transfers_are = ap (λ l. l ∷ []) is;
  promises = subst (Promises a b) (sym (append-nil (unit_wires unit))) promises;
  rise = subst (Rise (length a.promised)) (sym (append-nil (unit_wires unit))) rise;
  stand = All-cons (UnitStandsAlone b core) unit [] stands (All-nil (UnitStandsAlone b core));
  done = All-cons (λ (u : TransferUnit). end_at after.ends.items u.transfer.node ≡ Some u.done) unit [] there (All-nil (λ (u : TransferUnit). end_at after.ends.items u.transfer.node ≡ Some u.done));
  cells = cells;
  stores = λ r. own r ∙ ap (λ us. units_in r a.cells ++ us) (one_stores r unit);
  one_each = omega (arith, had, more);
}
  where
    own : StoresBehind a b unit.transfer.dram unit.port
    own = subst (λ (t : CoreTransfer). StoresBehind a b t.dram unit.port) (sym is) behind

    there : end_at after.ends.items unit.transfer.node ≡ Some unit.done
    there = ap (λ es. end_at es unit.transfer.node) ends ∙ ap (λ k. end_at (before.ends.items ++ Some unit.done ∷ []) k) (ap (λ (l : CoreTransfer). l.node) is ∙ at) ∙ end_behind before.ends.items (Some unit.done)

-- by its port, and the net that was promised behind it
pub adds_port : (core : PlainCore) (a mid b : Draft) (before after : Walk) (transfer : CoreTransfer) (unit : TransferUnit) (channel width : ℕ) → unit.transfer ≡ transfer → transfer.node ≡ length before.ends.items → after.units.items ≡ before.units.items ++ unit ∷ []
    → after.ends.items ≡ before.ends.items ++ Some unit.done ∷ [] → Promises a mid (port_wires unit.port) → Rise (length a.promised) (port_wires unit.port) → PortWires mid width unit.port → PortRuns mid channel transfer.dram width unit.port → direction_of unit.port ≡ transfer.direction
    → width ≡ width_of (dram core transfer.dram).ty → IsTransferOf core transfer → AddsUnits a mid → StoresBehind a mid transfer.dram unit.port → Opens mid b unit.done → Awaits b unit.done 1 → HasNet b unit.done 1 → b.cells ≡ mid.cells
    → (n : ℕ) → n ≡ count_by is_unit a.cells → count_by is_unit mid.cells ≡ n + 1 → Adds core a before b after (transfer ∷ [])
adds_port core a mid b before after transfer unit channel width is at units ends promises rise wires runs way same of_core cells behind o w has still n had more =
    adds_one core a b before after transfer unit n is at units ends (one_promised mid b unit o w a promises) (unit_rises a mid b width unit promises rise wires o)
    (one_stands mid b unit o w core channel width (same ∙ ap (λ (t : CoreTransfer). width_of (dram core t.dram).ty) (sym is)) (way ∙ ap (λ (t : CoreTransfer). t.direction) (sym is)) (subst (IsTransferOf core) (sym is) of_core)
    (subst (λ (t : CoreTransfer). PortRuns mid channel t.dram width unit.port) (sym is) runs) wires has)
    (record { added = cells.added; stands = still ∙ cells.stands; all = cells.all }) (λ r. ap (units_in r) still ∙ behind r) had (ap (count_by is_unit) still ∙ more)

pub adds_join : (core : PlainCore) (a b c : Draft) (x y z : Walk) (transfers more : List CoreTransfer) → Adds core a x b y transfers → Adds core b y c z more → Adds core a x c z (transfers ++ more)
adds_join core a b c x y z transfers more g h =
    let wires = flat_map-append unit_wires g.units h.units in
    record {
      units = g.units ++ h.units;
      ends = g.ends ++ h.ends;
      units_are = h.units_are ∙ ap (λ us. us ++ h.units) g.units_are ∙ append_assoc x.units.items g.units h.units;
      ends_are = h.ends_are ∙ ap (λ es. es ++ h.ends) g.ends_are ∙ append_assoc x.ends.items g.ends h.ends;
      transfers_are = map-append (λ (unit : TransferUnit). unit.transfer) g.units h.units ∙ ap₂ (λ ls ms. ls ++ ms) g.transfers_are h.transfers_are;
      promises = subst (Promises a c) (sym wires) (promises_join a b c (unit_wires_in g.units) (unit_wires_in h.units) g.promises h.promises);
      rise = subst (Rise (length a.promised)) (sym wires)
          (rise_join (length a.promised) (length b.promised) (unit_wires_in g.units) (unit_wires_in h.units) g.promises.longer g.rise (λ n k. (units_open b core g.units g.stand n k).within) h.rise);
      stand = All-append (UnitStandsAlone c core) g.units h.units (All-weaker (UnitStandsAlone b core) (UnitStandsAlone c core) (unit_kept core b c (unit_wires_in h.units) h.promises) g.units g.stand) h.stand;
      done = All-append (λ (u : TransferUnit). end_at z.ends.items u.transfer.node ≡ Some u.done) g.units h.units (done_kept y.ends.items h.ends z.ends.items g.units h.ends_are g.done) h.done;
      cells = more_units a b c g.cells h.cells;
      stores = λ r. h.stores r ∙ ap (λ us. us ++ stores_to r h.units) (g.stores r) ∙ append_assoc (units_in r a.cells) (stores_to r g.units) (stores_to r h.units) ∙ ap (λ us. units_in r a.cells ++ us) (sym (stores_join r g.units h.units));
      one_each = (let e = g.one_each in let f = h.one_each in let l = length-append g.units h.units in omega (arith, e, f, l));
    }

-- a walk goes on behind what was added
pub goes_on : (core : PlainCore) (a b : Draft) (x y : Walk) (transfers : List CoreTransfer) → CanGo core a x → Adds core a x b y transfers → CanGo core b y
goes_on core a b x y transfers can g = record {
  draft = g.promises.grows.draft can.draft;
  units = (let e = can.units in let f = g.one_each in let l = ap (λ us. length us) g.units_are ∙ length-append x.units.items g.units in omega (arith, e, f, l));
  drams = λ r low. (let was = can.drams r low in let k = g.promises.grows.keeps.drams r was.0 in (k.0, k.1 ∙ was.1));
}
