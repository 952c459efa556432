-- A net is promised for an answer, and then other nets are driven.
use Rattle.std.proofs.Common.{◌≡◌, ℕ, zero, suc, List, [], ◌∷◌, Contains, Option, Some, sym, subst, arith}
use Rattle.sp_netlist.specs.Draft.{Draft}
use Rattle.sp_gates.specs.Grows.{Fills, Opens}
use Rattle.sp_gates.specs.Nets.{IsOpen, Awaits}
use Rattle.sp_gates.proofs.Growing.{Grows-join, more_gates, Awaits-stays}
use Rattle.sp_core.specs.PlainCore.{PlainCore}
use Rattle.sp_circuit_ops.specs.declared.ops.WordNet.{WordNet}
use Rattle.sp_op_nets.proofs.Reserving.{awaits_open}
use Rattle.sp_access_nets.specs.Laws.{net_in}
use Rattle.sp_load_units.specs.declared.unit.TransferUnit.{TransferUnit}
use Rattle.sp_load_units.specs.Units.{unit_wires}
use Rattle.sp_load_units.specs.Walks.{UnitStandsAlone}
use Rattle.sp_load_units.proofs.Standing.{unit_is_open, unit_stays}
use Rattle.sp_lower.specs.StoresParts.{DrivesAndReserves, two_later}

one_in : (x y : ℕ) → Contains (x ∷ []) y → y ≡ x
one_in x y (zero, l, e) = sym e
one_in x y (suc k, l, e) = absurd (omega (arith, l))

module _ (old mid new : Draft) (driven : List ℕ) (found width : ℕ) (o : Opens old mid found) (w : Awaits mid found width) (open_before : (net : ℕ) → Contains driven net → IsOpen old net) (f : Fills mid new driven) where
  not_driven : Contains driven found → ⊥
  not_driven c = let below = (open_before found c).within in let e = o.fresh in absurd (omega (arith, below, e))

  found_open : IsOpen new found
  found_open = f.still_open found (awaits_open mid found width w) not_driven

  pub found_awaits : Awaits new found width
  found_awaits = Awaits-stays mid new found width f.grows found_open w

  drives_found : DrivesAndReserves old new driven (found ∷ [])
  drives_found = record {
    grows = Grows-join old mid new o.grows f.grows;
    rise = ((let e = o.fresh in omega (arith, e)), tt);
    are_open = λ n k. subst (IsOpen new) (sym (one_in found n k)) found_open;
    still_open = λ n is out. f.still_open n (o.still_open n is) out;
    no_other = λ n is out. (let before = f.no_other n is in (o.no_other n before.0 (λ e. out (0, omega arith, sym e)), before.1));
    gates = more_gates old mid new o.gates f.gates;
  }

  pub drives : (answer : Option WordNet) → answer ≡ Some (two_later found) → DrivesAndReserves old new driven (net_in answer)
  drives answer e = subst (λ x. DrivesAndReserves old new driven (net_in x)) (sym e) drives_found

-- the wires of a unit are open, and the unit stands where a net is promised
pub own_open : (old : Draft) (core : PlainCore) (unit : TransferUnit) → UnitStandsAlone old core unit → (net : ℕ) → Contains (unit_wires unit) net → IsOpen old net
own_open old core unit u net c = unit_is_open old core unit.transfer unit u net c

pub unit_later : (old mid : Draft) (core : PlainCore) (unit : TransferUnit) (found : ℕ) → Opens old mid found → UnitStandsAlone old core unit → UnitStandsAlone mid core unit
unit_later old mid core unit found o u = unit_stays old mid core o.grows unit.transfer unit (λ net c. o.still_open net (own_open old core unit u net c)) u
